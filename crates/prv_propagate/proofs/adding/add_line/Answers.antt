use Rattle.std.proofs.Common.{◌≡◌, ℕ, ◌-◌, ◌<◌, ◌≤◌, [], ◌∷◌, ◌++◌, length, ap, inl, inr, arith}
use Rattle.std.proofs.lemmas.Bool.{cases_lt}
use Rattle.prv_cnf.specs.declared.literal.Lit.{Lit}
use Rattle.prv_cnf.specs.Literals.{variable, negate}
use Rattle.prv_cnf.proofs.Values.{all-has_literal}
use Rattle.prv_check.specs.Lines.{known, is_within}
use Rattle.prv_propagate.specs.declared.watches.Pair.{Pair}
use Rattle.prv_propagate.specs.Trails.{Trailing, step_at, IsAssignment}
use Rattle.prv_propagate.specs.Watching.{attached}
use Rattle.prv_propagate.specs.Soundness.{IsSound, ArePropagated}
use Rattle.prv_cnf.proofs.Values.{variable-negate}
use Rattle.prv_propagate.proofs.Tabling.{within_at, within_parts}
use Rattle.prv_propagate.proofs.Walking.{list_inside}
use Rattle.prv_propagate.proofs.Attaching.{line_added, known_push}
use Rattle.prv_propagate.proofs.adding.add_line.Goals as goal

pub imply-requires-clause-within : goal.imply-requires-clause-within
imply-requires-clause-within c = all-has_literal (is_within c.args.trail.now.vars) c.args.line.now.clause c.args.lit c.requires.within c.requires.asserting.has

pub attach-requires-clause-first : goal.attach-requires-clause-first
attach-requires-clause-first c =
    let t = c.args.trail.now in
    list_inside c.requires.sound c.args.lit (within_parts t.vars c.args.lit (all-has_literal (is_within t.vars) c.args.line.now.clause c.args.lit c.requires.within c.requires.asserting.has)).1

second_small : (t : Trailing) (lit second : Lit) (keep : ℕ) → IsAssignment t → variable lit ≤ t.vars → keep ≤ length t.steps → (keep ≡ 0 → second ≡ lit) → (0 < keep → second ≡ negate (step_at t.steps (keep - 1)).lit) → variable second ≤ t.vars
second_small t lit second keep assigned small inside none some =
    elim (cases_lt 0 keep) [
      | inr zero ↦ omega (arith, small, ap variable (none (omega arith)))
      | inl more ↦
          let u = (step_at t.steps (keep - 1)).lit in
          omega (arith, ap variable (some more), variable-negate u, within_parts t.vars u (within_at t.vars t.steps (keep - 1) assigned.within (omega arith)))
    ]

pub attach-requires-clause-second : goal.attach-requires-clause-second
attach-requires-clause-second c =
    let t = c.args.trail.now in
    let small = (within_parts t.vars c.args.lit (all-has_literal (is_within t.vars) c.args.line.now.clause c.args.lit c.requires.within c.requires.asserting.has)).1 in
    list_inside c.requires.sound c.second_of-second.result (second_small t c.args.lit c.second_of-second.result c.args.keep c.second_of-second.ensures.assigned small c.requires.asserting.inside c.second_of-second.ensures.none c.second_of-second.ensures.some)

both : (c : goal.After-imply) → IsSound (known c.args.cnf.now (c.args.lines.now ++ c.args.line.now ∷ [])) c.imply.new.self c.attach.new.self × ArePropagated (known c.args.cnf.now (c.args.lines.now ++ c.args.line.now ∷ [])) c.attach.new.self.pairs c.imply.new.self.steps (length c.args.trail.now.steps)
both c =
    let cs = known c.args.cnf.now c.args.lines.now in
    let t = c.args.trail.now in
    let w = c.args.watches.now in
    let second = c.second_of-second.result in
    let n = c.known_count-number.result in
    let p : Pair = record { first = c.args.lit; second = second } in
    let small = (within_parts t.vars c.args.lit (all-has_literal (is_within t.vars) c.args.line.now.clause c.args.lit c.requires.within c.requires.asserting.has)).1 in
    let first_place = list_inside c.requires.sound c.args.lit small in
    let second_place = list_inside c.requires.sound second (second_small t c.args.lit second c.args.keep c.second_of-second.ensures.assigned small c.requires.asserting.inside c.second_of-second.ensures.none c.second_of-second.ensures.some) in
    let new : c.attach.new.self ≡ attached w n p = c.in_ok-attach.ensures in
    rw (known_push c.args.cnf.now c.args.lines.now c.args.line.now, c.imply.ensures, new)
    (line_added cs c.args.line.now.clause t w c.args.lit second c.args.keep n c.requires.sound c.requires.propagated c.requires.few c.requires.within c.requires.not_false c.requires.not_true c.requires.asserting (c.second_of-second.ensures.none, c.second_of-second.ensures.some) c.second_of-second.ensures.assigned c.known_count-number.ensures first_place second_place)

pub returns-clause-sound : goal.returns-clause-sound
returns-clause-sound c = (both c).0

pub returns-clause-propagated : goal.returns-clause-propagated
returns-clause-propagated c = (both c).1
