use Rattle.std.proofs.Common.{◌≡◌, ℕ, ◌<◌, ◌≤◌, [], ◌∷◌, ◌++◌, length, true, false, sym, ap, subst, refl, arith}
use Rattle.prv_cnf.specs.declared.literal.Lit.{Lit}
use Rattle.prv_cnf.specs.Literals.{variable, same_literal, has_literal}
use Rattle.prv_cnf.proofs.Values.{all-has_literal}
use Rattle.prv_check.specs.Propagation.{is_false}
use Rattle.prv_check.specs.Lines.{known, is_within}
use Rattle.prv_cnf.specs.Places.{place_of}
use Rattle.prv_propagate.specs.Trails.{Trailing, trues, step_at, IsAssignment}
use Rattle.prv_propagate.specs.Reasons.{clause_of, are_others_false}
use Rattle.prv_propagate.specs.Guards.{pair_of}
use Rattle.prv_propagate.specs.Watching.{watches_of, watch_at, rewatched}
use Rattle.prv_propagate.specs.Soundness.{IsOther}
use Rattle.prv_propagate.specs.Walking.{IsWalk, false_by}
use Rattle.prv_cnf.proofs.Values.{variable-negate}
use Rattle.prv_propagate.proofs.Tabling.{within_at, within_parts}
use Rattle.prv_propagate.proofs.Guarding.{other_in}
use Rattle.prv_propagate.proofs.Walking.{walk_stale, walk_blocked, walk_free, walk_unit, list_inside, entry_at}
use Rattle.prv_propagate.proofs.walk.visit.Goals as goal

pub negated-lit-requires : goal.negated-lit-requires
negated-lit-requires c =
    let t = c.args.trail.now in
    rw c.steps.ensures.value (omega (arith, c.steps.ensures.small, within_parts t.vars (step_at t.steps c.args.from).lit (within_at t.vars t.steps c.args.from c.steps.ensures.assigned.within c.requires.inside)))

pub rewatch-requires-clause-first : goal.rewatch-requires-clause-first
rewatch-requires-clause-first c =
    let cs = known c.args.cnf.now c.args.lines.now in
    let t = c.args.trail.now in
    let w = c.args.watches.now in
    let k0 = (watch_at (watches_of w c.negated-lit.result) c.args.at).clause in
    let e : c.negated-lit.result ≡ false_by t.steps c.args.from = rw c.steps.ensures.value at c.negated-lit.ensures in
    let inside : k0 < length cs = subst (λ (l : Lit). (watch_at (watches_of w l) c.args.at).clause < length cs) (sym e) (entry_at cs c.args.from t w c.args.at c.requires) in
    let stands : has_literal (clause_of cs k0) c.in-Free.pair.first ≡ true = rw (c.clause_at-lits.ensures, c.list.ensures) at c.in-Free.ensures.1 in
    list_inside c.requires.sound c.in-Free.pair.first (within_parts t.vars c.in-Free.pair.first (all-has_literal (is_within t.vars) (clause_of cs k0) c.in-Free.pair.first (c.requires.sound.within k0 inside) stands)).1

pub imply-requires-clause-within : goal.imply-requires-clause-within
imply-requires-clause-within c =
    let cs = known c.args.cnf.now c.args.lines.now in
    let t = c.args.trail.now in
    let w = c.args.watches.now in
    let k0 = (watch_at (watches_of w c.negated-lit.result) c.args.at).clause in
    let e : c.negated-lit.result ≡ false_by t.steps c.args.from = rw c.steps.ensures.value at c.negated-lit.ensures in
    let inside : k0 < length cs = subst (λ (l : Lit). (watch_at (watches_of w l) c.args.at).clause < length cs) (sym e) (entry_at cs c.args.from t w c.args.at c.requires) in
    let pair : c.pair.result ≡ pair_of w.pairs k0 = rw c.list.ensures at c.pair.ensures in
    let which : IsOther (pair_of w.pairs k0) c.negated-lit.result c.in-Unit.other = rw pair at c.in-Unit.ensures.0 in
    all-has_literal (is_within t.vars) (clause_of cs k0) c.in-Unit.other (c.requires.sound.within k0 inside) (other_in (clause_of cs k0) (pair_of w.pairs k0) c.negated-lit.result c.in-Unit.other (c.requires.sound.watched.pairs k0 inside) which)

-- the literal that is false by a step is of a variable
small_variable : (t : Trailing) (from : ℕ) (l : Lit) → l ≡ false_by t.steps from → IsAssignment t → from < length t.steps → variable l ≤ t.vars
small_variable t from l e assigned inside =
    let u = (step_at t.steps from).lit in
    let small = within_parts t.vars u (within_at t.vars t.steps from assigned.within inside) in
    omega (arith, small, ap variable e, variable-negate u)

stale_walk : (c : goal.After-remove) → IsWalk (known c.args.cnf.now c.args.lines.now) c.args.from c.args.trail.now c.remove.new.self c.args.at
stale_walk c =
    let cs = known c.args.cnf.now c.args.lines.now in
    let t = c.args.trail.now in
    let w = c.args.watches.now in
    let l = c.negated-lit.result in
    let k0 = (watch_at (watches_of w l) c.args.at).clause in
    let e : l ≡ false_by t.steps c.args.from = rw c.steps.ensures.value at c.negated-lit.ensures in
    let inside : place_of l < length w.lists = list_inside c.requires.sound l (small_variable t c.args.from l e c.steps.ensures.assigned c.requires.inside) in
    let pair : c.pair.result ≡ pair_of w.pairs k0 = rw c.list.ensures at c.pair.ensures in
    let found : (same_literal (pair_of w.pairs k0).first l ≡ false) × (same_literal (pair_of w.pairs k0).second l ≡ false) = rw (c.in-Stale.is, pair) at c.look.ensures in
    rw c.remove.ensures (walk_stale cs c.args.from t w c.args.at l c.requires e inside found.0 found.1)

pub returns-in-Stale-clause-walk : goal.returns-in-Stale-clause-walk
returns-in-Stale-clause-walk c = stale_walk c

pub returns-in-Stale-clause-sound : goal.returns-in-Stale-clause-sound
returns-in-Stale-clause-sound c = (stale_walk c).sound

satisfied_walk : (c : goal.After-set_blocker) → IsWalk (known c.args.cnf.now c.args.lines.now) c.args.from c.args.trail.now c.set_blocker.new.self c.args.at
satisfied_walk c =
    let cs = known c.args.cnf.now c.args.lines.now in
    let t = c.args.trail.now in
    let w = c.args.watches.now in
    let l = c.negated-lit.result in
    let k0 = (watch_at (watches_of w l) c.args.at).clause in
    let e : l ≡ false_by t.steps c.args.from = rw c.steps.ensures.value at c.negated-lit.ensures in
    let inside : place_of l < length w.lists = list_inside c.requires.sound l (small_variable t c.args.from l e c.steps.ensures.assigned c.requires.inside) in
    let pair : c.pair.result ≡ pair_of w.pairs k0 = rw c.list.ensures at c.pair.ensures in
    let found : IsOther (pair_of w.pairs k0) l c.in-Satisfied.other × (has_literal (trues t.steps) c.in-Satisfied.other ≡ true) = rw (c.in-Satisfied.is, pair) at c.look.ensures in
    rw c.set_blocker.ensures (walk_blocked cs c.args.from t w c.args.at l c.in-Satisfied.other c.requires e inside found.0 found.1)

pub returns-in-Satisfied-clause-walk : goal.returns-in-Satisfied-clause-walk
returns-in-Satisfied-clause-walk c = satisfied_walk c

pub returns-in-Satisfied-clause-sound : goal.returns-in-Satisfied-clause-sound
returns-in-Satisfied-clause-sound c = (satisfied_walk c).sound

free_walk : (c : goal.In_ok-rewatch-in-Free) → IsWalk (known c.args.cnf.now c.args.lines.now) c.args.from c.args.trail.now c.rewatch.new.self c.args.at
free_walk c =
    let cs = known c.args.cnf.now c.args.lines.now in
    let t = c.args.trail.now in
    let w = c.args.watches.now in
    let l = c.negated-lit.result in
    let k0 = (watch_at (watches_of w l) c.args.at).clause in
    let e : l ≡ false_by t.steps c.args.from = rw c.steps.ensures.value at c.negated-lit.ensures in
    let inside : place_of l < length w.lists = list_inside c.requires.sound l (small_variable t c.args.from l e c.steps.ensures.assigned c.requires.inside) in
    let pair : c.pair.result ≡ pair_of w.pairs k0 = rw c.list.ensures at c.pair.ensures in
    let q = c.in-Free.pair in
    let found : IsOther (pair_of w.pairs k0) l q.second × (has_literal c.clause_at-lits.result.now q.first ≡ true) × (is_false (trues t.steps) q.first ≡ false) × (same_literal q.first q.second ≡ false) = rw (c.in-Free.is, pair) at c.look.ensures in
    let stands : has_literal (clause_of cs k0) q.first ≡ true = rw (c.clause_at-lits.ensures, c.list.ensures) at found.1 in
    let known0 : k0 < length cs = subst (λ (x : Lit). (watch_at (watches_of w x) c.args.at).clause < length cs) (sym e) (entry_at cs c.args.from t w c.args.at c.requires) in
    let first : place_of q.first < length w.lists = list_inside c.requires.sound q.first (within_parts t.vars q.first (all-has_literal (is_within t.vars) (clause_of cs k0) q.first (c.requires.sound.within k0 known0) stands)).1 in
    let new : c.rewatch.new.self ≡ rewatched w l c.args.at k0 q = rw c.list.ensures at c.in_ok-rewatch-in-Free.ensures in
    rw new (walk_free cs c.args.from t w c.args.at l q c.requires e inside first found.0 stands found.2 found.3)

pub returns-in_ok-rewatch-in-Free-clause-walk : goal.returns-in_ok-rewatch-in-Free-clause-walk
returns-in_ok-rewatch-in-Free-clause-walk c = free_walk c

pub returns-in_ok-rewatch-in-Free-clause-sound : goal.returns-in_ok-rewatch-in-Free-clause-sound
returns-in_ok-rewatch-in-Free-clause-sound c = (free_walk c).sound

unit_walk : (c : goal.After-imply) → IsWalk (known c.args.cnf.now c.args.lines.now) c.args.from c.imply.new.self c.args.watches.now c.args.at
unit_walk c =
    let cs = known c.args.cnf.now c.args.lines.now in
    let t = c.args.trail.now in
    let w = c.args.watches.now in
    let l = c.negated-lit.result in
    let k0 = (watch_at (watches_of w l) c.args.at).clause in
    let e : l ≡ false_by t.steps c.args.from = rw c.steps.ensures.value at c.negated-lit.ensures in
    let inside : place_of l < length w.lists = list_inside c.requires.sound l (small_variable t c.args.from l e c.steps.ensures.assigned c.requires.inside) in
    let pair : c.pair.result ≡ pair_of w.pairs k0 = rw c.list.ensures at c.pair.ensures in
    let other = c.in-Unit.other in
    let found : IsOther (pair_of w.pairs k0) l other × (are_others_false (trues t.steps) c.clause_at-lits.result.now other ≡ true) × (has_literal (trues t.steps) other ≡ false) × (is_false (trues t.steps) other ≡ false) = rw (c.in-Unit.is, pair) at c.look.ensures in
    let others : are_others_false (trues t.steps) (clause_of cs k0) other ≡ true = rw (c.clause_at-lits.ensures, c.list.ensures) at found.1 in
    let new : c.imply.new.self ≡ record t { steps = t.steps ++ record { lit = other; reason = k0 } ∷ [] } = rw c.list.ensures at c.imply.ensures in
    rw new (walk_unit cs c.args.from t w c.args.at l other k0 c.requires e refl found.0 others)

pub returns-in-Unit-clause-walk : goal.returns-in-Unit-clause-walk
returns-in-Unit-clause-walk c = unit_walk c

pub returns-in-Unit-clause-sound : goal.returns-in-Unit-clause-sound
returns-in-Unit-clause-sound c = (unit_walk c).sound
