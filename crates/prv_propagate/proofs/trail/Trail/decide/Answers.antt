use Rattle.std.proofs.Common.{◌≡◌, ℕ, ◌∷◌, ◌++◌, [], length, true, false, sym, ap, subst, ◌∙◌, refl, arith}
use Rattle.prv_cnf.specs.Literals.{has_literal}
use Rattle.prv_check.specs.Lines.{is_within}
use Rattle.prv_check.specs.Propagation.{is_false}
use Rattle.prv_propagate.specs.declared.trail.Step.{Step}
use Rattle.prv_propagate.specs.declared.trail.TheConstants.{NO_REASON}
use Rattle.prv_propagate.specs.Trails.{Trailing, trues}
use Rattle.prv_propagate.specs.Keeping.{IsLeveled}
use Rattle.prv_propagate.proofs.Tabling.{trail_next, room_left, leveled_decision}
use Rattle.prv_propagate.proofs.trail.Trail.decide.Goals as goal

pub unwrap-requires : goal.unwrap-requires
unwrap-requires c =
    let within : is_within c.self.inside.vars c.args.lit ≡ true = subst (λ (t : Trailing). is_within t.vars c.args.lit ≡ true) (sym c.self.view_is) c.requires.within in
    let not_true : has_literal (trues c.self.inside.steps.items) c.args.lit ≡ false = subst (λ (t : Trailing). has_literal (trues t.steps) c.args.lit ≡ false) (sym c.self.view_is) c.requires.not_true in
    let room = room_left c.self.invariant.0 c.args.lit within not_true in
    c.push-2.ensures.succeeds (omega (arith, room, c.self.invariant.1))

pub invariant_of-self-2 : goal.invariant_of-self-2
invariant_of-self-2 c =
    let s : Step = record { lit = c.args.lit; reason = NO_REASON } in
    let within : is_within c.self.inside.vars c.args.lit ≡ true = subst (λ (t : Trailing). is_within t.vars c.args.lit ≡ true) (sym c.self.view_is) c.requires.within in
    let not_true : has_literal (trues c.self.inside.steps.items) c.args.lit ≡ false = subst (λ (t : Trailing). has_literal (trues t.steps) c.args.lit ≡ false) (sym c.self.view_is) c.requires.not_true in
    let not_false : is_false (trues c.self.inside.steps.items) c.args.lit ≡ false = subst (λ (t : Trailing). is_false (trues t.steps) c.args.lit ≡ false) (sym c.self.view_is) c.requires.not_false in
    let after : c.push-2.new.self.items ≡ c.self.inside.steps.items ++ s ∷ [] = rw c.unwrap.ensures at c.push-2.ensures.items in
    let len : c.len.result ≡ length c.self.inside.steps.items = omega arith in
    let more : c.push.new.self.items ≡ c.self.inside.limits.items ++ length c.self.inside.steps.items ∷ [] = c.in_ok-push.ensures.items ∙ ap (λ (m : ℕ). c.self.inside.limits.items ++ m ∷ []) len in
    let leveled : IsLeveled (c.self.inside.steps.items ++ s ∷ []) c.push.new.self.items = rw more (leveled_decision c.self.inside.steps.items c.self.inside.limits.items s c.self.invariant.0.leveled refl) in (
      trail_next c.self.invariant.0 s c.push.new.self.items c.place.result c.variable.result c.len-2.result c.push-2.new.self.items
          c.place.ensures.value c.variable.ensures.value (omega arith) after within not_true not_false leveled,
      omega arith,
    )
