use Rattle.std.proofs.Common.{◌≡◌, ◌<◌, ℕ, false, length, ap, ◌∙◌, arith}
use Rattle.std.specs.Prelude.{slice_index_or}
use Rattle.prv_cnf.specs.declared.literal.Lit.{Lit}
use Rattle.prv_cnf.specs.Literals.{negate, has_literal}
use Rattle.prv_cnf.specs.Places.{place_of}
use Rattle.prv_cnf.proofs.Values.{negate-negate}
use Rattle.prv_check.specs.Inner.Assigned.{Assigned}
use Rattle.prv_check.proofs.assignment.Assignment.makes_true.Goals as goal

pub returns : goal.returns
returns c =
    let vars : c.self.inside.vars ≡ c.args.self.now.vars = ap (λ (m : Assigned). m.vars) c.self.view_is in
    let inside : place_of (negate c.args.lit) < length c.self.inside.falses = omega (arith, c.negated_place.ensures.value, c.negated_place.ensures.by_variable, c.self.invariant.1, c.requires) in
    c.has.ensures
    ∙ ap (λ (k : ℕ). slice_index_or c.self.inside.falses k false) c.negated_place.ensures.value
    ∙ c.self.invariant.0 (negate c.args.lit) inside
    ∙ ap (λ (l : Lit). has_literal c.self.inside.trail.items l) (negate-negate c.args.lit)
    ∙ ap (λ (m : Assigned). has_literal m.trail c.args.lit) c.self.view_is
