use Rattle.std.proofs.Common.{◌≡◌, true, sym, ◌∙◌, arith}
use Rattle.prv_cnf.specs.Literals.{negate}
use Rattle.prv_check.specs.Propagation.{is_false}
use Rattle.prv_propagate.specs.Trails.{trues}
use Rattle.prv_cnf.proofs.Values.{variable-negate}
use Rattle.prv_propagate.proofs.Tabling.{within_parts}
use Rattle.prv_sat.specs.Marking.{is_except}
use Rattle.prv_sat.proofs.Analyzing.{or_second, false_within}
use Rattle.prv_sat.proofs.analysis.mark_other.Goals as goal

pub negated-requires : goal.negated-requires
negated-requires c =
    let t = c.args.trail.now in
    let false_one : is_false (trues t.steps) c.args.lit ≡ true = or_second (is_except c.args.except c.args.lit) (is_false (trues t.steps) c.args.lit) (sym c.is_except.ensures ∙ c.if-is_except.false) c.requires.other in
    let small = within_parts t.vars (negate c.args.lit) (false_within t c.args.lit c.steps.ensures.assigned false_one) in
    omega (arith, small, variable-negate c.args.lit, c.steps.ensures.small)

pub mark-requires : goal.mark-requires
mark-requires c =
    let t = c.args.trail.now in
    let false_one : is_false (trues t.steps) c.args.lit ≡ true = or_second (is_except c.args.except c.args.lit) (is_false (trues t.steps) c.args.lit) (sym c.is_except.ensures ∙ c.if-is_except.false) c.requires.other in
    rw (c.requires.vars, c.negated.ensures) (false_within t c.args.lit c.steps.ensures.assigned false_one)
