use Rattle.std.proofs.Common.{ap, sym, subst, arith}
use Rattle.prv_cnf.specs.Formulas.{Formula, IsLiteral}
use Rattle.prv_gate.specs.Gates.{HoldsOfInputs}
use Rattle.prv_gate.specs.Circuits.{Circuit}
use Rattle.prv_gate.proofs.Tables.{output-value, free_inputs-after}
use Rattle.prv_gate.proofs.builder.Builder.define.Goals as goal

pub remember-requires-clause-value : goal.remember-requires-clause-value
remember-requires-clause-value c =
    let of : Circuit → Formula = λ s. s.formula in
    let Fits : Circuit → Type 0 = λ s. HoldsOfInputs (IsLiteral s.formula.vars) c.args.gate in
    let made = c.add_variable-out.ensures.circuit in
    output-value c.add_variable-out.new.self.formula c.push_gate.new.self.formula c.args.gate c.add_variable-out.result
    (rw (made, c.add_variable-out.ensures.literal) (omega arith, omega arith))
    (subst Fits (sym made) (free_inputs-after c.args.self.now c.args.gate c.requires.inside))
    (ap of c.in_ok-push_gate.ensures)
