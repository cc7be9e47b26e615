use Rattle.std.proofs.Common.{◌≤◌, ◌+◌, ◌&&◌, arith}
use Rattle.prv_gate.specs.Bits.{IsBit, bit_value}
use Rattle.prv_gate.specs.Folding.{and_gate}
use Rattle.prv_gate.specs.Growth.{Gives}
use Rattle.prv_gate.proofs.Composing.{of_run, of_circuit}
use Rattle.prv_gate.proofs.Laws.{and_gate-gives, and_gate-vars}
use Rattle.prv_gate.proofs.builder.Builder.and.Goals as goal

pub returns-clause-run : goal.returns-clause-run
unfolding and_gate
returns-clause-run c = rw (c.known-a.ensures.value, c.known-b.ensures.value) at c.and_bits.ensures.run

pub returns-clause-gives : goal.returns-clause-gives
returns-clause-gives c =
    of_run (λ r. Gives IsBit bit_value 3 c.args.self.now r (λ v. bit_value v c.args.a && bit_value v c.args.b)) _ _ _ (returns-clause-run c)
    (and_gate-gives c.args.a c.args.b c.args.self.now c.known-a.ensures.circuit c.requires.first c.requires.second (omega arith))

pub returns-clause-variables : goal.returns-clause-variables
returns-clause-variables c =
    of_circuit (λ s. s.formula.vars ≤ c.args.self.now.formula.vars + 1) _ _ _ (returns-clause-run c)
    (and_gate-vars c.args.a c.args.b c.args.self.now c.known-a.ensures.circuit c.requires.first c.requires.second (omega arith))
