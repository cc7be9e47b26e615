use Rattle.std.proofs.Common.{◌≡◌, drop, ◌++◌, List, option_map}
use Rattle.prv_cnf.specs.declared.literal.Lit.{Lit}
use Rattle.prv_gate.specs.Assertions.{clause_of}
use Rattle.prv_gate.proofs.builder.Builder.clause_of.Given as goal

abbrev pub invariant-loop-bit : goal.invariant-loop-bit
invariant-loop-bit l = clause_of l.self.known l.bits ≡ option_map (λ (rest : List Lit). l.lits.items ++ rest) (clause_of l.self.known (drop l.bit-index l.bits))
