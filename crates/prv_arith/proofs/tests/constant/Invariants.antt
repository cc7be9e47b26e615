use Rattle.std.proofs.Common.{ℕ}
use Rattle.prv_arith.specs.Lists.{AllBits}
use Rattle.prv_arith.proofs.tests.constant.Given as goal

abbrev pub invariant-loop-i : goal.invariant-loop-i
invariant-loop-i l = (n : ℕ) → AllBits n l.bits
