use Rattle.std.proofs.Common.{◌≡◌, ◌*◌, length, drop}
use Rattle.prv_arith.specs.Pairs.{some}
use Rattle.prv_arith.specs.Lists.{IsReady}
use Rattle.prv_gate.specs.Bits.{IsBit}
use Rattle.prv_arith.proofs.pairs.some.Given as goal

abbrev pub invariant-loop-bit : goal.invariant-loop-bit
invariant-loop-bit l = record {
  run : some l.found (drop l.bit-index l.bits) l.builder ≡ some l.fn.c l.bits l.initial.builder;
  found : IsBit l.builder.formula.vars l.found;
  ready : IsReady (3 * length (drop l.bit-index l.bits)) l.builder (drop l.bit-index l.bits) (drop l.bit-index l.bits);
}
