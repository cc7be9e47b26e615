use Rattle.std.proofs.Common.{◌≡◌, ◌+◌, ◌*◌, ◌≤◌, length, take, drop, []}
use Rattle.prv_arith.specs.Lists.{AllBits, IsReady}
use Rattle.prv_arith.specs.Quotients.{divided_on}
use Rattle.prv_arith.proofs.quotients.divide.Given as goal

abbrev pub invariant-loop-i : goal.invariant-loop-i
invariant-loop-i l = record {
  run : divided_on l.divisor (take l.i l.quotient) (take l.width l.rest) (drop l.i l.dividend) l.builder ≡ divided_on l.divisor [] [] l.dividend l.initial.builder;
  left : l.width ≤ length l.divisor;
  bits : AllBits l.builder.formula.vars (take l.width l.rest);
  ready : IsReady (length (drop l.i l.dividend) * (18 * length l.divisor + 9)) l.builder l.divisor (drop l.i l.dividend);
}
