use Rattle.std.proofs.Common.{◌≡◌, [], length}
use Rattle.prv_check.specs.BadLines.{IsDerived, AreGood}
use Rattle.prv_check.proofs.refutation.first_underived.Given as goal

abbrev pub invariant-loop-at : goal.invariant-loop-at
invariant-loop-at l = record {
  good : AreGood (IsDerived l.cnf) l.lines l.at;
  clean : l.assignment.trail ≡ [];
  vars : l.assignment.vars ≡ l.fn.assignment.vars;
  room : l.assignment.room ≡ l.fn.assignment.room;
  named : length l.named ≡ length l.fn.named;
}
