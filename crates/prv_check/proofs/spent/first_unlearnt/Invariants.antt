use Rattle.std.proofs.Common.{take}
use Rattle.prv_check.specs.Spending.{IsLearnt}
use Rattle.prv_check.specs.BadLines.{AreGood}
use Rattle.prv_check.specs.Inner.Testing.{AreReady, HaveSameRoom}
use Rattle.prv_check.proofs.spent.first_unlearnt.Given as goal

abbrev pub invariant-loop-at : goal.invariant-loop-at
invariant-loop-at l = record {
  good : AreGood (IsLearnt l.cnf) l.lines l.at;
  ready : AreReady l.cnf (take l.at l.lines) l.tests;
  same : HaveSameRoom l.fn.tests l.tests;
}
