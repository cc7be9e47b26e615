use Rattle.std.proofs.Common.{◌≡◌, take}
use Rattle.prv_check.specs.Inner.Indexing.{IsIndex}
use Rattle.prv_check.proofs.containment.index_of.Given as goal

abbrev pub invariant-loop-number : goal.invariant-loop-number
invariant-loop-number l = IsIndex (take l.number l.cnf.clauses) l.index × (l.index.occurs ≡ l.fn.occurs)
