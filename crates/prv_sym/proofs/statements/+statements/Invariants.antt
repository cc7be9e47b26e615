use Rattle.std.proofs.Common.{◌≡◌, ◌++◌, map, take}
use Rattle.prv_model.specs.Numbers.{statements_all}
use Rattle.prv_sym.specs.Walks.{own, row_of}
use Rattle.prv_sym.proofs.statements.+statements.Given as goal

-- the rows of the statements so far are added
abbrev pub invariant-push_all-loop-stmt : goal.invariant-push_all-loop-stmt
invariant-push_all-loop-stmt l = map row_of l.rows ≡ map row_of l.initial.rows ++ map (λ s. own s) (statements_all (take l.stmt-index l.all))
