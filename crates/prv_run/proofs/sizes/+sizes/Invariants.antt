use Rattle.std.proofs.Common.{◌≡◌, ◌++◌, map, take}
use Rattle.prv_model.specs.Programs.{stmt_count}
use Rattle.prv_model.specs.Numbers.{statements_all}
use Rattle.prv_run.proofs.sizes.+sizes.Given as goal

-- the sizes of the statements so far are added
abbrev pub invariant-push_all-loop-stmt : goal.invariant-push_all-loop-stmt
invariant-push_all-loop-stmt l = l.sizes ≡ l.initial.sizes ++ map (λ s. stmt_count s) (statements_all (take l.stmt-index l.all))
