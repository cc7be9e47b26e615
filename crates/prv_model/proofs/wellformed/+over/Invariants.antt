use Rattle.std.proofs.Common.{◌≡◌, map, drop}
use Rattle.prv_model.specs.Programs.{stmt_over, all_true}
use Rattle.prv_model.proofs.wellformed.+over.Given as goal

-- what is left decides
abbrev pub invariant-all_over-loop-stmt : goal.invariant-all_over-loop-stmt
invariant-all_over-loop-stmt l = all_true (map (λ s. stmt_over l.vars s) (drop l.stmt-index l.all)) ≡ all_true (map (λ s. stmt_over l.vars s) l.all)
