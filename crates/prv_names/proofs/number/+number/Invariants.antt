use Rattle.std.proofs.Common.{◌≡◌, ◌+◌, ◌++◌, true, length, map, sum, drop}
use Rattle.prv_model.specs.Programs.{stmt_over, all_true, stmt_count}
use Rattle.prv_parse.specs.Trees.{stmt_count as tree_count}
use Rattle.prv_names.specs.Versions.{numbered}
use Rattle.prv_names.proofs.number.+number.Given as goal

abbrev pub invariant-number_all-loop-stmt : goal.invariant-number_all-loop-stmt
invariant-number_all-loop-stmt l = record {
  number : l.body ++ map (λ s. numbered l.names s) (drop l.stmt-index l.all) ≡ map (λ s. numbered l.names s) l.all;
  below : all_true (map (λ s. stmt_over (length l.names) s) l.body) ≡ true;
  count : sum (map (λ s. stmt_count s) l.body) + sum (map (λ s. tree_count s) (drop l.stmt-index l.all)) ≡ sum (map (λ s. tree_count s) l.all);
}
