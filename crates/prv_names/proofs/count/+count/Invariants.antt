use Rattle.std.proofs.Common.{◌≡◌, ◌+◌, drop}
use Rattle.prv_parse.specs.Trees.{body_count}
use Rattle.prv_names.proofs.count.+count.Given as goal

-- the count so far, and that of what is left, is the whole count
abbrev pub invariant-count_all-loop-stmt : goal.invariant-count_all-loop-stmt
invariant-count_all-loop-stmt l = l.total + body_count (drop l.stmt-index l.all) ≡ body_count l.all
