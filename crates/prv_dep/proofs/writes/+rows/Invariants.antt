use Rattle.std.proofs.Common.{◌≡◌, ◌++◌, map, take}
use Rattle.std.specs.List.{list_any, flat_map}
use Rattle.prv_model.specs.Numbers.{statements_all}
use Rattle.prv_dep.specs.Dependences.{writes, may_leave}
use Rattle.prv_dep.specs.Tables.{mask, row}
use Rattle.prv_dep.proofs.writes.+rows.Given as goal

-- the statements so far: what they may write, whether one may leave, and their rows
abbrev pub invariant-push_all-loop-stmt : goal.invariant-push_all-loop-stmt
invariant-push_all-loop-stmt l = record {
  writes : l.writes ≡ mask (flat_map (λ each. each) (map (λ s. writes s) (take l.stmt-index l.all)));
  leaves : l.leaves ≡ list_any (λ b. b) (map (λ s. may_leave s) (take l.stmt-index l.all));
  rows : l.rows ≡ l.initial.rows ++ map (λ s. row s) (statements_all (take l.stmt-index l.all));
}
