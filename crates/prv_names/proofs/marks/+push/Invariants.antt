use Rattle.std.proofs.Common.{◌≡◌, ◌++◌, map, drop}
use Rattle.prv_names.specs.Versions.{in_order, marks}
use Rattle.prv_names.proofs.marks.+push.Given as goal

-- the marks so far, and those that are left, are all
abbrev pub invariant-push_all-loop-stmt : goal.invariant-push_all-loop-stmt
invariant-push_all-loop-stmt l = l.out ++ in_order (map (λ s. marks s) (drop l.stmt-index l.all)) l.inside ≡ l.initial.out ++ in_order (map (λ s. marks s) l.all) l.inside
