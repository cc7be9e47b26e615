use Rattle.std.proofs.Common.{◌≡◌, ◌++◌, map, drop}
use Rattle.prv_names.specs.Sayings.{joined, said}
use Rattle.prv_names.proofs.say.+say.Given as goal

-- what is said so far, and what is left, is all
abbrev pub invariant-say_all-loop-stmt : goal.invariant-say_all-loop-stmt
invariant-say_all-loop-stmt l = l.out ++ joined (map (λ s. said s) (drop l.stmt-index l.all)) ≡ l.initial.out ++ joined (map (λ s. said s) l.all)
