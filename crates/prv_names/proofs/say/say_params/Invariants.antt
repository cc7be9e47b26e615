use Rattle.std.proofs.Common.{◌≡◌, ◌++◌, [], map, drop}
use Rattle.prv_names.specs.Sayings.{joined, declared_by}
use Rattle.prv_names.proofs.say.say_params.Given as goal

-- what is said so far, and what is left, is all
abbrev pub invariant-loop-x : goal.invariant-loop-x
invariant-loop-x l = l.out ++ joined (map (λ x. declared_by x []) (drop l.x-index l.params)) ≡ l.initial.out ++ joined (map (λ x. declared_by x []) l.params)
