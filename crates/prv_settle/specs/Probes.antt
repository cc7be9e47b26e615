-- The inputs that are tried before the solver is asked.
use Rattle.std.specs.Prelude.{ℕ, List, [], ◌∷◌, ℤ, pos, negsuc, Option, replicate, map, find}
use Rattle.prv_model.specs.Terms.{holds}
use Rattle.prv_model.specs.declared.term.Term.{Term}

-- the words that they are made of: 0, 1, -1, the greatest and the least
abbrev pub probe_words : List ℤ
probe_words = pos 0 ∷ pos 1 ∷ negsuc 0 ∷ pos 2147483647 ∷ negsuc 2147483647 ∷ []

-- the inputs of n words that are all one of these
abbrev pub probes : ℕ → List (List ℤ)
probes n = map (λ word. replicate n word) probe_words

-- the first of them that a region holds
abbrev pub first_probe : ℕ → List Term → Option (List ℤ)
first_probe n region = find (holds region) (probes n)
