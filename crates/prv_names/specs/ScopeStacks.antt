-- How a walk over a text keeps what stands at a place: for each open block it keeps how many of the names in scope come from around it.
use Rattle.std.specs.Prelude.{ℕ, ◌≤◌, List, [], ◌∷◌, take, fold}
use Rattle.prv_names.specs.Scopes.{Standing}
use Rattle.prv_names.specs.declared.scopes.Scopes.{Scopes}

-- from counts, the outermost first, to the names around each open block, the innermost first
abbrev pub around_of : List ℕ → List (List ℕ) → List (List (List ℕ))
around_of starts visible = fold (λ outer n. take n visible ∷ outer) [] starts

abbrev pub standing_of : Scopes → Standing
standing_of s = record { declared = s.declared; visible = s.visible; around = around_of s.starts.items s.visible }

-- counts that begin at n or more, never fall, and end at m or less
abbrev pub IsNested : ℕ → List ℕ → ℕ → Type 0
IsNested n [] m = n ≤ m
IsNested n (k ∷ rest) m = (n ≤ k) × IsNested k rest m
