-- From which entry an entry comes.
use Rattle.std.specs.Prelude.{ℕ, zero, suc, List, [], ◌∷◌, ◌++◌, length, Option, Some, None, option_and_then, slice_get}
use Rattle.prv_part.specs.Settlements.{Finding}
use Rattle.prv_board.specs.declared.parent.Parent.{Parent}

-- the parts of the settlement of an entry, from one part on
abbrev pub parts_of_entry : ℕ → ℕ → ℕ → List (Option Parent)
parts_of_entry entry part zero = []
parts_of_entry entry part (suc count) = Some (record { entry = entry; part = part }) ∷ parts_of_entry entry (suc part) count

-- where the parts of some settlements come from, in the order of their numbers
abbrev pub parents_from : List Finding → List (Option Parent)
parents_from [] = []
parents_from (s ∷ rest) = parts_of_entry s.entry 0 (length s.parts) ++ parents_from rest

-- where the entry of a number comes from: none for the first entry, which is the space, and for numbers that no entry has had
abbrev pub parent_of : List Finding → ℕ → Option Parent
parent_of history n = option_and_then (λ p. p) (slice_get (None ∷ parents_from history) n)
