-- Texts that differ.
use Rattle.std.proofs.Common.{◌≡◌, ℕ, List, false}
use Rattle.std.specs.Str.{bytes_eq}
use Rattle.std.proofs.lemmas.Slice.Eq.{bytes_eq-Decides}

-- texts that a comparison tells apart aren't equal
pub apart : {a b : List ℕ} → a ≡ b → bytes_eq a b ≡ false → ⊥
apart {a} {b} e differ = let equal = (bytes_eq-Decides a b).1 e in cc
