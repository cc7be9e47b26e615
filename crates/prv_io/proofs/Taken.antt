-- What a sink has taken, piece by piece.
use Rattle.std.proofs.Common.{◌≡◌, ℕ, ◌+◌, List, ◌++◌, take, drop, Option, None, Some, refl, ap, sym, ◌∙◌, append_assoc}
use Rattle.std.proofs.Math.Seq.{take-add}
use Rattle.std.specs.Io.KnownBytes.{append_known}

-- the first i bytes, and then n of the rest, are the first i + n
pub append_known-take : (known : Option (List ℕ)) (bytes : List ℕ) (i n : ℕ)
    → append_known (append_known known (take i bytes)) (take n (drop i bytes)) ≡ append_known known (take (i + n) bytes)
append_known-take None bytes i n = refl
append_known-take (Some taken) bytes i n =
    ap (λ b. Some b) (append_assoc taken _ _ ∙ ap (λ b. taken ++ b) (sym (take-add i n bytes)))
