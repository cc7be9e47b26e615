-- Where a comment ends, from one byte to the next.
use Rattle.std.proofs.Common.{◌≡◌, ℕ, zero, suc, ◌+◌, ◌<◌, List, [], ◌∷◌, length, drop, refl, ap, ◌∙◌, arith, add-one, Option, Some, None, true, false}
use Rattle.std.specs.Prelude.{codes, nat_eq, if◌then◌else◌}
use Rattle.std.specs.List.{starts_with}
use Rattle.std.specs.Option.{option_map}
use Rattle.prv_lex.specs.Comments.{closing}

closing_suc : (i : ℕ) (s : List ℕ) → i < length s → closing (drop i s) ≡ (if starts_with nat_eq (drop i s) (codes "*/") then Some 2 else option_map (λ n. n + 1) (closing (drop (suc i) s)))
closing_suc i [] h = absurd (omega arith)
closing_suc zero (b ∷ s) h = refl
closing_suc (suc i) (b ∷ s) h = closing_suc i s (omega arith)

-- the first `*/` is here, or it is the first one after this byte
pub closing_step : (i : ℕ) (s : List ℕ) → i < length s → closing (drop i s) ≡ (if starts_with nat_eq (drop i s) (codes "*/") then Some 2 else option_map (λ n. n + 1) (closing (drop (i + 1) s)))
closing_step i s h = rw add-one (closing_suc i s h)

option_map-twice : (i : ℕ) (o : Option ℕ) → option_map (λ n. n + i) (option_map (λ n. n + 1) o) ≡ option_map (λ n. n + (i + 1)) o
option_map-twice i None = refl
option_map-twice i (Some n) = ap Some (omega arith)

-- where no `*/` is here, it is counted from the next byte on
pub closing_on : (i : ℕ) (s : List ℕ) (whole : Option ℕ) → i < length s → starts_with nat_eq (drop i s) (codes "*/") ≡ false → whole ≡ option_map (λ n. n + i) (closing (drop i s)) → whole ≡ option_map (λ n. n + (i + 1)) (closing (drop (i + 1) s))
closing_on i s whole inside not_here so_far =
    let step = closing_step i s inside in
    let next = rw not_here at step in
    so_far ∙ ap (λ o. option_map (λ n. n + i) o) next ∙ option_map-twice i (closing (drop (i + 1) s))

-- where one is here, the comment ends with it
pub closing_here : (i : ℕ) (s : List ℕ) (whole : Option ℕ) → i < length s → starts_with nat_eq (drop i s) (codes "*/") ≡ true → whole ≡ option_map (λ n. n + i) (closing (drop i s)) → whole ≡ Some (2 + i)
closing_here i s whole inside is_here so_far =
    let step = closing_step i s inside in
    let next = rw is_here at step in
    so_far ∙ ap (λ o. option_map (λ n. n + i) o) next
