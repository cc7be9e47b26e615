-- What a reader gives up to a limit.
use Rattle.std.proofs.Common.{◌≡◌, ℕ, ◌+◌, ◌≤◌, List, [], ◌++◌, length, take, Option, None, Some, IfSome, ap, ◌∙◌, arith, length-take}
use Rattle.std.proofs.lemmas.List.{take_all}
use Rattle.std.specs.Option.{option_map}

-- bytes that are no more than the limit, of the first ones up to one past it, are all there are
pub all_within : (told : Option (List ℕ)) (count limit : ℕ) (before bytes : List ℕ) → before ≡ [] → count ≡ limit + 1
    → IfSome (option_map (take count) told) (λ xs. bytes ≡ before ++ xs) → length bytes ≤ limit → IfSome told (λ t. bytes ≡ t)
all_within None count limit before bytes empty is first le = tt
all_within (Some t) count limit before bytes empty is first le =
    let e : bytes ≡ take count t = first ∙ ap (λ l. l ++ take count t) empty in
    let short : length t ≤ count = omega (arith, ap length e, length-take count t) in
    e ∙ take_all count t short
