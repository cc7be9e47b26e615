-- The lengths of parts of lists, and what a function of the elements makes of them.
use Rattle.std.proofs.Common.{◌≡◌, ℕ, zero, suc, ◌-◌, ◌≤◌, min, List, ◌∷◌, ◌++◌, length, map, take, drop, replicate, refl, sym, ap, ap₂, ◌∙◌, arith, length-append, length-drop, length-take}
use Rattle.std.proofs.lemmas.List.{length-map, length-replicate, map-append, take-map, drop-map}
use Rattle.prv_bits.specs.Places.{low, high, padded, raised, lowered}

module _ {A : Type 0} where
  pub length-low : (n : ℕ) (xs : List A) → length (low n xs) ≡ min n (length xs)
  length-low n xs = length-drop (length xs - n) xs ∙ omega arith

  pub length-high : (n : ℕ) (xs : List A) → length (high n xs) ≡ length xs - n
  length-high n xs = length-take (length xs - n) xs ∙ omega arith

  pub length-padded : (filling : A) (n : ℕ) (xs : List A) → length xs ≤ n → length (padded filling n xs) ≡ n
  length-padded filling n xs h = length-append (replicate (n - length xs) filling) xs ∙ omega (arith, length-replicate (n - length xs) filling)

  pub length-raised : (filling : A) (k : ℕ) (xs : List A) → length (raised filling k xs) ≡ length xs
  length-raised filling k xs = length-drop k (xs ++ replicate k filling) ∙ omega (arith, length-append xs (replicate k filling), length-replicate k filling)

  pub length-lowered : (filling : A) (k : ℕ) (xs : List A) → length (lowered filling k xs) ≡ length xs
  length-lowered filling k xs = length-take (length xs) (replicate k filling ++ xs) ∙ omega (arith, length-append (replicate k filling) xs)

module _ {A B : Type 0} (f : A → B) where
  pub map-replicate : (k : ℕ) (x : A) → map f (replicate k x) ≡ replicate k (f x)
  map-replicate zero x = refl
  map-replicate (suc k) x = ap (λ (t : List B). f x ∷ t) (map-replicate k x)

  pub map-low : (n : ℕ) (xs : List A) → map f (low n xs) ≡ low n (map f xs)
  map-low n xs = sym (drop-map f (length xs - n) xs) ∙ ap (λ (k : ℕ). drop (k - n) (map f xs)) (sym (length-map xs f))

  pub map-high : (n : ℕ) (xs : List A) → map f (high n xs) ≡ high n (map f xs)
  map-high n xs = sym (take-map f (length xs - n) xs) ∙ ap (λ (k : ℕ). take (k - n) (map f xs)) (sym (length-map xs f))

  pub map-padded : (filling : A) (n : ℕ) (xs : List A) → map f (padded filling n xs) ≡ padded (f filling) n (map f xs)
  map-padded filling n xs =
      map-append f (replicate (n - length xs) filling) xs
      ∙ ap (λ (t : List B). t ++ map f xs) (map-replicate (n - length xs) filling ∙ ap (λ (k : ℕ). replicate (n - k) (f filling)) (sym (length-map xs f)))

  pub map-raised : (filling : A) (k : ℕ) (xs : List A) → map f (raised filling k xs) ≡ raised (f filling) k (map f xs)
  map-raised filling k xs =
      sym (drop-map f k (xs ++ replicate k filling))
      ∙ ap (drop k) (map-append f xs (replicate k filling) ∙ ap (λ (t : List B). map f xs ++ t) (map-replicate k filling))

  pub map-lowered : (filling : A) (k : ℕ) (xs : List A) → map f (lowered filling k xs) ≡ lowered (f filling) k (map f xs)
  map-lowered filling k xs =
      sym (take-map f (length xs) (replicate k filling ++ xs))
      ∙ ap₂ (λ (n : ℕ) (t : List B). take n t) (sym (length-map xs f)) (map-append f (replicate k filling) xs ∙ ap (λ (t : List B). t ++ map f xs) (map-replicate k filling))
