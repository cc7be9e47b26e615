-- Look-ups among keys, seen as look-ups among what the keys stand for.
use Rattle.std.proofs.Common.{◌≡◌, ℕ, ◌+◌, Bool, false, cond, not, ◌||◌, List, [], ◌∷◌, ◌++◌, length, map, position, nat_lt, Some, None, refl, ◌∙◌, ap, if◌then◌else◌}
use Rattle.std.specs.List.{list_any, position_or_len}
use Rattle.std.proofs.lemmas.List.{length-map, map-append}
use Rattle.indexmap.specs.IndexSet.{insert_key}

module _ {A B : Type 0} (p : B → Bool) (f : A → B) where
  pub list_any-map : (xs : List A) → list_any p (map f xs) ≡ list_any (λ x. p (f x)) xs
  list_any-map [] = refl
  list_any-map (x ∷ xs) = ap (λ (b : Bool). p (f x) || b) (list_any-map xs)

  pub position_or_len-map : (xs : List A) → position_or_len p (map f xs) ≡ position_or_len (λ x. p (f x)) xs
  position_or_len-map [] = refl
  position_or_len-map (x ∷ xs) = ap (λ (n : ℕ). cond (not (p (f x))) (1 + n) 0) (position_or_len-map xs)

  pub position-map : (xs : List A) → position p (map f xs) ≡ position (λ x. p (f x)) xs
  position-map xs =
      ap (λ (n : ℕ). cond (nat_lt n (length (map f xs))) (Some n) None) (position_or_len-map xs)
      ∙ ap (λ (n : ℕ). cond (nat_lt (position_or_len (λ x. p (f x)) xs) n) (Some (position_or_len (λ x. p (f x)) xs)) None) (length-map xs f)

-- a new key goes last
pub insert_key-new : {K : Type 0} (eq : K → K → Bool) (f : K → List ℕ) (keys : List K) (k : K) → list_any (eq k) keys ≡ false
    → map f (insert_key eq keys k) ≡ map f keys ++ f k ∷ []
insert_key-new {K} eq f keys k new =
    ap (λ (b : Bool). map f (if b then keys else keys ++ k ∷ [])) new ∙ map-append f keys (k ∷ [])
