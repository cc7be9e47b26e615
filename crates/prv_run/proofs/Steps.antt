-- The steps of lists of statements and of loops.
use Rattle.std.proofs.Common.{◌≡◌, ℕ, zero, suc, ◌<◌, Bool, true, false, List, [], ◌∷◌, map, length, get_or, Option, Some, None, is_some, refl, ◌∙◌, ap, arith}
use Rattle.prv_model.specs.Programs.{all_true}

-- what holds of each element holds of the one at a place
pub all_true-at : {A : Type 0} (p : A → Bool) (xs : List A) (i : ℕ) (x : A) → all_true (map p xs) ≡ true → i < length xs → x ≡ get_or xs i x → p x ≡ true
all_true-at p [] i x all inside is = absurd (omega arith)
all_true-at p (y ∷ ys) zero x all inside is = ap p is ∙ grind arith
all_true-at p (y ∷ ys) (suc i) x all inside is = all_true-at p ys i x (grind arith) (omega arith) is

pub none-is : {A : Type 0} (o : Option A) → is_some o ≡ false → o ≡ None
none-is None e = refl
none-is (Some x) e = cc

pub some-is : {A : Type 0} (o : Option A) → is_some o ≡ true → (a : A) × (o ≡ Some a)
some-is None e = cc
some-is (Some x) e = (x, refl)
