-- The longest run of a class of bytes at the front of a text.
use Rattle.std.proofs.Common.{◌≡◌, ℕ, ◌+◌, List, [], ◌∷◌, take, length, Bool, true, false, cond, refl, one-add}
use Rattle.std.specs.List.{prefix_len, take_while, list_all, AllPass}
use Rattle.std.proofs.lemmas.List.Sums.{AllPass-from_list_all, prefix_len-le-length}
use Rattle.std.proofs.lemmas.List.{length-take-le}

all_in_step : (p : ℕ → Bool) (x : ℕ) (xs : List ℕ) (b : Bool) → p x ≡ b → list_all p (take_while p xs) ≡ true → list_all p (take (cond b (1 + prefix_len p xs) 0) (x ∷ xs)) ≡ true
all_in_step p x xs false e rest = refl
all_in_step p x xs true e rest = rw (one-add, e) rest

pub all_in_run : (p : ℕ → Bool) (s : List ℕ) → list_all p (take_while p s) ≡ true
all_in_run p [] = refl
all_in_run p (x ∷ xs) = all_in_step p x xs (p x) refl (all_in_run p xs)

-- each byte of the run is of the class
pub run-passes : (p : ℕ → Bool) (s : List ℕ) → AllPass p (take_while p s)
run-passes p s = AllPass-from_list_all p (take_while p s) (all_in_run p s)

pub length-run : (p : ℕ → Bool) (s : List ℕ) → length (take_while p s) ≡ prefix_len p s
length-run p s = length-take-le (prefix_len p s) s (prefix_len-le-length p s)
