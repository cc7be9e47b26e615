-- Reading items one after the other, as a loop does.
use Rattle.std.proofs.Common.{◌≡◌, ℕ, zero, suc, ◌-◌, ◌+◌, ◌≤◌, ◌<◌, List, [], ◌∷◌, ◌++◌, length, Ok, Err, refl, sym, ap, ◌∙◌, append_assoc, arith}
use Rattle.std.proofs.lemmas.List.{append-nil}
use Rattle.prv_codec.specs.declared.error.ReadError.{ReadError}
use Rattle.prv_codec.specs.declared.error.ReadError.TheVariants as errors
use Rattle.prv_codec.specs.Reading.{Read, ◌>>=◌, Fails, items_at}
use Rattle.prv_codec.proofs.Languages.{ok_is, bind_ok}

-- what was read before, and what is still read
abbrev pub with_front : {A : Type 0} → List A → Read (List A) → Read (List A)
with_front front read = read >>= λ x. Ok (front ++ x.0, x.1)

module _ {A : Type 0} (r : List ℕ → Read A) where
  regroup : (front : List A) (x : A) (read : Read (List A)) → with_front front (read >>= λ o. Ok (x ∷ o.0, o.1)) ≡ with_front (front ++ x ∷ []) read
  regroup front x (Ok o) = ap (λ (xs : List A). Ok (xs, o.1)) (simp append_assoc)
  regroup front x (Err left) = refl

  pub goes_on : (front : List A) (count i : ℕ) (bytes : List ℕ) (x : A) (after : List ℕ) (total : Read (List A)) → i < count → r bytes ≡ Ok (x, after)
      → with_front front (items_at r (count - i) bytes) ≡ total → with_front (front ++ x ∷ []) (items_at r (count - (i + 1)) after) ≡ total
  unfolding items_at
  goes_on front count i bytes x after total lt h so_far =
      let k : count - i ≡ suc (count - (i + 1)) = omega arith in
      let one : with_front front (items_at r (count - i) bytes) ≡ with_front (front ++ x ∷ []) (items_at r (count - (i + 1)) after) = rw (k, h) (regroup front x (items_at r (count - (i + 1)) after)) in
      sym one ∙ so_far

  pub ends : (e : ReadError) (front : List A) (count i : ℕ) (bytes : List ℕ) (total : Read (List A)) → i < count → Fails e (r bytes)
      → with_front front (items_at r (count - i) bytes) ≡ total → Fails e total
  unfolding items_at
  ends errors.Memory front count i bytes total lt h so_far = tt
  ends (errors.Bad left) front count i bytes total lt h so_far =
      let k : count - i ≡ suc (count - (i + 1)) = omega arith in
      let one : with_front front (items_at r (count - i) bytes) ≡ Err left = rw (k, h) refl in
      sym so_far ∙ one

  pub is_done : (front : List A) (count i : ℕ) (bytes : List ℕ) (total : Read (List A)) → count ≤ i → with_front front (items_at r (count - i) bytes) ≡ total → total ≡ Ok (front, bytes)
  unfolding items_at
  is_done front count i bytes total le so_far =
      let k : count - i ≡ 0 = omega arith in
      let one : with_front front (items_at r (count - i) bytes) ≡ Ok (front, bytes) = rw k (ap (λ (xs : List A). Ok (xs, bytes)) (append-nil front)) in
      sym so_far ∙ one

-- so many items
pub length-items : {A : Type 0} (r : List ℕ → Read A) (n : ℕ) (bytes : List ℕ) (xs : List A) (rest : List ℕ) → items_at r n bytes ≡ Ok (xs, rest) → length xs ≡ n
unfolding items_at
length-items {A = A} r zero bytes xs rest e = let same = ok_is ([], bytes) (xs, rest) e in ap (λ (x : List A × List ℕ). length x.0) (sym same)
length-items {A = A} r (suc n) bytes xs rest e =
    let first = bind_ok (r bytes) (λ x. items_at r n x.1 >>= λ o. Ok (x.0 ∷ o.0, o.1)) (xs, rest) e in
    let others = bind_ok (items_at r n first.0.1) (λ o. Ok (first.0.0 ∷ o.0, o.1)) (xs, rest) first.2 in
    let same = ok_is (first.0.0 ∷ others.0.0, others.0.1) (xs, rest) others.2 in
    ap (λ (x : List A × List ℕ). length x.0) (sym same) ∙ ap suc (length-items r n first.0.1 others.0.0 others.0.1 others.1)
