-- What a table says of each byte.
use Rattle.std.proofs.Common.{◌≡◌, ℕ, zero, suc, ◌<◌, Bool, true, false, ◌&&◌, refl, arith, slice_index_or}
use Rattle.std.specs.Prelude.{not}
use Rattle.std.proofs.lemmas.Bool.{and_parts, cases_lt}
use Rattle.std.proofs.Common.{inl, inr}
use Rattle.prv_lex.specs.Bytes.{is_word_byte}
use Rattle.prv_lex.specs.declared.class.TheConstants.{WORD_BYTES}

-- a test passes at each number below n
all_below : (ℕ → Bool) → ℕ → Bool
all_below p zero = true
all_below p (suc n) = p n && all_below p n

all_below-at : (p : ℕ → Bool) (n k : ℕ) → all_below p n ≡ true → k < n → p k ≡ true
unfolding all_below
all_below-at p zero k h lt = absurd (omega arith)
all_below-at p (suc n) k h lt =
    let parts = and_parts (p n) (all_below p n) h in
    elim (cases_lt k n) [
      | inl below ↦ all_below-at p n k parts.1 below
      | inr top ↦ let e : k ≡ n = omega arith in rw e parts.0
    ]

same : Bool → Bool → Bool
same true b = b
same false b = not b

same-equal : (a b : Bool) → same a b ≡ true → a ≡ b
unfolding same
same-equal true true h = refl
same-equal true false h = absurd (cc)
same-equal false true h = absurd (cc)
same-equal false false h = refl

all_listed : all_below (λ b. same (slice_index_or WORD_BYTES b false) (is_word_byte b)) 256 ≡ true
unfolding all_below same
all_listed = refl

-- the table has the bytes of words
pub word_byte-listed : (b : ℕ) → b < 256 → slice_index_or WORD_BYTES b false ≡ is_word_byte b
word_byte-listed b small = same-equal _ _ (all_below-at (λ k. same (slice_index_or WORD_BYTES k false) (is_word_byte k)) 256 b all_listed small)
