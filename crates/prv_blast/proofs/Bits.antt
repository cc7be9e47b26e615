-- The bits of numbers, parameters and values, one after another.
use Rattle.std.proofs.Common.{◌≡◌, ℕ, suc, ◌+◌, ◌-◌, ◌*◌, ◌/◌, ◌%◌, ◌^◌, ◌<◌, ◌≤◌, ◌==◌, Bool, true, false, List, [], ◌∷◌, ◌++◌, length, map, drop, set, get_or, ℤ, pos, refl, sym, ap, ◌∙◌, arith, below_more, get_or-set_other, get_or-set_same}
use Rattle.std.specs.Int.{w32, cast_unsigned, cast_signed}
use Rattle.std.specs.List.{range_with_len}
use Rattle.std.proofs.lemmas.List.{drop-set}
use Rattle.std.proofs.lemmas.List.FromFn.{length-map-range_with_len, map-range_with_len_more}
use Rattle.std.proofs.lemmas.Nat.{shr-shr}
use Rattle.std.proofs.Math.Nat.{pow-le-pow_right}
use mir.Val.{bool_byte}
use Rattle.prv_bits.specs.Numbers.{bit, number, digits, word}
use Rattle.prv_bits.proofs.NumberLaws.{number-below, number-append}
use Rattle.prv_bits.proofs.WordLaws.{number-word}
use Rattle.prv_gate.specs.Bits.{constant}
use Rattle.prv_gate.specs.declared.bit.Bit.{Bit}
use Rattle.prv_gate.specs.declared.bit.Bit.TheVariants.{False, Lit as Literal}
use Rattle.prv_blast.specs.Inputs.{variables, input_at}
use Rattle.prv_blast.proofs.Standing.{from-range}

-- ---- numbers

pub digit-more : (width i n rest : ℕ) (bits : List Bit) (b : Bit) → 0 < i → i ≤ width → length bits ≡ width → drop i bits ≡ map constant (digits (width - i) n) → rest ≡ n / 2 ^ (width - i) → b ≡ constant (rest % 2 == 1) →
    drop (i - 1) (set bits (i - 1) b) ≡ map constant (digits (width - (i - 1)) n)
digit-more width i n rest bits b low high long made is value =
    let one : width - (i - 1) ≡ suc (width - i) = omega arith in
    let next : (i - 1) + 1 ≡ i = omega arith in
    drop-set bits (i - 1) b (omega arith)
    ∙ ap (λ (k : ℕ). b ∷ drop k bits) next
    ∙ ap (λ (bs : List Bit). b ∷ bs) made
    ∙ ap (λ (c : Bit). c ∷ map constant (digits (width - i) n)) (value ∙ ap (λ (m : ℕ). constant (m % 2 == 1)) is)
    ∙ sym (ap (λ (k : ℕ). map constant (digits k n)) one)

pub rest-more : (width i n rest : ℕ) → 0 < i → i ≤ width → rest ≡ n / 2 ^ (width - i) → rest / 2 ≡ n / 2 ^ (width - (i - 1))
rest-more width i n rest low high is =
    let one : (width - i) + 1 ≡ width - (i - 1) = omega arith in
    ap (λ (m : ℕ). m / 2) is ∙ shr-shr n (width - i) 1 ∙ ap (λ (k : ℕ). n / 2 ^ k) one

-- ---- variables

abbrev pub variable_bit : ℕ → Bit
variable_bit v = Literal (record { 0 = pos v })

pub bit-more : (first i v : ℕ) (bits : List Bit) (b : Bit) → i < length bits → ((k : ℕ) → k < i → get_or bits k False ≡ variable_bit (first + k)) → b ≡ variable_bit v → v ≡ first + i →
    (k : ℕ) → k < i + 1 → get_or (set bits i b) k False ≡ variable_bit (first + k)
bit-more first i v bits b less old is at =
    below_more _ _
    (λ k h. get_or-set_other bits i k b False (λ (e : k ≡ i). omega arith) ∙ old k h)
    (get_or-set_same bits i b False less ∙ is ∙ ap variable_bit at)

pub all-variables : (first n i : ℕ) (bits : List Bit) → length bits ≡ n → n ≤ i → ((k : ℕ) → k < i → get_or bits k False ≡ variable_bit (first + k)) → bits ≡ map variable_bit (range_with_len first n)
all-variables first n i bits long past h =
    sym (ap (λ (m : ℕ). map variable_bit (range_with_len first m)) (sym long) ∙ from-range False bits first variable_bit (λ k less. sym (h k (omega arith))))

-- ---- values

byte-bit : (b : Bool) → bool_byte b ≡ bit b
byte-bit true = refl
byte-bit false = refl

bit-small : (b : Bool) → bit b ≤ 1
bit-small true = omega arith
bit-small false = omega arith

module _ (f : ℕ → Bool) (first i : ℕ) where
  pub value-more : (n m : ℕ) (b : Bool) → n ≡ number (map f (range_with_len first i)) → b ≡ f (first + i) → m ≡ bool_byte b → 2 * n + m ≡ number (map f (range_with_len first (i + 1)))
  value-more n m b is value byte =
      let last : bit b ≡ bit (f (first + i)) = ap bit value in
      let all : number (map f (range_with_len first (i + 1))) ≡ number (map f (range_with_len first i)) * 2 + (bit (f (first + i)) * 1 + 0) =
      ap number (map-range_with_len_more f first i (first + i) refl) ∙ number-append (map f (range_with_len first i)) (f (first + i) ∷ []) in
      let same = byte ∙ byte-bit b in
      omega arith

  pub value-small : (n m : ℕ) (b : Bool) → n ≡ number (map f (range_with_len first i)) → i < 32 → m ≡ bool_byte b → 2 * n + m < 2 ^ 32
  value-small n m b is less byte =
      let below = number-below (map f (range_with_len first i)) in
      let long : 2 ^ length (map f (range_with_len first i)) ≡ 2 ^ i = ap (λ (k : ℕ). 2 ^ k) (length-map-range_with_len f first i) in
      let top : 2 ^ i ≤ 2 ^ 31 = pow-le-pow_right {n = 2} (omega arith) {i = i} {j = 31} (omega arith) in
      let one = bit-small b in
      let same = byte ∙ byte-bit b in
      omega arith

-- a word is passed as it is
pub passed-word : (r : ℤ) (bs : List Bool) → length bs ≡ 32 → r ≡ word bs → cast_signed w32 (cast_unsigned w32 r) ≡ word bs
passed-word r bs long is = ap (λ (z : ℤ). cast_signed w32 (cast_unsigned w32 z)) is ∙ ap (cast_signed w32) (number-word bs long)

pub word-more : (k : ℕ) (v : ℕ → Bool) (old new : List ℤ) (z : ℤ) → new ≡ old ++ z ∷ [] → z ≡ word (map v (variables k)) → old ≡ input_at k v → new ≡ input_at (k + 1) v
word-more k v old new z pushed is made =
    pushed ∙ (λ i. made i ++ is i ∷ [])
    ∙ sym (map-range_with_len_more (λ (j : ℕ). word (map v (variables j))) 0 k k (omega arith))
