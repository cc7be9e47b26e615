-- The bits of each operator's value.
use Rattle.std.proofs.Common.{◌≡◌, ℕ, zero, suc, ◌+◌, ◌-◌, ◌*◌, ◌/◌, ◌%◌, ◌^◌, ◌<◌, Bool, true, false, ◌&&◌, ◌||◌, not, if◌then◌else◌, List, [], ◌∷◌, length, ℤ, pos, negsuc, refl, sym, ap, ap₂, subst, ◌∙◌, arith, nat_abs, int_eq, int_rem, bit_and, bit_or, bit_xor, pow_pos, div-le_self, FitsSigned, lt_of_le_of_lt}
use mathlib.Core.Bool.{not-not}
use Rattle.std.proofs.lemmas.Bool.{true_from_ne_false}
use Rattle.std.specs.Cmp.{signed_Decides}
use Rattle.std.specs.Int.{w32, cast_unsigned, cast_signed, int_shr, int_wrap}
use Rattle.std.proofs.lemmas.Int.{int_wrap_fits, wrapping_add-bits, wrapping_sub-bits, wrapping_mul-bits}
use lib.Signed.{mag_rem}
use Rattle.prv_model.specs.Words.{IsWord, wrap, flag, is_zero, amount}
use Rattle.prv_model.specs.Terms.{total}
use Rattle.prv_model.specs.declared.op.TermOp.{TermOp}
use Rattle.prv_model.specs.declared.op.TermOp.TheVariants.{Add, Sub, Mul, Div, Rem, Shl, Shr, And, Or, Xor, Lt, Le, Eq, Ne}
use Rattle.prv_bits.specs.Gates.{xor, mux}
use Rattle.prv_bits.specs.Places.{low}
use Rattle.prv_bits.specs.Numbers.{bit, number, word, bits_of, flip, choose, any, sign}
use Rattle.prv_bits.specs.Sums.{magnitude}
use Rattle.prv_bits.specs.Orders.{signed_below, differ, flag_bits}
use Rattle.prv_bits.specs.Quotients.{divided, left_over}
use Rattle.prv_bits.specs.Shifts.{shift_down}
use Rattle.prv_bits.specs.Operators.{operate, pick}
use Rattle.prv_bits.proofs.PlaceLaws.{length-low}
use Rattle.prv_bits.proofs.NumberLaws.{number-below, number-flip, number-drop, length-digits, length-pairwise, choose-true, choose-false}
use Rattle.prv_bits.proofs.WordLaws.{below-word, IsWord-word, word-bits_of, number-word, word-same, is_zero-word, word-low, word-high, word-positive, word-negative}
use Rattle.prv_bits.proofs.SumLaws.{length-add, add-is, length-subtract, subtract-is, length-negate_if}
use Rattle.prv_bits.proofs.OrderLaws.{differ_itself, differ-false, length-flag_bits}
use Rattle.prv_bits.proofs.ProductLaws.{length-product, product-is}
use Rattle.prv_bits.proofs.DivisionLaws.{length-divided, length-left_over, divided-is, left_over-is}
use Rattle.prv_bits.proofs.ShiftLaws.{length-shift_up, shift_up-is, length-shift_down, shift_down-is, flip-shift_down}
use Rattle.prv_bits.proofs.LogicLaws.{and-is, or-is, xor-is}
use Rattle.prv_bits.proofs.SignedLaws.{signed, sign-word, magnitude-is, word-negate_if, signed-quotient, signed-remainder, signed_below-is, not-below, word-flag_bits}

abbrev Is : TermOp → Type 0
Is op = (xs ys : List Bool) → length xs ≡ 32 → length ys ≡ 32 → word (operate op xs ys) ≡ total op (word xs) (word ys)

add-word : Is Add
add-word xs ys h k =
    ap (cast_signed w32) (add-is false xs ys (h ∙ sym k) ∙ ap₂ (λ (m n : ℕ). m % 2 ^ n) (omega arith) h)
    ∙ wrapping_add-bits w32 (number xs) (number ys) (below-word xs h) (below-word ys k)

sub-word : Is Sub
sub-word xs ys h k =
    ap (cast_signed w32) (subtract-is xs ys (h ∙ sym k) ∙ ap (λ (n : ℕ). (number xs + (2 ^ n - number ys)) % 2 ^ n) h)
    ∙ wrapping_sub-bits w32 (number xs) (number ys) (below-word xs h) (below-word ys k)

mul-word : Is Mul
mul-word xs ys h k =
    ap (cast_signed w32) (product-is xs ys (omega arith) ∙ ap (λ (n : ℕ). (number xs * number ys) % 2 ^ n) h)
    ∙ wrapping_mul-bits w32 (number xs) (number ys) (below-word xs h) (below-word ys k)

and-word : Is And
and-word xs ys h k =
    ap (cast_signed w32) (and-is xs ys (h ∙ sym k) ∙ sym (ap₂ bit_and (number-word xs h) (number-word ys k)))

or-word : Is Or
or-word xs ys h k =
    ap (cast_signed w32) (or-is xs ys (h ∙ sym k) ∙ sym (ap₂ bit_or (number-word xs h) (number-word ys k)))

xor-word : Is Xor
xor-word xs ys h k =
    ap (cast_signed w32) (xor-is xs ys (h ∙ sym k) ∙ sym (ap₂ bit_xor (number-word xs h) (number-word ys k)))

-- the amount of a shift
amount-is : (n : ℕ) (ys : List Bool) → n ≡ 5 → length ys ≡ 32 → number (low n ys) ≡ amount (word ys)
amount-is n ys e k =
    let w : length (low n ys) ≡ 5 = omega (arith, length-low n ys) in
    number-drop (length ys - n) ys
    ∙ ap (λ (m : ℕ). number ys % 2 ^ m) w
    ∙ sym (ap (λ (m : ℕ). m % 32) (number-word ys k))

shl-word : Is Shl
shl-word xs ys h k =
    ap (cast_signed w32)
    (shift_up-is (low 5 ys) xs
    ∙ ap (λ (m : ℕ). (number xs * 2 ^ number (low 5 ys)) % 2 ^ m) h
    ∙ ap₂ (λ (m n : ℕ). (m * 2 ^ n) % 2 ^ 32) (sym (number-word xs h)) (amount-is 5 ys refl k))

down-positive : (a : ℕ) (amount bs : List Bool) → number amount ≡ a → number bs < 2 ^ 31 → word (shift_down false amount bs) ≡ int_shr (pos (number bs)) a
down-positive a amount bs e h =
    let n = shift_down-is amount bs in
    word-low (shift_down false amount bs) (omega (arith, n, div-le_self (number bs) (2 ^ number amount)))
    ∙ ap pos (n ∙ ap (λ (m : ℕ). number bs / 2 ^ m) e)

down-negative : (a : ℕ) (amount bs : List Bool) → number amount ≡ a → length bs ≡ 32 → number (flip bs) < 2 ^ 31 → word (shift_down true amount bs) ≡ int_shr (negsuc (number (flip bs))) a
down-negative a amount bs e w h =
    let down = shift_down true amount bs in
    let l : length down ≡ 32 = length-shift_down true amount bs ∙ w in
    let n : number (flip down) ≡ number (flip bs) / 2 ^ number amount = ap number (flip-shift_down amount bs) ∙ shift_down-is amount (flip bs) in
    let p = ap (λ (m : ℕ). 2 ^ m) l in
    word-high down l (omega (arith, number-flip down, n, div-le_self (number (flip bs)) (2 ^ number amount)))
    ∙ ap negsuc (n ∙ ap (λ (m : ℕ). number (flip bs) / 2 ^ m) e)

down-word : (a : ℕ) (amount bs : List Bool) → number amount ≡ a → length bs ≡ 32 → word (shift_down (sign bs) amount bs) ≡ int_shr (word bs) a
down-word a amount [] e w = cc
down-word a amount (true ∷ bs) e w =
    let v : length bs ≡ 31 = omega arith in
    let p = ap (λ (m : ℕ). 2 ^ m) v in
    let n : number (flip (true ∷ bs)) ≡ number (flip bs) = omega arith in
    down-negative a amount (true ∷ bs) e w (omega (arith, number-flip bs, pow_pos (length bs)))
    ∙ ap (λ (z : ℤ). int_shr z a) (ap negsuc n ∙ sym (word-negative bs v))
down-word a amount (false ∷ bs) e w =
    let v : length bs ≡ 31 = omega arith in
    let p = ap (λ (m : ℕ). 2 ^ m) v in
    let n : number (false ∷ bs) ≡ number bs = omega arith in
    down-positive a amount (false ∷ bs) e (omega (arith, number-below bs))
    ∙ ap (λ (z : ℤ). int_shr z a) (ap pos n ∙ sym (word-positive bs v))

shr-word : Is Shr
shr-word xs ys h k = down-word (amount (word ys)) (low 5 ys) xs (amount-is 5 ys refl k) h

-- comparisons
flagged : (n : ℕ) (b c : Bool) → b ≡ c → word (flag_bits n b) ≡ flag c
flagged n b c e = word-flag_bits n b ∙ ap flag e

lt-word : Is Lt
lt-word xs ys h k = flagged (length xs) _ _ (signed_below-is xs ys h k)

le-word : Is Le
le-word xs ys h k = flagged (length xs) _ _ (ap not (signed_below-is ys xs k h) ∙ not-below (word xs) (word ys))

differ-is : (xs ys : List Bool) (t : Bool) → length xs ≡ 32 → length ys ≡ 32 → int_eq (word xs) (word ys) ≡ t → differ xs ys ≡ not t
differ-is xs ys true h k e =
    ap (differ xs) (sym (word-same xs ys h k ((signed_Decides (word xs) (word ys)).0 e))) ∙ differ_itself xs
differ-is xs ys false h k e =
    true_from_ne_false (differ xs ys) (λ f. let same = (signed_Decides (word xs) (word ys)).1 (ap word (differ-false xs ys (h ∙ sym k) f)) in cc)

eq-word : Is Eq
eq-word xs ys h k = flagged (length xs) _ _ (ap not (differ-is xs ys (int_eq (word xs) (word ys)) h k refl) ∙ not-not (int_eq (word xs) (word ys)))

ne-word : Is Ne
ne-word xs ys h k = flagged (length xs) _ _ (differ-is xs ys (int_eq (word xs) (word ys)) h k refl)

positive : (z : ℤ) {n : ℕ} → is_zero z ≡ false → n ≡ nat_abs z → 0 < n
positive (pos zero) e h = cc
positive (pos (suc n)) e h = omega arith
positive (negsuc n) e h = omega arith

-- the magnitude is 0 where the word is
nonzero-magnitude : (ys : List Bool) → length ys ≡ 32 → any ys ≡ true → 0 < number (magnitude ys)
nonzero-magnitude ys k e = positive (word ys) (is_zero-word ys k ∙ ap not e) (magnitude-is ys k)

nothing : (c : Bool) → wrap (signed c 0) ≡ pos 0
unfolding int_wrap
nothing true = refl
nothing false = refl

quotient-at : (xs ys : List Bool) (t : Bool) → length xs ≡ 32 → length ys ≡ 32 → any ys ≡ t → wrap (signed (xor (sign xs) (sign ys)) (bit t * (number (magnitude xs) / number (magnitude ys)))) ≡ total Div (word xs) (word ys)
quotient-at xs ys false h k e =
    rw (is_zero-word ys k ∙ ap not e) (ap (λ (n : ℕ). wrap (signed (xor (sign xs) (sign ys)) n)) (omega arith) ∙ nothing (xor (sign xs) (sign ys)))
quotient-at xs ys true h k e =
    rw (is_zero-word ys k ∙ ap not e)
    (ap (λ (n : ℕ). wrap (signed (xor (sign xs) (sign ys)) n)) (omega arith ∙ ap₂ (λ (m n : ℕ). m / n) (magnitude-is xs h) (magnitude-is ys k))
    ∙ ap₂ (λ (s t : Bool). wrap (signed (xor s t) (nat_abs (word xs) / nat_abs (word ys)))) (sign-word xs h) (sign-word ys k)
    ∙ ap wrap (signed-quotient (word xs) (word ys)))

div-word : Is Div
div-word xs ys h k =
    let a = magnitude xs in
    let b = magnitude ys in
    let w : length (divided (any ys) a b) ≡ 32 = length-divided (any ys) a b ∙ length-negate_if (sign xs) xs ∙ h in
    word-negate_if (xor (sign xs) (sign ys)) (divided (any ys) a b) w
    ∙ ap (λ (n : ℕ). wrap (signed (xor (sign xs) (sign ys)) n)) (divided-is (any ys) a b (nonzero-magnitude ys k))
    ∙ quotient-at xs ys (any ys) h k refl

remainder-at : (xs ys : List Bool) (t : Bool) → length xs ≡ 32 → length ys ≡ 32 → any ys ≡ t → wrap (signed (sign xs) (bit t * (number (magnitude xs) % number (magnitude ys)))) ≡ total Rem (word xs) (word ys)
remainder-at xs ys false h k e =
    rw (is_zero-word ys k ∙ ap not e) (ap (λ (n : ℕ). wrap (signed (sign xs) n)) (omega arith) ∙ nothing (sign xs))
remainder-at xs ys true h k e =
    let near = IsWord-word xs h in
    let fits : FitsSigned w32 (int_rem (word xs) (word ys)) = record { sfits = lt_of_le_of_lt (mag_rem (word xs) (word ys)) near.sfits } in
    rw (is_zero-word ys k ∙ ap not e)
    (ap (λ (n : ℕ). wrap (signed (sign xs) n)) (omega arith ∙ ap₂ (λ (m n : ℕ). m % n) (magnitude-is xs h) (magnitude-is ys k))
    ∙ ap (λ (s : Bool). wrap (signed s (nat_abs (word xs) % nat_abs (word ys)))) (sign-word xs h)
    ∙ ap wrap (signed-remainder (word xs) (word ys))
    ∙ int_wrap_fits w32 (int_rem (word xs) (word ys)) fits)

rem-word : Is Rem
rem-word xs ys h k =
    let a = magnitude xs in
    let b = magnitude ys in
    let w : length (left_over (any ys) a b) ≡ 32 = length-left_over (any ys) a b ∙ length-negate_if (sign xs) xs ∙ h in
    word-negate_if (sign xs) (left_over (any ys) a b) w
    ∙ ap (λ (n : ℕ). wrap (signed (sign xs) n)) (left_over-is (any ys) a b (nonzero-magnitude ys k))
    ∙ remainder-at xs ys (any ys) h k refl

-- each operator's bits are as many as those of its words, and are those of its value
pub length-operate : (op : TermOp) (xs ys : List Bool) → length xs ≡ length ys → 0 < length xs → length (operate op xs ys) ≡ length xs
length-operate Add xs ys h k = length-add false xs ys h
length-operate Sub xs ys h k = length-subtract xs ys h
length-operate Mul xs ys h k = length-product xs ys (omega arith)
length-operate Div xs ys h k = length-negate_if _ (divided (any ys) (magnitude xs) (magnitude ys)) ∙ length-divided (any ys) (magnitude xs) (magnitude ys) ∙ length-negate_if (sign xs) xs
length-operate Rem xs ys h k = length-negate_if _ (left_over (any ys) (magnitude xs) (magnitude ys)) ∙ length-left_over (any ys) (magnitude xs) (magnitude ys) ∙ length-negate_if (sign xs) xs
length-operate Shl xs ys h k = length-shift_up (low 5 ys) xs
length-operate Shr xs ys h k = length-shift_down (sign xs) (low 5 ys) xs
length-operate And xs ys h k = length-pairwise (λ a b. a && b) xs ys h
length-operate Or xs ys h k = length-pairwise (λ a b. a || b) xs ys h
length-operate Xor xs ys h k = length-pairwise xor xs ys h
length-operate Lt xs ys h k = length-flag_bits (length xs) (signed_below xs ys) k
length-operate Le xs ys h k = length-flag_bits (length xs) (not (signed_below ys xs)) k
length-operate Eq xs ys h k = length-flag_bits (length xs) (not (differ xs ys)) k
length-operate Ne xs ys h k = length-flag_bits (length xs) (differ xs ys) k

pub word-operate : (op : TermOp) (xs ys : List Bool) → length xs ≡ 32 → length ys ≡ 32 → word (operate op xs ys) ≡ total op (word xs) (word ys)
word-operate Add = add-word
word-operate Sub = sub-word
word-operate Mul = mul-word
word-operate Div = div-word
word-operate Rem = rem-word
word-operate Shl = shl-word
word-operate Shr = shr-word
word-operate And = and-word
word-operate Or = or-word
word-operate Xor = xor-word
word-operate Lt = lt-word
word-operate Le = le-word
word-operate Eq = eq-word
word-operate Ne = ne-word

of-bits : (op : TermOp) (a b : ℤ) (xs ys : List Bool) → length xs ≡ 32 → length ys ≡ 32 → word xs ≡ a → word ys ≡ b → IsWord (total op a b)
of-bits op a b xs ys h k e f =
    let w : length (operate op xs ys) ≡ 32 = length-operate op xs ys (h ∙ sym k) (omega arith) ∙ h in
    subst IsWord (word-operate op xs ys h k ∙ ap₂ (total op) e f) (IsWord-word (operate op xs ys) w)

-- so each value is a word
pub IsWord-total : (op : TermOp) (a b : ℤ) → IsWord a → IsWord b → IsWord (total op a b)
IsWord-total op a b h k = of-bits op a b (bits_of a) (bits_of b) (length-digits 32 (cast_unsigned w32 a)) (length-digits 32 (cast_unsigned w32 b)) (word-bits_of a h) (word-bits_of b k)

-- the choice
pub length-pick : (cs xs ys : List Bool) → length xs ≡ length ys → length (pick cs xs ys) ≡ length xs
length-pick cs xs ys h = length-pairwise (mux (any cs)) xs ys h

picked : (t : Bool) (cs xs ys : List Bool) → any cs ≡ t → length cs ≡ 32 → length xs ≡ length ys → word (choose t xs ys) ≡ (if is_zero (word cs) then word ys else word xs)
picked true cs xs ys e w h = rw (is_zero-word cs w ∙ ap not e) (ap word (choose-true xs ys h))
picked false cs xs ys e w h = rw (is_zero-word cs w ∙ ap not e) (ap word (choose-false xs ys h))

pub word-pick : (cs xs ys : List Bool) → length cs ≡ 32 → length xs ≡ length ys → word (pick cs xs ys) ≡ (if is_zero (word cs) then word ys else word xs)
word-pick cs xs ys w h = picked (any cs) cs xs ys refl w h
