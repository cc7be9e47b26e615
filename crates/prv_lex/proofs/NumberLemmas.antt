-- The value of a run of digits, from its front on.
use Rattle.std.proofs.Common.{◌≡◌, ℕ, zero, suc, ◌+◌, ◌-◌, ◌*◌, ◌<◌, ◌≤◌, List, [], ◌∷◌, length, take, get_or, true, arith, rules, None}
use Rattle.std.specs.Char.{digit_value}
use Rattle.std.specs.Str.Parse.{digits_value_after}
use Rattle.std.proofs.lemmas.Int.Digits.{digits_value_more}
use Rattle.std.proofs.lemmas.Grind.{common_steps}
use Rattle.prv_lex.specs.Bytes.{is_digit}
use Rattle.prv_lex.specs.Numbers.{value, number_of}

-- more digits make no smaller value
value_after-ge : (n : ℕ) (ds : List ℕ) → n ≤ digits_value_after 10 n ds
value_after-ge n [] = omega arith
value_after-ge n (d ∷ ds) = omega (arith, value_after-ge (n * 10 + digit_value d) ds)

value_after-take : (n i : ℕ) (ds : List ℕ) → digits_value_after 10 n (take i ds) ≤ digits_value_after 10 n ds
value_after-take n zero ds = value_after-ge n ds
value_after-take n (suc i) [] = omega arith
value_after-take n (suc i) (d ∷ ds) = value_after-take (n * 10 + digit_value d) i ds

pub value-take : (i : ℕ) (ds : List ℕ) → value (take i ds) ≤ value ds
value-take i ds = value_after-take 0 i ds

-- a digit is a byte from 48 to 57, and is worth what it is above 48
pub digit_range : (b : ℕ) → is_digit b ≡ true → (48 ≤ b) × (b ≤ 57)
digit_range b h = grind (arith, common_steps)

pub digit_value_is : (b : ℕ) → 48 ≤ b → b ≤ 57 → digit_value b ≡ b - 48
digit_value_is b low high = grind (arith, common_steps)

-- one more digit
pub value_more : (ds : List ℕ) (i : ℕ) → i < length ds → is_digit (get_or ds i 0) ≡ true → value (take (i + 1) ds) ≡ value (take i ds) * 10 + (get_or ds i 0 - 48)
value_more ds i inside digit =
    let range = digit_range (get_or ds i 0) digit in
    let worth = digit_value_is (get_or ds i 0) range.0 range.1 in
    omega (arith, worth, digits_value_more 10 ds i inside)

-- a run of digits whose front is above the greatest number is no number
pub too_great : (ds : List ℕ) (i n : ℕ) → i < length ds → is_digit (get_or ds i 0) ≡ true → n ≡ value (take i ds) → 2147483647 < n * 10 + (get_or ds i 0 - 48) → None ≡ number_of ds
too_great ds i n inside digit so_far above =
    let whole : 2147483647 < value ds = omega (arith, value_more ds i inside digit, value-take (i + 1) ds) in
    search (rules, whole)
