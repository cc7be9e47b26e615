-- Names and numbers. A word of the command line is the list of its bytes.
use Rattle.std.specs.Prelude.{◌≢◌, ℕ, ◌<◌, ◌≤◌, List, length, slice_index}
use Rattle.std.specs.Str.Parse.{IsNumeral, digits_value, signed_digits_value, without_leading_sign}
use Rattle.prv_model.specs.Words.{IsWord}

-- a name of a file isn't empty and doesn't begin with `-`
abbrev pub IsName : List ℕ → Type 0
IsName word = (0 < length word) × (slice_index word 0 ≢ 45)

-- a number from least to most, written in 1 to 10 digits
pub record IsNumber (least most : ℕ) (word : List ℕ) : Type 0 where
  pub digits : IsNumeral 10 word
  pub short : length word ≤ 10
  pub low : least ≤ digits_value 10 word
  pub high : digits_value 10 word ≤ most

-- a number of an input, written in 1 to 10 digits behind an optional `-`
pub record IsSigned (word : List ℕ) : Type 0 where
  pub unsigned : slice_index word 0 ≢ 43
  pub digits : IsNumeral 10 (without_leading_sign word)
  pub short : length (without_leading_sign word) ≤ 10
  pub fits : IsWord (signed_digits_value 10 word)
