-- Which words are names, numbers and options is decided.
use Rattle.std.proofs.Common.{◌≡◌, ◌⊎◌, inl, inr, ℕ, ◌<◌, ◌≤◌, Bool, true, false, List, [], ◌∷◌, length, ℤ, Option, None, Some, refl, sym, ◌∙◌, ap, subst, arith}
use Rattle.std.specs.Prelude.{◌≢◌, slice_index}
use Rattle.std.specs.Str.{bytes_eq}
use Rattle.std.specs.Char.{digit_value}
use Rattle.std.specs.Str.Parse.{AllDigits, IsNumeral, digits_value, signed_digits_value, without_leading_sign}
use Rattle.std.proofs.lemmas.Bool.{cases_lt, cases_eq, cases_Bool}
use Rattle.std.proofs.lemmas.Slice.Eq.{bytes_eq-Decides}
use Rattle.prv_model.specs.Words.{IsWord, is_word}
use Rattle.prv_model.proofs.WordLaws.{word-tested, tested-word}
use Rattle.prv_line.specs.Texts.{IsName, IsNumber, IsSigned}
use Rattle.prv_line.specs.Options.{option_word, head_word, IsValue}
use Rattle.prv_line.specs.declared.limits.TheConstants.{TURNS, LINES, SETTLEMENTS, WORKERS}
use Rattle.prv_line.specs.declared.option.OptionName.{OptionName}
use Rattle.prv_line.specs.declared.option.OptionName.TheVariants.{Turns, Lines, Settlements, Workers, Journal}
use Rattle.prv_line.proofs.Heads.{value_in, value_in-head}

-- P holds, or it doesn't
abbrev pub Decided : Type 0 → Type 0
Decided P = P ⊎ (P → ⊥)

both : (P Q : Type 0) → Decided P → Decided Q → Decided (P × Q)
both P Q (inl p) (inl q) = inl (p, q)
both P Q (inl p) (inr never) = inr (λ h. never h.1)
both P Q (inr never) q = inr (λ h. never h.0)

decided-le : (a b : ℕ) → Decided (a ≤ b)
decided-le a b = by (cases_lt b a)
  where
    by : (b < a) ⊎ (a ≤ b) → Decided (a ≤ b)
    by (inl past) = inr (λ h. absurd (omega arith))
    by (inr h) = inl h

pub decided-lt : (a b : ℕ) → Decided (a < b)
decided-lt a b = by (cases_lt a b)
  where
    by : (a < b) ⊎ (b ≤ a) → Decided (a < b)
    by (inl h) = inl h
    by (inr past) = inr (λ h. absurd (omega arith))

decided-differ : (a b : ℕ) → Decided (a ≢ b)
decided-differ a b = by (cases_eq a b)
  where
    by : (a ≡ b) ⊎ (a ≡ b → ⊥) → Decided (a ≢ b)
    by (inl same) = inr (λ h. h same)
    by (inr h) = inl h

decided-digits : (text : List ℕ) → Decided (AllDigits 10 text)
decided-digits [] = inl tt
decided-digits (c ∷ cs) = both (digit_value c < 10) (AllDigits 10 cs) (decided-lt (digit_value c) 10) (decided-digits cs)

decided-numeral : (text : List ℕ) → Decided (IsNumeral 10 text)
decided-numeral text = both (0 < length text) (AllDigits 10 text) (decided-lt 0 (length text)) (decided-digits text)

decided-word : (n : ℤ) → Decided (IsWord n)
decided-word n = by (cases_Bool (is_word n))
  where
    by : (is_word n ≡ true) ⊎ (is_word n ≡ false) → Decided (IsWord n)
    by (inl tested) = inl (tested-word n tested)
    by (inr never) = inr (λ h. let tested = word-tested n h in cc)

pub decided-name : (word : List ℕ) → Decided (IsName word)
decided-name word = both (0 < length word) (slice_index word 0 ≢ 45) (decided-lt 0 (length word)) (decided-differ (slice_index word 0) 45)

pub decided-number : (least most : ℕ) (word : List ℕ) → Decided (IsNumber least most word)
decided-number least most word = by (both _ _ (decided-numeral word) (both _ _ (decided-le (length word) 10) (both _ _ (decided-le least (digits_value 10 word)) (decided-le (digits_value 10 word) most))))
  where
    by : Decided (IsNumeral 10 word × ((length word ≤ 10) × ((least ≤ digits_value 10 word) × (digits_value 10 word ≤ most)))) → Decided (IsNumber least most word)
    by (inl (digits, (short, (low, high)))) = inl (record { digits = digits; short = short; low = low; high = high })
    by (inr never) = inr (λ h. never (h.digits, (h.short, (h.low, h.high))))

pub decided-signed : (word : List ℕ) → Decided (IsSigned word)
decided-signed word = by (both _ _ (decided-differ (slice_index word 0) 43) (both _ _ (decided-numeral (without_leading_sign word)) (both _ _ (decided-le (length (without_leading_sign word)) 10) (decided-word (signed_digits_value 10 word)))))
  where
    by : Decided ((slice_index word 0 ≢ 43) × (IsNumeral 10 (without_leading_sign word) × ((length (without_leading_sign word) ≤ 10) × IsWord (signed_digits_value 10 word)))) → Decided (IsSigned word)
    by (inl (unsigned, (digits, (short, fits)))) = inl (record { unsigned = unsigned; digits = digits; short = short; fits = fits })
    by (inr never) = inr (λ h. never (h.unsigned, (h.digits, (h.short, h.fits))))

pub decided-value : (name : OptionName) (text : List ℕ) → Decided (IsValue name text)
decided-value Turns text = decided-number TURNS.least TURNS.most text
decided-value Lines text = decided-number LINES.least LINES.most text
decided-value Settlements text = decided-number SETTLEMENTS.least SETTLEMENTS.most text
decided-value Workers text = decided-number WORKERS.least WORKERS.most text
decided-value Journal text = decided-name text

pub decided-equal : (a b : List ℕ) → Decided (a ≡ b)
decided-equal a b = by (cases_Bool (bytes_eq a b))
  where
    by : (bytes_eq a b ≡ true) ⊎ (bytes_eq a b ≡ false) → Decided (a ≡ b)
    by (inl tested) = inl ((bytes_eq-Decides a b).0 tested)
    by (inr never) = inr (λ h. let tested = (bytes_eq-Decides a b).1 h in cc)

-- a word is that of this option, with a value in it or without
abbrev IsHeadOf : List ℕ → OptionName → Type 0
IsHeadOf word name = (value : Option (List ℕ)) × (word ≡ head_word name value)

decided-head_of : (word : List ℕ) (name : OptionName) → Decided (IsHeadOf word name)
decided-head_of word name = by (decided-equal word (head_word name None)) (decided-equal word (head_word name (Some (value_in word))))
  where
    by : Decided (word ≡ head_word name None) → Decided (word ≡ head_word name (Some (value_in word))) → Decided (IsHeadOf word name)
    by (inl is) other = inl (None, is)
    by (inr never) (inl is) = inl (Some (value_in word), is)
    by (inr not_alone) (inr not_held) = inr neither
      where
        neither : IsHeadOf word name → ⊥
        neither (None, is) = not_alone is
        neither (Some v, is) =
            let value : value_in word ≡ v = ap value_in is ∙ value_in-head name v in
            not_held (is ∙ ap (λ (x : List ℕ). head_word name (Some x)) (sym value))

-- a word is that of an option
pub record IsHead (word : List ℕ) : Type 0 where
  pub name : OptionName
  pub value : Option (List ℕ)
  pub is : word ≡ head_word name value

of-one : (word : List ℕ) (name : OptionName) → IsHeadOf word name → IsHead word
of-one word name (value, is) = record { name = name; value = value; is = is }

pub decided-head : (word : List ℕ) → Decided (IsHead word)
decided-head word = by (decided-head_of word Turns) (decided-head_of word Lines) (decided-head_of word Settlements) (decided-head_of word Workers) (decided-head_of word Journal)
  where
    by : Decided (IsHeadOf word Turns) → Decided (IsHeadOf word Lines) → Decided (IsHeadOf word Settlements) → Decided (IsHeadOf word Workers) → Decided (IsHeadOf word Journal) → Decided (IsHead word)
    by (inl h) b c d e = inl (of-one word Turns h)
    by (inr a) (inl h) c d e = inl (of-one word Lines h)
    by (inr a) (inr b) (inl h) d e = inl (of-one word Settlements h)
    by (inr a) (inr b) (inr c) (inl h) e = inl (of-one word Workers h)
    by (inr a) (inr b) (inr c) (inr d) (inl h) = inl (of-one word Journal h)
    by (inr a) (inr b) (inr c) (inr d) (inr e) = inr (λ h. none h.name h.value h.is)
      where
        none : (name : OptionName) (value : Option (List ℕ)) → word ≡ head_word name value → ⊥
        none Turns value is = a (value, is)
        none Lines value is = b (value, is)
        none Settlements value is = c (value, is)
        none Workers value is = d (value, is)
        none Journal value is = e (value, is)
