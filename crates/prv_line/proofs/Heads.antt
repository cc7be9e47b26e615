-- The word that an option begins with tells the option, and the value that it holds.
use Rattle.std.proofs.Common.{◌≡◌, ℕ, List, Bool, true, false, Option, None, Some, refl, sym, ◌∙◌, ap, eqb}
use Rattle.std.specs.List.{before_first, after_first, list_any}
use Rattle.prv_line.specs.Options.{option_word, head_word}
use Rattle.prv_line.proofs.TextLemmas.{apart}
use Rattle.prv_line.specs.declared.option.OptionName.{OptionName}
use Rattle.prv_line.specs.declared.option.OptionName.TheVariants.{Turns, Lines, Settlements, Workers, Journal}

name_in : List ℕ → List ℕ
name_in word = before_first (λ b. eqb b 61) word

pub value_in : List ℕ → List ℕ
value_in word = after_first (λ b. eqb b 61) word

holds_value : List ℕ → Bool
holds_value word = list_any (λ b. eqb b 61) word

name_in-head : (n : OptionName) (value : Option (List ℕ)) → name_in (head_word n value) ≡ option_word n
unfolding name_in
name_in-head Turns None = refl
name_in-head Turns (Some v) = refl
name_in-head Lines None = refl
name_in-head Lines (Some v) = refl
name_in-head Settlements None = refl
name_in-head Settlements (Some v) = refl
name_in-head Workers None = refl
name_in-head Workers (Some v) = refl
name_in-head Journal None = refl
name_in-head Journal (Some v) = refl

pub value_in-head : (n : OptionName) (v : List ℕ) → value_in (head_word n (Some v)) ≡ v
unfolding value_in
value_in-head Turns v = refl
value_in-head Lines v = refl
value_in-head Settlements v = refl
value_in-head Workers v = refl
value_in-head Journal v = refl

holds_value-none : (n : OptionName) → holds_value (head_word n None) ≡ false
unfolding holds_value
holds_value-none Turns = refl
holds_value-none Lines = refl
holds_value-none Settlements = refl
holds_value-none Workers = refl
holds_value-none Journal = refl

holds_value-some : (n : OptionName) (v : List ℕ) → holds_value (head_word n (Some v)) ≡ true
unfolding holds_value
holds_value-some Turns v = refl
holds_value-some Lines v = refl
holds_value-some Settlements v = refl
holds_value-some Workers v = refl
holds_value-some Journal v = refl

option_word-injective : (n m : OptionName) → option_word n ≡ option_word m → n ≡ m
option_word-injective Turns Turns e = refl
option_word-injective Turns _ e = absurd (apart e refl)
option_word-injective Lines Lines e = refl
option_word-injective Lines _ e = absurd (apart e refl)
option_word-injective Settlements Settlements e = refl
option_word-injective Settlements _ e = absurd (apart e refl)
option_word-injective Workers Workers e = refl
option_word-injective Workers _ e = absurd (apart e refl)
option_word-injective Journal Journal e = refl
option_word-injective Journal _ e = absurd (apart e refl)

values : (n m : OptionName) (a b : Option (List ℕ)) → head_word n a ≡ head_word m b → a ≡ b
values n m None None e = refl
values n m None (Some w) e = absurd (let no = holds_value-none n in let yes = holds_value-some m w in let same = ap holds_value e in cc)
values n m (Some v) None e = absurd (let no = holds_value-none m in let yes = holds_value-some n v in let same = ap holds_value e in cc)
values n m (Some v) (Some w) e = ap (λ (u : List ℕ). Some u) (sym (value_in-head n v) ∙ ap value_in e ∙ value_in-head m w)

pub head_word-injective : (n m : OptionName) (a b : Option (List ℕ)) → head_word n a ≡ head_word m b → (n ≡ m) × (a ≡ b)
head_word-injective n m a b e = (option_word-injective n m (sym (name_in-head n a) ∙ ap name_in e ∙ name_in-head m b), values n m a b e)
