-- The first option of some words, read or refused.
use Rattle.std.proofs.Common.{◌≡◌, ℕ, suc, ◌+◌, ◌*◌, ◌<◌, ◌≤◌, List, [], ◌∷◌, ◌++◌, length, Bool, true, false, Option, None, Some, refl, sym, ◌∙◌, ap, subst, arith, rules, flat_map, codes, length-append}
use Rattle.std.specs.Prelude.{IsTrue}
use Rattle.prv_line.specs.Commands.{Settings}
use Rattle.prv_line.specs.Options.{Choice, option_word, head_word, spelled, is_allowed, without, IsValue, with_value, AreChoices, Options}
use Rattle.prv_line.specs.Steps.{Tells, option_count, TakesOption, TakesValue}
use Rattle.prv_line.specs.Usages.{Begins, IsRefused}
use Rattle.prv_line.specs.declared.error.LineError.{LineError}
use Rattle.prv_line.specs.declared.error.LineError.TheVariants.{Usage, Memory}
use Rattle.prv_line.specs.declared.option.OptionName.{OptionName}
use Rattle.prv_line.specs.declared.option.OptionName.TheVariants.{Turns, Lines, Settlements, Workers, Journal}
use Rattle.prv_line.specs.declared.option.Allowed.{Allowed}
use Rattle.prv_line.proofs.Heads.{head_word-injective}
use Rattle.prv_line.proofs.OptionLemmas.{put_option, drop_option}
use Rattle.prv_line.proofs.Refusals.{refused_first, refused_none, refused_behind}

abbrev pub one : OptionName → List ℕ → Bool → Choice
one n v joined = record { name = n; value = v; joined = joined }

-- no option at all
pub no_options : (allowed : Allowed) (s : Settings) → Options allowed s s []
no_options allowed s = record { choices = []; are_choices = tt; words_are = refl; settings_are = refl }

pub options_begin : (allowed : Allowed) (s : Settings) → Begins (Options allowed s) []
options_begin allowed s = ([], s, no_options allowed s)

-- the first word of options is that of an option that may be given
record IsHead (allowed : Allowed) (w : List ℕ) : Type 0 where
  name : OptionName
  value : Option (List ℕ)
  word_is : w ≡ head_word name value
  may : IsTrue (is_allowed allowed name)

first-of : (allowed : Allowed) (w : List ℕ) (ws rest : List (List ℕ)) (n : OptionName) (v : List ℕ) (joined : Bool) → w ∷ ws ≡ spelled (one n v joined) ++ rest
    → IsTrue (is_allowed allowed n) → IsHead allowed w
first-of allowed w ws rest n v true e may = record { name = n; value = Some v; word_is = cc; may = may }
first-of allowed w ws rest n v false e may = record { name = n; value = None; word_is = cc; may = may }

head-of-choices : (allowed : Allowed) (w : List ℕ) (ws : List (List ℕ)) (choices : List Choice) → AreChoices allowed choices → w ∷ ws ≡ flat_map spelled choices → IsHead allowed w
head-of-choices allowed w ws [] are e = absurd (cc)
head-of-choices allowed w ws (d ∷ ds) are e = first-of allowed w ws (flat_map spelled ds) d.name d.value d.joined e are.0

-- a word that begins no option that may be given is refused
pub refused_head : (allowed : Allowed) (s : Settings) (w : List ℕ) (ws : List (List ℕ))
    → ((n : OptionName) (value : Option (List ℕ)) → w ≡ head_word n value → IsTrue (is_allowed allowed n) → ⊥) → IsRefused (Options allowed s) (w ∷ ws) 0
refused_head allowed s w ws never = refused_first (Options allowed s) w ws (options_begin allowed s)
    (λ made rest o. let h = head-of-choices allowed w rest o.choices o.are_choices o.words_are in never h.name h.value h.word_is h.may)

-- an option that may not be given
pub refused_name : (allowed : Allowed) (s : Settings) (w : List ℕ) (ws : List (List ℕ)) (n : OptionName) (value : Option (List ℕ))
    → w ≡ head_word n value → is_allowed allowed n ≡ false → IsRefused (Options allowed s) (w ∷ ws) 0
refused_name allowed s w ws n value e never = refused_head allowed s w ws
    (λ m other f may.
    let same = (head_word-injective n m value other (sym e ∙ f)).0 in
    let F : OptionName → Type 0 = λ x. IsTrue (is_allowed allowed x) in
    not-both (is_allowed allowed n) never (subst F (sym same) may))
  where
    not-both : (b : Bool) → b ≡ false → IsTrue b → ⊥
    not-both true e h = cc
    not-both false e h = search rules

-- every option has a value
example : (n : OptionName) → IsValue n (codes "1")
example Turns = record { digits = search rules; short = omega arith; low = search rules; high = search rules }
example Lines = record { digits = search rules; short = omega arith; low = search rules; high = search rules }
example Settlements = record { digits = search rules; short = omega arith; low = search rules; high = search rules }
example Workers = record { digits = search rules; short = omega arith; low = search rules; high = search rules }
example Journal = search rules

-- what is read behind the word of an option
abbrev pub behind_word : Allowed → Settings → OptionName → Settings → List (List ℕ) → Type 0
behind_word allowed s n made rest = Options allowed s made (option_word n ∷ rest)

behind_word-begins : (allowed : Allowed) (s : Settings) (n : OptionName) → IsTrue (is_allowed allowed n) → Begins (behind_word allowed s n) []
behind_word-begins allowed s n may =
    let left = without n allowed in
    let after = with_value n (codes "1") s in
    (codes "1" ∷ [], after, put_option allowed s after (one n (codes "1") false) [] may (example n) (no_options left after))

-- the value is missing
pub refused_missing : (allowed : Allowed) (s : Settings) (w : List ℕ) (n : OptionName) → w ≡ option_word n → IsTrue (is_allowed allowed n)
    → IsRefused (Options allowed s) (w ∷ []) 1
refused_missing allowed s w n e may =
    let R = Options allowed s in
    let L = behind_word allowed s n in
    let F : List ℕ → Type 0 = λ x. IsRefused R (x ∷ []) 1 in
    subst F (sym e) (refused_behind L R (option_word n) (λ made rest o. (made, o)) (λ made rest o. (made, o)) [] 0
    (refused_none L (behind_word-begins allowed s n may) (λ made o. lonely n made o.choices o.are_choices o.words_are)))
  where
    lonely-choice : (n m : OptionName) (v : List ℕ) (joined : Bool) (rest : List (List ℕ)) → option_word n ∷ [] ≡ spelled (one m v joined) ++ rest → ⊥
    lonely-choice n m v true rest e =
        let words : head_word n None ≡ head_word m (Some v) = cc in
        let none = (head_word-injective n m None (Some v) words).1 in cc
    lonely-choice n m v false rest e = cc

    lonely : (n : OptionName) (made : Settings) (choices : List Choice) → AreChoices allowed choices → option_word n ∷ [] ≡ flat_map spelled choices → ⊥
    lonely n made [] are e = cc
    lonely n made (d ∷ ds) are e = lonely-choice n d.name d.value d.joined (flat_map spelled ds) e

-- the value is no value of the option
pub refused_value : (allowed : Allowed) (s : Settings) (n : OptionName) (v : List ℕ) (joined : Bool) (ws : List (List ℕ)) → IsTrue (is_allowed allowed n)
    → (IsValue n v → ⊥) → (k : ℕ) → k + 1 ≡ length (spelled (one n v joined)) → IsRefused (Options allowed s) (spelled (one n v joined) ++ ws) k
refused_value allowed s n v true ws may never k e =
    let R = Options allowed s in
    let F : ℕ → Type 0 = λ x. IsRefused R (head_word n (Some v) ∷ ws) x in
    let zero : 0 ≡ k = omega arith in
    subst F zero (refused_first R (head_word n (Some v)) ws (options_begin allowed s)
    (λ made rest o. never (drop_option allowed s made (one n v true) rest o).value))
refused_value allowed s n v false ws may never k e =
    let R = Options allowed s in
    let L = behind_word allowed s n in
    let F : ℕ → Type 0 = λ x. IsRefused R (option_word n ∷ v ∷ ws) x in
    let one_more : 1 ≡ k = omega arith in
    subst F one_more (refused_behind L R (option_word n) (λ made rest o. (made, o)) (λ made rest o. (made, o)) (v ∷ ws) 0
    (refused_first L v ws (behind_word-begins allowed s n may) (λ made rest o. never (drop_option allowed s made (one n v false) rest o).value)))

-- the same, where the word holds no value and no word is behind
pub refused_last : (allowed : Allowed) (s : Settings) (w : List ℕ) (ws : List (List ℕ)) (n : OptionName) (held : Option (List ℕ)) → w ≡ head_word n held → held ≡ None → ws ≡ []
    → IsTrue (is_allowed allowed n) → IsRefused (Options allowed s) (w ∷ ws) 1
refused_last allowed s w ws n held e none last may =
    let F : List (List ℕ) → Type 0 = λ x. IsRefused (Options allowed s) (w ∷ x) 1 in
    subst F (sym last) (refused_missing allowed s w n (e ∙ ap (λ x. head_word n x) none) may)

-- the option is read, and what stands behind it is refused
pub refused_later : (allowed : Allowed) (s : Settings) (n : OptionName) (v : List ℕ) (joined : Bool) (ws : List (List ℕ)) (j : ℕ) → IsTrue (is_allowed allowed n)
    → IsValue n v → IsRefused (Options (without n allowed) (with_value n v s)) ws j
    → (k : ℕ) → k ≡ length (spelled (one n v joined)) + j → IsRefused (Options allowed s) (spelled (one n v joined) ++ ws) k
refused_later allowed s n v true ws j may value h k e =
    let R = Options allowed s in
    let L = Options (without n allowed) (with_value n v s) in
    let F : ℕ → Type 0 = λ x. IsRefused R (head_word n (Some v) ∷ ws) x in
    let same : suc j ≡ k = omega arith in
    subst F same (refused_behind L R (head_word n (Some v)) (λ made rest o. (made, put_option allowed s made (one n v true) rest may value o))
    (λ made rest o. (made, (drop_option allowed s made (one n v true) rest o).rest)) ws j h)
refused_later allowed s n v false ws j may value h k e =
    let R = Options allowed s in
    let M = behind_word allowed s n in
    let L = Options (without n allowed) (with_value n v s) in
    let F : ℕ → Type 0 = λ x. IsRefused R (option_word n ∷ v ∷ ws) x in
    let same : suc (suc j) ≡ k = omega arith in
    subst F same (refused_behind M R (option_word n) (λ made rest o. (made, o)) (λ made rest o. (made, o)) (v ∷ ws) (suc j)
    (refused_behind L M v (λ made rest o. (made, put_option allowed s made (one n v false) rest may value o))
    (λ made rest o. (made, (drop_option allowed s made (one n v false) rest o).rest)) ws j h))

-- an option that was taken
pub takes : (allowed : Allowed) (w : List ℕ) (ws : List (List ℕ)) (at : ℕ) (n : OptionName) (held : Option (List ℕ)) (name : OptionName) (value : List ℕ) (last : ℕ) (behind : List (List ℕ))
    → w ≡ head_word n held → IsTrue (is_allowed allowed n) → TakesValue n held ws at name value last behind → TakesOption allowed (w ∷ ws) at name value last behind
takes allowed w ws at n (Some v) name value last behind e may x = record {
  joined = true;
  words_are = let same = x.0 in let held = x.1 in let rest = x.3 in cc;
  may = let F : OptionName → Type 0 = λ m. IsTrue (is_allowed allowed m) in subst F (sym x.0) may;
  last_is = let same = x.2 in omega arith;
}
takes allowed w ws at n None name value last behind e may x = record {
  joined = false;
  words_are = let same = x.0 in let rest = x.1 in cc;
  may = let F : OptionName → Type 0 = λ m. IsTrue (is_allowed allowed m) in subst F (sym x.0) may;
  last_is = let same = x.2 in omega arith;
}

-- what the option and the rest make together
pub take_ok : (allowed : Allowed) (from made : Settings) (words : List (List ℕ)) (at : ℕ) (n : OptionName) (v : List ℕ) (last : ℕ) (behind : List (List ℕ))
    → TakesOption allowed words at n v last behind → IsValue n v → (left : Allowed) (next : Settings) → left ≡ without n allowed → next ≡ with_value n v from
    → Options left next made behind → Options allowed from made words
take_ok allowed from made words at n v last behind t value left next left_is next_is o =
    let F : List (List ℕ) → Type 0 = λ ws. Options allowed from made ws in
    let G : Allowed → Type 0 = λ x. Options x next made behind in
    let H : Settings → Type 0 = λ x. Options (without n allowed) x made behind in
    subst F (sym t.words_are) (put_option allowed from made (one n v t.joined) behind t.may value (subst H next_is (subst G left_is o)))

-- which word is refused where the option's value isn't one
value_word : (n : OptionName) (v : List ℕ) (joined : Bool) (at last : ℕ) → last + 1 ≡ at + length (spelled (one n v joined))
    → (k : ℕ) × (last ≡ at + k) × (k + 1 ≡ length (spelled (one n v joined)))
value_word n v true at last e = (0, omega arith, omega arith)
value_word n v false at last e = (1, omega arith, omega arith)

pub take_value_refused : (allowed : Allowed) (from : Settings) (words : List (List ℕ)) (at : ℕ) (n : OptionName) (v : List ℕ) (last : ℕ) (behind : List (List ℕ))
    → TakesOption allowed words at n v last behind → (IsValue n v → ⊥) → Tells (Options allowed from) words at (Usage last)
take_value_refused allowed from words at n v last behind t never =
    let k = value_word n v t.joined at last t.last_is in
    let F : List (List ℕ) → Type 0 = λ ws. IsRefused (Options allowed from) ws k.0 in
    (k.0, k.1, subst F (sym t.words_are) (refused_value allowed from n v t.joined behind t.may never k.0 k.2))

-- which word is refused where the rest is
pub take_later : (allowed : Allowed) (from : Settings) (words : List (List ℕ)) (at : ℕ) (n : OptionName) (v : List ℕ) (last : ℕ) (behind : List (List ℕ))
    → TakesOption allowed words at n v last behind → IsValue n v → (left : Allowed) (next : Settings) → left ≡ without n allowed → next ≡ with_value n v from
    → (e : LineError) → Tells (Options left next) behind (last + 1) e → Tells (Options allowed from) words at e
take_later allowed from words at n v last behind t value left next left_is next_is (Usage word) told =
    let F : List (List ℕ) → Type 0 = λ ws. IsRefused (Options allowed from) ws (length (spelled (one n v t.joined)) + told.0) in
    let G : Allowed → Type 0 = λ x. IsRefused (Options x next) behind told.0 in
    let H : Settings → Type 0 = λ x. IsRefused (Options (without n allowed) x) behind told.0 in
    let last_is = t.last_is in
    let word_is = told.1 in (
      length (spelled (one n v t.joined)) + told.0,
      omega arith,
      subst F (sym t.words_are) (refused_later allowed from n v t.joined behind told.0 t.may value (subst H next_is (subst G left_is told.2)) _ refl),
    )
take_later allowed from words at n v last behind t value left next left_is next_is Memory told = tt

-- one option fewer
option_count-without : (n : OptionName) (allowed : Allowed) → IsTrue (is_allowed allowed n) → option_count (without n allowed) + 1 ≡ option_count allowed
option_count-without Turns allowed may = grind (arith, rules)
option_count-without Lines allowed may = grind (arith, rules)
option_count-without Settlements allowed may = grind (arith, rules)
option_count-without Workers allowed may = grind (arith, rules)
option_count-without Journal allowed may = grind (arith, rules)

few_words : (n : OptionName) (v : List ℕ) (joined : Bool) → length (spelled (one n v joined)) ≤ 2
few_words n v true = omega arith
few_words n v false = omega arith

-- the numbers of words stay small
pub take_few : (allowed : Allowed) (words : List (List ℕ)) (at : ℕ) (n : OptionName) (v : List ℕ) (last : ℕ) (behind : List (List ℕ)) (left : Allowed)
    → TakesOption allowed words at n v last behind → left ≡ without n allowed → at + 2 * option_count allowed < 100 → last + 1 + 2 * option_count left < 100
take_few allowed words at n v last behind left t left_is few =
    let one_less = option_count-without n allowed t.may in
    let same = ap (λ x. option_count x) left_is in
    let short = few_words n v t.joined in
    let last_is = t.last_is in
    omega arith

some_word : (n : OptionName) (v : List ℕ) (joined : Bool) → 1 ≤ length (spelled (one n v joined))
some_word n v true = omega arith
some_word n v false = omega arith

-- fewer words are left
pub take_fewer : (allowed : Allowed) (words : List (List ℕ)) (at : ℕ) (n : OptionName) (v : List ℕ) (last : ℕ) (behind : List (List ℕ))
    → TakesOption allowed words at n v last behind → length behind < length words
take_fewer allowed words at n v last behind t =
    omega (arith, ap length t.words_are, length-append (spelled (one n v t.joined)) behind, some_word n v t.joined)
