-- Words read as a command, or one of them is refused.
use Rattle.std.proofs.Common.{◌≡◌, ◌⊎◌, inl, inr, ℕ, suc, ◌+◌, ◌<◌, ◌≤◌, Bool, true, false, List, [], ◌∷◌, ◌++◌, length, ℤ, Option, None, Some, refl, sym, ◌∙◌, ap, subst, arith, rules, codes, map, length-append}
use Rattle.std.specs.Prelude.{IsTrue}
use Rattle.std.specs.List.{AllByRecursion}
use Rattle.std.specs.Str.Parse.{signed_digits_value}
use Rattle.std.proofs.lemmas.Bool.{cases_Bool}
use Rattle.prv_line.specs.Texts.{IsName, IsNumber, IsSigned}
use Rattle.prv_line.specs.Commands.{Settings, defaults, Command}
use Rattle.prv_line.specs.Options.{spelled, head_word, is_allowed, without, with_value, IsValue, Options, all_options, resume_options}
use Rattle.prv_line.specs.Readings.{Inputs, Reads}
use Rattle.prv_line.specs.Usages.{Begins, IsRefused, IsUsage}
use Rattle.prv_line.specs.declared.option.Allowed.{Allowed}
use Rattle.prv_line.specs.declared.option.OptionName.{OptionName}
use Rattle.prv_line.proofs.Decisions.{Decided, decided-lt, decided-name, decided-number, decided-signed, decided-value, decided-equal, IsHead, decided-head}
use Rattle.prv_line.proofs.Refusals.{BeginsWith, begins-with, refused_none, refused_word, refused_rest}
use Rattle.prv_line.proofs.InputLemmas.{inputs_begin, no_inputs, bad-word}
use Rattle.prv_line.proofs.OptionLemmas.{put_option}
use Rattle.prv_line.proofs.OptionSteps.{no_options, one, refused_head, refused_name, refused_missing, refused_value, refused_later}
use Rattle.prv_line.proofs.Slots.{after, named, named_slot, IsNamedCommand, command_slot, refused_after}
use Rattle.prv_line.proofs.CommandLemmas.{run, slice, point, explore, live, check, all_settings, all_settings_begin, nothing, word_too_many, sized, sized_slot, gen_slot, no_words_at_all, unknown_command}
use Rattle.prv_line.proofs.ResumeLemmas.{resume, resume_settings}

-- words are read, or one of them is refused
abbrev pub Answered : {V : Type 0} → (V → List (List ℕ) → Type 0) → List (List ℕ) → Type 0
Answered {V} R words = ((value : V) × R value words) ⊎ ((k : ℕ) × IsRefused R words k)

-- a word that satisfies P, and then what L reads
answered-slot : {U V : Type 0} (P : List ℕ → Type 0) (L : U → List (List ℕ) → Type 0) (M : V → List (List ℕ) → Type 0) → BeginsWith P L M
    → ((word : List ℕ) → Decided (P word)) → ((words : List (List ℕ)) → Answered L words) → (words : List (List ℕ)) → Answered M words
answered-slot P L M b decided behind [] = inr (0, refused_none M (begins-with P L M b) b.none)
answered-slot {U} P L M b decided behind (w ∷ ws) = by (decided w) (behind ws)
  where
    by : Decided (P w) → Answered L ws → Answered M (w ∷ ws)
    by (inl p) (inl (u, l)) = inl (b.into w u ws p l)
    by (inl p) (inr (k, r)) = inr (suc k, refused_rest P L M b w ws k p r)
    by (inr never) rest = inr (0, refused_word P L M b (w ∷ ws) (λ word more is p. let same : w ≡ word = cc in never (subst P (sym same) p)))

-- the words of an input
inputs-from : (front rest : List (List ℕ)) → AllByRecursion IsSigned front → length front ≤ 8 → Answered Inputs (front ++ rest)
inputs-from [] [] all few = inr (0, no_inputs)
inputs-from (w ∷ front) [] all few =
    let A : List (List ℕ) → Type 0 = λ ws. Answered Inputs ws in
    subst A (sym (nil-behind (w ∷ front))) (inl (map (signed_digits_value 10) (w ∷ front), record { some = omega arith; few = few; each = all; input_is = refl }))
  where
    nil-behind : (ws : List (List ℕ)) → ws ++ [] ≡ ws
    nil-behind [] = refl
    nil-behind (x ∷ xs) = ap (λ ys. x ∷ ys) (nil-behind xs)
inputs-from front (w ∷ rest) all few = by (decided-signed w) (decided-lt (length front) 8) (λ a f. inputs-from (front ++ w ∷ []) rest a f)
  where
    one-more : (xs : List (List ℕ)) → AllByRecursion IsSigned xs → IsSigned w → AllByRecursion IsSigned (xs ++ w ∷ [])
    one-more [] a s = (s, tt)
    one-more (x ∷ xs) a s = (a.0, one-more xs a.1 s)

    joined : (xs : List (List ℕ)) → (xs ++ w ∷ []) ++ rest ≡ xs ++ w ∷ rest
    joined [] = refl
    joined (x ∷ xs) = ap (λ ys. x ∷ ys) (joined xs)

    by : Decided (IsSigned w) → Decided (length front < 8) → (AllByRecursion IsSigned (front ++ w ∷ []) → length (front ++ w ∷ []) ≤ 8 → Answered Inputs ((front ++ w ∷ []) ++ rest)) → Answered Inputs (front ++ w ∷ rest)
    by (inl s) (inl short) go =
        let A : List (List ℕ) → Type 0 = λ ws. Answered Inputs ws in
        subst A (joined front) (go (one-more front all s) (omega (arith, length-append front (w ∷ []))))
    by (inl s) (inr long) go = inr (length front, bad-word front w rest all few (λ _ short. long short))
    by (inr never) short go = inr (length front, bad-word front w rest all few (λ s _. never s))

answered-inputs : (words : List (List ℕ)) → Answered Inputs words
answered-inputs words = inputs-from [] words tt (omega arith)

-- options, from the first word on
abbrev OptionsFrom : List (List ℕ) → Type 0
OptionsFrom words = (allowed : Allowed) (s : Settings) → Answered (Options allowed s) words

-- where the value of an option is refused
abbrev bad-place : Bool → ℕ
bad-place true = 0
bad-place false = 1

bad-place-is : (n : OptionName) (v : List ℕ) (joined : Bool) → bad-place joined + 1 ≡ length (spelled (one n v joined))
bad-place-is n v true = refl
bad-place-is n v false = refl

module _ (allowed : Allowed) (s : Settings) (n : OptionName) where
  -- an option that may be given, with its value
  with-value : (v : List ℕ) (joined : Bool) (ws : List (List ℕ)) → IsTrue (is_allowed allowed n) → OptionsFrom ws → Answered (Options allowed s) (spelled (one n v joined) ++ ws)
  with-value v joined ws may rest = by (decided-value n v) (rest (without n allowed) (with_value n v s))
    where
      by : Decided (IsValue n v) → Answered (Options (without n allowed) (with_value n v s)) ws → Answered (Options allowed s) (spelled (one n v joined) ++ ws)
      by (inl value) (inl (made, o)) = inl (made, put_option allowed s made (one n v joined) ws may value o)
      by (inl value) (inr (j, r)) = inr (length (spelled (one n v joined)) + j, refused_later allowed s n v joined ws j may value r _ refl)
      by (inr never) rest = inr (bad-place joined, refused_value allowed s n v joined ws may never (bad-place joined) (bad-place-is n v joined))

-- the word of an option stands first
module _ (allowed : Allowed) (s : Settings) (w : List ℕ) (h : IsHead w) (may : IsTrue (is_allowed allowed h.name)) where
  moved : (words ws : List (List ℕ)) → ws ≡ words → Answered (Options allowed s) ws → Answered (Options allowed s) words
  moved words ws is a = subst (λ (x : List (List ℕ)). Answered (Options allowed s) x) is a

  last-option : (value : Option (List ℕ)) → h.value ≡ value → OptionsFrom [] → Answered (Options allowed s) (w ∷ [])
  last-option (Some v) is rest = moved (w ∷ []) (spelled (one h.name v true) ++ []) (ap (λ (x : List ℕ). x ∷ []) (ap (head_word h.name) (sym is) ∙ sym h.is)) (with-value allowed s h.name v true [] may rest)
  last-option None is rest = inr (1, refused_missing allowed s w h.name (h.is ∙ ap (head_word h.name) is) may)

  more-options : (value : Option (List ℕ)) → h.value ≡ value → (v : List ℕ) (ws : List (List ℕ)) → OptionsFrom (v ∷ ws) → OptionsFrom ws → Answered (Options allowed s) (w ∷ v ∷ ws)
  more-options (Some held) is v ws next behind =
      moved (w ∷ v ∷ ws) (spelled (one h.name held true) ++ v ∷ ws) (ap (λ (x : List ℕ). x ∷ v ∷ ws) (ap (head_word h.name) (sym is) ∙ sym h.is)) (with-value allowed s h.name held true (v ∷ ws) may next)
  more-options None is v ws next behind =
      moved (w ∷ v ∷ ws) (spelled (one h.name v false) ++ ws) (ap (λ (x : List ℕ). x ∷ v ∷ ws) (ap (head_word h.name) (sym is) ∙ sym h.is)) (with-value allowed s h.name v false ws may behind)

true-is : (b : Bool) → b ≡ true → IsTrue b
true-is true is = search rules
true-is false is = cc

-- the first word, and then what is answered where it is the word of an option that may be given
first-word : (allowed : Allowed) (s : Settings) (w : List ℕ) (ws : List (List ℕ)) → ((h : IsHead w) → IsTrue (is_allowed allowed h.name) → Answered (Options allowed s) (w ∷ ws)) → Answered (Options allowed s) (w ∷ ws)
first-word allowed s w ws given = by (decided-head w)
  where
    of-head : (h : IsHead w) → (is_allowed allowed h.name ≡ true) ⊎ (is_allowed allowed h.name ≡ false) → Answered (Options allowed s) (w ∷ ws)
    of-head h (inl may) = given h (true-is (is_allowed allowed h.name) may)
    of-head h (inr never) = inr (0, refused_name allowed s w ws h.name h.value h.is never)

    by : Decided (IsHead w) → Answered (Options allowed s) (w ∷ ws)
    by (inl h) = of-head h (cases_Bool (is_allowed allowed h.name))
    by (inr never) = inr (0, refused_head allowed s w ws (λ n value is may. never (record { name = n; value = value; is = is })))

answered-options : (words : List (List ℕ)) → OptionsFrom words
answered-options [] allowed s = inl (s, no_options allowed s)
answered-options (w ∷ []) allowed s = first-word allowed s w [] (λ h may. last-option allowed s w h may h.value refl (answered-options []))
answered-options (w ∷ v ∷ ws) allowed s =
    first-word allowed s w (v ∷ ws) (λ h may. more-options allowed s w h may h.value refl v ws (answered-options (v ∷ ws)) (answered-options ws))

-- the words behind the word of a command
answered-after : {U : Type 0} (L : U → List (List ℕ) → Type 0) (word : List ℕ) → IsNamedCommand L word → ((words : List (List ℕ)) → Answered L words) → (words : List (List ℕ)) → Answered (after word) words
answered-after L word n behind words = answered-slot IsName L (after word) (command_slot L word n) decided-name behind words

answered-named : {U : Type 0} (L : U → List (List ℕ) → Type 0) → Begins L [] → ((words : List (List ℕ)) → Answered L words) → (words : List (List ℕ)) → Answered (named L) words
answered-named L begins behind words = answered-slot IsName L (named L) (named_slot L begins) decided-name behind words

answered-nothing : (words : List (List ℕ)) → Answered nothing words
answered-nothing [] = inl (tt, refl)
answered-nothing (w ∷ ws) = inr (0, word_too_many (w ∷ ws) (λ e. cc))

answered-sized : (words : List (List ℕ)) → Answered sized words
answered-sized words = answered-slot (IsNumber 1 50) nothing sized sized_slot (decided-number 1 50) answered-nothing words

answered-gen : (words : List (List ℕ)) → Answered (after (codes "gen")) words
answered-gen words = answered-slot (IsNumber 0 4294967295) sized (after (codes "gen")) gen_slot (decided-number 0 4294967295) answered-sized words

-- the first word is that of a command
of-command : (command word : List ℕ) (ws : List (List ℕ)) → word ≡ command → Answered (after command) ws → Answered Reads (word ∷ ws)
of-command command word ws is (inl (c, r)) = inl (c, subst (λ (x : List ℕ). Reads c (x ∷ ws)) (sym is) r)
of-command command word ws is (inr (k, r)) = inr (suc k, subst (λ (x : List ℕ). IsUsage (x ∷ ws) (suc k)) (sym is) (refused_after command ws k r))

-- one command is tried after the other
try : (command word : List ℕ) (ws : List (List ℕ)) → Answered (after command) ws → ((word ≡ command → ⊥) → Answered Reads (word ∷ ws)) → Answered Reads (word ∷ ws)
try command word ws answered others = by (decided-equal word command)
  where
    by : Decided (word ≡ command) → Answered Reads (word ∷ ws)
    by (inl is) = of-command command word ws is answered
    by (inr never) = others never

pub answered-words : (words : List (List ℕ)) → Answered Reads words
answered-words [] = inr (0, no_words_at_all)
answered-words (w ∷ ws) =
    let settings = λ (words : List (List ℕ)). answered-options words all_options defaults in
    try (codes "run") w ws (answered-after Inputs (codes "run") run answered-inputs ws) (λ no_run.
    try (codes "point") w ws (answered-after (named Inputs) (codes "point") point (answered-named Inputs inputs_begin answered-inputs) ws) (λ no_point.
    try (codes "slice") w ws (answered-after Inputs (codes "slice") slice answered-inputs ws) (λ no_slice.
    try (codes "explore") w ws (answered-after (named all_settings) (codes "explore") explore (answered-named all_settings all_settings_begin settings) ws) (λ no_explore.
    try (codes "live") w ws (answered-after (named all_settings) (codes "live") live (answered-named all_settings all_settings_begin settings) ws) (λ no_live.
    try (codes "resume") w ws (answered-after resume_settings (codes "resume") resume (λ words. answered-options words resume_options defaults) ws) (λ no_resume.
    try (codes "check") w ws (answered-after nothing (codes "check") check answered-nothing ws) (λ no_check.
    try (codes "gen") w ws (answered-gen ws) (λ no_gen.
    inr (0, unknown_command w ws (record { no_run = no_run; no_point = no_point; no_slice = no_slice; no_explore = no_explore; no_live = no_live; no_resume = no_resume; no_check = no_check; no_gen = no_gen }))))))))))
