-- What options are when the first of them is known.
use Rattle.std.proofs.Common.{◌≡◌, ℕ, List, [], ◌∷◌, ◌++◌, Bool, true, false, None, Some, refl, sym, ◌∙◌, ap, subst, flat_map}
use Rattle.std.specs.Prelude.{IsTrue}
use Rattle.prv_line.specs.Commands.{Settings}
use Rattle.prv_line.specs.Options.{Choice, head_word, spelled, is_allowed, without, IsValue, with_value, AreChoices, settled, Options}
use Rattle.prv_line.specs.declared.option.OptionName.{OptionName}
use Rattle.prv_line.specs.declared.option.Allowed.{Allowed}
use Rattle.prv_line.proofs.Heads.{head_word-injective}

choice : OptionName → List ℕ → Bool → Choice
choice n v joined = record { name = n; value = v; joined = joined }

-- two choices that begin the same words are one
same : (n m : OptionName) (v w : List ℕ) (i j : Bool) (ws vs : List (List ℕ)) → spelled (choice n v i) ++ ws ≡ spelled (choice m w j) ++ vs
    → (choice n v i ≡ choice m w j) × (ws ≡ vs)
unfolding choice
same n m v w true true ws vs e =
    let heads : head_word n (Some v) ≡ head_word m (Some w) = cc in
    let h = head_word-injective n m (Some v) (Some w) heads in
    let name = h.0 in
    let value : v ≡ w = let some = h.1 in cc in
    let rest : ws ≡ vs = cc in
    (cc, rest)
same n m v w true false ws vs e =
    let heads : head_word n (Some v) ≡ head_word m None = cc in
    let none = (head_word-injective n m (Some v) None heads).1 in
    absurd (cc)
same n m v w false true ws vs e =
    let heads : head_word n None ≡ head_word m (Some w) = cc in
    let none = (head_word-injective n m None (Some w) heads).1 in
    absurd (cc)
same n m v w false false ws vs e =
    let heads : head_word n None ≡ head_word m None = cc in
    let name = (head_word-injective n m None None heads).0 in
    let value : v ≡ w = cc in
    let rest : ws ≡ vs = cc in
    (cc, rest)

pub same_choice : (c d : Choice) (ws vs : List (List ℕ)) → spelled c ++ ws ≡ spelled d ++ vs → (c ≡ d) × (ws ≡ vs)
unfolding choice
same_choice c d ws vs e = same c.name d.name c.value d.value c.joined d.joined ws vs e

-- a choice has words
spelled-some : (n : OptionName) (v : List ℕ) (joined : Bool) (ws : List (List ℕ)) → spelled (choice n v joined) ++ ws ≡ [] → ⊥
unfolding choice
spelled-some n v true ws e = cc
spelled-some n v false ws e = cc

pub no_choice : (c : Choice) (ws : List (List ℕ)) → spelled c ++ ws ≡ [] → ⊥
unfolding choice
no_choice c ws e = spelled-some c.name c.value c.joined ws e

pub same_choices : (cs ds : List Choice) → flat_map spelled cs ≡ flat_map spelled ds → cs ≡ ds
same_choices [] [] e = refl
same_choices [] (d ∷ ds) e = absurd (no_choice d (flat_map spelled ds) (sym e))
same_choices (c ∷ cs) [] e = absurd (no_choice c (flat_map spelled cs) e)
same_choices (c ∷ cs) (d ∷ ds) e =
    let h = same_choice c d (flat_map spelled cs) (flat_map spelled ds) e in
    let head = h.0 in
    let rest = same_choices cs ds h.1 in
    cc

-- options make one thing out of some settings
pub same_settings : (allowed : Allowed) (from a b : Settings) (words : List (List ℕ)) → Options allowed from a words → Options allowed from b words → a ≡ b
same_settings allowed from a b words o p =
    let choices = same_choices o.choices p.choices (sym o.words_are ∙ p.words_are) in
    o.settings_are ∙ ap (λ cs. settled from cs) choices ∙ sym p.settings_are

-- one more option in front
pub put_option : (allowed : Allowed) (from made : Settings) (c : Choice) (ws : List (List ℕ)) → IsTrue (is_allowed allowed c.name) → IsValue c.name c.value
    → Options (without c.name allowed) (with_value c.name c.value from) made ws → Options allowed from made (spelled c ++ ws)
put_option allowed from made c ws may value o = record {
  choices = c ∷ o.choices;
  are_choices = (may, value, o.are_choices);
  words_are = ap (λ rest. spelled c ++ rest) o.words_are;
  settings_are = o.settings_are;
}

-- what is read behind the first option
pub record Behind (allowed : Allowed) (from made : Settings) (c : Choice) (ws : List (List ℕ)) : Type 0 where
  pub may : IsTrue (is_allowed allowed c.name)
  pub value : IsValue c.name c.value
  pub rest : Options (without c.name allowed) (with_value c.name c.value from) made ws

split : (allowed : Allowed) (from made : Settings) (c : Choice) (ws : List (List ℕ)) (choices : List Choice) → AreChoices allowed choices
    → spelled c ++ ws ≡ flat_map spelled choices → made ≡ settled from choices → Behind allowed from made c ws
split allowed from made c ws [] are e s = absurd (no_choice c ws e)
split allowed from made c ws (d ∷ ds) are e s =
    let h = same_choice c d ws (flat_map spelled ds) e in
    let F : Choice → Type 0 = λ x. Behind allowed from made x ws in
    subst F (sym h.0) (record { may = are.0; value = are.1; rest = record { choices = ds; are_choices = are.2; words_are = h.1; settings_are = s } })

pub drop_option : (allowed : Allowed) (from made : Settings) (c : Choice) (ws : List (List ℕ)) → Options allowed from made (spelled c ++ ws) → Behind allowed from made c ws
drop_option allowed from made c ws o = split allowed from made c ws o.choices o.are_choices o.words_are o.settings_are
