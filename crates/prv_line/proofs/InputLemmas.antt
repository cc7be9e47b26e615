-- Where the words of an input are refused.
use Rattle.std.proofs.Common.{◌≡◌, ℕ, suc, ◌<◌, ◌≤◌, List, [], ◌∷◌, ◌++◌, length, take, drop, get_or, map, refl, sym, ◌∙◌, ap, subst, arith, rules, codes, Bor, length-append}
use Rattle.std.specs.List.{AllByRecursion}
use Rattle.std.specs.Str.Parse.{signed_digits_value}
use Rattle.std.proofs.lemmas.List.{take-append-drop, map-append, append-nil, length-map, length-take-le}
use Rattle.std.proofs.Math.Seq.{take-append_seam, take-append-add, drop-cons}
use Rattle.prv_line.specs.Texts.{IsSigned}
use Rattle.prv_line.specs.Readings.{Inputs}
use Rattle.prv_line.specs.Usages.{Begins, IsRefused}
use Rattle.prv_line.specs.Views.{texts}

all-append : (xs ys : List (List ℕ)) → AllByRecursion IsSigned xs → AllByRecursion IsSigned ys → AllByRecursion IsSigned (xs ++ ys)
all-append [] ys a b = b
all-append (x ∷ xs) ys a b = (a.0, all-append xs ys a.1 b)

-- the element behind a front is among them all
all-at : (xs : List (List ℕ)) (w : List ℕ) (ys : List (List ℕ)) → AllByRecursion IsSigned (xs ++ w ∷ ys) → IsSigned w
all-at [] w ys a = a.0
all-at (x ∷ xs) w ys a = all-at xs w ys a.1

nought : IsSigned (codes "0")
nought = record { unsigned = search rules; digits = search rules; short = omega arith; fits = search rules }

-- words that can be an input's, as far as they go, begin one
begins-inputs : (front : List (List ℕ)) → AllByRecursion IsSigned front → length front ≤ 8 → Begins Inputs front
begins-inputs [] all few = (codes "0" ∷ [], map (signed_digits_value 10) (codes "0" ∷ []), record { some = omega arith; few = omega arith; each = (nought, tt); input_is = refl })
begins-inputs (w ∷ ws) all few = (
  [],
  map (signed_digits_value 10) (w ∷ ws),
  let F : List (List ℕ) → Type 0 = λ all_words. Inputs (map (signed_digits_value 10) (w ∷ ws)) all_words in
      subst F (sym (append-nil (w ∷ ws))) (record { some = omega arith; few = few; each = all; input_is = refl }),
)

pub inputs_begin : Begins Inputs []
inputs_begin = begins-inputs [] tt (omega arith)

-- no words are no input
pub no_inputs : IsRefused Inputs [] 0
no_inputs = record {
  within = omega arith;
  begins = inputs_begin;
  refused = λ below begun. absurd (omega arith);
  short = λ e v i. let some = i.some in omega arith;
}

pub no_words_refused : (words : List (Bor (List ℕ))) → length words ≡ 0 → IsRefused Inputs (texts words) 0
no_words_refused [] e = no_inputs
no_words_refused (w ∷ ws) e = absurd (omega arith)

-- a word that is no number, or is the ninth
pub bad-word : (front : List (List ℕ)) (w : List ℕ) (rest : List (List ℕ)) → AllByRecursion IsSigned front → length front ≤ 8 → (IsSigned w → length front < 8 → ⊥)
    → IsRefused Inputs (front ++ w ∷ rest) (length front)
bad-word front w rest all few wrong = record {
  within = omega (arith, length-append front (w ∷ rest));
  begins = let F : List (List ℕ) → Type 0 = λ ws. Begins Inputs ws in subst F (sym (take-append_seam front (w ∷ rest))) (begins-inputs front all few);
  refused = λ below begun.
      let F : List (List ℕ) → Type 0 = λ ws. Begins Inputs ws in
      let m : Begins Inputs (front ++ w ∷ []) = subst F (take-append-add front (w ∷ rest) 1) begun in
      let A : List (List ℕ) → Type 0 = λ ws. AllByRecursion IsSigned ws in
      let short = m.2.few in
      wrong (all-at front w m.0 (subst A (assoc front w m.0) m.2.each))
      (omega (arith, short, length-append (front ++ w ∷ []) m.0, length-append front (w ∷ [])));
  short = λ e v i. absurd (omega (arith, length-append front (w ∷ rest)));
}
  where
    assoc : (xs : List (List ℕ)) (x : List ℕ) (ys : List (List ℕ)) → (xs ++ x ∷ []) ++ ys ≡ xs ++ x ∷ ys
    assoc [] x ys = refl
    assoc (y ∷ xs) x ys = ap (λ zs. y ∷ zs) (assoc xs x ys)

-- what stands in front of a place, at it, and behind it
parts : (words : List (Bor (List ℕ))) (k : ℕ) (d : Bor (List ℕ)) → k < length words → words ≡ take k words ++ get_or words k d ∷ drop (suc k) words
parts words k d below = sym (take-append-drop k words) ∙ ap (λ back. take k words ++ back) (drop-cons words k d below)

pub refused_at : (words : List (Bor (List ℕ))) (k : ℕ) (d : Bor (List ℕ)) → k < length words → AllByRecursion IsSigned (texts (take k words)) → k ≤ 8
    → (IsSigned (get_or words k d).now → k < 8 → ⊥) → IsRefused Inputs (texts words) k
refused_at words k d below all few wrong =
    let front : length (texts (take k words)) ≡ k = length-map (take k words) (λ (w : Bor (List ℕ)). w.now) ∙ length-take-le k words (omega arith) in
    let whole : texts words ≡ texts (take k words) ++ (get_or words k d).now ∷ texts (drop (suc k) words) =
    ap texts (parts words k d below) ∙ map-append (λ (w : Bor (List ℕ)). w.now) (take k words) (get_or words k d ∷ drop (suc k) words) in
    let F : ℕ → Type 0 = λ n. IsRefused Inputs (texts words) n in
    let G : List (List ℕ) → Type 0 = λ ws. IsRefused Inputs ws (length (texts (take k words))) in
    subst F front (subst G (sym whole) (bad-word (texts (take k words)) (get_or words k d).now (texts (drop (suc k) words)) all (omega arith) (λ s h. wrong s (omega arith))))
