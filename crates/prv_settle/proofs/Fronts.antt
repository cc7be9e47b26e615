-- A term over n parameters has one value on inputs whose first n words are the same.
use Rattle.std.proofs.Common.{◌≡◌, ℕ, ◌≤◌, ◌<◌, Bool, true, ◌&&◌, not, List, [], ◌∷◌, Option, ℤ, pos, if◌then◌else◌, refl, sym, ap, ◌∙◌, subst, arith, slice_get, nat_lt, unwrap_or}
use Rattle.std.specs.List.{AllByRecursion}
use Rattle.prv_model.specs.Words.{is_zero}
use Rattle.prv_model.specs.Terms.{IsTerm, term_value, holds, node_term_value, node_is_term, total}
use Rattle.prv_model.specs.declared.term.Term.{Term, roll-Term, map-Term}
use Rattle.prv_model.specs.declared.term.Term.TheOpen.{Term-F}
use Rattle.prv_model.specs.declared.term.Term.TheFolds.{fold-roll-Term, ind-Term}
use Rattle.prv_dep.proofs.DependenceLaws.{and-left, and-right}

-- two inputs have the same first words
abbrev pub Alike : ℕ → List ℤ → List ℤ → Type 0
Alike n x y = (k : ℕ) → k < n → slice_get x k ≡ slice_get y k

abbrev SameValue : ℕ → List ℤ → List ℤ → Term → Type 0
SameValue n x y t = IsTerm n t → term_value t x ≡ term_value t y

value-step : (n : ℕ) (x y : List ℤ) → Alike n x y → (z : Term-F ((t : Term) × SameValue n x y t)) → SameValue n x y (roll-Term (map-Term ((t : Term) × SameValue n x y t) Term (λ e. e.0) z))
value-step n x y h (Term-F.Param k) = λ e.
    let f : nat_lt k n ≡ true = sym (fold-roll-Term Bool (node_is_term n) (Term-F.Param k)) ∙ e in
    rw (fold-roll-Term (List ℤ → ℤ) node_term_value (Term-F.Param k)) (ap (λ (o : Option ℤ). unwrap_or o (pos 0)) (h k (grind (arith, f))))
value-step n x y h (Term-F.Op op a b) = λ e.
    let f = sym (fold-roll-Term Bool (node_is_term n) (Term-F.Op op a.0 b.0)) ∙ e in
    let first = a.1 (and-left _ _ f) in
    let second = b.1 (and-right _ _ f) in
    rw (fold-roll-Term (List ℤ → ℤ) node_term_value (Term-F.Op op a.0 b.0)) (λ i. total op (first i) (second i))
value-step n x y h (Term-F.Pick test chosen other) = λ e.
    let f = sym (fold-roll-Term Bool (node_is_term n) (Term-F.Pick test.0 chosen.0 other.0)) ∙ e in
    let g = and-right _ _ f in
    let one = test.1 (and-left _ _ f) in
    let two = chosen.1 (and-left _ _ g) in
    let three = other.1 (and-right _ _ g) in
    rw (fold-roll-Term (List ℤ → ℤ) node_term_value (Term-F.Pick test.0 chosen.0 other.0)) (λ i. if is_zero (one i) then three i else two i)
value-step n x y h (Term-F.Num w) = λ e. rw (fold-roll-Term (List ℤ → ℤ) node_term_value (Term-F.Num w)) refl

pub value-alike : (n : ℕ) (x y : List ℤ) → Alike n x y → (t : Term) → IsTerm n t → term_value t x ≡ term_value t y
value-alike n x y h t e = ind-Term (SameValue n x y) (λ z d is. subst (λ w. SameValue n x y (roll-Term w)) is (value-step n x y h d)) t e

pub holds-alike : (n : ℕ) (x y : List ℤ) → Alike n x y → (ts : List Term) → AllByRecursion (IsTerm n) ts → holds ts x ≡ holds ts y
holds-alike n x y h [] all = refl
holds-alike n x y h (t ∷ ts) all =
    let here = value-alike n x y h t all.0 in
    let rest = holds-alike n x y h ts all.1 in
    λ i. not (is_zero (here i)) && rest i

-- ---- a term over some parameters is one over more

abbrev Wider : ℕ → ℕ → Term → Type 0
Wider n m t = IsTerm n t → IsTerm m t

wider-step : (n m : ℕ) → n ≤ m → (z : Term-F ((t : Term) × Wider n m t)) → Wider n m (roll-Term (map-Term ((t : Term) × Wider n m t) Term (λ e. e.0) z))
wider-step n m le (Term-F.Param k) = λ e.
    let f : nat_lt k n ≡ true = sym (fold-roll-Term Bool (node_is_term n) (Term-F.Param k)) ∙ e in
    let g : nat_lt k m ≡ true = grind (arith, f, le) in
    fold-roll-Term Bool (node_is_term m) (Term-F.Param k) ∙ g
wider-step n m le (Term-F.Op op a b) = λ e.
    let f = sym (fold-roll-Term Bool (node_is_term n) (Term-F.Op op a.0 b.0)) ∙ e in
    let first = a.1 (and-left _ _ f) in
    let second = b.1 (and-right _ _ f) in
    fold-roll-Term Bool (node_is_term m) (Term-F.Op op a.0 b.0) ∙ (λ i. first i && second i)
wider-step n m le (Term-F.Pick test chosen other) = λ e.
    let f = sym (fold-roll-Term Bool (node_is_term n) (Term-F.Pick test.0 chosen.0 other.0)) ∙ e in
    let g = and-right _ _ f in
    let one = test.1 (and-left _ _ f) in
    let two = chosen.1 (and-left _ _ g) in
    let three = other.1 (and-right _ _ g) in
    fold-roll-Term Bool (node_is_term m) (Term-F.Pick test.0 chosen.0 other.0) ∙ (λ i. one i && (two i && three i))
wider-step n m le (Term-F.Num w) = λ e.
    fold-roll-Term Bool (node_is_term m) (Term-F.Num w) ∙ (sym (fold-roll-Term Bool (node_is_term n) (Term-F.Num w)) ∙ e)

wider : (n m : ℕ) → n ≤ m → (t : Term) → IsTerm n t → IsTerm m t
wider n m le t e = ind-Term (Wider n m) (λ z d is. subst (λ w. Wider n m (roll-Term w)) is (wider-step n m le d)) t e

pub all-wider : (n m : ℕ) → n ≤ m → (ts : List Term) → AllByRecursion (IsTerm n) ts → AllByRecursion (IsTerm m) ts
all-wider n m le [] h = tt
all-wider n m le (t ∷ ts) h = (wider n m le t h.0, all-wider n m le ts h.1)
