-- How the literals and the rests of a point go on by one parameter.
use Rattle.std.proofs.Common.{◌≡◌, ℕ, suc, ◌+◌, ◌<◌, List, [], ◌∷◌, ◌++◌, length, take, drop, get_or, ℤ, pos, sym, ap, ◌∙◌, arith, append_assoc}
use Rattle.std.proofs.lemmas.List.{drop_more, take_more, append-nil, length-take-le}
use Rattle.prv_model.specs.declared.term.Term.{Term}
use Rattle.prv_run.specs.Points.{equals, differs, open_entry, literals, rests}

-- the literals from a parameter on
pub literals-drop : (x : List ℤ) (k : ℕ) → k < length x → literals k (drop k x) ≡ equals k (get_or x k (pos 0)) ∷ literals (k + 1) (drop (k + 1) x)
literals-drop x k inside =
    ap (literals k) (drop_more x k (pos 0) inside)
    ∙ ap (λ (j : ℕ). equals k (get_or x k (pos 0)) ∷ literals j (drop (k + 1) x)) (omega arith)

-- one more word at the end
pub literals-append : (j : ℕ) (x : List ℤ) (n : ℤ) → literals j (x ++ n ∷ []) ≡ literals j x ++ equals (j + length x) n ∷ []
literals-append j [] n = ap (λ (i : ℕ). equals i n ∷ []) (omega arith)
literals-append j (m ∷ x) n =
    ap (λ (ts : List Term). equals j m ∷ ts) (literals-append (suc j) x n
    ∙ ap (λ (i : ℕ). literals (suc j) x ++ equals i n ∷ []) (omega arith))

-- the literals up to and with a parameter
pub literals-take : (x : List ℤ) (k : ℕ) → k < length x → literals 0 (take (k + 1) x) ≡ literals 0 (take k x) ++ equals k (get_or x k (pos 0)) ∷ []
literals-take x k inside =
    let front : length (take k x) ≡ k = length-take-le k x (omega arith) in
    ap (literals 0) (take_more x k (pos 0) inside)
    ∙ literals-append 0 (take k x) (get_or x k (pos 0))
    ∙ ap (λ (i : ℕ). literals 0 (take k x) ++ equals i (get_or x k (pos 0)) ∷ []) (omega arith)

-- the rests from a parameter on
pub rests-drop : (x : List ℤ) (k : ℕ) → k < length x →
    rests (2 + k) (literals 0 (take k x)) k (drop k x)
    ≡ open_entry (2 + k) (literals 0 (take k x) ++ differs k (get_or x k (pos 0)) ∷ []) ∷ rests (2 + (k + 1)) (literals 0 (take (k + 1) x)) (k + 1) (drop (k + 1) x)
rests-drop x k inside =
    let n = get_or x k (pos 0) in
    let front = literals 0 (take k x) in
    ap (rests (2 + k) front k) (drop_more x k (pos 0) inside)
    ∙ ap (λ (ts : List Term). open_entry (2 + k) (front ++ differs k n ∷ []) ∷ rests (suc (2 + k)) ts (suc k) (drop (k + 1) x)) (sym (literals-take x k inside))
    ∙ ap (λ (j : ℕ). open_entry (2 + k) (front ++ differs k n ∷ []) ∷ rests (suc (2 + k)) (literals 0 (take (k + 1) x)) j (drop (k + 1) x)) (omega arith)
    ∙ ap (λ (j : ℕ). open_entry (2 + k) (front ++ differs k n ∷ []) ∷ rests j (literals 0 (take (k + 1) x)) (k + 1) (drop (k + 1) x)) (omega arith)

-- what is made so far and what is left, after one more
pub one-more : {A : Type 0} (made new left rest whole : List A) (a : A) → new ≡ made ++ a ∷ [] → left ≡ a ∷ rest → made ++ left ≡ whole → new ++ rest ≡ whole
one-more {A} made new left rest whole a pushed next same =
    ap (λ (all : List A). all ++ rest) pushed ∙ append_assoc made (a ∷ []) rest ∙ ap (λ (all : List A). made ++ all) (sym next) ∙ same

-- nothing is left
pub all-made : {A : Type 0} (made left whole : List A) → left ≡ [] → made ++ left ≡ whole → made ≡ whole
all-made {A} made left whole none same = sym (append-nil made) ∙ ap (λ (all : List A). made ++ all) (sym none) ∙ same
