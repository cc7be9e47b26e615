-- Counts that never fall, and the names that they leave.
use Rattle.std.proofs.Common.{◌≡◌, ℕ, ◌≤◌, zero, suc, Bool, true, false, List, [], ◌∷◌, ◌++◌, length, take, fold, refl, sym, ◌∙◌, ap, subst, arith, if◌then◌else◌}
use Rattle.std.proofs.lemmas.List.{take-append-le, length-append, length-take-le}
use Rattle.std.proofs.lemmas.List.Sums.{fold-append}
use Rattle.prv_names.specs.Scopes.{Standing, has, add, leave}
use Rattle.prv_names.specs.ScopeStacks.{around_of, IsNested}

pub nested-bound : (n : ℕ) (starts : List ℕ) (m : ℕ) → IsNested n starts m → n ≤ m
nested-bound n [] m h = h
nested-bound n (k ∷ rest) m h = let more : k ≤ m = nested-bound k rest m h.1 in let less : n ≤ k = h.0 in omega arith

pub nested-more : (n : ℕ) (starts : List ℕ) (m k : ℕ) → IsNested n starts m → m ≤ k → IsNested n starts k
nested-more n [] m k h more = let here : n ≤ m = h in omega arith
nested-more n (s ∷ rest) m k h more = (h.0, nested-more s rest m k h.1 more)

pub nested-push : (n : ℕ) (starts : List ℕ) (m : ℕ) → IsNested n starts m → IsNested n (starts ++ m ∷ []) m
nested-push n [] m h = (h, omega arith)
nested-push n (s ∷ rest) m h = (h.0, nested-push s rest m h.1)

pub nested-pop : (n : ℕ) (starts : List ℕ) (k m : ℕ) → IsNested n (starts ++ k ∷ []) m → IsNested n starts k × (k ≤ m)
nested-pop n [] k m h = h
nested-pop n (s ∷ rest) k m h = let inner = nested-pop s rest k m h.1 in ((h.0, inner.0), inner.1)

pub take-take : {A : Type 0} (k m : ℕ) (xs : List A) → k ≤ m → take k (take m xs) ≡ take k xs
take-take zero m xs h = refl
take-take (suc k) zero xs h = absurd (omega arith)
take-take (suc k) (suc m) [] h = refl
take-take {A} (suc k) (suc m) (x ∷ xs) h = ap (λ (front : List A). x ∷ front) (take-take k m xs (omega arith))

-- names that agree up to m leave the same around counts up to m
pub around-same : (acc : List (List (List ℕ))) (n : ℕ) (starts : List ℕ) (m : ℕ) (v w : List (List ℕ)) → IsNested n starts m → take m v ≡ take m w
    → fold (λ outer k. take k v ∷ outer) acc starts ≡ fold (λ outer k. take k w ∷ outer) acc starts
around-same acc n [] m v w h same = refl
around-same acc n (k ∷ rest) m v w h same =
    let below : k ≤ m = nested-bound k rest m h.1 in
    let here : take k v ≡ take k w = sym (take-take k m v below) ∙ ap (take k) same ∙ take-take k m w below in
    ap (λ (names : List (List ℕ)). fold (λ outer j. take j v ∷ outer) (names ∷ acc) rest) here
    ∙ around-same (take k w ∷ acc) k rest m v w h.1 same

pub around-push : (starts : List ℕ) (k : ℕ) (v : List (List ℕ)) → around_of (starts ++ k ∷ []) v ≡ take k v ∷ around_of starts v
around-push starts k v = fold-append (λ outer n. take n v ∷ outer) [] starts (k ∷ [])

pub take-add : (x : List ℕ) (names : List (List ℕ)) → take (length names) (add x names) ≡ take (length names) names
take-add x names = by (has x names)
  where
    by : (b : Bool) → take (length names) (if b then names else names ++ x ∷ []) ≡ take (length names) names
    by true = refl
    by false = take-append-le (length names) names (x ∷ []) (omega arith)

pub length-add : (x : List ℕ) (names : List (List ℕ)) → length names ≤ length (add x names)
length-add x names = by (has x names)
  where
    by : (b : Bool) → length names ≤ length (if b then names else names ++ x ∷ [])
    by true = omega arith
    by false = omega (arith, length-append names (x ∷ []))

abbrev stand : List (List ℕ) → List (List ℕ) → List (List (List ℕ)) → Standing
stand declared visible around = record { declared = declared; visible = visible; around = around }

module _ (declared visible new : List (List ℕ)) (starts rest : List ℕ) (k : ℕ) (split : starts ≡ rest ++ k ∷ []) (cut : new ≡ take k visible)
    (nested : IsNested 0 starts (length visible)) where
  inner : IsNested 0 rest k × (k ≤ length visible)
  inner = nested-pop 0 rest k (length visible) (subst (λ (l : List ℕ). IsNested 0 l (length visible)) split nested)

  -- the end of a block
  pub closed : stand declared new (around_of rest new) ≡ leave (stand declared visible (around_of starts visible)) (around_of starts visible)
  closed =
      let stays : around_of rest new ≡ around_of rest visible =
      ap (around_of rest) cut ∙ around-same [] 0 rest k (take k visible) visible inner.0 (take-take k k visible (omega arith)) in
      let outer : around_of starts visible ≡ take k visible ∷ around_of rest visible =
      ap (λ (l : List ℕ). around_of l visible) split ∙ around-push rest k visible in
      ap (λ (names : List (List ℕ)). stand declared names (around_of rest new)) cut
      ∙ ap (λ (around : List (List (List ℕ))). stand declared (take k visible) around) stays
      ∙ sym (ap (λ (around : List (List (List ℕ))). leave (stand declared visible (around_of starts visible)) around) outer)

  pub closed-nested : IsNested 0 rest (length new)
  closed-nested = subst (λ (n : ℕ). IsNested 0 rest n) (sym (length-take-le k visible inner.1) ∙ ap length (sym cut)) inner.0

-- the end of a declaration
pub entered : (declared visible left : List (List ℕ)) (starts : List ℕ) (x : List ℕ) (new : List (List ℕ)) → IsNested 0 starts (length visible)
    → left ≡ add x declared → new ≡ add x visible
    → stand left new (around_of starts new) ≡ stand (add x declared) (add x visible) (around_of starts visible)
entered declared visible left starts x new nested is here =
    ap (λ (names : List (List ℕ)). stand names new (around_of starts new)) is
    ∙ ap (λ (names : List (List ℕ)). stand (add x declared) names (around_of starts names)) here
    ∙ ap (λ (around : List (List (List ℕ))). stand (add x declared) (add x visible) around) (around-same [] 0 starts (length visible) (add x visible) visible nested (take-add x visible))

pub entered-nested : (visible : List (List ℕ)) (starts : List ℕ) (x : List ℕ) (new : List (List ℕ)) → IsNested 0 starts (length visible) → new ≡ add x visible → IsNested 0 starts (length new)
entered-nested visible starts x new nested here =
    subst (λ (names : List (List ℕ)). IsNested 0 starts (length names)) (sym here) (nested-more 0 starts (length visible) (length (add x visible)) nested (length-add x visible))
