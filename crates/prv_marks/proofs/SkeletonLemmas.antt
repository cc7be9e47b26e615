-- Skeletons: where they differ first, and that they are equal where they don't.
use Rattle.std.proofs.Common.{◌≡◌, ◌≢◌, ℕ, suc, ◌<◌, min, List, [], ◌∷◌, length, sym, ◌∙◌, ap, arith, refl, inl, inr, subst, slice_get}
use Rattle.std.proofs.lemmas.Option.{slice_get-map, same_Some, none-some}
use Rattle.prv_rule.specs.declared.skeleton.Skel.{Skel}
use Rattle.prv_rule.specs.declared.skeleton.SkelItem.{SkelItem}
use Rattle.prv_marks.proofs.Orders.{order}
use Rattle.prv_marks.specs.Skeletons.{items_of, item_at, DifferFirstAt}

-- skeletons of one length with the same item at each index have the same items
pub items_equal : (xs ys : List Skel) → length xs ≡ length ys → ((k : ℕ) → k < length xs → item_at xs k ≡ item_at ys k) → items_of xs ≡ items_of ys
items_equal [] [] lengths same = refl
items_equal [] (y ∷ ys) lengths same = absurd (omega arith)
items_equal (x ∷ xs) [] lengths same = absurd (omega arith)
items_equal (x ∷ xs) (y ∷ ys) lengths same =
    let first : x.item ≡ y.item = same_Some x.item y.item (same 0 (omega arith)) in
    let rest : items_of xs ≡ items_of ys = items_equal xs ys (omega arith) (λ k below. same (suc k) (omega arith)) in
    cc

-- of skeletons of different lengths one alone has ended where the shorter ends
pub ended_differ : (xs ys : List Skel) (n : ℕ) → n ≡ min (length xs) (length ys) → length xs ≢ length ys → item_at xs n ≢ item_at ys n
ended_differ [] [] n shared lengths same = lengths refl
ended_differ [] (y ∷ ys) n shared lengths same =
    let zeroth : n ≡ 0 = omega arith in
    none-some y.item (subst (λ (k : ℕ). item_at [] k ≡ item_at (y ∷ ys) k) zeroth same)
ended_differ (x ∷ xs) [] n shared lengths same =
    let zeroth : n ≡ 0 = omega arith in
    none-some x.item (sym (subst (λ (k : ℕ). item_at (x ∷ xs) k ≡ item_at [] k) zeroth same))
ended_differ (x ∷ xs) (y ∷ ys) n shared lengths same =
    let one_more : n ≡ suc (min (length xs) (length ys)) = omega arith in
    ended_differ xs ys (min (length xs) (length ys)) refl (λ (equal : length xs ≡ length ys). lengths (ap (λ (k : ℕ). suc k) equal))
    (subst (λ (k : ℕ). item_at (x ∷ xs) k ≡ item_at (y ∷ ys) k) one_more same)

pub items_at : (xs ys : List Skel) (k : ℕ) → items_of xs ≡ items_of ys → item_at xs k ≡ item_at ys k
items_at xs ys k same =
    sym (slice_get-map (λ (s : Skel). s.item) xs k) ∙ ap (λ (items : List SkelItem). slice_get items k) same ∙ slice_get-map (λ (s : Skel). s.item) ys k

pub equal_no_difference : (xs ys : List Skel) (i : ℕ) → items_of xs ≡ items_of ys → DifferFirstAt xs ys i → ⊥
equal_no_difference xs ys i same p = p.differ (items_at xs ys i same)

-- the first index is the only one
pub one_index : (xs ys : List Skel) (i j : ℕ) → DifferFirstAt xs ys i → DifferFirstAt xs ys j → i ≡ j
one_index xs ys i j p q = elim (order i j) [
  | inl below ↦ absurd (p.differ (q.equal_before i below))
  | inr rest ↦ elim rest [
    | inl same ↦ same
    | inr above ↦ absurd (q.differ (p.equal_before j above))
  ]
]
