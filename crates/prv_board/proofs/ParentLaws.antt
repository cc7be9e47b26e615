-- The parents of entries, by their origins.
use Rattle.std.proofs.Common.{◌≡◌, ℕ, zero, suc, ◌+◌, List, [], ◌∷◌, ◌++◌, length, map, Option, Some, None, slice_get, refl, sym, ap, ◌∙◌, subst, arith, append_assoc, length-append}
use Rattle.std.proofs.lemmas.List.{append-nil}
use Rattle.std.proofs.lemmas.Option.{slice_get-map}
use Rattle.std.specs.Option.{option_map, option_and_then}
use Rattle.prv_part.specs.Settlements.{Finding}
use Rattle.prv_board.specs.Trees.{origins_from, origins_all, parent_at}
use Rattle.prv_board.specs.Parents.{parts_of_entry, parents_from, parent_of}
use Rattle.prv_board.specs.declared.parent.Parent.{Parent}
use Rattle.prv_board.specs.declared.tree.Origin.{Origin}
use Rattle.prv_board.specs.declared.tree.Origin.TheVariants.{Space}
use Rattle.prv_board.proofs.TreeLaws.{get-back}

pub map-append : {A B : Type 0} (f : A → B) (xs ys : List A) → map f (xs ++ ys) ≡ map f xs ++ map f ys
map-append f [] ys = refl
map-append {A} {B} f (x ∷ xs) ys = ap (λ (zs : List B). f x ∷ zs) (map-append f xs ys)

-- one more settlement
pub origins_all-push : (k : ℕ) (history : List Finding) (s : Finding) → origins_all k (history ++ s ∷ []) ≡ origins_all k history ++ origins_from (k + length history) 0 (length s.parts)
origins_all-push k [] s = append-nil (origins_from k 0 (length s.parts)) ∙ ap (λ (j : ℕ). origins_from j 0 (length s.parts)) (omega arith)
origins_all-push k (x ∷ history) s =
    ap (λ (os : List Origin). origins_from k 0 (length x.parts) ++ os) (origins_all-push (suc k) history s)
    ∙ sym (append_assoc (origins_from k 0 (length x.parts)) (origins_all (suc k) history) (origins_from (suc k + length history) 0 (length s.parts)))
    ∙ ap (λ (j : ℕ). origins_all k (x ∷ history) ++ origins_from j 0 (length s.parts)) (let e : suc k + length history ≡ k + suc (length history) = omega arith in e)

parents-of-one : (history : List Finding) (k : ℕ) (s : Finding) (i count : ℕ) → slice_get history k ≡ Some s → map (parent_at history) (origins_from k i count) ≡ parts_of_entry s.entry i count
parents-of-one history k s i zero at = refl
parents-of-one history k s i (suc count) at =
    ap (λ (o : Option Finding). option_map (λ s. let p : Parent = record { entry = s.entry; part = i } in p) o ∷ map (parent_at history) (origins_from k (suc i) count)) at
    ∙ ap (λ (ps : List (Option Parent)). Some (record { entry = s.entry; part = i }) ∷ ps) (parents-of-one history k s (suc i) count at)

parents-of-rest : (front rest : List Finding) → map (parent_at (front ++ rest)) (origins_all (length front) rest) ≡ parents_from rest
parents-of-rest front [] = refl
parents-of-rest front (s ∷ rest) =
    let at : slice_get (front ++ s ∷ rest) (length front) ≡ Some s = ap (λ (i : ℕ). slice_get (front ++ s ∷ rest) i) (omega arith) ∙ get-back front (s ∷ rest) 0 in
    let longer : length (front ++ s ∷ []) ≡ suc (length front) = omega (arith, length-append front (s ∷ [])) in
    let P : List Finding → Type 0 = λ h. map (parent_at h) (origins_all (length (front ++ s ∷ [])) rest) ≡ parents_from rest in
    let Q : ℕ → Type 0 = λ k. map (parent_at (front ++ s ∷ rest)) (origins_all k rest) ≡ parents_from rest in
    map-append (parent_at (front ++ s ∷ rest)) (origins_from (length front) 0 (length s.parts)) (origins_all (suc (length front)) rest)
    ∙ ap (λ (ps : List (Option Parent)). ps ++ map (parent_at (front ++ s ∷ rest)) (origins_all (suc (length front)) rest)) (parents-of-one (front ++ s ∷ rest) (length front) s 0 (length s.parts) at)
    ∙ ap (λ (ps : List (Option Parent)). parts_of_entry s.entry 0 (length s.parts) ++ ps)
    (subst Q longer (subst P (append_assoc front (s ∷ []) rest) (parents-of-rest (front ++ s ∷ []) rest)))

-- the parent of an entry, by its origin
pub parent-of-origin : (history : List Finding) (os : List Origin) (n : ℕ) → os ≡ Space ∷ origins_all 0 history → option_and_then (parent_at history) (slice_get os n) ≡ parent_of history n
parent-of-origin history os n is =
    then-map (parent_at history) (slice_get os n)
    ∙ ap (λ (o : Option (Option Parent)). option_and_then (λ p. p) o) (sym (slice_get-map (parent_at history) os n))
    ∙ ap (λ (ps : List (Option Parent)). option_and_then (λ p. p) (slice_get ps n)) (ap (λ (xs : List Origin). map (parent_at history) xs) is ∙ ap (λ (ps : List (Option Parent)). None ∷ ps) (parents-of-rest [] history))
  where
    then-map : (f : Origin → Option Parent) (o : Option Origin) → option_and_then f o ≡ option_and_then (λ p. p) (option_map f o)
    then-map f None = refl
    then-map f (Some x) = refl
