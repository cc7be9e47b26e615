-- The terms of parts speak of the pair's parameters alone.
use Rattle.std.proofs.Common.{ℕ, true, false, List, [], ◌∷◌, ◌++◌, map, ℤ, pos, if◌then◌else◌, refl, sym, subst}
use Rattle.std.specs.List.{AllByRecursion}
use Rattle.prv_model.specs.Terms.{IsTerm}
use Rattle.prv_model.specs.Programs.{IsPair}
use Rattle.prv_model.specs.declared.entry.Kind.TheVariants as k
use Rattle.prv_model.specs.declared.entry.Reason.{Reason}
use Rattle.prv_model.specs.declared.op.TermOp.TheVariants.{And, Eq}
use Rattle.prv_model.specs.declared.program.Pair.{Pair}
use Rattle.prv_model.specs.declared.term.Term.{Term}
use Rattle.prv_model.specs.declared.term.Term.TheVariants.{Num}
use Rattle.prv_pool.specs.Folding.{negation, folded}
use Rattle.prv_pool.specs.Tables.{has_term}
use Rattle.prv_pool.proofs.FoldLaws.{folded-term, negation-term}
use Rattle.prv_sym.proofs.SymbolLaws.{num-term}
use Rattle.prv_general.specs.Slices.{Slice}
use Rattle.prv_general.proofs.SliceTerms.{literals-are-terms, outs-are-terms}
use Rattle.prv_part.specs.Literals.{without_repeats, slice_before, slice_after, pair_literals, are_comparable, all_equal, equality, agree_at, decided_equality}
use Rattle.prv_part.specs.Parts.{Other, Found, Left, rests, unmarked, partition, second_part, parts_of, IsOver, AreOver}
use Rattle.prv_part.specs.declared.shape.Shape.{Shape}
use Rattle.prv_part.specs.declared.shape.Shape.TheVariants.{Empty, Stuck, Beyond, Whole, Split}

pub all-append : {A : Type 0} (P : A → Type 0) (xs ys : List A) → AllByRecursion P xs → AllByRecursion P ys → AllByRecursion P (xs ++ ys)
all-append P [] ys h k = k
all-append P (x ∷ xs) ys h k = (h.0, all-append P xs ys h.1 k)

new-terms : (n : ℕ) (seen ts : List Term) → AllByRecursion (IsTerm n) ts → AllByRecursion (IsTerm n) (without_repeats seen ts)
new-terms n seen [] h = tt
new-terms n seen (t ∷ ts) h = elim (has_term seen t) as (λ z. AllByRecursion (IsTerm n) (if z then without_repeats seen ts else (t ∷ without_repeats (seen ++ t ∷ []) ts))) [
  | true ↦ new-terms n seen ts h.1
  | false ↦ (h.0, new-terms n (seen ++ t ∷ []) ts h.1)
]

equal-terms : (n : ℕ) (made : Term) (a b : List Term) → IsTerm n made → AllByRecursion (IsTerm n) a → AllByRecursion (IsTerm n) b → IsTerm n (all_equal made a b)
equal-terms n made [] [] m h k = m
equal-terms n made [] (y ∷ b) m h k = m
equal-terms n made (x ∷ a) [] m h k = m
equal-terms n made (x ∷ a) (y ∷ b) m h k =
    equal-terms n (folded And made (folded Eq x y)) a b (folded-term n And made (folded Eq x y) m (folded-term n Eq x y h.0 k.0)) h.1 k.1

equality-term : (n : ℕ) (a b : Slice) → AllByRecursion (IsTerm n) a.outs → AllByRecursion (IsTerm n) b.outs → IsTerm n (equality a b)
equality-term n a b h k = elim (are_comparable a b) as (λ z. IsTerm n (if z then all_equal (Num (pos 1)) a.outs b.outs else Num (pos 0))) [
  | true ↦ equal-terms n (Num (pos 1)) a.outs b.outs (num-term n (pos 1) refl) h k
  | false ↦ num-term n (pos 0) refl
]

-- the other version has as many parameters
other-terms : (pair : Pair) (ts : List Term) → AllByRecursion (IsTerm pair.after.params) ts → AllByRecursion (IsTerm pair.before.params) ts
other-terms pair ts h =
    let kept : IsPair pair.before.params pair.after.params pair.turns = pair.kept in
    subst (λ (n : ℕ). AllByRecursion (IsTerm n) ts) (sym kept.same_params) h

pub decided-term : (pair : Pair) (t : List ℤ) → IsTerm pair.before.params (decided_equality pair t)
decided-term pair t =
    let n = pair.before.params in
    let same = equality-term n (slice_before pair t) (slice_after pair t) (outs-are-terms pair.before pair.turns t) (other-terms pair _ (outs-are-terms pair.after pair.turns t)) in
    elim (agree_at pair t) as (λ z. IsTerm n (if z then equality (slice_before pair t) (slice_after pair t) else negation (equality (slice_before pair t) (slice_after pair t)))) [
      | true ↦ same
      | false ↦ negation-term n (equality (slice_before pair t) (slice_after pair t)) same
    ]

literals-over : (pair : Pair) (region : List Term) (t : List ℤ) → IsOver pair.before.params (pair_literals pair region t)
literals-over pair region t =
    let n = pair.before.params in
    new-terms n region _ (all-append (IsTerm n) (slice_before pair t).literals (slice_after pair t).literals (literals-are-terms pair.before pair.turns t) (other-terms pair _ (literals-are-terms pair.after pair.turns t)))

pub partition-terms : (pair : Pair) (region : List Term) (t : List ℤ) → AllByRecursion (IsTerm pair.before.params) region → AllByRecursion (IsTerm pair.before.params) (partition pair region t)
partition-terms pair region t h = all-append (IsTerm pair.before.params) region (pair_literals pair region t) h (literals-over pair region t)

open-over : (n : ℕ) (region literals : List Term) → IsOver n region → IsOver n literals → AreOver n (map (unmarked k.Unexplored) (rests region literals))
open-over n region [] h l = tt
open-over n region (p ∷ ps) h l =
    (all-append (IsTerm n) region (negation p ∷ []) h (negation-term n p l.0, tt), open-over n (region ++ p ∷ []) ps (all-append (IsTerm n) region (p ∷ []) h (l.0, tt)) l.1)

second-over : (pair : Pair) (t : List ℤ) (other : Other) (region : List Term) → IsOver pair.before.params region → IsOver pair.before.params (second_part pair t other region).region
second-over pair t (Found x) region h = h
second-over pair t (Left why) region h = h

pub parts-over : (pair : Pair) (region : List Term) (shape : Shape) (t : List ℤ) (other : Other) (why : Reason) → IsOver pair.before.params region → AreOver pair.before.params (parts_of pair region shape t other why)
parts-over pair region Empty t other why h = (h, tt)
parts-over pair region Stuck t other why h = (h, tt)
parts-over pair region Beyond t other why h = (partition-terms pair region t h, open-over pair.before.params region (pair_literals pair region t) h (literals-over pair region t))
parts-over pair region Whole t other why h = (partition-terms pair region t h, open-over pair.before.params region (pair_literals pair region t) h (literals-over pair region t))
parts-over pair region Split t other why h =
    let n = pair.before.params in
    let same = decided_equality pair t in
    let all = partition-terms pair region t h in (
      all-append (IsTerm n) (partition pair region t) (same ∷ []) all (decided-term pair t, tt),
      (
        second-over pair t other (partition pair region t ++ negation same ∷ []) (all-append (IsTerm n) (partition pair region t) (negation same ∷ []) all (negation-term n same (decided-term pair t), tt)),
        open-over n region (pair_literals pair region t) h (literals-over pair region t),
      ),
    )
