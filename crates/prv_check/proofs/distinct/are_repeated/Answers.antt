use Rattle.std.proofs.Common.{◌≡◌, ℕ, ◌+◌, ◌<◌, ◌++◌, ◌∷◌, [], Bool, true, false, List, length, take, get_or, refl, sym, ap, subst, ◌∙◌, inl, inr, arith, get_or-set_same, get_or-set_other}
use Rattle.std.specs.Prelude.{nat_eq, nat_lt, slice_index_or}
use Rattle.std.specs.List.{list_any}
use Rattle.std.proofs.Math.Bool.{or-false, or-true}
use Rattle.std.proofs.lemmas.Bool.{cases_eq, eq-eqb, ne_eqb, ltb-true}
use Rattle.std.proofs.lemmas.List.{length-set, length-replicate, take_more, take_all}
use Rattle.std.proofs.lemmas.List.Folds.{list_any-append}
use Rattle.std.proofs.lemmas.List.Sums.{AllPass-from_list_all}
use Rattle.prv_check.specs.Spending.{are_distinct}
use Rattle.prv_check.proofs.Placing.{nothing_set}
use Rattle.prv_check.proofs.Counting.{distinct_more, repeated_at}
use Rattle.prv_check.proofs.distinct.are_repeated.Goals as goal

pub loop-hint-init : goal.loop-hint-init
loop-hint-init c = (
  refl,
  λ n. rw c.clear.ensures (nothing_set (length c.args.named.now) n),
  rw c.clear.ensures (length-replicate (length c.args.named.now) false),
)

pub loop-hint-preserved : goal.loop-hint-preserved
loop-hint-preserved c =
    let hints : List ℕ = c.args.hints.now in
    let i : ℕ = c.loop-hint.hint-index in
    let hint : ℕ = get_or hints i 0 in
    let inside : i < length hints = c.loop-hint-test.true in
    let more : take (i + 1) hints ≡ take i hints ++ hint ∷ [] = take_more hints i 0 inside in
    let none : list_any (nat_eq hint) (take i hints) ≡ false = sym (c.loop-hint.invariant.1 hint) ∙ sym c.has.ensures ∙ c.if-has.false in
    let room : hint < length c.loop-hint.named =
    omega (arith, c.loop-hint.invariant.2, ltb-true hint (length c.args.named.now) (AllPass-from_list_all (λ n. nat_lt n (length c.args.named.now)) hints c.requires i 0 inside)) in
    let flagged : (n : ℕ) → slice_index_or c.set.new.self n false ≡ list_any (nat_eq n) (take i hints ++ hint ∷ []) = λ n.
    ap (λ (xs : List Bool). slice_index_or xs n false) c.set.ensures
    ∙ elim (cases_eq n hint) [
      | inl same ↦
          rw (same, get_or-set_same c.loop-hint.named hint true false room, list_any-append (nat_eq hint) (take i hints) (hint ∷ []), eq-eqb hint hint refl)
          (sym (or-true (list_any (nat_eq hint) (take i hints))))
      | inr other ↦
          get_or-set_other c.loop-hint.named hint n true false other
          ∙ c.loop-hint.invariant.1 n
          ∙ rw (list_any-append (nat_eq n) (take i hints) (hint ∷ []), ne_eqb n hint other)
          (sym (or-false (list_any (nat_eq n) (take i hints))))
    ] in (
      rw more (distinct_more (take i hints) hint c.loop-hint.invariant.0 none),
      λ n. flagged n ∙ ap (λ (xs : List ℕ). list_any (nat_eq n) xs) (sym more),
      rw (c.set.ensures, length-set) c.loop-hint.invariant.2,
    )

pub returns-then-has-clause-repeated : goal.returns-then-has-clause-repeated
returns-then-has-clause-repeated c =
    let hints : List ℕ = c.args.hints.now in
    let i : ℕ = c.loop-hint.hint-index in
    let here : list_any (nat_eq (get_or hints i 0)) (take i hints) ≡ true = sym (c.loop-hint.invariant.1 (get_or hints i 0)) ∙ sym c.has.ensures ∙ c.if-has.true in
    rw (repeated_at hints i c.loop-hint-test.true here) refl

pub returns-clause-repeated : goal.returns-clause-repeated
returns-clause-repeated c =
    let all : take c.loop-hint.hint-index c.args.hints.now ≡ c.args.hints.now = take_all c.loop-hint.hint-index c.args.hints.now (omega arith) in
    let distinct : are_distinct c.args.hints.now ≡ true = subst (λ (xs : List ℕ). are_distinct xs ≡ true) all c.loop-hint.invariant.0 in
    rw distinct refl
