-- The literals of a pair at an input: what both runs there say of the inputs that take the same way, and whether both then put out the same.
use Rattle.std.specs.Prelude.{ℕ, nat_eq, Bool, ◌&&◌, List, [], ◌∷◌, ◌++◌, length, ℤ, pos, if◌then◌else◌}
use Rattle.std.specs.List.{list_any}
use Rattle.prv_model.specs.Comparison.{ending_eq, outcome_eq}
use Rattle.prv_model.specs.Outcomes.{outcome}
use Rattle.prv_model.specs.declared.op.TermOp.TheVariants.{And, Eq}
use Rattle.prv_model.specs.declared.program.Pair.{Pair}
use Rattle.prv_model.specs.declared.term.Term.{Term}
use Rattle.prv_model.specs.declared.term.Term.TheVariants.{Num}
use Rattle.prv_pool.specs.Folding.{folded, negation}
use Rattle.prv_pool.specs.Tables.{has_term}
use Rattle.prv_select.specs.Choices.{rising}
use Rattle.prv_general.specs.Slices.{Slice, slice}

-- the terms in their order, without each that stands in another list or earlier among them
abbrev pub without_repeats : List Term → List Term → List Term
without_repeats seen [] = []
without_repeats seen (t ∷ ts) = if has_term seen t then without_repeats seen ts else (t ∷ without_repeats (seen ++ t ∷ []) ts)

-- the slices of both versions at an input
abbrev pub slice_before : Pair → List ℤ → Slice
slice_before pair t = slice pair.before pair.turns t

abbrev pub slice_after : Pair → List ℤ → Slice
slice_after pair t = slice pair.after pair.turns t

-- the literals of a pair at an input, beside a region: those of the old version's slice, then those of the new one's, each once, and none that stands in the region
abbrev pub pair_literals : Pair → List Term → List ℤ → List Term
pair_literals pair region t = without_repeats region ((slice_before pair t).literals ++ (slice_after pair t).literals)

-- two slices end alike and put out equally many words
abbrev pub are_comparable : Slice → Slice → Bool
are_comparable a b = ending_eq a.how b.how && nat_eq (length a.outs) (length b.outs)

-- a term, joined from the left with the equalities of paired terms
abbrev pub all_equal : Term → List Term → List Term → Term
all_equal made (a ∷ more_a) (b ∷ more_b) = all_equal (folded And made (folded Eq a b)) more_a more_b
all_equal made _ _ = made

-- the equality of two slices: nonzero where both put out the same; 0 where they can't
abbrev pub equality : Slice → Slice → Term
equality a b = if are_comparable a b then all_equal (Num (pos 1)) a.outs b.outs else Num (pos 0)

-- which terms are named for the equality, in order: the 1, and for each pair its equality and the join with it; or the 0
abbrev pub all_equal_named : Term → List Term → List Term → List Term
all_equal_named made (a ∷ more_a) (b ∷ more_b) =
    let same = folded Eq a b in
    let joined = folded And made same in
    same ∷ joined ∷ all_equal_named joined more_a more_b
all_equal_named made _ _ = []

abbrev pub equality_named : Slice → Slice → List Term
equality_named a b = if are_comparable a b then (Num (pos 1) ∷ all_equal_named (Num (pos 1)) a.outs b.outs) else (Num (pos 0) ∷ [])

-- both versions have the same outcome at an input
abbrev pub agree_at : Pair → List ℤ → Bool
agree_at pair t = outcome_eq (outcome pair.before pair.turns t) (outcome pair.after pair.turns t)

-- the equality of a pair's slices at an input, decided as it is there: that both agree, where they do, and that they don't, where they don't
abbrev pub decided_equality : Pair → List ℤ → Term
decided_equality pair t =
    let same = equality (slice_before pair t) (slice_after pair t) in
    if agree_at pair t then same else negation same

-- the marks that contribute to one slice or the other, in rising order
abbrev pub pair_marks : Pair → List ℤ → List ℕ
pair_marks pair t = rising (λ mark. list_any (nat_eq mark) ((slice_before pair t).marks ++ (slice_after pair t).marks))
