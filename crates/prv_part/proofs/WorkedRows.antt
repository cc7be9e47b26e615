-- Rows on which the definitions were worked out by hand: what the slices of `r = a; if (a < 0) r = -a; return r;` and of the same with `a <= 0` give at 0.
use Rattle.std.proofs.Common.{◌≡◌, ℕ, Bool, true, false, List, [], ◌∷◌, pos, refl, ap}
use Rattle.prv_model.specs.TermOrder.{same_term}
use Rattle.prv_model.specs.declared.op.TermOp.TheVariants.{Lt, Le}
use Rattle.prv_model.specs.declared.outcome.Ending.TheVariants.{Returned, Fault}
use Rattle.prv_model.specs.declared.term.Term.{Term}
use Rattle.prv_model.specs.declared.term.Term.TheVariants.{Param, Op, Num}
use Rattle.prv_model.proofs.OrderLemmas.{same_term-same}
use Rattle.prv_pool.specs.Folding.{negation, node_negation}
use Rattle.prv_pool.proofs.Shapes.{out-Op}
use Rattle.prv_part.specs.Literals.{without_repeats, equality, equality_named}
use Rattle.prv_part.specs.Parts.{rests}

-- `0 <= a`, and `a <= 0`
not_below : Term
not_below = Op Le (Num (pos 0)) (Param 0)

not_above : Term
not_above = Op Le (Param 0) (Num (pos 0))

negated : (x y : Term) → negation (Op Le x y) ≡ Op Lt y x
negated x y = ap (node_negation (Op Le x y)) (out-Op Le x y)

-- the rests of `0 <= a ; a <= 0` are `a < 0`, and `0 <= a ; 0 < a`
two-rests : rests [] (not_below ∷ not_above ∷ []) ≡ (Op Lt (Param 0) (Num (pos 0)) ∷ []) ∷ (Op Le (Num (pos 0)) (Param 0) ∷ Op Lt (Num (pos 0)) (Param 0) ∷ []) ∷ []
unfolding not_below not_above
two-rests = λ i. (negated (Num (pos 0)) (Param 0) i ∷ []) ∷ (Op Le (Num (pos 0)) (Param 0) ∷ negated (Param 0) (Num (pos 0)) i ∷ []) ∷ []

-- two terms that begin otherwise are two
apart : (x y : Term) → (x ≡ y → ⊥) → same_term x y ≡ false
apart x y n = by (same_term x y) refl
  where
    by : (z : Bool) → same_term x y ≡ z → z ≡ false
    by false e = refl
    by true e = absurd (n ((same_term-same x y).0 e))

own : (x : Term) → same_term x x ≡ true
own x = (same_term-same x x).1 refl

-- a literal that came before, or that the region has, is left out
once : (p q : Term) → (q ≡ p → ⊥) → without_repeats [] (p ∷ q ∷ p ∷ []) ≡ p ∷ q ∷ []
once p q n = rw (apart q p n, own p) refl

beside : (p q : Term) → (q ≡ p → ⊥) → without_repeats (p ∷ []) (p ∷ q ∷ []) ≡ q ∷ []
beside p q n = rw (apart q p n, own p) refl

-- slices that end differently, or put out lists of different lengths, have the equality 0
faulted : (outs more : List Term) (marks : List ℕ) →
    equality (record { literals = []; outs = outs; how = Returned; marks = marks }) (record { literals = []; outs = more; how = Fault; marks = marks }) ≡ Num (pos 0)
faulted outs more marks = refl

longer : (p q : Term) → equality (record { literals = []; outs = p ∷ []; how = Returned; marks = [] }) (record { literals = []; outs = p ∷ q ∷ []; how = Returned; marks = [] }) ≡ Num (pos 0)
longer p q = refl

longer-named : (p q : Term) → equality_named (record { literals = []; outs = p ∷ []; how = Returned; marks = [] }) (record { literals = []; outs = p ∷ q ∷ []; how = Returned; marks = [] }) ≡ Num (pos 0) ∷ []
longer-named p q = refl
