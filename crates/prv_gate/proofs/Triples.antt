-- The gates of three inputs: a choice, a majority, a parity.
use Rattle.std.proofs.Common.{◌≡◌, ℕ, ◌<◌, Bool, true, false, not, cond, ◌&&◌, ◌||◌, refl, ap, sym, ◌∙◌, arith, if◌then◌else◌}
use Rattle.prv_cnf.specs.declared.literal.Lit.{Lit}
use Rattle.prv_cnf.specs.Literals.{negate, is_literal_true, same_literal}
use Rattle.prv_cnf.specs.Formulas.{IsLiteral}
use Rattle.prv_cnf.specs.declared.formula.TheConstants.{MAX_VARS}
use Rattle.prv_cnf.proofs.Values.{is_literal_true-negate}
use Rattle.prv_gate.specs.Bits.{IsBit, bit_value}
use Rattle.prv_gate.specs.Gates.{differ, majority, is_negative, ordered}
use Rattle.prv_gate.specs.Circuits.{Circuit, IsCircuit}
use Rattle.prv_gate.specs.Folding.{mux_made, mux_signed, mux_of, mux_bits, majority_made, majority_ordered, majority_of, majority_bits, parity_of, parity_bits}
use Rattle.prv_gate.specs.declared.bit.Bit.{Bit}
use Rattle.prv_gate.specs.declared.bit.Bit.TheVariants.{False, True, Lit as Literal}
use Rattle.prv_gate.specs.declared.gate.Gate.TheVariants.{Mux, Majority, Parity}
use Rattle.prv_gate.proofs.Frames.{IsLiteral-negate}
use Rattle.prv_gate.proofs.Steps.{Step, step-here, step-value, step-more, step-if, step-opposite, step-made, ordered-cases, not_not}
use Rattle.prv_gate.proofs.Pairs.{value-equal, value-opposite, and_of-step, or_of-step, and_bits-step, or_bits-step, xor_of-step, xor_bits-step, equal_bits-step}

mux-equal : (c a b : Bool) → a ≡ b → a ≡ cond c a b
mux-equal true a b e = refl
mux-equal false a b e = e

mux-opposite : (c a b : Bool) → a ≡ not b → not (differ c a) ≡ cond c a b
mux-opposite true a b e = not_not a
mux-opposite false a b e = ap not e ∙ not_not b

mux-selector : (c a b : Bool) → a ≡ c → (c || b) ≡ cond c a b
mux-selector true a b e = sym e
mux-selector false a b e = refl

mux-unselector : (c a b : Bool) → a ≡ not c → (a && b) ≡ cond c a b
mux-unselector true a b e = ap (λ (x : Bool). x && b) e ∙ sym e
mux-unselector false a b e = ap (λ (x : Bool). x && b) e

mux-second : (c a b : Bool) → b ≡ c → (c && a) ≡ cond c a b
mux-second true a b e = refl
mux-second false a b e = sym e

mux-unsecond : (c a b : Bool) → b ≡ not c → (b || a) ≡ cond c a b
mux-unsecond true a b e = ap (λ (x : Bool). x || a) e
mux-unsecond false a b e = ap (λ (x : Bool). x || a) e ∙ sym e

mux-negated : (c a b : Bool) → not (cond c (not a) (not b)) ≡ cond c a b
mux-negated true a b = not_not a
mux-negated false a b = not_not b

mux-swapped : (c a b : Bool) → cond (not c) b a ≡ cond c a b
mux-swapped true a b = refl
mux-swapped false a b = refl

mux-false-first : (c b : Bool) → (not c && b) ≡ cond c false b
mux-false-first true b = refl
mux-false-first false b = refl

mux-true-first : (c b : Bool) → (c || b) ≡ cond c true b
mux-true-first true b = refl
mux-true-first false b = refl

mux-false-second : (c a : Bool) → (c && a) ≡ cond c a false
mux-false-second true a = refl
mux-false-second false a = refl

mux-true-second : (c a : Bool) → (not c || a) ≡ cond c a true
mux-true-second true a = refl
mux-true-second false a = refl

-- what a majority of three bits is where two are equal or opposite
majority-12 : (a b c : Bool) → a ≡ b → a ≡ majority a b c
majority-12 true true c e = refl
majority-12 true false c e = absurd cc
majority-12 false true c e = absurd cc
majority-12 false false c e = refl

majority-12-opposite : (a b c : Bool) → a ≡ not b → c ≡ majority a b c
majority-12-opposite true true c e = absurd cc
majority-12-opposite true false c e = refl
majority-12-opposite false true c e = refl
majority-12-opposite false false c e = absurd cc

majority-swap : (a b c : Bool) → majority b a c ≡ majority a b c
majority-swap true true c = refl
majority-swap true false c = refl
majority-swap false true c = refl
majority-swap false false c = refl

majority-swap-last : (a b c : Bool) → majority a c b ≡ majority a b c
majority-swap-last a true true = refl
majority-swap-last true true false = refl
majority-swap-last true false true = refl
majority-swap-last false true false = refl
majority-swap-last false false true = refl
majority-swap-last a false false = refl

majority-turned : (x y z : Bool) → majority y z x ≡ majority x y z
majority-turned x y z = majority-swap-last y x z ∙ majority-swap x y z

majority-negated : (a b c : Bool) → not (majority (not a) (not b) (not c)) ≡ majority a b c
majority-negated true true true = refl
majority-negated true true false = refl
majority-negated true false true = refl
majority-negated true false false = refl
majority-negated false true true = refl
majority-negated false true false = refl
majority-negated false false true = refl
majority-negated false false false = refl

majority-false-second : (a c : Bool) → (a && c) ≡ majority a false c
majority-false-second true c = refl
majority-false-second false c = refl

majority-true-second : (a c : Bool) → (a || c) ≡ majority a true c
majority-true-second true c = refl
majority-true-second false c = refl

majority-false-third : (a b : Bool) → (a && b) ≡ majority a b false
majority-false-third true true = refl
majority-false-third true false = refl
majority-false-third false true = refl
majority-false-third false false = refl

majority-true-third : (a b : Bool) → (a || b) ≡ majority a b true
majority-true-third true true = refl
majority-true-third true false = refl
majority-true-third false true = refl
majority-true-third false false = refl

differ-not : (b c : Bool) → not (differ b c) ≡ differ (not b) c
differ-not true c = not_not c
differ-not false c = refl

parity-false-second : (a c : Bool) → differ a c ≡ differ (differ a false) c
parity-false-second true c = refl
parity-false-second false c = refl

parity-true-second : (a c : Bool) → not (differ a c) ≡ differ (differ a true) c
parity-true-second true c = not_not c
parity-true-second false c = refl

differ-last : (x : Bool) → x ≡ differ x false
differ-last true = refl
differ-last false = refl

differ-last-true : (x : Bool) → not x ≡ differ x true
differ-last-true true = refl
differ-last-true false = refl

module _ (s : Circuit) (h : IsCircuit s) (room : s.formula.vars < MAX_VARS) where
  abbrev value_of_mux : Lit → Lit → Lit → (ℕ → Bool) → Bool
  value_of_mux c a b v = if is_literal_true v c then is_literal_true v a else is_literal_true v b

  mux_made-step : (c a b : Lit) → IsLiteral s.formula.vars c → IsLiteral s.formula.vars a → IsLiteral s.formula.vars b → Step 4 s (mux_made c a b s) (value_of_mux c a b)
  unfolding mux_made
  mux_made-step c a b hc ha hb =
      step-if 4 s (value_of_mux c a b) (is_negative a) _ _
      (λ _. step-value 4 s _ (λ v. not (value_of_mux c (negate a) (negate b) v)) _
      (λ v _. rw (is_literal_true-negate v a ha.0, is_literal_true-negate v b hb.0) (mux-negated (is_literal_true v c) (is_literal_true v a) (is_literal_true v b)))
      (step-made 4 s (Mux c (negate a) (negate b)) true h (hc, IsLiteral-negate s.formula.vars a ha, IsLiteral-negate s.formula.vars b hb) room (omega arith) (omega arith)))
      (λ _. step-made 4 s (Mux c a b) false h (hc, ha, hb) room (omega arith) (omega arith))

  mux_signed-step : (c a b : Lit) → IsLiteral s.formula.vars c → IsLiteral s.formula.vars a → IsLiteral s.formula.vars b → Step 4 s (mux_signed c a b s) (value_of_mux c a b)
  unfolding mux_signed
  mux_signed-step c a b hc ha hb =
      step-if 4 s (value_of_mux c a b) (is_negative c) _ _
      (λ _. step-value 4 s _ (value_of_mux (negate c) b a) _
      (λ v _. rw (is_literal_true-negate v c hc.0) (mux-swapped (is_literal_true v c) (is_literal_true v a) (is_literal_true v b)))
      (mux_made-step (negate c) b a (IsLiteral-negate s.formula.vars c hc) hb ha))
      (λ _. mux_made-step c a b hc ha hb)

  mux_of-step : (c a b : Lit) → IsLiteral s.formula.vars c → IsLiteral s.formula.vars a → IsLiteral s.formula.vars b → Step 4 s (mux_of c a b s) (value_of_mux c a b)
  unfolding mux_of
  mux_of-step c a b hc ha hb =
      step-if 4 s (value_of_mux c a b) (same_literal a b) _ _
      (λ e. step-here 4 s (Literal a) (value_of_mux c a b) h ha (λ v. mux-equal (is_literal_true v c) (is_literal_true v a) (is_literal_true v b) (value-equal v a b e)))
      (λ _. step-if 4 s (value_of_mux c a b) (same_literal a (negate b)) _ _
      (λ e. step-value 4 s _ (λ v. not (differ (is_literal_true v c) (is_literal_true v a))) (value_of_mux c a b)
      (λ v _. mux-opposite (is_literal_true v c) (is_literal_true v a) (is_literal_true v b) (value-opposite s.formula.vars v a b hb e))
      (step-opposite 4 s _ _ (xor_of-step s h room c a hc ha)))
      (λ _. step-if 4 s (value_of_mux c a b) (same_literal a c) _ _
      (λ e. step-value 4 s _ (λ v. is_literal_true v c || is_literal_true v b) (value_of_mux c a b)
      (λ v _. mux-selector (is_literal_true v c) (is_literal_true v a) (is_literal_true v b) (value-equal v a c e))
      (step-more 3 4 s _ _ (omega arith) (or_of-step s h room c b hc hb)))
      (λ _. step-if 4 s (value_of_mux c a b) (same_literal a (negate c)) _ _
      (λ e. step-value 4 s _ (λ v. is_literal_true v a && is_literal_true v b) (value_of_mux c a b)
      (λ v _. mux-unselector (is_literal_true v c) (is_literal_true v a) (is_literal_true v b) (value-opposite s.formula.vars v a c hc e))
      (step-more 3 4 s _ _ (omega arith) (and_of-step s h room a b ha hb)))
      (λ _. step-if 4 s (value_of_mux c a b) (same_literal b c) _ _
      (λ e. step-value 4 s _ (λ v. is_literal_true v c && is_literal_true v a) (value_of_mux c a b)
      (λ v _. mux-second (is_literal_true v c) (is_literal_true v a) (is_literal_true v b) (value-equal v b c e))
      (step-more 3 4 s _ _ (omega arith) (and_of-step s h room c a hc ha)))
      (λ _. step-if 4 s (value_of_mux c a b) (same_literal b (negate c)) _ _
      (λ e. step-value 4 s _ (λ v. is_literal_true v b || is_literal_true v a) (value_of_mux c a b)
      (λ v _. mux-unsecond (is_literal_true v c) (is_literal_true v a) (is_literal_true v b) (value-opposite s.formula.vars v b c hc e))
      (step-more 3 4 s _ _ (omega arith) (or_of-step s h room b a hb ha)))
      (λ _. mux_signed-step c a b hc ha hb))))))

  pub mux_bits-step : (c a b : Bit) → IsBit s.formula.vars c → IsBit s.formula.vars a → IsBit s.formula.vars b →
      Step 4 s (mux_bits c a b s) (λ v. if bit_value v c then bit_value v a else bit_value v b)
  unfolding mux_bits
  mux_bits-step False a b hc ha hb = step-here 4 s b _ h hb (λ v. refl)
  mux_bits-step True a b hc ha hb = step-here 4 s a _ h ha (λ v. refl)
  mux_bits-step (Literal c) False b hc ha hb =
      step-value 4 s _ (λ v. is_literal_true v (negate c) && bit_value v b) _
      (λ v _. rw (is_literal_true-negate v c hc.0) (mux-false-first (is_literal_true v c) (bit_value v b)))
      (step-more 3 4 s _ _ (omega arith) (and_bits-step s h room (Literal (negate c)) b (IsLiteral-negate s.formula.vars c hc) hb))
  mux_bits-step (Literal c) True b hc ha hb =
      step-value 4 s _ (λ v. is_literal_true v c || bit_value v b) _ (λ v _. mux-true-first (is_literal_true v c) (bit_value v b))
      (step-more 3 4 s _ _ (omega arith) (or_bits-step s h room (Literal c) b hc hb))
  mux_bits-step (Literal c) (Literal a) False hc ha hb =
      step-value 4 s _ (λ v. is_literal_true v c && is_literal_true v a) _ (λ v _. mux-false-second (is_literal_true v c) (is_literal_true v a))
      (step-more 3 4 s _ _ (omega arith) (and_of-step s h room c a hc ha))
  mux_bits-step (Literal c) (Literal a) True hc ha hb =
      step-value 4 s _ (λ v. is_literal_true v (negate c) || is_literal_true v a) _
      (λ v _. rw (is_literal_true-negate v c hc.0) (mux-true-second (is_literal_true v c) (is_literal_true v a)))
      (step-more 3 4 s _ _ (omega arith) (or_of-step s h room (negate c) a (IsLiteral-negate s.formula.vars c hc) ha))
  mux_bits-step (Literal c) (Literal a) (Literal b) hc ha hb = mux_of-step c a b hc ha hb

  abbrev value_of_majority : Lit → Lit → Lit → (ℕ → Bool) → Bool
  value_of_majority a b c v = majority (is_literal_true v a) (is_literal_true v b) (is_literal_true v c)

  majority_made-step : (a b c : Lit) → IsLiteral s.formula.vars a → IsLiteral s.formula.vars b → IsLiteral s.formula.vars c →
      Step 6 s (majority_made a b c s) (value_of_majority a b c)
  unfolding majority_made
  majority_made-step a b c ha hb hc =
      step-if 6 s (value_of_majority a b c) (is_negative a) _ _
      (λ _. step-value 6 s _ (λ v. not (value_of_majority (negate a) (negate b) (negate c) v)) _
      (λ v _. rw (is_literal_true-negate v a ha.0, is_literal_true-negate v b hb.0, is_literal_true-negate v c hc.0)
      (majority-negated (is_literal_true v a) (is_literal_true v b) (is_literal_true v c)))
      (step-made 6 s (Majority (negate a) (negate b) (negate c)) true h
      (IsLiteral-negate s.formula.vars a ha, IsLiteral-negate s.formula.vars b hb, IsLiteral-negate s.formula.vars c hc) room (omega arith) (omega arith)))
      (λ _. step-made 6 s (Majority a b c) false h (ha, hb, hc) room (omega arith) (omega arith))

  -- the lesser ones are put in order
  majority-low : (a b c : Lit) → IsLiteral s.formula.vars a → IsLiteral s.formula.vars b → IsLiteral s.formula.vars c →
      Step 6 s (majority_made (ordered a b).0 (ordered a b).1 c s) (value_of_majority a b c)
  majority-low a b c ha hb hc =
      ordered-cases a b (λ p. Step 6 s (majority_made p.0 p.1 c s) (value_of_majority a b c))
      (majority_made-step a b c ha hb hc)
      (step-value 6 s _ _ _ (λ v _. majority-swap (is_literal_true v a) (is_literal_true v b) (is_literal_true v c)) (majority_made-step b a c hb ha hc))

  -- the greater of two and the third are put in order, then the lesser ones
  majority-high : (a b c : Lit) → IsLiteral s.formula.vars a → IsLiteral s.formula.vars b → IsLiteral s.formula.vars c →
      Step 6 s (majority_made (ordered a (ordered b c).0).0 (ordered a (ordered b c).0).1 (ordered b c).1 s) (value_of_majority a b c)
  majority-high a b c ha hb hc =
      ordered-cases b c (λ p. Step 6 s (majority_made (ordered a p.0).0 (ordered a p.0).1 p.1 s) (value_of_majority a b c))
      (majority-low a b c ha hb hc)
      (step-value 6 s _ _ _ (λ v _. majority-swap-last (is_literal_true v a) (is_literal_true v b) (is_literal_true v c)) (majority-low a c b ha hc hb))

  majority_ordered-step : (a b c : Lit) → IsLiteral s.formula.vars a → IsLiteral s.formula.vars b → IsLiteral s.formula.vars c →
      Step 6 s (majority_ordered a b c s) (value_of_majority a b c)
  unfolding majority_ordered
  majority_ordered-step a b c ha hb hc =
      ordered-cases a b (λ p. Step 6 s (majority_made (ordered p.0 (ordered p.1 c).0).0 (ordered p.0 (ordered p.1 c).0).1 (ordered p.1 c).1 s) (value_of_majority a b c))
      (majority-high a b c ha hb hc)
      (step-value 6 s _ _ _ (λ v _. majority-swap (is_literal_true v a) (is_literal_true v b) (is_literal_true v c)) (majority-high b a c hb ha hc))

  majority_of-step : (a b c : Lit) → IsLiteral s.formula.vars a → IsLiteral s.formula.vars b → IsLiteral s.formula.vars c → Step 6 s (majority_of a b c s) (value_of_majority a b c)
  unfolding majority_of
  majority_of-step a b c ha hb hc =
      step-if 6 s (value_of_majority a b c) (same_literal a b) _ _
      (λ e. step-here 6 s (Literal a) (value_of_majority a b c) h ha (λ v. majority-12 (is_literal_true v a) (is_literal_true v b) (is_literal_true v c) (value-equal v a b e)))
      (λ _. step-if 6 s (value_of_majority a b c) (same_literal a (negate b)) _ _
      (λ e. step-here 6 s (Literal c) (value_of_majority a b c) h hc (λ v. majority-12-opposite (is_literal_true v a) (is_literal_true v b) (is_literal_true v c) (value-opposite s.formula.vars v a b hb e)))
      (λ _. step-if 6 s (value_of_majority a b c) (same_literal a c) _ _
      (λ e. step-here 6 s (Literal a) (value_of_majority a b c) h ha (λ v. majority-12 (is_literal_true v a) (is_literal_true v c) (is_literal_true v b) (value-equal v a c e) ∙ majority-swap-last (is_literal_true v a) (is_literal_true v b) (is_literal_true v c)))
      (λ _. step-if 6 s (value_of_majority a b c) (same_literal a (negate c)) _ _
      (λ e. step-here 6 s (Literal b) (value_of_majority a b c) h hb (λ v. majority-12-opposite (is_literal_true v a) (is_literal_true v c) (is_literal_true v b) (value-opposite s.formula.vars v a c hc e) ∙ majority-swap-last (is_literal_true v a) (is_literal_true v b) (is_literal_true v c)))
      (λ _. step-if 6 s (value_of_majority a b c) (same_literal b c) _ _
      (λ e. step-here 6 s (Literal b) (value_of_majority a b c) h hb (λ v. majority-12 (is_literal_true v b) (is_literal_true v c) (is_literal_true v a) (value-equal v b c e) ∙ majority-turned (is_literal_true v a) (is_literal_true v b) (is_literal_true v c)))
      (λ _. step-if 6 s (value_of_majority a b c) (same_literal b (negate c)) _ _
      (λ e. step-here 6 s (Literal a) (value_of_majority a b c) h ha (λ v. majority-12-opposite (is_literal_true v b) (is_literal_true v c) (is_literal_true v a) (value-opposite s.formula.vars v b c hc e) ∙ majority-turned (is_literal_true v a) (is_literal_true v b) (is_literal_true v c)))
      (λ _. majority_ordered-step a b c ha hb hc))))))

  pub majority_bits-step : (a b c : Bit) → IsBit s.formula.vars a → IsBit s.formula.vars b → IsBit s.formula.vars c →
      Step 6 s (majority_bits a b c s) (λ v. majority (bit_value v a) (bit_value v b) (bit_value v c))
  unfolding majority_bits
  majority_bits-step False b c ha hb hc = step-more 3 6 s _ _ (omega arith) (and_bits-step s h room b c hb hc)
  majority_bits-step True b c ha hb hc = step-more 3 6 s _ _ (omega arith) (or_bits-step s h room b c hb hc)
  majority_bits-step (Literal a) False c ha hb hc =
      step-value 6 s _ _ _ (λ v _. majority-false-second (is_literal_true v a) (bit_value v c)) (step-more 3 6 s _ _ (omega arith) (and_bits-step s h room (Literal a) c ha hc))
  majority_bits-step (Literal a) True c ha hb hc =
      step-value 6 s _ _ _ (λ v _. majority-true-second (is_literal_true v a) (bit_value v c)) (step-more 3 6 s _ _ (omega arith) (or_bits-step s h room (Literal a) c ha hc))
  majority_bits-step (Literal a) (Literal b) False ha hb hc =
      step-value 6 s _ _ _ (λ v _. majority-false-third (is_literal_true v a) (is_literal_true v b)) (step-more 3 6 s _ _ (omega arith) (and_of-step s h room a b ha hb))
  majority_bits-step (Literal a) (Literal b) True ha hb hc =
      step-value 6 s _ _ _ (λ v _. majority-true-third (is_literal_true v a) (is_literal_true v b)) (step-more 3 6 s _ _ (omega arith) (or_of-step s h room a b ha hb))
  majority_bits-step (Literal a) (Literal b) (Literal c) ha hb hc = majority_of-step a b c ha hb hc

  parity_of-step : (a b c : Lit) → IsLiteral s.formula.vars a → IsLiteral s.formula.vars b → IsLiteral s.formula.vars c →
      Step 8 s (parity_of a b c s) (λ v. differ (differ (is_literal_true v a) (is_literal_true v b)) (is_literal_true v c))
  unfolding parity_of
  parity_of-step a b c ha hb hc = step-made 8 s (Parity a b c) false h (ha, hb, hc) room (omega arith) (omega arith)

  pub parity_bits-step : (a b c : Bit) → IsBit s.formula.vars a → IsBit s.formula.vars b → IsBit s.formula.vars c →
      Step 8 s (parity_bits a b c s) (λ v. differ (differ (bit_value v a) (bit_value v b)) (bit_value v c))
  unfolding parity_bits
  parity_bits-step False b c ha hb hc = step-more 4 8 s _ _ (omega arith) (xor_bits-step s h room b c hb hc)
  parity_bits-step True b c ha hb hc =
      step-value 8 s _ _ _ (λ v _. differ-not (bit_value v b) (bit_value v c)) (step-more 4 8 s _ _ (omega arith) (equal_bits-step s h room b c hb hc))
  parity_bits-step (Literal a) False c ha hb hc =
      step-value 8 s _ _ _ (λ v _. parity-false-second (is_literal_true v a) (bit_value v c)) (step-more 4 8 s _ _ (omega arith) (xor_bits-step s h room (Literal a) c ha hc))
  parity_bits-step (Literal a) True c ha hb hc =
      step-value 8 s _ _ _ (λ v _. parity-true-second (is_literal_true v a) (bit_value v c)) (step-more 4 8 s _ _ (omega arith) (equal_bits-step s h room (Literal a) c ha hc))
  parity_bits-step (Literal a) (Literal b) False ha hb hc =
      step-value 8 s _ _ _ (λ v _. differ-last (differ (is_literal_true v a) (is_literal_true v b))) (step-more 4 8 s _ _ (omega arith) (xor_bits-step s h room (Literal a) (Literal b) ha hb))
  parity_bits-step (Literal a) (Literal b) True ha hb hc =
      step-value 8 s _ _ _ (λ v _. differ-last-true (differ (is_literal_true v a) (is_literal_true v b))) (step-more 4 8 s _ _ (omega arith) (equal_bits-step s h room (Literal a) (Literal b) ha hb))
  parity_bits-step (Literal a) (Literal b) (Literal c) ha hb hc = parity_of-step a b c ha hb hc
