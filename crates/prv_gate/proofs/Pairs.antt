-- The gates of two inputs: And, Or, Xor.
use Rattle.std.proofs.Common.{◌≡◌, ℕ, ◌<◌, Bool, true, false, not, ◌&&◌, ◌||◌, ◌==◌, refl, ap, ◌∙◌, arith}
use Rattle.std.proofs.lemmas.Bool.Decides.{Decides-eqb}
use Rattle.prv_cnf.specs.declared.literal.Lit.{Lit}
use Rattle.prv_cnf.specs.Literals.{variable, negate, is_literal_true, same_literal}
use Rattle.prv_cnf.specs.Formulas.{IsLiteral}
use Rattle.prv_cnf.specs.declared.formula.TheConstants.{MAX_VARS}
use Rattle.prv_cnf.proofs.Values.{is_literal_true-negate, same_literal-eq}
use Rattle.prv_gate.specs.Bits.{IsBit, bit_value, negate_bit, constant}
use Rattle.prv_gate.specs.Gates.{differ, is_negative, positive}
use Rattle.prv_gate.specs.Circuits.{Circuit, flipped, made, IsCircuit}
use Rattle.prv_gate.specs.Folding.{and_of, or_of, and_bits, or_bits, xor_of, xor_bits, equal_bits}
use Rattle.prv_gate.specs.declared.bit.Bit.{Bit}
use Rattle.prv_gate.specs.declared.bit.Bit.TheVariants.{False, True, Lit as Literal}
use Rattle.prv_gate.specs.declared.gate.Gate.TheVariants.{And, Xor}
use Rattle.prv_gate.proofs.Frames.{IsLiteral-negate}
use Rattle.prv_gate.proofs.Steps.{Step, step-here, step-value, step-if, step-opposite, step-made, ordered-cases, value-sign, constant-inside, constant-value, IsBit-negate, bit_value-negate}

and-equal : (a b : Bool) → a ≡ b → a ≡ (a && b)
and-equal true b e = e
and-equal false b e = refl

and-opposite : (a b : Bool) → a ≡ not b → false ≡ (a && b)
and-opposite true true e = absurd cc
and-opposite true false e = refl
and-opposite false b e = refl

and-comm : (a b : Bool) → (a && b) ≡ (b && a)
and-comm true true = refl
and-comm true false = refl
and-comm false true = refl
and-comm false false = refl

and-false : (a : Bool) → false ≡ (a && false)
and-false true = refl
and-false false = refl

and-true : (a : Bool) → a ≡ (a && true)
and-true true = refl
and-true false = refl

or-not-and : (a b : Bool) → not (not a && not b) ≡ (a || b)
or-not-and true b = refl
or-not-and false true = refl
or-not-and false false = refl

differ-comm : (a b : Bool) → differ a b ≡ differ b a
differ-comm true true = refl
differ-comm true false = refl
differ-comm false true = refl
differ-comm false false = refl

differ-signs : (m n x y : Bool) → differ (differ m n) (differ x y) ≡ differ (differ m x) (differ n y)
differ-signs true true true true = refl
differ-signs true true true false = refl
differ-signs true true false true = refl
differ-signs true true false false = refl
differ-signs true false true true = refl
differ-signs true false true false = refl
differ-signs true false false true = refl
differ-signs true false false false = refl
differ-signs false true true true = refl
differ-signs false true true false = refl
differ-signs false true false true = refl
differ-signs false true false false = refl
differ-signs false false x y = refl

differ-same : (m n x : Bool) → differ m n ≡ differ (differ m x) (differ n x)
differ-same true true true = refl
differ-same true true false = refl
differ-same true false true = refl
differ-same true false false = refl
differ-same false true true = refl
differ-same false true false = refl
differ-same false false true = refl
differ-same false false false = refl

differ-true : (a : Bool) → not a ≡ differ a true
differ-true true = refl
differ-true false = refl

differ-false : (a : Bool) → a ≡ differ a false
differ-false true = refl
differ-false false = refl

pub value-equal : (v : ℕ → Bool) (a b : Lit) → same_literal a b ≡ true → is_literal_true v a ≡ is_literal_true v b
value-equal v a b e = ap (is_literal_true v) (same_literal-eq a b e)

pub value-opposite : (n : ℕ) (v : ℕ → Bool) (a b : Lit) → IsLiteral n b → same_literal a (negate b) ≡ true → is_literal_true v a ≡ not (is_literal_true v b)
value-opposite n v a b h e = ap (is_literal_true v) (same_literal-eq a (negate b) e) ∙ is_literal_true-negate v b h.0

module _ (s : Circuit) (h : IsCircuit s) (room : s.formula.vars < MAX_VARS) where
  and-made : (a b : Lit) → IsLiteral s.formula.vars a → IsLiteral s.formula.vars b →
      Step 3 s (flipped false (made (And a b) s)) (λ v. is_literal_true v a && is_literal_true v b)
  and-made a b ha hb = step-made 3 s (And a b) false h (ha, hb) room (omega arith) (omega arith)

  pub and_of-step : (a b : Lit) → IsLiteral s.formula.vars a → IsLiteral s.formula.vars b → Step 3 s (and_of a b s) (λ v. is_literal_true v a && is_literal_true v b)
  unfolding and_of
  and_of-step a b ha hb =
      step-if 3 s (λ v. is_literal_true v a && is_literal_true v b) (same_literal a b) _ _
      (λ e. step-here 3 s (Literal a) _ h ha (λ v. and-equal (is_literal_true v a) (is_literal_true v b) (value-equal v a b e)))
      (λ _. step-if 3 s (λ v. is_literal_true v a && is_literal_true v b) (same_literal a (negate b)) _ _
      (λ e. step-here 3 s False _ h tt (λ v. and-opposite (is_literal_true v a) (is_literal_true v b) (value-opposite s.formula.vars v a b hb e)))
      (λ _. ordered-cases a b (λ p. Step 3 s (flipped false (made (And p.0 p.1) s)) (λ v. is_literal_true v a && is_literal_true v b))
      (and-made a b ha hb)
      (step-value 3 s _ _ _ (λ v _. and-comm (is_literal_true v b) (is_literal_true v a)) (and-made b a hb ha))))

  pub or_of-step : (a b : Lit) → IsLiteral s.formula.vars a → IsLiteral s.formula.vars b → Step 3 s (or_of a b s) (λ v. is_literal_true v a || is_literal_true v b)
  unfolding or_of
  or_of-step a b ha hb =
      step-value 3 s _ (λ v. not (is_literal_true v (negate a) && is_literal_true v (negate b))) _
      (λ v _. rw (is_literal_true-negate v a ha.0, is_literal_true-negate v b hb.0) (or-not-and (is_literal_true v a) (is_literal_true v b)))
      (step-opposite 3 s _ _ (and_of-step (negate a) (negate b) (IsLiteral-negate s.formula.vars a ha) (IsLiteral-negate s.formula.vars b hb)))

  pub and_bits-step : (a b : Bit) → IsBit s.formula.vars a → IsBit s.formula.vars b → Step 3 s (and_bits a b s) (λ v. bit_value v a && bit_value v b)
  unfolding and_bits
  and_bits-step False b ha hb = step-here 3 s False _ h tt (λ v. refl)
  and_bits-step True b ha hb = step-here 3 s b _ h hb (λ v. refl)
  and_bits-step (Literal a) False ha hb = step-here 3 s False _ h tt (λ v. and-false (is_literal_true v a))
  and_bits-step (Literal a) True ha hb = step-here 3 s (Literal a) _ h ha (λ v. and-true (is_literal_true v a))
  and_bits-step (Literal a) (Literal b) ha hb = and_of-step a b ha hb

  pub or_bits-step : (a b : Bit) → IsBit s.formula.vars a → IsBit s.formula.vars b → Step 3 s (or_bits a b s) (λ v. bit_value v a || bit_value v b)
  unfolding or_bits
  or_bits-step a b ha hb =
      step-value 3 s _ (λ v. not (bit_value v (negate_bit a) && bit_value v (negate_bit b))) _
      (λ v _. rw (bit_value-negate s.formula.vars v a ha, bit_value-negate s.formula.vars v b hb) (or-not-and (bit_value v a) (bit_value v b)))
      (step-opposite 3 s _ _ (and_bits-step (negate_bit a) (negate_bit b) (IsBit-negate s.formula.vars a ha) (IsBit-negate s.formula.vars b hb)))

  xor-made : (a b : Lit) (flag : Bool) → IsLiteral s.formula.vars a → IsLiteral s.formula.vars b →
      Step 4 s (flipped flag (made (Xor (positive a) (positive b)) s)) (λ v. differ flag (differ (v (variable a)) (v (variable b))))
  xor-made a b flag ha hb = step-made 4 s (Xor (positive a) (positive b)) flag h (ha, hb) room (omega arith) (omega arith)

  pub xor_of-step : (a b : Lit) → IsLiteral s.formula.vars a → IsLiteral s.formula.vars b → Step 4 s (xor_of a b s) (λ v. differ (is_literal_true v a) (is_literal_true v b))
  unfolding xor_of
  xor_of-step a b ha hb =
      let flag : Bool = differ (is_negative a) (is_negative b) in
      step-if 4 s (λ v. differ (is_literal_true v a) (is_literal_true v b)) (variable a == variable b) _ _
      (λ e. step-here 4 s (constant flag) _ h (constant-inside s.formula.vars flag) (λ v.
      let one : variable a ≡ variable b = (Decides-eqb (variable a) (variable b)).0 e in
      constant-value v flag ∙ differ-same (is_negative a) (is_negative b) (v (variable b))
      ∙ rw (value-sign v a, value-sign v b, one) refl))
      (λ _. step-value 4 s _ (λ v. differ flag (differ (v (variable a)) (v (variable b)))) _
      (λ v _. rw (value-sign v a, value-sign v b) (differ-signs (is_negative a) (is_negative b) (v (variable a)) (v (variable b))))
      (ordered-cases a b (λ p. Step 4 s (flipped flag (made (Xor (positive p.0) (positive p.1)) s)) (λ v. differ flag (differ (v (variable a)) (v (variable b)))))
      (xor-made a b flag ha hb)
      (step-value 4 s _ _ _ (λ v _. ap (differ flag) (differ-comm (v (variable b)) (v (variable a)))) (xor-made b a flag hb ha))))

  pub xor_bits-step : (a b : Bit) → IsBit s.formula.vars a → IsBit s.formula.vars b → Step 4 s (xor_bits a b s) (λ v. differ (bit_value v a) (bit_value v b))
  unfolding xor_bits
  xor_bits-step False b ha hb = step-here 4 s b _ h hb (λ v. refl)
  xor_bits-step True b ha hb = step-here 4 s (negate_bit b) _ h (IsBit-negate s.formula.vars b hb) (λ v. bit_value-negate s.formula.vars v b hb)
  xor_bits-step (Literal a) False ha hb = step-here 4 s (Literal a) _ h ha (λ v. differ-false (is_literal_true v a))
  xor_bits-step (Literal a) True ha hb =
      step-here 4 s (Literal (negate a)) _ h (IsLiteral-negate s.formula.vars a ha) (λ v. is_literal_true-negate v a ha.0 ∙ differ-true (is_literal_true v a))
  xor_bits-step (Literal a) (Literal b) ha hb = xor_of-step a b ha hb

  pub equal_bits-step : (a b : Bit) → IsBit s.formula.vars a → IsBit s.formula.vars b → Step 4 s (equal_bits a b s) (λ v. not (differ (bit_value v a) (bit_value v b)))
  unfolding equal_bits
  equal_bits-step a b ha hb = step-opposite 4 s _ _ (xor_bits-step a b ha hb)
