-- The laws of the gates, for circuits that are made of them.
use Rattle.std.proofs.Common.{◌≡◌, ℕ, ◌+◌, ◌<◌, ◌≤◌, Bool, true, false, ◌&&◌, nat_lt, refl, ap, sym, ◌∙◌, arith, if◌then◌else◌}
use Rattle.std.proofs.lemmas.Bool.Decides.{Decides-ltb}
use Rattle.prv_cnf.specs.declared.formula.TheConstants.{MAX_VARS}
use Rattle.prv_gate.specs.Bits.{IsBit, bit_value}
use Rattle.prv_gate.specs.Adders.{AreBits, bit_values, sum_and_carry}
use Rattle.prv_gate.specs.Gates.{differ, majority}
use Rattle.prv_gate.specs.Knowledge.{reduced}
use Rattle.prv_gate.specs.Circuits.{Circuit, Run, give, and_then, known_bit, IsCircuit}
use Rattle.prv_gate.specs.Folding.{and_gate, xor_gate, mux_gate, majority_gate, sum_gate, full_adder, parity_bits}
use Rattle.prv_gate.specs.Growth.{Gives}
use Rattle.prv_gate.specs.declared.bit.Bit.{Bit}
use Rattle.prv_gate.proofs.Composing.{grows-then, bit-more, bit-kept, gives-here, gives-after, gives-value-after}
use Rattle.prv_gate.proofs.Steps.{Step, step-value, reduced-inside, reduced-value}
use Rattle.prv_gate.proofs.Pairs.{and_bits-step, xor_bits-step}
use Rattle.prv_gate.proofs.Triples.{mux_bits-step, majority_bits-step, parity_bits-step}

-- what is known of a bit
pub known_bit-gives : (b : Bit) (s : Circuit) → IsCircuit s → IsBit s.formula.vars b → Gives IsBit bit_value 0 s (known_bit b s) (λ v. bit_value v b)
known_bit-gives b s h hb = gives-here IsBit bit_value 0 s (reduced s.known b) (λ v. bit_value v b) h (reduced-inside s.formula.vars s.known b hb) (λ v model. reduced-value s h v model b hb)

module _ (a b : Bit) (s : Circuit) (h : IsCircuit s) (ha : IsBit s.formula.vars a) (hb : IsBit s.formula.vars b) (room : s.formula.vars < MAX_VARS) where
  and_gate-step : Step 3 s (and_gate a b s) (λ v. bit_value v a && bit_value v b)
  unfolding and_gate
  and_gate-step =
      step-value 3 s _ (λ v. bit_value v (reduced s.known a) && bit_value v (reduced s.known b)) _
      (λ v model. rw (reduced-value s h v model a ha, reduced-value s h v model b hb) refl)
      (and_bits-step s h room (reduced s.known a) (reduced s.known b) (reduced-inside s.formula.vars s.known a ha) (reduced-inside s.formula.vars s.known b hb))

  pub and_gate-gives : Gives IsBit bit_value 3 s (and_gate a b s) (λ v. bit_value v a && bit_value v b)
  and_gate-gives = and_gate-step.gives

  pub and_gate-vars : (and_gate a b s).circuit.formula.vars ≤ s.formula.vars + 1
  and_gate-vars = and_gate-step.one

  xor_gate-step : Step 4 s (xor_gate a b s) (λ v. differ (bit_value v a) (bit_value v b))
  unfolding xor_gate
  xor_gate-step =
      step-value 4 s _ (λ v. differ (bit_value v (reduced s.known a)) (bit_value v (reduced s.known b))) _
      (λ v model. rw (reduced-value s h v model a ha, reduced-value s h v model b hb) refl)
      (xor_bits-step s h room (reduced s.known a) (reduced s.known b) (reduced-inside s.formula.vars s.known a ha) (reduced-inside s.formula.vars s.known b hb))

  pub xor_gate-gives : Gives IsBit bit_value 4 s (xor_gate a b s) (λ v. differ (bit_value v a) (bit_value v b))
  xor_gate-gives = xor_gate-step.gives

  pub xor_gate-vars : (xor_gate a b s).circuit.formula.vars ≤ s.formula.vars + 1
  xor_gate-vars = xor_gate-step.one

module _ (a b c : Bit) (s : Circuit) (h : IsCircuit s) (ha : IsBit s.formula.vars a) (hb : IsBit s.formula.vars b) (hc : IsBit s.formula.vars c) (room : s.formula.vars < MAX_VARS) where
  mux_gate-step : Step 4 s (mux_gate a b c s) (λ v. if bit_value v a then bit_value v b else bit_value v c)
  unfolding mux_gate
  mux_gate-step =
      step-value 4 s _ (λ v. if bit_value v (reduced s.known a) then bit_value v (reduced s.known b) else bit_value v (reduced s.known c)) _
      (λ v model. rw (reduced-value s h v model a ha, reduced-value s h v model b hb, reduced-value s h v model c hc) refl)
      (mux_bits-step s h room (reduced s.known a) (reduced s.known b) (reduced s.known c)
      (reduced-inside s.formula.vars s.known a ha) (reduced-inside s.formula.vars s.known b hb) (reduced-inside s.formula.vars s.known c hc))

  -- the first bit chooses between the others
  pub mux_gate-gives : Gives IsBit bit_value 4 s (mux_gate a b c s) (λ v. if bit_value v a then bit_value v b else bit_value v c)
  mux_gate-gives = mux_gate-step.gives

  pub mux_gate-vars : (mux_gate a b c s).circuit.formula.vars ≤ s.formula.vars + 1
  mux_gate-vars = mux_gate-step.one

  majority_gate-step : Step 6 s (majority_gate a b c s) (λ v. majority (bit_value v a) (bit_value v b) (bit_value v c))
  unfolding majority_gate
  majority_gate-step =
      step-value 6 s _ (λ v. majority (bit_value v (reduced s.known a)) (bit_value v (reduced s.known b)) (bit_value v (reduced s.known c))) _
      (λ v model. rw (reduced-value s h v model a ha, reduced-value s h v model b hb, reduced-value s h v model c hc) refl)
      (majority_bits-step s h room (reduced s.known a) (reduced s.known b) (reduced s.known c)
      (reduced-inside s.formula.vars s.known a ha) (reduced-inside s.formula.vars s.known b hb) (reduced-inside s.formula.vars s.known c hc))

  pub majority_gate-gives : Gives IsBit bit_value 6 s (majority_gate a b c s) (λ v. majority (bit_value v a) (bit_value v b) (bit_value v c))
  majority_gate-gives = majority_gate-step.gives

  pub majority_gate-vars : (majority_gate a b c s).circuit.formula.vars ≤ s.formula.vars + 1
  majority_gate-vars = majority_gate-step.one

-- the answers of two steps, together
pub pair-gives : (c d : ℕ) (s : Circuit) (p q : Run Bit) (f g : (ℕ → Bool) → Bool) → Gives IsBit bit_value c s p f → Gives IsBit bit_value d p.circuit q g →
    Gives AreBits bit_values (c + d) s (give (p.out, q.out) q.circuit) (λ v. (f v, g v))
pair-gives c d s p q f g first second = record {
  grows = grows-then c d s p.circuit q.circuit first.grows second.grows;
  inside = (bit-more p.circuit.formula.vars q.circuit.formula.vars p.out second.grows.vars_kept first.inside, second.inside);
  value = λ v model.
      ap (λ (x : Bool). (x, bit_value v q.out)) (first.value v (second.grows.restricts v model))
      ∙ ap (λ (x : Bool). (f v, x)) (second.value v model);
}

module _ (a b c : Bit) (s : Circuit) (h : IsCircuit s) (ha : IsBit s.formula.vars a) (hb : IsBit s.formula.vars b) (hc : IsBit s.formula.vars c) where
  parity-gives : s.formula.vars < MAX_VARS → Gives IsBit bit_value 8 s (parity_bits (reduced s.known a) (reduced s.known b) (reduced s.known c) s)
      (λ v. differ (differ (bit_value v a) (bit_value v b)) (bit_value v c))
  parity-gives room =
      (step-value 8 s _ (λ v. differ (differ (bit_value v (reduced s.known a)) (bit_value v (reduced s.known b))) (bit_value v (reduced s.known c))) _
      (λ v model. rw (reduced-value s h v model a ha, reduced-value s h v model b hb, reduced-value s h v model c hc) refl)
      (parity_bits-step s h room (reduced s.known a) (reduced s.known b) (reduced s.known c)
      (reduced-inside s.formula.vars s.known a ha) (reduced-inside s.formula.vars s.known b hb) (reduced-inside s.formula.vars s.known c hc))).gives

  parity-vars : s.formula.vars < MAX_VARS → (parity_bits (reduced s.known a) (reduced s.known b) (reduced s.known c) s).circuit.formula.vars ≤ s.formula.vars + 1
  parity-vars room =
      (parity_bits-step s h room (reduced s.known a) (reduced s.known b) (reduced s.known c)
      (reduced-inside s.formula.vars s.known a ha) (reduced-inside s.formula.vars s.known b hb) (reduced-inside s.formula.vars s.known c hc)).one

  -- an odd number of the bits is true, by two gates
  two-gives : s.formula.vars + 1 < MAX_VARS → Gives IsBit bit_value 8 s (and_then (xor_gate a b s) (λ x. xor_gate x c)) (λ v. differ (differ (bit_value v a) (bit_value v b)) (bit_value v c))
  two-gives room =
      let first = xor_gate-gives a b s h ha hb (omega arith) in
      let t = (xor_gate a b s).circuit in
      let one = xor_gate-vars a b s h ha hb (omega arith) in
      let second = xor_gate-gives (xor_gate a b s).out c t first.grows.circuit first.inside (bit-kept 4 s t c first.grows hc) (omega (arith, one)) in
      gives-value-after IsBit bit_value 8 s _ (λ v. differ (bit_value v (xor_gate a b s).out) (bit_value v c)) _
      (λ v model. ap (λ (x : Bool). differ x (bit_value v c)) (first.value v (second.grows.restricts v model)))
      (gives-after IsBit bit_value 4 4 s t _ _ first.grows second)

  two-vars : s.formula.vars + 1 < MAX_VARS → (and_then (xor_gate a b s) (λ x. xor_gate x c)).circuit.formula.vars ≤ s.formula.vars + 2
  two-vars room =
      let first = xor_gate-gives a b s h ha hb (omega arith) in
      let t = (xor_gate a b s).circuit in
      let one = xor_gate-vars a b s h ha hb (omega arith) in
      let second = xor_gate-vars (xor_gate a b s).out c t first.grows.circuit first.inside (bit-kept 4 s t c first.grows hc) (omega (arith, one)) in
      omega (arith, one, second)

  module _ (room : s.formula.vars + 2 ≤ MAX_VARS) where
    sum-by : (t : Bool) → nat_lt (s.formula.vars + 2) MAX_VARS ≡ t →
        Gives IsBit bit_value 8 s (if t then and_then (xor_gate a b s) (λ x. xor_gate x c) else parity_bits (reduced s.known a) (reduced s.known b) (reduced s.known c) s)
        (λ v. differ (differ (bit_value v a) (bit_value v b)) (bit_value v c))
    sum-by true e = two-gives (omega arith)
    sum-by false e = parity-gives (omega arith)

    -- an odd number of the bits is true
    pub sum_gate-gives : Gives IsBit bit_value 8 s (sum_gate a b c s) (λ v. differ (differ (bit_value v a) (bit_value v b)) (bit_value v c))
    unfolding sum_gate
    sum_gate-gives = sum-by (nat_lt (s.formula.vars + 2) MAX_VARS) refl

    sum-vars-by : (t : Bool) → nat_lt (s.formula.vars + 2) MAX_VARS ≡ t →
        (if t then and_then (xor_gate a b s) (λ x. xor_gate x c) else parity_bits (reduced s.known a) (reduced s.known b) (reduced s.known c) s).circuit.formula.vars < MAX_VARS
    sum-vars-by true e = let less : s.formula.vars + 2 < MAX_VARS = (Decides-ltb (s.formula.vars + 2) MAX_VARS).0 e in omega (arith, two-vars (omega arith))
    sum-vars-by false e = omega (arith, parity-vars (omega arith))

    -- it leaves a variable for the carry
    pub sum_gate-vars : (sum_gate a b c s).circuit.formula.vars < MAX_VARS
    unfolding sum_gate
    sum_gate-vars = sum-vars-by (nat_lt (s.formula.vars + 2) MAX_VARS) refl

    -- the sum of three bits
    pub full_adder-gives : Gives AreBits bit_values 14 s (full_adder a b c s) (λ v. sum_and_carry (bit_value v a) (bit_value v b) (bit_value v c))
    unfolding full_adder
    full_adder-gives =
        let low = sum_gate-gives in
        let t = (sum_gate a b c s).circuit in
        let carry = majority_gate-gives a b c t low.grows.circuit (bit-kept 8 s t a low.grows ha) (bit-kept 8 s t b low.grows hb) (bit-kept 8 s t c low.grows hc) sum_gate-vars in
        pair-gives 8 6 s _ _ _ _ low carry

-- the sum by two gates, and by one
pub sum_gate-two : (a b c : Bit) (s : Circuit) → s.formula.vars + 2 < MAX_VARS → and_then (xor_gate a b s) (λ x. xor_gate x c) ≡ sum_gate a b c s
unfolding sum_gate
sum_gate-two a b c s less =
    let test : nat_lt (s.formula.vars + 2) MAX_VARS ≡ true = (Decides-ltb (s.formula.vars + 2) MAX_VARS).1 less in
    ap (λ (t : Bool). if t then and_then (xor_gate a b s) (λ x. xor_gate x c) else parity_bits (reduced s.known a) (reduced s.known b) (reduced s.known c) s) (sym test)

pub sum_gate-one : (a b c : Bit) (s : Circuit) → MAX_VARS ≤ s.formula.vars + 2 → parity_bits (reduced s.known a) (reduced s.known b) (reduced s.known c) s ≡ sum_gate a b c s
unfolding sum_gate
sum_gate-one a b c s most =
    ap (λ (t : Bool). if t then and_then (xor_gate a b s) (λ x. xor_gate x c) else parity_bits (reduced s.known a) (reduced s.known b) (reduced s.known c) s) (sym (by (nat_lt (s.formula.vars + 2) MAX_VARS) refl))
  where
    by : (t : Bool) → nat_lt (s.formula.vars + 2) MAX_VARS ≡ t → nat_lt (s.formula.vars + 2) MAX_VARS ≡ false
    by true e = let less : s.formula.vars + 2 < MAX_VARS = (Decides-ltb (s.formula.vars + 2) MAX_VARS).0 e in absurd (omega arith)
    by false e = e
