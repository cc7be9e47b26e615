-- The gates in the words of lists of bits.
use Rattle.std.proofs.Common.{◌≡◌, ℕ, ◌+◌, ◌<◌, ◌≤◌, Bool, true, false, not, ◌&&◌, ◌||◌, refl, sym, ap, ap₂, subst, ◌∙◌, arith, if◌then◌else◌}
use Rattle.prv_cnf.specs.declared.formula.TheConstants.{MAX_VARS}
use Rattle.prv_gate.specs.Bits.{IsBit, bit_value, negate_bit}
use Rattle.prv_gate.specs.Adders.{AreBits, bit_values, sum_and_carry}
use Rattle.prv_gate.specs.Gates.{differ, majority as gate_majority}
use Rattle.prv_gate.specs.Circuits.{Circuit, IsCircuit}
use Rattle.prv_gate.specs.Folding.{and_gate, xor_gate, mux_gate, full_adder}
use Rattle.prv_gate.specs.Growth.{Gives}
use Rattle.prv_gate.specs.declared.bit.Bit.{Bit}
use Rattle.prv_gate.proofs.Composing.{gives-value, gives-more, bit-more}
use Rattle.prv_gate.proofs.Steps.{IsBit-negate, bit_value-negate}
use Rattle.prv_gate.proofs.Laws.{and_gate-gives, xor_gate-gives, mux_gate-gives, full_adder-gives}
use Rattle.prv_bits.specs.Gates.{xor, mux, parity, majority}
use Rattle.prv_arith.specs.declared.pairs.PairGate.{PairGate}
use Rattle.prv_arith.specs.declared.pairs.PairGate.TheVariants.{And, Or, Xor, Mux}
use Rattle.prv_arith.specs.Pairs.{or_gate, pair_gate, pair_value, IsPairGate}

differ-xor : (a b : Bool) → differ a b ≡ xor a b
differ-xor true b = refl
differ-xor false b = refl

choice-mux : (c a b : Bool) → (if c then a else b) ≡ mux c a b
choice-mux true a b = refl
choice-mux false a b = refl

majority-same : (a b c : Bool) → gate_majority a b c ≡ majority a b c
majority-same true b c = refl
majority-same false b c = refl

adder-same : (a b c : Bool) → sum_and_carry a b c ≡ (parity a b c, majority a b c)
adder-same a b c =
    ap₂ (λ (x y : Bool). (x, y)) (ap (λ (x : Bool). differ x c) (differ-xor a b) ∙ differ-xor (xor a b) c) (majority-same a b c)

not-both : (a b : Bool) → not (not a && not b) ≡ (a || b)
not-both true b = refl
not-both false true = refl
not-both false false = refl

-- one of two bits, by neither of them
pub or-of-and : (a b x y out none : Bit) (s t : Circuit) → x ≡ negate_bit a → y ≡ negate_bit b → out ≡ negate_bit none →
    IsBit s.formula.vars a → IsBit s.formula.vars b →
    Gives IsBit bit_value 3 s (record { out = none; circuit = t }) (λ v. bit_value v x && bit_value v y) →
    Gives IsBit bit_value 3 s (record { out = out; circuit = t }) (λ v. bit_value v a || bit_value v b)
or-of-and a b x y out none s t ex ey eo ha hb h =
    let n = s.formula.vars in
    let m = t.formula.vars in
    record {
      grows = h.grows;
      inside = let P : Bit → Type 0 = λ c. IsBit m c in subst P (sym eo) (IsBit-negate m none h.inside);
      value = λ v model.
          ap (bit_value v) eo
          ∙ bit_value-negate m v none h.inside
          ∙ ap not (h.value v model ∙ ap₂ (λ (p q : Bool). p && q) (ap (bit_value v) ex ∙ bit_value-negate n v a ha) (ap (bit_value v) ey ∙ bit_value-negate n v b hb))
          ∙ not-both (bit_value v a) (bit_value v b);
    }

module _ (a b : Bit) (s : Circuit) (h : IsCircuit s) (ha : IsBit s.formula.vars a) (hb : IsBit s.formula.vars b) (room : s.formula.vars < MAX_VARS) where
  pub xor-gives : Gives IsBit bit_value 4 s (xor_gate a b s) (λ v. xor (bit_value v a) (bit_value v b))
  xor-gives =
      gives-value IsBit bit_value 4 s (xor_gate a b s) (λ v. differ (bit_value v a) (bit_value v b)) (λ v. xor (bit_value v a) (bit_value v b))
      (λ v model. differ-xor (bit_value v a) (bit_value v b))
      (xor_gate-gives a b s h ha hb room)

  pub or-gives : Gives IsBit bit_value 3 s (or_gate a b s) (λ v. bit_value v a || bit_value v b)
  or-gives =
      let n = s.formula.vars in
      let r = and_gate (negate_bit a) (negate_bit b) s in
      or-of-and a b (negate_bit a) (negate_bit b) (negate_bit r.out) r.out s r.circuit refl refl refl ha hb
      (and_gate-gives (negate_bit a) (negate_bit b) s h (IsBit-negate n a ha) (IsBit-negate n b hb) room)

module _ (c a b : Bit) (s : Circuit) (h : IsCircuit s) (hc : IsBit s.formula.vars c) (ha : IsBit s.formula.vars a) (hb : IsBit s.formula.vars b) where
  pub mux-gives : s.formula.vars < MAX_VARS → Gives IsBit bit_value 4 s (mux_gate c a b s) (λ v. mux (bit_value v c) (bit_value v a) (bit_value v b))
  mux-gives room =
      gives-value IsBit bit_value 4 s (mux_gate c a b s) (λ v. if bit_value v c then bit_value v a else bit_value v b) (λ v. mux (bit_value v c) (bit_value v a) (bit_value v b))
      (λ v model. choice-mux (bit_value v c) (bit_value v a) (bit_value v b))
      (mux_gate-gives c a b s h hc ha hb room)

  pub adder-gives : s.formula.vars + 2 ≤ MAX_VARS → Gives AreBits bit_values 14 s (full_adder c a b s)
      (λ v. (parity (bit_value v c) (bit_value v a) (bit_value v b), majority (bit_value v c) (bit_value v a) (bit_value v b)))
  adder-gives room =
      gives-value AreBits bit_values 14 s (full_adder c a b s) (λ v. sum_and_carry (bit_value v c) (bit_value v a) (bit_value v b)) _
      (λ v model. adder-same (bit_value v c) (bit_value v a) (bit_value v b))
      (full_adder-gives c a b s h hc ha hb room)

pub pair_gate-gives : (gate : PairGate) (a b : Bit) (s : Circuit) → IsPairGate s.formula.vars gate → IsCircuit s → IsBit s.formula.vars a → IsBit s.formula.vars b → s.formula.vars < MAX_VARS →
    Gives IsBit bit_value 4 s (pair_gate gate a b s) (λ v. pair_value gate v (bit_value v a) (bit_value v b))
pair_gate-gives And a b s g h ha hb room = gives-more IsBit bit_value 3 4 s _ _ (omega arith) (and_gate-gives a b s h ha hb room)
pair_gate-gives Or a b s g h ha hb room = gives-more IsBit bit_value 3 4 s _ _ (omega arith) (or-gives a b s h ha hb room)
pair_gate-gives Xor a b s g h ha hb room = xor-gives a b s h ha hb room
pair_gate-gives (Mux c) a b s g h ha hb room = mux-gives c a b s h g ha hb room

pub pair_gate-more : (m n : ℕ) (gate : PairGate) → m ≤ n → IsPairGate m gate → IsPairGate n gate
pair_gate-more m n And le h = tt
pair_gate-more m n Or le h = tt
pair_gate-more m n Xor le h = tt
pair_gate-more m n (Mux c) le h = bit-more m n c le h
