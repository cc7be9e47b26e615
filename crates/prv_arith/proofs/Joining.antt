-- Steps one after another, of which the second takes what the first gives.
use Rattle.std.proofs.Common.{◌≡◌, ℕ, ◌+◌, ◌≤◌, Bool, List, ◌∷◌, ap, ◌∙◌}
use Rattle.prv_cnf.specs.Models.{IsModel}
use Rattle.prv_gate.specs.Bits.{IsBit, bit_value}
use Rattle.prv_gate.specs.Adders.{AreBits, bit_values}
use Rattle.prv_gate.specs.Circuits.{Circuit, Run, give, and_then}
use Rattle.prv_gate.specs.Growth.{Gives}
use Rattle.prv_gate.specs.declared.bit.Bit.{Bit}
use Rattle.prv_gate.proofs.Composing.{gives-after, gives-more, gives-value-after}
use Rattle.prv_arith.specs.Lists.{AllBits, values, with_top, AreCarried, carried_values}
use Rattle.prv_arith.proofs.ListLaws.{bits-more}

module _ {A B X Y : Type 0} (InA : ℕ → A → Type 0) (readA : (ℕ → Bool) → A → X) (InB : ℕ → B → Type 0) (readB : (ℕ → Bool) → B → Y) where
  pub gives-then : (c d e : ℕ) (s : Circuit) (r : Run A) (next : A → Circuit → Run B) (f : (ℕ → Bool) → X) (h : (ℕ → Bool) → X → Y) →
      c + d ≤ e →
      Gives InA readA c s r f →
      Gives InB readB d r.circuit (next r.out r.circuit) (λ v. h v (readA v r.out)) →
      Gives InB readB e s (and_then r next) (λ v. h v (f v))
  gives-then c d e s r next f h le first second =
      gives-more InB readB (c + d) e s (next r.out r.circuit) (λ v. h v (f v)) le
      (gives-value-after InB readB (c + d) s (next r.out r.circuit) (λ v. h v (readA v r.out)) (λ v. h v (f v))
      (λ v model. ap (h v) (first.value v (second.grows.restricts v model)))
      (gives-after InB readB c d s r.circuit (next r.out r.circuit) (λ v. h v (readA v r.out)) first.grows second))

-- an answer that is put together from that of a run
module _ {A B X Y : Type 0} (InA : ℕ → A → Type 0) (readA : (ℕ → Bool) → A → X) (InB : ℕ → B → Type 0) (readB : (ℕ → Bool) → B → Y) where
  pub gives-with : (c : ℕ) (s : Circuit) (r : Run A) (make : A → B) (f : (ℕ → Bool) → X) (h : (ℕ → Bool) → X → Y) →
      (InA r.circuit.formula.vars r.out → InB r.circuit.formula.vars (make r.out)) →
      ((v : ℕ → Bool) → IsModel v r.circuit.formula → readB v (make r.out) ≡ h v (readA v r.out)) →
      Gives InA readA c s r f → Gives InB readB c s (give (make r.out) r.circuit) (λ v. h v (f v))
  gives-with c s r make f h inside value first =
      record { grows = first.grows; inside = inside first.inside; value = λ v model. value v model ∙ ap (h v) (first.value v model) }

-- a bit above others
pub top-gives : (c : ℕ) (s : Circuit) (r : Run Bit) (bs : List Bit) (f : (ℕ → Bool) → Bool) →
    Gives IsBit bit_value c s r f → AllBits s.formula.vars bs → Gives AllBits values c s (with_top r bs) (λ v. f v ∷ values v bs)
top-gives c s r bs f h inside = record {
  grows = h.grows;
  inside = (h.inside, bits-more s.formula.vars r.circuit.formula.vars bs h.grows.vars_kept inside);
  value = λ v model. ap (λ (b : Bool). b ∷ values v bs) (h.value v model);
}

-- a sum above others, and its carry
pub carried-gives : (c : ℕ) (s : Circuit) (r : Run (Bit × Bit)) (bs : List Bit) (f : (ℕ → Bool) → Bool × Bool) →
    Gives AreBits bit_values c s r f → AllBits s.formula.vars bs →
    Gives AreCarried carried_values c s (and_then r (λ p u. give (p.1, p.0 ∷ bs) u)) (λ v. ((f v).1, (f v).0 ∷ values v bs))
carried-gives c s r bs f h inside = record {
  grows = h.grows;
  inside = (h.inside.1, (h.inside.0, bits-more s.formula.vars r.circuit.formula.vars bs h.grows.vars_kept inside));
  value = λ v model. ap (λ (p : Bool × Bool). (p.1, p.0 ∷ values v bs)) (h.value v model);
}
