-- Steps one after another: what they add, and what their answers mean.
use Rattle.std.proofs.Common.{◌≡◌, ℕ, ◌+◌, ◌≤◌, Bool, refl, ap, sym, ◌∙◌, subst, arith, Result, Ok, Err}
use Rattle.std.specs.Result.{OnOk, IfOk}
use Rattle.prv_cnf.specs.Models.{IsModel}
use Rattle.prv_gate.specs.Bits.{IsBit}
use Rattle.prv_gate.specs.Circuits.{Circuit, Run, give, and_then, IsCircuit}
use Rattle.prv_gate.specs.Growth.{Agrees, Grows, Gives}
use Rattle.prv_gate.specs.declared.bit.Bit.{Bit}
use Rattle.prv_gate.specs.declared.bit.Bit.TheVariants.{False, True, Lit as Literal}
use Rattle.prv_gate.proofs.Frames.{IsLiteral-more}

pub agrees-refl : (n : ℕ) (v : ℕ → Bool) → Agrees n v v
agrees-refl n v k h le = refl

pub agrees-fewer : (m n : ℕ) (v w : ℕ → Bool) → m ≤ n → Agrees n v w → Agrees m v w
agrees-fewer m n v w le a k h below = a k h (omega arith)

pub agrees-trans : (n : ℕ) (u v w : ℕ → Bool) → Agrees n u v → Agrees n v w → Agrees n u w
agrees-trans n u v w a b k h le = a k h le ∙ b k h le

-- nothing is added
pub grows-here : (c : ℕ) (s : Circuit) → IsCircuit s → Grows c s s
grows-here c s h = record {
  circuit = h;
  vars_kept = omega arith;
  vars_cost = omega arith;
  clauses_cost = omega arith;
  restricts = λ v model. model;
  extends = λ v model. (v, agrees-refl s.formula.vars v, model);
  determines = λ v w mv mw agree. agree;
}

pub grows-then : (c d : ℕ) (s t u : Circuit) → Grows c s t → Grows d t u → Grows (c + d) s u
grows-then c d s t u g h = record {
  circuit = h.circuit;
  vars_kept = omega (arith, g.vars_kept, h.vars_kept);
  vars_cost = omega (arith, g.vars_cost, h.vars_cost);
  clauses_cost = omega (arith, g.clauses_cost, h.clauses_cost);
  restricts = λ v model. g.restricts v (h.restricts v model);
  extends = λ v model.
      let first = g.extends v model in
      let second = h.extends first.0 first.2 in
      (second.0, agrees-trans s.formula.vars v first.0 second.0 first.1 (agrees-fewer s.formula.vars t.formula.vars first.0 second.0 g.vars_kept second.1), second.2);
  determines = λ v w mv mw agree. h.determines v w mv mw (g.determines v w (h.restricts v mv) (h.restricts w mw) agree);
}

pub grows-more : (c d : ℕ) (s t : Circuit) → c ≤ d → Grows c s t → Grows d s t
grows-more c d s t le g = record {
  circuit = g.circuit;
  vars_kept = g.vars_kept;
  vars_cost = omega (arith, g.vars_cost);
  clauses_cost = omega (arith, g.clauses_cost);
  restricts = g.restricts;
  extends = g.extends;
  determines = g.determines;
}

-- a bit of a circuit is one of what it grows to
pub bit-more : (m n : ℕ) (b : Bit) → m ≤ n → IsBit m b → IsBit n b
bit-more m n False le h = tt
bit-more m n True le h = tt
bit-more m n (Literal l) le h = IsLiteral-more m n l le h

pub bit-kept : (c : ℕ) (s t : Circuit) (b : Bit) → Grows c s t → IsBit s.formula.vars b → IsBit t.formula.vars b
bit-kept c s t b g h = bit-more s.formula.vars t.formula.vars b g.vars_kept h

module _ {A B : Type 0} (Inside : ℕ → A → Type 0) (read : (ℕ → Bool) → A → B) where
  -- an answer that adds nothing, at any cost
  pub gives-here : (c : ℕ) (s : Circuit) (a : A) (f : (ℕ → Bool) → B) → IsCircuit s → Inside s.formula.vars a →
      ((v : ℕ → Bool) → IsModel v s.formula → read v a ≡ f v) → Gives Inside read c s (give a s) f
  gives-here c s a f h inside value = record { grows = grows-here c s h; inside = inside; value = value }

  pub gives-more : (c d : ℕ) (s : Circuit) (r : Run A) (f : (ℕ → Bool) → B) → c ≤ d → Gives Inside read c s r f → Gives Inside read d s r f
  gives-more c d s r f le h = record { grows = grows-more c d s r.circuit le h.grows; inside = h.inside; value = h.value }

  -- a step after others
  pub gives-after : (c d : ℕ) (s t : Circuit) (r : Run A) (f : (ℕ → Bool) → B) → Grows c s t → Gives Inside read d t r f → Gives Inside read (c + d) s r f
  gives-after c d s t r f g h = record { grows = grows-then c d s t r.circuit g h.grows; inside = h.inside; value = h.value }

  -- the same answer, with another account of its value in the models of the first circuit
  pub gives-value : (c : ℕ) (s : Circuit) (r : Run A) (f g : (ℕ → Bool) → B) → ((v : ℕ → Bool) → IsModel v s.formula → f v ≡ g v) →
      Gives Inside read c s r f → Gives Inside read c s r g
  gives-value c s r f g same h = record {
    grows = h.grows;
    inside = h.inside;
    value = λ v model. h.value v model ∙ same v (h.grows.restricts v model);
  }

  -- the same, where the account needs the models of the second circuit
  pub gives-value-after : (c : ℕ) (s : Circuit) (r : Run A) (f g : (ℕ → Bool) → B) → ((v : ℕ → Bool) → IsModel v r.circuit.formula → f v ≡ g v) →
      Gives Inside read c s r f → Gives Inside read c s r g
  gives-value-after c s r f g same h = record { grows = h.grows; inside = h.inside; value = λ v model. h.value v model ∙ same v model }

-- what holds of a run that a call is to make holds of what it made
pub of_run : {A E : Type 0} (P : Run A → Type 0) (r : Result A E) (new : Circuit) (run : Run A) → IfOk r (λ out. record { out = out; circuit = new } ≡ run) → P run →
    IfOk r (λ out. P (record { out = out; circuit = new }))
of_run P (Ok x) new run e p = subst P (sym e) p
of_run P (Err x) new run e p = tt

pub of_circuit : {A E : Type 0} (P : Circuit → Type 0) (r : Result A E) (new : Circuit) (run : Run A) → IfOk r (λ out. record { out = out; circuit = new } ≡ run) → P run.circuit →
    OnOk r (P new)
of_circuit {A} P (Ok x) new run e p = let circuit_of : Run A → Circuit = λ q. q.circuit in subst P (sym (ap circuit_of e)) p
of_circuit P (Err x) new run e p = tt

-- a call after another makes the second step after the first
pub run_after : {A B E : Type 0} (r : Result B E) (new : Circuit) (x : A) (s : Circuit) (first : Run A) (next : A → Circuit → Run B) → record { out = x; circuit = s } ≡ first →
    IfOk r (λ out. record { out = out; circuit = new } ≡ next x s) → IfOk r (λ out. record { out = out; circuit = new } ≡ and_then first next)
run_after {A} {B} (Ok y) new x s first next e f = let step : Run A → Run B = λ q. next q.out q.circuit in f ∙ ap step e
run_after (Err y) new x s first next e f = tt

-- the run under another name
pub run_as : {A E : Type 0} (r : Result A E) (new : Circuit) (p q : Run A) → p ≡ q → IfOk r (λ out. record { out = out; circuit = new } ≡ p) → IfOk r (λ out. record { out = out; circuit = new } ≡ q)
run_as (Ok y) new p q e f = f ∙ e
run_as (Err y) new p q e f = tt
