-- Gates over bits as steps that make at most one variable: what they fold to, and their values.
use Rattle.std.proofs.Common.{◌≡◌, ℕ, suc, ◌+◌, ◌<◌, ◌≤◌, Bool, true, false, not, nat_le, Option, None, Some, ℤ, pos, negsuc, option_map, refl, ap, sym, ◌∙◌, arith, if◌then◌else◌, List}
use Rattle.std.specs.Option.{option_map_or}
use Rattle.prv_cnf.specs.declared.literal.Lit.{Lit}
use Rattle.prv_cnf.specs.Literals.{variable, signed_value, is_literal_true}
use Rattle.prv_cnf.specs.Formulas.{IsLiteral}
use Rattle.prv_cnf.specs.Models.{IsModel}
use Rattle.prv_cnf.specs.declared.formula.TheConstants.{MAX_VARS}
use Rattle.prv_cnf.proofs.Values.{is_literal_true-negate}
use Rattle.prv_gate.specs.Bits.{IsBit, bit_value, negate_bit, constant, flip_bit}
use Rattle.prv_gate.specs.Gates.{differ, gate_value, is_negative, is_negative_number, positive, ordered, HoldsOfInputs, gate_clauses}
use Rattle.prv_gate.specs.Knowledge.{known_value, signed_known, known_literal, reduced}
use Rattle.prv_gate.specs.Circuits.{Circuit, Run, give, flipped, opposite, made, next_output, IsCircuit}
use Rattle.prv_gate.specs.Growth.{Gives}
use Rattle.prv_gate.specs.declared.bit.Bit.{Bit}
use Rattle.prv_gate.specs.declared.bit.Bit.TheVariants.{False, True, Lit as Literal}
use Rattle.prv_gate.specs.declared.gate.Gate.{Gate}
use Rattle.prv_gate.proofs.Frames.{IsLiteral-negate}
use Rattle.prv_gate.proofs.Composing.{gives-here, gives-more, gives-value}
use Rattle.prv_gate.proofs.Making.{made-gives, made-vars}
use Rattle.std.proofs.Common.{length, unsigned_abs}

pub not_not : (b : Bool) → not (not b) ≡ b
not_not true = refl
not_not false = refl

pub IsBit-negate : (n : ℕ) (b : Bit) → IsBit n b → IsBit n (negate_bit b)
IsBit-negate n False h = tt
IsBit-negate n True h = tt
IsBit-negate n (Literal l) h = IsLiteral-negate n l h

pub bit_value-negate : (n : ℕ) (v : ℕ → Bool) (b : Bit) → IsBit n b → bit_value v (negate_bit b) ≡ not (bit_value v b)
bit_value-negate n v False h = refl
bit_value-negate n v True h = refl
bit_value-negate n v (Literal l) h = is_literal_true-negate v l h.0

pub constant-inside : (n : ℕ) (b : Bool) → IsBit n (constant b)
constant-inside n true = tt
constant-inside n false = tt

pub constant-value : (v : ℕ → Bool) (b : Bool) → bit_value v (constant b) ≡ b
constant-value v true = refl
constant-value v false = refl

pub flip_bit-inside : (n : ℕ) (flag : Bool) (b : Bit) → IsBit n b → IsBit n (flip_bit flag b)
flip_bit-inside n true b h = IsBit-negate n b h
flip_bit-inside n false b h = h

pub flip_bit-value : (n : ℕ) (v : ℕ → Bool) (flag : Bool) (b : Bit) → IsBit n b → bit_value v (flip_bit flag b) ≡ differ flag (bit_value v b)
flip_bit-value n v true b h = bit_value-negate n v b h
flip_bit-value n v false b h = refl

-- the value of a literal by its sign and its variable
signed_value-sign : (v : ℕ → Bool) (z : ℤ) → signed_value v z ≡ differ (is_negative_number z) (signed_value v (pos (unsigned_abs z)))
signed_value-sign v (pos k) = refl
signed_value-sign v (negsuc k) = refl

pub value-sign : (v : ℕ → Bool) (l : Lit) → is_literal_true v l ≡ differ (is_negative l) (v (variable l))
value-sign v l = signed_value-sign v l.0

pub positive-inside : (n : ℕ) (l : Lit) → IsLiteral n l → IsLiteral n (positive l)
positive-inside n l h = h

-- a step that answers a bit, and makes at most one variable
pub record Step (c : ℕ) (s : Circuit) (r : Run Bit) (f : (ℕ → Bool) → Bool) : Type 0 where
  pub gives : Gives IsBit bit_value c s r f
  pub one : r.circuit.formula.vars ≤ s.formula.vars + 1

pub step-here : (c : ℕ) (s : Circuit) (b : Bit) (f : (ℕ → Bool) → Bool) → IsCircuit s → IsBit s.formula.vars b → ((v : ℕ → Bool) → bit_value v b ≡ f v) → Step c s (give b s) f
step-here c s b f h inside value = record { gives = gives-here IsBit bit_value c s b f h inside (λ v model. value v); one = omega arith }

pub step-value : (c : ℕ) (s : Circuit) (r : Run Bit) (f g : (ℕ → Bool) → Bool) → ((v : ℕ → Bool) → IsModel v s.formula → f v ≡ g v) → Step c s r f → Step c s r g
step-value c s r f g same h = record { gives = gives-value IsBit bit_value c s r f g same h.gives; one = h.one }

pub step-more : (c d : ℕ) (s : Circuit) (r : Run Bit) (f : (ℕ → Bool) → Bool) → c ≤ d → Step c s r f → Step d s r f
step-more c d s r f le h = record { gives = gives-more IsBit bit_value c d s r f le h.gives; one = h.one }

-- a choice of two steps by a test
pub step-if : (c : ℕ) (s : Circuit) (f : (ℕ → Bool) → Bool) (t : Bool) (x y : Run Bit) → (t ≡ true → Step c s x f) → (t ≡ false → Step c s y f) → Step c s (if t then x else y) f
step-if c s f true x y first second = first refl
step-if c s f false x y first second = second refl

pub step-opposite : (c : ℕ) (s : Circuit) (r : Run Bit) (f : (ℕ → Bool) → Bool) → Step c s r f → Step c s (opposite r) (λ v. not (f v))
step-opposite c s r f h = record {
  gives = record {
    grows = h.gives.grows;
    inside = IsBit-negate r.circuit.formula.vars r.out h.gives.inside;
    value = λ v model. bit_value-negate r.circuit.formula.vars v r.out h.gives.inside ∙ ap not (h.gives.value v model);
  };
  one = h.one;
}

-- a gate that is made, with its output as it is or negated
pub step-made : (c : ℕ) (s : Circuit) (g : Gate) (flag : Bool) → IsCircuit s → HoldsOfInputs (IsLiteral s.formula.vars) g → s.formula.vars < MAX_VARS →
    1 ≤ c → length (gate_clauses g (next_output s)) ≤ c → Step c s (flipped flag (made g s)) (λ v. differ flag (gate_value v g))
step-made c s g flag h inside room one cost =
    let m = made-gives g s h inside room c one cost in
    record {
      gives = record {
        grows = m.grows;
        inside = flip_bit-inside (made g s).circuit.formula.vars flag (Literal (made g s).out) m.inside;
        value = λ v model. flip_bit-value (made g s).circuit.formula.vars v flag (Literal (made g s).out) m.inside ∙ ap (differ flag) (m.value v model);
      };
      one = made-vars g s h inside room;
    }

-- either order of two literals
pub ordered-cases : (a b : Lit) (P : Lit × Lit → Type 0) → P (a, b) → P (b, a) → P (ordered a b)
ordered-cases a b P x y = elim (nat_le (variable a) (variable b)) as (λ t. P (if t then (a, b) else (b, a))) [ true ↦ x | false ↦ y ]

-- what is known of variables is their value
abbrev pub IsKnown : (ℕ → Bool) → List (Option Bool) → Type 0
IsKnown v known = (k : ℕ) (b : Bool) → 0 < k → known_value known k ≡ Some b → v k ≡ b

-- what is known of a literal is its value
signed_known-value : (v : ℕ → Bool) (known : List (Option Bool)) → IsKnown v known → (z : ℤ) (b : Bool) → 0 < unsigned_abs z → signed_known known z ≡ Some b → signed_value v z ≡ b
signed_known-value v known h (pos k) b some is = h k b some is
signed_known-value v known h (negsuc k) b some is = by (known_value known (suc k)) refl is
  where
    by : (r : Option Bool) → known_value known (suc k) ≡ r → option_map not r ≡ Some b → not (v (suc k)) ≡ b
    by None e found = absurd cc
    by (Some x) e found = let value : v (suc k) ≡ x = h (suc k) x some e in let end : not x ≡ b = cc in rw value end

pub known_literal-value : (v : ℕ → Bool) (known : List (Option Bool)) → IsKnown v known → (l : Lit) (b : Bool) → 0 < variable l → known_literal known l ≡ Some b → is_literal_true v l ≡ b
known_literal-value v known h l b some is = signed_known-value v known h l.0 b some is

pub reduced-inside : (n : ℕ) (known : List (Option Bool)) (b : Bit) → IsBit n b → IsBit n (reduced known b)
reduced-inside n known False h = tt
reduced-inside n known True h = tt
reduced-inside n known (Literal l) h = by (known_literal known l)
  where
    by : (r : Option Bool) → IsBit n (option_map_or constant r (Literal l))
    by None = h
    by (Some x) = constant-inside n x

pub reduced-value-known : (n : ℕ) (v : ℕ → Bool) (known : List (Option Bool)) → IsKnown v known → (b : Bit) → IsBit n b → bit_value v (reduced known b) ≡ bit_value v b
reduced-value-known n v known h False inside = refl
reduced-value-known n v known h True inside = refl
reduced-value-known n v known h (Literal l) inside = by (known_literal known l) refl
  where
    by : (r : Option Bool) → known_literal known l ≡ r → bit_value v (option_map_or constant r (Literal l)) ≡ is_literal_true v l
    by None e = refl
    by (Some x) e = constant-value v x ∙ sym (known_literal-value v known h l x inside.0 e)

pub reduced-value : (s : Circuit) → IsCircuit s → (v : ℕ → Bool) → IsModel v s.formula → (b : Bit) → IsBit s.formula.vars b → bit_value v (reduced s.known b) ≡ bit_value v b
reduced-value s h v model b inside = reduced-value-known s.formula.vars v s.known (λ k x some is. h.known k x some is v model) b inside
