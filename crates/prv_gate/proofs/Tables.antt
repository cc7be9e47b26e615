-- The clauses of a gate are true exactly where its output has the gate's value.
use Rattle.std.proofs.Common.{◌≡◌, ℕ, ◌+◌, Bool, true, false, not, cond, ◌&&◌, ◌||◌, ◌++◌, refl, ap, sym, ◌∙◌, subst, arith}
use Rattle.std.specs.List.{list_all, AllByRecursion}
use Rattle.prv_cnf.specs.declared.literal.Lit.{Lit}
use Rattle.prv_cnf.specs.Literals.{negate, is_literal_true}
use Rattle.prv_cnf.specs.Formulas.{Formula, IsLiteral}
use Rattle.prv_cnf.specs.Models.{IsModel, is_clause_true}
use Rattle.prv_cnf.proofs.Values.{is_literal_true-negate}
use Rattle.prv_gate.specs.Gates.{differ, majority, gate_value, gate_clauses, HoldsOfInputs}
use Rattle.prv_gate.specs.Growth.{Agrees}
use Rattle.prv_gate.specs.Circuits.{Circuit, IsFreeGate, IsFreeLiteral}
use Rattle.prv_gate.specs.declared.gate.Gate.{Gate}
use Rattle.prv_gate.specs.declared.gate.Gate.TheVariants.{And, Xor, Mux, Majority, Parity}
use Rattle.prv_gate.proofs.Frames.{IsLiteral-negate, IsLiteral-more, literal-agree}
use Rattle.prv_gate.proofs.Keeping.{IsModel-last}

-- the bits are equal
abbrev pub same : Bool → Bool → Bool
same true b = b
same false b = not b

pub same-eq : (a b : Bool) → same a b ≡ true → a ≡ b
same-eq true true h = refl
same-eq true false h = absurd cc
same-eq false true h = absurd cc
same-eq false false h = refl

pub same-refl : (a b : Bool) → a ≡ b → same a b ≡ true
same-refl true b h = sym h
same-refl false b h = ap not (sym h)

-- the clauses over values of literals: the output o, then the inputs
and-table : (o a b : Bool) → ((not o || (a || false)) && ((not o || (b || false)) && ((o || (not a || (not b || false))) && true))) ≡ same o (a && b)
and-table true true true = refl
and-table true true false = refl
and-table true false true = refl
and-table true false false = refl
and-table false true true = refl
and-table false true false = refl
and-table false false true = refl
and-table false false false = refl

xor-table : (o a b : Bool) →
    ((not o || (a || (b || false))) && ((not o || (not a || (not b || false))) && ((o || (not a || (b || false))) && ((o || (a || (not b || false))) && true)))) ≡ same o (differ a b)
xor-table true true true = refl
xor-table true true false = refl
xor-table true false true = refl
xor-table true false false = refl
xor-table false true true = refl
xor-table false true false = refl
xor-table false false true = refl
xor-table false false false = refl

mux-table : (o s a b : Bool) →
    ((not o || (not s || (a || false))) && ((o || (not s || (not a || false))) && ((not o || (s || (b || false))) && ((o || (s || (not b || false))) && true)))) ≡ same o (cond s a b)
mux-table true true true true = refl
mux-table true true true false = refl
mux-table true true false true = refl
mux-table true true false false = refl
mux-table true false true true = refl
mux-table true false true false = refl
mux-table true false false true = refl
mux-table true false false false = refl
mux-table false true true true = refl
mux-table false true true false = refl
mux-table false true false true = refl
mux-table false true false false = refl
mux-table false false true true = refl
mux-table false false true false = refl
mux-table false false false true = refl
mux-table false false false false = refl

majority-table : (o a b c : Bool) →
    ((not o || (a || (b || false))) && ((not o || (a || (c || false))) && ((not o || (b || (c || false)))
    && ((o || (not a || (not b || false))) && ((o || (not a || (not c || false))) && ((o || (not b || (not c || false))) && true)))))) ≡ same o (majority a b c)
majority-table true true true true = refl
majority-table true true true false = refl
majority-table true true false true = refl
majority-table true true false false = refl
majority-table true false true true = refl
majority-table true false true false = refl
majority-table true false false true = refl
majority-table true false false false = refl
majority-table false true true true = refl
majority-table false true true false = refl
majority-table false true false true = refl
majority-table false true false false = refl
majority-table false false true true = refl
majority-table false false true false = refl
majority-table false false false true = refl
majority-table false false false false = refl

parity-table : (o a b c : Bool) →
    ((not o || (a || (b || (c || false)))) && ((not o || (a || (not b || (not c || false)))) && ((not o || (not a || (b || (not c || false)))) && ((not o || (not a || (not b || (c || false))))
    && ((o || (not a || (b || (c || false)))) && ((o || (a || (not b || (c || false)))) && ((o || (a || (b || (not c || false)))) && ((o || (not a || (not b || (not c || false)))) && true))))))))
    ≡ same o (differ (differ a b) c)
parity-table true true true true = refl
parity-table true true true false = refl
parity-table true true false true = refl
parity-table true true false false = refl
parity-table true false true true = refl
parity-table true false true false = refl
parity-table true false false true = refl
parity-table true false false false = refl
parity-table false true true true = refl
parity-table false true true false = refl
parity-table false true false true = refl
parity-table false true false false = refl
parity-table false false true true = refl
parity-table false false true false = refl
parity-table false false false true = refl
parity-table false false false false = refl

-- the value of a negated literal
negated : (n : ℕ) (v : ℕ → Bool) (l : Lit) → IsLiteral n l → is_literal_true v (negate l) ≡ not (is_literal_true v l)
negated n v l h = is_literal_true-negate v l h.0

pub gate_clauses-true : (n : ℕ) (v : ℕ → Bool) (g : Gate) (o : Lit) → IsLiteral n o → HoldsOfInputs (IsLiteral n) g →
    list_all (is_clause_true v) (gate_clauses g o) ≡ same (is_literal_true v o) (gate_value v g)
gate_clauses-true n v (And a b) o ho h =
    simp (negated n v o ho, negated n v a h.0, negated n v b h.1) (and-table (is_literal_true v o) (is_literal_true v a) (is_literal_true v b))
gate_clauses-true n v (Xor a b) o ho h =
    simp (negated n v o ho, negated n v a h.0, negated n v b h.1) (xor-table (is_literal_true v o) (is_literal_true v a) (is_literal_true v b))
gate_clauses-true n v (Mux s a b) o ho h =
    simp (negated n v o ho, negated n v s h.0, negated n v a h.1, negated n v b h.2)
    (mux-table (is_literal_true v o) (is_literal_true v s) (is_literal_true v a) (is_literal_true v b))
gate_clauses-true n v (Majority a b c) o ho h =
    simp (negated n v o ho, negated n v a h.0, negated n v b h.1, negated n v c h.2)
    (majority-table (is_literal_true v o) (is_literal_true v a) (is_literal_true v b) (is_literal_true v c))
gate_clauses-true n v (Parity a b c) o ho h =
    simp (negated n v o ho, negated n v a h.0, negated n v b h.1, negated n v c h.2)
    (parity-table (is_literal_true v o) (is_literal_true v a) (is_literal_true v b) (is_literal_true v c))

-- the gate's value is of its inputs alone
pub gate_value-agree : (n : ℕ) (v w : ℕ → Bool) (g : Gate) → Agrees n v w → HoldsOfInputs (IsLiteral n) g → gate_value v g ≡ gate_value w g
gate_value-agree n v w (And a b) agree h = rw (literal-agree n v w a agree h.0, literal-agree n v w b agree h.1) refl
gate_value-agree n v w (Xor a b) agree h = rw (literal-agree n v w a agree h.0, literal-agree n v w b agree h.1) refl
gate_value-agree n v w (Mux s a b) agree h = rw (literal-agree n v w s agree h.0, literal-agree n v w a agree h.1, literal-agree n v w b agree h.2) refl
gate_value-agree n v w (Majority a b c) agree h = rw (literal-agree n v w a agree h.0, literal-agree n v w b agree h.1, literal-agree n v w c agree h.2) refl
gate_value-agree n v w (Parity a b c) agree h = rw (literal-agree n v w a agree h.0, literal-agree n v w b agree h.1, literal-agree n v w c agree h.2) refl

-- the clauses of a gate are over its output and inputs
pub gate_clauses-inside : (n : ℕ) (g : Gate) (o : Lit) → IsLiteral n o → HoldsOfInputs (IsLiteral n) g →
    AllByRecursion (AllByRecursion (IsLiteral n)) (gate_clauses g o)
gate_clauses-inside n (And a b) o ho h =
    let no = IsLiteral-negate n o ho in let na = IsLiteral-negate n a h.0 in let nb = IsLiteral-negate n b h.1 in
    ((no, (h.0, tt)), ((no, (h.1, tt)), ((ho, (na, (nb, tt))), tt)))
gate_clauses-inside n (Xor a b) o ho h =
    let no = IsLiteral-negate n o ho in let na = IsLiteral-negate n a h.0 in let nb = IsLiteral-negate n b h.1 in
    ((no, (h.0, (h.1, tt))), ((no, (na, (nb, tt))), ((ho, (na, (h.1, tt))), ((ho, (h.0, (nb, tt))), tt))))
gate_clauses-inside n (Mux s a b) o ho h =
    let no = IsLiteral-negate n o ho in let ns = IsLiteral-negate n s h.0 in let na = IsLiteral-negate n a h.1 in let nb = IsLiteral-negate n b h.2 in
    ((no, (ns, (h.1, tt))), ((ho, (ns, (na, tt))), ((no, (h.0, (h.2, tt))), ((ho, (h.0, (nb, tt))), tt))))
gate_clauses-inside n (Majority a b c) o ho h =
    let no = IsLiteral-negate n o ho in let na = IsLiteral-negate n a h.0 in let nb = IsLiteral-negate n b h.1 in let nc = IsLiteral-negate n c h.2 in
    ((no, (h.0, (h.1, tt))), ((no, (h.0, (h.2, tt))), ((no, (h.1, (h.2, tt))), ((ho, (na, (nb, tt))), ((ho, (na, (nc, tt))), ((ho, (nb, (nc, tt))), tt))))))
gate_clauses-inside n (Parity a b c) o ho h =
    let no = IsLiteral-negate n o ho in let na = IsLiteral-negate n a h.0 in let nb = IsLiteral-negate n b h.1 in let nc = IsLiteral-negate n c h.2 in (
      (no, (h.0, (h.1, (h.2, tt)))),
      (
        (no, (h.0, (nb, (nc, tt)))),
        (
          (no, (na, (h.1, (nc, tt)))),
          (
            (no, (na, (nb, (h.2, tt)))),
            ((ho, (na, (h.1, (h.2, tt)))), ((ho, (h.0, (nb, (h.2, tt)))), ((ho, (h.0, (h.1, (nc, tt)))), ((ho, (na, (nb, (nc, tt)))), tt)))),
          ),
        ),
      ),
    )

pub inputs-more : (g : Gate) (P Q : Lit → Type 0) → ((l : Lit) → P l → Q l) → HoldsOfInputs P g → HoldsOfInputs Q g
inputs-more (And a b) P Q f h = (f a h.0, f b h.1)
inputs-more (Xor a b) P Q f h = (f a h.0, f b h.1)
inputs-more (Mux s a b) P Q f h = (f s h.0, f a h.1, f b h.2)
inputs-more (Majority a b c) P Q f h = (f a h.0, f b h.1, f c h.2)
inputs-more (Parity a b c) P Q f h = (f a h.0, f b h.1, f c h.2)

-- where a formula has the clauses of a gate at its end, the output has the gate's value in each model
pub output-value : (f g : Formula) (k : Gate) (o : Lit) → IsLiteral f.vars o → HoldsOfInputs (IsLiteral f.vars) k → g ≡ record f { clauses = f.clauses ++ gate_clauses k o } →
    (v : ℕ → Bool) → IsModel v g → is_literal_true v o ≡ gate_value v k
output-value f g k o ho h e v model =
    let here : IsModel v (record f { clauses = f.clauses ++ gate_clauses k o }) = subst (IsModel v) e model in
    same-eq (is_literal_true v o) (gate_value v k) (sym (gate_clauses-true f.vars v k o ho h) ∙ IsModel-last f (gate_clauses k o) v here)

-- free inputs are literals, also where there is one more variable
pub free_inputs-after : (s : Circuit) (g : Gate) → IsFreeGate s g → HoldsOfInputs (IsLiteral (s.formula.vars + 1)) g
free_inputs-after s g h = inputs-more g (IsFreeLiteral s) (IsLiteral (s.formula.vars + 1)) (λ l k. IsLiteral-more s.formula.vars (s.formula.vars + 1) l (omega arith) k.0) h
