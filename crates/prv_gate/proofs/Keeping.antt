-- What holds of each circuit holds after a variable, clauses, or an entry of the table.
use Rattle.std.proofs.Common.{◌≡◌, ℕ, ◌+◌, ◌<◌, Bool, true, false, cond, ◌&&◌, List, [], ◌∷◌, ◌++◌, Option, None, Some, refl, ap, sym, ◌∙◌, subst, arith, ◌⊎◌, inl, inr, ⊎_elim, Result, Ok, Err}
use Rattle.std.specs.List.{list_all, AllByRecursion}
use Rattle.prv_cnf.specs.declared.literal.Lit.{Lit}
use Rattle.prv_cnf.specs.Literals.{is_literal_true, same_literal}
use Rattle.prv_cnf.specs.Formulas.{Formula, IsFormula, IsLiteral}
use Rattle.prv_cnf.specs.Models.{IsModel, is_clause_true}
use Rattle.prv_cnf.specs.declared.formula.TheConstants.{MAX_VARS}
use Rattle.std.specs.Result.{OnOk, OnErr}
use Rattle.std.specs.Option.{IfSome}
use Rattle.indexmap.specs.IndexMap.{insert_entry}
use Rattle.prv_cnf.proofs.Values.{same_literal-eq}
use Rattle.prv_gate.specs.Gates.{gate_value, same_gate}
use Rattle.prv_gate.specs.Circuits.{Circuit, IsCircuit, with_variable, with_clauses, with_gate, find_gate}
use Rattle.prv_gate.specs.declared.gate.Gate.{Gate}
use Rattle.prv_gate.specs.declared.gate.Gate.TheVariants.{And, Xor, Mux, Majority, Parity}
use Rattle.prv_gate.proofs.Frames.{IsLiteral-more, AreClauses-more, AreClauses-append, list_all-append, and-first, and-second}

pub IsFormula-variable : (f : Formula) → f.vars < MAX_VARS → IsFormula f → IsFormula (record f { vars = f.vars + 1 })
IsFormula-variable f room h = (omega arith, AreClauses-more f.vars (f.vars + 1) f.clauses (omega arith) h.1)

pub IsFormula-clauses : (f : Formula) (cs : List (List Lit)) → AllByRecursion (AllByRecursion (IsLiteral f.vars)) cs → IsFormula f →
    IsFormula (record f { clauses = f.clauses ++ cs })
IsFormula-clauses f cs inside h = (h.0, AreClauses-append f.vars f.clauses cs h.1 inside)

-- a model of more clauses is a model of the first ones
pub IsModel-first : (f : Formula) (cs : List (List Lit)) (v : ℕ → Bool) → IsModel v (record f { clauses = f.clauses ++ cs }) → IsModel v f
IsModel-first f cs v h =
    let both : (list_all (is_clause_true v) f.clauses && list_all (is_clause_true v) cs) ≡ true = sym (list_all-append (is_clause_true v) f.clauses cs) ∙ h in
    and-first (list_all (is_clause_true v) f.clauses) (list_all (is_clause_true v) cs) both

pub IsModel-last : (f : Formula) (cs : List (List Lit)) (v : ℕ → Bool) → IsModel v (record f { clauses = f.clauses ++ cs }) → list_all (is_clause_true v) cs ≡ true
IsModel-last f cs v h =
    let both : (list_all (is_clause_true v) f.clauses && list_all (is_clause_true v) cs) ≡ true = sym (list_all-append (is_clause_true v) f.clauses cs) ∙ h in
    and-second (list_all (is_clause_true v) f.clauses) (list_all (is_clause_true v) cs) both

pub IsModel-both : (f : Formula) (cs : List (List Lit)) (v : ℕ → Bool) → IsModel v f → list_all (is_clause_true v) cs ≡ true →
    IsModel v (record f { clauses = f.clauses ++ cs })
IsModel-both f cs v h k =
    let first : list_all (is_clause_true v) f.clauses ≡ true = h in
    list_all-append (is_clause_true v) f.clauses cs ∙ (rw (first, k) refl)

pub IsCircuit-variable : (s : Circuit) → s.formula.vars < MAX_VARS → IsCircuit s → IsCircuit (with_variable s)
IsCircuit-variable s room h = record {
  formula = IsFormula-variable s.formula room h.formula;
  gates = λ g o found. (IsLiteral-more s.formula.vars (s.formula.vars + 1) o (omega arith) (h.gates g o found).0, (h.gates g o found).1);
  known = h.known;
  size = omega (arith, h.size);
  ended = h.ended;
}

pub IsCircuit-clauses : (cs : List (List Lit)) (s : Circuit) → AllByRecursion (AllByRecursion (IsLiteral s.formula.vars)) cs → IsCircuit s →
    IsCircuit (with_clauses cs s)
IsCircuit-clauses cs s inside h = record {
  formula = IsFormula-clauses s.formula cs inside h.formula;
  gates = λ g o found. ((h.gates g o found).0, λ v model. (h.gates g o found).1 v (IsModel-first s.formula cs v model));
  known = λ k b some is v model. h.known k b some is v (IsModel-first s.formula cs v model);
  size = h.size;
  ended = λ is v model. h.ended is v (IsModel-first s.formula cs v model);
}

both-same : (a c b d : Lit) → (same_literal a c && same_literal b d) ≡ true → (a ≡ c) × (b ≡ d)
both-same a c b d h =
    (same_literal-eq a c (and-first (same_literal a c) (same_literal b d) h), same_literal-eq b d (and-second (same_literal a c) (same_literal b d) h))

all-same : (a d b e c f : Lit) → (same_literal a d && (same_literal b e && same_literal c f)) ≡ true → (a ≡ d) × (b ≡ e) × (c ≡ f)
all-same a d b e c f h =
    let rest : (same_literal b e && same_literal c f) ≡ true = and-second (same_literal a d) (same_literal b e && same_literal c f) h in
    (same_literal-eq a d (and-first (same_literal a d) (same_literal b e && same_literal c f) h), (both-same b e c f rest).0, (both-same b e c f rest).1)

-- gates that are the same have one value
pub same_gate-value : (v : ℕ → Bool) (g h : Gate) → same_gate g h ≡ true → gate_value v g ≡ gate_value v h
same_gate-value v (And a b) (And c d) e = let p = both-same a c b d e in rw (p.0, p.1) refl
same_gate-value v (Xor a b) (Xor c d) e = let p = both-same a c b d e in rw (p.0, p.1) refl
same_gate-value v (Mux s a b) (Mux t c d) e = let p = all-same s t a c b d e in rw (p.0, p.1, p.2) refl
same_gate-value v (Majority a b c) (Majority d x f) e = let p = all-same a d b x c f e in rw (p.0, p.1, p.2) refl
same_gate-value v (Parity a b c) (Parity d x f) e = let p = all-same a d b x c f e in rw (p.0, p.1, p.2) refl
same_gate-value v (And a b) (Xor c d) e = absurd cc
same_gate-value v (And a b) (Mux s c d) e = absurd cc
same_gate-value v (And a b) (Majority s c d) e = absurd cc
same_gate-value v (And a b) (Parity s c d) e = absurd cc
same_gate-value v (Xor a b) (And c d) e = absurd cc
same_gate-value v (Xor a b) (Mux s c d) e = absurd cc
same_gate-value v (Xor a b) (Majority s c d) e = absurd cc
same_gate-value v (Xor a b) (Parity s c d) e = absurd cc
same_gate-value v (Mux s a b) (And c d) e = absurd cc
same_gate-value v (Mux s a b) (Xor c d) e = absurd cc
same_gate-value v (Mux s a b) (Majority x c d) e = absurd cc
same_gate-value v (Mux s a b) (Parity x c d) e = absurd cc
same_gate-value v (Majority s a b) (And c d) e = absurd cc
same_gate-value v (Majority s a b) (Xor c d) e = absurd cc
same_gate-value v (Majority s a b) (Mux x c d) e = absurd cc
same_gate-value v (Majority s a b) (Parity x c d) e = absurd cc
same_gate-value v (Parity s a b) (And c d) e = absurd cc
same_gate-value v (Parity s a b) (Xor c d) e = absurd cc
same_gate-value v (Parity s a b) (Mux x c d) e = absurd cc
same_gate-value v (Parity s a b) (Majority x c d) e = absurd cc

-- what a table with one entry more has is in the table before or is the entry
pub find_gate-more : (g h : Gate) (o p : Lit) (gates : List (Gate × Lit)) → find_gate h (gates ++ (g, o) ∷ []) ≡ Some p →
    (find_gate h gates ≡ Some p) ⊎ ((same_gate h g ≡ true) × (o ≡ p))
find_gate-more g h o p [] e = elim (same_gate h g) as (λ b. cond b (Some o) None ≡ Some p → (None ≡ Some p) ⊎ ((b ≡ true) × (o ≡ p))) [ true ↦ (λ is. inr (refl, cc)) | false ↦ (λ is. inl is) ] e
find_gate-more g h o p (x ∷ xs) e =
    elim (same_gate h x.0) as (λ b. cond b (Some x.1) (find_gate h (xs ++ (g, o) ∷ [])) ≡ Some p → (cond b (Some x.1) (find_gate h xs) ≡ Some p) ⊎ ((same_gate h g ≡ true) × (o ≡ p)))
    [ true ↦ (λ is. inl is) | false ↦ (λ is. find_gate-more g h o p xs is) ] e

pub IsCircuit-gate : (g : Gate) (o : Lit) (s : Circuit) → IsLiteral s.formula.vars o →
    ((v : ℕ → Bool) → IsModel v s.formula → is_literal_true v o ≡ gate_value v g) → IsCircuit s → IsCircuit (with_gate g o s)
IsCircuit-gate g o s inside value h = record {
  formula = h.formula;
  gates = λ k p found. ⊎_elim (λ old. h.gates k p old)
      (λ new. (subst (IsLiteral s.formula.vars) new.1 inside, λ v model. ap (is_literal_true v) (sym new.1) ∙ value v model ∙ sym (same_gate-value v k g new.0)))
      (find_gate-more g k o p s.gates found);
  known = h.known;
  size = h.size;
  ended = h.ended;
}

-- a gate that isn't in the table goes last
pub insert_entry-gate : (eq : Gate → Gate → Bool) (g : Gate) (o : Lit) (gates : List (Gate × Lit)) → ((h : Gate) → eq g h ≡ same_gate g h) →
    find_gate g gates ≡ None → insert_entry eq gates g o ≡ gates ++ (g, o) ∷ []
insert_entry-gate eq g o [] same none = refl
insert_entry-gate eq g o (x ∷ xs) same none =
    elim (same_gate g x.0) as (λ b. eq g x.0 ≡ b → cond b (Some x.1) (find_gate g xs) ≡ None → insert_entry eq (x ∷ xs) g o ≡ x ∷ (xs ++ (g, o) ∷ [])) [
      | true ↦ (λ here is. absurd cc)
      | false ↦ (λ here is. ap (λ (b : Bool). cond b ((x.0, o) ∷ xs) (x ∷ insert_entry eq xs g o)) here ∙ ap (λ (rest : List (Gate × Lit)). x ∷ rest) (insert_entry-gate eq g o xs same is))
    ]
    (same x.0) none

-- what holds of both outcomes of a change holds after it
pub after_change : {A T E : Type 0} (P : A → Type 0) (r : Result T E) (new a b : A) → OnOk r (new ≡ a) → OnErr r (new ≡ b) → P a → P b → P new
after_change P (Ok x) new a b ok err pa pb = subst P (sym ok) pa
after_change P (Err e) new a b ok err pa pb = subst P (sym err) pb

-- the output of a gate in the table is of the formula
pub found-inside : (s : Circuit) → IsCircuit s → (g : Gate) (r : Option Lit) → r ≡ find_gate g s.gates → IfSome r (λ o. IsLiteral s.formula.vars o)
found-inside s h g None e = tt
found-inside s h g (Some o) e = (h.gates g o (sym e)).0
