-- Assertions: what follows by propagation is so in each model, and the models are those in which one
-- of the bits is true.
use Rattle.std.proofs.Common.{◌≡◌, ℕ, suc, zero, ◌+◌, ◌-◌, ◌<◌, ◌≤◌, ◌↔◌, Bool, true, false, not, ◌||◌, List, [], ◌∷◌, ◌++◌, take, replicate, Option, None, Some, length, get_or, pos, refl, ap, sym, ◌∙◌, subst, arith, if◌then◌else◌, ⊎_elim, inl, inr, length-append, ◌⊎◌, add-one, Result, Ok, Err}
use Rattle.std.specs.Result.{OnOk}
use Rattle.std.proofs.Math.Seq.{take-append_seam}
use Rattle.std.specs.List.{list_all, list_any, AllByRecursion}
use Rattle.std.specs.Option.{option_map_or, option_or}
use Rattle.std.proofs.lemmas.List.FromFn.{get_or-map-range_with_len, length-map-range_with_len}
use Rattle.std.proofs.lemmas.List.{get_or_past, take_all}
use Rattle.std.proofs.lemmas.Bool.{cases_lt}
use Rattle.prv_cnf.specs.declared.literal.Lit.{Lit}
use Rattle.prv_cnf.specs.Literals.{variable, negate, is_literal_true, same_literal, has_literal}
use Rattle.prv_cnf.specs.Formulas.{Formula, IsLiteral}
use Rattle.prv_cnf.specs.Models.{IsModel, is_clause_true, HasNoModel}
use Rattle.prv_cnf.proofs.Values.{is_literal_true-negate, same_literal-eq}
use Rattle.prv_gate.specs.Bits.{IsBit, bit_value}
use Rattle.prv_gate.specs.Knowledge.{known_value, known_literal, reduced}
use Rattle.prv_gate.specs.Circuits.{Circuit, IsCircuit, with_clauses}
use Rattle.prv_gate.specs.Propagation.{is_known_true, is_known_false, forces, next_value, next_known, known_after, closure, has_conflict}
use Rattle.prv_gate.specs.Assertions.{with_bit, clause_of, ended, settled, with_asserted, asserted, Asserts}
use Rattle.prv_gate.specs.declared.bit.Bit.{Bit}
use Rattle.prv_gate.specs.declared.bit.Bit.TheVariants.{False, True, Lit as Literal}
use Rattle.prv_gate.proofs.Frames.{and-both, and-first, and-second, variable-negate}
use Rattle.prv_gate.proofs.Keeping.{IsCircuit-clauses, IsModel-first, IsModel-last, IsModel-both}
use Rattle.prv_gate.proofs.Steps.{IsKnown, known_literal-value, reduced-value-known, reduced-inside}

-- a literal that is known to be true is true
known_true-value : (v : ℕ → Bool) (known : List (Option Bool)) → IsKnown v known → (l : Lit) → 0 < variable l → is_known_true known l ≡ true → is_literal_true v l ≡ true
known_true-value v known h l some is = by (known_literal known l) refl is
  where
    by : (r : Option Bool) → known_literal known l ≡ r → option_map_or (λ b. b) r false ≡ true → is_literal_true v l ≡ true
    by None e found = absurd cc
    by (Some b) e found = known_literal-value v known h l b some e ∙ found

known_false-value : (v : ℕ → Bool) (known : List (Option Bool)) → IsKnown v known → (n : ℕ) (l : Lit) → IsLiteral n l → is_known_false known l ≡ true → is_literal_true v l ≡ false
known_false-value v known h n l inside is =
    let some : 0 < variable (negate l) = rw variable-negate inside.0 in
    let opposite : not (is_literal_true v l) ≡ true = sym (is_literal_true-negate v l inside.0) ∙ known_true-value v known h (negate l) some is in
    by (is_literal_true v l) opposite
  where
    by : (b : Bool) → not b ≡ true → b ≡ false
    by true e = sym e
    by false e = refl

-- where all literals but one are known to be false, a clause that is true makes that one true
others_false-value : (v : ℕ → Bool) (known : List (Option Bool)) → IsKnown v known → (n : ℕ) (l : Lit) (c : List Lit) → AllByRecursion (IsLiteral n) c →
    list_all (λ m. same_literal m l || is_known_false known m) c ≡ true → is_clause_true v c ≡ true → is_literal_true v l ≡ true
others_false-value v known h n l [] inside others is = absurd cc
others_false-value v known h n l (m ∷ ms) inside others is =
    first (same_literal m l) (is_known_false known m) (is_literal_true v m) refl refl refl
    (and-first (same_literal m l || is_known_false known m) (list_all (λ k. same_literal k l || is_known_false known k) ms) others) is
    (others_false-value v known h n l ms inside.1 (and-second (same_literal m l || is_known_false known m) (list_all (λ k. same_literal k l || is_known_false known k) ms) others))
  where
    first : (s f t : Bool) → same_literal m l ≡ s → is_known_false known m ≡ f → is_literal_true v m ≡ t → (s || f) ≡ true → (t || is_clause_true v ms) ≡ true →
        (is_clause_true v ms ≡ true → is_literal_true v l ≡ true) → is_literal_true v l ≡ true
    first true f true es ef et here any rest = sym (ap (is_literal_true v) (same_literal-eq m l es)) ∙ et
    first true f false es ef et here any rest = rest any
    first false true true es ef et here any rest = let not_true : is_literal_true v m ≡ false = known_false-value v known h n m inside.0 ef in absurd cc
    first false true false es ef et here any rest = rest any
    first false false t es ef et here any rest = absurd cc

forces-value : (v : ℕ → Bool) (known : List (Option Bool)) → IsKnown v known → (n : ℕ) (l : Lit) (cs : List (List Lit)) → AllByRecursion (AllByRecursion (IsLiteral n)) cs →
    list_all (is_clause_true v) cs ≡ true → list_any (forces known l) cs ≡ true → is_literal_true v l ≡ true
forces-value v known h n l [] inside model some = absurd cc
forces-value v known h n l (c ∷ cs) inside model some =
    first (forces known l c) refl some (forces-value v known h n l cs inside.1 (and-second (is_clause_true v c) (list_all (is_clause_true v) cs) model))
  where
    first : (f : Bool) → forces known l c ≡ f → (f || list_any (forces known l) cs) ≡ true → (list_any (forces known l) cs ≡ true → is_literal_true v l ≡ true) → is_literal_true v l ≡ true
    first true e any rest =
        others_false-value v known h n l c inside.0 (and-second (has_literal c l) (list_all (λ m. same_literal m l || is_known_false known m) c) e)
        (and-first (is_clause_true v c) (list_all (is_clause_true v) cs) model)
    first false e any rest = rest any

cases_le : (k n : ℕ) → (k ≤ n) ⊎ (n < k)
cases_le k n = ⊎_elim (λ gt. inr gt) (λ le. inl le) (cases_lt n k)

-- a round finds what is so
next_value-value : (v : ℕ → Bool) (known : List (Option Bool)) → IsKnown v known → (n : ℕ) (cs : List (List Lit)) → AllByRecursion (AllByRecursion (IsLiteral n)) cs →
    list_all (is_clause_true v) cs ≡ true → (k : ℕ) (b : Bool) → 0 < k → next_value cs known k ≡ Some b → v k ≡ b
next_value-value v known h n cs inside model k b some is =
    by (known_value known k) (list_any (forces known (record { 0 = pos k })) cs) (list_any (forces known (negate (record { 0 = pos k }))) cs) refl refl refl is
  where
    by : (r : Option Bool) (t f : Bool) → known_value known k ≡ r → list_any (forces known (record { 0 = pos k })) cs ≡ t → list_any (forces known (negate (record { 0 = pos k }))) cs ≡ f →
        option_or r (if t then Some true else if f then Some false else None) ≡ Some b → v k ≡ b
    by (Some x) t f er et ef found = h k x some er ∙ cc
    by None true f er et ef found = forces-value v known h n (record { 0 = pos k }) cs inside model et ∙ cc
    by None false true er et ef found =
        let up : is_literal_true v (negate (record { 0 = pos k })) ≡ true = forces-value v known h n (negate (record { 0 = pos k })) cs inside model ef in
        let down : not (v k) ≡ true = sym (is_literal_true-negate v (record { 0 = pos k }) some) ∙ up in
        flip (v k) down ∙ cc
      where
        flip : (x : Bool) → not x ≡ true → x ≡ false
        flip true e = sym e
        flip false e = refl
    by None false false er et ef found = absurd cc

-- the value of a variable after a round
pub known_value-next : (f : Formula) (known : List (Option Bool)) (k : ℕ) → 0 < k → k ≤ f.vars → known_value (next_known f known) k ≡ next_value f.clauses known k
known_value-next f known k some le =
    let at : 0 + (k - 1) ≡ k - 1 = omega arith in
    let back : (k - 1) + 1 ≡ k = omega arith in
    get_or-map-range_with_len (λ i. next_value f.clauses known (i + 1)) 0 f.vars (k - 1) (k - 1) None (omega arith) at ∙ ap (next_value f.clauses known) back

pub known_value-past : (f : Formula) (known : List (Option Bool)) (k : ℕ) → f.vars < k → known_value (next_known f known) k ≡ None
known_value-past f known k gt =
    let long : length (next_known f known) ≡ f.vars = length-map-range_with_len (λ i. next_value f.clauses known (i + 1)) 0 f.vars in
    get_or_past (next_known f known) (k - 1) None (omega (arith, long))

next_known-value : (v : ℕ → Bool) (f : Formula) (known : List (Option Bool)) → IsKnown v known → AllByRecursion (AllByRecursion (IsLiteral f.vars)) f.clauses →
    IsModel v f → IsKnown v (next_known f known)
next_known-value v f known h inside model k b some is =
    ⊎_elim (λ le. next_value-value v known h f.vars f.clauses inside model k b some (sym (known_value-next f known k some le) ∙ is))
    (λ gt. let none : known_value (next_known f known) k ≡ None = known_value-past f known k gt in absurd cc)
    (cases_le k f.vars)

known_after-value : (v : ℕ → Bool) (f : Formula) (n : ℕ) (known : List (Option Bool)) → IsKnown v known → AllByRecursion (AllByRecursion (IsLiteral f.vars)) f.clauses →
    IsModel v f → IsKnown v (known_after f n known)
known_after-value v f zero known h inside model = h
known_after-value v f (suc n) known h inside model = next_known-value v f (known_after f n known) (known_after-value v f n known h inside model) inside model

pub closure-value : (v : ℕ → Bool) (f : Formula) (known : List (Option Bool)) → IsKnown v known → AllByRecursion (AllByRecursion (IsLiteral f.vars)) f.clauses →
    IsModel v f → IsKnown v (closure f known)
unfolding closure
closure-value v f known h inside model = known_after-value v f (f.vars + 1) known h inside model

pub closure-length : (f : Formula) (known : List (Option Bool)) → length (closure f known) ≡ f.vars
unfolding closure
closure-length f known =
    ap (λ (n : ℕ). length (known_after f n known)) (add-one f.vars) ∙ length-map-range_with_len (λ i. next_value f.clauses (known_after f f.vars known) (i + 1)) 0 f.vars

all_false-clause : (v : ℕ → Bool) (known : List (Option Bool)) → IsKnown v known → (n : ℕ) (c : List Lit) → AllByRecursion (IsLiteral n) c →
    list_all (is_known_false known) c ≡ true → is_clause_true v c ≡ false
all_false-clause v known h n [] inside all = refl
all_false-clause v known h n (l ∷ ls) inside all =
    let here = known_false-value v known h n l inside.0 (and-first (is_known_false known l) (list_all (is_known_false known) ls) all) in
    rw here (all_false-clause v known h n ls inside.1 (and-second (is_known_false known l) (list_all (is_known_false known) ls) all))

-- clauses that contradict what is known have no model
conflict-no_model : (v : ℕ → Bool) (known : List (Option Bool)) → IsKnown v known → (n : ℕ) (cs : List (List Lit)) → AllByRecursion (AllByRecursion (IsLiteral n)) cs →
    has_conflict cs known ≡ true → list_all (is_clause_true v) cs ≡ true → ⊥
conflict-no_model v known h n [] inside some model = absurd cc
conflict-no_model v known h n (c ∷ cs) inside some model =
    by (list_all (is_known_false known) c) refl some (λ any. conflict-no_model v known h n cs inside.1 any (and-second (is_clause_true v c) (list_all (is_clause_true v) cs) model))
  where
    by : (t : Bool) → list_all (is_known_false known) c ≡ t → (t || has_conflict cs known) ≡ true → (has_conflict cs known ≡ true → ⊥) → ⊥
    by true e any rest =
        let not_true : is_clause_true v c ≡ false = all_false-clause v known h n c inside.0 e in
        let is_true : is_clause_true v c ≡ true = and-first (is_clause_true v c) (list_all (is_clause_true v) cs) model in absurd cc
    by false e any rest = rest any

-- what the clause of some bits says of them: none is made where one is true
Means : (ℕ → Bool) → List Bit → Option (List Lit) → Type 0
Means v bits None = list_any (bit_value v) bits ≡ true
Means v bits (Some ls) = list_any (bit_value v) bits ≡ is_clause_true v ls

module _ (v : ℕ → Bool) (known : List (Option Bool)) (h : IsKnown v known) (n : ℕ) where
  or-true : (b : Bool) → (b || true) ≡ true
  or-true true = refl
  or-true false = refl

  with_bit-means : (b c : Bit) (bs : List Bit) (r : Option (List Lit)) → bit_value v c ≡ bit_value v b → Means v bs r → Means v (b ∷ bs) (with_bit c r)
  unfolding Means
  with_bit-means b False bs None e m = ap (λ (x : Bool). x || list_any (bit_value v) bs) (sym e) ∙ m
  with_bit-means b False bs (Some ls) e m = ap (λ (x : Bool). x || list_any (bit_value v) bs) (sym e) ∙ m
  with_bit-means b True bs None e m = ap (λ (x : Bool). x || list_any (bit_value v) bs) (sym e)
  with_bit-means b True bs (Some ls) e m = ap (λ (x : Bool). x || list_any (bit_value v) bs) (sym e)
  with_bit-means b (Literal l) bs None e m = ap (λ (x : Bool). bit_value v b || x) m ∙ or-true (bit_value v b)
  with_bit-means b (Literal l) bs (Some ls) e m =
      ap (λ (x : Bool). x || list_any (bit_value v) bs) (sym e) ∙ ap (λ (x : Bool). is_literal_true v l || x) m

  clause_of-means : (bits : List Bit) → AllByRecursion (IsBit n) bits → Means v bits (clause_of known bits)
  unfolding Means
  clause_of-means [] inside = refl
  clause_of-means (b ∷ bs) inside =
      with_bit-means b (reduced known b) bs (clause_of known bs) (reduced-value-known n v known h b inside.0) (clause_of-means bs inside.1)

IsInside : ℕ → Option (List Lit) → Type 0
IsInside n None = Unit {0}
IsInside n (Some ls) = AllByRecursion (IsLiteral n) ls

with_bit-inside : (n : ℕ) (b : Bit) (r : Option (List Lit)) → IsBit n b → IsInside n r → IsInside n (with_bit b r)
unfolding IsInside
with_bit-inside n False r h k = k
with_bit-inside n True r h k = tt
with_bit-inside n (Literal l) None h k = tt
with_bit-inside n (Literal l) (Some ls) h k = (h, k)

clause_of-inside : (n : ℕ) (known : List (Option Bool)) (bits : List Bit) → AllByRecursion (IsBit n) bits → IsInside n (clause_of known bits)
unfolding IsInside
clause_of-inside n known [] inside = tt
clause_of-inside n known (b ∷ bs) inside = with_bit-inside n (reduced known b) (clause_of known bs) (reduced-inside n known b inside.0) (clause_of-inside n known bs inside.1)

-- the empty clause has no model
ended-no_model : (s : Circuit) → HasNoModel (ended s).formula
ended-no_model s v model = let last : list_all (is_clause_true v) ([] ∷ []) ≡ true = IsModel-last s.formula ([] ∷ []) v model in absurd cc

pub ended-circuit : (s : Circuit) → IsCircuit s → IsCircuit (ended s)
ended-circuit s h =
    let more = IsCircuit-clauses ([] ∷ []) s (tt, tt) h in
    record { formula = more.formula; gates = more.gates; known = λ k b some is. absurd cc; size = omega arith; ended = λ _. ended-no_model s }

-- what is known of a circuit, in a model
known-circuit : (s : Circuit) → IsCircuit s → (v : ℕ → Bool) → IsModel v s.formula → IsKnown v s.known
known-circuit s h v model k b some is = h.known k b some is v model

module _ (s : Circuit) (h : IsCircuit s) where
  settled-by : (t : Bool) → has_conflict s.formula.clauses (closure s.formula s.known) ≡ t →
      IsCircuit (if t then ended s else record s { known = closure s.formula s.known })
      × ((if t then ended s else record s { known = closure s.formula s.known }).formula.vars ≡ s.formula.vars)
      × (length (if t then ended s else record s { known = closure s.formula s.known }).formula.clauses ≤ length s.formula.clauses + 1)
      × ((v : ℕ → Bool) → IsModel v (if t then ended s else record s { known = closure s.formula s.known }).formula ↔ IsModel v s.formula)
  settled-by true e = (
    ended-circuit s h,
    refl,
    omega (arith, length-append s.formula.clauses ([] ∷ [])),
    λ v. (
      (λ model. IsModel-first s.formula ([] ∷ []) v model),
      (λ model. absurd (conflict-no_model v (closure s.formula s.known) (closure-value v s.formula s.known (known-circuit s h v model) h.formula.1 model)
          s.formula.vars s.formula.clauses h.formula.1 e model)),
    ),
  )
  settled-by false e = (
    record {
      formula = h.formula;
      gates = h.gates;
      known = λ k b some is v model. closure-value v s.formula s.known (known-circuit s h v model) h.formula.1 model k b some is;
      size = omega (arith, closure-length s.formula s.known);
      ended = h.ended;
    },
    refl,
    omega arith,
    λ v. ((λ model. model), (λ model. model)),
  )

  pub settled-law : IsCircuit (settled s) × ((settled s).formula.vars ≡ s.formula.vars) × (length (settled s).formula.clauses ≤ length s.formula.clauses + 1)
      × ((v : ℕ → Bool) → IsModel v (settled s).formula ↔ IsModel v s.formula)
  settled-law = settled-by (has_conflict s.formula.clauses (closure s.formula s.known)) refl

module _ (s : Circuit) (h : IsCircuit s) (bits : List Bit) (inside : AllByRecursion (IsBit s.formula.vars) bits) where
  by_clause : (r : Option (List Lit)) → clause_of s.known bits ≡ r → IsInside s.formula.vars r → ((v : ℕ → Bool) → IsModel v s.formula → Means v bits r) →
      Asserts bits s (option_map_or (with_asserted s) r s)
  unfolding IsInside Means
  by_clause None e k m = record {
    circuit = h;
    vars = refl;
    cost = omega arith;
    models = λ v. ((λ model. (model, m v model)), (λ both. both.0));
  }
  by_clause (Some []) e k m = record {
    circuit = ended-circuit s h;
    vars = refl;
    cost = omega (arith, length-append s.formula.clauses ([] ∷ []));
    models = λ v. ((λ model. absurd (ended-no_model s v model)), (λ both. let no_bit : list_any (bit_value v) bits ≡ false = m v both.0 in let a_bit : list_any (bit_value v) bits ≡ true = both.1 in absurd cc));
  }
  by_clause (Some (l ∷ ls)) e k m =
      let t : Circuit = with_clauses ((l ∷ ls) ∷ []) s in
      let law = settled-law t (IsCircuit-clauses ((l ∷ ls) ∷ []) s (k, tt) h) in
      record {
        circuit = law.0;
        vars = law.1;
        cost = omega (arith, law.2, length-append s.formula.clauses ((l ∷ ls) ∷ []));
        models = λ v. (
          (λ model.
              let both : IsModel v t.formula = (law.3 v).0 model in
              let old : IsModel v s.formula = IsModel-first s.formula ((l ∷ ls) ∷ []) v both in
              (old, m v old ∙ and-first (is_clause_true v (l ∷ ls)) true (IsModel-last s.formula ((l ∷ ls) ∷ []) v both))),
          (λ both. (law.3 v).1 (IsModel-both s.formula ((l ∷ ls) ∷ []) v both.0 (and-both (is_clause_true v (l ∷ ls)) true (sym (m v both.0) ∙ both.1) refl))),
        );
      }

  asserted-by : (t : Bool) → s.is_ended ≡ t → Asserts bits s (if t then s else option_map_or (with_asserted s) (clause_of s.known bits) s)
  asserted-by true e = record {
    circuit = h;
    vars = refl;
    cost = omega arith;
    models = λ v. ((λ model. absurd (h.ended e v model)), (λ both. both.0));
  }
  asserted-by false e = by_clause (clause_of s.known bits) refl (clause_of-inside s.formula.vars s.known bits inside)
      (λ v model. clause_of-means v s.known (known-circuit s h v model) s.formula.vars bits inside)

  -- an assertion keeps the models in which one of the bits is true
  pub asserted-asserts : Asserts bits s (asserted bits s)
  unfolding asserted
  asserted-asserts = asserted-by s.is_ended refl

-- a circuit with all that follows, and one of which nothing is known
pub closure-circuit : (s : Circuit) → IsCircuit s → IsCircuit (record s { known = closure s.formula s.known })
closure-circuit s h = record {
  formula = h.formula;
  gates = h.gates;
  known = λ k b some is v model. closure-value v s.formula s.known (known-circuit s h v model) h.formula.1 model k b some is;
  size = omega (arith, closure-length s.formula s.known);
  ended = h.ended;
}

pub unknown-circuit : (s : Circuit) → IsCircuit s → IsCircuit (record s { known = [] })
unknown-circuit s h = record { formula = h.formula; gates = h.gates; known = λ k b some is. absurd cc; size = omega arith; ended = h.ended }

pub settled-calm : (s : Circuit) → has_conflict s.formula.clauses (closure s.formula s.known) ≡ false → record s { known = closure s.formula s.known } ≡ settled s
settled-calm s e = ap (λ (t : Bool). if t then ended s else record s { known = closure s.formula s.known }) (sym e)

pub settled-conflict : (s : Circuit) → has_conflict s.formula.clauses (closure s.formula s.known) ≡ true → ended s ≡ settled s
settled-conflict s e = ap (λ (t : Bool). if t then ended s else record s { known = closure s.formula s.known }) (sym e)

-- variables past the end of a table aren't known, and stay so where it grows
padded-none : (m j : ℕ) → let none : Option Bool = None in get_or (replicate m none) j none ≡ none
padded-none zero j = refl
padded-none (suc m) zero = refl
padded-none (suc m) (suc j) = padded-none m j

padded-at : (known : List (Option Bool)) (m j : ℕ) → get_or known j None ≡ get_or (known ++ replicate m None) j None
padded-at [] m j = sym (padded-none m j)
padded-at (x ∷ xs) m zero = refl
padded-at (x ∷ xs) m (suc j) = padded-at xs m j

pub padded-value : (known wide : List (Option Bool)) (n m : ℕ) → length known ≤ n → wide ≡ take n known ++ replicate m None → (k : ℕ) → known_value known k ≡ known_value wide k
padded-value known wide n m short e k =
    let all : take n known ≡ known = take_all n known short in
    padded-at known m (k - 1) ∙ sym (ap (λ (xs : List (Option Bool)). get_or xs (k - 1) None) (e ∙ ap (λ (xs : List (Option Bool)). xs ++ replicate m None) all))

same_formula : (f : Formula) (n : ℕ) (cs : List (List Lit)) → n ≡ f.vars → cs ≡ f.clauses → record { vars = n; clauses = cs } ≡ f
same_formula f n cs e d =
    let by_vars : ℕ → Formula = λ n. record { vars = n; clauses = cs } in
    let by_clauses : List (List Lit) → Formula = λ cs. record { vars = f.vars; clauses = cs } in
    ap by_vars e ∙ ap by_clauses d

-- what propagation answered is the settled circuit
module _ (s : Circuit) (n : ℕ) (cs : List (List Lit)) (vars : n ≡ s.formula.vars) (clauses : cs ≡ s.formula.clauses) where
  pub propagated : (new : List (Option Bool)) → has_conflict cs (closure (record { vars = n; clauses = cs }) s.known) ≡ false → new ≡ closure (record { vars = n; clauses = cs }) s.known →
      record s { known = new } ≡ settled s
  propagated new calm e =
      let f = same_formula s.formula n cs vars clauses in
      let with_known : List (Option Bool) → Circuit = λ known. record s { known = known } in
      let same : closure (record { vars = n; clauses = cs }) s.known ≡ closure s.formula s.known = ap (λ (f : Formula). closure f s.known) f in
      ap with_known (e ∙ same)
      ∙ settled-calm s (sym (ap (λ (f : Formula). has_conflict f.clauses (closure f s.known)) f) ∙ calm)

  pub contradicted : has_conflict cs (closure (record { vars = n; clauses = cs }) s.known) ≡ true → ended s ≡ settled s
  contradicted conflict =
      let f = same_formula s.formula n cs vars clauses in
      settled-conflict s (sym (ap (λ (f : Formula). has_conflict f.clauses (closure f s.known)) f) ∙ conflict)

pub ok_as : {A T E : Type 0} (r : Result T E) (a b c : A) → OnOk r (a ≡ b) → b ≡ c → OnOk r (a ≡ c)
ok_as (Ok x) a b c e f = e ∙ f
ok_as (Err x) a b c e f = tt

-- a list written back over another of its length
pub written : (n : ℕ) (xs ys : List (Option Bool)) → n ≡ length xs → take n (xs ++ ys) ≡ xs
written n xs ys e = ap (λ (n : ℕ). take n (xs ++ ys)) e ∙ take-append_seam xs ys

pub asserted-ended : (bits : List Bit) (s : Circuit) → s.is_ended ≡ true → s ≡ asserted bits s
unfolding asserted
asserted-ended bits s e = ap (λ (t : Bool). if t then s else option_map_or (with_asserted s) (clause_of s.known bits) s) (sym e)

pub asserted-by_clause : (bits : List Bit) (s : Circuit) (r : Option (List Lit)) → s.is_ended ≡ false → r ≡ clause_of s.known bits → option_map_or (with_asserted s) r s ≡ asserted bits s
unfolding asserted
asserted-by_clause bits s r e f =
    ap (λ (r : Option (List Lit)). option_map_or (with_asserted s) r s) f
    ∙ ap (λ (t : Bool). if t then s else option_map_or (with_asserted s) (clause_of s.known bits) s) (sym e)

pub clause-inside : (n : ℕ) (known : List (Option Bool)) (bits : List Bit) (ls : List Lit) → AllByRecursion (IsBit n) bits → Some ls ≡ clause_of known bits → AllByRecursion (IsLiteral n) ls
unfolding IsInside
clause-inside n known bits ls inside e = subst (IsInside n) (sym e) (clause_of-inside n known bits inside)

pub ok_along : {T E : Type 0} (P : Circuit → Type 0) (r : Result T E) (new s : Circuit) → OnOk r (new ≡ s) → P s → OnOk r (P new)
ok_along P (Ok x) new s e p = subst P (sym e) p
ok_along P (Err x) new s e p = tt
