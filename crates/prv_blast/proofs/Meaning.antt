-- What the formula of a condition means, and how large it is.
use Rattle.std.proofs.Common.{◌≡◌, ℕ, zero, suc, ◌+◌, ◌*◌, ◌<◌, ◌≤◌, Bool, true, false, ◌&&◌, ◌||◌, not, List, [], ◌∷◌, ◌++◌, length, map, drop, ℤ, refl, sym, ap, ◌∙◌, subst, arith, fold, length-append, if◌then◌else◌}
use Rattle.std.specs.List.{AllByRecursion, list_any, range_with_len}
use Rattle.std.proofs.lemmas.List.{length-map}
use Rattle.std.proofs.lemmas.List.Sums.{fold-append}
use Rattle.std.proofs.Math.Seq.{drop-append_seam}
use Rattle.prv_model.specs.Words.{is_zero}
use Rattle.prv_model.specs.Terms.{term_value, holds}
use Rattle.prv_model.proofs.TermLemmas.{holds-append}
use Rattle.prv_model.specs.declared.term.Term.{Term, out-Term}
use Rattle.prv_cnf.specs.Models.{IsModel}
use Rattle.prv_bits.specs.Numbers.{word, any, any_from}
use Rattle.prv_bits.proofs.WordLaws.{is_zero-word}
use Rattle.prv_gate.specs.Bits.{bit_value}
use Rattle.prv_gate.specs.Circuits.{IsCircuit}
use Rattle.prv_gate.specs.Growth.{Agrees}
use Rattle.prv_gate.specs.Assertions.{asserted}
use Rattle.prv_gate.specs.declared.bit.Bit.{Bit}
use Rattle.prv_gate.proofs.Composing.{agrees-fewer, agrees-trans}
use Rattle.prv_gate.proofs.Asserting.{asserted-asserts}
use Rattle.prv_arith.specs.Lists.{values}
use Rattle.prv_arith.specs.Words.{word_value}
use Rattle.prv_pool.specs.Tables.{has_term, add_term, add_terms}
use Rattle.prv_blast.specs.Inputs.{variables, input_at}
use Rattle.prv_blast.specs.Subterms.{costs, cost, subterms}
use Rattle.prv_blast.specs.Encodings.{Encoding, encoded, term_bits, with_term, with_terms, with_assertion, with_literal, missing}
use Rattle.prv_blast.specs.Encoders.{AreWords, IsPlain}
use Rattle.prv_blast.proofs.Growing.{term-growth, add-grown, all-later}
use Rattle.prv_blast.proofs.Words.{words-kept, word-found, terms-add}

-- ---- costs

pub costs-append : (ts us : List Term) → costs (ts ++ us) ≡ costs ts + costs us
costs-append [] us = omega arith
costs-append (t ∷ ts) us = let e = costs-append ts us in omega arith

pub subterms-append : (ds ts : List Term) → subterms (ds ++ ts) ≡ add_terms (subterms ds) ts
subterms-append ds ts = fold-append (λ made t. add_term t made) [] ds ts

-- more literals cost no less
pub cost-more : (ds ts : List Term) → cost ds ≤ cost (ds ++ ts)
cost-more ds ts =
    let g = add-grown (subterms ds) ts in
    let e : subterms (ds ++ ts) ≡ subterms ds ++ g.more = subterms-append ds ts ∙ g.grown in
    let c : costs (subterms (ds ++ ts)) ≡ costs (subterms ds) + costs g.more = ap costs e ∙ costs-append (subterms ds) g.more in
    let l = length-append ds ts in
    omega arith

-- ---- inputs

values-agree : (m a n : ℕ) (v w : ℕ → Bool) → Agrees n v w → 0 < a → a + m ≤ suc n → map v (range_with_len a m) ≡ map w (range_with_len a m)
values-agree zero a n v w h low high = refl
values-agree (suc m) a n v w h low high = λ i. h a low (omega arith) i ∷ values-agree m (a + 1) n v w h (omega arith) (omega arith) i

words-agree : (m a n : ℕ) (v w : ℕ → Bool) → Agrees (32 * n) v w → a + m ≤ n → map (λ k. word (map v (variables k))) (range_with_len a m) ≡ map (λ k. word (map w (variables k))) (range_with_len a m)
words-agree zero a n v w h high = refl
words-agree (suc m) a n v w h high = λ i. word (values-agree 32 (32 * a + 1) (32 * n) v w h (omega arith) (omega arith) i) ∷ words-agree m (a + 1) n v w h (omega arith) i

-- values that agree on the first variables are of one input
pub input-agrees : (n : ℕ) (v w : ℕ → Bool) → Agrees (32 * n) v w → input_at n v ≡ input_at n w
input-agrees n v w h = words-agree n 0 n v w h (omega arith)

-- ---- bits that aren't all unset

any_from-list_any : {X : Type 0} (f : X → Bool) (c : Bool) (xs : List X) → any_from c (map f xs) ≡ (c || list_any f xs)
any_from-list_any f true [] = refl
any_from-list_any f false [] = refl
any_from-list_any f true (x ∷ xs) = any_from-list_any f true xs
any_from-list_any f false (x ∷ xs) = any_from-list_any f (f x) xs

not-not : (b : Bool) → not (not b) ≡ b
not-not true = refl
not-not false = refl

-- a word is nonzero where one of its bits is set
nonzero-any : (v : ℕ → Bool) (bs : List Bit) → length bs ≡ 32 → not (is_zero (word_value v bs)) ≡ list_any (bit_value v) bs
nonzero-any v bs w = ap not (is_zero-word (values v bs) (length-map bs (bit_value v) ∙ w)) ∙ not-not (any (values v bs)) ∙ any_from-list_any (bit_value v) false bs

-- ---- literals

-- what an encoding is after some literals
pub record Encodes (n : ℕ) (ds : List Term) (e : Encoding) : Type 0 where
  pub circuit : IsCircuit e.circuit
  pub inputs : 32 * n ≤ e.circuit.formula.vars
  pub variables_cost : e.circuit.formula.vars ≤ 32 * n + cost ds
  pub clauses_cost : length e.circuit.formula.clauses ≤ cost ds
  pub terms : e.circuit.is_ended ≡ false → encoded e ≡ subterms ds
  pub words : AreWords n e.circuit e.words
  pub meets : (v : ℕ → Bool) → IsModel v e.circuit.formula → holds ds (input_at n v) ≡ true
  pub reaches : (v : ℕ → Bool) → holds ds (input_at n v) ≡ true → (w : ℕ → Bool) × Agrees (32 * n) v w × IsModel w e.circuit.formula

both-true : (a b : Bool) → a ≡ true → b ≡ true → (a && b) ≡ true
both-true a b h k = ap (λ (c : Bool). c && b) h ∙ k

first-true : (a b : Bool) → (a && b) ≡ true → a ≡ true
first-true true b h = refl
first-true false b h = h

second-true : (a b : Bool) → (a && b) ≡ true → b ≡ true
second-true true b h = h
second-true false b h = cc

last-holds : (ds : List Term) (t : Term) (x : List ℤ) → holds (ds ++ t ∷ []) x ≡ (holds ds x && not (is_zero (term_value t x)))
last-holds ds t x = holds-append ds (t ∷ []) x ∙ ap (λ (b : Bool). holds ds x && b) (by (not (is_zero (term_value t x))))
  where
    by : (b : Bool) → (b && true) ≡ b
    by true = refl
    by false = refl

module _ (n : ℕ) (ds : List Term) (t : Term) (e : Encoding) (h : Encodes n ds e) (few : n ≤ 8) (cheap : cost (ds ++ t ∷ []) ≤ 1500000)
    (plain : AllByRecursion (λ u. IsPlain n (out-Term u)) (subterms (ds ++ t ∷ []))) where
  -- what contradicts itself stays as it is
  ended-step : e.circuit.is_ended ≡ true → Encodes n (ds ++ t ∷ []) e
  ended-step over =
      let none = h.circuit.ended over in
      let more = cost-more ds (t ∷ []) in
      record {
        circuit = h.circuit;
        inputs = h.inputs;
        variables_cost = omega (arith, h.variables_cost);
        clauses_cost = omega (arith, h.clauses_cost);
        terms = λ still. absurd (let no : true ≡ false = sym over ∙ still in cc);
        words = h.words;
        meets = λ v m. absurd (none v m);
        reaches = λ v m. let w = h.reaches v (first-true _ _ (sym (last-holds ds t (input_at n v)) ∙ m)) in absurd (none w.0 w.2);
      }

  literal-step : e.circuit.is_ended ≡ false → Encodes n (ds ++ t ∷ []) (with_assertion (with_terms e t) t)
  literal-step open-yet =
      let g = term-growth t (encoded e) in
      let same = h.terms open-yet in
      let grown : subterms (ds ++ t ∷ []) ≡ encoded e ++ g.more = subterms-append ds (t ∷ []) ∙ ap (add_term t) (sym same) ∙ g.grown in
      let spent : costs (subterms (ds ++ t ∷ [])) ≡ costs (subterms ds) + costs g.more = ap costs grown ∙ costs-append (encoded e) g.more ∙ ap (λ (us : List Term). costs us + costs g.more) same in
      let long = length-append ds (t ∷ []) in
      let rest : missing e t ≡ g.more = ap (drop (length e.words)) g.grown ∙ ap (λ (k : ℕ). drop k (encoded e ++ g.more)) (sym (length-map e.words (λ w. w.0))) ∙ drop-append_seam (encoded e) g.more in
      let F = terms-add n g.more e h.circuit h.inputs h.words g.closed (all-later (λ u. IsPlain n (out-Term u)) (encoded e) g.more (subst (AllByRecursion (λ u. IsPlain n (out-Term u))) grown plain)) (omega (arith, h.variables_cost)) in
      let f = fold with_term e g.more in
      let there : has_term (encoded f) t ≡ true = ap (λ (us : List Term). has_term us t) (F.terms ∙ sym g.grown) ∙ g.there.0 in
      let bits = term_bits f t in
      let W = word-found n f.circuit t f.words F.words there in
      let A = asserted-asserts f.circuit F.grows.circuit bits W.inside in
      let nonzero : (v : ℕ → Bool) → IsModel v f.circuit.formula → not (is_zero (term_value t (input_at n v))) ≡ list_any (bit_value v) bits = λ v m. ap (λ (z : ℤ). not (is_zero z)) (sym (W.value v m)) ∙ nonzero-any v bits W.width in
      let step : Encodes n (ds ++ t ∷ []) (with_assertion f t) = record {
        circuit = A.circuit;
        inputs = omega (arith, h.inputs, F.grows.vars_kept, A.vars);
        variables_cost = omega (arith, h.variables_cost, F.grows.vars_cost, A.vars);
        clauses_cost = omega (arith, h.clauses_cost, F.grows.clauses_cost, A.cost);
        terms = λ _. F.terms ∙ sym grown;
        words = words-kept n f.circuit (asserted bits f.circuit) (omega (arith, A.vars)) (λ v m. ((A.models v).0 m).0) f.words F.words;
        meets = λ v m.
            let both = (A.models v).0 m in
            last-holds ds t (input_at n v) ∙ both-true _ _ (h.meets v (F.grows.restricts v both.0)) (nonzero v both.0 ∙ both.1);
        reaches = λ v m.
            let parts = sym (last-holds ds t (input_at n v)) ∙ m in
            let w = h.reaches v (first-true _ _ parts) in
            let u = F.grows.extends w.0 w.2 in
            let agrees : Agrees (32 * n) v u.0 = agrees-trans (32 * n) v w.0 u.0 w.1 (agrees-fewer (32 * n) e.circuit.formula.vars w.0 u.0 h.inputs u.1) in
            let set : list_any (bit_value u.0) bits ≡ true = sym (nonzero u.0 u.2) ∙ ap (λ (x : List ℤ). not (is_zero (term_value t x))) (sym (input-agrees n v u.0 agrees)) ∙ second-true _ _ parts in
            (u.0, agrees, (A.models u.0).1 (u.2, set));
      } in
      subst (λ (us : List Term). Encodes n (ds ++ t ∷ []) (with_assertion (fold with_term e us) t)) (sym rest) step

  pub step-encodes : Encodes n (ds ++ t ∷ []) (with_literal e t)
  step-encodes = by e.circuit.is_ended refl
    where
      by : (b : Bool) → e.circuit.is_ended ≡ b → Encodes n (ds ++ t ∷ []) (if b then e else with_assertion (with_terms e t) t)
      by true over = ended-step over
      by false over = literal-step over
