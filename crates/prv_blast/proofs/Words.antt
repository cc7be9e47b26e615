-- What the bits of terms are worth.
use Rattle.std.proofs.Common.{◌≡◌, ℕ, zero, suc, ◌+◌, ◌*◌, ◌<◌, ◌≤◌, Bool, true, false, ◌||◌, cond, List, [], ◌∷◌, ◌++◌, length, map, ℤ, pos, Option, Some, slice_get, get_or, unwrap_or, refl, sym, ap, ap₂, ◌∙◌, subst, arith, fold, append-nil, append_assoc, if◌then◌else◌}
use Rattle.std.specs.List.{AllByRecursion, range_with_len}
use Rattle.std.specs.Int.{w32, cast_unsigned}
use Rattle.std.specs.Map.{lookup}
use Rattle.std.proofs.lemmas.List.{length-map, map-append}
use Rattle.std.proofs.lemmas.List.FromFn.{get_or-map-range_with_len, length-map-range_with_len}
use Rattle.std.proofs.lemmas.Option.{slice_get-get_or}
use Rattle.prv_model.specs.Words.{is_zero}
use Rattle.prv_model.specs.Terms.{term_value, total}
use Rattle.prv_model.specs.TermOrder.{same_term}
use Rattle.prv_model.proofs.OrderLemmas.{same_term-same}
use Rattle.prv_model.proofs.TermLemmas.{term_value-Param, term_value-Num, term_value-Op, term_value-Pick}
use Rattle.prv_model.specs.declared.term.Term.{Term, map-Term, out-Term, roll-Term, roll-out-Term}
use Rattle.prv_model.specs.declared.term.Term.TheVariants.{Param, Op, Pick, Num, rolls-Param, rolls-Op, rolls-Pick, rolls-Num}
use Rattle.prv_model.specs.declared.term.Term.TheOpen.{Term-F}
use Rattle.prv_cnf.specs.declared.formula.TheConstants.{MAX_VARS}
use Rattle.prv_cnf.specs.Models.{IsModel}
use Rattle.prv_bits.specs.Numbers.{word, bits_of}
use Rattle.prv_bits.proofs.WordLaws.{word-bits_of}
use Rattle.prv_bits.proofs.NumberLaws.{length-digits}
use Rattle.prv_gate.specs.Bits.{bit_value, constant}
use Rattle.prv_gate.specs.Circuits.{Circuit, Run, IsCircuit}
use Rattle.prv_gate.specs.Growth.{Grows}
use Rattle.prv_gate.specs.declared.bit.Bit.{Bit}
use Rattle.prv_gate.specs.declared.bit.Bit.TheVariants.{Lit as Literal}
use Rattle.prv_gate.proofs.Composing.{grows-here, grows-then}
use Rattle.prv_arith.specs.Lists.{AllBits, IsReady}
use Rattle.prv_arith.specs.Costs.{op_cost, pick_cost}
use Rattle.prv_arith.specs.Words.{word_value, op_bits, pick_bits}
use Rattle.prv_arith.proofs.ListLaws.{bits-more}
use Rattle.prv_arith.proofs.OperatorLaws.{op_bits-gives, length-op_bits, pick_bits-gives, length-pick_bits}
use Rattle.prv_pool.specs.Tables.{node_operands, has_term}
use Rattle.prv_blast.specs.Inputs.{variables, input_at}
use Rattle.prv_blast.specs.Subterms.{node_cost, costs}
use Rattle.prv_blast.specs.Encodings.{Encoding, encoded, term_bits, node_bits, with_term}
use Rattle.prv_blast.specs.Encoders.{IsWordOf, AreWords, IsPlain}
use Rattle.prv_blast.proofs.Growing.{IsClosedOver, all-append}

-- ---- words

word-kept : (n : ℕ) (s t : Circuit) → s.formula.vars ≤ t.formula.vars → ((v : ℕ → Bool) → IsModel v t.formula → IsModel v s.formula) → (w : Term × List Bit) → IsWordOf n s w → IsWordOf n t w
word-kept n s t more restricts w h = record {
  width = h.width;
  inside = bits-more s.formula.vars t.formula.vars w.1 more h.inside;
  value = λ v m. h.value v (restricts v m);
}

pub words-kept : (n : ℕ) (s t : Circuit) → s.formula.vars ≤ t.formula.vars → ((v : ℕ → Bool) → IsModel v t.formula → IsModel v s.formula) → (ws : List (Term × List Bit)) → AreWords n s ws → AreWords n t ws
words-kept n s t more restricts [] h = tt
words-kept n s t more restricts (w ∷ ws) h = (word-kept n s t more restricts w h.0, words-kept n s t more restricts ws h.1)

pub word-found : (n : ℕ) (s : Circuit) (t : Term) (ws : List (Term × List Bit)) → AreWords n s ws → has_term (map (λ w. w.0) ws) t ≡ true → IsWordOf n s (t, unwrap_or (lookup (same_term t) ws) [])
word-found n s t [] h e = cc
word-found n s t (w ∷ ws) h e = by (same_term t w.0) refl e (word-found n s t ws h.1)
  where
    by : (b : Bool) → same_term t w.0 ≡ b → (b || has_term (map (λ w. w.0) ws) t) ≡ true → (has_term (map (λ w. w.0) ws) t ≡ true → IsWordOf n s (t, unwrap_or (lookup (same_term t) ws) [])) →
        IsWordOf n s (t, unwrap_or (lookup (same_term t) (w ∷ ws)) [])
    by true d f later =
        let same : t ≡ w.0 = (same_term-same t w.0).0 d in
        let first : unwrap_or (lookup (same_term t) (w ∷ ws)) [] ≡ w.1 = ap (λ (b : Bool). unwrap_or (cond b (Some w.1) (lookup (same_term t) ws)) []) d in
        subst (IsWordOf n s) (sym (ap₂ (λ (u : Term) (bs : List Bit). (u, bs)) same first)) h.0
    by false d f later =
        let next : unwrap_or (lookup (same_term t) (w ∷ ws)) [] ≡ unwrap_or (lookup (same_term t) ws) [] = ap (λ (b : Bool). unwrap_or (cond b (Some w.1) (lookup (same_term t) ws)) []) d in
        subst (λ (bs : List Bit). IsWordOf n s (t, bs)) (sym next) (later f)

-- ---- parameters and numbers

param-values : (v : ℕ → Bool) (is : List ℕ) → map (bit_value v) (map (λ i. Literal (record { 0 = pos i })) is) ≡ map v is
param-values v [] = refl
param-values v (i ∷ is) = ap (λ (bs : List Bool). v i ∷ bs) (param-values v is)

range-inside : (m a n : ℕ) → 0 < a → a + m ≤ suc n → AllBits n (map (λ i. Literal (record { 0 = pos i })) (range_with_len a m))
range-inside zero a n low high = tt
range-inside (suc m) a n low high = ((low, omega arith), range-inside m (a + 1) n (omega arith) (omega arith))

input-word : (n k : ℕ) (v : ℕ → Bool) → k < n → unwrap_or (slice_get (input_at n v) k) (pos 0) ≡ word (map v (variables k))
input-word n k v h =
    let f = λ (j : ℕ). word (map v (variables j)) in
    ap (λ (o : Option ℤ). unwrap_or o (pos 0)) (slice_get-get_or (input_at n v) k (pos 0) (omega (arith, length-map-range_with_len f 0 n)))
    ∙ get_or-map-range_with_len f 0 n k k (pos 0) h (omega arith)

constant-values : (v : ℕ → Bool) (bs : List Bool) → map (bit_value v) (map constant bs) ≡ bs
constant-values v [] = refl
constant-values v (true ∷ bs) = ap (λ (cs : List Bool). true ∷ cs) (constant-values v bs)
constant-values v (false ∷ bs) = ap (λ (cs : List Bool). false ∷ cs) (constant-values v bs)

constants-inside : (n : ℕ) (bs : List Bool) → AllBits n (map constant bs)
constants-inside n [] = tt
constants-inside n (true ∷ bs) = (tt, constants-inside n bs)
constants-inside n (false ∷ bs) = (tt, constants-inside n bs)

-- ---- one node

-- a run adds no more than a term's own cost, and gives the term's bits
pub record GivesWord (n cost : ℕ) (s : Circuit) (r : Run (List Bit)) (t : Term) : Type 0 where
  pub grows : Grows cost s r.circuit
  pub is_word : IsWordOf n r.circuit (t, r.out)

module _ (n : ℕ) (e : Encoding) (circuit : IsCircuit e.circuit) (inputs : 32 * n ≤ e.circuit.formula.vars) (words : AreWords n e.circuit e.words) where
  found : (u : Term) → has_term (encoded e) u ≡ true → IsWordOf n e.circuit (u, term_bits e u)
  found u h = word-found n e.circuit u e.words words h

  node-gives : (y : Term-F Term) (t : Term) → out-Term t ≡ y → AllByRecursion (λ u. has_term (encoded e) u ≡ true) (node_operands y) → IsPlain n y → e.circuit.formula.vars + node_cost y ≤ MAX_VARS →
      GivesWord n (node_cost y) e.circuit (node_bits (map-Term Term (List Bit) (term_bits e) y) e.circuit) t
  node-gives (Term-F.Param k) t is there plain room =
      let same : t ≡ Param k = sym (roll-out-Term t) ∙ ap roll-Term is ∙ rolls-Param k in
      record {
        grows = grows-here 0 e.circuit circuit;
        is_word = record {
          width = length-map (variables k) (λ i. Literal (record { 0 = pos i })) ∙ refl;
          inside = range-inside 32 (32 * k + 1) e.circuit.formula.vars (omega arith) (omega arith);
          value = λ v m. ap word (param-values v (variables k)) ∙ sym (input-word n k v plain) ∙ sym (ap (λ (u : Term). term_value u (input_at n v)) same ∙ term_value-Param k (input_at n v));
        };
      }
  node-gives (Term-F.Num z) t is there plain room =
      let same : t ≡ Num z = sym (roll-out-Term t) ∙ ap roll-Term is ∙ rolls-Num z in
      record {
        grows = grows-here 0 e.circuit circuit;
        is_word = record {
          width = length-map (bits_of z) constant ∙ length-digits 32 (cast_unsigned w32 z);
          inside = constants-inside e.circuit.formula.vars (bits_of z);
          value = λ v m. ap word (constant-values v (bits_of z)) ∙ word-bits_of z plain ∙ sym (ap (λ (u : Term). term_value u (input_at n v)) same ∙ term_value-Num z (input_at n v));
        };
      }
  node-gives (Term-F.Op op a b) t is there plain room =
      let same : t ≡ Op op a b = sym (roll-out-Term t) ∙ ap roll-Term is ∙ rolls-Op op a b in
      let first = found a there.0 in
      let second = found b there.1.0 in
      let ready : IsReady (op_cost op) e.circuit (term_bits e a) (term_bits e b) = record { circuit = circuit; first = first.inside; second = second.inside; room = room } in
      let gives = op_bits-gives (term_bits e a) (term_bits e b) e.circuit first.width second.width op ready in
      record {
        grows = gives.grows;
        is_word = record {
          width = length-op_bits (term_bits e a) (term_bits e b) e.circuit first.width second.width op ready;
          inside = gives.inside;
          value = λ v m.
              gives.value v m ∙ ap₂ (total op) (first.value v (gives.grows.restricts v m)) (second.value v (gives.grows.restricts v m))
              ∙ sym (ap (λ (u : Term). term_value u (input_at n v)) same ∙ term_value-Op op a b (input_at n v));
        };
      }
  node-gives (Term-F.Pick c a b) t is there plain room =
      let same : t ≡ Pick c a b = sym (roll-out-Term t) ∙ ap roll-Term is ∙ rolls-Pick c a b in
      let test = found c there.0 in
      let first = found a there.1.0 in
      let second = found b there.1.1.0 in
      let ready : IsReady pick_cost e.circuit (term_bits e a) (term_bits e b) = record { circuit = circuit; first = first.inside; second = second.inside; room = room } in
      let gives = pick_bits-gives (term_bits e a) (term_bits e b) e.circuit first.width second.width (term_bits e c) test.width test.inside ready in
      record {
        grows = gives.grows;
        is_word = record {
          width = length-pick_bits (term_bits e a) (term_bits e b) e.circuit first.width second.width (term_bits e c) test.width;
          inside = gives.inside;
          value = λ v m.
              let old = gives.grows.restricts v m in
              gives.value v m
              ∙ ap (λ (z : ℤ). if is_zero z then word_value v (term_bits e b) else word_value v (term_bits e a)) (test.value v old)
              ∙ ap₂ (λ (y z : ℤ). if is_zero (term_value c (input_at n v)) then y else z) (second.value v old) (first.value v old)
              ∙ sym (ap (λ (u : Term). term_value u (input_at n v)) same ∙ term_value-Pick c a b (input_at n v));
        };
      }

  pub term-gives : (t : Term) → AllByRecursion (λ u. has_term (encoded e) u ≡ true) (node_operands (out-Term t)) → IsPlain n (out-Term t) → e.circuit.formula.vars + node_cost (out-Term t) ≤ MAX_VARS →
      GivesWord n (node_cost (out-Term t)) e.circuit (node_bits (map-Term Term (List Bit) (term_bits e) (out-Term t)) e.circuit) t
  term-gives t there plain room = node-gives (out-Term t) t refl there plain room

-- ---- several nodes

-- what some terms add to an encoding, one after another
pub record AddsTerms (n : ℕ) (e f : Encoding) (ts : List Term) : Type 0 where
  pub grows : Grows (costs ts) e.circuit f.circuit
  pub words : AreWords n f.circuit f.words
  pub terms : encoded f ≡ encoded e ++ ts

pub terms-add : (n : ℕ) (ts : List Term) (e : Encoding) → IsCircuit e.circuit → 32 * n ≤ e.circuit.formula.vars → AreWords n e.circuit e.words → IsClosedOver (encoded e) ts
    → AllByRecursion (λ t. IsPlain n (out-Term t)) ts → e.circuit.formula.vars + costs ts ≤ MAX_VARS → AddsTerms n e (fold with_term e ts) ts
terms-add n [] e circuit inputs words closed plain room = record { grows = grows-here 0 e.circuit circuit; words = words; terms = sym (append-nil (encoded e)) }
terms-add n (t ∷ ts) e circuit inputs words closed plain room =
    let one = term-gives n e circuit inputs words t closed.0 plain.0 (omega arith) in
    let f = with_term e t in
    let g = one.grows in
    let all : AreWords n f.circuit f.words = all-append (IsWordOf n f.circuit) e.words _ (words-kept n e.circuit f.circuit g.vars_kept g.restricts e.words words) (one.is_word, tt) in
    let terms : encoded f ≡ encoded e ++ t ∷ [] = map-append (λ (w : Term × List Bit). w.0) e.words _ in
    let rest = terms-add n ts f g.circuit (omega (arith, g.vars_kept)) all (subst (λ (us : List Term). IsClosedOver us ts) (sym terms) closed.1) plain.1 (omega (arith, g.vars_cost)) in
    record {
      grows = grows-then (node_cost (out-Term t)) (costs ts) e.circuit f.circuit (fold with_term f ts).circuit g rest.grows;
      words = rest.words;
      terms = rest.terms ∙ ap (λ (us : List Term). us ++ ts) terms ∙ append_assoc (encoded e) (t ∷ []) ts;
    }
