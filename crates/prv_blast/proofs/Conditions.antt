-- The literals of a condition, one after another.
use Rattle.std.proofs.Common.{◌≡◌, ℕ, zero, suc, ◌+◌, ◌*◌, ◌<◌, ◌≤◌, false, List, [], ◌∷◌, ◌++◌, length, take, drop, Some, option_map, slice_get, refl, sym, ap, ◌∙◌, subst, arith, fold, append_assoc, length-append}
use Rattle.std.specs.Prelude.{Result, Ok, Err, ◌↔◌}
use Rattle.std.specs.List.{All, AllByRecursion}
use Rattle.std.proofs.lemmas.List.{length-map, take_all}
use Rattle.std.proofs.lemmas.Option.{slice_get-map}
use Rattle.std.proofs.lemmas.List.Sums.{fold-append}
use Rattle.std.proofs.Math.Seq.{drop-append_seam}
use Rattle.prv_model.specs.Terms.{IsTerm}
use Rattle.prv_model.specs.declared.term.Term.{Term, out-Term}
use Rattle.prv_cnf.specs.Formulas.{Formula}
use Rattle.prv_gate.specs.Circuits.{Circuit, blank}
use Rattle.prv_gate.specs.declared.bit.Bit.{Bit}
use Rattle.prv_arith.specs.declared.words.Word.{Word}
use Rattle.prv_pool.specs.Tables.{Table, IsTable, term_at, add_term}
use Rattle.prv_blast.specs.declared.error.BlastError.{BlastError}
use Rattle.prv_blast.specs.declared.error.BlastError.TheVariants.{Clauses}
use Rattle.prv_blast.specs.Subterms.{node_params, costs, cost, subterms, param_count}
use Rattle.prv_blast.specs.Encodings.{Encoding, encoded, missing, with_literal, start}
use Rattle.prv_blast.specs.Formulas.{encoding, formula, StandsFor, IsWithinCost}
use Rattle.prv_blast.specs.Orders.{AreWithin, terms_at}
use Rattle.prv_blast.specs.Encoders.{encoding_at, IsPlain, CanEncode}
use Rattle.prv_blast.proofs.Encoders.{within-get, zip-none}
use Rattle.prv_blast.proofs.Growing.{all-recursive, add-grown, term-growth, all-first}
use Rattle.prv_blast.proofs.Meaning.{Encodes, cost-more, costs-append, subterms-append}
use Rattle.prv_blast.proofs.Standing.{few-params, plain-subterms, most-over, starts, encodes-all, formula-stands, formula-within}

-- a list in front of an element, the element, and the rest
pub split-at : {X : Type 0} (xs : List X) (i : ℕ) (x : X) → slice_get xs i ≡ Some x → xs ≡ take i xs ++ x ∷ drop (suc i) xs
split-at [] i x e = cc
split-at (y ∷ ys) zero x e = let same : y ≡ x = cc in ap (λ z. z ∷ ys) same
split-at (y ∷ ys) (suc i) x e = ap (λ zs. y ∷ zs) (split-at ys i x e)

pub take-next : {X : Type 0} (xs : List X) (i : ℕ) (x : X) → slice_get xs i ≡ Some x → take (i + 1) xs ≡ take i xs ++ x ∷ []
take-next [] i x e = cc
take-next (y ∷ ys) zero x e = let same : y ≡ x = cc in ap (λ z. z ∷ []) same
take-next (y ∷ ys) (suc i) x e =
    let one : suc i + 1 ≡ suc (i + 1) = omega arith in
    ap (λ (k : ℕ). take k (y ∷ ys)) one ∙ ap (λ zs. y ∷ zs) (take-next ys i x e)

module _ (terms : List Term) (known : AllByRecursion (IsTerm 8) terms) where
  -- each subterm asks for at most 8 parameters
  pub few-each : AllByRecursion (λ t. node_params (out-Term t) ≤ 8) (subterms terms)
  few-each = most-over (subterms terms) 8 (few-params terms known)

  module _ (cheap : cost terms ≤ 1500000) (ds rest : List Term) (t : Term) (split : terms ≡ ds ++ t ∷ rest) (e : Encoding) (made : e ≡ fold with_literal (start (param_count terms)) ds) where
    n : ℕ
    n = param_count terms

    plain : AllByRecursion (λ u. IsPlain (param_count terms) (out-Term u)) (subterms terms)
    plain = plain-subterms terms known

    cheap-split : cost (ds ++ t ∷ rest) ≤ 1500000
    cheap-split = subst (λ (us : List Term). cost us ≤ 1500000) split cheap

    encodes-front : Encodes (param_count terms) ds e
    encodes-front =
        let Q = λ (u : Term). IsPlain (param_count terms) (out-Term u) in
        let g = add-grown (subterms ds) (t ∷ rest) in
        let front = all-first Q (subterms ds) g.more (subst (AllByRecursion Q) (ap subterms split ∙ subterms-append ds (t ∷ rest) ∙ g.grown) plain) in
        let few = few-params terms known in
        let less = cost-more ds (t ∷ rest) in
        subst (Encodes (param_count terms) ds) (sym made) (encodes-all (param_count terms) ds [] (start (param_count terms)) (starts (param_count terms) few) few (omega (arith, cheap-split)) front)

    module _ (table : Table) (kept : IsTable table) (ns : List ℕ) (within : AreWithin (length table.terms) ns) (root : ℕ) (root_within : root < length table.terms) (is : term_at table.terms root ≡ t) (order : terms_at table.terms ns ≡ subterms terms) (open-yet : e.circuit.is_ended ≡ false) where
      pub can-encode : CanEncode table ns root e
      can-encode =
          let h = encodes-front in
          let u = term_at table.terms root in
          let same : encoded e ≡ subterms ds = h.terms open-yet in
          let later = add-grown (add_term t (subterms ds)) rest in
          let g = term-growth u (encoded e) in
          let all : subterms terms ≡ add_term t (subterms ds) ++ later.more = ap subterms split ∙ subterms-append ds (t ∷ rest) ∙ later.grown in
          let first : add_term t (subterms ds) ≡ add_term u (encoded e) = ap (λ (v : Term). add_term v (subterms ds)) (sym is) ∙ ap (add_term u) (sym same) in
          let more : missing e u ≡ g.more = ap (drop (length e.words)) g.grown ∙ ap (λ (k : ℕ). drop k (encoded e ++ g.more)) (sym (length-map e.words (λ w. w.0))) ∙ drop-append_seam (encoded e) g.more in
          let spent : costs (subterms (ds ++ t ∷ [])) ≡ costs (subterms ds) + costs g.more =
          ap costs (subterms-append ds (t ∷ []) ∙ first ∙ g.grown) ∙ costs-append (encoded e) g.more ∙ ap (λ (us : List Term). costs us + costs g.more) same in
          let long = length-append ds (t ∷ []) in
          let less : cost (ds ++ t ∷ []) ≤ 1500000 = (let m = cost-more (ds ++ t ∷ []) rest in let a = ap cost (append_assoc ds (t ∷ []) rest) in omega (arith, cheap-split)) in
          let few = few-params terms known in
          let missed : costs (missing e u) ≡ costs g.more = ap costs more in
          record {
            kept = kept;
            within = within;
            root_within = root_within;
            later = later.more;
            order = order ∙ all ∙ ap (λ (us : List Term). us ++ later.more) first;
            params = param_count terms;
            plain = subst (AllByRecursion (λ (v : Term). IsPlain (param_count terms) (out-Term v))) (sym order) plain;
            circuit = h.circuit;
            inputs = h.inputs;
            words = h.words;
            room = omega (arith, h.variables_cost);
          }

-- one literal more
pub literal-more : (terms : List Term) (n i : ℕ) (t : Term) (e : Encoding) → slice_get terms i ≡ Some t → e ≡ fold with_literal (start n) (take i terms) → with_literal e t ≡ fold with_literal (start n) (take (i + 1) terms)
literal-more terms n i t e at made =
    ap (λ (f : Encoding). with_literal f t) made ∙ sym (fold-append with_literal (start n) (take i terms) (t ∷ [])) ∙ ap (fold with_literal (start n)) (sym (take-next terms i t at))

-- ---- what the code of a condition relies on

pub known-all : (table : List Term) (roots : List ℕ) → All (IsTerm 8) (terms_at table roots) → AllByRecursion (IsTerm 8) (terms_at table roots)
known-all table roots known = all-recursive (IsTerm 8) (terms_at table roots) known

-- the cost is that of the order's terms, and of the literals
pub cost-is : (terms ordered : List Term) (count : ℕ) → ordered ≡ subterms terms → count ≡ length terms → costs ordered + 40 * count ≡ cost terms
cost-is terms ordered count is long = (λ i. costs (is i) + 40 * long i)

-- a literal of a condition can be encoded
pub root-can : (table : Table) → IsTable table → (roots ns : List ℕ) → AllByRecursion (IsTerm 8) (terms_at table.terms roots) → cost (terms_at table.terms roots) ≤ 1500000 → AreWithin (length table.terms) roots → AreWithin (length table.terms) ns →
    terms_at table.terms ns ≡ subterms (terms_at table.terms roots) → (i root : ℕ) → slice_get roots i ≡ Some root → (e : Encoding) → e ≡ fold with_literal (start (param_count (terms_at table.terms roots))) (take i (terms_at table.terms roots)) → e.circuit.is_ended ≡ false → CanEncode table ns root e
root-can table kept roots ns known cheap within-roots within order i root at e made open-yet =
    let terms = terms_at table.terms roots in
    let place : slice_get terms i ≡ Some (term_at table.terms root) = slice_get-map (term_at table.terms) roots i ∙ ap (option_map (term_at table.terms)) at in
    can-encode terms known cheap (take i terms) (drop (suc i) terms) (term_at table.terms root) (split-at terms i (term_at table.terms root) place) e made table kept ns within root (within-get (length table.terms) roots within-roots i root at) refl order open-yet

-- one root more
pub root-more : (table : List Term) (roots : List ℕ) (i root : ℕ) → slice_get roots i ≡ Some root → (e f : Encoding) → f ≡ with_literal e (term_at table root) → e ≡ fold with_literal (start (param_count (terms_at table roots))) (take i (terms_at table roots)) →
    f ≡ fold with_literal (start (param_count (terms_at table roots))) (take (i + 1) (terms_at table roots))
root-more table roots i root at e f step made =
    step ∙ literal-more (terms_at table roots) (param_count (terms_at table roots)) i (term_at table root) e (slice_get-map (term_at table) roots i ∙ ap (option_map (term_at table)) at) made

-- behind the last root stands the condition's formula
pub formula-is : (table : List Term) (roots ns : List ℕ) (words : List Word) (s : Circuit) (i : ℕ) → length roots ≤ i → encoding_at table ns words s ≡ fold with_literal (start (param_count (terms_at table roots))) (take i (terms_at table roots)) → s.formula ≡ formula (terms_at table roots)
unfolding encoding
formula-is table roots ns words s i past made =
    let terms = terms_at table roots in
    let all : take i terms ≡ terms = take_all i terms (omega (arith, length-map roots (term_at table))) in
    ap (λ (e : Encoding). e.circuit.formula) (made ∙ ap (fold with_literal (start (param_count terms))) all)

-- a formula that is the condition's, on as many parameters, stands for it
pub stands-by : (terms : List Term) (n : ℕ) (f : Formula) → AllByRecursion (IsTerm 8) terms → cost terms ≤ 1500000 → n ≡ param_count terms → f ≡ formula terms → StandsFor n f terms
stands-by terms n f known cheap params is = subst (λ (m : ℕ). StandsFor m f terms) (sym params) (subst (λ (g : Formula). StandsFor (param_count terms) g terms) (sym is) (formula-stands terms known cheap))

pub within-by : (terms : List Term) (n : ℕ) (f : Formula) → AllByRecursion (IsTerm 8) terms → cost terms ≤ 1500000 → n ≡ param_count terms → f ≡ formula terms → IsWithinCost n f terms
within-by terms n f known cheap params is = subst (λ (m : ℕ). IsWithinCost m f terms) (sym params) (subst (λ (g : Formula). IsWithinCost (param_count terms) g terms) (sym is) (formula-within terms known cheap))

-- ---- when a condition is refused

pub over-limit : {X : Type 0} (r : Result X BlastError) (count n : ℕ) → r ≡ Err (Clauses count) → count ≡ n → 1500000 < count → (k : ℕ) → (r ≡ Err (Clauses k)) ↔ ((1500000 < n) × (k ≡ n))
over-limit {X = X} r count n is same over k =
    let refusal : ℕ → Result X BlastError = λ m. Err (Clauses m) in (
      λ (e : r ≡ Err (Clauses k)). (omega arith, (let one : count ≡ k = cc in omega arith)),
      λ h. is ∙ ap refusal (let one : count ≡ k = omega (arith, h.1) in one),
    )

pub within-limit : {X : Type 0} (r : Result X BlastError) (b : X) (n : ℕ) → r ≡ Ok b → n ≤ 1500000 → (k : ℕ) → (r ≡ Err (Clauses k)) ↔ ((1500000 < n) × (k ≡ n))
within-limit r b n is few k = (λ (e : r ≡ Err (Clauses k)). absurd (cc), λ h. absurd (omega (arith, h.0)))

-- ---- the start, and the cost

pub starts-empty : (table : List Term) (ns : List ℕ) (words : List Word) (s : Circuit) (n m : ℕ) → words ≡ [] → s ≡ blank (32 * n) → n ≡ m → encoding_at table ns words s ≡ start m
starts-empty table ns words s n m none fresh same =
    (λ i. encoding_at table ns (none i) (fresh i)) ∙ ap (λ (ws : List (Term × List Bit)). record { words = ws; circuit = blank (32 * n) }) (zip-none (terms_at table ns)) ∙ ap start same

pub cheap-by : (terms ordered : List Term) (count n : ℕ) → ordered ≡ subterms terms → count ≡ costs ordered + 40 * n → n ≡ length terms → count ≤ 1500000 → cost terms ≤ 1500000
cheap-by terms ordered count n is made long less = let same = cost-is terms ordered n is long in omega arith
