-- The formula of a condition stands for it, and is no larger than the condition costs.
use Rattle.std.proofs.Common.{◌≡◌, ℕ, zero, suc, ◌+◌, ◌-◌, ◌*◌, ◌/◌, ◌%◌, ◌<◌, ◌≤◌, Bool, true, false, ◌&&◌, ◌||◌, List, [], ◌∷◌, ◌++◌, length, map, ℤ, pos, get_or, refl, sym, ap, ◌∙◌, subst, arith, fold, append-nil, append_assoc, add-zero}
use Rattle.std.specs.List.{AllByRecursion, range_with_len}
use Rattle.std.proofs.lemmas.Bool.{ltb-true, lt-ltb}
use Rattle.std.specs.Int.{w32, cast_unsigned}
use Rattle.prv_model.specs.Words.{IsWord}
use Rattle.prv_model.specs.Boards.{IsInput}
use Rattle.prv_model.specs.Terms.{IsTerm, node_is_term, holds}
use Rattle.prv_model.proofs.WordLaws.{tested-word, word-tested}
use Rattle.prv_model.specs.declared.term.Term.{Term, out-Term, roll-Term, roll-out-Term}
use Rattle.prv_model.specs.declared.term.Term.TheVariants.{Param, Op, Pick, Num, rolls-Param, rolls-Num}
use Rattle.prv_model.specs.declared.term.Term.TheOpen.{Term-F}
use Rattle.prv_model.specs.declared.term.Term.TheFolds.{fold-Term, fold-roll-Term}
use Rattle.prv_bits.specs.Numbers.{word, bits_of}
use Rattle.prv_bits.proofs.WordLaws.{word-bits_of}
use Rattle.prv_bits.proofs.NumberLaws.{length-digits}
use Rattle.prv_gate.specs.Circuits.{blank, IsCircuit}
use Rattle.prv_gate.proofs.Composing.{agrees-refl}
use Rattle.prv_pool.specs.Tables.{node_operands, has_term}
use Rattle.prv_pool.proofs.TableLemmas.{has-more}
use Rattle.prv_model.specs.TermOrder.{same_term}
use Rattle.prv_model.proofs.OrderLemmas.{same_term-same}
use Rattle.prv_blast.specs.Inputs.{variables, input_at}
use Rattle.prv_blast.specs.Subterms.{node_params, most_params, param_count, cost, subterms}
use Rattle.prv_blast.specs.Encodings.{Encoding, with_literal, start}
use Rattle.prv_blast.specs.Formulas.{encoding, formula, StandsFor, IsWithinCost}
use Rattle.prv_blast.specs.Encoders.{IsPlain}
use Rattle.prv_blast.proofs.Growing.{operands_of, by-operands, IsClosedOver, add-grown, terms-kept, all-first}
use Rattle.prv_blast.proofs.Meaning.{Encodes, cost-more, subterms-append, step-encodes, input-agrees}

-- ---- terms over parameters

test-Num : (n : ℕ) (z : ℤ) → IsTerm n (Num z) → IsWord z
test-Num n z h = tested-word z (sym (ap (fold-Term Bool (node_is_term n)) (sym (rolls-Num z)) ∙ fold-roll-Term Bool (node_is_term n) (Term-F.Num z)) ∙ h)

test-Param : (n k : ℕ) → IsTerm n (Param k) → k < n
test-Param n k h = ltb-true k n (sym (ap (fold-Term Bool (node_is_term n)) (sym (rolls-Param k)) ∙ fold-roll-Term Bool (node_is_term n) (Term-F.Param k)) ∙ h)

both-parts : (a b : Bool) → (a && b) ≡ true → (a ≡ true) × (b ≡ true)
both-parts true b h = (refl, h)
both-parts false b h = cc

-- a term over some parameters has operands over them
pub term-down : (n : ℕ) (t : Term) → IsTerm n t → AllByRecursion (IsTerm n) (operands_of t)
term-down n t h = by (out-Term t) (sym (roll-out-Term t))
  where
    by : (y : Term-F Term) → t ≡ roll-Term y → AllByRecursion (IsTerm n) (node_operands y)
    by (Term-F.Param k) e = tt
    by (Term-F.Num z) e = tt
    by (Term-F.Op op a b) e =
        let parts = both-parts _ _ (sym (fold-roll-Term Bool (node_is_term n) (Term-F.Op op a b)) ∙ ap (fold-Term Bool (node_is_term n)) (sym e) ∙ h) in
        (parts.0, (parts.1, tt))
    by (Term-F.Pick c a b) e =
        let parts = both-parts _ _ (sym (fold-roll-Term Bool (node_is_term n) (Term-F.Pick c a b)) ∙ ap (fold-Term Bool (node_is_term n)) (sym e) ∙ h) in
        let rest = both-parts _ _ parts.1 in
        (parts.0, (rest.0, (rest.1, tt)))

plain-node : (m n : ℕ) (t : Term) → IsTerm m t → node_params (out-Term t) ≤ n → IsPlain n (out-Term t)
plain-node m n t h = by (out-Term t) (sym (roll-out-Term t))
  where
    by : (y : Term-F Term) → t ≡ roll-Term y → node_params y ≤ n → IsPlain n y
    by (Term-F.Param k) e le = omega arith
    by (Term-F.Num z) e le = test-Num m z (subst (IsTerm m) (e ∙ rolls-Num z) h)
    by (Term-F.Op op a b) e le = tt
    by (Term-F.Pick c a b) e le = tt

few-node : (m : ℕ) (t : Term) → IsTerm m t → node_params (out-Term t) ≤ m
few-node m t h = by (out-Term t) (sym (roll-out-Term t))
  where
    by : (y : Term-F Term) → t ≡ roll-Term y → node_params y ≤ m
    by (Term-F.Param k) e = let less = test-Param m k (subst (IsTerm m) (e ∙ rolls-Param k) h) in omega arith
    by (Term-F.Num z) e = omega arith
    by (Term-F.Op op a b) e = omega arith
    by (Term-F.Pick c a b) e = omega arith

-- each of some terms asks for no more parameters than the most
plain-all : (m n : ℕ) (ts : List Term) → AllByRecursion (IsTerm m) ts → most_params ts ≤ n → AllByRecursion (λ t. IsPlain n (out-Term t)) ts
plain-all m n [] h le = tt
plain-all m n (t ∷ ts) h le = (plain-node m n t h.0 (omega arith), plain-all m n ts h.1 (omega arith))

few-all : (m : ℕ) (ts : List Term) → AllByRecursion (IsTerm m) ts → most_params ts ≤ m
few-all m [] h = omega arith
few-all m (t ∷ ts) h = let one = few-node m t h.0 in let rest = few-all m ts h.1 in omega arith

module _ (terms : List Term) (known : AllByRecursion (IsTerm 8) terms) where
  pub subterms-known : AllByRecursion (IsTerm 8) (subterms terms)
  subterms-known = terms-kept (IsTerm 8) (term-down 8) terms [] known tt

  pub few-params : param_count terms ≤ 8
  few-params = few-all 8 (subterms terms) subterms-known

  pub plain-subterms : AllByRecursion (λ t. IsPlain (param_count terms) (out-Term t)) (subterms terms)
  plain-subterms = plain-all 8 (param_count terms) (subterms terms) subterms-known (omega arith)

-- ---- the least number of parameters

closed-has : (before ts : List Term) → IsClosedOver before ts → (t : Term) → has_term ts t ≡ true → AllByRecursion (λ u. has_term (before ++ ts) u ≡ true) (operands_of t)
closed-has before [] h t e = cc
closed-has before (s ∷ ts) h t e = by (same_term t s) refl e (closed-has (before ++ s ∷ []) ts h.1 t)
  where
    moved : (before ++ s ∷ []) ++ ts ≡ before ++ s ∷ ts
    moved = append_assoc before (s ∷ []) ts

    more : (ops : List Term) → AllByRecursion (λ u. has_term before u ≡ true) ops → AllByRecursion (λ u. has_term (before ++ s ∷ ts) u ≡ true) ops
    more [] k = tt
    more (o ∷ ops) k = (has-more before (s ∷ ts) o k.0, more ops k.1)

    by : (b : Bool) → same_term t s ≡ b → (b || has_term ts t) ≡ true → (has_term ts t ≡ true → AllByRecursion (λ u. has_term ((before ++ s ∷ []) ++ ts) u ≡ true) (operands_of t)) →
        AllByRecursion (λ u. has_term (before ++ s ∷ ts) u ≡ true) (operands_of t)
    by true d f later = subst (λ (u : Term). AllByRecursion (λ (o : Term). has_term (before ++ s ∷ ts) o ≡ true) (operands_of u)) (sym ((same_term-same t s).0 d)) (more (operands_of s) h.0)
    by false d f later = subst (λ (us : List Term). AllByRecursion (λ (u : Term). has_term us u ≡ true) (operands_of t)) moved (later f)

known-at : (Q : Term → Type 0) (ts : List Term) → AllByRecursion Q ts → (t : Term) → has_term ts t ≡ true → Q t
known-at Q [] h t e = cc
known-at Q (s ∷ ts) h t e = by (same_term t s) refl e (known-at Q ts h.1 t)
  where
    by : (b : Bool) → same_term t s ≡ b → (b || has_term ts t) ≡ true → (has_term ts t ≡ true → Q t) → Q t
    by true d f later = subst Q (sym ((same_term-same t s).0 d)) h.0
    by false d f later = later f

pub most-over : (ts : List Term) (n : ℕ) → most_params ts ≤ n → AllByRecursion (λ t. node_params (out-Term t) ≤ n) ts
most-over [] n h = tt
most-over (t ∷ ts) n h = (omega arith, most-over ts n (omega arith))

-- a term of a closed list is over as many parameters as the most of the list
module _ (m n : ℕ) (all : List Term) (closed : IsClosedOver [] all) (known : AllByRecursion (IsTerm m) all) (most : most_params all ≤ n) where
  both : (ops : List Term) → AllByRecursion (λ u. has_term all u ≡ true → IsTerm n u) ops → AllByRecursion (λ u. has_term all u ≡ true) ops → AllByRecursion (IsTerm n) ops
  both [] h k = tt
  both (o ∷ ops) h k = (h.0 k.0, both ops h.1 k.1)

  of-node : (t : Term) → IsTerm m t → node_params (out-Term t) ≤ n → AllByRecursion (IsTerm n) (operands_of t) → IsTerm n t
  of-node t h = by (out-Term t) (sym (roll-out-Term t))
    where
      by : (y : Term-F Term) → t ≡ roll-Term y → node_params y ≤ n → AllByRecursion (IsTerm n) (node_operands y) → IsTerm n t
      by (Term-F.Param k) e le ops = ap (fold-Term Bool (node_is_term n)) e ∙ fold-roll-Term Bool (node_is_term n) (Term-F.Param k) ∙ lt-ltb k n (omega arith)
      by (Term-F.Num z) e le ops = ap (fold-Term Bool (node_is_term n)) e ∙ fold-roll-Term Bool (node_is_term n) (Term-F.Num z) ∙ word-tested z (test-Num m z (subst (IsTerm m) (e ∙ rolls-Num z) h))
      by (Term-F.Op o a b) e le ops = ap (fold-Term Bool (node_is_term n)) e ∙ fold-roll-Term Bool (node_is_term n) (Term-F.Op o a b) ∙ (λ i. ops.0 i && ops.1.0 i)
      by (Term-F.Pick c a b) e le ops = ap (fold-Term Bool (node_is_term n)) e ∙ fold-roll-Term Bool (node_is_term n) (Term-F.Pick c a b) ∙ (λ i. ops.0 i && (ops.1.0 i && ops.1.1.0 i))

  over-term : (t : Term) → has_term all t ≡ true → IsTerm n t
  over-term = by-operands (λ t. has_term all t ≡ true → IsTerm n t) (λ t h there. of-node t (known-at (IsTerm m) all known t there) (known-at (λ u. node_params (out-Term u) ≤ n) all (most-over all n most) t there) (both (operands_of t) h (closed-has [] all closed t there)))

  over-all : (ts : List Term) → AllByRecursion (λ u. has_term all u ≡ true) ts → AllByRecursion (IsTerm n) ts
  over-all [] h = tt
  over-all (t ∷ ts) h = (over-term t h.0, over-all ts h.1)

pub params-over : (m : ℕ) (terms : List Term) → AllByRecursion (IsTerm m) terms → AllByRecursion (IsTerm (param_count terms)) terms
params-over m terms known =
    let g = add-grown [] terms in
    over-all m (param_count terms) (subterms terms) (subst (IsClosedOver []) (sym g.grown) g.closed) (terms-kept (IsTerm m) (term-down m) terms [] known tt) (omega arith) terms g.there

pub params-least : (m : ℕ) (terms : List Term) → AllByRecursion (IsTerm m) terms → param_count terms ≤ m
params-least m terms known = few-all m (subterms terms) (terms-kept (IsTerm m) (term-down m) terms [] known tt)

-- ---- all literals

blank-circuit : (n : ℕ) → n ≤ 2000000 → IsCircuit (blank n)
blank-circuit n h = record {
  formula = (h, tt);
  gates = λ g o e. cc;
  known = λ k b low e v m. cc;
  size = omega arith;
  ended = λ e. cc;
}

pub starts : (n : ℕ) → n ≤ 8 → Encodes n [] (start n)
starts n h = record {
  circuit = blank-circuit (32 * n) (omega arith);
  inputs = omega arith;
  variables_cost = omega arith;
  clauses_cost = omega arith;
  terms = λ _. refl;
  words = tt;
  meets = λ v m. refl;
  reaches = λ v m. (v, agrees-refl (32 * n) v, refl);
}

pub encodes-all : (n : ℕ) (ts ds : List Term) (e : Encoding) → Encodes n ds e → n ≤ 8 → cost (ds ++ ts) ≤ 1500000 → AllByRecursion (λ t. IsPlain n (out-Term t)) (subterms (ds ++ ts)) → Encodes n (ds ++ ts) (fold with_literal e ts)
encodes-all n [] ds e h few cheap plain = subst (λ (us : List Term). Encodes n us e) (sym (append-nil ds)) h
encodes-all n (t ∷ ts) ds e h few cheap plain =
    let same : (ds ++ t ∷ []) ++ ts ≡ ds ++ (t ∷ ts) = append_assoc ds (t ∷ []) ts in
    let cheap-all : cost ((ds ++ t ∷ []) ++ ts) ≤ 1500000 = subst (λ (us : List Term). cost us ≤ 1500000) (sym same) cheap in
    let plain-all-of = subst (λ (us : List Term). AllByRecursion (λ (u : Term). IsPlain n (out-Term u)) (subterms us)) (sym same) plain in
    let g = add-grown (subterms (ds ++ t ∷ [])) ts in
    let prefix = all-first (λ u. IsPlain n (out-Term u)) (subterms (ds ++ t ∷ [])) g.more (subst (AllByRecursion (λ (u : Term). IsPlain n (out-Term u))) (subterms-append (ds ++ t ∷ []) ts ∙ g.grown) plain-all-of) in
    let cheap-here : cost (ds ++ t ∷ []) ≤ 1500000 = omega (arith, cost-more (ds ++ t ∷ []) ts) in
    subst (λ (us : List Term). Encodes n us (fold with_literal (with_literal e t) ts)) same
    (encodes-all n ts (ds ++ t ∷ []) (with_literal e t) (step-encodes n ds t e h few cheap-here prefix) few cheap-all plain-all-of)

pub encodes-formula : (terms : List Term) → AllByRecursion (IsTerm 8) terms → cost terms ≤ 1500000 → Encodes (param_count terms) terms (encoding terms)
unfolding encoding
encodes-formula terms known cheap =
    encodes-all (param_count terms) terms [] (start (param_count terms)) (starts (param_count terms) (few-params terms known)) (few-params terms known) cheap (plain-subterms terms known)

-- ---- values of an input's bits

pub from-range : {X : Type 0} (d : X) (xs : List X) (a : ℕ) (f : ℕ → X) → ((i : ℕ) → i < length xs → f (a + i) ≡ get_or xs i d) → map f (range_with_len a (length xs)) ≡ xs
from-range d [] a f h = refl
from-range d (x ∷ xs) a f h =
    let first : f a ≡ x = ap f (sym (add-zero a)) ∙ h 0 (omega arith) in
    let rest = from-range d xs (a + 1) f (λ i less. let same : (a + 1) + i ≡ a + suc i = omega arith in ap f same ∙ h (suc i) (omega arith)) in
    λ i. first i ∷ rest i

-- the value of variable k: the bit of the word that it stands in
pub value_from : List ℤ → ℕ → Bool
value_from x k = get_or (bits_of (get_or x ((k - 1) / 32) (pos 0))) ((k - 1) % 32) false

word-of-values : (x : List ℤ) (j : ℕ) → IsWord (get_or x j (pos 0)) → word (map (value_from x) (variables j)) ≡ get_or x j (pos 0)
unfolding value_from
word-of-values x j h =
    let z = get_or x j (pos 0) in
    let bits = bits_of z in
    let long : length bits ≡ 32 = length-digits 32 (cast_unsigned w32 z) in
    let at : (i : ℕ) → i < length bits → value_from x (32 * j + 1 + i) ≡ get_or bits i false = λ i less.
    let place : (32 * j + 1 + i - 1) / 32 ≡ j = omega arith in
    let bit : (32 * j + 1 + i - 1) % 32 ≡ i = omega arith in
    (λ k. get_or (bits_of (get_or x (place k) (pos 0))) (bit k) false) in
    let same = from-range false bits (32 * j + 1) (value_from x) at in
    ap word (ap (λ (m : ℕ). map (value_from x) (range_with_len (32 * j + 1) m)) (sym long) ∙ same) ∙ word-bits_of z h

pub input-from : (n : ℕ) (x : List ℤ) → IsInput n x → input_at n (value_from x) ≡ x
input-from n x h =
    ap (λ (m : ℕ). map (λ k. word (map (value_from x) (variables k))) (range_with_len 0 m)) (sym h.long)
    ∙ from-range (pos 0) x 0 (λ k. word (map (value_from x) (variables k))) (λ i less. let zero-more : 0 + i ≡ i = omega arith in ap (λ (k : ℕ). word (map (value_from x) (variables k))) zero-more ∙ word-of-values x i (h.words i (pos 0) less))

-- ---- the formula

pub formula-stands : (terms : List Term) → AllByRecursion (IsTerm 8) terms → cost terms ≤ 1500000 → StandsFor (param_count terms) (formula terms) terms
formula-stands terms known cheap x input =
    let n = param_count terms in
    let e = encodes-formula terms known cheap in (
      λ met.
          let w = e.reaches (value_from x) (ap (holds terms) (input-from n x input) ∙ met) in
          (w.0, w.2, sym (input-agrees n (value_from x) w.0 w.1) ∙ input-from n x input),
      λ model. ap (holds terms) (sym model.2) ∙ e.meets model.0 model.1,
    )

pub formula-within : (terms : List Term) → AllByRecursion (IsTerm 8) terms → cost terms ≤ 1500000 → IsWithinCost (param_count terms) (formula terms) terms
formula-within terms known cheap = let e = encodes-formula terms known cheap in record { clauses = e.clauses_cost; variables = e.variables_cost }
