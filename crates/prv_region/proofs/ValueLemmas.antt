-- The values of a table's nodes, one after the other.
use Rattle.std.proofs.Common.{◌≡◌, ◌≢◌, ℤ, pos, ℕ, zero, suc, ◌+◌, ◌<◌, ◌≤◌, nat_lt, Bool, true, false, cond, ◌&&◌, not, Option, Some, None, is_some, List, [], ◌∷◌, length, take, map, All, set, refl, sym, ap, ◌∙◌, subst, arith, slice_get, if◌then◌else◌, below_more}
use Rattle.std.specs.List.{position, position_or_len}
use Rattle.std.specs.Option.{MatchOption}
use Rattle.std.proofs.lemmas.Bool.{ltb-true, ltb-false}
use Rattle.std.proofs.lemmas.List.{get_or-set_same, get_or-set_other, length-map}
use Rattle.std.proofs.lemmas.Option.{unwrap_or-slice_get}
use Rattle.prv_model.specs.Words.{is_zero}
use Rattle.prv_model.specs.Terms.{term_value, total, holds}
use Rattle.prv_model.proofs.TermLemmas.{term_value-Param, term_value-Num, term_value-Op, term_value-Pick}
use Rattle.prv_model.specs.declared.term.Term.{Term}
use Rattle.prv_pool.specs.Tables.{term_at}
use Rattle.prv_pool.specs.Nodes.{node_term, AreBelow}
use Rattle.prv_region.specs.Values.{value_at, node_value}
use Rattle.prv_region.specs.Zeros.{IsFirstZero}
use Rattle.prv_pool.specs.declared.node.Node.{Node}
use Rattle.prv_pool.specs.declared.node.Node.TheVariants as node
use Rattle.prv_pool.proofs.NodeLemmas.{term_at-some}

value_at-set_same : (vs : List ℤ) (i : ℕ) (v : ℤ) → i < length vs → value_at (set vs i v) i ≡ v
value_at-set_same vs i v h = unwrap_or-slice_get (set vs i v) i (pos 0) ∙ get_or-set_same vs i v (pos 0) h

value_at-set_other : (vs : List ℤ) (i k : ℕ) (v : ℤ) → k ≢ i → value_at (set vs i v) k ≡ value_at vs k
value_at-set_other vs i k v h = unwrap_or-slice_get (set vs i v) k (pos 0) ∙ get_or-set_other vs i k v (pos 0) h ∙ sym (unwrap_or-slice_get vs k (pos 0))

value-of-node : (ts : List Term) (vs x : List ℤ) (n : ℕ) (k : Node) → AreBelow n k → ((i : ℕ) → i < n → value_at vs i ≡ term_value (term_at ts i) x) → node_value vs x k ≡ term_value (node_term ts k) x
value-of-node ts vs x n (node.Param k) low each = sym (term_value-Param k x)
value-of-node ts vs x n (node.Num k) low each = sym (term_value-Num k x)
value-of-node ts vs x n (node.Op op a b) low each = (λ i. total op (each a low.0 i) (each b low.1 i)) ∙ sym (term_value-Op op _ _ x)
value-of-node ts vs x n (node.Pick c a b) low each = (λ i. if is_zero (each c low.0 i) then each b low.2 i else each a low.1 i) ∙ sym (term_value-Pick _ _ _ x)

-- one node more
pub values-more : (ts : List Term) (vs x : List ℤ) (n : ℕ) (k : Node) (v : ℤ) → n < length vs → slice_get ts n ≡ Some (node_term ts k) → AreBelow n k → v ≡ node_value vs x k
    → ((i : ℕ) → i < n → value_at vs i ≡ term_value (term_at ts i) x) → (i : ℕ) → i < n + 1 → value_at (set vs n v) i ≡ term_value (term_at ts i) x
values-more ts vs x n k v within at low is each =
    below_more (λ i. value_at (set vs n v) i ≡ term_value (term_at ts i) x) n
    (λ i h. let other : i ≢ n = omega arith in value_at-set_other vs n i v other ∙ each i h)
    (value_at-set_same vs n v within ∙ is ∙ value-of-node ts vs x n k low each ∙ ap (λ (t : Term). term_value t x) (sym (term_at-some ts n _ at)))

-- ---- the first node whose value is 0

-- the first k of some terms are nonzero on an input; the next one, if there is one, is 0
record IsFront (ts : List Term) (x : List ℤ) (k : ℕ) : Type 0 where
  before : holds (take k ts) x ≡ true
  zero : k < length ts → is_zero (term_value (term_at ts k) x) ≡ true
  all : length ts ≤ k → holds ts x ≡ true

front-none : (x : List ℤ) → IsFront [] x 0
front-none x = record { before = refl; zero = λ h. absurd (omega arith); all = λ h. refl }

front-zero : (t : Term) (ts : List Term) (x : List ℤ) → is_zero (term_value t x) ≡ true → IsFront (t ∷ ts) x 0
front-zero t ts x e = record { before = refl; zero = λ h. e; all = λ h. absurd (omega arith) }

front-more : (t : Term) (ts : List Term) (x : List ℤ) (k : ℕ) → is_zero (term_value t x) ≡ false → IsFront ts x k → IsFront (t ∷ ts) x (suc k)
front-more t ts x k e f = record {
  before = λ i. not (e i) && f.before i;
  zero = λ h. f.zero (omega arith);
  all = λ h i. not (e i) && f.all (omega arith) i;
}

-- a node more in front
front-node : (ts : List Term) (vs x : List ℤ) (r : ℕ) (roots : List ℕ) (k : ℕ) → value_at vs r ≡ term_value (term_at ts r) x → IsFront (map (term_at ts) roots) x k
    → IsFront (map (term_at ts) (r ∷ roots)) x (cond (not (is_zero (value_at vs r))) (1 + k) 0)
front-node ts vs x r roots k at f = by (is_zero (value_at vs r)) (ap is_zero (sym at))
  where
    one : suc k ≡ 1 + k
    one = omega arith

    by : (b : Bool) → is_zero (term_value (term_at ts r) x) ≡ b → IsFront (map (term_at ts) (r ∷ roots)) x (cond (not b) (1 + k) 0)
    by true e = front-zero (term_at ts r) (map (term_at ts) roots) x e
    by false e = subst (IsFront (map (term_at ts) (r ∷ roots)) x) one (front-more (term_at ts r) (map (term_at ts) roots) x k e f)

front-of : (ts : List Term) (vs x : List ℤ) (n : ℕ) (roots : List ℕ) → ((i : ℕ) → i < n → value_at vs i ≡ term_value (term_at ts i) x) → All (λ i. i < n) roots
    → IsFront (map (term_at ts) roots) x (position_or_len (λ i. is_zero (value_at vs i)) roots)
front-of ts vs x n [] each within = front-none x
front-of ts vs x n (r ∷ roots) each within =
    front-node ts vs x r roots _ (each r (within 0 0 (omega arith))) (front-of ts vs x n roots each (λ i d h. within (suc i) d (omega arith)))

front-at : (ts : List Term) (x : List ℤ) (k n : ℕ) → n ≡ length ts → IsFront ts x k → MatchOption (cond (nat_lt k n) (Some k) None) (holds ts x ≡ true) (IsFirstZero ts x)
front-at ts x k n e f = by (nat_lt k n) refl
  where
    by : (b : Bool) → nat_lt k n ≡ b → MatchOption (cond b (Some k) None) (holds ts x ≡ true) (IsFirstZero ts x)
    by true less =
        let h : k < length ts = omega (arith, ltb-true k n less) in
        record { within = h; before = f.before; zero = f.zero h }
    by false less = f.all (omega (arith, ltb-false k n less))

-- the place of the first node whose value is 0, of the lists that a call reads
pub zero-found : (ts : List Term) (vs ws x y : List ℤ) (n : ℕ) (roots : List ℕ) (o : Option ℕ) → ws ≡ vs → y ≡ x → ((i : ℕ) → i < n → value_at vs i ≡ term_value (term_at ts i) y) → All (λ i. i < n) roots
    → o ≡ position (λ i. is_zero (value_at ws i)) roots → MatchOption o (holds (map (term_at ts) roots) x ≡ true) (IsFirstZero (map (term_at ts) roots) x)
zero-found ts vs ws x y n roots o ev ey each within e =
    let Q : List ℤ → Option ℕ → Type 0 = λ z p. MatchOption p (holds (map (term_at ts) roots) z ≡ true) (IsFirstZero (map (term_at ts) roots) z) in
    let is : o ≡ position (λ i. is_zero (value_at vs i)) roots = e ∙ ap (λ (us : List ℤ). position (λ i. is_zero (value_at us i)) roots) ev in
    subst (λ (z : List ℤ). Q z o) ey (subst (Q y) (sym is) (front-at (map (term_at ts) roots) y _ (length roots) (sym (length-map roots (term_at ts))) (front-of ts vs y n roots each within)))

-- a region with a term that is 0 does not hold the input
zero-fails : (ts : List Term) (x : List ℤ) (k : ℕ) → k < length ts → is_zero (term_value (term_at ts k) x) ≡ true → holds ts x ≡ false
zero-fails [] x k h e = absurd (omega arith)
zero-fails (t ∷ ts) x zero h e = λ i. not (e i) && holds ts x
zero-fails (t ∷ ts) x (suc k) h e = (λ i. not (is_zero (term_value t x)) && zero-fails ts x k (omega arith) e i) ∙ and-false (not (is_zero (term_value t x)))
  where
    and-false : (b : Bool) → (b && false) ≡ false
    and-false true = refl
    and-false false = refl

-- a region holds an input where none of its terms is 0
pub none-holds : (ts : List Term) (x : List ℤ) (o : Option ℕ) (b : Bool) → is_some o ≡ not b → MatchOption o (holds ts x ≡ true) (IsFirstZero ts x) → b ≡ holds ts x
none-holds ts x None true e h = sym h
none-holds ts x None false e h = cc
none-holds ts x (Some k) true e h = cc
none-holds ts x (Some k) false e h = sym (zero-fails ts x k h.within h.zero)
