-- What nodes show of their terms.
use Rattle.std.proofs.Common.{◌≡◌, ◌≢◌, ℕ, ◌<◌, ◌≤◌, ◌==◌, Bool, true, false, List, length, Some, slice_get, refl, sym, ap, ◌∙◌, arith, if◌then◌else◌}
use Rattle.std.proofs.lemmas.Bool.{eqb-true, eqb-false}
use Rattle.std.specs.declared.cmp.Ordering.{Ordering}
use Rattle.std.specs.declared.cmp.Ordering.TheVariants.{Less, Equal, Greater}
use Rattle.std.specs.Ordering.{ordering_then, nat_cmp}
use Rattle.prv_model.specs.TermOrder.{term_cmp, same_term, op_rank}
use Rattle.prv_model.proofs.OrderLemmas.{term_cmp-equal, term_cmp-out, then-Equal, nat_cmp-Equal, nat_cmp-same}
use Rattle.prv_model.specs.declared.term.Term.{Term}
use Rattle.prv_pool.specs.Folding as Folding
use Rattle.prv_pool.specs.Folding.{as_number, is_comparison}
use Rattle.prv_pool.specs.Tables.{term_at}
use Rattle.prv_pool.specs.Nodes.{node_term, AreBelow, node_number, node_compares}
use Rattle.prv_pool.specs.Steps.{step_between, Decides}
use Rattle.prv_pool.specs.declared.compare.Step.{Step}
use Rattle.prv_pool.specs.declared.compare.Step.TheVariants.{Done, Operands}
use Rattle.prv_pool.specs.declared.node.Node.{Node}
use Rattle.prv_pool.specs.declared.node.Node.TheVariants as node
use Rattle.prv_pool.proofs.Shapes.{out-Param, out-Op, out-Pick, out-Num}
use Rattle.prv_pool.proofs.NodeLemmas.{term_at-some, TellsApart}
use Rattle.prv_pool.proofs.TableLemmas.{same-itself, same-not}

pub number-of-node : (ts : List Term) (k : Node) → as_number (node_term ts k) ≡ node_number k
number-of-node ts (node.Param k) = ap Folding.node_number (out-Param k)
number-of-node ts (node.Num k) = ap Folding.node_number (out-Num k)
number-of-node ts (node.Op o a b) = ap Folding.node_number (out-Op o _ _)
number-of-node ts (node.Pick c a b) = ap Folding.node_number (out-Pick _ _ _)

pub comparison-of-node : (ts : List Term) (k : Node) → is_comparison (node_term ts k) ≡ node_compares k
comparison-of-node ts (node.Param k) = ap Folding.node_compares (out-Param k)
comparison-of-node ts (node.Num k) = ap Folding.node_compares (out-Num k)
comparison-of-node ts (node.Op o a b) = ap Folding.node_compares (out-Op o _ _)
comparison-of-node ts (node.Pick c a b) = ap Folding.node_compares (out-Pick _ _ _)

pub number-at : (ts : List Term) (n : ℕ) (k : Node) → slice_get ts n ≡ Some (node_term ts k) → as_number (term_at ts n) ≡ node_number k
number-at ts n k e = ap as_number (term_at-some ts n _ e) ∙ number-of-node ts k

pub comparison-at : (ts : List Term) (n : ℕ) (k : Node) → slice_get ts n ≡ Some (node_term ts k) → is_comparison (term_at ts n) ≡ node_compares k
comparison-at ts n k e = ap is_comparison (term_at-some ts n _ e) ∙ comparison-of-node ts k

-- numbers of one term are one
pub same-numbers : (ts : List Term) (a b : ℕ) → TellsApart ts (length ts) → a < length ts → b < length ts → (a == b) ≡ same_term (term_at ts a) (term_at ts b)
same-numbers ts a b apart h g = by (a == b) refl
  where
    by : (s : Bool) → (a == b) ≡ s → s ≡ same_term (term_at ts a) (term_at ts b)
    by true e = sym (ap (λ i. same_term (term_at ts a) (term_at ts i)) (sym (eqb-true a b e)) ∙ same-itself (term_at ts a))
    by false e = sym (same-not _ _ (λ f. eqb-false a b e (apart a b h g f)))

-- ---- one step of the comparison of two nodes

differ-first : (p q : Ordering) → p ≢ Equal → ordering_then p q ≡ p
differ-first Less q h = refl
differ-first Equal q h = absurd (h refl)
differ-first Greater q h = refl

equal-first : (p q : Ordering) → p ≡ Equal → ordering_then p q ≡ q
equal-first Less q h = cc
equal-first Equal q h = refl
equal-first Greater q h = cc

-- what a step decides, with the order named
abbrev DecidesAs : List Term → ℕ → ℕ → Ordering → Step → Type 0
DecidesAs ts a b o (Done order) = order ≡ o
DecidesAs ts a b o (Operands x y) = (x < a) × (y < b) × (term_cmp (term_at ts x) (term_at ts y) ≡ o)

-- the term_cmp of two terms is not Equal where their numbers differ
apart-cmp : (ts : List Term) (x z : ℕ) → TellsApart ts (length ts) → x < length ts → z < length ts → (x == z) ≡ false → term_cmp (term_at ts x) (term_at ts z) ≢ Equal
apart-cmp ts x z apart h g e f = eqb-false x z e (apart x z h g ((term_cmp-equal _ _).0 f))

same-cmp : (ts : List Term) (x z : ℕ) → (x == z) ≡ true → term_cmp (term_at ts x) (term_at ts z) ≡ Equal
same-cmp ts x z e = (term_cmp-equal _ _).1 (ap (term_at ts) (eqb-true x z e))

-- the first of two pairs of operands that differ decides
pairs : (ts : List Term) (x y z w a b : ℕ) → TellsApart ts (length ts) → a ≤ length ts → b ≤ length ts → x < a → y < a → z < b → w < b → (o : Ordering)
    → o ≡ ordering_then (term_cmp (term_at ts x) (term_at ts z)) (term_cmp (term_at ts y) (term_at ts w)) → (s : Bool) → (x == z) ≡ s
    → DecidesAs ts a b o (if s then Operands y w else Operands x z)
pairs ts x y z w a b apart la lb hx hy hz hw o e true d = (hy, hw, sym (e ∙ equal-first _ _ (same-cmp ts x z d)))
pairs ts x y z w a b apart la lb hx hy hz hw o e false d = (hx, hz, sym (e ∙ differ-first _ _ (apart-cmp ts x z apart (omega arith) (omega arith) d)))

step-decides : (ts : List Term) (a b : ℕ) → TellsApart ts (length ts) → a ≤ length ts → b ≤ length ts → (m n : Node) → AreBelow a m → AreBelow b n → DecidesAs ts a b (term_cmp (node_term ts m) (node_term ts n)) (step_between m n)
step-decides ts a b apart la lb (node.Param j) (node.Param k) h g = sym (term_cmp-out _ _ _ _ (out-Param j) (out-Param k))
step-decides ts a b apart la lb (node.Param j) (node.Num k) h g = sym (term_cmp-out _ _ _ _ (out-Param j) (out-Num k))
step-decides ts a b apart la lb (node.Param j) (node.Op p z w) h g = sym (then-Equal _) ∙ sym (term_cmp-out _ _ _ _ (out-Param j) (out-Op p _ _))
step-decides ts a b apart la lb (node.Param j) (node.Pick u z w) h g = sym (term_cmp-out _ _ _ _ (out-Param j) (out-Pick _ _ _))
step-decides ts a b apart la lb (node.Num j) (node.Param k) h g = sym (term_cmp-out _ _ _ _ (out-Num j) (out-Param k))
step-decides ts a b apart la lb (node.Num j) (node.Num k) h g = sym (term_cmp-out _ _ _ _ (out-Num j) (out-Num k))
step-decides ts a b apart la lb (node.Num j) (node.Op p z w) h g = sym (then-Equal _) ∙ sym (term_cmp-out _ _ _ _ (out-Num j) (out-Op p _ _))
step-decides ts a b apart la lb (node.Num j) (node.Pick u z w) h g = sym (term_cmp-out _ _ _ _ (out-Num j) (out-Pick _ _ _))
step-decides ts a b apart la lb (node.Op o x y) (node.Param k) h g = sym (then-Equal _) ∙ sym (term_cmp-out _ _ _ _ (out-Op o _ _) (out-Param k))
step-decides ts a b apart la lb (node.Op o x y) (node.Num k) h g = sym (then-Equal _) ∙ sym (term_cmp-out _ _ _ _ (out-Op o _ _) (out-Num k))
step-decides ts a b apart la lb (node.Op o x y) (node.Pick u z w) h g = sym (then-Equal _) ∙ sym (term_cmp-out _ _ _ _ (out-Op o _ _) (out-Pick _ _ _))
step-decides ts a b apart la lb (node.Op o x y) (node.Op p z w) h g = by (op_rank o == op_rank p) refl
  where
    whole : term_cmp (node_term ts (node.Op o x y)) (node_term ts (node.Op p z w))
        ≡ ordering_then (nat_cmp (op_rank o) (op_rank p)) (ordering_then (term_cmp (term_at ts x) (term_at ts z)) (term_cmp (term_at ts y) (term_at ts w)))
    whole = term_cmp-out _ _ _ _ (out-Op o _ _) (out-Op p _ _)

    by : (s : Bool) → (op_rank o == op_rank p) ≡ s
        → DecidesAs ts a b (term_cmp (node_term ts (node.Op o x y)) (node_term ts (node.Op p z w))) (if s then if x == z then Operands y w else Operands x z else Done (nat_cmp (op_rank o) (op_rank p)))
    by true d = pairs ts x y z w a b apart la lb h.0 h.1 g.0 g.1 _ (whole ∙ equal-first _ _ (nat_cmp-same _ _ (eqb-true _ _ d))) (x == z) refl
    by false d = sym (whole ∙ differ-first _ _ (λ f. eqb-false _ _ d (nat_cmp-Equal _ _ f)))
step-decides ts a b apart la lb (node.Pick t x y) (node.Param k) h g = sym (term_cmp-out _ _ _ _ (out-Pick _ _ _) (out-Param k))
step-decides ts a b apart la lb (node.Pick t x y) (node.Num k) h g = sym (term_cmp-out _ _ _ _ (out-Pick _ _ _) (out-Num k))
step-decides ts a b apart la lb (node.Pick t x y) (node.Op p z w) h g = sym (then-Equal _) ∙ sym (term_cmp-out _ _ _ _ (out-Pick _ _ _) (out-Op p _ _))
step-decides ts a b apart la lb (node.Pick t x y) (node.Pick u z w) h g = by (t == u) refl
  where
    whole : term_cmp (node_term ts (node.Pick t x y)) (node_term ts (node.Pick u z w))
        ≡ ordering_then (term_cmp (term_at ts t) (term_at ts u)) (ordering_then (term_cmp (term_at ts x) (term_at ts z)) (term_cmp (term_at ts y) (term_at ts w)))
    whole = term_cmp-out _ _ _ _ (out-Pick _ _ _) (out-Pick _ _ _)

    by : (s : Bool) → (t == u) ≡ s
        → DecidesAs ts a b (term_cmp (node_term ts (node.Pick t x y)) (node_term ts (node.Pick u z w))) (if s then if x == z then Operands y w else Operands x z else Operands t u)
    by true d = pairs ts x y z w a b apart la lb h.1 h.2 g.1 g.2 _ (whole ∙ equal-first _ _ (same-cmp ts t u d)) (x == z) refl
    by false d = (h.0, g.0, sym (whole ∙ differ-first _ _ (apart-cmp ts t u apart (omega arith) (omega arith) d)))

as-decides : (ts : List Term) (a b : ℕ) (o : Ordering) → o ≡ term_cmp (term_at ts a) (term_at ts b) → (s : Step) → DecidesAs ts a b o s → Decides ts a b s
as-decides ts a b o e (Done order) d = d ∙ e
as-decides ts a b o e (Operands x y) d = (d.0, d.1, d.2 ∙ e)

-- one step decides the order of two terms of a table
pub decides-step : (ts : List Term) (a b : ℕ) (m n : Node) → TellsApart ts (length ts) → a < length ts → b < length ts → slice_get ts a ≡ Some (node_term ts m) → slice_get ts b ≡ Some (node_term ts n)
    → AreBelow a m → AreBelow b n → Decides ts a b (step_between m n)
decides-step ts a b m n apart la lb e f h g =
    as-decides ts a b (term_cmp (node_term ts m) (node_term ts n)) (λ i. term_cmp (sym (term_at-some ts a _ e) i) (sym (term_at-some ts b _ f) i)) (step_between m n) (step-decides ts a b apart (omega arith) (omega arith) m n h g)
