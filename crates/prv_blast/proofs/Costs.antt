-- What the terms of an order cost, node by node.
use Rattle.std.proofs.Common.{◌≡◌, ℕ, zero, suc, ◌+◌, ◌≤◌, max, List, [], ◌∷◌, ◌++◌, take, Some, slice_get, ap, ◌∙◌, subst, arith}
use Rattle.std.specs.List.{AllByRecursion}
use Rattle.prv_model.specs.declared.term.Term.{Term, out-Term}
use Rattle.prv_pool.specs.Tables.{term_at}
use Rattle.prv_pool.specs.Nodes.{node_term}
use Rattle.prv_pool.specs.declared.node.Node.{Node}
use Rattle.prv_pool.specs.declared.node.Node.TheVariants as node
use Rattle.prv_pool.proofs.NodeLemmas.{term_at-some}
use Rattle.prv_pool.proofs.Shapes.{out-Param, out-Op, out-Pick, out-Num}
use Rattle.prv_blast.specs.Subterms.{node_cost, node_params, costs, most_params}
use Rattle.prv_blast.specs.Orders.{terms_at}
use Rattle.prv_blast.specs.Encoders.{run_cost, run_params}
use Rattle.prv_blast.proofs.Meaning.{costs-append}

-- one more term of an order
pub take-terms : (table : List Term) (ns : List ℕ) (i n : ℕ) → slice_get ns i ≡ Some n → take (i + 1) (terms_at table ns) ≡ take i (terms_at table ns) ++ term_at table n ∷ []
take-terms table [] i n e = cc
take-terms table (m ∷ ns) zero n e = let same : m ≡ n = cc in ap (λ (k : ℕ). term_at table k ∷ []) same
take-terms table (m ∷ ns) (suc i) n e =
    let one : suc i + 1 ≡ suc (i + 1) = omega arith in
    ap (λ (k : ℕ). take k (terms_at table (m ∷ ns))) one ∙ ap (λ (ts : List Term). term_at table m ∷ ts) (take-terms table ns i n e)

pub cost-of-node : (table : List Term) (nd : Node) → node_cost (out-Term (node_term table nd)) ≡ run_cost nd
cost-of-node table (node.Param k) = ap node_cost (out-Param k)
cost-of-node table (node.Num n) = ap node_cost (out-Num n)
cost-of-node table (node.Op op a b) = ap node_cost (out-Op op (term_at table a) (term_at table b))
cost-of-node table (node.Pick c a b) = ap node_cost (out-Pick (term_at table c) (term_at table a) (term_at table b))

pub params-of-node : (table : List Term) (nd : Node) → node_params (out-Term (node_term table nd)) ≡ run_params nd
params-of-node table (node.Param k) = ap node_params (out-Param k)
params-of-node table (node.Num n) = ap node_params (out-Num n)
params-of-node table (node.Op op a b) = ap node_params (out-Op op (term_at table a) (term_at table b))
params-of-node table (node.Pick c a b) = ap node_params (out-Pick (term_at table c) (term_at table a) (term_at table b))

-- what is true of each term of an order, at a place
all-at : (Q : Term → Type 0) (table : List Term) (ns : List ℕ) (i n : ℕ) → AllByRecursion Q (terms_at table ns) → slice_get ns i ≡ Some n → Q (term_at table n)
all-at Q table [] i n h e = cc
all-at Q table (m ∷ ns) zero n h e = let same : m ≡ n = cc in subst (λ (k : ℕ). Q (term_at table k)) same h.0
all-at Q table (m ∷ ns) (suc i) n h e = all-at Q table ns i n h.1 e

pub most-append : (ts us : List Term) → most_params (ts ++ us) ≡ max (most_params ts) (most_params us)
most-append [] us = omega arith
most-append (t ∷ ts) us = let rest = most-append ts us in omega arith

module _ (table : List Term) (ns : List ℕ) (i n : ℕ) (nd : Node) (at : slice_get ns i ≡ Some n) (is : slice_get table n ≡ Some (node_term table nd)) where
  shape : out-Term (term_at table n) ≡ out-Term (node_term table nd)
  shape = ap out-Term (term_at-some table n (node_term table nd) is)

  pub cost-more-node : (sum cost : ℕ) → sum ≡ costs (take i (terms_at table ns)) → cost ≡ run_cost nd → sum + cost ≡ costs (take (i + 1) (terms_at table ns))
  cost-more-node sum cost e f =
      let more = ap costs (take-terms table ns i n at) ∙ costs-append (take i (terms_at table ns)) (term_at table n ∷ []) in
      let same : node_cost (out-Term (term_at table n)) ≡ run_cost nd = ap node_cost shape ∙ cost-of-node table nd in
      omega arith

  pub few-params-node : AllByRecursion (λ t. node_params (out-Term t) ≤ 8) (terms_at table ns) → run_params nd ≤ 8
  few-params-node few =
      let same : node_params (out-Term (term_at table n)) ≡ run_params nd = ap node_params shape ∙ params-of-node table nd in
      let le = all-at (λ t. node_params (out-Term t) ≤ 8) table ns i n few at in
      omega (arith, le)

  pub params-more-node : (count params : ℕ) → count ≡ most_params (take i (terms_at table ns)) → params ≡ run_params nd → max count params ≡ most_params (take (i + 1) (terms_at table ns))
  params-more-node count params e f =
      let more = ap most_params (take-terms table ns i n at) ∙ most-append (take i (terms_at table ns)) (term_at table n ∷ []) in
      let same : node_params (out-Term (term_at table n)) ≡ run_params nd = ap node_params shape ∙ params-of-node table nd in
      omega arith
