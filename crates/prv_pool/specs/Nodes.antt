-- Terms as nodes whose operands are numbers, and what a pool keeps of its nodes.
use Rattle.std.specs.Prelude.{◌≡◌, ℕ, ◌<◌, ◌≤◌, ◌^◌, Bool, true, false, ◌&&◌, ◌||◌, pos, unwrap_or, List, [], ◌∷◌, ◌++◌, length, Option, Some, None, ℤ, slice_get}
use Rattle.std.specs.Option.{option_map}
use Rattle.std.specs.Ordering.{int_eq}
use Rattle.prv_model.specs.TermOrder.{op_rank}
use Rattle.prv_model.specs.declared.term.Term.{Term}
use Rattle.prv_model.specs.declared.term.Term.TheVariants.{Param, Op, Pick, Num}
use Rattle.prv_pool.specs.Folding.{is_truth_shaped, is_folded, compares, joins}
use Rattle.prv_pool.specs.Tables.{Table, term_at}
use Rattle.prv_pool.specs.declared.node.Node.{Node}
use Rattle.prv_pool.specs.declared.node.Node.TheVariants as node

-- the term of a node, whose operands are numbers of a table
abbrev pub node_term : List Term → Node → Term
node_term terms (node.Param k) = Param k
node_term terms (node.Num n) = Num n
node_term terms (node.Op op a b) = Op op (term_at terms a) (term_at terms b)
node_term terms (node.Pick test chosen other) = Pick (term_at terms test) (term_at terms chosen) (term_at terms other)

-- the number that a node is, if it is one
abbrev pub node_number : Node → Option ℤ
node_number (node.Num n) = Some n
node_number _ = None

-- a node is a comparison
abbrev pub node_compares : Node → Bool
node_compares (node.Op op a b) = compares op
node_compares _ = false

-- where a node's constructor stands in the order of terms
abbrev pub node_rank : Node → ℕ
node_rank (node.Param k) = 0
node_rank (node.Op op a b) = op_rank op
node_rank (node.Pick test chosen other) = 15
node_rank (node.Num n) = 16

-- the operands of a node are below a number
abbrev pub AreBelow : ℕ → Node → Type 0
AreBelow n (node.Param k) = Unit {0}
AreBelow n (node.Num w) = Unit {0}
AreBelow n (node.Op op a b) = (a < n) × (b < n)
AreBelow n (node.Pick test chosen other) = (test < n) × (chosen < n) × (other < n)

-- the terms of nodes after some that are made, each node over the terms before it; beside a node stands whether it is a truth
abbrev pub terms_from : List Term → List (Node × Bool) → List Term
terms_from made [] = made
terms_from made (n ∷ rest) = terms_from (made ++ node_term made n.0 ∷ []) rest

abbrev pub terms_of : List (Node × Bool) → List Term
terms_of nodes = terms_from [] nodes

-- whether the node at a number is a truth
abbrev pub truth_at : List (Node × Bool) → ℕ → Bool
truth_at nodes i = unwrap_or (option_map (λ n. n.1) (slice_get nodes i)) false

-- whether a node is a truth, by what stands beside its operands
abbrev pub is_truth_of : List (Node × Bool) → Node → Bool
is_truth_of nodes (node.Param k) = false
is_truth_of nodes (node.Num n) = int_eq (pos 0) n || int_eq (pos 1) n
is_truth_of nodes (node.Op op a b) = compares op || (joins op && (truth_at nodes a && truth_at nodes b))
is_truth_of nodes (node.Pick test chosen other) = truth_at nodes chosen && truth_at nodes other

-- the node at a number
abbrev pub node_at : List (Node × Bool) → ℕ → Option Node
node_at nodes i = option_map (λ n. n.0) (slice_get nodes i)

-- no node stands twice
abbrev pub AreDistinct : List (Node × Bool) → Type 0
AreDistinct nodes = (i j : ℕ) (n : Node) → node_at nodes i ≡ Some n → node_at nodes j ≡ Some n → i ≡ j

-- what a pool keeps of its nodes: operands stand before, no node twice, each with whether it is a truth, folded terms, and no more than it may have, which is a number of 32 bits
pub record IsPool (nodes : List (Node × Bool)) (max_nodes : ℕ) : Type 0 where
  pub before : (i : ℕ) (n : Node × Bool) → slice_get nodes i ≡ Some n → AreBelow i n.0
  pub distinct : AreDistinct nodes
  pub truths : (i : ℕ) (n : Node × Bool) → slice_get nodes i ≡ Some n → n.1 ≡ is_truth_shaped (term_at (terms_of nodes) i)
  pub all_folded : (i : ℕ) → i < length nodes → is_folded (term_at (terms_of nodes) i) ≡ true
  pub within : length nodes ≤ max_nodes
  pub small : max_nodes < 2 ^ 32

-- the table that a pool's nodes stand for
abbrev pub table_of : List (Node × Bool) → ℕ → Table
table_of nodes max_nodes = record { terms = terms_of nodes; max_nodes = max_nodes }
