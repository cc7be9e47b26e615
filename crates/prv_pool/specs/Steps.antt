-- One step of the comparison of two nodes' terms.
use Rattle.std.specs.Prelude.{◌≡◌, ℕ, ◌<◌, ◌==◌, List, if◌then◌else◌}
use Rattle.std.specs.Ordering.{nat_cmp, int_cmp}
use Rattle.prv_model.specs.TermOrder.{term_cmp, op_rank}
use Rattle.prv_model.specs.declared.term.Term.{Term}
use Rattle.prv_pool.specs.Tables.{term_at}
use Rattle.prv_pool.specs.Nodes.{node_rank}
use Rattle.prv_pool.specs.declared.compare.Step.{Step}
use Rattle.prv_pool.specs.declared.compare.Step.TheVariants.{Done, Operands}
use Rattle.prv_pool.specs.declared.node.Node.{Node}
use Rattle.prv_pool.specs.declared.node.Node.TheVariants as node

-- what decides between two nodes that differ: their constructors or numbers, or the first operands that differ
abbrev pub step_between : Node → Node → Step
step_between (node.Param j) (node.Param k) = Done (nat_cmp j k)
step_between (node.Num m) (node.Num n) = Done (int_cmp m n)
step_between (node.Op o x y) (node.Op p z w) =
    if op_rank o == op_rank p then if x == z then Operands y w else Operands x z else Done (nat_cmp (op_rank o) (op_rank p))
step_between (node.Pick t x y) (node.Pick u z w) = if t == u then if x == z then Operands y w else Operands x z else Operands t u
step_between m n = Done (nat_cmp (node_rank m) (node_rank n))

-- a step decides the order of the terms at a and b: it is the order, or two of their operands have it
abbrev pub Decides : List Term → ℕ → ℕ → Step → Type 0
Decides terms a b (Done order) = order ≡ term_cmp (term_at terms a) (term_at terms b)
Decides terms a b (Operands x y) = (x < a) × (y < b) × (term_cmp (term_at terms x) (term_at terms y) ≡ term_cmp (term_at terms a) (term_at terms b))
