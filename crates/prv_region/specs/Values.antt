-- The value of a node over the values of the nodes before it.
use Rattle.std.specs.Prelude.{ℕ, List, ℤ, pos, if◌then◌else◌, unwrap_or, slice_get}
use Rattle.prv_model.specs.Words.{is_zero}
use Rattle.prv_model.specs.Terms.{total}
use Rattle.prv_pool.specs.declared.node.Node.{Node}
use Rattle.prv_pool.specs.declared.node.Node.TheVariants as node

-- the value at a number, and 0 past the end
abbrev pub value_at : List ℤ → ℕ → ℤ
value_at values n = unwrap_or (slice_get values n) (pos 0)

-- the value of a node on an input, with the values of its operands by their numbers
abbrev pub node_value : List ℤ → List ℤ → Node → ℤ
node_value values x (node.Param k) = value_at x k
node_value values x (node.Num n) = n
node_value values x (node.Op op a b) = total op (value_at values a) (value_at values b)
node_value values x (node.Pick test chosen other) = if is_zero (value_at values test) then value_at values other else value_at values chosen
