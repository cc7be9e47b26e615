-- The distinct subterms of a condition, and what each costs.
use Rattle.std.specs.Prelude.{ℕ, ◌+◌, ◌*◌, max, List, [], ◌∷◌, length}
use Rattle.prv_model.specs.declared.term.Term.{Term, out-Term}
use Rattle.prv_model.specs.declared.term.Term.TheOpen.{Term-F}
use Rattle.prv_pool.specs.Tables.{add_terms}
use Rattle.prv_arith.specs.Costs.{op_cost, pick_cost}

-- the subterms of some terms, each once, in the order in which they are first met, operands before the term
abbrev pub subterms : List Term → List Term
subterms terms = add_terms [] terms

-- the most clauses, and the most variables, of one node
abbrev pub node_cost : {A : Type 0} → Term-F A → ℕ
node_cost (Term-F.Param k) = 0
node_cost (Term-F.Op op a b) = op_cost op
node_cost (Term-F.Pick test chosen other) = pick_cost
node_cost (Term-F.Num n) = 0

-- that of a literal's assertion
abbrev pub literal_cost : ℕ
literal_cost = 40

-- that of some terms together, without their operands
abbrev pub costs : List Term → ℕ
costs [] = 0
costs (t ∷ ts) = node_cost (out-Term t) + costs ts

-- the cost of a condition: of each distinct subterm, and of each literal as it is written
abbrev pub cost : List Term → ℕ
cost terms = costs (subterms terms) + literal_cost * length terms

-- how many parameters a node asks for
abbrev pub node_params : {A : Type 0} → Term-F A → ℕ
node_params (Term-F.Param k) = k + 1
node_params (Term-F.Op op a b) = 0
node_params (Term-F.Pick test chosen other) = 0
node_params (Term-F.Num n) = 0

-- the greatest of some terms
abbrev pub most_params : List Term → ℕ
most_params [] = 0
most_params (t ∷ ts) = max (node_params (out-Term t)) (most_params ts)

-- how many parameters a condition has: the least number that is above each in it
abbrev pub param_count : List Term → ℕ
param_count terms = most_params (subterms terms)
