-- The nodes of one table by their numbers in another.
use Rattle.std.specs.Prelude.{◌≡◌, ℕ, ◌<◌, true, List, length, Option, Some, None, unwrap_or, slice_get}
use Rattle.prv_model.specs.declared.term.Term.{Term}
use Rattle.prv_pool.specs.Tables.{has_term, add_term, term_at}
use Rattle.prv_pool.specs.Nodes.{node_term, AreBelow}
use Rattle.prv_pool.specs.declared.node.Node.{Node}
use Rattle.prv_pool.specs.declared.node.Node.TheVariants as node
use Rattle.prv_region.specs.declared.numbers.Renumbering.{Renumbering}
use Rattle.prv_region.specs.declared.numbers.Renumbering.TheVariants.{Ready, Lacks}

-- the number that a node has, if it has one
abbrev pub number_at : List (Option ℕ) → ℕ → Option ℕ
number_at numbers n = unwrap_or (slice_get numbers n) None

-- the numbers that nodes of one list have are those of their terms in another
pub record Stands (from into : List Term) (numbers : List (Option ℕ)) : Type 0 where
  pub at : (k m : ℕ) → number_at numbers k ≡ Some m → slice_get into m ≡ Some (term_at from k)

-- what is done with a number that a node has; a node that has none is what is lacking
abbrev pub with_number : Option ℕ → ℕ → (ℕ → Renumbering) → Renumbering
with_number (Some m) n next = next m
with_number None n next = Lacks n

-- a node with the new numbers of its operands, or the first operand that has none
abbrev pub renumbered : List (Option ℕ) → Node → Renumbering
renumbered numbers (node.Param k) = Ready (node.Param k)
renumbered numbers (node.Num n) = Ready (node.Num n)
renumbered numbers (node.Op op a b) = with_number (number_at numbers a) a (λ x. with_number (number_at numbers b) b (λ y. Ready (node.Op op x y)))
renumbered numbers (node.Pick t a b) =
    with_number (number_at numbers t) t (λ u. with_number (number_at numbers a) a (λ x. with_number (number_at numbers b) b (λ y. Ready (node.Pick u x y))))

-- a term of one list in another: its node there, or an operand before it that the other needs first
abbrev pub Renumbers : List Term → List Term → List (Option ℕ) → ℕ → Renumbering → Type 0
Renumbers from into numbers n (Ready m) = AreBelow (length into) m × (node_term into m ≡ term_at from n)
Renumbers from into numbers n (Lacks a) =
    (a < n) × (number_at numbers a ≡ None) × (has_term into (term_at from n) ≡ true → has_term into (term_at from a) ≡ true)
    × (add_term (term_at from n) (add_term (term_at from a) into) ≡ add_term (term_at from n) into)
