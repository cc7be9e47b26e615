-- What the code keeps of the order of subterms. No public contract names it.
use Rattle.std.specs.Prelude.{◌≡◌, ℕ, ◌+◌, ◌-◌, ◌*◌, ◌<◌, nat_eq, Bool, false, length, List, [], ◌∷◌, map, Option, Some, None, if◌then◌else◌}
use Rattle.std.specs.List.{AllByRecursion, IsDistinct, list_any}
use Rattle.std.specs.Option.{option_or}
use Rattle.prv_model.specs.declared.term.Term.{Term}
use Rattle.prv_pool.specs.Tables.{term_at, add_term}
use Rattle.prv_pool.specs.declared.node.Node.{Node}
use Rattle.prv_pool.specs.declared.node.Node.TheVariants.{Param, Num, Op, Pick}

-- the terms of nodes
abbrev pub terms_at : List Term → List ℕ → List Term
terms_at table nodes = map (term_at table) nodes

-- each node is one of the first n
abbrev pub AreWithin : ℕ → List ℕ → Type 0
AreWithin n nodes = AllByRecursion (λ k. k < n) nodes

-- the operands of a node, from left to right
abbrev pub operands : Node → List ℕ
operands (Param k) = []
operands (Num n) = []
operands (Op op a b) = a ∷ b ∷ []
operands (Pick test chosen other) = test ∷ chosen ∷ other ∷ []

-- a node is among some
abbrev pub has_node : List ℕ → ℕ → Bool
has_node nodes n = list_any (nat_eq n) nodes

-- the node, if it isn't among some
abbrev pub unmet : List ℕ → ℕ → Option ℕ
unmet nodes n = if has_node nodes n then None else Some n

-- the first that isn't among some
abbrev pub first_unmet : List ℕ → List ℕ → Option ℕ
first_unmet nodes [] = None
first_unmet nodes (n ∷ ns) = option_or (unmet nodes n) (first_unmet nodes ns)

-- a list of terms after each node of a path is added, the last first
abbrev pub climbed : List Term → List ℕ → List Term → List Term
climbed table [] terms = terms
climbed table (n ∷ path) terms = add_term (term_at table n) (climbed table path terms)

-- each node of a path is below the one before, and the first is below n
abbrev pub IsDescent : ℕ → List ℕ → Type 0
IsDescent n [] = Unit {0}
IsDescent n (k ∷ path) = (k < n) × IsDescent k path

-- some nodes were met, and those of a path weren't
pub record IsWalk (n : ℕ) (nodes path : List ℕ) : Type 0 where
  pub within : AreWithin n nodes
  pub distinct : IsDistinct nat_eq nodes
  pub descends : IsDescent n path
  pub unmet_yet : AllByRecursion (λ k. has_node nodes k ≡ false) path

-- a bound on the steps that are left of a walk over n nodes
unfoldable pub walk_left : ℕ → List ℕ → List ℕ → ℕ
walk_left n nodes path = (n - length nodes) * (n + 1) + (n - length path)
