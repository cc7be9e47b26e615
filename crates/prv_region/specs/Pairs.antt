-- Nodes of one table, each beside the node of another that must stand for the same term.
use Rattle.std.specs.List.{AllByRecursion}
use Rattle.std.specs.Prelude.{◌≡◌, ◌≢◌, ℕ, ◌<◌, ◌≤◌, Bool, true, List, length, Option, Some, slice_get, map, All}
use Rattle.prv_model.specs.declared.term.Term.{Term}
use Rattle.prv_pool.specs.Tables.{term_at}
use Rattle.prv_pool.specs.Nodes.{node_term, AreBelow}
use Rattle.prv_region.specs.Numbers.{number_at}
use Rattle.prv_pool.specs.declared.node.Node.{Node}
use Rattle.prv_pool.specs.declared.node.Node.TheVariants as node

-- no term stands twice in a list
abbrev pub AreApart : List Term → Type 0
AreApart terms = (i j : ℕ) → i < length terms → j < length terms → term_at terms i ≡ term_at terms j → i ≡ j

-- each partner is a node of a table of so many
pub record AreIn (count : ℕ) (partners : List (Option ℕ)) : Type 0 where
  pub at : (n m : ℕ) → number_at partners n ≡ Some m → m < count

-- each partner stands for the term of its node
pub record AreSame (into from : List Term) (partners : List (Option ℕ)) : Type 0 where
  pub at : (n m : ℕ) → number_at partners n ≡ Some m → term_at into m ≡ term_at from n

-- who had a partner keeps it
pub record GoesOn (old new : List (Option ℕ)) : Type 0 where
  pub sized : length new ≡ length old
  pub kept : (n m : ℕ) → number_at old n ≡ Some m → number_at new n ≡ Some m

-- a node gets a partner, where it hasn't got another one: that one has not the same term then
pub record Pairs (old new : List (Option ℕ)) (n m : ℕ) (paired : Bool) : Type 0 where
  pub goes_on : GoesOn old new
  pub others : (j k : ℕ) → j ≢ n → number_at new j ≡ Some k → number_at old j ≡ Some k
  pub done : paired ≡ true → number_at new n ≡ Some m
  pub within : (count : ℕ) → AreIn count old → m < count → AreIn count new
  pub same : (into from : List Term) → AreApart into → AreIn (length into) old → AreSame into from old → m < length into → term_at into m ≡ term_at from n → (paired ≡ true) × AreSame into from new

-- each of some nodes has the partner beside it
abbrev pub HavePartners : List (Option ℕ) → List (ℕ × ℕ) → Type 0
HavePartners partners wanted = AllByRecursion (λ w. number_at partners w.0 ≡ Some w.1) wanted

-- each of some nodes is of the same term as the one beside it
abbrev pub AreOf : List Term → List Term → List (ℕ × ℕ) → Type 0
AreOf into from wanted = AllByRecursion (λ w. (w.1 < length into) × (term_at into w.1 ≡ term_at from w.0)) wanted

-- some pairs are made, one after the other
pub record PairsEach (old new : List (Option ℕ)) (wanted : List (ℕ × ℕ)) (paired : Bool) : Type 0 where
  pub goes_on : GoesOn old new
  pub above : (bound : ℕ) → AllByRecursion (λ w. w.0 < bound) wanted → (j k : ℕ) → bound ≤ j → number_at new j ≡ Some k → number_at old j ≡ Some k
  pub done : paired ≡ true → HavePartners new wanted
  pub within : (count : ℕ) → AreIn count old → AllByRecursion (λ w. w.1 < count) wanted → AreIn count new
  pub same : (into from : List Term) → AreApart into → AreIn (length into) old → AreSame into from old → AreOf into from wanted → (paired ≡ true) × AreSame into from new

-- two nodes have one constructor, and the operands of the one have those of the other as partners
abbrev pub ArePaired : List (Option ℕ) → Node → Node → Type 0
ArePaired partners (node.Param j) (node.Param k) = j ≡ k
ArePaired partners (node.Num m) (node.Num n) = m ≡ n
ArePaired partners (node.Op op a b) (node.Op other x y) = (op ≡ other) × (number_at partners a ≡ Some x) × (number_at partners b ≡ Some y)
ArePaired partners (node.Pick test a b) (node.Pick other x y) = (number_at partners test ≡ Some other) × (number_at partners a ≡ Some x) × (number_at partners b ≡ Some y)
ArePaired partners n m = ⊥

-- the operands of two nodes are paired
pub record PairsNodes (old new : List (Option ℕ)) (n m : Node) (paired : Bool) : Type 0 where
  pub goes_on : GoesOn old new
  pub above : (bound : ℕ) → AreBelow bound n → (j k : ℕ) → bound ≤ j → number_at new j ≡ Some k → number_at old j ≡ Some k
  pub done : paired ≡ true → ArePaired new n m
  pub within : (count : ℕ) → AreIn count old → AreBelow count m → AreIn count new
  pub same : (into from : List Term) → AreApart into → AreIn (length into) old → AreSame into from old → AreBelow (length into) m → node_term into m ≡ node_term from n → (paired ≡ true) × AreSame into from new

-- what a node and its partner are made of is paired
pub record AreMatched (into from : List Term) (partners : List (Option ℕ)) (n m : ℕ) : Type 0 where
  pub node : Node
  pub other : Node
  pub is_node : slice_get from n ≡ Some (node_term from node)
  pub is_other : slice_get into m ≡ Some (node_term into other)
  pub below : AreBelow n node
  pub paired : ArePaired partners node other

-- the operands of a node are paired with those of its partner, if it has one
pub record PairsOperands (into from : List Term) (n : ℕ) (old new : List (Option ℕ)) (paired : Bool) : Type 0 where
  pub goes_on : GoesOn old new
  pub above : (j k : ℕ) → n ≤ j → number_at new j ≡ Some k → number_at old j ≡ Some k
  pub done : paired ≡ true → (m : ℕ) → number_at new n ≡ Some m → AreMatched into from new n m
  pub within : AreIn (length into) new
  pub same : AreApart into → AreSame into from old → (paired ≡ true) × AreSame into from new

-- nodes are paired one for one
pub record PairsAll (old new : List (Option ℕ)) (nodes others : List ℕ) (paired : Bool) : Type 0 where
  pub goes_on : GoesOn old new
  pub done : paired ≡ true → map (number_at new) nodes ≡ map Some others
  pub within : (count : ℕ) → AreIn count old → All (λ m. m < count) others → AreIn count new
  pub same : (into from : List Term) → AreApart into → AreIn (length into) old → AreSame into from old → All (λ m. m < length into) others
      → map (term_at into) others ≡ map (term_at from) nodes → (paired ≡ true) × AreSame into from new
