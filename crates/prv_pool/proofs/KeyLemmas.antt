-- Nodes as the keys of a map that keeps their order.
use Rattle.std.proofs.Common.{◌≡◌, ◌≢◌, ℕ, zero, suc, Bool, true, false, List, [], ◌∷◌, ◌++◌, Option, Some, None, slice_get, get_or, position, refl, sym, ap, ◌∙◌, rules}
use Rattle.std.specs.List.{IsDistinct, AllByRecursion}
use Rattle.std.specs.Map.{keys_of}
use Rattle.std.proofs.lemmas.List.Quantifiers.{position-Some}
use Rattle.std.proofs.lemmas.Map.Keys.{IsDistinct-head, IsDistinct-tail}
use Rattle.std.proofs.lemmas.Option.{slice_get-get_or}
use Rattle.indexmap.proofs.MapLemmas.{Missing-position, insert_entry-absent}
use Rattle.std.specs.Option.{IfSome, IfNone}
use Rattle.indexmap.specs.IndexMap.{insert_entry}
use Rattle.prv_pool.specs.Nodes.{node_at, AreDistinct}
use Rattle.prv_pool.specs.declared.node.Node.{Node}
use Rattle.prv_pool.specs.contracts.node.NodePartialEq.TheImpl as node_eq

-- no key passes a test
abbrev IsAbsent : (Node → Bool) → List (Node × Bool) → Type 0
IsAbsent test es = AllByRecursion (λ k. test k ≡ false) (keys_of es)

-- the derived test of nodes
abbrev pub same_node : Node → Node → Bool
same_node = (node_eq.eq-value).it

pub same_node-true : (a b : Node) → same_node a b ≡ true → a ≡ b
same_node-true a b e = search rules

pub same_node-itself : (a : Node) → same_node a a ≡ true
same_node-itself a = search rules

node_at-keys : (es : List (Node × Bool)) (i : ℕ) → slice_get (keys_of es) i ≡ node_at es i
node_at-keys [] i = refl
node_at-keys (e ∷ es) zero = refl
node_at-keys (e ∷ es) (suc i) = node_at-keys es i

-- the number that a look-up gives is the node's
pub found-node : (es : List (Node × Bool)) (n : Node) (i : ℕ) → position (same_node n) (keys_of es) ≡ Some i → node_at es i ≡ Some n
found-node es n i e =
    let found = position-Some (same_node n) (keys_of es) i n e in
    let same : n ≡ get_or (keys_of es) i n = same_node-true n _ found.1 in
    sym (node_at-keys es i) ∙ slice_get-get_or (keys_of es) i n found.0 ∙ ap Some (sym same)

absent-at : (n : Node) (es : List (Node × Bool)) → IsAbsent (same_node n) es → (i : ℕ) → node_at es i ≢ Some n
absent-at n [] h i e = cc
absent-at n (m ∷ es) h zero e = let same : m.0 ≡ n = cc in let yes = same_node-itself n in let no = h.0 in cc
absent-at n (m ∷ es) h (suc i) e = absent-at n es h.1 i e

-- where a look-up gives none, the node isn't there
pub absent-node : (es : List (Node × Bool)) (n : Node) → position (same_node n) (keys_of es) ≡ None → (i : ℕ) → node_at es i ≢ Some n
absent-node es n e = absent-at n es (Missing-position (same_node n) es e).absent

is-absent : (n : Node) (es : List (Node × Bool)) → ((i : ℕ) → node_at es i ≢ Some n) → IsAbsent (same_node n) es
is-absent n [] h = tt
is-absent n (m ∷ es) h = (by (same_node n m.0) refl, is-absent n es (λ i. h (suc i)))
  where
    by : (b : Bool) → same_node n m.0 ≡ b → same_node n m.0 ≡ false
    by true e = absurd (h 0 (ap Some (sym (same_node-true n m.0 e))))
    by false e = e

-- a node that isn't there goes last
pub inserted-last : (es : List (Node × Bool)) (n : Node) (b : Bool) → ((i : ℕ) → node_at es i ≢ Some n) → insert_entry same_node es n b ≡ es ++ (n, b) ∷ []
inserted-last es n b h = insert_entry-absent same_node n b es (is-absent n es h)

apart-from : (n : Node) (es : List (Node × Bool)) → AllByRecursion (λ m. same_node n m ≡ false) (keys_of es) → (i : ℕ) → node_at es i ≢ Some n
apart-from n [] h i e = cc
apart-from n (m ∷ es) h zero e = let same : m.0 ≡ n = cc in let yes = same_node-itself n in let no = h.0 in cc
apart-from n (m ∷ es) h (suc i) e = apart-from n es h.1 i e

-- distinct keys are distinct nodes
pub are-distinct : (es : List (Node × Bool)) → IsDistinct same_node (keys_of es) → AreDistinct es
are-distinct [] h i j n d e = cc
are-distinct (m ∷ es) h zero zero n d e = refl
are-distinct (m ∷ es) h zero (suc j) n d e =
    let same : m.0 ≡ n = cc in
    absurd (apart-from m.0 es (IsDistinct-head same_node m.0 (keys_of es) h) j (e ∙ ap Some (sym same)))
are-distinct (m ∷ es) h (suc i) zero n d e =
    let same : m.0 ≡ n = cc in
    absurd (apart-from m.0 es (IsDistinct-head same_node m.0 (keys_of es) h) i (d ∙ ap Some (sym same)))
are-distinct (m ∷ es) h (suc i) (suc j) n d e = ap suc (are-distinct es (IsDistinct-tail same_node m.0 (keys_of es) h) i j n d e)

-- what a look-up by the derived test says of the nodes
pub find-found : (es : List (Node × Bool)) (n : Node) (r : Option ℕ) → r ≡ position (same_node n) (keys_of es) → IfSome r (λ i. node_at es i ≡ Some n)
find-found es n None e = tt
find-found es n (Some i) e = found-node es n i (sym e)

pub find-absent : (es : List (Node × Bool)) (n : Node) (r : Option ℕ) → r ≡ position (same_node n) (keys_of es) → IfNone r ((i : ℕ) → node_at es i ≢ Some n)
find-absent es n None e = absent-node es n (sym e)
find-absent es n (Some i) e = tt
