-- Nodes in the order in which they are met, and walks from node to operand.
use Rattle.std.proofs.Common.{◌≡◌, inl, inr, ℕ, suc, ◌+◌, ◌-◌, ◌*◌, ◌<◌, ◌≤◌, nat_eq, Bool, true, false, ◌||◌, List, [], ◌∷◌, ◌++◌, length, map, Some, None, slice_get, take, refl, sym, ap, ◌∙◌, subst, arith, length-append, if◌then◌else◌}
use Rattle.std.specs.List.{AllByRecursion, IsDistinct}
use Rattle.std.specs.Option.{option_or}
use Rattle.std.proofs.lemmas.Bool.{eqb-true, eq-eqb}
use Rattle.std.proofs.lemmas.Bool.Decides.{eqb_tells}
use Rattle.std.proofs.lemmas.List.{map-append}
use Rattle.std.proofs.Math.Seq.{take-append_seam}
use Rattle.std.proofs.lemmas.Map.Steps.{length-le_from_distinct_below}
use Rattle.indexmap.specs.IndexSet.{insert_key}
use Rattle.prv_model.specs.TermOrder.{same_term}
use Rattle.prv_model.specs.declared.term.Term.{Term}
use Rattle.prv_pool.specs.Tables.{Table, IsTable, node_operands, term_at, has_term, add_term}
use Rattle.prv_pool.specs.Nodes.{node_term, AreBelow}
use Rattle.prv_pool.specs.declared.node.Node.{Node}
use Rattle.prv_pool.specs.declared.node.Node.TheVariants as node
use Rattle.prv_pool.proofs.Shapes.{out-Param, out-Op, out-Pick, out-Num}
use Rattle.prv_pool.proofs.TableLemmas.{same-itself, same-not}
use Rattle.prv_pool.proofs.NodeLemmas.{term_at-some}
use Rattle.prv_blast.specs.Orders.{AreWithin, IsWalk, IsDescent, terms_at, has_node, operands, first_unmet, climbed, walk_left}
use Rattle.prv_blast.proofs.Growing.{operands_of, add-old}
use Rattle.prv_blast.proofs.Climbing.{size, operands-smaller, operand-first, add-last}

gt-eqb : (p k : ℕ) → k < p → nat_eq p k ≡ false
gt-eqb p k h = elim (eqb_tells p k) [ inl a ↦ absurd (omega (arith, a.1, h)) | inr b ↦ b.0 ]

-- ---- nodes that are there

-- a node that isn't there goes last
pub inserted-last : (ns : List ℕ) (n : ℕ) → has_node ns n ≡ false → insert_key nat_eq ns n ≡ ns ++ n ∷ []
inserted-last ns n e = ap (λ (b : Bool). if b then ns else ns ++ n ∷ []) e

pub has-node-end : (ns : List ℕ) (n k : ℕ) → has_node (ns ++ k ∷ []) n ≡ (has_node ns n || (nat_eq n k || false))
has-node-end [] n k = refl
has-node-end (m ∷ ns) n k = by (nat_eq n m) (has-node-end ns n k)
  where
    by : (b : Bool) → has_node (ns ++ k ∷ []) n ≡ (has_node ns n || (nat_eq n k || false)) → (b || has_node (ns ++ k ∷ []) n) ≡ ((b || has_node ns n) || (nat_eq n k || false))
    by true e = refl
    by false e = e

all-within : (n : ℕ) (ns : List ℕ) → AreWithin n ns → (q : ℕ) → has_node ns q ≡ true → q < n
all-within n [] h q e = cc
all-within n (m ∷ ns) h q e = by (nat_eq q m) refl e (all-within n ns h.1 q)
  where
    by : (b : Bool) → nat_eq q m ≡ b → (b || has_node ns q) ≡ true → (has_node ns q ≡ true → q < n) → q < n
    by true d f rest = let same : q ≡ m = eqb-true q m d in omega (arith, h.0)
    by false d f rest = rest f

within-end : (n : ℕ) (ns : List ℕ) (k : ℕ) → AreWithin n ns → k < n → AreWithin n (ns ++ k ∷ [])
within-end n [] k h less = (less, tt)
within-end n (m ∷ ns) k h less = (h.0, within-end n ns k h.1 less)

-- distinct nodes below a number are at most as many
pub order-length : (n : ℕ) (ns : List ℕ) → IsDistinct nat_eq ns → AreWithin n ns → length ns ≤ n
order-length n ns d h = length-le_from_distinct_below ns n d (all-within n ns h)

-- ---- nodes and their terms

pub has-terms : (table : List Term) (ns : List ℕ) (k : ℕ) → has_node ns k ≡ true → has_term (terms_at table ns) (term_at table k) ≡ true
has-terms table [] k e = cc
has-terms table (m ∷ ns) k e = by (nat_eq k m) refl e (has-terms table ns k)
  where
    or-true : (b : Bool) → has_term (terms_at table ns) (term_at table k) ≡ true → (b || has_term (terms_at table ns) (term_at table k)) ≡ true
    or-true true h = refl
    or-true false h = h

    by : (b : Bool) → nat_eq k m ≡ b → (b || has_node ns k) ≡ true → (has_node ns k ≡ true → has_term (terms_at table ns) (term_at table k) ≡ true) →
        (same_term (term_at table k) (term_at table m) || has_term (terms_at table ns) (term_at table k)) ≡ true
    by true d f rest =
        let same : term_at table k ≡ term_at table m = ap (term_at table) (eqb-true k m d) in
        ap (λ (b : Bool). b || has_term (terms_at table ns) (term_at table k)) (ap (same_term (term_at table k)) (sym same) ∙ same-itself (term_at table k))
    by false d f rest = or-true (same_term (term_at table k) (term_at table m)) (rest f)

pub lacks-terms : (table : Table) → IsTable table → (ns : List ℕ) → AreWithin (length table.terms) ns → (k : ℕ) → k < length table.terms → has_node ns k ≡ false → has_term (terms_at table.terms ns) (term_at table.terms k) ≡ false
lacks-terms table kept [] h k less e = refl
lacks-terms table kept (m ∷ ns) h k less e = by (nat_eq k m) refl e (lacks-terms table kept ns h.1 k less)
  where
    by : (b : Bool) → nat_eq k m ≡ b → (b || has_node ns k) ≡ false → (has_node ns k ≡ false → has_term (terms_at table.terms ns) (term_at table.terms k) ≡ false) → (same_term (term_at table.terms k) (term_at table.terms m) || has_term (terms_at table.terms ns) (term_at table.terms k)) ≡ false
    by true d f later = cc
    by false d f later =
        let other = same-not (term_at table.terms k) (term_at table.terms m)
        (λ same. let one : k ≡ m = kept.distinct k m less h.0 same in let yes : nat_eq k m ≡ true = eq-eqb k m one in let no : true ≡ false = sym yes ∙ d in cc) in
        let rest = later f in
        (λ i. other i || rest i)

all-terms : (table : List Term) (ns ops : List ℕ) → AllByRecursion (λ k. has_node ns k ≡ true) ops → AllByRecursion (λ t. has_term (terms_at table ns) t ≡ true) (terms_at table ops)
all-terms table ns [] h = tt
all-terms table ns (k ∷ ops) h = (has-terms table ns k h.0, all-terms table ns ops h.1)

-- the operands of a node's term are the terms of its operands
pub operands-of-node : (table : List Term) (k : Node) → operands_of (node_term table k) ≡ terms_at table (operands k)
operands-of-node table (node.Param k) = ap node_operands (out-Param k)
operands-of-node table (node.Num n) = ap node_operands (out-Num n)
operands-of-node table (node.Op op a b) = ap node_operands (out-Op op (term_at table a) (term_at table b))
operands-of-node table (node.Pick c a b) = ap node_operands (out-Pick (term_at table c) (term_at table a) (term_at table b))

-- ---- the first operand that isn't there

record Split (ns ops : List ℕ) (m : ℕ) : Type 0 where
  before : List ℕ
  after : List ℕ
  is : ops ≡ before ++ m ∷ after
  met : AllByRecursion (λ k. has_node ns k ≡ true) before
  new : has_node ns m ≡ false

first-split : (ns ops : List ℕ) (m : ℕ) → first_unmet ns ops ≡ Some m → Split ns ops m
first-split ns [] m e = cc
first-split ns (k ∷ ops) m e = by (has_node ns k) refl e (first-split ns ops m)
  where
    by : (b : Bool) → has_node ns k ≡ b → option_or (if b then None else Some k) (first_unmet ns ops) ≡ Some m → (first_unmet ns ops ≡ Some m → Split ns ops m) → Split ns (k ∷ ops) m
    by true d f later =
        let rest = later f in
        record { before = k ∷ rest.before; after = rest.after; is = ap (λ (ms : List ℕ). k ∷ ms) rest.is; met = (d, rest.met); new = rest.new }
    by false d f later = let same : k ≡ m = cc in record { before = []; after = ops; is = ap (λ (j : ℕ). j ∷ ops) same; met = tt; new = ap (has_node ns) (sym same) ∙ d }

none-unmet : (ns ops : List ℕ) → first_unmet ns ops ≡ None → AllByRecursion (λ k. has_node ns k ≡ true) ops
none-unmet ns [] e = tt
none-unmet ns (k ∷ ops) e = by (has_node ns k) refl e (none-unmet ns ops)
  where
    by : (b : Bool) → has_node ns k ≡ b → option_or (if b then None else Some k) (first_unmet ns ops) ≡ None → (first_unmet ns ops ≡ None → AllByRecursion (λ j. has_node ns j ≡ true) ops) → AllByRecursion (λ j. has_node ns j ≡ true) (k ∷ ops)
    by true d f later = (d, later f)
    by false d f later = cc

below-operand : (n m : ℕ) (k : Node) (before after : List ℕ) → AreBelow n k → operands k ≡ before ++ m ∷ after → m < n
below-operand n m k before after h e = at before (subst (AllByRecursion (λ j. j < n)) e (all k h))
  where
    all : (k : Node) → AreBelow n k → AllByRecursion (λ j. j < n) (operands k)
    all (node.Param k) h = tt
    all (node.Num k) h = tt
    all (node.Op op a b) h = (h.0, (h.1, tt))
    all (node.Pick c a b) h = (h.0, (h.1, (h.2, tt)))

    at : (before : List ℕ) → AllByRecursion (λ j. j < n) (before ++ m ∷ after) → m < n
    at [] g = g.0
    at (j ∷ before) g = at before g.1

-- ---- paths

pub path-split : (path : List ℕ) (k : ℕ) → slice_get path (length path - 1) ≡ Some k → (front : List ℕ) × (path ≡ front ++ k ∷ [])
path-split [] k e = cc
path-split (p ∷ []) k e =
    let first : slice_get (p ∷ []) (length (p ∷ []) - 1) ≡ Some p = (let at : length (p ∷ []) - 1 ≡ 0 = omega arith in ap (slice_get (p ∷ [])) at) in
    let same : p ≡ k = cc in
    ([], ap (λ (j : ℕ). j ∷ []) same)
path-split (p ∷ q ∷ ps) k e =
    let at : length (p ∷ q ∷ ps) - 1 ≡ suc (length (q ∷ ps) - 1) = omega arith in
    let rest = path-split (q ∷ ps) k (sym (ap (slice_get (p ∷ q ∷ ps)) at) ∙ e) in
    (p ∷ rest.0, ap (λ (js : List ℕ). p ∷ js) rest.1)

descent-last : (n : ℕ) (front : List ℕ) (k : ℕ) → IsDescent n (front ++ k ∷ []) → k < n
descent-last n [] k h = h.0
descent-last n (p ∷ front) k h = let less = descent-last p front k h.1 in omega (arith, h.0)

descent-front : (n : ℕ) (front : List ℕ) (k : ℕ) → IsDescent n (front ++ k ∷ []) → IsDescent n front
descent-front n [] k h = tt
descent-front n (p ∷ front) k h = (h.0, descent-front p front k h.1)

descent-above : (n : ℕ) (front : List ℕ) (k : ℕ) → IsDescent n (front ++ k ∷ []) → AllByRecursion (λ p. k < p) front
descent-above n [] k h = tt
descent-above n (p ∷ front) k h = (descent-last p front k h.1, descent-above p front k h.1)

descent-more : (n : ℕ) (front : List ℕ) (k m : ℕ) → IsDescent n (front ++ k ∷ []) → m < k → IsDescent n ((front ++ k ∷ []) ++ m ∷ [])
descent-more n [] k m h less = (h.0, (less, tt))
descent-more n (p ∷ front) k m h less = (h.0, descent-more p front k m h.1 less)

descent-length : (n : ℕ) (path : List ℕ) → IsDescent n path → length path ≤ n
descent-length n [] h = omega arith
descent-length n (p ∷ path) h = let rest = descent-length p path h.1 in omega (arith, h.0)

climbed-end : (table : List Term) (front : List ℕ) (k : ℕ) (ts : List Term) → climbed table (front ++ k ∷ []) ts ≡ climbed table front (add_term (term_at table k) ts)
climbed-end table [] k ts = refl
climbed-end table (p ∷ front) k ts = ap (add_term (term_at table p)) (climbed-end table front k ts)

all-front : (Q : ℕ → Type 0) (front : List ℕ) (k : ℕ) → AllByRecursion Q (front ++ k ∷ []) → AllByRecursion Q front × Q k
all-front Q [] k h = (tt, h.0)
all-front Q (p ∷ front) k h = let rest = all-front Q front k h.1 in ((h.0, rest.0), rest.1)

all-end : (Q : ℕ → Type 0) (front : List ℕ) (k : ℕ) → AllByRecursion Q front → Q k → AllByRecursion Q (front ++ k ∷ [])
all-end Q [] k h q = (q, tt)
all-end Q (p ∷ front) k h q = (h.0, all-end Q front k h.1 q)

-- nodes above another aren't that one
still-unmet : (ns front : List ℕ) (k : ℕ) → AllByRecursion (λ p. has_node ns p ≡ false) front → AllByRecursion (λ p. k < p) front → AllByRecursion (λ p. has_node (ns ++ k ∷ []) p ≡ false) front
still-unmet ns [] k h above = tt
still-unmet ns (p ∷ front) k h above =
    let other : nat_eq p k ≡ false = gt-eqb p k above.0 in
    (has-node-end ns p k ∙ (λ i. h.0 i || (other i || false)), still-unmet ns front k h.1 above.1)

-- ---- the steps of a walk

at-split : (t u : Term) (before after : List Term) → AllByRecursion (λ v. size v < size t) (before ++ u ∷ after) → size u < size t
at-split t u [] after g = g.0
at-split t u (v ∷ before) after g = at-split t u before after g.1

suc-mul : (a b : ℕ) → suc a * b ≡ a * b + b
suc-mul a b = omega arith

-- a step keeps a walk, what it adds in the end, and comes nearer to the end
pub record StepsOn (table : Table) (ns path ns' path' : List ℕ) : Type 0 where
  pub walk : IsWalk (length table.terms) ns' path'
  pub climbs : climbed table.terms path' (terms_at table.terms ns') ≡ climbed table.terms path (terms_at table.terms ns)
  pub shorter : walk_left (length table.terms) ns' path' < walk_left (length table.terms) ns path

module _ (table : Table) (kept : IsTable table) (ns front : List ℕ) (k : ℕ) (nd : Node) (walk : IsWalk (length table.terms) ns (front ++ k ∷ []))
    (at : slice_get table.terms k ≡ Some (node_term table.terms nd)) (below : AreBelow k nd) where
  term-is : term_at table.terms k ≡ node_term table.terms nd
  term-is = term_at-some table.terms k (node_term table.terms nd) at

  ops-are : operands_of (term_at table.terms k) ≡ terms_at table.terms (operands nd)
  ops-are = ap operands_of term-is ∙ operands-of-node table.terms nd

  within-k : k < length table.terms
  within-k = descent-last (length table.terms) front k walk.descends

  absent : has_term (terms_at table.terms ns) (term_at table.terms k) ≡ false
  absent = lacks-terms table kept ns walk.within k within-k (all-front (λ p. has_node ns p ≡ false) front k walk.unmet_yet).1

  -- down to an operand
  pub step-down : (m : ℕ) → first_unmet ns (operands nd) ≡ Some m → StepsOn table ns (front ++ k ∷ []) ns ((front ++ k ∷ []) ++ m ∷ [])
  unfolding walk_left
  step-down m e =
      let s = first-split ns (operands nd) m e in
      let less : m < k = below-operand k m nd s.before s.after below s.is in
      let descends = descent-more (length table.terms) front k m walk.descends less in
      let split : operands_of (term_at table.terms k) ≡ terms_at table.terms s.before ++ term_at table.terms m ∷ terms_at table.terms s.after = ops-are ∙ ap (terms_at table.terms) s.is ∙ map-append (term_at table.terms) s.before (m ∷ s.after) in
      let smaller : size (term_at table.terms m) < size (term_at table.terms k) = at-split (term_at table.terms k) (term_at table.terms m) (terms_at table.terms s.before) (terms_at table.terms s.after) (subst (AllByRecursion (λ u. size u < size (term_at table.terms k))) split (operands-smaller (term_at table.terms k))) in
      let first = operand-first (term_at table.terms k) (terms_at table.terms s.before) (terms_at table.terms s.after) (term_at table.terms m) (terms_at table.terms ns) split (all-terms table.terms ns s.before s.met) absent smaller in
      let short = descent-length (length table.terms) ((front ++ k ∷ []) ++ m ∷ []) descends in
      let long = length-append (front ++ k ∷ []) (m ∷ []) in
      record {
        walk = record { within = walk.within; distinct = walk.distinct; descends = descends; unmet_yet = all-end (λ p. has_node ns p ≡ false) (front ++ k ∷ []) m walk.unmet_yet s.new };
        climbs =
            climbed-end table.terms (front ++ k ∷ []) m (terms_at table.terms ns)
            ∙ climbed-end table.terms front k (add_term (term_at table.terms m) (terms_at table.terms ns))
            ∙ ap (climbed table.terms front) first
            ∙ sym (climbed-end table.terms front k (terms_at table.terms ns));
        shorter = omega arith;
      }

  -- back up, where the node is added
  pub step-up : first_unmet ns (operands nd) ≡ None → IsDistinct nat_eq (ns ++ k ∷ []) → StepsOn table ns (front ++ k ∷ []) (ns ++ k ∷ []) front
  unfolding walk_left
  step-up e distinct =
      let met = none-unmet ns (operands nd) e in
      let there = subst (AllByRecursion (λ u. has_term (terms_at table.terms ns) u ≡ true)) (sym ops-are) (all-terms table.terms ns (operands nd) met) in
      let last = add-last (term_at table.terms k) (terms_at table.terms ns) there absent in
      let within = within-end (length table.terms) ns k walk.within within-k in
      let parts = all-front (λ p. has_node ns p ≡ false) front k walk.unmet_yet in
      let fits = order-length (length table.terms) (ns ++ k ∷ []) distinct within in
      let long = length-append ns (k ∷ []) in
      let deep = length-append front (k ∷ []) in
      let short = descent-length (length table.terms) (front ++ k ∷ []) walk.descends in
      let left : length table.terms - length ns ≡ suc (length table.terms - length (ns ++ k ∷ [])) = omega arith in
      let product : (length table.terms - length ns) * (length table.terms + 1) ≡ (length table.terms - length (ns ++ k ∷ [])) * (length table.terms + 1) + (length table.terms + 1) = ap (λ (j : ℕ). j * (length table.terms + 1)) left ∙ suc-mul (length table.terms - length (ns ++ k ∷ [])) (length table.terms + 1) in
      record {
        walk = record {
          within = within;
          distinct = distinct;
          descends = descent-front (length table.terms) front k walk.descends;
          unmet_yet = still-unmet ns front k parts.0 (descent-above (length table.terms) front k walk.descends);
        };
        climbs = ap (climbed table.terms front) (map-append (term_at table.terms) ns (k ∷ []) ∙ sym last) ∙ sym (climbed-end table.terms front k (terms_at table.terms ns));
        shorter = omega arith;
      }

take-front : (front : List ℕ) (k : ℕ) → take (length (front ++ k ∷ []) - 1) (front ++ k ∷ []) ≡ front
take-front front k =
    let n : length (front ++ k ∷ []) - 1 ≡ length front = omega (arith, length-append front (k ∷ [])) in
    ap (λ (m : ℕ). take m (front ++ k ∷ [])) n ∙ take-append_seam front (k ∷ [])

pub last-within : (n : ℕ) (ns path : List ℕ) (k : ℕ) → IsWalk n ns path → slice_get path (length path - 1) ≡ Some k → k < n
last-within n ns path k walk last = let f = path-split path k last in descent-last n f.0 k (subst (IsDescent n) f.1 walk.descends)

pub last-unmet : (n : ℕ) (ns path : List ℕ) (k : ℕ) → IsWalk n ns path → slice_get path (length path - 1) ≡ Some k → has_node ns k ≡ false
last-unmet n ns path k walk last = let f = path-split path k last in (all-front (λ p. has_node ns p ≡ false) f.0 k (subst (AllByRecursion (λ p. has_node ns p ≡ false)) f.1 walk.unmet_yet)).1

module _ (table : Table) (kept : IsTable table) (ns path new : List ℕ) (k : ℕ) (nd : Node) (walk : IsWalk (length table.terms) ns path) (last : slice_get path (length path - 1) ≡ Some k) where
  module _ (at : slice_get table.terms k ≡ Some (node_term table.terms nd)) (below : AreBelow k nd) where
    pub down : (m : ℕ) → Some m ≡ first_unmet ns (operands nd) → new ≡ path ++ m ∷ [] → StepsOn table ns path ns new
    down m e is =
        let f = path-split path k last in
        let step = step-down table kept ns f.0 k nd (subst (IsWalk (length table.terms) ns) f.1 walk) at below m (sym e) in
        subst (λ (q : List ℕ). StepsOn table ns path ns q) (sym is) (subst (λ (p : List ℕ). StepsOn table ns p ns (p ++ m ∷ [])) (sym f.1) step)

    pub up : (ns' : List ℕ) → None ≡ first_unmet ns (operands nd) → ns' ≡ ns ++ k ∷ [] → IsDistinct nat_eq ns' → new ≡ take (length path - 1) path → StepsOn table ns path ns' new
    up ns' e is distinct rest =
        let f = path-split path k last in
        let step = step-up table kept ns f.0 k nd (subst (IsWalk (length table.terms) ns) f.1 walk) at below (sym e) (subst (IsDistinct nat_eq) is distinct) in
        let short : new ≡ f.0 = rest ∙ ap (λ (p : List ℕ). take (length p - 1) p) f.1 ∙ take-front f.0 k in
        subst (λ (q : List ℕ). StepsOn table ns path ns' q) (sym short) (subst (λ (p : List ℕ). StepsOn table ns p ns' f.0) (sym f.1) (subst (λ (ms : List ℕ). StepsOn table ns (f.0 ++ k ∷ []) ms f.0) (sym is) step))

-- ---- the start and the end of a walk

pub starts-walk : (table : Table) (ns path : List ℕ) (root : ℕ) → IsDistinct nat_eq ns → AreWithin (length table.terms) ns → root < length table.terms → false ≡ has_node ns root → path ≡ root ∷ [] → IsWalk (length table.terms) ns path
starts-walk table ns path root distinct within less new is =
    subst (IsWalk (length table.terms) ns) (sym is) (record { within = within; distinct = distinct; descends = (less, tt); unmet_yet = (sym new, tt) })

pub visited-before : (table : List Term) (ns : List ℕ) (root : ℕ) → true ≡ has_node ns root → terms_at table ns ≡ add_term (term_at table root) (terms_at table ns)
visited-before table ns root e = sym (add-old (term_at table root) (terms_at table ns) (has-terms table ns root (sym e)))
