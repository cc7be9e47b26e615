-- Room for nodes. The negation of a term of a table adds at most two terms, itself and 0.
use Rattle.std.proofs.Common.{◌≡◌, ℕ, ◌+◌, ◌-◌, ◌<◌, ◌≤◌, Bool, true, false, ◌&&◌, ◌||◌, List, [], ◌∷◌, ◌++◌, length, Option, Some, None, Ok, Err, IfSome, ℤ, pos, if◌then◌else◌, refl, sym, ap, ◌∙◌, subst, arith, unwrap_or, length-append}
use Rattle.std.specs.Option.{option_map, option_and_then}
use Rattle.std.specs.Cmp.{IsEquivalence}
use Rattle.std.specs.List.{AllByRecursion, IsDistinct}
use Rattle.std.proofs.lemmas.Cmp.{eq_by_cmp_equiv}
use Rattle.std.proofs.lemmas.List.{length-map}
use Rattle.std.proofs.lemmas.Map.Keys.{IsDistinct-push}
use Rattle.std.proofs.lemmas.Map.Made.{length-le_from_is_member}
use Rattle.prv_model.specs.Terms.{total}
use Rattle.prv_model.specs.TermOrder.{same_term}
use Rattle.prv_model.specs.declared.op.TermOp.{TermOp}
use Rattle.prv_model.specs.declared.op.TermOp.TheVariants.{Add, Sub, Mul, Div, Rem, Shl, Shr, And, Or, Xor, Lt, Le, Eq, Ne}
use Rattle.prv_model.specs.declared.program.Pair.{Pair}
use Rattle.prv_model.specs.declared.term.Term.{Term, roll-Term, out-Term, roll-out-Term}
use Rattle.prv_model.specs.declared.term.Term.TheVariants.{Op, Pick, Num, rolls-Op, rolls-Pick}
use Rattle.prv_model.specs.declared.term.Term.TheOpen.{Term-F}
use Rattle.prv_model.proofs.OrderLemmas.{term_cmp_total, same_term-same}
use Rattle.prv_pool.specs.Folding.{as_number, is_number, is_truth_shaped, is_neutral, decided, only_if, on_numbers, are_exchanged, beside_neutral, beside_decided, on_one_twice, on_truths, beside_zero, in_order, unequal, node_negation, negation}
use Rattle.prv_pool.specs.Tables.{Table, IsTable, Makes, node_operands, has_term, add_term, add_terms, term_at}
use Rattle.prv_pool.specs.declared.error.PoolError.{PoolError}
use Rattle.prv_pool.specs.declared.error.PoolError.TheVariants.{Wide}
use Rattle.prv_pool.proofs.Shapes.{add-Op, add-Num}
use Rattle.prv_pool.proofs.TableLemmas.{IsClosed, table-closed, add-there, has-append, has-term_at}
use Rattle.prv_region.specs.declared.region.TheConstants.{MAX_REGION_NODES}
use Rattle.prv_blast.proofs.Climbing.{size, operands-smaller, add-lacks}
use Rattle.prv_blast.proofs.Growing.{operands_of, by-operands, add-new, add-old}
use Rattle.prv_general.specs.Answers.{terms_at}
use Rattle.prv_part.specs.Literals.{pair_literals}
use Rattle.prv_part.specs.Parts.{partition}
use Rattle.prv_settle.specs.Counts.{has_many_literals}
use Rattle.prv_settle.specs.Making.{AreNodes, IsCut}
use Rattle.prv_settle.specs.Rooms.{HasRoom}
use Rattle.prv_settle.specs.declared.cut.Cut.{Cut}
use Rattle.prv_settle.specs.declared.limits.TheConstants.{MAX_NODES, MORE_NODES}
use Rattle.prv_settle.specs.declared.runs.Runs.{Runs}
use Rattle.prv_settle.proofs.Nodes.{first-node, other-nodes}
use Rattle.prv_settle.proofs.Sizes.{few-literals}

-- ---- what a term adds to a list

abbrev Adds : ℕ → List Term → Term → Type 0
Adds n ts t = length (add_term t ts) ≤ length ts + n

abbrev AddsTwo : List Term → Term → Type 0
AddsTwo ts t = Adds 2 ts t

there-adds : (ts : List Term) (t : Term) → has_term ts t ≡ true → length (add_term t ts) ≤ length ts
there-adds ts t h = omega (arith, ap (λ (us : List Term). length us) (add-there t ts h))

-- a list that a term ends, where it isn't there
ended : (ts us : List Term) (t : Term) (n : ℕ) (b : Bool) → length us ≤ length ts + n → length (if b then ts else us ++ t ∷ []) ≤ length ts + (n + 1)
ended ts us t n true h = omega arith
ended ts us t n false h = omega (arith, h, length-append us (t ∷ []))

num-adds : (ts : List Term) (n : ℤ) → Adds 1 ts (Num n)
num-adds ts n = subst (λ (us : List Term). length us ≤ length ts + 1) (sym (add-Num n ts)) (ended ts ts (Num n) 0 (has_term ts (Num n)) (omega arith))

op-adds : (ts : List Term) (o : TermOp) (a b : Term) → has_term ts a ≡ true → Adds 1 ts b → AddsTwo ts (Op o a b)
op-adds ts o a b h more =
    let behind : length (add_term b (add_term a ts)) ≤ length ts + 1 = subst (λ (us : List Term). length (add_term b us) ≤ length ts + 1) (sym (add-there a ts h)) more in
    subst (λ (us : List Term). length us ≤ length ts + 2) (sym (add-Op o a b ts)) (ended ts (add_term b (add_term a ts)) (Op o a b) 1 (has_term ts (Op o a b)) behind)

-- ---- what a negation adds

module _ (ts : List Term) where
  two-there : (o : TermOp) (a b : Term) → has_term ts a ≡ true → has_term ts b ≡ true → AddsTwo ts (Op o a b)
  two-there o a b h k = op-adds ts o a b h (omega (arith, there-adds ts b k))

  one-there : (t : Term) → has_term ts t ≡ true → AddsTwo ts t
  one-there t h = omega (arith, there-adds ts t h)

  number : (n : ℤ) → AddsTwo ts (Num n)
  number n = omega (arith, num-adds ts n)

  or-adds : (answer : Option Term) (t : Term) → IfSome answer (AddsTwo ts) → AddsTwo ts t → AddsTwo ts (unwrap_or answer t)
  or-adds None t h k = k
  or-adds (Some u) t h k = h

  only-adds : (z : Bool) (t : Term) → AddsTwo ts t → IfSome (only_if z t) (AddsTwo ts)
  only-adds true t h = h
  only-adds false t h = tt

  numbers-adds : (a b : Term) → IfSome (on_numbers Ne a b) (AddsTwo ts)
  numbers-adds a b = by (as_number a) (as_number b)
    where
      by : (p q : Option ℤ) → IfSome (option_and_then (λ m. option_map (λ n. Num (total Ne m n)) q) p) (AddsTwo ts)
      by None q = tt
      by (Some m) None = tt
      by (Some m) (Some n) = number (total Ne m n)

  decided-adds : (b : Term) → IfSome (beside_decided Ne b) (AddsTwo ts)
  decided-adds b = by (as_number b)
    where
      by : (o : Option ℤ) → IfSome (option_and_then (decided Ne) o) (AddsTwo ts)
      by None = tt
      by (Some n) = tt

  twice-adds : (a b : Term) → IfSome (on_one_twice Ne a b) (AddsTwo ts)
  twice-adds a b = by (same_term a b)
    where
      by : (z : Bool) → IfSome (if z then Some (Num (pos 0)) else None) (AddsTwo ts)
      by true = number (pos 0)
      by false = tt

  in-order-adds : (a b : Term) → has_term ts a ≡ true → has_term ts b ≡ true → AddsTwo ts (in_order (λ t. t) Ne a b)
  in-order-adds a b h k =
      or-adds (beside_neutral Ne a b) _ (only-adds (unwrap_or (option_map (is_neutral Ne) (as_number b)) false) a (one-there a h))
      (or-adds (beside_decided Ne b) _ (decided-adds b)
      (or-adds (on_one_twice Ne a b) _ (twice-adds a b)
      (or-adds (on_truths (λ t. t) Ne a b) _ tt
      (or-adds (beside_zero (λ t. t) Ne a b) _ (only-adds (is_truth_shaped a && is_number (pos 0) b) a (one-there a h)) (two-there Ne a b h k)))))

  unequal-adds : (a b : Term) → has_term ts a ≡ true → has_term ts b ≡ true → AddsTwo ts (unequal a b)
  unequal-adds a b h k = or-adds (on_numbers Ne a b) _ (numbers-adds a b) (by (are_exchanged Ne a b))
    where
      by : (z : Bool) → AddsTwo ts (if z then in_order (λ t. t) Ne b a else in_order (λ t. t) Ne a b)
      by true = in-order-adds b a k h
      by false = in-order-adds a b h k

  pub negation-adds : IsClosed ts → (t : Term) → has_term ts t ≡ true → AddsTwo ts (negation t)
  negation-adds closed t h = by (out-Term t) (sym (roll-out-Term t))
    where
      parts : (o : TermOp) (a b : Term) → t ≡ Op o a b → (has_term ts a ≡ true) × (has_term ts b ≡ true)
      parts o a b e = closed.0 o a b (ap (has_term ts) (sym e) ∙ h)

      other : AddsTwo ts (Op Eq t (Num (pos 0)))
      other = op-adds ts Eq t (Num (pos 0)) h (num-adds ts (pos 0))

      by-op : (o : TermOp) (a b : Term) → t ≡ Op o a b → AddsTwo ts (node_negation t (Term-F.Op o a b))
      by-op Lt a b e = let p = parts Lt a b e in two-there Le b a p.1 p.0
      by-op Le a b e = let p = parts Le a b e in two-there Lt b a p.1 p.0
      by-op Eq a b e = let p = parts Eq a b e in unequal-adds a b p.0 p.1
      by-op Ne a b e = let p = parts Ne a b e in two-there Eq a b p.0 p.1
      by-op Add a b e = other
      by-op Sub a b e = other
      by-op Mul a b e = other
      by-op Div a b e = other
      by-op Rem a b e = other
      by-op Shl a b e = other
      by-op Shr a b e = other
      by-op And a b e = other
      by-op Or a b e = other
      by-op Xor a b e = other

      by : (z : Term-F Term) → t ≡ roll-Term z → AddsTwo ts (node_negation t z)
      by (Term-F.Num n) e = number (total Eq n (pos 0))
      by (Term-F.Op o a b) e = by-op o a b (e ∙ rolls-Op o a b)
      by (Term-F.Param k) e = other
      by (Term-F.Pick c a b) e = other

node-adds : (table : Table) (n : ℕ) → IsTable table → n < length table.terms → length (add_term (negation (term_at table.terms n)) table.terms) ≤ length table.terms + 2
node-adds table n kept h = negation-adds table.terms (table-closed table kept) (term_at table.terms n) (has-term_at table.terms n h)

-- ---- the negation of a node

pub made-few : (old new : Table) (n m : ℕ) → IsTable old → n < length old.terms → Makes (negation (term_at old.terms n)) old new (Ok m) → length new.terms ≤ length old.terms + 2
made-few old new n m kept h made = let few = node-adds old n kept h in omega (arith, few, ap (λ (us : List Term). length us) made.grows)

pub refused-few : (old new : Table) (n : ℕ) (e : PoolError) → Makes (negation (term_at old.terms n)) old new (Err e) → length new.terms ≤ length old.terms + 2
refused-few old new n e made = omega (arith, ap (λ (table : Table). length table.terms) made.refused)

pub has-room : (old new : Table) (n : ℕ) → IsTable old → n < length old.terms → length old.terms + 2 ≤ old.max_nodes → Makes (negation (term_at old.terms n)) old new (Err Wide) → ⊥
has-room old new n kept h room made = let few = node-adds old n kept h in omega (arith, few, room, made.wide.0 refl)

-- ---- the room of a partition

pub some-few : (found : Option Runs) (runs : Runs) (n : ℕ) → found ≡ Some runs → IfSome found (λ _. n ≤ MAX_NODES) → n ≤ MAX_NODES
some-few None runs n e h = cc e
some-few (Some made) runs n e h = h

pub cut-room : (pair : Pair) (region : List Term) (t : List ℤ) (table : Table) (cut : Cut) → IsCut pair region t cut → has_many_literals pair t ≡ false → cut.pool ≡ table →
    length table.terms ≤ MAX_NODES → table.max_nodes ≡ MAX_NODES + MORE_NODES → HasRoom 4 cut
cut-room pair region t table cut h none same few limit =
    let literals = few-literals pair region t none in
    let nodes = length-map cut.partition.items (term_at cut.pool.terms) in
    let terms = ap (λ (ts : List Term). length ts) h.partition_is in
    let all = length-append region (pair_literals pair region t) in
    let long = h.long in
    let count = ap (λ (u : Table). length u.terms) same in
    let most = ap (λ (u : Table). u.max_nodes) same in
    record { free = omega (arith, literals, nodes, terms, all, long, count, most, few, limit); small = omega (arith, most, limit) }

pub room-less : (more : ℕ) (cut : Cut) → HasRoom more cut → HasRoom 0 cut
room-less more cut h = record { free = omega (arith, h.free); small = h.small }

-- after two negations that cut it
pub room-left : (cut : Cut) (mid last : Table) → HasRoom 4 cut → length mid.terms ≤ length cut.pool.terms + 2 → length last.terms ≤ length mid.terms + 2 → mid.max_nodes ≡ cut.pool.max_nodes → last.max_nodes ≡ mid.max_nodes →
    HasRoom 0 (record cut { pool = last })
room-left cut mid last h few fewer same still = record { free = omega (arith, h.free, few, fewer, same, still); small = omega (arith, h.small, same, still) }

-- ---- terms of a table, copied into an empty one

-- the operands of a term that a list has are there
closed-operands : (ts : List Term) → IsClosed ts → (t : Term) → has_term ts t ≡ true → AllByRecursion (λ u. has_term ts u ≡ true) (operands_of t)
closed-operands ts closed t h = by (out-Term t) (sym (roll-out-Term t))
  where
    by : (y : Term-F Term) → t ≡ roll-Term y → AllByRecursion (λ u. has_term ts u ≡ true) (node_operands y)
    by (Term-F.Param k) e = tt
    by (Term-F.Num n) e = tt
    by (Term-F.Op o a b) e = let p = closed.0 o a b (ap (has_term ts) (sym (e ∙ rolls-Op o a b)) ∙ h) in (p.0, (p.1, tt))
    by (Term-F.Pick c a b) e = let p = closed.1 c a b (ap (has_term ts) (sym (e ∙ rolls-Pick c a b)) ∙ h) in (p.0, (p.1, (p.2, tt)))

same-equiv : IsEquivalence same_term
same-equiv = eq_by_cmp_equiv term_cmp_total

-- what is no larger than a term doesn't bring it
lacks-still : (t : Term) (ops : List Term) → AllByRecursion (λ u. size u < size t) ops → (us : List Term) → has_term us t ≡ false → has_term (add_terms us ops) t ≡ false
lacks-still t [] less us e = e
lacks-still t (o ∷ ops) less us e = lacks-still t ops less.1 (add_term o us) (add-lacks t o us less.0 e)

-- some terms of a list, none twice
record AreSome (ts us : List Term) : Type 0 where
  distinct : IsDistinct same_term us
  inside : (q : Term) → has_term us q ≡ true → has_term ts q ≡ true

some-end : (ts us : List Term) (t : Term) → AreSome ts us → has_term us t ≡ false → has_term ts t ≡ true → AreSome ts (us ++ t ∷ [])
some-end ts us t some new h = record {
  distinct = IsDistinct-push same-equiv us t some.distinct new;
  inside = λ q e. by q (has_term us q) refl (sym (has-append us (t ∷ []) q) ∙ e);
}
  where
    last : (q : Term) (c : Bool) → same_term q t ≡ c → (c || false) ≡ true → has_term ts q ≡ true
    last q true e f = ap (has_term ts) ((same_term-same q t).0 e) ∙ h
    last q false e f = cc f

    by : (q : Term) (b : Bool) → has_term us q ≡ b → (b || (same_term q t || false)) ≡ true → has_term ts q ≡ true
    by q true e f = some.inside q e
    by q false e f = last q (same_term q t) refl f

module _ (ts : List Term) (closed : IsClosed ts) where
  abbrev Keeps : Term → Type 0
  Keeps t = has_term ts t ≡ true → (us : List Term) → AreSome ts us → AreSome ts (add_term t us)

  terms-keep : (ops : List Term) → AllByRecursion Keeps ops → AllByRecursion (λ u. has_term ts u ≡ true) ops → (us : List Term) → AreSome ts us → AreSome ts (add_terms us ops)
  terms-keep [] k h us some = some
  terms-keep (o ∷ ops) k h us some = terms-keep ops k.1 h.1 (add_term o us) (k.0 h.0 us some)

  keeps : (t : Term) → Keeps t
  keeps = by-operands Keeps (λ t k h us some. by t k h us some (has_term us t) refl)
    where
      by : (t : Term) → AllByRecursion Keeps (operands_of t) → has_term ts t ≡ true → (us : List Term) → AreSome ts us → (b : Bool) → has_term us t ≡ b → AreSome ts (add_term t us)
      by t k h us some true e = subst (AreSome ts) (sym (add-old t us e)) some
      by t k h us some false e =
          let before = terms-keep (operands_of t) k (closed-operands ts closed t h) us some in
          subst (AreSome ts) (sym (add-new t us e)) (some-end ts (add_terms us (operands_of t)) t before (lacks-still t (operands_of t) (operands-smaller t) us e) h)

  all-keep : (these : List Term) → AllByRecursion Keeps these
  all-keep [] = tt
  all-keep (t ∷ these) = (keeps t, all-keep these)

  copy-fits : (these : List Term) → AllByRecursion (λ u. has_term ts u ≡ true) these → length (add_terms [] these) ≤ length ts
  unfolding IsDistinct
  copy-fits these h =
      let some = terms-keep these (all-keep these) h [] (record { distinct = tt; inside = λ q e. cc e }) in
      length-le_from_is_member same-equiv (add_terms [] these) ts some.distinct some.inside

nodes-there : (terms : List Term) (ns : List ℕ) → AreNodes terms ns → AllByRecursion (λ u. has_term terms u ≡ true) (terms_at terms ns)
nodes-there terms [] h = tt
nodes-there terms (n ∷ ns) h = (has-term_at terms n (first-node terms n ns h), nodes-there terms ns (other-nodes terms n ns h))

-- a pool as large as a region's may be has room for the region's terms
pub region-fits : (table : Table) (ns : List ℕ) (region : List Term) → IsTable table → AreNodes table.terms ns → length table.terms ≤ MAX_REGION_NODES → region ≡ terms_at table.terms ns → length (add_terms [] region) ≤ MAX_REGION_NODES
region-fits table ns region kept h few is =
    let all = copy-fits table.terms (table-closed table kept) (terms_at table.terms ns) (nodes-there table.terms ns h) in
    omega (arith, all, few, ap (λ (ts : List Term). length (add_terms [] ts)) is)
