-- What a pool keeps, as its nodes grow and are cut.
use Rattle.std.proofs.Common.{◌≡◌, ◌≢◌, ◌⊎◌, inl, inr, pos, ℕ, zero, suc, ◌+◌, ◌<◌, Bool, true, false, ◌||◌, ◌&&◌, List, [], ◌∷◌, ◌++◌, length, take, Option, Some, slice_get, refl, sym, ap, ◌∙◌, subst, arith, append-nil, length-append, Result, Ok, Err, unwrap_or, length-take}
use Rattle.std.proofs.lemmas.Bool.{cases_lt}
use Rattle.std.proofs.Math.Seq.{take-append-add}
use Rattle.std.specs.List.{AllByRecursion}
use Rattle.std.specs.Option.{option_map}
use Rattle.std.specs.Prelude.{IsErrAnd}
use Rattle.prv_pool.specs.declared.error.PoolError.{PoolError}
use Rattle.prv_pool.specs.declared.error.PoolError.TheVariants.{Wide, Memory}
use Rattle.prv_model.specs.declared.term.Term.{Term, out-Term}
use Rattle.prv_model.specs.declared.term.Term.TheVariants.{Num}
use Rattle.prv_model.specs.declared.term.Term.TheOpen.{Term-F}
use Rattle.prv_pool.specs.Folding.{is_truth_shaped, is_folded, compares, joins}
use Rattle.prv_pool.specs.Tables.{term_at, has_term, node_operands, IsTable}
use Rattle.prv_pool.specs.Nodes.{node_term, AreBelow, terms_from, terms_of, node_at, truth_at, is_truth_of, AreDistinct, IsPool, table_of}
use Rattle.prv_pool.specs.declared.node.Node.{Node}
use Rattle.prv_pool.specs.declared.node.Node.TheVariants as node
use Rattle.prv_pool.proofs.Shapes.{out-Param, out-Op, out-Pick, out-Num, truth-Param, truth-Op, truth-Pick, truth-Num}
use Rattle.prv_pool.proofs.NodeLemmas.{get-end, get-within, get-some, term_at-append, term_at-some, term_at-get, node_at-some, node_at-within, node-within, node-below, below-more, length-terms_of, later, terms_from-later, terms_of-push, terms-apart, term-of-node_at, node-of-term}
use Rattle.prv_model.specs.TermOrder.{same_term}
use Rattle.prv_pool.proofs.KeyLemmas.{same_node, same_node-true, same_node-itself}
use Rattle.prv_pool.proofs.TableLemmas.{has-at, has-not, same-itself, same-not}

-- ---- one more at the end

pub get-push : {X : Type 0} (xs : List X) (y : X) (i : ℕ) (x : X) → slice_get (xs ++ y ∷ []) i ≡ Some x → (slice_get xs i ≡ Some x) ⊎ ((i ≡ length xs) × (x ≡ y))
get-push [] y zero x e = inr (refl, cc)
get-push [] y (suc i) x e = cc
get-push (z ∷ xs) y zero x e = inl e
get-push (z ∷ xs) y (suc i) x e = elim (get-push xs y i x e) [ inl h ↦ inl h | inr h ↦ inr (ap suc h.0, h.1) ]

pub get-take : {X : Type 0} (n : ℕ) (xs : List X) (i : ℕ) (x : X) → slice_get (take n xs) i ≡ Some x → slice_get xs i ≡ Some x
get-take zero xs i x e = cc
get-take (suc n) [] i x e = cc
get-take (suc n) (y ∷ xs) zero x e = e
get-take (suc n) (y ∷ xs) (suc i) x e = get-take n xs i x e

-- ---- truths

pub truth_at-is : {ns : List (Node × Bool)} {max : ℕ} → IsPool ns max → (i : ℕ) → i < length ns → truth_at ns i ≡ is_truth_shaped (term_at (terms_of ns) i)
truth_at-is {ns} p i h =
    let e = get-some ns i (node.Num (pos 0), false) h in
    ap (λ (o : Option (Node × Bool)). unwrap_or (option_map (λ (n : Node × Bool). n.1) o) false) e ∙ p.truths i (unwrap_or (slice_get ns i) (node.Num (pos 0), false)) e

pub truth-of-node : {ns : List (Node × Bool)} {max : ℕ} → IsPool ns max → (n : Node) → AreBelow (length ns) n → is_truth_of ns n ≡ is_truth_shaped (node_term (terms_of ns) n)
truth-of-node p (node.Param k) h = sym (truth-Param k)
truth-of-node p (node.Num k) h = sym (truth-Num k)
truth-of-node p (node.Op o a b) h = (λ i. compares o || (joins o && (truth_at-is p a h.0 i && truth_at-is p b h.1 i))) ∙ sym (truth-Op o _ _)
truth-of-node p (node.Pick c a b) h = (λ i. truth_at-is p a h.1 i && truth_at-is p b h.2 i) ∙ sym (truth-Pick _ _ _)

-- ---- a pool with one more node

-- the terms that were there stay under their numbers
old-term : (ns : List (Node × Bool)) (n : Node × Bool) (i : ℕ) → i < length ns → term_at (terms_of (ns ++ n ∷ [])) i ≡ term_at (terms_of ns) i
old-term ns n i h = ap (λ (us : List Term). term_at us i) (terms_of-push ns n) ∙ term_at-append (terms_of ns) _ i (omega (arith, length-terms_of ns))

new-term : (ns : List (Node × Bool)) (n : Node × Bool) → term_at (terms_of (ns ++ n ∷ [])) (length ns) ≡ node_term (terms_of ns) n.0
new-term ns n =
    ap (λ (us : List Term). term_at us (length ns)) (terms_of-push ns n)
    ∙ ap (term_at (terms_of ns ++ node_term (terms_of ns) n.0 ∷ [])) (sym (length-terms_of ns))
    ∙ term_at-some (terms_of ns ++ node_term (terms_of ns) n.0 ∷ []) (length (terms_of ns)) _ (get-end (terms_of ns) (node_term (terms_of ns) n.0) [])

pub pool-grown : {ns : List (Node × Bool)} {max : ℕ} → IsPool ns max → (n : Node × Bool) → AreBelow (length ns) n.0 → n.1 ≡ is_truth_of ns n.0
    → is_folded (node_term (terms_of ns) n.0) ≡ true → length ns < max → AreDistinct (ns ++ n ∷ []) → IsPool (ns ++ n ∷ []) max
pool-grown {ns} {max} p n low truth folded room distinct = record {
  before = λ i m e. elim (get-push ns n i m e) [
    | inl h ↦ p.before i m h
    | inr h ↦ subst (λ (k : Node × Bool). AreBelow i k.0) (sym h.1) (subst (λ j. AreBelow j n.0) (sym h.0) low)
  ];
  distinct = distinct;
  truths = λ i m e. elim (get-push ns n i m e) [
    | inl h ↦ p.truths i m h ∙ ap is_truth_shaped (sym (old-term ns n i (get-within ns i m h)))
    | inr h ↦
        ap (λ (k : Node × Bool). k.1) h.1 ∙ truth ∙ truth-of-node p n.0 low ∙ ap is_truth_shaped (sym (new-term ns n)) ∙ ap (λ j. is_truth_shaped (term_at (terms_of (ns ++ n ∷ [])) j)) (sym h.0)
  ];
  all_folded = λ i h. elim (cases_lt i (length ns)) [
    | inl less ↦ ap is_folded (old-term ns n i less) ∙ p.all_folded i less
    | inr more ↦
        let last : i ≡ length ns = omega (arith, length-append ns (n ∷ [])) in
        ap (λ j. is_folded (term_at (terms_of (ns ++ n ∷ [])) j)) last ∙ ap is_folded (new-term ns n) ∙ folded
  ];
  within = omega (arith, length-append ns (n ∷ []));
  small = p.small;
}

-- ---- a pool that is cut

terms_from-take : (made : List Term) (ns : List (Node × Bool)) (k : ℕ) → terms_from made (take k ns) ≡ take (length made + k) (terms_from made ns)
terms_from-take made ns zero = sym (ap (take (length made + 0)) (terms_from-later made ns) ∙ take-append-add made (later made ns) 0 ∙ append-nil made)
terms_from-take made [] (suc k) = sym (ap (take (length made + suc k)) (sym (append-nil made)) ∙ take-append-add made [] (suc k) ∙ append-nil made)
terms_from-take made (n ∷ ns) (suc k) =
    let made' = made ++ node_term made n.0 ∷ [] in
    terms_from-take made' ns k ∙ ap (λ j. take j (terms_from made' ns)) (omega (arith, length-append made (node_term made n.0 ∷ [])))

get-front : {X : Type 0} (k : ℕ) (xs : List X) (i : ℕ) → i < k → slice_get (take k xs) i ≡ slice_get xs i
get-front zero xs i h = absurd (omega arith)
get-front (suc k) [] i h = refl
get-front (suc k) (x ∷ xs) zero h = refl
get-front (suc k) (x ∷ xs) (suc i) h = get-front k xs i (omega arith)

pub term_at-take : (ts : List Term) (k i : ℕ) → i < k → term_at (take k ts) i ≡ term_at ts i
term_at-take ts k i h = ap (λ (t : Option Term). unwrap_or t (Num (pos 0))) (get-front k ts i h)

pub terms_of-take : (ns : List (Node × Bool)) (k : ℕ) → terms_of (take k ns) ≡ take k (terms_of ns)
terms_of-take ns k = terms_from-take [] ns k ∙ ap (λ j. take j (terms_of ns)) (omega arith)

node_at-take : (ns : List (Node × Bool)) (k i : ℕ) (n : Node) → node_at (take k ns) i ≡ Some n → node_at ns i ≡ Some n
node_at-take ns k i n e =
    let found = node_at-some (take k ns) i n e in
    ap (option_map (λ (m : Node × Bool). m.0)) (get-take k ns i found.0 found.1) ∙ ap Some found.2

pub pool-cut : {ns : List (Node × Bool)} {max : ℕ} → IsPool ns max → (k : ℕ) → IsPool (take k ns) max
pool-cut {ns} {max} p k = record {
  before = λ i m e. p.before i m (get-take k ns i m e);
  distinct = λ i j n e f. p.distinct i j n (node_at-take ns k i n e) (node_at-take ns k j n f);
  truths = λ i m e.
      p.truths i m (get-take k ns i m e) ∙ ap is_truth_shaped (sym (ap (λ (us : List Term). term_at us i) (terms_of-take ns k) ∙ term_at-take (terms_of ns) k i (omega (arith, get-within (take k ns) i m e, length-take k ns))));
  all_folded = λ i h.
      ap is_folded (ap (λ (us : List Term). term_at us i) (terms_of-take ns k) ∙ term_at-take (terms_of ns) k i (omega (arith, length-take k ns))) ∙ p.all_folded i (omega (arith, length-take k ns));
  within = omega (arith, length-take k ns, p.within);
  small = p.small;
}

-- ---- the table of a pool

operands-all : (P : Term → Type 0) (ts : List Term) (i : ℕ) (k : Node) → ((j : ℕ) → j < i → P (term_at ts j)) → AreBelow i k → AllByRecursion P (node_operands (out-Term (node_term ts k)))
operands-all P ts i (node.Param n) each low = subst (λ (x : Term-F Term). AllByRecursion P (node_operands x)) (sym (out-Param n)) tt
operands-all P ts i (node.Num n) each low = subst (λ (x : Term-F Term). AllByRecursion P (node_operands x)) (sym (out-Num n)) tt
operands-all P ts i (node.Op o a b) each low = subst (λ (x : Term-F Term). AllByRecursion P (node_operands x)) (sym (out-Op o _ _)) (each a low.0, (each b low.1, tt))
operands-all P ts i (node.Pick c a b) each low = subst (λ (x : Term-F Term). AllByRecursion P (node_operands x)) (sym (out-Pick _ _ _)) (each c low.0, (each a low.1, (each b low.2, tt)))

pub pool-table : {ns : List (Node × Bool)} {max : ℕ} → IsPool ns max → IsTable (table_of ns max)
pool-table {ns} {max} p = record {
  distinct = λ i j h k e. terms-apart p i j h k e;
  closed = λ i h.
      let ts = terms_of ns in
      let n = node-within ns i (omega (arith, length-terms_of ns)) in
      let here : term_at ts i ≡ node_term ts n.0 = term_at-some ts i _ (term-of-node_at p i n.0 n.1) in
      let front = λ (j : ℕ) (less : j < i). has-at (take i ts) j (term_at ts j) (get-front i ts j less ∙ term_at-get ts j (omega arith)) in
      subst (λ (t : Term). AllByRecursion (λ u. has_term (take i ts) u ≡ true) (node_operands (out-Term t))) (sym here)
      (operands-all (λ u. has_term (take i ts) u ≡ true) ts i n.0 front (node-below p i n.0 n.1));
  all_folded = λ i h. p.all_folded i (omega (arith, length-terms_of ns));
  within = omega (arith, p.within, length-terms_of ns);
}

-- a node that a pool lacks, and so its term
pub node-lacks : {ns : List (Node × Bool)} {max : ℕ} → IsPool ns max → (k : Node) → AreBelow (length ns) k → ((i : ℕ) → node_at ns i ≢ Some k) → has_term (terms_of ns) (node_term (terms_of ns) k) ≡ false
node-lacks {ns} p k low lacks =
    has-not (terms_of ns) (node_term (terms_of ns) k)
    (λ i e.
    let m = node-within ns i (omega (arith, get-within (terms_of ns) i _ e, length-terms_of ns)) in
    let same : node_term (terms_of ns) m.0 ≡ node_term (terms_of ns) k = let f = term-of-node_at p i m.0 m.1 in cc in
    let small : i < length ns = omega (arith, get-within (terms_of ns) i _ e, length-terms_of ns) in
    lacks i (m.1 ∙ ap Some (node-of-term p m.0 k (below-more i (length ns) m.0 (omega arith) (node-below p i m.0 m.1)) low same)))

-- the nodes of a pool are below the length of its terms where they are below that of its nodes
pub below-terms : (ns : List (Node × Bool)) (k : Node) → AreBelow (length (terms_of ns)) k → AreBelow (length ns) k
below-terms ns k h = below-more (length (terms_of ns)) (length ns) k (omega (arith, length-terms_of ns)) h

-- two nodes are one where their terms are
pub same-as-term : {ns : List (Node × Bool)} {max : ℕ} → IsPool ns max → (m n : Node) → AreBelow (length ns) m → AreBelow (length ns) n → same_node m n ≡ same_term (node_term (terms_of ns) m) (node_term (terms_of ns) n)
same-as-term {ns} p m n h g = by (same_node m n) refl
  where
    by : (b : Bool) → same_node m n ≡ b → b ≡ same_term (node_term (terms_of ns) m) (node_term (terms_of ns) n)
    by true e = sym (ap (λ (k : Node). same_term (node_term (terms_of ns) m) (node_term (terms_of ns) k)) (sym (same_node-true m n e)) ∙ same-itself (node_term (terms_of ns) m))
    by false e = sym (same-not _ _ (λ f. let same = node-of-term p m n h g f in let yes : same_node m n ≡ true = ap (same_node m) (sym same) ∙ same_node-itself m in cc))

pub same-at : {ns : List (Node × Bool)} {max : ℕ} → IsPool ns max → (i : ℕ) (m n : Node) → node_at ns i ≡ Some m → AreBelow (length (terms_of ns)) n → same_node m n ≡ same_term (term_at (terms_of ns) i) (node_term (terms_of ns) n)
same-at {ns} p i m n e g =
    let within = node_at-within ns i m e in
    same-as-term p m n (below-more i (length ns) m (omega arith) (node-below p i m e)) (below-terms ns n g)
    ∙ ap (λ (t : Term). same_term t (node_term (terms_of ns) n)) (sym (term_at-some (terms_of ns) i _ (term-of-node_at p i m e)))

-- a new node's term is not among the terms, so the node is not among the nodes
pub is-new-node : {ns : List (Node × Bool)} {max : ℕ} → IsPool ns max → (k : Node) → has_term (terms_of ns) (node_term (terms_of ns) k) ≡ false → (i : ℕ) → node_at ns i ≢ Some k
is-new-node {ns} p k new i e = let there = has-at (terms_of ns) i _ (term-of-node_at p i k e) in cc

-- want of memory is no want of room
pub memory-not-wide : (r : Result ℕ PoolError) → IsErrAnd r (λ e. e ≡ Memory) → r ≡ Err Wide → ⊥
memory-not-wide (Ok n) h e = cc
memory-not-wide (Err w) h e = cc
