-- Lists that have a term, and by what they grow.
use Rattle.std.proofs.Common.{◌≡◌, ◌≢◌, ℤ, pos, ℕ, zero, suc, ◌<◌, Bool, true, false, ◌||◌, List, [], ◌∷◌, ◌++◌, length, take, drop, Some, slice_get, refl, sym, ap, ◌∙◌, subst, arith, if◌then◌else◌}
use Rattle.prv_model.specs.TermOrder.{same_term}
use Rattle.prv_model.proofs.OrderLemmas.{same_term-same}
use Rattle.prv_model.specs.declared.op.TermOp.{TermOp}
use Rattle.prv_model.specs.declared.term.Term.{Term, roll-Term, map-Term, out-Term}
use Rattle.prv_model.specs.declared.term.Term.TheVariants.{Param, Op, Pick, Num, rolls-Param, rolls-Op, rolls-Pick, rolls-Num}
use Rattle.prv_model.specs.declared.term.Term.TheOpen.{Term-F}
use Rattle.prv_model.specs.declared.term.Term.TheFolds.{ind-Term}
use Rattle.std.proofs.lemmas.List.{take-append-drop}
use Rattle.std.specs.List.{AllByRecursion}
use Rattle.prv_pool.specs.Tables.{Table, IsTable, node_operands, term_at, has_term, add_term}
use Rattle.prv_pool.specs.Nodes.{node_term, AreBelow, terms_of, node_at, IsPool}
use Rattle.prv_pool.specs.declared.node.Node.{Node}
use Rattle.prv_pool.specs.declared.node.Node.TheVariants as node
use Rattle.prv_pool.proofs.Shapes.{out-Param, out-Op, out-Pick, out-Num, add-Param, add-Op, add-Pick, add-Num}
use Rattle.prv_pool.proofs.NodeLemmas.{get-within, term_at-get, term_at-some, term-of-node_at, node-within, node-below, length-terms_of}

-- ---- induction on terms

module _ (P : Term → Type 0) (param : (k : ℕ) → P (Param k)) (op : (o : TermOp) (a b : Term) → P a → P b → P (Op o a b)) (pick : (t a b : Term) → P t → P a → P b → P (Pick t a b)) (num : (n : ℤ) → P (Num n)) where
  by-node : (y : Term-F ((t : Term) × P t)) → P (roll-Term (map-Term ((t : Term) × P t) Term (λ e. e.0) y))
  by-node (Term-F.Param k) = subst P (sym (rolls-Param k)) (param k)
  by-node (Term-F.Op o a b) = subst P (sym (rolls-Op o a.0 b.0)) (op o a.0 b.0 a.1 b.1)
  by-node (Term-F.Pick t a b) = subst P (sym (rolls-Pick t.0 a.0 b.0)) (pick t.0 a.0 b.0 t.1 a.1 b.1)
  by-node (Term-F.Num n) = subst P (sym (rolls-Num n)) (num n)

  pub by-term : (t : Term) → P t
  by-term t = ind-Term P (λ z y is. subst (λ w. P (roll-Term w)) is (by-node y)) t

-- ---- lists that have a term

pub same-itself : (t : Term) → same_term t t ≡ true
same-itself t = (same_term-same t t).1 refl

pub same-not : (t u : Term) → t ≢ u → same_term t u ≡ false
same-not t u h = by (same_term t u) refl
  where
    by : (b : Bool) → same_term t u ≡ b → same_term t u ≡ false
    by true e = absurd (h ((same_term-same t u).0 e))
    by false e = e

pub has-at : (ts : List Term) (i : ℕ) (t : Term) → slice_get ts i ≡ Some t → has_term ts t ≡ true
has-at [] i t e = cc
has-at (u ∷ ts) zero t e = let same : t ≡ u = cc in ap (λ (b : Bool). b || has_term ts t) ((same_term-same t u).1 same)
has-at (u ∷ ts) (suc i) t e = by (same_term t u) (has-at ts i t e)
  where
    by : (b : Bool) → has_term ts t ≡ true → (b || has_term ts t) ≡ true
    by true h = refl
    by false h = h

pub has-found : (ts : List Term) (t : Term) → has_term ts t ≡ true → (i : ℕ) × (slice_get ts i ≡ Some t)
has-found [] t e = cc
has-found (u ∷ ts) t e = by (same_term t u) refl e (has-found ts t)
  where
    by : (b : Bool) → same_term t u ≡ b → (b || has_term ts t) ≡ true → (has_term ts t ≡ true → (i : ℕ) × (slice_get ts i ≡ Some t)) → (i : ℕ) × (slice_get (u ∷ ts) i ≡ Some t)
    by true d f later = (0, ap Some (sym ((same_term-same t u).0 d)))
    by false d f later = let rest = later f in (suc rest.0, rest.1)

pub has-not : (ts : List Term) (t : Term) → ((i : ℕ) → slice_get ts i ≢ Some t) → has_term ts t ≡ false
has-not ts t h = by (has_term ts t) refl
  where
    by : (b : Bool) → has_term ts t ≡ b → has_term ts t ≡ false
    by true e = let found = has-found ts t e in absurd (h found.0 found.1)
    by false e = e

pub has-append : (ts us : List Term) (t : Term) → has_term (ts ++ us) t ≡ (has_term ts t || has_term us t)
has-append [] us t = refl
has-append (u ∷ ts) us t = by (same_term t u) (has-append ts us t)
  where
    by : (b : Bool) → has_term (ts ++ us) t ≡ (has_term ts t || has_term us t) → (b || has_term (ts ++ us) t) ≡ ((b || has_term ts t) || has_term us t)
    by true e = refl
    by false e = e

pub has-more : (ts us : List Term) (t : Term) → has_term ts t ≡ true → has_term (ts ++ us) t ≡ true
has-more ts us t h = has-append ts us t ∙ ap (λ (b : Bool). b || has_term us t) h

pub has-term_at : (ts : List Term) (i : ℕ) → i < length ts → has_term ts (term_at ts i) ≡ true
has-term_at ts i h = has-at ts i (term_at ts i) (term_at-get ts i h)

-- ---- by what a list grows

pub then-is : {X : Type 0} (b : Bool) (x y : X) → b ≡ true → (if b then x else y) ≡ x
then-is true x y e = refl
then-is false x y e = cc

pub else-is : {X : Type 0} (b : Bool) (x y : X) → b ≡ false → (if b then x else y) ≡ y
else-is true x y e = cc
else-is false x y e = refl

-- a term that is there
pub add-there : (t : Term) (ts : List Term) → has_term ts t ≡ true → add_term t ts ≡ ts
add-there =
    by-term (λ t. (ts : List Term) → has_term ts t ≡ true → add_term t ts ≡ ts)
    (λ k ts h. add-Param k ts ∙ then-is _ _ _ h)
    (λ o a b _ _ ts h. add-Op o a b ts ∙ then-is _ _ _ h)
    (λ t a b _ _ _ ts h. add-Pick t a b ts ∙ then-is _ _ _ h)
    (λ n ts h. add-Num n ts ∙ then-is _ _ _ h)

-- a new node
pub add-node : (ts : List Term) (n : Node) → AreBelow (length ts) n → has_term ts (node_term ts n) ≡ false → add_term (node_term ts n) ts ≡ ts ++ node_term ts n ∷ []
add-node ts (node.Param k) h new = add-Param k ts ∙ else-is _ _ _ new
add-node ts (node.Num k) h new = add-Num k ts ∙ else-is _ _ _ new
add-node ts (node.Op o a b) h new =
    let first = add-there (term_at ts a) ts (has-term_at ts a h.0) in
    let second = add-there (term_at ts b) ts (has-term_at ts b h.1) in
    add-Op o _ _ ts ∙ else-is _ _ _ new ∙ ap (λ (us : List Term). us ++ Op o (term_at ts a) (term_at ts b) ∷ []) (ap (add_term (term_at ts b)) first ∙ second)
add-node ts (node.Pick c a b) h new =
    let test = add-there (term_at ts c) ts (has-term_at ts c h.0) in
    let first = add-there (term_at ts a) ts (has-term_at ts a h.1) in
    let second = add-there (term_at ts b) ts (has-term_at ts b h.2) in
    add-Pick _ _ _ ts ∙ else-is _ _ _ new
    ∙ ap (λ (us : List Term). us ++ Pick (term_at ts c) (term_at ts a) (term_at ts b) ∷ []) (ap (λ (us : List Term). add_term (term_at ts b) (add_term (term_at ts a) us)) test ∙ ap (add_term (term_at ts b)) first ∙ second)

-- 0 and an operator on a term and 0, both new
pub add-with-zero : (ts : List Term) (o : TermOp) (n : ℕ) → n < length ts → has_term ts (Num (pos 0)) ≡ false → has_term ts (Op o (term_at ts n) (Num (pos 0))) ≡ false
    → add_term (Op o (term_at ts n) (Num (pos 0))) ts ≡ (ts ++ Num (pos 0) ∷ []) ++ Op o (term_at ts n) (Num (pos 0)) ∷ []
add-with-zero ts o n h zero-new new =
    let first = add-there (term_at ts n) ts (has-term_at ts n h) in
    let second = add-Num (pos 0) ts ∙ else-is _ _ _ zero-new in
    add-Op o _ _ ts ∙ else-is _ _ _ new ∙ ap (λ (us : List Term). us ++ Op o (term_at ts n) (Num (pos 0)) ∷ []) (ap (add_term (Num (pos 0))) first ∙ second)

-- ---- pools are closed

-- the operands of an operator that a list has are there
abbrev pub IsClosed : List Term → Type 0
IsClosed ts =
    ((o : TermOp) (a b : Term) → has_term ts (Op o a b) ≡ true → (has_term ts a ≡ true) × (has_term ts b ≡ true))
    × ((t a b : Term) → has_term ts (Pick t a b) ≡ true → (has_term ts t ≡ true) × (has_term ts a ≡ true) × (has_term ts b ≡ true))

op-of-node : (ts : List Term) (i : ℕ) (k : Node) → AreBelow i k → i < length ts → (o : TermOp) (a b : Term) → node_term ts k ≡ Op o a b → (has_term ts a ≡ true) × (has_term ts b ≡ true)
op-of-node ts i (node.Param k) low h o a b e = let f = sym (out-Param k) ∙ ap out-Term e ∙ out-Op o a b in cc
op-of-node ts i (node.Num k) low h o a b e = let f = sym (out-Num k) ∙ ap out-Term e ∙ out-Op o a b in cc
op-of-node ts i (node.Pick c x y) low h o a b e = let f = sym (out-Pick _ _ _) ∙ ap out-Term e ∙ out-Op o a b in cc
op-of-node ts i (node.Op p x y) low h o a b e =
    let f = sym (out-Op p (term_at ts x) (term_at ts y)) ∙ ap out-Term e ∙ out-Op o a b in
    let first : term_at ts x ≡ a = cc in
    let second : term_at ts y ≡ b = cc in
    (ap (has_term ts) (sym first) ∙ has-term_at ts x (omega (arith, low.0)), ap (has_term ts) (sym second) ∙ has-term_at ts y (omega (arith, low.1)))

pick-of-node : (ts : List Term) (i : ℕ) (k : Node) → AreBelow i k → i < length ts → (t a b : Term) → node_term ts k ≡ Pick t a b → (has_term ts t ≡ true) × (has_term ts a ≡ true) × (has_term ts b ≡ true)
pick-of-node ts i (node.Param k) low h t a b e = let f = sym (out-Param k) ∙ ap out-Term e ∙ out-Pick t a b in cc
pick-of-node ts i (node.Num k) low h t a b e = let f = sym (out-Num k) ∙ ap out-Term e ∙ out-Pick t a b in cc
pick-of-node ts i (node.Op p x y) low h t a b e = let f = sym (out-Op p _ _) ∙ ap out-Term e ∙ out-Pick t a b in cc
pick-of-node ts i (node.Pick c x y) low h t a b e =
    let f = sym (out-Pick (term_at ts c) (term_at ts x) (term_at ts y)) ∙ ap out-Term e ∙ out-Pick t a b in
    let test : term_at ts c ≡ t = cc in
    let first : term_at ts x ≡ a = cc in
    let second : term_at ts y ≡ b = cc in
    (ap (has_term ts) (sym test) ∙ has-term_at ts c (omega (arith, low.0)), ap (has_term ts) (sym first) ∙ has-term_at ts x (omega (arith, low.1)), ap (has_term ts) (sym second) ∙ has-term_at ts y (omega (arith, low.2)))

-- the node of a term that a pool has
pub node-of-has : {ns : List (Node × Bool)} {max : ℕ} → IsPool ns max → (t : Term) → has_term (terms_of ns) t ≡ true
    → (i : ℕ) × (k : Node) × (i < length ns) × (node_at ns i ≡ Some k) × (node_term (terms_of ns) k ≡ t)
node-of-has {ns} p t h =
    let found = has-found (terms_of ns) t h in
    let within : found.0 < length ns = omega (arith, get-within (terms_of ns) found.0 t found.1, length-terms_of ns) in
    let k = node-within ns found.0 within in
    let e = term-of-node_at p found.0 k.0 k.1 in
    (found.0, k.0, within, k.1, cc)

pub pool-closed : {ns : List (Node × Bool)} {max : ℕ} → IsPool ns max → IsClosed (terms_of ns)
pool-closed {ns} p = (
  λ o a b h.
      let n = node-of-has p (Op o a b) h in
      op-of-node (terms_of ns) n.0 n.1 (node-below p n.0 n.1 n.3) (omega (arith, n.2, length-terms_of ns)) o a b n.4,
  λ t a b h.
      let n = node-of-has p (Pick t a b) h in
      pick-of-node (terms_of ns) n.0 n.1 (node-below p n.0 n.1 n.3) (omega (arith, n.2, length-terms_of ns)) t a b n.4,
)

-- ---- tables are closed

has-take : (n : ℕ) (ts : List Term) (t : Term) → has_term (take n ts) t ≡ true → has_term ts t ≡ true
has-take n ts t h = ap (λ (us : List Term). has_term us t) (sym (take-append-drop n ts)) ∙ has-more (take n ts) (drop n ts) t h

-- a table without 0 has no operator on a term and 0
pub lacks-at : (table : Table) → IsTable table → (n : ℕ) (o : TermOp) (a : Term) → n < length table.terms → has_term table.terms (Num (pos 0)) ≡ false → same_term (term_at table.terms n) (Op o a (Num (pos 0))) ≡ false
lacks-at table kept n o a h lacks =
    same-not (term_at table.terms n) (Op o a (Num (pos 0)))
    (λ e.
    let closed = subst (λ (x : Term-F Term). AllByRecursion (λ t. has_term (take n table.terms) t ≡ true) (node_operands x)) (ap out-Term e ∙ out-Op o a (Num (pos 0))) (kept.closed n h) in
    let there = has-take n table.terms (Num (pos 0)) closed.1.0 in
    cc)

-- the operands of a term that a table has
operands-there : (table : Table) → IsTable table → (t : Term) → has_term table.terms t ≡ true → AllByRecursion (λ u. has_term table.terms u ≡ true) (node_operands (out-Term t))
operands-there table kept t h =
    let found = has-found table.terms t h in
    let within = get-within table.terms found.0 t found.1 in
    let here = kept.closed found.0 within in
    let ts = table.terms in
    subst (λ (u : Term). AllByRecursion (λ v. has_term ts v ≡ true) (node_operands (out-Term u))) (term_at-some ts found.0 t found.1)
    (all-more found.0 (node_operands (out-Term (term_at ts found.0))) here)
  where
    all-more : (n : ℕ) (us : List Term) → AllByRecursion (λ v. has_term (take n table.terms) v ≡ true) us → AllByRecursion (λ v. has_term table.terms v ≡ true) us
    all-more n [] a = tt
    all-more n (u ∷ us) a = (has-take n table.terms u a.0, all-more n us a.1)

pub table-closed : (table : Table) → IsTable table → IsClosed table.terms
table-closed table kept = (
  λ o a b h.
      let these = subst (λ (x : Term-F Term). AllByRecursion (λ u. has_term table.terms u ≡ true) (node_operands x)) (out-Op o a b) (operands-there table kept (Op o a b) h) in
      (these.0, these.1.0),
  λ t a b h.
      let these = subst (λ (x : Term-F Term). AllByRecursion (λ u. has_term table.terms u ≡ true) (node_operands x)) (out-Pick t a b) (operands-there table kept (Pick t a b) h) in
      (these.0, these.1.0, these.1.1.0),
)
