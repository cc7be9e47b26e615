-- The terms that nodes stand for.
use Rattle.std.proofs.Common.{◌≡◌, pos, ℕ, zero, suc, ◌+◌, ◌<◌, ◌≤◌, Bool, false, List, [], ◌∷◌, ◌++◌, length, Option, Some, None, slice_get, refl, sym, ap, ◌∙◌, subst, arith, append_assoc, append-nil, length-append, unwrap_or}
use Rattle.std.specs.Option.{option_map}
use Rattle.prv_model.specs.declared.term.Term.{Term, out-Term}
use Rattle.prv_model.specs.declared.term.Term.TheVariants.{Op, Pick, Num}
use Rattle.prv_pool.specs.Tables.{term_at}
use Rattle.prv_pool.specs.Nodes.{node_term, AreBelow, terms_from, terms_of, node_at, IsPool}
use Rattle.prv_pool.specs.declared.node.Node.{Node}
use Rattle.prv_pool.specs.declared.node.Node.TheVariants as node
use Rattle.prv_pool.proofs.Shapes.{out-Param, out-Op, out-Pick, out-Num}

-- ---- lists

pub get-append : {X : Type 0} (xs ys : List X) (i : ℕ) → i < length xs → slice_get (xs ++ ys) i ≡ slice_get xs i
get-append [] ys i h = absurd (omega arith)
get-append (x ∷ xs) ys zero h = refl
get-append (x ∷ xs) ys (suc i) h = get-append xs ys i (omega arith)

pub get-end : {X : Type 0} (xs : List X) (y : X) (ys : List X) → slice_get (xs ++ y ∷ ys) (length xs) ≡ Some y
get-end [] y ys = refl
get-end (x ∷ xs) y ys = get-end xs y ys

pub get-within : {X : Type 0} (xs : List X) (i : ℕ) (x : X) → slice_get xs i ≡ Some x → i < length xs
get-within [] i x e = cc
get-within (y ∷ xs) zero x e = omega arith
get-within (y ∷ xs) (suc i) x e = let h = get-within xs i x e in omega arith

pub get-some : {X : Type 0} (xs : List X) (i : ℕ) (d : X) → i < length xs → slice_get xs i ≡ Some (unwrap_or (slice_get xs i) d)
get-some [] i d h = absurd (omega arith)
get-some (x ∷ xs) zero d h = refl
get-some (x ∷ xs) (suc i) d h = get-some xs i d (omega arith)

-- ---- terms by their numbers

pub term_at-append : (ts us : List Term) (i : ℕ) → i < length ts → term_at (ts ++ us) i ≡ term_at ts i
term_at-append ts us i h = ap (λ (t : Option Term). unwrap_or t (Num (pos 0))) (get-append ts us i h)

pub term_at-some : (ts : List Term) (i : ℕ) (t : Term) → slice_get ts i ≡ Some t → term_at ts i ≡ t
term_at-some ts i t e = ap (λ (o : Option Term). unwrap_or o (Num (pos 0))) e

pub term_at-get : (ts : List Term) (i : ℕ) → i < length ts → slice_get ts i ≡ Some (term_at ts i)
term_at-get ts i h = get-some ts i (Num (pos 0)) h

pub node_term-append : (ts us : List Term) (n : Node) → AreBelow (length ts) n → node_term (ts ++ us) n ≡ node_term ts n
node_term-append ts us (node.Param k) h = refl
node_term-append ts us (node.Num k) h = refl
node_term-append ts us (node.Op op a b) h = λ i. Op op (term_at-append ts us a h.0 i) (term_at-append ts us b h.1 i)
node_term-append ts us (node.Pick c a b) h = λ i. Pick (term_at-append ts us c h.0 i) (term_at-append ts us a h.1 i) (term_at-append ts us b h.2 i)

pub below-more : (m n : ℕ) (k : Node) → m ≤ n → AreBelow m k → AreBelow n k
below-more m n (node.Param k) le h = tt
below-more m n (node.Num k) le h = tt
below-more m n (node.Op op a b) le h = (omega (arith, h.0), omega (arith, h.1))
below-more m n (node.Pick c a b) le h = (omega (arith, h.0), omega (arith, h.1), omega (arith, h.2))

-- ---- the terms of nodes

-- the terms behind those that are made
pub later : List Term → List (Node × Bool) → List Term
later made [] = []
later made (n ∷ rest) = node_term made n.0 ∷ later (made ++ node_term made n.0 ∷ []) rest

pub terms_from-later : (made : List Term) (ns : List (Node × Bool)) → terms_from made ns ≡ made ++ later made ns
unfolding later
terms_from-later made [] = sym (append-nil made)
terms_from-later made (n ∷ rest) = terms_from-later (made ++ node_term made n.0 ∷ []) rest ∙ append_assoc made (node_term made n.0 ∷ []) (later (made ++ node_term made n.0 ∷ []) rest)

pub terms_from-push : (made : List Term) (ns : List (Node × Bool)) (n : Node × Bool) → terms_from made (ns ++ n ∷ []) ≡ terms_from made ns ++ node_term (terms_from made ns) n.0 ∷ []
terms_from-push made [] n = refl
terms_from-push made (m ∷ rest) n = terms_from-push (made ++ node_term made m.0 ∷ []) rest n

pub terms_of-push : (ns : List (Node × Bool)) (n : Node × Bool) → terms_of (ns ++ n ∷ []) ≡ terms_of ns ++ node_term (terms_of ns) n.0 ∷ []
terms_of-push ns n = terms_from-push [] ns n

length-terms_from : (made : List Term) (ns : List (Node × Bool)) → length (terms_from made ns) ≡ length made + length ns
length-terms_from made [] = omega arith
length-terms_from made (n ∷ rest) = length-terms_from (made ++ node_term made n.0 ∷ []) rest ∙ omega (arith, length-append {A = Term})

pub length-terms_of : (ns : List (Node × Bool)) → length (terms_of ns) ≡ length ns
length-terms_of ns = length-terms_from [] ns ∙ omega arith

at-from : (made : List Term) (ns : List (Node × Bool)) (i : ℕ) (n : Node × Bool) → slice_get ns i ≡ Some n
    → ((j : ℕ) (m : Node × Bool) → slice_get ns j ≡ Some m → AreBelow (length made + j) m.0)
    → slice_get (terms_from made ns) (length made + i) ≡ Some (node_term (terms_from made ns) n.0)
at-from made [] i n e below = cc
at-from made (m ∷ rest) zero n e below =
    let made' = made ++ node_term made m.0 ∷ [] in
    let low : AreBelow (length made) m.0 = below-more (length made + 0) (length made) m.0 (omega arith) (below 0 m refl) in
    let longer : length made < length made' = omega (arith, length-append {A = Term}) in
    let low' : AreBelow (length made') m.0 = below-more (length made) (length made') m.0 (omega arith) low in
    let same : m ≡ n = cc in
    let here : slice_get (terms_from made' rest) (length made) ≡ Some (node_term made m.0) =
    ap (λ (ts : List Term). slice_get ts (length made)) (terms_from-later made' rest) ∙ get-append made' (later made' rest) (length made) longer ∙ get-end made (node_term made m.0) [] in
    let term : node_term (terms_from made' rest) m.0 ≡ node_term made m.0 =
    ap (λ (ts : List Term). node_term ts m.0) (terms_from-later made' rest) ∙ node_term-append made' (later made' rest) m.0 low' ∙ node_term-append made (node_term made m.0 ∷ []) m.0 low in
    ap (slice_get (terms_from made' rest)) (omega arith) ∙ here ∙ ap Some (sym term) ∙ ap (λ (k : Node × Bool). Some (node_term (terms_from made' rest) k.0)) same
at-from made (m ∷ rest) (suc i) n e below =
    let made' = made ++ node_term made m.0 ∷ [] in
    let longer : length made' ≡ length made + 1 = length-append made (node_term made m.0 ∷ []) in
    ap (slice_get (terms_from made' rest)) (omega (arith, longer))
    ∙ at-from made' rest i n e (λ j k d. below-more (length made + suc j) (length made' + j) k.0 (omega (arith, longer)) (below (suc j) k d))

-- the term of a node
pub term-of-node : {ns : List (Node × Bool)} {max : ℕ} → IsPool ns max → (i : ℕ) (n : Node × Bool) → slice_get ns i ≡ Some n → slice_get (terms_of ns) i ≡ Some (node_term (terms_of ns) n.0)
term-of-node {ns} p i n e =
    ap (slice_get (terms_of ns)) (omega arith) ∙ at-from [] ns i n e (λ j m d. below-more j (length {A = Term} [] + j) m.0 (omega arith) (p.before j m d))

pub node_at-some : (ns : List (Node × Bool)) (i : ℕ) (k : Node) → node_at ns i ≡ Some k → (n : Node × Bool) × (slice_get ns i ≡ Some n) × (n.0 ≡ k)
node_at-some ns i k e = by (slice_get ns i) refl e
  where
    by : (o : Option (Node × Bool)) → slice_get ns i ≡ o → option_map (λ (n : Node × Bool). n.0) o ≡ Some k → (n : Node × Bool) × (slice_get ns i ≡ Some n) × (n.0 ≡ k)
    by None d f = cc
    by (Some n) d f = (n, d, cc)

pub term-of-node_at : {ns : List (Node × Bool)} {max : ℕ} → IsPool ns max → (i : ℕ) (k : Node) → node_at ns i ≡ Some k → slice_get (terms_of ns) i ≡ Some (node_term (terms_of ns) k)
term-of-node_at {ns} p i k e =
    let found = node_at-some ns i k e in
    term-of-node p i found.0 found.1 ∙ ap (λ (m : Node). Some (node_term (terms_of ns) m)) found.2

pub node_at-within : (ns : List (Node × Bool)) (i : ℕ) (k : Node) → node_at ns i ≡ Some k → i < length ns
node_at-within ns i k e = let found = node_at-some ns i k e in get-within ns i found.0 found.1

pub node-within : (ns : List (Node × Bool)) (i : ℕ) → i < length ns → (k : Node) × (node_at ns i ≡ Some k)
node-within ns i h =
    let n = unwrap_or (slice_get ns i) (node.Num (pos 0), false) in
    (n.0, ap (option_map (λ (m : Node × Bool). m.0)) (get-some ns i (node.Num (pos 0), false) h))

pub node-below : {ns : List (Node × Bool)} {max : ℕ} → IsPool ns max → (i : ℕ) (k : Node) → node_at ns i ≡ Some k → AreBelow i k
node-below {ns} p i k e = let found = node_at-some ns i k e in subst (AreBelow i) found.2 (p.before i found.0 found.1)

-- ---- terms are distinct

-- numbers below a bound are told apart by their terms
abbrev pub TellsApart : List Term → ℕ → Type 0
TellsApart ts bound = (i j : ℕ) → i < bound → j < length ts → term_at ts i ≡ term_at ts j → i ≡ j

pub node-injective : (ts : List Term) (bound : ℕ) → TellsApart ts bound → (m n : Node) → AreBelow bound m → AreBelow (length ts) n → node_term ts m ≡ node_term ts n → m ≡ n
node-injective ts bound apart (node.Param j) (node.Param k) h g e = let f = sym (out-Param j) ∙ ap out-Term e ∙ out-Param k in cc
node-injective ts bound apart (node.Param j) (node.Num k) h g e = let f = sym (out-Param j) ∙ ap out-Term e ∙ out-Num k in cc
node-injective ts bound apart (node.Param j) (node.Op p x y) h g e = let f = sym (out-Param j) ∙ ap out-Term e ∙ out-Op p _ _ in cc
node-injective ts bound apart (node.Param j) (node.Pick u x y) h g e = let f = sym (out-Param j) ∙ ap out-Term e ∙ out-Pick _ _ _ in cc
node-injective ts bound apart (node.Num j) (node.Param k) h g e = let f = sym (out-Num j) ∙ ap out-Term e ∙ out-Param k in cc
node-injective ts bound apart (node.Num j) (node.Num k) h g e = let f = sym (out-Num j) ∙ ap out-Term e ∙ out-Num k in cc
node-injective ts bound apart (node.Num j) (node.Op p x y) h g e = let f = sym (out-Num j) ∙ ap out-Term e ∙ out-Op p _ _ in cc
node-injective ts bound apart (node.Num j) (node.Pick u x y) h g e = let f = sym (out-Num j) ∙ ap out-Term e ∙ out-Pick _ _ _ in cc
node-injective ts bound apart (node.Op o a b) (node.Param k) h g e = let f = sym (out-Op o _ _) ∙ ap out-Term e ∙ out-Param k in cc
node-injective ts bound apart (node.Op o a b) (node.Num k) h g e = let f = sym (out-Op o _ _) ∙ ap out-Term e ∙ out-Num k in cc
node-injective ts bound apart (node.Op o a b) (node.Op p x y) h g e =
    let f = sym (out-Op o (term_at ts a) (term_at ts b)) ∙ ap out-Term e ∙ out-Op p (term_at ts x) (term_at ts y) in
    let first = apart a x h.0 g.0 (cc) in
    let second = apart b y h.1 g.1 (cc) in
    cc
node-injective ts bound apart (node.Op o a b) (node.Pick u x y) h g e = let f = sym (out-Op o _ _) ∙ ap out-Term e ∙ out-Pick _ _ _ in cc
node-injective ts bound apart (node.Pick c a b) (node.Param k) h g e = let f = sym (out-Pick _ _ _) ∙ ap out-Term e ∙ out-Param k in cc
node-injective ts bound apart (node.Pick c a b) (node.Num k) h g e = let f = sym (out-Pick _ _ _) ∙ ap out-Term e ∙ out-Num k in cc
node-injective ts bound apart (node.Pick c a b) (node.Op p x y) h g e = let f = sym (out-Pick _ _ _) ∙ ap out-Term e ∙ out-Op p _ _ in cc
node-injective ts bound apart (node.Pick c a b) (node.Pick u x y) h g e =
    let f = sym (out-Pick (term_at ts c) (term_at ts a) (term_at ts b)) ∙ ap out-Term e ∙ out-Pick (term_at ts u) (term_at ts x) (term_at ts y) in
    let test = apart c u h.0 g.0 (cc) in
    let first = apart a x h.1 g.1 (cc) in
    let second = apart b y h.2 g.2 (cc) in
    cc

apart-below : {ns : List (Node × Bool)} {max : ℕ} → IsPool ns max → (bound : ℕ) → bound ≤ length ns → TellsApart (terms_of ns) bound
apart-below p zero le i j h k e = absurd (omega arith)
apart-below {ns} p (suc bound) le i j h k e =
    let long = length-terms_of ns in
    let here = node-within ns i (omega arith) in
    let there = node-within ns j (omega (arith, long)) in
    let ti = term_at-some _ i _ (term-of-node_at p i here.0 here.1) in
    let tj = term_at-some _ j _ (term-of-node_at p j there.0 there.1) in
    let low = below-more i bound here.0 (omega arith) (node-below p i here.0 here.1) in
    let low' = below-more j (length (terms_of ns)) there.0 (omega (arith, long)) (node-below p j there.0 there.1) in
    let same = node-injective (terms_of ns) bound (apart-below p bound (omega arith)) here.0 there.0 low low' (sym ti ∙ e ∙ tj) in
    p.distinct i j there.0 (here.1 ∙ ap Some same) there.1

pub terms-apart : {ns : List (Node × Bool)} {max : ℕ} → IsPool ns max → TellsApart (terms_of ns) (length (terms_of ns))
terms-apart {ns} p i j h k e = apart-below p (length ns) (omega arith) i j (omega (arith, length-terms_of ns)) k e

-- in a pool, a node is known by its term
pub node-of-term : {ns : List (Node × Bool)} {max : ℕ} → IsPool ns max → (m n : Node) → AreBelow (length ns) m → AreBelow (length ns) n → node_term (terms_of ns) m ≡ node_term (terms_of ns) n → m ≡ n
node-of-term {ns} p m n h g e =
    let long = length-terms_of ns in
    node-injective (terms_of ns) (length (terms_of ns)) (terms-apart p) m n (below-more _ _ m (omega arith) h) (below-more _ _ n (omega arith) g) e
