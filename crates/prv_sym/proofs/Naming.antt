-- How calls that name terms follow one another.
use Rattle.std.proofs.Common.{◌≡◌, ℕ, ◌+◌, ◌<◌, Bool, true, false, List, [], ◌∷◌, ◌++◌, length, Option, Some, Result, Ok, Err, IfOk, refl, sym, ap, ◌∙◌, subst, append_assoc, slice_get, unwrap_or, pos, zero, suc, if◌then◌else◌, arith, length-append}
use Rattle.std.proofs.lemmas.List.{append-nil}
use Rattle.prv_model.specs.declared.term.Term.{Term, roll-Term, map-Term}
use Rattle.prv_model.specs.declared.term.Term.TheVariants.{Num}
use Rattle.prv_model.specs.declared.term.Term.TheOpen.{Term-F}
use Rattle.prv_model.specs.declared.term.Term.TheFolds.{para-roll-Term, ind-Term}
use Rattle.prv_pool.specs.Tables.{Table, Makes, has_term, term_at, add_term, add_terms, node_added}
use Rattle.prv_pool.specs.declared.error.PoolError.{PoolError}
use Rattle.prv_pool.specs.declared.error.PoolError.TheVariants.{Wide}
use Rattle.prv_sym.specs.declared.symbol_nodes.SymbolNodes.{SymbolNodes}
use Rattle.prv_sym.specs.Calls.{Names, StandsFor, AreIn, symbol_at}

-- a list that has got a term has its front as before
abbrev pub Grows : List Term → List Term → Type 0
Grows old new = (made : List Term) × (new ≡ old ++ made)

pub grows-none : (old : List Term) → Grows old old
grows-none old = ([], sym (append-nil old))

pub grows-on : (old mid new : List Term) → Grows old mid → Grows mid new → Grows old new
grows-on old mid new first second =
    (first.0 ++ second.0, second.1 ∙ ap (λ (xs : List Term). xs ++ second.0) first.1 ∙ append_assoc old first.0 second.0)

abbrev Adds : Term → Type 0
Adds t = (terms : List Term) → Grows terms (add_term t terms)

-- one node: its operands, and then its own term
added : (b : Bool) (terms inner : List Term) (t : Term) → Grows terms inner → Grows terms (if b then terms else inner ++ t ∷ [])
added true terms inner t h = grows-none terms
added false terms inner t h = grows-on terms inner (inner ++ t ∷ []) h (t ∷ [], refl)

adds-step : (y : Term-F ((t : Term) × Adds t)) → Adds (roll-Term (map-Term ((t : Term) × Adds t) Term (λ e. e.0) y))
adds-step (Term-F.Param k) = λ terms. subst (λ (f : List Term → List Term). Grows terms (f terms)) (sym (para-roll-Term (List Term → List Term) node_added (Term-F.Param k)))
    (added (has_term terms (roll-Term (Term-F.Param k))) terms terms (roll-Term (Term-F.Param k)) (grows-none terms))
adds-step (Term-F.Num n) = λ terms. subst (λ (f : List Term → List Term). Grows terms (f terms)) (sym (para-roll-Term (List Term → List Term) node_added (Term-F.Num n)))
    (added (has_term terms (roll-Term (Term-F.Num n))) terms terms (roll-Term (Term-F.Num n)) (grows-none terms))
adds-step (Term-F.Op op a b) = λ terms. subst (λ (f : List Term → List Term). Grows terms (f terms)) (sym (para-roll-Term (List Term → List Term) node_added (Term-F.Op op a.0 b.0)))
    (added (has_term terms (roll-Term (Term-F.Op op a.0 b.0))) terms _ (roll-Term (Term-F.Op op a.0 b.0)) (grows-on terms _ _ (a.1 terms) (b.1 (add_term a.0 terms))))
adds-step (Term-F.Pick c a b) = λ terms. subst (λ (f : List Term → List Term). Grows terms (f terms)) (sym (para-roll-Term (List Term → List Term) node_added (Term-F.Pick c.0 a.0 b.0)))
    (added (has_term terms (roll-Term (Term-F.Pick c.0 a.0 b.0))) terms _ (roll-Term (Term-F.Pick c.0 a.0 b.0))
    (grows-on terms _ _ (c.1 terms) (grows-on _ _ _ (a.1 (add_term c.0 terms)) (b.1 (add_term a.0 (add_term c.0 terms))))))

-- a list with a term has what it had at its front
pub add_term-grows : (t : Term) (terms : List Term) → Grows terms (add_term t terms)
add_term-grows t = ind-Term Adds (λ z y is. subst (λ (w : Term-F Term). Adds (roll-Term w)) is (adds-step y)) t

pub add_terms-grows : (more terms : List Term) → Grows terms (add_terms terms more)
add_terms-grows [] terms = grows-none terms
add_terms-grows (t ∷ more) terms = grows-on terms (add_term t terms) _ (add_term-grows t terms) (add_terms-grows more (add_term t terms))

-- a table that got all that is named has nothing else
pub only-all : (more old new : List Term) → new ≡ add_terms old more → Grows new (add_terms old more)
only-all more old new is = ([], sym is ∙ sym (append-nil new))

-- a table that got nothing has a beginning of what it was to get
pub only-none : (more old new : List Term) → new ≡ old → Grows new (add_terms old more)
only-none more old new is = subst (λ (terms : List Term). Grows terms (add_terms old more)) (sym is) (add_terms-grows more old)

pub add_terms-append : (a b terms : List Term) → add_terms terms (a ++ b) ≡ add_terms (add_terms terms a) b
add_terms-append [] b terms = refl
add_terms-append (t ∷ a) b terms = add_terms-append a b (add_term t terms)

-- one call that makes a term
pub names-one : (t : Term) (old new : Table) (r : Result ℕ PoolError) → Makes t old new r → Names (t ∷ []) old new r
names-one t old new (Ok n) m = record {
  grows = m.grows;
  kept = ((add_term-grows t old.terms).0, m.grows ∙ (add_term-grows t old.terms).1);
  only = only-all (t ∷ []) old.terms new.terms m.grows;
  limit = m.limit;
  wide = λ e. m.wide.0 e;
}
names-one t old new (Err e) m = record {
  grows = tt;
  kept = ([], ap (λ (table : Table). table.terms) m.refused ∙ sym (append-nil old.terms));
  only = only-none (t ∷ []) old.terms new.terms (ap (λ (table : Table). table.terms) m.refused);
  limit = m.limit;
  wide = λ e. m.wide.0 e;
}

-- what two calls name, after the first was answered
both-named : {A : Type 0} (a b : List Term) (old mid : Table) (x : A) → Names a old mid (Ok x) → add_terms old.terms (a ++ b) ≡ add_terms mid.terms b
both-named a b old mid x first = add_terms-append a b old.terms ∙ ap (λ (terms : List Term). add_terms terms b) (sym first.grows)

-- two calls, of which the first was answered
pub names-then : {A B : Type 0} (a b : List Term) (old mid new : Table) (x : A) (r : Result B PoolError) → Names a old mid (Ok x) → Names b mid new r → Names (a ++ b) old new r
names-then a b old mid new x (Ok y) first second = record {
  grows = second.grows ∙ sym (both-named a b old mid x first);
  kept = grows-on old.terms mid.terms new.terms first.kept second.kept;
  only = (second.only.0, both-named a b old mid x first ∙ second.only.1);
  limit = second.limit ∙ first.limit;
  wide = λ e. absurd (cc);
}
names-then a b old mid new x (Err e) first second = record {
  grows = tt;
  kept = grows-on old.terms mid.terms new.terms first.kept second.kept;
  only = (second.only.0, both-named a b old mid x first ∙ second.only.1);
  limit = second.limit ∙ first.limit;
  wide = λ is.
      subst (λ (n : ℕ). n < length (add_terms old.terms (a ++ b))) first.limit
      (subst (λ (terms : List Term). mid.max_nodes < length terms) (sym (both-named a b old mid x first)) (second.wide is));
}

wide-is : {B : Type 0} (e : PoolError) (r : Result B PoolError) → r ≡ Err e → r ≡ Err Wide → e ≡ Wide
wide-is e r a b = cc

-- the first of two calls, where it was refused
pub names-stop : {A B : Type 0} (a b : List Term) (old new : Table) (e : PoolError) → Names {A = A} a old new (Err e) → Names {A = B} (a ++ b) old new (Err e)
names-stop a b old new e first = record {
  grows = tt;
  kept = first.kept;
  only = subst (λ (terms : List Term). Grows new.terms terms) (sym (add_terms-append a b old.terms)) (grows-on new.terms _ _ first.only (add_terms-grows b (add_terms old.terms a)));
  limit = first.limit;
  wide = λ is.
      let more = add_terms-grows b (add_terms old.terms a) in
      let long : length (add_terms old.terms (a ++ b)) ≡ length (add_terms old.terms a) + length more.0 =
      ap (λ (xs : List Term). length xs) (add_terms-append a b old.terms ∙ more.1) ∙ length-append (add_terms old.terms a) more.0 in
      let small : old.max_nodes < length (add_terms old.terms a) = first.wide (ap Err (wide-is e (Err e) refl is)) in
      omega arith;
}

-- a node keeps its term
pub stands-on : (old new : List Term) (n : ℕ) (t : Term) → Grows old new → StandsFor old n t → StandsFor new n t
stands-on old new n t h is = subst (λ (xs : List Term). slice_get xs n ≡ Some t) (sym h.1) (front old h.0 n is)
  where
    front : (xs more : List Term) (k : ℕ) → slice_get xs k ≡ Some t → slice_get (xs ++ more) k ≡ Some t
    front [] more k e = cc
    front (x ∷ xs) more zero e = e
    front (x ∷ xs) more (suc k) e = front xs more k e

-- the term of a node that is there, and of one that stands for a term
pub stands-at : (terms : List Term) (n : ℕ) (t : Term) → StandsFor terms n t → term_at terms n ≡ t
stands-at terms n t is = ap (λ (o : Option Term). unwrap_or o (Num (pos 0))) is

pub stands-in : (terms : List Term) (n : ℕ) (t : Term) → StandsFor terms n t → n < length terms
stands-in [] n t is = absurd (cc)
stands-in (x ∷ terms) zero t is = omega arith
stands-in (x ∷ terms) (suc n) t is = let below = stands-in terms n t is in omega arith

pub there : (terms : List Term) (n : ℕ) → n < length terms → StandsFor terms n (term_at terms n)
there [] n below = absurd (omega arith)
there (x ∷ terms) zero below = refl
there (x ∷ terms) (suc n) below = there terms n (omega arith)

pub term-kept : (old new : List Term) (n : ℕ) → Grows old new → n < length old → term_at new n ≡ term_at old n
term-kept old new n h below = stands-at new n (term_at old n) (stands-on old new n _ h (there old n below))

pub still-in : (old new : List Term) (n : ℕ) → Grows old new → n < length old → n < length new
still-in old new n h below = stands-in new n (term_at old n) (stands-on old new n _ h (there old n below))

-- a call that makes a term behind those that were named
pub names-more : {A : Type 0} (more : List Term) (t : Term) (old mid new : Table) (x : A) (r : Result ℕ PoolError) → Names more old mid (Ok x) → Makes t mid new r → Names (more ++ t ∷ []) old new r
names-more more t old mid new x r first m = names-then more (t ∷ []) old mid new x r first (names-one t mid new r m)

-- what one call made
pub grown : (t : Term) (old mid : Table) (n : ℕ) → Makes t old mid (Ok n) → Grows old.terms mid.terms
grown t old mid n m = ((add_term-grows t old.terms).0, m.grows ∙ (add_term-grows t old.terms).1)

pub made-at : (t : Term) (old mid : Table) (n : ℕ) → Makes t old mid (Ok n) → term_at mid.terms n ≡ t
made-at t old mid n m = stands-at mid.terms n t m.stands

pub made-in : (t : Term) (old mid : Table) (n : ℕ) → Makes t old mid (Ok n) → n < length mid.terms
made-in t old mid n m = stands-in mid.terms n t m.stands

-- a node that was there before a call
pub kept-at : (t : Term) (old mid : Table) (n k : ℕ) → Makes t old mid (Ok n) → k < length old.terms → term_at mid.terms k ≡ term_at old.terms k
kept-at t old mid n k m h = term-kept old.terms mid.terms k (grown t old mid n m) h

pub kept-in : (t : Term) (old mid : Table) (n k : ℕ) → Makes t old mid (Ok n) → k < length old.terms → k < length mid.terms
kept-in t old mid n k m h = still-in old.terms mid.terms k (grown t old mid n m) h

-- a call whose term is another one's
pub makes-as : (t u : Term) (old new : Table) (r : Result ℕ PoolError) → t ≡ u → Makes t old new r → Makes u old new r
makes-as t u old new r is m = subst (λ (x : Term). Makes x old new r) is m

pub names-as : {A : Type 0} (a b : List Term) (old new : Table) (r : Result A PoolError) → a ≡ b → Names a old new r → Names b old new r
names-as a b old new r is m = subst (λ (x : List Term). Names x old new r) is m

-- chains of calls: all were answered, or the last was refused
pub one-refused : {B : Type 0} (t : Term) (rest : List Term) (old new : Table) (e : PoolError) → Makes t old new (Err e) → Names {A = B} (t ∷ rest) old new (Err e)
one-refused t rest old new e m = names-stop (t ∷ []) rest old new e (names-one t old new (Err e) m)

pub two-named : (t u : Term) (old mid new : Table) (n : ℕ) (r : Result ℕ PoolError) → Makes t old mid (Ok n) → Makes u mid new r → Names (t ∷ u ∷ []) old new r
two-named t u old mid new n r first second = names-more (t ∷ []) u old mid new n r (names-one t old mid (Ok n) first) second

pub two-refused : {B : Type 0} (t u : Term) (rest : List Term) (old mid new : Table) (n : ℕ) (e : PoolError) → Makes t old mid (Ok n) → Makes u mid new (Err e) → Names {A = B} (t ∷ u ∷ rest) old new (Err e)
two-refused t u rest old mid new n e first second = names-stop (t ∷ u ∷ []) rest old new e (two-named t u old mid new n (Err e) first second)

pub three-named : (t u v : Term) (old mid far new : Table) (n m : ℕ) (r : Result ℕ PoolError) → Makes t old mid (Ok n) → Makes u mid far (Ok m) → Makes v far new r → Names (t ∷ u ∷ v ∷ []) old new r
three-named t u v old mid far new n m r first second third = names-more (t ∷ u ∷ []) v old far new m r (two-named t u old mid far n (Ok m) first second) third

pub three-refused : {B : Type 0} (t u v : Term) (rest : List Term) (old mid far new : Table) (n m : ℕ) (e : PoolError) → Makes t old mid (Ok n) → Makes u mid far (Ok m) → Makes v far new (Err e) →
    Names {A = B} (t ∷ u ∷ v ∷ rest) old new (Err e)
three-refused t u v rest old mid far new n m e first second third = names-stop (t ∷ u ∷ v ∷ []) rest old new e (three-named t u v old mid far new n m (Err e) first second third)

pub four-named : (t u v w : Term) (old mid far last new : Table) (n m k : ℕ) (r : Result ℕ PoolError) → Makes t old mid (Ok n) → Makes u mid far (Ok m) → Makes v far last (Ok k) → Makes w last new r →
    Names (t ∷ u ∷ v ∷ w ∷ []) old new r
four-named t u v w old mid far last new n m k r first second third fourth =
    names-more (t ∷ u ∷ v ∷ []) w old last new k r (three-named t u v old mid far last n m (Ok k) first second third) fourth

-- the answer of a call that names terms may be another one
pub answered : {A B : Type 0} (more : List Term) (old new : Table) (x : A) (y : B) → Names more old new (Ok x) → Names more old new (Ok y)
answered more old new x y n = record { grows = n.grows; kept = n.kept; only = n.only; limit = n.limit; wide = λ e. absurd (cc) }

pub refused : {A B : Type 0} (more : List Term) (old new : Table) (e : PoolError) → Names {A = A} more old new (Err e) → Names {A = B} more old new (Err e)
refused more old new e n = record { grows = tt; kept = n.kept; only = n.only; limit = n.limit; wide = λ is. n.wide (ap Err (wide-is e (Err e) refl is)) }

-- a node that stands for a term stands for an equal one
pub stands-as : (terms : List Term) (t u : Term) (r : Result ℕ PoolError) → t ≡ u → IfOk r (λ n. StandsFor terms n t) → IfOk r (λ n. StandsFor terms n u)
stands-as terms t u r is h = subst (λ (x : Term). IfOk r (λ n. StandsFor terms n x)) is h

-- two nodes in a table that has grown
pub symbol-kept : (old new : List Term) (x : SymbolNodes) → Grows old new → AreIn old x → symbol_at new x ≡ symbol_at old x
symbol-kept old new x h is = λ i. record { term = term-kept old new x.value h is.0 i; safe = term-kept old new x.safe h is.1 i }

pub in-kept : (old new : List Term) (x : SymbolNodes) → Grows old new → AreIn old x → AreIn new x
in-kept old new x h is = (still-in old new x.value h is.0, still-in old new x.safe h is.1)
