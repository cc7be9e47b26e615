-- A walk to the operands of a term changes nothing of what is added in the end.
use Rattle.std.proofs.Common.{◌≡◌, ℕ, ◌+◌, ◌<◌, ◌≤◌, Bool, true, false, ◌||◌, List, [], ◌∷◌, ◌++◌, refl, sym, ap, ◌∙◌, arith}
use Rattle.std.specs.List.{AllByRecursion}
use Rattle.prv_model.specs.TermOrder.{same_term}
use Rattle.prv_model.specs.declared.term.Term.{Term, out-Term, roll-Term, roll-out-Term}
use Rattle.prv_model.specs.declared.term.Term.TheOpen.{Term-F}
use Rattle.prv_model.specs.declared.term.Term.TheFolds.{fold-Term, fold-roll-Term}
use Rattle.prv_pool.specs.Tables.{node_operands, has_term, add_term, add_terms}
use Rattle.prv_pool.proofs.TableLemmas.{has-append, has-more, same-not}
use Rattle.prv_blast.proofs.Growing.{operands_of, by-operands, add-new, add-old, term-growth}

-- ---- what is added is lacks larger than the term

abbrev node_size : Term-F ℕ → ℕ
node_size (Term-F.Param k) = 1
node_size (Term-F.Op o a b) = 1 + (a + b)
node_size (Term-F.Pick c a b) = 1 + (c + (a + b))
node_size (Term-F.Num n) = 1

-- how many nodes a term has as a tree
abbrev pub size : Term → ℕ
size = fold-Term ℕ node_size

pub operands-smaller : (t : Term) → AllByRecursion (λ u. size u < size t) (operands_of t)
operands-smaller t = by (out-Term t) (sym (roll-out-Term t))
  where
    by : (y : Term-F Term) → t ≡ roll-Term y → AllByRecursion (λ u. size u < size t) (node_operands y)
    by (Term-F.Param k) e = tt
    by (Term-F.Num n) e = tt
    by (Term-F.Op o a b) e =
        let s : size t ≡ 1 + (size a + size b) = ap size e ∙ fold-roll-Term ℕ node_size (Term-F.Op o a b) in
        (omega arith, (omega arith, tt))
    by (Term-F.Pick c a b) e =
        let s : size t ≡ 1 + (size c + (size a + size b)) = ap size e ∙ fold-roll-Term ℕ node_size (Term-F.Pick c a b) in
        (omega arith, (omega arith, (omega arith, tt)))

module _ (u : Term) where
  abbrev Lacks : Term → Type 0
  Lacks t = (ts : List Term) → size t < size u → has_term ts u ≡ false → has_term (add_term t ts) u ≡ false

  terms-lack : (bound : ℕ) → bound ≤ size u → (ops : List Term) → AllByRecursion Lacks ops → AllByRecursion (λ o. size o < bound) ops → (ts : List Term) → has_term ts u ≡ false → has_term (add_terms ts ops) u ≡ false
  terms-lack bound le [] h less ts lacks = lacks
  terms-lack bound le (o ∷ ops) h less ts lacks = terms-lack bound le ops h.1 less.1 (add_term o ts) (h.0 ts (omega (arith, less.0)) lacks)

  pub add-lacks : (t : Term) → Lacks t
  add-lacks = by-operands Lacks (λ t h ts less lacks. by t h ts less lacks (has_term ts t) refl)
    where
      by : (t : Term) → AllByRecursion Lacks (operands_of t) → (ts : List Term) → size t < size u → has_term ts u ≡ false → (b : Bool) → has_term ts t ≡ b → has_term (add_term t ts) u ≡ false
      by t h ts less lacks true e = ap (λ (us : List Term). has_term us u) (add-old t ts e) ∙ lacks
      by t h ts less lacks false e =
          let other : same_term u t ≡ false = same-not u t (λ same. let s = ap size same in omega arith) in
          let before = terms-lack (size t) (omega arith) (operands_of t) h (operands-smaller t) ts lacks in
          ap (λ (us : List Term). has_term us u) (add-new t ts e) ∙ has-append (add_terms ts (operands_of t)) (t ∷ []) u ∙ (λ i. before i || (other i || false))

-- ---- an operand that is added first changes nothing

terms-first : (pre post : List Term) (m : Term) (ts : List Term) → AllByRecursion (λ u. has_term ts u ≡ true) pre → add_terms (add_term m ts) (pre ++ m ∷ post) ≡ add_terms ts (pre ++ m ∷ post)
terms-first [] post m ts h = ap (λ (us : List Term). add_terms us post) (add-old m (add_term m ts) (term-growth m ts).there.0)
terms-first (p ∷ pre) post m ts h =
    let g = term-growth m ts in
    let kept : has_term (add_term m ts) p ≡ true = ap (λ (us : List Term). has_term us p) g.grown ∙ has-more ts g.more p h.0 in
    ap (λ (us : List Term). add_terms us (pre ++ m ∷ post)) (add-old p (add_term m ts) kept)
    ∙ terms-first pre post m ts h.1
    ∙ sym (ap (λ (us : List Term). add_terms us (pre ++ m ∷ post)) (add-old p ts h.0))

pub operand-first : (t : Term) (pre post : List Term) (m : Term) (ts : List Term) → operands_of t ≡ pre ++ m ∷ post → AllByRecursion (λ u. has_term ts u ≡ true) pre → has_term ts t ≡ false → size m < size t
    → add_term t (add_term m ts) ≡ add_term t ts
operand-first t pre post m ts ops h lacks less =
    add-new t (add_term m ts) (add-lacks t m ts less lacks)
    ∙ ap (λ (us : List Term). us ++ t ∷ []) (ap (add_terms (add_term m ts)) ops ∙ terms-first pre post m ts h ∙ sym (ap (add_terms ts) ops))
    ∙ sym (add-new t ts lacks)

terms-there : (ops ts : List Term) → AllByRecursion (λ u. has_term ts u ≡ true) ops → add_terms ts ops ≡ ts
terms-there [] ts h = refl
terms-there (o ∷ ops) ts h = ap (λ (us : List Term). add_terms us ops) (add-old o ts h.0) ∙ terms-there ops ts h.1

-- a term whose operands are there goes last
pub add-last : (t : Term) (ts : List Term) → AllByRecursion (λ u. has_term ts u ≡ true) (operands_of t) → has_term ts t ≡ false → add_term t ts ≡ ts ++ t ∷ []
add-last t ts h lacks = add-new t ts lacks ∙ ap (λ (us : List Term). us ++ t ∷ []) (terms-there (operands_of t) ts h)
