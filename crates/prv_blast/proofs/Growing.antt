-- What a list of terms grows by where a term and its subterms are added.
use Rattle.std.proofs.Common.{◌≡◌, ℕ, zero, suc, ◌+◌, ◌<◌, Bool, true, false, List, [], ◌∷◌, ◌++◌, length, refl, sym, ap, ◌∙◌, subst, arith, append_assoc, append-nil, get_or, if◌then◌else◌}
use Rattle.std.specs.List.{All, AllByRecursion}
use Rattle.prv_model.specs.declared.term.Term.{Term, out-Term}
use Rattle.prv_model.specs.declared.term.Term.TheVariants.{Param, Op, Pick, Num}
use Rattle.prv_model.specs.declared.term.Term.TheOpen.{Term-F}
use Rattle.prv_pool.specs.Tables.{node_operands, has_term, add_term, add_terms}
use Rattle.prv_pool.proofs.Shapes.{out-Param, out-Op, out-Pick, out-Num, add-Param, add-Op, add-Pick, add-Num}
use Rattle.prv_pool.proofs.TableLemmas.{by-term, has-more, has-at}
use Rattle.prv_pool.proofs.NodeLemmas.{get-end}

-- ---- terms by their operands

-- the operands of a term, from left to right
abbrev pub operands_of : Term → List Term
operands_of t = node_operands (out-Term t)

-- what is true of a term where it is true of its operands is true of each term
module _ (P : Term → Type 0) (step : (t : Term) → AllByRecursion P (operands_of t) → P t) where
  pub by-operands : (t : Term) → P t
  by-operands =
      by-term P
      (λ k. step (Param k) (subst (λ (y : Term-F Term). AllByRecursion P (node_operands y)) (sym (out-Param k)) tt))
      (λ o a b ha hb. step (Op o a b) (subst (λ (y : Term-F Term). AllByRecursion P (node_operands y)) (sym (out-Op o a b)) (ha, (hb, tt))))
      (λ t a b ht ha hb. step (Pick t a b) (subst (λ (y : Term-F Term). AllByRecursion P (node_operands y)) (sym (out-Pick t a b)) (ht, (ha, (hb, tt)))))
      (λ n. step (Num n) (subst (λ (y : Term-F Term). AllByRecursion P (node_operands y)) (sym (out-Num n)) tt))

-- ---- one term

added_or : Term → List Term → List Term → List Term
added_or t ts ops = if has_term ts t then ts else add_terms ts ops ++ t ∷ []

-- a term goes behind its operands, where it isn't there
pub add-law : (t : Term) (ts : List Term) → add_term t ts ≡ (if has_term ts t then ts else add_terms ts (operands_of t) ++ t ∷ [])
add-law =
    by-term (λ t. (ts : List Term) → add_term t ts ≡ (if has_term ts t then ts else add_terms ts (operands_of t) ++ t ∷ []))
    (λ k ts. add-Param k ts ∙ ap (λ (y : Term-F Term). if has_term ts (Param k) then ts else add_terms ts (node_operands y) ++ Param k ∷ []) (sym (out-Param k)))
    (λ o a b _ _ ts. add-Op o a b ts ∙ ap (λ (y : Term-F Term). if has_term ts (Op o a b) then ts else add_terms ts (node_operands y) ++ Op o a b ∷ []) (sym (out-Op o a b)))
    (λ t a b _ _ _ ts. add-Pick t a b ts ∙ ap (λ (y : Term-F Term). if has_term ts (Pick t a b) then ts else add_terms ts (node_operands y) ++ Pick t a b ∷ []) (sym (out-Pick t a b)))
    (λ n ts. add-Num n ts ∙ ap (λ (y : Term-F Term). if has_term ts (Num n) then ts else add_terms ts (node_operands y) ++ Num n ∷ []) (sym (out-Num n)))

pub add-new : (t : Term) (ts : List Term) → has_term ts t ≡ false → add_term t ts ≡ add_terms ts (operands_of t) ++ t ∷ []
add-new t ts h = add-law t ts ∙ ap (λ (b : Bool). if b then ts else add_terms ts (operands_of t) ++ t ∷ []) h

pub add-old : (t : Term) (ts : List Term) → has_term ts t ≡ true → add_term t ts ≡ ts
add-old t ts h = add-law t ts ∙ ap (λ (b : Bool). if b then ts else add_terms ts (operands_of t) ++ t ∷ []) h

pub has-end : (ts : List Term) (t : Term) → has_term (ts ++ t ∷ []) t ≡ true
has-end ts t = has-at (ts ++ t ∷ []) (length ts) t (get-end ts t [])

-- ---- lists in which operands come first

-- the operands of each of some terms stand before it, in the list or in those before the list
abbrev pub IsClosedOver : List Term → List Term → Type 0
IsClosedOver before [] = Unit {0}
IsClosedOver before (t ∷ ts) = AllByRecursion (λ u. has_term before u ≡ true) (operands_of t) × IsClosedOver (before ++ t ∷ []) ts

pub closed-append : (before xs ys : List Term) → IsClosedOver before xs → IsClosedOver (before ++ xs) ys → IsClosedOver before (xs ++ ys)
closed-append before [] ys h k = subst (λ (ts : List Term). IsClosedOver ts ys) (append-nil before) k
closed-append before (x ∷ xs) ys h k = (h.0, closed-append (before ++ x ∷ []) xs ys h.1 (subst (λ (ts : List Term). IsClosedOver ts ys) (sym (append_assoc before (x ∷ []) xs)) k))

pub closed-first : (before xs ys : List Term) → IsClosedOver before (xs ++ ys) → IsClosedOver before xs
closed-first before [] ys h = tt
closed-first before (x ∷ xs) ys h = (h.0, closed-first (before ++ x ∷ []) xs ys h.1)

pub closed-later : (before xs ys : List Term) → IsClosedOver before (xs ++ ys) → IsClosedOver (before ++ xs) ys
closed-later before [] ys h = subst (λ (ts : List Term). IsClosedOver ts ys) (sym (append-nil before)) h
closed-later before (x ∷ xs) ys h = subst (λ (ts : List Term). IsClosedOver ts ys) (append_assoc before (x ∷ []) xs) (closed-later (before ++ x ∷ []) xs ys h.1)

-- what a list grows by where some terms are added: they are there then, and operands come first
pub record Growth (ops : List Term) (old new : List Term) : Type 0 where
  pub more : List Term
  pub grown : new ≡ old ++ more
  pub closed : IsClosedOver old more
  pub there : AllByRecursion (λ u. has_term new u ≡ true) ops

has-all-more : (ts more ops : List Term) → AllByRecursion (λ u. has_term ts u ≡ true) ops → AllByRecursion (λ u. has_term (ts ++ more) u ≡ true) ops
has-all-more ts more [] h = tt
has-all-more ts more (u ∷ ops) h = (has-more ts more u h.0, has-all-more ts more ops h.1)

abbrev Grows-by : Term → Type 0
Grows-by t = (ts : List Term) → Growth (t ∷ []) ts (add_term t ts)

terms-growth : (ops ts : List Term) → AllByRecursion Grows-by ops → Growth ops ts (add_terms ts ops)
terms-growth [] ts h = record { more = []; grown = sym (append-nil ts); closed = tt; there = tt }
terms-growth (u ∷ ops) ts h =
    let first = h.0 ts in
    let rest = terms-growth ops (add_term u ts) h.1 in
    record {
      more = first.more ++ rest.more;
      grown = rest.grown ∙ ap (λ (us : List Term). us ++ rest.more) first.grown ∙ append_assoc ts first.more rest.more;
      closed = closed-append ts first.more rest.more first.closed (subst (λ (us : List Term). IsClosedOver us rest.more) first.grown rest.closed);
      there = (subst (λ (us : List Term). has_term us u ≡ true) (sym rest.grown) (has-more (add_term u ts) rest.more u first.there.0), rest.there);
    }

pub term-growth : (t : Term) (ts : List Term) → Growth (t ∷ []) ts (add_term t ts)
term-growth = by-operands Grows-by (λ t h ts. by t h ts (has_term ts t) refl)
  where
    by : (t : Term) → AllByRecursion Grows-by (operands_of t) → (ts : List Term) (b : Bool) → has_term ts t ≡ b → Growth (t ∷ []) ts (add_term t ts)
    by t h ts true e = record {
      more = [];
      grown = add-old t ts e ∙ sym (append-nil ts);
      closed = tt;
      there = (subst (λ (us : List Term). has_term us t ≡ true) (sym (add-old t ts e)) e, tt);
    }
    by t h ts false e =
        let ops = terms-growth (operands_of t) ts h in
        record {
          more = ops.more ++ t ∷ [];
          grown = add-new t ts e ∙ ap (λ (us : List Term). us ++ t ∷ []) ops.grown ∙ append_assoc ts ops.more (t ∷ []);
          closed = closed-append ts ops.more (t ∷ []) ops.closed (subst (λ (us : List Term). AllByRecursion (λ u. has_term us u ≡ true) (operands_of t)) ops.grown ops.there, tt);
          there = (subst (λ (us : List Term). has_term us t ≡ true) (sym (add-new t ts e)) (has-end (add_terms ts (operands_of t)) t), tt);
        }

pub add-grown : (ts us : List Term) → Growth us ts (add_terms ts us)
add-grown ts us = terms-growth us ts (all us)
  where
    all : (us : List Term) → AllByRecursion Grows-by us
    all [] = tt
    all (u ∷ us) = (term-growth u, all us)

-- ---- what is true of terms and their operands

pub recursive-all : {X : Type 0} (Q : X → Type 0) (xs : List X) → AllByRecursion Q xs → All Q xs
recursive-all Q [] h = λ k d less. absurd (omega arith)
recursive-all {X = X} Q (x ∷ xs) h = by (recursive-all Q xs h.1)
  where
    by : All Q xs → (k : ℕ) (d : X) → k < length (x ∷ xs) → Q (get_or (x ∷ xs) k d)
    by rest zero d less = h.0
    by rest (suc k) d less = rest k d (omega arith)

pub all-recursive : {X : Type 0} (Q : X → Type 0) (xs : List X) → All Q xs → AllByRecursion Q xs
all-recursive Q [] h = tt
all-recursive Q (x ∷ xs) h = (h 0 x (omega arith), all-recursive Q xs (λ k d less. h (suc k) d (omega arith)))

pub all-first : {X : Type 0} (Q : X → Type 0) (xs ys : List X) → AllByRecursion Q (xs ++ ys) → AllByRecursion Q xs
all-first Q [] ys h = tt
all-first Q (x ∷ xs) ys h = (h.0, all-first Q xs ys h.1)

pub all-later : {X : Type 0} (Q : X → Type 0) (xs ys : List X) → AllByRecursion Q (xs ++ ys) → AllByRecursion Q ys
all-later Q [] ys h = h
all-later Q (x ∷ xs) ys h = all-later Q xs ys h.1

pub all-append : {X : Type 0} (Q : X → Type 0) (xs ys : List X) → AllByRecursion Q xs → AllByRecursion Q ys → AllByRecursion Q (xs ++ ys)
all-append Q [] ys h k = k
all-append Q (x ∷ xs) ys h k = (h.0, all-append Q xs ys h.1 k)

module _ (Q : Term → Type 0) (down : (t : Term) → Q t → AllByRecursion Q (operands_of t)) where
  abbrev Keeps : Term → Type 0
  Keeps t = Q t → (ts : List Term) → AllByRecursion Q ts → AllByRecursion Q (add_term t ts)

  terms-keep : (ops : List Term) → AllByRecursion Keeps ops → AllByRecursion Q ops → (ts : List Term) → AllByRecursion Q ts → AllByRecursion Q (add_terms ts ops)
  terms-keep [] h q ts k = k
  terms-keep (u ∷ ops) h q ts k = terms-keep ops h.1 q.1 (add_term u ts) (h.0 q.0 ts k)

  pub term-keeps : (t : Term) → Keeps t
  term-keeps = by-operands Keeps (λ t h q ts k. by t h q ts k (has_term ts t) refl)
    where
      by : (t : Term) → AllByRecursion Keeps (operands_of t) → Q t → (ts : List Term) → AllByRecursion Q ts → (b : Bool) → has_term ts t ≡ b → AllByRecursion Q (add_term t ts)
      by t h q ts k true e = subst (AllByRecursion Q) (sym (add-old t ts e)) k
      by t h q ts k false e =
          subst (AllByRecursion Q) (sym (add-new t ts e)) (all-append Q (add_terms ts (operands_of t)) (t ∷ []) (terms-keep (operands_of t) h (down t q) ts k) (q, tt))

  pub terms-kept : (us ts : List Term) → AllByRecursion Q us → AllByRecursion Q ts → AllByRecursion Q (add_terms ts us)
  terms-kept [] ts q k = k
  terms-kept (u ∷ us) ts q k = terms-kept us (add_term u ts) q.1 (term-keeps u q.0 ts k)
