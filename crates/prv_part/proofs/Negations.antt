-- A negation is nonzero exactly where its term is 0, for any term on any input.
use Rattle.std.proofs.Common.{◌≡◌, zero, suc, Bool, true, false, ◌&&◌, not, List, ℤ, pos, negsuc, Option, Some, None, IfSome, if◌then◌else◌, unwrap_or, refl, sym, ap, ◌∙◌, arith, int_lt, int_le}
use Rattle.std.specs.Option.{option_map, option_and_then}
use Rattle.std.specs.Ordering.{int_eq}
use Rattle.std.specs.Cmp.{signed_Decides}
use Rattle.std.proofs.lemmas.Int.{ints}
use Rattle.prv_model.specs.Words.{is_zero, flag}
use Rattle.prv_model.specs.Terms.{term_value, total}
use Rattle.prv_model.specs.TermOrder.{same_term}
use Rattle.prv_model.specs.declared.op.TermOp.{TermOp}
use Rattle.prv_model.specs.declared.op.TermOp.TheVariants.{Add, Sub, Mul, Div, Rem, Shl, Shr, And, Or, Xor, Lt, Le, Eq, Ne}
use Rattle.prv_model.specs.declared.term.Term.{Term, out-Term, roll-Term, roll-out-Term}
use Rattle.prv_model.specs.declared.term.Term.TheVariants.{Op, Num, rolls-Op, rolls-Num}
use Rattle.prv_model.specs.declared.term.Term.TheOpen.{Term-F}
use Rattle.prv_model.proofs.OrderLemmas.{same_term-same}
use Rattle.prv_model.proofs.TermLemmas.{term_value-Num, term_value-Op}
use Rattle.prv_pool.specs.Folding.{node_number, as_number, is_number, is_truth_shaped, only_if, on_numbers, are_exchanged, twice, on_one_twice, beside_neutral, beside_decided, beside_zero, in_order, unequal, node_negation, negation}
use Rattle.prv_pool.proofs.FoldLaws.{truth-flag}

-- an answer, where there is one, has this value
abbrev pub Gives : List ℤ → ℤ → Option Term → Type 0
Gives x v answer = IfSome answer (λ t. term_value t x ≡ v)

-- ---- numbers

pub zero-eq : (v : ℤ) → int_eq v (pos 0) ≡ is_zero v
zero-eq (pos zero) = refl
zero-eq (pos (suc n)) = grind arith
zero-eq (negsuc n) = refl

pub equal-self : (v : ℤ) → int_eq v v ≡ true
equal-self v = (signed_Decides v v).1 refl

pub equal-comm : (v w : ℤ) → int_eq v w ≡ int_eq w v
equal-comm v w = by (int_eq v w) (int_eq w v) refl refl
  where
    by : (p q : Bool) → int_eq v w ≡ p → int_eq w v ≡ q → int_eq v w ≡ int_eq w v
    by true q e f = let s : v ≡ w = (signed_Decides v w).0 e in e ∙ sym ((signed_Decides w v).1 (sym s))
    by p true e f = let s : w ≡ v = (signed_Decides w v).0 f in (signed_Decides v w).1 (sym s) ∙ sym f
    by false false e f = e ∙ sym f

not-less : (v w : ℤ) → int_le w v ≡ is_zero (flag (int_lt v w))
not-less v w = by (int_lt v w) refl
  where
    by : (z : Bool) → int_lt v w ≡ z → int_le w v ≡ is_zero (flag z)
    by true e = grind (arith, ints, e)
    by false e = grind (arith, ints, e)

not-at-most : (v w : ℤ) → int_lt w v ≡ is_zero (flag (int_le v w))
not-at-most v w = by (int_le v w) refl
  where
    by : (z : Bool) → int_le v w ≡ z → int_lt w v ≡ is_zero (flag z)
    by true e = grind (arith, ints, e)
    by false e = grind (arith, ints, e)

zero-of-not : (p : Bool) → flag (not p) ≡ flag (is_zero (flag p))
zero-of-not true = refl
zero-of-not false = refl

zero-of : (p : Bool) → flag p ≡ flag (is_zero (flag (not p)))
zero-of true = refl
zero-of false = refl

twice-not : (p : Bool) → flag p ≡ flag (not (is_zero (flag p)))
twice-not true = refl
twice-not false = refl

pub and-left : (p q : Bool) → (p && q) ≡ true → p ≡ true
and-left true q e = refl
and-left false q e = e

pub and-right : (p q : Bool) → (p && q) ≡ true → q ≡ true
and-right true q e = e
and-right false q e = cc e

-- ---- the number that a term is

pub number-value : (t : Term) (k : ℤ) (x : List ℤ) → as_number t ≡ Some k → term_value t x ≡ k
number-value t k x e = ap (λ (u : Term). term_value u x) (sym (roll-out-Term t) ∙ by (out-Term t) e) ∙ term_value-Num k x
  where
    by : (z : Term-F Term) → node_number z ≡ Some k → roll-Term z ≡ Num k
    by (Term-F.Param j) e = cc e
    by (Term-F.Op op a b) e = cc e
    by (Term-F.Pick c a b) e = cc e
    by (Term-F.Num j) e = let same : j ≡ k = ap (λ (o : Option ℤ). unwrap_or o (pos 0)) e in rolls-Num j ∙ ap (λ (i : ℤ). Num i) same

pub this-number : (t : Term) (k : ℤ) (x : List ℤ) → is_number k t ≡ true → term_value t x ≡ k
this-number t k x e = by (as_number t) refl e
  where
    by : (o : Option ℤ) → as_number t ≡ o → unwrap_or (option_map (int_eq k) o) false ≡ true → term_value t x ≡ k
    by None f e = cc e
    by (Some m) f e = number-value t m x f ∙ sym ((signed_Decides k m).0 e)

-- ---- `a != b` by the rules

abbrev differ : ℤ → ℤ → ℤ
differ v w = flag (not (int_eq v w))

pub or-gives : (x : List ℤ) (v : ℤ) (answer : Option Term) (t : Term) → Gives x v answer → term_value t x ≡ v → term_value (unwrap_or answer t) x ≡ v
or-gives x v None t h m = m
or-gives x v (Some u) t h m = h

pub only_if-gives : (x : List ℤ) (v : ℤ) (z : Bool) (t : Term) → (z ≡ true → term_value t x ≡ v) → Gives x v (only_if z t)
only_if-gives x v true t h = h refl
only_if-gives x v false t h = tt

numbers-give : (x : List ℤ) (a b : Term) → Gives x (differ (term_value a x) (term_value b x)) (on_numbers Ne a b)
numbers-give x a b = by (as_number a) (as_number b) refl refl
  where
    by : (p q : Option ℤ) → as_number a ≡ p → as_number b ≡ q → Gives x (differ (term_value a x) (term_value b x)) (option_and_then (λ m. option_map (λ k. Num (total Ne m k)) q) p)
    by None q e f = tt
    by (Some m) None e f = tt
    by (Some m) (Some k) e f = term_value-Num (differ m k) x ∙ (λ i. differ (sym (number-value a m x e) i) (sym (number-value b k x f) i))

neutral-gives : (x : List ℤ) (v : ℤ) (a b : Term) → Gives x v (beside_neutral Ne a b)
neutral-gives x v a b = by (as_number b)
  where
    by : (o : Option ℤ) → Gives x v (only_if (unwrap_or (option_map (λ n. false) o) false) a)
    by None = tt
    by (Some k) = tt

decided-gives : (x : List ℤ) (v : ℤ) (b : Term) → Gives x v (beside_decided Ne b)
decided-gives x v b = by (as_number b)
  where
    by : (o : Option ℤ) → Gives x v (option_and_then (λ n. None) o)
    by None = tt
    by (Some k) = tt

twice-gives : (x : List ℤ) (a b : Term) → Gives x (differ (term_value a x) (term_value b x)) (on_one_twice Ne a b)
twice-gives x a b = by (same_term a b) refl
  where
    by : (z : Bool) → same_term a b ≡ z → Gives x (differ (term_value a x) (term_value b x)) (if z then twice Ne a else None)
    by false e = tt
    by true e =
        term_value-Num (pos 0) x ∙ sym (ap (λ (p : Bool). flag (not p)) (equal-self (term_value a x)))
        ∙ ap (λ (u : Term). differ (term_value a x) (term_value u x)) ((same_term-same a b).0 e)

zero-gives : (x : List ℤ) (a b : Term) → Gives x (differ (term_value a x) (term_value b x)) (beside_zero (λ t. t) Ne a b)
zero-gives x a b = only_if-gives x _ (is_truth_shaped a && is_number (pos 0) b) a (λ e.
    let f = truth-flag x a (and-left _ _ e) in
    let k = this-number b (pos 0) x (and-right (is_truth_shaped a) _ e) in
    f.1 ∙ twice-not f.0 ∙ ap (λ (v : ℤ). flag (not (is_zero v))) (sym f.1) ∙ ap (λ (p : Bool). flag (not p)) (sym (zero-eq (term_value a x))) ∙ ap (λ (w : ℤ). differ (term_value a x) w) (sym k))

in_order-value : (x : List ℤ) (a b : Term) → term_value (in_order (λ t. t) Ne a b) x ≡ differ (term_value a x) (term_value b x)
in_order-value x a b =
    or-gives x _ (beside_neutral Ne a b) _ (neutral-gives x _ a b)
    (or-gives x _ (beside_decided Ne b) _ (decided-gives x _ b)
    (or-gives x _ (on_one_twice Ne a b) _ (twice-gives x a b)
    (or-gives x _ (beside_zero (λ t. t) Ne a b) _ (zero-gives x a b) (term_value-Op Ne a b x))))

unequal-value : (x : List ℤ) (a b : Term) → term_value (unequal a b) x ≡ differ (term_value a x) (term_value b x)
unequal-value x a b = or-gives x _ (on_numbers Ne a b) _ (numbers-give x a b) (by (are_exchanged Ne a b))
  where
    by : (z : Bool) → term_value (if z then in_order (λ t. t) Ne b a else in_order (λ t. t) Ne a b) x ≡ differ (term_value a x) (term_value b x)
    by true = in_order-value x b a ∙ ap (λ (p : Bool). flag (not p)) (equal-comm (term_value b x) (term_value a x))
    by false = in_order-value x a b

-- ---- negations

pub negation-value : (t : Term) (x : List ℤ) → term_value (negation t) x ≡ flag (is_zero (term_value t x))
negation-value t x = by (out-Term t) (sym (roll-out-Term t))
  where
    op : (o : TermOp) (a b : Term) → t ≡ Op o a b → flag (is_zero (total o (term_value a x) (term_value b x))) ≡ flag (is_zero (term_value t x))
    op o a b e = ap (λ (v : ℤ). flag (is_zero v)) (sym (ap (λ (u : Term). term_value u x) e ∙ term_value-Op o a b x))

    other : term_value (Op Eq t (Num (pos 0))) x ≡ flag (is_zero (term_value t x))
    other = term_value-Op Eq t (Num (pos 0)) x ∙ ap (λ (m : ℤ). flag (int_eq (term_value t x) m)) (term_value-Num (pos 0) x) ∙ ap flag (zero-eq (term_value t x))

    by-op : (o : TermOp) (a b : Term) → t ≡ Op o a b → term_value (node_negation t (Term-F.Op o a b)) x ≡ flag (is_zero (term_value t x))
    by-op Lt a b e = term_value-Op Le b a x ∙ ap flag (not-less (term_value a x) (term_value b x)) ∙ op Lt a b e
    by-op Le a b e = term_value-Op Lt b a x ∙ ap flag (not-at-most (term_value a x) (term_value b x)) ∙ op Le a b e
    by-op Eq a b e = unequal-value x a b ∙ zero-of-not (int_eq (term_value a x) (term_value b x)) ∙ op Eq a b e
    by-op Ne a b e = term_value-Op Eq a b x ∙ zero-of (int_eq (term_value a x) (term_value b x)) ∙ op Ne a b e
    by-op Add a b e = other
    by-op Sub a b e = other
    by-op Mul a b e = other
    by-op Div a b e = other
    by-op Rem a b e = other
    by-op Shl a b e = other
    by-op Shr a b e = other
    by-op And a b e = other
    by-op Or a b e = other
    by-op Xor a b e = other

    by : (z : Term-F Term) → t ≡ roll-Term z → term_value (node_negation t z) x ≡ flag (is_zero (term_value t x))
    by (Term-F.Num k) e =
        term_value-Num (flag (int_eq k (pos 0))) x ∙ ap flag (zero-eq k) ∙ ap (λ (v : ℤ). flag (is_zero v)) (sym (ap (λ (u : Term). term_value u x) (e ∙ rolls-Num k) ∙ term_value-Num k x))
    by (Term-F.Op o a b) e = by-op o a b (e ∙ rolls-Op o a b)
    by (Term-F.Param k) e = other
    by (Term-F.Pick c a b) e = other

-- a negation is nonzero exactly where the term isn't
pub negation-nonzero : (t : Term) (x : List ℤ) → not (is_zero (term_value (negation t) x)) ≡ is_zero (term_value t x)
negation-nonzero t x = ap (λ (v : ℤ). not (is_zero v)) (negation-value t x) ∙ set (is_zero (term_value t x))
  where
    set : (p : Bool) → not (is_zero (flag p)) ≡ p
    set true = refl
    set false = refl
