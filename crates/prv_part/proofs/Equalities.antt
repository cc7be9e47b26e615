-- The value of an equality of terms, and of a join of truths, on any input.
use Rattle.std.proofs.Common.{◌≡◌, Bool, true, false, ◌&&◌, ◌||◌, List, ℤ, pos, negsuc, Option, Some, None, if◌then◌else◌, unwrap_or, refl, sym, ap, ◌∙◌}
use Rattle.std.specs.Option.{option_map, option_and_then}
use Rattle.std.specs.Ordering.{int_eq}
use Rattle.prv_model.specs.Words.{is_zero, flag}
use Rattle.prv_model.specs.Terms.{term_value, total}
use Rattle.prv_model.specs.TermOrder.{same_term}
use Rattle.prv_model.specs.declared.op.TermOp.TheVariants.{And, Eq}
use Rattle.prv_model.specs.declared.term.Term.{Term}
use Rattle.prv_model.specs.declared.term.Term.TheVariants.{Num}
use Rattle.prv_model.proofs.OrderLemmas.{same_term-same}
use Rattle.prv_model.proofs.TermLemmas.{term_value-Num, term_value-Op}
use Rattle.prv_pool.specs.Folding.{as_number, is_number, is_truth_shaped, is_comparison, is_neutral, only_if, on_numbers, are_exchanged, twice, on_one_twice, on_truths, are_opposite, beside_neutral, beside_decided, beside_zero, decided, in_order, negation, folded}
use Rattle.prv_part.proofs.Negations.{Gives, zero-eq, equal-self, equal-comm, and-right, number-value, this-number, or-gives, only_if-gives, negation-value}

-- ---- `a == b` by the rules

abbrev same : ℤ → ℤ → ℤ
same v w = flag (int_eq v w)

eq-numbers : (x : List ℤ) (a b : Term) → Gives x (same (term_value a x) (term_value b x)) (on_numbers Eq a b)
eq-numbers x a b = by (as_number a) (as_number b) refl refl
  where
    by : (p q : Option ℤ) → as_number a ≡ p → as_number b ≡ q → Gives x (same (term_value a x) (term_value b x)) (option_and_then (λ m. option_map (λ k. Num (total Eq m k)) q) p)
    by None q e f = tt
    by (Some m) None e f = tt
    by (Some m) (Some k) e f = term_value-Num (same m k) x ∙ (λ i. same (sym (number-value a m x e) i) (sym (number-value b k x f) i))

eq-neutral : (x : List ℤ) (v : ℤ) (a b : Term) → Gives x v (beside_neutral Eq a b)
eq-neutral x v a b = by (as_number b)
  where
    by : (o : Option ℤ) → Gives x v (only_if (unwrap_or (option_map (is_neutral Eq) o) false) a)
    by None = tt
    by (Some k) = tt

eq-decided : (x : List ℤ) (v : ℤ) (b : Term) → Gives x v (beside_decided Eq b)
eq-decided x v b = by (as_number b)
  where
    by : (o : Option ℤ) → Gives x v (option_and_then (decided Eq) o)
    by None = tt
    by (Some k) = tt

eq-twice : (x : List ℤ) (a b : Term) → Gives x (same (term_value a x) (term_value b x)) (on_one_twice Eq a b)
eq-twice x a b = by (same_term a b) refl
  where
    by : (z : Bool) → same_term a b ≡ z → Gives x (same (term_value a x) (term_value b x)) (if z then twice Eq a else None)
    by false e = tt
    by true e =
        term_value-Num (pos 1) x ∙ sym (ap flag (equal-self (term_value a x)))
        ∙ ap (λ (u : Term). same (term_value a x) (term_value u x)) ((same_term-same a b).0 e)

eq-zero : (x : List ℤ) (a b : Term) → Gives x (same (term_value a x) (term_value b x)) (beside_zero negation Eq a b)
eq-zero x a b = only_if-gives x _ (is_comparison a && is_number (pos 0) b) (negation a) (λ e.
    let k = this-number b (pos 0) x (and-right (is_comparison a) _ e) in
    negation-value a x ∙ ap flag (sym (zero-eq (term_value a x))) ∙ ap (λ (w : ℤ). same (term_value a x) w) (sym k))

eq-in_order : (x : List ℤ) (a b : Term) → term_value (in_order negation Eq a b) x ≡ same (term_value a x) (term_value b x)
eq-in_order x a b =
    or-gives x _ (beside_neutral Eq a b) _ (eq-neutral x _ a b)
    (or-gives x _ (beside_decided Eq b) _ (eq-decided x _ b)
    (or-gives x _ (on_one_twice Eq a b) _ (eq-twice x a b)
    (or-gives x _ (beside_zero negation Eq a b) _ (eq-zero x a b) (term_value-Op Eq a b x))))

pub eq-value : (a b : Term) (x : List ℤ) → term_value (folded Eq a b) x ≡ flag (int_eq (term_value a x) (term_value b x))
eq-value a b x = or-gives x _ (on_numbers Eq a b) _ (eq-numbers x a b) (by (are_exchanged Eq a b))
  where
    by : (z : Bool) → term_value (if z then in_order negation Eq b a else in_order negation Eq a b) x ≡ same (term_value a x) (term_value b x)
    by true = eq-in_order x b a ∙ ap flag (equal-comm (term_value b x) (term_value a x))
    by false = eq-in_order x a b

-- ---- `a & b` of truths by the rules

and-flags : (p q : Bool) → total And (flag p) (flag q) ≡ flag (p && q)
and-flags true true = refl
and-flags true false = refl
and-flags false true = refl
and-flags false false = refl

and-comm : (p q : Bool) → (p && q) ≡ (q && p)
and-comm true true = refl
and-comm true false = refl
and-comm false true = refl
and-comm false false = refl

not-ones : (q : Bool) → int_eq (negsuc 0) (flag q) ≡ false
not-ones true = refl
not-ones false = refl

zero-flag : (p q : Bool) → is_zero (flag q) ≡ true → pos 0 ≡ flag (p && q)
zero-flag p true e = cc e
zero-flag true false e = refl
zero-flag false false e = refl

one-flag : (p q : Bool) → flag q ≡ pos 1 → flag p ≡ flag (p && q)
one-flag true true e = refl
one-flag false true e = refl
one-flag p false e = cc e

own-flag : (p q : Bool) → flag p ≡ flag q → flag p ≡ flag (p && q)
own-flag true true e = refl
own-flag true false e = cc e
own-flag false q e = refl

contrary-flag : (p q : Bool) → flag q ≡ flag (is_zero (flag p)) → pos 0 ≡ flag (p && q)
contrary-flag true true e = cc e
contrary-flag true false e = refl
contrary-flag false q e = refl

or-second : (p q : Bool) → (p || q) ≡ true → p ≡ false → q ≡ true
or-second true q e f = cc f
or-second false q e f = e

and-in_order : (x : List ℤ) (p q : Bool) (a b : Term) → term_value a x ≡ flag p → term_value b x ≡ flag q → term_value (in_order negation And a b) x ≡ flag (p && q)
and-in_order x p q a b ea eb =
    or-gives x _ (beside_neutral And a b) _ (neutral (as_number b) refl)
    (or-gives x _ (beside_decided And b) _ (zero (as_number b) refl)
    (or-gives x _ (on_one_twice And a b) _ (twin (same_term a b) refl)
    (or-gives x _ (on_truths negation And a b) _ (truths (is_truth_shaped a && is_number (pos 1) b) refl)
    (term_value-Op And a b x ∙ (λ i. total And (ea i) (eb i)) ∙ and-flags p q))))
  where
    number : (k : ℤ) → as_number b ≡ Some k → k ≡ flag q
    number k e = sym (number-value b k x e) ∙ eb

    neutral : (o : Option ℤ) → as_number b ≡ o → Gives x (flag (p && q)) (only_if (unwrap_or (option_map (is_neutral And) o) false) a)
    neutral None e = tt
    neutral (Some k) e = only_if-gives x _ (int_eq (negsuc 0) k) a (λ yes.
        let no : int_eq (negsuc 0) k ≡ false = ap (λ (m : ℤ). int_eq (negsuc 0) m) (number k e) ∙ not-ones q in
        let wrong : true ≡ false = sym yes ∙ no in cc wrong)

    zero : (o : Option ℤ) → as_number b ≡ o → Gives x (flag (p && q)) (option_and_then (decided And) o)
    zero None e = tt
    zero (Some k) e = only_if-gives x _ (is_zero k) (Num (pos 0)) (λ yes. term_value-Num (pos 0) x ∙ zero-flag p q (ap is_zero (sym (number k e)) ∙ yes))

    twin : (z : Bool) → same_term a b ≡ z → Gives x (flag (p && q)) (if z then twice And a else None)
    twin false e = tt
    twin true e = ea ∙ own-flag p q (sym ea ∙ ap (λ (u : Term). term_value u x) ((same_term-same a b).0 e) ∙ eb)

    opposite : (is_truth_shaped a && same_term b (negation a)) ≡ true → flag q ≡ flag (is_zero (flag p))
    opposite e = sym eb ∙ ap (λ (u : Term). term_value u x) ((same_term-same b (negation a)).0 (and-right (is_truth_shaped a) _ e)) ∙ negation-value a x ∙ ap (λ (v : ℤ). flag (is_zero v)) ea

    opposed : (is_truth_shaped b && same_term a (negation b)) ≡ true → flag p ≡ flag (is_zero (flag q))
    opposed e = sym ea ∙ ap (λ (u : Term). term_value u x) ((same_term-same a (negation b)).0 (and-right (is_truth_shaped b) _ e)) ∙ negation-value b x ∙ ap (λ (v : ℤ). flag (is_zero v)) eb

    contrary : (z : Bool) → (is_truth_shaped a && same_term b (negation a)) ≡ z → are_opposite negation a b ≡ true → pos 0 ≡ flag (p && q)
    contrary true f e = contrary-flag p q (opposite f)
    contrary false f e = contrary-flag q p (opposed (or-second _ _ e f)) ∙ ap flag (and-comm q p)

    truths : (z : Bool) → (is_truth_shaped a && is_number (pos 1) b) ≡ z → Gives x (flag (p && q)) (if z then Some a else only_if (are_opposite negation a b) (Num (pos 0)))
    truths true e = ea ∙ one-flag p q (sym eb ∙ this-number b (pos 1) x (and-right (is_truth_shaped a) _ e))
    truths false e = only_if-gives x _ (are_opposite negation a b) (Num (pos 0)) (λ yes. term_value-Num (pos 0) x ∙ contrary (is_truth_shaped a && same_term b (negation a)) refl yes)

and-numbers : (x : List ℤ) (p q : Bool) (a b : Term) → term_value a x ≡ flag p → term_value b x ≡ flag q → Gives x (flag (p && q)) (on_numbers And a b)
and-numbers x p q a b ea eb = by (as_number a) (as_number b) refl refl
  where
    by : (o u : Option ℤ) → as_number a ≡ o → as_number b ≡ u → Gives x (flag (p && q)) (option_and_then (λ m. option_map (λ k. Num (total And m k)) u) o)
    by None u e f = tt
    by (Some m) None e f = tt
    by (Some m) (Some k) e f =
        term_value-Num (total And m k) x
        ∙ (λ i. total And ((sym (number-value a m x e) ∙ ea) i) ((sym (number-value b k x f) ∙ eb) i)) ∙ and-flags p q

pub and-value : (a b : Term) (x : List ℤ) (p q : Bool) → term_value a x ≡ flag p → term_value b x ≡ flag q → term_value (folded And a b) x ≡ flag (p && q)
and-value a b x p q ea eb = or-gives x _ (on_numbers And a b) _ (and-numbers x p q a b ea eb) (by (are_exchanged And a b))
  where
    by : (z : Bool) → term_value (if z then in_order negation And b a else in_order negation And a b) x ≡ flag (p && q)
    by true = and-in_order x q p b a eb ea ∙ ap flag (and-comm q p)
    by false = and-in_order x p q a b ea eb
