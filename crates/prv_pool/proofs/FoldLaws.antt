-- A folded term has the value of what it stands for, and is a term over the same parameters.
use Rattle.std.proofs.Common.{◌≡◌, ℕ, zero, suc, ◌-◌, ◌^◌, ◌<◌, Bool, true, false, ◌&&◌, ◌||◌, not, List, [], Option, Some, None, ℤ, pos, negsuc, ◌+ℤ◌, ◌-ℤ◌, ◌*ℤ◌, All, if◌then◌else◌, refl, sym, ap, ◌∙◌, subst, arith, unwrap_or, int_lt, int_le, int_div, int_rem, IfSome, inl, inr, ◌⊎◌}
use Rattle.std.specs.Option.{option_map, option_and_then}
use Rattle.std.specs.Ordering.{int_eq}
use Rattle.std.specs.Cmp.{signed_Decides}
use Rattle.std.specs.Int.{w32, cast_unsigned, cast_signed, int_shl, int_shr, int_bit_and, int_bit_or, int_bit_xor}
use Rattle.std.specs.Int.Bits.{bit_or}
use Rattle.std.proofs.lemmas.Int.{ints, int_wrap_fits, to_z-of_z}
use lib.Bits.{and_comm, or_comm, xor_comm, and_zero_r, or_zero_r, xor_zero_r, and_self, or_self, xor_self, and_mask, or_add_and}
use lib.IntN.{*ℤ_comm}
use Rattle.prv_model.specs.Words.{IsWord, is_word, is_zero, flag, wrap, amount}
use Rattle.prv_model.specs.Terms.{IsTerm, term_value, total, node_is_term}
use Rattle.prv_model.specs.TermOrder.{same_term}
use Rattle.prv_model.specs.declared.op.TermOp.{TermOp}
use Rattle.prv_model.specs.declared.op.TermOp.TheVariants.{Add, Sub, Mul, Div, Rem, Shl, Shr, And, Or, Xor, Lt, Le, Eq, Ne}
use Rattle.prv_model.specs.declared.term.Term.{Term, roll-Term, map-Term, out-Term, roll-out-Term, fold-Term, fold-roll-Term}
use Rattle.prv_model.specs.declared.term.Term.TheVariants.{Op, Pick, Num, rolls-Op, rolls-Pick, rolls-Num}
use Rattle.prv_model.specs.declared.term.Term.TheOpen.{Term-F}
use Rattle.prv_model.specs.declared.term.Term.TheFolds.{ind-Term}
use Rattle.prv_model.proofs.OrderLemmas.{same_term-same}
use Rattle.prv_model.proofs.TermLemmas.{term_value-Op, term_value-Num, term_value-Pick}
use Rattle.prv_model.proofs.WordLaws.{term_has_a_word, total-word, word-tested, tested-word}
use Rattle.prv_pool.specs.Folding.{node_number, as_number, is_number, is_comparison, is_truth_shaped, node_is_truth, compares, joins, only_if, on_numbers, exchanges, are_exchanged, is_neutral, decided, beside_neutral, beside_decided, twice, on_one_twice, are_opposite, on_truths, beside_zero, in_order, folded_by, unequal, node_negation, negation, folded, truth, folded_pick}

-- a term over n parameters that has this value on the input x
pub record Means (n : ℕ) (x : List ℤ) (v : ℤ) (t : Term) : Type 0 where
  pub is : IsTerm n t
  pub value : term_value t x ≡ v

abbrev MeansIf : ℕ → List ℤ → ℤ → Option Term → Type 0
MeansIf n x v answer = IfSome answer (Means n x v)

both : (p q : Bool) → p ≡ true → q ≡ true → (p && q) ≡ true
both p q h k = rw (h, k) refl

and-left : (p q : Bool) → (p && q) ≡ true → p ≡ true
and-left true q e = refl
and-left false q e = e

and-right : (p q : Bool) → (p && q) ≡ true → q ≡ true
and-right true q e = e
and-right false q e = cc e

-- ---- terms over n parameters, variant by variant

test-Num : (n : ℕ) (k : ℤ) → fold-Term Bool (node_is_term n) (Num k) ≡ is_word k
test-Num n k = ap (λ (t : Term). fold-Term Bool (node_is_term n) t) (sym (rolls-Num k)) ∙ fold-roll-Term Bool (node_is_term n) (Term-F.Num k)

test-Op : (n : ℕ) (op : TermOp) (a b : Term) → fold-Term Bool (node_is_term n) (Op op a b) ≡ (fold-Term Bool (node_is_term n) a && fold-Term Bool (node_is_term n) b)
test-Op n op a b = ap (λ (t : Term). fold-Term Bool (node_is_term n) t) (sym (rolls-Op op a b)) ∙ fold-roll-Term Bool (node_is_term n) (Term-F.Op op a b)

test-Pick : (n : ℕ) (c a b : Term) → fold-Term Bool (node_is_term n) (Pick c a b) ≡ (fold-Term Bool (node_is_term n) c && (fold-Term Bool (node_is_term n) a && fold-Term Bool (node_is_term n) b))
test-Pick n c a b = ap (λ (t : Term). fold-Term Bool (node_is_term n) t) (sym (rolls-Pick c a b)) ∙ fold-roll-Term Bool (node_is_term n) (Term-F.Pick c a b)

num-means : (n : ℕ) (x : List ℤ) (k : ℤ) → IsWord k → Means n x k (Num k)
num-means n x k h = record { is = test-Num n k ∙ word-tested k h; value = term_value-Num k x }

op-means : (n : ℕ) (x : List ℤ) (op : TermOp) (a b : Term) → IsTerm n a → IsTerm n b → Means n x (total op (term_value a x) (term_value b x)) (Op op a b)
op-means n x op a b h k = record { is = test-Op n op a b ∙ both _ _ h k; value = term_value-Op op a b x }

-- another spelling of the value
means-as : (n : ℕ) (x : List ℤ) (v w : ℤ) (t : Term) → v ≡ w → Means n x v t → Means n x w t
means-as n x v w t e m = record { is = m.is; value = m.value ∙ e }

-- the number that a term is
some-is : (j k : ℤ) → Some j ≡ Some k → j ≡ k
some-is j k e = ap (λ (o : Option ℤ). unwrap_or o (pos 0)) e

number-is : (t : Term) (k : ℤ) → as_number t ≡ Some k → t ≡ Num k
number-is t k e = sym (roll-out-Term t) ∙ by (out-Term t) e
  where
    by : (z : Term-F Term) → node_number z ≡ Some k → roll-Term z ≡ Num k
    by (Term-F.Param j) e = cc e
    by (Term-F.Op op a b) e = cc e
    by (Term-F.Pick c a b) e = cc e
    by (Term-F.Num j) e = let same : j ≡ k = some-is j k e in rolls-Num j ∙ ap (λ (i : ℤ). Num i) same

number-word : (n : ℕ) (t : Term) (k : ℤ) → IsTerm n t → as_number t ≡ Some k → IsWord k
number-word n t k h e = tested-word k (sym (test-Num n k) ∙ let P : Term → Type 0 = λ u. IsTerm n u in subst P (number-is t k e) h)

number-value : (t : Term) (k : ℤ) (x : List ℤ) → as_number t ≡ Some k → term_value t x ≡ k
number-value t k x e = ap (λ (u : Term). term_value u x) (number-is t k e) ∙ term_value-Num k x

-- ---- the value of a truth

flag-word : (p : Bool) → IsWord (flag p)
flag-word true = tested-word (pos 1) refl
flag-word false = tested-word (pos 0) refl

zero-word : IsWord (pos 0)
zero-word = tested-word (pos 0) refl

-- a value that is 0 or 1
abbrev IsFlag : ℤ → Type 0
IsFlag v = (p : Bool) × (v ≡ flag p)

joined : (op : TermOp) (p q : Bool) → joins op ≡ true → IsFlag (total op (flag p) (flag q))
joined And true true e = (true, refl)
joined And true false e = (false, refl)
joined And false true e = (false, refl)
joined And false false e = (false, refl)
joined Or true true e = (true, refl)
joined Or true false e = (true, refl)
joined Or false true e = (true, refl)
joined Or false false e = (false, refl)
joined Xor true true e = (false, refl)
joined Xor true false e = (true, refl)
joined Xor false true e = (true, refl)
joined Xor false false e = (false, refl)
joined op p q e = cc e

compared : (op : TermOp) (v w : ℤ) → compares op ≡ true → IsFlag (total op v w)
compared Lt v w e = (int_lt v w, refl)
compared Le v w e = (int_le v w, refl)
compared Eq v w e = (int_eq v w, refl)
compared Ne v w e = (not (int_eq v w), refl)
compared op v w e = cc e

abbrev HasFlag : List ℤ → Term → Type 0
HasFlag x t = is_truth_shaped t ≡ true → IsFlag (term_value t x)

flag-joined : (op : TermOp) (v w : ℤ) → joins op ≡ true → IsFlag v → IsFlag w → IsFlag (total op v w)
flag-joined op v w e h k = let j = joined op h.0 k.0 e in (j.0, (λ i. total op (h.1 i) (k.1 i)) ∙ j.1)

flag-op : (op : TermOp) (x : List ℤ) (a b : Term) (c j p q : Bool) → compares op ≡ c → joins op ≡ j → is_truth_shaped a ≡ p → is_truth_shaped b ≡ q → (c || (j && (p && q))) ≡ true → HasFlag x a → HasFlag x b →
    IsFlag (total op (term_value a x) (term_value b x))
flag-op op x a b true j p q ec ej ep eq e ha hb = compared op _ _ ec
flag-op op x a b false true true true ec ej ep eq e ha hb = flag-joined op _ _ ej (ha ep) (hb eq)
flag-op op x a b false j p q ec ej ep eq e ha hb = cc e

flag-pick : (z : Bool) (v w : ℤ) → IsFlag v → IsFlag w → IsFlag (if z then w else v)
flag-pick true v w h k = k
flag-pick false v w h k = h

flag-num : (k : ℤ) → (int_eq (pos 0) k || int_eq (pos 1) k) ≡ true → IsFlag k
flag-num k e = by (int_eq (pos 0) k) (int_eq (pos 1) k) refl refl e
  where
    by : (p q : Bool) → int_eq (pos 0) k ≡ p → int_eq (pos 1) k ≡ q → (p || q) ≡ true → IsFlag k
    by true q ep eq e = (false, sym ((signed_Decides (pos 0) k).0 ep))
    by false true ep eq e = (true, sym ((signed_Decides (pos 1) k).0 eq))
    by false false ep eq e = cc e

truth-step : (x : List ℤ) (z : Term-F ((t : Term) × HasFlag x t)) → HasFlag x (roll-Term (map-Term ((t : Term) × HasFlag x t) Term (λ e. e.0) z))
truth-step x (Term-F.Param k) = λ e. cc (sym (fold-roll-Term Bool node_is_truth (Term-F.Param k)) ∙ e)
truth-step x (Term-F.Op op a b) = λ e.
    let f = sym (fold-roll-Term Bool node_is_truth (Term-F.Op op a.0 b.0)) ∙ e in
    let v = flag-op op x a.0 b.0 (compares op) (joins op) (is_truth_shaped a.0) (is_truth_shaped b.0) refl refl refl refl f a.1 b.1 in
    (v.0, ap (λ (t : Term). term_value t x) (rolls-Op op a.0 b.0) ∙ term_value-Op op a.0 b.0 x ∙ v.1)
truth-step x (Term-F.Pick c a b) = λ e.
    let f : (is_truth_shaped a.0 && is_truth_shaped b.0) ≡ true = sym (fold-roll-Term Bool node_is_truth (Term-F.Pick c.0 a.0 b.0)) ∙ e in
    let v = flag-pick (is_zero (term_value c.0 x)) (term_value a.0 x) (term_value b.0 x) (a.1 (and-left _ _ f)) (b.1 (and-right (is_truth_shaped a.0) _ f)) in
    (v.0, ap (λ (t : Term). term_value t x) (rolls-Pick c.0 a.0 b.0) ∙ term_value-Pick c.0 a.0 b.0 x ∙ v.1)
truth-step x (Term-F.Num k) = λ e.
    let f = sym (fold-roll-Term Bool node_is_truth (Term-F.Num k)) ∙ e in
    let v = flag-num k f in
    (v.0, ap (λ (t : Term). term_value t x) (rolls-Num k) ∙ term_value-Num k x ∙ v.1)

-- a truth-shaped term is 0 or 1 on every input
pub truth-flag : (x : List ℤ) (t : Term) → is_truth_shaped t ≡ true → IsFlag (term_value t x)
truth-flag x t e = ind-Term (HasFlag x) (λ z y is. subst (λ w. HasFlag x (roll-Term w)) is (truth-step x y)) t e

-- ---- what the rules say of values

zero-is : (k : ℤ) → is_zero k ≡ true → k ≡ pos 0
zero-is (pos zero) e = refl
zero-is (pos (suc n)) e = cc e
zero-is (negsuc n) e = cc e

one-is : (k : ℤ) → int_eq (pos 1) k ≡ true → k ≡ pos 1
one-is k e = sym ((signed_Decides (pos 1) k).0 e)

ones-is : (k : ℤ) → int_eq (negsuc 0) k ≡ true → k ≡ negsuc 0
ones-is k e = sym ((signed_Decides (negsuc 0) k).0 e)

below-word : (m : ℤ) → IsWord m → cast_unsigned w32 m < 2 ^ 32
below-word (pos n) h = omega (arith, h.sfits)
below-word (negsuc n) h = omega (arith, h.sfits)

back : (v : ℤ) → IsWord v → cast_signed w32 (cast_unsigned w32 v) ≡ v
back v h = to_z-of_z w32 v h

plus-zero : (v : ℤ) → v +ℤ pos 0 ≡ v
plus-zero v = omega (arith, ints)

minus-zero : (v : ℤ) → v -ℤ pos 0 ≡ v
minus-zero v = omega (arith, ints)

minus-self : (v : ℤ) → v -ℤ v ≡ pos 0
minus-self v = omega (arith, ints)

times-one : (v : ℤ) → v *ℤ pos 1 ≡ v
times-one (pos n) = ap pos (omega arith)
times-one (negsuc n) = omega (arith, ints)

times-zero : (v : ℤ) → v *ℤ pos 0 ≡ pos 0
times-zero (pos n) = ap pos (omega arith)
times-zero (negsuc n) = omega (arith, ints)

over-one : (v : ℤ) → int_div v (pos 1) ≡ v
over-one (pos n) = ap pos (omega arith)
over-one (negsuc n) = omega (arith, ints)

rem-one : (v : ℤ) → int_rem v (pos 1) ≡ pos 0
rem-one (pos n) = ap pos (omega arith)
rem-one (negsuc n) = omega (arith, ints)

shr-none : (v : ℤ) → int_shr v 0 ≡ v
shr-none (pos n) = ap pos (omega arith)
shr-none (negsuc n) = ap negsuc (omega arith)

shl-none : (v : ℤ) → IsWord v → int_shl w32 v 0 ≡ v
shl-none v h = ap (cast_signed w32) (omega (arith, below-word v h)) ∙ back v h

and-ones : (v : ℤ) → IsWord v → int_bit_and w32 v (negsuc 0) ≡ v
and-ones v h = ap (cast_signed w32) (omega (arith, and_mask (cast_unsigned w32 v) 32, below-word v h)) ∙ back v h

or-ones : (v : ℤ) → IsWord v → int_bit_or w32 v (negsuc 0) ≡ negsuc 0
or-ones v h =
    let all : bit_or (cast_unsigned w32 v) (2 ^ 32 - 1) ≡ 2 ^ 32 - 1 = omega (arith, and_mask (cast_unsigned w32 v) 32, or_add_and (cast_unsigned w32 v) (2 ^ 32 - 1), below-word v h) in
    ap (cast_signed w32) all

less-self : (v : ℤ) → int_lt v v ≡ false
less-self v = grind (arith, ints)

at-most-self : (v : ℤ) → int_le v v ≡ true
at-most-self v = grind (arith, ints)

equal-self : (v : ℤ) → int_eq v v ≡ true
equal-self v = (signed_Decides v v).1 refl

equal-comm : (v w : ℤ) → int_eq v w ≡ int_eq w v
equal-comm v w = by (int_eq v w) (int_eq w v) refl refl
  where
    by : (p q : Bool) → int_eq v w ≡ p → int_eq w v ≡ q → int_eq v w ≡ int_eq w v
    by true q e f = let s : v ≡ w = (signed_Decides v w).0 e in e ∙ sym ((signed_Decides w v).1 (sym s))
    by p true e f = let s : w ≡ v = (signed_Decides w v).0 f in (signed_Decides v w).1 (sym s) ∙ sym f
    by false false e f = e ∙ sym f

neutral-value : (op : TermOp) (v k : ℤ) → IsWord v → is_neutral op k ≡ true → total op v k ≡ v
neutral-value Add v k h e = rw (zero-is k e, plus-zero v) (int_wrap_fits w32 v h)
neutral-value Sub v k h e = rw (zero-is k e, minus-zero v) (int_wrap_fits w32 v h)
neutral-value Mul v k h e = rw (one-is k e, times-one v) (int_wrap_fits w32 v h)
neutral-value Div v k h e = rw (one-is k e, over-one v) (int_wrap_fits w32 v h)
neutral-value Shl v k h e = let none : amount k ≡ 0 = grind (arith, e) in ap (λ (m : ℕ). int_shl w32 v m) none ∙ shl-none v h
neutral-value Shr v k h e = let none : amount k ≡ 0 = grind (arith, e) in ap (λ (m : ℕ). int_shr v m) none ∙ shr-none v
neutral-value And v k h e = ap (λ (m : ℤ). int_bit_and w32 v m) (ones-is k e) ∙ and-ones v h
neutral-value Or v k h e = ap (λ (m : ℤ). int_bit_or w32 v m) (zero-is k e) ∙ ap (cast_signed w32) (or_zero_r (cast_unsigned w32 v)) ∙ back v h
neutral-value Xor v k h e = ap (λ (m : ℤ). int_bit_xor w32 v m) (zero-is k e) ∙ ap (cast_signed w32) (xor_zero_r (cast_unsigned w32 v)) ∙ back v h
neutral-value op v k h e = cc e

exchanged-value : (op : TermOp) (v w : ℤ) → exchanges op ≡ true → total op v w ≡ total op w v
exchanged-value Add v w e = ap wrap (omega (arith, ints))
exchanged-value Mul v w e = ap wrap (*ℤ_comm v w)
exchanged-value And v w e = ap (cast_signed w32) (and_comm (cast_unsigned w32 v) (cast_unsigned w32 w))
exchanged-value Or v w e = ap (cast_signed w32) (or_comm (cast_unsigned w32 v) (cast_unsigned w32 w))
exchanged-value Xor v w e = ap (cast_signed w32) (xor_comm (cast_unsigned w32 v) (cast_unsigned w32 w))
exchanged-value Eq v w e = ap flag (equal-comm v w)
exchanged-value Ne v w e = ap (λ (b : Bool). flag (not b)) (equal-comm v w)
exchanged-value op v w e = cc e

zero-wraps : wrap (pos 0) ≡ pos 0
zero-wraps = int_wrap_fits w32 (pos 0) zero-word

-- a test that passed gives its answer
only_if-means : (n : ℕ) (x : List ℤ) (v : ℤ) (z : Bool) (t : Term) → (z ≡ true → Means n x v t) → MeansIf n x v (only_if z t)
only_if-means n x v true t h = h refl
only_if-means n x v false t h = tt

neutral-means : (n : ℕ) (x : List ℤ) (op : TermOp) (a b : Term) → All IsWord x → IsTerm n a → MeansIf n x (total op (term_value a x) (term_value b x)) (beside_neutral op a b)
neutral-means n x op a b words ha = by (as_number b) refl
  where
    by : (o : Option ℤ) → as_number b ≡ o → MeansIf n x (total op (term_value a x) (term_value b x)) (only_if (unwrap_or (option_map (is_neutral op) o) false) a)
    by None e = tt
    by (Some k) e = only_if-means n x _ (is_neutral op k) a (λ yes. record {
      is = ha;
      value = sym (ap (λ (m : ℤ). total op (term_value a x) m) (number-value b k x e) ∙ neutral-value op (term_value a x) k (term_has_a_word n a x ha words) yes);
    })

decided-means : (n : ℕ) (x : List ℤ) (op : TermOp) (a b : Term) → All IsWord x → IsTerm n a → MeansIf n x (total op (term_value a x) (term_value b x)) (beside_decided op b)
decided-means n x op a b words ha = by (as_number b) refl
  where
    one : (op : TermOp) (v k : ℤ) → IsWord v → MeansIf n x (total op v k) (decided op k)
    one Mul v k h = only_if-means n x _ (is_zero k) _ (λ e. means-as n x (pos 0) _ _ (sym (ap (λ (m : ℤ). wrap (v *ℤ m)) (zero-is k e) ∙ ap wrap (times-zero v) ∙ zero-wraps)) (num-means n x (pos 0) zero-word))
    one Rem v k h = only_if-means n x _ (int_eq (pos 1) k) _ (λ e. means-as n x (pos 0) _ _ (sym (ap (λ (m : ℤ). total Rem v m) (one-is k e) ∙ rem-one v)) (num-means n x (pos 0) zero-word))
    one And v k h = only_if-means n x _ (is_zero k) _ (λ e. means-as n x (pos 0) _ _ (sym (ap (λ (m : ℤ). int_bit_and w32 v m) (zero-is k e) ∙ ap (cast_signed w32) (and_zero_r (cast_unsigned w32 v)))) (num-means n x (pos 0) zero-word))
    one Or v k h = only_if-means n x _ (int_eq (negsuc 0) k) _ (λ e. means-as n x (negsuc 0) _ _ (sym (ap (λ (m : ℤ). int_bit_or w32 v m) (ones-is k e) ∙ or-ones v h)) (num-means n x (negsuc 0) (tested-word (negsuc 0) refl)))
    one op v k h = tt

    by : (o : Option ℤ) → as_number b ≡ o → MeansIf n x (total op (term_value a x) (term_value b x)) (option_and_then (decided op) o)
    by None e = tt
    by (Some k) e =
        let P : ℤ → Type 0 = λ m. MeansIf n x (total op (term_value a x) m) (decided op k) in
        subst P (sym (number-value b k x e)) (one op (term_value a x) k (term_has_a_word n a x ha words))

twice-means : (n : ℕ) (x : List ℤ) (op : TermOp) (a b : Term) → All IsWord x → IsTerm n a → MeansIf n x (total op (term_value a x) (term_value b x)) (on_one_twice op a b)
twice-means n x op a b words ha = by (same_term a b) refl
  where
    zero : (v : ℤ) → v ≡ pos 0 → Means n x v (Num (pos 0))
    zero v e = means-as n x (pos 0) v _ (sym e) (num-means n x (pos 0) zero-word)

    yes : (v : ℤ) → v ≡ pos 1 → Means n x v (Num (pos 1))
    yes v e = means-as n x (pos 1) v _ (sym e) (num-means n x (pos 1) (tested-word (pos 1) refl))

    one : (op : TermOp) (v : ℤ) → term_value a x ≡ v → IsWord v → MeansIf n x (total op v v) (twice op a)
    one Sub v e h = zero _ (ap wrap (minus-self v) ∙ zero-wraps)
    one Xor v e h = zero _ (ap (cast_signed w32) (xor_self (cast_unsigned w32 v)))
    one Lt v e h = zero _ (ap flag (less-self v))
    one Ne v e h = zero _ (ap (λ (b : Bool). flag (not b)) (equal-self v))
    one Eq v e h = yes _ (ap flag (equal-self v))
    one Le v e h = yes _ (ap flag (at-most-self v))
    one And v e h = record { is = ha; value = e ∙ sym (ap (cast_signed w32) (and_self (cast_unsigned w32 v)) ∙ back v h) }
    one Or v e h = record { is = ha; value = e ∙ sym (ap (cast_signed w32) (or_self (cast_unsigned w32 v)) ∙ back v h) }
    one op v e h = tt

    by : (z : Bool) → same_term a b ≡ z → MeansIf n x (total op (term_value a x) (term_value b x)) (if z then twice op a else None)
    by false e = tt
    by true e =
        let P : Term → Type 0 = λ u. MeansIf n x (total op (term_value a x) (term_value u x)) (twice op a) in
        subst P ((same_term-same a b).0 e) (one op (term_value a x) refl (term_has_a_word n a x ha words))

-- what a negation is
abbrev Negates : ℕ → List ℤ → (Term → Term) → Type 0
Negates n x negated = (t : Term) → IsTerm n t → Means n x (flag (is_zero (term_value t x))) (negated t)

-- an operator whose rules speak of a negation
abbrev negates : TermOp → Bool
negates And = true
negates Or = true
negates Eq = true
negates _ = false

number-true : (k : ℤ) (t : Term) → is_number k t ≡ true → as_number t ≡ Some k
number-true k t e = by (as_number t) e
  where
    by : (o : Option ℤ) → unwrap_or (option_map (int_eq k) o) false ≡ true → o ≡ Some k
    by None e = cc e
    by (Some m) e = ap (λ (i : ℤ). Some i) (sym ((signed_Decides k m).0 e))

and-one : (p : Bool) → total And (flag p) (pos 1) ≡ flag p
and-one true = refl
and-one false = refl

or-one : (p : Bool) → total Or (flag p) (pos 1) ≡ pos 1
or-one true = refl
or-one false = refl

and-contrary : (p : Bool) → (total And (flag p) (flag (is_zero (flag p))) ≡ pos 0) × (total And (flag (is_zero (flag p))) (flag p) ≡ pos 0)
and-contrary true = (refl, refl)
and-contrary false = (refl, refl)

or-contrary : (p : Bool) → (total Or (flag p) (flag (is_zero (flag p))) ≡ pos 1) × (total Or (flag (is_zero (flag p))) (flag p) ≡ pos 1)
or-contrary true = (refl, refl)
or-contrary false = (refl, refl)

or-second : (p q : Bool) → (p || q) ≡ true → p ≡ false → q ≡ true
or-second true q e f = cc f
or-second false q e f = e

-- two opposite terms: one is a truth, and the other has its contrary value
opposite-values : (n : ℕ) (x : List ℤ) (negated : Term → Term) (a b : Term) → Negates n x negated → IsTerm n a → IsTerm n b → are_opposite negated a b ≡ true →
    (p : Bool) × (((term_value a x ≡ flag p) × (term_value b x ≡ flag (is_zero (flag p)))) ⊎ ((term_value a x ≡ flag (is_zero (flag p))) × (term_value b x ≡ flag p)))
opposite-values n x negated a b neg ha hb e = by (is_truth_shaped a && same_term b (negated a)) refl
  where
    side : (s t : Term) → IsTerm n s → is_truth_shaped s ≡ true → same_term t (negated s) ≡ true → (p : Bool) × (term_value s x ≡ flag p) × (term_value t x ≡ flag (is_zero (flag p)))
    side s t hs is same =
        let f = truth-flag x s is in
        (f.0, f.1, ap (λ (u : Term). term_value u x) ((same_term-same t (negated s)).0 same) ∙ (neg s hs).value ∙ ap (λ (v : ℤ). flag (is_zero v)) f.1)

    by : (z : Bool) → (is_truth_shaped a && same_term b (negated a)) ≡ z →
        (p : Bool) × (((term_value a x ≡ flag p) × (term_value b x ≡ flag (is_zero (flag p)))) ⊎ ((term_value a x ≡ flag (is_zero (flag p))) × (term_value b x ≡ flag p)))
    by true f = let s = side a b ha (and-left _ _ f) (and-right (is_truth_shaped a) _ f) in (s.0, inl (s.1, s.2))
    by false f =
        let g : (is_truth_shaped b && same_term a (negated b)) ≡ true = or-second _ _ e f in
        let s = side b a hb (and-left _ _ g) (and-right (is_truth_shaped b) _ g) in (s.0, inr (s.2, s.1))

truths-means : (n : ℕ) (x : List ℤ) (negated : Term → Term) (op : TermOp) (a b : Term) → All IsWord x → IsTerm n a → IsTerm n b → (negates op ≡ true → Negates n x negated) →
    MeansIf n x (total op (term_value a x) (term_value b x)) (on_truths negated op a b)
truths-means n x negated And a b words ha hb neg = by (is_truth_shaped a && is_number (pos 1) b) refl
  where
    by : (z : Bool) → (is_truth_shaped a && is_number (pos 1) b) ≡ z →
        MeansIf n x (total And (term_value a x) (term_value b x)) (if z then Some a else only_if (are_opposite negated a b) (Num (pos 0)))
    by true e =
        let f = truth-flag x a (and-left _ _ e) in
        let k = number-value b (pos 1) x (number-true (pos 1) b (and-right (is_truth_shaped a) _ e)) in
        record { is = ha; value = f.1 ∙ sym ((λ i. total And (f.1 i) (k i)) ∙ and-one f.0) }
    by false e = only_if-means n x _ (are_opposite negated a b) _ (λ o.
        let s = opposite-values n x negated a b (neg refl) ha hb o in
        means-as n x (pos 0) _ _ (sym (elim s.1 [
          | inl v ↦ (λ i. total And (v.0 i) (v.1 i)) ∙ (and-contrary s.0).0
          | inr v ↦ (λ i. total And (v.0 i) (v.1 i)) ∙ (and-contrary s.0).1
        ])) (num-means n x (pos 0) zero-word))
truths-means n x negated Or a b words ha hb neg = by (is_truth_shaped a && is_number (pos 1) b) refl
  where
    one : Means n x (pos 1) (Num (pos 1))
    one = num-means n x (pos 1) (tested-word (pos 1) refl)

    by : (z : Bool) → (is_truth_shaped a && is_number (pos 1) b) ≡ z →
        MeansIf n x (total Or (term_value a x) (term_value b x)) (only_if (z || are_opposite negated a b) (Num (pos 1)))
    by true e =
        let f = truth-flag x a (and-left _ _ e) in
        let k = number-value b (pos 1) x (number-true (pos 1) b (and-right (is_truth_shaped a) _ e)) in
        means-as n x (pos 1) _ _ (sym ((λ i. total Or (f.1 i) (k i)) ∙ or-one f.0)) one
    by false e = only_if-means n x _ (are_opposite negated a b) _ (λ o.
        let s = opposite-values n x negated a b (neg refl) ha hb o in
        means-as n x (pos 1) _ _ (sym (elim s.1 [
          | inl v ↦ (λ i. total Or (v.0 i) (v.1 i)) ∙ (or-contrary s.0).0
          | inr v ↦ (λ i. total Or (v.0 i) (v.1 i)) ∙ (or-contrary s.0).1
        ])) one)
truths-means n x negated op a b words ha hb neg = tt

zero-eq : (v : ℤ) → int_eq v (pos 0) ≡ is_zero v
zero-eq (pos zero) = refl
zero-eq (pos (suc n)) = grind arith
zero-eq (negsuc n) = refl

flag-not-zero : (p : Bool) → flag (not (is_zero (flag p))) ≡ flag p
flag-not-zero true = refl
flag-not-zero false = refl

zeros-means : (n : ℕ) (x : List ℤ) (negated : Term → Term) (op : TermOp) (a b : Term) → IsTerm n a → (negates op ≡ true → Negates n x negated) →
    MeansIf n x (total op (term_value a x) (term_value b x)) (beside_zero negated op a b)
zeros-means n x negated Eq a b ha neg = only_if-means n x _ (is_comparison a && is_number (pos 0) b) _ (λ e.
    let k = number-value b (pos 0) x (number-true (pos 0) b (and-right (is_comparison a) _ e)) in
    means-as n x _ _ _ (sym (ap (λ (m : ℤ). flag (int_eq (term_value a x) m)) k ∙ ap flag (zero-eq (term_value a x)))) (neg refl a ha))
zeros-means n x negated Ne a b ha neg = only_if-means n x _ (is_truth_shaped a && is_number (pos 0) b) _ (λ e.
    let k = number-value b (pos 0) x (number-true (pos 0) b (and-right (is_truth_shaped a) _ e)) in
    let f = truth-flag x a (and-left _ _ e) in
    record { is = ha; value = f.1 ∙ sym (flag-not-zero f.0) ∙ sym (ap (λ (m : ℤ). flag (not (int_eq (term_value a x) m))) k ∙ ap (λ (b : Bool). flag (not b)) (zero-eq (term_value a x)) ∙ ap (λ (v : ℤ). flag (not (is_zero v))) f.1) })
zeros-means n x negated op a b ha neg = tt

or-means : (n : ℕ) (x : List ℤ) (v : ℤ) (answer : Option Term) (t : Term) → MeansIf n x v answer → Means n x v t → Means n x v (unwrap_or answer t)
or-means n x v None t h m = m
or-means n x v (Some u) t h m = h

in_order-means : (n : ℕ) (x : List ℤ) (negated : Term → Term) (op : TermOp) (a b : Term) → All IsWord x → IsTerm n a → IsTerm n b → (negates op ≡ true → Negates n x negated) →
    Means n x (total op (term_value a x) (term_value b x)) (in_order negated op a b)
in_order-means n x negated op a b words ha hb neg =
    or-means n x _ (beside_neutral op a b) _ (neutral-means n x op a b words ha)
    (or-means n x _ (beside_decided op b) _ (decided-means n x op a b words ha)
    (or-means n x _ (on_one_twice op a b) _ (twice-means n x op a b words ha)
    (or-means n x _ (on_truths negated op a b) _ (truths-means n x negated op a b words ha hb neg)
    (or-means n x _ (beside_zero negated op a b) _ (zeros-means n x negated op a b ha neg) (op-means n x op a b ha hb)))))

numbers-means : (n : ℕ) (x : List ℤ) (op : TermOp) (a b : Term) → IsTerm n a → IsTerm n b → MeansIf n x (total op (term_value a x) (term_value b x)) (on_numbers op a b)
numbers-means n x op a b ha hb = by (as_number a) (as_number b) refl refl
  where
    by : (p q : Option ℤ) → as_number a ≡ p → as_number b ≡ q → MeansIf n x (total op (term_value a x) (term_value b x)) (option_and_then (λ m. option_map (λ k. Num (total op m k)) q) p)
    by None q e f = tt
    by (Some m) None e f = tt
    by (Some m) (Some k) e f =
        means-as n x (total op m k) _ _ (λ i. total op (sym (number-value a m x e) i) (sym (number-value b k x f) i))
        (num-means n x (total op m k) (total-word op m k (number-word n a m ha e) (number-word n b k hb f)))

folded_by-means : (n : ℕ) (x : List ℤ) (negated : Term → Term) (op : TermOp) (a b : Term) → All IsWord x → IsTerm n a → IsTerm n b → (negates op ≡ true → Negates n x negated) →
    Means n x (total op (term_value a x) (term_value b x)) (folded_by negated op a b)
folded_by-means n x negated op a b words ha hb neg = or-means n x _ (on_numbers op a b) _ (numbers-means n x op a b ha hb) (by (are_exchanged op a b) refl)
  where
    by : (z : Bool) → are_exchanged op a b ≡ z → Means n x (total op (term_value a x) (term_value b x)) (if z then in_order negated op b a else in_order negated op a b)
    by true e = means-as n x _ _ _ (exchanged-value op (term_value b x) (term_value a x) (and-left (exchanges op) _ e)) (in_order-means n x negated op b a words hb ha neg)
    by false e = in_order-means n x negated op a b words ha hb neg

unequal-means : (n : ℕ) (x : List ℤ) (a b : Term) → All IsWord x → IsTerm n a → IsTerm n b → Means n x (total Ne (term_value a x) (term_value b x)) (unequal a b)
unequal-means n x a b words ha hb = folded_by-means n x (λ t. t) Ne a b words ha hb (λ e. cc e)

-- ---- negations and truths

not-less : (v w : ℤ) → int_le w v ≡ is_zero (flag (int_lt v w))
not-less v w = by (int_lt v w) refl
  where
    by : (z : Bool) → int_lt v w ≡ z → int_le w v ≡ is_zero (flag z)
    by true e = grind (arith, ints, e)
    by false e = grind (arith, ints, e)

not-at-most : (v w : ℤ) → int_lt w v ≡ is_zero (flag (int_le v w))
not-at-most v w = by (int_le v w) refl
  where
    by : (z : Bool) → int_le v w ≡ z → int_lt w v ≡ is_zero (flag z)
    by true e = grind (arith, ints, e)
    by false e = grind (arith, ints, e)

contrary : (p : Bool) → flag (not p) ≡ flag (is_zero (flag p))
contrary true = refl
contrary false = refl

same-contrary : (p : Bool) → flag p ≡ flag (is_zero (flag (not p)))
same-contrary true = refl
same-contrary false = refl

is-parts : (n : ℕ) (op : TermOp) (a b : Term) → IsTerm n (Op op a b) → IsTerm n a × IsTerm n b
is-parts n op a b h = let f = sym (test-Op n op a b) ∙ h in (and-left _ _ f, and-right (fold-Term Bool (node_is_term n) a) _ f)

beside-zero-means : (n : ℕ) (x : List ℤ) (t : Term) → IsTerm n t → Means n x (flag (is_zero (term_value t x))) (Op Eq t (Num (pos 0)))
beside-zero-means n x t h =
    means-as n x _ _ _ (ap (λ (m : ℤ). flag (int_eq (term_value t x) m)) (term_value-Num (pos 0) x) ∙ ap flag (zero-eq (term_value t x)))
    (op-means n x Eq t (Num (pos 0)) h (num-means n x (pos 0) zero-word).is)

negation-means : (n : ℕ) (x : List ℤ) → All IsWord x → (t : Term) → IsTerm n t → Means n x (flag (is_zero (term_value t x))) (negation t)
negation-means n x words t h = by (out-Term t) (sym (roll-out-Term t))
  where
    op : (o : TermOp) (a b : Term) → t ≡ Op o a b → term_value t x ≡ total o (term_value a x) (term_value b x)
    op o a b e = ap (λ (u : Term). term_value u x) e ∙ term_value-Op o a b x

    parts : (o : TermOp) (a b : Term) → t ≡ Op o a b → IsTerm n a × IsTerm n b
    parts o a b e = is-parts n o a b (let P : Term → Type 0 = λ u. IsTerm n u in subst P e h)

    other : Means n x (flag (is_zero (term_value t x))) (Op Eq t (Num (pos 0)))
    other = beside-zero-means n x t h

    by-op : (o : TermOp) (a b : Term) → t ≡ Op o a b → Means n x (flag (is_zero (term_value t x))) (node_negation t (Term-F.Op o a b))
    by-op Lt a b e = let p = parts Lt a b e in
        means-as n x _ _ _ (ap flag (not-less (term_value a x) (term_value b x)) ∙ ap (λ (v : ℤ). flag (is_zero v)) (sym (op Lt a b e))) (op-means n x Le b a p.1 p.0)
    by-op Le a b e = let p = parts Le a b e in
        means-as n x _ _ _ (ap flag (not-at-most (term_value a x) (term_value b x)) ∙ ap (λ (v : ℤ). flag (is_zero v)) (sym (op Le a b e))) (op-means n x Lt b a p.1 p.0)
    by-op Eq a b e = let p = parts Eq a b e in
        means-as n x _ _ _ (contrary (int_eq (term_value a x) (term_value b x)) ∙ ap (λ (v : ℤ). flag (is_zero v)) (sym (op Eq a b e))) (unequal-means n x a b words p.0 p.1)
    by-op Ne a b e = let p = parts Ne a b e in
        means-as n x _ _ _ (same-contrary (int_eq (term_value a x) (term_value b x)) ∙ ap (λ (v : ℤ). flag (is_zero v)) (sym (op Ne a b e))) (op-means n x Eq a b p.0 p.1)
    by-op Add a b e = other
    by-op Sub a b e = other
    by-op Mul a b e = other
    by-op Div a b e = other
    by-op Rem a b e = other
    by-op Shl a b e = other
    by-op Shr a b e = other
    by-op And a b e = other
    by-op Or a b e = other
    by-op Xor a b e = other

    by : (z : Term-F Term) → t ≡ roll-Term z → Means n x (flag (is_zero (term_value t x))) (node_negation t z)
    by (Term-F.Num k) e =
        means-as n x _ _ _ (ap flag (zero-eq k) ∙ ap (λ (v : ℤ). flag (is_zero v)) (sym (ap (λ (u : Term). term_value u x) (e ∙ rolls-Num k) ∙ term_value-Num k x)))
        (num-means n x (total Eq k (pos 0)) (flag-word (int_eq k (pos 0))))
    by (Term-F.Op o a b) e = by-op o a b (e ∙ rolls-Op o a b)
    by (Term-F.Param k) e = other
    by (Term-F.Pick c a b) e = other

truth-means : (n : ℕ) (x : List ℤ) → All IsWord x → (t : Term) → IsTerm n t → Means n x (flag (not (is_zero (term_value t x)))) (truth t)
truth-means n x words t h = by (is_truth_shaped t) refl
  where
    by : (z : Bool) → is_truth_shaped t ≡ z → Means n x (flag (not (is_zero (term_value t x)))) (if z then t else unequal t (Num (pos 0)))
    by true e = let f = truth-flag x t e in record { is = h; value = f.1 ∙ sym (flag-not-zero f.0) ∙ ap (λ (v : ℤ). flag (not (is_zero v))) (sym f.1) }
    by false e =
        means-as n x _ _ _ (ap (λ (m : ℤ). flag (not (int_eq (term_value t x) m))) (term_value-Num (pos 0) x) ∙ ap (λ (b : Bool). flag (not b)) (zero-eq (term_value t x)))
        (unequal-means n x t (Num (pos 0)) words h (num-means n x (pos 0) zero-word).is)

folded-means : (n : ℕ) (x : List ℤ) (op : TermOp) (a b : Term) → All IsWord x → IsTerm n a → IsTerm n b → Means n x (total op (term_value a x) (term_value b x)) (folded op a b)
folded-means n x op a b words ha hb = folded_by-means n x negation op a b words ha hb (λ _ t h. negation-means n x words t h)

pick-means : (n : ℕ) (x : List ℤ) (c a b : Term) → IsTerm n c → IsTerm n a → IsTerm n b → Means n x (if is_zero (term_value c x) then term_value b x else term_value a x) (folded_pick c a b)
pick-means n x c a b hc ha hb =
    or-means n x _ (option_map (λ k. if is_zero k then b else a) (as_number c)) _ (by (as_number c) refl)
    (or-means n x _ (only_if (same_term a b) a) _ (only_if-means n x _ (same_term a b) a same)
    (record { is = test-Pick n c a b ∙ both _ _ hc (both _ _ ha hb); value = term_value-Pick c a b x }))
  where
    at : (z : Bool) → Means n x (if z then term_value b x else term_value a x) (if z then b else a)
    at true = record { is = hb; value = refl }
    at false = record { is = ha; value = refl }

    by : (o : Option ℤ) → as_number c ≡ o → MeansIf n x (if is_zero (term_value c x) then term_value b x else term_value a x) (option_map (λ k. if is_zero k then b else a) o)
    by None e = tt
    by (Some k) e =
        let P : ℤ → Type 0 = λ m. Means n x (if is_zero m then term_value b x else term_value a x) (if is_zero k then b else a) in
        subst P (sym (number-value c k x e)) (at (is_zero k))

    one : (z : Bool) → term_value a x ≡ term_value b x → term_value a x ≡ (if z then term_value b x else term_value a x)
    one true e = e
    one false e = refl

    same : same_term a b ≡ true → Means n x (if is_zero (term_value c x) then term_value b x else term_value a x) a
    same e = record { is = ha; value = one (is_zero (term_value c x)) (ap (λ (u : Term). term_value u x) ((same_term-same a b).0 e)) }

-- no input: a term is one whatever its value
no-words : All IsWord []
no-words k d below = absurd (omega (arith, below))

pub folded-value : (n : ℕ) (op : TermOp) (a b : Term) (x : List ℤ) → IsTerm n a → IsTerm n b → All IsWord x → term_value (folded op a b) x ≡ total op (term_value a x) (term_value b x)
folded-value n op a b x h k w = (folded-means n x op a b w h k).value

pub pick-value : (n : ℕ) (c a b : Term) (x : List ℤ) → IsTerm n c → IsTerm n a → IsTerm n b → All IsWord x → term_value (folded_pick c a b) x ≡ (if is_zero (term_value c x) then term_value b x else term_value a x)
pick-value n c a b x h k l w = (pick-means n x c a b h k l).value

pub negation-value : (n : ℕ) (a : Term) (x : List ℤ) → IsTerm n a → All IsWord x → term_value (negation a) x ≡ flag (is_zero (term_value a x))
negation-value n a x h w = (negation-means n x w a h).value

pub truth-value : (n : ℕ) (a : Term) (x : List ℤ) → IsTerm n a → All IsWord x → term_value (truth a) x ≡ flag (not (is_zero (term_value a x)))
truth-value n a x h w = (truth-means n x w a h).value

pub folded-term : (n : ℕ) (op : TermOp) (a b : Term) → IsTerm n a → IsTerm n b → IsTerm n (folded op a b)
folded-term n op a b h k = (folded-means n [] op a b no-words h k).is

pub pick-term : (n : ℕ) (c a b : Term) → IsTerm n c → IsTerm n a → IsTerm n b → IsTerm n (folded_pick c a b)
pick-term n c a b h k l = (pick-means n [] c a b h k l).is

pub negation-term : (n : ℕ) (a : Term) → IsTerm n a → IsTerm n (negation a)
negation-term n a h = (negation-means n [] no-words a h).is

pub truth-term : (n : ℕ) (a : Term) → IsTerm n a → IsTerm n (truth a)
truth-term n a h = (truth-means n [] no-words a h).is
