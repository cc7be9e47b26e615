-- A folding gives folded terms, and a folded truth is the negation of its negation.
use Rattle.std.proofs.Common.{◌≡◌, ◌≢◌, ℤ, pos, ℕ, Bool, true, false, not, ◌||◌, ◌&&◌, List, [], ◌∷◌, Option, Some, None, refl, sym, ap, ◌∙◌, subst, if◌then◌else◌, unwrap_or}
use Rattle.std.specs.Prelude.{is_none, IfSome}
use Rattle.std.specs.List.{list_all}
use Rattle.std.specs.Option.{option_map, option_and_then}
use Rattle.std.specs.declared.cmp.Ordering.{Ordering}
use Rattle.std.specs.declared.cmp.Ordering.TheVariants.{Less, Equal, Greater}
use Rattle.std.specs.Ordering.{int_eq, is_gt, ordering_reverse, ordering_then, nat_cmp}
use Rattle.std.specs.Cmp.{signed_Decides}
use Rattle.prv_model.specs.Words.{is_zero, flag}
use Rattle.prv_model.specs.Terms.{total}
use Rattle.prv_model.specs.TermOrder.{term_cmp, same_term, op_rank}
use Rattle.prv_model.proofs.OrderLemmas.{term_cmp_total, term_cmp-out, term_cmp-equal, same_term-same}
use Rattle.prv_model.specs.declared.op.TermOp.{TermOp}
use Rattle.prv_model.specs.declared.op.TermOp.TheVariants.{Add, Sub, Mul, Div, Rem, Shl, Shr, And, Or, Xor, Lt, Le, Eq, Ne}
use Rattle.prv_model.specs.declared.term.Term.{Term, out-Term}
use Rattle.prv_model.specs.declared.term.Term.TheVariants.{Param, Op, Pick, Num}
use Rattle.prv_model.specs.declared.term.Term.TheOpen.{Term-F}
use Rattle.prv_pool.specs.Folding as Folding
use Rattle.prv_pool.specs.Folding.{as_number, is_number, is_comparison, is_truth_shaped, compares, joins, only_if, first_of, on_numbers, exchanges, are_exchanged, is_neutral, decided, beside_neutral, beside_decided, twice, on_one_twice, are_opposite, on_truths, beside_zero, rules, in_order, folded_by, unequal, node_negation, negation, folded, truth, pick_rules, folded_pick, is_settled, is_folded}
use Rattle.prv_pool.specs.Folds.{or_else}
use Rattle.prv_pool.specs.Nodes as Nodes
use Rattle.prv_pool.specs.Nodes.{node_term}
use Rattle.prv_pool.specs.declared.node.Node.{Node}
use Rattle.prv_pool.specs.declared.node.Node.TheVariants as node
use Rattle.prv_pool.proofs.Shapes.{out-Param, out-Op, out-Pick, out-Num, truth-Param, truth-Op, truth-Num, folded-Op, folded-Pick, folded-Num}
use Rattle.prv_pool.proofs.TableLemmas.{by-term, same-not}

-- an answer, if there is one, is folded
abbrev IsFoldedIf : Option Term → Type 0
IsFoldedIf answer = IfSome answer (λ t. is_folded t ≡ true)

only_if-folded : (b : Bool) (t : Term) → is_folded t ≡ true → IsFoldedIf (only_if b t)
only_if-folded true t h = h
only_if-folded false t h = tt

numbers-folded : (op : TermOp) (a b : Term) → IsFoldedIf (on_numbers op a b)
numbers-folded op a b = by (as_number a) (as_number b)
  where
    by : (m n : Option ℤ) → IsFoldedIf (option_and_then (λ x. option_map (λ y. Num (total op x y)) n) m)
    by None n = tt
    by (Some m) None = tt
    by (Some m) (Some n) = folded-Num _

neutral-folded : (op : TermOp) (a b : Term) → is_folded a ≡ true → IsFoldedIf (beside_neutral op a b)
neutral-folded op a b h = only_if-folded _ a h

decided-folded : (op : TermOp) (b : Term) → IsFoldedIf (beside_decided op b)
decided-folded op b = by (as_number b)
  where
    one : (op : TermOp) (n : ℤ) → IsFoldedIf (decided op n)
    one Mul n = only_if-folded _ _ (folded-Num _)
    one Rem n = only_if-folded _ _ (folded-Num _)
    one And n = only_if-folded _ _ (folded-Num _)
    one Or n = only_if-folded _ _ (folded-Num _)
    one op n = tt

    by : (n : Option ℤ) → IsFoldedIf (option_and_then (decided op) n)
    by None = tt
    by (Some n) = one op n

twice-folded : (op : TermOp) (a b : Term) → is_folded a ≡ true → IsFoldedIf (on_one_twice op a b)
twice-folded op a b h = by (same_term a b)
  where
    one : (op : TermOp) → IsFoldedIf (twice op a)
    one Sub = folded-Num _
    one Xor = folded-Num _
    one Lt = folded-Num _
    one Ne = folded-Num _
    one Eq = folded-Num _
    one Le = folded-Num _
    one And = h
    one Or = h
    one op = tt

    by : (b : Bool) → IsFoldedIf (if b then twice op a else None)
    by true = one op
    by false = tt

truths-folded : (negated : Term → Term) (op : TermOp) (a b : Term) → is_folded a ≡ true → IsFoldedIf (on_truths negated op a b)
truths-folded negated And a b h = by (is_truth_shaped a && is_number (pos 1) b)
  where
    by : (s : Bool) → IsFoldedIf (if s then Some a else only_if (are_opposite negated a b) (Num (pos 0)))
    by true = h
    by false = only_if-folded _ _ (folded-Num _)
truths-folded negated Or a b h = only_if-folded _ _ (folded-Num _)
truths-folded negated op a b h = tt

zero-folded : (negated : Term → Term) (op : TermOp) (a b : Term) → is_folded a ≡ true → is_folded (negated a) ≡ true → IsFoldedIf (beside_zero negated op a b)
zero-folded negated Eq a b h g = only_if-folded _ _ g
zero-folded negated Ne a b h g = only_if-folded _ _ h
zero-folded negated op a b h g = tt

all-none : (x : Option Term) (rest : List (Option Term)) → list_all is_none rest ≡ true → x ≡ None → list_all is_none (x ∷ rest) ≡ true
all-none None rest h e = h
all-none (Some t) rest h e = cc

-- what the rules give for operands in their order: an answer that is folded, or the operator itself, to which no rule applies
first-folded : (x1 x2 x3 x4 x5 : Option Term) (t : Term) → IsFoldedIf x1 → IsFoldedIf x2 → IsFoldedIf x3 → IsFoldedIf x4 → IsFoldedIf x5
    → (list_all is_none (x1 ∷ x2 ∷ x3 ∷ x4 ∷ x5 ∷ []) ≡ true → is_folded t ≡ true) → is_folded (first_of (x1 ∷ x2 ∷ x3 ∷ x4 ∷ x5 ∷ []) t) ≡ true
first-folded (Some u) x2 x3 x4 x5 t h1 h2 h3 h4 h5 h = h1
first-folded None (Some u) x3 x4 x5 t h1 h2 h3 h4 h5 h = h2
first-folded None None (Some u) x4 x5 t h1 h2 h3 h4 h5 h = h3
first-folded None None None (Some u) x5 t h1 h2 h3 h4 h5 h = h4
first-folded None None None None (Some u) t h1 h2 h3 h4 h5 h = h5
first-folded None None None None None t h1 h2 h3 h4 h5 h = h refl

settled-folded : (op : TermOp) (a b : Term) → on_numbers op a b ≡ None → are_exchanged op a b ≡ false → is_folded a ≡ true → is_folded b ≡ true → IsFoldedIf (beside_zero negation op a b)
    → is_folded (in_order negation op a b) ≡ true
settled-folded op a b numbers order fa fb z =
    first-folded (beside_neutral op a b) (beside_decided op b) (on_one_twice op a b) (on_truths negation op a b) (beside_zero negation op a b) (Op op a b)
    (neutral-folded op a b fa) (decided-folded op b) (twice-folded op a b fa) (truths-folded negation op a b fa) z
    (λ none. folded-Op op a b ∙ (λ i. (fa i && fb i) && (is_none (numbers i) && (not (order i) && none i))))

numbers-none : (op other : TermOp) (a b : Term) → on_numbers op a b ≡ None → on_numbers other a b ≡ None
numbers-none op other a b e = by (as_number a) (as_number b) e
  where
    by : (m n : Option ℤ) → option_and_then (λ x. option_map (λ y. Num (total op x y)) n) m ≡ None → option_and_then (λ x. option_map (λ y. Num (total other x y)) n) m ≡ None
    by None n e = refl
    by (Some m) None e = refl
    by (Some m) (Some n) e = cc

numbers-turned : (op other : TermOp) (a b : Term) → on_numbers op a b ≡ None → on_numbers other b a ≡ None
numbers-turned op other a b e = by (as_number a) (as_number b) e
  where
    by : (m n : Option ℤ) → option_and_then (λ x. option_map (λ y. Num (total op x y)) n) m ≡ None → option_and_then (λ x. option_map (λ y. Num (total other x y)) m) n ≡ None
    by None None e = refl
    by None (Some n) e = refl
    by (Some m) None e = refl
    by (Some m) (Some n) e = cc

not-exchanged-back : (op : TermOp) (a b : Term) → are_exchanged op a b ≡ true → are_exchanged op b a ≡ false
not-exchanged-back op a b e = by (exchanges op) (term_cmp b a) (ap (λ (o : Ordering). exchanges op && is_gt o) (sym (term_cmp_total.antisymm a b)) ∙ e)
  where
    by : (s : Bool) (o : Ordering) → (s && is_gt (ordering_reverse o)) ≡ true → (s && is_gt o) ≡ false
    by true Less e = refl
    by true Equal e = refl
    by true Greater e = cc
    by false o e = refl

-- a folding of folded operands, with what the rule on 0 gives
folded-if : (op : TermOp) (a b : Term) → is_folded a ≡ true → is_folded b ≡ true → IsFoldedIf (beside_zero negation op a b) → IsFoldedIf (beside_zero negation op b a) → is_folded (folded op a b) ≡ true
folded-if op a b fa fb z z' = by (on_numbers op a b) refl
  where
    by-order : on_numbers op a b ≡ None → (s : Bool) → are_exchanged op a b ≡ s → is_folded (if s then in_order negation op b a else in_order negation op a b) ≡ true
    by-order e true d = settled-folded op b a (numbers-turned op op a b e) (not-exchanged-back op a b d) fb fa z'
    by-order e false d = settled-folded op a b e d fa fb z

    by : (x : Option Term) → on_numbers op a b ≡ x → is_folded (first_of (x ∷ []) (if are_exchanged op a b then in_order negation op b a else in_order negation op a b)) ≡ true
    by (Some t) e = subst IsFoldedIf e (numbers-folded op a b)
    by None e = by-order e (are_exchanged op a b) refl

-- ---- what it means that no rule applies

and-both : (s t : Bool) → (s && t) ≡ true → (s ≡ true) × (t ≡ true)
and-both true t e = (refl, e)
and-both false t e = cc

is-none : {A : Type 0} (x : Option A) → is_none x ≡ true → x ≡ None
is-none None e = refl
is-none (Some a) e = cc

not-true : (b : Bool) → not b ≡ true → b ≡ false
not-true true e = cc
not-true false e = refl

none-list : (x : Option Term) (rest : List (Option Term)) → list_all is_none (x ∷ rest) ≡ true → (x ≡ None) × (list_all is_none rest ≡ true)
none-list x rest e = let both = and-both (is_none x) (list_all is_none rest) e in (is-none x both.0, both.1)

-- each part of it
record Settled (op : TermOp) (a b : Term) : Type 0 where
  numbers : on_numbers op a b ≡ None
  order : are_exchanged op a b ≡ false
  neutral : beside_neutral op a b ≡ None
  decide : beside_decided op b ≡ None
  same : on_one_twice op a b ≡ None
  truths : on_truths negation op a b ≡ None
  null : beside_zero negation op a b ≡ None

settled : (op : TermOp) (a b : Term) → is_settled op a b ≡ true → Settled op a b
settled op a b e =
    let one = and-both _ _ e in
    let two = and-both _ _ one.1 in
    let l1 = none-list _ (beside_decided op b ∷ on_one_twice op a b ∷ on_truths negation op a b ∷ beside_zero negation op a b ∷ []) two.1 in
    let l2 = none-list _ (on_one_twice op a b ∷ on_truths negation op a b ∷ beside_zero negation op a b ∷ []) l1.1 in
    let l3 = none-list _ (on_truths negation op a b ∷ beside_zero negation op a b ∷ []) l2.1 in
    let l4 = none-list _ (beside_zero negation op a b ∷ []) l3.1 in
    let l5 = none-list _ [] l4.1 in
    record { numbers = is-none _ one.0; order = not-true _ two.0; neutral = l1.0; decide = l2.0; same = l3.0; truths = l4.0; null = l5.0 }

settles : (op : TermOp) (a b : Term) → Settled op a b → is_settled op a b ≡ true
settles op a b s =
    λ i. is_none (s.numbers i) && (not (s.order i) && list_all is_none (s.neutral i ∷ s.decide i ∷ s.same i ∷ s.truths i ∷ s.null i ∷ []))

-- a settled operator is its own folding
pub settled-is : (op : TermOp) (a b : Term) → is_settled op a b ≡ true → folded op a b ≡ Op op a b
settled-is op a b e =
    let s = settled op a b e in
    (λ i. first_of (s.numbers i ∷ []) (if s.order i then in_order negation op b a else first_of (s.neutral i ∷ s.decide i ∷ s.same i ∷ s.truths i ∷ s.null i ∷ []) (Op op a b)))

-- the parts of a folded operator
folded-parts : (op : TermOp) (a b : Term) → is_folded (Op op a b) ≡ true → (is_folded a ≡ true) × (is_folded b ≡ true) × Settled op a b
folded-parts op a b e =
    let one = and-both _ _ (sym (folded-Op op a b) ∙ e) in
    let two = and-both _ _ one.0 in
    (two.0, two.1, settled op a b one.1)

-- a number behind decides nothing for an operator that compares
compare-neutral : (op : TermOp) (a b : Term) → compares op ≡ true → beside_neutral op a b ≡ None
compare-neutral op a b e = by (as_number b)
  where
    no : (op : TermOp) (n : ℤ) → compares op ≡ true → is_neutral op n ≡ false
    no Lt n e = refl
    no Le n e = refl
    no Eq n e = refl
    no Ne n e = refl
    no op n e = cc

    by : (n : Option ℤ) → only_if (unwrap_or (option_map (is_neutral op) n) false) a ≡ None
    by None = refl
    by (Some n) = ap (λ (s : Bool). only_if s a) (no op n e)

compare-decided : (op : TermOp) (b : Term) → compares op ≡ true → beside_decided op b ≡ None
compare-decided op b e = by (as_number b)
  where
    no : (op : TermOp) (n : ℤ) → compares op ≡ true → decided op n ≡ None
    no Lt n e = refl
    no Le n e = refl
    no Eq n e = refl
    no Ne n e = refl
    no op n e = cc

    by : (n : Option ℤ) → option_and_then (decided op) n ≡ None
    by None = refl
    by (Some n) = no op n e

-- two operands of a settled comparison differ
compare-differ : (op : TermOp) (a b : Term) → compares op ≡ true → on_one_twice op a b ≡ None → same_term a b ≡ false
compare-differ op a b e none = by (same_term a b) refl
  where
    some : (op : TermOp) → compares op ≡ true → twice op a ≡ None → ⊥
    some Lt e d = cc
    some Le e d = cc
    some Eq e d = cc
    some Ne e d = cc
    some op e d = cc

    by : (s : Bool) → same_term a b ≡ s → same_term a b ≡ false
    by true d = absurd (some op e (ap (λ (s : Bool). if s then twice op a else None) (sym d) ∙ none))
    by false d = d

differ-none : (op : TermOp) (a b : Term) → same_term a b ≡ false → on_one_twice op a b ≡ None
differ-none op a b e = ap (λ (s : Bool). if s then twice op a else None) e

same-turned : (a b : Term) → same_term a b ≡ false → same_term b a ≡ false
same-turned a b e = same-not b a (λ d. let yes : same_term a b ≡ true = (same_term-same a b).1 (sym d) in cc)

-- ---- the contrary comparison

less-settled : (a b : Term) → Settled Lt a b → Settled Le b a
less-settled a b s = record {
  numbers = numbers-turned Lt Le a b s.numbers;
  order = refl;
  neutral = compare-neutral Le b a refl;
  decide = compare-decided Le a refl;
  same = differ-none Le b a (same-turned a b (compare-differ Lt a b refl s.same));
  truths = refl;
  null = refl;
}

least-settled : (a b : Term) → Settled Le a b → Settled Lt b a
least-settled a b s = record {
  numbers = numbers-turned Le Lt a b s.numbers;
  order = refl;
  neutral = compare-neutral Lt b a refl;
  decide = compare-decided Lt a refl;
  same = differ-none Lt b a (same-turned a b (compare-differ Le a b refl s.same));
  truths = refl;
  null = refl;
}

-- a comparison is truth-shaped
comparison-truth : (a : Term) → is_truth_shaped a ≡ false → is_comparison a ≡ false
comparison-truth =
    by-term (λ a. is_truth_shaped a ≡ false → is_comparison a ≡ false)
    (λ k e. ap Folding.node_compares (out-Param k))
    (λ o a b _ _ e. ap Folding.node_compares (out-Op o a b) ∙ first (compares o) _ (sym (truth-Op o a b) ∙ e))
    (λ t a b _ _ _ e. ap Folding.node_compares (out-Pick t a b))
    (λ n e. ap Folding.node_compares (out-Num n))
  where
    first : (s t : Bool) → (s || t) ≡ false → s ≡ false
    first true t e = cc
    first false t e = refl

only_if-none : (s : Bool) (t : Term) → only_if s t ≡ None → s ≡ false
only_if-none true t e = cc
only_if-none false t e = refl

none-only_if : (s : Bool) (t : Term) → s ≡ false → only_if s t ≡ None
none-only_if true t e = cc
none-only_if false t e = refl

and-weaker : (s t u : Bool) → (s ≡ false → t ≡ false) → (s && u) ≡ false → (t && u) ≡ false
and-weaker true true u f e = e
and-weaker true false u f e = refl
and-weaker false t u f e = ap (λ (x : Bool). x && u) (f refl)

unequal-settled : (a b : Term) → Settled Ne a b → Settled Eq a b
unequal-settled a b s = record {
  numbers = numbers-none Ne Eq a b s.numbers;
  order = s.order;
  neutral = compare-neutral Eq a b refl;
  decide = compare-decided Eq b refl;
  same = differ-none Eq a b (compare-differ Ne a b refl s.same);
  truths = refl;
  null = none-only_if _ _ (and-weaker (is_truth_shaped a) (is_comparison a) (is_number (pos 0) b) (comparison-truth a) (only_if-none _ _ s.null));
}

-- ---- a term and 0

number-of-Op : (o : TermOp) (a b : Term) → as_number (Op o a b) ≡ None
number-of-Op o a b = ap Folding.node_number (out-Op o a b)

number-of-Num : (n : ℤ) → as_number (Num n) ≡ Some n
number-of-Num n = ap Folding.node_number (out-Num n)

is_number-Num : (m n : ℤ) → is_number m (Num n) ≡ int_eq m n
is_number-Num m n = ap (λ (o : Option ℤ). unwrap_or (option_map (int_eq m) o) false) (number-of-Num n)

-- a term that is no number stands before each number
before-number : (x : Term) (n : ℤ) → as_number x ≡ None → is_gt (term_cmp x (Num n)) ≡ false
before-number x n = by-term (λ x. as_number x ≡ None → is_gt (term_cmp x (Num n)) ≡ false)
    (λ k e. ap is_gt (term_cmp-out _ _ _ _ (out-Param k) (out-Num n)))
    (λ o a b _ _ e. ap is_gt (term_cmp-out _ _ _ _ (out-Op o a b) (out-Num n)) ∙ op o)
    (λ t a b _ _ _ e. ap is_gt (term_cmp-out _ _ _ _ (out-Pick t a b) (out-Num n)))
    (λ m e. let f = sym (number-of-Num m) ∙ e in cc)
    x
  where
    op : (o : TermOp) → is_gt (ordering_then (nat_cmp (op_rank o) 16) Equal) ≡ false
    op Add = refl
    op Sub = refl
    op Mul = refl
    op Div = refl
    op Rem = refl
    op Shl = refl
    op Shr = refl
    op And = refl
    op Or = refl
    op Xor = refl
    op Lt = refl
    op Le = refl
    op Eq = refl
    op Ne = refl

numbers-with : (op : TermOp) (x : Term) (b : Term) → as_number x ≡ None → on_numbers op x b ≡ None
numbers-with op x b e = ap (λ (m : Option ℤ). option_and_then (λ y. option_map (λ n. Num (total op y n)) (as_number b)) m) e

not-a-number : (x : Term) (n : ℤ) → as_number x ≡ None → same_term x (Num n) ≡ false
not-a-number x n e = same-not x (Num n) (λ d. let f = ap as_number d ∙ number-of-Num n in cc)

zero-is : is_number (pos 0) (Num (pos 0)) ≡ true
zero-is = is_number-Num (pos 0) (pos 0)

equal-zero : (x : Term) → as_number x ≡ None → is_comparison x ≡ false → Settled Eq x (Num (pos 0))
equal-zero x e plain = record {
  numbers = numbers-with Eq x _ e;
  order = before-number x (pos 0) e;
  neutral = compare-neutral Eq x _ refl;
  decide = compare-decided Eq _ refl;
  same = differ-none Eq x _ (not-a-number x (pos 0) e);
  truths = refl;
  null = ap (λ (s : Bool). only_if (s && is_number (pos 0) (Num (pos 0))) (negation x)) plain;
}

unequal-zero : (x : Term) → as_number x ≡ None → is_truth_shaped x ≡ false → Settled Ne x (Num (pos 0))
unequal-zero x e plain = record {
  numbers = numbers-with Ne x _ e;
  order = before-number x (pos 0) e;
  neutral = compare-neutral Ne x _ refl;
  decide = compare-decided Ne _ refl;
  same = differ-none Ne x _ (not-a-number x (pos 0) e);
  truths = refl;
  null = ap (λ (s : Bool). only_if (s && is_number (pos 0) (Num (pos 0))) x) plain;
}

-- ---- negations are folded

op-folded : (op : TermOp) (a b : Term) → is_folded a ≡ true → is_folded b ≡ true → Settled op a b → is_folded (Op op a b) ≡ true
op-folded op a b fa fb s = folded-Op op a b ∙ (λ i. (fa i && fb i) && settles op a b s i)

zero-equation : (x : Term) → is_folded x ≡ true → as_number x ≡ None → is_comparison x ≡ false → is_folded (Op Eq x (Num (pos 0))) ≡ true
zero-equation x fx e plain = op-folded Eq x _ fx (folded-Num _) (equal-zero x e plain)

-- a negation by its node
negation-by : (x : Term) (y : Term-F Term) → out-Term x ≡ y → negation x ≡ node_negation x y
negation-by x y e = ap (node_negation x) e

null-unequal : (a b : Term) → is_folded a ≡ true → IsFoldedIf (beside_zero negation Ne a b)
null-unequal a b fa = only_if-folded _ a fa

pub unequal-folded : (a b : Term) → is_folded a ≡ true → is_folded b ≡ true → is_folded (unequal a b) ≡ true
unequal-folded a b fa fb = folded-if Ne a b fa fb (null-unequal a b fa) (null-unequal b a fb)

op-negation : (o : TermOp) (a b : Term) → is_folded (Op o a b) ≡ true → is_folded (node_negation (Op o a b) (Term-F.Op o a b)) ≡ true
op-negation Lt a b e = let p = folded-parts Lt a b e in op-folded Le b a p.1 p.0 (less-settled a b p.2)
op-negation Le a b e = let p = folded-parts Le a b e in op-folded Lt b a p.1 p.0 (least-settled a b p.2)
op-negation Eq a b e = let p = folded-parts Eq a b e in unequal-folded a b p.0 p.1
op-negation Ne a b e = let p = folded-parts Ne a b e in op-folded Eq a b p.0 p.1 (unequal-settled a b p.2)
op-negation o a b e = zero-equation (Op o a b) e (number-of-Op o a b) (ap Folding.node_compares (out-Op o a b))

pub negation-folded : (x : Term) → is_folded x ≡ true → is_folded (negation x) ≡ true
negation-folded =
    by-term (λ x. is_folded x ≡ true → is_folded (negation x) ≡ true)
    (λ k e. ap is_folded (negation-by (Param k) _ (out-Param k)) ∙ zero-equation (Param k) e (ap Folding.node_number (out-Param k)) (ap Folding.node_compares (out-Param k)))
    (λ o a b _ _ e. ap is_folded (negation-by (Op o a b) _ (out-Op o a b)) ∙ op-negation o a b e)
    (λ t a b _ _ _ e. ap is_folded (negation-by (Pick t a b) _ (out-Pick t a b)) ∙ zero-equation (Pick t a b) e (ap Folding.node_number (out-Pick t a b)) (ap Folding.node_compares (out-Pick t a b)))
    (λ n e. ap is_folded (negation-by (Num n) _ (out-Num n)) ∙ folded-Num _)

null-folded : (op : TermOp) (a b : Term) → is_folded a ≡ true → IsFoldedIf (beside_zero negation op a b)
null-folded op a b fa = zero-folded negation op a b fa (negation-folded a fa)

pub folding-folded : (op : TermOp) (a b : Term) → is_folded a ≡ true → is_folded b ≡ true → is_folded (folded op a b) ≡ true
folding-folded op a b fa fb = folded-if op a b fa fb (null-folded op a b fa) (null-folded op b a fb)

pub picking-folded : (t a b : Term) → is_folded t ≡ true → is_folded a ≡ true → is_folded b ≡ true → is_folded (folded_pick t a b) ≡ true
picking-folded t a b ft fa fb = by (option_map (λ n. if is_zero n then b else a) (as_number t)) (only_if (same_term a b) a) (chosen (as_number t)) (only_if-folded _ a fa) refl
  where
    either : (s : Bool) → is_folded (if s then b else a) ≡ true
    either true = fb
    either false = fa

    chosen : (m : Option ℤ) → IsFoldedIf (option_map (λ n. if is_zero n then b else a) m)
    chosen None = tt
    chosen (Some n) = either (is_zero n)

    by : (x y : Option Term) → IsFoldedIf x → IsFoldedIf y → list_all is_none (pick_rules t a b) ≡ list_all is_none (x ∷ y ∷ []) → is_folded (first_of (x ∷ y ∷ []) (Pick t a b)) ≡ true
    by (Some u) y h g e = h
    by None (Some u) h g e = g
    by None None h g e = folded-Pick t a b ∙ (λ i. (ft i && (fa i && fb i)) && e i)

pub truth-folded : (x : Term) → is_folded x ≡ true → is_folded (truth x) ≡ true
truth-folded x e = by (is_truth_shaped x)
  where
    by : (s : Bool) → is_folded (if s then x else unequal x (Num (pos 0))) ≡ true
    by true = e
    by false = unequal-folded x (Num (pos 0)) e (folded-Num _)

-- ---- the negation of the negation

unequal-null : (x : Term) → as_number x ≡ None → is_truth_shaped x ≡ true → unequal x (Num (pos 0)) ≡ x
unequal-null x e t =
    (λ i. first_of (numbers-with Ne x (Num (pos 0)) e i ∷ []) (if before-number x (pos 0) e i then in_order (λ y. y) Ne (Num (pos 0)) x
    else first_of (compare-neutral Ne x (Num (pos 0)) refl i ∷ compare-decided Ne (Num (pos 0)) refl i ∷ differ-none Ne x _ (not-a-number x (pos 0) e) i ∷ None ∷ only_if (t i && zero-is i) x ∷ []) (Op Ne x (Num (pos 0)))))

-- a truth that is no number and no comparison
twice-negated : (x : Term) → as_number x ≡ None → is_truth_shaped x ≡ true → negation x ≡ Op Eq x (Num (pos 0)) → negation (negation x) ≡ x
twice-negated x e t n = ap negation n ∙ negation-by (Op Eq x (Num (pos 0))) _ (out-Op Eq x (Num (pos 0))) ∙ unequal-null x e t

one-of : (n : ℤ) → (int_eq (pos 0) n || int_eq (pos 1) n) ≡ true → total Eq (total Eq n (pos 0)) (pos 0) ≡ n
one-of n e = by (int_eq (pos 0) n) (int_eq (pos 1) n) refl refl e
  where
    by : (s t : Bool) → int_eq (pos 0) n ≡ s → int_eq (pos 1) n ≡ t → (s || t) ≡ true → total Eq (total Eq n (pos 0)) (pos 0) ≡ n
    by true t d f g = subst (λ (k : ℤ). total Eq (total Eq k (pos 0)) (pos 0) ≡ k) ((signed_Decides (pos 0) n).0 d) refl
    by false true d f g = subst (λ (k : ℤ). total Eq (total Eq k (pos 0)) (pos 0) ≡ k) ((signed_Decides (pos 1) n).0 f) refl
    by false false d f g = cc

pub negated-Num : (n : ℤ) → negation (Num n) ≡ Num (total Eq n (pos 0))
negated-Num n = negation-by (Num n) _ (out-Num n)

negated-Op : (o : TermOp) (a b : Term) → negation (Op o a b) ≡ node_negation (Op o a b) (Term-F.Op o a b)
negated-Op o a b = negation-by (Op o a b) _ (out-Op o a b)

-- the negation of `a == b` is `a != b`, or a where b is 0 and a a truth
unequal-of : (a b : Term) → Settled Eq a b → unequal a b ≡ (if is_truth_shaped a && is_number (pos 0) b then a else Op Ne a b)
unequal-of a b s =
    (λ i. first_of (numbers-none Eq Ne a b s.numbers i ∷ []) (if s.order i then in_order (λ y. y) Ne b a
    else first_of (compare-neutral Ne a b refl i ∷ compare-decided Ne b refl i ∷ differ-none Ne a b (compare-differ Eq a b refl s.same) i ∷ None ∷ only_if (is_truth_shaped a && is_number (pos 0) b) a ∷ []) (Op Ne a b)))
    ∙ by (is_truth_shaped a && is_number (pos 0) b)
  where
    by : (t : Bool) → first_of (None ∷ None ∷ None ∷ None ∷ only_if t a ∷ []) (Op Ne a b) ≡ (if t then a else Op Ne a b)
    by true = refl
    by false = refl

is-zero-number : (b : Term) → is_number (pos 0) b ≡ true → b ≡ Num (pos 0)
is-zero-number b = by-term (λ b. is_number (pos 0) b ≡ true → b ≡ Num (pos 0))
    (λ k e. let f = ap (λ (o : Option ℤ). unwrap_or (option_map (int_eq (pos 0)) o) false) (ap Folding.node_number (out-Param k)) in cc)
    (λ o x y _ _ e. let f = ap (λ (o : Option ℤ). unwrap_or (option_map (int_eq (pos 0)) o) false) (number-of-Op o x y) in cc)
    (λ t x y _ _ _ e. let f = ap (λ (o : Option ℤ). unwrap_or (option_map (int_eq (pos 0)) o) false) (ap Folding.node_number (out-Pick t x y)) in cc)
    (λ n e. ap Num (sym ((signed_Decides (pos 0) n).0 (sym (is_number-Num (pos 0) n) ∙ e))))
    b

some-number : (b : Term) → is_number (pos 0) b ≡ true → as_number b ≡ Some (pos 0)
some-number b e = ap as_number (is-zero-number b e) ∙ number-of-Num (pos 0)

first-not : (a b : Term) → on_numbers Eq a b ≡ None → as_number b ≡ Some (pos 0) → as_number a ≡ None
first-not a b e d = by (as_number a) (ap (λ (n : Option ℤ). option_and_then (λ x. option_map (λ y. Num (total Eq x y)) n) (as_number a)) (sym d) ∙ e)
  where
    by : (m : Option ℤ) → option_and_then (λ x. option_map (λ y. Num (total Eq x y)) (Some (pos 0))) m ≡ None → m ≡ None
    by None f = refl
    by (Some m) f = cc

plain-negation : (a : Term) → as_number a ≡ None → is_comparison a ≡ false → negation a ≡ Op Eq a (Num (pos 0))
plain-negation =
    by-term (λ a. as_number a ≡ None → is_comparison a ≡ false → negation a ≡ Op Eq a (Num (pos 0)))
    (λ k e f. negation-by (Param k) _ (out-Param k))
    (λ o a b _ _ e f. negated-Op o a b ∙ op o a b (sym (ap Folding.node_compares (out-Op o a b)) ∙ f))
    (λ t a b _ _ _ e f. negation-by (Pick t a b) _ (out-Pick t a b))
    (λ n e f. let g = sym (number-of-Num n) ∙ e in cc)
  where
    op : (o : TermOp) (a b : Term) → compares o ≡ false → node_negation (Op o a b) (Term-F.Op o a b) ≡ Op Eq (Op o a b) (Num (pos 0))
    op Lt a b e = cc
    op Le a b e = cc
    op Eq a b e = cc
    op Ne a b e = cc
    op o a b e = refl

equation-twice : (a b : Term) → Settled Eq a b → negation (unequal a b) ≡ Op Eq a b
equation-twice a b s = ap negation (unequal-of a b s) ∙ by (is_truth_shaped a && is_number (pos 0) b) refl
  where
    by : (t : Bool) → (is_truth_shaped a && is_number (pos 0) b) ≡ t → negation (if t then a else Op Ne a b) ≡ Op Eq a b
    by false e = negated-Op Ne a b
    by true e =
        let both = and-both _ _ e in
        let number = some-number b both.1 in
        let plain : is_comparison a ≡ false = not-both (is_comparison a) _ (only_if-none _ _ s.null) both.1 in
        plain-negation a (first-not a b s.numbers number) plain ∙ ap (Op Eq a) (sym (is-zero-number b both.1))
      where
        not-both : (s t : Bool) → (s && t) ≡ false → t ≡ true → s ≡ false
        not-both true t e f = cc
        not-both false t e f = refl

op-twice : (o : TermOp) (a b : Term) → is_folded (Op o a b) ≡ true → is_truth_shaped (Op o a b) ≡ true → negation (negation (Op o a b)) ≡ Op o a b
op-twice Lt a b e t = ap negation (negated-Op Lt a b) ∙ negated-Op Le b a
op-twice Le a b e t = ap negation (negated-Op Le a b) ∙ negated-Op Lt b a
op-twice Eq a b e t = let p = folded-parts Eq a b e in ap negation (negated-Op Eq a b) ∙ equation-twice a b p.2
op-twice Ne a b e t =
    let p = folded-parts Ne a b e in
    ap negation (negated-Op Ne a b) ∙ negated-Op Eq a b ∙ settled-is Ne a b (settles Ne a b p.2)
op-twice o a b e t = twice-negated (Op o a b) (number-of-Op o a b) t (negated-Op o a b)

pub negated-twice : (x : Term) → is_folded x ≡ true → is_truth_shaped x ≡ true → negation (negation x) ≡ x
negated-twice =
    by-term (λ x. is_folded x ≡ true → is_truth_shaped x ≡ true → negation (negation x) ≡ x)
    (λ k e t. let f = truth-Param k in cc)
    (λ o a b _ _ e t. op-twice o a b e t)
    (λ s a b _ _ _ e t. twice-negated (Pick s a b) (ap Folding.node_number (out-Pick s a b)) t (negation-by (Pick s a b) _ (out-Pick s a b)))
    (λ n e t. ap negation (negated-Num n) ∙ negated-Num _ ∙ ap Num (one-of n (sym (truth-Num n) ∙ t)))

-- ---- operators that stand in a table

-- an operator that is folded is its own folding
pub folded-is : (op : TermOp) (a b : Term) → is_folded (Op op a b) ≡ true → folded op a b ≡ Op op a b
folded-is op a b e = settled-is op a b (settles op a b (folded-parts op a b e).2)

-- so is one whose operands may be exchanged, of these in the other order
pub turned-is : (op : TermOp) (a b : Term) → exchanges op ≡ true → is_folded (Op op b a) ≡ true → folded op a b ≡ Op op b a
turned-is op a b x e = by (term_cmp b a) refl
  where
    s : Settled op b a
    s = (folded-parts op b a e).2

    by : (o : Ordering) → term_cmp b a ≡ o → folded op a b ≡ Op op b a
    by Less d =
        let order : are_exchanged op a b ≡ true = λ i. x i && is_gt ((term_cmp_total.antisymm a b ∙ ap ordering_reverse d) i) in
        (λ i. first_of (numbers-turned op op b a s.numbers i ∷ []) (if order i then first_of (s.neutral i ∷ s.decide i ∷ s.same i ∷ s.truths i ∷ s.null i ∷ []) (Op op b a) else in_order negation op a b))
    by Equal d =
        let same : a ≡ b = sym ((term_cmp-equal b a).0 d) in
        (λ i. folded op (same i) (sym same i)) ∙ settled-is op b a (settles op b a s)
    by Greater d = let greater : true ≡ false = sym (λ i. x i && is_gt (d i)) ∙ s.order in cc

-- `x != y`, of the operands of an equation that is folded
pub unequal-of-equation : (a b : Term) → is_folded (Op Eq a b) ≡ true → unequal a b ≡ (if is_truth_shaped a && is_number (pos 0) b then a else Op Ne a b)
unequal-of-equation a b e = unequal-of a b (folded-parts Eq a b e).2

-- ---- truths

-- a number that is no truth is nonzero, and its truth is 1
pub truth-of-number : (x : Term) (n : ℤ) → as_number x ≡ Some n → is_truth_shaped x ≡ false → truth x ≡ Num (pos 1)
truth-of-number x n e t =
    (λ i. if t i then x else unequal x (Num (pos 0))) ∙ (λ i. first_of (option_and_then (λ m. option_map (λ k. Num (total Ne m k)) (number-of-Num (pos 0) i)) (e i) ∷ []) (if are_exchanged Ne x (Num (pos 0)) then in_order (λ y. y) Ne (Num (pos 0)) x else in_order (λ y. y) Ne x (Num (pos 0))))
    ∙ ap (λ (s : Bool). Num (flag (not s))) nonzero
  where
    shape : (o : Option ℤ) (y : Term) → as_number y ≡ o → is_truth_shaped y ≡ false → o ≡ Some n → int_eq (pos 0) n ≡ false
    shape o y = by-term (λ y. as_number y ≡ o → is_truth_shaped y ≡ false → o ≡ Some n → int_eq (pos 0) n ≡ false)
        (λ k d f g. let h = sym (ap Folding.node_number (out-Param k)) ∙ d ∙ g in cc)
        (λ p a b _ _ d f g. let h = sym (number-of-Op p a b) ∙ d ∙ g in cc)
        (λ u a b _ _ _ d f g. let h = sym (ap Folding.node_number (out-Pick u a b)) ∙ d ∙ g in cc)
        (λ m d f g.
        let same : m ≡ n = let h = sym (number-of-Num m) ∙ d ∙ g in cc in
        subst (λ (k : ℤ). int_eq (pos 0) k ≡ false) same (first (int_eq (pos 0) m) _ (sym (truth-Num m) ∙ f)))
        y
      where
        first : (s u : Bool) → (s || u) ≡ false → s ≡ false
        first true u f = cc
        first false u f = refl

    turned : (s : Bool) → int_eq n (pos 0) ≡ s → int_eq n (pos 0) ≡ false
    turned true d =
        let yes : int_eq (pos 0) n ≡ true = (signed_Decides (pos 0) n).1 (sym ((signed_Decides n (pos 0)).0 d)) in
        let nope = shape (as_number x) x refl t e in
        cc
    turned false d = d

    nonzero : int_eq n (pos 0) ≡ false
    nonzero = turned (int_eq n (pos 0)) refl

-- a truth of a term that is neither a number nor a truth
pub truth-of-other : (x : Term) → as_number x ≡ None → is_truth_shaped x ≡ false → truth x ≡ Op Ne x (Num (pos 0))
truth-of-other x e t = (λ i. if t i then x else unequal x (Num (pos 0))) ∙ settled-is Ne x (Num (pos 0)) (settles Ne x (Num (pos 0)) (unequal-zero x e t))

-- ---- negations of nodes

pub negation-Param : (k : ℕ) → negation (Param k) ≡ Op Eq (Param k) (Num (pos 0))
negation-Param k = negation-by (Param k) _ (out-Param k)

pub negation-Pick : (t a b : Term) → negation (Pick t a b) ≡ Op Eq (Pick t a b) (Num (pos 0))
negation-Pick t a b = negation-by (Pick t a b) _ (out-Pick t a b)

pub negation-Op : (o : TermOp) (a b : Term) → negation (Op o a b) ≡ node_negation (Op o a b) (Term-F.Op o a b)
negation-Op o a b = negated-Op o a b

pub negation-other : (o : TermOp) (a b : Term) → o ≢ Lt → o ≢ Le → o ≢ Eq → o ≢ Ne → negation (Op o a b) ≡ Op Eq (Op o a b) (Num (pos 0))
negation-other o a b h1 h2 h3 h4 = negated-Op o a b ∙ by o h1 h2 h3 h4
  where
    by : (o : TermOp) → o ≢ Lt → o ≢ Le → o ≢ Eq → o ≢ Ne → node_negation (Op o a b) (Term-F.Op o a b) ≡ Op Eq (Op o a b) (Num (pos 0))
    by Lt h1 h2 h3 h4 = absurd (h1 refl)
    by Le h1 h2 h3 h4 = absurd (h2 refl)
    by Eq h1 h2 h3 h4 = absurd (h3 refl)
    by Ne h1 h2 h3 h4 = absurd (h4 refl)
    by o h1 h2 h3 h4 = refl

-- ---- the first of two answers

pub first-some : (x y : Option Term) (t rest : Term) → Some t ≡ or_else x y → t ≡ unwrap_or x (unwrap_or y rest)
first-some (Some u) y t rest e = cc
first-some None (Some u) t rest e = cc
first-some None None t rest e = cc

pub first-none : (x y : Option Term) → None ≡ or_else x y → (x ≡ None) × (y ≡ None)
first-none (Some u) y e = cc
first-none None (Some u) e = cc
first-none None None e = (refl, refl)

pub third-some : (x y z : Option Term) (t rest : Term) → None ≡ or_else x y → Some t ≡ z → t ≡ unwrap_or x (unwrap_or y (unwrap_or z rest))
third-some (Some u) y z t rest e d = cc
third-some None (Some u) z t rest e d = cc
third-some None None (Some u) t rest e d = cc
third-some None None None t rest e d = cc

-- a number, by its node
pub negation-tested : (ts : List Term) (k : Node) (t : Term) (n : Node) → t ≡ node_term ts k → Some n ≡ option_map (λ m. node.Num (total Eq m (pos 0))) (Nodes.node_number k) → node_term ts n ≡ negation t
negation-tested ts (node.Param j) t n e d = cc
negation-tested ts (node.Op o a b) t n e d = cc
negation-tested ts (node.Pick u a b) t n e d = cc
negation-tested ts (node.Num m) t n e d = let same : n ≡ node.Num (total Eq m (pos 0)) = cc in ap (node_term ts) same ∙ sym (ap negation e ∙ negated-Num m)
