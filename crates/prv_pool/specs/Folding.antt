-- The folded term of an operator on two terms, of a choice, of a negation and of a truth.
-- The first rule that applies gives it. The rules stand in this order: two numbers, exchanged operands, a number behind, an operand twice, truths, and 0 behind.
use Rattle.std.specs.Prelude.{nat_eq, Bool, true, false, ◌&&◌, ◌||◌, List, [], ◌∷◌, ℤ, pos, negsuc, Option, Some, None, not, is_none, if◌then◌else◌, unwrap_or}
use Rattle.std.specs.List.{list_all}
use Rattle.std.specs.Option.{option_map, option_and_then}
use Rattle.std.specs.Ordering.{int_eq, is_gt}
use Rattle.prv_model.specs.Words.{is_zero, amount}
use Rattle.prv_model.specs.Terms.{total}
use Rattle.prv_model.specs.TermOrder.{term_cmp, same_term}
use Rattle.prv_model.specs.declared.op.TermOp.{TermOp}
use Rattle.prv_model.specs.declared.op.TermOp.TheVariants.{Add, Sub, Mul, Div, Rem, Shl, Shr, And, Or, Xor, Lt, Le, Eq, Ne}
use Rattle.prv_model.specs.declared.term.Term.{Term, out-Term}
use Rattle.prv_model.specs.declared.term.Term.TheVariants.{Op, Pick, Num}
use Rattle.prv_model.specs.declared.term.Term.TheOpen.{Term-F}
use Rattle.prv_model.specs.declared.term.Term.TheFolds.{fold-Term, para-Term}

-- ---- what a term looks like

-- the number that a node is, if it is one
abbrev pub node_number : {A : Type 0} → Term-F A → Option ℤ
node_number (Term-F.Num n) = Some n
node_number _ = None

-- the number that a term is, if it is one
abbrev pub as_number : Term → Option ℤ
as_number t = node_number (out-Term t)

-- a term is this number
abbrev pub is_number : ℤ → Term → Bool
is_number n t = unwrap_or (option_map (int_eq n) (as_number t)) false

-- an operator that compares
abbrev pub compares : TermOp → Bool
compares Lt = true
compares Le = true
compares Eq = true
compares Ne = true
compares _ = false

-- an operator that joins truths to a truth
abbrev pub joins : TermOp → Bool
joins And = true
joins Or = true
joins Xor = true
joins _ = false

-- one node, with the answer for each child in its place
abbrev pub node_is_truth : Term-F Bool → Bool
node_is_truth (Term-F.Param k) = false
node_is_truth (Term-F.Op op a b) = compares op || (joins op && (a && b))
node_is_truth (Term-F.Pick test chosen other) = chosen && other
node_is_truth (Term-F.Num n) = int_eq (pos 0) n || int_eq (pos 1) n

-- a term is truth-shaped: 0 or 1, a comparison, a join of truths, or a choice between truths
abbrev pub is_truth_shaped : Term → Bool
is_truth_shaped = fold-Term Bool node_is_truth

-- a node is a comparison
abbrev pub node_compares : {A : Type 0} → Term-F A → Bool
node_compares (Term-F.Op op a b) = compares op
node_compares _ = false

-- a term is a comparison
abbrev pub is_comparison : Term → Bool
is_comparison t = node_compares (out-Term t)

-- ---- the rules, each an answer where it applies

abbrev pub only_if : Bool → Term → Option Term
only_if test t = if test then Some t else None

-- the first answer of a list, and a term where there is none
abbrev pub first_of : List (Option Term) → Term → Term
first_of [] t = t
first_of (answer ∷ rest) t = unwrap_or answer (first_of rest t)

-- two numbers: their value
abbrev pub on_numbers : TermOp → Term → Term → Option Term
on_numbers op a b = option_and_then (λ m. option_map (λ n. Num (total op m n)) (as_number b)) (as_number a)

-- an operator whose operands may be exchanged
abbrev pub exchanges : TermOp → Bool
exchanges Add = true
exchanges Mul = true
exchanges And = true
exchanges Or = true
exchanges Xor = true
exchanges Eq = true
exchanges Ne = true
exchanges _ = false

-- the operands are to be exchanged: they may be, and the second stands before the first in the order of terms
abbrev pub are_exchanged : TermOp → Term → Term → Bool
are_exchanged op a b = exchanges op && is_gt (term_cmp a b)

-- a term and a number that an operator leaves as the term: `x + 0`, `x - 0`, `x * 1`, `x / 1`, `x << 0`, `x >> 0`, `x & -1`, `x | 0`, `x ^ 0`
abbrev pub is_neutral : TermOp → ℤ → Bool
is_neutral Add n = is_zero n
is_neutral Sub n = is_zero n
is_neutral Mul n = int_eq (pos 1) n
is_neutral Div n = int_eq (pos 1) n
is_neutral Shl n = nat_eq (amount n) 0
is_neutral Shr n = nat_eq (amount n) 0
is_neutral And n = int_eq (negsuc 0) n
is_neutral Or n = is_zero n
is_neutral Xor n = is_zero n
is_neutral _ n = false

-- a number that decides alone: `x * 0`, `x % 1` and `x & 0` are 0, `x | -1` is -1
abbrev pub decided : TermOp → ℤ → Option Term
decided Mul n = only_if (is_zero n) (Num (pos 0))
decided Rem n = only_if (int_eq (pos 1) n) (Num (pos 0))
decided And n = only_if (is_zero n) (Num (pos 0))
decided Or n = only_if (int_eq (negsuc 0) n) (Num (negsuc 0))
decided _ n = None

-- a number behind that is neutral: the other operand
abbrev pub beside_neutral : TermOp → Term → Term → Option Term
beside_neutral op a b = only_if (unwrap_or (option_map (is_neutral op) (as_number b)) false) a

-- a number behind that decides alone
abbrev pub beside_decided : TermOp → Term → Option Term
beside_decided op b = option_and_then (decided op) (as_number b)

-- an operator on one operand twice: `x - x`, `x ^ x`, `x < x` and `x != x` are 0, `x == x` and `x <= x` are 1, `x & x` and `x | x` are x
abbrev pub twice : TermOp → Term → Option Term
twice Sub x = Some (Num (pos 0))
twice Xor x = Some (Num (pos 0))
twice Lt x = Some (Num (pos 0))
twice Ne x = Some (Num (pos 0))
twice Eq x = Some (Num (pos 1))
twice Le x = Some (Num (pos 1))
twice And x = Some x
twice Or x = Some x
twice _ x = None

abbrev pub on_one_twice : TermOp → Term → Term → Option Term
on_one_twice op a b = if same_term a b then twice op a else None

-- one of two terms is truth-shaped, and the other is its negation
abbrev pub are_opposite : (Term → Term) → Term → Term → Bool
are_opposite negated a b = (is_truth_shaped a && same_term b (negated a)) || (is_truth_shaped b && same_term a (negated b))

-- for truths: `x & 1` is x, `x | 1` is 1; a truth and its negation give 0 by `&` and 1 by `|`
abbrev pub on_truths : (Term → Term) → TermOp → Term → Term → Option Term
on_truths negated And a b = if is_truth_shaped a && is_number (pos 1) b then Some a else only_if (are_opposite negated a b) (Num (pos 0))
on_truths negated Or a b = only_if ((is_truth_shaped a && is_number (pos 1) b) || are_opposite negated a b) (Num (pos 1))
on_truths negated _ a b = None

-- `x == 0` of a comparison is its negation; `x != 0` of a truth is x
abbrev pub beside_zero : (Term → Term) → TermOp → Term → Term → Option Term
beside_zero negated Eq a b = only_if (is_comparison a && is_number (pos 0) b) (negated a)
beside_zero negated Ne a b = only_if (is_truth_shaped a && is_number (pos 0) b) a
beside_zero negated _ a b = None

-- the rules for operands that are not both numbers, in their order
abbrev pub rules : (Term → Term) → TermOp → Term → Term → List (Option Term)
rules negated op a b =
    beside_neutral op a b
    ∷ beside_decided op b
    ∷ on_one_twice op a b
    ∷ on_truths negated op a b
    ∷ beside_zero negated op a b
    ∷ []

-- operands that are not both numbers, in their order
abbrev pub in_order : (Term → Term) → TermOp → Term → Term → Term
in_order negated op a b = first_of (rules negated op a b) (Op op a b)

-- an operator on two terms, with what a term's negation is
abbrev pub folded_by : (Term → Term) → TermOp → Term → Term → Term
folded_by negated op a b = first_of (on_numbers op a b ∷ []) (if are_exchanged op a b then in_order negated op b a else in_order negated op a b)

-- `a != b`: none of its rules speaks of a negation
abbrev pub unequal : Term → Term → Term
unequal = folded_by (λ t. t) Ne

-- the negation of a node: of a number its `== 0`, of a comparison the contrary one, else `x == 0`
abbrev pub node_negation : Term → Term-F Term → Term
node_negation x (Term-F.Num n) = Num (total Eq n (pos 0))
node_negation x (Term-F.Op Lt a b) = Op Le b a
node_negation x (Term-F.Op Le a b) = Op Lt b a
node_negation x (Term-F.Op Eq a b) = unequal a b
node_negation x (Term-F.Op Ne a b) = Op Eq a b
node_negation x _ = Op Eq x (Num (pos 0))

-- the negation of a term
abbrev pub negation : Term → Term
negation x = node_negation x (out-Term x)

-- the folded term of an operator on two terms
abbrev pub folded : TermOp → Term → Term → Term
folded = folded_by negation

-- the truth of a term: the term where it is truth-shaped, else `x != 0`
abbrev pub truth : Term → Term
truth x = if is_truth_shaped x then x else unequal x (Num (pos 0))

-- the rules for a choice: the chosen one where the test is a number, one of two equal choices
abbrev pub pick_rules : Term → Term → Term → List (Option Term)
pick_rules test chosen other = option_map (λ n. if is_zero n then other else chosen) (as_number test) ∷ only_if (same_term chosen other) chosen ∷ []

-- the folded choice
abbrev pub folded_pick : Term → Term → Term → Term
folded_pick test chosen other = first_of (pick_rules test chosen other) (Pick test chosen other)

-- ---- folded terms

-- no rule applies to an operator on two terms: they are not both numbers, they stand in their order, and the rules have no answer
abbrev pub is_settled : TermOp → Term → Term → Bool
is_settled op a b = is_none (on_numbers op a b) && (not (are_exchanged op a b) && list_all is_none (rules negation op a b))

-- one node, with each child and whether it is folded
abbrev pub node_is_folded : Term-F (Term × Bool) → Bool
node_is_folded (Term-F.Param k) = true
node_is_folded (Term-F.Op op a b) = (a.1 && b.1) && is_settled op a.0 b.0
node_is_folded (Term-F.Pick t a b) = (t.1 && (a.1 && b.1)) && list_all is_none (pick_rules t.0 a.0 b.0)
node_is_folded (Term-F.Num n) = true

-- a term is folded: no rule applies to an operator or a choice in it
abbrev pub is_folded : Term → Bool
is_folded = para-Term Bool node_is_folded
