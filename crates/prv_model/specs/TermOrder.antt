-- The order of terms, which decides the order of operands that may be exchanged, and the test whether two terms are one.
use Rattle.std.specs.Prelude.{ℕ, Bool}
use Rattle.std.specs.declared.cmp.Ordering.{Ordering}
use Rattle.std.specs.declared.cmp.Ordering.TheVariants.{Equal}
use Rattle.std.specs.Ordering.{ordering_then, nat_cmp, int_cmp, is_eq}
use Rattle.prv_model.specs.declared.op.TermOp.{TermOp}
use Rattle.prv_model.specs.declared.op.TermOp.TheVariants.{Add, Sub, Mul, Div, Rem, Shl, Shr, And, Or, Xor, Lt, Le, Eq, Ne}
use Rattle.prv_model.specs.declared.term.Term.{Term, out-Term}
use Rattle.prv_model.specs.declared.term.Term.TheOpen.{Term-F}
use Rattle.prv_model.specs.declared.term.Term.TheFolds.{fold-Term}

-- where an operator stands among the constructors
abbrev pub op_rank : TermOp → ℕ
op_rank Add = 1
op_rank Sub = 2
op_rank Mul = 3
op_rank Div = 4
op_rank Rem = 5
op_rank Shl = 6
op_rank Shr = 7
op_rank And = 8
op_rank Or = 9
op_rank Xor = 10
op_rank Lt = 11
op_rank Le = 12
op_rank Eq = 13
op_rank Ne = 14

-- where a constructor stands: parameters first, then the operators, choices, and numbers last
abbrev pub rank : {A : Type 0} → Term-F A → ℕ
rank (Term-F.Param k) = 0
rank (Term-F.Op op a b) = op_rank op
rank (Term-F.Pick test chosen other) = 15
rank (Term-F.Num n) = 16

-- two nodes of one constructor: by number, or by the operands from left to right, each compared as its place says
abbrev pub operands_cmp : {A B : Type 0} → (A → B → Ordering) → Term-F A → Term-F B → Ordering
operands_cmp cmp (Term-F.Param j) (Term-F.Param k) = nat_cmp j k
operands_cmp cmp (Term-F.Op _ a b) (Term-F.Op _ x y) = ordering_then (cmp a x) (cmp b y)
operands_cmp cmp (Term-F.Pick t a b) (Term-F.Pick u x y) = ordering_then (cmp t u) (ordering_then (cmp a x) (cmp b y))
operands_cmp cmp (Term-F.Num m) (Term-F.Num n) = int_cmp m n
operands_cmp cmp _ _ = Equal

-- two nodes: by constructor, then by what they are made of
abbrev pub node_cmp : {A B : Type 0} → (A → B → Ordering) → Term-F A → Term-F B → Ordering
node_cmp cmp s t = ordering_then (nat_cmp (rank s) (rank t)) (operands_cmp cmp s t)

-- two terms
abbrev pub term_cmp : Term → Term → Ordering
term_cmp = fold-Term (Term → Ordering) (λ s t. node_cmp (λ compared child. compared child) s (out-Term t))

-- whether two terms are one
abbrev pub same_term : Term → Term → Bool
same_term a b = is_eq (term_cmp a b)
