-- The term of an expression and the term of its safety, over the terms that the variables have, and these along a run.
use Rattle.std.specs.Prelude.{ℕ, zero, suc, ◌-◌, List, [], ◌∷◌, ◌++◌, length, Option, Some, ℤ, pos, negsuc, replicate, unwrap_or, slice_get, slice_set}
use Rattle.prv_model.specs.declared.op.UnOp.{UnOp}
use Rattle.prv_model.specs.declared.op.UnOp.TheVariants.{Neg, Not, Flip}
use Rattle.prv_model.specs.declared.op.BinOp.{BinOp}
use Rattle.prv_model.specs.declared.op.BinOp.TheVariants as b
use Rattle.prv_model.specs.declared.op.TermOp.TheVariants.{Add, Sub, Mul, Div, Rem, Shl, Shr, And, Or, Xor, Lt, Le, Eq, Ne}
use Rattle.prv_model.specs.declared.expr.Expr.{Expr}
use Rattle.prv_model.specs.declared.expr.Expr.TheOpen.{Expr-F}
use Rattle.prv_model.specs.declared.expr.Expr.TheFolds.{fold-Expr}
use Rattle.prv_model.specs.declared.program.Program.{Program}
use Rattle.prv_model.specs.declared.term.Term.{Term}
use Rattle.prv_model.specs.declared.term.Term.TheVariants.{Param, Num}
use Rattle.prv_pool.specs.Folding.{folded, folded_pick, negation, truth as truth_of}
use Rattle.prv_run.specs.Runs.{Run, Use}
use Rattle.prv_sym.specs.declared.operators.Class.{Class}
use Rattle.prv_sym.specs.declared.operators.Class.TheVariants as c

-- the term of an expression's value, and one that is 1 where its evaluation has no fault and 0 where it has
pub record Symbol : Type 0 where
  pub term : Term
  pub safe : Term

-- an operator on one term
abbrev pub unary_term : UnOp → Term → Term
unary_term Neg a = folded Sub (Num (pos 0)) a
unary_term Not a = negation (truth_of a)
unary_term Flip a = folded Xor a (Num (negsuc 0))

-- how an operator makes its term: of its operands, of these exchanged, by a division, or of their truths with the second one
-- evaluated where the first holds, or where it fails
abbrev pub class_of : BinOp → Class
class_of b.Add = c.Plain Add
class_of b.Sub = c.Plain Sub
class_of b.Mul = c.Plain Mul
class_of b.Div = c.Divides Div
class_of b.Rem = c.Divides Rem
class_of b.Shl = c.Plain Shl
class_of b.Shr = c.Plain Shr
class_of b.And = c.Plain And
class_of b.Or = c.Plain Or
class_of b.Xor = c.Plain Xor
class_of b.Lt = c.Plain Lt
class_of b.Le = c.Plain Le
class_of b.Gt = c.Exchanged Lt
class_of b.Ge = c.Exchanged Le
class_of b.Eq = c.Plain Eq
class_of b.Ne = c.Plain Ne
class_of b.AndAlso = c.WhereTrue
class_of b.OrElse = c.WhereFalse

-- an operator on two terms
abbrev pub class_term : Class → Term → Term → Term
class_term (c.Plain op) x y = folded op x y
class_term (c.Exchanged op) x y = folded op y x
class_term (c.Divides op) x y = folded op x y
class_term c.WhereTrue x y = folded And (truth_of x) (truth_of y)
class_term c.WhereFalse x y = folded Or (truth_of x) (truth_of y)

abbrev pub binary_term : BinOp → Term → Term → Term
binary_term op x y = class_term (class_of op) x y

-- both are safe
abbrev pub both_safe : Symbol → Symbol → Term
both_safe x y = folded And x.safe y.safe

-- the safety of an operator on two operands: both, and the divisor isn't 0; or the second one only where it is evaluated
abbrev pub class_safe : Class → Symbol → Symbol → Term
class_safe (c.Plain op) x y = both_safe x y
class_safe (c.Exchanged op) x y = both_safe x y
class_safe (c.Divides op) x y = folded And (both_safe x y) (folded Ne y.term (Num (pos 0)))
class_safe c.WhereTrue x y = folded And x.safe (folded Or (negation (truth_of x.term)) y.safe)
class_safe c.WhereFalse x y = folded And x.safe (folded Or (truth_of x.term) y.safe)

abbrev pub binary_safe : BinOp → Symbol → Symbol → Term
binary_safe op x y = class_safe (class_of op) x y

-- the safety of a choice: the test, and the one that is chosen
abbrev pub pick_safe : Symbol → Symbol → Symbol → Term
pick_safe test x y =
    folded And (folded And test.safe (folded Or (negation (truth_of test.term)) x.safe)) (folded Or (truth_of test.term) y.safe)

-- one node, with the symbol of each child in its place
abbrev pub node_symbol : Expr-F (List Term → Symbol) → List Term → Symbol
node_symbol (Expr-F.Num n) env = record { term = Num n; safe = Num (pos 1) }
node_symbol (Expr-F.Var v) env = record { term = unwrap_or (slice_get env v) (Num (pos 0)); safe = Num (pos 1) }
node_symbol (Expr-F.Un op a) env = record { term = unary_term op (a env).term; safe = (a env).safe }
node_symbol (Expr-F.Bin op x y) env = record { term = binary_term op (x env).term (y env).term; safe = binary_safe op (x env) (y env) }
node_symbol (Expr-F.Pick test x y) env = record { term = folded_pick (truth_of (test env).term) (x env).term (y env).term; safe = pick_safe (test env) (x env) (y env) }

-- the symbol of an expression, where each variable has a term
abbrev pub symbol : Expr → List Term → Symbol
symbol = fold-Expr (List Term → Symbol) node_symbol

-- before a run the parameters are themselves, and every other variable is 0
abbrev pub params_from : ℕ → ℕ → List Term
params_from k zero = []
params_from k (suc n) = Param k ∷ params_from (suc k) n

abbrev pub start_terms : Program → List Term
start_terms p = params_from 0 p.params ++ replicate (length p.names - p.params) (Num (pos 0))

-- the variables' terms behind an evaluation
abbrev pub after_use : Use → Expr → Option ℤ → List Term → List Term
after_use (Use.Sets v) e (Some n) env = slice_set env v (symbol e env).term
after_use _ e _ env = env

-- the variables' terms behind a run
abbrev pub after : Run → List Term → List Term
after Run.Idle env = env
after (Run.Eval k why e v) env = after_use why e v env
after (Run.Then a b) env = after b (after a env)
after (Run.Choice k test chosen other inner) env = after inner env
after (Run.Mark mark inner) env = after inner env
