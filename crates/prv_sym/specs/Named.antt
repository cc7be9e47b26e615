-- Which terms are named for the symbol of an expression, and along a run, in order: of each subexpression its term and its safety, and each folded term on the way to them.
-- A table that had all of them has grown by these and their subterms.
use Rattle.std.specs.Prelude.{List, [], ◌∷◌, ◌++◌, pos, negsuc, unwrap_or, slice_get}
use Rattle.prv_model.specs.declared.op.UnOp.{UnOp}
use Rattle.prv_model.specs.declared.op.UnOp.TheVariants.{Neg, Not, Flip}
use Rattle.prv_model.specs.declared.op.TermOp.{TermOp}
use Rattle.prv_model.specs.declared.op.TermOp.TheVariants.{And, Or, Ne}
use Rattle.prv_model.specs.declared.expr.Expr.{Expr}
use Rattle.prv_model.specs.declared.expr.Expr.TheOpen.{Expr-F}
use Rattle.prv_model.specs.declared.expr.Expr.TheFolds.{para-Expr}
use Rattle.prv_model.specs.declared.term.Term.{Term}
use Rattle.prv_model.specs.declared.term.Term.TheVariants.{Num}
use Rattle.prv_pool.specs.Folding.{folded, folded_pick, negation, truth as truth_of}
use Rattle.prv_run.specs.Runs.{Run}
use Rattle.prv_sym.specs.Symbols.{Symbol, symbol, unary_term, class_of, both_safe, after}
use Rattle.prv_sym.specs.declared.operators.Class.{Class}
use Rattle.prv_sym.specs.declared.operators.Class.TheVariants as c

-- for an operator on one term
abbrev pub unary_named : UnOp → Term → List Term
unary_named Neg a = Num (pos 0) ∷ unary_term Neg a ∷ []
unary_named Not a = truth_of a ∷ unary_term Not a ∷ []
unary_named Flip a = Num (negsuc 0) ∷ unary_term Flip a ∷ []

-- for an operator on the truths of two terms
abbrev pub join_named : TermOp → Term → Term → List Term
join_named op x y = truth_of x ∷ truth_of y ∷ folded op (truth_of x) (truth_of y) ∷ []

-- for the value of an operator on two terms
abbrev pub class_named : Class → Term → Term → List Term
class_named (c.Plain op) x y = folded op x y ∷ []
class_named (c.Exchanged op) x y = folded op y x ∷ []
class_named (c.Divides op) x y = folded op x y ∷ []
class_named c.WhereTrue x y = join_named And x y
class_named c.WhereFalse x y = join_named Or x y

-- both are 1, the second one where a truth holds, or where it fails
abbrev pub safe_where_true : Term → Term → Term → Term
safe_where_true truth safe inner = folded And safe (folded Or (negation truth) inner)

abbrev pub safe_where_false : Term → Term → Term → Term
safe_where_false truth safe inner = folded And safe (folded Or truth inner)

abbrev pub true_named : Term → Term → Term → List Term
true_named truth safe inner = negation truth ∷ folded Or (negation truth) inner ∷ safe_where_true truth safe inner ∷ []

abbrev pub false_named : Term → Term → Term → List Term
false_named truth safe inner = folded Or truth inner ∷ safe_where_false truth safe inner ∷ []

-- a choice's safety: its test, and the one that is chosen
abbrev pub chosen_safe : Term → Term → Term → Term → Term
chosen_safe truth safe chosen other = safe_where_false truth (safe_where_true truth safe chosen) other

abbrev pub chosen_named : Term → Term → Term → Term → List Term
chosen_named truth safe chosen other = true_named truth safe chosen ++ false_named truth (safe_where_true truth safe chosen) other

-- for the safety of an operator on two operands
abbrev pub division_named : Symbol → Symbol → List Term
division_named x y = both_safe x y ∷ Num (pos 0) ∷ folded Ne y.term (Num (pos 0)) ∷ folded And (both_safe x y) (folded Ne y.term (Num (pos 0))) ∷ []

abbrev pub safety_named : Class → Symbol → Symbol → List Term
safety_named (c.Plain op) x y = both_safe x y ∷ []
safety_named (c.Exchanged op) x y = both_safe x y ∷ []
safety_named (c.Divides op) x y = division_named x y
safety_named c.WhereTrue x y = truth_of x.term ∷ true_named (truth_of x.term) x.safe y.safe
safety_named c.WhereFalse x y = truth_of x.term ∷ false_named (truth_of x.term) x.safe y.safe

-- for a choice: its value, and then its safety
abbrev pub pick_named : Symbol → Symbol → Symbol → List Term
pick_named test x y =
    truth_of test.term ∷ folded_pick (truth_of test.term) x.term y.term
    ∷ chosen_named (truth_of test.term) test.safe x.safe y.safe

-- one node, with each child and what is named for it
abbrev pub node_named : Expr-F (Expr × (List Term → List Term)) → List Term → List Term
node_named (Expr-F.Num n) env = Num n ∷ Num (pos 1) ∷ []
node_named (Expr-F.Var v) env = unwrap_or (slice_get env v) (Num (pos 0)) ∷ Num (pos 1) ∷ []
node_named (Expr-F.Un op a) env = a.1 env ++ unary_named op (symbol a.0 env).term
node_named (Expr-F.Bin op x y) env =
    x.1 env ++ (y.1 env ++ (class_named (class_of op) (symbol x.0 env).term (symbol y.0 env).term ++ safety_named (class_of op) (symbol x.0 env) (symbol y.0 env)))
node_named (Expr-F.Pick test x y) env = test.1 env ++ (x.1 env ++ (y.1 env ++ pick_named (symbol test.0 env) (symbol x.0 env) (symbol y.0 env)))

-- for an expression
abbrev pub named : Expr → List Term → List Term
named = para-Expr (List Term → List Term) node_named

-- for the evaluations of a run
abbrev pub run_named : Run → List Term → List Term
run_named Run.Idle env = []
run_named (Run.Eval k why e v) env = named e env
run_named (Run.Then a b) env = run_named a env ++ run_named b (after a env)
run_named (Run.Choice k test chosen other inner) env = run_named inner env
run_named (Run.Mark mark inner) env = run_named inner env

-- the symbols of the evaluations of a run, in order
abbrev pub run_symbols : Run → List Term → List Symbol
run_symbols Run.Idle env = []
run_symbols (Run.Eval k why e v) env = symbol e env ∷ []
run_symbols (Run.Then a b) env = run_symbols a env ++ run_symbols b (after a env)
run_symbols (Run.Choice k test chosen other inner) env = run_symbols inner env
run_symbols (Run.Mark mark inner) env = run_symbols inner env
