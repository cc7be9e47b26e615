-- What an expression reads, what a statement may write, and whether it may leave: it may put a word out or end the run, or not end.
use Rattle.std.specs.Prelude.{ℕ, nat_eq, Bool, true, false, ◌&&◌, ◌||◌, not, List, [], ◌∷◌, ◌++◌, Option, Some, None, ℤ}
use Rattle.std.specs.List.{list_any, flat_map}
use Rattle.prv_model.specs.Words.{is_zero}
use Rattle.prv_model.specs.declared.op.BinOp.{BinOp}
use Rattle.prv_model.specs.declared.op.BinOp.TheVariants.{Div, Rem}
use Rattle.prv_model.specs.declared.expr.Expr.{Expr}
use Rattle.prv_model.specs.declared.expr.Expr.TheOpen.{Expr-F}
use Rattle.prv_model.specs.declared.expr.Expr.TheFolds.{fold-Expr}
use Rattle.prv_model.specs.declared.stmt.Stmt.{Stmt}
use Rattle.prv_model.specs.declared.stmt.Stmt.TheOpen.{Stmt-F}
use Rattle.prv_model.specs.declared.stmt.Stmt.TheFolds.{fold-Stmt}

-- a variable is among these
abbrev pub has : List ℕ → ℕ → Bool
has vars v = list_any (nat_eq v) vars

-- one node of an expression, with the variables of each child in its place
abbrev pub node_vars : Expr-F (List ℕ) → List ℕ
node_vars (Expr-F.Num n) = []
node_vars (Expr-F.Var v) = v ∷ []
node_vars (Expr-F.Un op a) = a
node_vars (Expr-F.Bin op a b) = a ++ b
node_vars (Expr-F.Pick test chosen other) = test ++ (chosen ++ other)

-- the variables of an expression
abbrev pub vars : Expr → List ℕ
vars = fold-Expr (List ℕ) node_vars

-- an operator divides
abbrev pub divides : BinOp → Bool
divides Div = true
divides Rem = true
divides _ = false

-- whether an evaluation may fault, and whether the expression is a nonzero numeral
pub record Divisions : Type 0 where
  pub may_fault : Bool
  pub nonzero : Bool

-- one node, with those of each child in its place: a division may fault unless its divisor is a nonzero numeral
abbrev pub node_divisions : Expr-F Divisions → Divisions
node_divisions (Expr-F.Num n) = record { may_fault = false; nonzero = not (is_zero n) }
node_divisions (Expr-F.Var v) = record { may_fault = false; nonzero = false }
node_divisions (Expr-F.Un op a) = record { may_fault = a.may_fault; nonzero = false }
node_divisions (Expr-F.Bin op a b) = record { may_fault = (a.may_fault || b.may_fault) || (divides op && not b.nonzero); nonzero = false }
node_divisions (Expr-F.Pick test chosen other) = record { may_fault = test.may_fault || (chosen.may_fault || other.may_fault); nonzero = false }

abbrev pub divisions : Expr → Divisions
divisions = fold-Expr Divisions node_divisions

-- the evaluation of an expression may fault: it has a divisor that isn't a nonzero numeral
abbrev pub may_fault : Expr → Bool
may_fault e = (divisions e).may_fault

-- what the branch of an `else` has, if there is one
abbrev pub branch_any : Option Bool → Bool
branch_any None = false
branch_any (Some b) = b

abbrev pub branch_list : Option (List ℕ) → List ℕ
branch_list None = []
branch_list (Some all) = all

-- one node of a statement, with whether each child may leave in its place
abbrev pub node_may_leave : Stmt-F Bool → Bool
node_may_leave Stmt-F.Skip = false
node_may_leave (Stmt-F.Set var e) = may_fault e
node_may_leave (Stmt-F.If test chosen other) = may_fault test || (chosen || branch_any other)
node_may_leave (Stmt-F.While test body) = true
node_may_leave (Stmt-F.Return e) = true
node_may_leave (Stmt-F.Out e) = true
node_may_leave (Stmt-F.Assert e) = true
node_may_leave (Stmt-F.Block all) = list_any (λ b. b) all
node_may_leave (Stmt-F.Marked mark body) = body

-- a statement may leave: it holds a `return`, an `out`, an `assert`, a loop, or an expression that may fault
abbrev pub may_leave : Stmt → Bool
may_leave = fold-Stmt Bool node_may_leave

-- one node, with the variables that each child sets in its place
abbrev pub node_writes : Stmt-F (List ℕ) → List ℕ
node_writes (Stmt-F.Set var e) = var ∷ []
node_writes (Stmt-F.If test chosen other) = chosen ++ branch_list other
node_writes (Stmt-F.While test body) = body
node_writes (Stmt-F.Block all) = flat_map (λ each. each) all
node_writes (Stmt-F.Marked mark body) = body
node_writes _ = []

-- the variables that a statement may write: those that are set in it
abbrev pub writes : Stmt → List ℕ
writes = fold-Stmt (List ℕ) node_writes

-- one node: only what a statement itself does counts
abbrev pub node_overwrites : Stmt-F (List ℕ) → List ℕ
node_overwrites (Stmt-F.Set var e) = var ∷ []
node_overwrites _ = []

-- the variables that a statement itself overwrites where its evaluation has a value: what they had before is of no account behind it
-- It may write these and others: what a statement inside it sets it may write, and doesn't overwrite.
abbrev pub overwrites : Stmt → List ℕ
overwrites = fold-Stmt (List ℕ) node_overwrites

-- whether an evaluation has a value
abbrev pub evaluates : Option ℤ → Bool
evaluates None = false
evaluates (Some n) = true
