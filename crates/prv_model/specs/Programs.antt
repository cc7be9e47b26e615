-- What a program and a pair keep.
use Rattle.std.specs.Prelude.{◌≡◌, ℕ, ◌+◌, ◌≤◌, Bool, true, ◌&&◌, List, length, Option, Some, None, nat_lt, map, sum}
use Rattle.std.specs.List.{list_all}
use Rattle.prv_model.specs.Words.{is_word}
use Rattle.prv_model.specs.declared.limits.TheConstants.{MAX_PARAMS, MAX_VARS, MAX_STMTS, MAX_TURNS}
use Rattle.prv_model.specs.declared.expr.Expr.{Expr}
use Rattle.prv_model.specs.declared.expr.Expr.TheOpen.{Expr-F}
use Rattle.prv_model.specs.declared.expr.Expr.TheFolds.{fold-Expr}
use Rattle.prv_model.specs.declared.stmt.Stmt.{Stmt}
use Rattle.prv_model.specs.declared.stmt.Stmt.TheOpen.{Stmt-F}
use Rattle.prv_model.specs.declared.stmt.Stmt.TheFolds.{fold-Stmt}

-- one node of an expression, with the test of each child in its place
abbrev pub node_expr_over : ℕ → Expr-F Bool → Bool
node_expr_over n (Expr-F.Num w) = is_word w
node_expr_over n (Expr-F.Var v) = nat_lt v n
node_expr_over n (Expr-F.Un op a) = a
node_expr_over n (Expr-F.Bin op a b) = a && b
node_expr_over n (Expr-F.Pick test chosen other) = test && (chosen && other)

-- an expression over n variables: each variable in it is below n, and each numeral is a word
abbrev pub expr_over : ℕ → Expr → Bool
expr_over n = fold-Expr Bool (node_expr_over n)

-- each test that is there was passed
abbrev pub passed : Option Bool → Bool
passed None = true
passed (Some b) = b

-- each test was passed
abbrev pub all_true : List Bool → Bool
all_true = list_all (λ b. b)

-- one node of a statement, with the test of each child in its place
abbrev pub node_stmt_over : ℕ → Stmt-F Bool → Bool
node_stmt_over n Stmt-F.Skip = true
node_stmt_over n (Stmt-F.Set var e) = nat_lt var n && expr_over n e
node_stmt_over n (Stmt-F.If test chosen other) = expr_over n test && (chosen && passed other)
node_stmt_over n (Stmt-F.While test body) = expr_over n test && body
node_stmt_over n (Stmt-F.Return e) = expr_over n e
node_stmt_over n (Stmt-F.Out e) = expr_over n e
node_stmt_over n (Stmt-F.Assert e) = expr_over n e
node_stmt_over n (Stmt-F.Block all) = all_true all
node_stmt_over n (Stmt-F.Marked mark body) = body

-- a statement over n variables: likewise
abbrev pub stmt_over : ℕ → Stmt → Bool
stmt_over n = fold-Stmt Bool (node_stmt_over n)

-- a count that is there
abbrev pub counted : Option ℕ → ℕ
counted None = 0
counted (Some n) = n

-- one node, with the count of statements of each child in its place
abbrev pub node_count : Stmt-F ℕ → ℕ
node_count (Stmt-F.If test chosen other) = 1 + (chosen + counted other)
node_count (Stmt-F.While test body) = 1 + body
node_count (Stmt-F.Block all) = 1 + sum all
node_count (Stmt-F.Marked mark body) = 1 + body
node_count _ = 1

-- how many statements a statement is, itself and each one inside it
abbrev pub stmt_count : Stmt → ℕ
stmt_count = fold-Stmt ℕ node_count

-- a program has some parameters, no more of anything than the limits, and statements over its own variables
pub record IsProgram (params : ℕ) (names : List (List ℕ)) (body : List Stmt) : Type 0 where
  pub some_params : 1 ≤ params
  pub few_params : params ≤ MAX_PARAMS
  pub params_named : params ≤ length names
  pub few_names : length names ≤ MAX_VARS
  pub few_statements : sum (map (λ s. stmt_count s) body) ≤ MAX_STMTS
  pub own_variables : all_true (map (λ s. stmt_over (length names) s) body) ≡ true

-- a pair has as many parameters on both sides, and a bound on the turns that is within its limit
pub record IsPair (before after turns : ℕ) : Type 0 where
  pub same_params : before ≡ after
  pub some_turns : 1 ≤ turns
  pub few_turns : turns ≤ MAX_TURNS
