-- The version that a tree is, and when it is none.
use Rattle.std.specs.Prelude.{◌≡◌, ℕ, Bool, true, false, List, [], ◌∷◌, ◌++◌, Option, Some, None, length, map, fold, unwrap_or, position, nat_le, if◌then◌else◌}
use Rattle.std.specs.Option.{option_map, option_or}
use Rattle.std.specs.Str.{bytes_eq}
use Rattle.prv_model.specs.declared.limits.TheConstants.{MAX_PARAMS, MAX_VARS, MAX_STMTS}
use Rattle.prv_model.specs.declared.expr.Expr.{Expr}
use Rattle.prv_model.specs.declared.expr.Expr.TheVariants as expr
use Rattle.prv_model.specs.declared.stmt.Stmt.{Stmt}
use Rattle.prv_model.specs.declared.stmt.Stmt.TheVariants as stmt
use Rattle.prv_parse.specs.Trees.{body_count}
use Rattle.prv_parse.specs.declared.program.Tree.{Tree}
use Rattle.prv_parse.specs.declared.tree.Ident.{Ident}
use Rattle.prv_parse.specs.declared.tree.ExprTree.{ExprTree}
use Rattle.prv_parse.specs.declared.tree.ExprTree.TheOpen.{ExprTree-F}
use Rattle.prv_parse.specs.declared.tree.ExprTree.TheFolds.{fold-ExprTree}
use Rattle.prv_parse.specs.declared.tree.StmtTree.{StmtTree}
use Rattle.prv_parse.specs.declared.tree.StmtTree.TheOpen.{StmtTree-F}
use Rattle.prv_parse.specs.declared.tree.StmtTree.TheFolds.{fold-StmtTree}
use Rattle.prv_names.specs.Sayings.{said_of}
use Rattle.prv_names.specs.Scopes.{start, after, first_fault}
use Rattle.prv_names.specs.declared.error.What.{What}
use Rattle.prv_names.specs.declared.error.What.TheVariants.{Params, Vars, Stmts}
use Rattle.prv_names.specs.declared.error.NameError.{NameError}
use Rattle.prv_names.specs.declared.error.NameError.TheVariants.{TooMany}
use Rattle.prv_names.specs.declared.version.MarkAt.{MarkAt}
use Rattle.prv_names.specs.declared.version.Version.{Version}

-- the variables of a program, by their declarations in the order of the text, the parameters first
abbrev pub variables : List Ident → List StmtTree → List (List ℕ)
variables params body = (fold after start (said_of params body)).declared

-- more of a kind than there may be
abbrev pub above : What → ℕ → ℕ → Option NameError
above what most n = if nat_le n most then None else Some (TooMany what n)

-- the first limit that a program passes
abbrev pub too_many : List Ident → List StmtTree → Option NameError
too_many params body = option_or (above Params MAX_PARAMS (length params)) (option_or (above Vars MAX_VARS (length (variables params body))) (above Stmts MAX_STMTS (body_count body)))

-- why a tree is no program: the first thing that is wrong with a name, and else the first limit that it passes
abbrev pub refusal : List Ident → List StmtTree → Option NameError
refusal params body = option_or (first_fault start (said_of params body)) (too_many params body)

-- the number of a name among the variables: how many come before it
abbrev pub variable : List (List ℕ) → List ℕ → ℕ
variable names x = unwrap_or (position (bytes_eq x) names) 0

-- one node of an expression, with each child numbered
abbrev pub node_numbered_expr : List (List ℕ) → ExprTree-F Expr → Expr
node_numbered_expr names (ExprTree-F.Num n) = expr.Num n
node_numbered_expr names (ExprTree-F.Name x) = expr.Var (variable names x.name)
node_numbered_expr names (ExprTree-F.Un op a) = expr.Un op a
node_numbered_expr names (ExprTree-F.Bin op a b) = expr.Bin op a b
node_numbered_expr names (ExprTree-F.Pick test chosen other) = expr.Pick test chosen other

-- an expression with each name replaced by the number of its variable
abbrev pub numbered_expr : List (List ℕ) → ExprTree → Expr
numbered_expr names = fold-ExprTree Expr (node_numbered_expr names)

-- one node of a statement, with each child numbered; a declaration gives its variable the value
abbrev pub node_numbered : List (List ℕ) → StmtTree-F Stmt → Stmt
node_numbered names StmtTree-F.Skip = stmt.Skip
node_numbered names (StmtTree-F.Declare x value) = stmt.Set (variable names x.name) (numbered_expr names value)
node_numbered names (StmtTree-F.Set x value) = stmt.Set (variable names x.name) (numbered_expr names value)
node_numbered names (StmtTree-F.If test chosen other) = stmt.If (numbered_expr names test) chosen other
node_numbered names (StmtTree-F.While test body) = stmt.While (numbered_expr names test) body
node_numbered names (StmtTree-F.Return value) = stmt.Return (numbered_expr names value)
node_numbered names (StmtTree-F.Out value) = stmt.Out (numbered_expr names value)
node_numbered names (StmtTree-F.Assert value) = stmt.Assert (numbered_expr names value)
node_numbered names (StmtTree-F.Block all) = stmt.Block all
node_numbered names (StmtTree-F.Marked mark body) = stmt.Marked mark.number body

-- a statement with each name replaced by the number of its variable
abbrev pub numbered : List (List ℕ) → StmtTree → Stmt
numbered names = fold-StmtTree Stmt (node_numbered names)

-- one after another, each inside a mark or not
abbrev pub in_order : List (Bool → List MarkAt) → Bool → List MarkAt
in_order [] inside = []
in_order (first ∷ rest) inside = first inside ++ in_order rest inside

-- those of the branch of an `else`, if there is one
abbrev pub else_marks : Option (Bool → List MarkAt) → Bool → List MarkAt
else_marks None inside = []
else_marks (Some branch) inside = branch inside

-- one node, with the marks of each child in its place; what stands in a mark's body is inside
abbrev pub node_marks : StmtTree-F (Bool → List MarkAt) → Bool → List MarkAt
node_marks (StmtTree-F.If test chosen other) inside = chosen inside ++ else_marks other inside
node_marks (StmtTree-F.While test body) inside = body inside
node_marks (StmtTree-F.Block all) inside = in_order all inside
node_marks (StmtTree-F.Marked mark body) inside = record { mark = mark.number; place = mark.place; inside = inside } ∷ body true
node_marks _ inside = []

-- the marks of a statement that stands inside another mark's body or not, in the order of the text
abbrev pub marks : StmtTree → Bool → List MarkAt
marks = fold-StmtTree (Bool → List MarkAt) node_marks

abbrev pub marks_else : Option StmtTree → Bool → List MarkAt
marks_else branch inside = else_marks (option_map (λ s. marks s) branch) inside

-- the marks of a body
abbrev pub marks_of : List StmtTree → List MarkAt
marks_of body = in_order (map (λ s. marks s) body) false

-- the version that a tree is, where nothing is wrong with its names
pub record IsVersionOf (tree : Tree) (version : Version) : Type 0 where
  pub right : refusal tree.params tree.body ≡ None
  pub params : version.program.params ≡ length tree.params
  pub names : version.program.names ≡ variables tree.params tree.body
  pub body : version.program.body ≡ map (λ s. numbered (variables tree.params tree.body) s) tree.body
  pub skeleton : version.skeleton ≡ tree.skeleton
  pub marks : version.marks ≡ marks_of tree.body
