-- The readers of the grammar as functions, construct by construct: what the inner calls of the code come to. That they are the readers of the table is proved.
use Rattle.std.specs.Prelude.{ℕ, zero, suc, ◌-◌, ◌==◌, nat_le, ◌&&◌, Bool, true, false, List, [], ◌∷◌, ◌++◌, length, take, Option, Some, None, pos, if◌then◌else◌}
use Rattle.prv_model.specs.declared.limits.TheConstants.{MAX_OPEN, MAX_OPERATORS}
use Rattle.prv_lex.specs.declared.token.Tok.{Tok}
use Rattle.prv_lex.specs.declared.token.Tok.TheVariants as tok
use Rattle.prv_lex.specs.declared.token.Key.TheVariants as key
use Rattle.prv_lex.specs.declared.token.Sym.{Sym}
use Rattle.prv_lex.specs.declared.token.Sym.TheVariants as sym
use Rattle.prv_lex.specs.declared.token.Token.{Token}
use Rattle.prv_model.specs.declared.op.UnOp.{UnOp}
use Rattle.prv_model.specs.declared.op.BinOp.{BinOp}
use Rattle.prv_rule.specs.Operators.{unary_of, binary_of}
use Rattle.prv_parse.specs.Operators.{precedence}
use Rattle.prv_rule.specs.Skeletons.{kept, plain, hole}
use Rattle.prv_parse.specs.Places.{ident, mark_at}
use Rattle.prv_rule.specs.declared.skeleton.Skel.{Skel}
use Rattle.prv_parse.specs.declared.tree.Ident.{Ident}
use Rattle.prv_parse.specs.declared.tree.Mark.{Mark}
use Rattle.prv_parse.specs.declared.tree.ExprTree.{ExprTree}
use Rattle.prv_parse.specs.declared.tree.ExprTree.TheVariants as expr
use Rattle.prv_parse.specs.declared.tree.StmtTree.{StmtTree}
use Rattle.prv_parse.specs.declared.tree.StmtTree.TheVariants as stmt

-- what a reader comes to: a value and what is left, or a stop at the front of what is left: for syntax, inside too many constructs, or at an operator too many
pub data Out (A : Type 0) : Type 0 where
  Done : A → List Token → Out A
  Bad : List Token → Out A
  Deep : List Token → Out A
  Many : List Token → Out A

-- one reader behind another
abbrev pub bind : {A B : Type 0} → Out A → (A → List Token → Out B) → Out B
bind (Done a rest) next = next a rest
bind (Bad rest) next = Bad rest
bind (Deep rest) next = Deep rest
bind (Many rest) next = Many rest

-- inside too many constructs: the next token is refused, whatever it is
abbrev pub too_deep : {A : Type 0} → List Token → Out A
too_deep [] = Bad []
too_deep (t ∷ ts) = Deep (t ∷ ts)

-- the tokens that were read, where a rest is left
abbrev pub read : List Token → List Token → List Token
read tokens rest = take (length tokens - length rest) tokens

-- a token that has to be there
abbrev pub wanted : Bool → Token → List Token → Out (List Skel)
wanted true t rest = Done (kept t ∷ []) rest
wanted false t rest = Bad (t ∷ rest)

abbrev pub expect : (Tok → Bool) → List Token → Out (List Skel)
expect is [] = Bad []
expect is (t ∷ rest) = wanted (is t.tok) t rest

-- the fixed tokens
abbrev pub is_open_paren : Tok → Bool
is_open_paren (tok.Sym sym.OpenParen) = true
is_open_paren _ = false

abbrev pub is_close_paren : Tok → Bool
is_close_paren (tok.Sym sym.CloseParen) = true
is_close_paren _ = false

abbrev pub is_open_brace : Tok → Bool
is_open_brace (tok.Sym sym.OpenBrace) = true
is_open_brace _ = false

abbrev pub is_semicolon : Tok → Bool
is_semicolon (tok.Sym sym.Semicolon) = true
is_semicolon _ = false

abbrev pub is_assign : Tok → Bool
is_assign (tok.Sym sym.Assign) = true
is_assign _ = false

abbrev pub is_colon : Tok → Bool
is_colon (tok.Sym sym.Colon) = true
is_colon _ = false

abbrev pub is_int : Tok → Bool
is_int (tok.Key key.Int) = true
is_int _ = false

abbrev pub is_main : Tok → Bool
is_main (tok.Key key.Main) = true
is_main _ = false

-- an expression, and how many operators of its full expression have been read
pub record Read : Type 0 where
  pub tree : ExprTree
  pub before : ℕ

-- an operator, where the full expression may have one more
abbrev pub operator : {A : Type 0} → ℕ → Token → List Token → (ℕ → List Token → Out A) → Out A
operator n t rest next = if nat_le MAX_OPERATORS n then Many (t ∷ rest) else next (suc n) rest

abbrev pub ReadExpr : Type 0
ReadExpr = ℕ → List Token → Out Read

-- an operand behind `(`, or behind an operator
abbrev pub in_parens : ReadExpr → ReadExpr
in_parens expression n rest = bind (expression n rest) (λ e r. bind (expect is_close_paren r) (λ _ s. Done e s))

abbrev pub with_unary : Option UnOp → Sym → Token → ReadExpr → ReadExpr → ReadExpr
with_unary (Some op) s t expression operand n rest =
    operator n t rest (λ m r. bind (operand m r) (λ e r'. Done (record { tree = expr.Un op e.tree; before = e.before }) r'))
with_unary None sym.OpenParen t expression operand n rest = in_parens expression n rest
with_unary None _ t expression operand n rest = Bad (t ∷ rest)

abbrev pub operand_at : Tok → Token → ReadExpr → ReadExpr → ReadExpr
operand_at (tok.Num w) t expression operand n rest = Done (record { tree = expr.Num w; before = n }) rest
operand_at (tok.Name x) t expression operand n rest = Done (record { tree = expr.Name (ident x t.place); before = n }) rest
operand_at (tok.Sym s) t expression operand n rest = with_unary (unary_of s) s t expression operand n rest
operand_at (tok.Key k) t expression operand n rest = Bad (t ∷ rest)

-- an operand, where one construct more may be open: `expression` and `operand` are those inside it
abbrev pub operand_of : ReadExpr → ReadExpr → ReadExpr
operand_of expression operand n [] = Bad []
operand_of expression operand n (t ∷ rest) = operand_at t.tok t expression operand n rest

-- the operator of a precedence that a token is between two operands
abbrev pub of_precedence : ℕ → Option BinOp → Option BinOp
of_precedence k None = None
of_precedence k (Some op) = if precedence op == k then Some op else None

abbrev pub operator_of : ℕ → Tok → Option BinOp
operator_of k (tok.Sym s) = of_precedence k (binary_of s)
operator_of k _ = None

abbrev pub head_operator : ℕ → List Token → Option BinOp
head_operator k [] = None
head_operator k (t ∷ rest) = operator_of k t.tok

-- an operator between a left operand and what follows, where one stands there
abbrev pub tail_at : Option BinOp → Read → ReadExpr → (Read → List Token → Out Read) → Token → List Token → Out Read
tail_at None left next more t rest = Done left (t ∷ rest)
tail_at (Some op) left next more t rest =
    operator left.before t rest (λ m r. bind (next m r) (λ right s. more (record { tree = expr.Bin op left.tree right.tree; before = right.before }) s))

-- what follows a left operand: operators of the precedence, each with its right operand, at most so many
abbrev pub tail : ℕ → ReadExpr → ℕ → Read → List Token → Out Read
tail k next zero left rest = Done left rest
tail k next (suc fuel) left [] = Done left []
tail k next (suc fuel) left (t ∷ rest) = tail_at (operator_of k t.tok) left next (tail k next fuel) t rest

-- an expression of a precedence, over its operands
abbrev pub precedence_of : ℕ → ReadExpr → ReadExpr
precedence_of zero operand n tokens = operand n tokens
precedence_of (suc k) operand n tokens = bind (precedence_of k operand n tokens) (λ left rest. tail (suc k) (precedence_of k operand) 257 left rest)

-- a choice behind its test, where a `?` stands there: `expression` is one inside it
abbrev pub chosen : ReadExpr → ExprTree → ReadExpr
chosen expression c n rest = bind (expression n rest) (λ a r. bind (expect is_colon r) (λ _ s. bind (expression a.before s)
    (λ b u. Done (record { tree = expr.Pick c a.tree b.tree; before = b.before }) u)))

abbrev pub is_question : Tok → Bool
is_question (tok.Sym sym.Question) = true
is_question _ = false

abbrev pub choice_at : Bool → ReadExpr → Read → Token → List Token → Out Read
choice_at false expression c t rest = Done c (t ∷ rest)
choice_at true expression c t rest = operator c.before t rest (λ m r. chosen expression c.tree m r)

abbrev pub choice_behind : ReadExpr → Read → List Token → Out Read
choice_behind expression c [] = Done c []
choice_behind expression c (t ∷ rest) = choice_at (is_question t.tok) expression c t rest

abbrev pub choice_of : ReadExpr → ReadExpr → ReadExpr
choice_of operand expression n tokens = bind (precedence_of 10 operand n tokens) (λ c rest. choice_behind expression c rest)

-- operands and expressions, where so many constructs more may be open, this one included
pub record Readers : Type 0 where
  pub operand : ReadExpr
  pub expression : ReadExpr

-- one construct more around the readers of what is inside
abbrev pub around : Readers → Readers
around inner = record { operand = operand_of inner.expression inner.operand; expression = choice_of (operand_of inner.expression inner.operand) inner.expression }

abbrev pub readers : ℕ → Readers
readers zero = record { operand = λ n tokens. too_deep tokens; expression = λ n tokens. too_deep tokens }
readers (suc room) = around (readers room)

-- a full expression with its skeleton
pub record Part : Type 0 where
  pub tree : ExprTree
  pub skeleton : List Skel

abbrev pub full : ℕ → List Token → Out Part
full room tokens = bind ((readers room).expression 0 tokens) (λ e rest. Done (record { tree = e.tree; skeleton = plain (read tokens rest) }) rest)

-- a full expression in parentheses
abbrev pub test : ℕ → List Token → Out Part
test room tokens = bind (expect is_open_paren tokens) (λ o r. bind (full room r) (λ e s. bind (expect is_close_paren s)
    (λ c u. Done (record { tree = e.tree; skeleton = o ++ e.skeleton ++ c }) u)))

-- a full expression up to its `;`
abbrev pub ended : ℕ → List Token → Out Part
ended room tokens = bind (full room tokens) (λ e r. bind (expect is_semicolon r) (λ c s. Done (record { tree = e.tree; skeleton = e.skeleton ++ c }) s))

-- `= value;`
abbrev pub assigned : ℕ → List Token → Out Part
assigned room tokens = bind (expect is_assign tokens) (λ a r. bind (ended room r) (λ e s. Done (record { tree = e.tree; skeleton = a ++ e.skeleton }) s))

-- a statement with its skeleton
pub record ReadStmt : Type 0 where
  pub tree : StmtTree
  pub skeleton : List Skel

abbrev pub Statement : Type 0
Statement = List Token → Out ReadStmt

abbrev pub stmt_with : StmtTree → List Skel → ReadStmt
stmt_with s skeleton = record { tree = s; skeleton = skeleton }

-- the number of a mark
abbrev pub mark_number : Tok → Option ℕ
mark_number (tok.Num (pos n)) = if nat_le 1 n && nat_le n 255 then Some n else None
mark_number _ = None

abbrev pub mark_of : Option ℕ → Token → Token → List Token → Out Mark
mark_of None at t rest = Bad (t ∷ rest)
mark_of (Some n) at t rest = Done (mark_at n at.place) rest

-- what follows an `@`
abbrev pub mark_behind : Token → List Token → Out Mark
mark_behind at [] = Bad []
mark_behind at (t ∷ rest) = mark_of (mark_number t.tok) at t rest

-- a statement in a mark
abbrev pub in_mark : Mark → Out ReadStmt → Out ReadStmt
in_mark m body = bind body (λ s rest. Done (stmt_with (stmt.Marked m s.tree) (hole m.number m.place ∷ [])) rest)

-- a name and its token
pub record Named : Type 0 where
  pub name : Ident
  pub skeleton : List Skel

abbrev pub name_at : Tok → Token → List Token → Out Named
name_at (tok.Name x) t rest = Done (record { name = ident x t.place; skeleton = kept t ∷ [] }) rest
name_at _ t rest = Bad (t ∷ rest)

abbrev pub name : List Token → Out Named
name [] = Bad []
name (t ∷ rest) = name_at t.tok t rest

-- a declaration behind its `int` and name: `;`, or a value
abbrev pub declared_at : Bool → ℕ → Ident → Token → List Token → Out ReadStmt
declared_at true room x t rest = Done (stmt_with (stmt.Declare x (expr.Num (pos 0))) (kept t ∷ [])) rest
declared_at false room x t rest = bind (assigned room (t ∷ rest)) (λ e s. Done (stmt_with (stmt.Declare x e.tree) e.skeleton) s)

abbrev pub declared : ℕ → Ident → List Token → Out ReadStmt
declared room x [] = Bad []
declared room x (t ∷ rest) = declared_at (is_semicolon t.tok) room x t rest

-- a declaration behind its `int`
abbrev pub declaration : ℕ → Token → List Token → Out ReadStmt
declaration room int rest = bind (name rest) (λ x r. bind (declared room x.name r) (λ s u. Done (stmt_with s.tree (kept int ∷ x.skeleton ++ s.skeleton)) u))

abbrev pub is_else : Tok → Bool
is_else (tok.Key key.Else) = true
is_else _ = false

-- what follows the branch of an `if`
abbrev pub else_at : Bool → Statement → ExprTree → ReadStmt → Token → List Token → Out ReadStmt
else_at false deeper c a t rest = Done (stmt_with (stmt.If c a.tree None) a.skeleton) (t ∷ rest)
else_at true deeper c a t rest = bind (deeper rest) (λ b r. Done (stmt_with (stmt.If c a.tree (Some b.tree)) (a.skeleton ++ kept t ∷ b.skeleton)) r)

abbrev pub else_behind : Statement → ExprTree → ReadStmt → List Token → Out ReadStmt
else_behind deeper c a [] = Done (stmt_with (stmt.If c a.tree None) a.skeleton) []
else_behind deeper c a (t ∷ rest) = else_at (is_else t.tok) deeper c a t rest

-- the items of a block up to its brace, with their skeleton
pub record ReadItems : Type 0 where
  pub trees : List StmtTree
  pub skeleton : List Skel

abbrev pub items_with : List StmtTree → List Skel → ReadItems
items_with all skeleton = record { trees = all; skeleton = skeleton }

-- an item before the others
abbrev pub item_then : Out ReadStmt → (List Token → Out ReadItems) → Out ReadItems
item_then first others = bind first (λ s r. bind (others r) (λ all u. Done (items_with (s.tree ∷ all.trees) (s.skeleton ++ all.skeleton)) u))

-- a marked declaration behind its mark, else a marked statement
abbrev pub marked_at : Bool → ℕ → Statement → Mark → Token → List Token → Out ReadStmt
marked_at true room deeper m t rest = in_mark m (declaration room t rest)
marked_at false room deeper m t rest = in_mark m (deeper (t ∷ rest))

abbrev pub marked_item : ℕ → Statement → Mark → List Token → Out ReadStmt
marked_item room deeper m [] = Bad []
marked_item room deeper m (t ∷ rest) = marked_at (is_int t.tok) room deeper m t rest

-- an item, by its first token
abbrev pub item_at : Tok → ℕ → Statement → Statement → Token → List Token → Out ReadStmt
item_at (tok.Key key.Int) room statement deeper t rest = declaration room t rest
item_at (tok.Sym sym.At) room statement deeper t rest = bind (mark_behind t rest) (λ m r. marked_item room deeper m r)
item_at _ room statement deeper t rest = statement (t ∷ rest)

abbrev pub is_close_brace : Tok → Bool
is_close_brace (tok.Sym sym.CloseBrace) = true
is_close_brace _ = false

abbrev pub items_at : Bool → ℕ → Statement → Statement → (List Token → Out ReadItems) → Token → List Token → Out ReadItems
items_at true room statement deeper others t rest = Done (items_with [] []) (t ∷ rest)
items_at false room statement deeper others t rest = item_then (item_at t.tok room statement deeper t rest) others

-- the items up to a `}`, at most so many
abbrev pub items : ℕ → Statement → Statement → ℕ → List Token → Out ReadItems
items room statement deeper zero tokens = Bad tokens
items room statement deeper (suc fuel) [] = Bad []
items room statement deeper (suc fuel) (t ∷ rest) = items_at (is_close_brace t.tok) room statement deeper (items room statement deeper fuel) t rest

-- what stands behind the `{` of a block, with its `}`
abbrev pub block : ℕ → Statement → Statement → List Token → Out ReadItems
block zero statement deeper tokens = too_deep tokens
block (suc room) statement deeper tokens = bind (items (suc room) statement deeper (length tokens) tokens)
    (λ all r. bind (expect is_close_brace r) (λ c s. Done (items_with all.trees (all.skeleton ++ c)) s))

-- a statement, by its first token
abbrev pub statement_at : Tok → ℕ → Statement → (List Token → Out ReadItems) → Token → List Token → Out ReadStmt
statement_at (tok.Sym sym.Semicolon) room deeper within t rest = Done (stmt_with stmt.Skip (kept t ∷ [])) rest
statement_at (tok.Name x) room deeper within t rest =
    bind (assigned room rest) (λ e r. Done (stmt_with (stmt.Set (ident x t.place) e.tree) (kept t ∷ e.skeleton)) r)
statement_at (tok.Key key.If) room deeper within t rest = bind (test room rest) (λ c r. bind (deeper r) (λ a s. bind (else_behind deeper c.tree a s)
    (λ s u. Done (stmt_with s.tree (kept t ∷ c.skeleton ++ s.skeleton)) u)))
statement_at (tok.Key key.While) room deeper within t rest = bind (test room rest) (λ c r. bind (deeper r)
    (λ a s. Done (stmt_with (stmt.While c.tree a.tree) (kept t ∷ c.skeleton ++ a.skeleton)) s))
statement_at (tok.Key key.Return) room deeper within t rest = bind (ended room rest) (λ e r. Done (stmt_with (stmt.Return e.tree) (kept t ∷ e.skeleton)) r)
statement_at (tok.Key key.Out) room deeper within t rest = bind (test room rest) (λ e r. bind (expect is_semicolon r)
    (λ c s. Done (stmt_with (stmt.Out e.tree) (kept t ∷ e.skeleton ++ c)) s))
statement_at (tok.Key key.Assert) room deeper within t rest = bind (test room rest) (λ e r. bind (expect is_semicolon r)
    (λ c s. Done (stmt_with (stmt.Assert e.tree) (kept t ∷ e.skeleton ++ c)) s))
statement_at (tok.Sym sym.OpenBrace) room deeper within t rest = bind (within rest) (λ all r. Done (stmt_with (stmt.Block all.trees) (kept t ∷ all.skeleton)) r)
statement_at (tok.Sym sym.At) room deeper within t rest = bind (mark_behind t rest) (λ m r. in_mark m (deeper r))
statement_at _ room deeper within t rest = Bad (t ∷ rest)

abbrev pub statement_of : ℕ → Statement → (List Token → Out ReadItems) → Statement
statement_of room deeper within [] = Bad []
statement_of room deeper within (t ∷ rest) = statement_at t.tok room deeper within t rest

-- statements where so many constructs more may be open, and those one construct deeper
pub record Statements : Type 0 where
  pub here : Statement
  pub deeper : Statement

abbrev pub statements : ℕ → Statements
statements zero = record { here = too_deep; deeper = too_deep }
statements (suc room) = record { here = statement_of (suc room) (statements room).here (block room (statements room).here (statements room).deeper); deeper = (statements room).here }

-- a parameter
abbrev pub param : List Token → Out Named
param tokens = bind (expect is_int tokens) (λ i r. bind (name r) (λ x s. Done (record { name = x.name; skeleton = i ++ x.skeleton }) s))

-- parameters with their skeleton
pub record ReadParams : Type 0 where
  pub names : List Ident
  pub skeleton : List Skel

abbrev pub is_comma : Tok → Bool
is_comma (tok.Sym sym.Comma) = true
is_comma _ = false

abbrev pub params_with : List Ident → List Skel → ReadParams
params_with names skeleton = record { names = names; skeleton = skeleton }

abbrev pub params_at : Bool → Named → (List Token → Out ReadParams) → Token → List Token → Out ReadParams
params_at false x others t rest = Done (params_with (x.name ∷ []) x.skeleton) (t ∷ rest)
params_at true x others t rest = bind (others rest) (λ all r. Done (params_with (x.name ∷ all.names) (x.skeleton ++ kept t ∷ all.skeleton)) r)

abbrev pub params_behind : Named → (List Token → Out ReadParams) → List Token → Out ReadParams
params_behind x others [] = Done (params_with (x.name ∷ []) x.skeleton) []
params_behind x others (t ∷ rest) = params_at (is_comma t.tok) x others t rest

-- the parameters of `main`, at most so many
abbrev pub params : ℕ → List Token → Out ReadParams
params zero tokens = Bad tokens
params (suc fuel) tokens = bind (param tokens) (λ x r. params_behind x (params fuel) r)

-- a program with its skeleton
pub record ReadProgram : Type 0 where
  pub params : List Ident
  pub body : List StmtTree
  pub skeleton : List Skel

-- nothing follows
abbrev pub at_end : {A : Type 0} → A → List Token → Out A
at_end a [] = Done a []
at_end a (t ∷ rest) = Bad (t ∷ rest)

abbrev pub program : List Token → Out ReadProgram
program tokens = bind (expect is_int tokens) (λ i r. bind (expect is_main r) (λ m s. bind (expect is_open_paren s) (λ o u.
    bind (params (length u) u) (λ names v. bind (expect is_close_paren v) (λ c w. bind (expect is_open_brace w) (λ b x.
    bind (block MAX_OPEN (statements MAX_OPEN).here (statements MAX_OPEN).deeper x) (λ all y.
    at_end (record { params = names.names; body = all.trees; skeleton = i ++ m ++ o ++ names.skeleton ++ c ++ b ++ all.skeleton }) y)))))))
