-- The grammar of Mc32, as a table of rules. Each rule has its production above it in extended Backus-Naur form: `[ ]` is one or none, `{ }` any number, `|` an alternative, the first whose first token fits.
-- What stands inside a construct is a nonterminal, since its tokens are one nesting deeper.
use Rattle.std.specs.Prelude.{ℕ, zero, suc, List, [], ◌∷◌, Option, Some, None, pos}
use Rattle.prv_model.specs.declared.op.BinOp.{BinOp}
use Rattle.prv_rule.specs.Skeletons.{hole}
use Rattle.prv_rule.specs.Rules.{Rule, Sequence, Repetition, Full, Hole, Construct, Table}
use Rattle.prv_rule.specs.Combinators.{◌or◌, preceded, terminated, mapped, optional, separated, nested, opening}
use Rattle.prv_parse.specs.Places.{mark_at}
use Rattle.prv_parse.specs.Nonterminals.{Nonterminal, Operand, Parenthesized, Choice, Statement, Block, Value}
use Rattle.prv_parse.specs.Terminals.{open_paren, close_paren, open_brace, close_brace, semicolon, comma, equals, question, colon, int_word, main_word, if_word, else_word, while_word, return_word, out_word, assert_word, leaf, name, prefix_operator, infix_operator, at_sign, mark_value}
use Rattle.prv_parse.specs.declared.tree.Ident.{Ident}
use Rattle.prv_parse.specs.declared.tree.Mark.{Mark}
use Rattle.prv_parse.specs.declared.tree.ExprTree.{ExprTree}
use Rattle.prv_parse.specs.declared.tree.ExprTree.TheVariants as expr
use Rattle.prv_parse.specs.declared.tree.StmtTree.{StmtTree}
use Rattle.prv_parse.specs.declared.tree.StmtTree.TheVariants as stmt

-- operand  =  number | name | prefix-operator operand | "(" expression ")"
abbrev pub operand : Rule Value ExprTree
operand =
    leaf
    or opening Operand (λ op e. expr.Un op e) prefix_operator
    or nested Parenthesized open_paren

-- operators of one precedence group to the left
abbrev pub grouped : ExprTree → List (BinOp × ExprTree) → ExprTree
grouped a [] = a
grouped a (p ∷ ps) = grouped (expr.Bin p.0 a p.1) ps

-- operand of an operator  =  infix-operator operand
abbrev pub applied : ℕ → Rule Value ExprTree → Rule Value (BinOp × ExprTree)
applied k tighter = Sequence (λ op e. (op, e)) (infix_operator k) tighter

-- level 0  =  operand;  level k+1  =  level k { infix-operator-of-precedence-k+1 level k }
abbrev pub level : ℕ → Rule Value ExprTree
level zero = operand
level (suc k) = Sequence grouped (level k) (Repetition (applied k (level k)))

abbrev pub picked : ExprTree → Option (ExprTree × ExprTree) → ExprTree
picked c None = c
picked c (Some p) = expr.Pick c p.0 p.1

-- expression  =  level 10 [ "?" expression ":" expression ]
abbrev pub expression : Rule Value ExprTree
expression = Sequence picked (level 10) (optional (nested Choice question))

-- test  =  "(" expression ")"
abbrev pub test : Rule Value ExprTree
test = preceded open_paren (terminated (Full expression) close_paren)

-- ended  =  expression ";"
abbrev pub ended : Rule Value ExprTree
ended = terminated (Full expression) semicolon

-- assigned  =  "=" ended
abbrev pub assigned : Rule Value ExprTree
assigned = preceded equals ended

-- mark  =  "@" number
abbrev pub mark : Rule Value Mark
mark = Sequence (λ place number. mark_at number place) at_sign mark_value

-- a marked body is one hole of the skeleton
abbrev pub marked : Rule Value (Mark × StmtTree) → Rule Value StmtTree
marked a = Hole (λ p. hole p.0.number p.0.place) (λ p. stmt.Marked p.0 p.1) a

-- initial  =  ";" | assigned
abbrev pub initial : Rule Value ExprTree
initial = mapped (λ (u : Unit {0}). expr.Num (pos 0)) semicolon or assigned

-- declaration  =  "int" name initial
abbrev pub declaration : Rule Value StmtTree
declaration = preceded int_word (Sequence (λ x e. stmt.Declare x e) name initial)

-- skip  =  ";"
abbrev pub skip : Rule Value StmtTree
skip = mapped (λ (u : Unit {0}). stmt.Skip) semicolon

-- braced  =  "{" block
abbrev pub braced : Rule Value StmtTree
braced = mapped (λ all. stmt.Block all) (nested Block open_brace)

-- branch  =  "if" test statement [ "else" statement ]
abbrev pub branch : Rule Value StmtTree
branch = Sequence (λ (p : ExprTree × StmtTree) other. stmt.If p.0 p.1 other) (opening Statement (λ c s. (c, s)) (preceded if_word test)) (optional (nested Statement else_word))

-- loop  =  "while" test statement
abbrev pub loop : Rule Value StmtTree
loop = opening Statement (λ c s. stmt.While c s) (preceded while_word test)

-- returned  =  "return" ended
abbrev pub returned : Rule Value StmtTree
returned = mapped (λ e. stmt.Return e) (preceded return_word ended)

-- output  =  "out" test ";"
abbrev pub output : Rule Value StmtTree
output = mapped (λ e. stmt.Out e) (preceded out_word (terminated test semicolon))

-- assertion  =  "assert" test ";"
abbrev pub assertion : Rule Value StmtTree
assertion = mapped (λ e. stmt.Assert e) (preceded assert_word (terminated test semicolon))

-- marked-statement  =  mark statement
abbrev pub marked_statement : Rule Value StmtTree
marked_statement = marked (opening Statement (λ m s. (m, s)) mark)

-- assignment  =  name assigned
abbrev pub assignment : Rule Value StmtTree
assignment = Sequence (λ x e. stmt.Set x e) name assigned

-- statement  =  skip | braced | branch | loop | returned | output | assertion | marked-statement | assignment
abbrev pub statement : Rule Value StmtTree
statement = skip or braced or branch or loop or returned or output or assertion or marked_statement or assignment

-- marked-item  =  mark ( declaration | statement ); a marked declaration stands inside no construct
abbrev pub marked_item : Rule Value StmtTree
marked_item = marked (Construct Statement (λ m s. (m, s)) mark declaration)

-- item  =  declaration | marked-item | statement
abbrev pub item : Rule Value StmtTree
item = declaration or marked_item or statement

-- block  =  { item } "}"
abbrev pub block : Rule Value (List StmtTree)
block = terminated (Repetition item) close_brace

-- the rule of each nonterminal
abbrev pub table : Table Value
table Operand = operand
table Parenthesized = terminated expression close_paren
table Choice = Sequence (λ a b. (a, b)) expression (preceded colon expression)
table Statement = statement
table Block = block

-- parameter  =  "int" name
abbrev pub parameter : Rule Value Ident
parameter = preceded int_word name

-- program  =  "int" "main" "(" parameter { "," parameter } ")" "{" block
abbrev pub program : Rule Value (List Ident × List StmtTree)
program =
    preceded int_word (preceded main_word (preceded open_paren
    (Sequence (λ params body. (params, body)) (separated parameter comma) (preceded close_paren (nested Block open_brace)))))
