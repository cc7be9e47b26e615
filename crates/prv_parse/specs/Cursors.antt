-- Where the reader stands, and how its calls answer.
use Rattle.std.specs.Prelude.{◌≡◌, List, [], ◌∷◌, drop, Result, Ok, Err, ⊤}
use Rattle.prv_lex.specs.declared.token.Token.{Token}
use Rattle.prv_parse.specs.Reader.{Out, Done, Bad, Deep, Many, bind, operator, Read, ReadExpr as Reader}
use Rattle.prv_model.specs.declared.op.BinOp.{BinOp}
use Rattle.prv_parse.specs.declared.tree.ExprTree.TheVariants as expr
use Rattle.prv_parse.specs.declared.cursor.Cursor.{Cursor}
use Rattle.prv_parse.specs.declared.stop.Stop.{Stop}
use Rattle.prv_parse.specs.declared.stop.Stop.TheVariants as stop
use Rattle.prv_parse.specs.declared.expression.ReadExpr.{ReadExpr}

-- the tokens that are left
abbrev pub left : Cursor → List Token
left c = drop c.at c.tokens.now

-- a call stops as the reader of the definition does, unless memory runs out
abbrev pub StopsBy : {A : Type 0} → Out A → List Token → Stop → Type 0
StopsBy out rest stop.Syntax = out ≡ Bad rest
StopsBy out rest stop.Depth = out ≡ Deep rest
StopsBy out rest stop.Operators = out ≡ Many rest
StopsBy out rest stop.Memory = ⊤

-- what a call read
abbrev pub read_of : ReadExpr → Read
read_of e = record { tree = e.tree; before = e.before }

-- a call reads what the reader of the definition reads, and leaves what it leaves
abbrev pub ReadsExpr : Out Read → List Token → Result ReadExpr Stop → Type 0
ReadsExpr out rest (Ok e) = out ≡ Done (read_of e) rest
ReadsExpr out rest (Err s) = StopsBy out rest s

-- an operator behind its left operand, with its right one
abbrev pub joined : BinOp → Read → Reader → Token → List Token → Out Read
joined op first next t rest = operator first.before t rest (λ m r. bind (next m r) (λ second s. Done (record { tree = expr.Bin op first.tree second.tree; before = second.before }) s))

-- the same, of the token that comes next
abbrev pub head_joined : BinOp → Read → Reader → List Token → Out Read
head_joined op first next [] = Bad []
head_joined op first next (t ∷ rest) = joined op first next t rest
