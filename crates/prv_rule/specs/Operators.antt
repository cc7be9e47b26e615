-- Which symbols are operators of expressions (ISO/IEC 9899:1999, 6.5).
use Rattle.std.specs.Prelude.{Bool, true, false, Option, Some, None}
use Rattle.prv_lex.specs.declared.token.Tok.{Tok}
use Rattle.prv_lex.specs.declared.token.Tok.TheVariants as tok
use Rattle.prv_lex.specs.declared.token.Sym.{Sym}
use Rattle.prv_lex.specs.declared.token.Sym.TheVariants as sym
use Rattle.prv_model.specs.declared.op.UnOp.{UnOp}
use Rattle.prv_model.specs.declared.op.UnOp.TheVariants.{Neg, Not, Flip}
use Rattle.prv_model.specs.declared.op.BinOp.{BinOp}
use Rattle.prv_model.specs.declared.op.BinOp.TheVariants.{Add, Sub, Mul, Div, Rem, Shl, Shr, And, Or, Xor, Lt, Le, Gt, Ge, Eq, Ne, AndAlso, OrElse}

-- the operator that a symbol is before one operand
abbrev pub unary_of : Sym → Option UnOp
unary_of sym.Minus = Some Neg
unary_of sym.Bang = Some Not
unary_of sym.Tilde = Some Flip
unary_of _ = None

-- the operator that a symbol is between two operands
abbrev pub binary_of : Sym → Option BinOp
binary_of sym.Star = Some Mul
binary_of sym.Slash = Some Div
binary_of sym.Percent = Some Rem
binary_of sym.Plus = Some Add
binary_of sym.Minus = Some Sub
binary_of sym.ShiftLeft = Some Shl
binary_of sym.ShiftRight = Some Shr
binary_of sym.Less = Some Lt
binary_of sym.LessEqual = Some Le
binary_of sym.Greater = Some Gt
binary_of sym.GreaterEqual = Some Ge
binary_of sym.EqualEqual = Some Eq
binary_of sym.NotEqual = Some Ne
binary_of sym.Ampersand = Some And
binary_of sym.Caret = Some Xor
binary_of sym.Bar = Some Or
binary_of sym.AndAnd = Some AndAlso
binary_of sym.BarBar = Some OrElse
binary_of _ = None

-- a test that a value is there
abbrev pub is_there : {T : Type 0} → Option T → Bool
is_there None = false
is_there (Some x) = true

-- the symbols that are operators, the `?` of a choice included
abbrev pub is_operation : Sym → Option UnOp → Option BinOp → Bool
is_operation sym.Question u b = true
is_operation s (Some op) b = true
is_operation s None b = is_there b

-- a token is an operator
abbrev pub is_operator : Tok → Bool
is_operator (tok.Sym s) = is_operation s (unary_of s) (binary_of s)
is_operator _ = false
