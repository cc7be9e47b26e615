-- The terminals of the grammar: rules of one token. Each has a token as its example, which is taken to show that what was read begins a text.
use Rattle.std.specs.Prelude.{ℕ, zero, suc, Bool, true, false, [], Option, Some, None, pos}
use Rattle.prv_lex.specs.declared.token.Token.{Token}
use Rattle.prv_lex.specs.declared.token.Tok.{Tok}
use Rattle.prv_lex.specs.declared.token.Tok.TheVariants as tok
use Rattle.prv_lex.specs.declared.token.Key.TheVariants as key
use Rattle.prv_lex.specs.declared.token.Sym.{Sym}
use Rattle.prv_lex.specs.declared.token.Sym.TheVariants as sym
use Rattle.prv_model.specs.declared.op.UnOp.{UnOp}
use Rattle.prv_model.specs.declared.op.BinOp.{BinOp}
use Rattle.prv_rule.specs.Operators.{unary_of}
use Rattle.prv_rule.specs.Rules.{Rule, Terminal}
use Rattle.prv_parse.specs.Places.{ident}
use Rattle.prv_parse.specs.Nonterminals.{Value}
use Rattle.prv_parse.specs.Reader.{mark_number, operator_of, is_open_paren, is_close_paren, is_open_brace, is_close_brace, is_semicolon, is_comma, is_assign, is_question, is_colon, is_int, is_main, is_else}
use Rattle.prv_parse.specs.declared.tree.Ident.{Ident}
use Rattle.prv_parse.specs.declared.tree.ExprTree.{ExprTree}
use Rattle.prv_parse.specs.declared.tree.ExprTree.TheVariants as expr

-- a token at the beginning of a file
abbrev pub at_start : Tok → Token
at_start t = record { tok = t; place = 0 }

abbrev pub unit_if : Bool → Option (Unit {0})
unit_if true = Some tt
unit_if false = None

-- a token that has no value but to be there, by its test
abbrev pub fixed_of : (Tok → Bool) → Token → Option (Unit {0})
fixed_of is t = unit_if (is t.tok)

abbrev pub fixed : (Tok → Bool) → Tok → Rule Value (Unit {0})
fixed is t = Terminal (fixed_of is) (at_start t)

-- the fixed symbols
abbrev pub open_paren : Rule Value (Unit {0})
open_paren = fixed is_open_paren (tok.Sym sym.OpenParen)

abbrev pub close_paren : Rule Value (Unit {0})
close_paren = fixed is_close_paren (tok.Sym sym.CloseParen)

abbrev pub open_brace : Rule Value (Unit {0})
open_brace = fixed is_open_brace (tok.Sym sym.OpenBrace)

abbrev pub close_brace : Rule Value (Unit {0})
close_brace = fixed is_close_brace (tok.Sym sym.CloseBrace)

abbrev pub semicolon : Rule Value (Unit {0})
semicolon = fixed is_semicolon (tok.Sym sym.Semicolon)

abbrev pub comma : Rule Value (Unit {0})
comma = fixed is_comma (tok.Sym sym.Comma)

abbrev pub equals : Rule Value (Unit {0})
equals = fixed is_assign (tok.Sym sym.Assign)

abbrev pub question : Rule Value (Unit {0})
question = fixed is_question (tok.Sym sym.Question)

abbrev pub colon : Rule Value (Unit {0})
colon = fixed is_colon (tok.Sym sym.Colon)

-- the reserved words
abbrev pub is_if : Tok → Bool
is_if (tok.Key key.If) = true
is_if _ = false

abbrev pub is_while : Tok → Bool
is_while (tok.Key key.While) = true
is_while _ = false

abbrev pub is_return : Tok → Bool
is_return (tok.Key key.Return) = true
is_return _ = false

abbrev pub is_out : Tok → Bool
is_out (tok.Key key.Out) = true
is_out _ = false

abbrev pub is_assert : Tok → Bool
is_assert (tok.Key key.Assert) = true
is_assert _ = false

abbrev pub int_word : Rule Value (Unit {0})
int_word = fixed is_int (tok.Key key.Int)

abbrev pub main_word : Rule Value (Unit {0})
main_word = fixed is_main (tok.Key key.Main)

abbrev pub if_word : Rule Value (Unit {0})
if_word = fixed is_if (tok.Key key.If)

abbrev pub else_word : Rule Value (Unit {0})
else_word = fixed is_else (tok.Key key.Else)

abbrev pub while_word : Rule Value (Unit {0})
while_word = fixed is_while (tok.Key key.While)

abbrev pub return_word : Rule Value (Unit {0})
return_word = fixed is_return (tok.Key key.Return)

abbrev pub out_word : Rule Value (Unit {0})
out_word = fixed is_out (tok.Key key.Out)

abbrev pub assert_word : Rule Value (Unit {0})
assert_word = fixed is_assert (tok.Key key.Assert)

-- a number or a name, as an operand
abbrev pub leaf_at : Token → Tok → Option ExprTree
leaf_at t (tok.Num w) = Some (expr.Num w)
leaf_at t (tok.Name x) = Some (expr.Name (ident x t.place))
leaf_at t _ = None

abbrev pub leaf_of : Token → Option ExprTree
leaf_of t = leaf_at t t.tok

abbrev pub leaf : Rule Value ExprTree
leaf = Terminal leaf_of (at_start (tok.Num (pos 0)))

-- a name
abbrev pub name_of : Token → Tok → Option Ident
name_of t (tok.Name x) = Some (ident x t.place)
name_of t _ = None

abbrev pub named_of : Token → Option Ident
named_of t = name_of t t.tok

abbrev pub name : Rule Value Ident
name = Terminal named_of (at_start (tok.Name []))

-- an operator before its operand
abbrev pub unary_at : Tok → Option UnOp
unary_at (tok.Sym s) = unary_of s
unary_at _ = None

abbrev pub before_of : Token → Option UnOp
before_of t = unary_at t.tok

abbrev pub prefix_operator : Rule Value UnOp
prefix_operator = Terminal before_of (at_start (tok.Sym sym.Minus))

-- an operator of a precedence between two operands
abbrev pub between_of : ℕ → Token → Option BinOp
between_of k t = operator_of k t.tok

-- some operator of each precedence, one more than the number
abbrev pub symbol_of : ℕ → Sym
symbol_of zero = sym.Star
symbol_of (suc zero) = sym.Plus
symbol_of (suc (suc zero)) = sym.ShiftLeft
symbol_of (suc (suc (suc zero))) = sym.Less
symbol_of (suc (suc (suc (suc zero)))) = sym.EqualEqual
symbol_of (suc (suc (suc (suc (suc zero))))) = sym.Ampersand
symbol_of (suc (suc (suc (suc (suc (suc zero)))))) = sym.Caret
symbol_of (suc (suc (suc (suc (suc (suc (suc zero))))))) = sym.Bar
symbol_of (suc (suc (suc (suc (suc (suc (suc (suc zero)))))))) = sym.AndAnd
symbol_of _ = sym.BarBar

abbrev pub infix_operator : ℕ → Rule Value BinOp
infix_operator k = Terminal (between_of (suc k)) (at_start (tok.Sym (symbol_of k)))

-- the `@` of a mark, by its place, and the number of one
abbrev pub place_at : Token → Tok → Option ℕ
place_at t (tok.Sym sym.At) = Some t.place
place_at t _ = None

abbrev pub at_of : Token → Option ℕ
at_of t = place_at t t.tok

abbrev pub at_sign : Rule Value ℕ
at_sign = Terminal at_of (at_start (tok.Sym sym.At))

abbrev pub number_of : Token → Option ℕ
number_of t = mark_number t.tok

abbrev pub mark_value : Rule Value ℕ
mark_value = Terminal number_of (at_start (tok.Num (pos 1)))
