-- Tokens that stand at a fixed place of a construct.
use Rattle.std.specs.Prelude.{Bool, false, List, [], ◌∷◌}
use Rattle.prv_lex.specs.declared.token.Tok.{Tok}
use Rattle.prv_lex.specs.declared.token.Token.{Token}
use Rattle.prv_parse.specs.Reader.{is_open_paren, is_close_paren, is_open_brace, is_close_brace, is_semicolon, is_comma, is_assign, is_question, is_colon, is_int, is_main, is_else}
use Rattle.prv_parse.specs.declared.fixed.Fixed.{Fixed}
use Rattle.prv_parse.specs.declared.fixed.Fixed.TheVariants.{OpenParen, CloseParen, OpenBrace, CloseBrace, Semicolon, Comma, Assign, Question, Colon, Int, Main, Else}

-- a token is this one
abbrev pub is_fixed : Fixed → Tok → Bool
is_fixed OpenParen tok = is_open_paren tok
is_fixed CloseParen tok = is_close_paren tok
is_fixed OpenBrace tok = is_open_brace tok
is_fixed CloseBrace tok = is_close_brace tok
is_fixed Semicolon tok = is_semicolon tok
is_fixed Comma tok = is_comma tok
is_fixed Assign tok = is_assign tok
is_fixed Question tok = is_question tok
is_fixed Colon tok = is_colon tok
is_fixed Int tok = is_int tok
is_fixed Main tok = is_main tok
is_fixed Else tok = is_else tok

-- a token that comes next is this one
abbrev pub head_is : Fixed → List Token → Bool
head_is wanted [] = false
head_is wanted (t ∷ rest) = is_fixed wanted t.tok
