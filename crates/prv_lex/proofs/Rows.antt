-- The definitions on a few texts, computed.
use Rattle.std.proofs.Common.{◌≡◌, [], ◌∷◌, refl, arith, None, pos}
use Rattle.std.specs.Prelude.{codes}
use Rattle.prv_lex.specs.Fronts.{front_of}
use Rattle.prv_lex.specs.Numbers.{number_of}
use Rattle.prv_lex.specs.Readings.{HasTokens}
use Rattle.prv_lex.specs.declared.error.LexWhy.TheVariants as why
use Rattle.prv_lex.specs.declared.front.Front.TheVariants.{Gap, Token, Refused}
use Rattle.prv_lex.specs.declared.token.Key.TheVariants as key
use Rattle.prv_lex.specs.declared.token.Sym.TheVariants as symbol
use Rattle.prv_lex.specs.declared.token.Tok.TheVariants as tok
use Rattle.prv_lex.proofs.Scanning.{ended, gap, token}
use Rattle.prv_lex.proofs.FileLemmas.{tokens-read}

shift : front_of (codes "<<=") ≡ Token (tok.Sym symbol.ShiftLeft) 2
shift = refl

keyword : front_of (codes "int(") ≡ Token (tok.Key key.Int) 3
keyword = refl

name : front_of (codes "intx ") ≡ Token (tok.Name (codes "intx")) 4
name = refl

greatest : front_of (codes "2147483647;") ≡ Token (tok.Num (pos 2147483647)) 10
greatest = refl

above : front_of (codes "2147483648;") ≡ Refused why.Number
above = refl

zeros : number_of (codes "00") ≡ None
zeros = refl

line_comment : front_of (codes "// a") ≡ Gap 4
line_comment = refl

block_comment : front_of (codes "/**/a") ≡ Gap 4
block_comment = refl

open_comment : front_of (codes "/*/") ≡ Refused why.Comment
open_comment = refl

bad_byte : front_of (codes "#") ≡ Refused why.Byte
bad_byte = refl

-- the tokens of a whole text, with their places
difference : HasTokens (codes "a -1") (record { tok = tok.Name (codes "a"); place = 0 } ∷ record { tok = tok.Sym symbol.Minus; place = 2 } ∷ record { tok = tok.Num (pos 1); place = 3 } ∷ [])
difference = tokens-read (codes "a -1") _ (omega arith) (token 1 (tok.Name (codes "a")) refl (gap 1 refl (token 1 (tok.Sym symbol.Minus) refl (token 1 (tok.Num (pos 1)) refl ended))))
