-- The symbols.
use Rattle.std.specs.Prelude.{ℕ, List, [], ◌∷◌, ◌++◌, Option, codes, nat_eq}
use Rattle.std.specs.List.{find, starts_with}
use Rattle.prv_lex.specs.declared.token.Sym.{Sym}
use Rattle.prv_lex.specs.declared.token.Sym.TheVariants.{OpenParen, CloseParen, OpenBrace, CloseBrace, Semicolon, Comma, Assign, At, Question, Colon, Plus, Minus, Star, Slash, Percent, ShiftLeft, ShiftRight, Less, LessEqual, Greater, GreaterEqual, EqualEqual, NotEqual, Ampersand, Caret, Bar, AndAnd, BarBar, Bang, Tilde}

-- how a symbol is spelled
abbrev pub symbol : Sym → List ℕ
symbol OpenParen = codes "("
symbol CloseParen = codes ")"
symbol OpenBrace = codes "{"
symbol CloseBrace = codes "}"
symbol Semicolon = codes ";"
symbol Comma = codes ","
symbol Assign = codes "="
symbol At = codes "@"
symbol Question = codes "?"
symbol Colon = codes ":"
symbol Plus = codes "+"
symbol Minus = codes "-"
symbol Star = codes "*"
symbol Slash = codes "/"
symbol Percent = codes "%"
symbol ShiftLeft = codes "<<"
symbol ShiftRight = codes ">>"
symbol Less = codes "<"
symbol LessEqual = codes "<="
symbol Greater = codes ">"
symbol GreaterEqual = codes ">="
symbol EqualEqual = codes "=="
symbol NotEqual = codes "!="
symbol Ampersand = codes "&"
symbol Caret = codes "^"
symbol Bar = codes "|"
symbol AndAnd = codes "&&"
symbol BarBar = codes "||"
symbol Bang = codes "!"
symbol Tilde = codes "~"

-- the symbols of two bytes
abbrev pub pairs : List Sym
pairs = ShiftLeft ∷ ShiftRight ∷ LessEqual ∷ GreaterEqual ∷ EqualEqual ∷ NotEqual ∷ AndAnd ∷ BarBar ∷ []

-- the symbols of one byte
abbrev pub singles : List Sym
singles = OpenParen ∷ CloseParen ∷ OpenBrace ∷ CloseBrace ∷ Semicolon ∷ Comma ∷ Assign ∷ At ∷ Question ∷ Colon ∷ Plus ∷ Minus ∷ Star ∷ Slash ∷ Percent ∷ Less ∷ Greater ∷ Ampersand ∷ Caret ∷ Bar ∷ Bang ∷ Tilde ∷ []

-- the longest symbol that a text begins with, if it begins with one: the longer symbols are sought first
abbrev pub symbol_at : List ℕ → Option Sym
symbol_at text = find (λ s. starts_with nat_eq text (symbol s)) (pairs ++ singles)
