-- What stands at the front of a text: a gap, which is a blank or a comment, or a token, as long as possible, or what can't be read.
use Rattle.std.specs.Prelude.{◌≡◌, [], ◌∷◌, ◌++◌, ℕ, ◌+◌, nat_lt, nat_eq, List, drop, length, slice_index, Option, Some, None, codes, ℤ, if◌then◌else◌}
use Rattle.std.specs.List.{prefix_len, take_while, starts_with}
use Rattle.prv_model.specs.declared.limits.TheConstants.{MAX_NAME}
use Rattle.prv_lex.specs.Bytes.{is_blank, is_letter, is_digit, is_word_byte, is_line_byte}
use Rattle.prv_lex.specs.Keywords.{keyword_of}
use Rattle.prv_lex.specs.Numbers.{number_of}
use Rattle.prv_lex.specs.Symbols.{symbol, symbol_at}
use Rattle.prv_lex.specs.Comments.{closing}
use Rattle.prv_lex.specs.declared.error.LexError.{LexError}
use Rattle.prv_lex.specs.declared.error.LexError.TheVariants as error
use Rattle.prv_lex.specs.declared.error.LexWhy.TheVariants as why
use Rattle.prv_lex.specs.declared.front.Front.{Front}
use Rattle.prv_lex.specs.declared.front.Front.TheVariants.{Gap, Token, Refused}
use Rattle.prv_lex.specs.declared.token.Key.{Key}
use Rattle.prv_lex.specs.declared.token.Sym.{Sym}
use Rattle.prv_lex.specs.declared.token.Tok.{Tok}
use Rattle.prv_lex.specs.declared.token.Token as t
use Rattle.prv_lex.specs.declared.token.Tok.TheVariants as tok

-- a word is the reserved word that is spelled so, else a name
abbrev pub named : Option Key → List ℕ → Tok
named None word = tok.Name word
named (Some k) word = tok.Key k

-- how many bytes a front has, or 0 where it can't be read
abbrev pub len_of : Front → ℕ
len_of (Gap len) = len
len_of (Token tok len) = len
len_of (Refused why) = 0

-- what stands at a place is added to the tokens before it, and the next place is behind it
abbrev pub IsAdded : Front → ℕ → List t.Token → List t.Token → ℕ → Type 0
IsAdded (Gap len) place before after next = (after ≡ before) × (next ≡ place + len)
IsAdded (Token tok len) place before after next = (after ≡ before ++ record { tok = tok; place = place } ∷ []) × (next ≡ place + len)
IsAdded (Refused why) place before after next = ⊥

-- a scan stops with this error at what stands at a place: it can't be read, or there's no memory for it
abbrev pub StopsWith : Front → ℕ → LexError → Type 0
StopsWith (Gap len) place e = ⊥
StopsWith (Token tok len) place e = e ≡ error.Memory
StopsWith (Refused why) place e = e ≡ error.Refused place why

-- a run of letters, digits and `_`: a reserved word or a name within the limit
abbrev pub word_front : List ℕ → Front
word_front word = if nat_lt MAX_NAME (length word) then Refused why.NameLong else Token (named (keyword_of word) word) (length word)

-- a run of digits that is worth this, if it is a number
abbrev pub numbered : Option ℤ → ℕ → Front
numbered None len = Refused why.Number
numbered (Some n) len = Token (tok.Num n) len

-- a run of digits: a number, if its value is in range and no 0 is in front
abbrev pub number_front : List ℕ → Front
number_front digits = numbered (number_of digits) (length digits)

-- a `/*` with what follows it up to and with the next `*/`
abbrev pub closed : Option ℕ → Front
closed None = Refused why.Comment
closed (Some len) = Gap (len + 2)

-- the longest symbol that a text begins with, or a byte that begins no token
abbrev pub symbol_front : Option Sym → Front
symbol_front None = Refused why.Byte
symbol_front (Some s) = Token (tok.Sym s) (length (symbol s))

-- a comment up to the end of its line, a comment up to its `*/`, or a symbol
abbrev pub mark_front : List ℕ → Front
mark_front text =
    if starts_with nat_eq text (codes "//") then Gap (prefix_len is_line_byte text)
    else (if starts_with nat_eq text (codes "/*") then closed (closing (drop 2 text))
    else symbol_front (symbol_at text))

-- what a text that isn't empty begins with
abbrev pub front_of : List ℕ → Front
front_of text =
    if is_blank (slice_index text 0) then Gap 1
    else (if is_letter (slice_index text 0) then word_front (take_while is_word_byte text)
    else (if is_digit (slice_index text 0) then number_front (take_while is_digit text)
    else mark_front text))
