-- Which tokens a file has, and where and why it is refused: said of the pieces that it is made of, and not of how it is read.
use Rattle.std.specs.Prelude.{◌≡◌, ℕ, ◌+◌, ◌<◌, ◌≤◌, false, List, [], ◌∷◌, ◌++◌, drop, length, slice_index, None, codes, ◌⊎◌}
use Rattle.prv_model.specs.declared.limits.TheConstants.{MAX_FILE, MAX_NAME}
use Rattle.prv_lex.specs.Bytes.{is_blank}
use Rattle.prv_lex.specs.Numbers.{number_of}
use Rattle.prv_lex.specs.Comments.{closing}
use Rattle.prv_lex.specs.Lexemes.{IsWord, IsDigits, IsLexeme, IsLongest, Spells}
use Rattle.prv_lex.specs.Spacings.{AreSpacings, BeginsNoComment}
use Rattle.prv_lex.specs.declared.error.LexWhy.{LexWhy}
use Rattle.prv_lex.specs.declared.error.LexWhy.TheVariants.{Long, Byte, Number, NameLong, Comment}
use Rattle.prv_lex.specs.declared.token.Tok.{Tok}
use Rattle.prv_lex.specs.declared.token.Token.{Token}

-- a token, as long as possible, in front of a rest
pub record IsToken (tok : Tok) (bytes rest : List ℕ) : Type 0 where
  pub plain : BeginsNoComment (bytes ++ rest)
  pub spelled : Spells tok bytes
  pub longest : IsLongest bytes rest

-- a text that begins at a place is made of these tokens, with blanks and comments before, between and behind them
pub data IsMadeOf : ℕ → List ℕ → List Token → Type 0 where
  last : {place : ℕ} (spaces : List ℕ) → AreSpacings spaces [] → IsMadeOf place spaces []
  next : {place : ℕ} {tokens : List Token} (tok : Tok) (spaces bytes rest : List ℕ) → AreSpacings spaces (bytes ++ rest) → IsToken tok bytes rest → IsMadeOf (place + length spaces + length bytes) rest tokens → IsMadeOf place (spaces ++ (bytes ++ rest)) (record { tok = tok; place = place + length spaces } ∷ tokens)

-- a text begins with what is no token, blank or comment, for this reason
abbrev pub IsWrong : LexWhy → List ℕ → Type 0
IsWrong Long text = ⊥
IsWrong Byte text = (0 < length text) × (is_blank (slice_index text 0) ≡ false) × BeginsNoComment text × ((front rest : List ℕ) → text ≡ front ++ rest → IsLexeme front → ⊥)
IsWrong Number text = (digits rest : List ℕ) × (text ≡ digits ++ rest) × IsDigits digits × IsLongest digits rest × (number_of digits ≡ None)
IsWrong NameLong text = (word rest : List ℕ) × (text ≡ word ++ rest) × IsWord word × IsLongest word rest × (MAX_NAME < length word)
IsWrong Comment text = (rest : List ℕ) × (text ≡ codes "/*" ++ rest) × (closing rest ≡ None)

-- in a text that begins at a place, the first of these comes at another place, behind tokens, blanks and comments alone
pub data StopsAt : ℕ → List ℕ → ℕ → LexWhy → Type 0 where
  stop : {place : ℕ} {why : LexWhy} (spaces text : List ℕ) → AreSpacings spaces text → IsWrong why text → StopsAt place (spaces ++ text) (place + length spaces) why
  past : {place at : ℕ} {why : LexWhy} (tok : Tok) (spaces bytes rest : List ℕ) → AreSpacings spaces (bytes ++ rest) → IsToken tok bytes rest → StopsAt (place + length spaces + length bytes) rest at why → StopsAt place (spaces ++ (bytes ++ rest)) at why

-- a file has these tokens
pub record HasTokens (file : List ℕ) (tokens : List Token) : Type 0 where
  pub short : length file ≤ MAX_FILE
  pub made : IsMadeOf 0 file tokens

-- a file is refused at this place for this reason
abbrev pub IsRefused : List ℕ → ℕ → LexWhy → Type 0
IsRefused file place why =
    ((MAX_FILE < length file) × (place ≡ MAX_FILE) × (why ≡ Long))
    ⊎ ((length file ≤ MAX_FILE) × StopsAt 0 file place why)

-- the places of the tokens rise from one place on, and stay below another
abbrev pub PlacesRise : ℕ → ℕ → List Token → Type 0
PlacesRise low high [] = Unit {0}
PlacesRise low high (first ∷ others) = (low ≤ first.place) × (first.place < high) × PlacesRise (first.place + 1) high others

-- a token stands at its place in a file
abbrev pub StandsIn : List ℕ → Token → Type 0
StandsIn file token = (bytes rest : List ℕ) × (drop token.place file ≡ bytes ++ rest) × IsToken token.tok bytes rest
