-- How a text is read, front by front.
use Rattle.std.proofs.Common.{◌≡◌, ℕ, ◌+◌, List, [], ◌∷◌, drop}
use Rattle.prv_lex.specs.Fronts.{front_of}
use Rattle.prv_lex.specs.declared.error.LexWhy.{LexWhy}
use Rattle.prv_lex.specs.declared.front.Front.TheVariants.{Gap, Token, Refused}
use Rattle.prv_lex.specs.declared.token.Tok.{Tok}
use Rattle.prv_lex.specs.declared.token.Token as t

-- the text from a place on has these tokens
pub data Reads : ℕ → List ℕ → List t.Token → Type 0 where
  ended : {place : ℕ} → Reads place [] []
  gap : {place : ℕ} {text : List ℕ} {tokens : List t.Token} (len : ℕ) → front_of text ≡ Gap len → Reads (place + len) (drop len text) tokens → Reads place text tokens
  token : {place : ℕ} {text : List ℕ} {tokens : List t.Token} (len : ℕ) (tok : Tok) → front_of text ≡ Token tok len → Reads (place + len) (drop len text) tokens → Reads place text (record { tok = tok; place = place } ∷ tokens)

-- the first thing from a place on that can't be read stands there, for this reason
pub data Refuses : ℕ → List ℕ → ℕ → LexWhy → Type 0 where
  stuck : {place : ℕ} {b : ℕ} {rest : List ℕ} {why : LexWhy} → front_of (b ∷ rest) ≡ Refused why → Refuses place (b ∷ rest) place why
  past_gap : {place : ℕ} {text : List ℕ} {at : ℕ} {why : LexWhy} (len : ℕ) → front_of text ≡ Gap len → Refuses (place + len) (drop len text) at why → Refuses place text at why
  past_token : {place : ℕ} {text : List ℕ} {at : ℕ} {why : LexWhy} (len : ℕ) (tok : Tok) → front_of text ≡ Token tok len → Refuses (place + len) (drop len text) at why → Refuses place text at why
