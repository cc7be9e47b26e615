-- How tokens are spelled, and when one is as long as possible.
use Rattle.std.specs.Prelude.{◌≡◌, ℕ, ◌<◌, ◌≤◌, true, List, ◌++◌, length, slice_index, Some, ◌⊎◌}
use Rattle.std.specs.List.{list_all}
use Rattle.prv_model.specs.declared.limits.TheConstants.{MAX_NAME}
use Rattle.prv_lex.specs.Bytes.{is_letter, is_digit, is_word_byte}
use Rattle.prv_lex.specs.Keywords.{keyword}
use Rattle.prv_lex.specs.Symbols.{symbol}
use Rattle.prv_lex.specs.Numbers.{number_of}
use Rattle.prv_lex.specs.declared.token.Key.{Key}
use Rattle.prv_lex.specs.declared.token.Sym.{Sym}
use Rattle.prv_lex.specs.declared.token.Tok.{Tok}
use Rattle.prv_lex.specs.declared.token.Tok.TheVariants as tok

-- a letter or `_`, and then letters, digits and `_`
abbrev pub IsWord : List ℕ → Type 0
IsWord bytes = (is_letter (slice_index bytes 0) ≡ true) × (list_all is_word_byte bytes ≡ true)

-- one or more digits
abbrev pub IsDigits : List ℕ → Type 0
IsDigits bytes = (0 < length bytes) × (list_all is_digit bytes ≡ true)

-- what has the form of a token, whatever its length or value
abbrev pub IsLexeme : List ℕ → Type 0
IsLexeme bytes = IsWord bytes ⊎ (IsDigits bytes ⊎ ((s : Sym) × (bytes ≡ symbol s)))

-- with more of what follows, the bytes no longer have the form of a token
abbrev pub IsLongest : List ℕ → List ℕ → Type 0
IsLongest bytes rest = (more after : List ℕ) → rest ≡ more ++ after → 0 < length more → IsLexeme (bytes ++ more) → ⊥

-- a token is spelled by these bytes
abbrev pub Spells : Tok → List ℕ → Type 0
Spells (tok.Name name) bytes = (bytes ≡ name) × IsWord bytes × (length bytes ≤ MAX_NAME) × ((k : Key) → bytes ≡ keyword k → ⊥)
Spells (tok.Num n) bytes = IsDigits bytes × (number_of bytes ≡ Some n)
Spells (tok.Key k) bytes = bytes ≡ keyword k
Spells (tok.Sym s) bytes = bytes ≡ symbol s
