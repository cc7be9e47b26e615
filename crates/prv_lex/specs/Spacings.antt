-- The blanks and comments between tokens.
use Rattle.std.specs.Prelude.{◌≡◌, ℕ, true, false, List, [], ◌∷◌, ◌++◌, length, slice_index, Some, codes, nat_eq, ◌⊎◌}
use Rattle.std.specs.List.{list_all, starts_with}
use Rattle.prv_lex.specs.Bytes.{is_blank, is_line_byte}
use Rattle.prv_lex.specs.Comments.{closing}

-- a line ends here, with the text or with LF
abbrev pub AtLineEnd : List ℕ → Type 0
AtLineEnd rest = (rest ≡ []) ⊎ (slice_index rest 0 ≡ 10)

-- a blank, or a comment that ends with its line or with its first `*/`, in front of a rest
pub data IsSpacing : List ℕ → List ℕ → Type 0 where
  blank : {rest : List ℕ} (b : ℕ) → is_blank b ≡ true → IsSpacing (b ∷ []) rest
  line : {rest : List ℕ} (text : List ℕ) → list_all is_line_byte text ≡ true → AtLineEnd rest → IsSpacing (codes "//" ++ text) rest
  block : {rest : List ℕ} (text : List ℕ) → closing text ≡ Some (length text) → IsSpacing (codes "/*" ++ text) rest

-- any number of them, one after another, in front of a rest
pub data AreSpacings : List ℕ → List ℕ → Type 0 where
  none : {rest : List ℕ} → AreSpacings [] rest
  more : {rest : List ℕ} (first others : List ℕ) → IsSpacing first (others ++ rest) → AreSpacings others rest → AreSpacings (first ++ others) rest

-- a text begins with no comment
abbrev pub BeginsNoComment : List ℕ → Type 0
BeginsNoComment text = (starts_with nat_eq text (codes "//") ≡ false) × (starts_with nat_eq text (codes "/*") ≡ false)
