-- What a test tells of each symbol that is sought holds of every symbol.
use Rattle.std.proofs.Common.{◌≡◌, ℕ, ◌<◌, ◌≤◌, List, [], ◌∷◌, ◌++◌, length, Bool, true, false, ◌&&◌, Some, refl, arith, rules}
use Rattle.std.specs.Prelude.{not, slice_index}
use Rattle.std.specs.List.{list_all, AllByRecursion}
use Rattle.std.proofs.Math.Dec.{leb}
use Rattle.std.proofs.lemmas.Bool.{leb-true}
use Rattle.prv_lex.specs.Bytes.{is_blank, is_letter, is_digit}
use Rattle.prv_lex.specs.Symbols.{symbol, symbol_at, pairs, singles}
use Rattle.prv_lex.specs.declared.token.Sym.{Sym}
use Rattle.prv_lex.specs.declared.token.Sym.TheVariants.{OpenParen, CloseParen, OpenBrace, CloseBrace, Semicolon, Comma, Assign, At, Question, Colon, Plus, Minus, Star, Slash, Percent, ShiftLeft, ShiftRight, Less, LessEqual, Greater, GreaterEqual, EqualEqual, NotEqual, Ampersand, Caret, Bar, AndAnd, BarBar, Bang, Tilde}

-- each symbol is among those that are sought
pub listed : (P : Sym → Type 0) → AllByRecursion P (pairs ++ singles) → (s : Sym) → P s
listed P each OpenParen = each.1.1.1.1.1.1.1.1.0
listed P each CloseParen = each.1.1.1.1.1.1.1.1.1.0
listed P each OpenBrace = each.1.1.1.1.1.1.1.1.1.1.0
listed P each CloseBrace = each.1.1.1.1.1.1.1.1.1.1.1.0
listed P each Semicolon = each.1.1.1.1.1.1.1.1.1.1.1.1.0
listed P each Comma = each.1.1.1.1.1.1.1.1.1.1.1.1.1.0
listed P each Assign = each.1.1.1.1.1.1.1.1.1.1.1.1.1.1.0
listed P each At = each.1.1.1.1.1.1.1.1.1.1.1.1.1.1.1.0
listed P each Question = each.1.1.1.1.1.1.1.1.1.1.1.1.1.1.1.1.0
listed P each Colon = each.1.1.1.1.1.1.1.1.1.1.1.1.1.1.1.1.1.0
listed P each Plus = each.1.1.1.1.1.1.1.1.1.1.1.1.1.1.1.1.1.1.0
listed P each Minus = each.1.1.1.1.1.1.1.1.1.1.1.1.1.1.1.1.1.1.1.0
listed P each Star = each.1.1.1.1.1.1.1.1.1.1.1.1.1.1.1.1.1.1.1.1.0
listed P each Slash = each.1.1.1.1.1.1.1.1.1.1.1.1.1.1.1.1.1.1.1.1.1.0
listed P each Percent = each.1.1.1.1.1.1.1.1.1.1.1.1.1.1.1.1.1.1.1.1.1.1.0
listed P each ShiftLeft = each.0
listed P each ShiftRight = each.1.0
listed P each Less = each.1.1.1.1.1.1.1.1.1.1.1.1.1.1.1.1.1.1.1.1.1.1.1.0
listed P each LessEqual = each.1.1.0
listed P each Greater = each.1.1.1.1.1.1.1.1.1.1.1.1.1.1.1.1.1.1.1.1.1.1.1.1.0
listed P each GreaterEqual = each.1.1.1.0
listed P each EqualEqual = each.1.1.1.1.0
listed P each NotEqual = each.1.1.1.1.1.0
listed P each Ampersand = each.1.1.1.1.1.1.1.1.1.1.1.1.1.1.1.1.1.1.1.1.1.1.1.1.1.0
listed P each Caret = each.1.1.1.1.1.1.1.1.1.1.1.1.1.1.1.1.1.1.1.1.1.1.1.1.1.1.0
listed P each Bar = each.1.1.1.1.1.1.1.1.1.1.1.1.1.1.1.1.1.1.1.1.1.1.1.1.1.1.1.0
listed P each AndAnd = each.1.1.1.1.1.1.0
listed P each BarBar = each.1.1.1.1.1.1.1.0
listed P each Bang = each.1.1.1.1.1.1.1.1.1.1.1.1.1.1.1.1.1.1.1.1.1.1.1.1.1.1.1.1.0
listed P each Tilde = each.1.1.1.1.1.1.1.1.1.1.1.1.1.1.1.1.1.1.1.1.1.1.1.1.1.1.1.1.1.0

-- what a whole list passes, each of it passes
pub each-passes : {X : Type 0} (p : X → Bool) (xs : List X) → list_all p xs ≡ true → AllByRecursion (λ x. p x ≡ true) xs
each-passes p [] e = tt
each-passes p (x ∷ xs) e = at (p x) refl (each-passes p xs) e
  where
    at : (b : Bool) → p x ≡ b → (list_all p xs ≡ true → AllByRecursion (λ y. p y ≡ true) xs) → (b && list_all p xs) ≡ true → AllByRecursion (λ y. p y ≡ true) (x ∷ xs)
    at true here later e = (here, later e)
    at false here later e = absurd (cc)

passes : (p : Sym → Bool) → list_all p (pairs ++ singles) ≡ true → (s : Sym) → p s ≡ true
passes p all = listed (λ s. p s ≡ true) (each-passes p (pairs ++ singles) all)

fails : (p : Sym → Bool) → list_all (λ s. not (p s)) (pairs ++ singles) ≡ true → (s : Sym) → p s ≡ false
fails p all s = by (p s) (passes (λ x. not (p x)) all s)
  where
    by : (b : Bool) → not b ≡ true → b ≡ false
    by true e = cc
    by false e = refl

-- no symbol begins with a letter, a digit or a blank
pub symbol-no_letter : (s : Sym) → is_letter (slice_index (symbol s) 0) ≡ false
symbol-no_letter = fails (λ s. is_letter (slice_index (symbol s) 0)) refl

pub symbol-no_digit : (s : Sym) → is_digit (slice_index (symbol s) 0) ≡ false
symbol-no_digit = fails (λ s. is_digit (slice_index (symbol s) 0)) refl

pub symbol-no_blank : (s : Sym) → is_blank (slice_index (symbol s) 0) ≡ false
symbol-no_blank = fails (λ s. is_blank (slice_index (symbol s) 0)) refl

-- a symbol has one byte or two
pub symbol-nonempty : (s : Sym) → 0 < length (symbol s)
symbol-nonempty s = let some = leb-true 1 (length (symbol s)) (passes (λ x. leb 1 (length (symbol x))) refl s) in omega arith

pub symbol-short : (s : Sym) → length (symbol s) ≤ 2
symbol-short s = leb-true (length (symbol s)) 2 (passes (λ x. leb (length (symbol x)) 2) refl s)

-- each is found by its spelling
pub symbol-found : (s : Sym) → symbol_at (symbol s) ≡ Some s
symbol-found = listed (λ s. symbol_at (symbol s) ≡ Some s) (search rules)
