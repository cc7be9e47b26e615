-- A text's symbol is its longest, and each reserved word is found by its spelling.
use Rattle.std.proofs.Common.{◌≡◌, ℕ, ◌<◌, ◌≤◌, List, [], ◌∷◌, ◌++◌, length, Bool, true, false, ◌&&◌, cond, Option, Some, None, refl, ap, sym, ◌∙◌, arith, ⊎_elim}
use Rattle.std.specs.Prelude.{nat_eq, ◌==◌, slice_index}
use Rattle.std.specs.List.{starts_with, find, list_all, AllByRecursion}
use Rattle.std.specs.Option.{option_or}
use Rattle.std.specs.Str.{bytes_eq}
use Rattle.std.proofs.lemmas.Bool.{cases_lt}
use Rattle.std.proofs.lemmas.Slice.Eq.{bytes_eq-Decides}
use Rattle.std.proofs.lemmas.List.Folds.{find-append}
use Rattle.prv_lex.specs.Bytes.{is_letter, is_word_byte}
use Rattle.prv_lex.specs.Keywords.{keyword, keywords, keyword_of}
use Rattle.prv_lex.specs.Symbols.{symbol, symbol_at, pairs, singles}
use Rattle.prv_lex.specs.declared.token.Key.{Key}
use Rattle.prv_lex.specs.declared.token.Key.TheVariants.{Int, Main, If, Else, While, Return, Out, Assert}
use Rattle.prv_lex.specs.declared.token.Sym.{Sym}
use Rattle.prv_lex.proofs.EachSymbol.{listed, each-passes, symbol-nonempty, symbol-short, symbol-found}
use Rattle.prv_lex.proofs.FrontLemmas.{find-passes}

pub keyword-found : (k : Key) → keyword_of (keyword k) ≡ Some k
keyword-found Int = refl
keyword-found Main = refl
keyword-found If = refl
keyword-found Else = refl
keyword-found While = refl
keyword-found Return = refl
keyword-found Out = refl
keyword-found Assert = refl

pub keyword-letter : (k : Key) → is_letter (slice_index (keyword k) 0) ≡ true
keyword-letter Int = refl
keyword-letter Main = refl
keyword-letter If = refl
keyword-letter Else = refl
keyword-letter While = refl
keyword-letter Return = refl
keyword-letter Out = refl
keyword-letter Assert = refl

-- a word that is found is spelled as the reserved word, and one that isn't found is spelled as none
pub keyword_of-spelled : (word : List ℕ) (k : Key) → keyword_of word ≡ Some k → word ≡ keyword k
keyword_of-spelled word k e = (bytes_eq-Decides word (keyword k)).0 (find-passes (λ j. bytes_eq word (keyword j)) keywords k e)

pub keyword_of-none : (word : List ℕ) → keyword_of word ≡ None → (k : Key) → word ≡ keyword k → ⊥
keyword_of-none word none k e = let found = keyword-found k in let some : keyword_of word ≡ Some k = ap keyword_of e ∙ found in cc

-- what is found passes every test that the whole list passes
find-each : {X : Type 0} (P p : X → Bool) (xs : List X) (x : X) → list_all P xs ≡ true → find p xs ≡ Some x → P x ≡ true
find-each P p [] x each e = absurd (cc)
find-each P p (y ∷ ys) x each e = at (P y) (p y) refl (find-each P p ys x) each e
  where
    at : (b c : Bool) → P y ≡ b → (list_all P ys ≡ true → find p ys ≡ Some x → P x ≡ true) → (b && list_all P ys) ≡ true → cond c (Some y) (find p ys) ≡ Some x → P x ≡ true
    at false c here later each e = absurd (cc)
    at true true here later each e = let same : y ≡ x = cc in sym (ap P same) ∙ here
    at true false here later each e = later each e

-- where nothing is found, each fails
find-none : {X : Type 0} (p : X → Bool) (xs : List X) → find p xs ≡ None → AllByRecursion (λ x. p x ≡ false) xs
find-none p [] e = tt
find-none p (y ∷ ys) e = at (p y) refl (find-none p ys) e
  where
    at : (b : Bool) → p y ≡ b → (find p ys ≡ None → AllByRecursion (λ x. p x ≡ false) ys) → cond b (Some y) (find p ys) ≡ None → AllByRecursion (λ x. p x ≡ false) (y ∷ ys)
    at true here later e = absurd (cc)
    at false here later e = (here, later e)

-- both parts of a list
each-both : {X : Type 0} (P : X → Type 0) (xs ys : List X) → AllByRecursion P xs → AllByRecursion P ys → AllByRecursion P (xs ++ ys)
each-both P [] ys a b = b
each-both P (x ∷ xs) ys a b = (a.0, each-both P xs ys a.1 b)

each-weaker : {X : Type 0} (P Q : X → Type 0) (xs : List X) → ((x : X) → P x → Q x) → AllByRecursion P xs → AllByRecursion Q xs
each-weaker P Q [] next a = tt
each-weaker P Q (x ∷ xs) next a = (next x a.0, each-weaker P Q xs next a.1)

one_byte : Sym → Bool
one_byte s = length (symbol s) == 1

-- a symbol of two bytes is among the pairs
pair-missed : (p : Sym → Bool) (s : Sym) → 1 < length (symbol s) → p s ≡ true → AllByRecursion (λ x. p x ≡ false) pairs → ⊥
unfolding one_byte
pair-missed p s two hit each =
    let P : Sym → Type 0 = λ x. 1 < length (symbol x) → p x ≡ false in
    let short = each-weaker (λ x. one_byte x ≡ true) P singles (λ x one long. absurd (grind arith)) (each-passes one_byte singles refl) in
    let long = each-weaker (λ x. p x ≡ false) P pairs (λ x miss _. miss) each in
    let miss = listed P (each-both P pairs singles long short) s two in cc

two_bytes : Sym → Bool
two_bytes s = length (symbol s) == 2

pairs-two : (p : Sym → Bool) (s : Sym) → find p pairs ≡ Some s → length (symbol s) ≡ 2
unfolding two_bytes
pairs-two p s e = let two = find-each two_bytes p pairs s refl e in grind arith

-- of the symbols that a text begins with, none is longer than the one that is found
pub symbol_at-longest : (text : List ℕ) (s other : Sym) → symbol_at text ≡ Some s → starts_with nat_eq text (symbol other) ≡ true → length (symbol other) ≤ length (symbol s)
symbol_at-longest text s other found also = by (find p pairs) refl (sym (find-append p pairs singles) ∙ found)
  where
    p : Sym → Bool
    p x = starts_with nat_eq text (symbol x)

    by : (o : Option Sym) → find p pairs ≡ o → option_or o (find p singles) ≡ Some s → length (symbol other) ≤ length (symbol s)
    by (Some x) e f = let same : x ≡ s = cc in let two = pairs-two p x e in let long = ap (λ y. length (symbol y)) same in omega (arith, symbol-short other)
    by None e f = ⊎_elim (λ two. absurd (pair-missed p other two also (find-none p pairs e))) (λ short. omega (arith, symbol-nonempty s)) (cases_lt 1 (length (symbol other)))

-- no two symbols have one spelling
pub symbol-injective : (s other : Sym) → symbol s ≡ symbol other → s ≡ other
symbol-injective s other e = let same : Some s ≡ Some other = sym (symbol-found s) ∙ ap symbol_at e ∙ symbol-found other in cc

pub keyword-short : (k : Key) → length (keyword k) ≤ 63
keyword-short Int = omega arith
keyword-short Main = omega arith
keyword-short If = omega arith
keyword-short Else = omega arith
keyword-short While = omega arith
keyword-short Return = omega arith
keyword-short Out = omega arith
keyword-short Assert = omega arith

pub keyword-word : (k : Key) → list_all is_word_byte (keyword k) ≡ true
keyword-word Int = refl
keyword-word Main = refl
keyword-word If = refl
keyword-word Else = refl
keyword-word While = refl
keyword-word Return = refl
keyword-word Out = refl
keyword-word Assert = refl

pub symbol_at-none : (text : List ℕ) (s : Sym) → symbol_at text ≡ None → starts_with nat_eq text (symbol s) ≡ false
symbol_at-none text s none = listed (λ x. starts_with nat_eq text (symbol x) ≡ false) (find-none (λ x. starts_with nat_eq text (symbol x)) (pairs ++ singles) none) s
