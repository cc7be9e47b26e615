-- What stands at the front of a text has at least one byte, and lies in the text.
use Rattle.std.proofs.Common.{◌≡◌, ℕ, ◌+◌, ◌<◌, ◌≤◌, List, [], ◌∷◌, ◌++◌, length, drop, get_or, Bool, true, false, cond, Option, Some, None, refl, ap, sym, ◌∙◌, arith, length-append, length-drop, ℤ}
use Rattle.std.specs.Prelude.{codes, nat_eq, nat_lt}
use Rattle.std.specs.List.{prefix_len, take_while, starts_with, find}
use Rattle.std.specs.Option.{option_map}
use Rattle.std.proofs.lemmas.Bool.{cond_both}
use Rattle.std.proofs.lemmas.Bool.Decides.{Decides-eqb}
use Rattle.std.proofs.lemmas.Slice.Eq.{starts_is}
use Rattle.std.proofs.lemmas.List.{length-take-le}
use Rattle.std.proofs.lemmas.List.Sums.{prefix_len-le-length}
use Rattle.prv_lex.specs.Bytes.{is_blank, is_letter, is_digit, is_word_byte, is_line_byte}
use Rattle.prv_lex.specs.Comments.{closing}
use Rattle.prv_lex.specs.Numbers.{number_of}
use Rattle.prv_lex.specs.Symbols.{symbol, symbol_at, pairs, singles}
use Rattle.prv_lex.specs.Fronts.{front_of, word_front, numbered, closed, symbol_front, mark_front}
use Rattle.prv_lex.specs.declared.token.Sym.{Sym}
use Rattle.prv_lex.specs.declared.front.Front.{Front}
use Rattle.prv_lex.specs.declared.front.Front.TheVariants.{Gap, Token, Refused}
use Rattle.prv_lex.proofs.EachSymbol.{symbol-nonempty}

-- a gap or a token has at least one byte, and at most n
abbrev pub Moves : ℕ → Front → Type 0
Moves n (Gap len) = (0 < len) × (len ≤ n)
Moves n (Token tok len) = (0 < len) × (len ≤ n)
Moves n (Refused why) = Unit {0}

-- what is found passes the test
pub find-passes : {X : Type 0} (p : X → Bool) (xs : List X) (x : X) → find p xs ≡ Some x → p x ≡ true
find-passes p [] x e = absurd (cc)
find-passes p (y ∷ ys) x e = found (p y) refl (find-passes p ys x) e
  where
    found : (b : Bool) → p y ≡ b → (find p ys ≡ Some x → p x ≡ true) → cond b (Some y) (find p ys) ≡ Some x → p x ≡ true
    found true passes later e = let same : y ≡ x = cc in sym (ap p same) ∙ passes
    found false fails later e = later e

-- a text that begins with a spelling is that spelling and what follows
pub begins : (text p : List ℕ) → starts_with nat_eq text p ≡ true → text ≡ p ++ drop (length p) text
begins text p h = (starts_is Decides-eqb text p (starts_with nat_eq text p) refl).0 h

pub begins-length : (text p : List ℕ) → starts_with nat_eq text p ≡ true → length p ≤ length text
begins-length text p h = omega (arith, ap length (begins text p h), length-append p (drop (length p) text))

-- the longest symbol that a text begins with is a front of the text
pub symbol_at-begins : (text : List ℕ) (s : Sym) → symbol_at text ≡ Some s → starts_with nat_eq text (symbol s) ≡ true
symbol_at-begins text s e = find-passes (λ t. starts_with nat_eq text (symbol t)) (pairs ++ singles) s e

-- a run that begins with a byte of its class isn't empty
pub run-some : (p : ℕ → Bool) (b : ℕ) (rest : List ℕ) → p b ≡ true → 0 < prefix_len p (b ∷ rest)
run-some p b rest h = rw h (omega arith)

take_while-moves : (p : ℕ → Bool) (b : ℕ) (rest : List ℕ) → p b ≡ true → (0 < length (take_while p (b ∷ rest))) × (length (take_while p (b ∷ rest)) ≤ length (b ∷ rest))
take_while-moves p b rest h =
    let inside = prefix_len-le-length p (b ∷ rest) in
    let long = length-take-le (prefix_len p (b ∷ rest)) (b ∷ rest) inside in
    (omega (arith, long, run-some p b rest h), omega (arith, long, inside))

word-moves : (word : List ℕ) (n : ℕ) → 0 < length word → length word ≤ n → Moves n (word_front word)
word-moves word n some inside = cond_both (nat_lt 63 (length word)) _ _ (Moves n) (λ _. tt) (λ _. (some, inside))

numbered-moves : (o : Option ℤ) (len n : ℕ) → 0 < len → len ≤ n → Moves n (numbered o len)
numbered-moves None len n some inside = tt
numbered-moves (Some k) len n some inside = (some, inside)

closing-within : (text : List ℕ) (len : ℕ) → closing text ≡ Some len → len ≤ length text
closing-within [] len e = absurd (cc)
closing-within (b ∷ rest) len e = at (starts_with nat_eq (b ∷ rest) (codes "*/")) refl (closing rest) (closing-within rest) e
  where
    at : (t : Bool) → starts_with nat_eq (b ∷ rest) (codes "*/") ≡ t → (o : Option ℕ) → ((k : ℕ) → o ≡ Some k → k ≤ length rest) → cond t (Some 2) (option_map (λ n. n + 1) o) ≡ Some len → len ≤ length (b ∷ rest)
    at true here o later e = let two : 2 ≡ len = cc in omega (arith, begins-length (b ∷ rest) (codes "*/") here)
    at false here None later e = absurd (cc)
    at false here (Some k) later e = let more : k + 1 ≡ len = cc in omega (arith, later k refl)

closed-moves : (text : List ℕ) → 2 ≤ length text → Moves (length text) (closed (closing (drop 2 text)))
closed-moves text two = by (closing (drop 2 text)) (closing-within (drop 2 text))
  where
    by : (o : Option ℕ) → ((k : ℕ) → o ≡ Some k → k ≤ length (drop 2 text)) → Moves (length text) (closed o)
    by None within = tt
    by (Some k) within = (omega arith, omega (arith, within k refl, length-drop 2 text))

symbol-moves : (text : List ℕ) → Moves (length text) (symbol_front (symbol_at text))
symbol-moves text = by (symbol_at text) (symbol_at-begins text)
  where
    by : (o : Option Sym) → ((s : Sym) → o ≡ Some s → starts_with nat_eq text (symbol s) ≡ true) → Moves (length text) (symbol_front o)
    by None begin = tt
    by (Some s) begin = (symbol-nonempty s, begins-length text (symbol s) (begin s refl))

-- a line comment begins with a byte that doesn't end a line
slash-in_line : (b : ℕ) (rest : List ℕ) → starts_with nat_eq (b ∷ rest) (codes "//") ≡ true → is_line_byte b ≡ true
slash-in_line b rest h = let first : b ≡ 47 = ap (λ l. get_or l 0 0) (begins (b ∷ rest) (codes "//") h) in rw first refl

mark-moves : (b : ℕ) (rest : List ℕ) → Moves (length (b ∷ rest)) (mark_front (b ∷ rest))
mark-moves b rest =
    cond_both (starts_with nat_eq (b ∷ rest) (codes "//")) _ _ (Moves (length (b ∷ rest)))
    (λ line. (run-some is_line_byte b rest (slash-in_line b rest line), prefix_len-le-length is_line_byte (b ∷ rest)))
    (λ _. cond_both (starts_with nat_eq (b ∷ rest) (codes "/*")) _ _ (Moves (length (b ∷ rest)))
    (λ block. closed-moves (b ∷ rest) (begins-length (b ∷ rest) (codes "/*") block))
    (λ _. symbol-moves (b ∷ rest)))

letter-in_word : (b : ℕ) → is_letter b ≡ true → is_word_byte b ≡ true
letter-in_word b h = rw h refl

-- what stands at the front of a text that isn't empty
pub front-moves : (text : List ℕ) → 0 < length text → Moves (length text) (front_of text)
front-moves [] some = absurd (omega arith)
front-moves (b ∷ rest) some =
    cond_both (is_blank b) _ _ (Moves (length (b ∷ rest)))
    (λ _. (omega arith, omega arith))
    (λ _. cond_both (is_letter b) _ _ (Moves (length (b ∷ rest)))
    (λ letter. let moves = take_while-moves is_word_byte b rest (letter-in_word b letter) in word-moves (take_while is_word_byte (b ∷ rest)) (length (b ∷ rest)) moves.0 moves.1)
    (λ _. cond_both (is_digit b) _ _ (Moves (length (b ∷ rest)))
    (λ digit. let moves = take_while-moves is_digit b rest digit in numbered-moves (number_of (take_while is_digit (b ∷ rest))) (length (take_while is_digit (b ∷ rest))) (length (b ∷ rest)) moves.0 moves.1)
    (λ _. mark-moves b rest)))
