-- What a text is made of is what is read.
use Rattle.std.proofs.Common.{◌≡◌, ℕ, suc, ◌+◌, ◌<◌, ◌≤◌, List, [], ◌∷◌, ◌++◌, length, drop, Bool, true, false, ◌&&◌, cond, Option, Some, None, ℤ, refl, ap, sym, ◌∙◌, subst, arith, append_assoc, append-nil, length-append, inl, inr}
use Rattle.std.specs.Prelude.{codes, nat_eq, slice_index}
use Rattle.std.specs.List.{prefix_len, take_while, starts_with, list_all}
use Rattle.std.specs.Option.{option_map}
use Rattle.std.proofs.lemmas.Bool.{le-ltb, lt-ltb}
use Rattle.std.proofs.lemmas.Grind.{common_steps}
use Rattle.std.proofs.lemmas.List.{take_at, drop_at}
use Rattle.prv_lex.specs.Bytes.{is_blank, is_letter, is_digit, is_word_byte, is_line_byte}
use Rattle.prv_lex.specs.Comments.{closing}
use Rattle.prv_lex.specs.Keywords.{keyword, keyword_of}
use Rattle.prv_lex.specs.Numbers.{number_of}
use Rattle.prv_lex.specs.Symbols.{symbol, symbol_at}
use Rattle.prv_lex.specs.Fronts.{front_of, named, word_front, numbered, number_front, closed}
use Rattle.prv_lex.proofs.EachSymbol.{symbol-nonempty, symbol-no_letter, symbol-no_digit, symbol-no_blank}
use Rattle.prv_lex.proofs.Scanning.{Reads, ended, gap, token, Refuses, stuck, past_gap, past_token}
use Rattle.prv_lex.specs.Lexemes.{IsWord, IsDigits, IsLexeme, IsLongest, Spells}
use Rattle.prv_lex.specs.Spacings.{AtLineEnd, IsSpacing, blank, line, block, AreSpacings, none, more, BeginsNoComment}
use Rattle.prv_lex.specs.Readings.{IsMadeOf, last, next, IsWrong, StopsAt, stop, past}
use Rattle.prv_lex.specs.declared.front.Front.{Front}
use Rattle.prv_lex.specs.declared.front.Front.TheVariants.{Gap, Token, Refused}
use Rattle.prv_lex.specs.declared.error.LexWhy.{LexWhy}
use Rattle.prv_lex.specs.declared.error.LexWhy.TheVariants as why
use Rattle.prv_lex.specs.declared.token.Key.{Key}
use Rattle.prv_lex.specs.declared.token.Sym.{Sym}
use Rattle.prv_lex.specs.declared.token.Tok.{Tok}
use Rattle.prv_lex.specs.declared.token.Tok.TheVariants as tok
use Rattle.prv_lex.specs.declared.token.Token as t
use Rattle.prv_lex.proofs.FrontLemmas.{begins, symbol_at-begins}
use Rattle.prv_lex.proofs.SpellingLemmas.{clash, begins-from, first-append, letter-no_digit, letter-some, all-first}
use Rattle.prv_lex.proofs.TableLemmas.{keyword-found, keyword-letter, keyword-short, keyword-word, keyword_of-spelled, symbol-injective, symbol_at-none, symbol_at-longest}

-- a run of a class that the rest doesn't go on with is the longest
run-append : (p : ℕ → Bool) (run rest : List ℕ) → list_all p run ≡ true → prefix_len p rest ≡ 0 → prefix_len p (run ++ rest) ≡ length run
run-append p [] rest all stops = stops
run-append p (x ∷ run) rest all stops = by (p x) all (run-append p run rest)
  where
    by : (b : Bool) → (b && list_all p run) ≡ true → (list_all p run ≡ true → prefix_len p rest ≡ 0 → prefix_len p (run ++ rest) ≡ length run) → cond b (1 + prefix_len p (run ++ rest)) 0 ≡ suc (length run)
    by false h later = absurd (cc)
    by true h later = omega (arith, later h stops)

line-stops : (rest : List ℕ) → AtLineEnd rest → prefix_len is_line_byte rest ≡ 0
line-stops [] e = refl
line-stops (x ∷ rest) (inl e) = absurd (cc)
line-stops (x ∷ rest) (inr e) = rw e refl

-- a comment that has ended has ended, whatever follows
two-decide : (l rest : List ℕ) → 2 ≤ length l → starts_with nat_eq (l ++ rest) (codes "*/") ≡ starts_with nat_eq l (codes "*/")
two-decide [] rest two = absurd (omega arith)
two-decide (a ∷ []) rest two = absurd (omega arith)
two-decide (a ∷ b ∷ l) rest two = refl

closing-some : (l : List ℕ) (n : ℕ) → closing l ≡ Some n → 0 < length l
closing-some [] n e = absurd (cc)
closing-some (b ∷ l) n e = omega arith

closing-append : (text rest : List ℕ) (n : ℕ) → closing text ≡ Some n → closing (text ++ rest) ≡ Some n
closing-append [] rest n e = absurd (cc)
closing-append (b ∷ text) rest n e = by (starts_with nat_eq (b ∷ text) (codes "*/")) refl (closing text) refl (closing-append text rest) e
  where
    by : (c : Bool) → starts_with nat_eq (b ∷ text) (codes "*/") ≡ c → (o : Option ℕ) → closing text ≡ o → ((k : ℕ) → closing text ≡ Some k → closing (text ++ rest) ≡ Some k) → cond c (Some 2) (option_map (λ k. k + 1) o) ≡ Some n → closing (b ∷ (text ++ rest)) ≡ Some n
    by true hit o is later f =
        let on : starts_with nat_eq (b ∷ (text ++ rest)) (codes "*/") ≡ true = begins-from (b ∷ (text ++ rest)) (codes "*/") (drop 2 (b ∷ text) ++ rest) (ap (λ l. l ++ rest) (begins (b ∷ text) (codes "*/") hit)) in
        rw on f
    by false miss None is later f = absurd (cc)
    by false miss (Some k) is later f =
        let some = closing-some text k is in
        let off : starts_with nat_eq (b ∷ (text ++ rest)) (codes "*/") ≡ false = two-decide (b ∷ text) rest (omega arith) ∙ miss in
        rw (off, later k is) f

-- a blank or a comment is what the text begins with
pub spacing-front : (first rest : List ℕ) → IsSpacing first rest → front_of (first ++ rest) ≡ Gap (length first)
spacing-front first rest (blank b is) = rw is refl
spacing-front first rest (line text all stops) = ap Gap (omega (arith, run-append is_line_byte text rest all (line-stops rest stops)))
spacing-front first rest (block text closes) = ap closed (closing-append text rest (length text) closes) ∙ ap Gap (omega arith)

pub spacings-read : (place : ℕ) (gaps rest : List ℕ) (tokens : List t.Token) → AreSpacings gaps rest → Reads (place + length gaps) rest tokens → Reads place (gaps ++ rest) tokens
spacings-read place gaps rest tokens none r = let start : place + 0 ≡ place = omega arith in subst (λ n. Reads n rest tokens) start r
spacings-read place gaps rest tokens (more first others spacing spacings) r =
    let there : place + length (first ++ others) ≡ place + length first + length others = omega (arith, length-append first others) in
    let later = spacings-read (place + length first) others rest tokens spacings (subst (λ n. Reads n rest tokens) there r) in
    let behind = drop_at first (others ++ rest) (length first) refl in
    subst (λ l. Reads place l tokens) (sym (append_assoc first others rest))
    (gap (length first) (spacing-front first (others ++ rest) spacing) (subst (λ l. Reads (place + length first) l tokens) (sym behind) later))

-- a byte that would make the token longer isn't there
one-more : (x : ℕ) (rest : List ℕ) → x ∷ rest ≡ (x ∷ []) ++ rest
one-more x rest = refl

run-ends : (p : ℕ → Bool) (bytes rest : List ℕ) → ((x : ℕ) → p x ≡ true → IsLexeme (bytes ++ (x ∷ []))) → IsLongest bytes rest → prefix_len p rest ≡ 0
run-ends p bytes [] grows longest = refl
run-ends p bytes (x ∷ rest) grows longest = by (p x) refl
  where
    by : (b : Bool) → p x ≡ b → cond b (1 + prefix_len p rest) 0 ≡ 0
    by false e = refl
    by true e = absurd (longest (x ∷ []) rest (one-more x rest) (omega arith) (grows x e))

all-append : (p : ℕ → Bool) (a : List ℕ) (x : ℕ) → list_all p a ≡ true → p x ≡ true → list_all p (a ++ (x ∷ [])) ≡ true
all-append p [] x all passes = rw passes refl
all-append p (y ∷ a) x all passes = by (p y) all (all-append p a x)
  where
    by : (b : Bool) → (b && list_all p a) ≡ true → (list_all p a ≡ true → p x ≡ true → list_all p (a ++ (x ∷ [])) ≡ true) → (b && list_all p (a ++ (x ∷ []))) ≡ true
    by false h later = absurd (cc)
    by true h later = later h passes

letter-no_blank : (b : ℕ) → is_letter b ≡ true → is_blank b ≡ false
letter-no_blank b letter = grind (arith, common_steps)

digit-no_blank : (b : ℕ) → is_digit b ≡ true → is_blank b ≡ false
digit-no_blank b digit = grind (arith, common_steps)

digit-no_letter : (b : ℕ) → is_digit b ≡ true → is_letter b ≡ false
digit-no_letter b digit = by (is_letter b) refl
  where
    by : (c : Bool) → is_letter b ≡ c → c ≡ false
    by false e = refl
    by true e = absurd (letter-no_digit b e digit)

-- the run of a token is the token
run-is : (p : ℕ → Bool) (bytes rest : List ℕ) → prefix_len p (bytes ++ rest) ≡ length bytes → take_while p (bytes ++ rest) ≡ bytes
run-is p bytes rest long = take_at bytes rest (prefix_len p (bytes ++ rest)) (sym long)

-- a text that begins with a letter is read as a word
word-read : (text word : List ℕ) → is_letter (slice_index text 0) ≡ true → take_while is_word_byte text ≡ word → front_of text ≡ word_front word
word-read text word letter run = rw (letter-no_blank (slice_index text 0) letter, letter) (ap word_front run)

-- what is read of the run of a word is what the text begins with
pub word-front-is : (text word : List ℕ) (f : Front) → is_letter (slice_index text 0) ≡ true → word ≡ take_while is_word_byte text → f ≡ word_front word → f ≡ front_of text
word-front-is text word f letter run is = is ∙ sym (word-read text word letter (sym run))

digits-read : (text digits : List ℕ) → is_digit (slice_index text 0) ≡ true → take_while is_digit text ≡ digits → front_of text ≡ number_front digits
digits-read text digits digit run = rw (digit-no_blank (slice_index text 0) digit, digit-no_letter (slice_index text 0) digit, digit) (ap number_front run)

short-word : (word : List ℕ) → length word ≤ 63 → word_front word ≡ Token (named (keyword_of word) word) (length word)
short-word word short = rw (le-ltb 63 (length word) short) refl

pub word-run : (bytes rest : List ℕ) → IsWord bytes → IsLongest bytes rest → front_of (bytes ++ rest) ≡ word_front bytes
word-run bytes rest is_word longest =
    let some = letter-some bytes is_word.0 in
    let first = first-append bytes rest some in
    let grows : (x : ℕ) → is_word_byte x ≡ true → IsLexeme (bytes ++ (x ∷ [])) = λ x e. inl (ap is_letter (first-append bytes (x ∷ []) some) ∙ is_word.0, all-append is_word_byte bytes x is_word.1 e) in
    let long = run-append is_word_byte bytes rest is_word.1 (run-ends is_word_byte bytes rest grows longest) in
    word-read (bytes ++ rest) bytes (ap is_letter first ∙ is_word.0) (run-is is_word_byte bytes rest long)

word-front : (bytes rest : List ℕ) → IsWord bytes → IsLongest bytes rest → length bytes ≤ 63 → front_of (bytes ++ rest) ≡ Token (named (keyword_of bytes) bytes) (length bytes)
word-front bytes rest is_word longest short = word-run bytes rest is_word longest ∙ short-word bytes short

pub digits-run : (bytes rest : List ℕ) → IsDigits bytes → IsLongest bytes rest → front_of (bytes ++ rest) ≡ number_front bytes
digits-run bytes rest digits longest =
    let first = first-append bytes rest digits.0 in
    let grows : (x : ℕ) → is_digit x ≡ true → IsLexeme (bytes ++ (x ∷ [])) = λ x e. inr (inl (omega (arith, length-append bytes (x ∷ [])), all-append is_digit bytes x digits.1 e)) in
    let long = run-append is_digit bytes rest digits.1 (run-ends is_digit bytes rest grows longest) in
    digits-read (bytes ++ rest) bytes (ap is_digit first ∙ all-first is_digit bytes digits.0 digits.1) (run-is is_digit bytes rest long)

number-front : (bytes rest : List ℕ) (n : ℤ) → IsDigits bytes → number_of bytes ≡ Some n → IsLongest bytes rest → front_of (bytes ++ rest) ≡ Token (tok.Num n) (length bytes)
number-front bytes rest n digits is longest = digits-run bytes rest digits longest ∙ ap (λ o. numbered o (length bytes)) is

-- of two fronts of a text the longer goes on from the shorter
front-extends : (a b : List ℕ) (x y : List ℕ) → a ++ x ≡ b ++ y → length a ≤ length b → (more : List ℕ) × (b ≡ a ++ more) × (x ≡ more ++ y)
front-extends [] b x y e shorter = (b, refl, e)
front-extends (c ∷ a) [] x y e shorter = absurd (omega arith)
front-extends (c ∷ a) (d ∷ b) x y e shorter =
    let head : c ≡ d = cc in
    let tail : a ++ x ≡ b ++ y = cc in
    let rest = front-extends a b x y tail (omega arith) in
    (rest.0, (λ i. sym head i ∷ rest.1 i), rest.2)

symbol-sought : (bytes rest : List ℕ) (s : Sym) → bytes ≡ symbol s → IsLongest bytes rest → symbol_at (bytes ++ rest) ≡ Some s
symbol-sought bytes rest s is longest = by (symbol_at (bytes ++ rest)) refl
  where
    here : starts_with nat_eq (bytes ++ rest) (symbol s) ≡ true
    here = begins-from (bytes ++ rest) (symbol s) rest (ap (λ l. l ++ rest) is)

    alike : (other : Sym) (extra : List ℕ) → symbol other ≡ bytes ++ extra → (0 < length extra → ⊥) → Some other ≡ Some s
    alike other [] e no_more = ap Some (symbol-injective other s (e ∙ append-nil bytes ∙ is))
    alike other (x ∷ extra) e no_more = absurd (no_more (omega arith))

    by : (o : Option Sym) → symbol_at (bytes ++ rest) ≡ o → o ≡ Some s
    by None e = absurd (clash (starts_with nat_eq (bytes ++ rest) (symbol s)) here (symbol_at-none (bytes ++ rest) s e))
    by (Some other) e =
        let longer = symbol_at-longest (bytes ++ rest) other s e here in
        let begin = begins (bytes ++ rest) (symbol other) (symbol_at-begins (bytes ++ rest) other e) in
        let extends = front-extends bytes (symbol other) rest (drop (length (symbol other)) (bytes ++ rest)) begin (omega (arith, ap length is)) in
        alike other extends.0 extends.1 (λ extra. longest extends.0 (drop (length (symbol other)) (bytes ++ rest)) extends.2 extra (inr (inr (other, sym extends.1))))

symbol-read : (text : List ℕ) (s : Sym) → is_blank (slice_index text 0) ≡ false → is_letter (slice_index text 0) ≡ false → is_digit (slice_index text 0) ≡ false → BeginsNoComment text → symbol_at text ≡ Some s → front_of text ≡ Token (tok.Sym s) (length (symbol s))
symbol-read text s no_blank no_letter no_digit plain found = rw (no_blank, no_letter, no_digit, plain.0, plain.1, found) refl

symbol-token_front : (bytes rest : List ℕ) (s : Sym) → bytes ≡ symbol s → BeginsNoComment (bytes ++ rest) → IsLongest bytes rest → front_of (bytes ++ rest) ≡ Token (tok.Sym s) (length bytes)
symbol-token_front bytes rest s is plain longest =
    let some : 0 < length bytes = omega (arith, ap length is, symbol-nonempty s) in
    let first : slice_index (bytes ++ rest) 0 ≡ slice_index (symbol s) 0 = first-append bytes rest some ∙ ap (λ l. slice_index l 0) is in
    symbol-read (bytes ++ rest) s (ap is_blank first ∙ symbol-no_blank s) (ap is_letter first ∙ symbol-no_letter s) (ap is_digit first ∙ symbol-no_digit s) plain (symbol-sought bytes rest s is longest)
    ∙ ap (λ l. Token (tok.Sym s) (length l)) (sym is)

keyword_of-absent : (word : List ℕ) → ((k : Key) → word ≡ keyword k → ⊥) → keyword_of word ≡ None
keyword_of-absent word free = by (keyword_of word) refl
  where
    by : (o : Option Key) → keyword_of word ≡ o → o ≡ None
    by None e = refl
    by (Some k) e = absurd (free k (keyword_of-spelled word k e))

-- a token that is spelled so, and as long as possible, is what the text begins with
pub token-front : (t : Tok) (bytes rest : List ℕ) → Spells t bytes → BeginsNoComment (bytes ++ rest) → IsLongest bytes rest → front_of (bytes ++ rest) ≡ Token t (length bytes)
token-front (tok.Name name) bytes rest (same, is_word, short, free) plain longest =
    word-front bytes rest is_word longest short ∙ ap (λ o. Token (named o bytes) (length bytes)) (keyword_of-absent bytes free) ∙ ap (λ l. Token (tok.Name l) (length bytes)) same
token-front (tok.Num n) bytes rest (digits, is) plain longest = number-front bytes rest n digits is longest
token-front (tok.Key k) bytes rest is plain longest =
    word-front bytes rest (ap (λ l. is_letter (slice_index l 0)) is ∙ keyword-letter k, ap (list_all is_word_byte) is ∙ keyword-word k) longest (omega (arith, ap length is, keyword-short k))
    ∙ ap (λ o. Token (named o bytes) (length bytes)) (ap keyword_of is ∙ keyword-found k)
token-front (tok.Sym s) bytes rest is plain longest = symbol-token_front bytes rest s is plain longest

-- what a text is made of is what is read
pub made-reads : (place : ℕ) (text : List ℕ) (tokens : List t.Token) → IsMadeOf place text tokens → Reads place text tokens
made-reads place text tokens (last gaps spacings) =
    subst (λ l. Reads place l []) (append-nil gaps) (spacings-read place gaps [] [] spacings ended)
made-reads place text (x ∷ tokens) (next tok gaps bytes rest spacings is made) =
    let behind = drop_at bytes rest (length bytes) refl in
    spacings-read place gaps (bytes ++ rest) (record { tok = tok; place = place + length gaps } ∷ tokens) spacings
    (token (length bytes) tok (token-front tok bytes rest is.spelled is.plain is.longest)
    (subst (λ l. Reads (place + length gaps + length bytes) l tokens) (sym behind) (made-reads (place + length gaps + length bytes) rest tokens made)))

-- a letter or a digit by itself has the form of a token
letter-alone : (b : ℕ) → is_letter b ≡ true → IsLexeme (b ∷ [])
letter-alone b letter = inl (letter, rw letter refl)

digit-alone : (b : ℕ) → is_digit b ≡ true → IsLexeme (b ∷ [])
digit-alone b digit = inr (inl (omega arith, rw digit refl))

not_so : (b : Bool) → (b ≡ true → ⊥) → b ≡ false
not_so false h = refl
not_so true h = absurd (h refl)

byte-read : (text : List ℕ) → is_blank (slice_index text 0) ≡ false → is_letter (slice_index text 0) ≡ false → is_digit (slice_index text 0) ≡ false → BeginsNoComment text → symbol_at text ≡ None → front_of text ≡ Refused why.Byte
byte-read text no_blank no_letter no_digit plain found = rw (no_blank, no_letter, no_digit, plain.0, plain.1, found) refl

symbol-missed : (text : List ℕ) → ((front rest : List ℕ) → text ≡ front ++ rest → IsLexeme front → ⊥) → symbol_at text ≡ None
symbol-missed text no_lexeme = by (symbol_at text) refl
  where
    by : (o : Option Sym) → symbol_at text ≡ o → o ≡ None
    by None e = refl
    by (Some s) e = absurd (no_lexeme (symbol s) (drop (length (symbol s)) text) (begins text (symbol s) (symbol_at-begins text s e)) (inr (inr (s, refl))))

byte-front : (text : List ℕ) → IsWrong why.Byte text → front_of text ≡ Refused why.Byte
byte-front [] wrong = absurd (omega (arith, wrong.0))
byte-front (b ∷ rest) wrong =
    let no_letter = not_so (is_letter b) (λ e. wrong.3 (b ∷ []) rest refl (letter-alone b e)) in
    let no_digit = not_so (is_digit b) (λ e. wrong.3 (b ∷ []) rest refl (digit-alone b e)) in
    byte-read (b ∷ rest) wrong.1 no_letter no_digit wrong.2 (symbol-missed (b ∷ rest) wrong.3)

long-word : (word : List ℕ) → 63 < length word → word_front word ≡ Refused why.NameLong
long-word word long = rw (lt-ltb 63 (length word) long) refl

-- what is wrong is refused
pub wrong-front : (w : LexWhy) (text : List ℕ) → IsWrong w text → front_of text ≡ Refused w
wrong-front why.Long text wrong = absurd wrong
wrong-front why.Byte text wrong = byte-front text wrong
wrong-front why.Number text (digits, rest, is, form, longest, none_such) = ap front_of is ∙ digits-run digits rest form longest ∙ ap (λ o. numbered o (length digits)) none_such
wrong-front why.NameLong text (word, rest, is, form, longest, long) = ap front_of is ∙ word-run word rest form longest ∙ long-word word long
wrong-front why.Comment text (rest, is, open_end) = ap front_of is ∙ ap closed open_end

pub wrong-some : (w : LexWhy) (text : List ℕ) → IsWrong w text → 0 < length text
wrong-some why.Long text wrong = absurd wrong
wrong-some why.Byte text wrong = wrong.0
wrong-some why.Number text (digits, rest, is, form, longest, none_such) = omega (arith, ap length is, length-append digits rest, form.0)
wrong-some why.NameLong text (word, rest, is, form, longest, long) = omega (arith, ap length is, length-append word rest)
wrong-some why.Comment text (rest, is, open_end) = omega (arith, ap length is)

spacings-refuse : (place : ℕ) (gaps rest : List ℕ) (at : ℕ) (why : LexWhy) → AreSpacings gaps rest → Refuses (place + length gaps) rest at why → Refuses place (gaps ++ rest) at why
spacings-refuse place gaps rest at why none r = let start : place + 0 ≡ place = omega arith in subst (λ n. Refuses n rest at why) start r
spacings-refuse place gaps rest at why (more first others spacing spacings) r =
    let there : place + length (first ++ others) ≡ place + length first + length others = omega (arith, length-append first others) in
    let later = spacings-refuse (place + length first) others rest at why spacings (subst (λ n. Refuses n rest at why) there r) in
    let behind = drop_at first (others ++ rest) (length first) refl in
    subst (λ l. Refuses place l at why) (sym (append_assoc first others rest))
    (past_gap (length first) (spacing-front first (others ++ rest) spacing) (subst (λ l. Refuses (place + length first) l at why) (sym behind) later))

stuck-here : (place : ℕ) (text : List ℕ) (why : LexWhy) → 0 < length text → front_of text ≡ Refused why → Refuses place text place why
stuck-here place [] why some is = absurd (omega arith)
stuck-here place (b ∷ rest) why some is = stuck is

-- where a text stops, its reading is refused
pub stops-refuses : (place : ℕ) (text : List ℕ) (at : ℕ) (why : LexWhy) → StopsAt place text at why → Refuses place text at why
stops-refuses place text at why (stop spaces rest spacings wrong) =
    spacings-refuse place spaces rest at why spacings (stuck-here (place + length spaces) rest why (wrong-some why rest wrong) (wrong-front why rest wrong))
stops-refuses place text at why (past tok spaces bytes rest spacings is stops) =
    let behind = drop_at bytes rest (length bytes) refl in
    spacings-refuse place spaces (bytes ++ rest) at why spacings
    (past_token (length bytes) tok (token-front tok bytes rest is.spelled is.plain is.longest)
    (subst (λ l. Refuses (place + length spaces + length bytes) l at why) (sym behind) (stops-refuses (place + length spaces + length bytes) rest at why stops)))
