-- What is refused at the front of a text is wrong for that reason.
use Rattle.std.proofs.Common.{◌≡◌, ℕ, ◌<◌, List, ◌++◌, length, drop, Bool, true, false, cond, Option, Some, None, ℤ, refl, ap, sym, ◌∙◌, subst, take-append-drop, inl, inr}
use Rattle.std.specs.Prelude.{codes, nat_eq, nat_lt, slice_index}
use Rattle.std.specs.List.{prefix_len, take_while, starts_with}
use Rattle.std.proofs.lemmas.Bool.{ltb-true}
use Rattle.prv_lex.specs.Bytes.{is_blank, is_letter, is_digit, is_word_byte, is_line_byte}
use Rattle.prv_lex.specs.Comments.{closing}
use Rattle.prv_lex.specs.Keywords.{keyword_of}
use Rattle.prv_lex.specs.Numbers.{number_of}
use Rattle.prv_lex.specs.Symbols.{symbol, symbol_at}
use Rattle.prv_lex.specs.Fronts.{front_of, named, word_front, numbered, number_front, closed, symbol_front, mark_front}
use Rattle.prv_lex.specs.Lexemes.{IsLexeme}
use Rattle.prv_lex.specs.Spacings.{BeginsNoComment}
use Rattle.prv_lex.specs.Readings.{IsWrong}
use Rattle.prv_lex.specs.declared.error.LexWhy.{LexWhy}
use Rattle.prv_lex.specs.declared.error.LexWhy.TheVariants as why
use Rattle.prv_lex.specs.declared.front.Front.TheVariants.{Gap, Token, Refused}
use Rattle.prv_lex.specs.declared.token.Sym.{Sym}
use Rattle.prv_lex.proofs.FrontLemmas.{begins}
use Rattle.prv_lex.proofs.SpellingLemmas.{clash, begins-from, first-append, all-first, letter-some, word-longest, digits-longest}
use Rattle.prv_lex.proofs.TableLemmas.{symbol_at-none}

word-wrong : (text : List ℕ) (w : LexWhy) → is_letter (slice_index text 0) ≡ true → word_front (take_while is_word_byte text) ≡ Refused w → IsWrong w text
word-wrong text w letter is = by (nat_lt 63 (length (take_while is_word_byte text))) refl is
  where
    by : (b : Bool) → nat_lt 63 (length (take_while is_word_byte text)) ≡ b → cond b (Refused why.NameLong) (Token (named (keyword_of (take_while is_word_byte text)) (take_while is_word_byte text)) (length (take_while is_word_byte text))) ≡ Refused w → IsWrong w text
    by true long e =
        let same : why.NameLong ≡ w = cc in
        let word = word-longest text letter in
        subst (λ v. IsWrong v text) same (take_while is_word_byte text, drop (prefix_len is_word_byte text) text, sym (take-append-drop (prefix_len is_word_byte text) text), word.0, word.1, ltb-true 63 (length (take_while is_word_byte text)) long)
    by false short e = absurd (cc)

digits-wrong : (text : List ℕ) (w : LexWhy) → is_digit (slice_index text 0) ≡ true → number_front (take_while is_digit text) ≡ Refused w → IsWrong w text
digits-wrong text w digit is = by (number_of (take_while is_digit text)) refl is
  where
    by : (o : Option ℤ) → number_of (take_while is_digit text) ≡ o → numbered o (length (take_while is_digit text)) ≡ Refused w → IsWrong w text
    by (Some n) e f = absurd (cc)
    by None e f =
        let same : why.Number ≡ w = cc in
        let digits = digits-longest text digit in
        subst (λ v. IsWrong v text) same (take_while is_digit text, drop (prefix_len is_digit text) text, sym (take-append-drop (prefix_len is_digit text) text), digits.0, digits.1, e)

comment-wrong : (text : List ℕ) (w : LexWhy) → starts_with nat_eq text (codes "/*") ≡ true → closed (closing (drop 2 text)) ≡ Refused w → IsWrong w text
comment-wrong text w begin is = by (closing (drop 2 text)) refl is
  where
    by : (o : Option ℕ) → closing (drop 2 text) ≡ o → closed o ≡ Refused w → IsWrong w text
    by (Some n) e f = absurd (cc)
    by None e f = let same : why.Comment ≡ w = cc in subst (λ v. IsWrong v text) same (drop 2 text, begins text (codes "/*") begin, e)

-- where no symbol, letter or digit stands, no token does
no-lexeme : (text : List ℕ) → is_letter (slice_index text 0) ≡ false → is_digit (slice_index text 0) ≡ false → symbol_at text ≡ None → (front rest : List ℕ) → text ≡ front ++ rest → IsLexeme front → ⊥
no-lexeme text no_letter no_digit missed front rest is (inl word) =
    clash (is_letter (slice_index text 0)) (ap (λ l. is_letter (slice_index l 0)) is ∙ ap is_letter (first-append front rest (letter-some front word.0)) ∙ word.0) no_letter
no-lexeme text no_letter no_digit missed front rest is (inr (inl digits)) =
    clash (is_digit (slice_index text 0)) (ap (λ l. is_digit (slice_index l 0)) is ∙ ap is_digit (first-append front rest digits.0) ∙ all-first is_digit front digits.0 digits.1) no_digit
no-lexeme text no_letter no_digit missed front rest is (inr (inr spelled)) =
    clash (starts_with nat_eq text (symbol spelled.0)) (begins-from text (symbol spelled.0) rest (is ∙ ap (λ l. l ++ rest) spelled.1)) (symbol_at-none text spelled.0 missed)

byte-wrong : (text : List ℕ) (w : LexWhy) → 0 < length text → is_blank (slice_index text 0) ≡ false → is_letter (slice_index text 0) ≡ false → is_digit (slice_index text 0) ≡ false → BeginsNoComment text → symbol_front (symbol_at text) ≡ Refused w → IsWrong w text
byte-wrong text w some no_blank no_letter no_digit plain is = by (symbol_at text) refl is
  where
    by : (o : Option Sym) → symbol_at text ≡ o → symbol_front o ≡ Refused w → IsWrong w text
    by (Some s) e f = absurd (cc)
    by None e f = let same : why.Byte ≡ w = cc in subst (λ v. IsWrong v text) same (some, no_blank, plain, no-lexeme text no_letter no_digit e)

mark-wrong : (text : List ℕ) (w : LexWhy) → 0 < length text → is_blank (slice_index text 0) ≡ false → is_letter (slice_index text 0) ≡ false → is_digit (slice_index text 0) ≡ false → mark_front text ≡ Refused w → IsWrong w text
mark-wrong text w some no_blank no_letter no_digit is = by (starts_with nat_eq text (codes "//")) (starts_with nat_eq text (codes "/*")) refl refl is
  where
    by : (b c : Bool) → starts_with nat_eq text (codes "//") ≡ b → starts_with nat_eq text (codes "/*") ≡ c → cond b (Gap (prefix_len is_line_byte text)) (cond c (closed (closing (drop 2 text))) (symbol_front (symbol_at text))) ≡ Refused w → IsWrong w text
    by true c e f g = absurd (cc)
    by false true e f g = comment-wrong text w f g
    by false false e f g = byte-wrong text w some no_blank no_letter no_digit (e, f) g

-- what is refused is wrong
pub wrong-at : (text : List ℕ) (w : LexWhy) → 0 < length text → front_of text ≡ Refused w → IsWrong w text
wrong-at text w some is = by (is_blank (slice_index text 0)) (is_letter (slice_index text 0)) (is_digit (slice_index text 0)) refl refl refl is
  where
    by : (a b c : Bool) → is_blank (slice_index text 0) ≡ a → is_letter (slice_index text 0) ≡ b → is_digit (slice_index text 0) ≡ c → cond a (Gap 1) (cond b (word_front (take_while is_word_byte text)) (cond c (number_front (take_while is_digit text)) (mark_front text))) ≡ Refused w → IsWrong w text
    by true b c d e f g = absurd (cc)
    by false true c d e f g = word-wrong text w e g
    by false false true d e f g = digits-wrong text w f g
    by false false false d e f g = mark-wrong text w some d e f g
