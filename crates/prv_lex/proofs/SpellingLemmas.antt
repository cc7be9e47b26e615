-- What is read at the front of a text is a blank, a comment, or a token that is as long as possible.
use Rattle.std.proofs.Common.{◌≡◌, ℕ, ◌<◌, ◌≤◌, List, [], ◌∷◌, ◌++◌, length, take, drop, get_or, Bool, true, false, ◌&&◌, cond, Option, Some, None, ℤ, refl, ap, sym, ◌∙◌, subst, arith, add-zero, append_assoc, length-append, length-drop, inl, inr}
use Rattle.std.specs.Prelude.{codes, nat_eq, nat_lt, slice_index}
use Rattle.std.specs.List.{prefix_len, take_while, starts_with, list_all}
use Rattle.std.proofs.lemmas.List.{get_or-drop, get_or-take, take_at}
use Rattle.std.proofs.lemmas.Slice.Eq.{starts_is}
use Rattle.std.proofs.lemmas.Bool.Decides.{Decides-eqb, nat_tests}
use Rattle.std.proofs.lemmas.List.Sums.{prefix_len_stops}
use Rattle.std.proofs.lemmas.Grind.{common_steps}
use Rattle.prv_lex.specs.Bytes.{is_blank, is_letter, is_digit, is_word_byte, is_line_byte}
use Rattle.prv_lex.specs.Comments.{closing}
use Rattle.prv_lex.specs.Keywords.{keyword_of}
use Rattle.prv_lex.specs.Numbers.{number_of}
use Rattle.prv_lex.specs.Symbols.{symbol, symbol_at}
use Rattle.prv_lex.specs.Fronts.{front_of, named, word_front, numbered, number_front, closed, symbol_front, mark_front}
use Rattle.prv_lex.specs.Lexemes.{IsWord, IsDigits, IsLexeme, IsLongest, Spells}
use Rattle.prv_lex.specs.Spacings.{BeginsNoComment}
use Rattle.prv_lex.specs.declared.error.LexWhy.TheVariants as why
use Rattle.prv_lex.specs.declared.front.Front.TheVariants.{Gap, Token, Refused}
use Rattle.prv_lex.specs.declared.token.Key.{Key}
use Rattle.prv_lex.specs.declared.token.Sym.{Sym}
use Rattle.prv_lex.specs.declared.token.Tok.{Tok}
use Rattle.prv_lex.specs.declared.token.Tok.TheVariants as tok
use Rattle.prv_lex.proofs.EachSymbol.{symbol-nonempty, symbol-no_letter, symbol-no_digit}
use Rattle.prv_lex.proofs.FrontLemmas.{begins, run-some, symbol_at-begins}
use Rattle.prv_lex.proofs.RunLemmas.{all_in_run, length-run}
use Rattle.prv_lex.proofs.TableLemmas.{keyword_of-spelled, keyword_of-none, symbol_at-longest}

-- a byte that is no letter where one is wanted
pub clash : (b : Bool) → b ≡ true → b ≡ false → ⊥
clash b so not_so = let bad : true ≡ false = sym so ∙ not_so in cc

pub letter-no_digit : (b : ℕ) → is_letter b ≡ true → is_digit b ≡ true → ⊥
letter-no_digit b letter digit = grind (arith, common_steps)

pub letter-some : (bytes : List ℕ) → is_letter (slice_index bytes 0) ≡ true → 0 < length bytes
letter-some [] letter = absurd (clash (is_letter 0) letter refl)
letter-some (b ∷ bytes) letter = omega arith

-- the first byte of a list in front of another
pub first-append : (a b : List ℕ) → 0 < length a → slice_index (a ++ b) 0 ≡ slice_index a 0
first-append [] b some = absurd (omega arith)
first-append (x ∷ a) b some = refl

-- the last part of a list of bytes of a class is of the class
all-behind : (p : ℕ → Bool) (a b : List ℕ) → list_all p (a ++ b) ≡ true → list_all p b ≡ true
all-behind p [] b all = all
all-behind p (x ∷ a) b all = all-behind p a b (rest (p x) (list_all p (a ++ b)) all)
  where
    rest : (u v : Bool) → (u && v) ≡ true → v ≡ true
    rest true v h = h
    rest false v h = absurd (cc)

pub all-first : (p : ℕ → Bool) (a : List ℕ) → 0 < length a → list_all p a ≡ true → p (slice_index a 0) ≡ true
all-first p [] some all = absurd (omega arith)
all-first p (x ∷ a) some all = first (p x) (list_all p a) all
  where
    first : (u v : Bool) → (u && v) ≡ true → u ≡ true
    first true v h = refl
    first false v h = absurd (cc)

-- nothing of the class follows the longest run of the class
run-stops : (p : ℕ → Bool) (text more after : List ℕ) → drop (prefix_len p text) text ≡ more ++ after → 0 < length more → list_all p more ≡ true → ⊥
run-stops p text more after rest some all =
    let here : get_or text (prefix_len p text) 0 ≡ slice_index more 0 =
    ap (λ n. get_or text n 0) (sym (add-zero (prefix_len p text))) ∙ sym (get_or-drop (prefix_len p text) text 0 0) ∙ ap (λ l. get_or l 0 0) rest ∙ first-append more after some in
    let room : prefix_len p text < length text = omega (arith, ap length rest, length-append more after, length-drop (prefix_len p text) text) in
    clash (p (slice_index more 0)) (all-first p more some all) (sym (ap p here) ∙ prefix_len_stops p text 0 room)

module _ (bytes more : List ℕ) (some : 0 < length bytes) where
  -- what begins with a letter has the form of a word alone
  word-lexeme : is_letter (slice_index bytes 0) ≡ true → IsLexeme (bytes ++ more) → list_all is_word_byte (bytes ++ more) ≡ true
  word-lexeme letter (inl word) = word.1
  word-lexeme letter (inr (inl digits)) = absurd (letter-no_digit (slice_index bytes 0) letter (ap is_digit (sym (first-append bytes more some)) ∙ all-first is_digit (bytes ++ more) (omega (arith, length-append bytes more)) digits.1))
  word-lexeme letter (inr (inr spelled)) = absurd (clash _ (ap is_letter (ap (λ l. slice_index l 0) (sym spelled.1) ∙ first-append bytes more some) ∙ letter) (symbol-no_letter spelled.0))

  -- what begins with a digit has the form of a number alone
  digits-lexeme : is_digit (slice_index bytes 0) ≡ true → IsLexeme (bytes ++ more) → list_all is_digit (bytes ++ more) ≡ true
  digits-lexeme digit (inl word) = absurd (letter-no_digit (slice_index bytes 0) (ap is_letter (sym (first-append bytes more some)) ∙ word.0) digit)
  digits-lexeme digit (inr (inl digits)) = digits.1
  digits-lexeme digit (inr (inr spelled)) = absurd (clash _ (ap is_digit (ap (λ l. slice_index l 0) (sym spelled.1) ∙ first-append bytes more some) ∙ digit) (symbol-no_digit spelled.0))

-- the front of a text is a token
pub record IsTokenAt (text : List ℕ) (tok : Tok) (len : ℕ) : Type 0 where
  pub spelled : Spells tok (take len text)
  pub longest : IsLongest (take len text) (drop len text)
  pub plain : BeginsNoComment text

-- a text that begins with a byte of another kind begins no comment
no-comment : (text : List ℕ) → (slice_index text 0 ≡ 47 → ⊥) → BeginsNoComment text
no-comment text other = (not_begun (codes "//") refl (omega arith), not_begun (codes "/*") refl (omega arith))
  where
    not_begun : (p : List ℕ) → slice_index p 0 ≡ 47 → 0 < length p → starts_with nat_eq text p ≡ false
    not_begun p slash some = by (starts_with nat_eq text p) refl
      where
        by : (b : Bool) → starts_with nat_eq text p ≡ b → b ≡ false
        by false e = refl
        by true e = absurd (other (ap (λ l. slice_index l 0) (begins text p e) ∙ first-append p (drop (length p) text) some ∙ slash))

letter-no_slash : (b : ℕ) → is_letter b ≡ true → b ≡ 47 → ⊥
letter-no_slash b letter slash = clash (is_letter 47) (ap is_letter (sym slash) ∙ letter) refl

digit-no_slash : (b : ℕ) → is_digit b ≡ true → b ≡ 47 → ⊥
digit-no_slash b digit slash = clash (is_digit 47) (ap is_digit (sym slash) ∙ digit) refl

-- where the first byte is of the class, the run has it
run-nonempty : (p : ℕ → Bool) (text : List ℕ) → p (slice_index text 0) ≡ true → p 0 ≡ false → 0 < prefix_len p text
run-nonempty p [] first none = absurd (clash (p 0) first none)
run-nonempty p (b ∷ rest) first none = run-some p b rest first

run-first : (p : ℕ → Bool) (text : List ℕ) → 0 < prefix_len p text → slice_index (take_while p text) 0 ≡ slice_index text 0
run-first p text some = get_or-take (prefix_len p text) text 0 0 some

named-spelled : (word : List ℕ) (o : Option Key) → keyword_of word ≡ o → IsWord word → length word ≤ 63 → Spells (named o word) word
named-spelled word None e is_word short = (refl, is_word, short, keyword_of-none word e)
named-spelled word (Some k) e is_word short = keyword_of-spelled word k e

-- the longest run of word bytes behind a letter is a word, as long as possible
pub word-longest : (text : List ℕ) → is_letter (slice_index text 0) ≡ true → IsWord (take_while is_word_byte text) × IsLongest (take_while is_word_byte text) (drop (prefix_len is_word_byte text) text)
word-longest text letter =
    let word = take_while is_word_byte text in
    let some : 0 < prefix_len is_word_byte text = run-nonempty is_word_byte text (rw letter refl) refl in
    let first : is_letter (slice_index word 0) ≡ true = ap is_letter (run-first is_word_byte text some) ∙ letter in
    let long : 0 < length word = omega (arith, length-run is_word_byte text) in (
      (first, all_in_run is_word_byte text),
      λ more after rest extra lexeme. run-stops is_word_byte text more after rest extra (all-behind is_word_byte word more (word-lexeme word more long first lexeme)),
    )

-- the longest run of digits is as long as possible
pub digits-longest : (text : List ℕ) → is_digit (slice_index text 0) ≡ true → IsDigits (take_while is_digit text) × IsLongest (take_while is_digit text) (drop (prefix_len is_digit text) text)
digits-longest text digit =
    let digits = take_while is_digit text in
    let some : 0 < prefix_len is_digit text = run-nonempty is_digit text digit refl in
    let first : is_digit (slice_index digits 0) ≡ true = ap is_digit (run-first is_digit text some) ∙ digit in
    let long : 0 < length digits = omega (arith, length-run is_digit text) in (
      (long, all_in_run is_digit text),
      λ more after rest extra lexeme. run-stops is_digit text more after rest extra (all-behind is_digit digits more (digits-lexeme digits more long first lexeme)),
    )

word-token : (text : List ℕ) → is_letter (slice_index text 0) ≡ true → length (take_while is_word_byte text) ≤ 63 → IsTokenAt text (named (keyword_of (take_while is_word_byte text)) (take_while is_word_byte text)) (prefix_len is_word_byte text)
word-token text letter short =
    let word = word-longest text letter in
    record {
      spelled = named-spelled (take_while is_word_byte text) (keyword_of (take_while is_word_byte text)) refl word.0 short;
      longest = word.1;
      plain = no-comment text (letter-no_slash (slice_index text 0) letter);
    }

number-token : (text : List ℕ) (n : ℤ) → is_digit (slice_index text 0) ≡ true → number_of (take_while is_digit text) ≡ Some n → IsTokenAt text (tok.Num n) (prefix_len is_digit text)
number-token text n digit value =
    let digits = digits-longest text digit in
    record { spelled = (digits.0, value); longest = digits.1; plain = no-comment text (digit-no_slash (slice_index text 0) digit) }

-- a text that is a spelling and more begins with the spelling
pub begins-from : (text p rest : List ℕ) → text ≡ p ++ rest → starts_with nat_eq text p ≡ true
begins-from text p rest e = (starts_is Decides-eqb text p (starts_with nat_eq text p) refl).1 rest e

symbol-extended : (text more after : List ℕ) (s : Sym) → symbol_at text ≡ Some s → text ≡ symbol s ++ (more ++ after) → 0 < length more → IsLexeme (symbol s ++ more) → ⊥
symbol-extended text more after s found is extra (inl word) =
    clash (is_letter (slice_index (symbol s) 0)) (ap is_letter (sym (first-append (symbol s) more (symbol-nonempty s))) ∙ word.0) (symbol-no_letter s)
symbol-extended text more after s found is extra (inr (inl digits)) =
    clash (is_digit (slice_index (symbol s) 0)) (ap is_digit (sym (first-append (symbol s) more (symbol-nonempty s))) ∙ all-first is_digit (symbol s ++ more) (omega (arith, length-append (symbol s) more)) digits.1) (symbol-no_digit s)
symbol-extended text more after s found is extra (inr (inr other)) =
    let begin = begins-from text (symbol other.0) after (is ∙ sym (append_assoc (symbol s) more after) ∙ ap (λ l. l ++ after) other.1) in
    let longer = symbol_at-longest text s other.0 found begin in
    absurd (omega (arith, ap length other.1, length-append (symbol s) more))

symbol-token : (text : List ℕ) (s : Sym) → symbol_at text ≡ Some s → BeginsNoComment text → IsTokenAt text (tok.Sym s) (length (symbol s))
symbol-token text s found plain =
    let len = length (symbol s) in
    let is = begins text (symbol s) (symbol_at-begins text s found) in
    let front : take len text ≡ symbol s = ap (take len) is ∙ take_at (symbol s) (drop len text) len refl in
    record {
      spelled = front;
      longest = λ more after rest extra lexeme. symbol-extended text more after s found (is ∙ ap (λ l. symbol s ++ l) rest) extra (subst IsLexeme (ap (λ l. l ++ more) front) lexeme);
      plain = plain;
    }

-- each kind of front, where it is a token
word-at : (text : List ℕ) (t : Tok) (len : ℕ) → is_letter (slice_index text 0) ≡ true → word_front (take_while is_word_byte text) ≡ Token t len → IsTokenAt text t len
word-at text t len letter is = by (nat_lt 63 (length word)) refl is
  where
    word : List ℕ
    word = take_while is_word_byte text

    by : (b : Bool) → nat_lt 63 (length (take_while is_word_byte text)) ≡ b → cond b (Refused why.NameLong) (Token (named (keyword_of (take_while is_word_byte text)) (take_while is_word_byte text)) (length (take_while is_word_byte text))) ≡ Token t len → IsTokenAt text t len
    by true long e = absurd (cc)
    by false short e =
        let same_tok : named (keyword_of (take_while is_word_byte text)) (take_while is_word_byte text) ≡ t = cc in
        let same_len : length (take_while is_word_byte text) ≡ len = cc in
        let small : length (take_while is_word_byte text) ≤ 63 = grind (arith, nat_tests) in
        subst (λ k. IsTokenAt text k len) same_tok (subst (IsTokenAt text (named (keyword_of (take_while is_word_byte text)) (take_while is_word_byte text))) (sym (length-run is_word_byte text) ∙ same_len) (word-token text letter small))

number-at : (text : List ℕ) (t : Tok) (len : ℕ) → is_digit (slice_index text 0) ≡ true → number_front (take_while is_digit text) ≡ Token t len → IsTokenAt text t len
number-at text t len digit is = by (number_of (take_while is_digit text)) refl is
  where
    by : (o : Option ℤ) → number_of (take_while is_digit text) ≡ o → numbered o (length (take_while is_digit text)) ≡ Token t len → IsTokenAt text t len
    by None e f = absurd (cc)
    by (Some n) e f =
        let same_tok : tok.Num n ≡ t = cc in
        let same_len : length (take_while is_digit text) ≡ len = cc in
        subst (λ k. IsTokenAt text k len) same_tok (subst (IsTokenAt text (tok.Num n)) (sym (length-run is_digit text) ∙ same_len) (number-token text n digit e))

symbol-at : (text : List ℕ) (t : Tok) (len : ℕ) → BeginsNoComment text → symbol_front (symbol_at text) ≡ Token t len → IsTokenAt text t len
symbol-at text t len plain is = by (symbol_at text) refl is
  where
    by : (o : Option Sym) → symbol_at text ≡ o → symbol_front o ≡ Token t len → IsTokenAt text t len
    by None e f = absurd (cc)
    by (Some s) e f =
        let same_tok : tok.Sym s ≡ t = cc in
        let same_len : length (symbol s) ≡ len = cc in
        subst (λ k. IsTokenAt text k len) same_tok (subst (IsTokenAt text (tok.Sym s)) same_len (symbol-token text s e plain))

closed-no_token : (o : Option ℕ) (t : Tok) (len : ℕ) → closed o ≡ Token t len → ⊥
closed-no_token None t len e = cc
closed-no_token (Some n) t len e = cc

mark-at : (text : List ℕ) (t : Tok) (len : ℕ) → mark_front text ≡ Token t len → IsTokenAt text t len
mark-at text t len is = by (starts_with nat_eq text (codes "//")) (starts_with nat_eq text (codes "/*")) refl refl is
  where
    by : (b c : Bool) → starts_with nat_eq text (codes "//") ≡ b → starts_with nat_eq text (codes "/*") ≡ c → cond b (Gap (prefix_len is_line_byte text)) (cond c (closed (closing (drop 2 text))) (symbol_front (symbol_at text))) ≡ Token t len → IsTokenAt text t len
    by true c e f g = absurd (cc)
    by false true e f g = absurd (closed-no_token (closing (drop 2 text)) t len g)
    by false false e f g = symbol-at text t len (e, f) g

-- a token that is read is spelled so, as long as possible, and no comment
pub token-at : (text : List ℕ) (t : Tok) (len : ℕ) → front_of text ≡ Token t len → IsTokenAt text t len
token-at text t len is = by (is_blank (slice_index text 0)) (is_letter (slice_index text 0)) (is_digit (slice_index text 0)) refl refl refl is
  where
    by : (a b c : Bool) → is_blank (slice_index text 0) ≡ a → is_letter (slice_index text 0) ≡ b → is_digit (slice_index text 0) ≡ c → cond a (Gap 1) (cond b (word_front (take_while is_word_byte text)) (cond c (number_front (take_while is_digit text)) (mark_front text))) ≡ Token t len → IsTokenAt text t len
    by true b c d e f g = absurd (cc)
    by false true c d e f g = word-at text t len e g
    by false false true d e f g = number-at text t len f g
    by false false false d e f g = mark-at text t len g
