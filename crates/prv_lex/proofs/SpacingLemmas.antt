-- A gap that is read is a blank or a comment.
use Rattle.std.proofs.Common.{◌≡◌, ℕ, suc, ◌+◌, List, [], ◌∷◌, ◌++◌, length, take, drop, Bool, true, false, cond, Option, Some, None, ℤ, refl, ap, sym, ◌∙◌, subst, arith, one-add, append_assoc, take-append-drop, inl, inr}
use Rattle.std.specs.Prelude.{codes, nat_eq, nat_lt, slice_index}
use Rattle.std.specs.List.{prefix_len, take_while, starts_with}
use Rattle.std.specs.Option.{option_map}
use Rattle.std.proofs.lemmas.Bool.Decides.{nat_tests}
use Rattle.prv_lex.specs.Bytes.{is_blank, is_letter, is_digit, is_word_byte, is_line_byte}
use Rattle.prv_lex.specs.Comments.{closing}
use Rattle.prv_lex.specs.Keywords.{keyword_of}
use Rattle.prv_lex.specs.Numbers.{number_of}
use Rattle.prv_lex.specs.Symbols.{symbol_at}
use Rattle.prv_lex.specs.Fronts.{front_of, named, word_front, numbered, number_front, closed, symbol_front, mark_front}
use Rattle.prv_lex.specs.Spacings.{AtLineEnd, IsSpacing, blank, line, block}
use Rattle.prv_lex.specs.declared.error.LexWhy.TheVariants as why
use Rattle.prv_lex.specs.declared.front.Front.TheVariants.{Gap, Token, Refused}
use Rattle.prv_lex.specs.declared.token.Sym.{Sym}
use Rattle.prv_lex.proofs.FrontLemmas.{begins}
use Rattle.prv_lex.proofs.RunLemmas.{all_in_run}
use Rattle.prv_lex.proofs.SpellingLemmas.{clash, begins-from}

-- behind the longest run of bytes of a line the line ends
line-ends : (s : List ℕ) → AtLineEnd (drop (prefix_len is_line_byte s) s)
line-ends [] = inl refl
line-ends (x ∷ xs) = by (is_line_byte x) refl (line-ends xs)
  where
    by : (b : Bool) → is_line_byte x ≡ b → AtLineEnd (drop (prefix_len is_line_byte xs) xs) → AtLineEnd (drop (cond b (1 + prefix_len is_line_byte xs) 0) (x ∷ xs))
    by true e later = rw one-add later
    by false e later = inr (grind (arith, nat_tests))

line-spacing : (rest : List ℕ) → IsSpacing (take (prefix_len is_line_byte (codes "//" ++ rest)) (codes "//" ++ rest)) (drop (prefix_len is_line_byte (codes "//" ++ rest)) (codes "//" ++ rest))
line-spacing rest =
    let two : 1 + (1 + prefix_len is_line_byte rest) ≡ suc (suc (prefix_len is_line_byte rest)) = omega arith in
    rw two (line (take_while is_line_byte rest) (all_in_run is_line_byte rest) (line-ends rest))

-- what a front begins with, the whole begins with
begins-take : (n : ℕ) (s p : List ℕ) → starts_with nat_eq (take n s) p ≡ true → starts_with nat_eq s p ≡ true
begins-take n s p h =
    begins-from s p (drop (length p) (take n s) ++ drop n s) (sym (take-append-drop n s) ∙ ap (λ l. l ++ drop n s) (begins (take n s) p h) ∙ append_assoc p (drop (length p) (take n s)) (drop n s))

no_begin-take : (n : ℕ) (s p : List ℕ) → starts_with nat_eq s p ≡ false → starts_with nat_eq (take n s) p ≡ false
no_begin-take n s p h = by (starts_with nat_eq (take n s) p) refl
  where
    by : (b : Bool) → starts_with nat_eq (take n s) p ≡ b → b ≡ false
    by false e = refl
    by true e = absurd (clash (starts_with nat_eq s p) (begins-take n s p e) h)

-- up to its first `*/` a text has that `*/` at its end
pub closing-take : (s : List ℕ) (n : ℕ) → closing s ≡ Some n → (closing (take n s) ≡ Some (length (take n s))) × (n ≡ length (take n s))
closing-take [] n e = absurd (cc)
closing-take (b ∷ rest) n e = by (starts_with nat_eq (b ∷ rest) (codes "*/")) refl (closing rest) (closing-take rest) e
  where
    here : (l : List ℕ) → l ≡ codes "*/" ++ drop 2 l → (closing (take 2 l) ≡ Some (length (take 2 l))) × (2 ≡ length (take 2 l))
    here l is = rw is (refl, refl)

    later : (k : ℕ) → starts_with nat_eq (b ∷ rest) (codes "*/") ≡ false → (closing (take k rest) ≡ Some (length (take k rest))) × (k ≡ length (take k rest)) → (closing (take (suc k) (b ∷ rest)) ≡ Some (length (take (suc k) (b ∷ rest)))) × (suc k ≡ length (take (suc k) (b ∷ rest)))
    later k miss rec = (rw (no_begin-take (suc k) (b ∷ rest) (codes "*/") miss, rec.0) (ap Some (omega arith)), ap suc rec.1)

    by : (t : Bool) → starts_with nat_eq (b ∷ rest) (codes "*/") ≡ t → (o : Option ℕ) → ((k : ℕ) → o ≡ Some k → (closing (take k rest) ≡ Some (length (take k rest))) × (k ≡ length (take k rest))) → cond t (Some 2) (option_map (λ n. n + 1) o) ≡ Some n → (closing (take n (b ∷ rest)) ≡ Some (length (take n (b ∷ rest)))) × (n ≡ length (take n (b ∷ rest)))
    by true hit o rec f = let two : 2 ≡ n = cc in subst (λ m. (closing (take m (b ∷ rest)) ≡ Some (length (take m (b ∷ rest)))) × (m ≡ length (take m (b ∷ rest)))) two (here (b ∷ rest) (begins (b ∷ rest) (codes "*/") hit))
    by false miss None rec f = absurd (cc)
    by false miss (Some k) rec f = let more : suc k ≡ n = (let m : k + 1 ≡ n = cc in omega arith) in subst (λ m. (closing (take m (b ∷ rest)) ≡ Some (length (take m (b ∷ rest)))) × (m ≡ length (take m (b ∷ rest)))) more (later k miss (rec k refl))

block-spacing : (rest : List ℕ) (n : ℕ) → closing rest ≡ Some n → IsSpacing (take (n + 2) (codes "/*" ++ rest)) (drop (n + 2) (codes "/*" ++ rest))
block-spacing rest n e = let two : n + 2 ≡ suc (suc n) = omega arith in rw two (block (take n rest) ((closing-take rest n e).0))

-- each kind of front, where it is a gap
word-no_gap : (word : List ℕ) (len : ℕ) → word_front word ≡ Gap len → ⊥
word-no_gap word len is = by (nat_lt 63 (length word)) is
  where
    by : (b : Bool) → cond b (Refused why.NameLong) (Token (named (keyword_of word) word) (length word)) ≡ Gap len → ⊥
    by true e = cc
    by false e = cc

numbered-no_gap : (o : Option ℤ) (n len : ℕ) → numbered o n ≡ Gap len → ⊥
numbered-no_gap None n len e = cc
numbered-no_gap (Some k) n len e = cc

symbol-no_gap : (o : Option Sym) (len : ℕ) → symbol_front o ≡ Gap len → ⊥
symbol-no_gap None len e = cc
symbol-no_gap (Some s) len e = cc

Spaced : List ℕ → ℕ → Type 0
Spaced text len = IsSpacing (take len text) (drop len text)

spaced-along : (text other : List ℕ) (n len : ℕ) → text ≡ other → n ≡ len → IsSpacing (take n other) (drop n other) → Spaced text len
unfolding Spaced
spaced-along text other n len same long s = subst (λ m. IsSpacing (take m text) (drop m text)) long (subst (λ l. IsSpacing (take n l) (drop n l)) (sym same) s)

closed-gap : (text : List ℕ) (len : ℕ) → starts_with nat_eq text (codes "/*") ≡ true → closed (closing (drop 2 text)) ≡ Gap len → Spaced text len
closed-gap text len begin is = by (closing (drop 2 text)) refl is
  where
    by : (o : Option ℕ) → closing (drop 2 text) ≡ o → closed o ≡ Gap len → Spaced text len
    by None e f = absurd (cc)
    by (Some n) e f = let long : n + 2 ≡ len = cc in spaced-along text (codes "/*" ++ drop 2 text) (n + 2) len (begins text (codes "/*") begin) long (block-spacing (drop 2 text) n e)

line-gap : (text : List ℕ) (len : ℕ) → starts_with nat_eq text (codes "//") ≡ true → prefix_len is_line_byte text ≡ len → Spaced text len
line-gap text len begin is =
    let same = begins text (codes "//") begin in
    spaced-along text (codes "//" ++ drop 2 text) (prefix_len is_line_byte (codes "//" ++ drop 2 text)) len same (ap (prefix_len is_line_byte) (sym same) ∙ is) (line-spacing (drop 2 text))

mark-gap : (text : List ℕ) (len : ℕ) → mark_front text ≡ Gap len → Spaced text len
mark-gap text len is = by (starts_with nat_eq text (codes "//")) (starts_with nat_eq text (codes "/*")) refl refl is
  where
    by : (b c : Bool) → starts_with nat_eq text (codes "//") ≡ b → starts_with nat_eq text (codes "/*") ≡ c → cond b (Gap (prefix_len is_line_byte text)) (cond c (closed (closing (drop 2 text))) (symbol_front (symbol_at text))) ≡ Gap len → Spaced text len
    by true c e f g = line-gap text len e (cc)
    by false true e f g = closed-gap text len f g
    by false false e f g = absurd (symbol-no_gap (symbol_at text) len g)

blank-gap : (text : List ℕ) → is_blank (slice_index text 0) ≡ true → Spaced text 1
unfolding Spaced
blank-gap [] is = absurd (clash (is_blank 0) is refl)
blank-gap (b ∷ rest) is = blank b is

gap-at : (text : List ℕ) (len : ℕ) → front_of text ≡ Gap len → Spaced text len
gap-at text len is = by (is_blank (slice_index text 0)) (is_letter (slice_index text 0)) (is_digit (slice_index text 0)) refl is
  where
    by : (a b c : Bool) → is_blank (slice_index text 0) ≡ a → cond a (Gap 1) (cond b (word_front (take_while is_word_byte text)) (cond c (number_front (take_while is_digit text)) (mark_front text))) ≡ Gap len → Spaced text len
    by true b c d g = let one : 1 ≡ len = cc in subst (λ n. Spaced text n) one (blank-gap text d)
    by false true c d g = absurd (word-no_gap (take_while is_word_byte text) len g)
    by false false true d g = absurd (numbered-no_gap (number_of (take_while is_digit text)) (length (take_while is_digit text)) len g)
    by false false false d g = mark-gap text len g

-- a gap that is read is a blank or a comment
pub gap-spacing : (text : List ℕ) (len : ℕ) → front_of text ≡ Gap len → IsSpacing (take len text) (drop len text)
gap-spacing text len is = unfold Spaced in gap-at text len is
