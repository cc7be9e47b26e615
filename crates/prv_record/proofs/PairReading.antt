-- The first payload of a journal is read as it is spelled.
use Rattle.std.proofs.Common.{◌≡◌, ℕ, suc, ◌-◌, ◌≤◌, ◌<◌, List, [], ◌∷◌, ◌++◌, length, get_or, Result, Ok, Err, ◌⊎◌, inl, inr, refl, sym, ap, subst, ◌∙◌, arith}
use Rattle.std.specs.Prelude.{⊤}
use Rattle.std.proofs.lemmas.Bool.{cases_eq, eq-eqb, ne_eqb}
use Rattle.std.proofs.lemmas.List.{append-nil}
use Rattle.prv_codec.specs.declared.form.Form.{Form}
use Rattle.prv_codec.specs.declared.form.Form.TheVariants.{One, Two}
use Rattle.prv_codec.specs.Forms.{number}
use Rattle.prv_codec.specs.Spelling.{text, IsNumber, IsText}
use Rattle.prv_codec.specs.Reading.{Read, ◌>>=◌, whole, number_at, text_at}
use Rattle.prv_codec.specs.Faults.{GoesWrongAt}
use Rattle.prv_codec.proofs.Languages.{IsBytes, Stops, Takes, Reads, Then, GoesOn, Nothing, Spells, binds, returns, changes, ok_is, IsBytes-from, whole-found, whole-again, whole-wrong}
use Rattle.prv_codec.proofs.Numbers.{number-reads}
use Rattle.prv_codec.proofs.Fields.{text-reads}
use Rattle.prv_record.specs.Pairs.{Opening, pair_kind, space_text, IsSpace, IsOpening, pair_payload, IsFirst, IsPairPayload, kind_at, space_at, pair_at}

-- ---- the first byte

abbrev Kind : Form → List ℕ → Type 0
Kind = Spells (λ f. ⊤) (λ f. pair_kind f ∷ [])

kind-one : (b : ℕ) (rest : List ℕ) → b ≡ 0 → kind_at (b ∷ rest) ≡ Ok (One, rest)
unfolding kind_at
kind-one b rest e = rw (eq-eqb b 0 e) refl

kind-two : (b : ℕ) (rest : List ℕ) → b ≡ 2 → kind_at (b ∷ rest) ≡ Ok (Two, rest)
unfolding kind_at
kind-two b rest e = rw (ne_eqb b 0 (λ z. omega arith), eq-eqb b 2 e) refl

kind-none : (b : ℕ) (rest : List ℕ) → (b ≡ 0 → ⊥) → (b ≡ 2 → ⊥) → kind_at (b ∷ rest) ≡ Err (suc (length rest))
unfolding kind_at
kind-none b rest one two = rw (ne_eqb b 0 one, ne_eqb b 2 two) refl

kind-ok : (f : Form) (rest : List ℕ) → kind_at (pair_kind f ∷ rest) ≡ Ok (f, rest)
kind-ok One rest = kind-one 0 rest refl
kind-ok Two rest = kind-two 2 rest refl

kind-found : (bytes : List ℕ) → IsBytes bytes → (f : Form) (rest : List ℕ) → kind_at bytes ≡ Ok (f, rest) → Takes Kind bytes f rest
unfolding kind_at
kind-found [] fits f rest e = absurd cc
kind-found (b ∷ bytes) fits f rest e =
    elim (cases_eq b 0) [
      | inl is ↦
          let same = ok_is (One, bytes) (f, rest) (sym (kind-one b bytes is) ∙ e) in
          subst (λ (x : Form × List ℕ). Takes Kind (b ∷ bytes) x.0 x.1) same (record { front = 0 ∷ []; spells = record { fits = tt; is = refl }; parts = ap (λ (c : ℕ). c ∷ bytes) is })
      | inr one ↦ elim (cases_eq b 2) [
        | inl is ↦
            let same = ok_is (Two, bytes) (f, rest) (sym (kind-two b bytes is) ∙ e) in
            subst (λ (x : Form × List ℕ). Takes Kind (b ∷ bytes) x.0 x.1) same (record { front = 2 ∷ []; spells = record { fits = tt; is = refl }; parts = ap (λ (c : ℕ). c ∷ bytes) is })
        | inr two ↦ let no-such = sym (kind-none b bytes one two) ∙ e in absurd cc
      ]
    ]

kind-stops : (bytes : List ℕ) → IsBytes bytes → (left : ℕ) → kind_at bytes ≡ Err left → Stops Kind kind_at bytes left
unfolding kind_at
kind-stops [] fits left e =
    let same : 0 ≡ left = cc in
    record { front = []; back = []; parts = refl; count = sym same; value = One; more = 0 ∷ []; begins = record { fits = tt; is = refl }; stuck = λ b t ext none. absurd cc }
kind-stops (c ∷ bytes) fits left e =
    elim (cases_eq c 0) [
      | inl is ↦ let no-such = sym (kind-one c bytes is) ∙ e in absurd cc
      | inr one ↦ elim (cases_eq c 2) [
        | inl is ↦ let no-such = sym (kind-two c bytes is) ∙ e in absurd cc
        | inr two ↦
            let err = sym (kind-none c bytes one two) ∙ e in
            let same : suc (length bytes) ≡ left = cc in
            record {
              front = [];
              back = c ∷ bytes;
              parts = refl;
              count = sym same;
              value = One;
              more = 0 ∷ [];
              begins = record { fits = tt; is = refl };
              stuck = λ b t ext e'. let is : c ≡ b = cc in kind-none b ext (λ z. one (is ∙ z)) (λ z. two (is ∙ z));
            }
      ]
    ]

kind-reads : Reads Kind kind_at
kind-reads = record { again = λ f t rest h. ap (λ (u : List ℕ). kind_at (u ++ rest)) h.is ∙ kind-ok f rest; found = kind-found; stops = kind-stops }

-- ---- the text of the space

abbrev Space : Form → List ℕ → List ℕ → Type 0
Space f = Spells (IsSpace f) (space_text f)

space-reads : (f : Form) → Reads (Space f) (space_at f)
unfolding space_at
space-reads One = changes (Nothing []) (Space One) (space_at One) (returns []) (λ s t h. record { fits = h.is; is = h.empty }) (λ s t h. record { is = h.fits; empty = h.is })
space-reads Two = text-reads Two

no-space : (f : Form) → IsSpace f []
no-space One = refl
no-space Two = omega arith

-- ---- the whole

abbrev made : Form → ℕ → List ℕ → List ℕ → List ℕ → Opening
made f n s b a = record { form = f; turns = n; space = s; before = b; after = a }

abbrev Text : Form → List ℕ → List ℕ → Type 0
Text f = Spells IsText (text f)

abbrev Last : Form → ℕ → List ℕ → List ℕ → Opening → List ℕ → Type 0
Last f n s b = Then (Text f) (λ a. Nothing (made f n s b a))

abbrev Texts : Form → ℕ → List ℕ → Opening → List ℕ → Type 0
Texts f n s = Then (Text f) (Last f n s)

abbrev Spaced : Form → ℕ → Opening → List ℕ → Type 0
Spaced f n = Then (Space f) (Texts f n)

abbrev Turned : Form → Opening → List ℕ → Type 0
Turned f = Then (Spells IsNumber (number f)) (Spaced f)

abbrev Whole : Opening → List ℕ → Type 0
Whole = Then Kind Turned

abbrev Some : (Opening → List ℕ → Type 0) → Type 0
Some S = (p : Opening) × (t : List ℕ) × S p t

some-last : (f : Form) (n : ℕ) (s b : List ℕ) → Some (Last f n s b)
some-last f n s b = (made f n s b [], text f [], record { first = []; front = text f []; back = []; one = record { fits = omega arith; is = refl }; two = record { is = refl; empty = refl }; parts = sym (append-nil (text f [])) })

some-texts : (f : Form) (n : ℕ) (s : List ℕ) → Some (Texts f n s)
some-texts f n s = let x = some-last f n s [] in (x.0, text f [] ++ x.1, record { first = []; front = text f []; back = x.1; one = record { fits = omega arith; is = refl }; two = x.2; parts = refl })

some-spaced : (f : Form) (n : ℕ) → Some (Spaced f n)
some-spaced f n = let x = some-texts f n [] in (x.0, space_text f [] ++ x.1, record { first = []; front = space_text f []; back = x.1; one = record { fits = no-space f; is = refl }; two = x.2; parts = refl })

some-turned : (f : Form) → Some (Turned f)
some-turned f = let x = some-spaced f 0 in (x.0, number f 0 ++ x.1, record { first = 0; front = number f 0; back = x.1; one = record { fits = omega arith; is = refl }; two = x.2; parts = refl })

last-reads : (f : Form) (n : ℕ) (s b : List ℕ) → Reads (Last f n s b) (λ bytes. text_at f bytes >>= λ a. Ok (made f n s b a.0, a.1))
last-reads f n s b = binds (Text f) (λ a. Nothing (made f n s b a)) (text_at f) (λ a rest. Ok (made f n s b a, rest)) (text-reads f) (λ a t h. returns (made f n s b a)) (λ a t h. (made f n s b a, [], record { is = refl; empty = refl }))

texts-read : (f : Form) (n : ℕ) (s : List ℕ) → Reads (Texts f n s) (λ bytes. text_at f bytes >>= λ b. text_at f b.1 >>= λ a. Ok (made f n s b.0 a.0, a.1))
texts-read f n s = binds (Text f) (Last f n s) (text_at f) (λ b rest. text_at f rest >>= λ a. Ok (made f n s b a.0, a.1)) (text-reads f) (λ b t h. last-reads f n s b) (λ b t h. some-last f n s b)

spaced-reads : (f : Form) (n : ℕ) → Reads (Spaced f n) (λ bytes. space_at f bytes >>= λ s. text_at f s.1 >>= λ b. text_at f b.1 >>= λ a. Ok (made f n s.0 b.0 a.0, a.1))
spaced-reads f n = binds (Space f) (Texts f n) (space_at f) (λ s rest. text_at f rest >>= λ b. text_at f b.1 >>= λ a. Ok (made f n s b.0 a.0, a.1)) (space-reads f) (λ s t h. texts-read f n s) (λ s t h. some-texts f n s)

turned-reads : (f : Form) → Reads (Turned f) (λ bytes. number_at f bytes >>= λ n. space_at f n.1 >>= λ s. text_at f s.1 >>= λ b. text_at f b.1 >>= λ a. Ok (made f n.0 s.0 b.0 a.0, a.1))
turned-reads f = binds (Spells IsNumber (number f)) (Spaced f) (number_at f) (λ n rest. space_at f rest >>= λ s. text_at f s.1 >>= λ b. text_at f b.1 >>= λ a. Ok (made f n s.0 b.0 a.0, a.1)) (number-reads f) (λ n t h. spaced-reads f n) (λ n t h. some-spaced f n)

whole-made : (p : Opening) (t : List ℕ) → Whole p t → IsFirst p t
whole-made p t h =
    let n = h.two in
    let s = n.two in
    let b = s.two in
    let a = b.two in
    let o = made h.first n.first s.first b.first a.first in
    let last : b.back ≡ text h.first a.first = a.parts ∙ (λ i. a.one.is i ++ a.two.empty i) ∙ append-nil (text h.first a.first) in
    let texts : s.back ≡ text h.first b.first ++ text h.first a.first = b.parts ∙ (λ i. b.one.is i ++ last i) in
    let spaced : n.back ≡ space_text h.first s.first ++ (text h.first b.first ++ text h.first a.first) = s.parts ∙ (λ i. s.one.is i ++ texts i) in
    let turned : h.back ≡ number h.first n.first ++ (space_text h.first s.first ++ (text h.first b.first ++ text h.first a.first)) = n.parts ∙ (λ i. n.one.is i ++ spaced i) in
    let all : t ≡ pair_payload o = h.parts ∙ (λ i. h.one.is i ++ turned i) in
    let whole : IsFirst o t = record { fits = record { turns = n.one.fits; space = s.one.fits; before = b.one.fits; after = a.one.fits }; is = all } in
    subst (λ (q : Opening). IsFirst q t) (sym a.two.is) whole

whole-parted : (p : Opening) (t : List ℕ) → IsFirst p t → Whole p t
whole-parted p t h =
    let a : Last p.form p.turns p.space p.before p (text p.form p.after) = record { first = p.after; front = text p.form p.after; back = []; one = record { fits = h.fits.after; is = refl }; two = record { is = refl; empty = refl }; parts = sym (append-nil (text p.form p.after)) } in
    let b : Texts p.form p.turns p.space p (text p.form p.before ++ text p.form p.after) = record { first = p.before; front = text p.form p.before; back = text p.form p.after; one = record { fits = h.fits.before; is = refl }; two = a; parts = refl } in
    let s : Spaced p.form p.turns p (space_text p.form p.space ++ (text p.form p.before ++ text p.form p.after)) = record { first = p.space; front = space_text p.form p.space; back = text p.form p.before ++ text p.form p.after; one = record { fits = h.fits.space; is = refl }; two = b; parts = refl } in
    record {
      first = p.form;
      front = pair_kind p.form ∷ [];
      back = number p.form p.turns ++ (space_text p.form p.space ++ (text p.form p.before ++ text p.form p.after));
      one = record { fits = tt; is = refl };
      two = record { first = p.turns; front = number p.form p.turns; back = space_text p.form p.space ++ (text p.form p.before ++ text p.form p.after); one = record { fits = h.fits.turns; is = refl }; two = s; parts = refl };
      parts = h.is;
    }

pub pair-reads : Reads IsFirst pair_at
unfolding pair_at
pair-reads = changes Whole IsFirst pair_at
    (binds Kind Turned kind_at (λ f rest. number_at f rest >>= λ n. space_at f n.1 >>= λ s. text_at f s.1 >>= λ b. text_at f b.1 >>= λ a. Ok (made f n.0 s.0 b.0 a.0, a.1)) kind-reads (λ f t h. turned-reads f) (λ f t h. some-turned f))
    whole-made whole-parted

-- ---- all of the bytes

module _ (bytes : List ℕ) (fits : (i : ℕ) → get_or bytes i 0 < 256) where
  pub pair-found : (p : Opening) → whole (pair_at bytes) ≡ Ok p → IsFirst p bytes
  pair-found p e = whole-found IsFirst pair_at pair-reads bytes (IsBytes-from bytes fits) p e

  pub pair-again : (p q : Opening) → IsFirst p bytes → whole (pair_at bytes) ≡ Ok q → q ≡ p
  pair-again p q h e = ok_is q p (sym e ∙ whole-again IsFirst pair_at pair-reads p bytes h)

  pub pair-wrong : (left : ℕ) → whole (pair_at bytes) ≡ Err left → GoesWrongAt IsPairPayload bytes (length bytes - left) × (left ≤ length bytes)
  pair-wrong left e = whole-wrong IsFirst pair_at pair-reads bytes (IsBytes-from bytes fits) left e
