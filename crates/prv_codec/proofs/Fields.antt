-- Bytes, words, lists, texts, inputs and logs are read as they are spelled.
use Rattle.std.proofs.Common.{◌≡◌, ℕ, zero, suc, ◌+◌, ◌-◌, ◌*◌, ◌/◌, ◌%◌, ◌^◌, ◌≤◌, ◌<◌, false, ◌&&◌, leb, ltb, List, [], ◌∷◌, ◌++◌, length, take, drop, Ok, Err, ◌⊎◌, inl, inr, ℤ, pos, negsuc, refl, sym, ap, subst, ◌∙◌, arith}
use Rattle.std.specs.Int.{w32}
use Rattle.std.specs.List.{flat_map, AllByRecursion}
use Rattle.std.specs.Prelude.{replicate}
use Rattle.std.proofs.lemmas.Bool.{cases_lt, cases_Bool, ltb-true, ltb-false, le-ltb, le-leb, leb-true, and_from, and_parts}
use Rattle.std.proofs.lemmas.Int.{to_z-of_z, of_z-to_z}
use Rattle.std.proofs.lemmas.List.{append-nil, length-append, nil_from_length, take_at, drop_at, take-append-drop, length-take, length-replicate}
use Rattle.std.proofs.lemmas.List.Concat.{flat_map-cons}
use borrow.Author.Gap.{read_sfits}
use Rattle.prv_model.specs.Words.{IsWord}
use Rattle.prv_model.specs.declared.limits.TheConstants.{MAX_PARAMS}
use Rattle.prv_cnf.specs.declared.literal.Lit.{Lit}
use Rattle.prv_check.specs.LogLines.{LogLine}
use Rattle.prv_codec.specs.declared.form.Form.{Form}
use Rattle.prv_codec.specs.declared.form.Form.TheVariants.{One, Two}
use Rattle.prv_codec.specs.Forms.{number, code, decoded, halved, word}
use Rattle.prv_codec.specs.Spelling.{counted, text, input, literal, line, log, IsNumber, IsCounted, IsShort, IsText, IsLiteral, IsLine, IsLog}
use Rattle.prv_codec.specs.Reading.{Read, ◌>>=◌, byte_at, number_at, word_at, items_at, counted_at, front_at, text_at, input_at, literal_at, line_at, log_at}
use Rattle.prv_codec.proofs.Languages.{IsBytes, Stops, Takes, Reads, Then, Nothing, Spells, binds, returns, changes, ok_is}
use Rattle.prv_codec.proofs.Numbers.{number-reads, guard_ok, guard_err}

-- ---- one byte

abbrev pub IsWithin : ℕ → ℕ → ℕ → Type 0
IsWithin low high b = (low ≤ b) × (b ≤ high)

abbrev pub Byte : ℕ → ℕ → ℕ → List ℕ → Type 0
Byte low high = Spells (IsWithin low high) (λ b. b ∷ [])

module _ (low high : ℕ) (ordered : low ≤ high) where
  byte-ok : (b : ℕ) (rest : List ℕ) → IsWithin low high b → byte_at low high (b ∷ rest) ≡ Ok (b, rest)
  unfolding byte_at
  byte-ok b rest h = rw (and_from (leb low b) (leb b high) (le-leb low b h.0) (le-leb b high h.1)) refl

  byte-again : (b : ℕ) (t rest : List ℕ) → Byte low high b t → byte_at low high (t ++ rest) ≡ Ok (b, rest)
  byte-again b t rest h = ap (λ (u : List ℕ). byte_at low high (u ++ rest)) h.is ∙ byte-ok b rest h.fits

  byte-stuck : (c : ℕ) (rest : List ℕ) → (leb low c && leb c high) ≡ false → byte_at low high (c ∷ rest) ≡ Err (suc (length rest))
  unfolding byte_at
  byte-stuck c rest h = rw h refl

  byte-found : (bytes : List ℕ) → IsBytes bytes → (b : ℕ) (rest : List ℕ) → byte_at low high bytes ≡ Ok (b, rest) → Takes (Byte low high) bytes b rest
  unfolding byte_at
  byte-found [] fits b rest e = absurd cc
  byte-found (c ∷ bytes) fits b rest e =
      elim (cases_Bool (leb low c && leb c high)) [
        | inl within ↦
            let p = and_parts (leb low c) (leb c high) within in
            let same = ok_is (c, bytes) (b, rest) (sym (byte-ok c bytes (leb-true low c p.0, leb-true c high p.1)) ∙ e) in
            subst (λ (x : ℕ × List ℕ). Takes (Byte low high) (c ∷ bytes) x.0 x.1) same (record { front = c ∷ []; spells = record { fits = (leb-true low c p.0, leb-true c high p.1); is = refl }; parts = refl })
        | inr outside ↦ let no-such = sym (byte-stuck c bytes outside) ∙ e in absurd cc
      ]

  byte-stops : (bytes : List ℕ) → IsBytes bytes → (left : ℕ) → byte_at low high bytes ≡ Err left → Stops (Byte low high) (byte_at low high) bytes left
  unfolding byte_at
  byte-stops [] fits left e =
      let same : 0 ≡ left = cc in
      subst (Stops (Byte low high) (byte_at low high) []) same
      (record { front = []; back = []; parts = refl; count = refl; value = low; more = low ∷ []; begins = record { fits = (omega arith, ordered); is = refl }; stuck = λ b t ext none. absurd cc })
  byte-stops (c ∷ bytes) fits left e =
      elim (cases_Bool (leb low c && leb c high)) [
        | inl within ↦
            let p = and_parts (leb low c) (leb c high) within in
            let no-such = sym (byte-ok c bytes (leb-true low c p.0, leb-true c high p.1)) ∙ e in
            absurd cc
        | inr outside ↦
            let err = sym (byte-stuck c bytes outside) ∙ e in
            let same : suc (length bytes) ≡ left = cc in
            record {
              front = [];
              back = c ∷ bytes;
              parts = refl;
              count = sym same;
              value = low;
              more = low ∷ [];
              begins = record { fits = (omega arith, ordered); is = refl };
              stuck = λ b t ext e'. let is : c ≡ b = cc in byte-stuck b ext (ap (λ (d : ℕ). leb low d && leb d high) (sym is) ∙ outside);
            }
      ]

  pub byte-reads : Reads (Byte low high) (byte_at low high)
  byte-reads = record { again = byte-again; found = byte-found; stops = byte-stops }

-- ---- one value made of another

module _ {A B : Type 0} (Fits : A → Type 0) (spell : A → List ℕ) (Is : B → Type 0) (to : A → B) (from : B → A) (r : List ℕ → Read A)
    (reads : Reads (Spells Fits spell) r) (there : (a : A) → Fits a → Is (to a) × (from (to a) ≡ a)) (back : (b : B) → Is b → Fits (from b) × (to (from b) ≡ b)) where
  made : (b : B) (t : List ℕ) → Then (Spells Fits spell) (λ a. Nothing (to a)) b t → Spells Is (λ x. spell (from x)) b t
  made b t h =
      let here = there h.first h.one.fits in
      record {
        fits = subst Is (sym h.two.is) here.0;
        is = h.parts ∙ (λ i. h.one.is i ++ h.two.empty i) ∙ append-nil (spell h.first) ∙ ap spell (sym (ap from h.two.is ∙ here.1));
      }

  parted : (b : B) (t : List ℕ) → Spells Is (λ x. spell (from x)) b t → Then (Spells Fits spell) (λ a. Nothing (to a)) b t
  parted b t h =
      let here = back b h.fits in
      record { first = from b; front = t; back = []; one = record { fits = here.0; is = h.is }; two = record { is = sym here.1; empty = refl }; parts = sym (append-nil t) }

  pub maps : Reads (Spells Is (λ x. spell (from x))) (λ bytes. r bytes >>= λ x. Ok (to x.0, x.1))
  maps = changes (Then (Spells Fits spell) (λ a. Nothing (to a))) (Spells Is (λ x. spell (from x))) (λ bytes. r bytes >>= λ x. Ok (to x.0, x.1))
      (binds (Spells Fits spell) (λ a. Nothing (to a)) r (λ a rest. Ok (to a, rest)) reads (λ a t h. returns (to a)) (λ a t h. (to a, [], record { is = refl; empty = refl })))
      made parted

-- ---- words

code-fits : (form : Form) (v : ℤ) → IsWord v → IsNumber (code form v)
unfolding code
code-fits One (pos n) h = let s = h.sfits in omega arith
code-fits One (negsuc n) h = let s = h.sfits in omega arith
code-fits Two (pos n) h = let s = h.sfits in omega arith
code-fits Two (negsuc n) h = let s = h.sfits in omega arith

code-back : (form : Form) (v : ℤ) → IsWord v → decoded form (code form v) ≡ v
unfolding code decoded
code-back One v h = to_z-of_z w32 v h
code-back Two (pos n) h =
    let even : 2 * n % 2 ≡ 0 = omega arith in
    let half : 2 * n / 2 ≡ n = omega arith in
    ap (λ (k : ℕ). halved k (2 * n / 2)) even ∙ ap pos half
code-back Two (negsuc n) h =
    let odd : (2 * n + 1) % 2 ≡ 1 = omega arith in
    let half : (2 * n + 1) / 2 ≡ n = omega arith in
    ap (λ (k : ℕ). halved k ((2 * n + 1) / 2)) odd ∙ ap negsuc half

halved-word : (k half : ℕ) → half < 2 ^ 31 → IsWord (halved k half)
halved-word zero half h = record { sfits = h }
halved-word (suc k) half h = record { sfits = h }

decoded-word : (form : Form) (n : ℕ) → IsNumber n → IsWord (decoded form n)
unfolding decoded
decoded-word One n h = read_sfits w32 n
decoded-word Two n h = halved-word (n % 2) (n / 2) (omega arith)

parity : (n : ℕ) → (n % 2 ≡ 0) ⊎ (n % 2 ≡ 1)
parity n = elim (cases_lt (n % 2) 1) [ inl even ↦ inl (omega arith) | inr odd ↦ inr (omega arith) ]

decoded-back : (form : Form) (n : ℕ) → IsNumber n → code form (decoded form n) ≡ n
unfolding code decoded
decoded-back One n h = of_z-to_z w32 n h
decoded-back Two n h =
    elim (parity n) [
      | inl even ↦ ap (λ (k : ℕ). code Two (halved k (n / 2))) even ∙ omega arith
      | inr odd ↦ ap (λ (k : ℕ). code Two (halved k (n / 2))) odd ∙ omega arith
    ]

pub word-reads : (form : Form) → Reads (Spells IsWord (word form)) (word_at form)
unfolding word_at
word-reads form = maps IsNumber (number form) IsWord (decoded form) (code form) (number_at form) (number-reads form)
    (λ n h. (decoded-word form n h, decoded-back form n h)) (λ v h. (code-fits form v h, code-back form v h))

pub literal-reads : (form : Form) → Reads (Spells IsLiteral (literal form)) (literal_at form)
unfolding literal_at
literal-reads form = maps IsWord (word form) IsLiteral (λ v. record { 0 = v }) (λ (l : Lit). l.0) (word_at form) (word-reads form) (λ v h. (h, refl)) (λ l h. (h, refl))

-- ---- lists

module _ {A : Type 0} (Fits : A → Type 0) (spell : A → List ℕ) (r : List ℕ → Read A) (reads : Reads (Spells Fits spell) r) where
  abbrev AreSo : ℕ → List A → Type 0
  AreSo n xs = (length xs ≡ n) × AllByRecursion Fits xs

  abbrev Items : ℕ → List A → List ℕ → Type 0
  Items n = Spells (AreSo n) (flat_map spell)

  copies : (a : A) → Fits a → (n : ℕ) → (xs : List A) × AreSo n xs
  copies a h zero = ([], (refl, tt))
  copies a h (suc n) = let c = copies a h n in (a ∷ c.0, (ap suc c.1.0, (h, c.1.1)))

  abbrev Step : ℕ → A → List A → List ℕ → Type 0
  Step n x = Then (Items n) (λ xs. Nothing (x ∷ xs))

  no-items : Reads (Items 0) (items_at r 0)
  unfolding items_at
  no-items = changes (Nothing []) (Items 0) (items_at r 0) (returns [])
      (λ xs t h. record { fits = (ap length h.is, subst (AllByRecursion Fits) (sym h.is) tt); is = h.empty ∙ ap (flat_map spell) (sym h.is) })
      (λ xs t h. let none = nil_from_length xs h.fits.0 in record { is = none; empty = h.is ∙ ap (flat_map spell) none })

  item-made : (n : ℕ) (xs : List A) (t : List ℕ) → Then (Spells Fits spell) (Step n) xs t → Items (suc n) xs t
  item-made n xs t h =
      let others = h.two.first in
      record {
        fits = subst (AreSo (suc n)) (sym h.two.two.is) (ap suc h.two.one.fits.0, (h.one.fits, h.two.one.fits.1));
        is = h.parts ∙ (λ i. h.one.is i ++ (h.two.parts ∙ (λ j. h.two.one.is j ++ h.two.two.empty j) ∙ append-nil (flat_map spell others)) i) ∙ sym (flat_map-cons spell h.first others) ∙ ap (flat_map spell) (sym h.two.two.is);
      }

  item-parted : (n : ℕ) (xs : List A) (t : List ℕ) → Items (suc n) xs t → Then (Spells Fits spell) (Step n) xs t
  item-parted n [] t h = absurd (omega (arith, h.fits.0))
  item-parted n (x ∷ xs) t h = record {
    first = x;
    front = spell x;
    back = flat_map spell xs;
    one = record { fits = h.fits.1.0; is = refl };
    two = record { first = xs; front = flat_map spell xs; back = []; one = record { fits = (omega (arith, h.fits.0), h.fits.1.1); is = refl }; two = record { is = refl; empty = refl }; parts = sym (append-nil (flat_map spell xs)) };
    parts = h.is ∙ flat_map-cons spell x xs;
  }

  pub items-read : (n : ℕ) → Reads (Items n) (items_at r n)
  unfolding items_at
  items-read zero = no-items
  items-read (suc n) = changes (Then (Spells Fits spell) (Step n)) (Items (suc n)) (items_at r (suc n))
      (binds (Spells Fits spell) (Step n) r (λ x rest. items_at r n rest >>= λ o. Ok (x ∷ o.0, o.1)) reads
      (λ x t h. binds (Items n) (λ xs. Nothing (x ∷ xs)) (items_at r n) (λ xs rest. Ok (x ∷ xs, rest)) (items-read n) (λ xs u g. returns (x ∷ xs)) (λ xs u g. (x ∷ xs, [], record { is = refl; empty = refl })))
      (λ x t h. let c = copies x h.fits n in
      (x ∷ c.0, flat_map spell c.0, record { first = c.0; front = flat_map spell c.0; back = []; one = record { fits = c.1; is = refl }; two = record { is = refl; empty = refl }; parts = sym (append-nil (flat_map spell c.0)) })))
      (item-made n) (item-parted n)

  -- behind a count
  module _ (form : Form) (some : A) (some-fits : Fits some) where
    counted-made : (xs : List A) (t : List ℕ) → Then (Spells IsNumber (number form)) Items xs t → Spells (IsCounted Fits) (counted form spell) xs t
    counted-made xs t h = record {
      fits = record { few = subst IsNumber (sym h.two.fits.0) h.one.fits; each = h.two.fits.1 };
      is = h.parts ∙ (λ i. (h.one.is ∙ ap (number form) (sym h.two.fits.0)) i ++ h.two.is i);
    }

    counted-parted : (xs : List A) (t : List ℕ) → Spells (IsCounted Fits) (counted form spell) xs t → Then (Spells IsNumber (number form)) Items xs t
    counted-parted xs t h = record {
      first = length xs;
      front = number form (length xs);
      back = flat_map spell xs;
      one = record { fits = h.fits.few; is = refl };
      two = record { fits = (refl, h.fits.each); is = refl };
      parts = h.is;
    }

    pub counted-reads : Reads (Spells (IsCounted Fits) (counted form spell)) (counted_at form r)
    unfolding counted_at
    counted-reads = changes (Then (Spells IsNumber (number form)) Items) (Spells (IsCounted Fits) (counted form spell)) (counted_at form r)
        (binds (Spells IsNumber (number form)) Items (number_at form) (items_at r) (number-reads form) (λ n t h. items-read n)
        (λ n t h. let c = copies some some-fits n in (c.0, flat_map spell c.0, record { fits = c.1; is = refl })))
        counted-made counted-parted

-- ---- texts

abbrev pub Front : ℕ → List ℕ → List ℕ → Type 0
Front n = Spells (λ b. length b ≡ n) (λ b. b)

module _ (n : ℕ) where
  front-ok : (b rest : List ℕ) → length b ≡ n → front_at n (b ++ rest) ≡ Ok (b, rest)
  front-ok b rest h =
      let long : ltb (length (b ++ rest)) n ≡ false = le-ltb _ _ (omega (arith, length-append b rest)) in
      rw (long, take_at b rest n h, drop_at b rest n h) refl

  front-found : (bytes : List ℕ) → IsBytes bytes → (b rest : List ℕ) → front_at n bytes ≡ Ok (b, rest) → Takes (Front n) bytes b rest
  front-found bytes fits b rest e =
      let g = guard_ok (ltb (length bytes) n) 0 (take n bytes, drop n bytes) (b, rest) e in
      let long : n ≤ length bytes = ltb-false _ _ g.0 in
      subst (λ (x : List ℕ × List ℕ). Takes (Front n) bytes x.0 x.1) g.1
      (record { front = take n bytes; spells = record { fits = omega (arith, length-take n bytes); is = refl }; parts = sym (take-append-drop n bytes) })

  front-stops : (bytes : List ℕ) → IsBytes bytes → (left : ℕ) → front_at n bytes ≡ Err left → Stops (Front n) (front_at n) bytes left
  front-stops bytes fits left e =
      let g = guard_err (ltb (length bytes) n) 0 left (take n bytes, drop n bytes) e in
      let short : length bytes < n = ltb-true _ _ g.0 in
      let more : List ℕ = replicate (n - length bytes) 0 in
      record {
        front = bytes;
        back = [];
        parts = sym (append-nil bytes);
        count = sym g.1;
        value = bytes ++ more;
        more = more;
        begins = record { fits = omega (arith, length-append bytes more, length-replicate {A = ℕ} (n - length bytes) 0); is = refl };
        stuck = λ b t ext none. absurd cc;
      }

  pub front-reads : Reads (Front n) (front_at n)
  front-reads = record { again = λ b t rest h. ap (λ (u : List ℕ). front_at n (u ++ rest)) h.is ∙ front-ok b rest h.fits; found = front-found; stops = front-stops }

pub text-reads : (form : Form) → Reads (Spells IsText (text form)) (text_at form)
unfolding text_at
text-reads form = changes (Then (Spells IsNumber (number form)) Front) (Spells IsText (text form)) (text_at form)
    (binds (Spells IsNumber (number form)) Front (number_at form) front_at (number-reads form) (λ n t h. front-reads n) (λ n t h. let b : List ℕ = replicate n 0 in (b, b, record { fits = length-replicate {A = ℕ} n 0; is = refl })))
    (λ b t h. record { fits = subst IsNumber (sym h.two.fits) h.one.fits; is = h.parts ∙ (λ i. (h.one.is ∙ ap (number form) (sym h.two.fits)) i ++ h.two.is i) })
    (λ b t h. record { first = length b; front = number form (length b); back = b; one = record { fits = h.fits; is = refl }; two = record { fits = refl; is = refl }; parts = h.is })

-- ---- inputs

pub input-reads : (form : Form) → Reads (Spells IsShort (input form)) (input_at form)
unfolding input_at
input-reads form =
    let words : ℕ → List ℤ → List ℕ → Type 0 = Items IsWord (word form) (word_at form) (word-reads form) in
    changes (Then (Byte 1 MAX_PARAMS) words) (Spells IsShort (input form)) (input_at form)
    (binds (Byte 1 MAX_PARAMS) words (byte_at 1 MAX_PARAMS) (items_at (word_at form)) (byte-reads 1 MAX_PARAMS (omega arith)) (λ n t h. items-read IsWord (word form) (word_at form) (word-reads form) n)
    (λ n t h. let c = copies IsWord (word form) (word_at form) (word-reads form) (pos 0) (record { sfits = omega arith }) n in (c.0, flat_map (word form) c.0, record { fits = c.1; is = refl })))
    (λ x t h. record {
      fits = record { some = subst (λ (k : ℕ). 1 ≤ k) (sym h.two.fits.0) h.one.fits.0; few = subst (λ (k : ℕ). k ≤ MAX_PARAMS) (sym h.two.fits.0) h.one.fits.1; words = h.two.fits.1 };
      is = h.parts ∙ (λ i. (h.one.is ∙ ap (λ (k : ℕ). k ∷ []) (sym h.two.fits.0)) i ++ h.two.is i);
    })
    (λ x t h. record { first = length x; front = length x ∷ []; back = flat_map (word form) x; one = record { fits = (h.fits.some, h.fits.few); is = refl }; two = record { fits = (refl, h.fits.words); is = refl }; parts = h.is })

-- ---- lines and logs

module _ (form : Form) where
  abbrev Clause : List Lit → List ℕ → Type 0
  Clause = Spells (IsCounted IsLiteral) (counted form (literal form))

  abbrev Hints : List ℕ → List ℕ → Type 0
  Hints = Spells (IsCounted IsNumber) (counted form (number form))

  abbrev line_of : List Lit → List ℕ → LogLine
  line_of clause hints = record { clause = clause; hints = hints }

  abbrev Line : LogLine → List ℕ → Type 0
  Line = Then Clause (λ c. Then Hints (λ h. Nothing (line_of c h)))

  abbrev no-line : LogLine
  no-line = line_of [] []

  no-line-fits : IsLine no-line
  no-line-fits = record { clause = record { few = omega arith; each = tt }; hints = record { few = omega arith; each = tt } }

  line-made : (s : LogLine) (t : List ℕ) → Line s t → Spells IsLine (line form) s t
  line-made s t h =
      let hints = h.two in
      let spelled : t ≡ line form (line_of h.first hints.first) = h.parts ∙ (λ i. h.one.is i ++ (hints.parts ∙ (λ j. hints.one.is j ++ hints.two.empty j) ∙ append-nil (counted form (number form) hints.first)) i) in
      record { fits = subst IsLine (sym hints.two.is) (record { clause = h.one.fits; hints = hints.one.fits }); is = spelled ∙ ap (line form) (sym hints.two.is) }

  line-parted : (s : LogLine) (t : List ℕ) → Spells IsLine (line form) s t → Line s t
  line-parted s t h = record {
    first = s.clause;
    front = counted form (literal form) s.clause;
    back = counted form (number form) s.hints;
    one = record { fits = h.fits.clause; is = refl };
    two = record { first = s.hints; front = counted form (number form) s.hints; back = []; one = record { fits = h.fits.hints; is = refl }; two = record { is = refl; empty = refl }; parts = sym (append-nil (counted form (number form) s.hints)) };
    parts = h.is;
  }

  clause-reads : Reads Clause (counted_at form (literal_at form))
  clause-reads = counted-reads IsLiteral (literal form) (literal_at form) (literal-reads form) form (record { 0 = pos 0 }) (record { sfits = omega arith })

  hints-read : Reads Hints (counted_at form (number_at form))
  hints-read = counted-reads IsNumber (number form) (number_at form) (number-reads form) form 0 (omega arith)

  pub line-reads : Reads (Spells IsLine (line form)) (line_at form)
  unfolding line_at
  line-reads = changes Line (Spells IsLine (line form)) (line_at form)
      (binds Clause (λ c. Then Hints (λ h. Nothing (line_of c h))) (counted_at form (literal_at form)) (λ c rest. counted_at form (number_at form) rest >>= λ h. Ok (line_of c h.0, h.1)) clause-reads
      (λ c t g. binds Hints (λ h. Nothing (line_of c h)) (counted_at form (number_at form)) (λ h rest. Ok (line_of c h, rest)) hints-read (λ h u k. returns (line_of c h)) (λ h u k. (line_of c h, [], record { is = refl; empty = refl })))
      (λ c t g. (
        line_of c [],
        counted form (number form) [],
        record { first = []; front = counted form (number form) []; back = []; one = record { fits = no-line-fits.hints; is = refl }; two = record { is = refl; empty = refl }; parts = sym (append-nil (counted form (number form) [])) },
      )))
      line-made line-parted

  pub log-reads : Reads (Spells IsLog (log form)) (log_at form)
  log-reads = counted-reads IsLine (line form) (line_at form) line-reads form no-line no-line-fits
