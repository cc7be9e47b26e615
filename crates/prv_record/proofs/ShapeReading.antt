-- Each shape is read as its fields are spelled.
use Rattle.std.proofs.Common.{◌≡◌, ℕ, zero, suc, ◌≤◌, ◌<◌, Bool, true, false, cond, eqb, ltb, List, [], ◌∷◌, ◌++◌, length, Option, Some, None, Result, Ok, Err, ◌⊎◌, inl, inr, ℤ, pos, refl, sym, ap, subst, ◌∙◌, arith}
use Rattle.std.specs.List.{flat_map, AllByRecursion}
use Rattle.std.proofs.Math.Dec.{eqb-suc-zero}
use Rattle.std.proofs.lemmas.Bool.{cases_lt, lt-ltb, le-ltb}
use Rattle.std.proofs.lemmas.List.{append-nil}
use Rattle.std.proofs.lemmas.List.Concat.{flat_map-cons}
use Rattle.prv_model.specs.declared.entry.Reason.{Reason}
use Rattle.prv_model.specs.declared.entry.Reason.TheVariants.{Lines, Numbers, Clauses, Wide, Literals}
use Rattle.prv_check.specs.LogLines.{LogLine}
use Rattle.prv_codec.specs.declared.form.Form.{Form}
use Rattle.prv_codec.specs.Spelling as spell
use Rattle.prv_codec.specs.Reading.{Read, ◌>>=◌, byte_at, input_at, log_at}
use Rattle.prv_codec.proofs.Languages.{Reads, Then, GoesOn, Nothing, Spells, binds, returns, changes}
use Rattle.prv_codec.proofs.Fields.{Byte, byte-reads, input-reads, log-reads}
use Rattle.prv_part.specs.declared.shape.Shape.{Shape}
use Rattle.prv_part.specs.declared.shape.Shape.TheVariants as s
use Rattle.prv_record.specs.Fields.{Field, Code, Number, Long, Words, Log, Line, undecided_fields, behind, shape_fields, CountsLines}
use Rattle.prv_record.specs.Spelling.{spelling, IsSpelled}
use Rattle.prv_record.specs.Reading.{undecided_at, empty_at, unrun_at, run_at, run_reason, stuck_at, whole_at, split_at, beyond_at, content_at}
use Rattle.prv_record.specs.declared.content.Content.{Content}
use Rattle.prv_record.specs.declared.content.Undecided.{Undecided}
use Rattle.prv_record.specs.declared.raw.RawOther.{RawOther}
use Rattle.prv_record.specs.declared.raw.RawOther.TheVariants as o
use Rattle.prv_record.specs.declared.raw.Proof.{Proof}
use Rattle.prv_record.specs.declared.raw.Proof.TheVariants as p
use Rattle.prv_record.proofs.ContentReading.{some, some-is, one-field, Why, undecided-reads, some-why}

abbrev content : Option (List ℤ) → RawOther → Proof → Content
content member other proof = record { member = member; other = other; proof = proof }

abbrev table : Shape → Content → Option (List Field)
table shape c = shape_fields shape c.member c.other c.proof

-- ---- which contents have fields

empty-is : (m : Option (List ℤ)) (other : RawOther) (proof : Proof) (fields : List Field) → shape_fields s.Empty m other proof ≡ Some fields
    → (log : List LogLine) × (content m other proof ≡ content None o.None (p.Log log)) × (Log log ∷ [] ≡ fields)
empty-is None o.None (p.Log log) fields e = (log, refl, some-is (Log log ∷ []) fields e)
empty-is m other proof fields e = absurd cc

beyond-is : (m : Option (List ℤ)) (other : RawOther) (proof : Proof) (fields : List Field) → shape_fields s.Beyond m other proof ≡ Some fields
    → (x : List ℤ) × (content m other proof ≡ content (Some x) o.None p.None) × (Words x ∷ [] ≡ fields)
beyond-is (Some x) o.None p.None fields e = (x, refl, some-is (Words x ∷ []) fields e)
beyond-is m other proof fields e = absurd cc

whole-is : (m : Option (List ℤ)) (other : RawOther) (proof : Proof) (fields : List Field) → shape_fields s.Whole m other proof ≡ Some fields
    → ((x : List ℤ) × (content m other proof ≡ content (Some x) o.None p.None) × (Words x ∷ Code 0 ∷ [] ≡ fields))
    ⊎ ((x : List ℤ) × (log : List LogLine) × (content m other proof ≡ content (Some x) o.None (p.Log log)) × (Words x ∷ Code 1 ∷ Log log ∷ [] ≡ fields))
whole-is (Some x) o.None p.None fields e = inl (x, refl, some-is (Words x ∷ Code 0 ∷ []) fields e)
whole-is (Some x) o.None (p.Log log) fields e = inr (x, log, refl, some-is (Words x ∷ Code 1 ∷ Log log ∷ []) fields e)
whole-is m other proof fields e = absurd cc

behind-is : (x : List ℤ) (fs : Option (List Field)) (fields : List Field) → behind x fs ≡ Some fields → (gs : List Field) × (fs ≡ Some gs) × (Words x ∷ gs ≡ fields)
behind-is x None fields e = absurd cc
behind-is x (Some gs) fields e = (gs, refl, some-is (Words x ∷ gs) fields e)

split-is : (m : Option (List ℤ)) (other : RawOther) (proof : Proof) (fields : List Field) → shape_fields s.Split m other proof ≡ Some fields
    → ((x : List ℤ) × (y : List ℤ) × (content m other proof ≡ content (Some x) (o.Member y) p.None) × (Words x ∷ Code 0 ∷ Words y ∷ [] ≡ fields))
    ⊎ ((x : List ℤ) × (why : Reason) × (gs : List Field) × (content m other proof ≡ content (Some x) (o.Reason why) proof) × (undecided_fields why proof ≡ Some gs) × (Words x ∷ gs ≡ fields))
split-is (Some x) (o.Member y) p.None fields e = inl (x, y, refl, some-is (Words x ∷ Code 0 ∷ Words y ∷ []) fields e)
split-is (Some x) (o.Reason why) proof fields e = let b = behind-is x (undecided_fields why proof) fields e in inr (x, why, b.0, refl, b.1, b.2)
split-is m other proof fields e = absurd cc

stuck-is : (m : Option (List ℤ)) (other : RawOther) (proof : Proof) (fields : List Field) → shape_fields s.Stuck m other proof ≡ Some fields
    → ((why : Reason) × (content m other proof ≡ content None (o.Reason why) proof) × (undecided_fields why proof ≡ Some fields))
    ⊎ ((x : List ℤ) × (code : ℕ) × (4 ≤ code) × (code ≤ 5) × (content m other proof ≡ content (Some x) (o.Reason (run_reason code)) p.None) × (Code code ∷ Words x ∷ [] ≡ fields))
stuck-is None (o.Reason why) proof fields e = inl (why, refl, e)
stuck-is (Some x) (o.Reason Wide) p.None fields e = inr (x, 4, omega arith, omega arith, refl, some-is (Code 4 ∷ Words x ∷ []) fields e)
stuck-is (Some x) (o.Reason Literals) p.None fields e = inr (x, 5, omega arith, omega arith, refl, some-is (Code 5 ∷ Words x ∷ []) fields e)
stuck-is m other proof fields e = absurd cc

-- each reason has a byte of 1 to 3
code-of : (why : Reason) (proof : Proof) (gs : List Field) → undecided_fields why proof ≡ Some gs → (code : ℕ) × (1 ≤ code) × (code ≤ 3) × (hs : List Field) × (Code code ∷ hs ≡ gs)
code-of (Lines budget) (p.Spent log None) gs e = (1, omega arith, omega arith, Number budget ∷ Log log ∷ [], some-is (Code 1 ∷ Number budget ∷ Log log ∷ []) gs e)
code-of (Numbers lines) (p.Spent log (Some next)) gs e = (2, omega arith, omega arith, Log log ∷ Line next ∷ [], some-is (Code 2 ∷ Log log ∷ Line next ∷ []) gs e)
code-of (Clauses count) p.None gs e = (3, omega arith, omega arith, Long count ∷ [], some-is (Code 3 ∷ Long count ∷ []) gs e)
code-of why proof gs e = absurd cc

module _ (form : Form) where
  -- the content has the fields of a shape, of which some stand before and the bytes are the others
  pub record Rest (shape : Shape) (front : List Field) (c : Content) (t : List ℕ) : Type 0 where
    pub fields : List Field
    pub are : table shape c ≡ Some (front ++ fields)
    pub each : AllByRecursion IsSpelled fields
    pub is : t ≡ flat_map (spelling form) fields
    pub lines : CountsLines c.other c.proof

  abbrev pub Has : Shape → Content → List ℕ → Type 0
  Has shape = Rest shape []

  abbrev Logged : List LogLine → List ℕ → Type 0
  Logged = Spells spell.IsLog (spell.log form)

  abbrev Shown : List ℤ → List ℕ → Type 0
  Shown = Spells spell.IsShort (spell.input form)

  no-log : spell.IsLog []
  no-log = record { few = omega arith; each = tt }

  abbrev one-word : List ℤ
  one-word = pos 0 ∷ []

  -- a last field
  module _ {A : Type 0} (shape : Shape) (front : List Field) (Fits : A → Type 0) (spell : A → List ℕ) (field : A → Field) (to : A → Content)
      (fits : (a : A) → Fits a → IsSpelled (field a)) (unfits : (a : A) → IsSpelled (field a) → Fits a) (spells : (a : A) → spelling form (field a) ≡ spell a)
      (there : (a : A) → table shape (to a) ≡ Some (front ++ field a ∷ [])) (lines : (a : A) → CountsLines (to a).other (to a).proof)
      (only : (c : Content) (fields : List Field) → table shape c ≡ Some (front ++ fields) → (a : A) × (c ≡ to a) × (field a ∷ [] ≡ fields)) where
    last-made : (c : Content) (t : List ℕ) → Then (Spells Fits spell) (λ a. Nothing (to a)) c t → Rest shape front c t
    last-made c t h =
        let made : Rest shape front (to h.first) t = record {
          fields = field h.first ∷ [];
          are = there h.first;
          each = (fits h.first h.one.fits, tt);
          is = h.parts ∙ (λ i. h.one.is i ++ h.two.empty i) ∙ append-nil (spell h.first) ∙ sym (spells h.first) ∙ sym (one-field form (field h.first));
          lines = lines h.first;
        } in
        subst (λ (d : Content). Rest shape front d t) (sym h.two.is) made

    last-parted : (c : Content) (t : List ℕ) → Rest shape front c t → Then (Spells Fits spell) (λ a. Nothing (to a)) c t
    last-parted c t h =
        let a = only c h.fields h.are in
        let each = subst (AllByRecursion IsSpelled) (sym a.2) h.each in
        record {
          first = a.0;
          front = t;
          back = [];
          one = record { fits = unfits a.0 each.0; is = h.is ∙ ap (flat_map (spelling form)) (sym a.2) ∙ one-field form (field a.0) ∙ spells a.0 };
          two = record { is = a.1; empty = refl };
          parts = sym (append-nil t);
        }

    last-reads : (r : List ℕ → Read A) → Reads (Spells Fits spell) r → Reads (Rest shape front) (λ bytes. r bytes >>= λ x. Ok (to x.0, x.1))
    last-reads r reads = changes (Then (Spells Fits spell) (λ a. Nothing (to a))) (Rest shape front) (λ bytes. r bytes >>= λ x. Ok (to x.0, x.1))
        (binds (Spells Fits spell) (λ a. Nothing (to a)) r (λ a rest. Ok (to a, rest)) reads (λ a t h. returns (to a)) (λ a t h. (to a, [], record { is = refl; empty = refl })))
        last-made last-parted

  -- a field, and others behind it
  module _ {A : Type 0} (shape : Shape) (front : List Field) (Fits : A → Type 0) (spell : A → List ℕ) (field : A → Field) (around : A → List Field)
      (fits : (a : A) → Fits a → IsSpelled (field a)) (spells : (a : A) → spelling form (field a) ≡ spell a)
      (next : (a : A) (fields : List Field) → around a ++ fields ≡ front ++ field a ∷ fields)
      (only : (c : Content) (fields : List Field) → table shape c ≡ Some (front ++ fields) → AllByRecursion IsSpelled fields → (a : A) × Fits a × (others : List Field) × (field a ∷ others ≡ fields)) where
    step-made : (c : Content) (t : List ℕ) → Then (Spells Fits spell) (λ a. Rest shape (around a)) c t → Rest shape front c t
    step-made c t h = record {
      fields = field h.first ∷ h.two.fields;
      are = h.two.are ∙ ap some (next h.first h.two.fields);
      each = (fits h.first h.one.fits, h.two.each);
      is = h.parts ∙ (λ i. (h.one.is ∙ sym (spells h.first)) i ++ h.two.is i) ∙ sym (flat_map-cons (spelling form) (field h.first) h.two.fields);
      lines = h.two.lines;
    }

    step-parted : (c : Content) (t : List ℕ) → Rest shape front c t → Then (Spells Fits spell) (λ a. Rest shape (around a)) c t
    step-parted c t h =
        let a = only c h.fields h.are h.each in
        let each = subst (AllByRecursion IsSpelled) (sym a.3) h.each in
        record {
          first = a.0;
          front = spell a.0;
          back = flat_map (spelling form) a.2;
          one = record { fits = a.1; is = refl };
          two = record { fields = a.2; are = h.are ∙ ap (λ (fs : List Field). some (front ++ fs)) (sym a.3) ∙ ap some (sym (next a.0 a.2)); each = each.1; is = refl; lines = h.lines };
          parts = h.is ∙ ap (flat_map (spelling form)) (sym a.3) ∙ flat_map-cons (spelling form) (field a.0) a.2 ∙ ap (λ (u : List ℕ). u ++ flat_map (spelling form) a.2) (spells a.0);
        }

    step-reads : (r : List ℕ → Read A) (f : A → List ℕ → Read Content) → Reads (Spells Fits spell) r → ((a : A) → Fits a → Reads (Rest shape (around a)) (f a)) → ((a : A) → Fits a → (c : Content) × (t : List ℕ) × Rest shape (around a) c t)
        → Reads (Rest shape front) (λ bytes. r bytes >>= λ x. f x.0 x.1)
    step-reads r f reads tails somes = changes (Then (Spells Fits spell) (λ a. Rest shape (around a))) (Rest shape front) (λ bytes. r bytes >>= λ x. f x.0 x.1)
        (binds (Spells Fits spell) (λ a. Rest shape (around a)) r f reads (λ a t h. tails a h.fits) (λ a t h. somes a h.fits))
        step-made step-parted

  -- ---- empty and beyond

  empty-reads : Reads (Has s.Empty) (empty_at form)
  unfolding empty_at
  empty-reads = last-reads s.Empty [] spell.IsLog (spell.log form) (λ log. Log log) (λ log. content None o.None (p.Log log))
      (λ log h. h) (λ log h. h) (λ log. refl) (λ log. refl) (λ log. tt) (λ c fields e. empty-is c.member c.other c.proof fields e) (log_at form) (log-reads form)

  beyond-reads : Reads (Has s.Beyond) (beyond_at form)
  unfolding beyond_at
  beyond-reads = last-reads s.Beyond [] spell.IsShort (spell.input form) (λ x. Words x) (λ x. content (Some x) o.None p.None)
      (λ x h. h) (λ x h. h) (λ x. refl) (λ x. refl) (λ x. tt) (λ c fields e. beyond-is c.member c.other c.proof fields e) (input_at form) (input-reads form)

  -- nothing more
  module _ (shape : Shape) (front : List Field) (to : Content) (there : table shape to ≡ Some (front ++ [])) (lines : CountsLines to.other to.proof)
      (only : (c : Content) (fields : List Field) → table shape c ≡ Some (front ++ fields) → (c ≡ to) × ([] ≡ fields)) where
    end-reads : Reads (Rest shape front) (λ bytes. Ok (to, bytes))
    end-reads = changes (Nothing to) (Rest shape front) (λ bytes. Ok (to, bytes)) (returns to)
        (λ c t h. subst (λ (d : Content). Rest shape front d t) (sym h.is) (record { fields = []; are = there; each = tt; is = h.empty; lines = lines }))
        (λ c t h. let is = only c h.fields h.are in record { is = is.0; empty = h.is ∙ ap (flat_map (spelling form)) (sym is.1) })

  -- a search behind its byte
  module _ (shape : Shape) (front : List Field) (code : ℕ) (to : Undecided → Content) (there : (w : Undecided) (fields : List Field) → undecided_fields w.reason w.proof ≡ Some (Code code ∷ fields) → table shape (to w) ≡ Some (front ++ fields))
      (lines : (w : Undecided) → CountsLines (o.Reason w.reason) w.proof → CountsLines (to w).other (to w).proof)
      (only : (c : Content) (fields : List Field) → table shape c ≡ Some (front ++ fields) → (w : Undecided) × (c ≡ to w) × (undecided_fields w.reason w.proof ≡ Some (Code code ∷ fields)))
      (back : (w : Undecided) → CountsLines (to w).other (to w).proof → CountsLines (o.Reason w.reason) w.proof) where
    why-made : (c : Content) (t : List ℕ) → Then (Why form code) (λ w. Nothing (to w)) c t → Rest shape front c t
    why-made c t h =
        let w = h.first in
        let made : Rest shape front (to w) t = record {
          fields = h.one.fields;
          are = there w h.one.fields h.one.are;
          each = h.one.each;
          is = h.parts ∙ (λ i. h.one.is i ++ h.two.empty i) ∙ append-nil (flat_map (spelling form) h.one.fields);
          lines = lines w h.one.lines;
        } in
        subst (λ (d : Content). Rest shape front d t) (sym h.two.is) made

    why-parted : (c : Content) (t : List ℕ) → Rest shape front c t → Then (Why form code) (λ w. Nothing (to w)) c t
    why-parted c t h =
        let w = only c h.fields h.are in
        record {
          first = w.0;
          front = t;
          back = [];
          one = record { fields = h.fields; are = w.2; each = h.each; is = h.is; lines = back w.0 (subst (λ (d : Content). CountsLines d.other d.proof) w.1 h.lines) };
          two = record { is = w.1; empty = refl };
          parts = sym (append-nil t);
        }

    why-reads : 1 ≤ code → code ≤ 3 → Reads (Rest shape front) (λ bytes. undecided_at form code bytes >>= λ w. Ok (to w.0, w.1))
    why-reads low high = changes (Then (Why form code) (λ w. Nothing (to w))) (Rest shape front) (λ bytes. undecided_at form code bytes >>= λ w. Ok (to w.0, w.1))
        (binds (Why form code) (λ w. Nothing (to w)) (undecided_at form code) (λ w rest. Ok (to w, rest)) (undecided-reads form code low high) (λ w t h. returns (to w)) (λ w t h. (to w, [], record { is = refl; empty = refl })))
        why-made why-parted

  -- ---- whole

  abbrev whole-plain : List ℤ → Content
  whole-plain x = content (Some x) o.None p.None

  abbrev whole-log : List ℤ → List LogLine → Content
  whole-log x log = content (Some x) o.None (p.Log log)

  whole-member : (c : Content) (fields : List Field) → table s.Whole c ≡ Some fields → AllByRecursion IsSpelled fields → (x : List ℤ) × spell.IsShort x × (others : List Field) × (Words x ∷ others ≡ fields)
  whole-member c fields e each =
      elim (whole-is c.member c.other c.proof fields e) [
        | inl h ↦ (h.0, (subst (AllByRecursion IsSpelled) (sym h.2) each).0, Code 0 ∷ [], h.2)
        | inr h ↦ (h.0, (subst (AllByRecursion IsSpelled) (sym h.3) each).0, Code 1 ∷ Log h.1 ∷ [], h.3)
      ]

  whole-code : (x : List ℤ) (c : Content) (fields : List Field) → table s.Whole c ≡ Some (Words x ∷ fields) → AllByRecursion IsSpelled fields → (code : ℕ) × ((0 ≤ code) × (code ≤ 1)) × (others : List Field) × (Code code ∷ others ≡ fields)
  whole-code x c fields e each =
      elim (whole-is c.member c.other c.proof (Words x ∷ fields) e) [
        | inl h ↦ (0, (omega arith, omega arith), [], let is = h.2 in cc)
        | inr h ↦ (1, (omega arith, omega arith), Log h.1 ∷ [], let is = h.3 in cc)
      ]

  whole-end : (x : List ℤ) (c : Content) (fields : List Field) → table s.Whole c ≡ Some (Words x ∷ Code 0 ∷ fields) → (c ≡ whole-plain x) × ([] ≡ fields)
  whole-end x c fields e =
      elim (whole-is c.member c.other c.proof (Words x ∷ Code 0 ∷ fields) e) [
        | inl h ↦ let is = h.2 in let same : h.0 ≡ x = cc in (h.1 ∙ ap whole-plain same, cc)
        | inr h ↦ absurd (let is = h.3 in cc)
      ]

  whole-last : (x : List ℤ) (c : Content) (fields : List Field) → table s.Whole c ≡ Some (Words x ∷ Code 1 ∷ fields) → (log : List LogLine) × (c ≡ whole-log x log) × (Log log ∷ [] ≡ fields)
  whole-last x c fields e =
      elim (whole-is c.member c.other c.proof (Words x ∷ Code 1 ∷ fields) e) [
        | inl h ↦ absurd (let is = h.2 in cc)
        | inr h ↦ let is = h.3 in let same : h.0 ≡ x = cc in (h.1, h.2 ∙ ap (λ (y : List ℤ). whole-log y h.1) same, cc)
      ]

  abbrev whole-tail : List ℤ → ℕ → List ℕ → Read Content
  whole-tail x code bytes = cond (eqb code 0) (Ok (whole-plain x, bytes)) (log_at form bytes >>= λ log. Ok (whole-log x log.0, log.1))

  whole-tails : (x : List ℤ) (code : ℕ) → (0 ≤ code) × (code ≤ 1) → Reads (Rest s.Whole (Words x ∷ Code code ∷ [])) (whole-tail x code)
  whole-tails x zero h = end-reads s.Whole (Words x ∷ Code 0 ∷ []) (whole-plain x) refl tt (whole-end x)
  whole-tails x (suc zero) h = last-reads s.Whole (Words x ∷ Code 1 ∷ []) spell.IsLog (spell.log form) (λ log. Log log) (whole-log x)
      (λ log g. g) (λ log g. g) (λ log. refl) (λ log. refl) (λ log. tt) (whole-last x) (log_at form) (log-reads form)
  whole-tails x (suc (suc n)) h = absurd (omega (arith, h.1))

  some-whole-tail : (x : List ℤ) (code : ℕ) → (0 ≤ code) × (code ≤ 1) → (c : Content) × (t : List ℕ) × Rest s.Whole (Words x ∷ Code code ∷ []) c t
  some-whole-tail x zero h = (whole-plain x, [], record { fields = []; are = refl; each = tt; is = refl; lines = tt })
  some-whole-tail x (suc zero) h = (whole-log x [], flat_map (spelling form) (Log [] ∷ []), record { fields = Log [] ∷ []; are = refl; each = (no-log, tt); is = refl; lines = tt })
  some-whole-tail x (suc (suc n)) h = absurd (omega (arith, h.1))

  whole-codes : (x : List ℤ) → Reads (Rest s.Whole (Words x ∷ [])) (λ bytes. byte_at 0 1 bytes >>= λ code. whole-tail x code.0 code.1)
  whole-codes x = step-reads s.Whole (Words x ∷ []) (λ code. (0 ≤ code) × (code ≤ 1)) (λ code. code ∷ []) (λ code. Code code) (λ code. Words x ∷ Code code ∷ [])
      (λ code h. tt) (λ code. refl) (λ code fields. refl) (whole-code x) (byte_at 0 1) (whole-tail x) (byte-reads 0 1 (omega arith)) (whole-tails x) (some-whole-tail x)

  some-whole : (x : List ℤ) → (c : Content) × (t : List ℕ) × Rest s.Whole (Words x ∷ []) c t
  some-whole x = (whole-plain x, flat_map (spelling form) (Code 0 ∷ []), record { fields = Code 0 ∷ []; are = refl; each = (tt, tt); is = refl; lines = tt })

  whole-reads : Reads (Has s.Whole) (whole_at form)
  unfolding whole_at
  whole-reads = step-reads s.Whole [] spell.IsShort (spell.input form) (λ x. Words x) (λ x. Words x ∷ [])
      (λ x h. h) (λ x. refl) (λ x fields. refl) whole-member (input_at form) (λ x rest. byte_at 0 1 rest >>= λ code. whole-tail x code.0 code.1) (input-reads form) (λ x h. whole-codes x) (λ x h. some-whole x)

  -- ---- split

  abbrev split-two : List ℤ → List ℤ → Content
  split-two x y = content (Some x) (o.Member y) p.None

  abbrev split-why : List ℤ → Undecided → Content
  split-why x w = content (Some x) (o.Reason w.reason) w.proof

  split-member : (c : Content) (fields : List Field) → table s.Split c ≡ Some fields → AllByRecursion IsSpelled fields → (x : List ℤ) × spell.IsShort x × (others : List Field) × (Words x ∷ others ≡ fields)
  split-member c fields e each =
      elim (split-is c.member c.other c.proof fields e) [
        | inl h ↦ (h.0, (subst (AllByRecursion IsSpelled) (sym h.3) each).0, Code 0 ∷ Words h.1 ∷ [], h.3)
        | inr h ↦ (h.0, (subst (AllByRecursion IsSpelled) (sym h.5) each).0, h.2, h.5)
      ]

  split-code : (x : List ℤ) (c : Content) (fields : List Field) → table s.Split c ≡ Some (Words x ∷ fields) → AllByRecursion IsSpelled fields → (code : ℕ) × ((0 ≤ code) × (code ≤ 3)) × (others : List Field) × (Code code ∷ others ≡ fields)
  split-code x c fields e each =
      elim (split-is c.member c.other c.proof (Words x ∷ fields) e) [
        | inl h ↦ (0, (omega arith, omega arith), Words h.1 ∷ [], let is = h.3 in cc)
        | inr h ↦ let k = code-of h.1 c.proof h.2 h.4 in (k.0, (omega arith, k.2), k.3, let is = h.5 in let code-is = k.4 in cc)
      ]

  split-last : (x : List ℤ) (c : Content) (fields : List Field) → table s.Split c ≡ Some (Words x ∷ Code 0 ∷ fields) → (y : List ℤ) × (c ≡ split-two x y) × (Words y ∷ [] ≡ fields)
  split-last x c fields e =
      elim (split-is c.member c.other c.proof (Words x ∷ Code 0 ∷ fields) e) [
        | inl h ↦ let is = h.3 in let same : h.0 ≡ x = cc in (h.1, h.2 ∙ ap (λ (z : List ℤ). split-two z h.1) same, cc)
        | inr h ↦ absurd (let k = code-of h.1 c.proof h.2 h.4 in let is = h.5 in let code-is = k.4 in let zero-is : k.0 ≡ 0 = cc in omega (arith, k.1, zero-is))
      ]

  split-only : (x : List ℤ) (code : ℕ) → 1 ≤ code → (c : Content) (fields : List Field) → table s.Split c ≡ Some (Words x ∷ Code code ∷ fields) → (w : Undecided) × (c ≡ split-why x w) × (undecided_fields w.reason w.proof ≡ Some (Code code ∷ fields))
  split-only x code low c fields e =
      elim (split-is c.member c.other c.proof (Words x ∷ Code code ∷ fields) e) [
        | inl h ↦ absurd (let is = h.3 in let zero-is : code ≡ 0 = cc in omega (arith, zero-is))
        | inr h ↦
            let is = h.5 in
            let same : h.0 ≡ x = cc in
            let rest : h.2 ≡ Code code ∷ fields = cc in
            (record { reason = h.1; proof = c.proof }, h.3 ∙ ap (λ (z : List ℤ). content (Some z) (o.Reason h.1) c.proof) same, h.4 ∙ ap some rest)
      ]

  abbrev split-tail : List ℤ → ℕ → List ℕ → Read Content
  split-tail x code bytes = cond (eqb code 0) (input_at form bytes >>= λ y. Ok (split-two x y.0, y.1)) (undecided_at form code bytes >>= λ w. Ok (split-why x w.0, w.1))

  split-whys : (x : List ℤ) (code : ℕ) → 1 ≤ code → code ≤ 3 → Reads (Rest s.Split (Words x ∷ Code code ∷ [])) (λ bytes. undecided_at form code bytes >>= λ w. Ok (split-why x w.0, w.1))
  split-whys x code low high = why-reads s.Split (Words x ∷ Code code ∷ []) code (split-why x) (λ w fields e. ap (behind x) e) (λ w h. h) (split-only x code low) (λ w h. h) low high

  split-tails : (x : List ℤ) (code : ℕ) → (0 ≤ code) × (code ≤ 3) → Reads (Rest s.Split (Words x ∷ Code code ∷ [])) (split-tail x code)
  split-tails x zero h = last-reads s.Split (Words x ∷ Code 0 ∷ []) spell.IsShort (spell.input form) (λ y. Words y) (split-two x)
      (λ y g. g) (λ y g. g) (λ y. refl) (λ y. refl) (λ y. tt) (split-last x) (input_at form) (input-reads form)
  split-tails x (suc n) h = subst (Reads (Rest s.Split (Words x ∷ Code (suc n) ∷ [])))
      (λ i bytes. cond (sym (eqb-suc-zero n) i) (input_at form bytes >>= λ y. Ok (split-two x y.0, y.1)) (undecided_at form (suc n) bytes >>= λ w. Ok (split-why x w.0, w.1)))
      (split-whys x (suc n) (omega arith) h.1)

  some-split-why : (x : List ℤ) (code : ℕ) → (v : (w : Undecided) × (t : List ℕ) × Why form code w t) → (c : Content) × (t : List ℕ) × Rest s.Split (Words x ∷ Code code ∷ []) c t
  some-split-why x code v = (split-why x v.0, v.1, record { fields = v.2.fields; are = ap (behind x) v.2.are; each = v.2.each; is = v.2.is; lines = v.2.lines })

  one-short : spell.IsShort one-word
  one-short = record { some = omega arith; few = omega arith; words = (record { sfits = omega arith }, tt) }

  some-split-tail : (x : List ℤ) (code : ℕ) → (0 ≤ code) × (code ≤ 3) → (c : Content) × (t : List ℕ) × Rest s.Split (Words x ∷ Code code ∷ []) c t
  some-split-tail x zero h = (split-two x one-word, flat_map (spelling form) (Words one-word ∷ []), record { fields = Words one-word ∷ []; are = refl; each = (one-short, tt); is = refl; lines = tt })
  some-split-tail x (suc n) h = some-split-why x (suc n) (some-why form (suc n) (omega arith) h.1)

  split-codes : (x : List ℤ) → Reads (Rest s.Split (Words x ∷ [])) (λ bytes. byte_at 0 3 bytes >>= λ code. split-tail x code.0 code.1)
  split-codes x = step-reads s.Split (Words x ∷ []) (λ code. (0 ≤ code) × (code ≤ 3)) (λ code. code ∷ []) (λ code. Code code) (λ code. Words x ∷ Code code ∷ [])
      (λ code h. tt) (λ code. refl) (λ code fields. refl) (split-code x) (byte_at 0 3) (split-tail x) (byte-reads 0 3 (omega arith)) (split-tails x) (some-split-tail x)

  some-split : (x : List ℤ) → (c : Content) × (t : List ℕ) × Rest s.Split (Words x ∷ []) c t
  some-split x = (split-two x one-word, flat_map (spelling form) (Code 0 ∷ Words one-word ∷ []), record { fields = Code 0 ∷ Words one-word ∷ []; are = refl; each = (tt, (one-short, tt)); is = refl; lines = tt })

  split-reads : Reads (Has s.Split) (split_at form)
  unfolding split_at
  split-reads = step-reads s.Split [] spell.IsShort (spell.input form) (λ x. Words x) (λ x. Words x ∷ [])
      (λ x h. h) (λ x. refl) (λ x fields. refl) split-member (input_at form) (λ x rest. byte_at 0 3 rest >>= λ code. split-tail x code.0 code.1) (input-reads form) (λ x h. split-codes x) (λ x h. some-split x)

  -- ---- stuck

  abbrev stuck-why : Undecided → Content
  stuck-why w = content None (o.Reason w.reason) w.proof

  abbrev stuck-run : ℕ → List ℤ → Content
  stuck-run code x = content (Some x) (o.Reason (run_reason code)) p.None

  stuck-code : (c : Content) (fields : List Field) → table s.Stuck c ≡ Some fields → AllByRecursion IsSpelled fields → (code : ℕ) × ((1 ≤ code) × (code ≤ 5)) × (others : List Field) × (Code code ∷ others ≡ fields)
  stuck-code c fields e each =
      elim (stuck-is c.member c.other c.proof fields e) [
        | inl h ↦ let k = code-of h.0 c.proof fields h.2 in (k.0, (k.1, omega (arith, k.2)), k.3, k.4)
        | inr h ↦ (h.1, (omega (arith, h.2), h.3), Words h.0 ∷ [], h.5)
      ]

  stuck-only : (code : ℕ) → code ≤ 3 → (c : Content) (fields : List Field) → table s.Stuck c ≡ Some (Code code ∷ fields) → (w : Undecided) × (c ≡ stuck-why w) × (undecided_fields w.reason w.proof ≡ Some (Code code ∷ fields))
  stuck-only code high c fields e =
      elim (stuck-is c.member c.other c.proof (Code code ∷ fields) e) [
        | inl h ↦ (record { reason = h.0; proof = c.proof }, h.1, h.2)
        | inr h ↦ absurd (let is = h.5 in let same : h.1 ≡ code = cc in omega (arith, same, h.2))
      ]

  stuck-last : (code : ℕ) → 4 ≤ code → (c : Content) (fields : List Field) → table s.Stuck c ≡ Some (Code code ∷ fields) → (x : List ℤ) × (c ≡ stuck-run code x) × (Words x ∷ [] ≡ fields)
  stuck-last code low c fields e =
      elim (stuck-is c.member c.other c.proof (Code code ∷ fields) e) [
        | inl h ↦ absurd (let k = code-of h.0 c.proof (Code code ∷ fields) h.2 in let is = k.4 in let same : k.0 ≡ code = cc in omega (arith, same, k.2))
        | inr h ↦ let is = h.5 in let same : h.1 ≡ code = cc in (h.0, h.4 ∙ ap (λ (k : ℕ). stuck-run k h.0) same, cc)
      ]

  abbrev stuck-tail : ℕ → List ℕ → Read Content
  stuck-tail code bytes = cond (ltb code 4) (unrun_at form code bytes) (run_at form code bytes)

  stuck-runs : (code : ℕ) (x : List ℤ) → 4 ≤ code → code ≤ 5 → table s.Stuck (stuck-run code x) ≡ Some (Code code ∷ Words x ∷ [])
  stuck-runs code x low high = elim (cases_lt code 5) [
    | inl four ↦ let is : 4 ≡ code = omega arith in subst (λ (k : ℕ). table s.Stuck (stuck-run k x) ≡ Some (Code k ∷ Words x ∷ [])) is refl
    | inr five ↦ let is : 5 ≡ code = omega arith in subst (λ (k : ℕ). table s.Stuck (stuck-run k x) ≡ Some (Code k ∷ Words x ∷ [])) is refl
  ]

  run-lines : (code : ℕ) (x : List ℤ) → 4 ≤ code → code ≤ 5 → CountsLines (stuck-run code x).other (stuck-run code x).proof
  run-lines code x low high = elim (cases_lt code 5) [
    | inl four ↦ let is : 4 ≡ code = omega arith in subst (λ (k : ℕ). CountsLines (stuck-run k x).other (stuck-run k x).proof) is tt
    | inr five ↦ let is : 5 ≡ code = omega arith in subst (λ (k : ℕ). CountsLines (stuck-run k x).other (stuck-run k x).proof) is tt
  ]

  runs-read : (code : ℕ) → 4 ≤ code → code ≤ 5 → Reads (Rest s.Stuck (Code code ∷ [])) (run_at form code)
  runs-read code low high = last-reads s.Stuck (Code code ∷ []) spell.IsShort (spell.input form) (λ x. Words x) (stuck-run code)
      (λ x g. g) (λ x g. g) (λ x. refl) (λ x. stuck-runs code x low high) (λ x. run-lines code x low high) (stuck-last code low) (input_at form) (input-reads form)

  whys-read : (code : ℕ) → 1 ≤ code → code ≤ 3 → Reads (Rest s.Stuck (Code code ∷ [])) (unrun_at form code)
  whys-read code low high = why-reads s.Stuck (Code code ∷ []) code stuck-why (λ w fields e. e) (λ w h. h) (stuck-only code high) (λ w h. h) low high

  stuck-tails : (code : ℕ) → (1 ≤ code) × (code ≤ 5) → Reads (Rest s.Stuck (Code code ∷ [])) (stuck-tail code)
  stuck-tails code h = elim (cases_lt code 4) [
    | inl low ↦ subst (Reads (Rest s.Stuck (Code code ∷ []))) (λ i bytes. cond (sym (lt-ltb code 4 low) i) (unrun_at form code bytes) (run_at form code bytes)) (whys-read code h.0 (omega arith))
    | inr high ↦ subst (Reads (Rest s.Stuck (Code code ∷ []))) (λ i bytes. cond (sym (le-ltb code 4 high) i) (unrun_at form code bytes) (run_at form code bytes)) (runs-read code high h.1)
  ]

  some-stuck-why : (code : ℕ) → (v : (w : Undecided) × (t : List ℕ) × Why form code w t) → (c : Content) × (t : List ℕ) × Rest s.Stuck (Code code ∷ []) c t
  some-stuck-why code v = (stuck-why v.0, v.1, record { fields = v.2.fields; are = v.2.are; each = v.2.each; is = v.2.is; lines = v.2.lines })

  some-stuck-tail : (code : ℕ) → (1 ≤ code) × (code ≤ 5) → (c : Content) × (t : List ℕ) × Rest s.Stuck (Code code ∷ []) c t
  some-stuck-tail code h = elim (cases_lt code 4) [
    | inl low ↦ some-stuck-why code (some-why form code h.0 (omega arith))
    | inr high ↦ (
      stuck-run code one-word,
      flat_map (spelling form) (Words one-word ∷ []),
      record { fields = Words one-word ∷ []; are = stuck-runs code one-word high h.1; each = (one-short, tt); is = refl; lines = run-lines code one-word high h.1 },
    )
  ]

  stuck-reads : Reads (Has s.Stuck) (stuck_at form)
  unfolding stuck_at
  stuck-reads = step-reads s.Stuck [] (λ code. (1 ≤ code) × (code ≤ 5)) (λ code. code ∷ []) (λ code. Code code) (λ code. Code code ∷ [])
      (λ code h. tt) (λ code. refl) (λ code fields. refl) stuck-code (byte_at 1 5) stuck-tail (byte-reads 1 5 (omega arith)) stuck-tails some-stuck-tail

  -- ---- each shape

  pub content-reads : (shape : Shape) → Reads (Has shape) (content_at form shape)
  content-reads s.Empty = empty-reads
  content-reads s.Stuck = stuck-reads
  content-reads s.Whole = whole-reads
  content-reads s.Split = split-reads
  content-reads s.Beyond = beyond-reads

  pub some-content : (shape : Shape) → (c : Content) × (t : List ℕ) × Has shape c t
  some-content s.Empty = (content None o.None (p.Log []), flat_map (spelling form) (Log [] ∷ []), record { fields = Log [] ∷ []; are = refl; each = (no-log, tt); is = refl; lines = tt })
  some-content s.Stuck = (stuck-run 4 one-word, flat_map (spelling form) (Code 4 ∷ Words one-word ∷ []), record { fields = Code 4 ∷ Words one-word ∷ []; are = refl; each = (tt, (one-short, tt)); is = refl; lines = tt })
  some-content s.Whole = (whole-plain one-word, flat_map (spelling form) (Words one-word ∷ Code 0 ∷ []), record { fields = Words one-word ∷ Code 0 ∷ []; are = refl; each = (one-short, (tt, tt)); is = refl; lines = tt })
  some-content s.Split = (split-two one-word one-word, flat_map (spelling form) (Words one-word ∷ Code 0 ∷ Words one-word ∷ []), record { fields = Words one-word ∷ Code 0 ∷ Words one-word ∷ []; are = refl; each = (one-short, (tt, (one-short, tt))); is = refl; lines = tt })
  some-content s.Beyond = (whole-plain one-word, flat_map (spelling form) (Words one-word ∷ []), record { fields = Words one-word ∷ []; are = refl; each = (one-short, tt); is = refl; lines = tt })
