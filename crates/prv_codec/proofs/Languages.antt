-- Readers of sets of bytes: what is written is read, what is read was written, and reading stops where the bytes go wrong.
use Rattle.std.proofs.Common.{◌≡◌, ℕ, suc, ◌+◌, ◌-◌, ◌≤◌, ◌<◌, List, [], ◌∷◌, ◌++◌, length, get_or, take, Result, Ok, Err, ◌⊎◌, inl, inr, refl, sym, ap, subst, ◌∙◌, append_assoc, arith}
use Rattle.std.specs.List.{AllByRecursion}
use Rattle.std.proofs.lemmas.List.{append-nil, length-append}
use Rattle.prv_codec.specs.Faults.{Begins, GoesWrongAt}
use Rattle.prv_codec.specs.Reading.{Read, ◌>>=◌, whole}

abbrev pub IsBytes : List ℕ → Type 0
IsBytes bytes = AllByRecursion (λ b. b < 256) bytes

pub IsBytes-back : (a b : List ℕ) → IsBytes (a ++ b) → IsBytes b
IsBytes-back [] b h = h
IsBytes-back (x ∷ a) b h = IsBytes-back a b h.1

-- where a reader of the set S stops: some member begins with what stands before, and no member goes on with the next byte, whatever follows it
pub record Stops {A : Type 0} (S : A → List ℕ → Type 0) (r : List ℕ → Read A) (bytes : List ℕ) (left : ℕ) : Type 0 where
  pub front : List ℕ
  pub back : List ℕ
  pub parts : bytes ≡ front ++ back
  pub count : left ≡ length back
  pub value : A
  pub more : List ℕ
  pub begins : S value (front ++ more)
  pub stuck : (b : ℕ) (t ext : List ℕ) → back ≡ b ∷ t → r (front ++ b ∷ ext) ≡ Err (suc (length ext))

-- what a reader took from the front
pub record Takes {A : Type 0} (S : A → List ℕ → Type 0) (bytes : List ℕ) (a : A) (rest : List ℕ) : Type 0 where
  pub front : List ℕ
  pub spells : S a front
  pub parts : bytes ≡ front ++ rest

-- r reads the lists of bytes of which S says what they mean
pub record Reads {A : Type 0} (S : A → List ℕ → Type 0) (r : List ℕ → Read A) : Type 0 where
  pub again : (a : A) (t rest : List ℕ) → S a t → r (t ++ rest) ≡ Ok (a, rest)
  pub found : (bytes : List ℕ) → IsBytes bytes → (a : A) (rest : List ℕ) → r bytes ≡ Ok (a, rest) → Takes S bytes a rest
  pub stops : (bytes : List ℕ) → IsBytes bytes → (left : ℕ) → r bytes ≡ Err left → Stops S r bytes left

-- ---- steps

abbrev done : {A : Type 0} → A → Result A ℕ
done x = Ok x

pub ok_is : {A : Type 0} (x y : A) → done x ≡ done y → x ≡ y
ok_is x y e = cc

pub bind_ok : {A B : Type 0} (r : Result A ℕ) (f : A → Result B ℕ) (y : B) → (r >>= f) ≡ Ok y → (x : A) × (r ≡ Ok x) × (f x ≡ Ok y)
bind_ok (Ok x) f y e = (x, refl, e)
bind_ok (Err d) f y e = absurd cc

pub bind_err : {A B : Type 0} (r : Result A ℕ) (f : A → Result B ℕ) (left : ℕ) → (r >>= f) ≡ Err left → (r ≡ Err left) ⊎ ((x : A) × (r ≡ Ok x) × (f x ≡ Err left))
bind_err (Ok x) f left e = inr (x, refl, e)
bind_err (Err d) f left e = inl cc

-- ---- one field, and then what depends on it

pub record Then {A B : Type 0} (S : A → List ℕ → Type 0) (R : A → B → List ℕ → Type 0) (b : B) (t : List ℕ) : Type 0 where
  pub first : A
  pub front : List ℕ
  pub back : List ℕ
  pub one : S first front
  pub two : R first b back
  pub parts : t ≡ front ++ back

-- something goes on after each value
abbrev pub GoesOn : {A B : Type 0} → (A → List ℕ → Type 0) → (A → B → List ℕ → Type 0) → Type 0
GoesOn {A = A} {B = B} S R = (a : A) (t : List ℕ) → S a t → (b : B) × (u : List ℕ) × R a b u

module _ {A B : Type 0} (S : A → List ℕ → Type 0) (R : A → B → List ℕ → Type 0) (r : List ℕ → Read A) (f : A → List ℕ → Read B)
    (one : Reads S r) (two : (a : A) (t : List ℕ) → S a t → Reads (R a) (f a)) (on : GoesOn S R) where
  abbrev both : List ℕ → Read B
  both bytes = r bytes >>= λ x. f x.0 x.1

  both-again : (b : B) (t rest : List ℕ) → Then S R b t → both (t ++ rest) ≡ Ok (b, rest)
  both-again b t rest h =
      let regrouped : t ++ rest ≡ h.front ++ (h.back ++ rest) = ap (λ (s : List ℕ). s ++ rest) h.parts ∙ append_assoc h.front h.back rest in
      let first : r (t ++ rest) ≡ Ok (h.first, h.back ++ rest) = ap r regrouped ∙ one.again h.first h.front (h.back ++ rest) h.one in
      ap (λ (x : Read A). x >>= λ y. f y.0 y.1) first ∙ (two h.first h.front h.one).again b h.back rest h.two

  both-found : (bytes : List ℕ) → IsBytes bytes → (b : B) (rest : List ℕ) → both bytes ≡ Ok (b, rest) → Takes (Then S R) bytes b rest
  both-found bytes fits b rest e =
      let s = bind_ok (r bytes) (λ x. f x.0 x.1) (b, rest) e in
      let a = one.found bytes fits s.0.0 s.0.1 s.1 in
      let within : IsBytes s.0.1 = IsBytes-back a.front s.0.1 (subst IsBytes a.parts fits) in
      let c = (two s.0.0 a.front a.spells).found s.0.1 within b rest s.2 in
      record {
        front = a.front ++ c.front;
        spells = record { first = s.0.0; front = a.front; back = c.front; one = a.spells; two = c.spells; parts = refl };
        parts = a.parts ∙ ap (λ (u : List ℕ). a.front ++ u) c.parts ∙ sym (append_assoc a.front c.front rest);
      }

  stop-first : (bytes : List ℕ) (left : ℕ) → Stops S r bytes left → Stops (Then S R) both bytes left
  stop-first bytes left s =
      let next = on s.value (s.front ++ s.more) s.begins in
      record {
        front = s.front;
        back = s.back;
        parts = s.parts;
        count = s.count;
        value = next.0;
        more = s.more ++ next.1;
        begins = record { first = s.value; front = s.front ++ s.more; back = next.1; one = s.begins; two = next.2; parts = sym (append_assoc s.front s.more next.1) };
        stuck = λ b t ext e. ap (λ (x : Read A). x >>= λ y. f y.0 y.1) (s.stuck b t ext e);
      }

  stop-second : (bytes : List ℕ) (left : ℕ) (a : A) (rest : List ℕ) (h : Takes S bytes a rest) → Stops (R a) (f a) rest left → Stops (Then S R) both bytes left
  stop-second bytes left a rest h s =
      record {
        front = h.front ++ s.front;
        back = s.back;
        parts = h.parts ∙ ap (λ (u : List ℕ). h.front ++ u) s.parts ∙ sym (append_assoc h.front s.front s.back);
        count = s.count;
        value = s.value;
        more = s.more;
        begins = record { first = a; front = h.front; back = s.front ++ s.more; one = h.spells; two = s.begins; parts = append_assoc h.front s.front s.more };
        stuck = λ b t ext e.
            ap both (append_assoc h.front s.front (b ∷ ext))
            ∙ ap (λ (x : Read A). x >>= λ y. f y.0 y.1) (one.again a h.front (s.front ++ b ∷ ext) h.spells)
            ∙ s.stuck b t ext e;
      }

  both-stops : (bytes : List ℕ) → IsBytes bytes → (left : ℕ) → both bytes ≡ Err left → Stops (Then S R) both bytes left
  both-stops bytes fits left e =
      elim (bind_err (r bytes) (λ x. f x.0 x.1) left e) [
        | inl first ↦ stop-first bytes left (one.stops bytes fits left first)
        | inr s ↦
            let h = one.found bytes fits s.0.0 s.0.1 s.1 in
            stop-second bytes left s.0.0 s.0.1 h ((two s.0.0 h.front h.spells).stops s.0.1 (IsBytes-back h.front s.0.1 (subst IsBytes h.parts fits)) left s.2)
      ]

  pub binds : Reads (Then S R) both
  binds = record { again = both-again; found = both-found; stops = both-stops }

-- ---- nothing more

pub record Nothing {A : Type 0} (value : A) (a : A) (t : List ℕ) : Type 0 where
  pub is : a ≡ value
  pub empty : t ≡ []

pub returns : {A : Type 0} (value : A) → Reads (Nothing value) (λ bytes. Ok (value, bytes))
returns {A = A} value = record {
  again = λ a t rest h. ap (λ (p : A × List ℕ). Ok p) (λ i. (sym h.is i, (ap (λ (u : List ℕ). u ++ rest) h.empty) i));
  found = λ bytes fits a rest e. let same : (value, bytes) ≡ (a, rest) = ok_is (value, bytes) (a, rest) e in
      record { front = []; spells = record { is = sym (ap (λ (p : A × List ℕ). p.0) same); empty = refl }; parts = ap (λ (p : A × List ℕ). p.1) same };
  stops = λ bytes fits left e. absurd cc;
}

-- ---- a set said otherwise

pub changes : {A : Type 0} (S T : A → List ℕ → Type 0) (r : List ℕ → Read A) → Reads S r → ((a : A) (t : List ℕ) → S a t → T a t) → ((a : A) (t : List ℕ) → T a t → S a t) → Reads T r
changes S T r h to from = record {
  again = λ a t rest s. h.again a t rest (from a t s);
  found = λ bytes fits a rest e. let x = h.found bytes fits a rest e in record { front = x.front; spells = to a x.front x.spells; parts = x.parts };
  stops = λ bytes fits left e. let s = h.stops bytes fits left e in
      record { front = s.front; back = s.back; parts = s.parts; count = s.count; value = s.value; more = s.more; begins = to s.value (s.front ++ s.more) s.begins; stuck = s.stuck };
}

-- what has a spelling, and the spelling
pub record Spells {A : Type 0} (Fits : A → Type 0) (spell : A → List ℕ) (a : A) (t : List ℕ) : Type 0 where
  pub fits : Fits a
  pub is : t ≡ spell a

-- ---- all of the bytes

take-front : (a b : List ℕ) → take (length a) (a ++ b) ≡ a
take-front [] b = refl
take-front (x ∷ a) b = ap (λ (u : List ℕ). x ∷ u) (take-front a b)

take-one-more : (a : List ℕ) (x : ℕ) (b : List ℕ) → take (length a + 1) (a ++ x ∷ b) ≡ a ++ x ∷ []
take-one-more [] x b = refl
take-one-more (y ∷ a) x b = let k : suc (length a) + 1 ≡ suc (length a + 1) = omega arith in ap (λ (n : ℕ). take n (y ∷ (a ++ x ∷ b))) k ∙ ap (λ (u : List ℕ). y ∷ u) (take-one-more a x b)

-- the bytes go wrong behind a front
wrong : (P : List ℕ → Type 0) (bytes front back : List ℕ) → bytes ≡ front ++ back → Begins P front → ((b : ℕ) (t more : List ℕ) → back ≡ b ∷ t → P (front ++ b ∷ more) → ⊥) → (P bytes → ⊥) → GoesWrongAt P bytes (length front)
wrong P bytes front [] parts begins stuck none = record {
  within = let e = ap length parts in omega (arith, e, length-append {A = ℕ} front []);
  before = subst (Begins P) (sym (ap (take (length front)) parts ∙ take-front front [])) begins;
  no_further = λ lt h. let e = ap length parts in absurd (omega (arith, e, length-append {A = ℕ} front []));
  none = none;
}
wrong P bytes front (b ∷ t) parts begins stuck none = record {
  within = let e = ap length parts in omega (arith, e, length-append front (b ∷ t));
  before = subst (Begins P) (sym (ap (take (length front)) parts ∙ take-front front (b ∷ t))) begins;
  no_further = λ lt h.
      let one : take (length front + 1) bytes ≡ front ++ b ∷ [] = ap (take (length front + 1)) parts ∙ take-one-more front b t in
      let more = h.0 in
      stuck b t more refl (subst P (ap (λ (u : List ℕ). u ++ more) one ∙ append_assoc front (b ∷ []) more) h.1);
  none = none;
}

left-is : (bytes front back : List ℕ) (left : ℕ) → bytes ≡ front ++ back → left ≡ length back → length bytes - left ≡ length front
left-is bytes front back left parts count = let e = ap length parts in omega (arith, e, length-append front back)

module _ {A : Type 0} (S : A → List ℕ → Type 0) (r : List ℕ → Read A) (reads : Reads S r) where
  abbrev pub IsOne : List ℕ → Type 0
  IsOne t = (a : A) × S a t

  alone : (a : A) (t : List ℕ) → S a t → r t ≡ Ok (a, [])
  alone a t h = ap r (sym (append-nil t)) ∙ reads.again a t [] h

  pub whole-again : (a : A) (bytes : List ℕ) → S a bytes → whole (r bytes) ≡ Ok a
  whole-again a bytes h = ap whole (alone a bytes h)

  after-first : (bytes : List ℕ) → IsBytes bytes → (x : Read A) → r bytes ≡ x → (a : A) → whole x ≡ Ok a → S a bytes
  after-first bytes fits (Ok (c, [])) e a h =
      let t = reads.found bytes fits c [] e in
      let same : c ≡ a = ok_is c a h in
      let all : t.front ≡ bytes = sym (t.parts ∙ append-nil t.front) in
      subst (λ (d : A). S d bytes) same (subst (S c) all t.spells)
  after-first bytes fits (Ok (c, b ∷ rest)) e a h = absurd cc
  after-first bytes fits (Err left) e a h = absurd cc

  pub whole-found : (bytes : List ℕ) → IsBytes bytes → (a : A) → whole (r bytes) ≡ Ok a → S a bytes
  whole-found bytes fits a h = after-first bytes fits (r bytes) refl a h

  wrong-after : (bytes : List ℕ) → IsBytes bytes → (x : Read A) → r bytes ≡ x → (left : ℕ) → whole x ≡ Err left → GoesWrongAt IsOne bytes (length bytes - left) × (left ≤ length bytes)
  wrong-after bytes fits (Ok (c, [])) e left h = absurd cc
  wrong-after bytes fits (Ok (c, b ∷ rest)) e left h =
      let t = reads.found bytes fits c (b ∷ rest) e in
      let is : suc (length rest) ≡ left = cc in
      let at = left-is bytes t.front (b ∷ rest) left t.parts (sym is) in
      let begins : Begins IsOne t.front = ([], (c, subst (S c) (sym (append-nil t.front)) t.spells)) in
      let size = ap length t.parts in (
        subst (GoesWrongAt IsOne bytes) (sym at)
            (wrong IsOne bytes t.front (b ∷ rest) t.parts begins
            (λ d u more e' p.
            let one = alone p.0 (t.front ++ d ∷ more) p.1 in
            let two = reads.again c t.front (d ∷ more) t.spells in
            let same = ok_is (p.0, []) (c, d ∷ more) (sym one ∙ two) in
            let no-such = ap (λ (y : A × List ℕ). y.1) same in
            absurd cc)
            (λ p.
            let same = ok_is (p.0, []) (c, b ∷ rest) (sym (alone p.0 bytes p.1) ∙ e) in
            let no-such = ap (λ (y : A × List ℕ). y.1) same in
            absurd cc)),
        omega (arith, is, size, length-append t.front (b ∷ rest)),
      )
  wrong-after bytes fits (Err k) e left h =
      let same : k ≡ left = cc in
      let s = reads.stops bytes fits k e in
      let at = left-is bytes s.front s.back left s.parts (sym same ∙ s.count) in
      let size = ap length s.parts in (
        subst (GoesWrongAt IsOne bytes) (sym at)
            (wrong IsOne bytes s.front s.back s.parts (s.more, (s.value, s.begins))
            (λ d u more e' p.
            let one = alone p.0 (s.front ++ d ∷ more) p.1 in
            let no-such = sym (s.stuck d u more e') ∙ one in
            absurd cc)
            (λ p. let no-such = sym e ∙ alone p.0 bytes p.1 in absurd cc)),
        omega (arith, same, s.count, size, length-append s.front s.back),
      )

  pub whole-wrong : (bytes : List ℕ) → IsBytes bytes → (left : ℕ) → whole (r bytes) ≡ Err left → GoesWrongAt IsOne bytes (length bytes - left) × (left ≤ length bytes)
  whole-wrong bytes fits left h = wrong-after bytes fits (r bytes) refl left h

-- bytes by their places
pub IsBytes-from : (bytes : List ℕ) → ((i : ℕ) → get_or bytes i 0 < 256) → IsBytes bytes
IsBytes-from [] h = tt
IsBytes-from (b ∷ bytes) h = (h 0, IsBytes-from bytes (λ i. h (suc i)))
