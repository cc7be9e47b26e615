-- The payload of a record is read as it is spelled.
use Rattle.std.proofs.Common.{◌≡◌, ℕ, zero, suc, ◌-◌, ◌≤◌, ◌<◌, true, List, [], ◌∷◌, ◌++◌, length, get_or, Option, Some, None, Result, Ok, Err, ℤ, refl, sym, ap, subst, ◌∙◌, arith}
use Rattle.std.specs.Prelude.{IsSome, IfSome, unwrap_or}
use Rattle.std.specs.List.{flat_map, AllByRecursion}
use Rattle.std.proofs.lemmas.List.{append-nil}
use Rattle.prv_codec.specs.declared.form.Form.{Form}
use Rattle.prv_codec.specs.declared.form.Form.TheVariants.{One, Two}
use Rattle.prv_codec.specs.Forms.{number}
use Rattle.prv_codec.specs.Spelling as spell
use Rattle.prv_codec.specs.Faults.{GoesWrongAt}
use Rattle.prv_codec.specs.Reading.{Read, ◌>>=◌, whole, byte_at, number_at}
use Rattle.prv_codec.proofs.Languages.{Reads, Then, Nothing, Spells, IsBytes-from, binds, returns, changes, ok_is, whole-found, whole-again, whole-wrong}
use Rattle.prv_codec.proofs.Numbers.{number-reads}
use Rattle.prv_codec.proofs.Fields.{Byte, byte-reads}
use Rattle.prv_part.specs.declared.shape.Shape.{Shape}
use Rattle.prv_part.specs.declared.shape.Shape.TheVariants as s
use Rattle.prv_record.specs.Fields.{Field, shape_fields, IsShort, IsShortOther, HasFields}
use Rattle.prv_record.specs.Parts.{IsToldMember, IsToldOther}
use Rattle.prv_record.specs.Reading.{shape_of, content_at, record_at}
use Rattle.prv_record.specs.Records.{IsPayload, IsPayloadOf}
use Rattle.prv_record.specs.Spelling.{spelling, IsSpelled, kind, shape_code, fields_of, payload}
use Rattle.prv_record.specs.declared.content.Content.{Content}
use Rattle.prv_record.specs.declared.raw.Raw.{Raw}
use Rattle.prv_record.specs.declared.raw.RawOther.{RawOther}
use Rattle.prv_record.specs.declared.raw.RawOther.TheVariants as o
use Rattle.prv_record.proofs.Parting.{parted}
use Rattle.prv_record.proofs.ShapeReading.{Has, content-reads, some-content}

-- ---- shapes and their codes

pub shape-back : (shape : Shape) → shape_of (shape_code shape) ≡ shape
shape-back s.Empty = refl
shape-back s.Stuck = refl
shape-back s.Whole = refl
shape-back s.Split = refl
shape-back s.Beyond = refl

code-fits : (shape : Shape) → (0 ≤ shape_code shape) × (shape_code shape ≤ 4)
code-fits s.Empty = (omega arith, omega arith)
code-fits s.Stuck = (omega arith, omega arith)
code-fits s.Whole = (omega arith, omega arith)
code-fits s.Split = (omega arith, omega arith)
code-fits s.Beyond = (omega arith, omega arith)

code-back : (code : ℕ) → code ≤ 4 → shape_code (shape_of code) ≡ code
code-back zero h = refl
code-back (suc zero) h = refl
code-back (suc (suc zero)) h = refl
code-back (suc (suc (suc zero))) h = refl
code-back (suc (suc (suc (suc zero)))) h = refl
code-back (suc (suc (suc (suc (suc n))))) h = absurd (omega arith)

-- ---- inputs of 1 to 8 words

short-member : (member : Option (List ℤ)) → IsToldMember member → IfSome member IsShort
short-member None h = tt
short-member (Some x) h = (h.some, h.few)

short-other : (other : RawOther) → IsToldOther other → IsShortOther other
short-other o.None h = tt
short-other (o.Member x) h = (h.some, h.few)
short-other (o.Reason why) h = tt

is-some : {A : Type 0} (x : Option A) (y : A) → x ≡ Some y → IsSome x
is-some x y e = subst IsSome (sym e) refl

some-fields : (x : Option (List Field)) → IsSome x → x ≡ Some (unwrap_or x [])
some-fields None h = absurd cc
some-fields (Some fields) h = refl

module _ (form : Form) where
  abbrev raw_of : ℕ → ℕ → Content → Raw
  raw_of entry code c = record { entry = entry; shape = shape_of code; member = c.member; other = c.other; proof = c.proof }

  abbrev reshaped : Raw → Shape → Raw
  reshaped raw shape = record { entry = raw.entry; shape = shape; member = raw.member; other = raw.other; proof = raw.proof }

  abbrev content_of : Raw → Content
  content_of raw = record { member = raw.member; other = raw.other; proof = raw.proof }

  abbrev Kind : ℕ → List ℕ → Type 0
  Kind = Byte (kind form) (kind form)

  abbrev Entry : ℕ → List ℕ → Type 0
  Entry = Spells spell.IsNumber (number form)

  abbrev Contents : ℕ → ℕ → Raw → List ℕ → Type 0
  Contents entry code = Then (Has form (shape_of code)) (λ c. Nothing (raw_of entry code c))

  abbrev Shaped : ℕ → Raw → List ℕ → Type 0
  Shaped entry = Then (Byte 0 4) (Contents entry)

  abbrev Entered : Raw → List ℕ → Type 0
  Entered = Then Entry Shaped

  abbrev Whole : Raw → List ℕ → Type 0
  Whole = Then Kind (λ k. Entered)

  abbrev Some-of : (Raw → List ℕ → Type 0) → Type 0
  Some-of S = (raw : Raw) × (t : List ℕ) × S raw t

  some-contents : (entry code : ℕ) → Some-of (Contents entry code)
  some-contents entry code =
      let c = some-content form (shape_of code) in
      (raw_of entry code c.0, c.1, record { first = c.0; front = c.1; back = []; one = c.2; two = record { is = refl; empty = refl }; parts = sym (append-nil c.1) })

  some-shaped : (entry : ℕ) → Some-of (Shaped entry)
  some-shaped entry = let x = some-contents entry 0 in (x.0, 0 ∷ x.1, record { first = 0; front = 0 ∷ []; back = x.1; one = record { fits = (omega arith, omega arith); is = refl }; two = x.2; parts = refl })

  some-entered : Some-of Entered
  some-entered = let x = some-shaped 0 in (x.0, number form 0 ++ x.1, record { first = 0; front = number form 0; back = x.1; one = record { fits = omega arith; is = refl }; two = x.2; parts = refl })

  contents-read : (entry code : ℕ) → Reads (Contents entry code) (λ bytes. content_at form (shape_of code) bytes >>= λ c. Ok (raw_of entry code c.0, c.1))
  contents-read entry code = binds (Has form (shape_of code)) (λ c. Nothing (raw_of entry code c)) (content_at form (shape_of code)) (λ c rest. Ok (raw_of entry code c, rest)) (content-reads form (shape_of code))
      (λ c t h. returns (raw_of entry code c)) (λ c t h. (raw_of entry code c, [], record { is = refl; empty = refl }))

  shaped-reads : (entry : ℕ) → Reads (Shaped entry) (λ bytes. byte_at 0 4 bytes >>= λ code. content_at form (shape_of code.0) code.1 >>= λ c. Ok (raw_of entry code.0 c.0, c.1))
  shaped-reads entry = binds (Byte 0 4) (Contents entry) (byte_at 0 4) (λ code rest. content_at form (shape_of code) rest >>= λ c. Ok (raw_of entry code c.0, c.1)) (byte-reads 0 4 (omega arith))
      (λ code t h. contents-read entry code) (λ code t h. some-contents entry code)

  entered-reads : Reads Entered (λ bytes. number_at form bytes >>= λ entry. byte_at 0 4 entry.1 >>= λ code. content_at form (shape_of code.0) code.1 >>= λ c. Ok (raw_of entry.0 code.0 c.0, c.1))
  entered-reads = binds Entry Shaped (number_at form) (λ entry rest. byte_at 0 4 rest >>= λ code. content_at form (shape_of code.0) code.1 >>= λ c. Ok (raw_of entry code.0 c.0, c.1)) (number-reads form)
      (λ entry t h. shaped-reads entry) (λ entry t h. some-shaped entry)

  -- ---- what was read is a payload

  content-fields : (entry code : ℕ) (c : Content) (t : List ℕ) (h : Has form (shape_of code) c t) → fields_of (raw_of entry code c) ≡ h.fields
  content-fields entry code c t h = ap (λ (x : Option (List Field)). unwrap_or x []) h.are

  has-fields : (entry code : ℕ) (c : Content) (t : List ℕ) → Has form (shape_of code) c t → HasFields (raw_of entry code c)
  has-fields entry code c t h =
      let table = is-some (shape_fields (shape_of code) c.member c.other c.proof) h.fields h.are in
      let each = subst (AllByRecursion IsSpelled) (sym (content-fields entry code c t h)) h.each in
      let told = parted (shape_of code) c.member c.other c.proof table each in
      record { table = table; member = short-member c.member told.0; other = short-other c.other told.1; lines = h.lines }

  record-made : (raw : Raw) (t : List ℕ) → Whole raw t → IsPayload form raw t
  record-made raw t h =
      let k = h.first in
      let n = h.two in
      let b = n.two in
      let c = b.two in
      let made = raw_of n.first b.first c.first in
      let kind-is : k ≡ kind form = omega (arith, h.one.fits.0, h.one.fits.1) in
      let fields-are = content-fields n.first b.first c.first c.front c.one in
      let last : c.front ++ c.back ≡ flat_map (spelling form) (fields_of made) = (λ i. c.one.is i ++ c.two.empty i) ∙ append-nil (flat_map (spelling form) c.one.fields) ∙ ap (flat_map (spelling form)) (sym fields-are) in
      let shaped : b.front ++ b.back ≡ shape_code made.shape ∷ flat_map (spelling form) (fields_of made) = (λ i. (b.one.is ∙ ap (λ (m : ℕ). m ∷ []) (sym (code-back b.first b.one.fits.1))) i ++ (c.parts ∙ last) i) in
      let entered : n.front ++ n.back ≡ number form made.entry ++ shape_code made.shape ∷ flat_map (spelling form) (fields_of made) = (λ i. n.one.is i ++ (b.parts ∙ shaped) i) in
      let all : t ≡ payload form made = h.parts ∙ (λ i. (h.one.is ∙ ap (λ (m : ℕ). m ∷ []) kind-is) i ++ (n.parts ∙ entered) i) in
      let payload-is : IsPayload form made t = record {
        entry = n.one.fits;
        fields = has-fields n.first b.first c.first c.front c.one;
        each = subst (AllByRecursion IsSpelled) (sym fields-are) c.one.each;
        is = all;
      } in
      subst (λ (r : Raw). IsPayload form r t) (sym c.two.is) payload-is

  -- ---- and the other way round

  record-parted : (raw : Raw) (t : List ℕ) → IsPayload form raw t → Whole raw t
  record-parted raw t h =
      let code = shape_code raw.shape in
      let tail = flat_map (spelling form) (fields_of raw) in
      let has : Has form raw.shape (content_of raw) tail = record {
        fields = fields_of raw;
        are = some-fields (shape_fields raw.shape raw.member raw.other raw.proof) h.fields.table;
        each = h.each;
        is = refl;
        lines = h.fields.lines;
      } in
      let contents : Contents raw.entry code raw tail = record {
        first = content_of raw;
        front = tail;
        back = [];
        one = subst (λ (x : Shape). Has form x (content_of raw) tail) (sym (shape-back raw.shape)) has;
        two = record { is = ap (reshaped raw) (sym (shape-back raw.shape)); empty = refl };
        parts = sym (append-nil tail);
      } in
      let shaped : Shaped raw.entry raw (code ∷ tail) = record { first = code; front = code ∷ []; back = tail; one = record { fits = code-fits raw.shape; is = refl }; two = contents; parts = refl } in
      let entered : Entered raw (number form raw.entry ++ code ∷ tail) = record { first = raw.entry; front = number form raw.entry; back = code ∷ tail; one = record { fits = h.entry; is = refl }; two = shaped; parts = refl } in
      record {
        first = kind form;
        front = kind form ∷ [];
        back = number form raw.entry ++ code ∷ tail;
        one = record { fits = (omega arith, omega arith); is = refl };
        two = entered;
        parts = h.is;
      }

  pub record-reads : Reads (IsPayload form) (record_at form)
  unfolding record_at
  record-reads = changes Whole (IsPayload form) (record_at form)
      (binds Kind (λ k. Entered) (byte_at (kind form) (kind form)) (λ k rest. number_at form rest >>= λ entry. byte_at 0 4 entry.1 >>= λ code. content_at form (shape_of code.0) code.1 >>= λ c. Ok (raw_of entry.0 code.0 c.0, c.1)) (byte-reads (kind form) (kind form) (omega arith)) (λ k t h. entered-reads) (λ k t h. some-entered))
      record-made record-parted

  -- ---- all of the bytes

  module _ (bytes : List ℕ) (fits : (i : ℕ) → get_or bytes i 0 < 256) where
    pub record-found : (raw : Raw) → whole (record_at form bytes) ≡ Ok raw → IsPayload form raw bytes
    record-found raw e = whole-found (IsPayload form) (record_at form) record-reads bytes (IsBytes-from bytes fits) raw e

    pub record-again : (raw read : Raw) → IsPayload form raw bytes → whole (record_at form bytes) ≡ Ok read → read ≡ raw
    record-again raw read h e = ok_is read raw (sym e ∙ whole-again (IsPayload form) (record_at form) record-reads raw bytes h)

    pub record-wrong : (left : ℕ) → whole (record_at form bytes) ≡ Err left → GoesWrongAt (IsPayloadOf form) bytes (length bytes - left) × (left ≤ length bytes)
    record-wrong left e = whole-wrong (IsPayload form) (record_at form) record-reads bytes (IsBytes-from bytes fits) left e
