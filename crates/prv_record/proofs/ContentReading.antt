-- What a shape has is read as its fields are spelled.
use Rattle.std.proofs.Common.{◌≡◌, ℕ, zero, suc, ◌≤◌, ◌<◌, List, [], ◌∷◌, ◌++◌, length, Option, Some, None, Result, Ok, Err, ◌⊎◌, inl, inr, ℤ, refl, sym, ap, subst, ◌∙◌, arith}
use Rattle.std.specs.Prelude.{⊤}
use Rattle.std.specs.List.{flat_map, AllByRecursion}
use Rattle.std.proofs.lemmas.Bool.{cases_eq, cases_lt, eq-eqb, ne_eqb, lt-ltb, le-ltb}
use Rattle.std.proofs.lemmas.List.{append-nil}
use Rattle.std.proofs.lemmas.List.Concat.{flat_map-cons}
use Rattle.prv_model.specs.declared.entry.Reason.{Reason}
use Rattle.prv_model.specs.declared.entry.Reason.TheVariants.{Lines, Numbers, Clauses, Wide, Literals}
use Rattle.prv_check.specs.LogLines.{LogLine}
use Rattle.prv_codec.specs.declared.form.Form.{Form}
use Rattle.prv_codec.specs.Forms.{number, long}
use Rattle.prv_codec.specs.Spelling as spell
use Rattle.prv_codec.specs.Reading.{Read, ◌>>=◌, byte_at, number_at, long_at, input_at, line_at, log_at}
use Rattle.prv_codec.proofs.Languages.{Reads, Then, GoesOn, Nothing, Spells, binds, returns, changes}
use Rattle.prv_codec.proofs.Numbers.{number-reads, long-reads}
use Rattle.prv_codec.proofs.Fields.{Byte, byte-reads, input-reads, line-reads, log-reads}
use Rattle.prv_part.specs.declared.shape.Shape.{Shape}
use Rattle.prv_part.specs.declared.shape.Shape.TheVariants as s
use Rattle.prv_record.specs.Fields.{Field, Code, Number, Long, Words, Log, Line, undecided_fields, behind, shape_fields, CountsLines}
use Rattle.prv_record.specs.Spelling.{spelling, IsSpelled}
use Rattle.prv_record.specs.Reading.{lines_at, numbers_at, clauses_at, undecided_at}
use Rattle.prv_record.specs.declared.content.Content.{Content}
use Rattle.prv_record.specs.declared.content.Undecided.{Undecided}
use Rattle.prv_record.specs.declared.raw.RawOther.{RawOther}
use Rattle.prv_record.specs.declared.raw.RawOther.TheVariants as o
use Rattle.prv_record.specs.declared.raw.Proof.{Proof}
use Rattle.prv_record.specs.declared.raw.Proof.TheVariants as p

-- the bytes are fields that a table gives
pub record Fielded (form : Form) (table : Option (List Field)) (t : List ℕ) : Type 0 where
  pub fields : List Field
  pub are : table ≡ Some fields
  pub each : AllByRecursion IsSpelled fields
  pub is : t ≡ flat_map (spelling form) fields

abbrev pub some : {A : Type 0} → A → Option A
some x = Some x

pub some-is : {A : Type 0} (x y : A) → some x ≡ some y → x ≡ y
some-is x y e = cc

module _ (form : Form) where
  pub one-field : (f : Field) → flat_map (spelling form) (f ∷ []) ≡ spelling form f
  one-field f = flat_map-cons (spelling form) f [] ∙ append-nil (spelling form f)

  two-fields : (f g : Field) → flat_map (spelling form) (f ∷ g ∷ []) ≡ spelling form f ++ spelling form g
  two-fields f g = flat_map-cons (spelling form) f (g ∷ []) ∙ ap (λ (u : List ℕ). spelling form f ++ u) (one-field g)

  abbrev Num : ℕ → List ℕ → Type 0
  Num = Spells spell.IsNumber (number form)

  abbrev Logged : List LogLine → List ℕ → Type 0
  Logged = Spells spell.IsLog (spell.log form)

  abbrev Lined : LogLine → List ℕ → Type 0
  Lined = Spells spell.IsLine (spell.line form)

  abbrev Shown : List ℤ → List ℕ → Type 0
  Shown = Spells spell.IsShort (spell.input form)

  no-log : spell.IsLog []
  no-log = record { few = omega arith; each = tt }

  -- ---- what a search left undecided, behind its byte

  pub record Why (code : ℕ) (w : Undecided) (t : List ℕ) : Type 0 where
    pub fields : List Field
    pub are : undecided_fields w.reason w.proof ≡ Some (Code code ∷ fields)
    pub each : AllByRecursion IsSpelled fields
    pub is : t ≡ flat_map (spelling form) fields
    pub lines : CountsLines (o.Reason w.reason) w.proof

  abbrev lines-of : ℕ → List LogLine → Undecided
  lines-of budget log = record { reason = Lines budget; proof = p.Spent log None }

  abbrev LinesLast : ℕ → Undecided → List ℕ → Type 0
  LinesLast budget = Then Logged (λ log. Nothing (lines-of budget log))

  lines-made : (w : Undecided) (t : List ℕ) → Then Num LinesLast w t → Why 1 w t
  lines-made w t h =
      let budget = h.first in
      let log = h.two.first in
      let tail : h.back ≡ spell.log form log = h.two.parts ∙ (λ i. h.two.one.is i ++ h.two.two.empty i) ∙ append-nil (spell.log form log) in
      let made : Why 1 (lines-of budget log) t = record {
        fields = Number budget ∷ Log log ∷ [];
        are = refl;
        each = (h.one.fits, (h.two.one.fits, tt));
        is = h.parts ∙ (λ i. h.one.is i ++ tail i) ∙ sym (two-fields (Number budget) (Log log));
        lines = tt;
      } in
      subst (λ (v : Undecided). Why 1 v t) (sym h.two.two.is) made

  abbrev numbers-of : List LogLine → LogLine → Undecided
  numbers-of log next = record { reason = Numbers (length log); proof = p.Spent log (Some next) }

  abbrev NumbersLast : List LogLine → Undecided → List ℕ → Type 0
  NumbersLast log = Then Lined (λ next. Nothing (numbers-of log next))

  numbers-made : (w : Undecided) (t : List ℕ) → Then Logged NumbersLast w t → Why 2 w t
  numbers-made w t h =
      let log = h.first in
      let next = h.two.first in
      let tail : h.back ≡ spell.line form next = h.two.parts ∙ (λ i. h.two.one.is i ++ h.two.two.empty i) ∙ append-nil (spell.line form next) in
      let made : Why 2 (numbers-of log next) t = record {
        fields = Log log ∷ Line next ∷ [];
        are = refl;
        each = (h.one.fits, (h.two.one.fits, tt));
        is = h.parts ∙ (λ i. h.one.is i ++ tail i) ∙ sym (two-fields (Log log) (Line next));
        lines = refl;
      } in
      subst (λ (v : Undecided). Why 2 v t) (sym h.two.two.is) made

  abbrev clauses-of : ℕ → Undecided
  clauses-of count = record { reason = Clauses count; proof = p.None }

  abbrev Counted : ℕ → List ℕ → Type 0
  Counted = Spells (λ n. n < 18446744073709551616) (long form)

  clauses-made : (w : Undecided) (t : List ℕ) → Then Counted (λ n. Nothing (clauses-of n)) w t → Why 3 w t
  clauses-made w t h =
      let made : Why 3 (clauses-of h.first) t = record {
        fields = Long h.first ∷ [];
        are = refl;
        each = (h.one.fits, tt);
        is = h.parts ∙ (λ i. h.one.is i ++ h.two.empty i) ∙ append-nil (long form h.first) ∙ sym (one-field (Long h.first));
        lines = tt;
      } in
      subst (λ (v : Undecided). Why 3 v t) (sym h.two.is) made

  -- the fields behind the byte are those of the reason
  by-table : (r : Reason) (proof : Proof) (code : ℕ) (t : List ℕ) → Why code (record { reason = r; proof = proof }) t → (code ≡ 1 → Then Num LinesLast (record { reason = r; proof = proof }) t) × (code ≡ 2 → Then Logged NumbersLast (record { reason = r; proof = proof }) t) × (code ≡ 3 → Then Counted (λ n. Nothing (clauses-of n)) (record { reason = r; proof = proof }) t)
  by-table (Lines budget) (p.Spent log None) code t h =
      let same = some-is (Code 1 ∷ Number budget ∷ Log log ∷ []) (Code code ∷ h.fields) h.are in
      let code-is : 1 ≡ code = cc in
      let fields-are : Number budget ∷ Log log ∷ [] ≡ h.fields = cc in
      let each = subst (AllByRecursion IsSpelled) (sym fields-are) h.each in
      let chain : Then Num LinesLast (lines-of budget log) t = record {
        first = budget;
        front = number form budget;
        back = spell.log form log;
        one = record { fits = each.0; is = refl };
        two = record { first = log; front = spell.log form log; back = []; one = record { fits = each.1.0; is = refl }; two = record { is = refl; empty = refl }; parts = sym (append-nil (spell.log form log)) };
        parts = h.is ∙ ap (flat_map (spelling form)) (sym fields-are) ∙ two-fields (Number budget) (Log log);
      } in
      (λ e. chain, λ e. absurd (omega arith), λ e. absurd (omega arith))
  by-table (Numbers lines) (p.Spent log (Some next)) code t h =
      let same = some-is (Code 2 ∷ Log log ∷ Line next ∷ []) (Code code ∷ h.fields) h.are in
      let code-is : 2 ≡ code = cc in
      let fields-are : Log log ∷ Line next ∷ [] ≡ h.fields = cc in
      let each = subst (AllByRecursion IsSpelled) (sym fields-are) h.each in
      let chain : Then Logged NumbersLast (record { reason = Numbers lines; proof = p.Spent log (Some next) }) t = record {
        first = log;
        front = spell.log form log;
        back = spell.line form next;
        one = record { fits = each.0; is = refl };
        two = record {
          first = next;
          front = spell.line form next;
          back = [];
          one = record { fits = each.1.0; is = refl };
          two = record { is = ap (λ (n : ℕ). record { reason = Numbers n; proof = p.Spent log (Some next) }) h.lines; empty = refl };
          parts = sym (append-nil (spell.line form next));
        };
        parts = h.is ∙ ap (flat_map (spelling form)) (sym fields-are) ∙ two-fields (Log log) (Line next);
      } in
      (λ e. absurd (omega arith), λ e. chain, λ e. absurd (omega arith))
  by-table (Clauses count) p.None code t h =
      let same = some-is (Code 3 ∷ Long count ∷ []) (Code code ∷ h.fields) h.are in
      let code-is : 3 ≡ code = cc in
      let fields-are : Long count ∷ [] ≡ h.fields = cc in
      let each = subst (AllByRecursion IsSpelled) (sym fields-are) h.each in
      let chain : Then Counted (λ n. Nothing (clauses-of n)) (clauses-of count) t = record {
        first = count;
        front = t;
        back = [];
        one = record { fits = each.0; is = h.is ∙ ap (flat_map (spelling form)) (sym fields-are) ∙ one-field (Long count) };
        two = record { is = refl; empty = refl };
        parts = sym (append-nil t);
      } in
      (λ e. absurd (omega arith), λ e. absurd (omega arith), λ e. chain)
  by-table r proof code t h = absurd (let none = h.are in cc)

  lines-read : Reads (Why 1) (lines_at form)
  unfolding lines_at
  lines-read = changes (Then Num LinesLast) (Why 1) (lines_at form)
      (binds Num LinesLast (number_at form) (λ n rest. log_at form rest >>= λ log. Ok (lines-of n log.0, log.1)) (number-reads form)
      (λ n t h. binds Logged (λ log. Nothing (lines-of n log)) (log_at form) (λ log rest. Ok (lines-of n log, rest)) (log-reads form) (λ log u g. returns (lines-of n log)) (λ log u g. (lines-of n log, [], record { is = refl; empty = refl })))
      (λ n t h. (lines-of n [], spell.log form [], record { first = []; front = spell.log form []; back = []; one = record { fits = no-log; is = refl }; two = record { is = refl; empty = refl }; parts = sym (append-nil (spell.log form [])) })))
      lines-made
      (λ w t h. (by-table w.reason w.proof 1 t h).0 refl)

  numbers-read : Reads (Why 2) (numbers_at form)
  unfolding numbers_at
  numbers-read =
      let no-line : LogLine = record { clause = []; hints = [] } in
      let fits : spell.IsLine no-line = record { clause = record { few = omega arith; each = tt }; hints = record { few = omega arith; each = tt } } in
      changes (Then Logged NumbersLast) (Why 2) (numbers_at form)
      (binds Logged NumbersLast (log_at form) (λ log rest. line_at form rest >>= λ next. Ok (numbers-of log next.0, next.1)) (log-reads form)
      (λ log t h. binds Lined (λ next. Nothing (numbers-of log next)) (line_at form) (λ next rest. Ok (numbers-of log next, rest)) (line-reads form) (λ next u g. returns (numbers-of log next)) (λ next u g. (numbers-of log next, [], record { is = refl; empty = refl })))
      (λ log t h. (numbers-of log no-line, spell.line form no-line, record { first = no-line; front = spell.line form no-line; back = []; one = record { fits = fits; is = refl }; two = record { is = refl; empty = refl }; parts = sym (append-nil (spell.line form no-line)) })))
      numbers-made
      (λ w t h. (by-table w.reason w.proof 2 t h).1 refl)

  clauses-read : Reads (Why 3) (clauses_at form)
  unfolding clauses_at
  clauses-read = changes (Then Counted (λ n. Nothing (clauses-of n))) (Why 3) (clauses_at form)
      (binds Counted (λ n. Nothing (clauses-of n)) (long_at form) (λ n rest. Ok (clauses-of n, rest)) (long-reads form) (λ n t h. returns (clauses-of n)) (λ n t h. (clauses-of n, [], record { is = refl; empty = refl })))
      clauses-made
      (λ w t h. (by-table w.reason w.proof 3 t h).2 refl)

  pub undecided-reads : (code : ℕ) → 1 ≤ code → code ≤ 3 → Reads (Why code) (undecided_at form code)
  unfolding undecided_at
  undecided-reads zero low high = absurd (omega arith)
  undecided-reads (suc zero) low high = lines-read
  undecided-reads (suc (suc zero)) low high = numbers-read
  undecided-reads (suc (suc (suc zero))) low high = clauses-read
  undecided-reads (suc (suc (suc (suc n)))) low high = absurd (omega arith)

  -- something is undecided for each reason
  pub some-why : (code : ℕ) → 1 ≤ code → code ≤ 3 → (w : Undecided) × (t : List ℕ) × Why code w t
  some-why zero low high = absurd (omega arith)
  some-why (suc zero) low high = (lines-of 0 [], flat_map (spelling form) (Number 0 ∷ Log [] ∷ []), record { fields = Number 0 ∷ Log [] ∷ []; are = refl; each = (omega arith, (no-log, tt)); is = refl; lines = tt })
  some-why (suc (suc zero)) low high =
      let no-line : LogLine = record { clause = []; hints = [] } in
      let fits : spell.IsLine no-line = record { clause = record { few = omega arith; each = tt }; hints = record { few = omega arith; each = tt } } in
      (numbers-of [] no-line, flat_map (spelling form) (Log [] ∷ Line no-line ∷ []), record { fields = Log [] ∷ Line no-line ∷ []; are = refl; each = (no-log, (fits, tt)); is = refl; lines = refl })
  some-why (suc (suc (suc zero))) low high = (clauses-of 0, flat_map (spelling form) (Long 0 ∷ []), record { fields = Long 0 ∷ []; are = refl; each = (omega arith, tt); is = refl; lines = tt })
  some-why (suc (suc (suc (suc n)))) low high = absurd (omega arith)
