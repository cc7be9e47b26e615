-- A settlement that is supported by a record is a true one, and what settling gives is a support.
use Rattle.std.proofs.Common.{◌≡◌, ◌≢◌, ℕ, ◌<◌, ◌≤◌, ◌^◌, Bool, true, false, List, [], ◌∷◌, ◌++◌, length, Option, Some, None, IfSome, unwrap_or, ℤ, if◌then◌else◌, refl, sym, ap, ◌∙◌, subst}
use Rattle.std.specs.List.{AllByRecursion}
use Rattle.prv_model.specs.Boards.{IsInput}
use Rattle.prv_model.specs.Terms.{IsTerm, holds}
use Rattle.prv_model.specs.Comparison.{verdict}
use Rattle.prv_model.specs.Programs.{IsProgram}
use Rattle.prv_model.specs.declared.entry.Kind.TheVariants as k
use Rattle.prv_model.specs.declared.entry.Reason.{Reason}
use Rattle.prv_model.specs.declared.entry.Reason.TheVariants as r
use Rattle.prv_model.specs.declared.program.Pair.{Pair}
use Rattle.prv_model.specs.declared.term.Term.{Term}
use Rattle.prv_model.specs.declared.verdict.Verdict.TheVariants as v
use Rattle.prv_pool.specs.Folding.{negation}
use Rattle.prv_part.specs.Literals.{agree_at, decided_equality}
use Rattle.prv_part.specs.Parts.{Other, AreTrue, parts_of, unmarked, decided_part, kind_at, partition, second_part}
use Rattle.prv_part.specs.Settlements.{Finding, IsSettlement, ShowsRun}
use Rattle.prv_part.specs.declared.shape.Shape.{Shape}
use Rattle.prv_part.specs.declared.shape.Shape.TheVariants as s
use Rattle.prv_part.proofs.Covering.{parts-cover}
use Rattle.prv_part.proofs.Overs.{parts-over}
use Rattle.prv_part.proofs.Truths.{empty-true, stuck-true, beyond-true, whole-true, found-true, left-true}
use Rattle.prv_record.specs.declared.raw.Raw.{Raw}
use Rattle.prv_record.specs.declared.raw.RawOther.{RawOther}
use Rattle.prv_record.specs.declared.raw.RawOther.TheVariants as o
use Rattle.prv_record.specs.declared.raw.Proof.{Proof}
use Rattle.prv_record.specs.declared.raw.Proof.TheVariants as p
use Rattle.prv_settle.specs.Counts.{is_wide, has_many_literals, is_beyond}
use Rattle.prv_settle.specs.Grounds.{is_granted, other_part}
use Rattle.prv_settle.specs.Stages.{Stage, Wide, Literals, Beyond, Granted, Open, stage}
use Rattle.prv_settle.specs.Answers.{IsShown, IsSearched}
use Rattle.prv_settle.specs.Settlings.{raw_of, raw_by, IsRecordAt, IsRecordBy, IsRecord, IsSettled, IsSettledAt}
use Rattle.prv_settle.specs.Supported.{finding_of, other_of, reason_of, IsSupported}
use Rattle.prv_settle.specs.declared.answer.Answer.{Answer}
use Rattle.prv_settle.specs.declared.answer.Answer.TheVariants.{Held, Refuted, Undecided}
use Rattle.prv_settle.proofs.Refuting.{refuted-none}
use Rattle.prv_settle.proofs.OtherParts.{other-part-terms, granted-none}
use Rattle.prv_settle.proofs.Sizes.{AreFew, one-few, whole-few, split-few, second-region}

-- ---- what each stage says

abbrev pub staged : Bool → Bool → Bool → Bool → Stage
staged w m b g = if w then Wide else if m then Literals else if b then Beyond else if g then Granted else Open

beyond-says : (w m b g : Bool) → staged w m b g ≡ Beyond → (m ≡ false) × (b ≡ true)
beyond-says true m b g e = cc e
beyond-says false true b g e = cc e
beyond-says false false true g e = (refl, refl)
beyond-says false false false true e = cc e
beyond-says false false false false e = cc e

granted-says : (w m b g : Bool) → staged w m b g ≡ Granted → (m ≡ false) × (b ≡ false) × (g ≡ true)
granted-says true m b g e = cc e
granted-says false true b g e = cc e
granted-says false false true g e = cc e
granted-says false false false true e = (refl, refl, refl)
granted-says false false false false e = cc e

open-says : (w m b g : Bool) → staged w m b g ≡ Open → (m ≡ false) × (b ≡ false)
open-says true m b g e = cc e
open-says false true b g e = cc e
open-says false false true g e = cc e
open-says false false false true e = cc e
open-says false false false false e = (refl, refl)

is-beyond : (pair : Pair) (t : List ℤ) → is_beyond pair t ≡ true → verdict pair t ≡ v.Beyond
is-beyond pair t e = ap (λ (b : Bool). if b then v.Beyond else if agree_at pair t then v.Same else v.Differ) e

not-beyond : (pair : Pair) (t : List ℤ) → is_beyond pair t ≡ false → verdict pair t ≢ v.Beyond
not-beyond pair t e long = by (agree_at pair t) (sym (ap (λ (b : Bool). if b then v.Beyond else if agree_at pair t then v.Same else v.Differ) e) ∙ long)
  where
    by : (z : Bool) → (if z then v.Same else v.Differ) ≡ v.Beyond → ⊥
    by true f = cc f
    by false f = cc f

-- ---- one record

module _ (pair : Pair) (region : List Term) (entry : ℕ) (known : AllByRecursion (IsTerm pair.before.params) region) (few : length region ≤ 2 ^ 48) where
  abbrev n : ℕ
  n = pair.before.params

  eight : n ≤ 8
  eight = let kept : IsProgram pair.before.params pair.before.names pair.before.body = pair.before.kept in kept.few_params

  abbrev Settles : Raw → Type 0
  Settles raw = (finding_of pair region raw).numbers < 2 ^ 62 → IsSettlement (finding_of pair region raw)

  settles : (shape : Shape) (member : Option (List ℤ)) (other : RawOther) (proof : Proof) → ShowsRun shape member → IfSome member (IsInput n) →
      AreTrue pair (parts_of pair region shape (unwrap_or member []) (other_of other) (reason_of other)) → AreFew (parts_of pair region shape (unwrap_or member []) (other_of other) (reason_of other)) →
      Settles (raw_of entry shape member other proof)
  settles shape member other proof run input all sizes = λ small. record {
    run = run;
    member = input;
    parts = (other_of other, reason_of other, refl);
    once = parts-cover pair n region shape (unwrap_or member []) (other_of other) (reason_of other);
    true_parts = all;
    over = parts-over pair region shape (unwrap_or member []) (other_of other) (reason_of other) known;
    few_parts = sizes.parts;
    few_numbers = small;
    few_literals = sizes.literals;
  }

  -- of a region in which nothing was run
  settles-empty : (log : Proof) → ((x : List ℤ) → IsInput n x → holds region x ≡ false) → Settles (raw_of entry s.Empty None o.None log)
  settles-empty proof none = settles s.Empty None o.None proof refl tt (empty-true pair region [] (other_of o.None) (reason_of o.None) none) (one-few (unmarked k.Empty region) few)

  settles-stuck : (member : Option (List ℤ)) (why : Reason) (proof : Proof) → IfSome member (IsInput n) → Settles (raw_of entry s.Stuck member (o.Reason why) proof)
  settles-stuck member why proof input =
      settles s.Stuck member (o.Reason why) proof tt input (stuck-true pair region (unwrap_or member []) (other_of (o.Reason why)) why) (one-few (unmarked (k.Undecided why) region) few)

  -- ---- at an input of the region

  module _ (t : List ℤ) (here : IsInput n t) (inside : holds region t ≡ true) where
    settles-beyond : has_many_literals pair t ≡ false → is_beyond pair t ≡ true → Settles (raw_of entry s.Beyond (Some t) o.None p.None)
    settles-beyond m b = settles s.Beyond (Some t) o.None p.None refl here
        (beyond-true pair region t (other_of o.None) (reason_of o.None) here inside (is-beyond pair t b))
        (whole-few pair region t (decided_part pair t k.Beyond (partition pair region t)) refl few m)

    settles-whole : (proof : Proof) → has_many_literals pair t ≡ false → is_beyond pair t ≡ false → ((x : List ℤ) → IsInput n x → holds (other_part pair region t) x ≡ false) → Settles (raw_of entry s.Whole (Some t) o.None proof)
    settles-whole proof m b none = settles s.Whole (Some t) o.None proof refl here
        (whole-true pair region t (other_of o.None) (reason_of o.None) here inside (not-beyond pair t b) none)
        (whole-few pair region t (decided_part pair t (kind_at pair t) (partition pair region t)) refl few m)

    split-sizes : (other : Other) → has_many_literals pair t ≡ false → (why : Reason) → AreFew (parts_of pair region s.Split t other why)
    split-sizes other m why =
        let same = decided_equality pair t in
        split-few pair region t (decided_part pair t (kind_at pair t) (partition pair region t ++ same ∷ [])) (second_part pair t other (partition pair region t ++ negation same ∷ []))
        same (negation same) refl (second-region pair t other (partition pair region t ++ negation same ∷ [])) few m

    settles-found : (y : List ℤ) → has_many_literals pair t ≡ false → is_beyond pair t ≡ false → IsInput n y → holds (other_part pair region t) y ≡ true → Settles (raw_of entry s.Split (Some t) (o.Member y) p.None)
    settles-found y m b hy there = settles s.Split (Some t) (o.Member y) p.None refl here
        (found-true pair region t y (reason_of (o.Member y)) here inside (not-beyond pair t b) hy there) (split-sizes (Other.Found y) m (reason_of (o.Member y)))

    settles-left : (why : Reason) (proof : Proof) → has_many_literals pair t ≡ false → is_beyond pair t ≡ false → Settles (raw_of entry s.Split (Some t) (o.Reason why) proof)
    settles-left why proof m b = settles s.Split (Some t) (o.Reason why) proof refl here
        (left-true pair region t why why here inside (not-beyond pair t b)) (split-sizes (Other.Left why) m why)

    by-answer : (answer : Answer) → has_many_literals pair t ≡ false → is_beyond pair t ≡ false → IsShown n (other_part pair region t) answer → Settles (raw_by entry t answer)
    by-answer (Held y) m b shown = settles-found y m b shown.0 shown.1
    by-answer (Refuted log) m b shown = settles-whole (p.Log log) m b (λ x hx. refuted-none n (other_part pair region t) log eight (other-part-terms pair region t known) shown x hx)
    by-answer (Undecided why proof) m b shown = settles-left why proof m b

    by-stage : (raw : Raw) (at : Stage) → stage pair region t ≡ at → IsRecordAt (IsShown n) pair region entry t raw at → Settles raw
    by-stage raw Wide e h = subst Settles (sym h) (settles-stuck (Some t) r.Wide p.None here)
    by-stage raw Literals e h = subst Settles (sym h) (settles-stuck (Some t) r.Literals p.None here)
    by-stage raw Beyond e h =
        let said = beyond-says (is_wide pair region t) (has_many_literals pair t) (is_beyond pair t) (is_granted pair region t) e in
        subst Settles (sym h) (settles-beyond said.0 said.1)
    by-stage raw Granted e h =
        let said = granted-says (is_wide pair region t) (has_many_literals pair t) (is_beyond pair t) (is_granted pair region t) e in
        subst Settles (sym h) (settles-whole p.None said.0 said.1 (λ x hx. granted-none pair region t x said.2))
    by-stage raw Open e h =
        let said = open-says (is_wide pair region t) (has_many_literals pair t) (is_beyond pair t) (is_granted pair region t) e in
        subst Settles (sym h.2) (by-answer h.0 said.0 said.1 h.1)

  by-found : (raw : Raw) (answer : Answer) → IsShown n region answer → IsRecordBy (IsShown n) pair region entry raw answer → Settles raw
  by-found raw (Held t) shown h = by-stage t shown.0 shown.1 raw (stage pair region t) refl h
  by-found raw (Refuted log) shown h = subst Settles (sym h) (settles-empty (p.Log log) (λ x hx. refuted-none n region log eight known shown x hx))
  by-found raw (Undecided why proof) shown h = subst Settles (sym h) (settles-stuck None why proof tt)

pub supported-true : (f : Finding) (raw : Raw) → AllByRecursion (IsTerm f.pair.before.params) f.region → length f.region ≤ 2 ^ 48 → f.numbers < 2 ^ 62 → IsSupported f raw → IsSettlement f
supported-true f raw known few small h =
    let found = by-found f.pair f.region raw.entry known few raw h.grounds.0 h.grounds.1 h.grounds.2 in
    subst IsSettlement (sym h.gives) (found (subst (λ (g : Finding). g.numbers < 2 ^ 62) h.gives small))

-- ---- what settling gives

at-shown : (n lines : ℕ) (pair : Pair) (region : List Term) (entry : ℕ) (t : List ℤ) (raw : Raw) (at : Stage) → IsRecordAt (IsSearched n lines) pair region entry t raw at → IsRecordAt (IsShown n) pair region entry t raw at
at-shown n lines pair region entry t raw Wide h = h
at-shown n lines pair region entry t raw Literals h = h
at-shown n lines pair region entry t raw Beyond h = h
at-shown n lines pair region entry t raw Granted h = h
at-shown n lines pair region entry t raw Open h = (h.0, h.1.shown, h.2)

by-shown : (n lines : ℕ) (pair : Pair) (region : List Term) (entry : ℕ) (raw : Raw) (answer : Answer) → IsRecordBy (IsSearched n lines) pair region entry raw answer → IsRecordBy (IsShown n) pair region entry raw answer
by-shown n lines pair region entry raw (Held t) h = at-shown n lines pair region entry t raw (stage pair region t) h
by-shown n lines pair region entry raw (Refuted log) h = h
by-shown n lines pair region entry raw (Undecided why proof) h = h

pub settled-shown : (pair : Pair) (region : List Term) (entry lines : ℕ) (raw : Raw) → IsSettled pair region entry lines raw → IsRecord (IsShown pair.before.params) pair region entry raw
settled-shown pair region entry lines raw h = (h.0, h.1.shown, by-shown pair.before.params lines pair region entry raw h.0 h.2)

pub settled-at-shown : (pair : Pair) (region : List Term) (entry lines : ℕ) (t : List ℤ) (raw : Raw) → IsInput pair.before.params t → holds region t ≡ true → IsSettledAt pair region entry lines t raw → IsRecord (IsShown pair.before.params) pair region entry raw
settled-at-shown pair region entry lines t raw here inside h = (Held t, (here, inside), at-shown pair.before.params lines pair region entry t raw (stage pair region t) h)
