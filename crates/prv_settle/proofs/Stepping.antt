-- From what one step of settling says of a record to what the step above it says.
use Rattle.std.proofs.Common.{◌≡◌, ℕ, ◌≤◌, Bool, true, false, ◌||◌, nat_lt, List, length, Option, Some, None, MatchOption, ℤ, refl, sym, subst}
use Rattle.std.specs.Arc.{arc_value}
use Rattle.prv_model.specs.Comparison.{is_long, outcome_eq}
use Rattle.prv_model.specs.Programs.{IsProgram}
use Rattle.prv_model.specs.declared.entry.Reason.{Reason}
use Rattle.prv_model.specs.declared.entry.Reason.TheVariants as r
use Rattle.prv_model.specs.declared.program.Pair.{Pair}
use Rattle.prv_model.specs.declared.term.Term.{Term}
use Rattle.prv_general.proofs.Standing.{all-long}
use Rattle.prv_part.specs.Literals.{slice_before, slice_after, agree_at}
use Rattle.prv_part.specs.declared.shape.Shape.{Shape}
use Rattle.prv_part.specs.declared.shape.Shape.TheVariants as s
use Rattle.prv_check.specs.LogLines.{LogLine}
use Rattle.prv_pool.specs.Tables.{Table}
use Rattle.prv_record.specs.declared.raw.Raw.{Raw}
use Rattle.prv_record.specs.declared.raw.RawOther.{RawOther}
use Rattle.prv_record.specs.declared.raw.RawOther.TheVariants as o
use Rattle.prv_record.specs.declared.raw.Proof.{Proof}
use Rattle.prv_record.specs.declared.raw.Proof.TheVariants as p
use Rattle.prv_settle.specs.Answers.{IsSearched}
use Rattle.prv_settle.specs.Counts.{is_wide, has_many_literals, is_beyond}
use Rattle.prv_settle.specs.Grounds.{is_granted, other_part}
use Rattle.prv_settle.specs.Making.{AreRuns}
use Rattle.prv_settle.specs.Pairings.{Supported}
use Rattle.prv_settle.specs.Settlings.{raw_of, raw_by, IsRecordAt, IsSettled, IsSettledAt}
use Rattle.prv_settle.specs.Stages.{Stage, Wide, Literals, Beyond, Granted, Open, stage}
use Rattle.prv_settle.specs.Steps.{IsMember, Settles, SettlesAt, MaySettle, sealed, IsSettling, IsSettlingAt}
use Rattle.prv_settle.specs.declared.answer.Answer.{Answer}
use Rattle.prv_settle.specs.declared.answer.Answer.TheVariants.{Held, Refuted, Undecided}
use Rattle.prv_settle.specs.declared.runs.Runs.{Runs}
use Rattle.prv_settle.specs.declared.task.Task.{Task}
use Rattle.prv_settle.proofs.Supporting.{staged, settled-shown, settled-at-shown}

-- ---- answers

-- an answer that is this value
pub answered : (n lines : ℕ) (region : List Term) (a b : Answer) → a ≡ b → IsSearched n lines region a → IsSearched n lines region b
answered n lines region a b e h = let P : Answer → Type 0 = λ z. IsSearched n lines region z in subst P e h

-- for the pair that was asked for
pub as-answer : (pair same : Pair) (lines : ℕ) (region : List Term) (a b : Answer) → pair ≡ same → a ≡ b → IsSearched pair.before.params lines region a → IsSearched same.before.params lines region b
as-answer pair same lines region a b e f h =
    let Q : Pair → Type 0 = λ q. IsSearched q.before.params lines region b in
    subst Q e (answered pair.before.params lines region a b f h)

-- ---- settlements

-- a settlement that was sealed by a record which settles the task
pub settling : (task : Task) (raw : Raw) (s : Supported) → Settles task raw → s ≡ sealed task raw → IsSettling task s
settling task raw s h e = let P : Supported → Type 0 = λ z. IsSettling task z in subst P (sym e) (record { settled = h; finding = refl })

pub settling-at : (task : Task) (t : List ℤ) (raw : Raw) (s : Supported) → SettlesAt task t raw → s ≡ sealed task raw → IsSettlingAt task t s
settling-at task t raw s h e = let P : Supported → Type 0 = λ z. IsSettlingAt task t z in subst P (sym e) (record { settled = h; finding = refl })

-- such a record may settle it
pub may-settle : (task : Task) (shape : Shape) (member : Option (List ℤ)) (other : RawOther) (proof : Proof) → Settles task (raw_of task.entry shape member other proof) → MaySettle task (raw_of task.entry shape member other proof)
may-settle task shape member other proof h = settled-shown (arc_value task.pair.now) task.region.now task.entry task.options.lines (raw_of task.entry shape member other proof) h

pub may-settle-at : (task : Task) (t : List ℤ) (shape : Shape) (member : Option (List ℤ)) (other : RawOther) (proof : Proof) → IsMember task t → SettlesAt task t (raw_of task.entry shape member other proof) →
    MaySettle task (raw_of task.entry shape member other proof)
may-settle-at task t shape member other proof here h =
    settled-at-shown (arc_value task.pair.now) task.region.now task.entry task.options.lines t (raw_of task.entry shape member other proof) here.input here.inside h

-- ---- a region that is searched

pub few-words : (pair : Pair) → pair.before.params ≤ 8
few-words pair = let kept : IsProgram pair.before.params pair.before.names pair.before.body = pair.before.kept in kept.few_params

-- an input of it was found
pub found-settling : (task : Task) (t : List ℤ) (s : Supported) → IsSearched (arc_value task.pair.now).before.params task.options.lines task.region.now (Held t) → IsSettlingAt task t s → IsSettling task s
found-settling task t s searched h = record { settled = (Held t, searched, h.settled); finding = h.finding }

-- none is there
pub empty-settled : (pair : Pair) (region : List Term) (entry lines : ℕ) (log : List LogLine) → IsSearched pair.before.params lines region (Refuted log) → IsSettled pair region entry lines (raw_of entry s.Empty None o.None (p.Log log))
empty-settled pair region entry lines log searched = (Refuted log, searched, refl)

-- none was found
pub stuck-settled : (pair : Pair) (region : List Term) (entry lines : ℕ) (why : Reason) (proof : Proof) → IsSearched pair.before.params lines region (Undecided why proof) →
    IsSettled pair region entry lines (raw_of entry s.Stuck None (o.Reason why) proof)
stuck-settled pair region entry lines why proof searched = (Undecided why proof, searched, refl)

-- ---- stages

stage-wide : (w m b g : Bool) → w ≡ true → staged w m b g ≡ Wide
stage-wide true m b g e = refl
stage-wide false m b g e = cc e

stage-literals : (w m b g : Bool) → w ≡ false → m ≡ true → staged w m b g ≡ Literals
stage-literals true m b g e f = cc e
stage-literals false true b g e f = refl
stage-literals false false b g e f = cc f

stage-beyond : (w m b g : Bool) → w ≡ false → m ≡ false → b ≡ true → staged w m b g ≡ Beyond
stage-beyond true m b g e f h = cc e
stage-beyond false true b g e f h = cc f
stage-beyond false false true g e f h = refl
stage-beyond false false false g e f h = cc h

stage-granted : (w m b g : Bool) → w ≡ false → m ≡ false → b ≡ false → g ≡ true → staged w m b g ≡ Granted
stage-granted true m b g e f h k = cc e
stage-granted false true b g e f h k = cc f
stage-granted false false true g e f h k = cc h
stage-granted false false false true e f h k = refl
stage-granted false false false false e f h k = cc k

stage-open : (w m b g : Bool) → w ≡ false → m ≡ false → b ≡ false → g ≡ false → staged w m b g ≡ Open
stage-open true m b g e f h k = cc e
stage-open false true b g e f h k = cc f
stage-open false false true g e f h k = cc h
stage-open false false false true e f h k = cc k
stage-open false false false false e f h k = refl

module _ (pair : Pair) (region : List Term) (entry lines : ℕ) (t : List ℤ) where
  at-stage : (raw : Raw) (at : Stage) → stage pair region t ≡ at → IsRecordAt (IsSearched pair.before.params lines) pair region entry t raw at → IsSettledAt pair region entry lines t raw
  at-stage raw at e h = let P : Stage → Type 0 = λ g. IsRecordAt (IsSearched pair.before.params lines) pair region entry t raw g in subst P (sym e) h

  pub wide-settled : is_wide pair region t ≡ true → IsSettledAt pair region entry lines t (raw_of entry s.Stuck (Some t) (o.Reason r.Wide) p.None)
  wide-settled e = at-stage (raw_of entry s.Stuck (Some t) (o.Reason r.Wide) p.None) Wide (stage-wide (is_wide pair region t) (has_many_literals pair t) (is_beyond pair t) (is_granted pair region t) e) refl

  pub literals-settled : is_wide pair region t ≡ false → has_many_literals pair t ≡ true → IsSettledAt pair region entry lines t (raw_of entry s.Stuck (Some t) (o.Reason r.Literals) p.None)
  literals-settled e f = at-stage (raw_of entry s.Stuck (Some t) (o.Reason r.Literals) p.None) Literals (stage-literals (is_wide pair region t) (has_many_literals pair t) (is_beyond pair t) (is_granted pair region t) e f) refl

  pub beyond-settled : is_wide pair region t ≡ false → has_many_literals pair t ≡ false → is_beyond pair t ≡ true → IsSettledAt pair region entry lines t (raw_of entry s.Beyond (Some t) o.None p.None)
  beyond-settled e f h = at-stage (raw_of entry s.Beyond (Some t) o.None p.None) Beyond (stage-beyond (is_wide pair region t) (has_many_literals pair t) (is_beyond pair t) (is_granted pair region t) e f h) refl

  pub granted-settled : is_wide pair region t ≡ false → has_many_literals pair t ≡ false → is_beyond pair t ≡ false → is_granted pair region t ≡ true → IsSettledAt pair region entry lines t (raw_of entry s.Whole (Some t) o.None p.None)
  granted-settled e f h k = at-stage (raw_of entry s.Whole (Some t) o.None p.None) Granted (stage-granted (is_wide pair region t) (has_many_literals pair t) (is_beyond pair t) (is_granted pair region t) e f h k) refl

  pub open-settled : is_wide pair region t ≡ false → has_many_literals pair t ≡ false → is_beyond pair t ≡ false → is_granted pair region t ≡ false → (answer : Answer) → IsSearched pair.before.params lines (other_part pair region t) answer →
      IsSettledAt pair region entry lines t (raw_by entry t answer)
  open-settled e f h k answer searched = at-stage (raw_by entry t answer) Open (stage-open (is_wide pair region t) (has_many_literals pair t) (is_beyond pair t) (is_granted pair region t) e f h k) (answer, searched, refl)

-- ---- runs

pub many-literals : (pair : Pair) (region : List Term) (t : List ℤ) (table : Table) (made : Runs) → AreRuns pair region t table made → (nat_lt 1024 (length made.before.literals) || nat_lt 1024 (length made.after.literals)) ≡ has_many_literals pair t
many-literals pair region t table made h =
    let a = all-long table.terms made.before.literals (slice_before pair t).literals h.before_is.literals in
    let b = all-long table.terms made.after.literals (slice_after pair t).literals h.after_is.literals in
    λ i. nat_lt 1024 (a i) || nat_lt 1024 (b i)

pub runs-beyond : (pair : Pair) (region : List Term) (t : List ℤ) (table : Table) (made : Runs) → AreRuns pair region t table made → (is_long made.before.outcome.how || is_long made.after.outcome.how) ≡ is_beyond pair t
runs-beyond pair region t table made h = λ i. is_long (h.before_outcome i).how || is_long (h.after_outcome i).how

pub runs-agree : (pair : Pair) (region : List Term) (t : List ℤ) (table : Table) (made : Runs) → AreRuns pair region t table made → outcome_eq made.before.outcome made.after.outcome ≡ agree_at pair t
runs-agree pair region t table made h = λ i. outcome_eq (h.before_outcome i) (h.after_outcome i)

-- what was found of the runs
pub none-found : (pair : Pair) (region : List Term) (t : List ℤ) (table : Table) (found : Option Runs) → found ≡ None →
    MatchOption found (is_wide pair region t ≡ true) (λ made. (is_wide pair region t ≡ false) × AreRuns pair region t table made) → is_wide pair region t ≡ true
none-found pair region t table found e h =
    let P : Option Runs → Type 0 = λ o. MatchOption o (is_wide pair region t ≡ true) (λ made. (is_wide pair region t ≡ false) × AreRuns pair region t table made) in
    subst P e h

pub some-found : (pair : Pair) (region : List Term) (t : List ℤ) (table : Table) (found : Option Runs) (made : Runs) → found ≡ Some made →
    MatchOption found (is_wide pair region t ≡ true) (λ made. (is_wide pair region t ≡ false) × AreRuns pair region t table made) → (is_wide pair region t ≡ false) × AreRuns pair region t table made
some-found pair region t table found made e h =
    let P : Option Runs → Type 0 = λ o. MatchOption o (is_wide pair region t ≡ true) (λ made. (is_wide pair region t ≡ false) × AreRuns pair region t table made) in
    subst P e h
