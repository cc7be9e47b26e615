-- Each part that a settlement leaves for want of lines names the budget that it was settled with, so an entry that can be worked on with the budget is open to the parts.
use Rattle.std.proofs.Common.{◌≡◌, ℕ, ◌<◌, Bool, true, false, List, [], ◌∷◌, map, ℤ, Some, None, refl, sym, ap, subst, if◌then◌else◌, arith}
use Rattle.std.specs.List.{AllByRecursion, list_any}
use Rattle.std.proofs.lemmas.Bool.Decides.{nat_tests}
use Rattle.prv_model.specs.declared.entry.Kind.{Kind}
use Rattle.prv_model.specs.declared.entry.Kind.TheVariants as k
use Rattle.prv_model.specs.declared.entry.Reason.{Reason}
use Rattle.prv_model.specs.declared.entry.Reason.TheVariants as r
use Rattle.prv_model.specs.declared.program.Pair.{Pair}
use Rattle.prv_model.specs.declared.term.Term.{Term}
use Rattle.prv_part.specs.Literals.{pair_literals, agree_at}
use Rattle.prv_part.specs.Parts.{rests, unmarked}
use Rattle.prv_part.specs.Settlements.{Finding}
use Rattle.prv_part.specs.declared.part.Part.{Part}
use Rattle.prv_part.specs.declared.shape.Shape.TheVariants as s
use Rattle.prv_board.specs.Slots.{is_left_within, may_replace, is_claimable_kind}
use Rattle.prv_record.specs.declared.raw.Raw.{Raw}
use Rattle.prv_record.specs.declared.raw.RawOther.TheVariants as o
use Rattle.prv_record.specs.declared.raw.Proof.{Proof}
use Rattle.prv_record.specs.declared.raw.Proof.TheVariants as p
use Rattle.prv_settle.specs.Answers.{IsFirst, IsSearched}
use Rattle.prv_settle.specs.Grounds.{other_part}
use Rattle.prv_settle.specs.Stages.{Stage, Wide, Literals, Beyond, Granted, Open, stage}
use Rattle.prv_settle.specs.Settlings.{raw_of, raw_by, IsRecordAt, IsRecordBy, IsSettled, IsSettledAt}
use Rattle.prv_settle.specs.Supported.{raw_parts, finding_of}
use Rattle.prv_settle.specs.declared.answer.Answer.{Answer}
use Rattle.prv_settle.specs.declared.answer.Answer.TheVariants.{Held, Refuted, Undecided}
use Rattle.prv_settle.specs.Budgets.{IsLeftAt, HasBudget}

abbrev AreLeftAt : ℕ → List Part → Type 0
AreLeftAt lines parts = AllByRecursion (λ p. IsLeftAt lines p.kind) parts

left-open : (lines : ℕ) (regions : List (List Term)) → AreLeftAt lines (map (unmarked k.Unexplored) regions)
left-open lines [] = tt
left-open lines (region ∷ regions) = (tt, left-open lines regions)

left-choice : (lines : ℕ) (t : List ℤ) (agree : Bool) → IsLeftAt lines (if agree then k.Same else k.Different t)
left-choice lines t true = tt
left-choice lines t false = tt

left-contrary : (lines : ℕ) (t : List ℤ) (agree : Bool) → IsLeftAt lines (if agree then k.Different t else k.Same)
left-contrary lines t true = tt
left-contrary lines t false = tt

left-why : (n lines : ℕ) (condition : List Term) (why : Reason) (proof : Proof) → IsFirst n lines condition (Undecided why proof) → IsLeftAt lines (k.Undecided why)
left-why n lines condition (r.Lines budget) proof first = first
left-why n lines condition (r.Numbers count) proof first = tt
left-why n lines condition (r.Clauses count) proof first = tt
left-why n lines condition r.Wide proof first = tt
left-why n lines condition r.Literals proof first = tt

-- the parts of a record, where the record is one of these
by-raw : (pair : Pair) (region : List Term) (lines : ℕ) (raw made : Raw) → raw ≡ made → AreLeftAt lines (raw_parts pair region made) → AreLeftAt lines (raw_parts pair region raw)
by-raw pair region lines raw made same left =
    let P : Raw → Type 0 = λ x. AreLeftAt lines (raw_parts pair region x) in
    subst P (sym same) left

module _ (pair : Pair) (region : List Term) (entry lines : ℕ) (raw : Raw) where
  rests-left : (t : List ℤ) → AreLeftAt lines (map (unmarked k.Unexplored) (rests region (pair_literals pair region t)))
  rests-left t = left-open lines (rests region (pair_literals pair region t))

  by-answer : (t : List ℤ) (answer : Answer) → IsSearched pair.before.params lines (other_part pair region t) answer → raw ≡ raw_by entry t answer → AreLeftAt lines (raw_parts pair region raw)
  by-answer t (Held x) searched same =
      by-raw pair region lines raw (raw_by entry t (Held x)) same (left-choice lines t (agree_at pair t), (left-contrary lines x (agree_at pair t), rests-left t))
  by-answer t (Refuted log) searched same =
      by-raw pair region lines raw (raw_by entry t (Refuted log)) same (left-choice lines t (agree_at pair t), rests-left t)
  by-answer t (Undecided why proof) searched same =
      by-raw pair region lines raw (raw_by entry t (Undecided why proof)) same
      (left-choice lines t (agree_at pair t), (left-why pair.before.params lines (other_part pair region t) why proof searched.first, rests-left t))

  by-stage : (t : List ℤ) (at : Stage) → IsRecordAt (IsSearched pair.before.params lines) pair region entry t raw at → AreLeftAt lines (raw_parts pair region raw)
  by-stage t Wide is = by-raw pair region lines raw (raw_of entry s.Stuck (Some t) (o.Reason r.Wide) p.None) is (tt, tt)
  by-stage t Literals is = by-raw pair region lines raw (raw_of entry s.Stuck (Some t) (o.Reason r.Literals) p.None) is (tt, tt)
  by-stage t Beyond is = by-raw pair region lines raw (raw_of entry s.Beyond (Some t) o.None p.None) is (tt, rests-left t)
  by-stage t Granted is = by-raw pair region lines raw (raw_of entry s.Whole (Some t) o.None p.None) is (left-choice lines t (agree_at pair t), rests-left t)
  by-stage t Open is = by-answer t is.0 is.1 is.2

  by-first : (answer : Answer) → IsSearched pair.before.params lines region answer → IsRecordBy (IsSearched pair.before.params lines) pair region entry raw answer → AreLeftAt lines (raw_parts pair region raw)
  by-first (Held t) searched is = by-stage t (stage pair region t) is
  by-first (Refuted log) searched is = by-raw pair region lines raw (raw_of entry s.Empty None o.None (p.Log log)) is (tt, tt)
  by-first (Undecided why proof) searched is =
      by-raw pair region lines raw (raw_of entry s.Stuck None (o.Reason why) proof) is (left-why pair.before.params lines region why proof searched.first, tt)

  -- the parts of a settlement that was made with a budget, from an input that was searched or at one that is given
  parts-left : IsSettled pair region entry lines raw → AreLeftAt lines (raw_parts pair region raw)
  parts-left is = by-first is.0 is.1 is.2

  parts-left-at : (t : List ℤ) → IsSettledAt pair region entry lines t raw → AreLeftAt lines (raw_parts pair region raw)
  parts-left-at t is = by-stage t (stage pair region t) is

-- ---- the entry and the member of a record

-- a record of an entry has its number
entry-by-answer : (entry : ℕ) (t : List ℤ) (raw : Raw) (answer : Answer) → raw ≡ raw_by entry t answer → raw.entry ≡ entry
entry-by-answer entry t raw (Held x) is = ap (λ (x : Raw). x.entry) is
entry-by-answer entry t raw (Refuted log) is = ap (λ (x : Raw). x.entry) is
entry-by-answer entry t raw (Undecided why proof) is = ap (λ (x : Raw). x.entry) is

entry-by-stage : (pair : Pair) (region : List Term) (entry lines : ℕ) (raw : Raw) (t : List ℤ) (at : Stage) → IsRecordAt (IsSearched pair.before.params lines) pair region entry t raw at → raw.entry ≡ entry
entry-by-stage pair region entry lines raw t Wide is = ap (λ (x : Raw). x.entry) is
entry-by-stage pair region entry lines raw t Literals is = ap (λ (x : Raw). x.entry) is
entry-by-stage pair region entry lines raw t Beyond is = ap (λ (x : Raw). x.entry) is
entry-by-stage pair region entry lines raw t Granted is = ap (λ (x : Raw). x.entry) is
entry-by-stage pair region entry lines raw t Open is = entry-by-answer entry t raw is.0 is.2

entry-by-first : (pair : Pair) (region : List Term) (entry lines : ℕ) (raw : Raw) (answer : Answer) → IsRecordBy (IsSearched pair.before.params lines) pair region entry raw answer → raw.entry ≡ entry
entry-by-first pair region entry lines raw (Held t) is = entry-by-stage pair region entry lines raw t (stage pair region t) is
entry-by-first pair region entry lines raw (Refuted log) is = ap (λ (x : Raw). x.entry) is
entry-by-first pair region entry lines raw (Undecided why proof) is = ap (λ (x : Raw). x.entry) is

pub raw-entry : (pair : Pair) (region : List Term) (entry lines : ℕ) (raw : Raw) → IsSettled pair region entry lines raw → raw.entry ≡ entry
raw-entry pair region entry lines raw is = entry-by-first pair region entry lines raw is.0 is.2

pub raw-entry-at : (pair : Pair) (region : List Term) (entry lines : ℕ) (t : List ℤ) (raw : Raw) → IsSettledAt pair region entry lines t raw → raw.entry ≡ entry
raw-entry-at pair region entry lines t raw is = entry-by-stage pair region entry lines raw t (stage pair region t) is

-- the input at which a region was settled is the record's member
member-by-answer : (entry : ℕ) (t : List ℤ) (raw : Raw) (answer : Answer) → raw ≡ raw_by entry t answer → raw.member ≡ Some t
member-by-answer entry t raw (Held x) is = ap (λ (x : Raw). x.member) is
member-by-answer entry t raw (Refuted log) is = ap (λ (x : Raw). x.member) is
member-by-answer entry t raw (Undecided why proof) is = ap (λ (x : Raw). x.member) is

member-by-stage : (pair : Pair) (region : List Term) (entry lines : ℕ) (raw : Raw) (t : List ℤ) (at : Stage) → IsRecordAt (IsSearched pair.before.params lines) pair region entry t raw at → raw.member ≡ Some t
member-by-stage pair region entry lines raw t Wide is = ap (λ (x : Raw). x.member) is
member-by-stage pair region entry lines raw t Literals is = ap (λ (x : Raw). x.member) is
member-by-stage pair region entry lines raw t Beyond is = ap (λ (x : Raw). x.member) is
member-by-stage pair region entry lines raw t Granted is = ap (λ (x : Raw). x.member) is
member-by-stage pair region entry lines raw t Open is = member-by-answer entry t raw is.0 is.2

pub raw-member : (pair : Pair) (region : List Term) (entry lines : ℕ) (t : List ℤ) (raw : Raw) → IsSettledAt pair region entry lines t raw → raw.member ≡ Some t
raw-member pair region entry lines t raw is = member-by-stage pair region entry lines raw t (stage pair region t) is

-- ---- the settlement that the record gives

pub has-budget : (pair : Pair) (region : List Term) (entry lines : ℕ) (f : Finding) (raw : Raw) → IsSettled pair region entry lines raw → f ≡ finding_of pair region raw → HasBudget lines f
has-budget pair region entry lines f raw is found = let P : Finding → Type 0 = λ g. HasBudget lines g in subst P (sym found) (parts-left pair region entry lines raw is)

pub has-budget-at : (pair : Pair) (region : List Term) (entry lines : ℕ) (t : List ℤ) (f : Finding) (raw : Raw) → IsSettledAt pair region entry lines t raw → f ≡ finding_of pair region raw → HasBudget lines f
has-budget-at pair region entry lines t f raw is found = let P : Finding → Type 0 = λ g. HasBudget lines g in subst P (sym found) (parts-left-at pair region entry lines raw t is)

-- ---- the entry that it takes the place of

-- a kind that names a greater budget isn't left within a smaller one
not-within : (lines spent : ℕ) (kind : Kind) → spent < lines → IsLeftAt lines kind → is_left_within spent kind ≡ false
not-within lines spent k.Same less left = refl
not-within lines spent (k.Different sample) less left = refl
not-within lines spent k.Empty less left = refl
not-within lines spent k.Beyond less left = refl
not-within lines spent k.Unexplored less left = refl
not-within lines spent (k.Undecided (r.Lines budget)) less left = grind (arith, nat_tests)
not-within lines spent (k.Undecided (r.Numbers count)) less left = refl
not-within lines spent (k.Undecided (r.Clauses count)) less left = refl
not-within lines spent (k.Undecided r.Wide) less left = refl
not-within lines spent (k.Undecided r.Literals) less left = refl

none-within : (lines spent : ℕ) (parts : List Part) → spent < lines → AreLeftAt lines parts → list_any (λ p. is_left_within spent p.kind) parts ≡ false
none-within lines spent [] less left = refl
none-within lines spent (p ∷ parts) less left = rw (not-within lines spent p.kind less left.0) (none-within lines spent parts less left.1)

-- an entry that can be worked on is open to parts that were left with the budget
pub may-replace : (lines : ℕ) (f : Finding) (kind : Kind) → HasBudget lines f → is_claimable_kind lines kind ≡ true → may_replace f.parts kind ≡ true
may-replace lines f k.Unexplored left is = refl
may-replace lines f (k.Undecided (r.Lines spent)) left is = rw (none-within lines spent f.parts (grind (arith, nat_tests)) left) refl
may-replace lines f k.Same left is = absurd (cc is)
may-replace lines f (k.Different sample) left is = absurd (cc is)
may-replace lines f k.Empty left is = absurd (cc is)
may-replace lines f k.Beyond left is = absurd (cc is)
may-replace lines f (k.Undecided (r.Numbers count)) left is = absurd (cc is)
may-replace lines f (k.Undecided (r.Clauses count)) left is = absurd (cc is)
may-replace lines f (k.Undecided r.Wide) left is = absurd (cc is)
may-replace lines f (k.Undecided r.Literals) left is = absurd (cc is)
