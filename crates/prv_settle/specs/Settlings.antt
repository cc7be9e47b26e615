-- How a region is settled: an input of it is found, both versions are run there, and what they leave open is searched. What is found is kept as a record.
use Rattle.std.specs.Prelude.{◌≡◌, ℕ, List, ℤ, Option, Some, None}
use Rattle.prv_model.specs.declared.entry.Reason.TheVariants as r
use Rattle.prv_model.specs.declared.program.Pair.{Pair}
use Rattle.prv_model.specs.declared.term.Term.{Term}
use Rattle.prv_part.specs.declared.shape.Shape.{Shape}
use Rattle.prv_part.specs.declared.shape.Shape.TheVariants as s
use Rattle.prv_record.specs.declared.raw.Raw.{Raw}
use Rattle.prv_record.specs.declared.raw.RawOther.{RawOther}
use Rattle.prv_record.specs.declared.raw.RawOther.TheVariants as o
use Rattle.prv_record.specs.declared.raw.Proof.{Proof}
use Rattle.prv_record.specs.declared.raw.Proof.TheVariants as p
use Rattle.prv_settle.specs.Grounds.{other_part}
use Rattle.prv_settle.specs.Stages.{Stage, Wide, Literals, Beyond, Granted, Open, stage}
use Rattle.prv_settle.specs.Answers.{IsSearched}
use Rattle.prv_settle.specs.declared.answer.Answer.{Answer}
use Rattle.prv_settle.specs.declared.answer.Answer.TheVariants.{Held, Refuted, Undecided}

abbrev pub raw_of : ℕ → Shape → Option (List ℤ) → RawOther → Proof → Raw
raw_of entry shape member other proof = record { entry = entry; shape = shape; member = member; other = other; proof = proof }

-- what is found of the other part of the partition of t: none is there, and the partition is settled whole; else it is split
abbrev pub raw_by : ℕ → List ℤ → Answer → Raw
raw_by entry t (Held x) = raw_of entry s.Split (Some t) (o.Member x) p.None
raw_by entry t (Refuted log) = raw_of entry s.Whole (Some t) o.None (p.Log log)
raw_by entry t (Undecided why proof) = raw_of entry s.Split (Some t) (o.Reason why) proof

-- the record at each stage, where `Shows` is what may be said of a condition
abbrev pub IsRecordAt : (List Term → Answer → Type 0) → Pair → List Term → ℕ → List ℤ → Raw → Stage → Type 0
IsRecordAt Shows pair region entry t raw Wide = raw ≡ raw_of entry s.Stuck (Some t) (o.Reason r.Wide) p.None
IsRecordAt Shows pair region entry t raw Literals = raw ≡ raw_of entry s.Stuck (Some t) (o.Reason r.Literals) p.None
IsRecordAt Shows pair region entry t raw Beyond = raw ≡ raw_of entry s.Beyond (Some t) o.None p.None
IsRecordAt Shows pair region entry t raw Granted = raw ≡ raw_of entry s.Whole (Some t) o.None p.None
IsRecordAt Shows pair region entry t raw Open = (answer : Answer) × Shows (other_part pair region t) answer × (raw ≡ raw_by entry t answer)

-- the record of a region, by what was found of it: with an input the versions are run there
abbrev pub IsRecordBy : (List Term → Answer → Type 0) → Pair → List Term → ℕ → Raw → Answer → Type 0
IsRecordBy Shows pair region entry raw (Held t) = IsRecordAt Shows pair region entry t raw (stage pair region t)
IsRecordBy Shows pair region entry raw (Refuted log) = raw ≡ raw_of entry s.Empty None o.None (p.Log log)
IsRecordBy Shows pair region entry raw (Undecided why proof) = raw ≡ raw_of entry s.Stuck None (o.Reason why) proof

abbrev pub IsRecord : (List Term → Answer → Type 0) → Pair → List Term → ℕ → Raw → Type 0
IsRecord Shows pair region entry raw = (answer : Answer) × Shows region answer × IsRecordBy Shows pair region entry raw answer

-- the region of an entry is settled with a budget of lines, from an input that is searched, or at an input of it that is given
abbrev pub IsSettled : Pair → List Term → ℕ → ℕ → Raw → Type 0
IsSettled pair region entry lines raw = IsRecord (IsSearched pair.before.params lines) pair region entry raw

abbrev pub IsSettledAt : Pair → List Term → ℕ → ℕ → List ℤ → Raw → Type 0
IsSettledAt pair region entry lines t raw = IsRecordAt (IsSearched pair.before.params lines) pair region entry t raw (stage pair region t)
