-- Which settlements are supported by their records.
use Rattle.std.specs.Prelude.{◌≡◌, ℕ, ◌+◌, ◌≤◌, List, [], length, unwrap_or, flat_map}
use Rattle.prv_model.specs.declared.entry.Reason.{Reason}
use Rattle.prv_model.specs.declared.entry.Reason.TheVariants as r
use Rattle.prv_model.specs.declared.program.Pair.{Pair}
use Rattle.prv_model.specs.declared.term.Term.{Term}
use Rattle.prv_blast.specs.Subterms.{subterms}
use Rattle.prv_check.specs.Spending.{log_numbers}
use Rattle.prv_part.specs.Parts.{Other, Found, Left, parts_of}
use Rattle.prv_part.specs.Settlements.{Finding}
use Rattle.prv_part.specs.declared.part.Part.{Part}
use Rattle.prv_record.specs.Fields.{HasFields}
use Rattle.prv_record.specs.Payloads.{payload_length}
use Rattle.prv_record.specs.declared.raw.Raw.{Raw}
use Rattle.prv_record.specs.declared.raw.RawOther.{RawOther}
use Rattle.prv_record.specs.declared.raw.RawOther.TheVariants as o
use Rattle.prv_record.specs.declared.raw.Proof.{Proof}
use Rattle.prv_record.specs.declared.raw.Proof.TheVariants as p
use Rattle.prv_settle.specs.Answers.{IsShown}
use Rattle.prv_settle.specs.Settlings.{IsRecord}
use Rattle.prv_settle.specs.declared.limits.TheConstants.{MAX_PAYLOAD}

-- what a record shows of a second part, and why it leaves a region undecided; a shape reads only what it has
abbrev pub other_of : RawOther → Other
other_of o.None = Found []
other_of (o.Member x) = Found x
other_of (o.Reason why) = Left why

abbrev pub reason_of : RawOther → Reason
reason_of (o.Reason why) = why
reason_of _ = r.Wide

-- the parts that a record gives a region
abbrev pub raw_parts : Pair → List Term → Raw → List Part
raw_parts pair region raw = parts_of pair region raw.shape (unwrap_or raw.member []) (other_of raw.other) (reason_of raw.other)

-- the distinct terms of some parts
abbrev pub parts_terms : List Part → List Term
parts_terms parts = subterms (flat_map (λ p. p.region) parts)

-- the numbers of a log that is kept, without a line that would come next
abbrev pub proof_numbers : Proof → ℕ
proof_numbers p.None = 0
proof_numbers (p.Log log) = log_numbers log
proof_numbers (p.Spent log next) = log_numbers log

-- the settlement that a record gives a region
abbrev pub finding_of : Pair → List Term → Raw → Finding
finding_of pair region raw = record {
  pair = pair;
  entry = raw.entry;
  region = region;
  member = raw.member;
  shape = raw.shape;
  parts = raw_parts pair region raw;
  numbers = length (parts_terms (raw_parts pair region raw)) + proof_numbers raw.proof;
}

-- a settlement is supported by a record: it is the one that the record gives the region, and the record is what settling the region may come to, from whichever of its inputs
pub record IsSupported (f : Finding) (raw : Raw) : Type 0 where
  pub grounds : IsRecord (IsShown f.pair.before.params) f.pair f.region raw.entry raw
  pub gives : f ≡ finding_of f.pair f.region raw

-- a settlement with its record: the record supports it, has the fields of its shape, and is small enough for a journal
pub record IsKept (f : Finding) (raw : Raw) : Type 0 where
  pub supported : IsSupported f raw
  pub fields : HasFields raw
  pub small : payload_length raw ≤ MAX_PAYLOAD
