-- A record that settling a region may come to has the fields of its shape and is small, and gives its region a true settlement.
use Rattle.std.proofs.Common.{◌≡◌, ℕ, ◌+◌, ◌<◌, ◌≤◌, ◌^◌, List, length, Some, None, ℤ, refl, sym, ap, ◌∙◌, subst, arith}
use Rattle.std.specs.Prelude.{IsSome}
use Rattle.std.specs.List.{AllByRecursion}
use Rattle.prv_model.specs.Boards.{IsInput}
use Rattle.prv_model.specs.Terms.{IsTerm}
use Rattle.prv_model.specs.Programs.{IsProgram}
use Rattle.prv_model.specs.declared.entry.Reason.{Reason}
use Rattle.prv_model.specs.declared.entry.Reason.TheVariants as r
use Rattle.prv_model.specs.declared.program.Pair.{Pair}
use Rattle.prv_model.specs.declared.term.Term.{Term}
use Rattle.prv_part.specs.declared.shape.Shape.{Shape}
use Rattle.prv_part.specs.declared.shape.Shape.TheVariants as s
use Rattle.prv_part.specs.Settlements.{Finding, finding, IsSettlement}
use Rattle.prv_part.specs.declared.part.Part.{Part}
use Rattle.prv_record.specs.Fields.{HasFields, IsShort, CountsLines, shape_fields}
use Rattle.prv_record.specs.Payloads.{payload_length, proof_length, choice_length, reason_length, member_length, other_length}
use Rattle.prv_record.specs.declared.raw.Raw.{Raw}
use Rattle.prv_record.specs.declared.raw.RawOther.TheVariants as o
use Rattle.prv_record.specs.declared.raw.Proof.{Proof}
use Rattle.prv_record.specs.declared.raw.Proof.TheVariants as p
use Rattle.prv_settle.specs.Answers.{IsShown, Explains}
use Rattle.prv_settle.specs.Grounds.{other_part}
use Rattle.prv_settle.specs.Settlings.{raw_by, IsRecordAt, IsRecordBy, IsRecord}
use Rattle.prv_settle.specs.Stages.{Stage, Wide, Literals, Beyond, Granted, Open, stage}
use Rattle.prv_settle.specs.Supported.{raw_parts, parts_terms, proof_numbers, finding_of, IsSupported, IsKept}
use Rattle.prv_settle.specs.declared.answer.Answer.{Answer}
use Rattle.prv_settle.specs.declared.answer.Answer.TheVariants.{Held, Refuted, Undecided}
use Rattle.prv_settle.proofs.OtherParts.{other-part-terms}
use Rattle.prv_settle.proofs.Proving.{refuted-short, explained-short, numbers-bytes}
use Rattle.prv_settle.proofs.Supporting.{supported-true}

choice-short : (shape : Shape) → choice_length shape ≤ 1
choice-short s.Empty = omega arith
choice-short s.Stuck = omega arith
choice-short s.Whole = omega arith
choice-short s.Split = omega arith
choice-short s.Beyond = omega arith

reason-short : (why : Reason) → reason_length why ≤ 8
reason-short (r.Lines budget) = omega arith
reason-short (r.Numbers lines) = omega arith
reason-short (r.Clauses count) = omega arith
reason-short r.Wide = omega arith
reason-short r.Literals = omega arith

-- a record with the fields of its shape, inputs of at most 8 words, and a proof of at most 16,960,004 bytes
record IsWritten (raw : Raw) : Type 0 where
  pub fields : HasFields raw
  pub member : member_length raw.member ≤ 33
  pub other : other_length raw.other ≤ 33
  pub proof : proof_length raw.proof ≤ 16960004

-- what explains a reason is what the tables of stuck and of split regions ask
stuck-table : (condition : List Term) (why : Reason) (proof : Proof) → Explains condition why proof → IsSome (shape_fields s.Stuck None (o.Reason why) proof)
stuck-table condition (r.Lines budget) p.None h = absurd h
stuck-table condition (r.Lines budget) (p.Log log) h = absurd h
stuck-table condition (r.Lines budget) (p.Spent log None) h = refl
stuck-table condition (r.Lines budget) (p.Spent log (Some next)) h = absurd h
stuck-table condition (r.Numbers lines) p.None h = absurd h
stuck-table condition (r.Numbers lines) (p.Log log) h = absurd h
stuck-table condition (r.Numbers lines) (p.Spent log None) h = absurd h
stuck-table condition (r.Numbers lines) (p.Spent log (Some next)) h = refl
stuck-table condition (r.Clauses count) p.None h = refl
stuck-table condition (r.Clauses count) (p.Log log) h = absurd h
stuck-table condition (r.Clauses count) (p.Spent log next) h = absurd h
stuck-table condition r.Wide proof h = absurd h
stuck-table condition r.Literals proof h = absurd h

split-table : (condition : List Term) (t : List ℤ) (why : Reason) (proof : Proof) → Explains condition why proof → IsSome (shape_fields s.Split (Some t) (o.Reason why) proof)
split-table condition t (r.Lines budget) p.None h = absurd h
split-table condition t (r.Lines budget) (p.Log log) h = absurd h
split-table condition t (r.Lines budget) (p.Spent log None) h = refl
split-table condition t (r.Lines budget) (p.Spent log (Some next)) h = absurd h
split-table condition t (r.Numbers lines) p.None h = absurd h
split-table condition t (r.Numbers lines) (p.Log log) h = absurd h
split-table condition t (r.Numbers lines) (p.Spent log None) h = absurd h
split-table condition t (r.Numbers lines) (p.Spent log (Some next)) h = refl
split-table condition t (r.Clauses count) p.None h = refl
split-table condition t (r.Clauses count) (p.Log log) h = absurd h
split-table condition t (r.Clauses count) (p.Spent log next) h = absurd h
split-table condition t r.Wide proof h = absurd h
split-table condition t r.Literals proof h = absurd h

counts-lines : (condition : List Term) (why : Reason) (proof : Proof) → Explains condition why proof → CountsLines (o.Reason why) proof
counts-lines condition (r.Lines budget) proof h = tt
counts-lines condition (r.Numbers lines) p.None h = tt
counts-lines condition (r.Numbers lines) (p.Log log) h = tt
counts-lines condition (r.Numbers lines) (p.Spent log None) h = absurd h
counts-lines condition (r.Numbers lines) (p.Spent log (Some next)) h = h.0
counts-lines condition (r.Clauses count) proof h = tt
counts-lines condition r.Wide proof h = tt
counts-lines condition r.Literals proof h = tt

module _ (pair : Pair) (region : List Term) (entry : ℕ) (known : AllByRecursion (IsTerm pair.before.params) region) where
  abbrev n : ℕ
  n = pair.before.params

  kept : IsProgram pair.before.params pair.before.names pair.before.body
  kept = pair.before.kept

  words : n ≤ 8
  words = kept.few_params

  some : 1 ≤ n
  some = kept.some_params

  input-short : (x : List ℤ) → IsInput n x → IsShort x
  input-short x h = (omega (arith, h.long, some), omega (arith, h.long, words))

  input-bytes : (x : List ℤ) → IsInput n x → member_length (Some x) ≤ 33
  input-bytes x h = omega (arith, h.long, words)

  by-answer : (t : List ℤ) (answer : Answer) → IsInput n t → IsShown n (other_part pair region t) answer → IsWritten (raw_by entry t answer)
  by-answer t (Held x) here shown = record {
    fields = record { table = refl; member = input-short t here; other = input-short x shown.0; lines = tt };
    member = input-bytes t here;
    other = input-bytes x shown.0;
    proof = omega arith;
  }
  by-answer t (Refuted log) here shown = record {
    fields = record { table = refl; member = input-short t here; other = tt; lines = tt };
    member = input-bytes t here;
    other = omega arith;
    proof = refuted-short n (other_part pair region t) words (other-part-terms pair region t known) log shown;
  }
  by-answer t (Undecided why proof) here shown = record {
    fields = record { table = split-table (other_part pair region t) t why proof shown.1; member = input-short t here; other = tt; lines = counts-lines (other_part pair region t) why proof shown.1 };
    member = input-bytes t here;
    other = omega (arith, reason-short why);
    proof = explained-short n (other_part pair region t) words (other-part-terms pair region t known) why proof shown.1;
  }

  by-stage : (t : List ℤ) (raw : Raw) (at : Stage) → IsInput n t → IsRecordAt (IsShown n) pair region entry t raw at → IsWritten raw
  by-stage t raw Wide here h =
      subst IsWritten (sym h) (record { fields = record { table = refl; member = input-short t here; other = tt; lines = tt }; member = input-bytes t here; other = omega arith; proof = omega arith })
  by-stage t raw Literals here h =
      subst IsWritten (sym h) (record { fields = record { table = refl; member = input-short t here; other = tt; lines = tt }; member = input-bytes t here; other = omega arith; proof = omega arith })
  by-stage t raw Beyond here h =
      subst IsWritten (sym h) (record { fields = record { table = refl; member = input-short t here; other = tt; lines = tt }; member = input-bytes t here; other = omega arith; proof = omega arith })
  by-stage t raw Granted here h =
      subst IsWritten (sym h) (record { fields = record { table = refl; member = input-short t here; other = tt; lines = tt }; member = input-bytes t here; other = omega arith; proof = omega arith })
  by-stage t raw Open here h = subst IsWritten (sym h.2) (by-answer t h.0 here h.1)

  by-found : (raw : Raw) (answer : Answer) → IsShown n region answer → IsRecordBy (IsShown n) pair region entry raw answer → IsWritten raw
  by-found raw (Held t) shown h = by-stage t raw (stage pair region t) shown.0 h
  by-found raw (Refuted log) shown h =
      subst IsWritten (sym h) (record { fields = record { table = refl; member = tt; other = tt; lines = tt }; member = omega arith; other = omega arith; proof = refuted-short n region words known log shown })
  by-found raw (Undecided why proof) shown h =
      subst IsWritten (sym h) (record {
        fields = record { table = stuck-table region why proof shown.1; member = tt; other = tt; lines = counts-lines region why proof shown.1 };
        member = omega arith;
        other = omega (arith, reason-short why);
        proof = explained-short n region words known why proof shown.1;
      })

written : (pair : Pair) (region : List Term) (raw : Raw) → AllByRecursion (IsTerm pair.before.params) region → IsRecord (IsShown pair.before.params) pair region raw.entry raw → IsWritten raw
written pair region raw known h = by-found pair region raw.entry known raw h.0 h.1 h.2

-- the record that supports a settlement can be written down, and is small
pub supported-fields : (f : Finding) (raw : Raw) → AllByRecursion (IsTerm f.pair.before.params) f.region → IsSupported f raw → HasFields raw
supported-fields f raw known h = (written f.pair f.region raw known h.grounds).fields

pub supported-small : (f : Finding) (raw : Raw) → AllByRecursion (IsTerm f.pair.before.params) f.region → IsSupported f raw → payload_length raw ≤ 17000000
supported-small f raw known h =
    let is = written f.pair f.region raw known h.grounds in
    omega (arith, is.member, is.other, is.proof, choice-short raw.shape)

-- its proof has few numbers
pub few-numbers : (pair : Pair) (region : List Term) (raw : Raw) → AllByRecursion (IsTerm pair.before.params) region → IsRecord (IsShown pair.before.params) pair region raw.entry raw → proof_numbers raw.proof < 2 ^ 61
few-numbers pair region raw known h = omega (arith, (written pair region raw known h).proof, numbers-bytes raw.proof)

-- ---- the settlement that is made

module _ (pair : Pair) (region : List Term) (raw : Raw) (parts : List Part) (terms n : ℕ) (are : parts ≡ raw_parts pair region raw) (count : terms ≡ length (parts_terms parts)) (numbers : n ≡ proof_numbers raw.proof) where
  sums : terms + n ≡ length (parts_terms (raw_parts pair region raw)) + proof_numbers raw.proof
  sums =
      let all = ap (λ (ps : List Part). length (parts_terms ps)) are in
      omega (arith, all, count, numbers)

  pub made-is : finding pair raw.entry region raw.member raw.shape parts (terms + n) ≡ finding_of pair region raw
  made-is = λ i. finding pair raw.entry region raw.member raw.shape (are i) (sums i)

  supported : IsRecord (IsShown pair.before.params) pair region raw.entry raw → IsSupported (finding_of pair region raw) raw
  supported h = record { grounds = h; gives = refl }

  pub made-true : AllByRecursion (IsTerm pair.before.params) region → length region ≤ 2 ^ 48 → terms + n < 2 ^ 62 → IsRecord (IsShown pair.before.params) pair region raw.entry raw →
      IsSettlement (finding pair raw.entry region raw.member raw.shape parts (terms + n))
  made-true known few small h =
      let within : (finding_of pair region raw).numbers < 2 ^ 62 = subst (λ (m : ℕ). m < 2 ^ 62) sums small in
      subst IsSettlement (sym made-is) (supported-true (finding_of pair region raw) raw known few within (supported h))

  pub made-kept : AllByRecursion (IsTerm pair.before.params) region → IsRecord (IsShown pair.before.params) pair region raw.entry raw → (f : Finding) → f ≡ finding pair raw.entry region raw.member raw.shape parts (terms + n) → IsKept f raw
  made-kept known h f is =
      let given = supported h in
      subst (λ (g : Finding). IsKept g raw) (sym (is ∙ made-is)) (record {
        supported = given;
        fields = supported-fields (finding_of pair region raw) raw known given;
        small = supported-small (finding_of pair region raw) raw known given;
      })
