-- How many bytes a payload of the first form has.
use Rattle.std.proofs.Common.{◌≡◌, ℕ, suc, ◌+◌, ◌*◌, List, [], ◌∷◌, ◌++◌, length, Option, Some, None, ℤ, refl, sym, ap, ◌∙◌, arith}
use Rattle.std.specs.Prelude.{IsSome}
use Rattle.std.specs.List.{flat_map}
use Rattle.std.proofs.lemmas.List.{length-append}
use Rattle.prv_model.specs.declared.entry.Reason.{Reason}
use Rattle.prv_model.specs.declared.entry.Reason.TheVariants.{Lines, Numbers, Clauses, Wide, Literals}
use Rattle.prv_cnf.specs.declared.literal.Lit.{Lit}
use Rattle.prv_check.specs.LogLines.{LogLine, line_numbers}
use Rattle.prv_check.specs.Spending.{log_numbers}
use Rattle.prv_codec.specs.declared.form.Form.TheVariants.{One, Two}
use Rattle.prv_codec.specs.Forms.{number, long, word}
use Rattle.prv_codec.specs.Spelling as spell
use Rattle.prv_part.specs.declared.shape.Shape.{Shape}
use Rattle.prv_part.specs.declared.shape.Shape.TheVariants as s
use Rattle.prv_record.specs.Fields.{shape_fields}
use Rattle.prv_record.specs.Parts.{choice, front_codes, back_codes, member_bytes, reason_bytes, other_bytes, next_bytes, proof_bytes}
use Rattle.prv_record.specs.Payloads.{input_length, member_length, line_length, next_length, log_length, proof_length, reason_length, other_length, choice_length, payload_length}
use Rattle.prv_record.specs.Spelling.{spelling, shape_code, fields_of, payload}
use Rattle.prv_record.specs.declared.raw.Raw.{Raw}
use Rattle.prv_record.specs.declared.raw.RawOther.{RawOther}
use Rattle.prv_record.specs.declared.raw.RawOther.TheVariants as o
use Rattle.prv_record.specs.declared.raw.Proof.{Proof}
use Rattle.prv_record.specs.declared.raw.Proof.TheVariants as p
use Rattle.prv_record.proofs.Parting.{parts-are}

number-width : (n : ℕ) → length (number One n) ≡ 4
number-width n = refl

-- items of four bytes each
flat-width : {A : Type 0} (spell : A → List ℕ) → ((x : A) → length (spell x) ≡ 4) → (xs : List A) → length (flat_map spell xs) ≡ 4 * length xs
flat-width spell width [] = refl
flat-width spell width (x ∷ xs) =
    let others = flat-width spell width xs in
    let first = width x in
    omega (arith, length-append (spell x) (flat_map spell xs))

counted-width : {A : Type 0} (item : A → List ℕ) → ((x : A) → length (item x) ≡ 4) → (xs : List A) → length (spell.counted One item xs) ≡ 4 + 4 * length xs
counted-width item width xs =
    let items = flat-width item width xs in
    let count = number-width (length xs) in
    omega (arith, length-append (number One (length xs)) (flat_map item xs))

input-width : (x : List ℤ) → length (spell.input One x) ≡ input_length x
input-width x = let words = flat-width (word One) (λ v. refl) x in omega arith

line-width : (s : LogLine) → length (spell.line One s) ≡ line_length s
line-width s =
    let lits = counted-width (spell.literal One) (λ l. refl) s.clause in
    let hints = counted-width (number One) number-width s.hints in
    omega (arith, length-append (spell.counted One (spell.literal One) s.clause) (spell.counted One (number One) s.hints))

lines-width : (log : List LogLine) → length (flat_map (spell.line One) log) ≡ 4 * log_numbers log
lines-width [] = refl
lines-width (s ∷ log) =
    let others = lines-width log in
    let first = line-width s in
    omega (arith, length-append (spell.line One s) (flat_map (spell.line One) log))

log-width : (log : List LogLine) → length (spell.log One log) ≡ log_length log
log-width log =
    let lines = lines-width log in
    let count = number-width (length log) in
    omega (arith, length-append (number One (length log)) (flat_map (spell.line One) log))

member-width : (member : Option (List ℤ)) → length (member_bytes One member) ≡ member_length member
member-width None = refl
member-width (Some x) = input-width x

reason-width : (why : Reason) → length (reason_bytes One why) ≡ reason_length why
reason-width (Lines budget) = refl
reason-width (Numbers lines) = refl
reason-width (Clauses count) = refl
reason-width Wide = refl
reason-width Literals = refl

other-width : (other : RawOther) → length (other_bytes One other) ≡ other_length other
other-width o.None = refl
other-width (o.Member x) = input-width x
other-width (o.Reason why) = reason-width why

next-width : (next : Option LogLine) → length (next_bytes One next) ≡ next_length next
next-width None = refl
next-width (Some s) = line-width s

proof-width : (proof : Proof) → length (proof_bytes One proof) ≡ proof_length proof
proof-width p.None = refl
proof-width (p.Log log) = log-width log
proof-width (p.Spent log next) =
    let first = log-width log in
    let second = next-width next in
    omega (arith, length-append (spell.log One log) (next_bytes One next))

pub choice-width : (shape : Shape) (code : ℕ) → length (front_codes shape code) + length (back_codes shape code) ≡ choice_length shape
choice-width s.Empty code = refl
choice-width s.Stuck code = refl
choice-width s.Whole code = refl
choice-width s.Split code = refl
choice-width s.Beyond code = refl

pub five : (a b c d e : List ℕ) → length (a ++ (b ++ (c ++ (d ++ e)))) ≡ length a + length b + length c + length d + length e
five a b c d e = omega (arith, length-append a (b ++ (c ++ (d ++ e))), length-append b (c ++ (d ++ e)), length-append c (d ++ e), length-append d e)

pub payload-width : (raw : Raw) → IsSome (shape_fields raw.shape raw.member raw.other raw.proof) → length (payload One raw) ≡ payload_length raw
payload-width raw h =
    let code = choice raw.other raw.proof in
    let parts = ap length (parts-are One raw.shape raw.member raw.other raw.proof h) in
    let all = five (front_codes raw.shape code) (member_bytes One raw.member) (back_codes raw.shape code) (other_bytes One raw.other) (proof_bytes One raw.proof) in
    let choices = choice-width raw.shape code in
    let member = member-width raw.member in
    let other = other-width raw.other in
    let proof = proof-width raw.proof in
    let entry = number-width raw.entry in
    omega (arith, length-append (number One raw.entry) (shape_code raw.shape ∷ flat_map (spelling One) (fields_of raw)))
