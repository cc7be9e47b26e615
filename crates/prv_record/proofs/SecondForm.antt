-- How many bytes a payload of the second form has at most.
use Rattle.std.proofs.Common.{◌≡◌, ℕ, zero, suc, ◌+◌, ◌*◌, ◌/◌, ◌≤◌, ◌<◌, ◌^◌, List, [], ◌∷◌, ◌++◌, length, Option, Some, None, inl, inr, ℤ, pos, negsuc, refl, sym, ap, ◌∙◌, arith}
use Rattle.std.specs.Prelude.{IfSome}
use Rattle.std.specs.List.{flat_map, AllByRecursion}
use Rattle.std.proofs.lemmas.Bool.{cases_lt}
use Rattle.std.proofs.lemmas.List.{length-append}
use Rattle.prv_model.specs.declared.entry.Reason.{Reason}
use Rattle.prv_model.specs.declared.entry.Reason.TheVariants.{Lines, Numbers, Clauses, Wide, Literals}
use Rattle.prv_cnf.specs.declared.literal.Lit.{Lit}
use Rattle.prv_check.specs.LogLines.{LogLine, line_numbers}
use Rattle.prv_check.specs.Spending.{log_numbers}
use Rattle.prv_codec.specs.declared.form.Form.TheVariants.{One, Two}
use Rattle.prv_codec.specs.Forms.{groups, bound, number, long, code, word}
use Rattle.prv_codec.specs.Spelling as spell
use Rattle.prv_codec.proofs.Numbers.{groups-low, groups-high}
use Rattle.prv_record.specs.Fields.{IsShort, IsShortOther, HasFields}
use Rattle.prv_record.specs.Parts.{choice, front_codes, back_codes, member_bytes, reason_bytes, other_bytes, next_bytes, proof_bytes}
use Rattle.prv_record.specs.Payloads.{input_length, member_length, line_length, next_length, log_length, proof_length, reason_length, other_length, payload_length, IsSmallLiteral, IsSmallLine, HasSmallLines}
use Rattle.prv_record.specs.Spelling.{spelling, shape_code, fields_of, payload}
use Rattle.prv_record.specs.declared.raw.Raw.{Raw}
use Rattle.prv_record.specs.declared.raw.RawOther.{RawOther}
use Rattle.prv_record.specs.declared.raw.RawOther.TheVariants as o
use Rattle.prv_record.specs.declared.raw.Proof.{Proof}
use Rattle.prv_record.specs.declared.raw.Proof.TheVariants as p
use Rattle.prv_record.proofs.Lengths.{choice-width, five}
use Rattle.prv_record.proofs.Parting.{parts-are}

-- ---- numbers

groups-most : (more n : ℕ) → length (groups more n) ≤ suc more
unfolding groups
groups-most zero n = omega arith
groups-most (suc more) n =
    elim (cases_lt n 128) [
      | inl low ↦ let e = ap length (groups-low more n low) in omega (arith, e)
      | inr high ↦ let e = ap length (groups-high more n high) in omega (arith, e, groups-most more (n / 128))
    ]

groups-few : (k more n : ℕ) → n < bound 128 k → length (groups more n) ≤ suc k
unfolding groups
groups-few k zero n h = omega arith
groups-few zero (suc more) n h = let e = ap length (groups-low more n h) in omega (arith, e)
groups-few (suc k) (suc more) n h =
    elim (cases_lt n 128) [
      | inl low ↦ let e = ap length (groups-low more n low) in omega (arith, e)
      | inr high ↦ let e = ap length (groups-high more n high) in let ih = groups-few k more (n / 128) (omega arith) in omega (arith, e, ih)
    ]

number-few : (n : ℕ) → n < 2 ^ 28 → length (number Two n) ≤ 4
number-few n h = groups-few 3 4 n h

small-code : (v : ℤ) → IsSmallLiteral (record { 0 = v }) → code Two v < 2 ^ 28
unfolding code
small-code (pos n) h = omega arith
small-code (negsuc n) h = omega arith

literal-few : (l : Lit) → IsSmallLiteral l → length (spell.literal Two l) ≤ 4
literal-few l h = number-few (code Two l.0) (small-code l.0 h)

-- ---- lists

flat-few : {A : Type 0} (spell : A → List ℕ) (P : A → Type 0) → ((x : A) → P x → length (spell x) ≤ 4) → (xs : List A) → AllByRecursion P xs → length (flat_map spell xs) ≤ 4 * length xs
flat-few spell P few [] h = omega arith
flat-few spell P few (x ∷ xs) h =
    let others = flat-few spell P few xs h.1 in
    let first = few x h.0 in
    omega (arith, length-append (spell x) (flat_map spell xs))

words-few : (x : List ℤ) → length (flat_map (word Two) x) ≤ 5 * length x
words-few [] = omega arith
words-few (v ∷ x) = omega (arith, words-few x, groups-most 4 (code Two v), length-append (word Two v) (flat_map (word Two) x))

input-few : (x : List ℤ) → IsShort x → length (spell.input Two x) ≤ input_length x + 8
input-few x h = omega (arith, words-few x, h.1)

counted-few : {A : Type 0} (item : A → List ℕ) (P : A → Type 0) → ((x : A) → P x → length (item x) ≤ 4) → (xs : List A) → AllByRecursion P xs → length xs < 2 ^ 28 → length (spell.counted Two item xs) ≤ 4 + 4 * length xs
counted-few item P few xs h short =
    let items = flat-few item P few xs h in
    let count = number-few (length xs) short in
    omega (arith, length-append (number Two (length xs)) (flat_map item xs))

line-few : (s : LogLine) → IsSmallLine s → line_length s < 2 ^ 28 → length (spell.line Two s) ≤ line_length s
line-few s h short =
    let lits = counted-few (spell.literal Two) IsSmallLiteral literal-few s.clause h.literals (omega arith) in
    let hints = counted-few (number Two) (λ n. n < 2 ^ 28) number-few s.hints h.hints (omega arith) in
    omega (arith, length-append (spell.counted Two (spell.literal Two) s.clause) (spell.counted Two (number Two) s.hints))

lines-few : (log : List LogLine) → AllByRecursion IsSmallLine log → 4 * log_numbers log < 2 ^ 28 → length (flat_map (spell.line Two) log) ≤ 4 * log_numbers log
lines-few [] h short = omega arith
lines-few (s ∷ log) h short =
    let others = lines-few log h.1 (omega arith) in
    let first = line-few s h.0 (omega arith) in
    omega (arith, length-append (spell.line Two s) (flat_map (spell.line Two) log))

-- a line has two numbers at least
lines-counted : (log : List LogLine) → length log ≤ log_numbers log
lines-counted [] = omega arith
lines-counted (s ∷ log) = omega (arith, lines-counted log)

log-few : (log : List LogLine) → AllByRecursion IsSmallLine log → log_length log < 2 ^ 28 → length (spell.log Two log) ≤ log_length log
log-few log h short =
    let lines = lines-few log h (omega arith) in
    let count = number-few (length log) (omega (arith, lines-counted log)) in
    omega (arith, length-append (number Two (length log)) (flat_map (spell.line Two) log))

-- ---- parts

member-few : (member : Option (List ℤ)) → IfSome member IsShort → length (member_bytes Two member) ≤ member_length member + 8
member-few None h = omega arith
member-few (Some x) h = input-few x h

reason-few : (why : Reason) → length (reason_bytes Two why) ≤ reason_length why + 8
reason-few (Lines budget) = omega (arith, groups-most 4 budget)
reason-few (Numbers lines) = omega arith
reason-few (Clauses count) = omega (arith, groups-most 9 count)
reason-few Wide = omega arith
reason-few Literals = omega arith

other-few : (other : RawOther) → IsShortOther other → length (other_bytes Two other) ≤ other_length other + 8
other-few o.None h = omega arith
other-few (o.Member x) h = input-few x h
other-few (o.Reason why) h = reason-few why

next-few : (next : Option LogLine) → IfSome next IsSmallLine → next_length next < 2 ^ 28 → length (next_bytes Two next) ≤ next_length next
next-few None h short = omega arith
next-few (Some s) h short = line-few s h short

proof-few : (proof : Proof) → HasSmallLines proof → proof_length proof < 2 ^ 28 → length (proof_bytes Two proof) ≤ proof_length proof
proof-few p.None h short = omega arith
proof-few (p.Log log) h short = log-few log h short
proof-few (p.Spent log next) h short =
    let first = log-few log h.0 (omega arith) in
    let second = next-few next h.1 (omega arith) in
    omega (arith, length-append (spell.log Two log) (next_bytes Two next))

pub payload-few : (raw : Raw) → HasFields raw → HasSmallLines raw.proof → payload_length raw < 2 ^ 28 → length (payload Two raw) ≤ payload_length raw + 17
payload-few raw h small short =
    let code = choice raw.other raw.proof in
    let parts = ap length (parts-are Two raw.shape raw.member raw.other raw.proof h.table) in
    let all = five (front_codes raw.shape code) (member_bytes Two raw.member) (back_codes raw.shape code) (other_bytes Two raw.other) (proof_bytes Two raw.proof) in
    let choices = choice-width raw.shape code in
    let member = member-few raw.member h.member in
    let other = other-few raw.other h.other in
    let proof = proof-few raw.proof small (omega arith) in
    let entry = groups-most 4 raw.entry in
    omega (arith, length-append (number Two raw.entry) (shape_code raw.shape ∷ flat_map (spelling Two) (fields_of raw)))
