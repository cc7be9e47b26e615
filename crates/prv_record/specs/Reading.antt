-- Reading a record from left to right.
use Rattle.std.specs.Prelude.{◌≡◌, ⊤, ℕ, zero, suc, List, [], ◌∷◌, ◌++◌, length, Option, Some, None, Result, Ok, Err, ◌==◌, nat_lt, if◌then◌else◌}
use Rattle.prv_model.specs.declared.entry.Reason.{Reason}
use Rattle.prv_model.specs.declared.entry.Reason.TheVariants.{Lines, Numbers, Clauses, Wide, Literals}
use Rattle.prv_codec.specs.declared.form.Form.{Form}
use Rattle.prv_codec.specs.Reading.{Read, ◌>>=◌, byte_at, number_at, long_at, input_at, line_at, log_at}
use Rattle.prv_part.specs.declared.shape.Shape.{Shape}
use Rattle.prv_part.specs.declared.shape.Shape.TheVariants as s
use Rattle.prv_record.specs.Spelling.{kind}
use Rattle.prv_record.specs.declared.content.Content.{Content}
use Rattle.prv_record.specs.declared.content.Undecided.{Undecided}
use Rattle.prv_record.specs.declared.raw.Raw.{Raw}
use Rattle.prv_record.specs.declared.raw.RawOther.TheVariants as o
use Rattle.prv_record.specs.declared.raw.Proof.TheVariants as p

-- behind the byte of a reason
unfoldable pub lines_at : Form → List ℕ → Read Undecided
lines_at form bytes = do
  budget ← number_at form bytes
  log ← log_at form budget.1
  Ok (record { reason = Lines budget.0; proof = p.Spent log.0 None }, log.1)

unfoldable pub numbers_at : Form → List ℕ → Read Undecided
numbers_at form bytes = do
  log ← log_at form bytes
  next ← line_at form log.1
  Ok (record { reason = Numbers (length log.0); proof = p.Spent log.0 (Some next.0) }, next.1)

unfoldable pub clauses_at : Form → List ℕ → Read Undecided
clauses_at form bytes = do
  count ← long_at form bytes
  Ok (record { reason = Clauses count.0; proof = p.None }, count.1)

unfoldable pub undecided_at : Form → ℕ → List ℕ → Read Undecided
undecided_at form code bytes = if code == 1 then lines_at form bytes else if code == 2 then numbers_at form bytes else clauses_at form bytes

-- behind the byte of a shape
unfoldable pub empty_at : Form → List ℕ → Read Content
empty_at form bytes = do
  log ← log_at form bytes
  Ok (record { member = None; other = o.None; proof = p.Log log.0 }, log.1)

abbrev pub unrun_at : Form → ℕ → List ℕ → Read Content
unrun_at form code bytes = do
  why ← undecided_at form code bytes
  Ok (record { member = None; other = o.Reason why.0.reason; proof = why.0.proof }, why.1)

abbrev pub run_reason : ℕ → Reason
run_reason code = if code == 4 then Wide else Literals

abbrev pub run_at : Form → ℕ → List ℕ → Read Content
run_at form code bytes = do
  member ← input_at form bytes
  Ok (record { member = Some member.0; other = o.Reason (run_reason code); proof = p.None }, member.1)

unfoldable pub stuck_at : Form → List ℕ → Read Content
stuck_at form bytes = do
  code ← byte_at 1 5 bytes
  if nat_lt code.0 4 then unrun_at form code.0 code.1 else run_at form code.0 code.1

unfoldable pub whole_at : Form → List ℕ → Read Content
whole_at form bytes = do
  member ← input_at form bytes
  code ← byte_at 0 1 member.1
  if code.0 == 0 then Ok (record { member = Some member.0; other = o.None; proof = p.None }, code.1) else (log_at form code.1 >>= λ log. Ok (record { member = Some member.0; other = o.None; proof = p.Log log.0 }, log.1))

unfoldable pub split_at : Form → List ℕ → Read Content
split_at form bytes = do
  member ← input_at form bytes
  code ← byte_at 0 3 member.1
  if code.0 == 0 then (input_at form code.1 >>= λ other. Ok (record { member = Some member.0; other = o.Member other.0; proof = p.None }, other.1)) else (undecided_at form code.0 code.1 >>= λ why. Ok (record { member = Some member.0; other = o.Reason why.0.reason; proof = why.0.proof }, why.1))

unfoldable pub beyond_at : Form → List ℕ → Read Content
beyond_at form bytes = do
  member ← input_at form bytes
  Ok (record { member = Some member.0; other = o.None; proof = p.None }, member.1)

abbrev pub content_at : Form → Shape → List ℕ → Read Content
content_at form s.Empty bytes = empty_at form bytes
content_at form s.Stuck bytes = stuck_at form bytes
content_at form s.Whole bytes = whole_at form bytes
content_at form s.Split bytes = split_at form bytes
content_at form s.Beyond bytes = beyond_at form bytes

-- the shape of a byte
abbrev pub shape_of : ℕ → Shape
shape_of zero = s.Empty
shape_of (suc zero) = s.Stuck
shape_of (suc (suc zero)) = s.Whole
shape_of (suc (suc (suc zero))) = s.Split
shape_of (suc (suc (suc (suc n)))) = s.Beyond

unfoldable pub record_at : Form → List ℕ → Read Raw
record_at form bytes = do
  kind ← byte_at (kind form) (kind form) bytes
  entry ← number_at form kind.1
  shape ← byte_at 0 4 entry.1
  content ← content_at form (shape_of shape.0) shape.1
  Ok (record { entry = entry.0; shape = shape_of shape.0; member = content.0.member; other = content.0.other; proof = content.0.proof }, content.1)
