-- A record part by part, in the order in which it is written whatever its shape is.
use Rattle.std.specs.Prelude.{⊤, ℕ, ◌<◌, ◌^◌, List, [], ◌∷◌, ◌++◌, ℤ, Option, Some, None}
use Rattle.prv_model.specs.declared.entry.Reason.{Reason}
use Rattle.prv_model.specs.declared.entry.Reason.TheVariants.{Lines, Numbers, Clauses, Wide, Literals}
use Rattle.prv_check.specs.LogLines.{LogLine}
use Rattle.prv_codec.specs.declared.form.Form.{Form}
use Rattle.prv_codec.specs.Forms.{number, long}
use Rattle.prv_codec.specs.Spelling as spell
use Rattle.prv_part.specs.declared.shape.Shape.{Shape}
use Rattle.prv_part.specs.declared.shape.Shape.TheVariants.{Empty, Stuck, Whole, Split, Beyond}
use Rattle.prv_record.specs.declared.raw.Raw.{Raw}
use Rattle.prv_record.specs.declared.raw.RawOther.{RawOther}
use Rattle.prv_record.specs.declared.raw.RawOther.TheVariants as o
use Rattle.prv_record.specs.declared.raw.Proof.{Proof}
use Rattle.prv_record.specs.declared.raw.Proof.TheVariants as p

-- ---- the code that says what follows

abbrev pub reason_code : Reason → ℕ
reason_code (Lines budget) = 1
reason_code (Numbers lines) = 2
reason_code (Clauses count) = 3
reason_code Wide = 4
reason_code Literals = 5

abbrev pub log_code : Proof → ℕ
log_code p.None = 0
log_code (p.Log log) = 1
log_code (p.Spent log next) = 1

abbrev pub choice : RawOther → Proof → ℕ
choice (o.Reason why) proof = reason_code why
choice (o.Member x) proof = 0
choice o.None proof = log_code proof

-- it stands before the member
abbrev pub front_codes : Shape → ℕ → List ℕ
front_codes Empty code = []
front_codes Stuck code = code ∷ []
front_codes Whole code = []
front_codes Split code = []
front_codes Beyond code = []

-- or behind it
abbrev pub back_codes : Shape → ℕ → List ℕ
back_codes Empty code = []
back_codes Stuck code = []
back_codes Whole code = code ∷ []
back_codes Split code = code ∷ []
back_codes Beyond code = []

-- ---- the other parts

abbrev pub member_bytes : Form → Option (List ℤ) → List ℕ
member_bytes form None = []
member_bytes form (Some x) = spell.input form x

abbrev pub reason_bytes : Form → Reason → List ℕ
reason_bytes form (Lines budget) = number form budget
reason_bytes form (Numbers lines) = []
reason_bytes form (Clauses count) = long form count
reason_bytes form Wide = []
reason_bytes form Literals = []

abbrev pub other_bytes : Form → RawOther → List ℕ
other_bytes form o.None = []
other_bytes form (o.Member x) = spell.input form x
other_bytes form (o.Reason why) = reason_bytes form why

abbrev pub next_bytes : Form → Option LogLine → List ℕ
next_bytes form None = []
next_bytes form (Some s) = spell.line form s

abbrev pub proof_bytes : Form → Proof → List ℕ
proof_bytes form p.None = []
proof_bytes form (p.Log log) = spell.log form log
proof_bytes form (p.Spent log next) = spell.log form log ++ next_bytes form next

-- all of them behind the code of the shape
abbrev pub part_bytes : Form → Raw → List ℕ
part_bytes form raw = front_codes raw.shape (choice raw.other raw.proof) ++ (member_bytes form raw.member ++ (back_codes raw.shape (choice raw.other raw.proof) ++ (other_bytes form raw.other ++ proof_bytes form raw.proof)))

-- ---- which parts have a spelling

abbrev pub IsToldMember : Option (List ℤ) → Type 0
IsToldMember None = ⊤
IsToldMember (Some x) = spell.IsShort x

abbrev pub IsToldReason : Reason → Type 0
IsToldReason (Lines budget) = spell.IsNumber budget
IsToldReason (Numbers lines) = ⊤
IsToldReason (Clauses count) = count < 2 ^ 64
IsToldReason Wide = ⊤
IsToldReason Literals = ⊤

abbrev pub IsToldOther : RawOther → Type 0
IsToldOther o.None = ⊤
IsToldOther (o.Member x) = spell.IsShort x
IsToldOther (o.Reason why) = IsToldReason why

abbrev pub IsToldNext : Option LogLine → Type 0
IsToldNext None = ⊤
IsToldNext (Some s) = spell.IsLine s

abbrev pub IsToldProof : Proof → Type 0
IsToldProof p.None = ⊤
IsToldProof (p.Log log) = spell.IsLog log
IsToldProof (p.Spent log next) = spell.IsLog log × IsToldNext next

pub record IsTold (raw : Raw) : Type 0 where
  pub member : IsToldMember raw.member
  pub other : IsToldOther raw.other
  pub proof : IsToldProof raw.proof

-- ---- the counts of a log have 32 bits

abbrev pub IsSizedNext : Option LogLine → Type 0
IsSizedNext None = ⊤
IsSizedNext (Some s) = spell.IsSized s

abbrev pub IsSizedProof : Proof → Type 0
IsSizedProof p.None = ⊤
IsSizedProof (p.Log log) = spell.AreSized log
IsSizedProof (p.Spent log next) = spell.AreSized log × IsSizedNext next
