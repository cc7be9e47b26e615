-- Which fields the record of a settlement has, by its shape and by the reason for what it leaves undecided, in the order of a payload.
use Rattle.std.specs.Prelude.{◌≡◌, ⊤, ℕ, ◌≤◌, List, [], ◌∷◌, length, ℤ, Option, Some, None, IsSome, IfSome}
use Rattle.prv_model.specs.declared.entry.Reason.{Reason}
use Rattle.prv_model.specs.declared.entry.Reason.TheVariants.{Lines, Numbers, Clauses, Wide, Literals}
use Rattle.prv_model.specs.declared.limits.TheConstants.{MAX_PARAMS}
use Rattle.prv_check.specs.LogLines.{LogLine}
use Rattle.prv_part.specs.declared.shape.Shape.{Shape}
use Rattle.prv_part.specs.declared.shape.Shape.TheVariants as s
use Rattle.prv_record.specs.declared.raw.Raw.{Raw}
use Rattle.prv_record.specs.declared.raw.RawOther.{RawOther}
use Rattle.prv_record.specs.declared.raw.RawOther.TheVariants as o
use Rattle.prv_record.specs.declared.raw.Proof.{Proof}
use Rattle.prv_record.specs.declared.raw.Proof.TheVariants as p

-- a field: a byte that says what follows, a number of 32 bits, a number of 64 bits, an input, a log, a single line
pub data Field : Type 0 where
  Code : ℕ → Field
  Number : ℕ → Field
  Long : ℕ → Field
  Words : List ℤ → Field
  Log : List LogLine → Field
  Line : LogLine → Field

-- what a search left undecided: the reason and what was spent, where the log itself tells how many lines it has
abbrev pub undecided_fields : Reason → Proof → Option (List Field)
undecided_fields (Lines budget) (p.Spent log None) = Some (Code 1 ∷ Number budget ∷ Log log ∷ [])
undecided_fields (Numbers lines) (p.Spent log (Some next)) = Some (Code 2 ∷ Log log ∷ Line next ∷ [])
undecided_fields (Clauses count) p.None = Some (Code 3 ∷ Long count ∷ [])
undecided_fields _ _ = None

-- fields behind those of a member
abbrev pub behind : List ℤ → Option (List Field) → Option (List Field)
behind x None = None
behind x (Some fields) = Some (Words x ∷ fields)

-- the table of shapes: a member, what is shown beside it and a proof make a record of a shape in these cases alone
abbrev pub shape_fields : Shape → Option (List ℤ) → RawOther → Proof → Option (List Field)
shape_fields s.Empty None o.None (p.Log log) = Some (Log log ∷ [])
shape_fields s.Stuck None (o.Reason why) proof = undecided_fields why proof
shape_fields s.Stuck (Some x) (o.Reason Wide) p.None = Some (Code 4 ∷ Words x ∷ [])
shape_fields s.Stuck (Some x) (o.Reason Literals) p.None = Some (Code 5 ∷ Words x ∷ [])
shape_fields s.Whole (Some x) o.None p.None = Some (Words x ∷ Code 0 ∷ [])
shape_fields s.Whole (Some x) o.None (p.Log log) = Some (Words x ∷ Code 1 ∷ Log log ∷ [])
shape_fields s.Split (Some x) (o.Member other) p.None = Some (Words x ∷ Code 0 ∷ Words other ∷ [])
shape_fields s.Split (Some x) (o.Reason why) proof = behind x (undecided_fields why proof)
shape_fields s.Beyond (Some x) o.None p.None = Some (Words x ∷ [])
shape_fields _ _ _ _ = None

-- an input has a word for each of 1 to 8 parameters
abbrev pub IsShort : List ℤ → Type 0
IsShort x = (1 ≤ length x) × (length x ≤ MAX_PARAMS)

abbrev pub IsShortOther : RawOther → Type 0
IsShortOther (o.Member x) = IsShort x
IsShortOther _ = ⊤

-- a reason that names a count of lines names that of the log
abbrev pub CountsLines : RawOther → Proof → Type 0
CountsLines (o.Reason (Numbers lines)) (p.Spent log next) = lines ≡ length log
CountsLines _ _ = ⊤

-- a record has the fields of its shape and no others, so that it can be written down and rechecked
pub record HasFields (raw : Raw) : Type 0 where
  pub table : IsSome (shape_fields raw.shape raw.member raw.other raw.proof)
  pub member : IfSome raw.member IsShort
  pub other : IsShortOther raw.other
  pub lines : CountsLines raw.other raw.proof
