-- Rows that were worked out by hand: the payload of each shape with each reason in both forms, and where bytes that are none go wrong.
use Rattle.std.proofs.Common.{◌≡◌, ℕ, List, [], ◌∷◌, ◌++◌, Option, Some, None, Result, Ok, Err, ℤ, pos, negsuc, refl}
use Rattle.prv_model.specs.declared.entry.Reason.TheVariants.{Lines, Numbers, Clauses, Wide, Literals}
use Rattle.prv_check.specs.LogLines.{LogLine}
use Rattle.prv_codec.specs.declared.form.Form.TheVariants.{One, Two}
use Rattle.prv_codec.specs.Forms.{groups, code}
use Rattle.prv_codec.specs.Reading.{Read, whole, byte_at, groups_at, shortest_at, word_at, items_at, counted_at, input_at, literal_at, line_at}
use Rattle.prv_part.specs.declared.shape.Shape.{Shape}
use Rattle.prv_part.specs.declared.shape.Shape.TheVariants as s
use Rattle.prv_record.specs.Reading.{lines_at, numbers_at, clauses_at, undecided_at, empty_at, stuck_at, whole_at, split_at, beyond_at, record_at}
use Rattle.prv_record.specs.Spelling.{payload}
use Rattle.prv_record.specs.declared.raw.Raw.{Raw}
use Rattle.prv_record.specs.declared.raw.RawOther.{RawOther}
use Rattle.prv_record.specs.declared.raw.RawOther.TheVariants as o
use Rattle.prv_record.specs.declared.raw.Proof.{Proof}
use Rattle.prv_record.specs.declared.raw.Proof.TheVariants as p

-- a record of entry 300
abbrev raw : Shape → Option (List ℤ) → RawOther → Proof → Raw
raw shape member other proof = record { entry = 300; shape = shape; member = member; other = other; proof = proof }

-- the line 3 -1 : 300, and a log of it
abbrev line : LogLine
line = record { clause = record { 0 = pos 3 } ∷ record { 0 = negsuc 0 } ∷ []; hints = 300 ∷ [] }

abbrev line-one : List ℕ
line-one = 2 ∷ 0 ∷ 0 ∷ 0 ∷ 3 ∷ 0 ∷ 0 ∷ 0 ∷ 255 ∷ 255 ∷ 255 ∷ 255 ∷ 1 ∷ 0 ∷ 0 ∷ 0 ∷ 44 ∷ 1 ∷ 0 ∷ 0 ∷ []

abbrev line-two : List ℕ
line-two = 2 ∷ 6 ∷ 1 ∷ 1 ∷ 172 ∷ 2 ∷ []

abbrev log : List LogLine
log = line ∷ []

abbrev log-one : List ℕ
log-one = 1 ∷ 0 ∷ 0 ∷ 0 ∷ line-one

abbrev log-two : List ℕ
log-two = 1 ∷ line-two

-- the input -2
abbrev member : Option (List ℤ)
member = Some (negsuc 1 ∷ [])

abbrev member-one : List ℕ
member-one = 1 ∷ 254 ∷ 255 ∷ 255 ∷ 255 ∷ []

abbrev one : List ℕ → List ℕ
one behind = 1 ∷ 44 ∷ 1 ∷ 0 ∷ 0 ∷ behind

abbrev two : List ℕ → List ℕ
two behind = 3 ∷ 172 ∷ 2 ∷ behind

empty-one : payload One (raw s.Empty None o.None (p.Log log)) ≡ one (0 ∷ log-one)
unfolding code
empty-one = refl

empty-two : payload Two (raw s.Empty None o.None (p.Log log)) ≡ two (0 ∷ log-two)
unfolding groups code
empty-two = refl

stuck-lines-one : payload One (raw s.Stuck None (o.Reason (Lines 1)) (p.Spent log None)) ≡ one (1 ∷ 1 ∷ 1 ∷ 0 ∷ 0 ∷ 0 ∷ log-one)
unfolding code
stuck-lines-one = refl

stuck-lines-two : payload Two (raw s.Stuck None (o.Reason (Lines 1)) (p.Spent log None)) ≡ two (1 ∷ 1 ∷ 1 ∷ log-two)
unfolding groups code
stuck-lines-two = refl

stuck-numbers-one : payload One (raw s.Stuck None (o.Reason (Numbers 1)) (p.Spent log (Some line))) ≡ one (1 ∷ 2 ∷ (log-one ++ line-one))
unfolding code
stuck-numbers-one = refl

stuck-numbers-two : payload Two (raw s.Stuck None (o.Reason (Numbers 1)) (p.Spent log (Some line))) ≡ two (1 ∷ 2 ∷ (log-two ++ line-two))
unfolding groups code
stuck-numbers-two = refl

stuck-clauses-one : payload One (raw s.Stuck None (o.Reason (Clauses 4294967296)) p.None) ≡ one (1 ∷ 3 ∷ 0 ∷ 0 ∷ 0 ∷ 0 ∷ 1 ∷ 0 ∷ 0 ∷ 0 ∷ [])
stuck-clauses-one = refl

stuck-clauses-two : payload Two (raw s.Stuck None (o.Reason (Clauses 4294967296)) p.None) ≡ two (1 ∷ 3 ∷ 128 ∷ 128 ∷ 128 ∷ 128 ∷ 16 ∷ [])
unfolding groups
stuck-clauses-two = refl

stuck-wide-two : payload Two (raw s.Stuck member (o.Reason Wide) p.None) ≡ two (1 ∷ 4 ∷ 1 ∷ 3 ∷ [])
unfolding groups code
stuck-wide-two = refl

stuck-literals-one : payload One (raw s.Stuck member (o.Reason Literals) p.None) ≡ one (1 ∷ 5 ∷ member-one)
unfolding code
stuck-literals-one = refl

whole-one : payload One (raw s.Whole member o.None (p.Log log)) ≡ one (2 ∷ (member-one ++ 1 ∷ log-one))
unfolding code
whole-one = refl

whole-two : payload Two (raw s.Whole member o.None p.None) ≡ two (2 ∷ 1 ∷ 3 ∷ 0 ∷ [])
unfolding groups code
whole-two = refl

split-one : payload One (raw s.Split member (o.Member (pos 5 ∷ [])) p.None) ≡ one (3 ∷ (member-one ++ 0 ∷ 1 ∷ 5 ∷ 0 ∷ 0 ∷ 0 ∷ []))
unfolding code
split-one = refl

split-lines-two : payload Two (raw s.Split member (o.Reason (Lines 1)) (p.Spent log None)) ≡ two (3 ∷ 1 ∷ 3 ∷ 1 ∷ 1 ∷ log-two)
unfolding groups code
split-lines-two = refl

split-numbers-two : payload Two (raw s.Split member (o.Reason (Numbers 1)) (p.Spent log (Some line))) ≡ two (3 ∷ 1 ∷ 3 ∷ 2 ∷ (log-two ++ line-two))
unfolding groups code
split-numbers-two = refl

split-clauses-two : payload Two (raw s.Split member (o.Reason (Clauses 300)) p.None) ≡ two (3 ∷ 1 ∷ 3 ∷ 3 ∷ 172 ∷ 2 ∷ [])
unfolding groups code
split-clauses-two = refl

beyond-two : payload Two (raw s.Beyond member o.None p.None) ≡ two (4 ∷ 1 ∷ 3 ∷ [])
unfolding groups code
beyond-two = refl

abbrev stopped : ℕ → Result Raw ℕ
stopped left = Err left

-- the other form, a needless last group, an unknown shape, an unknown reason, no word, and a byte behind the record
other-form : whole (record_at Two (1 ∷ 0 ∷ [])) ≡ stopped 2
unfolding record_at byte_at
other-form = refl

needless : whole (record_at Two (3 ∷ 128 ∷ 0 ∷ [])) ≡ stopped 1
unfolding record_at byte_at shortest_at groups_at
needless = refl

no-shape : whole (record_at Two (3 ∷ 0 ∷ 5 ∷ 1 ∷ [])) ≡ stopped 2
unfolding record_at byte_at shortest_at groups_at
no-shape = refl

no-reason : whole (record_at Two (3 ∷ 0 ∷ 1 ∷ 6 ∷ [])) ≡ stopped 1
unfolding record_at byte_at shortest_at groups_at stuck_at
no-reason = refl

no-word : whole (record_at Two (3 ∷ 0 ∷ 4 ∷ 0 ∷ [])) ≡ stopped 1
unfolding record_at byte_at shortest_at groups_at beyond_at input_at
no-word = refl

tail : whole (record_at Two (3 ∷ 0 ∷ 4 ∷ 1 ∷ 3 ∷ 7 ∷ [])) ≡ stopped 1
unfolding record_at byte_at shortest_at groups_at beyond_at input_at items_at word_at
tail = refl

-- a count of more lines than stand there
too-few : whole (record_at Two (3 ∷ 0 ∷ 0 ∷ 9 ∷ 0 ∷ 0 ∷ [])) ≡ stopped 0
unfolding record_at byte_at shortest_at groups_at empty_at counted_at items_at line_at
too-few = refl
