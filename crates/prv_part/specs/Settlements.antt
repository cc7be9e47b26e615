-- What a region of a pair is found to be.
use Rattle.std.specs.Prelude.{◌≡◌, ℕ, ◌<◌, ◌^◌, List, [], length, ℤ, Option, IsSome, IsNone, IfSome, unwrap_or, map, sum}
use Rattle.prv_model.specs.Boards.{IsInput, Covers}
use Rattle.prv_model.specs.declared.entry.Reason.{Reason}
use Rattle.prv_model.specs.declared.program.Pair.{Pair}
use Rattle.prv_model.specs.declared.term.Term.{Term}
use Rattle.prv_part.specs.Parts.{Other, parts_of, AreTrue, AreOver}
use Rattle.prv_part.specs.declared.shape.Shape.{Shape}
use Rattle.prv_part.specs.declared.shape.Shape.TheVariants.{Empty, Stuck}
use Rattle.prv_part.specs.declared.part.Part.{Part}

-- what one region of a pair, the region of the entry with this number, is found to be: its shape, the input that was run, and the parts with their claims
pub record Finding : Type 0 where
  pub pair : Pair
  pub entry : ℕ
  pub region : List Term
  pub member : Option (List ℤ)
  pub shape : Shape
  pub parts : List Part
  pub numbers : ℕ

-- a finding of these fields
abbrev pub finding : Pair → ℕ → List Term → Option (List ℤ) → Shape → List Part → ℕ → Finding
finding pair entry region member shape parts numbers =
    record { pair = pair; entry = entry; region = region; member = member; shape = shape; parts = parts; numbers = numbers }

-- an empty region shows no member, and each shape that runs the versions shows what they were run on
abbrev pub ShowsRun : Shape → Option (List ℤ) → Type 0
ShowsRun Empty member = IsNone member
ShowsRun Stuck member = Unit {0}
ShowsRun _ member = IsSome member

-- the parts are those of the shape, for some input of the second part or some reason
abbrev pub HasPartsOf : Finding → Type 0
HasPartsOf f = (other : Other) × (why : Reason) × (f.parts ≡ parts_of f.pair f.region f.shape (unwrap_or f.member []) other why)

-- a finding is a settlement: its parts are those of its shape, each input of the region lies in exactly one of them, what each claims is true of every input that it holds, they speak of the pair's parameters alone, and it is not too large
pub record IsSettlement (f : Finding) : Type 0 where
  pub run : ShowsRun f.shape f.member
  pub member : IfSome f.member (IsInput f.pair.before.params)
  pub parts : HasPartsOf f
  pub once : Covers f.pair.before.params f.region (map (λ p. p.region) f.parts)
  pub true_parts : AreTrue f.pair f.parts
  pub over : AreOver f.pair.before.params f.parts
  pub few_parts : length f.parts < 2 ^ 30
  pub few_numbers : f.numbers < 2 ^ 62
  pub few_literals : sum (map (λ p. length p.region) f.parts) < 2 ^ 62
