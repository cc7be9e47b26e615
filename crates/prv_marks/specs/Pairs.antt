-- When two versions make a pair, and why they don't.
use Rattle.std.specs.Prelude.{◌≡◌, ◌≢◌, ℕ, List, Some, None}
use Rattle.prv_names.specs.declared.version.MarkAt.{MarkAt}
use Rattle.prv_names.specs.declared.version.Version.{Version}
use Rattle.prv_marks.specs.declared.error.PairError.{PairError}
use Rattle.prv_marks.specs.declared.error.PairError.TheVariants.{Params, MarkTwice, MarkInside, Unmarked}
use Rattle.prv_marks.specs.declared.error.Side.{Side}
use Rattle.prv_marks.specs.declared.error.Side.TheVariants.{Before, After}
use Rattle.prv_marks.specs.Marks.{AreUsedOnce, IsUsedTwice, first_inner}
use Rattle.prv_marks.specs.Skeletons.{items_of, DifferAt}

-- both have as many parameters
abbrev pub SameParams : Version → Version → Type 0
SameParams before after = before.program.params ≡ after.program.params

-- no version uses a mark twice
abbrev pub UseMarksOnce : List MarkAt → List MarkAt → Type 0
UseMarksOnce before after = AreUsedOnce before × AreUsedOnce after

-- no version has a mark inside a mark
abbrev pub HaveNoInner : List MarkAt → List MarkAt → Type 0
HaveNoInner before after = (first_inner before ≡ None) × (first_inner after ≡ None)

-- two versions make a pair
pub record MakePair (before after : Version) : Type 0 where
  pub same_params : SameParams before after
  pub once : UseMarksOnce before.marks after.marks
  pub no_inner : HaveNoInner before.marks after.marks
  pub same_items : items_of before.skeleton ≡ items_of after.skeleton

-- a side uses a mark twice, and no side before it does
abbrev pub IsTwice : List MarkAt → List MarkAt → Side → ℕ → Type 0
IsTwice before after Before mark = IsUsedTwice before mark
IsTwice before after After mark = AreUsedOnce before × IsUsedTwice after mark

-- a side has a mark inside a mark, the first at this place, and no side before it has one
abbrev pub IsInside : List MarkAt → List MarkAt → Side → ℕ → Type 0
IsInside before after Before place = first_inner before ≡ Some place
IsInside before after After place = (first_inner before ≡ None) × (first_inner after ≡ Some place)

-- two versions make no pair, for this reason and none that is told before it
abbrev pub IsRefused : Version → Version → PairError → Type 0
IsRefused before after (Params m n) =
    (before.program.params ≢ after.program.params) × (m ≡ before.program.params) × (n ≡ after.program.params)
IsRefused before after (MarkTwice side mark) =
    SameParams before after × IsTwice before.marks after.marks side mark
IsRefused before after (MarkInside side place) =
    SameParams before after × UseMarksOnce before.marks after.marks × IsInside before.marks after.marks side place
IsRefused before after (Unmarked m n) =
    SameParams before after × UseMarksOnce before.marks after.marks × HaveNoInner before.marks after.marks
    × DifferAt before.skeleton after.skeleton m n
