-- The parts that a region is cut into, by the shape of what it is found to be.
use Rattle.std.specs.List.{AllByRecursion}
use Rattle.prv_model.specs.Boards.{IsTrueOf}
use Rattle.prv_model.specs.Terms.{IsTerm}
use Rattle.std.specs.Prelude.{ℕ, List, [], ◌∷◌, ◌++◌, ℤ, if◌then◌else◌, map}
use Rattle.prv_model.specs.declared.entry.Kind.{Kind}
use Rattle.prv_model.specs.declared.entry.Kind.TheVariants as k
use Rattle.prv_model.specs.declared.entry.Reason.{Reason}
use Rattle.prv_model.specs.declared.program.Pair.{Pair}
use Rattle.prv_model.specs.declared.term.Term.{Term}
use Rattle.prv_pool.specs.Folding.{negation}
use Rattle.prv_part.specs.Literals.{pair_literals, pair_marks, decided_equality, agree_at}
use Rattle.prv_part.specs.declared.shape.Shape.{Shape}
use Rattle.prv_part.specs.declared.shape.Shape.TheVariants.{Empty, Stuck, Whole, Split, Beyond}
use Rattle.prv_part.specs.declared.part.Part.{Part}

-- the inputs of a region on which the literals don't all hold, by the first that doesn't
abbrev pub rests : List Term → List Term → List (List Term)
rests region [] = []
rests region (p ∷ ps) = (region ++ negation p ∷ []) ∷ rests (region ++ p ∷ []) ps

-- what the second part of a split shows: an input of it, or the reason why it is left undecided
pub data Other : Type 0 where
  Found : List ℤ → Other
  Left : Reason → Other

-- a region with a claim, without marks
abbrev pub unmarked : Kind → List Term → Part
unmarked kind region = record { region = region; kind = kind; marks = [] }

-- what an input claims of the inputs like it: Same where both versions agree there, else Different with it as the sample
abbrev pub kind_at : Pair → List ℤ → Kind
kind_at pair t = if agree_at pair t then k.Same else k.Different t

-- what another input claims, on which the versions compare otherwise
abbrev pub contrary_kind : Pair → List ℤ → List ℤ → Kind
contrary_kind pair t other = if agree_at pair t then k.Different other else k.Same

-- the inputs of a region on which both versions run as they do at an input
abbrev pub partition : Pair → List Term → List ℤ → List Term
partition pair region t = region ++ pair_literals pair region t

-- the other inputs of the region, left open
abbrev pub open_rests : Pair → List Term → List ℤ → List Part
open_rests pair region t = map (unmarked k.Unexplored) (rests region (pair_literals pair region t))

-- a part that both runs at an input decide: it has the marks that contribute to them
abbrev pub decided_part : Pair → List ℤ → Kind → List Term → Part
decided_part pair t kind region = record { region = region; kind = kind; marks = pair_marks pair t }

-- the second part of a split
abbrev pub second_part : Pair → List ℤ → Other → List Term → Part
second_part pair t (Found other) region = decided_part pair t (contrary_kind pair t other) region
second_part pair t (Left why) region = unmarked (k.Undecided why) region

-- the parts of a region: t is the input that was run, `other` what the second part of a split shows, `why` the reason where nothing was decided
abbrev pub parts_of : Pair → List Term → Shape → List ℤ → Other → Reason → List Part
parts_of pair region Empty t other why = unmarked k.Empty region ∷ []
parts_of pair region Stuck t other why = unmarked (k.Undecided why) region ∷ []
parts_of pair region Beyond t other why = decided_part pair t k.Beyond (partition pair region t) ∷ open_rests pair region t
parts_of pair region Whole t other why = decided_part pair t (kind_at pair t) (partition pair region t) ∷ open_rests pair region t
parts_of pair region Split t other why =
    let same = decided_equality pair t in
    decided_part pair t (kind_at pair t) (partition pair region t ++ same ∷ [])
    ∷ second_part pair t other (partition pair region t ++ negation same ∷ [])
    ∷ open_rests pair region t

-- what each part claims is true of its region
abbrev pub AreTrue : Pair → List Part → Type 0
AreTrue pair parts = AllByRecursion (λ p. IsTrueOf pair p.kind p.region) parts

-- a region speaks of the first n words of an input alone
abbrev pub IsOver : ℕ → List Term → Type 0
IsOver n region = AllByRecursion (IsTerm n) region

-- so do the regions of some parts
abbrev pub AreOver : ℕ → List Part → Type 0
AreOver n parts = AllByRecursion (λ p. IsOver n p.region) parts
