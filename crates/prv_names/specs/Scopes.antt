-- Which names are in scope, and the first thing that is wrong with a name.
use Rattle.std.specs.Prelude.{ℕ, Bool, List, [], ◌∷◌, ◌++◌, Option, Some, None, if◌then◌else◌}
use Rattle.std.specs.Option.{option_or}
use Rattle.std.specs.List.{list_any}
use Rattle.std.specs.Str.{bytes_eq}
use Rattle.prv_names.specs.declared.said.Said.{Said}
use Rattle.prv_names.specs.declared.said.Said.TheVariants.{Opens, Closes, Declares, Enters, Uses}
use Rattle.prv_names.specs.declared.error.NameError.{NameError}
use Rattle.prv_names.specs.declared.error.NameError.TheVariants.{Unknown, Twice, NotInScope}

-- a name is among these
abbrev pub has : List ℕ → List (List ℕ) → Bool
has x names = list_any (bytes_eq x) names

-- these names and this one, each once
abbrev pub add : List ℕ → List (List ℕ) → List (List ℕ)
add x names = if has x names then names else names ++ x ∷ []

-- what stands at a place of the text
pub record Standing : Type 0 where
  -- the names whose declarations have ended, in order
  pub declared : List (List ℕ)
  -- the names in scope
  pub visible : List (List ℕ)
  -- for each open block, the innermost first, the names that were in scope where it began
  pub around : List (List (List ℕ))

-- where a text begins nothing is declared
abbrev pub start : Standing
start = record { declared = []; visible = []; around = [] }

-- at the end of a block those names are in scope again that were where it began
abbrev pub leave : Standing → List (List (List ℕ)) → Standing
leave s [] = s
leave s (names ∷ outer) = record s { visible = names; around = outer }

-- what stands behind what the text says next; the end of a declaration puts its name in scope
abbrev pub after : Standing → Said → Standing
after s Opens = record s { around = s.visible ∷ s.around }
after s Closes = leave s s.around
after s (Declares x) = s
after s (Enters x) = record s { declared = add x s.declared; visible = add x s.visible }
after s (Uses x) = s

-- what is wrong with what the text says next: a name is declared once, and used only where it is in scope
abbrev pub fault : Standing → Said → Option NameError
fault s (Declares x) = if has x.name s.declared then Some (Twice x.place) else None
fault s (Uses x) = if has x.name s.visible then None else if has x.name s.declared then Some (NotInScope x.place) else Some (Unknown x.place)
fault s _ = None

-- the first thing that is wrong with what a text says from here
abbrev pub first_fault : Standing → List Said → Option NameError
first_fault s [] = None
first_fault s (next ∷ rest) = option_or (fault s next) (first_fault (after s next) rest)
