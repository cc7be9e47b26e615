-- When the entries of a board say only what is true, of every input of its space.
use Rattle.std.specs.Prelude.{List, map}
use Rattle.std.specs.List.{AllByRecursion}
use Rattle.prv_model.specs.Boards.{Covers, IsTrueOf}
use Rattle.prv_model.specs.declared.program.Pair.{Pair}
use Rattle.prv_model.specs.declared.term.Term.{Term}
use Rattle.prv_part.specs.declared.part.Part.{Part}
use Rattle.prv_board.specs.Slots.{live_parts}
use Rattle.prv_board.specs.Replays.{Replay, slots}

-- the regions of some parts
abbrev pub regions : List Part → List (List Term)
regions parts = map (λ p. p.region) parts

-- parts are legal for a pair over a space: each input of the space lies in exactly one of them and no other in any, and what each claims is true of every input that it holds
pub record AreLegal (pair : Pair) (space : List Term) (parts : List Part) : Type 0 where
  pub once : Covers pair.before.params space (regions parts)
  pub true_kinds : AllByRecursion (λ p. IsTrueOf pair p.kind p.region) parts

-- a board is legal: its live entries are
abbrev pub IsLegalBoard : Replay → Type 0
IsLegalBoard b = AreLegal b.pair b.space (live_parts (slots b))
