-- `slice FILE N..`: the slice of the program of a file at an input, with the turns that hold where no option is given and a table of 20,000 nodes.
use Rattle.std.specs.Prelude.{◌≡◌, ℕ, ◌<◌, ◌≤◌, List, [], length, ℤ, ⊤}
use Rattle.prv_model.specs.declared.program.Program.{Program}
use Rattle.prv_line.specs.declared.limits.TheConstants.{TURNS}
use Rattle.prv_pool.specs.Tables.{add_terms}
use Rattle.prv_general.specs.Slices.{Slice, slice as slice_of, slice_named}
use Rattle.prv_text.specs.Slices.{slice_text}
use Rattle.prv_cli.specs.Steps.{Step, Shown, answers, ◌>>=◌, ◌>>◌}
use Rattle.prv_cli.specs.Readings.{version, fits}
use Rattle.prv_cli.specs.declared.status.Status.TheVariants.{Done}
use Rattle.prv_cli.specs.declared.refusal.Who.TheVariants.{Only}
use Rattle.prv_cli.specs.declared.refusal.Bound.{Bound}
use Rattle.prv_cli.specs.declared.refusal.Bound.TheVariants.{Nodes, Literals}
use Rattle.prv_cli.specs.declared.refusal.Refusal.{Refusal}
use Rattle.prv_cli.specs.declared.refusal.Refusal.TheVariants as refusal

-- how many nodes the terms of a slice take
abbrev pub node_count : Program → List ℤ → ℕ
node_count program input = length (add_terms [] (slice_named program TURNS.default input))

-- how many literals a slice has
abbrev pub literal_count : Program → List ℤ → ℕ
literal_count program input = length (slice_of program TURNS.default input).literals

-- what is shown of a slice
abbrev pub slice_shown : Program → Slice → Shown
slice_shown program s = record { text = slice_text program.names s.literals s.outs s.how s.marks; status = Done }

-- the slice is shown where it is within both bounds
pub record ShowsSlice (program : Program) (input : List ℤ) (shown : Shown) : Type 0 where
  pub nodes : node_count program input ≤ 20000
  pub literals : literal_count program input ≤ 1024
  pub shown_is : shown ≡ slice_shown program (slice_of program TURNS.default input)

-- the bound that it passes: that on nodes; or that on literals alone
abbrev pub PassesBound : Program → List ℤ → Bound → Type 0
PassesBound program input Nodes = 20000 < node_count program input
PassesBound program input Literals = (node_count program input ≤ 20000) × (1024 < literal_count program input)

-- why it isn't shown
abbrev pub ShowsNone : Program → List ℤ → Refusal → Type 0
ShowsNone program input (refusal.Slice bound) = PassesBound program input bound
ShowsNone program input refusal.Memory = ⊤
ShowsNone program input _ = ⊥

-- the text of the slice
abbrev pub show_slice : Program → List ℤ → Step Shown
show_slice program input = answers (ShowsSlice program input) (ShowsNone program input)

abbrev pub slice : List ℕ → List ℤ → Step Shown
slice file input = do
  v ← version Only file
  fits input v.program.params
  show_slice v.program input
