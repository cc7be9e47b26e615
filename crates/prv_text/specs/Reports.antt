-- The line of the counts, and the report of a list of entries.
use Rattle.std.specs.Prelude.{ℕ, List, ◌++◌, length, map, flat_map, codes, decimal}
use Rattle.prv_model.specs.declared.entry.Entry.{Entry}
use Rattle.prv_part.specs.declared.part.Part.{Part}
use Rattle.prv_board.specs.declared.counts.Counts.{Counts}
use Rattle.prv_board.specs.Replays.{counts_of}
use Rattle.prv_text.specs.Lines.{line}
use Rattle.prv_text.specs.Entries.{entry_line}

-- a count behind a label
abbrev pub count_text : List ℕ → ℕ → List ℕ
count_text label count = label ++ decimal count

-- how many there are of each kind
abbrev pub counts_text : Counts → List ℕ
counts_text c =
    count_text (codes "same ") c.same ++ count_text (codes " different ") c.different ++ count_text (codes " empty ") c.empty
    ++ count_text (codes " beyond ") c.beyond ++ count_text (codes " open ") c.unexplored ++ count_text (codes " undecided ") c.undecided

-- the line of the counts
abbrev pub counts_line : Counts → List ℕ
counts_line c = line (counts_text c)

-- what an entry says, without its number
abbrev pub part_of : Entry → Part
part_of e = record { region = e.terms; kind = e.kind; marks = e.marks }

-- how many entries there are, and a line for each
abbrev pub regions_text : List (List ℕ) → List Entry → List ℕ
regions_text names entries = line (codes "regions " ++ decimal (length entries)) ++ flat_map (entry_line names) entries

-- the report of a list of entries, with its last line
abbrev pub report_text : List (List ℕ) → List Entry → List ℕ → List ℕ
report_text names entries last = regions_text names entries ++ counts_line (counts_of (map part_of entries)) ++ line last

-- the report of a point
abbrev pub point_report : List (List ℕ) → List Entry → List ℕ
point_report names entries = report_text names entries (codes "end point")
