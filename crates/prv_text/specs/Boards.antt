-- The live entries of a board, and the reports of a board.
use Rattle.std.specs.Prelude.{ℕ, suc, List, [], ◌∷◌, ◌++◌, length, option_to_list, option_map, codes, decimal}
use Rattle.prv_model.specs.declared.entry.Entry.{Entry}
use Rattle.prv_part.specs.declared.part.Part.{Part}
use Rattle.prv_board.specs.Slots.{Slot, live_part, live_parts}
use Rattle.prv_board.specs.Replays.{Replay, slots, counts_of}
use Rattle.prv_text.specs.declared.last.Last.{Last}
use Rattle.prv_text.specs.Lines.{line}
use Rattle.prv_text.specs.Ends.{end_text}
use Rattle.prv_text.specs.Reports.{counts_line, regions_text, report_text}

-- the entry with this number that says what a part says
abbrev pub numbered : ℕ → Part → Entry
numbered number p = record { number = number; terms = p.region; kind = p.kind; marks = p.marks }

-- the live ones of some entries, of which the first has this number, in the order of their numbers
abbrev pub live_from : ℕ → List Slot → List Entry
live_from number [] = []
live_from number (slot ∷ slots) = option_to_list (option_map (numbered number) (live_part slot)) ++ live_from (suc number) slots

-- the live entries of a board, in the order of their numbers
abbrev pub live_entries : Replay → List Entry
live_entries b = live_from 0 (slots b)

-- the names of the old version's variables, the parameters first
abbrev pub names_of : Replay → List (List ℕ)
names_of b = b.pair.before.names

-- how many live entries a board has, and a line for each
abbrev pub board_regions : Replay → List ℕ
board_regions b = regions_text (names_of b) (live_entries b)

-- the line of how many live entries a board has of each kind
abbrev pub board_counts : Replay → List ℕ
board_counts b = counts_line (counts_of (live_parts (slots b)))

-- the report of a board
abbrev pub board_report : Replay → Last → List ℕ
board_report b last = report_text (names_of b) (live_entries b) (end_text last)

-- the report of a board of a generated pair: no entries, but how many settlements it took
abbrev pub generated_report : ℕ → ℕ → Replay → Last → List ℕ
generated_report number size b last =
    line (codes "gen " ++ decimal number ++ codes " " ++ decimal size ++ codes " settlements " ++ decimal (length b.history))
    ++ board_counts b ++ line (end_text last)
