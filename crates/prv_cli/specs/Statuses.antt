-- The statuses under which something was shown.
use Rattle.std.specs.Prelude.{ℕ, nat_lt, Bool, ◌||◌, List, map, if◌then◌else◌}
use Rattle.std.specs.List.{list_any}
use Rattle.prv_model.specs.declared.entry.Kind.{Kind}
use Rattle.prv_model.specs.declared.entry.Entry.{Entry}
use Rattle.prv_part.specs.declared.part.Part.{Part}
use Rattle.prv_board.specs.Slots.{live_parts}
use Rattle.prv_board.specs.Replays.{Replay, slots, is_different, is_beyond, is_unexplored, is_undecided}
use Rattle.prv_board.specs.declared.counts.Counts.{Counts}
use Rattle.prv_text.specs.Reports.{part_of}
use Rattle.prv_cli.specs.declared.status.Status.{Status}
use Rattle.prv_cli.specs.declared.status.Status.TheVariants.{Done, Different, Unsettled}

-- the number with which the program ends
abbrev pub status_number : Status → ℕ
status_number Done = 0
status_number Different = 1
status_number Unsettled = 2

-- something is left to be found in an entry of this kind
abbrev pub is_unsettled : Kind → Bool
is_unsettled kind = is_beyond kind || (is_unexplored kind || is_undecided kind)

-- Different where a part is, else Unsettled where one is Beyond, open or undecided, and else Done
abbrev pub parts_status : List Part → Status
parts_status parts =
    if list_any (λ p. is_different p.kind) parts then Different
    else (if list_any (λ p. is_unsettled p.kind) parts then Unsettled else Done)

-- the status of a list of entries is that of what they say
abbrev pub entries_status : List Entry → Status
entries_status entries = parts_status (map part_of entries)

-- the same by how many there are of each kind
abbrev pub counts_status : Counts → Status
counts_status c =
    if nat_lt 0 c.different then Different
    else (if nat_lt 0 c.beyond || (nat_lt 0 c.unexplored || nat_lt 0 c.undecided) then Unsettled else Done)

-- the status of a board is that of its live entries
abbrev pub board_status : Replay → Status
board_status b = parts_status (live_parts (slots b))
