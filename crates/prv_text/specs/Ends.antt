-- What the last line of a report says.
use Rattle.std.specs.Prelude.{ℕ, List, ◌++◌, codes, decimal}
use Rattle.prv_board.specs.declared.ended.Ended.{Ended}
use Rattle.prv_board.specs.declared.ended.Ended.TheVariants.{Done, Full, Stop, Settlements}
use Rattle.prv_board.specs.declared.totals.Totals.{Totals}
use Rattle.prv_text.specs.declared.last.Last.{Last}
use Rattle.prv_text.specs.declared.last.Last.TheVariants as last

-- a full board, with the totals that it would have reached
abbrev pub totals_text : Totals → List ℕ
totals_text t = codes "full " ++ decimal t.entries ++ codes " " ++ decimal t.numbers ++ codes " " ++ decimal t.literals

-- why an exploration ended
abbrev pub ended_text : Ended → List ℕ
ended_text Done = codes "done"
ended_text (Full reached) = totals_text reached
ended_text Stop = codes "stop"
ended_text (Settlements limit) = codes "settlements " ++ decimal limit

-- how a report ends
abbrev pub end_text : Last → List ℕ
end_text (last.Ended why) = codes "end " ++ ended_text why
end_text (last.Checked records) = codes "end checked " ++ decimal records
