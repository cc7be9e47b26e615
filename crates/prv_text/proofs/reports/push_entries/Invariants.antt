use Rattle.std.proofs.Common.{◌≡◌, ◌++◌, drop, flat_map}
use Rattle.prv_text.specs.Entries.{entry_line}
use Rattle.prv_text.proofs.reports.push_entries.Given as goal

-- the lines so far and those that are left are all of them
abbrev pub invariant-loop-entry : goal.invariant-loop-entry
invariant-loop-entry l = l.out.items ++ flat_map (entry_line l.names) (drop l.entry-index l.entries) ≡ l.initial.out.items ++ flat_map (entry_line l.names) l.entries
