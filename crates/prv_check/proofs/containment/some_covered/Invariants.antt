use Rattle.std.proofs.Common.{◌≡◌, false, [], take}
use Rattle.std.specs.Prelude.{slice_index_or}
use Rattle.std.specs.List.{list_any}
use Rattle.prv_check.specs.Lines.{known}
use Rattle.prv_check.specs.Inner.Tables.{are_flagged}
use Rattle.prv_check.proofs.containment.some_covered.Given as goal

abbrev pub invariant-loop-entry : goal.invariant-loop-entry
invariant-loop-entry l =
    list_any (λ e. are_flagged l.seen (slice_index_or (known l.cnf l.earlier) e.number [])) (take l.entry-index l.entries) ≡ false
