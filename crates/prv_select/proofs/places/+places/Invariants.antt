use Rattle.std.proofs.Common.{◌≡◌, ◌≤◌, ◌++◌, length, drop}
use Rattle.prv_select.specs.Places.{places_all}
use Rattle.prv_select.proofs.places.+places.Given as goal

-- the places so far and those that are left are all of them
abbrev pub invariant-push_all-loop-stmt : goal.invariant-push_all-loop-stmt
invariant-push_all-loop-stmt l = record {
  made : l.places ++ places_all (drop l.stmt-index l.all) l.outer (length l.places) ≡ l.initial.places ++ places_all l.all l.outer (length l.initial.places);
  grows : length l.initial.places ≤ length l.places;
}
