use Rattle.std.proofs.Common.{◌≡◌, ◌≤◌, length, drop}
use Rattle.prv_select.specs.BackwardWalks.{back}
use Rattle.prv_select.proofs.walk.walk_back.Given as goal

-- the evaluations from here on were passed
abbrev pub invariant-loop-left : goal.invariant-loop-left
invariant-loop-left l = record {
  low : l.left ≤ length l.events;
  long : length l.kept ≡ length l.events;
  walk : l.walk ≡ (back l.tables.places.now l.tables.rows.now (drop l.left l.events) l.initial.walk).walk;
  kept : drop l.left l.kept ≡ (back l.tables.places.now l.tables.rows.now (drop l.left l.events) l.initial.walk).kept;
}

abbrev pub decreases-loop-left : goal.decreases-loop-left
decreases-loop-left l = l.left
