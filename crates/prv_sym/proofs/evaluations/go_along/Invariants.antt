use Rattle.std.proofs.Common.{take, map}
use Rattle.prv_pool.specs.Tables.{Table}
use Rattle.prv_sym.specs.Calls.{AreSlots}
use Rattle.prv_sym.specs.Walks.{Walked, Reached, row_of, walked}
use Rattle.prv_sym.proofs.evaluations.go_along.Given as goal

-- the walk has gone along the evaluations so far
abbrev pub invariant-loop-event : goal.invariant-loop-event
invariant-loop-event l = record {
  slots : AreSlots l.pool.terms l.walk.slots;
  reached : (first : Table) (w : Walked) → Reached first l.initial.pool l.initial.walk w → Reached first l.pool l.walk (walked (map row_of l.rows) (take l.event-index l.events) w);
}
