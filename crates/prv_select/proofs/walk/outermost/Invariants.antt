use Rattle.std.proofs.Common.{◌≡◌, ◌-◌}
use Rattle.prv_select.specs.BackwardWalks.{or_else, outermost}
use Rattle.prv_select.proofs.walk.outermost.Given as goal

-- the outermost of those that are left, or else the one found so far, is the outermost of all
abbrev pub invariant-loop : goal.invariant-loop
invariant-loop l = or_else (outermost l.tables.places.now l.tables.rows.now l.needed (l.count - l.counter) l.at) l.found ≡ outermost l.tables.places.now l.tables.rows.now l.needed l.count l.fn.nearest
