use Rattle.std.proofs.Common.{◌≡◌, ◌<◌, ◌≤◌, drop, length}
use Rattle.prv_cnf.specs.declared.literal.Lit.{Lit}
use Rattle.prv_check.specs.Lines.{known, clauses_at}
use Rattle.prv_cnf.specs.Places.{place_of}
use Rattle.prv_check.specs.Inner.Tables.{flag}
use Rattle.prv_check.specs.Freshness.{stands_in, have_use}
use Rattle.prv_check.proofs.lean.have_use.Given as goal

abbrev pub invariant-loop-at : goal.invariant-loop-at
invariant-loop-at l =
    (l.at ≤ length l.hints)
    × (l.used ≡ have_use (drop l.at l.units) (clauses_at (known l.cnf l.earlier) (drop l.at l.hints)))
    × ((x : Lit) → place_of x < length l.seen → flag l.seen x ≡ stands_in (clauses_at (known l.cnf l.earlier) (drop l.at l.hints)) x)
    × (length l.seen ≡ length l.fn.seen)

abbrev pub decreases-loop-at : goal.decreases-loop-at
decreases-loop-at l = l.at
