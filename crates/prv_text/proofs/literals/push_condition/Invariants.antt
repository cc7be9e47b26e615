use Rattle.std.proofs.Common.{◌≡◌, ◌++◌}
use Rattle.prv_text.proofs.Conditions.{behind, shown}
use Rattle.prv_text.proofs.literals.push_condition.Given as goal

-- the literals so far and those that are left are all that are shown
abbrev pub invariant-loop-place : goal.invariant-loop-place
invariant-loop-place g l = l.out.items ++ behind l.names l.place (g.L.Literals.terms l.literals) ≡ l.fn.out.items ++ shown l.names (g.L.Literals.terms l.literals)
