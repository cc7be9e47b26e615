use Rattle.std.proofs.Common.{◌+◌, ◌≤◌, drop, length, count_by, List, sym, subst, arith}
use Rattle.std.proofs.lemmas.List.{take_rest}
use Rattle.prv_propagate.specs.declared.trail.Step.{Step}
use Rattle.prv_propagate.specs.Keeping.{IsLevel, AreUnmarked}
use Rattle.prv_propagate.specs.Trails.{Trailing}
use Rattle.prv_propagate.proofs.Tabling.{trail_cut}
use Rattle.prv_propagate.proofs.trail.Trail.jump_back.Goals as goal

pub invariant_of-self : goal.invariant_of-self
invariant_of-self c =
    let steps : List Step = c.self.inside.steps.items in
    let within : c.args.end ≤ length steps = subst (λ (t : Trailing). c.args.end ≤ length t.steps) (sym c.self.view_is) c.requires in
    let level : IsLevel c.self.inside.limits.items c.args.end c.level_at-level.result = rw c.as_slice.ensures.value at c.level_at-level.ensures in
    let marks : AreUnmarked c.self.inside.table.items (drop c.args.end steps) c.unmark.new.table.items = rw (c.as_slice-2.ensures.value, take_rest steps c.args.end) at c.unmark.ensures.marks in
    let count : count_by (λ b. b) c.self.inside.table.items ≤ count_by (λ b. b) c.unmark.new.table.items + length (drop c.args.end steps) = rw (c.as_slice-2.ensures.value, take_rest steps c.args.end) at c.unmark.ensures.count in (
      rw (c.truncate-2.ensures.items, c.truncate.ensures.items) (trail_cut c.self.invariant.0 c.args.end c.level_at-level.result c.unmark.new.table.items within level c.unmark.ensures.len marks count),
      omega (arith, c.truncate-2.ensures.capacity),
    )
