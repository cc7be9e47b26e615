use Rattle.std.proofs.Common.{◌≤◌, length, [], arith}
use Rattle.std.proofs.lemmas.Grind.{common_steps}
use Rattle.prv_disk.specs.MemDisk.{then_quiet, then_writes}
use Rattle.prv_disk.proofs.Kept.{quiet-length, kept-synced, kept-passed, seen-passed}
use Rattle.prv_disk.proofs.history.History.pass.Goals as goal

pub returns-in_err-self-inside-clause-full : goal.returns-in_err-self-inside-clause-full
returns-in_err-self-inside-clause-full c =
    let long : 18446744073709551615 ≤ length (then_quiet c.self.inside.since (then_writes c.self.inside.writes.items [])) =
    omega (arith, c.in_err-self-inside.ensures.full, quiet-length c.self.inside.since (then_writes c.self.inside.writes.items [])) in
    rw (← c.self.view_is) (grind (arith, common_steps, long))

pub invariant_of-self : goal.invariant_of-self
invariant_of-self c =
    kept-synced _ _ _ c.self.inside.since c.self.inside.synced c.in_ok-self-inside.field-0 c.self.inside.synced c.self.invariant
    c.in_ok-self-inside.ensures.ok (c.self.invariant.all_lasting c.if-self-gt0.true)

pub returns-in_err-self-inside-2-clause-full : goal.returns-in_err-self-inside-2-clause-full
returns-in_err-self-inside-2-clause-full c =
    let long : 18446744073709551615 ≤ length (then_quiet c.self.inside.since (then_writes c.self.inside.writes.items [])) =
    omega (arith, c.in_err-self-inside-2.ensures.full, quiet-length c.self.inside.since (then_writes c.self.inside.writes.items [])) in
    rw (← c.self.view_is) (grind (arith, common_steps, long))

pub invariant_of-self-else-self-gt0 : goal.invariant_of-self-else-self-gt0
invariant_of-self-else-self-gt0 c =
    kept-passed _ _ _ c.self.inside.since c.self.inside.synced c.in_ok-self-inside-2.field-0 c.self.invariant
    c.in_ok-self-inside-2.ensures.ok (omega arith)

pub returns-in_ok-self-inside-2-clause-ok : goal.returns-in_ok-self-inside-2-clause-ok
returns-in_ok-self-inside-2-clause-ok c =
    rw (← c.self.view_is) (seen-passed _ c.self.inside.since c.self.inside.writes.items c.in_ok-self-inside-2.field-0 c.in_ok-self-inside-2.ensures.ok (omega arith))
