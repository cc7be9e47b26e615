use Rattle.std.proofs.Common.{◌≤◌, length, [], arith}
use Rattle.std.proofs.lemmas.Grind.{common_steps}
use Rattle.prv_disk.specs.MemDisk.{then_quiet, then_writes}
use Rattle.prv_disk.proofs.Kept.{quiet-length, kept-synced}
use Rattle.prv_disk.proofs.history.History.sync.Goals as goal

pub returns-in_err-self-inside-clause-full : goal.returns-in_err-self-inside-clause-full
returns-in_err-self-inside-clause-full c =
    let long : 18446744073709551615 ≤ length (then_quiet c.self.inside.since (then_writes c.self.inside.writes.items [])) =
    omega (arith, c.in_err-self-inside.ensures.full, quiet-length c.self.inside.since (then_writes c.self.inside.writes.items [])) in
    rw (← c.self.view_is) (grind (arith, common_steps, long))

pub invariant_of-self : goal.invariant_of-self
invariant_of-self c =
    kept-synced _ _ _ c.self.inside.since c.self.inside.synced c.in_ok-self-inside.field-0 c.len-self-inside.result c.self.invariant
    c.in_ok-self-inside.ensures.ok (omega (arith, c.len-self-inside.ensures, c.self.inside.writes.ok.0))
