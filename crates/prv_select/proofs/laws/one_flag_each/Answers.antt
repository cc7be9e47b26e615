use Rattle.prv_select.proofs.Flags.{one-flag-each}
use Rattle.prv_select.proofs.laws.one_flag_each.Goals as goal

pub returns : goal.returns
returns c = one-flag-each
