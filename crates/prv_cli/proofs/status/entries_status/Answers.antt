use Rattle.std.proofs.Common.{map, ◌∙◌}
use Rattle.prv_text.specs.Reports.{part_of}
use Rattle.prv_cli.proofs.Counted.{status-counted}
use Rattle.prv_cli.proofs.status.entries_status.Goals as goal

pub returns : goal.returns
returns c = c.status_of.ensures ∙ status-counted (map part_of c.args.entries.now) c.count_entries.result c.count_entries.ensures
