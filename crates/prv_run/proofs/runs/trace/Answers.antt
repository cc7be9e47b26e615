use Rattle.std.proofs.Common.{[]}
use Rattle.prv_run.proofs.Tellings.{knows-all}
use Rattle.prv_run.proofs.runs.trace.Goals as goal

pub run_told-requires-clause-known : goal.run_told-requires-clause-known
run_told-requires-clause-known c = knows-all _ [] c.args.program.now.body (rw c.as_slice.ensures at c.in_ok-sizes.ensures) c.args.program.now.kept.few_statements
