use Rattle.std.proofs.Common.{List, subst}
use Rattle.prv_check.specs.LogLines.{LogLine}
use Rattle.prv_check.specs.Logs.{IsFaultless}
use Rattle.prv_check.specs.Freshness.{fresh_fault}
use Rattle.prv_check.proofs.Passing.{fresh_log}
use Rattle.prv_check.proofs.fresh.check_fresh.Goals as goal

pub returns-clause-fresh : goal.returns-clause-fresh
returns-clause-fresh c =
    let P : List LogLine → Type 0 = λ ls. IsFaultless (fresh_fault c.args.cnf.now) ls in
    (fresh_log c.args.cnf.now c.args.log.now (subst P c.lines-lines.ensures c.in_ok-fresh_lines.ensures.ok)).1
