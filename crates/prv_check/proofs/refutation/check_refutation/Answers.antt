use Rattle.std.proofs.Common.{rules, List, length, subst}
use Rattle.prv_check.specs.LogLines.{LogLine}
use Rattle.prv_check.specs.BadLines.{IsDerived, AreGood}
use Rattle.prv_check.proofs.Judging.{derived_faultless, derived_distinct}
use Rattle.prv_check.proofs.refutation.check_refutation.Goals as goal

pub returns-clause-accepted : goal.returns-clause-accepted
returns-clause-accepted c =
    let good : AreGood (IsDerived c.args.cnf.now) c.args.log.now (length c.args.log.now) = search rules in
    (derived_faultless c.args.cnf.now c.args.log.now good, search rules)

pub returns-clause-distinct : goal.returns-clause-distinct
returns-clause-distinct c =
    let good : AreGood (IsDerived c.args.cnf.now) c.args.log.now (length c.args.log.now) = search rules in
    derived_distinct c.args.cnf.now c.args.log.now good
