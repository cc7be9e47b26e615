use Rattle.std.proofs.Common.{◌≡◌, [], reverse}
use Rattle.prv_sat.proofs.Learning.{line_end}
use Rattle.prv_sat.proofs.learn.end_line.Goals as goal

pub returns : goal.returns
returns c =
    let line : c.new-2.result ≡ record { clause = []; hints = reverse c.args.hints.items } = rw (c.in_ok-clause.ensures, c.reversed.ensures) at c.new-2.ensures in
    rw line (line_end c.args.cnf.now c.args.lines.now c.args.trail.now c.args.marks.now.marked (reverse c.args.hints.items) c.steps.ensures.assigned c.requires.formula c.requires.derived)
