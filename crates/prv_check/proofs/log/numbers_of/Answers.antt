use Rattle.std.proofs.Common.{◌≡◌, ◌+◌, take, arith}
use Rattle.prv_check.specs.LogLines.{line_numbers}
use Rattle.prv_check.specs.Spending.{log_numbers}
use Rattle.prv_check.proofs.Numbering.{numbers_more}
use Rattle.prv_check.proofs.log.numbers_of.Goals as goal

pub loop-line-preserved : goal.loop-line-preserved
loop-line-preserved c = record {
  counted =
      let more : log_numbers (take (c.loop-line.line-index + 1) c.args.lines.now) ≡ log_numbers (take c.loop-line.line-index c.args.lines.now) + line_numbers c.line-item.result =
      numbers_more c.args.lines.now c.loop-line.line-index c.line-item.result c.loop-line-test.true c.line-item.is in
      let sum = c.saturating_add-sum.ensures in
      omega (arith, more, sum, c.numbers.ensures.value, c.loop-line.invariant.counted);
}
