use Rattle.std.proofs.Common.{length, ap, arith}
use Rattle.prv_codec.specs.Reading.{line_at}
use Rattle.prv_codec.proofs.Languages.{IsBytes-from}
use Rattle.prv_codec.proofs.Loops.{length-items}
use Rattle.prv_codec.proofs.Numbers.{number-reads}
use Rattle.prv_codec.proofs.log.log_at.Goals as goal

pub returns-clause-few : goal.returns-clause-few
returns-clause-few c =
    let bytes = IsBytes-from c.args.bytes.now (λ i. omega (arith, c.type_inv.bytes i)) in
    let number = (number-reads c.args.form).found c.args.bytes.now bytes c.in_ok-count.count c.in_ok-count.rest.now c.in_ok-count.ensures in
    let count = length-items (line_at c.args.form) c.in_ok-count.count c.in_ok-count.rest.now c.in_ok-lines.lines.items c.in_ok-lines.rest.now c.in_ok-lines.ensures in
    omega (arith, ap length c.new.ensures, count, number.spells.fits)
