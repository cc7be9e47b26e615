use Rattle.std.proofs.Common.{◌≡◌, ◌*◌, length, sym, arith}
use Rattle.prv_arith.proofs.OperatorLaws.{ready-less}
use Rattle.prv_arith.proofs.RunLaws.{flag-run}
use Rattle.prv_arith.proofs.operators.is_less.Goals as goal

pub signed_less-requires-clause-ready : goal.signed_less-requires-clause-ready
signed_less-requires-clause-ready c =
    let w : length c.args.xs.now ≡ 32 = omega arith in
    ready-less 500 (8 * length c.args.xs.now) c.args.xs.now c.args.ys.now c.args.builder.now (omega arith) c.requires

pub returns : goal.returns
returns c =
    let w : length c.args.xs.now ≡ 32 = omega arith in
    flag-run 32 (length c.args.xs.now) c.in_ok-less.less c.flag.result c.signed_less.new.builder _ (sym w) c.in_ok-less.ensures.run c.flag.ensures
