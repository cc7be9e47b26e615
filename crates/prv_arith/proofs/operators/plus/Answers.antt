use Rattle.std.proofs.Common.{◌≡◌, ◌*◌, length, arith}
use Rattle.prv_arith.proofs.OperatorLaws.{ready-less}
use Rattle.prv_arith.proofs.operators.plus.Goals as goal

pub add-requires-clause-ready : goal.add-requires-clause-ready
add-requires-clause-ready c =
    let w : length c.args.xs.now ≡ 32 = omega arith in
    ready-less 500 (14 * length c.args.xs.now) c.args.xs.now c.args.ys.now c.args.builder.now (omega arith) c.requires.ready
