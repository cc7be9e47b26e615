use Rattle.std.proofs.Common.{◌≡◌, ◌*◌, length, sym, arith}
use Rattle.prv_arith.proofs.OperatorLaws.{ready-less}
use Rattle.prv_arith.proofs.RunLaws.{flag-run}
use Rattle.prv_arith.proofs.operators.differs.Goals as goal

pub unlike-requires : goal.unlike-requires
unlike-requires c =
    let w : length c.args.xs.now ≡ 32 = omega arith in
    record { ready = ready-less 256 (7 * length c.args.xs.now) c.args.xs.now c.args.ys.now c.args.builder.now (omega arith) c.requires }

pub returns : goal.returns
returns c =
    let w : length c.args.xs.now ≡ 32 = omega arith in
    flag-run 32 (length c.args.xs.now) c.in_ok-differ.differ c.flag.result c.unlike.new.builder _ (sym w) c.in_ok-differ.ensures.run c.flag.ensures
