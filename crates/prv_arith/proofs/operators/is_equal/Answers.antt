use Rattle.std.proofs.Common.{◌≡◌, ◌*◌, length, sym, arith}
use Rattle.prv_arith.proofs.OperatorLaws.{ready-less}
use Rattle.prv_cnf.specs.declared.formula.TheConstants.{MAX_VARS}
use Rattle.prv_gate.proofs.Composing.{bit-more}
use Rattle.prv_arith.proofs.RunLaws.{opposite-flag-run}
use Rattle.prv_arith.proofs.operators.is_equal.Goals as goal

pub unlike-requires : goal.unlike-requires
unlike-requires c =
    let w : length c.args.xs.now ≡ 32 = omega arith in
    record { ready = ready-less 256 (7 * length c.args.xs.now) c.args.xs.now c.args.ys.now c.args.builder.now (omega arith) c.requires }

pub negated-requires : goal.negated-requires
negated-requires c =
    let w : length c.args.xs.now ≡ 32 = omega arith in
    let g = c.in_ok-differ.ensures.gives in
    bit-more c.unlike.new.builder.formula.vars MAX_VARS c.in_ok-differ.differ (omega (arith, g.grows.vars_cost, c.requires.room)) g.inside

pub returns : goal.returns
returns c =
    let w : length c.args.xs.now ≡ 32 = omega arith in
    opposite-flag-run 32 (length c.args.xs.now) c.in_ok-differ.differ c.negated.result c.flag.result c.unlike.new.builder _ (sym w) c.in_ok-differ.ensures.run c.negated.ensures.value c.flag.ensures
