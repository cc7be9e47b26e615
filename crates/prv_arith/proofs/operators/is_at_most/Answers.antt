use Rattle.std.proofs.Common.{◌≡◌, ◌*◌, length, sym, arith}
use Rattle.prv_arith.proofs.OperatorLaws.{ready-less}
use Rattle.prv_cnf.specs.declared.formula.TheConstants.{MAX_VARS}
use Rattle.prv_gate.proofs.Composing.{bit-more}
use Rattle.prv_arith.proofs.RunLaws.{opposite-flag-run}
use Rattle.prv_arith.proofs.operators.is_at_most.Goals as goal

pub signed_less-requires-clause-ready : goal.signed_less-requires-clause-ready
signed_less-requires-clause-ready c =
    let w : length c.args.ys.now ≡ 32 = omega arith in
    ready-less 500 (8 * length c.args.ys.now) c.args.ys.now c.args.xs.now c.args.builder.now (omega arith) (record { circuit = c.requires.circuit; first = c.requires.second; second = c.requires.first; room = c.requires.room })

pub negated-requires : goal.negated-requires
negated-requires c =
    let w : length c.args.ys.now ≡ 32 = omega arith in
    let g = c.in_ok-greater.ensures.gives in
    bit-more c.signed_less.new.builder.formula.vars MAX_VARS c.in_ok-greater.greater (omega (arith, g.grows.vars_cost, c.requires.room)) g.inside

pub returns : goal.returns
returns c =
    let w : length c.args.xs.now ≡ 32 = omega arith in
    opposite-flag-run 32 (length c.args.xs.now) c.in_ok-greater.greater c.negated.result c.flag.result c.signed_less.new.builder _ (sym w) c.in_ok-greater.ensures.run c.negated.ensures.value c.flag.ensures
