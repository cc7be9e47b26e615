use Rattle.std.proofs.Common.{ap, sym, subst, ◌∙◌, List, arith}
use Rattle.prv_gate.specs.declared.bit.Bit.{Bit}
use Rattle.prv_gate.specs.declared.bit.Bit.TheVariants.{True}
use Rattle.prv_cnf.specs.declared.formula.TheConstants.{MAX_VARS}
use Rattle.prv_arith.specs.Lists.{IsReady}
use Rattle.prv_arith.specs.Sums.{added}
use Rattle.prv_arith.proofs.ListLaws.{bits-more, bits-opposites}
use Rattle.prv_arith.proofs.operators.minus.Goals as goal

pub flip-requires-clause-inside : goal.flip-requires-clause-inside
flip-requires-clause-inside c = bits-more c.args.builder.now.formula.vars MAX_VARS c.args.ys.now (omega (arith, c.requires.room)) c.requires.second

pub plus-requires-clause-ready : goal.plus-requires-clause-ready
plus-requires-clause-ready c =
    let P : List Bit → Type 0 = λ l. IsReady 500 c.args.builder.now c.args.xs.now l in
    subst P (sym c.flip.ensures)
    (record { circuit = c.requires.circuit; first = c.requires.first; second = bits-opposites c.args.builder.now.formula.vars c.args.ys.now c.requires.second; room = c.requires.room })

pub returns : goal.returns
returns c = c.in_ok-out.ensures ∙ ap (λ (l : List Bit). added True c.args.xs.now l c.args.builder.now) c.flip.ensures
