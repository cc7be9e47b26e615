use Rattle.std.proofs.Common.{◌-◌, length, take, ap, ◌∙◌, List, arith, length-take, length-drop}
use Rattle.prv_cnf.specs.declared.formula.TheConstants.{MAX_VARS}
use Rattle.prv_gate.specs.Circuits.{Run}
use Rattle.prv_gate.specs.declared.bit.Bit.{Bit}
use Rattle.prv_gate.specs.declared.bit.Bit.TheVariants.{False}
use Rattle.prv_bits.specs.Places.{padded}
use Rattle.prv_arith.proofs.ListLaws.{bits-more}
use Rattle.prv_arith.proofs.StepLaws.{pad-is}
use Rattle.prv_arith.proofs.DivisionRuns.{word-ready, opposite-slice, words-run}
use Rattle.prv_arith.proofs.quotients.divide_words.Goals as goal

pub flip-requires-clause-inside : goal.flip-requires-clause-inside
flip-requires-clause-inside c = bits-more c.args.builder.now.formula.vars MAX_VARS c.args.divisor.now (omega (arith, c.requires.room)) c.requires.first

pub divide-requires-clause-ready : goal.divide-requires-clause-ready
divide-requires-clause-ready c = word-ready c.args.divisor.now c.args.dividend.now c.leading-j.result c.leading-k.result _ _ c.args.builder.now c.requires

pub divide-requires-clause-opposite : goal.divide-requires-clause-opposite
divide-requires-clause-opposite c = opposite-slice c.args.divisor.now c.flip.new.out c.leading-j.result _ c.flip.ensures

pub returns-clause-circuit : goal.returns-clause-circuit
returns-clause-circuit c =
    ap (λ (r : Run (List Bit × List Bit)). r.circuit)
    (words-run c.args.divisor.now c.args.dividend.now c.divide.new.quotient (take c.in_ok-width.width c.divide.new.rest) c.leading-j.result c.leading-k.result _ _ c.args.builder.now c.divide.new.builder
    (omega arith) (omega arith) c.leading-j.ensures.value c.leading-k.ensures.value c.in_ok-width.ensures.run)

pub returns-clause-quotient : goal.returns-clause-quotient
returns-clause-quotient c =
    pad-is c.leading-k.result 32 c.divide.new.quotient (omega (arith, c.leading-k.ensures.bound)) (omega (arith, length-take {A = Bit}, length-drop {A = Bit}, c.leading-k.ensures.bound))
    ∙ ap (λ (r : Run (List Bit × List Bit)). padded False 32 r.out.0)
    (words-run c.args.divisor.now c.args.dividend.now c.divide.new.quotient (take c.in_ok-width.width c.divide.new.rest) c.leading-j.result c.leading-k.result _ _ c.args.builder.now c.divide.new.builder
    (omega arith) (omega arith) c.leading-j.ensures.value c.leading-k.ensures.value c.in_ok-width.ensures.run)

pub returns-clause-rest : goal.returns-clause-rest
returns-clause-rest c =
    pad-is (32 - c.in_ok-width.width) 32 c.copy_from_slice.new.self (omega arith) (ap (length {A = Bit}) c.copy_from_slice.ensures.after ∙ omega (arith, length-take {A = Bit}, length-drop {A = Bit}, c.in_ok-width.ensures.left))
    ∙ ap (padded False 32) c.copy_from_slice.ensures.after
    ∙ ap (λ (r : Run (List Bit × List Bit)). padded False 32 r.out.1)
    (words-run c.args.divisor.now c.args.dividend.now c.divide.new.quotient (take c.in_ok-width.width c.divide.new.rest) c.leading-j.result c.leading-k.result _ _ c.args.builder.now c.divide.new.builder
    (omega arith) (omega arith) c.leading-j.ensures.value c.leading-k.ensures.value c.in_ok-width.ensures.run)
