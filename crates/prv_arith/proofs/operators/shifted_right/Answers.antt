use Rattle.std.proofs.Common.{◌≡◌, length, drop, ap, ◌∙◌, List, arith}
use Rattle.prv_gate.specs.declared.bit.Bit.{Bit}
use Rattle.prv_arith.specs.Lists.{top_bit}
use Rattle.prv_arith.specs.Shifts.{shifted_down}
use Rattle.prv_arith.proofs.ListLaws.{bits-take, bits-drop, top-inside}
use Rattle.prv_arith.proofs.RunLaws.{low-five}
use Rattle.prv_arith.proofs.operators.shifted_right.Goals as goal

pub shift_down-requires-clause-inside : goal.shift_down-requires-clause-inside
shift_down-requires-clause-inside c = top-inside c.args.builder.now.formula.vars c.args.xs.now c.requires.first

pub shift_down-requires-clause-ready : goal.shift_down-requires-clause-ready
shift_down-requires-clause-ready c =
    let n = c.args.builder.now.formula.vars in
    record { circuit = c.requires.circuit; first = bits-take n 5 (drop 27 c.args.ys.now) (bits-drop n 27 c.args.ys.now c.requires.second); second = c.requires.first; room = omega (arith, c.requires.room) }

pub returns : goal.returns
returns c =
    let w : length c.args.ys.now ≡ 32 = omega arith in
    c.in_ok-out.ensures ∙ ap (λ (l : List Bit). shifted_down (top_bit c.args.xs.now) l c.args.xs.now c.args.builder.now) (low-five 32 5 27 c.args.ys.now w (omega arith))
