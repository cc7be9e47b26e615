use Rattle.std.proofs.Common.{◌≡◌, length, drop, ap, ◌∙◌, List, arith}
use Rattle.prv_gate.specs.declared.bit.Bit.{Bit}
use Rattle.prv_arith.specs.Shifts.{shifted_up}
use Rattle.prv_arith.proofs.ListLaws.{bits-take, bits-drop}
use Rattle.prv_arith.proofs.RunLaws.{low-five}
use Rattle.prv_arith.proofs.operators.shifted_left.Goals as goal

pub shift_up-requires-clause-ready : goal.shift_up-requires-clause-ready
shift_up-requires-clause-ready c =
    let n = c.args.builder.now.formula.vars in
    record { circuit = c.requires.circuit; first = bits-take n 5 (drop 27 c.args.ys.now) (bits-drop n 27 c.args.ys.now c.requires.second); second = c.requires.first; room = omega (arith, c.requires.room) }

pub returns : goal.returns
returns c =
    let w : length c.args.ys.now ≡ 32 = omega arith in
    c.in_ok-out.ensures ∙ ap (λ (l : List Bit). shifted_up l c.args.xs.now c.args.builder.now) (low-five 32 5 27 c.args.ys.now w (omega arith))
