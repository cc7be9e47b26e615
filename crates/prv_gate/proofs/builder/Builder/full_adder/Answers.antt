use Rattle.std.proofs.Common.{◌∙◌, ap}
use Rattle.prv_gate.specs.Circuits.{Run, give, and_then}
use Rattle.prv_gate.specs.Folding.{majority_gate, full_adder}
use Rattle.prv_gate.specs.declared.bit.Bit.{Bit}
use Rattle.prv_gate.proofs.Laws.{pair-gives}
use Rattle.prv_gate.proofs.builder.Builder.full_adder.Goals as goal

pub returns-clause-run : goal.returns-clause-run
unfolding full_adder
returns-clause-run c =
    let second : Run Bit → Run (Bit × Bit) = λ q. give (c.in_ok-low.low, q.out) q.circuit in
    let first : Run Bit → Run (Bit × Bit) = λ q. and_then (majority_gate c.args.a c.args.b c.args.c q.circuit) (λ carry u. give (q.out, carry) u) in
    ap second c.in_ok-carry.ensures.run ∙ ap first c.in_ok-low.ensures.run

pub returns-clause-gives : goal.returns-clause-gives
returns-clause-gives c = pair-gives 8 6 c.args.self.now _ _ _ _ c.in_ok-low.ensures.gives c.in_ok-carry.ensures.gives
