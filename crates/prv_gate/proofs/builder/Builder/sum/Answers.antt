use Rattle.std.proofs.Common.{◌<◌, ◌≤◌, ◌+◌, arith}
use Rattle.prv_cnf.specs.declared.formula.TheConstants.{MAX_VARS}
use Rattle.prv_gate.specs.Bits.{IsBit, bit_value}
use Rattle.prv_gate.specs.Gates.{differ}
use Rattle.prv_gate.specs.Folding.{xor_gate}
use Rattle.prv_gate.specs.Growth.{Gives}
use Rattle.prv_gate.proofs.Composing.{of_run, of_circuit, run_after, run_as}
use Rattle.prv_gate.proofs.Laws.{sum_gate-gives, sum_gate-vars, sum_gate-two, sum_gate-one}
use Rattle.prv_gate.proofs.builder.Builder.sum.Goals as goal

pub returns-then-vars-lt-MAX_VARS-clause-run : goal.returns-then-vars-lt-MAX_VARS-clause-run
returns-then-vars-lt-MAX_VARS-clause-run c =
    let less : c.args.self.now.formula.vars + 2 < MAX_VARS = omega arith in
    run_as _ _ _ _ (sum_gate-two c.args.a c.args.b c.args.c c.args.self.now less)
    (run_after c.xor-then-vars-lt-MAX_VARS.result c.xor-then-vars-lt-MAX_VARS.new.self c.in_ok-differ.differ c.xor.new.self
    (xor_gate c.args.a c.args.b c.args.self.now) (λ x. xor_gate x c.args.c) c.in_ok-differ.ensures.run c.xor-then-vars-lt-MAX_VARS.ensures.run)

pub returns-then-vars-lt-MAX_VARS-clause-gives : goal.returns-then-vars-lt-MAX_VARS-clause-gives
returns-then-vars-lt-MAX_VARS-clause-gives c =
    of_run (λ r. Gives IsBit bit_value 8 c.args.self.now r (λ v. differ (differ (bit_value v c.args.a) (bit_value v c.args.b)) (bit_value v c.args.c))) _ _ _
    (returns-then-vars-lt-MAX_VARS-clause-run c)
    (sum_gate-gives c.args.a c.args.b c.args.c c.args.self.now c.vars.ensures.circuit c.requires.first c.requires.second c.requires.third c.requires.room)

pub returns-clause-run : goal.returns-clause-run
returns-clause-run c =
    let most : MAX_VARS ≤ c.args.self.now.formula.vars + 2 = omega arith in
    run_as _ _ _ _ (sum_gate-one c.args.a c.args.b c.args.c c.args.self.now most)
    (rw (c.known-a.ensures.value, c.known-b.ensures.value, c.known-c.ensures.value) at c.parity_bits.ensures)

pub returns-clause-gives : goal.returns-clause-gives
returns-clause-gives c =
    of_run (λ r. Gives IsBit bit_value 8 c.args.self.now r (λ v. differ (differ (bit_value v c.args.a) (bit_value v c.args.b)) (bit_value v c.args.c))) _ _ _ (returns-clause-run c)
    (sum_gate-gives c.args.a c.args.b c.args.c c.args.self.now c.vars.ensures.circuit c.requires.first c.requires.second c.requires.third c.requires.room)

pub returns-clause-room : goal.returns-clause-room
returns-clause-room c =
    of_circuit (λ s. s.formula.vars < MAX_VARS) _ _ _ (returns-clause-run c)
    (sum_gate-vars c.args.a c.args.b c.args.c c.args.self.now c.vars.ensures.circuit c.requires.first c.requires.second c.requires.third c.requires.room)
