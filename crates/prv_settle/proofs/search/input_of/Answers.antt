use Rattle.std.proofs.Common.{◌≡◌, ℕ, ◌-◌, ◌++◌, replicate, pos, arith, subst, ◌∙◌}
use Rattle.prv_cnf.specs.Models.{values_of}
use Rattle.prv_blast.specs.Inputs.{input_at}
use Rattle.prv_settle.proofs.Asking.{made-more, length-made}
use Rattle.prv_settle.proofs.search.input_of.Goals as goal

pub loop-preserved : goal.loop-preserved
loop-preserved c =
    c.in_ok-push.ensures.ok ∙ made-more c.args.blasted.now.params c.loop.counter (values_of c.args.values.now) c.loop.input (omega arith) c.loop.invariant

pub returns-clause-input : goal.returns-clause-input
returns-clause-input c =
    let m = c.args.blasted.now.params in
    let v = values_of c.args.values.now in
    let all : c.loop.counter ≡ c.args.params = omega arith in
    let made = subst (λ (k : ℕ). c.loop.input ≡ input_at m v ++ replicate (k - m) (pos 0)) all c.loop.invariant in
    record { long = length-made m c.args.params v c.loop.input (omega arith) made; words = c.as_slice.ensures.words }
