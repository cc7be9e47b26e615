use Rattle.std.proofs.Common.{◌≡◌, ◌+◌, ◌*◌, length, ap, ap₂, ◌∙◌, List, arith, ℕ}
use Rattle.prv_gate.specs.Circuits.{Run}
use Rattle.prv_gate.specs.declared.bit.Bit.{Bit}
use Rattle.prv_gate.specs.declared.bit.Bit.TheVariants.{False}
use Rattle.prv_bits.specs.Places.{padded}
use Rattle.prv_arith.proofs.ListLaws.{bits-more}
use Rattle.prv_arith.proofs.DivisionRuns.{division-run}
use Rattle.prv_arith.proofs.quotients.signed_division.Goals as goal

pub some-requires-clause-ready : goal.some-requires-clause-ready
some-requires-clause-ready c = record { circuit = c.requires.circuit; first = c.requires.second; second = c.requires.second; room = omega (arith, c.requires.room) }

pub magnitude-requires : goal.magnitude-requires
magnitude-requires c =
    let g = c.in_ok-nonzero.ensures.gives.grows in
    let s = c.args.builder.now in
    let t = c.some.new.builder in
    let hx = bits-more s.formula.vars t.formula.vars c.args.xs.now g.vars_kept c.requires.first in
    record { ready = record { circuit = g.circuit; first = hx; second = hx; room = omega (arith, c.requires.room, g.vars_cost) } }

pub magnitude-requires-2 : goal.magnitude-requires-2
magnitude-requires-2 c =
    let g = c.in_ok-nonzero.ensures.gives.grows in
    let k = c.in_ok-dividend.ensures.gives.grows in
    let s = c.args.builder.now in
    let u = c.magnitude.new.builder in
    let hy = bits-more s.formula.vars u.formula.vars c.args.ys.now (omega (arith, g.vars_kept, k.vars_kept)) c.requires.second in
    record { ready = record { circuit = k.circuit; first = hy; second = hy; room = omega (arith, c.requires.room, g.vars_cost, k.vars_cost) } }

pub divide_words-requires : goal.divide_words-requires
divide_words-requires c =
    let g = c.in_ok-nonzero.ensures.gives.grows in
    let k = c.in_ok-dividend.ensures.gives.grows in
    let l = c.in_ok-divisor.ensures.gives.grows in
    let wa : length c.in_ok-dividend.dividend ≡ 32 = omega arith in
    let wd : length c.in_ok-divisor.divisor ≡ 32 = omega arith in
    let cost : length c.in_ok-dividend.dividend * (18 * length c.in_ok-divisor.divisor + 9) ≡ 18720 = ap₂ (λ (m n : ℕ). m * (18 * n + 9)) wa wd in
    record {
      circuit = l.circuit;
      first = c.in_ok-divisor.ensures.gives.inside;
      second = bits-more c.magnitude.new.builder.formula.vars c.magnitude-2.new.builder.formula.vars c.in_ok-dividend.dividend l.vars_kept c.in_ok-dividend.ensures.gives.inside;
      room = omega (arith, c.requires.room, g.vars_cost, k.vars_cost, l.vars_cost, cost);
    }

pub returns : goal.returns
returns c =
    let run = division-run c.args.xs.now c.args.ys.now c.in_ok-dividend.dividend c.in_ok-divisor.divisor c.in_ok-nonzero.nonzero c.args.builder.now c.some.new.builder c.magnitude.new.builder c.magnitude-2.new.builder
    c.in_ok-nonzero.ensures.run c.in_ok-dividend.ensures.run c.in_ok-divisor.ensures.run in
    record {
      circuit = c.in_ok-quotient.ensures.circuit ∙ ap (λ (r : Run (Bit × List Bit × List Bit)). r.circuit) run;
      nonzero = ap (λ (r : Run (Bit × List Bit × List Bit)). r.out.0) run;
      quotient = c.in_ok-quotient.ensures.quotient ∙ ap (λ (r : Run (Bit × List Bit × List Bit)). padded False 32 r.out.1) run;
      rest = c.in_ok-quotient.ensures.rest ∙ ap (λ (r : Run (Bit × List Bit × List Bit)). padded False 32 r.out.2) run;
    }
