use Rattle.std.proofs.Common.{◌≡◌, ◌≤◌, length, arith}
use Rattle.prv_gate.proofs.Composing.{bit-more}
use Rattle.prv_arith.specs.Lists.{top_bit}
use Rattle.prv_arith.proofs.ListLaws.{top-inside}
use Rattle.prv_arith.proofs.DivisionRuns.{division-grows, nonzero-inside, rest-inside, remainder-run}
use Rattle.prv_arith.proofs.quotients.signed_remainder.Goals as goal

pub mask-requires : goal.mask-requires
mask-requires c =
    let xs = c.args.xs.now in
    let ys = c.args.ys.now in
    let s = c.args.builder.now in
    let t = c.signed_division.new.builder in
    let wx : length xs ≡ 32 = omega arith in
    let wy : length ys ≡ 32 = omega arith in
    let g = division-grows xs ys s t wx wy c.requires c.in_ok-division.ensures.circuit in
    let q = rest-inside xs ys s t wx wy c.requires c.in_ok-division.ensures.circuit c.in_ok-division.division.rest c.in_ok-division.ensures.rest in
    record {
      inside = nonzero-inside xs ys s t wx wy c.requires c.in_ok-division.ensures.circuit c.in_ok-division.division.nonzero c.in_ok-division.ensures.nonzero;
      ready = record { circuit = g.circuit; first = q; second = q; room = omega (arith, c.requires.room, g.vars_cost) };
    }

pub negate-requires : goal.negate-requires
negate-requires c =
    let xs = c.args.xs.now in
    let ys = c.args.ys.now in
    let s = c.args.builder.now in
    let t = c.signed_division.new.builder in
    let u = c.mask.new.builder in
    let wx : length xs ≡ 32 = omega arith in
    let wy : length ys ≡ 32 = omega arith in
    let wr : length c.in_ok-raw.raw ≡ 32 = omega arith in
    let g = division-grows xs ys s t wx wy c.requires c.in_ok-division.ensures.circuit in
    let k = c.in_ok-raw.ensures.grows in
    let more : s.formula.vars ≤ u.formula.vars = omega (arith, g.vars_kept, k.vars_kept) in
    record {
      inside = bit-more s.formula.vars u.formula.vars (top_bit xs) more (top-inside s.formula.vars xs c.requires.first);
      ready = record { circuit = k.circuit; first = c.in_ok-raw.ensures.inside; second = c.in_ok-raw.ensures.inside; room = omega (arith, c.requires.room, g.vars_cost, k.vars_cost, wr) };
    }

pub returns : goal.returns
returns c =
    let wx : length c.args.xs.now ≡ 32 = omega arith in
    remainder-run c.args.xs.now c.args.ys.now c.in_ok-division.division.rest c.in_ok-raw.raw c.in_ok-out.out c.in_ok-division.division.nonzero
    c.args.builder.now c.signed_division.new.builder c.mask.new.builder c.negate.new.builder wx
    c.in_ok-division.ensures.circuit c.in_ok-division.ensures.nonzero c.in_ok-division.ensures.rest c.in_ok-raw.ensures.run c.in_ok-out.ensures.run
