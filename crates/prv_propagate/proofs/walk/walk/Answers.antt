use Rattle.std.proofs.Common.{◌≡◌, ◌-◌, length, sym, ap, ◌∙◌, refl, arith}
use Rattle.prv_cnf.specs.declared.literal.Lit.{Lit}
use Rattle.prv_check.specs.Lines.{known}
use Rattle.prv_propagate.specs.Trails.{step_at}
use Rattle.prv_propagate.specs.Watching.{watches_of}
use Rattle.prv_propagate.specs.Walking.{IsWalk, false_by}
use Rattle.prv_propagate.proofs.Tabling.{within_at, within_parts}
use Rattle.prv_propagate.proofs.Walking.{walk_none, walk_skipped, walk_all}
use Rattle.prv_propagate.proofs.Extending.{extended_none, extended_more, extended_by}
use Rattle.prv_propagate.proofs.walk.walk.Goals as goal

pub negated-lit-requires : goal.negated-lit-requires
negated-lit-requires c =
    let t = c.args.trail.now in
    rw c.steps.ensures.value (omega (arith, c.steps.ensures.small, within_parts t.vars (step_at t.steps c.args.from).lit (within_at t.vars t.steps c.args.from c.steps.ensures.assigned.within c.requires.inside)))

pub loop-at-init : goal.loop-at-init
loop-at-init c =
    let cs = known c.args.cnf.now c.args.lines.now in
    let t = c.args.trail.now in
    let w = c.args.watches.now in
    let e : c.negated-lit.result ≡ false_by t.steps c.args.from = rw c.steps.ensures.value at c.negated-lit.ensures in
    let ws : c.list-list.result.now ≡ watches_of w (false_by t.steps c.args.from) = c.list-list.ensures ∙ ap (λ (l : Lit). watches_of w l) e in
    record {
      walk = walk_skipped cs t w c.args.from (length (watches_of w (false_by t.steps c.args.from))) c.next_open-at.result (walk_none cs t w c.args.from c.requires.sound c.requires.inside c.requires.before) (rw ws at c.next_open-at.ensures.bound) (rw ws at c.next_open-at.ensures.skipped);
      extended = extended_none t.steps;
      vars = refl;
      lit = e;
    }

pub loop-at-preserved : goal.loop-at-preserved
loop-at-preserved c =
    let cs = known c.args.cnf.now c.args.lines.now in
    let old = c.loop-at.trail in
    let t = c.visit.new.trail in
    let w = c.visit.new.watches in
    let invariant = c.loop-at.invariant in
    let e : c.negated-lit.result ≡ false_by t.steps c.args.from = invariant.lit ∙ sym (extended_by old.steps t.steps c.args.from c.in_ok-conflict.ensures.extended invariant.walk.inside) in
    let ws : c.list.result.now ≡ watches_of w (false_by t.steps c.args.from) = c.list.ensures ∙ ap (λ (l : Lit). watches_of w l) e in
    let walk : IsWalk cs c.args.from t w (c.loop-at.at - 1) = rw c.in_default.is at c.in_ok-conflict.ensures.walk in
    record {
      walk = walk_skipped cs t w c.args.from (c.loop-at.at - 1) c.next_open-at-in-loop-at.result walk c.next_open-at-in-loop-at.ensures.bound (rw ws at c.next_open-at-in-loop-at.ensures.skipped);
      extended = extended_more c.args.trail.now.steps old.steps t.steps invariant.extended c.in_ok-conflict.ensures.extended;
      vars = c.in_ok-conflict.ensures.vars ∙ invariant.vars;
      lit = e;
    }

pub returns-clause-spread : goal.returns-clause-spread
returns-clause-spread c =
    walk_all (known c.args.cnf.now c.args.lines.now) c.args.from c.loop-at.trail c.loop-at.watches c.loop-at.at c.loop-at.invariant.walk (omega arith)
