use Rattle.std.proofs.Common.{◌≡◌, true, reverse, arith}
use Rattle.std.specs.List.{list_all}
use Rattle.prv_cnf.specs.Literals.{negate, has_literal}
use Rattle.prv_check.specs.Lines.{is_within}
use Rattle.prv_propagate.specs.Trails.{step_at}
use Rattle.prv_propagate.proofs.Tabling.{within_at, within_parts}
use Rattle.prv_sat.specs.Analyses.{IsReach}
use Rattle.prv_sat.proofs.Learning.{learnt_clause_from, point_fewer, line_of}
use Rattle.prv_sat.proofs.learn.line_at.Goals as goal

pub negated-requires : goal.negated-requires
negated-requires c =
    let t = c.args.trail.now in
    rw c.steps.ensures.value (omega (arith, c.steps.ensures.small, within_parts t.vars (step_at t.steps c.args.point.at).lit (within_at t.vars t.steps c.args.point.at c.steps.ensures.assigned.within c.requires.point.inside)))

pub returns-clause-concluded : goal.returns-clause-concluded
returns-clause-concluded c =
    let f = c.args.cnf.now in
    let t = c.args.trail.now in
    let marked = c.minimize.new.marks.marked in
    let hints = reverse c.minimize.new.hints.items in
    let uip = (step_at t.steps c.args.point.at).lit in
    let line : c.new.result ≡ line_of marked hints = rw (c.from_vec-clause.ensures, c.in_ok-lits.ensures.lits, c.reversed.ensures) at c.new.ensures in
    let lit : c.negated.result ≡ negate uip = rw c.steps.ensures.value at c.negated.ensures in
    let here : has_literal marked uip ≡ true = rw c.steps.ensures.value at c.in_ok-minimize.ensures.marked in
    let point = point_fewer t.steps c.args.marks.now.marked marked c.args.point c.requires.point c.in_ok-minimize.ensures.fewer here in
    let reached : IsReach t.steps marked uip c.reach-keep.result = rw c.steps.ensures.value at c.reach-keep.ensures in
    let inside : list_all (is_within f.vars) marked ≡ true = rw (c.in_ok-minimize.ensures.vars, c.requires.vars, c.requires.formula) at c.in_ok-lits.ensures.within in
    rw (line, lit) (learnt_clause_from f c.args.lines.now t marked hints c.args.point c.reach-keep.result c.steps.ensures.assigned c.requires.formula c.in_ok-minimize.ensures.derived c.requires.decisions point reached c.in_ok-lits.ensures.once inside)
