use Rattle.std.proofs.Common.{◌≡◌, true, [], sym, ◌∙◌}
use Rattle.prv_cnf.specs.Literals.{has_literal}
use Rattle.prv_cnf.proofs.Values.{all-has_literal}
use Rattle.prv_check.specs.Lines.{known, is_within}
use Rattle.prv_propagate.specs.Trails.{trues}
use Rattle.prv_propagate.specs.Reasons.{clause_of, is_satisfied, is_falsified}
use Rattle.prv_propagate.proofs.Guarding.{satisfied_from}
use Rattle.prv_sat.proofs.Searching.{formula_clause, formula_inside, not_falsified, unsatisfied, if_none_from}
use Rattle.prv_sat.proofs.search.satisfy.Goals as goal

pub returns-in_default-clause-satisfied : goal.returns-in_default-clause-satisfied
returns-in_default-clause-satisfied c =
    let f = c.args.cnf.now in
    let s = c.args.state.now in
    let cs = known f s.lines.items in
    let same = formula_clause f s.lines.items c.args.number c.requires.inside in
    let open_none : is_falsified (trues s.trail.steps) (clause_of (known f []) c.args.number) ≡ true = rw c.clause_at-lits.ensures at c.in_default.ensures.none in
    let falsified : is_falsified (trues s.trail.steps) (clause_of cs c.args.number) ≡ true = rw same open_none in
    rw (← same) (not_falsified cs s.trail s.watches c.args.number c.requires.ready.state.sound c.requires.ready.propagated (formula_inside f s.lines.items c.args.number c.requires.inside) falsified)

pub decide-requires-clause-within : goal.decide-requires-clause-within
decide-requires-clause-within c =
    let f = c.args.cnf.now in
    let s = c.args.state.now in
    let cs = known f s.lines.items in
    let same = formula_clause f s.lines.items c.args.number c.requires.inside in
    let here : has_literal (clause_of (known f []) c.args.number) c.in-Some.lit ≡ true = rw c.clause_at-lits.ensures at c.in-Some.ensures.some.0 in
    let there : has_literal (clause_of cs c.args.number) c.in-Some.lit ≡ true = rw same here in
    all-has_literal (is_within s.trail.vars) (clause_of cs c.args.number) c.in-Some.lit (c.requires.ready.state.sound.within c.args.number (formula_inside f s.lines.items c.args.number c.requires.inside)) there

pub decide-requires-clause-not_true : goal.decide-requires-clause-not_true
decide-requires-clause-not_true c =
    unsatisfied (trues c.args.state.now.trail.steps) c.clause_at-lits.result.now c.in-Some.lit (sym c.is_true.ensures ∙ c.if-is_true.false) c.in-Some.ensures.some.0

pub returns-clause-satisfied : goal.returns-clause-satisfied
returns-clause-satisfied c =
    let f = c.args.cnf.now in
    let here : has_literal (clause_of (known f []) c.args.number) c.in-Some.lit ≡ true = rw c.clause_at-lits.ensures at c.in-Some.ensures.some.0 in
    if_none_from c.in_ok-conflict.conflict (is_satisfied (trues c.decide.new.state.trail.steps) (clause_of (known f []) c.args.number) ≡ true) (satisfied_from (trues c.decide.new.state.trail.steps) (clause_of (known f []) c.args.number) c.in-Some.lit here c.in_ok-conflict.ensures.decided)
