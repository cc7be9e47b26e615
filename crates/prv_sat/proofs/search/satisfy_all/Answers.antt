use Rattle.std.proofs.Common.{◌≡◌, ◌∙◌, [], length, true}
use Rattle.prv_check.specs.Lines.{known}
use Rattle.prv_propagate.specs.Trails.{trues}
use Rattle.prv_propagate.specs.Reasons.{clause_of, is_satisfied}
use Rattle.prv_sat.specs.States.{IsReady}
use Rattle.prv_sat.proofs.Searching.{satisfied_more}
use Rattle.prv_sat.proofs.search.satisfy_all.Goals as goal

pub loop-number-preserved : goal.loop-number-preserved
loop-number-preserved c =
    let f = c.args.cnf.now in
    let old = c.loop-number.state in
    let new = c.satisfy.new.state in
    let spread : IsReady f old.lines.items new.trail new.watches (length new.trail.steps) × (length new.trail.steps ≡ length new.trail.steps) = rw c.in_default.is at c.in_ok-conflict.ensures.spread in
    let ready : IsReady f c.args.state.now.lines.items new.trail new.watches (length new.trail.steps) = rw c.loop-number.invariant.lines at spread.0 in
    let here : is_satisfied (trues new.trail.steps) (clause_of (known f []) c.loop-number.number) ≡ true = rw c.in_default.is at c.in_ok-conflict.ensures.satisfied in
    record {
      ready = ready;
      lines = c.in_ok-conflict.ensures.lines ∙ c.loop-number.invariant.lines;
      satisfied = satisfied_more (known f []) c.loop-number.number old.trail.steps new.trail.steps c.in_ok-conflict.ensures.extended c.loop-number.invariant.satisfied here;
    }
