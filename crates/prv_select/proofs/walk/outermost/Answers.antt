use Rattle.std.proofs.Common.{ap, sym, ◌∙◌, true, false}
use Rattle.prv_dep.specs.declared.writes.Row.{Row}
use Rattle.prv_select.specs.declared.places.Place.{Place}
use Rattle.prv_select.specs.BackwardWalks.{is_relevant}
use Rattle.prv_select.proofs.Steps.{outward-none, outward-some}
use Rattle.prv_select.proofs.walk.outermost.Goals as goal
use Rattle.prv_select.proofs.walk.outermost.Goals.{in-None, in-Some, then-not-is_relevant, else-not-is_relevant}

pub loop-preserved : goal.loop-preserved
loop-preserved c =
    elim c.match-at.branch [
      | in-None w ↦ outward-none _ _ _ c.args.count c.loop.counter c.loop.at _ c.loop.found _ _ w.in-None.is w.at-is w.found-is c.loop.invariant
      | in-Some w ↦ elim w.if-not-is_relevant.branch [
        | then-not-is_relevant w' ↦ outward-some _ _ _ c.args.count c.loop.counter w.in-Some.stmt c.loop.at _ c.loop.found _ _ false c.loop-test.true w.in-Some.is
            (w.at-is ∙ ap (λ (p : Place). p.outer.nearest) w.place_of.ensures)
            (sym (w.is_relevant.ensures ∙ ap (λ (r : Row). is_relevant r c.args.needed) w.row.ensures) ∙ w'.if-not-is_relevant.true) (w.found-is ∙ w'.found-is) c.loop.invariant
        | else-not-is_relevant w' ↦ outward-some _ _ _ c.args.count c.loop.counter w.in-Some.stmt c.loop.at _ c.loop.found _ _ true c.loop-test.true w.in-Some.is
            (w.at-is ∙ ap (λ (p : Place). p.outer.nearest) w.place_of.ensures)
            (sym (w.is_relevant.ensures ∙ ap (λ (r : Row). is_relevant r c.args.needed) w.row.ensures) ∙ w'.if-not-is_relevant.false) (w.found-is ∙ w'.found-is) c.loop.invariant
      ]
    ]
