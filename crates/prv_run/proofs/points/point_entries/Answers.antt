use Rattle.std.proofs.Common.{◌≡◌, List, sym, subst}
use Rattle.prv_model.specs.Comparison.{verdict}
use Rattle.prv_model.specs.Boards.{IsInput, IsLegal, FirstHoldsOnly}
use Rattle.prv_model.specs.declared.entry.Entry.{Entry}
use Rattle.prv_run.specs.Points.{point}
use Rattle.prv_run.proofs.PointLaws.{point-legal, point-first}
use Rattle.prv_run.proofs.points.point_entries.Goals as goal

pub returns-clause-legal : goal.returns-clause-legal
returns-clause-legal c =
    let pair = c.args.pair.now in
    let x = c.args.input.now in
    let list : c.in_ok-entries.entries.items ≡ point (verdict pair x) x = cc (c.in_ok-entries.ensures, c.compare.ensures, c.in_ok-before.ensures, c.in_ok-after.ensures) in
    let here : IsInput pair.before.params x = record { long = c.requires; words = c.as_slice-words.ensures.words } in
    subst (λ (all : List Entry). IsLegal pair all) (sym list) (point-legal pair x here)

pub returns-clause-first : goal.returns-clause-first
returns-clause-first c =
    let pair = c.args.pair.now in
    let x = c.args.input.now in
    let here : IsInput pair.before.params x = record { long = c.requires; words = c.as_slice-words.ensures.words } in
    subst (λ (all : List Entry). FirstHoldsOnly pair.before.params all x) (sym c.in_ok-entries.ensures) (point-first pair.before.params c.compare.result x here)
