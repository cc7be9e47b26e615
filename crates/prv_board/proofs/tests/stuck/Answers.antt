use Rattle.std.proofs.Common.{◌≡◌, List, [], length, None, sym, ap, subst, lit<, arith}
use Rattle.std.specs.Arc.{arc_value}
use Rattle.prv_model.specs.declared.term.Term.{Term}
use Rattle.prv_model.specs.declared.entry.Reason.TheVariants.{Wide}
use Rattle.prv_part.specs.Parts.{IsOver}
use Rattle.prv_part.specs.Settlements.{finding, IsSettlement}
use Rattle.prv_part.specs.declared.part.Part.{Part}
use Rattle.prv_part.specs.declared.shape.Shape.TheVariants.{Stuck}
use Rattle.prv_part.proofs.Settling.{stuck-settled}
use Rattle.prv_board.proofs.tests.stuck.Goals as goal

pub stuck-requires : goal.stuck-requires
stuck-requires c =
    let pair = arc_value c.args.pair in
    let region = c.in_ok-region.region in
    let P : List Part → Type 0 = λ parts. IsSettlement (finding pair 0 region None Stuck parts 3) in
    let Q : List Term → Type 0 = λ r. IsOver pair.before.params r in
    let none : length region ≡ 0 = ap (λ (r : List Term). length r) c.in_ok-region.ensures in
    subst P (sym c.in_ok-parts.ensures) (stuck-settled pair 0 region Wide 3 (omega arith) (lit< tt) (subst Q (sym c.in_ok-region.ensures) tt))
