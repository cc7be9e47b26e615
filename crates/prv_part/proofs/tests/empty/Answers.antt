use Rattle.std.proofs.Common.{List, None, pos, refl, sym, subst, lit<}
use Rattle.std.specs.Arc.{arc_value}
use Rattle.prv_model.specs.declared.term.Term.TheVariants.{Num}
use Rattle.prv_part.specs.Settlements.{finding, IsSettlement}
use Rattle.prv_part.specs.declared.part.Part.{Part}
use Rattle.prv_part.specs.declared.shape.Shape.TheVariants.{Empty}
use Rattle.prv_part.proofs.Settling.{empty-settled, one-short, zero-none, number-over}
use Rattle.prv_part.proofs.tests.empty.Goals as goal

pub empty-requires : goal.empty-requires
empty-requires c =
    let pair = arc_value c.args.pair in
    let region = c.in_ok-region.region in
    let P : List Part → Type 0 = λ parts. IsSettlement (finding pair 3 region None Empty parts 7) in
    let short = one-short region (Num (pos 0)) c.in_ok-region.ensures in
    subst P (sym c.in_ok-parts.ensures) (empty-settled pair 3 region 7 (λ x here. zero-none region x c.in_ok-region.ensures) short (lit< tt) (number-over pair.before.params region (pos 0) refl c.in_ok-region.ensures))
