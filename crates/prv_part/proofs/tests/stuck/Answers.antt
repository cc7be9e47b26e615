use Rattle.std.proofs.Common.{List, None, pos, refl, sym, subst, lit<}
use Rattle.std.specs.Arc.{arc_value}
use Rattle.prv_model.specs.declared.term.Term.TheVariants.{Num}
use Rattle.prv_model.specs.declared.entry.Reason.TheVariants.{Wide}
use Rattle.prv_part.specs.Settlements.{finding, IsSettlement}
use Rattle.prv_part.specs.declared.part.Part.{Part}
use Rattle.prv_part.specs.declared.shape.Shape.TheVariants.{Stuck}
use Rattle.prv_part.proofs.Settling.{stuck-settled, one-short, number-over}
use Rattle.prv_part.proofs.tests.stuck.Goals as goal

pub stuck-requires : goal.stuck-requires
stuck-requires c =
    let pair = arc_value c.args.pair in
    let region = c.in_ok-region.region in
    let P : List Part → Type 0 = λ parts. IsSettlement (finding pair 5 region None Stuck parts 9) in
    let short = one-short region (Num (pos 1)) c.in_ok-region.ensures in
    subst P (sym c.in_ok-parts.ensures) (stuck-settled pair 5 region Wide 9 short (lit< tt) (number-over pair.before.params region (pos 1) refl c.in_ok-region.ensures))
