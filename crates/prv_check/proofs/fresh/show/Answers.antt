use Rattle.std.proofs.Common.{length, refl, ◌∙◌}
use Rattle.std.specs.Prelude.{false}
use Rattle.std.proofs.lemmas.List.{length-replicate}
use Rattle.prv_check.proofs.Placing.{nothing_flagged, is_table}
use Rattle.prv_check.proofs.fresh.show.Goals as goal

pub returns-clause-shown : goal.returns-clause-shown
returns-clause-shown c =
    is_table (length c.args.seen.now) c.args.lits.now c.flag_all.new.flags c.requires
    (λ l. c.flag_all.ensures.flagged l ∙ (rw (c.clear.ensures, nothing_flagged (length c.args.seen.now) l, length-replicate (length c.args.seen.now) false) refl))
