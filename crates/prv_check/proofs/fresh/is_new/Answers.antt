use Rattle.std.proofs.Common.{◌≡◌, ◌<◌, true, length, List, sym, subst, ◌∙◌}
use Rattle.std.specs.List.{All}
use Rattle.prv_cnf.specs.declared.literal.Lit.{Lit}
use Rattle.prv_cnf.specs.Places.{place_of}
use Rattle.prv_check.specs.Inner.Tables.{are_flagged}
use Rattle.prv_check.proofs.Placing.{within_places, all_have_places}
use Rattle.prv_check.proofs.fresh.is_new.Goals as goal

pub show-requires : goal.show-requires
show-requires c =
    let P : List Lit → Type 0 = λ ls. All (λ l. place_of l < length c.args.seen.now) ls in
    subst P (sym (c.lits-lits.ensures ∙ c.clause.ensures))
    (within_places c.args.cnf.now.vars (length c.args.seen.now) c.args.line.now.clause c.requires.within c.requires.table)

pub contains_indexed-requires-clause-occur : goal.contains_indexed-requires-clause-occur
contains_indexed-requires-clause-occur c =
    let P : List Lit → Type 0 = λ ls. are_flagged c.args.index.now.occurs ls ≡ true in
    subst P (sym (c.lits-lits.ensures ∙ c.clause.ensures))
    (all_have_places c.args.line.now.clause c.args.index.now.occurs
    (within_places c.args.cnf.now.vars (length c.args.index.now.occurs) c.args.line.now.clause c.requires.within c.requires.places) c.requires.occur)
