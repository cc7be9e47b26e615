use Rattle.std.proofs.Common.{subst, sym}
use Rattle.prv_region.specs.Numbers.{Renumbers}
use Rattle.prv_region.specs.declared.numbers.Renumbering.{Renumbering}
use Rattle.prv_region.proofs.NumberLemmas.{renumbers}
use Rattle.prv_pool.proofs.TableLemmas.{table-closed}
use Rattle.prv_region.proofs.numbers.node_in.Goals as goal

pub returns-clause-renumbers : goal.returns-clause-renumbers
returns-clause-renumbers c =
    let from = c.args.from.now.terms in
    let into = c.args.into.now.terms in
    let closed = table-closed c.args.into.now c.keeps_a_table.ensures in
    subst (λ (r : Renumbering). Renumbers from into c.args.numbers.now c.args.n r) (sym c.renumbered.ensures)
    (renumbers from into c.args.numbers.now c.args.n c.node.result closed c.requires.stands c.node.ensures.value c.node.ensures.before)
