use Rattle.std.proofs.Common.{ℕ, List, length, sym, subst, ◌∙◌}
use Rattle.prv_cnf.specs.declared.literal.Lit.{Lit}
use Rattle.prv_check.specs.Lines.{known}
use Rattle.prv_check.specs.Inner.Indexing.{IsIndex, IsListed}
use Rattle.prv_check.proofs.Refuting.{known_more}
use Rattle.prv_check.proofs.Subsuming.{index_more, listed_occurs}
use Rattle.prv_check.proofs.fresh.index_line.Goals as goal

pub returns-clause-index : goal.returns-clause-index
returns-clause-index c =
    let cs : List (List Lit) = known c.args.cnf.now c.args.earlier.now in
    let clause : List Lit = c.args.line.now.clause in
    let P : List Lit → Type 0 = λ x. IsListed x c.known_count.result c.args.index.now c.add.new.self in
    let Q : ℕ → Type 0 = λ n. IsListed clause n c.args.index.now c.add.new.self in
    let listed : IsListed clause (length cs) c.args.index.now c.add.new.self =
    subst Q c.known_count.ensures (subst P (c.lits.ensures ∙ c.clause.ensures) c.in_ok-add.ensures) in
    let R : List (List Lit) → Type 0 = λ ds. IsIndex ds c.add.new.self in
    subst R (sym (known_more c.args.cnf.now c.args.earlier.now c.args.line.now)) (index_more cs clause c.args.index.now c.add.new.self c.requires listed)

pub returns-clause-occurs : goal.returns-clause-occurs
returns-clause-occurs c =
    listed_occurs c.lits.result.now c.known_count.result c.args.index.now c.add.new.self c.in_ok-add.ensures
