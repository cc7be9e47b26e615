use Rattle.std.proofs.Common.{subst}
use Rattle.prv_model.specs.declared.term.Term.{Term}
use Rattle.prv_pool.specs.Tables.{Makes}
use Rattle.prv_pool.proofs.NodeLemmas.{term_at-some}
use Rattle.prv_pool.proofs.MakeLemmas.{makes-added}
use Rattle.prv_pool.proofs.pool.Pool.intern.Goals as goal

pub returns-in-Some : goal.returns-in-Some
returns-in-Some c =
    subst (λ (t : Term). Makes t c.args.self.now c.args.self.now c.known.result) (term_at-some c.args.self.now.terms c.in-Some.n _ c.in-Some.ensures.found) c.known.ensures

pub returns-in-None : goal.returns-in-None
returns-in-None c =
    makes-added c.args.node c.args.self.now c.add.new.self c.add.result c.requires.below c.in-None.ensures.absent c.add.ensures.number c.add.ensures.grows c.add.ensures.limit c.add.ensures.refused c.add.ensures.wide
