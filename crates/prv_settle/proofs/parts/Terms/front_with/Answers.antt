use Rattle.std.proofs.Common.{◌≡◌, List, [], ◌∷◌, ◌++◌, take, ◌∙◌}
use Rattle.std.proofs.lemmas.Result.{IfOk-weaker}
use Rattle.prv_model.specs.declared.term.Term.{Term}
use Rattle.prv_pool.specs.Tables.{term_at}
use Rattle.prv_settle.proofs.NodeLists.{last-terms}
use Rattle.prv_settle.proofs.parts.Terms.front_with.Goals as goal

pub returns : goal.returns
returns c =
    IfOk-weaker c.region_of.result _ (λ (region : List Term). region ≡ take c.args.count c.args.self.now ++ term_at c.args.self.now c.args.last ∷ [])
    (λ region is. is ∙ last-terms _ c.args.self.now c.self.inside.nodes c.roots-roots.result.now c.in_ok-nodes.nodes.items c.args.count c.args.last c.roots-roots.ensures c.self.view_is c.requires.last c.in_ok-nodes.ensures) c.region_of.ensures
