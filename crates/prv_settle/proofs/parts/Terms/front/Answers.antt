use Rattle.std.proofs.Common.{◌≡◌, List, take, ◌∙◌}
use Rattle.std.proofs.lemmas.Result.{IfOk-weaker}
use Rattle.prv_model.specs.declared.term.Term.{Term}
use Rattle.prv_settle.proofs.NodeLists.{front-terms}
use Rattle.prv_settle.proofs.parts.Terms.front.Goals as goal

pub returns : goal.returns
returns c =
    IfOk-weaker c.region_of.result _ (λ (region : List Term). region ≡ take c.args.count c.args.self.now)
    (λ region is. is ∙ front-terms _ c.args.self.now c.self.inside.nodes c.roots.result.now c.in_ok-nodes.nodes.items c.args.count c.roots.ensures c.self.view_is c.in_ok-nodes.ensures.items) c.region_of.ensures
