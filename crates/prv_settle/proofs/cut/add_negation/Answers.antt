use Rattle.prv_settle.proofs.NodeLists.{made-grown, made-nodes, made-terms}
use Rattle.prv_settle.proofs.cut.add_negation.Goals as goal

pub returns : goal.returns
returns c = record {
  grows = made-grown _ _ _ _ c.in_ok-made.ensures.makes;
  nodes = made-nodes _ _ _ _ _ _ c.in_ok-made.ensures.makes c.requires.nodes c.in_ok-push.ensures;
  terms = made-terms _ _ _ _ _ _ c.in_ok-made.ensures.makes c.requires.nodes c.in_ok-push.ensures;
  few = c.in_ok-made.ensures.few;
  limit = c.in_ok-made.ensures.makes.limit;
}
