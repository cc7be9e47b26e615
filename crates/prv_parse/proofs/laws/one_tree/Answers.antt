use Rattle.prv_parse.proofs.Parsed.{one-tree}
use Rattle.prv_parse.proofs.Sizes.{tree-small}
use Rattle.prv_parse.proofs.laws.one_tree.Goals as goal

pub returns : goal.returns
returns c = one-tree
