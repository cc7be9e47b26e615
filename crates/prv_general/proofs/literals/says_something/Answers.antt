use Rattle.std.proofs.Common.{Bool, not, sym, ap, ◌∙◌}
use Rattle.prv_general.proofs.Standing.{node-says}
use Rattle.prv_general.proofs.literals.says_something.Goals as goal

pub returns : goal.returns
returns c = λ terms. ap (λ (b : Bool). not b) c.is_one.ensures ∙ sym (node-says terms c.args.node)
