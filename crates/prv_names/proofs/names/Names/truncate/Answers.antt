use Rattle.std.proofs.Common.{sym, ap, ◌∙◌, map, take, arith}
use Rattle.std.proofs.lemmas.List.{take-map}
use Rattle.prv_names.proofs.names.Names.truncate.Goals as goal

pub invariant_of-self : goal.invariant_of-self
invariant_of-self c = (
  ap (map (λ k. k.items)) c.truncate.ensures.keys
      ∙ sym (take-map (λ k. k.items) c.args.n c.self.inside.index.keys)
      ∙ ap (take c.args.n) c.self.invariant.0
      ∙ sym c.truncate-2.ensures.items,
  omega arith,
)
