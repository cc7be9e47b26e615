use Rattle.std.proofs.Common.{sym, ap, ◌∙◌, position, List, ℕ}
use Rattle.std.specs.Str.{bytes_eq}
use Rattle.prv_names.proofs.KeyLemmas.{position-map}
use Rattle.prv_names.proofs.names.Names.number_of.Goals as goal

pub returns : goal.returns
returns c =
    let x = c.args.name.now in
    rw (← c.self.view_is) ((rw c.as_bytes.ensures at c.get_index_of.ensures.index)
    ∙ sym (position-map (bytes_eq x) (λ k. k.items) c.self.inside.index.keys)
    ∙ ap (λ (names : List (List ℕ)). position (bytes_eq x) names) c.self.invariant.0)
