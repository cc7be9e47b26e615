use Rattle.std.proofs.Common.{sym, ap, ◌∙◌}
use Rattle.std.specs.Str.{bytes_eq}
use Rattle.prv_names.specs.Scopes.{has}
use Rattle.prv_names.proofs.KeyLemmas.{list_any-map}
use Rattle.prv_names.proofs.names.Names.has.Goals as goal

pub returns : goal.returns
returns c =
    let x = c.args.name.now in
    rw (← c.self.view_is) ((rw c.as_bytes.ensures at c.contains.ensures)
    ∙ sym (list_any-map (bytes_eq x) (λ k. k.items) c.self.inside.index.keys)
    ∙ ap (has x) c.self.invariant.0)
