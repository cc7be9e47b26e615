use Rattle.std.proofs.Common.{◌∙◌, sym, ap, subst, map, All, List, ℕ, ◌<◌, length}
use Rattle.prv_pool.specs.Tables.{term_at}
use Rattle.prv_region.proofs.CopyLemmas.{copied-terms}
use Rattle.prv_region.proofs.region.Region.copy_into.Goals as goal

pub returns-in-Ok-new-clause-stands : goal.returns-in-Ok-new-clause-stands
returns-in-Ok-new-clause-stands c =
    let us = c.copy_roots.new.into.terms in
    let is = rw c.in-Ok-new.ensures.ok at c.new-in-Ok-new.ensures in
    ap (map (term_at us)) is ∙ (copied-terms us _ _ c.in-Ok.ensures.copied).0 ∙ sym c.parts-parts.ensures.value

pub returns-in-Ok-new-clause-within : goal.returns-in-Ok-new-clause-within
returns-in-Ok-new-clause-within c =
    let us = c.copy_roots.new.into.terms in
    let is = rw c.in-Ok-new.ensures.ok at c.new-in-Ok-new.ensures in
    subst (λ (ns : List ℕ). All (λ n. n < length us) ns) (sym is) (copied-terms us _ _ c.in-Ok.ensures.copied).1
