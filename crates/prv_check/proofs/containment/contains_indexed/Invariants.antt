use Rattle.std.proofs.Common.{◌≡◌, ℕ, ◌<◌, false, [], get_or}
use Rattle.std.specs.Prelude.{slice_index_or}
use Rattle.std.specs.List.{list_any}
use Rattle.prv_cnf.specs.declared.literal.Lit.{Lit}
use Rattle.prv_check.specs.Lines.{known}
use Rattle.prv_cnf.specs.Places.{place_of}
use Rattle.prv_check.specs.Freshness.{contains_clause}
use Rattle.prv_check.proofs.containment.contains_indexed.Given as goal

abbrev pub invariant-loop-lit : goal.invariant-loop-lit
invariant-loop-lit l =
    (j : ℕ) (d : Lit) → j < l.lit-index →
    list_any (λ e. contains_clause l.lits (slice_index_or (known l.cnf l.earlier) e.number [])) (slice_index_or l.index.lists (place_of (get_or l.lits j d)) []) ≡ false
