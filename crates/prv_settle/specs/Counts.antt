-- What is counted before a region is settled by the runs at one of its inputs.
use Rattle.std.specs.Prelude.{ℕ, nat_lt, Bool, ◌||◌, List, ◌++◌, length, ℤ}
use Rattle.prv_model.specs.Comparison.{is_long}
use Rattle.prv_model.specs.declared.program.Pair.{Pair}
use Rattle.prv_model.specs.declared.term.Term.{Term}
use Rattle.prv_blast.specs.Subterms.{subterms}
use Rattle.prv_general.specs.Slices.{Slice, slice_named}
use Rattle.prv_part.specs.Literals.{slice_before, slice_after, equality_named}
use Rattle.prv_settle.specs.declared.limits.TheConstants.{MAX_NODES}

-- which terms are named, in order: the region's, those of both slices, and those of their equality
abbrev pub named : Pair → List Term → List ℤ → List Term
named pair region t =
    region ++ (slice_named pair.before pair.turns t ++ (slice_named pair.after pair.turns t ++ equality_named (slice_before pair t) (slice_after pair t)))

-- how many distinct terms these are, with their subterms
abbrev pub node_count : Pair → List Term → List ℤ → ℕ
node_count pair region t = length (subterms (named pair region t))

-- they are more than one settlement may have
abbrev pub is_wide : Pair → List Term → List ℤ → Bool
is_wide pair region t = nat_lt MAX_NODES (node_count pair region t)

-- a slice has more literals than it may have
abbrev pub is_over : Slice → Bool
is_over s = nat_lt 1024 (length s.literals)

abbrev pub has_many_literals : Pair → List ℤ → Bool
has_many_literals pair t = is_over (slice_before pair t) || is_over (slice_after pair t)

-- a version passes the bound on turns
abbrev pub is_beyond : Pair → List ℤ → Bool
is_beyond pair t = is_long (slice_before pair t).how || is_long (slice_after pair t).how
