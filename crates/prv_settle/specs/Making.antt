-- What the calls that settle a region make: the runs at an input, the partition, and the parts.
use Rattle.std.specs.Prelude.{◌≡◌, ℕ, ◌<◌, nat_eq, Bool, false, not, slice_index_or, List, ◌++◌, length, take, drop, map, ℤ, All, if◌then◌else◌}
use Rattle.std.specs.List.{list_any}
use Rattle.prv_model.specs.Outcomes.{outcome}
use Rattle.prv_model.specs.declared.entry.Kind.{Kind}
use Rattle.prv_model.specs.declared.entry.Kind.TheVariants as k
use Rattle.prv_model.specs.declared.program.Pair.{Pair}
use Rattle.prv_model.specs.declared.term.Term.{Term}
use Rattle.prv_pool.specs.Folding.{negation}
use Rattle.prv_region.specs.Regions.{IsRegion}
use Rattle.prv_pool.specs.Tables.{Table}
use Rattle.prv_blast.specs.Subterms.{subterms}
use Rattle.prv_sym.specs.Calls.{AllStand, StandsFor}
use Rattle.prv_general.specs.Answers.{IsSlice, terms_at}
use Rattle.prv_part.specs.Literals.{slice_before, slice_after, equality, pair_marks}
use Rattle.prv_part.specs.Parts.{rests, unmarked, partition}
use Rattle.prv_part.specs.declared.part.Part.{Part}
use Rattle.prv_record.specs.declared.raw.RawOther.{RawOther}
use Rattle.prv_record.specs.declared.raw.RawOther.TheVariants as o
use Rattle.prv_settle.specs.declared.cut.Cut.{Cut}
use Rattle.prv_settle.specs.declared.runs.Runs.{Runs}

-- numbers of nodes of a table
abbrev pub AreNodes : List Term → List ℕ → Type 0
AreNodes terms nodes = All (λ n. n < length terms) nodes

-- of the numbers below a length, those of some nodes are marked, and no others
pub record AreMarked (has : List Bool) (nodes : List ℕ) : Type 0 where
  pub at : (k : ℕ) → k < length has → slice_index_or has k false ≡ list_any (nat_eq k) nodes

-- some numbers are those of nodes of a table that a region may have, and the table has their terms with their subterms alone
pub record AreTerms (terms : List Term) (nodes : List ℕ) : Type 0 where
  pub region : IsRegion terms nodes
  pub alone : terms ≡ subterms (terms_at terms nodes)

-- the nodes of a table are those of a region, of both slices at an input, and of their equality, and the slices carry what both versions do there
pub record AreRuns (pair : Pair) (region : List Term) (t : List ℤ) (table : Table) (made : Runs) : Type 0 where
  pub region_is : AllStand table.terms made.region region
  pub before_is : IsSlice table.terms made.before (slice_before pair t)
  pub after_is : IsSlice table.terms made.after (slice_after pair t)
  pub equality_is : StandsFor table.terms made.equality (equality (slice_before pair t) (slice_after pair t))
  pub before_outcome : made.before.outcome ≡ outcome pair.before pair.turns t
  pub after_outcome : made.after.outcome ≡ outcome pair.after pair.turns t

-- the nodes of the partition of an input, the region's first, and the marks of both slices
pub record IsCut (pair : Pair) (region : List Term) (t : List ℤ) (cut : Cut) : Type 0 where
  pub long : cut.region ≡ length region
  pub nodes : AreNodes cut.pool.terms cut.partition.items
  pub partition_is : terms_at cut.pool.terms cut.partition.items ≡ partition pair region t
  pub marks_are : cut.marks.items ≡ pair_marks pair t

-- Same where the versions agree, else Different with a sample
abbrev pub claimed : Bool → List ℤ → Kind
claimed agree x = if agree then k.Same else k.Different x

-- the second part of a split, where the versions agree at the input that was run or don't
abbrev pub second_of : Bool → RawOther → List ℕ → List Term → Part
second_of agree (o.Member x) marks region = record { region = region; kind = claimed (not agree) x; marks = marks }
second_of agree (o.Reason why) marks region = unmarked (k.Undecided why) region
second_of agree o.None marks region = unmarked k.Unexplored region

-- the terms of a partition, some more, and the negations of its literals, which are those behind the region's
abbrev pub with_negations : ℕ → List Term → List Term → List Term
with_negations region partition more = partition ++ (more ++ map negation (drop region partition))

-- some parts, and the rests of a partition's literals
abbrev pub parts_from : ℕ → List Term → List Part → List Part
parts_from region partition front = front ++ map (unmarked k.Unexplored) (rests (take region partition) (drop region partition))
