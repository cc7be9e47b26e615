-- How the two versions of a pair compare on an input.
use Rattle.std.specs.Prelude.{Bool, true, false, ◌&&◌, ◌||◌, List, ℤ, if◌then◌else◌}
use Rattle.std.specs.Ordering.{int_eq}
use lib.Pointwise.{pointwise}
use Rattle.prv_model.specs.Outcomes.{outcome}
use Rattle.prv_model.specs.declared.outcome.Ending.{Ending}
use Rattle.prv_model.specs.declared.outcome.Ending.TheVariants.{Returned, Fault, Assert, Long}
use Rattle.prv_model.specs.declared.outcome.Outcome.{Outcome}
use Rattle.prv_model.specs.declared.program.Pair.{Pair}
use Rattle.prv_model.specs.declared.verdict.Verdict.{Verdict}
use Rattle.prv_model.specs.declared.verdict.Verdict.TheVariants.{Beyond, Same, Differ}

-- a run passed the bound on turns
abbrev pub is_long : Ending → Bool
is_long Long = true
is_long _ = false

-- two endings are one
abbrev pub ending_eq : Ending → Ending → Bool
ending_eq Returned Returned = true
ending_eq Fault Fault = true
ending_eq Assert Assert = true
ending_eq Long Long = true
ending_eq _ _ = false

-- two outcomes are one, as wholes
abbrev pub outcome_eq : Outcome → Outcome → Bool
outcome_eq a b = ending_eq a.how b.how && pointwise int_eq a.outs b.outs

-- two outcomes, compared
abbrev pub compare : Outcome → Outcome → Verdict
compare a b = if is_long a.how || is_long b.how then Beyond else if outcome_eq a b then Same else Differ

-- the outcomes of both versions on an input, compared
abbrev pub verdict : Pair → List ℤ → Verdict
verdict pair x = compare (outcome pair.before pair.turns x) (outcome pair.after pair.turns x)
