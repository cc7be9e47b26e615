-- What the analysis of a conflict keeps true.
use Rattle.std.specs.Prelude.{Option, None, ◌≡◌, ℕ, ◌+◌, ◌<◌, ◌≤◌, ◌⊎◌, nat_lt, true, false, List, [], length, take, MatchOption}
use Rattle.std.specs.List.{list_all}
use Rattle.prv_cnf.specs.declared.literal.Lit.{Lit}
use Rattle.prv_cnf.specs.Literals.{negate, same_literal, has_literal}
use Rattle.prv_check.specs.Propagation.{hints_fault}
use Rattle.prv_check.specs.Lines.{clauses_at, is_empty}
use Rattle.prv_check.specs.Freshness.{stands_in, units_used}
use Rattle.prv_check.specs.Spending.{are_distinct}
use Rattle.prv_propagate.specs.declared.trail.Step.{Step}
use Rattle.prv_propagate.specs.declared.watches.Pair.{Pair}
use Rattle.prv_propagate.specs.Trails.{trues, step_at, EachStep, IsDecision}
use Rattle.prv_propagate.specs.Reasons.{clause_of, is_satisfied}
use Rattle.prv_propagate.specs.Guards.{is_free}
use Rattle.prv_sat.specs.declared.analysis.UniquePoint.{UniquePoint}

-- each literal of one list stands in another
abbrev pub IsPartOf : List Lit → List Lit → Type 0
IsPartOf xs ys = (l : Lit) → has_literal xs l ≡ true → has_literal ys l ≡ true

-- the marked literals, which stand in a bound, imply a conflict: wherever they are true, among the
-- true literals, the hints end in it, and each is used; none has a literal of the bound
pub record IsDerived (cs : List (List Lit)) (trues bound marked : List Lit) (hints : List ℕ) : Type 0 where
  pub known : list_all (λ n. nat_lt n (length cs)) hints ≡ true
  pub some : is_empty hints ≡ false
  pub inside : IsPartOf marked bound
  pub bounded : IsPartOf bound trues
  pub ends : (ts : List Lit) → IsPartOf marked ts → IsPartOf ts trues → (hints_fault ts (clauses_at cs hints) ≡ None) × (units_used ts (clauses_at cs hints) ≡ true)
  pub used : (l : Lit) → has_literal marked l ≡ true → stands_in (clauses_at cs hints) (negate l) ≡ true
  pub apart : (l : Lit) → has_literal bound l ≡ true → stands_in (clauses_at cs hints) l ≡ false
  pub distinct : are_distinct hints ≡ true

-- a unique implication point: a marked step at or after a decision, so that the other marked literals
-- stand before that
pub record IsUniquePoint (steps : List Step) (marked : List Lit) (point : UniquePoint) : Type 0 where
  pub inside : point.at < length steps
  pub marked_there : has_literal marked (step_at steps point.at).lit ≡ true
  pub base : point.base ≤ point.at
  pub decision : IsDecision (step_at steps point.base)
  pub others : (l : Lit) → has_literal marked l ≡ true → (l ≡ (step_at steps point.at).lit) ⊎ (has_literal (trues (take point.base steps)) l ≡ true)

-- the analysis ends where nothing is marked any more, or at a unique implication point
abbrev pub IsAnalyzed : List (List Lit) → List Step → List Lit → List ℕ → Option UniquePoint → Type 0
IsAnalyzed cs steps marked hints found =
    MatchOption found (IsDerived cs (trues steps) [] marked hints) (λ point. IsDerived cs (trues steps) marked marked hints × IsUniquePoint steps marked point)

-- the clause is true in the front, or has two different literals that are not false in it
abbrev pub IsOpen : List Lit → List Lit → Type 0
IsOpen front c =
    (is_satisfied front c ≡ true) ⊎ ((p : Pair) × (has_literal c p.first ≡ true) × (has_literal c p.second ≡ true) × (is_free front p ≡ true))

-- each decision was taken where each clause was open
abbrev pub AreOpen : List (List Lit) → List Step → Type 0
AreOpen cs steps = EachStep (λ front s. IsDecision s → (k : ℕ) → k < length cs → IsOpen (trues front) (clause_of cs k)) steps

-- the last of so many steps has a marked literal, and not the one that is left out
abbrev pub IsLast : List Step → List Lit → Lit → ℕ → Type 0
IsLast steps marked lit keep =
    0 < keep → (k : ℕ) × (k + 1 ≡ keep) × (has_literal marked (step_at steps k).lit ≡ true) × (same_literal (step_at steps k).lit lit ≡ false)

-- so many steps have the marked literals but one, and the last of them has one of these
pub record IsReach (steps : List Step) (marked : List Lit) (lit : Lit) (keep : ℕ) : Type 0 where
  pub inside : keep ≤ length steps
  pub others : (l : Lit) → has_literal marked l ≡ true → (l ≡ lit) ⊎ (has_literal (trues (take keep steps)) l ≡ true)
  pub last : IsLast steps marked lit keep
