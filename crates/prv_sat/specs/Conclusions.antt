-- What follows from a conflict.
use Rattle.std.specs.Prelude.{◌≡◌, ℕ, ◌-◌, ◌<◌, ◌≤◌, true, false, List, [], length, take}
use Rattle.std.specs.List.{list_all}
use Rattle.prv_cnf.specs.declared.literal.Lit.{Lit}
use Rattle.prv_cnf.specs.Literals.{negate, has_literal}
use Rattle.prv_cnf.specs.Formulas.{Formula}
use Rattle.prv_check.specs.LogLines.{LogLine}
use Rattle.prv_check.specs.Lines.{Follows, is_within}
use Rattle.prv_check.specs.Spending.{IsLearnt, are_distinct}
use Rattle.prv_propagate.specs.declared.trail.Step.{Step}
use Rattle.prv_propagate.specs.Trails.{trues, step_at, IsDecision}
use Rattle.prv_propagate.specs.Reasons.{are_others_false}
use Rattle.prv_sat.specs.declared.learn.Conclusion.{Conclusion}
use Rattle.prv_sat.specs.declared.learn.Conclusion.TheVariants.{Refuted, Learnt}

-- the empty line, which follows: the formula has no model
pub record IsEnd (f : Formula) (lines : List LogLine) (s : LogLine) : Type 0 where
  pub empty : s.clause ≡ []
  pub follows : Follows f lines s
  pub distinct : are_distinct s.hints ≡ true

-- a line that is worth its numbers, and implies a literal that is false now: the first so many steps
-- falsify its other literals, and the last of them one of these; they end before a decision before
-- which the literal was not false
pub record IsLearntClause (f : Formula) (lines : List LogLine) (steps : List Step) (s : LogLine) (lit : Lit) (keep : ℕ) : Type 0 where
  pub learnt : IsLearnt f lines s
  pub within : list_all (is_within f.vars) s.clause ≡ true
  pub has : has_literal s.clause lit ≡ true
  pub others : are_others_false (trues (take keep steps)) s.clause lit ≡ true
  pub last : 0 < keep → has_literal s.clause (negate (step_at steps (keep - 1)).lit) ≡ true
  pub wrong : has_literal (trues steps) (negate lit) ≡ true
  pub base : ℕ
  pub inside : base < length steps
  pub kept : keep ≤ base
  pub decision : IsDecision (step_at steps base)
  pub free : has_literal (trues (take base steps)) (negate lit) ≡ false

-- what followed
abbrev pub IsConclusion : Formula → List LogLine → List Step → Conclusion → Type 0
IsConclusion f lines steps (Refuted line) = IsEnd f lines line
IsConclusion f lines steps (Learnt line lit keep) = IsLearntClause f lines steps line lit keep
