-- What a line has that passes its tests.
use Rattle.std.proofs.Common.{◌≡◌, ℕ, ◌+◌, ◌<◌, ◌≤◌, inl, inr, arith, below_more, Bool, true, false, not, List, map, length, Option, None, Some, refl}
use Rattle.std.specs.Prelude.{nat_lt, slice_get, take}
use Rattle.std.specs.List.{list_all}
use Rattle.std.specs.Option.{option_or, option_and_then, is_some, IfNone, IfSome}
use Rattle.std.proofs.lemmas.Bool.{cases_lt}
use Rattle.std.proofs.lemmas.Option.{slice_get_past}
use Rattle.prv_cnf.specs.Literals.{negate}
use Rattle.prv_cnf.specs.Formulas.{Formula}
use Rattle.prv_check.specs.declared.fault.LineWhy.{LineWhy}
use Rattle.prv_check.specs.declared.fault.LineWhy.TheVariants.{BadLiteral, NoHints, BadHint, Contains, Loose}
use Rattle.prv_check.specs.LogLines.{LogLine}
use Rattle.prv_check.specs.Propagation.{hints_fault}
use Rattle.prv_check.specs.Lines.{known, clauses_at, is_within, is_empty, unless, clause_fault, derivation_fault, line_fault}
use Rattle.prv_check.specs.Logs.{fault_at, IsFaultless}
use Rattle.prv_check.specs.Freshness.{is_new, is_lean, IsFresh, AreFresh, fresh_fault}

-- a test that finds no fault was passed, and so were those after it
pub unless_none : (b : Bool) (why : LineWhy) (next : Option LineWhy) → unless b why next ≡ None → (b ≡ true) × (next ≡ None)
unless_none true why next h = (refl, h)
unless_none false why next h = absurd cc

pub or_none : (a b : Option LineWhy) → option_or a b ≡ None → (a ≡ None) × (b ≡ None)
or_none None b h = (refl, h)
or_none (Some why) b h = absurd cc

-- the literals are of variables, the hints are known, and the hints have no fault
pub record Passes (f : Formula) (earlier : List LogLine) (s : LogLine) : Type 0 where
  pub within : list_all (is_within f.vars) s.clause ≡ true
  pub hints : list_all (λ n. nat_lt n (length (known f earlier))) s.hints ≡ true
  pub conflict : hints_fault (map negate s.clause) (clauses_at (known f earlier) s.hints) ≡ None

pub passes : (f : Formula) (earlier : List LogLine) (s : LogLine) → line_fault f earlier s ≡ None → Passes f earlier s
passes f earlier s none =
    let both = or_none (clause_fault f.vars s.clause) (derivation_fault (map negate s.clause) (known f earlier) s.hints) none in
    let a = unless_none (list_all (is_within f.vars) s.clause) BadLiteral _ both.0 in
    let b = unless_none (not (is_empty s.hints)) NoHints _ both.1 in
    let c = unless_none (list_all (λ n. nat_lt n (length (known f earlier))) s.hints) BadHint _ b.1 in
    record { within = a.0; hints = c.0; conflict = c.1 }

-- a line without a fault follows and is fresh
pub fresh_parts : (f : Formula) (earlier : List LogLine) (s : LogLine) → fresh_fault f earlier s ≡ None → (line_fault f earlier s ≡ None) × IsFresh f earlier s
fresh_parts f earlier s none =
    let both = or_none (line_fault f earlier s) _ none in
    let a = unless_none (is_new f earlier s) Contains _ both.1 in
    let b = unless_none (is_lean f earlier s) Loose None a.1 in
    (both.0, (a.0, b.0))

-- the same of a whole log
pub fresh_log : (f : Formula) (log : List LogLine) → IsFaultless (fresh_fault f) log → IsFaultless (line_fault f) log × AreFresh f log
fresh_log f log faultless = ((λ k. (at_line k (slice_get log k) (faultless k)).0), (λ k. (at_line k (slice_get log k) (faultless k)).1))
  where
    at_line : (k : ℕ) (o : Option LogLine) → option_and_then (λ s. fresh_fault f (take k log) s) o ≡ None → (option_and_then (λ s. line_fault f (take k log) s) o ≡ None) × IfSome o (IsFresh f (take k log))
    at_line k None none = (refl, tt)
    at_line k (Some s) none = fresh_parts f (take k log) s none

-- what holds where there is no fault
pub if_none : (o : Option LineWhy) (P : Type 0) → is_some o ≡ false → IfNone o P → P
if_none None P none holds = holds
if_none (Some why) P none holds = absurd cc

-- the lines up to one more have no fault
pub faultless_more : (test : List LogLine → LogLine → Option LineWhy) (log : List LogLine) (i : ℕ) (s : LogLine) → ((j : ℕ) → j < i → fault_at test log j ≡ None) → slice_get log i ≡ Some s → test (take i log) s ≡ None → (j : ℕ) → j < i + 1 → fault_at test log j ≡ None
faultless_more test log i s before here none = below_more _ _ before (rw here none)

pub faultless_all : (test : List LogLine → LogLine → Option LineWhy) (log : List LogLine) (i : ℕ) → length log ≤ i → ((j : ℕ) → j < i → fault_at test log j ≡ None) → IsFaultless test log
faultless_all test log i past before k =
    elim (cases_lt k i) [
      | inl inside ↦ before k inside
      | inr after ↦ rw (slice_get_past log k (omega arith)) refl
    ]
