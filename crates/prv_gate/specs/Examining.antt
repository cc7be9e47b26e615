-- What a clause says where some variables are known, and what is known after it.
use Rattle.std.specs.Prelude.{◌≡◌, ℕ, ◌+◌, ◌-◌, ◌<◌, ◌≤◌, Bool, true, false, not, List, [], ◌∷◌, Option, None, Some, is_none, length, count_by, slice_set, if◌then◌else◌}
use Rattle.prv_cnf.specs.declared.literal.Lit.{Lit}
use Rattle.prv_cnf.specs.Literals.{variable, same_literal}
use Rattle.prv_cnf.specs.Formulas.{Formula}
use Rattle.prv_gate.specs.Gates.{is_negative}
use Rattle.prv_gate.specs.Knowledge.{known_value, known_literal}
use Rattle.prv_gate.specs.Propagation.{known_after, closure, has_conflict}
use Rattle.prv_gate.specs.declared.propagate.Examined.{Examined}
use Rattle.prv_gate.specs.declared.propagate.Examined.TheVariants.{Open, Forces, Conflict}

-- one literal is left, if one was found, that isn't known to be false
abbrev pub left : Option Lit → Examined
left None = Conflict
left (Some l) = Forces l

-- a literal that isn't known, beside one that was found
abbrev pub beside : Option Lit → Lit → (Option Lit → Examined) → Examined
beside None l rest = rest (Some l)
beside (Some o) l rest = if same_literal o l then rest (Some o) else Open

-- a literal, by what is known of it
abbrev pub by_value : Option Bool → Option Lit → Lit → (Option Lit → Examined) → Examined
by_value (Some true) found l rest = Open
by_value (Some false) found l rest = rest found
by_value None found l rest = beside found l rest

-- a clause: open where a literal is true or two different ones aren't known
abbrev pub examined : List (Option Bool) → Option Lit → List Lit → Examined
examined known found [] = left found
examined known found (l ∷ ls) = by_value (known_literal known l) found l (λ f. examined known f ls)

-- the literal is made known
abbrev pub learned : List (Option Bool) → Lit → List (Option Bool)
learned known l = slice_set known (variable l - 1) (Some (not (is_negative l)))

-- what is known after a clause was examined
abbrev pub known_by : List (Option Bool) → Examined → List (Option Bool)
known_by known Open = known
known_by known (Forces l) = learned known l
known_by known Conflict = known

-- how many variables aren't known
abbrev pub unknown_count : List (Option Bool) → ℕ
unknown_count known = count_by is_none known

-- all that is known in the first is known in the second
abbrev pub Within : List (Option Bool) → List (Option Bool) → Type 0
Within a b = (k : ℕ) (x : Bool) → 0 < k → known_value a k ≡ Some x → known_value b k ≡ Some x

-- what is known follows from the start in as many rounds as variables were found, unless the clauses
-- contradict each other
abbrev pub IsReached : Formula → List (Option Bool) → List (Option Bool) → Type 0
IsReached f start known =
    has_conflict f.clauses (closure f start) ≡ false → Within known (known_after f (f.vars + 1 - unknown_count known) start)

-- the second table has what follows from the first by the clauses, or some of it
pub record Learns (f : Formula) (old new : List (Option Bool)) : Type 0 where
  pub size : length new ≡ length old
  pub fewer : unknown_count new ≤ unknown_count old
  pub keeps : Within old new
  pub reached : (start : List (Option Bool)) → length start ≤ f.vars → IsReached f start old → IsReached f start new
