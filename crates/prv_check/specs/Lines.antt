-- What a line of a log is tested for.
use Rattle.std.specs.Prelude.{Option, None, Some, ◌≡◌, ℕ, Bool, not, ◌&&◌, true, false, List, [], ◌∷◌, ◌++◌, map, length, nat_lt, nat_le, slice_index_or, if◌then◌else◌}
use Rattle.std.specs.List.{list_all, list_any}
use Rattle.std.specs.Option.{option_or}
use Rattle.prv_cnf.specs.declared.literal.Lit.{Lit}
use Rattle.prv_cnf.specs.Literals.{variable, negate, has_literal}
use Rattle.prv_cnf.specs.Formulas.{Formula}
use Rattle.prv_check.specs.LogLines.{LogLine}
use Rattle.prv_check.specs.Propagation.{hints_fault}
use Rattle.prv_check.specs.declared.fault.LineWhy.{LineWhy}
use Rattle.prv_check.specs.declared.fault.LineWhy.TheVariants.{BadLiteral, Repeat, Tautology, NoHints, BadHint}

-- the clauses that a line may name by number: those of the formula, then those of the earlier lines
abbrev pub known : Formula → List LogLine → List (List Lit)
known f earlier = f.clauses ++ map (λ s. s.clause) earlier

-- the clauses with these numbers
abbrev pub clauses_at : List (List Lit) → List ℕ → List (List Lit)
clauses_at cs numbers = map (λ n. slice_index_or cs n []) numbers

-- a literal of one of the first n variables
abbrev pub is_within : ℕ → Lit → Bool
is_within n l = nat_lt 0 (variable l) && nat_le (variable l) n

-- no literal stands twice
abbrev pub no_repeat : List Lit → Bool
no_repeat [] = true
no_repeat (l ∷ ls) = not (has_literal ls l) && no_repeat ls

-- some literal stands there with its negation
abbrev pub is_tautology : List Lit → Bool
is_tautology c = list_any (λ l. has_literal c (negate l)) c

-- whether a list is empty
abbrev pub is_empty : {A : Type 0} → List A → Bool
is_empty [] = true
is_empty (x ∷ xs) = false

-- this fault where the test fails, else the next tests' fault
abbrev pub unless : Bool → LineWhy → Option LineWhy → Option LineWhy
unless passed why next = if passed then next else Some why

-- the first test that the clause of a line fails by itself, over n variables
abbrev pub clause_fault : ℕ → List Lit → Option LineWhy
clause_fault n c =
    unless (list_all (is_within n) c) BadLiteral
    (unless (no_repeat c) Repeat
    (unless (not (is_tautology c)) Tautology None))

-- the first test that hints fail, where the clauses are known and the literals of `trues` are true
abbrev pub derivation_fault : List Lit → List (List Lit) → List ℕ → Option LineWhy
derivation_fault trues cs hints =
    unless (not (is_empty hints)) NoHints
    (unless (list_all (λ n. nat_lt n (length cs)) hints) BadHint
    (hints_fault trues (clauses_at cs hints)))

-- the first test that a line fails, after the formula and the earlier lines: those of its clause,
-- then those of its hints, with each literal of the clause made false
abbrev pub line_fault : Formula → List LogLine → LogLine → Option LineWhy
line_fault f earlier s =
    option_or (clause_fault f.vars s.clause)
    (derivation_fault (map negate s.clause) (known f earlier) s.hints)

-- the line passes each test
abbrev pub Follows : Formula → List LogLine → LogLine → Type 0
Follows f earlier s = line_fault f earlier s ≡ None
