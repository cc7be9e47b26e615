-- What a formula means: which values of its variables satisfy it.
use Rattle.std.specs.Prelude.{ℕ, ◌-◌, Bool, false, List, IsTrue, slice_index_or}
use Rattle.std.specs.List.{list_any, list_all}
use Rattle.prv_cnf.specs.declared.literal.Lit.{Lit}
use Rattle.prv_cnf.specs.Literals.{is_literal_true}
use Rattle.prv_cnf.specs.Formulas.{Formula}

-- whether a clause is true: some literal of it is, so the empty clause never is
abbrev pub is_clause_true : (ℕ → Bool) → List Lit → Bool
is_clause_true v c = list_any (is_literal_true v) c

-- the values make each clause of the formula true
abbrev pub IsModel : (ℕ → Bool) → Formula → Type 0
IsModel v f = IsTrue (list_all (is_clause_true v) f.clauses)

-- the values of a list, in which the variable k stands at k - 1
abbrev pub values_of : List Bool → ℕ → Bool
values_of values k = slice_index_or values (k - 1) false

-- no values make each clause of the formula true
abbrev pub HasNoModel : Formula → Type 0
HasNoModel f = (v : ℕ → Bool) → IsModel v f → ⊥
