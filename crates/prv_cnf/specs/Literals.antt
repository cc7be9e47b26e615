-- Literals: their variables, their negations, and whether they are true.
use Rattle.std.specs.Prelude.{ℕ, suc, ℤ, pos, negsuc, neg_ℤ, unsigned_abs, Bool, not, List}
use Rattle.std.specs.List.{list_any}
use Rattle.std.specs.Ordering.{int_eq}
use Rattle.prv_cnf.specs.declared.literal.Lit.{Lit}

-- the number of a literal's variable
abbrev pub variable : Lit → ℕ
variable l = unsigned_abs l.0

-- the literal of the same variable with the other sign
abbrev pub negate : Lit → Lit
negate l = record { 0 = neg_ℤ l.0 }

-- the value of a signed variable, where the variable k has the value v k
abbrev pub signed_value : (ℕ → Bool) → ℤ → Bool
signed_value v (pos k) = v k
signed_value v (negsuc k) = not (v (suc k))

-- whether a literal is true, where the variable k has the value v k
abbrev pub is_literal_true : (ℕ → Bool) → Lit → Bool
is_literal_true v l = signed_value v l.0

-- whether two literals are the same
abbrev pub same_literal : Lit → Lit → Bool
same_literal a b = int_eq a.0 b.0

-- whether a literal stands in a list
abbrev pub has_literal : List Lit → Lit → Bool
has_literal ls l = list_any (same_literal l) ls
