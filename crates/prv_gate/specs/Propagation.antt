-- Unit propagation: what follows from clauses and from what is known, clause by clause.
use Rattle.std.specs.Prelude.{ℕ, zero, suc, ◌+◌, pos, Bool, true, false, ◌&&◌, ◌||◌, List, map, Option, None, Some, if◌then◌else◌}
use Rattle.std.specs.List.{list_any, list_all, range_with_len}
use Rattle.std.specs.Option.{option_map_or, option_or}
use Rattle.prv_cnf.specs.declared.literal.Lit.{Lit}
use Rattle.prv_cnf.specs.Literals.{negate, same_literal, has_literal}
use Rattle.prv_cnf.specs.Formulas.{Formula}
use Rattle.prv_gate.specs.Knowledge.{known_value, known_literal}

-- the literal is known to be true, or to be false
abbrev pub is_known_true : List (Option Bool) → Lit → Bool
is_known_true known l = option_map_or (λ b. b) (known_literal known l) false

abbrev pub is_known_false : List (Option Bool) → Lit → Bool
is_known_false known l = is_known_true known (negate l)

-- the clause makes the literal true: it stands there, and all others are known to be false
abbrev pub forces : List (Option Bool) → Lit → List Lit → Bool
forces known l c = has_literal c l && list_all (λ m. same_literal m l || is_known_false known m) c

-- the value of variable k after one round: what is known, or what a clause forces
abbrev pub next_value : List (List Lit) → List (Option Bool) → ℕ → Option Bool
next_value cs known k =
    option_or (known_value known k)
    (if list_any (forces known (record { 0 = pos k })) cs then Some true
    else if list_any (forces known (negate (record { 0 = pos k }))) cs then Some false
    else None)

-- all variables after one round
abbrev pub next_known : Formula → List (Option Bool) → List (Option Bool)
next_known f known = map (λ i. next_value f.clauses known (i + 1)) (range_with_len 0 f.vars)

-- what is known after so many rounds
abbrev pub known_after : Formula → ℕ → List (Option Bool) → List (Option Bool)
known_after f zero known = known
known_after f (suc n) known = next_known f (known_after f n known)

-- all that follows: after one round more than there are variables, none finds more
unfoldable pub closure : Formula → List (Option Bool) → List (Option Bool)
closure f known = known_after f (f.vars + 1) known

-- some clause has only literals that are known to be false
abbrev pub has_conflict : List (List Lit) → List (Option Bool) → Bool
has_conflict cs known = list_any (list_all (is_known_false known)) cs
