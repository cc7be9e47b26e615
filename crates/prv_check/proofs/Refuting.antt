-- A formula with an accepted log has no model: a line that follows is true wherever the clauses that
-- it may name are, and the empty line at the end is true nowhere.
use Rattle.std.proofs.Common.{◌≡◌, ℕ, suc, zero, ◌<◌, ◌≤◌, Bool, true, false, not, ◌&&◌, List, [], ◌∷◌, ◌++◌, map, length, take, get_or, Option, None, Some, refl, sym, subst, ◌∙◌, arith}
use Rattle.std.specs.Prelude.{slice_get, slice_index_or, nat_lt}
use Rattle.std.specs.List.{list_all, AllByRecursion}
use Rattle.std.specs.Option.{option_map_or, option_and_then}
use Rattle.std.proofs.lemmas.Bool.{and_parts, and_from, not-true, true_from_ne_false, ltb-true, lt-ltb}
use Rattle.std.proofs.lemmas.List.Folds.{list_all-append}
use Rattle.std.proofs.lemmas.List.Sums.{AllPass-from_list_all}
use Rattle.std.proofs.lemmas.Option.{slice_get-get_or}
use Rattle.std.proofs.Math.Seq.{take-suc, take-length}
use Rattle.std.proofs.lemmas.List.{map-append, append_assoc, append-nil}
use Rattle.prv_cnf.specs.declared.literal.Lit.{Lit}
use Rattle.prv_cnf.specs.Literals.{variable, negate, is_literal_true, same_literal}
use Rattle.prv_cnf.specs.Formulas.{Formula, IsLiteral, IsFormula}
use Rattle.prv_cnf.specs.Models.{is_clause_true, IsModel, HasNoModel}
use Rattle.prv_cnf.proofs.Values.{same_literal-eq, is_literal_true-negate, all-has_literal}
use Rattle.prv_check.proofs.Passing.{passes}
use Rattle.prv_check.specs.declared.fault.LineWhy.TheVariants.{NotUnit}
use Rattle.prv_check.specs.LogLines.{LogLine}
use Rattle.prv_check.specs.Propagation.{is_false, unfalsified, sole, unit_literal, hints_fault}
use Rattle.prv_check.specs.Lines.{known, clauses_at, is_within, line_fault, is_empty}
use Rattle.prv_check.specs.Logs.{IsFaultless, ends_empty, IsAccepted}

-- no literal is 0
abbrev pub is_numbered : Lit → Bool
is_numbered l = nat_lt 0 (variable l)

-- the clause is true, and has no literal 0
abbrev pub is_sound : (ℕ → Bool) → List Lit → Bool
is_sound v c = is_clause_true v c && list_all is_numbered c

-- where each literal of `trues` is true, one whose negation stands there is not
falsified : (v : ℕ → Bool) (trues : List Lit) (l : Lit) → list_all (is_literal_true v) trues ≡ true → is_numbered l ≡ true → is_false trues l ≡ true → is_literal_true v l ≡ false
falsified v trues l all numbered here =
    let negated : is_literal_true v (negate l) ≡ true = all-has_literal (is_literal_true v) trues (negate l) all here in
    let other : is_literal_true v (negate l) ≡ not (is_literal_true v l) = is_literal_true-negate v l (ltb-true 0 (variable l) numbered) in
    not-true (is_literal_true v l) (sym other ∙ negated)

-- a clause that is true is so by a literal that isn't made false
unfalsified_true : (v : ℕ → Bool) (trues c : List Lit) → list_all (is_literal_true v) trues ≡ true → list_all is_numbered c ≡ true → is_clause_true v c ≡ true → is_clause_true v (unfalsified trues c) ≡ true
unfalsified_true v trues [] all numbered holds = holds
unfalsified_true v trues (l ∷ ls) all numbered holds =
    grind (arith, falsified v trues l, unfalsified_true v trues ls)

-- a clause all of whose literals are false is not true
all_false : (v : ℕ → Bool) (trues c : List Lit) → list_all (is_literal_true v) trues ≡ true → list_all is_numbered c ≡ true → list_all (is_false trues) c ≡ true → is_clause_true v c ≡ false
all_false v trues [] all numbered here = refl
all_false v trues (l ∷ ls) all numbered here =
    grind (arith, falsified v trues l, all_false v trues ls)

-- where all literals of a list are the same, it is true by that one
same_true : (v : ℕ → Bool) (l : Lit) (ls : List Lit) → list_all (same_literal l) ls ≡ true → is_clause_true v ls ≡ true → is_literal_true v l ≡ true
same_true v l [] same holds = absurd cc
same_true v l (x ∷ xs) same holds =
    grind (arith, same_literal-eq l x, same_true v l xs)

sole_true : (v : ℕ → Bool) (ls : List Lit) (l : Lit) → sole ls ≡ Some l → is_clause_true v ls ≡ true → is_literal_true v l ≡ true
sole_true v [] l one holds = absurd cc
sole_true v (x ∷ xs) l one holds = grind (arith, same_true v x xs)

-- no values make the hints of a faultless line true beside the literals that they begin with
hints_conflict : (v : ℕ → Bool) (trues : List Lit) (cs : List (List Lit)) → list_all (is_literal_true v) trues ≡ true → list_all (is_sound v) cs ≡ true → hints_fault trues cs ≡ None → ⊥
hints_conflict v trues [] all sound none = cc
hints_conflict v trues (c ∷ []) all sound none = grind (arith, all_false v trues c)
hints_conflict v trues (c ∷ (d ∷ cs)) all sound none =
    elim (unit_literal trues c) as (λ o. unit_literal trues c ≡ o → option_map_or (λ l. hints_fault (trues ++ l ∷ []) (d ∷ cs)) o (Some NotUnit) ≡ None → ⊥) [
      | None ↦ λ e h. cc
      | Some l ↦ λ e h.
          let parts : (is_sound v c ≡ true) × (list_all (is_sound v) (d ∷ cs) ≡ true) = and_parts (is_sound v c) (list_all (is_sound v) (d ∷ cs)) sound in
          let here : (is_clause_true v c ≡ true) × (list_all is_numbered c ≡ true) = and_parts (is_clause_true v c) (list_all is_numbered c) parts.0 in
          let holds : is_literal_true v l ≡ true = sole_true v (unfalsified trues c) l e (unfalsified_true v trues c all here.1 here.0) in
          let more : list_all (is_literal_true v) (trues ++ l ∷ []) ≡ true = grind (arith, list_all-append (is_literal_true v) trues (l ∷ [])) in
          hints_conflict v (trues ++ l ∷ []) (d ∷ cs) more parts.1 h
    ] refl none

-- where a clause without 0 is not true, the negation of each of its literals is
negated_true : (v : ℕ → Bool) (c : List Lit) → list_all is_numbered c ≡ true → is_clause_true v c ≡ false → list_all (is_literal_true v) (map negate c) ≡ true
negated_true v [] numbered fails = refl
negated_true v (l ∷ ls) numbered fails =
    grind (arith, is_literal_true-negate v l, ltb-true 0 (variable l), negated_true v ls)

within_numbered : (n : ℕ) (c : List Lit) → list_all (is_within n) c ≡ true → list_all is_numbered c ≡ true
within_numbered n [] within = refl
within_numbered n (l ∷ ls) within = grind (arith, within_numbered n ls)

-- the clauses that hints name are sound where all clauses are that they may name
named_sound : (v : ℕ → Bool) (cs : List (List Lit)) (ns : List ℕ) → list_all (is_sound v) cs ≡ true → list_all (λ n. nat_lt n (length cs)) ns ≡ true → list_all (is_sound v) (clauses_at cs ns) ≡ true
named_sound v cs [] sound within = refl
named_sound v cs (n ∷ ns) sound within =
    let parts : (nat_lt n (length cs) ≡ true) × (list_all (λ n. nat_lt n (length cs)) ns ≡ true) = and_parts (nat_lt n (length cs)) (list_all (λ n. nat_lt n (length cs)) ns) within in
    let here : is_sound v (slice_index_or cs n []) ≡ true = AllPass-from_list_all (is_sound v) cs sound n [] (ltb-true n (length cs) parts.0) in
    and_from (is_sound v (slice_index_or cs n [])) (list_all (is_sound v) (clauses_at cs ns)) here (named_sound v cs ns sound parts.1)

-- a line that follows is sound where the clauses are that it may name
line_sound : (v : ℕ → Bool) (f : Formula) (earlier : List LogLine) (s : LogLine) → list_all (is_sound v) (known f earlier) ≡ true → line_fault f earlier s ≡ None → is_sound v s.clause ≡ true
line_sound v f earlier s sound none =
    let p = passes f earlier s none in
    let numbered : list_all is_numbered s.clause ≡ true = within_numbered f.vars s.clause p.within in
    let fails : is_clause_true v s.clause ≡ false → ⊥ =
    λ (x : is_clause_true v s.clause ≡ false). hints_conflict v (map negate s.clause) (clauses_at (known f earlier) s.hints) (negated_true v s.clause numbered x) (named_sound v (known f earlier) s.hints sound p.hints) p.conflict in
    and_from (is_clause_true v s.clause) (list_all is_numbered s.clause) (true_from_ne_false (is_clause_true v s.clause) fails) numbered

numbered_clause : (n : ℕ) (c : List Lit) → AllByRecursion (IsLiteral n) c → list_all is_numbered c ≡ true
numbered_clause n [] within = refl
numbered_clause n (l ∷ ls) within =
    and_from (is_numbered l) (list_all is_numbered ls) (lt-ltb 0 (variable l) within.0.0) (numbered_clause n ls within.1)

-- a model makes the clauses of the formula sound
formula_sound : (v : ℕ → Bool) (n : ℕ) (cs : List (List Lit)) → AllByRecursion (AllByRecursion (IsLiteral n)) cs → list_all (is_clause_true v) cs ≡ true → list_all (is_sound v) cs ≡ true
formula_sound v n [] within holds = refl
formula_sound v n (c ∷ cs) within holds =
    let parts : (is_clause_true v c ≡ true) × (list_all (is_clause_true v) cs ≡ true) = and_parts (is_clause_true v c) (list_all (is_clause_true v) cs) holds in
    and_from (is_sound v c) (list_all (is_sound v) cs)
    (and_from (is_clause_true v c) (list_all is_numbered c) parts.0 (numbered_clause n c within.0))
    (formula_sound v n cs within.1 parts.1)

-- one more line, one more clause to name
pub known_more : (f : Formula) (earlier : List LogLine) (s : LogLine) → known f (earlier ++ s ∷ []) ≡ known f earlier ++ s.clause ∷ []
known_more f earlier s = rw (map-append, ← append_assoc) refl

-- the clauses before each line of a faultless log are sound in a model of the formula
known_sound : (v : ℕ → Bool) (f : Formula) (log : List LogLine) → IsFormula f → IsModel v f → IsFaultless (line_fault f) log → (k : ℕ) → k ≤ length log → list_all (is_sound v) (known f (take k log)) ≡ true
known_sound v f log formula model faultless zero within =
    rw append-nil (formula_sound v f.vars f.clauses formula.1 model)
known_sound v f log formula model faultless (suc k) within =
    let before : list_all (is_sound v) (known f (take k log)) ≡ true = known_sound v f log formula model faultless k (omega arith) in
    let inside : k < length log = omega arith in
    let none : LogLine = record { clause = []; hints = [] } in
    let s : LogLine = get_or log k none in
    let at_k : slice_get log k ≡ Some s = slice_get-get_or log k none inside in
    let P : Option LogLine → Type 0 = λ o. option_and_then (λ x. line_fault f (take k log) x) o ≡ None in
    let follows : line_fault f (take k log) s ≡ None = subst P at_k (faultless k) in
    let here : is_sound v s.clause ≡ true = line_sound v f (take k log) s before follows in
    let more : take (suc k) log ≡ take k log ++ s ∷ [] = take-suc log k none inside in
    let Q : List LogLine → Type 0 = λ l. list_all (is_sound v) (known f l) ≡ true in
    subst Q (sym more) (rw (known_more, list_all-append) (grind arith))

empty_unsound : (v : ℕ → Bool) (c : List Lit) → is_empty c ≡ true → is_sound v c ≡ true → ⊥
empty_unsound v [] empty sound = cc
empty_unsound v (l ∷ ls) empty sound = cc

-- no values make each line of a log true that ends with the empty clause
end_unsound : (v : ℕ → Bool) (log : List LogLine) → list_all (is_sound v) (map (λ s. s.clause) log) ≡ true → ends_empty log ≡ true → ⊥
end_unsound v [] sound ends = cc
end_unsound v (s ∷ []) sound ends =
    empty_unsound v s.clause ends (and_parts (is_sound v s.clause) true sound).0
end_unsound v (s ∷ (t ∷ log)) sound ends =
    end_unsound v (t ∷ log) (and_parts (is_sound v s.clause) (list_all (is_sound v) (map (λ s. s.clause) (t ∷ log))) sound).1 ends

-- a formula with an accepted log has no model
pub accepted_refutes : (f : Formula) (log : List LogLine) → IsFormula f → IsAccepted f log → HasNoModel f
accepted_refutes f log formula accepted v model =
    let all : list_all (is_sound v) (known f (take (length log) log)) ≡ true = known_sound v f log formula model accepted.0 (length log) (omega arith) in
    let P : List LogLine → Type 0 = λ l. list_all (is_sound v) (known f l) ≡ true in
    let whole : list_all (is_sound v) (known f log) ≡ true = subst P (take-length log) all in
    let parts = and_parts (list_all (is_sound v) f.clauses) (list_all (is_sound v) (map (λ s. s.clause) log)) (sym (list_all-append (is_sound v) f.clauses (map (λ s. s.clause) log)) ∙ whole) in
    end_unsound v log parts.1 accepted.1
