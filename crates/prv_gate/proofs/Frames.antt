-- What a formula and its models keep: values of other variables, more variables, more clauses.
use Rattle.std.proofs.Common.{◌≡◌, ℕ, suc, zero, ◌<◌, ◌≤◌, Bool, true, false, not, ◌&&◌, List, [], ◌∷◌, ◌++◌, ℤ, pos, negsuc, unsigned_abs, neg_ℤ, refl, ap, ◌∙◌, arith}
use Rattle.std.specs.List.{list_all, AllByRecursion}
use Rattle.prv_cnf.specs.declared.literal.Lit.{Lit}
use Rattle.prv_cnf.specs.Literals.{variable, negate, signed_value, is_literal_true}
use Rattle.prv_cnf.specs.Formulas.{IsLiteral}
use Rattle.prv_cnf.specs.Models.{is_clause_true}
use Rattle.prv_gate.specs.Growth.{Agrees}

signed_abs-neg : (z : ℤ) → unsigned_abs (neg_ℤ z) ≡ unsigned_abs z
signed_abs-neg (pos zero) = refl
signed_abs-neg (pos (suc n)) = refl
signed_abs-neg (negsuc n) = refl

pub variable-negate : (l : Lit) → variable (negate l) ≡ variable l
variable-negate l = signed_abs-neg l.0

pub IsLiteral-negate : (n : ℕ) (l : Lit) → IsLiteral n l → IsLiteral n (negate l)
IsLiteral-negate n l h = rw variable-negate h

pub IsLiteral-more : (m n : ℕ) (l : Lit) → m ≤ n → IsLiteral m l → IsLiteral n l
IsLiteral-more m n l le h = (h.0, omega arith)

-- a literal has one value under values that agree on its variable
signed-agree : (n : ℕ) (v w : ℕ → Bool) (z : ℤ) → Agrees n v w → 0 < unsigned_abs z → unsigned_abs z ≤ n → signed_value v z ≡ signed_value w z
signed-agree n v w (pos k) a h le = a k h le
signed-agree n v w (negsuc k) a h le = ap not (a (suc k) h le)

pub literal-agree : (n : ℕ) (v w : ℕ → Bool) (l : Lit) → Agrees n v w → IsLiteral n l → is_literal_true v l ≡ is_literal_true w l
literal-agree n v w l a h = signed-agree n v w l.0 a h.0 h.1

pub clause-agree : (n : ℕ) (v w : ℕ → Bool) (c : List Lit) → Agrees n v w → AllByRecursion (IsLiteral n) c → is_clause_true v c ≡ is_clause_true w c
clause-agree n v w [] a h = refl
clause-agree n v w (l ∷ ls) a h = rw (literal-agree n v w l a h.0, clause-agree n v w ls a h.1) refl

pub clauses-agree : (n : ℕ) (v w : ℕ → Bool) (cs : List (List Lit)) → Agrees n v w → AllByRecursion (AllByRecursion (IsLiteral n)) cs →
    list_all (is_clause_true v) cs ≡ list_all (is_clause_true w) cs
clauses-agree n v w [] a h = refl
clauses-agree n v w (c ∷ cs) a h = rw (clause-agree n v w c a h.0, clauses-agree n v w cs a h.1) refl

pub AreLiterals-more : (m n : ℕ) (ls : List Lit) → m ≤ n → AllByRecursion (IsLiteral m) ls → AllByRecursion (IsLiteral n) ls
AreLiterals-more m n [] le h = tt
AreLiterals-more m n (l ∷ ls) le h = (IsLiteral-more m n l le h.0, AreLiterals-more m n ls le h.1)

pub AreClauses-more : (m n : ℕ) (cs : List (List Lit)) → m ≤ n → AllByRecursion (AllByRecursion (IsLiteral m)) cs → AllByRecursion (AllByRecursion (IsLiteral n)) cs
AreClauses-more m n [] le h = tt
AreClauses-more m n (c ∷ cs) le h = (AreLiterals-more m n c le h.0, AreClauses-more m n cs le h.1)

pub AreClauses-append : (n : ℕ) (cs ds : List (List Lit)) → AllByRecursion (AllByRecursion (IsLiteral n)) cs → AllByRecursion (AllByRecursion (IsLiteral n)) ds →
    AllByRecursion (AllByRecursion (IsLiteral n)) (cs ++ ds)
AreClauses-append n [] ds h k = k
AreClauses-append n (c ∷ cs) ds h k = (h.0, AreClauses-append n cs ds h.1 k)

and-assoc : (a b c : Bool) → (a && (b && c)) ≡ ((a && b) && c)
and-assoc true b c = refl
and-assoc false b c = refl

-- all of two lists
pub list_all-append : {A : Type 0} (p : A → Bool) (xs ys : List A) → list_all p (xs ++ ys) ≡ (list_all p xs && list_all p ys)
list_all-append p [] ys = refl
list_all-append p (x ∷ xs) ys = ap (λ b. p x && b) (list_all-append p xs ys) ∙ and-assoc (p x) (list_all p xs) (list_all p ys)

pub and-both : (a b : Bool) → a ≡ true → b ≡ true → (a && b) ≡ true
and-both a b h k = rw (h, k) refl

pub and-first : (a b : Bool) → (a && b) ≡ true → a ≡ true
and-first true b h = refl
and-first false b h = h

pub and-second : (a b : Bool) → (a && b) ≡ true → b ≡ true
and-second true b h = h
and-second false b h = absurd cc

pub ruleset literals = (IsLiteral-negate, variable-negate)
