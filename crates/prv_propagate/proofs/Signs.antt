-- Literals of one variable, and literals in lists.
use Rattle.std.proofs.Common.{◌≡◌, suc, zero, ◌<◌, ◌⊎◌, Bool, true, false, ◌&&◌, ◌||◌, List, [], ◌∷◌, ◌++◌, ℤ, pos, negsuc, neg_ℤ, unsigned_abs, refl, ap, inl, inr, ◌∙◌, arith}
use Rattle.std.specs.List.{list_all}
use Rattle.std.proofs.lemmas.List.Folds.{list_any-append, list_all-append}
use Rattle.prv_cnf.specs.declared.literal.Lit.{Lit}
use Rattle.prv_cnf.specs.Literals.{variable, negate, same_literal, has_literal}
use Rattle.prv_cnf.proofs.Values.{same_literal-eq, same_literal_refl, same_number}

signed_same : (a b : ℤ) → unsigned_abs a ≡ unsigned_abs b → (a ≡ b) ⊎ (a ≡ neg_ℤ b)
signed_same (pos a) (pos b) e = inl (ap pos e)
signed_same (pos a) (negsuc b) e = inr (ap pos e)
signed_same (negsuc a) (pos zero) e = absurd (omega arith)
signed_same (negsuc a) (pos (suc b)) e = inr (ap negsuc (omega arith))
signed_same (negsuc a) (negsuc b) e = inl (ap negsuc (omega arith))

-- two literals of one variable are the same, or each other's negations
pub one_variable : (a b : Lit) → variable a ≡ variable b → (a ≡ b) ⊎ (a ≡ negate b)
one_variable a b e = elim (signed_same a.0 b.0 e) [ inl same ↦ inl (same_number a b same) | inr other ↦ inr (same_number a (negate b) other) ]

signed_apart : (z : ℤ) → 0 < unsigned_abs z → z ≡ neg_ℤ z → ⊥
signed_apart (pos zero) h e = omega arith
signed_apart (pos (suc n)) h e = cc
signed_apart (negsuc n) h e = cc

-- a literal of a variable isn't its own negation
pub negate-apart : (l : Lit) → 0 < variable l → l ≡ negate l → ⊥
negate-apart l h e = signed_apart l.0 h (ap (λ (x : Lit). x.0) e)

pub same_literal-sym : (a b : Lit) → same_literal a b ≡ true → same_literal b a ≡ true
same_literal-sym a b h = let e : a ≡ b = same_literal-eq a b h in rw e (same_literal_refl b)

pub or_false : (b : Bool) → (b || false) ≡ b
or_false true = refl
or_false false = refl

pub and_true : (b : Bool) → (b && true) ≡ b
and_true true = refl
and_true false = refl

-- one literal more
pub has_literal-push : (ls : List Lit) (m x : Lit) → has_literal (ls ++ m ∷ []) x ≡ (has_literal ls x || same_literal x m)
has_literal-push ls m x = list_any-append (same_literal x) ls (m ∷ []) ∙ ap (λ b. has_literal ls x || b) (or_false (same_literal x m))

pub all-push : (p : Lit → Bool) (ls : List Lit) (m : Lit) → list_all p ls ≡ true → p m ≡ true → list_all p (ls ++ m ∷ []) ≡ true
all-push p ls m all here = list_all-append p ls (m ∷ []) ∙ rw (all, here) refl

-- both ways between a test of all literals and a test of each
pub all-from_each : (p : Lit → Bool) (ls : List Lit) → ((l : Lit) → has_literal ls l ≡ true → p l ≡ true) → list_all p ls ≡ true
all-from_each p [] each = refl
all-from_each p (x ∷ xs) each =
    let here : p x ≡ true = each x (rw (same_literal_refl x) refl) in
    let later : list_all p xs ≡ true = all-from_each p xs (λ l h. each l (or_right_true (same_literal l x) (has_literal xs l) h)) in
    rw (here, later) refl
  where
    or_right_true : (a b : Bool) → b ≡ true → (a || b) ≡ true
    or_right_true true b h = refl
    or_right_true false b h = h
