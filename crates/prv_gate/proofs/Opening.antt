-- When a clause is open: where a literal of it is true, and where it was open before a literal was learned
-- whose negation doesn't stand in it.
use Rattle.std.proofs.Common.{◌≡◌, ℕ, suc, zero, ◌<◌, ◌≢◌, ◌⊎◌, inl, inr, Bool, true, false, not, ◌||◌, List, [], ◌∷◌, Option, None, Some, option_map, length, ℤ, pos, negsuc, neg_ℤ, unsigned_abs, refl, ap, ◌∙◌, arith, if◌then◌else◌, ⊎_elim}
use Rattle.std.specs.List.{AllByRecursion}
use Rattle.std.proofs.lemmas.Bool.Decides.{eqb_tells}
use Rattle.prv_cnf.specs.declared.literal.Lit.{Lit}
use Rattle.prv_cnf.specs.Literals.{variable, negate, same_literal, has_literal}
use Rattle.prv_cnf.specs.Formulas.{IsLiteral}
use Rattle.prv_cnf.proofs.Values.{same_literal-eq, same_literal_refl, same_number}
use Rattle.prv_gate.specs.Gates.{is_negative_number}
use Rattle.prv_gate.specs.Knowledge.{known_value, signed_known, known_literal}
use Rattle.prv_gate.specs.Examining.{examined, by_value, learned}
use Rattle.prv_gate.specs.declared.propagate.Examined.{Examined}
use Rattle.prv_gate.specs.declared.propagate.Examined.TheVariants.{Open}
use Rattle.prv_gate.proofs.Learning.{learned-same, learned-other}

-- a clause with a literal that is known to be true is open
pub true-open : (known : List (Option Bool)) (l : Lit) → known_literal known l ≡ Some true → (c : List Lit) (found : Option Lit) → has_literal c l ≡ true → examined known found c ≡ Open
true-open known l is [] found has = absurd cc
true-open known l is (m ∷ ms) found has = by (known_literal known m) refl (same_literal l m) refl found has (true-open known l is ms)
  where
    by : (r : Option Bool) → known_literal known m ≡ r → (t : Bool) → same_literal l m ≡ t → (found : Option Lit) → (t || has_literal ms l) ≡ true →
        ((f : Option Lit) → has_literal ms l ≡ true → examined known f ms ≡ Open) → by_value r found m (λ f. examined known f ms) ≡ Open
    by (Some true) e t s found h rest = refl
    by (Some false) e true s found h rest =
        let value : known_literal known l ≡ Some false = ap (known_literal known) (same_literal-eq l m s) ∙ e in absurd cc
    by (Some false) e false s found h rest = rest found h
    by None e true s found h rest =
        let value : known_literal known l ≡ None = ap (known_literal known) (same_literal-eq l m s) ∙ e in absurd cc
    by None e false s None h rest = rest (Some m) h
    by None e false s (Some o) h rest = choose (same_literal o m)
      where
        choose : (t : Bool) → (if t then examined known (Some o) ms else Open) ≡ Open
        choose true = rest (Some o) h
        choose false = refl

-- literals of one variable are the same or opposite
one-variable : (a b : ℤ) → unsigned_abs a ≡ unsigned_abs b → (a ≡ b) ⊎ (a ≡ neg_ℤ b)
one-variable (pos m) (pos n) e = inl (ap pos e)
one-variable (pos zero) (negsuc n) e = absurd (omega arith)
one-variable (pos (suc m)) (negsuc n) e = inr (ap pos e)
one-variable (negsuc m) (pos zero) e = absurd (omega arith)
one-variable (negsuc m) (pos (suc n)) e = inr (ap negsuc (omega arith))
one-variable (negsuc m) (negsuc n) e = inl (ap negsuc (omega arith))

same-or-opposite : (a b : Lit) → variable a ≡ variable b → (a ≡ b) ⊎ (a ≡ negate b)
same-or-opposite a b e =
    ⊎_elim (λ same. inl (same_number a b same)) (λ opposite. inr (same_number a (negate b) opposite)) (one-variable a.0 b.0 e)

signed-true : (known : List (Option Bool)) (z : ℤ) → known_value known (unsigned_abs z) ≡ Some (not (is_negative_number z)) → signed_known known z ≡ Some true
signed-true known (pos n) e = e
signed-true known (negsuc n) e = ap (option_map not) e

module _ (known : List (Option Bool)) (l : Lit) (here : IsLiteral (length known) l) where
  -- the literal is known to be true, and of other variables the same is known as before
  pub learned-true : known_literal (learned known l) l ≡ Some true
  learned-true = signed-true (learned known l) l.0 (learned-same known l here)

  signed-other : (z : ℤ) → 0 < unsigned_abs z → unsigned_abs z ≢ variable l → signed_known (learned known l) z ≡ signed_known known z
  signed-other (pos k) some apart = learned-other known l k here some apart
  signed-other (negsuc k) some apart = ap (option_map not) (learned-other known l (suc k) here some apart)

  -- an open clause stays open
  pub open-stays : (c : List Lit) → AllByRecursion (IsLiteral (length known)) c → has_literal c (negate l) ≡ false → (found : Option Lit) →
      examined known found c ≡ Open → examined (learned known l) found c ≡ Open
  open-stays [] inside lacks found e = e
  open-stays (m ∷ ms) inside lacks found e =
      ⊎_elim
      (λ same. ⊎_elim
      (λ (is : m ≡ l). let value : known_literal (learned known l) m ≡ Some true = ap (known_literal (learned known l)) is ∙ learned-true in
      ap (λ (r : Option Bool). by_value r found m (λ f. examined (learned known l) f ms)) value)
      (λ (is : m ≡ negate l). let there : (same_literal (negate l) m || has_literal ms (negate l)) ≡ true =
      ap (λ (t : Bool). t || has_literal ms (negate l)) (ap (same_literal (negate l)) is ∙ same_literal_refl (negate l)) in absurd cc)
      (same-or-opposite m l same.1))
      (λ apart. ap (λ (r : Option Bool). by_value r found m (λ f. examined (learned known l) f ms)) (signed-other m.0 inside.0.0 apart.1)
      ∙ by (known_literal known m) found e (open-stays ms inside.1 (or-none (same_literal (negate l) m) (has_literal ms (negate l)) lacks)))
      (eqb_tells (variable m) (variable l))
    where
      or-none : (a b : Bool) → (a || b) ≡ false → b ≡ false
      or-none true b h = absurd cc
      or-none false b h = h

      by : (r : Option Bool) (found : Option Lit) → by_value r found m (λ f. examined known f ms) ≡ Open →
          ((f : Option Lit) → examined known f ms ≡ Open → examined (learned known l) f ms ≡ Open) → by_value r found m (λ f. examined (learned known l) f ms) ≡ Open
      by (Some true) found e rest = refl
      by (Some false) found e rest = rest found e
      by None None e rest = rest (Some m) e
      by None (Some o) e rest = choose (same_literal o m) e
        where
          choose : (t : Bool) → (if t then examined known (Some o) ms else Open) ≡ Open → (if t then examined (learned known l) (Some o) ms else Open) ≡ Open
          choose true e = rest (Some o) e
          choose false e = refl

-- a clause says the same where the same is known of each variable
signed-alike : (a b : List (Option Bool)) → ((k : ℕ) → known_value a k ≡ known_value b k) → (z : ℤ) → signed_known a z ≡ signed_known b z
signed-alike a b same (pos k) = same k
signed-alike a b same (negsuc k) = ap (option_map not) (same (suc k))

pub examined-alike : (a b : List (Option Bool)) → ((k : ℕ) → known_value a k ≡ known_value b k) → (c : List Lit) (found : Option Lit) → examined a found c ≡ examined b found c
examined-alike a b same [] found = refl
examined-alike a b same (m ∷ ms) found =
    ap (λ (r : Option Bool). by_value r found m (λ f. examined a f ms)) (signed-alike a b same m.0) ∙ by (known_literal b m) found (examined-alike a b same ms)
  where
    by : (r : Option Bool) (found : Option Lit) → ((f : Option Lit) → examined a f ms ≡ examined b f ms) →
        by_value r found m (λ f. examined a f ms) ≡ by_value r found m (λ f. examined b f ms)
    by (Some true) found rest = refl
    by (Some false) found rest = rest found
    by None None rest = rest (Some m)
    by None (Some o) rest = ap (λ (e : Examined). if same_literal o m then e else Open) (rest (Some o))
