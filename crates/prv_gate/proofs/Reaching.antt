-- Values that are found clause by clause are those of the closure.
use Rattle.std.proofs.Common.{◌≡◌, ℕ, suc, zero, ◌+◌, ◌-◌, ◌<◌, ◌≤◌, Bool, true, false, not, ◌||◌, List, [], ◌∷◌, Option, None, Some, option_map, length, get_or, ℤ, pos, negsuc, unsigned_abs, refl, ap, sym, ◌∙◌, subst, arith, if◌then◌else◌, ⊎_elim, add-zero, add-suc}
use Rattle.std.specs.List.{list_all, list_any, AllByRecursion}
use Rattle.std.specs.Option.{option_map_or, option_or}
use Rattle.std.proofs.lemmas.List.{get_or_past}
use Rattle.std.proofs.lemmas.Bool.{cases_lt}
use Rattle.prv_cnf.specs.declared.literal.Lit.{Lit}
use Rattle.prv_cnf.specs.Literals.{variable, negate, same_literal, has_literal}
use Rattle.prv_cnf.specs.Formulas.{Formula, IsLiteral}
use Rattle.prv_cnf.proofs.Values.{same_literal-eq}
use Rattle.prv_gate.specs.Knowledge.{known_value, signed_known, known_literal}
use Rattle.prv_gate.specs.Propagation.{is_known_true, is_known_false, forces, known_after, closure, has_conflict}
use Rattle.prv_gate.specs.Examining.{Within}
use Rattle.prv_gate.proofs.Frames.{and-both, and-first, and-second, variable-negate}
use Rattle.prv_gate.proofs.Asserting.{known_value-next, known_value-past}
use Rattle.prv_gate.proofs.Examination.{false-of, others_false}

pub within-refl : (a : List (Option Bool)) → Within a a
within-refl a k x some e = e

pub within-trans : (a b c : List (Option Bool)) → Within a b → Within b c → Within a c
within-trans a b c f g k x some e = g k x some (f k x some e)

-- what is known of literals stays
signed-within : (a b : List (Option Bool)) → Within a b → (z : ℤ) (x : Bool) → 0 < unsigned_abs z → signed_known a z ≡ Some x → signed_known b z ≡ Some x
signed-within a b h (pos k) x some e = h k x some e
signed-within a b h (negsuc k) x some e = by (known_value a (suc k)) refl e
  where
    by : (r : Option Bool) → known_value a (suc k) ≡ r → option_map not r ≡ Some x → option_map not (known_value b (suc k)) ≡ Some x
    by None is e = absurd cc
    by (Some y) is e = ap (option_map not) (h (suc k) y some is) ∙ e

pub literal-within : (a b : List (Option Bool)) → Within a b → (l : Lit) (x : Bool) → 0 < variable l → known_literal a l ≡ Some x → known_literal b l ≡ Some x
literal-within a b h l x some e = signed-within a b h l.0 x some e

pub true-within : (a b : List (Option Bool)) → Within a b → (l : Lit) → 0 < variable l → is_known_true a l ≡ true → is_known_true b l ≡ true
true-within a b h l some e = by (known_literal a l) refl e
  where
    by : (r : Option Bool) → known_literal a l ≡ r → option_map_or (λ x. x) r false ≡ true → is_known_true b l ≡ true
    by None is e = absurd cc
    by (Some x) is e = ap (λ (r : Option Bool). option_map_or (λ x. x) r false) (literal-within a b h l x some is) ∙ e

pub false-within : (a b : List (Option Bool)) → Within a b → (l : Lit) → 0 < variable l → is_known_false a l ≡ true → is_known_false b l ≡ true
false-within a b h l some e = true-within a b h (negate l) (rw variable-negate some) e

pub others-within : (a b : List (Option Bool)) → Within a b → (n : ℕ) (l : Lit) (c : List Lit) → AllByRecursion (IsLiteral n) c → others_false a l c ≡ true → others_false b l c ≡ true
others-within a b h n l [] inside e = refl
others-within a b h n l (m ∷ ms) inside e =
    and-both (same_literal m l || is_known_false b m) (others_false b l ms)
    (by (same_literal m l) (and-first (same_literal m l || is_known_false a m) (others_false a l ms) e))
    (others-within a b h n l ms inside.1 (and-second (same_literal m l || is_known_false a m) (others_false a l ms) e))
  where
    by : (t : Bool) → (t || is_known_false a m) ≡ true → (t || is_known_false b m) ≡ true
    by true e = refl
    by false e = false-within a b h m inside.0.0 e

pub all_false-within : (a b : List (Option Bool)) → Within a b → (n : ℕ) (c : List Lit) → AllByRecursion (IsLiteral n) c → list_all (is_known_false a) c ≡ true → list_all (is_known_false b) c ≡ true
all_false-within a b h n [] inside e = refl
all_false-within a b h n (m ∷ ms) inside e =
    and-both (is_known_false b m) (list_all (is_known_false b) ms) (false-within a b h m inside.0.0 (and-first (is_known_false a m) (list_all (is_known_false a) ms) e))
    (all_false-within a b h n ms inside.1 (and-second (is_known_false a m) (list_all (is_known_false a) ms) e))

-- what one clause of a list does, some clause does
pub any-at : (p : List Lit → Bool) (cs : List (List Lit)) (k : ℕ) → k < length cs → p (get_or cs k []) ≡ true → list_any p cs ≡ true
any-at p [] k h e = absurd (omega arith)
any-at p (c ∷ cs) zero h e = ap (λ (x : Bool). x || list_any p cs) e
any-at p (c ∷ cs) (suc k) h e = or-right (p c) (list_any p cs) (any-at p cs k (omega arith) e)
  where
    or-right : (a b : Bool) → b ≡ true → (a || b) ≡ true
    or-right true b e = refl
    or-right false b e = e

pub clause-at : (n : ℕ) (cs : List (List Lit)) (k : ℕ) → AllByRecursion (AllByRecursion (IsLiteral n)) cs → AllByRecursion (IsLiteral n) (get_or cs k [])
clause-at n [] k inside = tt
clause-at n (c ∷ cs) zero inside = inside.0
clause-at n (c ∷ cs) (suc k) inside = clause-at n cs k inside.1

module _ (f : Formula) (start : List (Option Bool)) (short : length start ≤ f.vars) where
  abbrev pub rounds : ℕ → List (Option Bool)
  rounds n = known_after f n start

  -- no round knows of variables past the last
  pub rounds-inside : (n k : ℕ) (x : Bool) → 0 < k → known_value (rounds n) k ≡ Some x → k ≤ f.vars
  rounds-inside zero k x some e =
      ⊎_elim (λ gt. let none : known_value start k ≡ None = get_or_past start (k - 1) None (omega arith) in absurd cc) (λ le. le) (cases_lt f.vars k)
  rounds-inside (suc n) k x some e =
      ⊎_elim (λ gt. let none : known_value (rounds (suc n)) k ≡ None = known_value-past f (rounds n) k gt in absurd cc) (λ le. le) (cases_lt f.vars k)

  pub rounds-more : (n : ℕ) → Within (rounds n) (rounds (suc n))
  rounds-more n k x some e =
      known_value-next f (rounds n) k some (rounds-inside n k x some e)
      ∙ ap (λ (r : Option Bool). option_or r (if list_any (forces (rounds n) (record { 0 = pos k })) f.clauses then Some true
      else if list_any (forces (rounds n) (negate (record { 0 = pos k }))) f.clauses then Some false else None)) e

  rounds-plus : (n d : ℕ) → Within (rounds n) (rounds (n + d))
  rounds-plus n zero = subst (λ (m : ℕ). Within (rounds n) (rounds m)) (sym (add-zero n)) (within-refl (rounds n))
  rounds-plus n (suc d) =
      subst (λ (m : ℕ). Within (rounds n) (rounds m)) (sym (add-suc n d)) (within-trans (rounds n) (rounds (n + d)) (rounds (suc (n + d))) (rounds-plus n d) (rounds-more (n + d)))

  pub rounds-up : (m n : ℕ) → m ≤ n → Within (rounds m) (rounds n)
  rounds-up m n le = let e : m + (n - m) ≡ n = omega arith in subst (λ (k : ℕ). Within (rounds m) (rounds k)) e (rounds-plus m (n - m))

-- where one literal and all others are known to be false, all are
others-all_false : (a : List (Option Bool)) (l : Lit) (c : List Lit) → others_false a l c ≡ true → is_known_false a l ≡ true → list_all (is_known_false a) c ≡ true
others-all_false a l [] others e = refl
others-all_false a l (m ∷ ms) others e =
    and-both (is_known_false a m) (list_all (is_known_false a) ms)
    (by (same_literal m l) refl (and-first (same_literal m l || is_known_false a m) (others_false a l ms) others))
    (others-all_false a l ms (and-second (same_literal m l || is_known_false a m) (others_false a l ms) others) e)
  where
    by : (t : Bool) → same_literal m l ≡ t → (t || is_known_false a m) ≡ true → is_known_false a m ≡ true
    by true is h = ap (is_known_false a) (same_literal-eq m l is) ∙ e
    by false is h = h

pub conflict-within : (a b : List (Option Bool)) → Within a b → (n : ℕ) (cs : List (List Lit)) → AllByRecursion (AllByRecursion (IsLiteral n)) cs → has_conflict cs a ≡ true → has_conflict cs b ≡ true
conflict-within a b h n [] inside e = e
conflict-within a b h n (c ∷ cs) inside e = by (list_all (is_known_false a) c) refl e (conflict-within a b h n cs inside.1)
  where
    by : (t : Bool) → list_all (is_known_false a) c ≡ t → (t || has_conflict cs a) ≡ true → (has_conflict cs a ≡ true → has_conflict cs b ≡ true) →
        (list_all (is_known_false b) c || has_conflict cs b) ≡ true
    by true is e rest = ap (λ (x : Bool). x || has_conflict cs b) (all_false-within a b h n c inside.0 is)
    by false is e rest = or-right (list_all (is_known_false b) c) (has_conflict cs b) (rest e)
      where
        or-right : (x y : Bool) → y ≡ true → (x || y) ≡ true
        or-right true y e = refl
        or-right false y e = e

module _ (f : Formula) (inside : AllByRecursion (AllByRecursion (IsLiteral f.vars)) f.clauses) (start : List (Option Bool)) (short : length start ≤ f.vars)
    (calm : has_conflict f.clauses (closure f start) ≡ false) where
  -- no clause contradicts a round
  calm-at : (i k : ℕ) → i ≤ f.vars + 1 → k < length f.clauses → list_all (is_known_false (known_after f i start)) (get_or f.clauses k []) ≡ true → ⊥
  unfolding closure
  calm-at i k le at all =
      let c : List Lit = get_or f.clauses k [] in
      let all_after : list_all (is_known_false (closure f start)) c ≡ true =
      all_false-within (known_after f i start) (closure f start) (rounds-up f start short i (f.vars + 1) le) f.vars c (clause-at f.vars f.clauses k inside) all in
      let conflict : has_conflict f.clauses (closure f start) ≡ true = any-at (list_all (is_known_false (closure f start))) f.clauses k at all_after in
      absurd cc

  module _ (i k : ℕ) (le : suc i ≤ f.vars + 1) (at : k < length f.clauses) where
    -- what a clause forces is found in the next round
    forced-int : (z : ℤ) → 0 < unsigned_abs z → unsigned_abs z ≤ f.vars → has_literal (get_or f.clauses k []) (record { 0 = z }) ≡ true →
        others_false (known_after f i start) (record { 0 = z }) (get_or f.clauses k []) ≡ true → signed_known (known_after f (suc i) start) z ≡ Some true
    forced-int (pos n) some most has others = by (known_value (known_after f i start) n) refl
      where
        by : (r : Option Bool) → known_value (known_after f i start) n ≡ r → known_value (known_after f (suc i) start) n ≡ Some true
        by (Some true) is = rounds-more f start short i n true some is
        by (Some false) is =
            absurd (calm-at i k (omega arith) at (others-all_false (known_after f i start) (record { 0 = pos n }) (get_or f.clauses k []) others
            (false-of (known_after f i start) (record { 0 = pos n }) (Some false) some is)))
        by None is =
            let any : list_any (forces (known_after f i start) (record { 0 = pos n })) f.clauses ≡ true =
            any-at (forces (known_after f i start) (record { 0 = pos n })) f.clauses k at
            (and-both (has_literal (get_or f.clauses k []) (record { 0 = pos n })) (others_false (known_after f i start) (record { 0 = pos n }) (get_or f.clauses k [])) has others) in
            known_value-next f (known_after f i start) n some most
            ∙ ap (λ (r : Option Bool). option_or r (if list_any (forces (known_after f i start) (record { 0 = pos n })) f.clauses then Some true
            else if list_any (forces (known_after f i start) (negate (record { 0 = pos n }))) f.clauses then Some false else None)) is
            ∙ ap (λ (t : Bool). option_or None (if t then Some true else if list_any (forces (known_after f i start) (negate (record { 0 = pos n }))) f.clauses then Some false else None)) any
    forced-int (negsuc n) some most has others = by (known_value (known_after f i start) (suc n)) refl
      where
        by_any : (t : Bool) → known_value (known_after f i start) (suc n) ≡ None → list_any (forces (known_after f i start) (record { 0 = pos (suc n) })) f.clauses ≡ t →
            option_map not (known_value (known_after f (suc i) start) (suc n)) ≡ Some true
        by_any t none is = step t is
          where
            after : (t : Bool) → list_any (forces (known_after f i start) (record { 0 = pos (suc n) })) f.clauses ≡ t →
                known_value (known_after f (suc i) start) (suc n) ≡ (if t then Some true else if list_any (forces (known_after f i start) (record { 0 = negsuc n })) f.clauses then Some false else None)
            after t is =
                known_value-next f (known_after f i start) (suc n) some most
                ∙ ap (λ (r : Option Bool). option_or r (if list_any (forces (known_after f i start) (record { 0 = pos (suc n) })) f.clauses then Some true
                else if list_any (forces (known_after f i start) (record { 0 = negsuc n })) f.clauses then Some false else None)) none
                ∙ ap (λ (t : Bool). option_or None (if t then Some true else if list_any (forces (known_after f i start) (record { 0 = negsuc n })) f.clauses then Some false else None)) is

            step : (t : Bool) → list_any (forces (known_after f i start) (record { 0 = pos (suc n) })) f.clauses ≡ t → option_map not (known_value (known_after f (suc i) start) (suc n)) ≡ Some true
            step true is =
                let wrong : known_literal (known_after f (suc i) start) (record { 0 = negsuc n }) ≡ Some false = ap (option_map not) (after true is) in
                absurd (calm-at (suc i) k le at (others-all_false (known_after f (suc i) start) (record { 0 = negsuc n }) (get_or f.clauses k [])
                (others-within (known_after f i start) (known_after f (suc i) start) (rounds-more f start short i) f.vars (record { 0 = negsuc n }) (get_or f.clauses k []) (clause-at f.vars f.clauses k inside) others)
                (false-of (known_after f (suc i) start) (record { 0 = negsuc n }) (Some false) some wrong)))
            step false is =
                let any : list_any (forces (known_after f i start) (record { 0 = negsuc n })) f.clauses ≡ true =
                any-at (forces (known_after f i start) (record { 0 = negsuc n })) f.clauses k at
                (and-both (has_literal (get_or f.clauses k []) (record { 0 = negsuc n })) (others_false (known_after f i start) (record { 0 = negsuc n }) (get_or f.clauses k [])) has others) in
                ap (option_map not) (after false is ∙ ap (λ (t : Bool). if t then Some false else None) any)

        by : (r : Option Bool) → known_value (known_after f i start) (suc n) ≡ r → option_map not (known_value (known_after f (suc i) start) (suc n)) ≡ Some true
        by (Some false) is = ap (option_map not) (rounds-more f start short i (suc n) false some is)
        by (Some true) is =
            let wrong : known_literal (known_after f i start) (record { 0 = negsuc n }) ≡ Some false = ap (option_map not) is in
            absurd (calm-at i k (omega arith) at (others-all_false (known_after f i start) (record { 0 = negsuc n }) (get_or f.clauses k []) others
            (false-of (known_after f i start) (record { 0 = negsuc n }) (Some false) some wrong)))
        by None is = by_any (list_any (forces (known_after f i start) (record { 0 = pos (suc n) })) f.clauses) is refl

    pub forced : (l : Lit) → IsLiteral f.vars l → has_literal (get_or f.clauses k []) l ≡ true → others_false (known_after f i start) l (get_or f.clauses k []) ≡ true →
        known_literal (known_after f (suc i) start) l ≡ Some true
    forced l h has others = forced-int l.0 h.0 h.1 has others
