-- What examining a clause tells of it.
use Rattle.std.proofs.Common.{◌≡◌, ℕ, suc, zero, ◌<◌, Bool, true, false, not, ◌&&◌, ◌||◌, List, [], ◌∷◌, Option, None, Some, option_map, ℤ, pos, negsuc, neg_ℤ, unsigned_abs, refl, ap, sym, ◌∙◌, subst, arith, if◌then◌else◌}
use Rattle.std.specs.List.{list_all, AllByRecursion}
use Rattle.std.specs.Option.{option_map_or}
use Rattle.prv_cnf.specs.declared.literal.Lit.{Lit}
use Rattle.prv_cnf.specs.Literals.{variable, negate, same_literal, has_literal}
use Rattle.prv_cnf.specs.Formulas.{IsLiteral}
use Rattle.prv_cnf.proofs.Values.{same_literal-eq, same_literal_refl}
use Rattle.prv_gate.specs.Knowledge.{known_value, signed_known, known_literal}
use Rattle.prv_gate.specs.Propagation.{is_known_true, is_known_false}
use Rattle.prv_gate.specs.Examining.{examined, by_value, beside}
use Rattle.prv_gate.specs.declared.propagate.Examined.TheVariants.{Open, Forces, Conflict}
use Rattle.prv_gate.proofs.Frames.{and-both, and-first, and-second}

map_not-twice : (r : Option Bool) → r ≡ option_map not (option_map not r)
map_not-twice None = refl
map_not-twice (Some true) = refl
map_not-twice (Some false) = refl

signed_known-negate : (known : List (Option Bool)) (z : ℤ) → 0 < unsigned_abs z → signed_known known (neg_ℤ z) ≡ option_map not (signed_known known z)
signed_known-negate known (pos zero) h = absurd (omega arith)
signed_known-negate known (pos (suc n)) h = refl
signed_known-negate known (negsuc n) h = map_not-twice (known_value known (suc n))

pub known_literal-negate : (known : List (Option Bool)) (l : Lit) → 0 < variable l → known_literal known (negate l) ≡ option_map not (known_literal known l)
known_literal-negate known l h = signed_known-negate known l.0 h

-- whether a literal is known to be false, by what is known of it
false-by : (known : List (Option Bool)) (l : Lit) → 0 < variable l → is_known_false known l ≡ option_map_or (λ b. b) (option_map not (known_literal known l)) false
false-by known l h = ap (λ (r : Option Bool). option_map_or (λ b. b) r false) (known_literal-negate known l h)

pub false-of : (known : List (Option Bool)) (l : Lit) (r : Option Bool) → 0 < variable l → known_literal known l ≡ r → is_known_false known l ≡ option_map_or (λ b. b) (option_map not r) false
false-of known l r h e = false-by known l h ∙ ap (λ (r : Option Bool). option_map_or (λ b. b) (option_map not r) false) e

or-right : (a b : Bool) → b ≡ true → (a || b) ≡ true
or-right true b e = refl
or-right false b e = e

or-left : (a b : Bool) → a ≡ true → (a || b) ≡ true
or-left a b e = ap (λ (x : Bool). x || b) e

or-not : (a b : Bool) → (a || b) ≡ true → b ≡ false → a ≡ true
or-not true b h e = refl
or-not false b h e = absurd cc

-- all of the clause but one literal is known to be false
abbrev pub others_false : List (Option Bool) → Lit → List Lit → Bool
others_false known l c = list_all (λ m. same_literal m l || is_known_false known m) c

module _ (known : List (Option Bool)) (n : ℕ) where
  conflict-some : (o : Lit) (c : List Lit) → examined known (Some o) c ≡ Conflict → ⊥
  conflict-some o [] e = cc
  conflict-some o (l ∷ ls) e = by (known_literal known l) (same_literal o l) e (conflict-some o ls)
    where
      by : (r : Option Bool) (t : Bool) → by_value r (Some o) l (λ f. examined known f ls) ≡ Conflict → (examined known (Some o) ls ≡ Conflict → ⊥) → ⊥
      by (Some true) t e rest = cc
      by (Some false) t e rest = rest e
      by None t e rest = choose (same_literal o l) e
        where
          choose : (t : Bool) → (if t then examined known (Some o) ls else Open) ≡ Conflict → ⊥
          choose true e = rest e
          choose false e = cc

  -- in a conflict all literals are known to be false
  pub conflict-all_false : (c : List Lit) → AllByRecursion (IsLiteral n) c → examined known None c ≡ Conflict → list_all (is_known_false known) c ≡ true
  conflict-all_false [] inside e = refl
  conflict-all_false (l ∷ ls) inside e = by (known_literal known l) refl e (conflict-all_false ls inside.1)
    where
      by : (r : Option Bool) → known_literal known l ≡ r → by_value r None l (λ f. examined known f ls) ≡ Conflict → (examined known None ls ≡ Conflict → list_all (is_known_false known) ls ≡ true) →
          (is_known_false known l && list_all (is_known_false known) ls) ≡ true
      by (Some true) is e rest = absurd cc
      by (Some false) is e rest = and-both (is_known_false known l) (list_all (is_known_false known) ls) (false-of known l (Some false) inside.0.0 is) (rest e)
      by None is e rest = absurd (conflict-some l ls e)

  -- where all literals are known to be false, there is a conflict
  pub all_false-conflict : (c : List Lit) → AllByRecursion (IsLiteral n) c → list_all (is_known_false known) c ≡ true → examined known None c ≡ Conflict
  all_false-conflict [] inside all = refl
  all_false-conflict (l ∷ ls) inside all =
      by (known_literal known l) refl (all_false-conflict ls inside.1 (and-second (is_known_false known l) (list_all (is_known_false known) ls) all))
    where
      by : (r : Option Bool) → known_literal known l ≡ r → examined known None ls ≡ Conflict → by_value r None l (λ f. examined known f ls) ≡ Conflict
      by (Some true) is rest = let no_false : is_known_false known l ≡ false = false-of known l (Some true) inside.0.0 is in
          let a_false : is_known_false known l ≡ true = and-first (is_known_false known l) (list_all (is_known_false known) ls) all in absurd cc
      by (Some false) is rest = rest
      by None is rest = let no_false : is_known_false known l ≡ false = false-of known l None inside.0.0 is in
          let a_false : is_known_false known l ≡ true = and-first (is_known_false known l) (list_all (is_known_false known) ls) all in absurd cc

  forces-some : (o l : Lit) (c : List Lit) → AllByRecursion (IsLiteral n) c → examined known (Some o) c ≡ Forces l → (o ≡ l) × (others_false known l c ≡ true)
  forces-some o l [] inside e = (cc, refl)
  forces-some o l (m ∷ ms) inside e = by (known_literal known m) refl e (forces-some o l ms inside.1)
    where
      choose : (t : Bool) → same_literal o m ≡ t → (if t then examined known (Some o) ms else Open) ≡ Forces l → (examined known (Some o) ms ≡ Forces l → (o ≡ l) × (others_false known l ms ≡ true)) →
          (o ≡ l) × (((same_literal m l || is_known_false known m) && others_false known l ms) ≡ true)
      choose true is e rest =
          let same : m ≡ l = sym (same_literal-eq o m is) ∙ (rest e).0 in
          ((rest e).0, and-both (same_literal m l || is_known_false known m) (others_false known l ms) (or-left (same_literal m l) (is_known_false known m) (ap (same_literal m) (sym same) ∙ same_literal_refl m)) (rest e).1)
      choose false is e rest = absurd cc

      by : (r : Option Bool) → known_literal known m ≡ r → by_value r (Some o) m (λ f. examined known f ms) ≡ Forces l → (examined known (Some o) ms ≡ Forces l → (o ≡ l) × (others_false known l ms ≡ true)) →
          (o ≡ l) × (((same_literal m l || is_known_false known m) && others_false known l ms) ≡ true)
      by (Some true) is e rest = absurd cc
      by (Some false) is e rest =
          ((rest e).0, and-both (same_literal m l || is_known_false known m) (others_false known l ms) (or-right (same_literal m l) (is_known_false known m) (false-of known m (Some false) inside.0.0 is)) (rest e).1)
      by None is e rest = choose (same_literal o m) refl e rest

  -- a literal that a clause forces stands there, isn't known, and all others are known to be false
  pub forces-one : (l : Lit) (c : List Lit) → AllByRecursion (IsLiteral n) c → examined known None c ≡ Forces l →
      (has_literal c l ≡ true) × (known_literal known l ≡ None) × (others_false known l c ≡ true) × IsLiteral n l
  forces-one l [] inside e = absurd cc
  forces-one l (m ∷ ms) inside e = by (known_literal known m) refl e (forces-one l ms inside.1)
    where
      by : (r : Option Bool) → known_literal known m ≡ r → by_value r None m (λ f. examined known f ms) ≡ Forces l →
          (examined known None ms ≡ Forces l → (has_literal ms l ≡ true) × (known_literal known l ≡ None) × (others_false known l ms ≡ true) × IsLiteral n l) →
          ((same_literal l m || has_literal ms l) ≡ true) × (known_literal known l ≡ None) × (((same_literal m l || is_known_false known m) && others_false known l ms) ≡ true) × IsLiteral n l
      by (Some true) is e rest = absurd cc
      by (Some false) is e rest =
          let r = rest e in (
            or-right (same_literal l m) (has_literal ms l) r.0,
            r.1,
            and-both (same_literal m l || is_known_false known m) (others_false known l ms) (or-right (same_literal m l) (is_known_false known m) (false-of known m (Some false) inside.0.0 is)) r.2,
            r.3,
          )
      by None is e rest =
          let r = forces-some m l ms inside.1 e in (
            or-left (same_literal l m) (has_literal ms l) (ap (λ (x : Lit). same_literal x m) (sym r.0) ∙ same_literal_refl m),
            ap (known_literal known) (sym r.0) ∙ is,
            and-both (same_literal m l || is_known_false known m) (others_false known l ms) (or-left (same_literal m l) (is_known_false known m) (ap (same_literal m) (sym r.0) ∙ same_literal_refl m)) r.1,
            subst (IsLiteral n) r.0 inside.0,
          )

  -- the literal that was found, if there is one, is this one
  IsFound : Option Lit → Lit → Type 0
  IsFound None l = Unit {0}
  IsFound (Some o) l = o ≡ l

  open-known : (found : Option Lit) (l : Lit) (c : List Lit) → AllByRecursion (IsLiteral n) c → IsFound found l → examined known found c ≡ Open → others_false known l c ≡ true → is_known_true known l ≡ true
  unfolding IsFound
  open-known None l [] inside is e others = absurd cc
  open-known (Some o) l [] inside is e others = absurd cc
  open-known found l (m ∷ ms) inside is e others =
      by (known_literal known m) refl e
      (λ f is_found found_open. open-known f l ms inside.1 is_found found_open (and-second (same_literal m l || is_known_false known m) (others_false known l ms) others))
    where
      here : (same_literal m l || is_known_false known m) ≡ true
      here = and-first (same_literal m l || is_known_false known m) (others_false known l ms) others

      next : (f : Option Lit) → IsFound f l → m ≡ l → beside f m (λ g. examined known g ms) ≡ Open → ((g : Option Lit) → IsFound g l → examined known g ms ≡ Open → is_known_true known l ≡ true) → is_known_true known l ≡ true
      next None is same e rest = rest (Some m) same e
      next (Some o) is same e rest =
          let test : same_literal o m ≡ true = ap (same_literal o) (same ∙ sym is) ∙ same_literal_refl o in
          rest (Some o) is (sym (ap (λ (t : Bool). if t then examined known (Some o) ms else Open) test) ∙ e)

      by : (r : Option Bool) → known_literal known m ≡ r → by_value r found m (λ f. examined known f ms) ≡ Open →
          ((f : Option Lit) → IsFound f l → examined known f ms ≡ Open → is_known_true known l ≡ true) → is_known_true known l ≡ true
      by (Some true) value e rest =
          let no_false : is_known_false known m ≡ false = false-of known m (Some true) inside.0.0 value in
          let same : m ≡ l = same_literal-eq m l (or-not (same_literal m l) (is_known_false known m) here no_false) in
          ap (is_known_true known) (sym same) ∙ ap (λ (r : Option Bool). option_map_or (λ b. b) r false) value
      by (Some false) value e rest = rest found is e
      by None value e rest =
          let no_false : is_known_false known m ≡ false = false-of known m None inside.0.0 value in
          let same : m ≡ l = same_literal-eq m l (or-not (same_literal m l) (is_known_false known m) here no_false) in
          next found is same e rest

  -- what an open clause forces is known
  pub open-closed : (l : Lit) (c : List Lit) → AllByRecursion (IsLiteral n) c → examined known None c ≡ Open → others_false known l c ≡ true → is_known_true known l ≡ true
  unfolding IsFound
  open-closed l c inside e others = open-known None l c inside tt e others

  -- an open clause has a literal that isn't known to be false
  pub open-no_conflict : (c : List Lit) → AllByRecursion (IsLiteral n) c → examined known None c ≡ Open → list_all (is_known_false known) c ≡ true → ⊥
  open-no_conflict c inside e all = let conflict : examined known None c ≡ Conflict = all_false-conflict c inside all in cc
