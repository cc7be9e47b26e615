-- Clauses are entered under their literals, one after another.
use Rattle.std.proofs.Common.{◌≡◌, ℕ, suc, zero, ◌+◌, ◌*◌, ◌<◌, ◌≤◌, ◌≢◌, Bool, true, false, ◌||◌, List, [], ◌∷◌, ◌++◌, length, get_or, eqb, refl, ap, sym, ◌∙◌, subst, arith, ⊎_elim, get_or-set_same, get_or-set_other, drop, drop-cons, add-one}
use Rattle.std.specs.List.{AllByRecursion}
use Rattle.std.proofs.lemmas.Bool.Decides.{eqb_tells}
use Rattle.std.proofs.lemmas.Bool.{eq-eqb}
use Rattle.std.proofs.Math.ListN.{length-set}
use Rattle.prv_cnf.specs.declared.literal.Lit.{Lit}
use Rattle.prv_cnf.specs.Literals.{same_literal, has_literal}
use Rattle.prv_cnf.specs.Formulas.{IsLiteral}
use Rattle.prv_cnf.specs.Places.{place_of}
use Rattle.prv_cnf.proofs.Values.{same_literal-eq}
use Rattle.prv_cnf.proofs.Placing.{place_of-le}
use Rattle.prv_gate.specs.Occurrences.{occurrences_of, with_occurrence, with_occurrences, is_listed, total, AreEntered}

-- ---- numbers in lists

or-false : (a b : Bool) → (a || b) ≡ false → (a ≡ false) × (b ≡ false)
or-false true b e = absurd cc
or-false false b e = (refl, e)

pub listed-first : (k : ℕ) (xs ys : List ℕ) → is_listed k (xs ++ ys) ≡ false → is_listed k xs ≡ false
listed-first k [] ys e = refl
listed-first k (x ∷ xs) ys e = let h = or-false (eqb k x) (is_listed k (xs ++ ys)) e in ap (λ (b : Bool). b || is_listed k xs) h.0 ∙ listed-first k xs ys h.1

pub listed-last : (k : ℕ) (xs ys : List ℕ) → is_listed k (xs ++ ys) ≡ false → is_listed k ys ≡ false
listed-last k [] ys e = e
listed-last k (x ∷ xs) ys e = listed-last k xs ys (or-false (eqb k x) (is_listed k (xs ++ ys)) e).1

pub unlisted-both : (k : ℕ) (xs ys : List ℕ) → is_listed k xs ≡ false → is_listed k ys ≡ false → is_listed k (xs ++ ys) ≡ false
unlisted-both k [] ys e f = f
unlisted-both k (x ∷ xs) ys e f = let h = or-false (eqb k x) (is_listed k xs) e in ap (λ (b : Bool). b || is_listed k (xs ++ ys)) h.0 ∙ unlisted-both k xs ys h.1 f

pub listed-one : (k n : ℕ) → k ≡ n → is_listed k (n ∷ []) ≡ false → ⊥
listed-one k n e absent = let yes : eqb k n ≡ true = eq-eqb k n e in let one : (eqb k n || false) ≡ true = ap (λ (b : Bool). b || false) yes in absurd cc

pub unlisted-one : (k n : ℕ) → k ≢ n → is_listed k (n ∷ []) ≡ false
unlisted-one k n apart = by (eqb k n) refl
  where
    by : (b : Bool) → eqb k n ≡ b → (b || false) ≡ false
    by true e = ⊎_elim (λ same. absurd (apart same.1)) (λ other. let differ : eqb k n ≡ false = other.0 in absurd cc) (eqb_tells k n)
    by false e = refl

pub all-first : (P : ℕ → Type 0) (xs ys : List ℕ) → AllByRecursion P (xs ++ ys) → AllByRecursion P xs
all-first P [] ys h = tt
all-first P (x ∷ xs) ys h = (h.0, all-first P xs ys h.1)

pub all-last : (P : ℕ → Type 0) (xs ys : List ℕ) → AllByRecursion P (xs ++ ys) → AllByRecursion P ys
all-last P [] ys h = h
all-last P (x ∷ xs) ys h = all-last P xs ys h.1

pub all-both : (P : ℕ → Type 0) (xs ys : List ℕ) → AllByRecursion P xs → AllByRecursion P ys → AllByRecursion P (xs ++ ys)
all-both P [] ys h k = k
all-both P (x ∷ xs) ys h k = (h.0, all-both P xs ys h.1 k)

pub all-below : (m n : ℕ) → m ≤ n → (xs : List ℕ) → AllByRecursion (λ k. k < m) xs → AllByRecursion (λ k. k < n) xs
all-below m n le [] h = tt
all-below m n le (x ∷ xs) h = (omega (arith, h.0), all-below m n le xs h.1)

-- ---- places

-- literals of the first variables have places in a wide table
pub places-inside : (vars n : ℕ) (c : List Lit) → 2 * vars + 1 ≤ n → AllByRecursion (IsLiteral vars) c → AllByRecursion (λ l. place_of l < n) c
places-inside vars n [] wide inside = tt
places-inside vars n (l ∷ ls) wide inside = (omega (arith, place_of-le l, inside.0.1), places-inside vars n ls wide inside.1)

pub all-places-inside : (vars n : ℕ) (cs : List (List Lit)) → 2 * vars + 1 ≤ n → AllByRecursion (AllByRecursion (IsLiteral vars)) cs → AllByRecursion (AllByRecursion (λ l. place_of l < n)) cs
all-places-inside vars n [] wide inside = tt
all-places-inside vars n (c ∷ cs) wide inside = (places-inside vars n c wide inside.0, all-places-inside vars n cs wide inside.1)

-- ---- one clause entered

module _ (clause : ℕ) where
  -- what stands under a literal, once the clause was entered under another or under it
  under-other : (lists : List (List ℕ)) (l m : Lit) → place_of m ≢ place_of l → occurrences_of (with_occurrence clause l lists) m ≡ occurrences_of lists m
  under-other lists l m apart = get_or-set_other lists (place_of l) (place_of m) (occurrences_of lists l ++ clause ∷ []) [] apart

  under-same : (lists : List (List ℕ)) (l m : Lit) → place_of l < length lists → place_of m ≡ place_of l → occurrences_of (with_occurrence clause l lists) m ≡ occurrences_of lists m ++ clause ∷ []
  under-same lists l m at same =
      ap (λ (p : ℕ). get_or (with_occurrence clause l lists) p []) same
      ∙ get_or-set_same lists (place_of l) (occurrences_of lists l ++ clause ∷ []) [] at
      ∙ ap (λ (p : ℕ). get_or lists p [] ++ clause ∷ []) (sym same)

  pub length-with : (c : List Lit) (lists : List (List ℕ)) → length (with_occurrences clause c lists) ≡ length lists
  length-with [] lists = refl
  length-with (l ∷ ls) lists = length-with ls (with_occurrence clause l lists) ∙ length-set lists (place_of l) (occurrences_of lists l ++ clause ∷ [])

  inside-after : (lists : List (List ℕ)) (l : Lit) (ls : List Lit) → AllByRecursion (λ m. place_of m < length lists) ls → AllByRecursion (λ m. place_of m < length (with_occurrence clause l lists)) ls
  inside-after lists l ls h = subst (λ (n : ℕ). AllByRecursion (λ m. place_of m < n) ls) (sym (length-set lists (place_of l) (occurrences_of lists l ++ clause ∷ []))) h

  -- numbers stay in their lists
  pub unlisted-before : (k : ℕ) (m : Lit) (c : List Lit) (lists : List (List ℕ)) → AllByRecursion (λ l. place_of l < length lists) c →
      is_listed k (occurrences_of (with_occurrences clause c lists) m) ≡ false → is_listed k (occurrences_of lists m) ≡ false
  unlisted-before k m [] lists inside e = e
  unlisted-before k m (l ∷ ls) lists inside e =
      let later : is_listed k (occurrences_of (with_occurrence clause l lists) m) ≡ false = unlisted-before k m ls (with_occurrence clause l lists) (inside-after lists l ls inside.1) e in
      ⊎_elim
      (λ same. listed-first k (occurrences_of lists m) (clause ∷ []) (ap (is_listed k) (sym (under-same lists l m inside.0 same.1)) ∙ later))
      (λ apart. ap (is_listed k) (sym (under-other lists l m apart.1)) ∙ later)
      (eqb_tells (place_of m) (place_of l))

  -- the clause stands under each of its literals
  pub stands-under : (m : Lit) (c : List Lit) (lists : List (List ℕ)) → AllByRecursion (λ l. place_of l < length lists) c →
      is_listed clause (occurrences_of (with_occurrences clause c lists) m) ≡ false → has_literal c m ≡ false
  stands-under m [] lists inside e = refl
  stands-under m (l ∷ ls) lists inside e = by (same_literal m l) refl (stands-under m ls (with_occurrence clause l lists) (inside-after lists l ls inside.1) e)
    where
      by : (t : Bool) → same_literal m l ≡ t → has_literal ls m ≡ false → (t || has_literal ls m) ≡ false
      by true is rest =
          let later : is_listed clause (occurrences_of (with_occurrence clause l lists) m) ≡ false = unlisted-before clause m ls (with_occurrence clause l lists) (inside-after lists l ls inside.1) e in
          let one : is_listed clause (occurrences_of lists m ++ clause ∷ []) ≡ false = ap (is_listed clause) (sym (under-same lists l m inside.0 (ap place_of (same_literal-eq m l is)))) ∙ later in
          absurd (listed-one clause clause refl (listed-last clause (occurrences_of lists m) (clause ∷ []) one))
      by false is rest = rest

  -- no other number is new
  pub numbers-below : (n : ℕ) → clause < n → (c : List Lit) (lists : List (List ℕ)) → AllByRecursion (λ l. place_of l < length lists) c →
      ((m : Lit) → AllByRecursion (λ k. k < n) (occurrences_of lists m)) → (m : Lit) → AllByRecursion (λ k. k < n) (occurrences_of (with_occurrences clause c lists) m)
  numbers-below n small [] lists inside each m = each m
  numbers-below n small (l ∷ ls) lists inside each m =
      numbers-below n small ls (with_occurrence clause l lists) (inside-after lists l ls inside.1)
      (λ o. ⊎_elim
      (λ same. subst (AllByRecursion (λ k. k < n)) (sym (under-same lists l o inside.0 same.1)) (all-both (λ k. k < n) (occurrences_of lists o) (clause ∷ []) (each o) (small, tt)))
      (λ apart. subst (AllByRecursion (λ k. k < n)) (sym (under-other lists l o apart.1)) (each o))
      (eqb_tells (place_of o) (place_of l))) m

-- the next clause entered
pub entered-next : (cs : List (List Lit)) (n : ℕ) (lists next : List (List ℕ)) (c : List Lit) → AreEntered cs n lists → n < length cs → c ≡ get_or cs n [] →
    AllByRecursion (λ l. place_of l < length lists) c → next ≡ with_occurrences n c lists → AreEntered cs (n + 1) next
entered-next cs n lists next c h at same inside after = subst (AreEntered cs (n + 1)) (sym after) (record {
  below = omega arith;
  numbers = numbers-below n (n + 1) (omega arith) c lists inside (λ m. all-below n (n + 1) (omega arith) (occurrences_of lists m) (h.numbers m));
  stand = λ k l below absent. ⊎_elim
      (λ (is : (eqb k n ≡ true) × (k ≡ n)). ap (λ (j : ℕ). has_literal (get_or cs j []) l) is.1 ∙ ap (λ (d : List Lit). has_literal d l) (sym same)
      ∙ stands-under n l c lists inside (ap (λ (j : ℕ). is_listed j (occurrences_of (with_occurrences n c lists) l)) (sym is.1) ∙ absent))
      (λ (other : (eqb k n ≡ false) × (k ≢ n)). h.stand k l (omega (arith, other.1)) (unlisted-before n k l c lists inside absent))
      (eqb_tells k n);
})

-- more room changes nothing
pub entered-wider : (cs : List (List Lit)) (n : ℕ) (lists wide : List (List ℕ)) → ((p : ℕ) → get_or wide p [] ≡ get_or lists p []) → AreEntered cs n lists → AreEntered cs n wide
entered-wider cs n lists wide same h = record {
  below = h.below;
  numbers = λ l. subst (AllByRecursion (λ k. k < n)) (sym (same (place_of l))) (h.numbers l);
  stand = λ k l below absent. h.stand k l below (ap (is_listed k) (sym (same (place_of l))) ∙ absent);
}

-- their numbers, one after another
pub numbers-more : (from n : ℕ) (old new : List ℕ) → new ≡ old ++ n ∷ [] → ((k : ℕ) → k < n → is_listed k old ≡ false → k < from) → (k : ℕ) → k < n + 1 → is_listed k new ≡ false → k < from
numbers-more from n old new after h k below absent =
    let both : is_listed k (old ++ n ∷ []) ≡ false = ap (is_listed k) (sym after) ∙ absent in
    ⊎_elim
    (λ (same : (eqb k n ≡ true) × (k ≡ n)). absurd (listed-one k n same.1 (listed-last k old (n ∷ []) both)))
    (λ (other : (eqb k n ≡ false) × (k ≢ n)). h k (omega (arith, other.1)) (listed-first k old (n ∷ []) both))
    (eqb_tells k n)

pub numbers-rise : (n : ℕ) (old new : List ℕ) → new ≡ old ++ n ∷ [] → AllByRecursion (λ k. k < n) old → AllByRecursion (λ k. k < n + 1) new
numbers-rise n old new after h =
    subst (AllByRecursion (λ k. k < n + 1)) (sym after) (all-both (λ k. k < n + 1) old (n ∷ []) (all-below n (n + 1) (omega arith) old h) (omega arith, tt))

-- a table keeps its width
pub places-kept : (clause : ℕ) (c : List Lit) (lists next : List (List ℕ)) → next ≡ with_occurrences clause c lists → (cs : List (List Lit)) →
    AllByRecursion (AllByRecursion (λ l. place_of l < length lists)) cs → AllByRecursion (AllByRecursion (λ l. place_of l < length next)) cs
places-kept clause c lists next after cs h =
    subst (λ (n : ℕ). AllByRecursion (AllByRecursion (λ l. place_of l < n)) cs) (sym (ap length after ∙ length-with clause c lists)) h

pub place-kept : (clause : ℕ) (l : Lit) (lists next : List (List ℕ)) → next ≡ with_occurrence clause l lists → (c : List Lit) →
    AllByRecursion (λ m. place_of m < length lists) c → AllByRecursion (λ m. place_of m < length next) c
place-kept clause l lists next after c h =
    subst (λ (n : ℕ). AllByRecursion (λ m. place_of m < n) c) (sym (ap length after ∙ length-set lists (place_of l) (occurrences_of lists l ++ clause ∷ []))) h

pub places-at : (n : ℕ) (cs : List (List Lit)) (k : ℕ) → AllByRecursion (AllByRecursion (λ l. place_of l < n)) cs → AllByRecursion (λ l. place_of l < n) (get_or cs k [])
places-at n [] k h = tt
places-at n (c ∷ cs) zero h = h.0
places-at n (c ∷ cs) (suc k) h = places-at n cs k h.1

-- one literal of a clause after another
pub occurrences-more : (clause : ℕ) (c : List Lit) (i : ℕ) (d : Lit) (first lists next : List (List ℕ)) → i < length c → next ≡ with_occurrence clause (get_or c i d) lists →
    with_occurrences clause c first ≡ with_occurrences clause (drop i c) lists → with_occurrences clause c first ≡ with_occurrences clause (drop (i + 1) c) next
occurrences-more clause c i d first lists next at after rest =
    let split : drop i c ≡ get_or c i d ∷ drop (i + 1) c = drop-cons c i d at ∙ ap (λ (n : ℕ). get_or c i d ∷ drop n c) (sym (add-one i)) in
    rest ∙ ap (λ (ls : List Lit). with_occurrences clause ls lists) split ∙ ap (with_occurrences clause (drop (i + 1) c)) (sym after)

-- no list holds more than all do
pub total-most : (lists : List (List ℕ)) (p : ℕ) → length (get_or lists p []) ≤ total lists
total-most [] p = omega arith
total-most (x ∷ xs) zero = omega arith
total-most (x ∷ xs) (suc p) = omega (arith, total-most xs p)
