-- Marked literals, as a list and a table.
use Rattle.std.proofs.Common.{◌≡◌, ℕ, ◌+◌, ◌<◌, Bool, true, false, not, cond, ◌&&◌, ◌||◌, List, [], ◌∷◌, ◌++◌, length, take, map, get_or, set, eqb, filter, refl, sym, ap, ◌∙◌, arith}
use Rattle.std.specs.List.{list_all}
use Rattle.std.proofs.Math.Bool.{and-false}
use Rattle.std.proofs.lemmas.Bool.{or_parts, or_from, true≢false, or_right, and_parts, and_from, false_from_ne_true, eqb-true, ne_eqb, not-true, not-false, not_from_false}
use Rattle.std.proofs.lemmas.List.{append-nil, map-append, take_more, length-set, get_or-set_same, get_or-set_other}
use Rattle.std.proofs.lemmas.List.Elements.{filter-append}
use Rattle.std.proofs.lemmas.List.Folds.{list_all-append}
use Rattle.prv_cnf.specs.declared.literal.Lit.{Lit}
use Rattle.prv_cnf.specs.Literals.{negate, same_literal, has_literal}
use Rattle.prv_cnf.proofs.Values.{same_literal-eq, same_literal_refl, all-has_literal}
use Rattle.prv_check.specs.Lines.{is_within, no_repeat}
use Rattle.prv_cnf.specs.Places.{place_of}
use Rattle.prv_propagate.proofs.Signs.{has_literal-push, all-push, same_literal-sym, or_false}
use Rattle.prv_cnf.proofs.Placing.{place_of-injective, place_of-le}
use Rattle.prv_propagate.proofs.Tabling.{within_parts}
use Rattle.prv_sat.specs.Marking.{Marking, is_marked, marked_of, AreMarks}

-- a literal of a filtered list
pub filter_has : (q : Lit → Bool) (xs : List Lit) (l : Lit) → has_literal (filter q xs) l ≡ (q l && has_literal xs l)
filter_has q [] l = sym (and-false (q l))
filter_has q (x ∷ xs) l = go (filter_has q xs l) (q x) refl (same_literal l x) refl
  where
    go : has_literal (filter q xs) l ≡ (q l && has_literal xs l) → (b : Bool) → q x ≡ b → (s : Bool) → same_literal l x ≡ s → has_literal (cond b (x ∷ filter q xs) (filter q xs)) l ≡ (q l && (same_literal l x || has_literal xs l))
    go later true e true h = let same : l ≡ x = same_literal-eq l x h in rw (h, same, e) refl
    go later true e false h = rw h later
    go later false e true h = let same : l ≡ x = same_literal-eq l x h in later ∙ rw (same, e) refl
    go later false e false h = rw h later

-- what the table says of a literal that is marked
pub marked_has : {n : ℕ} {table : List ℕ} {touched : List Lit} (m : AreMarks n table touched) (l : Lit) → has_literal (marked_of table touched) l ≡ is_marked table l
marked_has {n} {table} {touched} m l = filter_has (is_marked table) touched l ∙ go (is_marked table l) refl
  where
    go : (b : Bool) → is_marked table l ≡ b → (b && has_literal touched l) ≡ b
    go false e = refl
    go true e =
        let one : get_or table (place_of l) 0 ≡ 1 = eqb-true (get_or table (place_of l) 0) 1 e in
        let apart : eqb (get_or table (place_of l) 0) 0 ≡ false = rw one refl in
        not-false (has_literal touched l) (sym (m.marks l) ∙ apart)

-- a marked literal was touched
pub marked_touched : (table : List ℕ) (touched : List Lit) (l : Lit) → has_literal (marked_of table touched) l ≡ true → has_literal touched l ≡ true
marked_touched table touched l h = (and_parts (is_marked table l) (has_literal touched l) (sym (filter_has (is_marked table) touched l) ∙ h)).1

-- the place of a literal that was touched, or is of a variable
pub mark_inside : {n : ℕ} {table : List ℕ} {touched : List Lit} (m : AreMarks n table touched) (l : Lit) → is_within n l ≡ true → place_of l < length table
mark_inside {n} m l within = omega (arith, m.places, place_of-le l, within_parts n l within)

pub touched_inside : {n : ℕ} {table : List ℕ} {touched : List Lit} (m : AreMarks n table touched) (l : Lit) → has_literal touched l ≡ true → place_of l < length table
touched_inside {n} {table} {touched} m l here = mark_inside m l (all-has_literal (is_within n) touched l m.within here)

-- the marks of the others stay
marks_other : (table : List ℕ) (l x : Lit) (v : ℕ) → same_literal x l ≡ false → get_or (set table (place_of l) v) (place_of x) 0 ≡ get_or table (place_of x) 0
marks_other table l x v apart = get_or-set_other table (place_of l) (place_of x) v 0 (λ same. true≢false (sym (rw (place_of-injective x l same) (same_literal_refl l)) ∙ apart))

-- another mark of a literal that was touched
pub marks_again : {n : ℕ} {table : List ℕ} {touched : List Lit} (m : AreMarks n table touched) (l : Lit) (v : ℕ) → has_literal touched l ≡ true → (v ≡ 0 → ⊥) → AreMarks n (set table (place_of l) v) touched
marks_again {n} {table} {touched} m l v here some = record {
  small = m.small;
  places = length-set table (place_of l) v ∙ m.places;
  marks = λ x. go x (same_literal x l) refl;
  within = m.within;
  once = m.once;
}
  where
    go : (x : Lit) (s : Bool) → same_literal x l ≡ s → eqb (get_or (set table (place_of l) v) (place_of x) 0) 0 ≡ not (has_literal touched x)
    go x true h =
        let same : x ≡ l = same_literal-eq x l h in
        rw (same, get_or-set_same table (place_of l) v 0 (touched_inside m l here), here) (ne_eqb v 0 some)
    go x false h = rw (marks_other table l x v h) (m.marks x)

no_repeat-push : (xs : List Lit) (l : Lit) → no_repeat xs ≡ true → has_literal xs l ≡ false → no_repeat (xs ++ l ∷ []) ≡ true
no_repeat-push [] l h fresh = refl
no_repeat-push (x ∷ xs) l h fresh =
    let a = and_parts (not (has_literal xs x)) (no_repeat xs) h in
    let b = or_parts (same_literal l x) (has_literal xs l) fresh in
    let apart : same_literal x l ≡ false = false_from_ne_true (same_literal x l) (λ same. true≢false (sym (same_literal-sym x l same) ∙ b.0)) in
    let none : has_literal (xs ++ l ∷ []) x ≡ false = has_literal-push xs l x ∙ or_from (has_literal xs x) (same_literal x l) (not-true (has_literal xs x) a.0) apart in
    and_from (not (has_literal (xs ++ l ∷ []) x)) (no_repeat (xs ++ l ∷ [])) (not_from_false (has_literal (xs ++ l ∷ []) x) none) (no_repeat-push xs l a.1 b.1)

no_repeat-front : (xs : List Lit) (l : Lit) → no_repeat (xs ++ l ∷ []) ≡ true → (no_repeat xs ≡ true) × (has_literal xs l ≡ false)
no_repeat-front [] l h = (refl, refl)
no_repeat-front (x ∷ xs) l h =
    let a = and_parts (not (has_literal (xs ++ l ∷ []) x)) (no_repeat (xs ++ l ∷ [])) h in
    let b = or_parts (has_literal xs x) (same_literal x l) (sym (has_literal-push xs l x) ∙ not-true (has_literal (xs ++ l ∷ []) x) a.0) in
    let r = no_repeat-front xs l a.1 in
    let apart : same_literal l x ≡ false = false_from_ne_true (same_literal l x) (λ same. true≢false (sym (same_literal-sym l x same) ∙ b.1)) in
    (and_from (not (has_literal xs x)) (no_repeat xs) (not_from_false (has_literal xs x) b.0) r.0, or_from (same_literal l x) (has_literal xs l) apart r.1)

-- the first mark of a literal
pub marks_first : {n : ℕ} {table : List ℕ} {touched : List Lit} (m : AreMarks n table touched) (l : Lit) → is_within n l ≡ true → has_literal touched l ≡ false → AreMarks n (set table (place_of l) 1) (touched ++ l ∷ [])
marks_first {n} {table} {touched} m l within fresh = record {
  small = m.small;
  places = length-set table (place_of l) 1 ∙ m.places;
  marks = λ x. go x (same_literal x l) refl;
  within = all-push (is_within n) touched l m.within within;
  once = no_repeat-push touched l m.once fresh;
}
  where
    go : (x : Lit) (s : Bool) → same_literal x l ≡ s → eqb (get_or (set table (place_of l) 1) (place_of x) 0) 0 ≡ not (has_literal (touched ++ l ∷ []) x)
    go x true h =
        let same : x ≡ l = same_literal-eq x l h in
        let now : has_literal (touched ++ l ∷ []) l ≡ true = has_literal-push touched l l ∙ or_right (has_literal touched l) (same_literal l l) (same_literal_refl l) in
        rw (same, get_or-set_same table (place_of l) 1 0 (mark_inside m l within), now) refl
    go x false h =
        let stays : has_literal (touched ++ l ∷ []) x ≡ has_literal touched x = has_literal-push touched l x ∙ ap (λ b. has_literal touched x || b) h ∙ or_false (has_literal touched x) in
        rw (marks_other table l x 1 h, stays) (m.marks x)

-- the last mark goes
pub marks_pop : {n : ℕ} {table : List ℕ} (rest : List Lit) (l : Lit) (m : AreMarks n table (rest ++ l ∷ [])) → AreMarks n (set table (place_of l) 0) rest
marks_pop {n} {table} rest l m = record {
  small = m.small;
  places = length-set table (place_of l) 0 ∙ m.places;
  marks = λ x. go x (same_literal x l) refl;
  within = (and_parts (list_all (is_within n) rest) (list_all (is_within n) (l ∷ [])) (sym (list_all-append (is_within n) rest (l ∷ [])) ∙ m.within)).0;
  once = (no_repeat-front rest l m.once).0;
}
  where
    go : (x : Lit) (s : Bool) → same_literal x l ≡ s → eqb (get_or (set table (place_of l) 0) (place_of x) 0) 0 ≡ not (has_literal rest x)
    go x true h =
        let same : x ≡ l = same_literal-eq x l h in
        let in_list : has_literal (rest ++ l ∷ []) l ≡ true = has_literal-push rest l l ∙ or_right (has_literal rest l) (same_literal l l) (same_literal_refl l) in
        rw (same, get_or-set_same table (place_of l) 0 0 (touched_inside m l in_list), (no_repeat-front rest l m.once).1) refl
    go x false h =
        let stays : has_literal (rest ++ l ∷ []) x ≡ has_literal rest x = has_literal-push rest l x ∙ ap (λ b. has_literal rest x || b) h ∙ or_false (has_literal rest x) in
        rw (marks_other table l x 0 h, ← stays) (m.marks x)

-- which literals are marked after one mark changed
pub is_marked-set : (table : List ℕ) (l x : Lit) (v : ℕ) → place_of l < length table → is_marked (set table (place_of l) v) x ≡ cond (same_literal x l) (eqb v 1) (is_marked table x)
is_marked-set table l x v inside = go (same_literal x l) refl
  where
    go : (s : Bool) → same_literal x l ≡ s → is_marked (set table (place_of l) v) x ≡ cond s (eqb v 1) (is_marked table x)
    go true h = let same : x ≡ l = same_literal-eq x l h in rw (same, get_or-set_same table (place_of l) v 0 inside) refl
    go false h = rw (marks_other table l x v h) refl

pub cond_or : (s b : Bool) → cond s true b ≡ (b || s)
cond_or true true = refl
cond_or true false = refl
cond_or false true = refl
cond_or false false = refl

pub cond_and : (s b : Bool) → cond s false b ≡ (b && not s)
cond_and true true = refl
cond_and true false = refl
cond_and false true = refl
cond_and false false = refl

-- one literal more of those that were touched
filter-push : (q : Lit → Bool) (xs : List Lit) (l : Lit) → filter q (xs ++ l ∷ []) ≡ cond (q l) (filter q xs ++ l ∷ []) (filter q xs)
filter-push q xs l = filter-append q xs (l ∷ []) ∙ go (q l)
  where
    go : (b : Bool) → filter q xs ++ cond b (l ∷ []) [] ≡ cond b (filter q xs ++ l ∷ []) (filter q xs)
    go true = refl
    go false = append-nil (filter q xs)

pub negations_yes : (table : List ℕ) (touched : List Lit) (i : ℕ) (d : Lit) → i < length touched → is_marked table (get_or touched i d) ≡ true → map negate (marked_of table (take (i + 1) touched)) ≡ map negate (marked_of table (take i touched)) ++ negate (get_or touched i d) ∷ []
negations_yes table touched i d inside h =
    ap (λ (ls : List Lit). map negate (marked_of table ls)) (take_more touched i d inside)
    ∙ ap (map negate) (filter-push (is_marked table) (take i touched) (get_or touched i d) ∙ ap (λ b. cond b (marked_of table (take i touched) ++ get_or touched i d ∷ []) (marked_of table (take i touched))) h)
    ∙ map-append negate (marked_of table (take i touched)) (get_or touched i d ∷ [])

pub negations_no : (table : List ℕ) (touched : List Lit) (i : ℕ) (d : Lit) → i < length touched → is_marked table (get_or touched i d) ≡ false → map negate (marked_of table (take (i + 1) touched)) ≡ map negate (marked_of table (take i touched))
negations_no table touched i d inside h =
    ap (λ (ls : List Lit). map negate (marked_of table ls)) (take_more touched i d inside)
    ∙ ap (map negate) (filter-push (is_marked table) (take i touched) (get_or touched i d) ∙ ap (λ b. cond b (marked_of table (take i touched) ++ get_or touched i d ∷ []) (marked_of table (take i touched))) h)

-- a filtered list has no literal twice, and only literals of the list
pub no_repeat-filter : (q : Lit → Bool) (xs : List Lit) → no_repeat xs ≡ true → no_repeat (filter q xs) ≡ true
no_repeat-filter q [] h = refl
no_repeat-filter q (x ∷ xs) h =
    let a = and_parts (not (has_literal xs x)) (no_repeat xs) h in
    let later = no_repeat-filter q xs a.1 in
    let none : has_literal (filter q xs) x ≡ false = filter_has q xs x ∙ ap (λ b. q x && b) (not-true (has_literal xs x) a.0) ∙ and-false (q x) in
    go (q x) later none
  where
    go : (b : Bool) → no_repeat (filter q xs) ≡ true → has_literal (filter q xs) x ≡ false → no_repeat (cond b (x ∷ filter q xs) (filter q xs)) ≡ true
    go true later none = and_from (not (has_literal (filter q xs) x)) (no_repeat (filter q xs)) (not_from_false (has_literal (filter q xs) x) none) later
    go false later none = later

pub all-filter : (p q : Lit → Bool) (xs : List Lit) → list_all p xs ≡ true → list_all p (filter q xs) ≡ true
all-filter p q [] h = refl
all-filter p q (x ∷ xs) h =
    let a = and_parts (p x) (list_all p xs) h in
    go (q x) a.0 (all-filter p q xs a.1)
  where
    go : (b : Bool) → p x ≡ true → list_all p (filter q xs) ≡ true → list_all p (cond b (x ∷ filter q xs) (filter q xs)) ≡ true
    go true here later = and_from (p x) (list_all p (filter q xs)) here later
    go false here later = later

-- the marks as the code sets them
pub after_mark : {n : ℕ} {table more : List ℕ} {touched after : List Lit} (m : AreMarks n table touched) (w : AreMarks n more after) (l : Lit) (p : ℕ) → p ≡ place_of l → more ≡ set table p 1 → place_of l < length table → (x : Lit) → has_literal (marked_of more after) x ≡ (has_literal (marked_of table touched) x || same_literal x l)
after_mark {n} {table} {more} {touched} {after} m w l p e f inside x =
    marked_has w x
    ∙ ap (λ (t : List ℕ). is_marked t x) (f ∙ ap (λ (k : ℕ). set table k 1) e)
    ∙ is_marked-set table l x 1 inside
    ∙ cond_or (same_literal x l) (is_marked table x)
    ∙ ap (λ b. b || same_literal x l) (sym (marked_has m x))

pub after_unmark : {n : ℕ} {table more : List ℕ} {touched after : List Lit} (m : AreMarks n table touched) (w : AreMarks n more after) (l : Lit) (p : ℕ) → p ≡ place_of l → more ≡ set table p 2 → place_of l < length table → (x : Lit) → has_literal (marked_of more after) x ≡ (has_literal (marked_of table touched) x && not (same_literal x l))
after_unmark {n} {table} {more} {touched} {after} m w l p e f inside x =
    marked_has w x
    ∙ ap (λ (t : List ℕ). is_marked t x) (f ∙ ap (λ (k : ℕ). set table k 2) e)
    ∙ is_marked-set table l x 2 inside
    ∙ cond_and (same_literal x l) (is_marked table x)
    ∙ ap (λ b. b && not (same_literal x l)) (sym (marked_has m x))

abbrev pub make : ℕ → List Lit → Marking
make n ls = record { vars = n; marked = ls }

pub marking_none : (n m : ℕ) (ls : List Lit) → n ≡ m → ls ≡ [] → make n ls ≡ make m []
marking_none n m ls a b = rw (a, b) refl

-- whether a literal was touched, by the table
pub touched_now : {n : ℕ} {table : List ℕ} {touched : List Lit} (m : AreMarks n table touched) (l : Lit) (b : Bool) → eqb (get_or table (place_of l) 0) 0 ≡ b → has_literal touched l ≡ not b
touched_now {n} {table} {touched} m l b e = not_swap (has_literal touched l) b (sym (m.marks l) ∙ e)
  where
    not_swap : (a b : Bool) → not a ≡ b → a ≡ not b
    not_swap true b e = rw (← e) refl
    not_swap false b e = rw (← e) refl
