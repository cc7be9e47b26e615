-- Watch lists with a watch more, less, or changed.
use Rattle.std.proofs.Common.{◌≡◌, ℕ, suc, zero, ◌-◌, ◌<◌, ◌⊎◌, Bool, true, false, ◌||◌, List, [], ◌∷◌, ◌++◌, length, take, get_or, set, eqb, ltb, refl, sym, ap, inl, inr, ◌∙◌, arith}
use Rattle.std.specs.List.{list_all, list_any}
use Rattle.std.proofs.lemmas.Bool.{or_cases, true≢false, cases_lt, cases_eq, or_right, or_left, and_parts, and_from, eq-eqb, ne_eqb, lt-ltb, ltb-true}
use Rattle.std.proofs.lemmas.List.{get_or-set_same, get_or-set_other, length-set, length-take-le, take-take, take-set-le}
use Rattle.std.proofs.lemmas.List.Folds.{list_any-append, list_all-append}
use Rattle.prv_cnf.specs.declared.literal.Lit.{Lit}
use Rattle.prv_cnf.specs.Literals.{has_literal}
use Rattle.prv_propagate.specs.declared.watches.Watch.{Watch}
use Rattle.prv_cnf.specs.Places.{place_of}
use Rattle.prv_propagate.specs.Reasons.{clause_of}
use Rattle.prv_propagate.specs.Watching.{Watching, watches_of, watch_at, is_listed, is_entry, without, with_list, removed, blocked, added}
use Rattle.prv_cnf.proofs.Placing.{place_of-injective}

-- an element that passes a test has a place
pub any_place : {X : Type 0} (p : X → Bool) (d : X) (xs : List X) → list_any p xs ≡ true → (k : ℕ) × (k < length xs) × (p (get_or xs k d) ≡ true)
any_place p d [] h = absurd cc
any_place p d (x ∷ xs) h =
    elim (or_cases (p x) (list_any p xs) h) [
      | inl here ↦ (0, omega arith, here)
      | inr later ↦ let r = any_place p d xs later in (suc r.0, omega (arith, r.1), r.2)
    ]

pub all_place : {X : Type 0} (p : X → Bool) (d : X) (xs : List X) (k : ℕ) → list_all p xs ≡ true → k < length xs → p (get_or xs k d) ≡ true
all_place p d [] k h inside = absurd (omega arith)
all_place p d (x ∷ xs) zero h inside = (and_parts (p x) (list_all p xs) h).0
all_place p d (x ∷ xs) (suc k) h inside = all_place p d xs k (and_parts (p x) (list_all p xs) h).1 (omega arith)

pub all_from_places : {X : Type 0} (p : X → Bool) (d : X) (xs : List X) → ((k : ℕ) → k < length xs → p (get_or xs k d) ≡ true) → list_all p xs ≡ true
all_from_places p d [] each = refl
all_from_places p d (x ∷ xs) each = and_from (p x) (list_all p xs) (each 0 (omega arith)) (all_from_places p d xs (λ k h. each (suc k) (omega arith)))

pub all-weaker : {X : Type 0} (p q : X → Bool) (xs : List X) → ((x : X) → p x ≡ true → q x ≡ true) → list_all p xs ≡ true → list_all q xs ≡ true
all-weaker p q [] h all = refl
all-weaker p q (x ∷ xs) h all = let a = and_parts (p x) (list_all p xs) all in and_from (q x) (list_all q xs) (h x a.0) (all-weaker p q xs h a.1)

-- an element changed
pub any-set : {X : Type 0} (p : X → Bool) (xs : List X) (i : ℕ) (y d : X) → p y ≡ p (get_or xs i d) → list_any p xs ≡ true → list_any p (set xs i y) ≡ true
any-set p [] i y d same h = h
any-set p (x ∷ xs) zero y d same h = ap (λ b. b || list_any p xs) same ∙ h
any-set p (x ∷ xs) (suc i) y d same h =
    elim (or_cases (p x) (list_any p xs) h) [
      | inl here ↦ or_left (p x) (list_any p (set xs i y)) here
      | inr later ↦ or_right (p x) (list_any p (set xs i y)) (any-set p xs i y d same later)
    ]

pub all-set : {X : Type 0} (p : X → Bool) (xs : List X) (i : ℕ) (y : X) → p y ≡ true → list_all p xs ≡ true → list_all p (set xs i y) ≡ true
all-set p [] i y here all = refl
all-set p (x ∷ xs) zero y here all = and_from (p y) (list_all p xs) here (and_parts (p x) (list_all p xs) all).1
all-set p (x ∷ xs) (suc i) y here all = let a = and_parts (p x) (list_all p xs) all in and_from (p x) (list_all p (set xs i y)) a.0 (all-set p xs i y here a.1)

any-take : {X : Type 0} (p : X → Bool) (xs : List X) (n k : ℕ) (d : X) → k < n → k < length xs → p (get_or xs k d) ≡ true → list_any p (take n xs) ≡ true
any-take p [] n k d short inside h = absurd (omega arith)
any-take p (x ∷ xs) zero k d short inside h = absurd (omega arith)
any-take p (x ∷ xs) (suc n) zero d short inside h = or_left (p x) (list_any p (take n xs)) h
any-take p (x ∷ xs) (suc n) (suc k) d short inside h = or_right (p x) (list_any p (take n xs)) (any-take p xs n k d (omega arith) (omega arith) h)

pub all-take : {X : Type 0} (p : X → Bool) (n : ℕ) (xs : List X) → list_all p xs ≡ true → list_all p (take n xs) ≡ true
all-take p zero xs h = refl
all-take p (suc n) [] h = refl
all-take p (suc n) (x ∷ xs) h = let a = and_parts (p x) (list_all p xs) h in and_from (p x) (list_all p (take n xs)) a.0 (all-take p n xs a.1)

-- a watch that fails a test is taken out
pub any-without : (p : Watch → Bool) (ws : List Watch) (i : ℕ) → i < length ws → list_any p ws ≡ true → p (watch_at ws i) ≡ false → list_any p (without ws i) ≡ true
any-without p ws i inside h fails =
    let d = watch_at [] 0 in
    let last = length ws - 1 in
    let moved = set ws i (watch_at ws last) in
    let r = any_place p d ws h in
    let apart : r.0 ≡ i → ⊥ = λ same. true≢false (sym r.2 ∙ ap (λ (k : ℕ). p (watch_at ws k)) same ∙ fails) in
    elim (cases_lt r.0 last) [
      | inl low ↦
          let e : watch_at moved r.0 ≡ watch_at ws r.0 = get_or-set_other ws i r.0 (watch_at ws last) d apart in
          any-take p moved last r.0 d low (omega (arith, r.1, length-set ws i (watch_at ws last))) (ap p e ∙ r.2)
      | inr high ↦
          let at_last : r.0 ≡ last = omega (arith, r.1) in
          let e : watch_at moved i ≡ watch_at ws r.0 = get_or-set_same ws i (watch_at ws last) d inside ∙ ap (λ (k : ℕ). watch_at ws k) (sym at_last) in
          let low : i < last = elim (cases_lt i last) [ inl yes_low ↦ yes_low | inr past ↦ absurd (apart (omega (arith, at_last))) ] in
          any-take p moved last i d low (omega (arith, length-set ws i (watch_at ws last))) (ap p e ∙ r.2)
    ]

pub all-without : (p : Watch → Bool) (ws : List Watch) (i : ℕ) → i < length ws → list_all p ws ≡ true → list_all p (without ws i) ≡ true
all-without p ws i inside h =
    let last = length ws - 1 in
    all-take p last (set ws i (watch_at ws last)) (all-set p ws i (watch_at ws last) (all_place p (watch_at [] 0) ws last h (omega arith)) h)

pub length-without : (ws : List Watch) (i : ℕ) → i < length ws → length (without ws i) ≡ length ws - 1
length-without ws i inside =
    let last = length ws - 1 in
    length-take-le last (set ws i (watch_at ws last)) (omega (arith, length-set ws i (watch_at ws last)))

-- the watches below the place stay
pub take-without : (ws : List Watch) (i : ℕ) → i < length ws → take i (without ws i) ≡ take i ws
take-without ws i inside =
    let last = length ws - 1 in
    take-take i last (set ws i (watch_at ws last)) (omega arith) ∙ take-set-le i ws i (watch_at ws last) (omega arith)

-- the list under a literal, and those under others, after it was changed
pub list_same : (w : Watching) (l x : Lit) (ws : List Watch) → place_of l < length w.lists → x ≡ l → watches_of (with_list w l ws) x ≡ ws
list_same w l x ws inside e = rw e (get_or-set_same w.lists (place_of l) ws [] inside)

pub list_other : (w : Watching) (l x : Lit) (ws : List Watch) → (x ≡ l → ⊥) → watches_of (with_list w l ws) x ≡ watches_of w x
list_other w l x ws apart = get_or-set_other w.lists (place_of l) (place_of x) ws [] (λ same. apart (place_of-injective x l same))

pub same_or_other : (x l : Lit) → (x ≡ l) ⊎ (x ≡ l → ⊥)
same_or_other x l = elim (cases_eq (place_of x) (place_of l)) [ inl same ↦ inl (place_of-injective x l same) | inr other ↦ inr (λ e. other (ap place_of e)) ]

-- what a change of one list keeps of a test of all lists
lists_changed : (p : Watch → Bool) (w : Watching) (l : Lit) (ws : List Watch) → place_of l < length w.lists → ((q : ℕ) → list_all p (get_or w.lists q []) ≡ true) → list_all p ws ≡ true → (q : ℕ) → list_all p (get_or (set w.lists (place_of l) ws) q []) ≡ true
lists_changed p w l ws inside each here q =
    elim (cases_eq q (place_of l)) [
      | inl same ↦ rw (same, get_or-set_same w.lists (place_of l) ws [] inside) here
      | inr other ↦ rw (get_or-set_other w.lists (place_of l) q ws [] other) (each q)
    ]

-- clauses stay listed
pub removed_keeps : (w : Watching) (l : Lit) (at : ℕ) (k : ℕ) (x : Lit) → place_of l < length w.lists → at < length (watches_of w l) → is_listed k (watches_of w x) ≡ true → (x ≡ l → k ≡ (watch_at (watches_of w l) at).clause → ⊥) → is_listed k (watches_of (removed w l at) x) ≡ true
removed_keeps w l at k x inside here listed apart =
    elim (same_or_other x l) [
      | inl same ↦
          rw (list_same w l x (without (watches_of w l) at) inside same)
          (any-without (λ e. eqb k e.clause) (watches_of w l) at here (ap (λ (y : Lit). is_listed k (watches_of w y)) (sym same) ∙ listed) (ne_eqb k (watch_at (watches_of w l) at).clause (apart same)))
      | inr other ↦ rw (list_other w l x (without (watches_of w l) at) other) listed
    ]

pub blocked_keeps : (w : Watching) (l : Lit) (at : ℕ) (b : Lit) (k : ℕ) (x : Lit) → place_of l < length w.lists → at < length (watches_of w l) → is_listed k (watches_of w x) ≡ true → is_listed k (watches_of (blocked w l at b) x) ≡ true
blocked_keeps w l at b k x inside here listed =
    let ws = watches_of w l in
    let e : Watch = record { clause = (watch_at ws at).clause; blocker = b } in
    elim (same_or_other x l) [
      | inl same ↦ rw (list_same w l x (set ws at e) inside same) (any-set (λ e. eqb k e.clause) ws at e (watch_at [] 0) refl (ap (λ (y : Lit). is_listed k (watches_of w y)) (sym same) ∙ listed))
      | inr other ↦ rw (list_other w l x (set ws at e) other) listed
    ]

pub added_keeps : (w : Watching) (l : Lit) (n : ℕ) (b : Lit) (k : ℕ) (x : Lit) → place_of l < length w.lists → is_listed k (watches_of w x) ≡ true → is_listed k (watches_of (added w l n b) x) ≡ true
added_keeps w l n b k x inside listed =
    let ws = watches_of w l in
    let e : Watch = record { clause = n; blocker = b } in
    elim (same_or_other x l) [
      | inl same ↦
          rw (list_same w l x (ws ++ e ∷ []) inside same, list_any-append (λ e. eqb k e.clause) ws (e ∷ []))
          (or_left (is_listed k ws) (is_listed k (e ∷ [])) (ap (λ (y : Lit). is_listed k (watches_of w y)) (sym same) ∙ listed))
      | inr other ↦ rw (list_other w l x (ws ++ e ∷ []) other) listed
    ]

pub added_there : (w : Watching) (l : Lit) (n : ℕ) (b : Lit) → place_of l < length w.lists → is_listed n (watches_of (added w l n b) l) ≡ true
added_there w l n b inside =
    let ws = watches_of w l in
    let e : Watch = record { clause = n; blocker = b } in
    rw (list_same w l l (ws ++ e ∷ []) inside refl, list_any-append (λ e. eqb n e.clause) ws (e ∷ []))
    (or_right (is_listed n ws) (is_listed n (e ∷ [])) (or_left (eqb n n) false (eq-eqb n n refl)))

-- entries stay entries
abbrev pub AreEntries : List (List Lit) → List (List Watch) → Type 0
AreEntries cs lists = (q : ℕ) → list_all (is_entry cs) (get_or lists q []) ≡ true

pub removed_entries : (cs : List (List Lit)) (w : Watching) (l : Lit) (at : ℕ) → place_of l < length w.lists → at < length (watches_of w l) → AreEntries cs w.lists → AreEntries cs (removed w l at).lists
removed_entries cs w l at inside here each =
    lists_changed (is_entry cs) w l (without (watches_of w l) at) inside each (all-without (is_entry cs) (watches_of w l) at here (each (place_of l)))

pub entry_from : (cs : List (List Lit)) (e : Watch) → e.clause < length cs → has_literal (clause_of cs e.clause) e.blocker ≡ true → is_entry cs e ≡ true
entry_from cs e inside here = and_from (ltb e.clause (length cs)) (has_literal (clause_of cs e.clause) e.blocker) (lt-ltb e.clause (length cs) inside) here

pub entry_parts : (cs : List (List Lit)) (e : Watch) → is_entry cs e ≡ true → (e.clause < length cs) × (has_literal (clause_of cs e.clause) e.blocker ≡ true)
entry_parts cs e h =
    let a = and_parts (ltb e.clause (length cs)) (has_literal (clause_of cs e.clause) e.blocker) h in
    (ltb-true e.clause (length cs) a.0, a.1)

pub blocked_entries : (cs : List (List Lit)) (w : Watching) (l : Lit) (at : ℕ) (b : Lit) → place_of l < length w.lists → at < length (watches_of w l) → has_literal (clause_of cs (watch_at (watches_of w l) at).clause) b ≡ true → AreEntries cs w.lists → AreEntries cs (blocked w l at b).lists
blocked_entries cs w l at b inside here there each =
    let ws = watches_of w l in
    let e : Watch = record { clause = (watch_at ws at).clause; blocker = b } in
    let old = entry_parts cs (watch_at ws at) (all_place (is_entry cs) (watch_at [] 0) ws at (each (place_of l)) here) in
    lists_changed (is_entry cs) w l (set ws at e) inside each (all-set (is_entry cs) ws at e (entry_from cs e old.0 there) (each (place_of l)))

pub added_entries : (cs : List (List Lit)) (w : Watching) (l : Lit) (n : ℕ) (b : Lit) → place_of l < length w.lists → n < length cs → has_literal (clause_of cs n) b ≡ true → AreEntries cs w.lists → AreEntries cs (added w l n b).lists
added_entries cs w l n b inside known there each =
    let ws = watches_of w l in
    let e : Watch = record { clause = n; blocker = b } in
    lists_changed (is_entry cs) w l (ws ++ e ∷ []) inside each (list_all-append (is_entry cs) ws (e ∷ []) ∙ and_from (list_all (is_entry cs) ws) (list_all (is_entry cs) (e ∷ [])) (each (place_of l)) (and_from (is_entry cs e) true (entry_from cs e known there) refl))
