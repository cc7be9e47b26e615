-- An index finds each clause that another contains.
use Rattle.std.proofs.Common.{◌≡◌, ◌≢◌, ℕ, ◌<◌, Bool, true, false, List, [], ◌∷◌, ◌++◌, ◌⊎◌, length, get_or, replicate, refl, sym, subst, ap, ◌∙◌, inl, inr, arith, length-append, get_or-set_same, get_or-set_other}
use Rattle.std.specs.Prelude.{slice_index_or, nat_eq, nat_lt}
use Rattle.std.specs.List.{list_any, list_all}
use Rattle.std.proofs.lemmas.Bool.{or_cases, or_left, or_right, and_parts, and_from, cases_eq, cases_lt, ltb-true, lt-ltb, eqb-true, eq-eqb, true≢false, false_from_ne_true}
use Rattle.std.proofs.lemmas.List.Folds.{list_any-append, list_all-append, list_any_none, list_any_at, Any-from_list_any}
use Rattle.std.proofs.lemmas.List.{get_or_default, get_or-replicate, length-set, length-replicate}
use Rattle.std.proofs.Math.ListN.{get_or-append, get_or-eq_default}
use Rattle.std.proofs.Math.Seq.{get_or-append_seam}
use Rattle.prv_cnf.specs.declared.literal.Lit.{Lit}
use Rattle.prv_cnf.specs.Literals.{same_literal, has_literal}
use Rattle.prv_cnf.proofs.Values.{same_literal-eq, all-has_literal}
use Rattle.prv_check.specs.declared.index.Entry.{Entry}
use Rattle.prv_check.specs.Lines.{is_empty}
use Rattle.prv_cnf.specs.Places.{place_of}
use Rattle.prv_check.specs.Inner.Tables.{flag, are_flagged, IsTableOf}
use Rattle.prv_check.specs.Inner.Signatures.{signature}
use Rattle.prv_check.specs.Freshness.{contains_clause}
use Rattle.prv_check.specs.Inner.Indexing.{Listing, IsIndex, IsFound, IsListed, listed_under, is_entry}

-- a test that holds where another does
any_more : {X : Type 0} (p q : X → Bool) → ((x : X) → p x ≡ true → q x ≡ true) → (xs : List X) → list_any p xs ≡ true → list_any q xs ≡ true
any_more p q more [] here = here
any_more p q more (x ∷ xs) here =
    elim (or_cases (p x) (list_any p xs) here) [
      | inl first ↦ or_left (q x) (list_any q xs) (more x first)
      | inr later ↦ or_right (q x) (list_any q xs) (any_more p q more xs later)
    ]

all_more : {X : Type 0} (p q : X → Bool) → ((x : X) → p x ≡ true → q x ≡ true) → (xs : List X) → list_all p xs ≡ true → list_all q xs ≡ true
all_more p q more [] all = refl
all_more p q more (x ∷ xs) all =
    let parts = and_parts (p x) (list_all p xs) all in
    and_from (q x) (list_all q xs) (more x parts.0) (all_more p q more xs parts.1)

pub any_same : {X : Type 0} (p q : X → Bool) → ((x : X) → p x ≡ q x) → (xs : List X) → list_any p xs ≡ list_any q xs
any_same p q same [] = refl
any_same p q same (x ∷ xs) = rw (same x, any_same p q same xs) refl

-- what is contained has flagged literals where the other has
sub_flagged : (table : List Bool) (c d : List Lit) → contains_clause c d ≡ true → are_flagged table c ≡ true → are_flagged table d ≡ true
sub_flagged table c d contained all =
    all_more (has_literal c) (flag table) (λ x here. all-has_literal (flag table) c x all here) d contained

-- a table of a clause's literals flags each literal of just those clauses that it contains
pub flagged_contained : (c : List Lit) (seen : List Bool) → IsTableOf seen c → (d : List Lit) → are_flagged seen d ≡ contains_clause c d
flagged_contained c seen table [] = refl
flagged_contained c seen table (x ∷ xs) = rw (table x, flagged_contained c seen table xs) refl

pub flagged_entries : (c : List Lit) (seen : List Bool) → IsTableOf seen c → (cs : List (List Lit)) (es : List Entry) → list_any (λ e. are_flagged seen (slice_index_or cs e.number [])) es ≡ list_any (λ e. contains_clause c (slice_index_or cs e.number [])) es
flagged_entries c seen table cs es =
    any_same (λ e. are_flagged seen (slice_index_or cs e.number [])) (λ e. contains_clause c (slice_index_or cs e.number []))
    (λ e. flagged_contained c seen table (slice_index_or cs e.number [])) es

-- each clause contains the empty one
contains_empty : (c d : List Lit) → is_empty d ≡ true → contains_clause c d ≡ true
contains_empty c [] empty = refl
contains_empty c (x ∷ xs) empty = absurd cc

pub empty_contained : (c : List Lit) (cs : List (List Lit)) (i : Listing) → IsIndex cs i → i.has_empty ≡ true → list_any (contains_clause c) cs ≡ true
empty_contained c cs i index empty =
    any_more (λ d. is_empty d) (contains_clause c) (contains_empty c) cs (index.empties empty)

-- a clause of an entry is a clause
pub entry_contained : (p : List Lit → Bool) (cs : List (List Lit)) (es : List Entry) → list_all (is_entry cs) es ≡ true → list_any (λ e. p (slice_index_or cs e.number [])) es ≡ true → list_any p cs ≡ true
entry_contained p cs [] entries here = absurd cc
entry_contained p cs (e ∷ es) entries here =
    let parts = and_parts (is_entry cs e) (list_all (is_entry cs) es) entries in
    let inside = (and_parts (nat_lt e.number (length cs)) _ parts.0).0 in
    elim (or_cases (p (slice_index_or cs e.number [])) (list_any (λ e. p (slice_index_or cs e.number [])) es) here) [
      | inl first ↦ list_any_at p cs e.number [] (ltb-true e.number (length cs) inside) first
      | inr later ↦ entry_contained p cs es parts.1 later
    ]

-- no clause is contained where none is that is listed under a literal of the clause
nothing_at : (c : List Lit) (cs : List (List Lit)) (i : Listing) → IsIndex cs i → are_flagged i.occurs c ≡ true → i.has_empty ≡ false → ((j : ℕ) (d : Lit) → j < length c → list_any (λ e. contains_clause c (slice_index_or cs e.number [])) (slice_index_or i.lists (place_of (get_or c j d)) []) ≡ false) → (k : ℕ) → k < length cs → contains_clause c (slice_index_or cs k []) ≡ true → ⊥
nothing_at c cs i index occur filled none k inside contained = by (index.complete k inside)
  where
    by : IsFound i (slice_index_or cs k []) k → ⊥
    by (inl missing) = true≢false (sym (sub_flagged i.occurs c (slice_index_or cs k []) contained occur) ∙ missing)
    by (inr (inl (empty, has))) = true≢false (sym has ∙ filled)
    by (inr (inr (w, here, listed))) =
        let stands : has_literal c w ≡ true = all-has_literal (has_literal c) (slice_index_or cs k []) w contained here in
        let (j, x, within_c, at_j, same) = Any-from_list_any (same_literal w) c stands in
        let e : get_or c j x ≡ w = at_j ∙ sym (same_literal-eq w x same) in
        let P : Lit → Type 0 = λ l. list_any (λ n. contains_clause c (slice_index_or cs n.number [])) (slice_index_or i.lists (place_of l) []) ≡ false in
        let nowhere : P w = subst P e (none j x within_c) in
        let Q : ℕ → Type 0 = λ n. contains_clause c (slice_index_or cs n []) ≡ true in
        let found : list_any (λ n. contains_clause c (slice_index_or cs n.number [])) (slice_index_or i.lists (place_of w) []) ≡ true =
        any_more (λ n. nat_eq k n.number) (λ n. contains_clause c (slice_index_or cs n.number [])) (λ n same_number. subst Q (eqb-true k n.number same_number) contained) (slice_index_or i.lists (place_of w) []) listed in
        true≢false (sym found ∙ nowhere)

pub nothing_contained : (c : List Lit) (cs : List (List Lit)) (i : Listing) → IsIndex cs i → are_flagged i.occurs c ≡ true → i.has_empty ≡ false → ((j : ℕ) (d : Lit) → j < length c → list_any (λ e. contains_clause c (slice_index_or cs e.number [])) (slice_index_or i.lists (place_of (get_or c j d)) []) ≡ false) → list_any (contains_clause c) cs ≡ false
nothing_contained c cs i index occur filled none =
    list_any_none (contains_clause c) cs
    (λ k d inside. let P : List Lit → Type 0 = λ x. contains_clause c x ≡ false in
    subst P (get_or_default cs k [] d inside)
    (false_from_ne_true (contains_clause c (slice_index_or cs k [])) (nothing_at c cs i index occur filled none k inside)))

-- ---- one clause more

entry_more : (cs : List (List Lit)) (c : List Lit) (e : Entry) → is_entry cs e ≡ true → is_entry (cs ++ c ∷ []) e ≡ true
entry_more cs c e entry =
    let parts = and_parts (nat_lt e.number (length cs)) _ entry in
    let low : e.number < length cs = ltb-true e.number (length cs) parts.0 in
    and_from (nat_lt e.number (length (cs ++ c ∷ []))) _
    (lt-ltb e.number (length (cs ++ c ∷ [])) (omega (arith, length-append cs (c ∷ []))))
    (rw (get_or-append cs (c ∷ []) [] e.number low) parts.1)

entries_more : (cs : List (List Lit)) (c : List Lit) (es : List Entry) → list_all (is_entry cs) es ≡ true → list_all (is_entry (cs ++ c ∷ [])) es ≡ true
entries_more cs c es entries = all_more (is_entry cs) (is_entry (cs ++ c ∷ [])) (entry_more cs c) es entries

-- the entry of the last clause
abbrev last_entry : List (List Lit) → List Lit → Entry
last_entry cs c = record { signature = signature c; number = length cs }

last_is_entry : (cs : List (List Lit)) (c : List Lit) → is_entry (cs ++ c ∷ []) (last_entry cs c) ≡ true
last_is_entry cs c =
    and_from (nat_lt (length cs) (length (cs ++ c ∷ []))) _
    (lt-ltb (length cs) (length (cs ++ c ∷ [])) (omega (arith, length-append cs (c ∷ []))))
    (rw (get_or-append_seam cs c [] []) (eq-eqb (signature c) (signature c) refl))

-- the list at a place after an entry was added
list_under : (w : Lit) (e : Entry) (i : Listing) (p : ℕ) → place_of w < length i.lists → ((slice_index_or (listed_under w e i) p [] ≡ slice_index_or i.lists p []) × (p ≢ place_of w)) ⊎ ((slice_index_or (listed_under w e i) p [] ≡ slice_index_or i.lists p [] ++ e ∷ []) × (p ≡ place_of w))
list_under w e i p room =
    elim (cases_eq p (place_of w)) [
      | inl same ↦ inr (rw same (get_or-set_same i.lists (place_of w) _ [] room), same)
      | inr other ↦ inl (get_or-set_other i.lists (place_of w) p _ [] other, other)
    ]

complete_more : (cs : List (List Lit)) (c : List Lit) (old new : Listing) → IsIndex cs old → ((d : List Lit) (k : ℕ) → IsFound old d k → IsFound new d k) → IsFound new c (length cs) → (k : ℕ) → k < length (cs ++ c ∷ []) → IsFound new (slice_index_or (cs ++ c ∷ []) k []) k
complete_more cs c old new index kept here k inside =
    elim (cases_lt k (length cs)) [
      | inl before ↦
          let P : List Lit → Type 0 = λ d. IsFound new d k in
          subst P (sym (get_or-append cs (c ∷ []) [] k before)) (kept (slice_index_or cs k []) k (index.complete k before))
      | inr after ↦
          let e : length cs ≡ k = omega (arith, length-append cs (c ∷ [])) in
          let Q : ℕ → Type 0 = λ n. IsFound new (slice_index_or (cs ++ c ∷ []) n []) n in
          let R : List Lit → Type 0 = λ d. IsFound new d (length cs) in
          subst Q e (subst R (sym (get_or-append_seam cs c [] [])) here)
    ]

empties_more : (cs : List (List Lit)) (c : List Lit) → list_any is_empty cs ≡ true → list_any is_empty (cs ++ c ∷ []) ≡ true
empties_more cs c empty = rw (list_any-append is_empty cs (c ∷ [])) (or_left (list_any is_empty cs) _ empty)

index_skipped : (cs : List (List Lit)) (c : List Lit) (old : Listing) → IsIndex cs old → are_flagged old.occurs c ≡ false → IsIndex (cs ++ c ∷ []) old
index_skipped cs c old index missing = record {
  places = index.places;
  empties = λ has. empties_more cs c (index.empties has);
  entries = λ p. entries_more cs c (slice_index_or old.lists p []) (index.entries p);
  complete = complete_more cs c old old index (λ d k found. found) (inl missing);
}

index_empty : (cs : List (List Lit)) (c : List Lit) (old : Listing) → IsIndex cs old → c ≡ [] → IsIndex (cs ++ c ∷ []) (record old { has_empty = true })
index_empty cs c old index none = record {
  places = index.places;
  empties = λ has. rw (none, list_any-append is_empty cs ([] ∷ [])) (or_right (list_any is_empty cs) _ refl);
  entries = λ p. entries_more cs c (slice_index_or old.lists p []) (index.entries p);
  complete = complete_more cs c old (record old { has_empty = true }) index kept (inr (inl (rw none refl, refl)));
}
  where
    kept : (d : List Lit) (k : ℕ) → IsFound old d k → IsFound (record old { has_empty = true }) d k
    kept d k (inl missing) = inl missing
    kept d k (inr (inl (empty, has))) = inr (inl (empty, refl))
    kept d k (inr (inr found)) = inr (inr found)

index_under : (cs : List (List Lit)) (c : List Lit) (w : Lit) (old : Listing) → IsIndex cs old → has_literal c w ≡ true → place_of w < length old.lists → IsIndex (cs ++ c ∷ []) (record old { lists = listed_under w (last_entry cs c) old })
index_under cs c w old index here room = record {
  places = rw length-set index.places;
  empties = λ has. empties_more cs c (index.empties has);
  entries = entries;
  complete = complete_more cs c old new index kept last;
}
  where
    new : Listing
    new = record old { lists = listed_under w (last_entry cs c) old }

    entries : (p : ℕ) → list_all (is_entry (cs ++ c ∷ [])) (slice_index_or (listed_under w (last_entry cs c) old) p []) ≡ true
    entries p =
        let before = entries_more cs c (slice_index_or old.lists p []) (index.entries p) in
        elim (list_under w (last_entry cs c) old p room) [
          | inl (e, other) ↦ rw e before
          | inr (e, same) ↦ rw (e, list_all-append)
              (and_from (list_all (is_entry (cs ++ c ∷ [])) (slice_index_or old.lists p [])) _ before (and_from _ true (last_is_entry cs c) refl))
        ]

    listed : (p k : ℕ) → list_any (λ e. nat_eq k e.number) (slice_index_or old.lists p []) ≡ true → list_any (λ e. nat_eq k e.number) (slice_index_or (listed_under w (last_entry cs c) old) p []) ≡ true
    listed p k found =
        elim (list_under w (last_entry cs c) old p room) [
          | inl (e, other) ↦ rw e found
          | inr (e, same) ↦ rw (e, list_any-append) (or_left (list_any (λ e. nat_eq k e.number) (slice_index_or old.lists p [])) _ found)
        ]

    kept : (d : List Lit) (k : ℕ) → IsFound old d k → IsFound new d k
    kept d k (inl missing) = inl missing
    kept d k (inr (inl empty)) = inr (inl empty)
    kept d k (inr (inr (u, stands, found))) = inr (inr (u, stands, listed (place_of u) k found))

    last : IsFound new c (length cs)
    last =
        inr
        (inr (
          w,
          here,
          rw (get_or-set_same old.lists (place_of w) _ [] room, list_any-append)
              (or_right (list_any (λ e. nat_eq (length cs) e.number) (slice_index_or old.lists (place_of w) [])) _ (or_left (nat_eq (length cs) (length cs)) false (eq-eqb (length cs) (length cs) refl))),
        ))

-- one clause more, listed with its number
pub index_more : (cs : List (List Lit)) (c : List Lit) (old new : Listing) → IsIndex cs old → IsListed c (length cs) old new → IsIndex (cs ++ c ∷ []) new
index_more cs c old new index (inl (missing, same)) =
    subst (λ (i : Listing). IsIndex (cs ++ c ∷ []) i) (sym same) (index_skipped cs c old index missing)
index_more cs c old new index (inr (inl (none, same))) =
    subst (λ (i : Listing). IsIndex (cs ++ c ∷ []) i) (sym same) (index_empty cs c old index none)
index_more cs c old new index (inr (inr (w, here, room, same))) =
    subst (λ (i : Listing). IsIndex (cs ++ c ∷ []) i) (sym same) (index_under cs c w old index here room)

nothing_listed : (n p : ℕ) → get_or {A = List Entry} (replicate n []) p [] ≡ []
nothing_listed n p =
    elim (cases_lt p n) [
      | inl inside ↦ get_or-replicate n p [] [] inside
      | inr past ↦ get_or-eq_default (replicate n []) [] (rw length-replicate past)
    ]

-- no clauses
pub index_none : (occurs : List Bool) → IsIndex [] (record { occurs = occurs; has_empty = false; lists = replicate (length occurs) [] })
index_none occurs = record {
  places = length-replicate (length occurs) [];
  empties = λ has. absurd cc;
  entries = λ p. rw (nothing_listed (length occurs) p) refl;
  complete = λ k inside. absurd (omega arith);
}

pub listed_occurs : (c : List Lit) (n : ℕ) (old new : Listing) → IsListed c n old new → new.occurs ≡ old.occurs
listed_occurs c n old new (inl (missing, same)) = ap (λ (i : Listing). i.occurs) same
listed_occurs c n old new (inr (inl (none, same))) = ap (λ (i : Listing). i.occurs) same
listed_occurs c n old new (inr (inr (w, here, room, same))) = ap (λ (i : Listing). i.occurs) same
