-- One clause more.
use Rattle.std.proofs.Common.{◌≡◌, ℕ, suc, zero, ◌+◌, ◌-◌, ◌*◌, ◌^◌, ◌<◌, ◌≤◌, true, false, not, ◌&&◌, ◌||◌, List, [], ◌∷◌, ◌++◌, length, take, map, get_or, replicate, ltb, leb, refl, sym, ap, subst, inl, inr, ◌∙◌, arith}
use Rattle.std.specs.List.{list_all, AllByRecursion}
use Rattle.std.proofs.lemmas.Bool.{or_cases, true≢false, or_right, or_left, and_from, false_from_ne_true, cases_lt, not-true, lt-ltb, le-leb}
use Rattle.std.proofs.lemmas.List.{length-replicate, get_or-replicate, get_or_past, get_or_append_left, get_or_push, length-set, length_push, take-append-le, take_all, take_more, length-take-le, take-take, map-append, append_assoc}
use Rattle.prv_cnf.specs.declared.literal.Lit.{Lit}
use Rattle.prv_cnf.specs.Literals.{variable, negate, same_literal, has_literal}
use Rattle.prv_cnf.specs.Formulas.{Formula, IsLiteral}
use Rattle.prv_cnf.proofs.Values.{same_literal-eq, same_literal_refl, negate-negate, all-has_literal}
use Rattle.prv_check.specs.LogLines.{LogLine}
use Rattle.prv_check.specs.Propagation.{is_false}
use Rattle.prv_check.specs.Lines.{known, is_within}
use Rattle.prv_propagate.specs.declared.trail.Step.{Step}
use Rattle.prv_propagate.specs.declared.watches.Pair.{Pair}
use Rattle.prv_propagate.specs.declared.watches.Watch.{Watch}
use Rattle.prv_cnf.specs.Places.{place_of}
use Rattle.prv_propagate.specs.Trails.{Trailing, trues, step_at, IsDecision, IsAssignment}
use Rattle.prv_propagate.specs.Reasons.{clause_of, is_falsified, are_others_false, is_reason, IsJustified, AreJustified}
use Rattle.prv_propagate.specs.Guards.{pair_of, is_pair, is_guarded, AreGuarded, IsBased}
use Rattle.prv_propagate.specs.Watching.{Watching, watches_of, is_listed, is_entry, IsWatched, added, attached}
use Rattle.prv_propagate.specs.Soundness.{IsSound, ArePropagated}
use Rattle.prv_propagate.specs.Loading.{AreImplied, IsLoading, IsAsserting}
use Rattle.prv_propagate.proofs.Signs.{has_literal-push, all-from_each}
use Rattle.prv_propagate.proofs.Stepping.{trues_push, true_at, EachStep-push}
use Rattle.prv_propagate.proofs.Listing.{all-weaker, added_keeps, added_there, AreEntries, added_entries, entry_parts, entry_from}
use Rattle.prv_propagate.proofs.Guarding.{IsWithin, satisfied_from, guarded_later, guarded_satisfied, guarded_free, free_from, pair_parts, pair_from}
use Rattle.prv_propagate.proofs.Walking.{within_push, within_take}

-- the clauses with one line more
pub known_push : (f : Formula) (lines : List LogLine) (s : LogLine) → known f (lines ++ s ∷ []) ≡ known f lines ++ s.clause ∷ []
known_push f lines s =
    ap (λ (cs : List (List Lit)). f.clauses ++ cs) (map-append (λ (s : LogLine). s.clause) lines (s ∷ []))
    ∙ sym (append_assoc f.clauses (map (λ (s : LogLine). s.clause) lines) (s.clause ∷ []))

clause_before : (cs : List (List Lit)) (c : List Lit) (k : ℕ) → k < length cs → clause_of (cs ++ c ∷ []) k ≡ clause_of cs k
clause_before cs c k inside = get_or_append_left cs (c ∷ []) [] k inside

clause_last : (cs : List (List Lit)) (c : List Lit) (k : ℕ) → length cs ≡ k → clause_of (cs ++ c ∷ []) k ≡ c
clause_last cs c k e = get_or_push cs c [] k e

entry_later : (cs : List (List Lit)) (c : List Lit) (e : Watch) → is_entry cs e ≡ true → is_entry (cs ++ c ∷ []) e ≡ true
entry_later cs c e h =
    let a = entry_parts cs e h in
    entry_from (cs ++ c ∷ []) e (omega (arith, a.0, length_push cs c)) (rw (clause_before cs c e.clause a.0) a.1)

-- the watches with one clause more
pub attach_more : (cs : List (List Lit)) (c : List Lit) (w : Watching) (p : Pair) (n : ℕ) → IsWatched cs w → n ≡ length cs → is_pair c p ≡ true → place_of p.first < length w.lists → place_of p.second < length w.lists → IsWatched (cs ++ c ∷ []) (attached w n p)
attach_more cs c w p n watched e paired first second =
    let d = pair_of [] 0 in
    let base : Watching = record { pairs = w.pairs ++ p ∷ []; lists = w.lists } in
    let one = added base p.first n p.second in
    let second_one : place_of p.second < length one.lists = omega (arith, second, length-set w.lists (place_of p.first) (watches_of base p.first ++ record { clause = n; blocker = p.second } ∷ [])) in
    let keeps : (k : ℕ) (x : Lit) → is_listed k (watches_of w x) ≡ true → is_listed k (watches_of (attached w n p) x) ≡ true = λ k x h. added_keeps one p.second n p.first k x second_one (added_keeps base p.first n p.second k x first h) in
    let parts = pair_parts c p paired in
    let n_last : clause_of (cs ++ c ∷ []) n ≡ c = clause_last cs c n (sym e) in
    let n_inside : n < length (cs ++ c ∷ []) = omega (arith, e, length_push cs c) in
    let entries : AreEntries (cs ++ c ∷ []) w.lists = λ q. all-weaker (is_entry cs) (is_entry (cs ++ c ∷ [])) (get_or w.lists q []) (λ x h. entry_later cs c x h) (watched.entries q) in
    record {
      each = omega (arith, watched.each, length_push w.pairs p, length_push cs c);
      pairs = λ k inside. elim (cases_lt k (length cs)) [
        | inl early ↦ rw (clause_before cs c k early, get_or_append_left w.pairs (p ∷ []) d k (omega (arith, early, watched.each))) (watched.pairs k early)
        | inr late ↦
            let last : length cs ≡ k = omega (arith, late, inside, length_push cs c) in
            rw (clause_last cs c k last, get_or_push w.pairs p d k (watched.each ∙ last)) paired
      ];
      firsts = λ k inside. elim (cases_lt k (length cs)) [
        | inl early ↦ rw (get_or_append_left w.pairs (p ∷ []) d k (omega (arith, early, watched.each))) (keeps k (pair_of w.pairs k).first (watched.firsts k early))
        | inr late ↦
            let last : length cs ≡ k = omega (arith, late, inside, length_push cs c) in
            let same : k ≡ n = omega (arith, last, e) in
            rw (get_or_push w.pairs p d k (watched.each ∙ last), same) (added_keeps one p.second n p.first n p.first second_one (added_there base p.first n p.second first))
      ];
      seconds = λ k inside. elim (cases_lt k (length cs)) [
        | inl early ↦ rw (get_or_append_left w.pairs (p ∷ []) d k (omega (arith, early, watched.each))) (keeps k (pair_of w.pairs k).second (watched.seconds k early))
        | inr late ↦
            let last : length cs ≡ k = omega (arith, late, inside, length_push cs c) in
            let same : k ≡ n = omega (arith, last, e) in
            rw (get_or_push w.pairs p d k (watched.each ∙ last), same) (added_there one p.second n p.first second_one)
      ];
      entries = added_entries (cs ++ c ∷ []) one p.second n p.first second_one n_inside (ap (λ (ls : List Lit). has_literal ls p.first) n_last ∙ parts.0)
          (added_entries (cs ++ c ∷ []) base p.first n p.second first n_inside (ap (λ (ls : List Lit). has_literal ls p.second) n_last ∙ parts.1) entries);
    }

-- the places of the lists after that
pub attached_lists : (w : Watching) (n : ℕ) (p : Pair) → length (attached w n p).lists ≡ length w.lists
attached_lists w n p =
    let base : Watching = record { pairs = w.pairs ++ p ∷ []; lists = w.lists } in
    let one = added base p.first n p.second in
    length-set one.lists (place_of p.second) (watches_of one p.second ++ record { clause = n; blocker = p.first } ∷ [])
    ∙ length-set w.lists (place_of p.first) (watches_of base p.first ++ record { clause = n; blocker = p.second } ∷ [])

-- what is guarded with one clause more
pub guard_more : (cs : List (List Lit)) (c : List Lit) (pairs : List Pair) (p : Pair) (front xs ys : List Lit) → length pairs ≡ length cs → IsWithin xs ys → AreGuarded cs pairs front xs → is_guarded front ys c p ≡ true → AreGuarded (cs ++ c ∷ []) (pairs ++ p ∷ []) front ys
guard_more cs c pairs p front xs ys each within before here k inside =
    let d = pair_of [] 0 in
    elim (cases_lt k (length cs)) [
      | inl early ↦ rw (clause_before cs c k early, get_or_append_left pairs (p ∷ []) d k (omega (arith, early, each))) (guarded_later front xs ys (clause_of cs k) (pair_of pairs k) within (before k early))
      | inr late ↦
          let last : length cs ≡ k = omega (arith, late, inside, length_push cs c) in
          rw (clause_last cs c k last, get_or_push pairs p d k (each ∙ last)) here
    ]

-- steps stay justified
pub justified_more : (cs : List (List Lit)) (c : List Lit) (steps : List Step) → AreJustified cs steps → AreJustified (cs ++ c ∷ []) steps
justified_more cs c steps each k inside =
    elim (each k inside) [
      | inl dec ↦ inl dec
      | inr by ↦ inr (omega (arith, by.0, length_push cs c), rw (clause_before cs c (step_at steps k).reason by.0) by.1)
    ]

-- clauses stay of the variables
pub within_more : (n : ℕ) (cs : List (List Lit)) (c : List Lit) → ((k : ℕ) → k < length cs → list_all (is_within n) (clause_of cs k) ≡ true) → list_all (is_within n) c ≡ true → (k : ℕ) → k < length (cs ++ c ∷ []) → list_all (is_within n) (clause_of (cs ++ c ∷ []) k) ≡ true
within_more n cs c each here k inside =
    elim (cases_lt k (length cs)) [
      | inl early ↦ rw (clause_before cs c k early) (each k early)
      | inr late ↦ rw (clause_last cs c k (omega (arith, late, inside, length_push cs c))) here
    ]

-- the second literal of a line that is added
abbrev pub IsSecond : List Step → Lit → ℕ → Lit → Type 0
IsSecond steps lit keep second = (keep ≡ 0 → second ≡ lit) × (0 < keep → second ≡ negate (step_at steps (keep - 1)).lit)

-- a literal that is not false in the trail is not false in a front
open_front : (steps : List Step) (i : ℕ) (l : Lit) → is_false (trues steps) l ≡ false → is_false (trues (take i steps)) l ≡ false
open_front steps i l h = false_from_ne_true (is_false (trues (take i steps)) l) (λ early. true≢false (sym (within_take i steps (negate l) early) ∙ h))

asserting_pair : (steps : List Step) (c : List Lit) (lit : Lit) (keep : ℕ) (second : Lit) → IsAsserting steps c lit keep → is_false (trues steps) lit ≡ false → IsSecond steps lit keep second → is_pair c (record { first = lit; second = second }) ≡ true
asserting_pair steps c lit keep second a open_lit is =
    elim (cases_lt 0 keep) [
      | inl some ↦
          let e = is.1 some in
          let last : keep - 1 < length steps = omega (arith, some, a.inside) in
          let false_one : is_false (trues steps) second ≡ true = rw e (ap (λ (x : Lit). has_literal (trues steps) x) (negate-negate (step_at steps (keep - 1)).lit) ∙ true_at steps (keep - 1) last) in
          pair_from c (record { first = lit; second = second }) a.has (rw e (a.last some)) (false_from_ne_true (same_literal lit second) (λ same. true≢false (sym false_one ∙ ap (λ (x : Lit). is_false (trues steps) x) (sym (same_literal-eq lit second same)) ∙ open_lit)))
      | inr none ↦
          let e : second ≡ lit = is.0 (omega arith) in
          let only : list_all (same_literal lit) c ≡ true = all-from_each (same_literal lit) c (λ x h. sole_one keep steps c lit x (omega arith) a.others h) in
          rw e (and_from (has_literal c lit) (has_literal c lit && (not (same_literal lit lit) || list_all (same_literal lit) c)) a.has (and_from (has_literal c lit) (not (same_literal lit lit) || list_all (same_literal lit) c) a.has (or_right (not (same_literal lit lit)) (list_all (same_literal lit) c) only)))
    ]
  where
    sole_one : (keep : ℕ) (steps : List Step) (c : List Lit) (lit x : Lit) → keep ≡ 0 → are_others_false (trues (take keep steps)) c lit ≡ true → has_literal c x ≡ true → same_literal lit x ≡ true
    sole_one keep steps c lit x none others here =
        let h : (same_literal lit x || is_false (trues (take keep steps)) x) ≡ true = all-has_literal (λ y. same_literal lit y || is_false (trues (take keep steps)) y) c x others here in
        elim (or_cases (same_literal lit x) (is_false (trues (take keep steps)) x) h) [
          | inl same ↦ same
          | inr false_one ↦ absurd (true≢false (sym false_one ∙ ap (λ (n : ℕ). is_false (trues (take n steps)) x) none))
        ]

-- the two literals differ where steps are kept
pair_apart : (steps : List Step) (c : List Lit) (lit : Lit) (keep : ℕ) (second : Lit) → IsAsserting steps c lit keep → is_false (trues steps) lit ≡ false → IsSecond steps lit keep second → 0 < keep → same_literal lit second ≡ false
pair_apart steps c lit keep second a open_lit is some =
    let e = is.1 some in
    let last : keep - 1 < length steps = omega (arith, some, a.inside) in
    let false_one : is_false (trues steps) second ≡ true = rw e (ap (λ (x : Lit). has_literal (trues steps) x) (negate-negate (step_at steps (keep - 1)).lit) ∙ true_at steps (keep - 1) last) in
    false_from_ne_true (same_literal lit second) (λ same. true≢false (sym false_one ∙ ap (λ (x : Lit). is_false (trues steps) x) (sym (same_literal-eq lit second same)) ∙ open_lit))

-- what a step falsifies was not false before it
open_before : (t : Trailing) (i k : ℕ) (l : Lit) → IsAssignment t → i ≤ k → k < length t.steps → l ≡ negate (step_at t.steps k).lit → is_false (trues (take i t.steps)) l ≡ false
open_before t i k l assigned low inside e =
    let u = (step_at t.steps k).lit in
    let back : negate l ≡ u = ap negate e ∙ negate-negate u in
    let none : has_literal (trues (take k t.steps)) u ≡ false = assigned.once k inside in
    false_from_ne_true (is_false (trues (take i t.steps)) l) (λ early.
    let here : has_literal (trues (take i t.steps)) u ≡ true = ap (λ (x : Lit). has_literal (trues (take i t.steps)) x) (sym back) ∙ early in
    let later : has_literal (trues (take k t.steps)) u ≡ true = within_take i (take k t.steps) u (ap (λ (ss : List Step). has_literal (trues ss) u) (take-take i k t.steps low) ∙ here) in
    true≢false (sym later ∙ none))

-- a line is added
pub line_added : (cs : List (List Lit)) (c : List Lit) (t : Trailing) (w : Watching) (lit second : Lit) (keep n : ℕ) → IsSound cs t w → ArePropagated cs w.pairs t.steps (length t.steps) → length cs + 1 < 2 ^ 32 → list_all (is_within t.vars) c ≡ true → is_false (trues t.steps) lit ≡ false → has_literal (trues t.steps) lit ≡ false → IsAsserting t.steps c lit keep → IsSecond t.steps lit keep second → IsAssignment t → n ≡ length cs → place_of lit < length w.lists → place_of second < length w.lists → IsSound (cs ++ c ∷ []) (record t { steps = t.steps ++ record { lit = lit; reason = n } ∷ [] }) (attached w n (record { first = lit; second = second })) × ArePropagated (cs ++ c ∷ []) (attached w n (record { first = lit; second = second })).pairs (t.steps ++ record { lit = lit; reason = n } ∷ []) (length t.steps)
line_added cs c t w lit second keep n sound propagated few within open_lit not_true a is assigned e first_place second_place =
    let p : Pair = record { first = lit; second = second } in
    let s : Step = record { lit = lit; reason = n } in
    let after = t.steps ++ s ∷ [] in
    let paired = asserting_pair t.steps c lit keep second a open_lit is in
    let known : n < length (cs ++ c ∷ []) = omega (arith, e, length_push cs c) in
    let last : clause_of (cs ++ c ∷ []) n ≡ c = clause_last cs c n (sym e) in
    let others : are_others_false (trues t.steps) c lit ≡ true = all-weaker (λ x. same_literal lit x || is_false (trues (take keep t.steps)) x) (λ x. same_literal lit x || is_false (trues t.steps) x) c (λ x h. elim (or_cases (same_literal lit x) (is_false (trues (take keep t.steps)) x) h) [ inl same ↦ or_left (same_literal lit x) (is_false (trues t.steps) x) same | inr early ↦ or_right (same_literal lit x) (is_false (trues t.steps) x) (within_take keep t.steps (negate x) early) ]) a.others in
    let implied : IsDecision s → ⊥ = λ dec. omega (arith, dec, e, few) in
    let true_now : has_literal (trues after) lit ≡ true = ap (λ (ls : List Lit). has_literal ls lit) (trues_push t.steps s) ∙ has_literal-push (trues t.steps) lit lit ∙ or_right (has_literal (trues t.steps) lit) (same_literal lit lit) (same_literal_refl lit) in
    let front : take (length t.steps) after ≡ take (length t.steps) t.steps = take-append-le (length t.steps) t.steps (s ∷ []) (omega arith) in
    let based : (i : ℕ) → i < length t.steps → IsDecision (step_at t.steps i) → is_guarded (trues (take i t.steps)) (trues (take i t.steps)) c p ≡ true = λ i inside dec.
    let low : i < keep = a.decisions i inside dec in
    let some : 0 < keep = omega (arith, low) in
    guarded_free (trues (take i t.steps)) (trues (take i t.steps)) c p (free_from (trues (take i t.steps)) p (pair_apart t.steps c lit keep second a open_lit is some) (open_front t.steps i lit open_lit) (open_before t i (keep - 1) second assigned (omega (arith, low)) (omega (arith, some, a.inside)) (is.1 some))) in (
      record {
        within = within_more t.vars cs c sound.within within;
        few = omega (arith, few, length_push cs c);
        places = attached_lists w n p ∙ sound.places;
        watched = attach_more cs c w p n sound.watched e paired first_place second_place;
        justified = EachStep-push (IsJustified (cs ++ c ∷ [])) t.steps s (justified_more cs c t.steps sound.justified) (inr (known, rw last (and_from (has_literal c lit) (are_others_false (trues t.steps) c lit) a.has others)));
        based = EachStep-push (IsBased (cs ++ c ∷ []) (w.pairs ++ p ∷ [])) t.steps s (λ i inside dec. guard_more cs c w.pairs p (trues (take i t.steps)) (trues (take i t.steps)) (trues (take i t.steps)) sound.watched.each (λ _ h. h) (sound.based i inside dec) (based i inside dec)) (λ dec. absurd (implied dec));
      },
      rw front (guard_more cs c w.pairs p (trues (take (length t.steps) t.steps)) (trues t.steps) (trues after) sound.watched.each (within_push t.steps s) propagated (guarded_satisfied (trues (take (length t.steps) t.steps)) (trues after) c p (satisfied_from (trues after) c lit a.has true_now))),
    )

-- at the start of loading
pub loading_none : (cs : List (List Lit)) (t : Trailing) (w : Watching) → ((k : ℕ) → k < length cs → list_all (is_within t.vars) (clause_of cs k) ≡ true) → length cs < 2 ^ 32 → t.steps ≡ [] → w.pairs ≡ [] → w.lists ≡ replicate (2 * t.vars + 1) [] → IsLoading cs 0 t w
loading_none cs t w within few steps pairs lists = record {
  within = within;
  few = few;
  places = ap length lists ∙ length-replicate (2 * t.vars + 1) [];
  inside = omega arith;
  watched = record {
    each = ap length pairs;
    pairs = λ k h. absurd (omega arith);
    firsts = λ k h. absurd (omega arith);
    seconds = λ k h. absurd (omega arith);
    entries = λ q. rw lists (empty_lists cs (2 * t.vars + 1) q);
  };
  justified = λ k h. absurd (omega (arith, ap length steps));
  implied = λ k h. absurd (omega (arith, ap length steps));
  guarded = λ k h. absurd (omega arith);
}
  where
    empty_lists : (cs : List (List Lit)) (n q : ℕ) → list_all (is_entry (take 0 cs)) (get_or (replicate n []) q []) ≡ true
    empty_lists cs n q =
        let e : get_or {A = List Watch} (replicate n []) q [] ≡ [] = elim (cases_lt q n) [
          | inl inside ↦ get_or-replicate n q [] [] inside
          | inr past ↦ get_or_past (replicate n []) q [] (omega (arith, past, length-replicate {A = List Watch} n []))
        ] in
        rw e refl

-- one clause more is loaded, once its pair is guarded
pub loading_more : (cs : List (List Lit)) (t u : Trailing) (w : Watching) (n : ℕ) (p : Pair) → IsLoading cs n t w → n < length cs → is_pair (clause_of cs n) p ≡ true → place_of p.first < length w.lists → place_of p.second < length w.lists → u.vars ≡ t.vars → IsWithin (trues t.steps) (trues u.steps) → AreJustified cs u.steps → AreImplied u.steps → is_guarded [] (trues u.steps) (clause_of cs n) p ≡ true → IsLoading cs (n + 1) u (attached w n p)
loading_more cs t u w n p l inside paired first second vars within justified implied guarded =
    let c = clause_of cs n in
    let e : take (n + 1) cs ≡ take n cs ++ c ∷ [] = take_more cs n [] inside in
    let len : n ≡ length (take n cs) = sym (length-take-le n cs (omega arith)) in
    record {
      within = rw vars l.within;
      few = l.few;
      places = attached_lists w n p ∙ l.places ∙ ap (λ (v : ℕ). 2 * v + 1) (sym vars);
      inside = omega arith;
      watched = rw e (attach_more (take n cs) c w p n l.watched len paired first second);
      justified = justified;
      implied = implied;
      guarded = rw e (guard_more (take n cs) c w.pairs p [] (trues t.steps) (trues u.steps) l.watched.each within l.guarded guarded);
    }

-- a pair of two literals is guarded while nothing was propagated
pub guarded_two : (trues c : List Lit) (p : Pair) → same_literal p.first p.second ≡ false → is_guarded [] trues c p ≡ true
guarded_two trues c p apart = guarded_free [] trues c p (free_from [] p apart refl refl)

pub guarded_one : (trues c : List Lit) (p : Pair) → is_pair c p ≡ true → has_literal trues p.first ≡ true → is_guarded [] trues c p ≡ true
guarded_one trues c p paired here = guarded_satisfied [] trues c p (satisfied_from trues c p.first (pair_parts c p paired).0 here)

-- each literal of a clause is the same as both of its pair
pub sole_pair : (c : List Lit) (p : Pair) → is_pair c p ≡ true → same_literal p.first p.second ≡ true → list_all (same_literal p.first) c ≡ true
sole_pair c p paired same =
    elim (or_cases (not (same_literal p.first p.second)) (list_all (same_literal p.first) c) (pair_parts c p paired).2) [
      | inl apart ↦ absurd (true≢false (sym same ∙ not-true (same_literal p.first p.second) apart))
      | inr all ↦ all
    ]

pub sole_falsified : (trues c : List Lit) (l : Lit) → list_all (same_literal l) c ≡ true → is_false trues l ≡ true → is_falsified trues c ≡ true
sole_falsified trues c l all here = all-weaker (same_literal l) (is_false trues) c (λ x h. ap (λ (y : Lit). is_false trues y) (sym (same_literal-eq l x h)) ∙ here) all

pub sole_reason : (trues c : List Lit) (l : Lit) → has_literal c l ≡ true → list_all (same_literal l) c ≡ true → is_reason trues c l ≡ true
sole_reason trues c l has all = and_from (has_literal c l) (are_others_false trues c l) has (all-weaker (same_literal l) (λ x. same_literal l x || is_false trues x) c (λ x h. or_left (same_literal l x) (is_false trues x) h) all)

-- all clauses are loaded
pub loading_all : (cs : List (List Lit)) (t : Trailing) (w : Watching) (n : ℕ) → IsLoading cs n t w → length cs ≤ n → IsSound cs t w × ArePropagated cs w.pairs t.steps 0
loading_all cs t w n l past =
    let e : take n cs ≡ cs = take_all n cs past in (
      record {
        within = l.within;
        few = l.few;
        places = l.places;
        watched = subst (λ (ds : List (List Lit)). IsWatched ds w) e l.watched;
        justified = l.justified;
        based = λ k inside dec. absurd (l.implied k inside dec);
      },
      subst (λ (ds : List (List Lit)). AreGuarded ds w.pairs [] (trues t.steps)) e l.guarded,
    )

-- the clauses of a formula are of its variables
pub formula_within : (n : ℕ) (cs : List (List Lit)) → AllByRecursion (AllByRecursion (IsLiteral n)) cs → (k : ℕ) → k < length cs → list_all (is_within n) (clause_of cs k) ≡ true
formula_within n [] h k inside = absurd (omega arith)
formula_within n (c ∷ cs) h zero inside = literals n c h.0
  where
    literals : (n : ℕ) (c : List Lit) → AllByRecursion (IsLiteral n) c → list_all (is_within n) c ≡ true
    literals n [] h = refl
    literals n (x ∷ xs) h = and_from (is_within n x) (list_all (is_within n) xs) (and_from (ltb 0 (variable x)) (leb (variable x) n) (lt-ltb 0 (variable x) h.0.0) (le-leb (variable x) n h.0.1)) (literals n xs h.1)
formula_within n (c ∷ cs) h (suc k) inside = formula_within n cs h.1 k (omega arith)
