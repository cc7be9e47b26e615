-- The steps of a walk through the watches under a false literal.
use Rattle.std.proofs.Common.{◌≡◌, ℕ, suc, zero, ◌+◌, ◌<◌, ◌≤◌, Bool, true, false, ◌||◌, List, [], ◌∷◌, ◌++◌, length, take, set, eqb, refl, sym, ap, subst, inl, inr, ◌∙◌, arith}
use Rattle.std.proofs.lemmas.Bool.{or_cases, true≢false, or_right, or_left, and_from, cases_lt, cases_eq, eqb-true}
use Rattle.std.proofs.lemmas.List.{get_or_append_left, get_or-set_same, get_or-set_other, length-set, length_push, length-take-le, get_or-take, take-append-le, take_all, take-set, take_more}
use Rattle.std.proofs.lemmas.List.Folds.{list_any_more}
use Rattle.prv_cnf.specs.declared.literal.Lit.{Lit}
use Rattle.prv_cnf.specs.Literals.{variable, negate, same_literal, has_literal}
use Rattle.prv_cnf.proofs.Values.{same_literal_refl, negate-negate}
use Rattle.prv_check.specs.Propagation.{is_false}
use Rattle.prv_propagate.specs.declared.trail.Step.{Step}
use Rattle.prv_propagate.specs.declared.watches.Pair.{Pair}
use Rattle.prv_propagate.specs.declared.watches.Watch.{Watch}
use Rattle.prv_cnf.specs.Places.{place_of}
use Rattle.prv_propagate.specs.Trails.{Trailing, trues, step_at, IsDecision}
use Rattle.prv_propagate.specs.Reasons.{clause_of, is_satisfied, are_others_false, IsJustified}
use Rattle.prv_propagate.specs.Guards.{pair_of, is_guarded, AreGuarded, IsBased}
use Rattle.prv_propagate.specs.Watching.{Watching, watches_of, watch_at, is_listed, is_entry, without, removed, blocked, added, rewatched}
use Rattle.prv_propagate.specs.Soundness.{IsSound, ArePropagated, IsOther}
use Rattle.prv_propagate.specs.Walking.{IsWalk, false_by}
use Rattle.prv_propagate.proofs.Signs.{has_literal-push}
use Rattle.prv_propagate.proofs.Stepping.{trues_push, true_at, true_later, EachStep-push}
use Rattle.prv_cnf.proofs.Placing.{place_of-le}
use Rattle.prv_propagate.proofs.Listing.{any_place, all_place, list_same, list_other, same_or_other, take-without, length-without, removed_keeps, blocked_keeps, added_keeps, added_there, removed_entries, blocked_entries, added_entries, entry_parts}
use Rattle.prv_propagate.proofs.Guarding.{IsWithin, satisfied_from, guarded_later, guarded_satisfied, guarded_past, guarded_anew, pair_from, other_in, other_apart}

-- what is true after a push
pub within_push : (steps : List Step) (s : Step) → IsWithin (trues steps) (trues (steps ++ s ∷ []))
within_push steps s l h = ap (λ (ls : List Lit). has_literal ls l) (trues_push steps s) ∙ has_literal-push (trues steps) s.lit l ∙ or_left (has_literal (trues steps) l) (same_literal l s.lit) h

pub within_take : (n : ℕ) (steps : List Step) → IsWithin (trues (take n steps)) (trues steps)
within_take n steps l h = true_later n steps l h

-- the front past a step has its literal more
pub front_more : (steps : List Step) (from : ℕ) → from < length steps → trues (take (from + 1) steps) ≡ trues (take from steps) ++ (step_at steps from).lit ∷ []
front_more steps from inside = ap trues (take_more steps from (step_at [] 0) inside) ∙ trues_push (take from steps) (step_at steps from)

-- the places in the lists
pub list_inside : {cs : List (List Lit)} {t : Trailing} {w : Watching} → IsSound cs t w → (l : Lit) → variable l ≤ t.vars → place_of l < length w.lists
list_inside {cs} {t} {w} s l h = omega (arith, s.places, place_of-le l)

-- a clause that is not guarded past a step watches the literal that is false by it
unwatched : (cs : List (List Lit)) (w : Watching) (steps : List Step) (from k : ℕ) → from < length steps → ArePropagated cs w.pairs steps from → k < length cs → ((pair_of w.pairs k).first ≡ false_by steps from → ⊥) → ((pair_of w.pairs k).second ≡ false_by steps from → ⊥) → is_guarded (trues (take (from + 1) steps)) (trues steps) (clause_of cs k) (pair_of w.pairs k) ≡ true
unwatched cs w steps from k inside before known a b =
    let t = (step_at steps from).lit in
    let p = pair_of w.pairs k in
    let back : (x : Lit) → negate x ≡ t → x ≡ negate t = λ x e. sym (negate-negate x) ∙ ap negate e in
    rw (front_more steps from inside)
    (guarded_past (trues (take from steps)) (trues steps) (clause_of cs k) p t (λ e. a (back p.first e)) (λ e. b (back p.second e)) (before k known))

-- at the start of a walk
pub walk_none : (cs : List (List Lit)) (t : Trailing) (w : Watching) (from : ℕ) → IsSound cs t w → from < length t.steps → ArePropagated cs w.pairs t.steps from → IsWalk cs from t w (length (watches_of w (false_by t.steps from)))
walk_none cs t w from sound inside before =
    let l = false_by t.steps from in
    let ws = watches_of w l in
    record {
      sound = sound;
      inside = inside;
      before = before;
      bound = omega arith;
      visited = λ k known.
          let p = pair_of w.pairs k in
          let g = is_guarded (trues (take (from + 1) t.steps)) (trues t.steps) (clause_of cs k) p in
          let listed = is_listed k (take (length ws) ws) in
          elim (same_or_other p.first l) [
            | inl one ↦ or_left listed g (ap (is_listed k) (take_all (length ws) ws (omega arith)) ∙ ap (λ (x : Lit). is_listed k (watches_of w x)) (sym one) ∙ sound.watched.firsts k known)
            | inr a ↦ elim (same_or_other p.second l) [
              | inl two ↦ or_left listed g (ap (is_listed k) (take_all (length ws) ws (omega arith)) ∙ ap (λ (x : Lit). is_listed k (watches_of w x)) (sym two) ∙ sound.watched.seconds k known)
              | inr b ↦ or_right listed g (unwatched cs w t.steps from k inside before known a b)
            ]
          ];
    }

-- the watches whose blockers are true need no visit
pub walk_skipped : (cs : List (List Lit)) (t : Trailing) (w : Watching) (from below at : ℕ) → IsWalk cs from t w below → at ≤ below → ((j : ℕ) → at ≤ j → j < below → has_literal (trues t.steps) (watch_at (watches_of w (false_by t.steps from)) j).blocker ≡ true) → IsWalk cs from t w at
walk_skipped cs t w from below at walk bound skipped =
    let l = false_by t.steps from in
    let ws = watches_of w l in
    let d = watch_at [] 0 in
    record {
      sound = walk.sound;
      inside = walk.inside;
      before = walk.before;
      bound = omega (arith, walk.bound);
      visited = λ k known.
          let p = pair_of w.pairs k in
          let g = is_guarded (trues (take (from + 1) t.steps)) (trues t.steps) (clause_of cs k) p in
          elim (or_cases (is_listed k (take below ws)) g (walk.visited k known)) [
            | inr guarded ↦ or_right (is_listed k (take at ws)) g guarded
            | inl listed ↦
                let r = any_place (λ e. eqb k e.clause) d (take below ws) listed in
                let short : r.0 < below = omega (arith, r.1, length-take-le below ws walk.bound) in
                let e : watch_at (take below ws) r.0 ≡ watch_at ws r.0 = get_or-take below ws r.0 d short in
                let names : eqb k (watch_at ws r.0).clause ≡ true = ap (λ (x : Watch). eqb k x.clause) (sym e) ∙ r.2 in
                elim (cases_lt r.0 at) [
                  | inl low ↦ or_left (is_listed k (take at ws)) g (listed_take k ws at r.0 low (omega (arith, short, walk.bound)) names)
                  | inr high ↦
                      let entry = entry_parts cs (watch_at ws r.0) (all_place (is_entry cs) d ws r.0 (walk.sound.watched.entries (place_of l)) (omega (arith, short, walk.bound))) in
                      let same : (watch_at ws r.0).clause ≡ k = sym (eqb-true k (watch_at ws r.0).clause names) in
                      let stands : has_literal (clause_of cs k) (watch_at ws r.0).blocker ≡ true = ap (λ (n : ℕ). has_literal (clause_of cs n) (watch_at ws r.0).blocker) (sym same) ∙ entry.1 in
                      or_right (is_listed k (take at ws)) g (guarded_satisfied (trues (take (from + 1) t.steps)) (trues t.steps) (clause_of cs k) p (satisfied_from (trues t.steps) (clause_of cs k) (watch_at ws r.0).blocker stands (skipped r.0 high short)))
                ]
          ];
    }
  where
    listed_take : (k : ℕ) (ws : List Watch) (n j : ℕ) → j < n → j < length ws → eqb k (watch_at ws j).clause ≡ true → is_listed k (take n ws) ≡ true
    listed_take k [] n j low inside h = absurd (omega arith)
    listed_take k (x ∷ xs) zero j low inside h = absurd (omega arith)
    listed_take k (x ∷ xs) (suc n) zero low inside h = or_left (eqb k x.clause) (is_listed k (take n xs)) h
    listed_take k (x ∷ xs) (suc n) (suc j) low inside h = or_right (eqb k x.clause) (is_listed k (take n xs)) (listed_take k xs n j (omega arith) (omega arith) h)

-- the clause of the watch at a place is guarded, and the others stay so
visited_step : (k at : ℕ) (ws : List Watch) (after : List Watch) (old new : Bool) → at < length ws → take at after ≡ take at ws → (is_listed k (take (at + 1) ws) || old) ≡ true → (k ≡ (watch_at ws at).clause → new ≡ true) → ((k ≡ (watch_at ws at).clause → ⊥) → old ≡ true → new ≡ true) → (is_listed k (take at after) || new) ≡ true
visited_step k at ws after old new inside same h here later =
    elim (cases_eq k (watch_at ws at).clause) [
      | inl one ↦ or_right (is_listed k (take at after)) new (here one)
      | inr other ↦ elim (or_cases (is_listed k (take (at + 1) ws)) old h) [
        | inr kept ↦ or_right (is_listed k (take at after)) new (later other kept)
        | inl listed ↦
            elim (or_cases (is_listed k (take at ws)) (eqb k (watch_at ws at).clause) (sym (list_any_more (λ e. eqb k e.clause) ws at (watch_at [] 0) inside) ∙ listed)) [
              | inl low ↦ or_left (is_listed k (take at after)) new (ap (is_listed k) same ∙ low)
              | inr names ↦ absurd (other (eqb-true k (watch_at ws at).clause names))
            ]
      ]
    ]

-- the watch under visit, and the clause that it is of
pub entry_at : (cs : List (List Lit)) (from : ℕ) (t : Trailing) (w : Watching) (at : ℕ) → IsWalk cs from t w (at + 1) → (watch_at (watches_of w (false_by t.steps from)) at).clause < length cs
entry_at cs from t w at walk =
    let ws = watches_of w (false_by t.steps from) in
    (entry_parts cs (watch_at ws at) (all_place (is_entry cs) (watch_at [] 0) ws at (walk.sound.watched.entries (place_of (false_by t.steps from))) (omega (arith, walk.bound)))).0

-- a watch of a clause that doesn't watch the literal goes
pub walk_stale : (cs : List (List Lit)) (from : ℕ) (t : Trailing) (w : Watching) (at : ℕ) (l : Lit) → IsWalk cs from t w (at + 1) → l ≡ false_by t.steps from → place_of l < length w.lists → same_literal (pair_of w.pairs (watch_at (watches_of w l) at).clause).first l ≡ false → same_literal (pair_of w.pairs (watch_at (watches_of w l) at).clause).second l ≡ false → IsWalk cs from t (removed w l at) at
walk_stale cs from t w at l walk e inside a b =
    let P : Lit → Type 0 = λ x. place_of x < length w.lists → same_literal (pair_of w.pairs (watch_at (watches_of w x) at).clause).first x ≡ false → same_literal (pair_of w.pairs (watch_at (watches_of w x) at).clause).second x ≡ false → IsWalk cs from t (removed w x at) at in
    subst P (sym e) (stale cs from t w at walk) inside a b
  where
    apart : (x y : Lit) → same_literal x y ≡ false → x ≡ y → ⊥
    apart x y h e = true≢false (sym (rw e (same_literal_refl y)) ∙ h)

    stale : (cs : List (List Lit)) (from : ℕ) (t : Trailing) (w : Watching) (at : ℕ) → IsWalk cs from t w (at + 1) → place_of (false_by t.steps from) < length w.lists → same_literal (pair_of w.pairs (watch_at (watches_of w (false_by t.steps from)) at).clause).first (false_by t.steps from) ≡ false → same_literal (pair_of w.pairs (watch_at (watches_of w (false_by t.steps from)) at).clause).second (false_by t.steps from) ≡ false → IsWalk cs from t (removed w (false_by t.steps from) at) at
    stale cs from t w at walk inside a b =
        let l = false_by t.steps from in
        let ws = watches_of w l in
        let k0 = (watch_at ws at).clause in
        let here : at < length ws = omega (arith, walk.bound) in
        let list : watches_of (removed w l at) l ≡ without ws at = list_same w l l (without ws at) inside refl in
        let s = walk.sound in
        record {
          sound = record {
            within = s.within;
            few = s.few;
            places = length-set w.lists (place_of l) (without ws at) ∙ s.places;
            watched = record {
              each = s.watched.each;
              pairs = s.watched.pairs;
              firsts = λ k known. removed_keeps w l at k (pair_of w.pairs k).first inside here (s.watched.firsts k known) (λ same one. apart (pair_of w.pairs k0).first l a (ap (λ n. (pair_of w.pairs n).first) (sym one) ∙ same));
              seconds = λ k known. removed_keeps w l at k (pair_of w.pairs k).second inside here (s.watched.seconds k known) (λ same one. apart (pair_of w.pairs k0).second l b (ap (λ n. (pair_of w.pairs n).second) (sym one) ∙ same));
              entries = removed_entries cs w l at inside here s.watched.entries;
            };
            justified = s.justified;
            based = s.based;
          };
          inside = walk.inside;
          before = walk.before;
          bound = rw list (omega (arith, length-without ws at here, here));
          visited = λ k known.
              rw list
              (visited_step k at ws (without ws at) (is_guarded (trues (take (from + 1) t.steps)) (trues t.steps) (clause_of cs k) (pair_of w.pairs k)) (is_guarded (trues (take (from + 1) t.steps)) (trues t.steps) (clause_of cs k) (pair_of w.pairs k)) here (take-without ws at here) (walk.visited k known)
              (λ one. unwatched cs w t.steps from k walk.inside walk.before known (λ same. apart (pair_of w.pairs k0).first l a (ap (λ n. (pair_of w.pairs n).first) (sym one) ∙ same)) (λ same. apart (pair_of w.pairs k0).second l b (ap (λ n. (pair_of w.pairs n).second) (sym one) ∙ same)))
              (λ _ kept. kept));
        }

-- the blocker of a watch becomes the other literal, which is true
pub walk_blocked : (cs : List (List Lit)) (from : ℕ) (t : Trailing) (w : Watching) (at : ℕ) (l other : Lit) → IsWalk cs from t w (at + 1) → l ≡ false_by t.steps from → place_of l < length w.lists → IsOther (pair_of w.pairs (watch_at (watches_of w l) at).clause) l other → has_literal (trues t.steps) other ≡ true → IsWalk cs from t (blocked w l at other) at
walk_blocked cs from t w at l other walk e inside which here =
    let P : Lit → Type 0 = λ x. place_of x < length w.lists → IsOther (pair_of w.pairs (watch_at (watches_of w x) at).clause) x other → IsWalk cs from t (blocked w x at other) at in
    subst P (sym e) (step cs from t w at other walk here) inside which
  where
    step : (cs : List (List Lit)) (from : ℕ) (t : Trailing) (w : Watching) (at : ℕ) (other : Lit) → IsWalk cs from t w (at + 1) → has_literal (trues t.steps) other ≡ true → place_of (false_by t.steps from) < length w.lists → IsOther (pair_of w.pairs (watch_at (watches_of w (false_by t.steps from)) at).clause) (false_by t.steps from) other → IsWalk cs from t (blocked w (false_by t.steps from) at other) at
    step cs from t w at other walk true_one inside which =
        let l = false_by t.steps from in
        let ws = watches_of w l in
        let k0 = (watch_at ws at).clause in
        let e : Watch = record { clause = k0; blocker = other } in
        let here : at < length ws = omega (arith, walk.bound) in
        let list : watches_of (blocked w l at other) l ≡ set ws at e = list_same w l l (set ws at e) inside refl in
        let s = walk.sound in
        let known0 = entry_at cs from t w at walk in
        let stands : has_literal (clause_of cs k0) other ≡ true = other_in (clause_of cs k0) (pair_of w.pairs k0) l other (s.watched.pairs k0 known0) which in
        let satisfied = satisfied_from (trues t.steps) (clause_of cs k0) other stands true_one in
        record {
          sound = record {
            within = s.within;
            few = s.few;
            places = length-set w.lists (place_of l) (set ws at e) ∙ s.places;
            watched = record {
              each = s.watched.each;
              pairs = s.watched.pairs;
              firsts = λ k known. blocked_keeps w l at other k (pair_of w.pairs k).first inside here (s.watched.firsts k known);
              seconds = λ k known. blocked_keeps w l at other k (pair_of w.pairs k).second inside here (s.watched.seconds k known);
              entries = blocked_entries cs w l at other inside here stands s.watched.entries;
            };
            justified = s.justified;
            based = s.based;
          };
          inside = walk.inside;
          before = walk.before;
          bound = rw list (omega (arith, length-set ws at e, here));
          visited = λ k known.
              let g = is_guarded (trues (take (from + 1) t.steps)) (trues t.steps) (clause_of cs k) (pair_of w.pairs k) in
              rw list
              (visited_step k at ws (set ws at e) g g here (take-set ws at e) (walk.visited k known)
              (λ one. guarded_satisfied (trues (take (from + 1) t.steps)) (trues t.steps) (clause_of cs k) (pair_of w.pairs k) (ap (λ (n : ℕ). is_satisfied (trues t.steps) (clause_of cs n)) one ∙ satisfied))
              (λ _ kept. kept));
        }

-- one pair changed
guard_each : (cs : List (List Lit)) (pairs : List Pair) (front trues : List Lit) (k0 : ℕ) (q : Pair) → k0 < length pairs → AreGuarded cs pairs front trues → is_guarded front trues (clause_of cs k0) q ≡ true → AreGuarded cs (set pairs k0 q) front trues
guard_each cs pairs front trues k0 q inside each here k known =
    let d = pair_of [] 0 in
    elim (cases_eq k k0) [
      | inl one ↦ rw (one, get_or-set_same pairs k0 q d inside) here
      | inr other ↦ rw (get_or-set_other pairs k0 k q d other) (each k known)
    ]

-- the other literal of a pair lists the clause
other_listed : (w : Watching) (k : ℕ) (p : Pair) (l other : Lit) → IsOther p l other → is_listed k (watches_of w p.first) ≡ true → is_listed k (watches_of w p.second) ≡ true → is_listed k (watches_of w other) ≡ true
other_listed w k p l other (inl h) a b = ap (λ (x : Lit). is_listed k (watches_of w x)) h.1 ∙ b
other_listed w k p l other (inr h) a b = ap (λ (x : Lit). is_listed k (watches_of w x)) h.1 ∙ a

-- a clause watches another literal in place of the false one
pub walk_free : (cs : List (List Lit)) (from : ℕ) (t : Trailing) (w : Watching) (at : ℕ) (l : Lit) (q : Pair) → IsWalk cs from t w (at + 1) → l ≡ false_by t.steps from → place_of l < length w.lists → place_of q.first < length w.lists → IsOther (pair_of w.pairs (watch_at (watches_of w l) at).clause) l q.second → has_literal (clause_of cs (watch_at (watches_of w l) at).clause) q.first ≡ true → is_false (trues t.steps) q.first ≡ false → same_literal q.first q.second ≡ false → IsWalk cs from t (rewatched w l at (watch_at (watches_of w l) at).clause q) at
walk_free cs from t w at l q walk e inside first which stands unfalse apart =
    let P : Lit → Type 0 = λ x. place_of x < length w.lists → IsOther (pair_of w.pairs (watch_at (watches_of w x) at).clause) x q.second → has_literal (clause_of cs (watch_at (watches_of w x) at).clause) q.first ≡ true → IsWalk cs from t (rewatched w x at (watch_at (watches_of w x) at).clause q) at in
    subst P (sym e) (step cs from t w at q walk first unfalse apart) inside which stands
  where
    step : (cs : List (List Lit)) (from : ℕ) (t : Trailing) (w : Watching) (at : ℕ) (q : Pair) → IsWalk cs from t w (at + 1) → place_of q.first < length w.lists → is_false (trues t.steps) q.first ≡ false → same_literal q.first q.second ≡ false → place_of (false_by t.steps from) < length w.lists → IsOther (pair_of w.pairs (watch_at (watches_of w (false_by t.steps from)) at).clause) (false_by t.steps from) q.second → has_literal (clause_of cs (watch_at (watches_of w (false_by t.steps from)) at).clause) q.first ≡ true → IsWalk cs from t (rewatched w (false_by t.steps from) at (watch_at (watches_of w (false_by t.steps from)) at).clause q) at
    step cs from t w at q walk first unfalse apart inside which stands =
        let l = false_by t.steps from in
        let u = (step_at t.steps from).lit in
        let ws = watches_of w l in
        let k0 = (watch_at ws at).clause in
        let c0 = clause_of cs k0 in
        let p0 = pair_of w.pairs k0 in
        let s = walk.sound in
        let d = pair_of [] 0 in
        let here : at < length ws = omega (arith, walk.bound) in
        let known0 : k0 < length cs = entry_at cs from t w at walk in
        let paired0 : k0 < length w.pairs = omega (arith, known0, s.watched.each) in
        let false_one : is_false (trues t.steps) l ≡ true = ap (λ (x : Lit). has_literal (trues t.steps) x) (negate-negate u) ∙ true_at t.steps from walk.inside in
        let other : q.second ≡ l → ⊥ = other_apart (trues t.steps) c0 p0 l q.second q.first (s.watched.pairs k0 known0) which false_one stands unfalse in
        let first_apart : q.first ≡ l → ⊥ = λ same. true≢false (sym false_one ∙ ap (λ (x : Lit). is_false (trues t.steps) x) (sym same) ∙ unfalse) in
        let second_in : has_literal c0 q.second ≡ true = other_in c0 p0 l q.second (s.watched.pairs k0 known0) which in
        let less = removed w l at in
        let first_less : place_of q.first < length less.lists = omega (arith, length-set w.lists (place_of l) (without ws at), first) in
        let list : watches_of (added less q.first k0 q.second) l ≡ without ws at = list_other less q.first l (watches_of less q.first ++ record { clause = k0; blocker = q.second } ∷ []) (λ same. first_apart (sym same)) ∙ list_same w l l (without ws at) inside refl in
        let keeps : (k : ℕ) (x : Lit) → is_listed k (watches_of w x) ≡ true → (x ≡ l → k ≡ k0 → ⊥) → is_listed k (watches_of (added less q.first k0 q.second) x) ≡ true = λ k x listed ne. added_keeps less q.first k0 q.second k x first_less (removed_keeps w l at k x inside here listed ne) in
        let anew : (front ts : List Lit) → IsWithin front (trues t.steps) → is_guarded front ts c0 p0 ≡ true → is_guarded front ts c0 q ≡ true = λ front ts within h. guarded_anew front ts (trues t.steps) c0 p0 q l within which unfalse apart h in
        let front0 = trues (take from t.steps) in
        let before0 : is_guarded front0 (trues t.steps) c0 q ≡ true = anew front0 (trues t.steps) (within_take from t.steps) (walk.before k0 known0) in
        let guarded0 : is_guarded (trues (take (from + 1) t.steps)) (trues t.steps) c0 q ≡ true = rw (front_more t.steps from walk.inside) (guarded_past front0 (trues t.steps) c0 q u (λ e. first_apart (sym (negate-negate q.first) ∙ ap negate e)) (λ e. other (sym (negate-negate q.second) ∙ ap negate e)) before0) in
        record {
          sound = record {
            within = s.within;
            few = s.few;
            places = length-set less.lists (place_of q.first) (watches_of less q.first ++ record { clause = k0; blocker = q.second } ∷ []) ∙ length-set w.lists (place_of l) (without ws at) ∙ s.places;
            watched = record {
              each = length-set w.pairs k0 q ∙ s.watched.each;
              pairs = λ k known. elim (cases_eq k k0) [
                | inl one ↦ rw (one, get_or-set_same w.pairs k0 q d paired0) (pair_from c0 q stands second_in apart)
                | inr ne ↦ rw (get_or-set_other w.pairs k0 k q d ne) (s.watched.pairs k known)
              ];
              firsts = λ k known. elim (cases_eq k k0) [
                | inl one ↦ rw (one, get_or-set_same w.pairs k0 q d paired0) (added_there less q.first k0 q.second first_less)
                | inr ne ↦ rw (get_or-set_other w.pairs k0 k q d ne) (keeps k (pair_of w.pairs k).first (s.watched.firsts k known) (λ _ one. ne one))
              ];
              seconds = λ k known. elim (cases_eq k k0) [
                | inl one ↦ rw (one, get_or-set_same w.pairs k0 q d paired0) (keeps k0 q.second (other_listed w k0 p0 l q.second which (s.watched.firsts k0 known0) (s.watched.seconds k0 known0)) (λ same _. other same))
                | inr ne ↦ rw (get_or-set_other w.pairs k0 k q d ne) (keeps k (pair_of w.pairs k).second (s.watched.seconds k known) (λ _ one. ne one))
              ];
              entries = added_entries cs less q.first k0 q.second first_less known0 second_in (removed_entries cs w l at inside here s.watched.entries);
            };
            justified = s.justified;
            based = λ i short dec. guard_each cs w.pairs (trues (take i t.steps)) (trues (take i t.steps)) k0 q paired0 (s.based i short dec) (anew (trues (take i t.steps)) (trues (take i t.steps)) (within_take i t.steps) (s.based i short dec k0 known0));
          };
          inside = walk.inside;
          before = guard_each cs w.pairs front0 (trues t.steps) k0 q paired0 walk.before before0;
          bound = rw list (omega (arith, length-without ws at here, here));
          visited = λ k known.
              let g : Pair → Bool = λ p. is_guarded (trues (take (from + 1) t.steps)) (trues t.steps) (clause_of cs k) p in
              rw list
              (visited_step k at ws (without ws at) (g (pair_of w.pairs k)) (g (pair_of (set w.pairs k0 q) k)) here (take-without ws at here) (walk.visited k known)
              (λ one. rw (one, get_or-set_same w.pairs k0 q d paired0) guarded0)
              (λ ne kept. rw (get_or-set_other w.pairs k0 k q d ne) kept));
        }

-- the other literal becomes true
pub walk_unit : (cs : List (List Lit)) (from : ℕ) (t : Trailing) (w : Watching) (at : ℕ) (l other : Lit) (k0 : ℕ) → IsWalk cs from t w (at + 1) → l ≡ false_by t.steps from → k0 ≡ (watch_at (watches_of w l) at).clause → IsOther (pair_of w.pairs k0) l other → are_others_false (trues t.steps) (clause_of cs k0) other ≡ true → IsWalk cs from (record t { steps = t.steps ++ record { lit = other; reason = k0 } ∷ [] }) w at
walk_unit cs from t w at l other k0 walk e f which others =
    let s : Step = record { lit = other; reason = k0 } in
    let after = t.steps ++ s ∷ [] in
    let sound = walk.sound in
    let watch : k0 ≡ (watch_at (watches_of w (false_by t.steps from)) at).clause = f ∙ ap (λ (x : Lit). (watch_at (watches_of w x) at).clause) e in
    let known0 : k0 < length cs = rw watch (entry_at cs from t w at walk) in
    let stands = other_in (clause_of cs k0) (pair_of w.pairs k0) l other (sound.watched.pairs k0 known0) which in
    let implied : IsDecision s → ⊥ = λ dec. omega (arith, dec, known0, sound.few) in
    let same : step_at after from ≡ step_at t.steps from = get_or_append_left t.steps (s ∷ []) (step_at [] 0) from walk.inside in
    let front0 : take from after ≡ take from t.steps = take-append-le from t.steps (s ∷ []) (omega (arith, walk.inside)) in
    let front1 : take (from + 1) after ≡ take (from + 1) t.steps = take-append-le (from + 1) t.steps (s ∷ []) (omega (arith, walk.inside)) in
    let ws = watches_of w (false_by t.steps from) in
    let here : at < length ws = omega (arith, walk.bound) in
    let true_now : has_literal (trues after) other ≡ true = ap (λ (ls : List Lit). has_literal ls other) (trues_push t.steps s) ∙ has_literal-push (trues t.steps) other other ∙ or_right (has_literal (trues t.steps) other) (same_literal other other) (same_literal_refl other) in
    record {
      sound = record {
        within = sound.within;
        few = sound.few;
        places = sound.places;
        watched = sound.watched;
        justified = EachStep-push (IsJustified cs) t.steps s sound.justified (inr (known0, and_from (has_literal (clause_of cs k0) other) (are_others_false (trues t.steps) (clause_of cs k0) other) stands others));
        based = EachStep-push (IsBased cs w.pairs) t.steps s sound.based (λ dec. absurd (implied dec));
      };
      inside = omega (arith, walk.inside, length_push t.steps s);
      before = λ k known. rw front0 (guarded_later (trues (take from t.steps)) (trues t.steps) (trues after) (clause_of cs k) (pair_of w.pairs k) (within_push t.steps s) (walk.before k known));
      bound = rw same (omega (arith, here));
      visited = λ k known.
          let p = pair_of w.pairs k in
          rw (same, front1)
          (visited_step k at ws ws (is_guarded (trues (take (from + 1) t.steps)) (trues t.steps) (clause_of cs k) p) (is_guarded (trues (take (from + 1) t.steps)) (trues after) (clause_of cs k) p) here refl (walk.visited k known)
          (λ one. let same_clause : k ≡ k0 = one ∙ sym watch in guarded_satisfied (trues (take (from + 1) t.steps)) (trues after) (clause_of cs k) p (ap (λ (n : ℕ). is_satisfied (trues after) (clause_of cs n)) same_clause ∙ satisfied_from (trues after) (clause_of cs k0) other stands true_now))
          (λ _ kept. guarded_later (trues (take (from + 1) t.steps)) (trues t.steps) (trues after) (clause_of cs k) p (within_push t.steps s) kept));
    }

-- at the end of a walk
pub walk_all : (cs : List (List Lit)) (from : ℕ) (t : Trailing) (w : Watching) (at : ℕ) → IsWalk cs from t w at → at ≡ 0 → ArePropagated cs w.pairs t.steps (from + 1)
walk_all cs from t w at walk e =
    let P : ℕ → Type 0 = λ n. IsWalk cs from t w n → ArePropagated cs w.pairs t.steps (from + 1) in
    subst P (sym e) (λ last k known. last.visited k known) walk
