-- The way down the tree of entries to the live entry that holds an input.
use Rattle.std.proofs.Common.{inl, inr, ◌≡◌, ℕ, zero, suc, ◌+◌, ◌<◌, ◌≤◌, Bool, true, false, cond, List, [], ◌∷◌, ◌++◌, length, map, drop, get_or, length-append, ℤ, Option, Some, None, option_to_list, slice_get, All, refl, sym, ap, ◌∙◌, subst, arith}
use Rattle.std.proofs.Math.ListN.{drop_of_length-le}
use Rattle.std.proofs.lemmas.Option.{none-some, same_Some, slice_get-map, slice_get_read, slice_get_within}
use Rattle.std.proofs.lemmas.List.{drop_more}
use Rattle.std.specs.Option.{option_map, option_and_then}
use Rattle.std.specs.List.{AllByRecursion}
use Rattle.prv_model.specs.Words.{IsWord}
use Rattle.prv_model.specs.Boards.{IsInput, places, one_if}
use Rattle.prv_model.specs.Terms.{holds}
use Rattle.prv_model.specs.declared.program.Pair.{Pair}
use Rattle.prv_model.specs.declared.term.Term.{Term}
use Rattle.prv_part.specs.declared.part.Part.{Part}
use Rattle.prv_part.specs.Settlements.{Finding, IsSettlement}
use Rattle.prv_board.specs.Slots.{Slot, live_slot, whole, retire, after, after_all, live_part, live_parts, part_at}
use Rattle.prv_board.specs.Replays.{Replay, BoardView, slots}
use Rattle.prv_board.specs.Legality.{regions, IsLegalBoard}
use Rattle.prv_board.specs.Parents.{parent_of}
use Rattle.prv_board.specs.Paths.{Holds, HoldsAlone, IsStep, IsWayTo}
use Rattle.prv_board.specs.Trees.{part_from, parent_at, Stand}
use Rattle.prv_board.specs.Kept.{IsTree}
use Rattle.prv_board.specs.declared.counts.Counts.{Counts}
use Rattle.prv_board.specs.declared.totals.Totals.{Totals}
use Rattle.prv_board.specs.declared.parent.Parent.{Parent}
use Rattle.prv_board.specs.declared.tree.Origin.{Origin}
use Rattle.prv_board.specs.declared.tree.Origin.TheVariants.{Made}
use Rattle.prv_board.specs.declared.tree.Retired.{Retired}
use Rattle.prv_board.proofs.SlotLaws.{add_up-append}
use Rattle.prv_board.proofs.TreeLaws.{get-front, get-back, get-append}
use Rattle.prv_board.proofs.BoardLaws.{own-within}
use Rattle.prv_board.proofs.LegalLaws.{places-add_up, legal-replay}
use Rattle.prv_board.proofs.ParentLaws.{parent-of-origin}

pub all-at : {X : Type 0} (P : X → Type 0) (xs : List X) (n : ℕ) (x : X) → AllByRecursion P xs → slice_get xs n ≡ Some x → P x
all-at P [] n x all at = absurd (none-some x at)
all-at P (y ∷ xs) zero x all at = subst P (same_Some y x at) all.0
all-at P (y ∷ xs) (suc n) x all at = all-at P xs n x all.1 at

some-place : (x : List ℤ) (slots : List Slot) (n : ℕ) (p : Part) → part_at slots n ≡ Some p → holds p.region x ≡ true → 1 ≤ places (regions (live_parts slots)) x
some-place x slots n p at inside =
    let one : one_if (holds p.region x) ≡ 1 = ap one_if inside in
    omega (arith, one, own-within (λ p. one_if (holds p.region x)) slots n p at, places-add_up x (live_parts slots))

first-place : (x : List ℤ) (slot : Slot) (slots : List Slot) (p : Part) → live_part slot ≡ Some p → holds p.region x ≡ true → places (regions (live_parts (slot ∷ slots))) x ≡ 1 + places (regions (live_parts slots)) x
first-place x slot slots p is inside =
    ap (λ (o : Option Part). places (regions (option_to_list o ++ live_parts slots)) x) is ∙ ap (λ (b : Bool). one_if b + places (regions (live_parts slots)) x) inside

rest-places : (x : List ℤ) (slot : Slot) (slots : List Slot) → places (regions (live_parts slots)) x ≤ places (regions (live_parts (slot ∷ slots))) x
rest-places x slot slots =
    let own = option_to_list (live_part slot) in
    omega (arith, places-add_up x (live_parts slots), places-add_up x (own ++ live_parts slots), add_up-append (λ p. one_if (holds p.region x)) own (live_parts slots))

-- where an input lies in one live entry at most, two that hold it are one
pub alone : (x : List ℤ) (slots : List Slot) (n k : ℕ) (p q : Part) → places (regions (live_parts slots)) x ≤ 1 → part_at slots n ≡ Some p → holds p.region x ≡ true → part_at slots k ≡ Some q → holds q.region x ≡ true → k ≡ n
alone x [] n k p q few at inside also there = absurd (none-some p at)
alone x (slot ∷ slots) zero zero p q few at inside also there = refl
alone x (slot ∷ slots) zero (suc k) p q few at inside also there = absurd (omega (arith, first-place x slot slots p at inside, some-place x slots k q also there))
alone x (slot ∷ slots) (suc n) zero p q few at inside also there = absurd (omega (arith, first-place x slot slots q also there, some-place x slots n p at inside))
alone x (slot ∷ slots) (suc n) (suc k) p q few at inside also there = ap suc (alone x slots n k p q (omega (arith, rest-places x slot slots)) at inside also there)

pub stand-slot : (whole : Part) (history : List Finding) (os : List Origin) (rs : List (Option Retired)) (slots : List Slot) (n : ℕ) (slot : Slot) → Stand whole history os rs slots → slice_get slots n ≡ Some slot → (o : Origin) × (slice_get os n ≡ Some o) × (part_from whole history o ≡ Some slot.part)
stand-slot whole history (o ∷ os) (r ∷ rs) (s ∷ slots) zero slot st at = (o, refl, st.0 ∙ ap (λ (t : Slot). Some t.part) (same_Some s slot at))
stand-slot whole history (o ∷ os) (r ∷ rs) (s ∷ slots) (suc n) slot st at = stand-slot whole history os rs slots n slot st.2 at
stand-slot whole history [] [] [] n slot st at = absurd (none-some slot at)
stand-slot whole history [] [] (s ∷ slots) n slot st at = absurd st
stand-slot whole history [] (r ∷ rs) slots n slot st at = absurd st
stand-slot whole history (o ∷ os) [] slots n slot st at = absurd st
stand-slot whole history (o ∷ os) (r ∷ rs) [] n slot st at = absurd st

pub stand-origin : (whole : Part) (history : List Finding) (os : List Origin) (rs : List (Option Retired)) (slots : List Slot) (n : ℕ) (o : Origin) → Stand whole history os rs slots → slice_get os n ≡ Some o → (slot : Slot) × (slice_get slots n ≡ Some slot) × (part_from whole history o ≡ Some slot.part)
stand-origin whole history (o ∷ os) (r ∷ rs) (s ∷ slots) zero origin st at = (s, refl, ap (λ (x : Origin). part_from whole history x) (sym (same_Some o origin at)) ∙ st.0)
stand-origin whole history (o ∷ os) (r ∷ rs) (s ∷ slots) (suc n) origin st at = stand-origin whole history os rs slots n origin st.2 at
stand-origin whole history [] [] [] n origin st at = absurd (none-some origin at)
stand-origin whole history [] [] (s ∷ slots) n origin st at = absurd st
stand-origin whole history [] (r ∷ rs) slots n origin st at = absurd st
stand-origin whole history (o ∷ os) [] slots n origin st at = absurd st
stand-origin whole history (o ∷ os) (r ∷ rs) [] n origin st at = absurd st

-- an entry that no settlement retired is live
pub stand-live : (whole : Part) (history : List Finding) (os : List Origin) (rs : List (Option Retired)) (slots : List Slot) (n : ℕ) (slot : Slot) → Stand whole history os rs slots → slice_get slots n ≡ Some slot → ((r : Retired) → slice_get rs n ≡ Some (Some r) → ⊥) → part_at slots n ≡ Some slot.part
stand-live whole history (o ∷ os) (None ∷ rs) (s ∷ slots) zero slot st at open_entry =
    ap (λ (b : Bool). cond b (Some s.part) None) st.1 ∙ ap (λ (t : Slot). Some t.part) (same_Some s slot at)
stand-live whole history (o ∷ os) (Some r ∷ rs) (s ∷ slots) zero slot st at open_entry = absurd (open_entry r refl)
stand-live whole history (o ∷ os) (r ∷ rs) (s ∷ slots) (suc n) slot st at open_entry = stand-live whole history os rs slots n slot st.2 at open_entry
stand-live whole history [] [] [] n slot st at open_entry = absurd (none-some slot at)
stand-live whole history [] [] (s ∷ slots) n slot st at open_entry = absurd st
stand-live whole history [] (r ∷ rs) slots n slot st at open_entry = absurd st
stand-live whole history (o ∷ os) [] slots n slot st at open_entry = absurd st
stand-live whole history (o ∷ os) (r ∷ rs) [] n slot st at open_entry = absurd st

-- what is known where a settlement retired an entry that holds an input
pub record IsWay (b : Replay) (x : List ℤ) (n : ℕ) (r : Retired) : Type 0 where
  pub settlement : Finding
  pub applied : slice_get b.history r.settlement ≡ Some settlement
  pub inside : holds settlement.region x ≡ true
  pub steps : (i : ℕ) (p : Part) → slice_get settlement.parts i ≡ Some p → holds p.region x ≡ true → IsStep b x n (r.first + i)

pub way-down : (b : Replay) (root : Part) (os : List Origin) (rs : List (Option Retired)) (counts : Counts) (sums : Totals) (x : List ℤ) (n : ℕ) (r : Retired) → IsTree b root os rs counts sums → Holds (slots b) x n → slice_get rs n ≡ Some (Some r) → IsWay b x n r
way-down b root os rs counts sums x n r tree here at =
    let by = tree.retired n r at in
    let s = by.settlement in
    let stood = stand-slot root b.history os rs (slots b) n here.slot tree.stand here.at in
    let found = ap (λ (o : Option Origin). option_map (λ p. p.region) (option_and_then (part_from root b.history) o)) stood.1 ∙ ap (λ (o : Option Part). option_map (λ p. p.region) o) stood.2 in
    let same : here.slot.part.region ≡ s.region = same_Some here.slot.part.region s.region (sym found ∙ by.region) in
    let inside : holds s.region x ≡ true = ap (λ (t : List Term). holds t x) (sym same) ∙ here.inside in
    record {
      settlement = s;
      applied = by.applied;
      inside = inside;
      steps = λ i p part holds_part.
          let child : slice_get os (r.first + i) ≡ Some (Made r.settlement i) = by.children i (slice_get_within s.parts i p part) in
          let slot = stand-origin root b.history os rs (slots b) (r.first + i) (Made r.settlement i) tree.stand child in
          let from : part_from root b.history (Made r.settlement i) ≡ Some p = ap (λ (o : Option Finding). option_and_then (λ t. slice_get t.parts i) o) by.applied ∙ part in
          let is : slot.0.part ≡ p = same_Some slot.0.part p (sym slot.2 ∙ from) in
          let parent : parent_of b.history (r.first + i) ≡ Some (record { entry = s.entry; part = i }) =
          sym (parent-of-origin b.history os (r.first + i) tree.origins) ∙ ap (λ (o : Option Origin). option_and_then (parent_at b.history) o) child
          ∙ ap (λ (o : Option Finding). option_map (λ t. let q : Parent = record { entry = t.entry; part = i } in q) o) by.applied in
          record {
            later = omega (arith, by.later);
            parent = ap (λ (o : Option Parent). option_map (λ q. q.entry) o) parent ∙ ap Some by.entry;
            holds = record { slot = slot.0; at = slot.1; inside = ap (λ (q : Part). holds q.region x) is ∙ holds_part };
          };
    }

-- whether a settlement retired an entry
pub retired-some : (o : Option (Option Retired)) (r : Retired) → option_and_then (λ q. q) o ≡ Some r → o ≡ Some (Some r)
retired-some None r is = absurd (none-some r is)
retired-some (Some q) r is = ap Some is

pub retired-none : (o : Option (Option Retired)) (r : Retired) → option_and_then (λ q. q) o ≡ None → o ≡ Some (Some r) → ⊥
retired-none o r none is = none-some r (sym none ∙ ap (λ (q : Option (Option Retired)). option_and_then (λ q. q) q) is)

-- the way down, as a step of the walk knows it
pub way-known : (v w : BoardView) (root : Part) (os : List Origin) (rs rs' : List (Option Retired)) (counts : Counts) (sums : Totals) (x : List ℤ) (n : ℕ) (r : Retired) → v ≡ w → IsTree v.replay root os rs counts sums → rs' ≡ rs →
    Some r ≡ option_and_then (λ q. q) (slice_get rs' n) → Holds (slots w.replay) x n → IsWay v.replay x n r
way-known v w root os rs rs' counts sums x n r same tree e is here =
    let Q : BoardView → Type 0 = λ u. Holds (slots u.replay) x n in
    way-down v.replay root os rs counts sums x n r tree (subst Q (sym same) here)
    (retired-some (slice_get rs n) r (ap (λ (z : List (Option Retired)). option_and_then (λ q. q) (slice_get z n)) (sym e) ∙ sym is))

-- the item at a place, of which a list keeps what it stands for
pub stands-for : {A : Type 0} (f : A → Finding) (items : List A) (k : ℕ) (a : A) (s : Finding) → k < length items → a ≡ get_or items k a → slice_get (map f items) k ≡ Some s → f a ≡ s
stands-for f items k a s less is applied =
    same_Some (f a) s (sym (slice_get-map f items k ∙ ap (option_map f) (slice_get_read items (length items) k a refl less is)) ∙ applied)

-- a live entry that holds an input of the space is the only one
pub found-alone : (b : Replay) (x : List ℤ) (n : ℕ) (p : Part) → IsLegalBoard b → IsInput b.pair.before.params x → holds b.space x ≡ true → part_at (slots b) n ≡ Some p → holds p.region x ≡ true → HoldsAlone (slots b) x n
found-alone b x n p legal input inside at there =
    let once : places (regions (live_parts (slots b))) x ≡ 1 = legal.once x input ∙ ap one_if inside in
    record { part = p; live = at; inside = there; others = λ k q also holds_q. alone x (slots b) n k p q (omega (arith, once)) at there also holds_q }

-- the first entry holds each input of the space
first-kept : (slots : List Slot) (history : List Finding) (slot : Slot) → slice_get slots 0 ≡ Some slot → (new : Slot) × (slice_get (after_all slots history) 0 ≡ Some new) × (new.part ≡ slot.part)
first-kept slots [] slot at = (slot, at, refl)
first-kept [] (s ∷ history) slot at = absurd (none-some slot at)
first-kept (t ∷ slots) (s ∷ history) slot at =
    let here = first-after t slots s in
    let rest = first-kept (after (t ∷ slots) s) history here.0 here.1 in
    (rest.0, rest.1, rest.2 ∙ here.2 ∙ ap (λ (u : Slot). u.part) (same_Some t slot at))
  where
    retired-first : (t : Slot) (slots : List Slot) (n : ℕ) (more : List Slot) → (new : Slot) × (slice_get (retire (t ∷ slots) n ++ more) 0 ≡ Some new) × (new.part ≡ t.part)
    retired-first t slots zero more = (record { part = t.part; live = false }, refl, refl)
    retired-first t slots (suc n) more = (t, refl, refl)

    first-after : (t : Slot) (slots : List Slot) (s : Finding) → (new : Slot) × (slice_get (after (t ∷ slots) s) 0 ≡ Some new) × (new.part ≡ t.part)
    first-after t slots s = retired-first t slots s.entry (map live_slot s.parts)

pub holds-first : (b : Replay) (x : List ℤ) → holds b.space x ≡ true → Holds (slots b) x 0
holds-first b x inside =
    let first = first-kept (live_slot (whole b.space) ∷ []) b.history (live_slot (whole b.space)) refl in
    record { slot = first.0; at = first.1; inside = ap (λ (p : Part). holds p.region x) first.2 ∙ inside }

-- an entry that no settlement retired, and that holds an input of the space
pub alone-here : (v w : BoardView) (root : Part) (os : List Origin) (rs rs' : List (Option Retired)) (counts : Counts) (sums : Totals) (x : List ℤ) (n : ℕ) → v ≡ w → IsTree v.replay root os rs counts sums → rs' ≡ rs →
    None ≡ option_and_then (λ q. q) (slice_get rs' n) → length x ≡ w.replay.pair.before.params → All IsWord x → holds w.replay.space x ≡ true → Holds (slots w.replay) x n → HoldsAlone (slots w.replay) x n
alone-here v w root os rs rs' counts sums x n same tree e is long words inside here =
    let P : BoardView → Type 0 = λ u. Holds (slots u.replay) x n → length x ≡ u.replay.pair.before.params → holds u.replay.space x ≡ true → HoldsAlone (slots u.replay) x n in
    let b = v.replay in
    let none : option_and_then (λ q. q) (slice_get rs n) ≡ None = ap (λ (z : List (Option Retired)). option_and_then (λ q. q) (slice_get z n)) (sym e) ∙ sym is in
    let go : P v = λ at many within.
    let live = stand-live root b.history os rs (slots b) n at.slot tree.stand at.at (λ r was. retired-none (slice_get rs n) r none was) in
    found-alone b x n at.slot.part (legal-replay b tree.replay tree.settlements) (record { long = many; words = words }) within live at.inside in
    let there = subst P same go in
    there here long inside

-- an entry that holds an input has a number below the next
pub holds-within : (entries : List Slot) (x : List ℤ) (n : ℕ) → Holds entries x n → n < length entries
holds-within entries x n here = slice_get_within entries n here.slot here.at

-- a way begins with the first entry
pub way-first : (b : Replay) (x : List ℤ) → Holds (slots b) x 0 → IsWayTo b x (0 ∷ []) 0
way-first b x here = record {
  first = refl;
  parents = λ i k m at next. absurd (omega (arith, slice_get_within (0 ∷ []) (i + 1) m next));
  inside = one;
  last = ([], refl);
}
  where
    one : (i k : ℕ) → slice_get (0 ∷ []) i ≡ Some k → Holds (slots b) x k
    one zero k at = let P : ℕ → Type 0 = λ n. Holds (slots b) x n in subst P (same_Some 0 k at) here
    one (suc i) k at = absurd (none-some k at)

get-earlier : (xs ys : List ℕ) (i p : ℕ) → slice_get (xs ++ ys) i ≡ Some p → i < length xs → slice_get xs i ≡ Some p
get-earlier [] ys i p at less = absurd (omega arith)
get-earlier (y ∷ xs) ys zero p at less = at
get-earlier (y ∷ xs) ys (suc i) p at less = get-earlier xs ys i p at (omega arith)

last-is : (path front : List ℕ) (n i p : ℕ) → path ≡ front ++ n ∷ [] → i + 1 ≡ length path → slice_get path i ≡ Some p → p ≡ n
last-is path front n i p is end at =
    let long : length path ≡ length front + 1 = ap length is ∙ length-append front (n ∷ []) in
    let here : slice_get path i ≡ Some n = ap (λ (ps : List ℕ). slice_get ps i) is ∙ ap (λ (j : ℕ). slice_get (front ++ n ∷ []) j) (let e : i ≡ length front + 0 = omega arith in e) ∙ get-back front (n ∷ []) 0 in
    same_Some p n (sym at ∙ here)

parent-last : (b : Replay) (x : List ℤ) (path : List ℕ) (n m i k q : ℕ) → IsWayTo b x path n → IsStep b x n m → slice_get (path ++ m ∷ []) i ≡ Some k → (j : ℕ) × (i + 1 ≡ length path + j) × (slice_get (m ∷ []) j ≡ Some q) → option_map (λ r. r.entry) (parent_of b.history q) ≡ Some k
parent-last b x path n m i k q way step at (zero, e, is) =
    let end : i + 1 ≡ length path = omega arith in
    let before = get-earlier path (m ∷ []) i k at (omega arith) in
    let P : ℕ → Type 0 = λ t. option_map (λ r. r.entry) (parent_of b.history t) ≡ Some k in
    subst P (same_Some m q is) (step.parent ∙ ap Some (sym (last-is path way.last.0 n i k way.last.1 end before)))
parent-last b x path n m i k q way step at (suc j, e, is) = absurd (none-some q is)

holds-last : (b : Replay) (x : List ℤ) (path : List ℕ) (m i k : ℕ) → Holds (slots b) x m → (j : ℕ) × (i ≡ length path + j) × (slice_get (m ∷ []) j ≡ Some k) → Holds (slots b) x k
holds-last b x path m i k here (zero, e, is) = let P : ℕ → Type 0 = λ t. Holds (slots b) x t in subst P (same_Some m k is) here
holds-last b x path m i k here (suc j, e, is) = absurd (none-some k is)

-- a way goes on by a step
pub way-push : (b : Replay) (x : List ℤ) (path : List ℕ) (n m : ℕ) → IsWayTo b x path n → IsStep b x n m → IsWayTo b x (path ++ m ∷ []) m
way-push b x path n m way step = record {
  first = get-front path (m ∷ []) 0 0 way.first;
  parents = λ i k q at next. elim (get-append path (m ∷ []) (i + 1) q next) [
    | inl inside ↦ way.parents i k q (get-earlier path (m ∷ []) i k at (omega (arith, slice_get_within path (i + 1) q inside))) inside
    | inr behind ↦ parent-last b x path n m i k q way step at behind
  ];
  inside = λ i k at. elim (get-append path (m ∷ []) i k at) [
    | inl inside ↦ way.inside i k inside
    | inr behind ↦ holds-last b x path m i k step.holds behind
  ];
  last = (path, refl);
}
