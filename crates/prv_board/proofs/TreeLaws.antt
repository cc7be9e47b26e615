-- Origins and retirements that stand for entries go on doing so after a settlement.
use Rattle.std.proofs.Common.{inl, inr, ◌⊎◌, ◌≡◌, ℕ, zero, suc, ◌+◌, ◌<◌, Bool, cond, List, [], ◌∷◌, ◌++◌, length, map, set, Option, Some, None, slice_get, refl, sym, ap, ◌∙◌, subst, arith, append_assoc, length-append}
use Rattle.std.proofs.lemmas.Option.{none-some, same_Some, slice_get_within}
use Rattle.std.specs.Option.{option_map, option_and_then}
use Rattle.prv_model.specs.declared.term.Term.{Term}
use Rattle.prv_part.specs.declared.part.Part.{Part}
use Rattle.prv_part.specs.Settlements.{Finding}
use Rattle.prv_board.specs.Slots.{Slot, live_slot, retire, after, part_at}
use Rattle.prv_board.specs.Replays.{HasRegion}
use Rattle.prv_board.proofs.SlotLaws.{mapped-some}
use Rattle.prv_board.specs.Trees.{part_from, unless_retired, Stand, origins_from, not_retired, IsRetired, AreRetired}
use Rattle.prv_board.specs.declared.tree.Origin.{Origin}
use Rattle.prv_board.specs.declared.tree.Origin.TheVariants.{Space, Made}
use Rattle.prv_board.specs.declared.tree.Retired.{Retired}

pub get-front : {X : Type 0} (xs ys : List X) (n : ℕ) (x : X) → slice_get xs n ≡ Some x → slice_get (xs ++ ys) n ≡ Some x
get-front [] ys n x is = absurd (none-some x is)
get-front (y ∷ xs) ys zero x is = is
get-front (y ∷ xs) ys (suc n) x is = get-front xs ys n x is

pub get-back : {X : Type 0} (xs ys : List X) (n : ℕ) → slice_get (xs ++ ys) (length xs + n) ≡ slice_get ys n
get-back [] ys n = ap (λ (k : ℕ). slice_get ys k) (omega arith)
get-back (x ∷ xs) ys n = ap (λ (k : ℕ). slice_get (x ∷ (xs ++ ys)) k) (let e : suc (length xs) + n ≡ suc (length xs + n) = omega arith in e) ∙ get-back xs ys n

-- a lookup in two lists, one after the other
pub get-append : {X : Type 0} (xs ys : List X) (n : ℕ) (x : X) → slice_get (xs ++ ys) n ≡ Some x → (slice_get xs n ≡ Some x) ⊎ ((i : ℕ) × (n ≡ length xs + i) × (slice_get ys i ≡ Some x))
get-append [] ys n x is = inr (n, omega arith, is)
get-append (y ∷ xs) ys zero x is = inl is
get-append (y ∷ xs) ys (suc n) x is = elim (get-append xs ys n x is) [ inl h ↦ inl h | inr h ↦ inr (h.0, (let e : n ≡ length xs + h.0 = h.1 in omega arith), h.2) ]

pub get-set : {X : Type 0} (xs : List X) (e n : ℕ) (v x : X) → slice_get (set xs e v) n ≡ Some x → ((n ≡ e) × (x ≡ v)) ⊎ (slice_get xs n ≡ Some x)
get-set [] e n v x is = absurd (none-some x is)
get-set (y ∷ xs) zero zero v x is = inl (refl, sym (same_Some v x is))
get-set (y ∷ xs) zero (suc n) v x is = inr is
get-set (y ∷ xs) (suc e) zero v x is = inr is
get-set (y ∷ xs) (suc e) (suc n) v x is = elim (get-set xs e n v x is) [ inl h ↦ inl (ap suc h.0, h.1) | inr h ↦ inr h ]

pub part_from-more : (whole : Part) (history more : List Finding) (o : Origin) (p : Part) → part_from whole history o ≡ Some p → part_from whole (history ++ more) o ≡ Some p
part_from-more whole history more Space p is = is
part_from-more whole history more (Made k i) p is =
    made (slice_get history k) refl is
  where
    made : (o : Option Finding) → slice_get history k ≡ o → option_and_then (λ s. slice_get s.parts i) o ≡ Some p → option_and_then (λ s. slice_get s.parts i) (slice_get (history ++ more) k) ≡ Some p
    made None at got = absurd (none-some p got)
    made (Some s) at got = ap (λ (o : Option Finding). option_and_then (λ s. slice_get s.parts i) o) (get-front history more k s at) ∙ got

pub stand-more : (whole : Part) (history more : List Finding) (os : List Origin) (rs : List (Option Retired)) (slots : List Slot) → Stand whole history os rs slots → Stand whole (history ++ more) os rs slots
stand-more whole history more [] [] [] st = tt
stand-more whole history more (o ∷ os) (r ∷ rs) (slot ∷ slots) st = (part_from-more whole history more o slot.part st.0, st.1, stand-more whole history more os rs slots st.2)
stand-more whole history more [] [] (slot ∷ slots) st = absurd st
stand-more whole history more [] (r ∷ rs) slots st = absurd st
stand-more whole history more (o ∷ os) [] slots st = absurd st
stand-more whole history more (o ∷ os) (r ∷ rs) [] st = absurd st

pub stand-retire : (whole : Part) (history : List Finding) (os : List Origin) (rs : List (Option Retired)) (slots : List Slot) (n : ℕ) (r : Retired) → Stand whole history os rs slots → Stand whole history os (set rs n (Some r)) (retire slots n)
stand-retire whole history [] [] [] n r st = tt
stand-retire whole history (o ∷ os) (x ∷ rs) (slot ∷ slots) zero r st = (st.0, refl, st.2)
stand-retire whole history (o ∷ os) (x ∷ rs) (slot ∷ slots) (suc n) r st = (st.0, st.1, stand-retire whole history os rs slots n r st.2)
stand-retire whole history [] [] (slot ∷ slots) n r st = absurd st
stand-retire whole history [] (x ∷ rs) slots n r st = absurd st
stand-retire whole history (o ∷ os) [] slots n r st = absurd st
stand-retire whole history (o ∷ os) (x ∷ rs) [] n r st = absurd st

pub stand-append : (whole : Part) (history : List Finding) (os os' : List Origin) (rs rs' : List (Option Retired)) (slots slots' : List Slot) → Stand whole history os rs slots → Stand whole history os' rs' slots' → Stand whole history (os ++ os') (rs ++ rs') (slots ++ slots')
stand-append whole history [] os' [] rs' [] slots' st more = more
stand-append whole history (o ∷ os) os' (x ∷ rs) rs' (slot ∷ slots) slots' st more = (st.0, st.1, stand-append whole history os os' rs rs' slots slots' st.2 more)
stand-append whole history [] os' [] rs' (slot ∷ slots) slots' st more = absurd st
stand-append whole history [] os' (x ∷ rs) rs' slots slots' st more = absurd st
stand-append whole history (o ∷ os) os' [] rs' slots slots' st more = absurd st
stand-append whole history (o ∷ os) os' (x ∷ rs) rs' [] slots' st more = absurd st

pub stand-made : (whole : Part) (history : List Finding) (k : ℕ) (s : Finding) (front parts : List Part) → slice_get history k ≡ Some s → s.parts ≡ front ++ parts →
    Stand whole history (origins_from k (length front) (length parts)) (not_retired (length parts)) (map live_slot parts)
stand-made whole history k s front [] at cut = tt
stand-made whole history k s front (p ∷ parts) at cut =
    let found : part_from whole history (Made k (length front)) ≡ Some p =
    ap (λ (o : Option Finding). option_and_then (λ t. slice_get t.parts (length front)) o) at
    ∙ ap (λ (ps : List Part). slice_get ps (length front)) cut
    ∙ ap (λ (i : ℕ). slice_get (front ++ p ∷ parts) i) (omega arith)
    ∙ get-back front (p ∷ parts) 0 in
    let P : ℕ → Type 0 = λ i. Stand whole history (origins_from k i (length parts)) (not_retired (length parts)) (map live_slot parts) in
    let longer : length (front ++ p ∷ []) ≡ suc (length front) = omega (arith, length-append front (p ∷ [])) in
    (found, refl, subst P longer (stand-made whole history k s (front ++ p ∷ []) parts at (cut ∙ sym (append_assoc front (p ∷ []) parts))))

-- after a settlement
pub stand-after : (whole : Part) (history : List Finding) (os : List Origin) (rs : List (Option Retired)) (slots : List Slot) (s : Finding) (r : Retired) → Stand whole history os rs slots →
    Stand whole (history ++ s ∷ []) (os ++ origins_from (length history) 0 (length s.parts)) (set rs s.entry (Some r) ++ not_retired (length s.parts)) (after slots s)
stand-after whole history os rs slots s r st =
    let last : slice_get (history ++ s ∷ []) (length history) ≡ Some s = ap (λ (i : ℕ). slice_get (history ++ s ∷ []) i) (omega arith) ∙ get-back history (s ∷ []) 0 in
    stand-append whole (history ++ s ∷ []) os (origins_from (length history) 0 (length s.parts)) (set rs s.entry (Some r)) (not_retired (length s.parts)) (retire slots s.entry) (map live_slot s.parts)
    (stand-more whole history (s ∷ []) os (set rs s.entry (Some r)) (retire slots s.entry) (stand-retire whole history os rs slots s.entry r st))
    (stand-made whole (history ++ s ∷ []) (length history) s [] s.parts last refl)

-- what an entry says, by its origin and its retirement
pub stand-part_at : (whole : Part) (history : List Finding) (os : List Origin) (rs : List (Option Retired)) (slots : List Slot) (n : ℕ) → Stand whole history os rs slots → unless_retired whole history (slice_get os n) (slice_get rs n) ≡ part_at slots n
stand-part_at whole history [] [] [] n st = refl
stand-part_at whole history (o ∷ os) (None ∷ rs) (slot ∷ slots) zero st = st.0 ∙ sym (ap (λ (b : Bool). cond b (Some slot.part) None) st.1)
stand-part_at whole history (o ∷ os) (Some r ∷ rs) (slot ∷ slots) zero st = sym (ap (λ (b : Bool). cond b (Some slot.part) None) st.1)
stand-part_at whole history (o ∷ os) (r ∷ rs) (slot ∷ slots) (suc n) st = stand-part_at whole history os rs slots n st.2
stand-part_at whole history [] [] (slot ∷ slots) n st = absurd st
stand-part_at whole history [] (r ∷ rs) slots n st = absurd st
stand-part_at whole history (o ∷ os) [] slots n st = absurd st
stand-part_at whole history (o ∷ os) (r ∷ rs) [] n st = absurd st

-- where an entry that isn't retired comes from
pub unless-some : (whole : Part) (history : List Finding) (o : Option Origin) (r : Option (Option Retired)) (p : Part) → unless_retired whole history o r ≡ Some p → (origin : Origin) × (o ≡ Some origin) × (part_from whole history origin ≡ Some p)
unless-some whole history (Some o) (Some None) p is = (o, refl, is)
unless-some whole history (Some o) (Some (Some r)) p is = absurd (none-some p is)
unless-some whole history (Some o) None p is = absurd (none-some p is)
unless-some whole history None r p is = absurd (none-some p is)

pub then-some : {A B : Type 0} (f : A → Option B) (o : Option A) (y : B) → option_and_then f o ≡ Some y → (x : A) × (o ≡ Some x) × (f x ≡ Some y)
then-some f None y is = absurd (none-some y is)
then-some f (Some x) y is = (x, refl, is)

get-not_retired : (count i : ℕ) (r : Retired) → slice_get (not_retired count) i ≡ Some (Some r) → ⊥
get-not_retired zero i r is = none-some (Some r) is
get-not_retired (suc count) zero r is = none-some r (same_Some None (Some r) is)
get-not_retired (suc count) (suc i) r is = get-not_retired count i r is

pub get-origins : (k j count i : ℕ) → i < count → slice_get (origins_from k j count) i ≡ Some (Made k (j + i))
get-origins k j zero i less = absurd (omega arith)
get-origins k j (suc count) zero less = ap (λ (n : ℕ). Some (Made k n)) (omega arith)
get-origins k j (suc count) (suc i) less = get-origins k (suc j) count i (omega arith) ∙ ap (λ (n : ℕ). Some (Made k n)) (omega arith)

region-more : (whole : Part) (history more : List Finding) (os new : List Origin) (n : ℕ) (o : Origin) (p : Part) (region : List Term) → slice_get os n ≡ Some o → part_from whole history o ≡ Some p → p.region ≡ region →
    option_map (λ p. p.region) (option_and_then (part_from whole (history ++ more)) (slice_get (os ++ new) n)) ≡ Some region
region-more whole history more os new n o p region at from is =
    ap (λ (x : Option Origin). option_map (λ p. p.region) (option_and_then (part_from whole (history ++ more)) x)) (get-front os new n o at)
    ∙ ap (λ (x : Option Part). option_map (λ p. p.region) x) (part_from-more whole history more o p from)
    ∙ ap Some is

retired-more : (whole : Part) (history more : List Finding) (os new : List Origin) (n : ℕ) (r : Retired) → IsRetired whole history os n r → IsRetired whole (history ++ more) (os ++ new) n r
retired-more whole history more os new n r old =
    let said = mapped-some (λ p. p.region) (option_and_then (part_from whole history) (slice_get os n)) old.settlement.region old.region in
    let stood = then-some (part_from whole history) (slice_get os n) said.0 said.1 in
    record {
      settlement = old.settlement;
      applied = get-front history more r.settlement old.settlement old.applied;
      entry = old.entry;
      region = region-more whole history more os new n stood.0 said.0 old.settlement.region stood.1 stood.2 said.2;
      later = old.later;
      children = λ i less. get-front os new (r.first + i) (Made r.settlement i) (old.children i less);
    }

retired-new : (whole : Part) (history : List Finding) (os : List Origin) (rs : List (Option Retired)) (slots : List Slot) (s : Finding) → Stand whole history os rs slots → HasRegion slots s →
    IsRetired whole (history ++ s ∷ []) (os ++ origins_from (length history) 0 (length s.parts)) s.entry (record { settlement = length history; first = length os })
retired-new whole history os rs slots s st has =
    let said = mapped-some (λ p. p.region) (part_at slots s.entry) s.region has in
    let stood = unless-some whole history (slice_get os s.entry) (slice_get rs s.entry) said.0 (stand-part_at whole history os rs slots s.entry st ∙ said.1) in
    let new = origins_from (length history) 0 (length s.parts) in
    record {
      settlement = s;
      applied = ap (λ (i : ℕ). slice_get (history ++ s ∷ []) i) (omega arith) ∙ get-back history (s ∷ []) 0;
      entry = refl;
      region = region-more whole history (s ∷ []) os new s.entry stood.0 said.0 s.region stood.1 stood.2 said.2;
      later = slice_get_within os s.entry stood.0 stood.1;
      children = λ i less. get-back os new i ∙ get-origins (length history) 0 (length s.parts) i less ∙ ap (λ (j : ℕ). Some (Made (length history) j)) (omega arith);
    }

pub retired-after : (whole : Part) (history : List Finding) (os : List Origin) (rs : List (Option Retired)) (slots : List Slot) (s : Finding) → Stand whole history os rs slots → HasRegion slots s → AreRetired whole history os rs →
    AreRetired whole (history ++ s ∷ []) (os ++ origins_from (length history) 0 (length s.parts)) (set rs s.entry (Some (record { settlement = length history; first = length os })) ++ not_retired (length s.parts))
retired-after whole history os rs slots s st has old n r at =
    let fresh : Retired = record { settlement = length history; first = length os } in
    let new = origins_from (length history) 0 (length s.parts) in
    let P : Retired → Type 0 = λ q. IsRetired whole (history ++ s ∷ []) (os ++ new) n q in
    let Q : ℕ → Type 0 = λ m. IsRetired whole (history ++ s ∷ []) (os ++ new) m fresh in
    elim (get-append (set rs s.entry (Some fresh)) (not_retired (length s.parts)) n (Some r) at) [
      | inl front ↦ elim (get-set rs s.entry n (Some fresh) (Some r) front) [
        | inl here ↦ subst P (sym (same_Some r fresh here.1)) (subst Q (sym here.0) (retired-new whole history os rs slots s st has))
        | inr before ↦ retired-more whole history (s ∷ []) os new n r (old n r before)
      ]
      | inr back ↦ absurd (get-not_retired (length s.parts) back.0 r back.2)
    ]
