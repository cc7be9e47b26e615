-- A board with one more settlement.
use Rattle.std.proofs.Common.{◌≡◌, ℕ, zero, suc, ◌+◌, List, [], ◌∷◌, ◌++◌, length, map, take, get_or, ◌<◌, Some, slice_get, refl, sym, ap, ◌∙◌, subst, arith, append_assoc}
use Rattle.std.proofs.lemmas.List.{append-nil}
use Rattle.std.proofs.lemmas.Option.{none-some, same_Some, slice_get-map, slice_get_read}
use Rattle.std.specs.Option.{option_map}
use Rattle.std.specs.List.{AllByRecursion}
use Rattle.prv_part.specs.Settlements.{Finding}
use Rattle.prv_board.specs.Slots.{after, live_slot, whole}
use Rattle.prv_board.specs.Replays.{Replay, unsettled, prefix, with_one_more, slots, numbers_of, Applies, ApplyInTurn, IsReplay}
use Rattle.prv_board.proofs.SlotLaws.{after_all-push, length-map}

pub slots-push : (b : Replay) (s : Finding) → slots (with_one_more b s) ≡ after (slots b) s
slots-push b s = after_all-push (live_slot (whole b.space) ∷ []) b.history s

pub numbers_of-push : (history : List Finding) (s : Finding) → numbers_of (history ++ s ∷ []) ≡ numbers_of history + (s.numbers + length s.parts)
numbers_of-push [] s = omega arith
numbers_of-push (x ∷ history) s = omega (arith, numbers_of-push history s)

-- a board with some settlements more
abbrev pub with_more : Replay → List Finding → Replay
with_more b more = record { pair = b.pair; space = b.space; caps = b.caps; history = b.history ++ more }

pub in-turn-push : (b : Replay) (more : List Finding) (s : Finding) → ApplyInTurn b more → Applies (with_more b more) s → ApplyInTurn b (more ++ s ∷ [])
in-turn-push b [] s before last =
    let P : List Finding → Type 0 = λ h. Applies (record { pair = b.pair; space = b.space; caps = b.caps; history = h }) s in
    (subst P (append-nil b.history) last, tt)
in-turn-push b (x ∷ more) s before last =
    let P : List Finding → Type 0 = λ h. Applies (record { pair = b.pair; space = b.space; caps = b.caps; history = h }) s in
    (before.0, in-turn-push (with_one_more b x) more s before.1 (subst P (sym (append_assoc b.history (x ∷ []) more)) last))

-- a settlement that applies goes on with the replay
pub replay-push : (b : Replay) (s : Finding) → IsReplay b → Applies b s → IsReplay (with_one_more b s)
replay-push b s replay last = in-turn-push (unsettled b.pair b.space b.caps) b.history s replay last

-- of settlements that apply in turn, each applies to the board of those before it
pub applies-at : (b : Replay) (more : List Finding) (k : ℕ) (s : Finding) → ApplyInTurn b more → slice_get more k ≡ Some s → Applies (with_more b (take k more)) s
applies-at b [] k s applies at = absurd (none-some s at)
applies-at b (x ∷ more) zero s applies at =
    let P : List Finding → Type 0 = λ h. Applies (record { pair = b.pair; space = b.space; caps = b.caps; history = h }) x in
    let Q : Finding → Type 0 = λ f. Applies (with_more b []) f in
    subst Q (same_Some x s at) (subst P (sym (append-nil b.history)) applies.0)
applies-at b (x ∷ more) (suc k) s applies at =
    let P : List Finding → Type 0 = λ h. Applies (record { pair = b.pair; space = b.space; caps = b.caps; history = h }) s in
    subst P (append_assoc b.history (x ∷ []) (take k more)) (applies-at (with_one_more b x) more k s applies.1 at)

-- the next settlement of a replay applies to the board of those before it
pub applies-next : (b : Replay) (k : ℕ) (s : Finding) → IsReplay b → slice_get b.history k ≡ Some s → Applies (prefix k b) s
applies-next b k s replay at = applies-at (unsettled b.pair b.space b.caps) b.history k s replay at

-- one settlement more of the first ones
pub take-next : (history : List Finding) (k : ℕ) (s : Finding) → slice_get history k ≡ Some s → take (k + 1) history ≡ take k history ++ s ∷ []
take-next [] k s at = absurd (none-some s at)
take-next (x ∷ history) zero s at = ap (λ (y : Finding). y ∷ []) (same_Some x s at)
take-next (x ∷ history) (suc k) s at = ap (λ (n : ℕ). take n (x ∷ history)) (let e : suc k + 1 ≡ suc (k + 1) = omega arith in e) ∙ ap (λ (ys : List Finding). x ∷ ys) (take-next history k s at)

pub prefix-next : (b : Replay) (k : ℕ) (s : Finding) → slice_get b.history k ≡ Some s → prefix (k + 1) b ≡ with_one_more (prefix k b) s
prefix-next b k s at = λ i. record { pair = b.pair; space = b.space; caps = b.caps; history = take-next b.history k s at i }

-- the settlement at a place, of which a list keeps what it stands for
pub known-at : {A : Type 0} (f : A → Finding) (items : List A) (history : List Finding) (k : ℕ) (a : A) → map f items ≡ history → k < length history → a ≡ get_or items k a → slice_get history k ≡ Some (f a)
known-at f items history k a same less is =
    let within : k < length items = omega (arith, less, ap (λ (h : List Finding). length h) same, length-map f items) in
    ap (λ (h : List Finding). slice_get h k) (sym same) ∙ slice_get-map f items k ∙ ap (option_map f) (slice_get_read items (length items) k a refl within is)
