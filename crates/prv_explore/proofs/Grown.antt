-- Turns one after the other, and what stays as it was below the entry of a turn.
use Rattle.std.proofs.Common.{◌≡◌, ℕ, zero, suc, ◌<◌, true, List, [], ◌∷◌, ◌++◌, map, Option, Some, None, refl, sym, ap, ◌∙◌, subst, arith, append_assoc}
use Rattle.std.proofs.lemmas.List.{append-nil}
use Rattle.prv_part.specs.declared.part.Part.{Part}
use Rattle.prv_part.specs.Settlements.{Finding}
use Rattle.prv_board.specs.Slots.{Slot, live_slot, retire, part_at, may_replace_part, is_open, is_claimable, is_claimable_part}
use Rattle.prv_board.specs.Replays.{Replay, with_one_more, slots}
use Rattle.prv_board.proofs.ReplayLaws.{slots-push}
use Rattle.prv_record.specs.declared.raw.Raw.{Raw}
use Rattle.prv_settle.specs.Budgets.{HasBudget}
use Rattle.prv_settle.proofs.Budgeting.{may-replace}
use Rattle.prv_explore.specs.Explorations.{IsTurn, AreTurns}

-- a board with some settlements more
abbrev pub with_more : Replay → List Finding → Replay
with_more b more = record { pair = b.pair; space = b.space; caps = b.caps; history = b.history ++ more }

-- one more turn behind some turns
pub turns-push : (b : Replay) (lines : ℕ) (more : List Finding) (s : Finding) (raw : Raw) → AreTurns b lines more → IsTurn (with_more b more) lines s raw → AreTurns b lines (more ++ s ∷ [])
turns-push b lines [] s raw before last =
    let P : List Finding → Type 0 = λ h. IsTurn (record { pair = b.pair; space = b.space; caps = b.caps; history = h }) lines s raw in
    ((raw, subst P (append-nil b.history) last), tt)
turns-push b lines (x ∷ more) s raw before last =
    let P : List Finding → Type 0 = λ h. IsTurn (record { pair = b.pair; space = b.space; caps = b.caps; history = h }) lines s raw in
    (before.0, turns-push (with_one_more b x) lines more s raw before.1 (subst P (sym (append_assoc b.history (x ∷ []) more)) last))

-- what an entry says below the one that is settled stays
part-before : (slots : List Slot) (parts : List Slot) (n k : ℕ) (p : Part) → part_at slots n ≡ Some p → k < n → part_at (retire slots n ++ parts) k ≡ part_at slots k
part-before [] parts n k p is below = absurd (cc is)
part-before (slot ∷ slots) parts zero k p is below = absurd (omega arith)
part-before (slot ∷ slots) parts (suc n) zero p is below = refl
part-before (slot ∷ slots) parts (suc n) (suc k) p is below = part-before slots parts n k p is (omega arith)

claimed-some : (budget : ℕ) (o : Option Part) → is_claimable_part budget o ≡ true → (p : Part) × (o ≡ Some p)
claimed-some budget None is = absurd (cc is)
claimed-some budget (Some p) is = (p, refl)

-- so what can be worked on below it stays
pub claimable-before : (b : Replay) (s : Finding) (budget k : ℕ) → is_claimable (slots b) s.entry budget ≡ true → k < s.entry → is_claimable (slots (with_one_more b s)) k budget ≡ is_claimable (slots b) k budget
claimable-before b s budget k is below =
    let found = claimed-some budget (part_at (slots b) s.entry) is in
    ap (λ (ss : List Slot). is_claimable ss k budget) (slots-push b s)
    ∙ ap (λ (o : Option Part). is_claimable_part budget o) (part-before (slots b) (map live_slot s.parts) s.entry k found.0 found.1 below)

-- an entry that can be worked on is open to a settlement that was made with the budget
open-part : (lines : ℕ) (s : Finding) (o : Option Part) → HasBudget lines s → is_claimable_part lines o ≡ true → may_replace_part s.parts o ≡ true
open-part lines s None left is = absurd (cc is)
open-part lines s (Some p) left is = may-replace lines s p.kind left is

pub claimable-open : (slots : List Slot) (s : Finding) (lines : ℕ) → HasBudget lines s → is_claimable slots s.entry lines ≡ true → is_open slots s ≡ true
claimable-open slots s lines left is = open-part lines s (part_at slots s.entry) left is
