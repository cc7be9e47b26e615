-- A replay of settlements is legal.
use Rattle.std.proofs.Common.{◌≡◌, ℕ, ◌+◌, List, [], ◌∷◌, ℤ, refl, sym, ap, ◌∙◌, subst, arith}
use Rattle.std.specs.List.{AllByRecursion}
use Rattle.prv_model.specs.Boards.{places, one_if, Covers, IsTrueOf}
use Rattle.prv_model.specs.Terms.{holds}
use Rattle.prv_model.specs.declared.program.Pair.{Pair}
use Rattle.prv_model.specs.declared.term.Term.{Term}
use Rattle.prv_part.specs.declared.part.Part.{Part}
use Rattle.prv_part.specs.Settlements.{Finding, IsSettlement}
use Rattle.prv_board.specs.Slots.{Slot, after, after_all, live_parts, part_at, whole}
use Rattle.prv_board.specs.Replays.{Replay, unsettled, with_one_more, slots, add_up, HasRegion, ApplyInTurn, IsReplay}
use Rattle.prv_board.specs.Legality.{regions, AreLegal, IsLegalBoard}
use Rattle.prv_board.proofs.SlotLaws.{add_up-after, all-after, mapped-some}
use Rattle.prv_board.proofs.ReplayLaws.{slots-push}

-- in how many of some parts an input lies
pub places-add_up : (x : List ℤ) (parts : List Part) → places (regions parts) x ≡ add_up (λ p. one_if (holds p.region x)) parts
places-add_up x [] = refl
places-add_up x (p ∷ parts) = ap (λ (k : ℕ). one_if (holds p.region x) + k) (places-add_up x parts)

pub places-after : (x : List ℤ) (slots : List Slot) (s : Finding) → HasRegion slots s → places (regions s.parts) x ≡ one_if (holds s.region x) → places (regions (live_parts (after slots s))) x ≡ places (regions (live_parts slots)) x
places-after x slots s has once =
    let found = mapped-some (λ p. p.region) (part_at slots s.entry) s.region has in
    let own : one_if (holds (found.0).region x) ≡ one_if (holds s.region x) = ap (λ (r : List Term). one_if (holds r x)) found.2 in
    omega (arith, own, add_up-after (λ p. one_if (holds p.region x)) slots s found.0 found.1, places-add_up x (live_parts (after slots s)), places-add_up x (live_parts slots), places-add_up x s.parts)

-- a settlement of a live entry keeps that the parts are legal
pub legal-after : (pair : Pair) (space : List Term) (slots : List Slot) (s : Finding) → AreLegal pair space (live_parts slots) → s.pair ≡ pair → HasRegion slots s → IsSettlement s → AreLegal pair space (live_parts (after slots s))
legal-after pair space slots s legal same has settled =
    let P : Pair → Type 0 = λ q. Covers q.before.params s.region (regions s.parts) in
    let Q : Pair → Type 0 = λ q. AllByRecursion (λ p. IsTrueOf q p.kind p.region) s.parts in
    let once : Covers pair.before.params s.region (regions s.parts) = subst P same settled.once in
    record {
      once = λ x is. places-after x slots s has (once x is) ∙ legal.once x is;
      true_kinds = all-after (λ p. IsTrueOf pair p.kind p.region) slots s legal.true_kinds (subst Q same settled.true_parts);
    }

pub legal-in-turn : (b : Replay) (more : List Finding) → IsLegalBoard b → ApplyInTurn b more → AllByRecursion IsSettlement more → AreLegal b.pair b.space (live_parts (after_all (slots b) more))
legal-in-turn b [] legal applies all = legal
legal-in-turn b (s ∷ more) legal applies all =
    let P : List Slot → Type 0 = λ ss. AreLegal b.pair b.space (live_parts ss) in
    let Q : List Slot → Type 0 = λ ss. AreLegal b.pair b.space (live_parts (after_all ss more)) in
    let now = legal-after b.pair b.space (slots b) s legal applies.0.belongs.same_pair applies.0.belongs.same_region all.0 in
    subst Q (slots-push b s) (legal-in-turn (with_one_more b s) more (subst P (sym (slots-push b s)) now) applies.1 all.1)

-- a board begins legal
pub legal-unsettled : (pair : Pair) (space : List Term) → AreLegal pair space (whole space ∷ [])
legal-unsettled pair space = record {
  once = λ x is. omega arith;
  true_kinds = (record { claims = λ x is inside. tt; sample = tt }, tt);
}

-- a replay of settlements is legal
pub legal-replay : (b : Replay) → IsReplay b → AllByRecursion IsSettlement b.history → IsLegalBoard b
legal-replay b replay all =
    legal-in-turn (unsettled b.pair b.space b.caps) b.history (legal-unsettled b.pair b.space) replay all
