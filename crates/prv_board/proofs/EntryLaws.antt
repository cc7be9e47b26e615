-- What the region of a live entry keeps: it speaks of the pair's parameters alone, in few literals.
use Rattle.std.proofs.Common.{◌≡◌, ℕ, zero, suc, ◌≤◌, ◌^◌, List, [], ◌∷◌, ◌++◌, length, Option, None, Some, option_to_list, sym, ap, subst, arith}
use Rattle.std.proofs.lemmas.Option.{none-some}
use Rattle.std.specs.Option.{option_map, IfSome}
use Rattle.std.specs.List.{AllByRecursion}
use Rattle.prv_model.specs.declared.program.Pair.{Pair}
use Rattle.prv_part.specs.declared.part.Part.{Part}
use Rattle.prv_part.specs.Parts.{IsOver, AreOver}
use Rattle.prv_part.specs.Settlements.{Finding, IsSettlement}
use Rattle.prv_board.specs.Slots.{Slot, after_all, live_part, live_parts, part_at}
use Rattle.prv_board.specs.Replays.{Replay, unsettled, with_one_more, slots, ApplyInTurn}
use Rattle.prv_board.specs.Kept.{IsTree}
use Rattle.prv_board.specs.declared.counts.Counts.{Counts}
use Rattle.prv_board.specs.declared.totals.Totals.{Totals}
use Rattle.prv_board.specs.declared.tree.Origin.{Origin}
use Rattle.prv_board.specs.declared.tree.Retired.{Retired}
use Rattle.prv_board.proofs.SlotLaws.{all-after, all-back}
use Rattle.prv_board.proofs.ReplayLaws.{slots-push}
use Rattle.prv_board.proofs.BoardLaws.{own-within}

over-in-turn : (b : Replay) (more : List Finding) → AreOver b.pair.before.params (live_parts (slots b)) → ApplyInTurn b more → AllByRecursion IsSettlement more → AreOver b.pair.before.params (live_parts (after_all (slots b) more))
over-in-turn b [] over applies all = over
over-in-turn b (s ∷ more) over applies all =
    let n = b.pair.before.params in
    let P : List Slot → Type 0 = λ ss. AreOver n (live_parts ss) in
    let Q : List Slot → Type 0 = λ ss. AreOver n (live_parts (after_all ss more)) in
    let R : Pair → Type 0 = λ q. AreOver q.before.params s.parts in
    let now = all-after (λ p. IsOver n p.region) (slots b) s over (subst R applies.0.belongs.same_pair all.0.over) in
    subst Q (slots-push b s) (over-in-turn (with_one_more b s) more (subst P (sym (slots-push b s)) now) applies.1 all.1)

-- what holds of all live entries holds of each
live-at : (P : Part → Type 0) (slots : List Slot) (n : ℕ) (p : Part) → AllByRecursion P (live_parts slots) → part_at slots n ≡ Some p → P p
live-at P [] n p all at = absurd (none-some p at)
live-at P (slot ∷ slots) zero p all at =
    let Q : Option Part → Type 0 = λ o. AllByRecursion P (option_to_list o ++ live_parts slots) in
    let first = subst Q at all in
    first.0
live-at P (slot ∷ slots) (suc n) p all at = live-at P slots n p (all-back P (option_to_list (live_part slot)) (live_parts slots) all) at

pub entry-over : (b : Replay) (root : Part) (os : List Origin) (rs : List (Option Retired)) (tally : Counts) (sums : Totals) (n : ℕ) (p : Part) → IsTree b root os rs tally sums → part_at (slots b) n ≡ Some p → IsOver b.pair.before.params p.region
entry-over b root os rs tally sums n p tree at =
    live-at (λ q. IsOver b.pair.before.params q.region) (slots b) n p (over-in-turn (unsettled b.pair b.space b.caps) b.history (tree.over, tt) tree.replay tree.settlements) at

pub entry-few : (b : Replay) (root : Part) (os : List Origin) (rs : List (Option Retired)) (tally : Counts) (sums : Totals) (n : ℕ) (p : Part) → IsTree b root os rs tally sums → part_at (slots b) n ≡ Some p → length p.region ≤ 2 ^ 48
entry-few b root os rs tally sums n p tree at =
    let all = ap (λ (t : Totals). t.literals) tree.totals in
    omega (arith, all, tree.fits.literals, tree.caps.few_literals, own-within (λ q. length q.region) (slots b) n p at)

-- what a fact says of each part that may stand at a number, it says of the one that is lent
pub lent : {R : Type 0} (now : R → Part) (r : Option R) (o : Option Part) (Q : Part → Type 0) → option_map now r ≡ o → ((p : Part) → o ≡ Some p → Q p) → IfSome r (λ x. Q (now x))
lent now None o Q is all = tt
lent now (Some x) o Q is all = all (now x) (sym is)
