-- What one turn did, put together from what its calls answered.
use Rattle.std.proofs.Common.{◌≡◌, ℕ, ◌<◌, ◌≤◌, nat_lt, true, false, ◌⊎◌, inl, inr, List, Option, Some, refl, sym, ap, ◌∙◌, subst, arith}
use Rattle.std.specs.Option.{option_map}
use Rattle.prv_model.specs.declared.program.Pair.{Pair}
use Rattle.prv_model.specs.declared.term.Term.{Term}
use Rattle.prv_part.specs.declared.part.Part.{Part}
use Rattle.prv_part.specs.Settlements.{Finding}
use Rattle.prv_board.specs.Slots.{part_at, is_claimable, IsNextClaimable, NoneClaimable}
use Rattle.prv_board.specs.Replays.{Replay, with_one_more, slots, HasRegion, Applies, Refuses}
use Rattle.prv_board.specs.declared.error.ApplyError.TheVariants.{Stranger, Full}
use Rattle.prv_board.specs.declared.error.StrangerWhy.{StrangerWhy}
use Rattle.prv_board.specs.declared.totals.Totals.{Totals}
use Rattle.prv_board.specs.declared.error.StrangerWhy.TheVariants as stranger
use Rattle.prv_record.specs.declared.raw.Raw.{Raw}
use Rattle.prv_settle.specs.Budgets.{HasBudget}
use Rattle.prv_settle.specs.Settlings.{IsSettled}
use Rattle.prv_settle.specs.Supported.{finding_of, IsSupported}
use Rattle.prv_settle.proofs.Budgeting.{has-budget, raw-entry}
use Rattle.prv_explore.specs.Explorations.{IsTurn}
use Rattle.prv_explore.specs.Turns.{NoneBelow, Turned, IsOfEntry}
use Rattle.prv_explore.specs.declared.turn.Turn.TheVariants as turn
use Rattle.prv_explore.proofs.Grown.{claimable-open, claimable-before}

below_or_not : (a b : ℕ) → (a < b) ⊎ (b ≤ a)
below_or_not a b = elim (nat_lt a b) as (λ t. nat_lt a b ≡ t → (a < b) ⊎ (b ≤ a)) [ true ↦ λ e. inl (grind (arith, e)) | false ↦ λ e. inr (grind (arith, e)) ] refl

-- the least entry from a number on is the least of all, where none below the number can be worked on
pub least : (b : Replay) (first lines n : ℕ) → NoneBelow b first lines → IsNextClaimable (slots b) first lines n → IsNextClaimable (slots b) 0 lines n
least b first lines n below next = record {
  later = omega arith;
  claimable = next.claimable;
  others = λ k low high. elim (below_or_not k first) [ inl less ↦ below k less | inr more ↦ next.others k more high ];
}

pub none-left : (b : Replay) (first lines : ℕ) → NoneBelow b first lines → NoneClaimable (slots b) first lines → NoneClaimable (slots b) 0 lines
none-left b first lines below none = λ k low. elim (below_or_not k first) [ inl less ↦ below k less | inr more ↦ none k more ]

-- the region of an entry that was read
pub has-region : (b : Replay) (s : Finding) (n : ℕ) (p : Part) → part_at (slots b) n ≡ Some p → s.entry ≡ n → s.region ≡ p.region → HasRegion (slots b) s
has-region b s n p is entry region =
    ap (λ (k : ℕ). option_map (λ p. p.region) (part_at (slots b) k)) entry ∙ ap (λ (o : Option Part). option_map (λ p. p.region) o) is ∙ ap (λ (x : List Term). Some x) (sym region)

-- the parts of what was found of an entry were left with the budget
pub of-entry-left : (b : Replay) (entry lines : ℕ) (s : Finding) (raw : Raw) → IsOfEntry b entry lines s raw → HasBudget lines s
of-entry-left b entry lines s raw of = has-budget b.pair s.region entry lines s raw of.settled of.finding_is

pub turn-parts : (b : Replay) (lines : ℕ) (s : Finding) (raw : Raw) → IsTurn b lines s raw → HasBudget lines s
turn-parts b lines s raw turn = has-budget b.pair s.region s.entry lines s raw turn.settled turn.finding_is

-- what was found of the least entry is a turn
pub is-turn : (b : Replay) (first lines n : ℕ) (s : Finding) (raw : Raw) → NoneBelow b first lines → IsNextClaimable (slots b) first lines n → IsOfEntry b n lines s raw → IsSupported s raw → IsTurn b lines s raw
is-turn b first lines n s raw below next of supported =
    let P : ℕ → Type 0 = λ k. IsNextClaimable (slots b) 0 lines k in
    let Q : ℕ → Type 0 = λ k. IsSettled b.pair s.region k lines raw in
    record {
      least = subst P (sym of.entry_is) (least b first lines n below next);
      region = of.region;
      settled = subst Q (sym of.entry_is) of.settled;
      finding_is = of.finding_is;
      supported = supported;
    }

-- no such settlement is a stranger to the board
pub no-stranger : (b : Replay) (entry lines : ℕ) (s : Finding) (raw : Raw) (why : StrangerWhy) → is_claimable (slots b) entry lines ≡ true → IsOfEntry b entry lines s raw → Refuses b s (Stranger why) → ⊥
no-stranger b entry lines s raw stranger.Pair claimable of refused = refused (ap (λ (f : Finding). f.pair) of.finding_is)
no-stranger b entry lines s raw (stranger.NotLive k) claimable of refused =
    let P : ℕ → Type 0 = λ k. is_claimable (slots b) k lines ≡ true in
    let opened = claimable-open (slots b) s lines (of-entry-left b entry lines s raw of) (subst P (sym of.entry_is) claimable) in
    absurd (cc (refused.2, opened))
no-stranger b entry lines s raw (stranger.Region k) claimable of refused = refused.3 of.region
no-stranger b entry lines s raw (stranger.NotOut k) claimable of refused = refused
no-stranger b entry lines s raw (stranger.Entry found given) claimable of refused = refused

-- behind a turn, none below its entry can be worked on
pub below-after : (b : Replay) (lines : ℕ) (s : Finding) (raw : Raw) → IsTurn b lines s raw → NoneBelow (with_one_more b s) s.entry lines
below-after b lines s raw turn =
    λ k less. claimable-before b s lines k turn.least.claimable less ∙ turn.least.others k (omega arith) less

-- what settling an entry's region gave is of the entry
pub settled-of : (b : Replay) (entry lines : ℕ) (p : Part) (pair : Pair) (s : Finding) (raw : Raw) → Some p ≡ part_at (slots b) entry → pair ≡ b.pair → IsSettled pair p.region entry lines raw → s ≡ finding_of pair p.region raw → IsOfEntry b entry lines s raw
settled-of b entry lines p pair s raw at same settled found =
    let P : Pair → Type 0 = λ q. IsSettled q p.region entry lines raw in
    let Q : List Term → Type 0 = λ r. IsSettled b.pair r entry lines raw in
    let number : s.entry ≡ entry = ap (λ (f : Finding). f.entry) found ∙ raw-entry pair p.region entry lines raw settled in
    let region : s.region ≡ p.region = ap (λ (f : Finding). f.region) found in
    record {
      entry_is = number;
      region = has-region b s entry p (sym at) number region;
      settled = subst Q (sym region) (subst P same settled);
      finding_is = found ∙ ap (λ (q : Pair). finding_of q p.region raw) same ∙ ap (λ (r : List Term). finding_of b.pair r raw) (sym region);
    }

-- a turn whose settlement was applied, and one for which there was no room
pub turned-made : (b after : Replay) (first lines n : ℕ) (s t : Finding) (raw : Raw) → NoneBelow b first lines → IsNextClaimable (slots b) first lines n → IsOfEntry b n lines s raw → IsSupported s raw → t ≡ s
    → Applies b t → after ≡ with_one_more b t → Turned b after lines (turn.Made n)
turned-made b after first lines n s t raw below next of supported same applies grown =
    let P : Finding → Type 0 = λ f. Applies b f in
    let is = is-turn b first lines n s raw below next of supported in
    (s, raw, is, subst P same applies, grown ∙ ap (λ (f : Finding). with_one_more b f) same, sym of.entry_is)

pub turned-full : (b after : Replay) (first lines n : ℕ) (reached : Totals) (s t : Finding) (raw : Raw) → NoneBelow b first lines → IsNextClaimable (slots b) first lines n → IsOfEntry b n lines s raw → IsSupported s raw → t ≡ s
    → Refuses b t (Full reached) → after ≡ b → Turned b after lines (turn.Full reached)
turned-full b after first lines n reached s t raw below next of supported same refused left =
    let P : Finding → Type 0 = λ f. Refuses b f (Full reached) in
    let is = is-turn b first lines n s raw below next of supported in
    (left, s, raw, is, subst P same refused)

pub never-stranger : (b : Replay) (n lines : ℕ) (s t : Finding) (raw : Raw) (why : StrangerWhy) → is_claimable (slots b) n lines ≡ true → IsOfEntry b n lines s raw → t ≡ s → Refuses b t (Stranger why) → ⊥
never-stranger b n lines s t raw why claimable of same refused =
    let P : Finding → Type 0 = λ f. Refuses b f (Stranger why) in
    no-stranger b n lines s raw why claimable of (subst P same refused)
