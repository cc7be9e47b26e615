-- An exploration that is under way, and how it ends.
use Rattle.std.proofs.Common.{◌≡◌, ℕ, ◌+◌, ◌<◌, ◌≤◌, true, List, [], ◌∷◌, length, refl, sym, ap, ◌∙◌, subst, arith, length-append}
use Rattle.std.specs.List.{AllByRecursion}
use Rattle.prv_model.specs.declared.program.Pair.{Pair}
use Rattle.prv_part.specs.Settlements.{Finding}
use Rattle.prv_board.specs.Slots.{is_claimable, NoneClaimable}
use Rattle.prv_board.specs.Replays.{Replay, unsettled, with_one_more, slots, Applies, IsReplay}
use Rattle.prv_board.proofs.ReplayLaws.{replay-push}
use Rattle.prv_record.specs.declared.raw.Raw.{Raw}
use Rattle.prv_settle.specs.Budgets.{HasBudget}
use Rattle.prv_explore.specs.Explorations.{IsTurn, AreTurns, IsExplorationWithin, HasSupport}
use Rattle.prv_explore.specs.Turns.{NoneBelow, Turned}
use Rattle.prv_explore.specs.declared.plan.Plan.{Plan}
use Rattle.prv_board.specs.declared.ended.Ended.{Ended}
use Rattle.prv_board.specs.declared.ended.Ended.TheVariants.{Done, Full, Settlements}
use Rattle.prv_board.specs.declared.totals.Totals.{Totals}
use Rattle.prv_part.specs.declared.part.Caps.{Caps}
use Rattle.prv_explore.specs.declared.turn.Turn.TheVariants as turn
use Rattle.prv_explore.proofs.Grown.{turns-push}
use Rattle.prv_explore.proofs.Turning.{below-after, turn-parts}

-- the board of a pair over all inputs, with a history
abbrev pub over_all : Caps → Pair → List Finding → Replay
over_all caps pair history = record { pair = pair; space = []; caps = caps; history = history }

-- so many turns were taken, and no entry below `first` can be worked on
pub record IsUnderWay (caps : Caps) (pair : Pair) (b : Replay) (lines first made : ℕ) : Type 0 where
  pub board_is : b ≡ over_all caps pair b.history
  pub turns : AreTurns (unsettled pair [] caps) lines b.history
  pub replay : IsReplay b
  pub made_are : length b.history ≡ made
  pub below : NoneBelow b first lines

pub under_way-start : (b : Replay) (lines : ℕ) → b ≡ unsettled b.pair [] b.caps → IsUnderWay b.caps b.pair b lines 0 0
under_way-start b lines fresh =
    let none : b.history ≡ [] = ap (λ (r : Replay). r.history) fresh in
    let P : List Finding → Type 0 = λ h. AreTurns (unsettled b.pair [] b.caps) lines h in
    let Q : Replay → Type 0 = λ r. IsReplay r in
    record {
      board_is = fresh ∙ ap (λ (h : List Finding). over_all b.caps b.pair h) (sym none);
      turns = subst P (sym none) tt;
      replay = subst Q (sym fresh) tt;
      made_are = ap length none;
      below = λ k less. absurd (omega arith);
    }

under_way-push : (caps : Caps) (pair : Pair) (b : Replay) (lines first made : ℕ) (s : Finding) (raw : Raw) → IsUnderWay caps pair b lines first made → IsTurn b lines s raw → Applies b s → IsUnderWay caps pair (with_one_more b s) lines s.entry (made + 1)
under_way-push caps pair b lines first made s raw under turn applies =
    let P : Replay → Type 0 = λ r. IsTurn r lines s raw in
    let Q : Replay → Type 0 = λ r. with_one_more b s ≡ with_one_more r s in
    record {
      board_is = subst Q under.board_is refl;
      turns = turns-push (unsettled pair [] caps) lines b.history s raw under.turns (subst P under.board_is turn);
      replay = replay-push b s under.replay applies;
      made_are = length-append b.history (s ∷ []) ∙ ap (λ (n : ℕ). n + 1) under.made_are;
      below = below-after b lines s raw turn;
    }

-- a turn was made
pub under_way-more : (caps : Caps) (pair : Pair) (b after : Replay) (lines first made entry : ℕ) → IsUnderWay caps pair b lines first made → Turned b after lines (turn.Made entry) → IsUnderWay caps pair after lines entry (made + 1)
under_way-more caps pair b after lines first made entry under (s, raw, is, applies, same, number) =
    let P : Replay → Type 0 = λ r. IsUnderWay caps pair r lines s.entry (made + 1) in
    let Q : ℕ → Type 0 = λ n. IsUnderWay caps pair after lines n (made + 1) in
    subst Q (sym number) (subst P (sym same) (under_way-push caps pair b lines first made s raw under is applies))

-- nothing is left
pub explored-done : (caps : Caps) (pair : Pair) (plan : Plan) (b : Replay) (first made : ℕ) → IsUnderWay caps pair b plan.lines first made → made ≤ plan.settlements → NoneClaimable (slots b) 0 plan.lines → IsExplorationWithin caps pair plan b Done
explored-done caps pair plan b first made under few none = record {
  board_is = under.board_is;
  turns = under.turns;
  replay = under.replay;
  few = omega (arith, under.made_are);
  ends = none;
}

pub explored-nothing : (caps : Caps) (pair : Pair) (plan : Plan) (b after : Replay) (first made : ℕ) → IsUnderWay caps pair b plan.lines first made → made ≤ plan.settlements → Turned b after plan.lines turn.Nothing → IsExplorationWithin caps pair plan after Done
explored-nothing caps pair plan b after first made under few turned =
    let P : Replay → Type 0 = λ r. IsExplorationWithin caps pair plan r Done in
    subst P (sym turned.0) (explored-done caps pair plan b first made under few turned.1)

-- the board is full
pub explored-full : (caps : Caps) (pair : Pair) (plan : Plan) (b after : Replay) (first made : ℕ) (reached : Totals) → IsUnderWay caps pair b plan.lines first made → made < plan.settlements
    → Turned b after plan.lines (turn.Full reached) → IsExplorationWithin caps pair plan after (Full reached)
explored-full caps pair plan b after first made reached under fewer (same, s, raw, is, refused) =
    let P : Replay → Type 0 = λ r. IsExplorationWithin caps pair plan r (Full reached) in
    let less : length b.history < plan.settlements = omega (arith, under.made_are) in
    subst P (sym same) (record {
      board_is = under.board_is;
      turns = under.turns;
      replay = under.replay;
      few = omega (arith, less);
      ends = (less, s, raw, is, refused);
    })

-- the settlements are made
pub explored-all : (caps : Caps) (pair : Pair) (plan : Plan) (b : Replay) (first made n : ℕ) → IsUnderWay caps pair b plan.lines first made → made ≡ plan.settlements → is_claimable (slots b) n plan.lines ≡ true → IsExplorationWithin caps pair plan b (Settlements plan.settlements)
explored-all caps pair plan b first made n under all claimable = record {
  board_is = under.board_is;
  turns = under.turns;
  replay = under.replay;
  few = omega (arith, under.made_are);
  ends = (refl, under.made_are ∙ all, n, claimable);
}

turns-supported : (b : Replay) (lines : ℕ) (history : List Finding) → AreTurns b lines history → AllByRecursion HasSupport history
turns-supported b lines [] turns = tt
turns-supported b lines (s ∷ rest) turns = ((turns.0.0, turns.0.1.supported), turns-supported (with_one_more b s) lines rest turns.1)

turns-budget : (b : Replay) (lines : ℕ) (history : List Finding) → AreTurns b lines history → AllByRecursion (HasBudget lines) history
turns-budget b lines [] turns = tt
turns-budget b lines (s ∷ rest) turns = (turn-parts b lines s turns.0.0 turns.0.1, turns-budget (with_one_more b s) lines rest turns.1)

-- what holds of every exploration
pub all-supported : (caps : Caps) (pair : Pair) (plan : Plan) (b : Replay) (ended : Ended) → IsExplorationWithin caps pair plan b ended → AllByRecursion HasSupport b.history
all-supported caps pair plan b ended is = turns-supported (unsettled pair [] caps) plan.lines b.history is.turns

pub all-with_budget : (caps : Caps) (pair : Pair) (plan : Plan) (b : Replay) (ended : Ended) → IsExplorationWithin caps pair plan b ended → AllByRecursion (HasBudget plan.lines) b.history
all-with_budget caps pair plan b ended is = turns-budget (unsettled pair [] caps) plan.lines b.history is.turns
