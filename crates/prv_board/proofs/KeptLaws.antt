-- What a board keeps of its fields goes on after a settlement.
use Rattle.std.proofs.Common.{◌≡◌, ℕ, zero, suc, ◌+◌, ◌<◌, ◌≤◌, List, [], ◌∷◌, ◌++◌, length, map, set, Option, Some, None, ℤ, unwrap_or, slice_get, refl, sym, ap, ◌∙◌, subst, arith, length-append}
use Rattle.std.proofs.lemmas.List.Sums.{sum-map, sum_by-cons}
use Rattle.std.proofs.lemmas.Option.{slice_get_within}
use Rattle.std.specs.List.{AllByRecursion, sum, sum_by}
use Rattle.prv_model.specs.declared.program.Pair.{Pair}
use Rattle.prv_model.specs.declared.term.Term.{Term}
use Rattle.prv_part.specs.declared.part.Part.{Part}
use Rattle.prv_part.specs.declared.part.Caps.{Caps}
use Rattle.prv_part.specs.Settlements.{Finding, IsSettlement}
use Rattle.prv_board.specs.Slots.{Slot, whole, live_parts, part_at}
use Rattle.prv_board.specs.Replays.{Replay, BoardView, numbers_of, with_one_more, slots, literals_of, totals, HasRegion, Applies, counts_of}
use Rattle.prv_board.specs.Trees.{Stand, origins_from, origins_all, not_retired}
use Rattle.prv_board.specs.Kept.{IsTree}
use Rattle.prv_board.specs.declared.counts.Counts.{Counts}
use Rattle.prv_board.specs.declared.totals.Totals.{Totals}
use Rattle.prv_board.specs.declared.tree.Origin.{Origin}
use Rattle.prv_board.specs.declared.tree.Origin.TheVariants.{Space, Made}
use Rattle.prv_board.specs.declared.tree.Retired.{Retired}
use Rattle.prv_board.proofs.SlotLaws.{all-append, mapped-some, length-add_up, length-map}
use Rattle.prv_board.proofs.ReplayLaws.{slots-push, replay-push, numbers_of-push}
use Rattle.prv_board.proofs.TreeLaws.{stand-after, retired-after, stand-part_at, unless-some}
use Rattle.prv_board.proofs.ParentLaws.{origins_all-push}
use Rattle.prv_board.proofs.BoardLaws.{own-within}
use Rattle.prv_part.proofs.Holding.{some-parts}

pub stand-length : (whole : Part) (history : List Finding) (os : List Origin) (rs : List (Option Retired)) (slots : List Slot) → Stand whole history os rs slots → (length os ≡ length slots) × (length rs ≡ length slots)
stand-length whole history [] [] [] st = (refl, refl)
stand-length whole history (o ∷ os) (r ∷ rs) (slot ∷ slots) st = let rest = stand-length whole history os rs slots st.2 in (ap suc rest.0, ap suc rest.1)
stand-length whole history [] [] (slot ∷ slots) st = absurd st
stand-length whole history [] (r ∷ rs) slots st = absurd st
stand-length whole history (o ∷ os) [] slots st = absurd st
stand-length whole history (o ∷ os) (r ∷ rs) [] st = absurd st

pub literals-sum : (ps : List Part) → sum (map (λ p. length p.region) ps) ≡ literals_of ps
literals-sum ps = sum-map (λ p. length p.region) ps ∙ go ps
  where
    go : (ps : List Part) → sum_by (λ p. length p.region) ps ≡ literals_of ps
    go [] = refl
    go (p ∷ ps) = sum_by-cons (λ p. length p.region) p ps ∙ ap (λ (k : ℕ). length p.region + k) (go ps)

pub roots-length : (region : List Term) (at : ℕ → Term) (roots : List ℕ) → region ≡ map at roots → length roots ≡ length region
roots-length region at roots is = sym (ap length is ∙ length-map at roots)

-- a settlement that belongs to a board has a live entry there
pub live-some : (slots : List Slot) (s : Finding) → HasRegion slots s → 1 ≤ length (live_parts slots)
live-some slots s has =
    let found = mapped-some (λ p. p.region) (part_at slots s.entry) s.region has in
    omega (arith, own-within (λ p. 1) slots s.entry found.0 found.1, length-add_up (live_parts slots))

pub tree-after : (b : Replay) (first : Part) (os : List Origin) (rs : List (Option Retired)) (counts : Counts) (sums : Totals) (s : Finding) (new_counts : Counts) (new_sums : Totals) → IsTree b first os rs counts sums → Applies b s → IsSettlement s →
    new_counts ≡ counts_of (live_parts (slots (with_one_more b s))) → new_sums ≡ totals (with_one_more b s) → new_sums.numbers ≡ sums.numbers + (s.numbers + length s.parts) →
    IsTree (with_one_more b s) first (os ++ origins_from (length b.history) 0 (length s.parts)) (set rs s.entry (Some (record { settlement = length b.history; first = length os })) ++ not_retired (length s.parts)) new_counts new_sums
tree-after b first os rs counts sums s new_counts new_sums tree applies settled counted summed grown =
    let made = origins_from (length b.history) 0 (length s.parts) in
    let fresh : Retired = record { settlement = length b.history; first = length os } in
    let P : List Slot → Type 0 = λ ss. Stand first (b.history ++ s ∷ []) (os ++ made) (set rs s.entry (Some fresh) ++ not_retired (length s.parts)) ss in
    let fits = applies.fits in
    let is_entries : new_sums.entries ≡ (totals (with_one_more b s)).entries = ap (λ (t : Totals). t.entries) summed in
    let is_numbers : new_sums.numbers ≡ (totals (with_one_more b s)).numbers = ap (λ (t : Totals). t.numbers) summed in
    let is_literals : new_sums.literals ≡ (totals (with_one_more b s)).literals = ap (λ (t : Totals). t.literals) summed in
    record {
      caps = tree.caps;
      first = tree.first;
      few = tree.few;
      room = tree.room;
      over = tree.over;
      replay = replay-push b s tree.replay applies;
      settlements = all-append IsSettlement b.history (s ∷ []) tree.settlements (settled, tt);
      origins =
          ap (λ (xs : List Origin). xs ++ made) tree.origins
          ∙ ap (λ (xs : List Origin). Space ∷ xs) (ap (λ (k : ℕ). origins_all 0 b.history ++ origins_from k 0 (length s.parts)) (let e : length b.history ≡ 0 + length b.history = omega arith in e) ∙ sym (origins_all-push 0 b.history s));
      stand = subst P (sym (slots-push b s)) (stand-after first b.history os rs (slots b) s fresh tree.stand);
      retired = retired-after first b.history os rs (slots b) s tree.stand applies.belongs.same_region tree.retired;
      counts = counted;
      totals = summed;
      fits = record {
        entries = omega (arith, is_entries, fits.entries);
        numbers = omega (arith, is_numbers, fits.numbers);
        literals = omega (arith, is_literals, fits.literals);
      };
      few_made = omega (arith, grown, tree.few_made, length-append os made, origins-length (length b.history) 0 (length s.parts));
    }
  where
    origins-length : (k i count : ℕ) → length (origins_from k i count) ≡ count
    origins-length k i zero = refl
    origins-length k i (suc count) = ap suc (origins-length k (suc i) count)

-- the same lists stand for the same board
pub tree-same : (pair : Pair) (space : List Term) (caps : Caps) (history history' : List Finding) (first : Part) (os os' : List Origin) (rs rs' : List (Option Retired)) (counts : Counts) (sums : Totals) →
    IsTree (record { pair = pair; space = space; caps = caps; history = history }) first os rs counts sums → history' ≡ history → os' ≡ os → rs' ≡ rs →
    IsTree (record { pair = pair; space = space; caps = caps; history = history' }) first os' rs' counts sums
tree-same pair space caps history history' first os os' rs rs' counts sums tree h o r =
    let P : List Finding → Type 0 = λ x. IsTree (record { pair = pair; space = space; caps = caps; history = x }) first os' rs' counts sums in
    let Q : List Origin → Type 0 = λ x. IsTree (record { pair = pair; space = space; caps = caps; history = history }) first x rs' counts sums in
    let R : List (Option Retired) → Type 0 = λ x. IsTree (record { pair = pair; space = space; caps = caps; history = history }) first os x counts sums in
    subst P (sym h) (subst Q (sym o) (subst R (sym r) tree))

-- one more origin, and one more entry that isn't retired
pub origins-push : (k i count : ℕ) → origins_from k i (count + 1) ≡ origins_from k i count ++ Made k (i + count) ∷ []
origins-push k i zero = ap (λ (j : ℕ). Made k j ∷ []) (omega arith)
origins-push k i (suc count) =
    ap (λ (n : ℕ). origins_from k i n) (let e : suc count + 1 ≡ suc (count + 1) = omega arith in e)
    ∙ ap (λ (os : List Origin). Made k i ∷ os) (origins-push k (suc i) count)
    ∙ ap (λ (j : ℕ). Made k i ∷ (origins_from k (suc i) count ++ Made k j ∷ [])) (let e : suc i + count ≡ i + suc count = omega arith in e)

pub not_retired-push : (count : ℕ) → not_retired (count + 1) ≡ not_retired count ++ None ∷ []
not_retired-push zero = refl
not_retired-push (suc count) =
    ap (λ (n : ℕ). not_retired n) (let e : suc count + 1 ≡ suc (count + 1) = omega arith in e) ∙ ap (λ (rs : List (Option Retired)). None ∷ rs) (not_retired-push count)

-- the place of a live entry
pub entry-within : (whole : Part) (history : List Finding) (os : List Origin) (rs : List (Option Retired)) (slots : List Slot) (s : Finding) → Stand whole history os rs slots → HasRegion slots s → s.entry < length rs
entry-within whole history os rs slots s st has =
    let said = mapped-some (λ p. p.region) (part_at slots s.entry) s.region has in
    let stood = unless-some whole history (slice_get os s.entry) (slice_get rs s.entry) said.0 (stand-part_at whole history os rs slots s.entry st ∙ said.1) in
    omega (arith, slice_get_within os s.entry stood.0 stood.1, (stand-length whole history os rs slots st).0, (stand-length whole history os rs slots st).1)

-- there are fewer settlements than parts
pub few-settlements : (history : List Finding) → AllByRecursion IsSettlement history → length history ≤ numbers_of history
few-settlements [] all = omega arith
few-settlements (s ∷ history) all = omega (arith, some-parts s all.0, few-settlements history all.1)

-- what applies to a board applies to the same one
pub applies-same : (v w : BoardView) (s t : Finding) → v ≡ w → t ≡ s → Applies w.replay s → Applies v.replay t
applies-same v w s t same also applies =
    let P : BoardView → Type 0 = λ x. Applies x.replay s in
    let Q : Finding → Type 0 = λ x. Applies v.replay x in
    subst Q (sym also) (subst P (sym same) applies)

-- the lists after a settlement, as they are written
pub tree-ready : (b : Replay) (first : Part) (os os' : List Origin) (rs rs' : List (Option Retired)) (counts : Counts) (sums : Totals) (s : Finding) (new_counts : Counts) (new_sums : Totals) (history' : List Finding) (place start entry count : ℕ) →
    IsTree b first os rs counts sums → Applies b s → IsSettlement s → new_counts ≡ counts_of (live_parts (slots (with_one_more b s))) → new_sums ≡ totals (with_one_more b s) →
    place ≡ length b.history → start ≡ length os → entry ≡ s.entry → count ≡ length s.parts → history' ≡ b.history ++ s ∷ [] → os' ≡ os ++ origins_from place 0 count →
    rs' ≡ set rs entry (Some (record { settlement = place; first = start })) ++ not_retired count →
    IsTree (record { pair = b.pair; space = b.space; caps = b.caps; history = history' }) first os' rs' new_counts new_sums
tree-ready b first os os' rs rs' counts sums s new_counts new_sums history' place start entry count tree applies settled counted summed is_place is_start is_entry is_count h o r =
    let before = ap (λ (t : Totals). t.numbers) tree.totals in
    let now = ap (λ (t : Totals). t.numbers) summed in
    let grown : new_sums.numbers ≡ sums.numbers + (s.numbers + length s.parts) = omega (arith, before, now, numbers_of-push b.history s) in
    tree-same b.pair b.space b.caps (b.history ++ s ∷ []) history' first (os ++ origins_from (length b.history) 0 (length s.parts)) os'
    (set rs s.entry (Some (record { settlement = length b.history; first = length os })) ++ not_retired (length s.parts)) rs' new_counts new_sums
    (tree-after b first os rs counts sums s new_counts new_sums tree applies settled counted summed grown)
    h
    (o ∙ (λ i. os ++ origins_from (is_place i) 0 (is_count i)))
    (r ∙ (λ i. set rs (is_entry i) (Some (record { settlement = is_place i; first = is_start i })) ++ not_retired (is_count i)))

-- equal fields stand for the same board
pub tree-copy : (pair pair' : Pair) (space space' : List Term) (caps : Caps) (history history' : List Finding) (root root' : Part) (os os' : List Origin) (rs rs' : List (Option Retired)) (tally : Counts) (sums : Totals) →
    IsTree (record { pair = pair; space = space; caps = caps; history = history }) root os rs tally sums → pair' ≡ pair → space' ≡ space → root' ≡ whole space' → history' ≡ history → os' ≡ os → rs' ≡ rs →
    IsTree (record { pair = pair'; space = root'.region; caps = caps; history = history' }) root' os' rs' tally sums
tree-copy pair pair' space space' caps history history' root root' os os' rs rs' tally sums tree p s w h o r =
    let T : Part → Type 0 = λ x. IsTree (record { pair = pair'; space = x.region; caps = caps; history = history' }) x os' rs' tally sums in
    let R : Part → Type 0 = λ x. IsTree (record { pair = pair; space = space; caps = caps; history = history }) x os rs tally sums in
    let S : List Term → Type 0 = λ x. IsTree (record { pair = pair; space = x; caps = caps; history = history }) (whole x) os rs tally sums in
    let P : Pair → Type 0 = λ x. IsTree (record { pair = x; space = space'; caps = caps; history = history }) (whole space') os rs tally sums in
    subst T (sym w) (tree-same pair' space' caps history history' (whole space') os os' rs rs' tally sums (subst P (sym p) (subst S (sym s) (subst R tree.first tree))) h o r)

pub replay-same : (pair pair' : Pair) (space space' : List Term) (caps : Caps) (history history' : List Finding) → pair' ≡ pair → space' ≡ space → history' ≡ history →
    ◌≡◌ {A = Replay} (record { pair = pair'; space = space'; caps = caps; history = history' }) (record { pair = pair; space = space; caps = caps; history = history })
replay-same pair pair' space space' caps history history' p s h = λ i. record { pair = p i; space = s i; caps = caps; history = h i }
