-- What a board holds after a settlement.
use Rattle.std.proofs.Common.{◌≡◌, ℕ, ◌+◌, ◌<◌, ◌≤◌, ◌^◌, Bool, true, false, List, [], ◌∷◌, length, drop, get_or, Some, refl, sym, ap, ◌∙◌, subst, arith}
use Rattle.std.proofs.lemmas.List.{drop_more}
use Rattle.prv_model.specs.Boards.{one_if}
use Rattle.prv_model.specs.declared.entry.Kind.{Kind}
use Rattle.prv_part.specs.declared.part.Part.{Part}
use Rattle.prv_part.specs.Settlements.{Finding}
use Rattle.prv_board.specs.Slots.{Slot, after, live_parts, part_at}
use Rattle.prv_board.specs.Counting.{IsWithin, IsSum, AreSmall}
use Rattle.prv_board.specs.Replays.{Replay, with_one_more, slots, add_up, literals_of, totals, HasRegion, count_kind, counts_of, counts_of_kind, is_same, is_different, is_empty, is_beyond, is_unexplored, is_undecided}
use Rattle.prv_board.specs.declared.counts.Counts.{Counts}
use Rattle.prv_board.specs.declared.totals.Totals.{Totals}
use Rattle.prv_board.proofs.SlotLaws.{add_up-after, add_up-retire, length-after, mapped-some}
use Rattle.prv_board.proofs.ReplayLaws.{slots-push, numbers_of-push}

pub entries-with : (b : Replay) (s : Finding) → HasRegion (slots b) s → length (live_parts (slots (with_one_more b s))) + 1 ≡ length (live_parts (slots b)) + length s.parts
entries-with b s has =
    let found = mapped-some (λ p. p.region) (part_at (slots b) s.entry) s.region has in
    ap (λ (ss : List Slot). length (live_parts ss) + 1) (slots-push b s) ∙ length-after (slots b) s found.0 found.1

pub literals-with : (b : Replay) (s : Finding) → HasRegion (slots b) s → literals_of (live_parts (slots (with_one_more b s))) + length s.region ≡ literals_of (live_parts (slots b)) + literals_of s.parts
literals-with b s has =
    let found = mapped-some (λ p. p.region) (part_at (slots b) s.entry) s.region has in
    ap (λ (ss : List Slot). literals_of (live_parts ss) + length s.region) (slots-push b s)
    ∙ ap (λ (r : ℕ). literals_of (live_parts (after (slots b) s)) + r) (sym (ap length found.2))
    ∙ add_up-after (λ p. length p.region) (slots b) s found.0 found.1

-- a part's number is no greater than the sum over the live entries
pub own-within : (number : Part → ℕ) (slots : List Slot) (n : ℕ) (p : Part) → part_at slots n ≡ Some p → number p ≤ add_up number (live_parts slots)
own-within number slots n p is = omega (arith, add_up-retire number slots n p is)

pub region-within : (b : Replay) (s : Finding) → HasRegion (slots b) s → length s.region ≤ literals_of (live_parts (slots b))
region-within b s has =
    let found = mapped-some (λ p. p.region) (part_at (slots b) s.entry) s.region has in
    let P : ℕ → Type 0 = λ k. k ≤ literals_of (live_parts (slots b)) in
    subst P (ap length found.2) (own-within (λ p. length p.region) (slots b) s.entry found.0 found.1)

pub totals-same : (a b : Totals) → a.entries ≡ b.entries → a.numbers ≡ b.numbers → a.literals ≡ b.literals → a ≡ b
totals-same a b e n l =
    ap (λ (x : ℕ). let t : Totals = record { entries = x; numbers = a.numbers; literals = a.literals } in t) e
    ∙ ap (λ (x : ℕ). let t : Totals = record { entries = b.entries; numbers = x; literals = a.literals } in t) n
    ∙ ap (λ (x : ℕ). let t : Totals = record { entries = b.entries; numbers = b.numbers; literals = x } in t) l

pub totals-with : (b : Replay) (s : Finding) (t : Totals) → HasRegion (slots b) s → t.entries + 1 ≡ (totals b).entries + length s.parts → t.numbers ≡ (totals b).numbers + (s.numbers + length s.parts) → t.literals + length s.region ≡ (totals b).literals + literals_of s.parts → t ≡ totals (with_one_more b s)
totals-with b s t has e n l =
    totals-same t (totals (with_one_more b s)) (omega (arith, entries-with b s has)) (n ∙ sym (numbers_of-push b.history s)) (omega (arith, literals-with b s has))

pub counts-same : (a b : Counts) → a.same ≡ b.same → a.different ≡ b.different → a.empty ≡ b.empty → a.beyond ≡ b.beyond → a.unexplored ≡ b.unexplored → a.undecided ≡ b.undecided → a ≡ b
counts-same a b s d e y u n =
    ap (λ (x : ℕ). let c : Counts = record { same = x; different = a.different; empty = a.empty; beyond = a.beyond; unexplored = a.unexplored; undecided = a.undecided } in c) s
    ∙ ap (λ (x : ℕ). let c : Counts = record { same = b.same; different = x; empty = a.empty; beyond = a.beyond; unexplored = a.unexplored; undecided = a.undecided } in c) d
    ∙ ap (λ (x : ℕ). let c : Counts = record { same = b.same; different = b.different; empty = x; beyond = a.beyond; unexplored = a.unexplored; undecided = a.undecided } in c) e
    ∙ ap (λ (x : ℕ). let c : Counts = record { same = b.same; different = b.different; empty = b.empty; beyond = x; unexplored = a.unexplored; undecided = a.undecided } in c) y
    ∙ ap (λ (x : ℕ). let c : Counts = record { same = b.same; different = b.different; empty = b.empty; beyond = b.beyond; unexplored = x; undecided = a.undecided } in c) u
    ∙ ap (λ (x : ℕ). let c : Counts = record { same = b.same; different = b.different; empty = b.empty; beyond = b.beyond; unexplored = b.unexplored; undecided = x } in c) n

pub count-with : (test : Kind → Bool) (b : Replay) (s : Finding) (p : Part) → part_at (slots b) s.entry ≡ Some p → count_kind test (live_parts (slots (with_one_more b s))) + one_if (test p.kind) ≡ count_kind test (live_parts (slots b)) + count_kind test s.parts
count-with test b s p is =
    ap (λ (ss : List Slot). count_kind test (live_parts ss) + one_if (test p.kind)) (slots-push b s) ∙ add_up-after (λ p. one_if (test p.kind)) (slots b) s p is

one_if-small : (b : Bool) → one_if b ≤ 1
one_if-small true = omega arith
one_if-small false = omega arith

pub count-few : (test : Kind → Bool) (ps : List Part) → count_kind test ps ≤ length ps
count-few test [] = omega arith
count-few test (p ∷ ps) = omega (arith, one_if-small (test p.kind), count-few test ps)

-- an entry is one of those that are counted
pub kind-within : (slots : List Slot) (n : ℕ) (p : Part) → part_at slots n ≡ Some p → IsWithin (counts_of_kind p.kind) (counts_of (live_parts slots))
kind-within slots n p is = record {
  same = own-within (λ p. one_if (is_same p.kind)) slots n p is;
  different = own-within (λ p. one_if (is_different p.kind)) slots n p is;
  empty = own-within (λ p. one_if (is_empty p.kind)) slots n p is;
  beyond = own-within (λ p. one_if (is_beyond p.kind)) slots n p is;
  unexplored = own-within (λ p. one_if (is_unexplored p.kind)) slots n p is;
  undecided = own-within (λ p. one_if (is_undecided p.kind)) slots n p is;
}

field-small : (test : Kind → Bool) (live parts : List Part) (whole taken left : ℕ) → whole ≡ taken + left → whole ≡ count_kind test live → length live ≤ 2 ^ 30 → length parts < 2 ^ 30 → left + count_kind test parts < 2 ^ 32
field-small test live parts whole taken left split is few more = omega (arith, count-few test live, count-few test parts)

pub left-small : (live parts : List Part) (taken left : Counts) → IsSum left taken (counts_of live) → length live ≤ 2 ^ 30 → length parts < 2 ^ 30 → AreSmall left (counts_of parts)
left-small live parts taken left is few more = record {
  same = field-small is_same live parts (counts_of live).same taken.same left.same (omega (arith, is.same)) refl few more;
  different = field-small is_different live parts (counts_of live).different taken.different left.different (omega (arith, is.different)) refl few more;
  empty = field-small is_empty live parts (counts_of live).empty taken.empty left.empty (omega (arith, is.empty)) refl few more;
  beyond = field-small is_beyond live parts (counts_of live).beyond taken.beyond left.beyond (omega (arith, is.beyond)) refl few more;
  unexplored = field-small is_unexplored live parts (counts_of live).unexplored taken.unexplored left.unexplored (omega (arith, is.unexplored)) refl few more;
  undecided = field-small is_undecided live parts (counts_of live).undecided taken.undecided left.undecided (omega (arith, is.undecided)) refl few more;
}

pub counts-with : (b : Replay) (s : Finding) (p : Part) (left new : Counts) → part_at (slots b) s.entry ≡ Some p → IsSum left (counts_of_kind p.kind) (counts_of (live_parts (slots b))) → IsSum left (counts_of s.parts) new → new ≡ counts_of (live_parts (slots (with_one_more b s)))
counts-with b s p left new is split made =
    counts-same new (counts_of (live_parts (slots (with_one_more b s))))
    (omega (arith, count-with is_same b s p is, split.same, made.same))
    (omega (arith, count-with is_different b s p is, split.different, made.different))
    (omega (arith, count-with is_empty b s p is, split.empty, made.empty))
    (omega (arith, count-with is_beyond b s p is, split.beyond, made.beyond))
    (omega (arith, count-with is_unexplored b s p is, split.unexplored, made.unexplored))
    (omega (arith, count-with is_undecided b s p is, split.undecided, made.undecided))

-- what is added up over the rest of some parts, one part on
pub add_up-drop : (number : Part → ℕ) (ps : List Part) (i : ℕ) (p : Part) → i < length ps → p ≡ get_or ps i p → add_up number (drop i ps) ≡ number p + add_up number (drop (i + 1) ps)
add_up-drop number ps i p inside is =
    ap (λ (qs : List Part). add_up number qs) (drop_more ps i p inside) ∙ ap (λ (q : Part). number q + add_up number (drop (i + 1) ps)) (sym is)
