-- How a log of a disk in memory goes on.
use Rattle.std.proofs.Common.{◌≡◌, inl, inr, ⊎_elim, ℕ, ◌+◌, ◌==◌, Bool, true, false, List, [], ◌∷◌, ◌++◌, length, take, drop, replicate, if◌then◌else◌, refl, sym, ◌∙◌, ap, subst, arith, append_assoc, length-take}
use Rattle.std.proofs.lemmas.List.{take-append-drop, drop-drop, length-replicate}
use Rattle.prv_disk.specs.Bytes.{overwritten, Torn}
use Rattle.prv_disk.specs.Crashes.{Passes}
use Rattle.prv_disk.specs.MemDisk.{Event, Wrote, Passed, Synced, content, MayLeave, LeftSince, quiet, picked, crashed}
use Rattle.prv_disk.specs.Laws.{torn-whole, seen_stays}

-- no event
pub passes_none : (start : List ℕ) (log : List Event) → Passes (length log) (length log) (LeftSince start log) (LeftSince start log) (MayLeave start log)
passes_none start log = record {
  no_earlier = omega arith;
  no_later = omega arith;
  adds = λ t image le left. inl left;
  keeps = λ t image le left. left;
}

-- one event more
pub passes_one : (start : List ℕ) (event : Event) (log : List Event) → Passes (length log) (length (event ∷ log)) (LeftSince start log) (LeftSince start (event ∷ log)) (MayLeave start (event ∷ log))
passes_one start event log = record {
  no_earlier = omega arith;
  no_later = omega arith;
  adds = λ t image le left. ⊎_elim (λ now. inr now) (λ earlier. inl earlier.1) left;
  keeps = λ t image le left. inr (le, left);
}

-- a quiet call changes no image
pub quiet_same : (start : List ℕ) (log : List Event) (image : List ℕ) → MayLeave start (quiet log ∷ log) image ≡ MayLeave start log image
quiet_same start [] image = refl
quiet_same start (Wrote at bytes ∷ log) image = refl
quiet_same start (Passed ∷ log) image = refl
quiet_same start (Synced ∷ log) image = refl

pub quiet_content : (start : List ℕ) (log : List Event) → content start (quiet log ∷ log) ≡ content start log
quiet_content start [] = refl
quiet_content start (Wrote at bytes ∷ log) = refl
quiet_content start (Passed ∷ log) = refl
quiet_content start (Synced ∷ log) = refl

-- nothing is written
pub torn_same : (at count : ℕ) (file : List ℕ) → Torn at count file file
torn_same at count file =
    let part : List ℕ = take count (drop at file) in
    let rest : drop (at + count) file ≡ drop count (drop at file) = sym (drop-drop count at file) in
    record {
      part = part;
      within = omega (arith, length-take count (drop at file));
      others =
          sym (take-append-drop at file)
          ∙ ap (λ l. take at file ++ l) (sym (take-append-drop count (drop at file)) ∙ ap (λ l. part ++ l) (sym rest))
          ∙ sym (append_assoc (take at file) part (drop (at + count) file));
      no_shorter = omega arith;
    }

-- so a write that did nothing leaves what was left before
pub stays : (at count : ℕ) (start : List ℕ) (log : List Event) (image : List ℕ) → MayLeave start log image → (old : List ℕ) × MayLeave start log old × Torn at count old image
stays at count start log image left = (image, left, torn_same at count image)

-- a sync leaves nothing new
pub synced_left : (start : List ℕ) (log : List Event) (image : List ℕ) → image ≡ content start log → MayLeave start log image
synced_left start log image is = subst (MayLeave start log) (sym is) (seen_stays start log)

torn-if : (b : Bool) (at count : ℕ) (file x y : List ℕ) → Torn at count file x → Torn at count file y → Torn at count file (if b then x else y)
torn-if true at count file x y p q = p
torn-if false at count file x y p q = q

torn-piece : (at count : ℕ) (file piece : List ℕ) → length piece ≡ count → Torn at count file (overwritten file at piece)
torn-piece at count file piece is = subst (λ n. Torn at n file (overwritten file at piece)) is (torn-whole at piece file)

length-if : (b : Bool) (x y : List ℕ) (n : ℕ) → length x ≡ n → length y ≡ n → length (if b then x else y) ≡ n
length-if true x y n p q = p
length-if false x y n p q = q

-- what is picked of a write is a part of it
torn-picked : (pick at : ℕ) (bytes file : List ℕ) → Torn at (length bytes) file (picked pick at bytes file)
torn-picked pick at bytes file =
    let piece : List ℕ = if pick == 1 then bytes else replicate (length bytes) pick in
    torn-if (pick == 0) at (length bytes) file file (overwritten file at piece)
    (torn_same at (length bytes) file)
    (torn-piece at (length bytes) file piece (length-if (pick == 1) bytes (replicate (length bytes) pick) (length bytes) refl (length-replicate (length bytes) pick)))

-- each pick's image is one that a crash may leave
pub crashed_left : (pick : ℕ) (start : List ℕ) (log : List Event) → MayLeave start log (crashed pick start log)
crashed_left pick start [] = refl
crashed_left pick start (Wrote at bytes ∷ log) = (crashed pick start log, crashed_left pick start log, torn-picked pick at bytes (crashed pick start log))
crashed_left pick start (Passed ∷ log) = crashed_left pick start log
crashed_left pick start (Synced ∷ log) = refl
