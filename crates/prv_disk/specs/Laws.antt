-- Laws of the images of a disk in memory.
use Rattle.std.proofs.Common.{◌≡◌, inl, inr, ℕ, ◌+◌, List, [], ◌∷◌, ◌++◌, length, take, drop, refl, arith, length-append, length-take, length-drop}
use Rattle.prv_disk.specs.Bytes.{overwritten, Torn}
use Rattle.prv_disk.specs.MemDisk.{Event, Wrote, Passed, Synced, content, MayLeave, LeftSince}

pub torn-whole : (at : ℕ) (piece old : List ℕ) → Torn at (length piece) old (overwritten old at piece)
torn-whole at piece old =
    let first : List ℕ = take at old in
    let rest : List ℕ = drop (at + length piece) old in
    let long : length (first ++ piece ++ rest) ≡ length first + length piece + length rest = simp length-append in
    record {
      part = piece;
      within = omega arith;
      others = refl;
      no_shorter = omega (arith, long, length-take at old, length-drop (at + length piece) old);
    }

pub seen_stays : (start : List ℕ) (log : List Event) → MayLeave start log (content start log)
seen_stays start [] = refl
seen_stays start (Wrote at bytes ∷ log) = (content start log, seen_stays start log, torn-whole at bytes (content start log))
seen_stays start (Passed ∷ log) = seen_stays start log
seen_stays start (Synced ∷ log) = refl

pub counts_now : (start : List ℕ) (log : List Event) (t : ℕ) (image : List ℕ) → MayLeave start log image → LeftSince start log t image
counts_now start [] t image now = now
counts_now start (event ∷ log) t image now = inl now

pub only_now : (start : List ℕ) (log : List Event) (image : List ℕ) → LeftSince start log (length log) image → MayLeave start log image
only_now start [] image now = now
only_now start (event ∷ log) image (inl now) = now
only_now start (event ∷ log) image (inr earlier) = absurd (omega (arith, earlier.0))
