-- Which images of a disk a crash may leave, as time goes on. What is assumed of a device that keeps this model:
-- A write that is cut off harms no byte outside its range, also none that shares a sector with it.
-- A sync that fails takes nothing back: a read still gives what was written, a crash leaves only what it might have left
-- before, and a later sync that is done makes lasting what a read gives. A system that drops the pages of a failed sync,
-- or calls them written, doesn't keep this: there a later sync answers well, and a crash may still leave older bytes.
-- Nobody else writes to the bytes, and what is lasting stays as it is.
use Rattle.std.specs.Prelude.{◌≡◌, ◌⊎◌, ℕ, ◌+◌, ◌≤◌, List}

-- no image but those from before
abbrev pub NoMore : (List ℕ → Type 0) → (List ℕ → Type 0) → Type 0
NoMore before after = (image : List ℕ) → after image → before image

-- each image is one from before, after such a step
abbrev pub Follows : (List ℕ → List ℕ → Type 0) → (List ℕ → Type 0) → (List ℕ → Type 0) → Type 0
Follows step before after = (image : List ℕ) → after image → (old : List ℕ) × before old × step old image

-- this image and no other
abbrev pub Only : List ℕ → (List ℕ → Type 0) → Type 0
Only file images = (image : List ℕ) → images image → image ≡ file

-- One call goes by, from a moment to the next. A crash at a moment since t may have left what it may have left before
-- the call, or what it may leave now.
pub record Passes (before after : ℕ) (since_before since_after : ℕ → List ℕ → Type 0) (now : List ℕ → Type 0) : Type 0 where
  pub no_earlier : before ≤ after
  pub no_later : after ≤ before + 1
  pub adds : (t : ℕ) (image : List ℕ) → t ≤ before → since_after t image → since_before t image ⊎ now image
  pub keeps : (t : ℕ) (image : List ℕ) → t ≤ before → since_before t image → since_after t image

-- Each image that a crash may have left is one from before, or has P: so for every moment t up to the first of these calls.
pub record AddsOnly (before after : ℕ) (since_before since_after : ℕ → List ℕ → Type 0) (P : List ℕ → Type 0) : Type 0 where
  pub no_earlier : before ≤ after
  pub each : (t : ℕ) (image : List ℕ) → t ≤ before → since_after t image → since_before t image ⊎ P image
