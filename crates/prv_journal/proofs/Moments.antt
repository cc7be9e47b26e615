-- How the calls of a disk go on.
use Rattle.std.proofs.Common.{inl, inr, ⊎_elim, ℕ, ◌≤◌, List, arith}
use Rattle.prv_disk.specs.Crashes.{NoMore, Passes, AddsOnly}

-- one call
pub adds-one : (before after : ℕ) (since_before since_after : ℕ → List ℕ → Type 0) (now P : List ℕ → Type 0) → Passes before after since_before since_after now → ((image : List ℕ) → now image → P image)
    → AddsOnly before after since_before since_after P
adds-one before after since_before since_after now P passes here = record {
  no_earlier = passes.no_earlier;
  each = λ t image le left. ⊎_elim (λ was. inl was) (λ is. inr (here image is)) (passes.adds t image le left);
}

-- one call that leaves nothing new
pub adds-nothing : (before after : ℕ) (since_before since_after : ℕ → List ℕ → Type 0) (now was P : List ℕ → Type 0) → Passes before after since_before since_after now → ((image : List ℕ) → now image → was image)
    → ((t : ℕ) (image : List ℕ) → t ≤ before → was image → since_before t image)
    → AddsOnly before after since_before since_after P
adds-nothing before after since_before since_after now was P passes no_more counts = record {
  no_earlier = passes.no_earlier;
  each = λ t image le left. ⊎_elim (λ old. inl old) (λ is. inl (counts t image le (no_more image is))) (passes.adds t image le left);
}

-- and then others
pub adds-then : (before mid after : ℕ) (since_before since_mid since_after : ℕ → List ℕ → Type 0) (P Q R : List ℕ → Type 0) → AddsOnly before mid since_before since_mid P → AddsOnly mid after since_mid since_after Q
    → ((image : List ℕ) → P image → R image) → ((image : List ℕ) → Q image → R image)
    → AddsOnly before after since_before since_after R
adds-then before mid after since_before since_mid since_after P Q R first second p q = record {
  no_earlier = omega (arith, first.no_earlier, second.no_earlier);
  each = λ t image le left.
      ⊎_elim (λ mid_left. ⊎_elim (λ was. inl was) (λ is. inr (p image is)) (first.each t image le mid_left)) (λ is. inr (q image is)) (second.each t image (omega (arith, le, first.no_earlier)) left);
}

pub adds-weaker : (before after : ℕ) (since_before since_after : ℕ → List ℕ → Type 0) (P R : List ℕ → Type 0) → AddsOnly before after since_before since_after P
    → ((image : List ℕ) → P image → R image) → AddsOnly before after since_before since_after R
adds-weaker before after since_before since_after P R first p = record {
  no_earlier = first.no_earlier;
  each = λ t image le left. ⊎_elim (λ was. inl was) (λ is. inr (p image is)) (first.each t image le left);
}

-- no call
pub adds-none : (moment : ℕ) (since : ℕ → List ℕ → Type 0) (P : List ℕ → Type 0) → AddsOnly moment moment since since P
adds-none moment since P = record { no_earlier = omega arith; each = λ t image le left. inl left }

-- and then a call that leaves nothing new
pub adds-still : (before mid after : ℕ) (since_before since_mid since_after : ℕ → List ℕ → Type 0) (was now P : List ℕ → Type 0) → AddsOnly before mid since_before since_mid P → Passes mid after since_mid since_after now
    → NoMore was now → ((image : List ℕ) → was image → P image) → AddsOnly before after since_before since_after P
adds-still before mid after since_before since_mid since_after was now P first passes no_more here =
    adds-then _ _ _ _ _ _ P P P first (adds-one _ _ _ _ _ P passes (λ image left. here image (no_more image left))) (λ image is. is) (λ image is. is)
