-- How far groups of seven bits reach, and one group at a time.
use Rattle.std.proofs.Common.{◌≡◌, ℕ, zero, suc, ◌+◌, ◌-◌, ◌/◌, ◌%◌, ◌≤◌, ◌<◌, List, [], ◌∷◌, ◌++◌, Result, Ok, Err, sym, ap, ◌∙◌, append_assoc, arith}
use Rattle.std.specs.Prelude.{OnOk}
use Rattle.prv_codec.specs.Forms.{groups, bound}
use Rattle.prv_codec.proofs.Numbers.{groups-high}

pub one_below : (top more : ℕ) → 1 < top → 1 < bound top more
one_below top zero h = h
one_below top (suc more) h = let ih = one_below top more h in omega (arith, ih)

-- 0 is below each bound
pub zero_below : (top more : ℕ) → 1 < top → 0 < bound top more
zero_below top more h = let one = one_below top more h in omega (arith, one)

-- a last group
pub last_below : (top more b : ℕ) → more ≡ 0 → b < top → b < bound top more
last_below top zero b e h = h
last_below top (suc more) b e h = absurd cc

-- a low group
pub low_below : (top more b : ℕ) → 1 < top → 0 < more → b < 128 → b < bound top more
low_below top zero b h some low = absurd (omega arith)
low_below top (suc more) b h some low = let one = one_below top more h in omega (arith, one)

groups_step : (more n : ℕ) → 128 ≤ n → n < bound 128 more → groups more n ≡ (128 + n % 128) ∷ groups (more - 1) (n / 128)
groups_step zero n high fits = absurd (omega arith)
groups_step (suc more) n high fits = let e : suc more - 1 ≡ more = omega arith in groups-high more n high ∙ ap (λ (k : ℕ). (128 + n % 128) ∷ groups k (n / 128)) (sym e)

pub on_ok : {T E : Type 0} (r : Result T E) (P Q : Type 0) → (P → Q) → OnOk r P → OnOk r Q
on_ok (Ok x) P Q f h = f h
on_ok (Err e) P Q f h = tt

pub step_written : (old pushed new : List ℕ) (more n : ℕ) → 128 ≤ n → n < bound 128 more → pushed ≡ old ++ (128 + n % 128) ∷ [] → new ≡ pushed ++ groups (more - 1) (n / 128) → new ≡ old ++ groups more n
step_written old pushed new more n high fits p e =
    e ∙ ap (λ (u : List ℕ). u ++ groups (more - 1) (n / 128)) p ∙ append_assoc old ((128 + n % 128) ∷ []) (groups (more - 1) (n / 128)) ∙ ap (λ (u : List ℕ). old ++ u) (sym (groups_step more n high fits))
