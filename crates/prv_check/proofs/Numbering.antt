-- The numbers of a log, line by line.
use Rattle.std.proofs.Common.{◌≡◌, ℕ, zero, suc, ◌+◌, ◌<◌, List, [], ◌∷◌, length, take, get_or, slice_get, Option, Some, unwrap_or, refl, ap, arith, add-one}
use Rattle.std.proofs.lemmas.Option.{slice_get_read}
use Rattle.prv_check.specs.LogLines.{LogLine, line_numbers}
use Rattle.prv_check.specs.Spending.{log_numbers}

line_more : (log : List LogLine) (i : ℕ) (s : LogLine) → slice_get log i ≡ Some s → log_numbers (take (suc i) log) ≡ log_numbers (take i log) + line_numbers s
line_more [] i s at = cc at
line_more (x ∷ log) zero s at =
    let same : line_numbers x ≡ line_numbers s = ap (λ (o : Option LogLine). line_numbers (unwrap_or o x)) at in
    omega (arith, same)
line_more (x ∷ log) (suc i) s at = let rest = line_more log i s at in omega (arith, rest)

-- one more line of a log
pub numbers_more : (log : List LogLine) (i : ℕ) (s : LogLine) → i < length log → s ≡ get_or log i s → log_numbers (take (i + 1) log) ≡ log_numbers (take i log) + line_numbers s
numbers_more log i s inside here =
    let next = line_more log i s (slice_get_read log (length log) i s refl inside here) in
    let whole = ap (λ (k : ℕ). log_numbers (take k log)) (add-one i) in
    omega (arith, next, whole)
