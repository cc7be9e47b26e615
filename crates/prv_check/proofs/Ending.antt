-- The end of a log.
use Rattle.std.proofs.Common.{◌≡◌, suc, ◌-◌, List, [], ◌∷◌, length, Some, refl, sym, arith}
use Rattle.std.specs.Prelude.{◌==◌, slice_get}
use Rattle.std.proofs.lemmas.Bool.{ne_eqb}
use Rattle.prv_check.specs.LogLines.{LogLine}
use Rattle.prv_check.specs.Lines.{is_empty}
use Rattle.prv_check.specs.Logs.{ends_empty}

-- a log ends as its last line says
pub ends_by_last : (log : List LogLine) (s : LogLine) → slice_get log (length log - 1) ≡ Some s → ends_empty log ≡ is_empty s.clause
ends_by_last [] s last = absurd cc
ends_by_last (x ∷ []) s last = let e : x ≡ s = cc in rw e refl
ends_by_last (x ∷ (y ∷ log)) s last =
    let e : suc (suc (length log)) - 1 ≡ suc (suc (length log) - 1) = omega arith in
    ends_by_last (y ∷ log) s (rw e at last)

pub nothing_empty : {A : Type 0} (xs : List A) → is_empty xs ≡ (length xs == 0)
nothing_empty [] = refl
nothing_empty (x ∷ xs) = sym (ne_eqb (length (x ∷ xs)) 0 (λ e. omega arith))
