use Rattle.std.proofs.Common.{◌≡◌, ◌<◌, IfNone, IfSome, [], true, length, take}
use Rattle.prv_cnf.specs.Literals.{has_literal}
use Rattle.prv_cnf.specs.Places.{place_of}
use Rattle.prv_check.proofs.index.rarest.Given as goal

abbrev pub invariant-loop-lit : goal.invariant-loop-lit
invariant-loop-lit l =
    IfNone l.best (take l.lit-index l.lits ≡ [])
    × IfSome l.best (λ w. (has_literal (take l.lit-index l.lits) w ≡ true) × (place_of w < length l.lists))
