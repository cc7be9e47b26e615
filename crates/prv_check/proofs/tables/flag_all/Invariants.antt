use Rattle.std.proofs.Common.{◌≡◌, ◌&&◌, ◌||◌, length, take}
use Rattle.std.specs.Prelude.{nat_lt}
use Rattle.prv_cnf.specs.declared.literal.Lit.{Lit}
use Rattle.prv_cnf.specs.Literals.{has_literal}
use Rattle.prv_cnf.specs.Places.{place_of}
use Rattle.prv_check.specs.Inner.Tables.{flag}
use Rattle.prv_check.proofs.tables.flag_all.Given as goal

abbrev pub invariant-loop-lit : goal.invariant-loop-lit
invariant-loop-lit l =
    (length l.flags ≡ length l.fn.flags)
    × ((x : Lit) → flag l.flags x ≡ (flag l.fn.flags x || (nat_lt (place_of x) (length l.fn.flags) && has_literal (take l.lit-index l.lits) x)))
