-- Places of literals in a table by literal.
use Rattle.std.specs.Prelude.{ℕ, ◌+◌, ◌*◌, ℤ, pos, negsuc}
use Rattle.prv_cnf.specs.declared.literal.Lit.{Lit}

-- the place of a signed number: 0, -1, 1, -2, 2 and so on stand in this order
abbrev pub place_signed : ℤ → ℕ
place_signed (pos k) = 2 * k
place_signed (negsuc k) = 2 * k + 1

-- the place of a literal: those of the first n variables are below 2 * n + 1
abbrev pub place_of : Lit → ℕ
place_of l = place_signed l.0
