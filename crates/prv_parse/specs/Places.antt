-- Names and marks where they stand in a file.
use Rattle.std.specs.Prelude.{ℕ, List}
use Rattle.prv_parse.specs.declared.tree.Ident.{Ident}
use Rattle.prv_parse.specs.declared.tree.Mark.{Mark}

-- a name at a place
abbrev pub ident : List ℕ → ℕ → Ident
ident name place = record { name = name; place = place }

-- a mark at a place
abbrev pub mark_at : ℕ → ℕ → Mark
mark_at number place = record { number = number; place = place }
