-- What is kept of each statement, with a set of variables as a number that has a bit for each.
use Rattle.std.specs.Prelude.{ℕ, ◌^◌, ◌==◌, nat_lt, Bool, List, [], ◌∷◌, if◌then◌else◌, map, unwrap_or, slice_get, bit_or}
use Rattle.std.specs.Int.{bit_at}
use Rattle.prv_model.specs.Numbers.{statements_all}
use Rattle.prv_model.specs.declared.program.Program.{Program}
use Rattle.prv_model.specs.declared.stmt.Stmt.{Stmt}
use Rattle.prv_model.specs.declared.stmt.Stmt.TheVariants.{Skip}
use Rattle.prv_model.specs.declared.stmt.Stmt.TheOpen.{Stmt-F}
use Rattle.prv_model.specs.declared.stmt.Stmt.TheFolds.{fold-Stmt}
use Rattle.prv_dep.specs.Dependences.{vars, may_leave, writes, overwrites}
use Rattle.prv_dep.specs.declared.writes.Row.{Row}

-- the number that has the bit of one variable; a variable past 64 has none
abbrev pub bit : ℕ → ℕ
bit v = if nat_lt v 64 then 2 ^ v else 0

-- the number that has the bits of some variables
abbrev pub mask : List ℕ → ℕ
mask [] = 0
mask (v ∷ vs) = bit_or (bit v) (mask vs)

-- a number has the bit of a variable
abbrev pub has_bit : ℕ → ℕ → Bool
has_bit n v = bit_at n v == 1

-- the variables that a statement's own expression reads, not those of statements inside it
abbrev pub node_reads : Stmt-F (List ℕ) → List ℕ
node_reads (Stmt-F.Set var e) = vars e
node_reads (Stmt-F.If test chosen other) = vars test
node_reads (Stmt-F.While test body) = vars test
node_reads (Stmt-F.Return e) = vars e
node_reads (Stmt-F.Out e) = vars e
node_reads (Stmt-F.Assert e) = vars e
node_reads _ = []

abbrev pub reads : Stmt → List ℕ
reads = fold-Stmt (List ℕ) node_reads

-- what is kept of a statement
abbrev pub row : Stmt → Row
row s = record { writes = mask (writes s); overwrites = mask (overwrites s); reads = mask (reads s); leaves = may_leave s }

-- what is kept of a program: a row for each statement, by its number
abbrev pub dependences : Program → List Row
dependences p = map (λ s. row s) (statements_all p.body)

-- the statement of a program with this number
abbrev pub statement : Program → ℕ → Stmt
statement p k = unwrap_or (slice_get (statements_all p.body) k) Skip

-- the row at a number
abbrev pub row_at : List Row → ℕ → Row
row_at rows k = unwrap_or (slice_get rows k) (row Skip)
