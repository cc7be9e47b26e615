-- The statements of a program in text order. A statement's number is its place among them.
use Rattle.std.specs.Prelude.{List, [], ◌∷◌, ◌++◌, Option, Some, None, map}
use Rattle.std.specs.List.{flat_map}
use Rattle.prv_model.specs.declared.stmt.Stmt.{Stmt}
use Rattle.prv_model.specs.declared.stmt.Stmt.TheOpen.{Stmt-F}
use Rattle.prv_model.specs.declared.stmt.Stmt.TheFolds.{para-Stmt}

-- a statement and then those inside it
abbrev pub with_inside : Stmt × List Stmt → List Stmt
with_inside s = s.0 ∷ s.1

abbrev pub branch_inside : Option (Stmt × List Stmt) → List Stmt
branch_inside None = []
branch_inside (Some s) = with_inside s

-- the statements inside one node, with those inside each child beside it
abbrev pub node_inside : Stmt-F (Stmt × List Stmt) → List Stmt
node_inside (Stmt-F.If test chosen other) = with_inside chosen ++ branch_inside other
node_inside (Stmt-F.While test body) = with_inside body
node_inside (Stmt-F.Block all) = flat_map with_inside all
node_inside (Stmt-F.Marked mark body) = with_inside body
node_inside _ = []

-- the statements inside a statement
abbrev pub inside : Stmt → List Stmt
inside = para-Stmt (List Stmt) node_inside

-- a statement and then those inside it
abbrev pub statements : Stmt → List Stmt
statements s = s ∷ inside s

-- the statements of a list, and so of a program: the statement with number k stands at k
abbrev pub statements_all : List Stmt → List Stmt
statements_all all = flat_map (λ s. statements s) all
