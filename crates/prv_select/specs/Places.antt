-- Where the statements of a program stand: which `if`s and marks are round them.
use Rattle.std.specs.Prelude.{ℕ, ◌+◌, List, [], ◌∷◌, ◌++◌, length, Some, None, map, unwrap_or, slice_get}
use Rattle.prv_model.specs.declared.stmt.Stmt.{Stmt}
use Rattle.prv_model.specs.declared.stmt.Stmt.TheOpen.{Stmt-F}
use Rattle.prv_model.specs.declared.stmt.Stmt.TheFolds.{fold-Stmt, para-Stmt}
use Rattle.prv_select.specs.declared.places.Scope.{Scope}
use Rattle.prv_select.specs.declared.places.Place.{Place}
use Rattle.prv_select.specs.MarkSets.{no_marks, one_mark, both_marks}

-- nothing is round the statements of `main`
abbrev pub outside : Scope
outside = record { nearest = None; depth = 0; marks = no_marks }

-- what is round the statements inside one node that has the number k
abbrev pub node_inner : Stmt-F (ℕ → Scope → Scope) → ℕ → Scope → Scope
node_inner (Stmt-F.If test chosen other) k outer = record { nearest = Some k; depth = outer.depth + 1; marks = outer.marks }
node_inner (Stmt-F.Marked mark body) k outer = record { nearest = outer.nearest; depth = outer.depth; marks = both_marks outer.marks (one_mark mark) }
node_inner _ k outer = outer

-- what is round the statements inside a statement
abbrev pub inner : Stmt → ℕ → Scope → Scope
inner = fold-Stmt (ℕ → Scope → Scope) node_inner

-- the place of a statement, and then the places of those inside it
abbrev pub with_own : Stmt × (Scope → ℕ → List Place) → Scope → ℕ → List Place
with_own s outer k = record { outer = outer; inner = inner s.0 k outer } ∷ s.1 (inner s.0 k outer) (k + 1)

-- the places of statements one after another, of which the first has the number k
abbrev pub in_turn_places : List (Stmt × (Scope → ℕ → List Place)) → Scope → ℕ → List Place
in_turn_places [] scope k = []
in_turn_places (first ∷ rest) scope k = with_own first scope k ++ in_turn_places rest scope (k + length (with_own first scope k))

-- the places of the statements inside one node, from the number k on, in the scope inside it
abbrev pub node_places : Stmt-F (Stmt × (Scope → ℕ → List Place)) → Scope → ℕ → List Place
node_places (Stmt-F.If test chosen None) scope k = with_own chosen scope k
node_places (Stmt-F.If test chosen (Some other)) scope k = with_own chosen scope k ++ with_own other scope (k + length (with_own chosen scope k))
node_places (Stmt-F.While test body) scope k = with_own body scope k
node_places (Stmt-F.Block all) scope k = in_turn_places all scope k
node_places (Stmt-F.Marked mark body) scope k = with_own body scope k
node_places _ scope k = []

abbrev pub places_inside : Stmt → Scope → ℕ → List Place
places_inside = para-Stmt (Scope → ℕ → List Place) node_places

-- the places of a statement that has the number k, and of those inside it
abbrev pub places_of : Stmt → Scope → ℕ → List Place
places_of s outer k = record { outer = outer; inner = inner s k outer } ∷ places_inside s (inner s k outer) (k + 1)

-- the places of a list of statements, of which the first has the number k
abbrev pub places_all : List Stmt → Scope → ℕ → List Place
places_all all scope k = in_turn_places (map (λ s. (s, places_inside s)) all) scope k

-- the place of the statement with this number
abbrev pub place_at : List Place → ℕ → Place
place_at places k = unwrap_or (slice_get places k) (record { outer = outside; inner = outside })
