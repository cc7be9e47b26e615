-- The text of a node as pieces, of which those wait that are still to be written.
use Rattle.std.specs.Prelude.{◌≡◌, ℕ, ◌+◌, ◌-◌, ◌*◌, ◌<◌, ◌≤◌, Bool, true, false, List, [], ◌++◌, length, take, fold, codes, if◌then◌else◌}
use Rattle.std.specs.List.{AllByRecursion}
use Rattle.prv_model.specs.declared.term.Term.{Term}
use Rattle.prv_pool.specs.Tables.{term_at}
use Rattle.prv_pool.specs.declared.node.Node.{Node}
use Rattle.prv_pool.specs.declared.node.Node.TheVariants as node
use Rattle.prv_text.specs.Terms.{Spelled, spelled, operand, between}
use Rattle.prv_text.specs.declared.node.Piece.{Piece}
use Rattle.prv_text.specs.declared.node.Piece.TheVariants.{Operand, Between, Chosen, Other, Close}

-- the text of a piece
abbrev pub piece_text : List (List ℕ) → List Term → Piece → List ℕ
piece_text names terms (Operand n) = operand (spelled names (term_at terms n))
piece_text names terms (Between op) = between op
piece_text names terms Chosen = codes " ? "
piece_text names terms Other = codes " : "
piece_text names terms Close = codes ")"

-- the text of the pieces that wait, of which the last comes first
abbrev pub waiting_text : List (List ℕ) → List Term → List Piece → List ℕ
waiting_text names terms waiting = fold (λ text piece. piece_text names terms piece ++ text) [] waiting

-- a piece is of a table with so many nodes
abbrev pub IsWithin : ℕ → Piece → Type 0
IsWithin count (Operand n) = n < count
IsWithin count _ = Unit {0}

-- the term of a node stands in parentheses as an operand
abbrev pub is_compound : Node → Bool
is_compound (node.Param k) = false
is_compound (node.Num n) = false
is_compound (node.Op op a b) = true
is_compound (node.Pick test chosen other) = true

-- how many pieces of a text wait at most
abbrev pub pieces_of : Spelled → ℕ
pieces_of s = if s.compound then 5 else 0

-- what is left to do: a byte counts for more than the pieces that one byte makes wait
abbrev pub left : ℕ → List ℕ → List Piece → ℕ
left end out waiting = 8 * (end - length out) + length waiting

-- a text goes on what was written: its first bytes are written too, and the rest of it waits before what waited
pub record Goes (names : List (List ℕ)) (terms : List Term) (end more : ℕ) (old text : List ℕ) (waited : List Piece) (new : List ℕ) (waiting : List Piece) : Type 0 where
  pub goes : take end (new ++ waiting_text names terms waiting) ≡ take end (old ++ text ++ waiting_text names terms waited)
  pub within : AllByRecursion (IsWithin (length terms)) waiting
  pub room : length new ≤ end
  pub less : left end new waiting ≤ left end old waited + more
