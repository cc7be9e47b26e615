-- What a folding answers, before its node is made.
use Rattle.std.specs.Prelude.{ℕ, ◌<◌, List, pos, Option, Some, None}
use Rattle.prv_model.specs.declared.term.Term.{Term}
use Rattle.prv_model.specs.declared.term.Term.TheVariants.{Op, Num}
use Rattle.prv_pool.specs.Tables.{term_at}
use Rattle.prv_pool.specs.Nodes.{node_term, AreBelow}
use Rattle.prv_pool.specs.declared.folded.Folded.{Folded}
use Rattle.prv_pool.specs.declared.folded.Folded.TheVariants as folded

-- the term of an answer: that of a node, that of a node still to be made, or an operator on a node and 0
abbrev pub folded_term : List Term → Folded → Term
folded_term terms (folded.Known n) = term_at terms n
folded_term terms (folded.New n) = node_term terms n
folded_term terms (folded.WithZero op n) = Op op (term_at terms n) (Num (pos 0))

-- the nodes of an answer are below a number
abbrev pub IsOver : ℕ → Folded → Type 0
IsOver n (folded.Known k) = k < n
IsOver n (folded.New m) = AreBelow n m
IsOver n (folded.WithZero op k) = k < n

-- the first answer, and the second where there is none
abbrev pub or_else : Option Term → Option Term → Option Term
or_else (Some t) answer = Some t
or_else None answer = answer
