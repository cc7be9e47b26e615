-- The entries that say what a pair does on one input, and leave every other input open.
use Rattle.std.specs.Prelude.{ℕ, suc, List, [], ◌∷◌, ◌++◌, ℤ}
use Rattle.prv_model.specs.declared.op.TermOp.TheVariants.{Eq, Ne}
use Rattle.prv_model.specs.declared.term.Term.{Term}
use Rattle.prv_model.specs.declared.term.Term.TheVariants.{Param, Op, Num}
use Rattle.prv_model.specs.declared.verdict.Verdict.{Verdict}
use Rattle.prv_model.specs.declared.verdict.Verdict.TheVariants as v
use Rattle.prv_model.specs.declared.entry.Entry.{Entry}
use Rattle.prv_model.specs.declared.entry.Kind.{Kind}
use Rattle.prv_model.specs.declared.entry.Kind.TheVariants.{Same, Different, Beyond, Unexplored}

-- parameter k has the word n, and its negation
abbrev pub equals : ℕ → ℤ → Term
equals k n = Op Eq (Param k) (Num n)

abbrev pub differs : ℕ → ℤ → Term
differs k n = Op Ne (Param k) (Num n)

-- the parameters from k on have these words
abbrev pub literals : ℕ → List ℤ → List Term
literals k [] = []
literals k (n ∷ x) = equals k n ∷ literals (suc k) x

-- an entry of which nothing is known
abbrev pub open_entry : ℕ → List Term → Entry
open_entry number terms = record { number = number; terms = terms; kind = Unexplored; marks = [] }

-- the inputs that have the front's words, and leave the rest of x at parameter k, or the next, and so on
abbrev pub rests : ℕ → List Term → ℕ → List ℤ → List Entry
rests number front k [] = []
rests number front k (n ∷ x) = open_entry number (front ++ differs k n ∷ []) ∷ rests (suc number) (front ++ equals k n ∷ []) (suc k) x

-- what a verdict on an input lets be claimed of that input
abbrev pub kind_at : Verdict → List ℤ → Kind
kind_at v.Beyond x = Beyond
kind_at v.Same x = Same
kind_at v.Differ x = Different x

-- entry 1 is the input with the verdict on it, and the entries from 2 on are the rests
abbrev pub point : Verdict → List ℤ → List Entry
point verdict x = record { number = 1; terms = literals 0 x; kind = kind_at verdict x; marks = [] } ∷ rests 2 [] 0 x
