-- The slice of a run: conditions on the inputs that fix what the program puts out and how it ends.
use Rattle.std.specs.Prelude.{ℕ, Bool, not, List, [], ◌∷◌, ◌++◌, Option, Some, None, ℤ, pos, if◌then◌else◌, filter}
use Rattle.prv_model.specs.Words.{is_zero}
use Rattle.prv_model.specs.Statements.{exec_all}
use Rattle.prv_model.specs.Outcomes.{start, outcome}
use Rattle.prv_model.specs.declared.expr.Expr.{Expr}
use Rattle.prv_model.specs.declared.outcome.Ending.{Ending}
use Rattle.prv_model.specs.declared.program.Program.{Program}
use Rattle.prv_model.specs.declared.term.Term.{Term}
use Rattle.prv_model.specs.declared.term.Term.TheVariants.{Num}
use Rattle.prv_pool.specs.Folding.{is_number, negation, truth as truth_of}
use Rattle.prv_run.specs.Runs.{Run, Use, run_of}
use Rattle.prv_sym.specs.Named.{run_named}
use Rattle.prv_sym.specs.Symbols.{symbol, after, start_terms}
use Rattle.prv_select.specs.Choices.{keeps, matters, choose, nothing, rising}

-- that a term is nonzero, where it was, and that it is 0, where it was
abbrev pub branch_condition : ℤ → Term → Term
branch_condition n t = if is_zero n then negation (truth_of t) else truth_of t

-- the conditions of one evaluation: that it faults, or that it doesn't and that it decides as it did
abbrev pub literals_of : Use → Expr → Option ℤ → List Term → List Term
literals_of why e None env = negation (symbol e env).safe ∷ []
literals_of Use.Tests e (Some n) env = (symbol e env).safe ∷ (branch_condition n (symbol e env).term ∷ [])
literals_of Use.Asserts e (Some n) env = (symbol e env).safe ∷ (branch_condition n (symbol e env).term ∷ [])
literals_of _ e (Some n) env = (symbol e env).safe ∷ []

-- the conditions of what is kept of a run, in its order, where these variables are needed behind it
abbrev pub literals : Run → List Term → (ℕ → Bool) → List Term
literals Run.Idle env needed = []
literals (Run.Eval k why e v) env needed = if keeps why e v needed then literals_of why e v env else []
literals (Run.Then a b) env needed = literals a env (choose b needed).needed ++ literals b (after a env) needed
literals (Run.Choice k test chosen other inner) env needed = if matters test chosen other needed then literals inner env needed else []
literals (Run.Mark mark inner) env needed = literals inner env needed

-- the terms of what an evaluation puts out
abbrev pub outs_of : Use → Expr → Option ℤ → List Term → List Term
outs_of Use.Puts e (Some n) env = (symbol e env).term ∷ []
outs_of Use.Returns e (Some n) env = (symbol e env).term ∷ []
outs_of _ e _ env = []

-- the terms of what a run puts out
abbrev pub out_terms : Run → List Term → List Term
out_terms Run.Idle env = []
out_terms (Run.Eval k why e v) env = outs_of why e v env
out_terms (Run.Then a b) env = out_terms a env ++ out_terms b (after a env)
out_terms (Run.Choice k test chosen other inner) env = out_terms inner env
out_terms (Run.Mark mark inner) env = out_terms inner env

-- what is named for the conditions of one evaluation: each condition, and the truth on the way to it
abbrev pub branch_condition_named : ℤ → Term → List Term
branch_condition_named n t = truth_of t ∷ branch_condition n t ∷ []

abbrev pub conditions_named : Use → Expr → Option ℤ → List Term → List Term
conditions_named why e None env = negation (symbol e env).safe ∷ []
conditions_named Use.Tests e (Some n) env = branch_condition_named n (symbol e env).term
conditions_named Use.Asserts e (Some n) env = branch_condition_named n (symbol e env).term
conditions_named _ e (Some n) env = []

-- what is named for the conditions of what is kept of a run
abbrev pub literals_named : Run → List Term → (ℕ → Bool) → List Term
literals_named Run.Idle env needed = []
literals_named (Run.Eval k why e v) env needed = if keeps why e v needed then conditions_named why e v env else []
literals_named (Run.Then a b) env needed = literals_named a env (choose b needed).needed ++ literals_named b (after a env) needed
literals_named (Run.Choice k test chosen other inner) env needed = if matters test chosen other needed then literals_named inner env needed else []
literals_named (Run.Mark mark inner) env needed = literals_named inner env needed

-- a condition that is the number 1 says nothing
abbrev pub says_something : Term → Bool
says_something t = not (is_number (pos 1) t)

-- the end of `main` puts 0 out
abbrev pub end_terms : Option Ending → List Term
end_terms None = Num (pos 0) ∷ []
end_terms (Some how) = []

-- conditions on the inputs, what is put out and how the program ends where they hold, and the marks that contribute
pub record Slice : Type 0 where
  pub literals : List Term
  pub outs : List Term
  pub how : Ending
  pub marks : List ℕ

-- the slice of a program at an input
abbrev pub slice : Program → ℕ → List ℤ → Slice
slice p turns x =
    let run = run_of p turns x in
    let env = start_terms p in
    record {
      literals = filter says_something (literals run env nothing);
      outs = out_terms run env ++ end_terms (exec_all p.body (start p turns x)).ending;
      how = (outcome p turns x).how;
      marks = rising (choose run nothing).marks;
    }

-- which terms are named for the slice of a program at an input, in order: those of the run, the 0 that the end of `main` puts out, and those of the conditions
abbrev pub slice_named : Program → ℕ → List ℤ → List Term
slice_named p turns x =
    let run = run_of p turns x in
    let env = start_terms p in
    run_named run env ++ (end_terms (exec_all p.body (start p turns x)).ending ++ literals_named run env nothing)
