-- What is evaluated in a run, kept as a structure of the statements that are run. It is made from what they do.
use Rattle.std.specs.Prelude.{ℕ, zero, suc, ◌+◌, ◌==◌, true, false, List, [], ◌∷◌, ◌++◌, Option, Some, None, ℤ, pos, if◌then◌else◌, map}
use Rattle.std.specs.Option.{option_map}
use Rattle.prv_model.specs.Words.{is_zero}
use Rattle.prv_model.specs.Expressions.{value}
use Rattle.prv_model.specs.Statements.{Frame, Step, exec, spend}
use Rattle.prv_model.specs.Programs.{stmt_count}
use Rattle.prv_model.specs.Outcomes.{start}
use Rattle.prv_model.specs.declared.outcome.Ending.{Ending}
use Rattle.prv_model.specs.declared.expr.Expr.{Expr}
use Rattle.prv_model.specs.declared.program.Program.{Program}
use Rattle.prv_model.specs.declared.stmt.Stmt.{Stmt}
use Rattle.prv_model.specs.declared.stmt.Stmt.TheOpen.{Stmt-F}
use Rattle.prv_model.specs.declared.stmt.Stmt.TheFolds.{para-Stmt}
use Rattle.prv_run.specs.declared.event.Event.{Event}
use Rattle.prv_run.specs.declared.event.What.{What}
use Rattle.prv_run.specs.declared.event.What.TheVariants as w

-- what an evaluation is for: to set a variable, to be put out, to be returned, to be asserted, or to decide
pub data Use : Type 0 where
  Sets : ℕ → Use
  Puts : Use
  Returns : Use
  Asserts : Use
  Tests : Use

-- a run: nothing; the evaluation of an expression in the statement of this number, with its value or none for a fault;
-- one run and then another; an `if`, kept as it is written, round what was run of it; and what was run inside a mark
pub data Run : Type 0 where
  Idle : Run
  Eval : ℕ → Use → Expr → Option ℤ → Run
  Then : Run → Run → Run
  Choice : ℕ → Expr → Stmt → Option Stmt → Run → Run
  Mark : ℕ → Run → Run

-- the statement with this number evaluates an expression
abbrev pub evaluation : ℕ → Use → Expr → Frame → Run
evaluation k why e f = Eval k why e (value e f.state)

-- what is run from where a statement leaves the run, if it goes on
abbrev pub where_goes : Option Ending → Frame → (Frame → Run) → Run
where_goes None f next = next f
where_goes (Some how) f next = Idle

abbrev pub follow : Step → (Frame → Run) → Run
follow step next = where_goes step.ending step.frame next

-- the branch that a test takes, if it has a value
abbrev pub branch : Option ℤ → Run → Run → Run
branch None chosen other = Idle
branch (Some n) chosen other = if is_zero n then other else chosen

-- one turn of a loop, where its test holds and a turn is left
abbrev pub turn_run : Option ℤ → Frame → (Frame → Run) → Run
turn_run v f next = branch v (if f.turns == 0 then Idle else next (spend f)) Idle

-- a loop that has at most so many turns left: its test, and then its body and the loop again
abbrev pub loop_run : ℕ → Expr → (Frame → Step) → (Frame → Run) → ℕ → Frame → Run
loop_run k test body inner zero f = evaluation k Tests test f
loop_run k test body inner (suc more) f =
    Then (evaluation k Tests test f)
    (turn_run (value test f.state) f (λ g. Then (inner g) (follow (body g) (loop_run k test body inner more))))

-- statements one after another, of which the first has the number k
abbrev pub in_turn_run : List (Stmt × (ℕ → Frame → Run)) → ℕ → Frame → Run
in_turn_run [] k f = Idle
in_turn_run (first ∷ rest) k f = Then (first.1 k f) (follow (exec first.0 f) (in_turn_run rest (k + stmt_count first.0)))

-- the branch of an `else`, if there is one
abbrev pub otherwise_run : Option (Stmt × (ℕ → Frame → Run)) → ℕ → Frame → Run
otherwise_run None k f = Idle
otherwise_run (Some other) k f = other.1 k f

-- one node with the number k, with each child and what is run of it in its place
abbrev pub node_runs : Stmt-F (Stmt × (ℕ → Frame → Run)) → ℕ → Frame → Run
node_runs Stmt-F.Skip k f = Idle
node_runs (Stmt-F.Set var e) k f = evaluation k (Sets var) e f
node_runs (Stmt-F.If test chosen other) k f =
    Choice k test chosen.0 (option_map (λ s. s.0) other)
    (Then (evaluation k Tests test f)
    (branch (value test f.state) (chosen.1 (k + 1) f) (otherwise_run other (k + 1 + stmt_count chosen.0) f)))
node_runs (Stmt-F.While test body) k f = loop_run k test (exec body.0) (body.1 (k + 1)) f.turns f
node_runs (Stmt-F.Return e) k f = evaluation k Returns e f
node_runs (Stmt-F.Out e) k f = evaluation k Puts e f
node_runs (Stmt-F.Assert e) k f = evaluation k Asserts e f
node_runs (Stmt-F.Block all) k f = in_turn_run all (k + 1) f
node_runs (Stmt-F.Marked mark body) k f = Mark mark (body.1 (k + 1) f)

-- what is run of a statement that has the number k
abbrev pub runs : Stmt → ℕ → Frame → Run
runs = para-Stmt (ℕ → Frame → Run) node_runs

-- what is run of a list of statements, of which the first has the number k
abbrev pub runs_all : List Stmt → ℕ → Frame → Run
runs_all all k f = in_turn_run (map (λ s. (s, runs s)) all) k f

-- what is run of a program on an input
abbrev pub run_of : Program → ℕ → List ℤ → Run
run_of p turns x = runs_all p.body 0 (start p turns x)

abbrev pub what_of : Use → What
what_of (Sets var) = w.Set
what_of Puts = w.Out
what_of Returns = w.Return
what_of Asserts = w.Assert
what_of Tests = w.Test

-- an evaluation as it is told; a fault has the value 0
abbrev pub event : ℕ → What → Option ℤ → Event
event k what None = record { stmt = k; what = what; value = pos 0; safe = false }
event k what (Some n) = record { stmt = k; what = what; value = n; safe = true }

-- the evaluations of a run, in order
abbrev pub events : Run → List Event
events Idle = []
events (Eval k why e v) = event k (what_of why) v ∷ []
events (Then a b) = events a ++ events b
events (Choice k test chosen other inner) = events inner
events (Mark mark inner) = events inner
