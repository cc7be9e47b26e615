-- What a statement does. The turns of loops are counted over the whole run.
use Rattle.std.specs.Prelude.{ℕ, zero, suc, ◌-◌, ◌==◌, List, [], ◌∷◌, ◌++◌, Option, Some, None, ℤ, if◌then◌else◌, slice_set, map}
use Rattle.prv_model.specs.Words.{is_zero}
use Rattle.prv_model.specs.Expressions.{value}
use Rattle.prv_model.specs.declared.outcome.Ending.{Ending}
use Rattle.prv_model.specs.declared.outcome.Ending.TheVariants.{Returned, Fault, Assert, Long}
use Rattle.prv_model.specs.declared.expr.Expr.{Expr}
use Rattle.prv_model.specs.declared.stmt.Stmt.{Stmt}
use Rattle.prv_model.specs.declared.stmt.Stmt.TheOpen.{Stmt-F}
use Rattle.prv_model.specs.declared.stmt.Stmt.TheFolds.{fold-Stmt}

-- where a run stands: the variables' words, what it has put out, and the turns that are left
pub record Frame : Type 0 where
  pub state : List ℤ
  pub outs : List ℤ
  pub turns : ℕ

-- where a statement leaves the run, and the ending, if it ended the run
pub record Step : Type 0 where
  pub frame : Frame
  pub ending : Option Ending

-- the run goes on from here
abbrev pub goes : Frame → Step
goes f = record { frame = f; ending = None }

-- the run ends here
abbrev pub ends : Frame → Ending → Step
ends f how = record { frame = f; ending = Some how }

-- what follows where the run goes on
abbrev pub after_ending : Option Ending → Frame → (Frame → Step) → Step
after_ending None f next = next f
after_ending (Some how) f next = ends f how

abbrev pub and_then : Step → (Frame → Step) → Step
and_then step next = after_ending step.ending step.frame next

-- what follows from a word, and a fault where there is none
abbrev pub on_word : Option ℤ → Frame → (ℤ → Step) → Step
on_word None f next = ends f Fault
on_word (Some n) f next = next n

-- what follows from the value of an expression, and a fault where it has none
abbrev pub with_value : Expr → Frame → (ℤ → Step) → Step
with_value e f next = on_word (value e f.state) f next

-- the frame with a variable changed, with one more word put out, and with a turn spent
abbrev pub assign : Frame → ℕ → ℤ → Frame
assign f var n = record f { state = slice_set f.state var n }

abbrev pub put : Frame → ℤ → Frame
put f n = record f { outs = f.outs ++ n ∷ [] }

abbrev pub spend : Frame → Frame
spend f = record f { turns = f.turns - 1 }

-- one evaluation of a loop's test: at 0 the loop is left; with no turn left the run ends; else a turn is spent
abbrev pub turn : Expr → Frame → (Frame → Step) → Step
turn test f next = with_value test f (λ n. if is_zero n then goes f else if f.turns == 0 then ends f Long else next (spend f))

-- a loop that has at most so many turns left: each costs one, so the turns of the frame suffice
abbrev pub loop : Expr → (Frame → Step) → ℕ → Frame → Step
loop test body zero f = turn test f (λ g. ends g Long)
loop test body (suc more) f = turn test f (λ g. and_then (body g) (loop test body more))

-- one after another, until one ends the run
abbrev pub in_turn : List (Frame → Step) → Frame → Step
in_turn [] f = goes f
in_turn (first ∷ rest) f = and_then (first f) (in_turn rest)

-- the branch of an `else`, if there is one
abbrev pub otherwise : Option (Frame → Step) → Frame → Step
otherwise None f = goes f
otherwise (Some branch) f = branch f

-- one node, with what each child does in its place
abbrev pub node_exec : Stmt-F (Frame → Step) → Frame → Step
node_exec Stmt-F.Skip f = goes f
node_exec (Stmt-F.Set var e) f = with_value e f (λ n. goes (assign f var n))
node_exec (Stmt-F.If test chosen other) f = with_value test f (λ n. if is_zero n then otherwise other f else chosen f)
node_exec (Stmt-F.While test body) f = loop test body f.turns f
node_exec (Stmt-F.Return e) f = with_value e f (λ n. ends (put f n) Returned)
node_exec (Stmt-F.Out e) f = with_value e f (λ n. goes (put f n))
node_exec (Stmt-F.Assert e) f = with_value e f (λ n. if is_zero n then ends f Assert else goes f)
node_exec (Stmt-F.Block all) f = in_turn all f
node_exec (Stmt-F.Marked mark body) f = body f

-- what a statement does
abbrev pub exec : Stmt → Frame → Step
exec = fold-Stmt (Frame → Step) node_exec

-- what a list of statements does
abbrev pub exec_all : List Stmt → Frame → Step
exec_all all f = in_turn (map (λ s. exec s) all) f
