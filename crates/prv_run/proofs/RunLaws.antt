-- What is run of a statement, variant by variant.
use Rattle.std.proofs.Common.{◌≡◌, ℕ, ◌+◌, List, Option, Some, None, sym, ap, ◌∙◌}
use Rattle.std.specs.Option.{option_map}
use Rattle.prv_model.specs.Expressions.{value}
use Rattle.prv_model.specs.Statements.{Frame, exec}
use Rattle.prv_model.specs.Programs.{stmt_count}
use Rattle.prv_model.specs.declared.expr.Expr.{Expr}
use Rattle.prv_model.specs.declared.stmt.Stmt.{Stmt}
use Rattle.prv_model.specs.declared.stmt.Stmt.TheOpen.{Stmt-F}
use Rattle.prv_model.specs.declared.stmt.Stmt.TheFolds.{para-roll-Stmt}
use Rattle.prv_model.specs.declared.stmt.Stmt.TheVariants.{Skip, Set, If, While, Return, Out, Assert, Block, Marked, rolls-If, rolls-While, rolls-Return, rolls-Out, rolls-Assert, rolls-Block, rolls-Marked}
use Rattle.prv_model.specs.declared.stmt.Stmt.TheVariants as v
use Rattle.prv_run.specs.Runs.{Run, Idle, Choice, Then, Mark, Sets, Puts, Returns, Asserts, Tests, evaluation, branch, otherwise_run, loop_run, node_runs, runs, runs_all}

pub runs-Skip : (k : ℕ) (f : Frame) → runs Skip k f ≡ Idle
runs-Skip k f = ap (λ (s : Stmt). runs s k f) (sym v.rolls-Skip) ∙ ap (λ (r : ℕ → Frame → Run). r k f) (para-roll-Stmt (ℕ → Frame → Run) node_runs Stmt-F.Skip)

pub runs-Set : (var : ℕ) (e : Expr) (k : ℕ) (f : Frame) → runs (Set var e) k f ≡ evaluation k (Sets var) e f
runs-Set var e k f = ap (λ (s : Stmt). runs s k f) (sym (v.rolls-Set var e)) ∙ ap (λ (r : ℕ → Frame → Run). r k f) (para-roll-Stmt (ℕ → Frame → Run) node_runs (Stmt-F.Set var e))

pub runs-If : (test : Expr) (chosen : Stmt) (other : Option Stmt) (k : ℕ) (f : Frame) →
    runs (If test chosen other) k f
    ≡ Choice k test chosen other (Then (evaluation k Tests test f)
    (branch (value test f.state) (runs chosen (k + 1) f) (otherwise_run (option_map (λ s. (s, runs s)) other) (k + 1 + stmt_count chosen) f)))
runs-If test chosen None k f =
    ap (λ (s : Stmt). runs s k f) (sym (rolls-If test chosen None)) ∙ ap (λ (r : ℕ → Frame → Run). r k f) (para-roll-Stmt (ℕ → Frame → Run) node_runs (Stmt-F.If test chosen None))
runs-If test chosen (Some other) k f =
    ap (λ (s : Stmt). runs s k f) (sym (rolls-If test chosen (Some other))) ∙ ap (λ (r : ℕ → Frame → Run). r k f) (para-roll-Stmt (ℕ → Frame → Run) node_runs (Stmt-F.If test chosen (Some other)))

pub runs-While : (test : Expr) (body : Stmt) (k : ℕ) (f : Frame) → runs (While test body) k f ≡ loop_run k test (exec body) (runs body (k + 1)) f.turns f
runs-While test body k f = ap (λ (s : Stmt). runs s k f) (sym (rolls-While test body)) ∙ ap (λ (r : ℕ → Frame → Run). r k f) (para-roll-Stmt (ℕ → Frame → Run) node_runs (Stmt-F.While test body))

pub runs-Return : (e : Expr) (k : ℕ) (f : Frame) → runs (Return e) k f ≡ evaluation k Returns e f
runs-Return e k f = ap (λ (s : Stmt). runs s k f) (sym (rolls-Return e)) ∙ ap (λ (r : ℕ → Frame → Run). r k f) (para-roll-Stmt (ℕ → Frame → Run) node_runs (Stmt-F.Return e))

pub runs-Out : (e : Expr) (k : ℕ) (f : Frame) → runs (Out e) k f ≡ evaluation k Puts e f
runs-Out e k f = ap (λ (s : Stmt). runs s k f) (sym (rolls-Out e)) ∙ ap (λ (r : ℕ → Frame → Run). r k f) (para-roll-Stmt (ℕ → Frame → Run) node_runs (Stmt-F.Out e))

pub runs-Assert : (e : Expr) (k : ℕ) (f : Frame) → runs (Assert e) k f ≡ evaluation k Asserts e f
runs-Assert e k f = ap (λ (s : Stmt). runs s k f) (sym (rolls-Assert e)) ∙ ap (λ (r : ℕ → Frame → Run). r k f) (para-roll-Stmt (ℕ → Frame → Run) node_runs (Stmt-F.Assert e))

pub runs-Block : (all : List Stmt) (k : ℕ) (f : Frame) → runs (Block all) k f ≡ runs_all all (k + 1) f
runs-Block all k f = ap (λ (s : Stmt). runs s k f) (sym (rolls-Block all)) ∙ ap (λ (r : ℕ → Frame → Run). r k f) (para-roll-Stmt (ℕ → Frame → Run) node_runs (Stmt-F.Block all))

pub runs-Marked : (mark : ℕ) (body : Stmt) (k : ℕ) (f : Frame) → runs (Marked mark body) k f ≡ Mark mark (runs body (k + 1) f)
runs-Marked mark body k f = ap (λ (s : Stmt). runs s k f) (sym (rolls-Marked mark body)) ∙ ap (λ (r : ℕ → Frame → Run). r k f) (para-roll-Stmt (ℕ → Frame → Run) node_runs (Stmt-F.Marked mark body))

pub ruleset run_laws = (runs-Skip, runs-Set, runs-If, runs-While, runs-Return, runs-Out, runs-Assert, runs-Block, runs-Marked)
