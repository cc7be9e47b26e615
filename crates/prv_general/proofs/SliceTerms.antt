-- The literals and the out terms of a slice are terms over the program's parameters.
use Rattle.std.proofs.Common.{◌≡◌, ℕ, zero, suc, ◌+◌, ◌==◌, Bool, true, false, ◌&&◌, List, [], ◌∷◌, ◌++◌, length, Option, Some, None, ℤ, pos, if◌then◌else◌, refl, sym, ap, ◌∙◌, subst, map, filter, nat_lt}
use Rattle.std.specs.List.{AllByRecursion}
use Rattle.std.proofs.lemmas.List.{length-set}
use Rattle.prv_model.specs.Words.{is_zero}
use Rattle.prv_model.specs.Expressions.{value}
use Rattle.prv_model.specs.Programs.{IsProgram, expr_over, stmt_over, node_stmt_over, all_true, stmt_count}
use Rattle.prv_model.specs.Statements.{Frame, Step, exec, exec_all, spend}
use Rattle.prv_model.specs.Outcomes.{start}
use Rattle.prv_model.specs.Terms.{IsTerm}
use Rattle.prv_model.specs.declared.expr.Expr.{Expr}
use Rattle.prv_model.specs.declared.outcome.Ending.{Ending}
use Rattle.prv_model.specs.declared.program.Program.{Program}
use Rattle.prv_model.specs.declared.stmt.Stmt.{Stmt, roll-Stmt, map-Stmt}
use Rattle.prv_model.specs.declared.stmt.Stmt.TheOpen.{Stmt-F}
use Rattle.prv_model.specs.declared.stmt.Stmt.TheFolds.{fold-roll-Stmt, para-roll-Stmt, ind-Stmt}
use Rattle.prv_model.specs.declared.term.Term.{Term}
use Rattle.prv_dep.proofs.DependenceLaws.{and-left, and-right}
use Rattle.prv_pool.specs.Folding.{negation, truth as truth_of}
use Rattle.prv_pool.proofs.FoldLaws.{negation-term, truth-term}
use Rattle.prv_run.specs.Runs.{Run, Use, runs, node_runs, loop_run, turn_run, branch, follow, where_goes, in_turn_run, run_of}
use Rattle.prv_sym.specs.Symbols.{symbol, after, after_use, start_terms}
use Rattle.prv_sym.specs.Judgements.{AreTerms, AreOver}
use Rattle.prv_sym.proofs.SymbolLaws.{symbol-said, num-term}
use Rattle.prv_select.specs.Choices.{keeps, matters, choose, nothing}
use Rattle.prv_general.specs.Slices.{slice, literals, literals_of, branch_condition, out_terms, outs_of, end_terms, says_something}
use Rattle.prv_general.proofs.SliceLaws.{start-over, start-length}
use Rattle.prv_general.proofs.Environments.{no-words, set-terms}

-- each expression that is evaluated in a run is over so many variables
abbrev OverRun : ℕ → Run → Type 0
OverRun m Run.Idle = Unit {0}
OverRun m (Run.Eval k why e v) = expr_over m e ≡ true
OverRun m (Run.Then a b) = OverRun m a × OverRun m b
OverRun m (Run.Choice k test chosen other inner) = OverRun m inner
OverRun m (Run.Mark mark inner) = OverRun m inner

-- ---- what is run of a statement over some variables

abbrev Overs : ℕ → Stmt → Type 0
Overs m s = stmt_over m s ≡ true → (k : ℕ) (f : Frame) → OverRun m (runs s k f)

branch-over : (m : ℕ) (v : Option ℤ) (a b : Run) → OverRun m a → OverRun m b → OverRun m (branch v a b)
branch-over m None a b p q = tt
branch-over m (Some n) a b p q = elim (is_zero n) as (λ z. OverRun m (if z then b else a)) [ true ↦ q | false ↦ p ]

follow-over : (m : ℕ) (ending : Option Ending) (f : Frame) (next : Frame → Run) → ((g : Frame) → OverRun m (next g)) → OverRun m (where_goes ending f next)
follow-over m None f next h = h f
follow-over m (Some how) f next h = tt

turn-over : (m : ℕ) (v : Option ℤ) (f : Frame) (next : Frame → Run) → ((g : Frame) → OverRun m (next g)) → OverRun m (turn_run v f next)
turn-over m v f next h = branch-over m v _ Run.Idle (elim (f.turns == 0) as (λ z. OverRun m (if z then Run.Idle else next (spend f))) [ true ↦ tt | false ↦ h (spend f) ]) tt

loop-over : (m k : ℕ) (test : Expr) (body : Frame → Step) (inner : Frame → Run) (more : ℕ) (f : Frame) → expr_over m test ≡ true → ((g : Frame) → OverRun m (inner g)) →
    OverRun m (loop_run k test body inner more f)
loop-over m k test body inner zero f o h = o
loop-over m k test body inner (suc more) f o h =
    let next : (g : Frame) → OverRun m (Run.Then (inner g) (follow (body g) (loop_run k test body inner more))) =
    λ g. (h g, follow-over m (body g).ending (body g).frame _ (λ q. loop-over m k test body inner more q o h)) in
    (o, turn-over m (value test f.state) f (λ g. Run.Then (inner g) (follow (body g) (loop_run k test body inner more))) next)

abbrev Stmts : ℕ → Type 0
Stmts m = List ((s : Stmt) × Overs m s)

abbrev stmts_of : (m : ℕ) → Stmts m → List Stmt
stmts_of m all = map (λ e. e.0) all

block-over : (m : ℕ) (all : Stmts m) (k : ℕ) (g : Frame) → all_true (map (λ s. stmt_over m s) (stmts_of m all)) ≡ true → OverRun m (in_turn_run (map (λ s. (s, runs s)) (stmts_of m all)) k g)
block-over m [] k g o = tt
block-over m (first ∷ rest) k g o = (
  first.1 (and-left _ _ o) k g,
  follow-over m (exec first.0 g).ending (exec first.0 g).frame _ (λ f. block-over m rest (k + stmt_count first.0) f (and-right (stmt_over m first.0) _ o)),
)

over-step : (m : ℕ) (z : Stmt-F ((s : Stmt) × Overs m s)) → Overs m (roll-Stmt (map-Stmt ((s : Stmt) × Overs m s) Stmt (λ e. e.0) z))
over-step m Stmt-F.Skip = λ o k g.
    rw (ap (λ (r : ℕ → Frame → Run). r k g) (para-roll-Stmt (ℕ → Frame → Run) node_runs Stmt-F.Skip)) tt
over-step m (Stmt-F.Set var it) = λ o k g.
    let over : (nat_lt var m && expr_over m it) ≡ true = sym (fold-roll-Stmt Bool (node_stmt_over m) (Stmt-F.Set var it)) ∙ o in
    rw (ap (λ (r : ℕ → Frame → Run). r k g) (para-roll-Stmt (ℕ → Frame → Run) node_runs (Stmt-F.Set var it))) (and-right (nat_lt var m) _ over)
over-step m (Stmt-F.If test chosen None) = λ o k g.
    let over : (expr_over m test && (stmt_over m chosen.0 && true)) ≡ true = sym (fold-roll-Stmt Bool (node_stmt_over m) (Stmt-F.If test chosen.0 None)) ∙ o in
    let rest = and-right (expr_over m test) _ over in
    rw (ap (λ (r : ℕ → Frame → Run). r k g) (para-roll-Stmt (ℕ → Frame → Run) node_runs (Stmt-F.If test chosen.0 None)))
    (and-left (expr_over m test) _ over, branch-over m (value test g.state) _ _ (chosen.1 (and-left (stmt_over m chosen.0) _ rest) (k + 1) g) tt)
over-step m (Stmt-F.If test chosen (Some other)) = λ o k g.
    let over : (expr_over m test && (stmt_over m chosen.0 && stmt_over m other.0)) ≡ true = sym (fold-roll-Stmt Bool (node_stmt_over m) (Stmt-F.If test chosen.0 (Some other.0))) ∙ o in
    let rest = and-right (expr_over m test) _ over in
    rw (ap (λ (r : ℕ → Frame → Run). r k g) (para-roll-Stmt (ℕ → Frame → Run) node_runs (Stmt-F.If test chosen.0 (Some other.0)))) (
      and-left (expr_over m test) _ over,
      branch-over m (value test g.state) _ _ (chosen.1 (and-left (stmt_over m chosen.0) _ rest) (k + 1) g) (other.1 (and-right (stmt_over m chosen.0) _ rest) (k + 1 + stmt_count chosen.0) g),
    )
over-step m (Stmt-F.While test body) = λ o k g.
    let over : (expr_over m test && stmt_over m body.0) ≡ true = sym (fold-roll-Stmt Bool (node_stmt_over m) (Stmt-F.While test body.0)) ∙ o in
    rw (ap (λ (r : ℕ → Frame → Run). r k g) (para-roll-Stmt (ℕ → Frame → Run) node_runs (Stmt-F.While test body.0)))
    (loop-over m k test (exec body.0) (runs body.0 (k + 1)) g.turns g (and-left (expr_over m test) _ over) (λ f. body.1 (and-right (expr_over m test) _ over) (k + 1) f))
over-step m (Stmt-F.Return it) = λ o k g.
    rw (ap (λ (r : ℕ → Frame → Run). r k g) (para-roll-Stmt (ℕ → Frame → Run) node_runs (Stmt-F.Return it))) (sym (fold-roll-Stmt Bool (node_stmt_over m) (Stmt-F.Return it)) ∙ o)
over-step m (Stmt-F.Out it) = λ o k g.
    rw (ap (λ (r : ℕ → Frame → Run). r k g) (para-roll-Stmt (ℕ → Frame → Run) node_runs (Stmt-F.Out it))) (sym (fold-roll-Stmt Bool (node_stmt_over m) (Stmt-F.Out it)) ∙ o)
over-step m (Stmt-F.Assert it) = λ o k g.
    rw (ap (λ (r : ℕ → Frame → Run). r k g) (para-roll-Stmt (ℕ → Frame → Run) node_runs (Stmt-F.Assert it))) (sym (fold-roll-Stmt Bool (node_stmt_over m) (Stmt-F.Assert it)) ∙ o)
over-step m (Stmt-F.Block all) = λ o k g.
    let over : all_true (map (λ s. stmt_over m s) (stmts_of m all)) ≡ true = sym (fold-roll-Stmt Bool (node_stmt_over m) (Stmt-F.Block (stmts_of m all))) ∙ o in
    rw (ap (λ (r : ℕ → Frame → Run). r k g) (para-roll-Stmt (ℕ → Frame → Run) node_runs (Stmt-F.Block (stmts_of m all)))) (block-over m all (k + 1) g over)
over-step m (Stmt-F.Marked mark body) = λ o k g.
    rw (ap (λ (r : ℕ → Frame → Run). r k g) (para-roll-Stmt (ℕ → Frame → Run) node_runs (Stmt-F.Marked mark body.0)))
    (body.1 (sym (fold-roll-Stmt Bool (node_stmt_over m) (Stmt-F.Marked mark body.0)) ∙ o) (k + 1) g)

is-over : (m : ℕ) (s : Stmt) → Overs m s
is-over m s = ind-Stmt (Overs m) (λ x z is. subst (λ c. Overs m (roll-Stmt c)) is (over-step m z)) s

each-over : (m : ℕ) → List Stmt → Stmts m
each-over m [] = []
each-over m (s ∷ all) = (s, is-over m s) ∷ each-over m all

each-is : (m : ℕ) (all : List Stmt) → stmts_of m (each-over m all) ≡ all
unfolding each-over
each-is m [] = refl
each-is m (s ∷ all) = ap (λ (l : List Stmt). s ∷ l) (each-is m all)

-- ---- terms along a run

all-append : (P : Term → Type 0) (ts us : List Term) → AllByRecursion P ts → AllByRecursion P us → AllByRecursion P (ts ++ us)
all-append P [] us h k = k
all-append P (t ∷ ts) us h k = (h.0, all-append P ts us h.1 k)

over : (n : ℕ) (env : List Term) (e : Expr) → AreTerms n env → expr_over (length env) e ≡ true → AreOver n (symbol e env)
over n env e t o = (symbol-said n [] no-words env t e o).over

record Left (n : ℕ) (env new : List Term) : Type 0 where
  size : length new ≡ length env
  terms : AreTerms n new

use-left : (n : ℕ) (why : Use) (e : Expr) (v : Option ℤ) (env : List Term) → expr_over (length env) e ≡ true → AreTerms n env → Left n env (after_use why e v env)
use-left n (Use.Sets w) e (Some k) env o t = record { size = length-set env w (symbol e env).term; terms = set-terms n env w (symbol e env).term t (over n env e t o).term }
use-left n (Use.Sets w) e None env o t = record { size = refl; terms = t }
use-left n Use.Puts e v env o t = record { size = refl; terms = t }
use-left n Use.Returns e v env o t = record { size = refl; terms = t }
use-left n Use.Asserts e v env o t = record { size = refl; terms = t }
use-left n Use.Tests e v env o t = record { size = refl; terms = t }

moved : (m k : ℕ) (run : Run) → k ≡ m → OverRun m run → OverRun k run
moved m k run e o = subst (λ (l : ℕ). OverRun l run) (sym e) o

run-left : (n : ℕ) (run : Run) (env : List Term) → OverRun (length env) run → AreTerms n env → Left n env (after run env)
run-left n Run.Idle env o t = record { size = refl; terms = t }
run-left n (Run.Eval k why e v) env o t = use-left n why e v env o t
run-left n (Run.Then a b) env o t =
    let one = run-left n a env o.0 t in
    let two = run-left n b (after a env) (moved (length env) _ b one.size o.1) one.terms in
    record { size = two.size ∙ one.size; terms = two.terms }
run-left n (Run.Choice k test chosen other inner) env o t = run-left n inner env o t
run-left n (Run.Mark mark inner) env o t = run-left n inner env o t

branch_condition-term : (n : ℕ) (k : ℤ) (t : Term) → IsTerm n t → IsTerm n (branch_condition k t)
branch_condition-term n k t h = elim (is_zero k) as (λ z. IsTerm n (if z then negation (truth_of t) else truth_of t)) [
  | true ↦ negation-term n (truth_of t) (truth-term n t h)
  | false ↦ truth-term n t h
]

literals-of : (n : ℕ) (why : Use) (e : Expr) (v : Option ℤ) (env : List Term) → AreOver n (symbol e env) → AllByRecursion (IsTerm n) (literals_of why e v env)
literals-of n why e None env s = (negation-term n (symbol e env).safe s.safe, tt)
literals-of n Use.Tests e (Some k) env s = (s.safe, (branch_condition-term n k (symbol e env).term s.term, tt))
literals-of n Use.Asserts e (Some k) env s = (s.safe, (branch_condition-term n k (symbol e env).term s.term, tt))
literals-of n (Use.Sets w) e (Some k) env s = (s.safe, tt)
literals-of n Use.Puts e (Some k) env s = (s.safe, tt)
literals-of n Use.Returns e (Some k) env s = (s.safe, tt)

outs-of : (n : ℕ) (why : Use) (e : Expr) (v : Option ℤ) (env : List Term) → AreOver n (symbol e env) → AllByRecursion (IsTerm n) (outs_of why e v env)
outs-of n Use.Puts e (Some k) env s = (s.term, tt)
outs-of n Use.Puts e None env s = tt
outs-of n Use.Returns e (Some k) env s = (s.term, tt)
outs-of n Use.Returns e None env s = tt
outs-of n (Use.Sets w) e v env s = tt
outs-of n Use.Asserts e v env s = tt
outs-of n Use.Tests e v env s = tt

where-kept : (n : ℕ) (z : Bool) (ts : List Term) → AllByRecursion (IsTerm n) ts → AllByRecursion (IsTerm n) (if z then ts else [])
where-kept n true ts h = h
where-kept n false ts h = tt

run-literals : (n : ℕ) (run : Run) (env : List Term) (needed : ℕ → Bool) → OverRun (length env) run → AreTerms n env → AllByRecursion (IsTerm n) (literals run env needed)
run-literals n Run.Idle env needed o t = tt
run-literals n (Run.Eval k why e v) env needed o t = where-kept n (keeps why e v needed) (literals_of why e v env) (literals-of n why e v env (over n env e t o))
run-literals n (Run.Then a b) env needed o t =
    let one = run-left n a env o.0 t in
    all-append (IsTerm n) (literals a env (choose b needed).needed) _ (run-literals n a env (choose b needed).needed o.0 t)
    (run-literals n b (after a env) needed (moved (length env) _ b one.size o.1) one.terms)
run-literals n (Run.Choice k test chosen other inner) env needed o t = where-kept n (matters test chosen other needed) (literals inner env needed) (run-literals n inner env needed o t)
run-literals n (Run.Mark mark inner) env needed o t = run-literals n inner env needed o t

run-outs : (n : ℕ) (run : Run) (env : List Term) → OverRun (length env) run → AreTerms n env → AllByRecursion (IsTerm n) (out_terms run env)
run-outs n Run.Idle env o t = tt
run-outs n (Run.Eval k why e v) env o t = outs-of n why e v env (over n env e t o)
run-outs n (Run.Then a b) env o t =
    let one = run-left n a env o.0 t in
    all-append (IsTerm n) (out_terms a env) _ (run-outs n a env o.0 t) (run-outs n b (after a env) (moved (length env) _ b one.size o.1) one.terms)
run-outs n (Run.Choice k test chosen other inner) env o t = run-outs n inner env o t
run-outs n (Run.Mark mark inner) env o t = run-outs n inner env o t

some-all : (n : ℕ) (p : Term → Bool) (ts : List Term) → AllByRecursion (IsTerm n) ts → AllByRecursion (IsTerm n) (filter p ts)
some-all n p [] h = tt
some-all n p (t ∷ ts) h = elim (p t) as (λ z. AllByRecursion (IsTerm n) (if z then t ∷ filter p ts else filter p ts)) [
  | true ↦ (h.0, some-all n p ts h.1)
  | false ↦ some-all n p ts h.1
]

ends : (n : ℕ) (how : Option Ending) → AllByRecursion (IsTerm n) (end_terms how)
ends n None = (num-term n (pos 0) refl, tt)
ends n (Some how) = tt

-- ---- a program's run

program-over : (p : Program) (turns : ℕ) (x : List ℤ) → OverRun (length (start_terms p)) (run_of p turns x)
program-over p turns x =
    let kept : IsProgram p.params p.names p.body = p.kept in
    let m = length (start_terms p) in
    let over : all_true (map (λ s. stmt_over m s) p.body) ≡ true = ap (λ (l : ℕ). all_true (map (λ s. stmt_over l s) p.body)) (start-length p kept.params_named) ∙ kept.own_variables in
    let same = each-is m p.body in
    let O : List Stmt → Type 0 = λ body. all_true (map (λ s. stmt_over m s) body) ≡ true in
    let R : List Stmt → Type 0 = λ body. OverRun m (in_turn_run (map (λ s. (s, runs s)) body) 0 (start p turns x)) in
    subst R same (block-over m (each-over m p.body) 0 (start p turns x) (subst O (sym same) over))

pub literals-are-terms : (p : Program) (turns : ℕ) (x : List ℤ) → AllByRecursion (IsTerm p.params) (slice p turns x).literals
literals-are-terms p turns x =
    some-all p.params says_something _ (run-literals p.params (run_of p turns x) (start_terms p) nothing (program-over p turns x) (start-over p))

pub outs-are-terms : (p : Program) (turns : ℕ) (x : List ℤ) → AllByRecursion (IsTerm p.params) (slice p turns x).outs
outs-are-terms p turns x =
    all-append (IsTerm p.params) (out_terms (run_of p turns x) (start_terms p)) _
    (run-outs p.params (run_of p turns x) (start_terms p) (program-over p turns x) (start-over p))
    (ends p.params (exec_all p.body (start p turns x)).ending)
