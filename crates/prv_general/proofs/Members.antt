-- The literals of a slice hold on the input that it is made from: there each variable has the value of its term all along the run.
use Rattle.std.proofs.Common.{◌≡◌, ℕ, zero, suc, ◌+◌, ◌==◌, Bool, true, false, ◌&&◌, not, List, [], ◌∷◌, length, Option, Some, None, ℤ, All, if◌then◌else◌, refl, sym, ap, ◌∙◌, subst, slice_set, map, nat_lt}
use Rattle.prv_model.specs.Words.{IsWord, is_zero, flag}
use Rattle.prv_model.specs.Expressions.{value}
use Rattle.prv_model.specs.Programs.{expr_over, stmt_over, node_stmt_over, all_true, stmt_count}
use Rattle.prv_model.specs.Statements.{Frame, Step, exec, node_exec, goes, ends, spend, assign, after_ending, on_word, loop, in_turn}
use Rattle.prv_model.specs.Terms.{IsTerm, term_value, holds}
use Rattle.prv_model.proofs.TermLemmas.{holds-append}
use Rattle.prv_model.specs.declared.expr.Expr.{Expr}
use Rattle.prv_model.specs.declared.outcome.Ending.{Ending}
use Rattle.prv_model.specs.declared.outcome.Ending.TheVariants.{Fault, Long}
use Rattle.prv_model.specs.declared.stmt.Stmt.{Stmt, roll-Stmt, map-Stmt}
use Rattle.prv_model.specs.declared.stmt.Stmt.TheOpen.{Stmt-F}
use Rattle.prv_model.specs.declared.stmt.Stmt.TheFolds.{fold-roll-Stmt, para-roll-Stmt, ind-Stmt}
use Rattle.prv_model.specs.declared.term.Term.{Term}
use Rattle.prv_pool.specs.Folding.{negation, truth as truth_of}
use Rattle.prv_pool.proofs.FoldLaws.{negation-value, truth-value, truth-term}
use Rattle.prv_dep.proofs.DependenceLaws.{and-left, and-right}
use Rattle.prv_run.specs.Runs.{Run, Use, runs, node_runs, loop_run, branch, follow, where_goes, in_turn_run}
use Rattle.prv_sym.specs.Symbols.{symbol, after, after_use}
use Rattle.prv_sym.specs.Judgements.{AreTerms, IsSaid, state_of, has_value}
use Rattle.prv_sym.proofs.SymbolLaws.{symbol-said}
use Rattle.prv_select.specs.Choices.{keeps, matters, choose}
use Rattle.prv_general.specs.Slices.{literals_of, literals}
use Rattle.prv_general.proofs.Environments.{is-after}
use Rattle.prv_general.proofs.Lockstep.{map-set}

-- a flag that is set is nonzero
flag-holds : (v : ℤ) → v ≡ flag true → not (is_zero v) ≡ true
flag-holds v e = ap (λ (z : ℤ). not (is_zero z)) e

both : (p q : Bool) → p ≡ true → q ≡ true → (p && q) ≡ true
both p q h k = rw (h, k) refl

branch_condition-holds : (n : ℕ) (x : List ℤ) (t : Term) (z : Bool) (a : ℤ) → All IsWord x → IsTerm n t → term_value t x ≡ a → is_zero a ≡ z →
    not (is_zero (term_value (if z then negation (truth_of t) else truth_of t) x)) ≡ true
branch_condition-holds n x t true a words term is none =
    let at : term_value (negation (truth_of t)) x ≡ flag true =
    negation-value n (truth_of t) x (truth-term n t term) words ∙ rw (truth-value n t x term words, is, none) refl in
    flag-holds _ at
branch_condition-holds n x t false a words term is some =
    let at : term_value (truth_of t) x ≡ flag true = truth-value n t x term words ∙ rw (is, some) refl in
    flag-holds _ at

-- the literals of an evaluation
eval-holds : (n : ℕ) (x : List ℤ) (words : All IsWord x) (why : Use) (e : Expr) (v : Option ℤ) (env : List Term) → IsSaid n x env e → v ≡ value e (state_of env x) →
    holds (literals_of why e v env) x ≡ true
eval-holds n x words why e None env said is =
    let at : term_value (negation (symbol e env).safe) x ≡ flag true =
    negation-value n (symbol e env).safe x said.over.safe words ∙ rw (said.judged.safe, sym is) refl in
    both _ _ (flag-holds _ at) refl
eval-holds n x words why e (Some a) env said is =
    let safe = flag-holds (term_value (symbol e env).safe x) (said.judged.safe ∙ ap (λ (o : Option ℤ). flag (has_value o)) (sym is)) in
    let decides = branch_condition-holds n x (symbol e env).term (is_zero a) a words said.over.term (said.judged.term a (sym is)) refl in
    elim why as (λ u. holds (literals_of u e (Some a) env) x ≡ true) [
      | Use.Sets var ↦ both _ _ safe refl
      | Use.Puts ↦ both _ _ safe refl
      | Use.Returns ↦ both _ _ safe refl
      | Use.Asserts ↦ both _ _ safe (both _ _ decides refl)
      | Use.Tests ↦ both _ _ safe (both _ _ decides refl)
    ]

kept-holds : (n : ℕ) (x : List ℤ) (words : All IsWord x) (k : ℕ) (why : Use) (e : Expr) (v : Option ℤ) (env : List Term) (needed : ℕ → Bool) → IsSaid n x env e → v ≡ value e (state_of env x) →
    holds (literals (Run.Eval k why e v) env needed) x ≡ true
kept-holds n x words k why e v env needed said is = elim (keeps why e v needed) as (λ z. holds (if z then literals_of why e v env else []) x ≡ true) [
  | true ↦ eval-holds n x words why e v env said is
  | false ↦ refl
]

-- a run whose literals hold, and which leaves each variable with the value of its term
pub record IsMember (x : List ℤ) (r : Run) (env : List Term) (needed : ℕ → Bool) (p : Step) : Type 0 where
  pub lits : holds (literals r env needed) x ≡ true
  pub state : p.frame.state ≡ state_of (after r env) x

set-state : (n : ℕ) (x : List ℤ) (var : ℕ) (e : Expr) (v : Option ℤ) (g : Frame) (env : List Term) → IsSaid n x env e → v ≡ value e (state_of env x) → g.state ≡ state_of env x →
    (on_word v g (λ m. goes (assign g var m))).frame.state ≡ state_of (after_use (Use.Sets var) e v env) x
set-state n x var e None g env said is s = s
set-state n x var e (Some a) g env said is s =
    (λ i. slice_set (s i) var (sym (said.judged.term a (sym is)) i)) ∙ sym (map-set x env var (symbol e env).term)

on-state : (v : Option ℤ) (g : Frame) (next : ℤ → Step) (s : List ℤ) → g.state ≡ s → ((m : ℤ) → (next m).frame.state ≡ s) → (on_word v g next).frame.state ≡ s
on-state None g next s e h = e
on-state (Some m) g next s e h = h m

if-state : (z : Bool) (p q : Step) (s : List ℤ) → p.frame.state ≡ s → q.frame.state ≡ s → (if z then p else q).frame.state ≡ s
if-state true p q s h k = h
if-state false p q s h k = k

seq-member : (x : List ℤ) (a : Run) (more : Frame → Run) (env : List Term) (needed : ℕ → Bool) (pe : Option Ending) (pf : Frame) (next : Frame → Step) →
    IsMember x a env (choose (where_goes pe pf more) needed).needed (record { frame = pf; ending = pe }) →
    (pf.state ≡ state_of (after a env) x → IsMember x (more pf) (after a env) needed (next pf)) →
    IsMember x (Run.Then a (where_goes pe pf more)) env needed (after_ending pe pf next)
seq-member x a more env needed None pf next one two =
    let rest = two one.state in
    record { lits = holds-append (literals a env (choose (more pf) needed).needed) (literals (more pf) (after a env) needed) x ∙ both _ _ one.lits rest.lits; state = rest.state }
seq-member x a more env needed (Some how) pf next one two =
    record { lits = holds-append (literals a env needed) [] x ∙ both _ _ one.lits refl; state = one.state }

-- a test, and what it leads to
test-member : (n : ℕ) (x : List ℤ) (words : All IsWord x) (num : ℕ) (test : Expr) (v : Option ℤ) (r : Run) (env : List Term) (needed : ℕ → Bool) (p : Step) → IsSaid n x env test → v ≡ value test (state_of env x) →
    IsMember x r env needed p → IsMember x (Run.Then (Run.Eval num Use.Tests test v) r) env needed p
test-member n x words num test None r env needed p said is m =
    record { lits = holds-append (literals_of Use.Tests test None env) (literals r env needed) x ∙ both _ _ (eval-holds n x words Use.Tests test None env said is) m.lits; state = m.state }
test-member n x words num test (Some a) r env needed p said is m =
    record { lits = holds-append (literals_of Use.Tests test (Some a) env) (literals r env needed) x ∙ both _ _ (eval-holds n x words Use.Tests test (Some a) env said is) m.lits; state = m.state }

branch-member : (n : ℕ) (x : List ℤ) (words : All IsWord x) (num : ℕ) (test : Expr) (v : Option ℤ) (a b : Run) (g : Frame) (env : List Term) (needed : ℕ → Bool) (pa pb : Step) → IsSaid n x env test → v ≡ value test (state_of env x) →
    g.state ≡ state_of env x → IsMember x a env needed pa → IsMember x b env needed pb →
    IsMember x (Run.Then (Run.Eval num Use.Tests test v) (branch v a b)) env needed (on_word v g (λ m. if is_zero m then pb else pa))
branch-member n x words num test None a b g env needed pa pb said is s ma mb =
    test-member n x words num test None Run.Idle env needed (ends g Fault) said is (record { lits = refl; state = s })
branch-member n x words num test (Some c) a b g env needed pa pb said is s ma mb =
    elim (is_zero c) as (λ z. IsMember x (Run.Then (Run.Eval num Use.Tests test (Some c)) (if z then b else a)) env needed (if z then pb else pa)) [
      | true ↦ test-member n x words num test (Some c) b env needed pb said is mb
      | false ↦ test-member n x words num test (Some c) a env needed pa said is ma
    ]

abbrev pub Members : ℕ → List ℤ → Stmt → Type 0
Members n x s = (k : ℕ) (g : Frame) (env : List Term) (needed : ℕ → Bool) → stmt_over (length env) s ≡ true → AreTerms n env → g.state ≡ state_of env x → IsMember x (runs s k g) env needed (exec s g)

loop-member : (n : ℕ) (x : List ℤ) (words : All IsWord x) (k : ℕ) (test : Expr) (body : Stmt) → Members n x body → (turns : ℕ) (g : Frame) (env : List Term) (needed : ℕ → Bool) →
    expr_over (length env) test ≡ true → stmt_over (length env) body ≡ true → AreTerms n env → g.state ≡ state_of env x →
    IsMember x (loop_run k test (exec body) (runs body (k + 1)) turns g) env needed (loop test (exec body) turns g)
loop-member n x words k test body member zero g env needed ot ob t s =
    let said = symbol-said n x words env t test ot in
    let is = ap (λ (l : List ℤ). value test l) s in
    record {
      lits = kept-holds n x words k Use.Tests test (value test g.state) env needed said is;
      state = on-state (value test g.state) g _ _ s (λ m. if-state (is_zero m) _ _ _ s (if-state (g.turns == 0) _ _ _ s s)) ∙ ap (λ (l : List Term). state_of l x) (same (value test g.state));
    }
  where
    same : (v : Option ℤ) → env ≡ after_use Use.Tests test v env
    same None = refl
    same (Some m) = refl
loop-member n x words k test body member (suc more) g env needed ot ob t s =
    let next : Frame → Run = loop_run k test (exec body) (runs body (k + 1)) more in
    let a = runs body (k + 1) (spend g) in
    let p = exec body (spend g) in
    let grown = is-after n body (k + 1) (spend g) env ob t in
    let said = symbol-said n x words env t test ot in
    let inner : IsMember x (Run.Then a (follow p next)) env needed (after_ending p.ending p.frame (loop test (exec body) more)) =
    seq-member x a next env needed p.ending p.frame (loop test (exec body) more)
    (let one = member (k + 1) (spend g) env (choose (follow p next) needed).needed ob t s in record { lits = one.lits; state = one.state })
    (λ st. loop-member n x words k test body member more p.frame (after a env) needed
    (ap (λ (l : ℕ). expr_over l test) grown.size ∙ ot) (ap (λ (l : ℕ). stmt_over l body) grown.size ∙ ob) grown.terms st) in
    branch-member n x words k test (value test g.state) (if g.turns == 0 then Run.Idle else Run.Then a (follow p next)) Run.Idle g env needed _ _ said (ap (λ (l : List ℤ). value test l) s) s
    (elim (g.turns == 0) as (λ z. IsMember x (if z then Run.Idle else Run.Then a (follow p next)) env needed (if z then ends g Long else after_ending p.ending p.frame (loop test (exec body) more))) [
      | true ↦ record { lits = refl; state = s }
      | false ↦ inner
    ])
    (record { lits = refl; state = s })

abbrev Stmts : ℕ → List ℤ → Type 0
Stmts n x = List ((s : Stmt) × Members n x s)

abbrev stmts_of : (n : ℕ) (x : List ℤ) → Stmts n x → List Stmt
stmts_of n x all = map (λ e. e.0) all

pub block-member : (n : ℕ) (x : List ℤ) (all : Stmts n x) (k : ℕ) (g : Frame) (env : List Term) (needed : ℕ → Bool) →
    all_true (map (λ s. stmt_over (length env) s) (stmts_of n x all)) ≡ true → AreTerms n env → g.state ≡ state_of env x →
    IsMember x (in_turn_run (map (λ s. (s, runs s)) (stmts_of n x all)) k g) env needed (in_turn (map (λ s. exec s) (stmts_of n x all)) g)
block-member n x [] k g env needed o t s = record { lits = refl; state = s }
block-member n x (first ∷ rest) k g env needed o t s =
    let next : Frame → Run = in_turn_run (map (λ s. (s, runs s)) (stmts_of n x rest)) (k + stmt_count first.0) in
    let a = runs first.0 k g in
    let p = exec first.0 g in
    let of = and-left (stmt_over (length env) first.0) _ o in
    let grown = is-after n first.0 k g env of t in
    let over : all_true (map (λ s. stmt_over (length (after a env)) s) (stmts_of n x rest)) ≡ true = rw grown.size (and-right (stmt_over (length env) first.0) _ o) in
    let one = first.1 k g env (choose (follow p next) needed).needed of t s in
    seq-member x a next env needed p.ending p.frame (in_turn (map (λ s. exec s) (stmts_of n x rest)))
    (record { lits = one.lits; state = one.state })
    (λ st. block-member n x rest (k + stmt_count first.0) p.frame (after a env) needed over grown.terms st)

choice-member : (x : List ℤ) (k : ℕ) (test : Expr) (chosen : Stmt) (other : Option Stmt) (inner : Run) (env : List Term) (needed : ℕ → Bool) (p : Step) →
    IsMember x inner env needed p → IsMember x (Run.Choice k test chosen other inner) env needed p
choice-member x k test chosen other inner env needed p m = record {
  lits = elim (matters test chosen other needed) as (λ z. holds (if z then literals inner env needed else []) x ≡ true) [ true ↦ m.lits | false ↦ refl ];
  state = m.state;
}

member-step : (n : ℕ) (x : List ℤ) (words : All IsWord x) (z : Stmt-F ((s : Stmt) × Members n x s)) → Members n x (roll-Stmt (map-Stmt ((s : Stmt) × Members n x s) Stmt (λ e. e.0) z))
member-step n x words Stmt-F.Skip = λ k g env needed o t s.
    let r = ap (λ (r : ℕ → Frame → Run). r k g) (para-roll-Stmt (ℕ → Frame → Run) node_runs Stmt-F.Skip) in
    let e = fold-roll-Stmt (Frame → Step) node_exec Stmt-F.Skip in
    rw (r, e) (record { lits = refl; state = s })
member-step n x words (Stmt-F.Set var it) = λ k g env needed o t s.
    let r = ap (λ (r : ℕ → Frame → Run). r k g) (para-roll-Stmt (ℕ → Frame → Run) node_runs (Stmt-F.Set var it)) in
    let e = fold-roll-Stmt (Frame → Step) node_exec (Stmt-F.Set var it) in
    let over : (nat_lt var (length env) && expr_over (length env) it) ≡ true = sym (fold-roll-Stmt Bool (node_stmt_over (length env)) (Stmt-F.Set var it)) ∙ o in
    let said = symbol-said n x words env t it (and-right (nat_lt var (length env)) _ over) in
    let is = ap (λ (l : List ℤ). value it l) s in
    rw (r, e) (record { lits = kept-holds n x words k (Use.Sets var) it (value it g.state) env needed said is; state = set-state n x var it (value it g.state) g env said is s })
member-step n x words (Stmt-F.If test chosen None) = λ k g env needed o t s.
    let r = ap (λ (r : ℕ → Frame → Run). r k g) (para-roll-Stmt (ℕ → Frame → Run) node_runs (Stmt-F.If test chosen.0 None)) in
    let e = fold-roll-Stmt (Frame → Step) node_exec (Stmt-F.If test chosen.0 None) in
    let over : (expr_over (length env) test && (stmt_over (length env) chosen.0 && true)) ≡ true = sym (fold-roll-Stmt Bool (node_stmt_over (length env)) (Stmt-F.If test chosen.0 None)) ∙ o in
    let rest : (stmt_over (length env) chosen.0 && true) ≡ true = and-right (expr_over (length env) test) _ over in
    let said = symbol-said n x words env t test (and-left (expr_over (length env) test) _ over) in
    rw (r, e) (choice-member x k test chosen.0 None _ env needed _
    (branch-member n x words k test (value test g.state) (runs chosen.0 (k + 1) g) Run.Idle g env needed _ _ said (ap (λ (l : List ℤ). value test l) s) s
    (chosen.1 (k + 1) g env needed (and-left (stmt_over (length env) chosen.0) _ rest) t s)
    (record { lits = refl; state = s })))
member-step n x words (Stmt-F.If test chosen (Some other)) = λ k g env needed o t s.
    let r = ap (λ (r : ℕ → Frame → Run). r k g) (para-roll-Stmt (ℕ → Frame → Run) node_runs (Stmt-F.If test chosen.0 (Some other.0))) in
    let e = fold-roll-Stmt (Frame → Step) node_exec (Stmt-F.If test chosen.0 (Some other.0)) in
    let over : (expr_over (length env) test && (stmt_over (length env) chosen.0 && stmt_over (length env) other.0)) ≡ true = sym (fold-roll-Stmt Bool (node_stmt_over (length env)) (Stmt-F.If test chosen.0 (Some other.0))) ∙ o in
    let rest : (stmt_over (length env) chosen.0 && stmt_over (length env) other.0) ≡ true = and-right (expr_over (length env) test) _ over in
    let said = symbol-said n x words env t test (and-left (expr_over (length env) test) _ over) in
    rw (r, e) (choice-member x k test chosen.0 (Some other.0) _ env needed _
    (branch-member n x words k test (value test g.state) (runs chosen.0 (k + 1) g) (runs other.0 (k + 1 + stmt_count chosen.0) g) g env needed _ _ said (ap (λ (l : List ℤ). value test l) s) s
    (chosen.1 (k + 1) g env needed (and-left (stmt_over (length env) chosen.0) _ rest) t s)
    (other.1 (k + 1 + stmt_count chosen.0) g env needed (and-right (stmt_over (length env) chosen.0) _ rest) t s)))
member-step n x words (Stmt-F.While test body) = λ k g env needed o t s.
    let r = ap (λ (r : ℕ → Frame → Run). r k g) (para-roll-Stmt (ℕ → Frame → Run) node_runs (Stmt-F.While test body.0)) in
    let e = fold-roll-Stmt (Frame → Step) node_exec (Stmt-F.While test body.0) in
    let over : (expr_over (length env) test && stmt_over (length env) body.0) ≡ true = sym (fold-roll-Stmt Bool (node_stmt_over (length env)) (Stmt-F.While test body.0)) ∙ o in
    rw (r, e) (loop-member n x words k test body.0 body.1 g.turns g env needed (and-left (expr_over (length env) test) _ over) (and-right (expr_over (length env) test) _ over) t s)
member-step n x words (Stmt-F.Return it) = λ k g env needed o t s.
    let r = ap (λ (r : ℕ → Frame → Run). r k g) (para-roll-Stmt (ℕ → Frame → Run) node_runs (Stmt-F.Return it)) in
    let e = fold-roll-Stmt (Frame → Step) node_exec (Stmt-F.Return it) in
    let said = symbol-said n x words env t it (sym (fold-roll-Stmt Bool (node_stmt_over (length env)) (Stmt-F.Return it)) ∙ o) in
    rw (r, e) (record { lits = kept-holds n x words k Use.Returns it (value it g.state) env needed said (ap (λ (l : List ℤ). value it l) s); state = on-state (value it g.state) g _ _ s (λ m. s) })
member-step n x words (Stmt-F.Out it) = λ k g env needed o t s.
    let r = ap (λ (r : ℕ → Frame → Run). r k g) (para-roll-Stmt (ℕ → Frame → Run) node_runs (Stmt-F.Out it)) in
    let e = fold-roll-Stmt (Frame → Step) node_exec (Stmt-F.Out it) in
    let said = symbol-said n x words env t it (sym (fold-roll-Stmt Bool (node_stmt_over (length env)) (Stmt-F.Out it)) ∙ o) in
    rw (r, e) (record { lits = kept-holds n x words k Use.Puts it (value it g.state) env needed said (ap (λ (l : List ℤ). value it l) s); state = on-state (value it g.state) g _ _ s (λ m. s) })
member-step n x words (Stmt-F.Assert it) = λ k g env needed o t s.
    let r = ap (λ (r : ℕ → Frame → Run). r k g) (para-roll-Stmt (ℕ → Frame → Run) node_runs (Stmt-F.Assert it)) in
    let e = fold-roll-Stmt (Frame → Step) node_exec (Stmt-F.Assert it) in
    let said = symbol-said n x words env t it (sym (fold-roll-Stmt Bool (node_stmt_over (length env)) (Stmt-F.Assert it)) ∙ o) in
    rw (r, e) (record { lits = kept-holds n x words k Use.Asserts it (value it g.state) env needed said (ap (λ (l : List ℤ). value it l) s); state = on-state (value it g.state) g _ _ s (λ m. if-state (is_zero m) _ _ _ s s) })
member-step n x words (Stmt-F.Block all) = λ k g env needed o t s.
    let r = ap (λ (r : ℕ → Frame → Run). r k g) (para-roll-Stmt (ℕ → Frame → Run) node_runs (Stmt-F.Block (stmts_of n x all))) in
    let e = fold-roll-Stmt (Frame → Step) node_exec (Stmt-F.Block (stmts_of n x all)) in
    let over : all_true (map (λ s. stmt_over (length env) s) (stmts_of n x all)) ≡ true = sym (fold-roll-Stmt Bool (node_stmt_over (length env)) (Stmt-F.Block (stmts_of n x all))) ∙ o in
    rw (r, e) (block-member n x all (k + 1) g env needed over t s)
member-step n x words (Stmt-F.Marked mark body) = λ k g env needed o t s.
    let r = ap (λ (r : ℕ → Frame → Run). r k g) (para-roll-Stmt (ℕ → Frame → Run) node_runs (Stmt-F.Marked mark body.0)) in
    let e = fold-roll-Stmt (Frame → Step) node_exec (Stmt-F.Marked mark body.0) in
    let over = sym (fold-roll-Stmt Bool (node_stmt_over (length env)) (Stmt-F.Marked mark body.0)) ∙ o in
    let m = body.1 (k + 1) g env needed over t s in
    rw (r, e) (record { lits = m.lits; state = m.state })

pub is-member : (n : ℕ) (x : List ℤ) → All IsWord x → (s : Stmt) → Members n x s
is-member n x words s = ind-Stmt (Members n x) (λ z y is. subst (λ c. Members n x (roll-Stmt c)) is (member-step n x words y)) s
