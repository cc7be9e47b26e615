-- A run changes the terms of those variables alone that its statement may write, and leaves terms over the parameters.
use Rattle.std.proofs.Common.{◌≡◌, ℕ, zero, suc, ◌+◌, ◌==◌, Bool, true, false, ◌&&◌, List, [], ◌∷◌, ◌++◌, length, Option, Some, None, ℤ, pos, All, if◌then◌else◌, refl, sym, ap, ◌∙◌, subst, arith, slice_get, slice_set, map, nat_lt, nat_eq, unwrap_or}
use Rattle.std.specs.List.{flat_map}
use Rattle.std.proofs.lemmas.List.{length-set}
use Rattle.prv_model.specs.Words.{IsWord, is_zero}
use Rattle.prv_model.specs.Expressions.{value}
use Rattle.prv_model.specs.Programs.{expr_over, stmt_over, node_stmt_over, all_true, stmt_count}
use Rattle.prv_model.specs.Statements.{Frame, exec, spend}
use Rattle.prv_model.specs.Terms.{IsTerm}
use Rattle.prv_model.specs.declared.expr.Expr.{Expr}
use Rattle.prv_model.specs.declared.outcome.Ending.{Ending}
use Rattle.prv_model.specs.declared.stmt.Stmt.{Stmt, roll-Stmt, map-Stmt}
use Rattle.prv_model.specs.declared.stmt.Stmt.TheOpen.{Stmt-F}
use Rattle.prv_model.specs.declared.stmt.Stmt.TheFolds.{fold-roll-Stmt, para-roll-Stmt, ind-Stmt}
use Rattle.prv_model.specs.declared.term.Term.{Term}
use Rattle.prv_model.specs.declared.term.Term.TheVariants.{Num}
use Rattle.prv_dep.specs.Dependences.{has, writes, node_writes}
use Rattle.prv_dep.proofs.DependenceLaws.{and-left, and-right, neither-left, lacks-left, lacks-right}
use Rattle.prv_run.specs.Runs.{Run, Use, runs, node_runs, loop_run, turn_run, branch, follow, where_goes, in_turn_run}
use Rattle.prv_sym.specs.Symbols.{symbol, after, after_use}
use Rattle.prv_sym.specs.Judgements.{AreTerms}
use Rattle.prv_sym.proofs.SymbolLaws.{symbol-said}

-- the variables' terms, where only those of these variables may have changed
pub record IsAfter (n : ℕ) (written : List ℕ) (env new : List Term) : Type 0 where
  pub size : length new ≡ length env
  pub terms : AreTerms n new
  pub others : (v : ℕ) → has written v ≡ false → slice_get new v ≡ slice_get env v

unchanged : (n : ℕ) (written : List ℕ) (env : List Term) → AreTerms n env → IsAfter n written env env
unchanged n written env t = record { size = refl; terms = t; others = λ v e. refl }

after-less : (n : ℕ) (few more : List ℕ) (env new : List Term) → ((v : ℕ) → has more v ≡ false → has few v ≡ false) → IsAfter n few env new → IsAfter n more env new
after-less n few more env new h a = record { size = a.size; terms = a.terms; others = λ v e. a.others v (h v e) }

after-then : (n : ℕ) (first rest : List ℕ) (env mid new : List Term) → IsAfter n first env mid → IsAfter n rest mid new → IsAfter n (first ++ rest) env new
after-then n first rest env mid new a b = record {
  size = b.size ∙ a.size;
  terms = b.terms;
  others = λ v e. b.others v (lacks-right first rest v e) ∙ a.others v (lacks-left first rest v e);
}

after-again : (n : ℕ) (written : List ℕ) (env mid new : List Term) → IsAfter n written env mid → IsAfter n written mid new → IsAfter n written env new
after-again n written env mid new a b = record { size = b.size ∙ a.size; terms = b.terms; others = λ v e. b.others v e ∙ a.others v e }

pub no-words : All IsWord []
no-words k d below = absurd (omega (arith, below))

set-other : (env : List Term) (w v : ℕ) (t : Term) → nat_eq v w ≡ false → slice_get (slice_set env w t) v ≡ slice_get env v
set-other [] w v t e = refl
set-other (x ∷ env) zero zero t e = cc
set-other (x ∷ env) zero (suc v) t e = refl
set-other (x ∷ env) (suc w) zero t e = refl
set-other (x ∷ env) (suc w) (suc v) t e = set-other env w v t (grind (arith, e))

pub set-terms : (n : ℕ) (env : List Term) (w : ℕ) (t : Term) → AreTerms n env → IsTerm n t → AreTerms n (slice_set env w t)
set-terms n [] w t h k = h
set-terms n (x ∷ env) zero t h k = λ v. elim v as (λ u. IsTerm n (unwrap_or (slice_get (t ∷ env) u) (Num (pos 0)))) [ zero ↦ k | suc u ↦ h (suc u) ]
set-terms n (x ∷ env) (suc w) t h k = λ v. elim v as (λ u. IsTerm n (unwrap_or (slice_get (x ∷ slice_set env w t) u) (Num (pos 0)))) [
  | zero ↦ h zero
  | suc u ↦ set-terms n env w t (λ i. h (suc i)) k u
]

set-after : (n k var : ℕ) (e : Expr) (v : Option ℤ) (env : List Term) → AreTerms n env → expr_over (length env) e ≡ true →
    IsAfter n (var ∷ []) env (after_use (Use.Sets var) e v env)
set-after n k var e None env t o = unchanged n (var ∷ []) env t
set-after n k var e (Some m) env t o = record {
  size = length-set env var (symbol e env).term;
  terms = set-terms n env var (symbol e env).term t ((symbol-said n [] no-words env t e o).over).term;
  others = λ v h. set-other env var v (symbol e env).term (neither-left _ _ h);
}

abbrev Afters : ℕ → Stmt → Type 0
Afters n s = (k : ℕ) (g : Frame) (env : List Term) → stmt_over (length env) s ≡ true → AreTerms n env → IsAfter n (writes s) env (after (runs s k g) env)

branch-after : (n : ℕ) (a b : List ℕ) (v : Option ℤ) (p q : Run) (env : List Term) → AreTerms n env → IsAfter n a env (after p env) → IsAfter n b env (after q env) →
    IsAfter n (a ++ b) env (after (branch v p q) env)
branch-after n a b None p q env t h k = unchanged n (a ++ b) env t
branch-after n a b (Some m) p q env t h k = elim (is_zero m) as (λ z. IsAfter n (a ++ b) env (after (if z then q else p) env)) [
  | true ↦ after-less n b (a ++ b) env (after q env) (λ v e. lacks-right a b v e) k
  | false ↦ after-less n a (a ++ b) env (after p env) (λ v e. lacks-left a b v e) h
]

follow-after : (n : ℕ) (written : List ℕ) (ending : Option Ending) (f : Frame) (next : Frame → Run) (env : List Term) → AreTerms n env →
    ((g : Frame) → IsAfter n written env (after (next g) env)) → IsAfter n written env (after (where_goes ending f next) env)
follow-after n written None f next env t h = h f
follow-after n written (Some how) f next env t h = unchanged n written env t

turn-after : (n : ℕ) (written : List ℕ) (v : Option ℤ) (f : Frame) (next : Frame → Run) (env : List Term) → AreTerms n env →
    ((g : Frame) → IsAfter n written env (after (next g) env)) → IsAfter n written env (after (turn_run v f next) env)
turn-after n written None f next env t h = unchanged n written env t
turn-after n written (Some m) f next env t h = elim (is_zero m) as (λ z. IsAfter n written env (after (if z then Run.Idle else (if f.turns == 0 then Run.Idle else next (spend f))) env)) [
  | true ↦ unchanged n written env t
  | false ↦ elim (f.turns == 0) as (λ z. IsAfter n written env (after (if z then Run.Idle else next (spend f)) env)) [
    | true ↦ unchanged n written env t
    | false ↦ h (spend f)
  ]
]

loop-after : (n k : ℕ) (test : Expr) (body : Stmt) → Afters n body → (turns : ℕ) (f : Frame) (env : List Term) → stmt_over (length env) body ≡ true → AreTerms n env →
    IsAfter n (writes body) env (after (loop_run k test (exec body) (runs body (k + 1)) turns f) env)
loop-after n k test body h zero f env o t = unchanged n (writes body) env t
loop-after n k test body h (suc more) f env o t =
    turn-after n (writes body) (value test f.state) f (λ g. Run.Then (runs body (k + 1) g) (follow (exec body g) (loop_run k test (exec body) (runs body (k + 1)) more))) env t
    (λ g.
    let one = h (k + 1) g env o t in
    let mid = after (runs body (k + 1) g) env in
    after-again n (writes body) env mid _ one
    (follow-after n (writes body) (exec body g).ending (exec body g).frame _ mid one.terms
    (λ f2. loop-after n k test body h more f2 mid (ap (λ (m : ℕ). stmt_over m body) one.size ∙ o) one.terms)))

abbrev Stmts : ℕ → Type 0
Stmts n = List ((s : Stmt) × Afters n s)

abbrev stmts_of : (n : ℕ) → Stmts n → List Stmt
stmts_of n all = map (λ e. e.0) all

block-after : (n : ℕ) (all : Stmts n) (k : ℕ) (g : Frame) (env : List Term) → all_true (map (λ s. stmt_over (length env) s) (stmts_of n all)) ≡ true → AreTerms n env →
    IsAfter n (flat_map (λ each. each) (map (λ s. writes s) (stmts_of n all))) env (after (in_turn_run (map (λ s. (s, runs s)) (stmts_of n all)) k g) env)
block-after n [] k g env o t = unchanged n [] env t
block-after n (first ∷ rest) k g env o t =
    let one = first.1 k g env (and-left _ _ o) t in
    let mid = after (runs first.0 k g) env in
    let over : all_true (map (λ s. stmt_over (length mid) s) (stmts_of n rest)) ≡ true = rw one.size (and-right (stmt_over (length env) first.0) _ o) in
    after-then n (writes first.0) _ env mid _ one
    (follow-after n _ (exec first.0 g).ending (exec first.0 g).frame _ mid one.terms
    (λ f2. block-after n rest (k + stmt_count first.0) f2 mid over one.terms))

after-step : (n : ℕ) (z : Stmt-F ((s : Stmt) × Afters n s)) → Afters n (roll-Stmt (map-Stmt ((s : Stmt) × Afters n s) Stmt (λ e. e.0) z))
after-step n Stmt-F.Skip = λ k g env o t.
    let x = ap (λ (r : ℕ → Frame → Run). r k g) (para-roll-Stmt (ℕ → Frame → Run) node_runs Stmt-F.Skip) in
    rw x (unchanged n _ env t)
after-step n (Stmt-F.Set var it) = λ k g env o t.
    let x = ap (λ (r : ℕ → Frame → Run). r k g) (para-roll-Stmt (ℕ → Frame → Run) node_runs (Stmt-F.Set var it)) in
    let w = fold-roll-Stmt (List ℕ) node_writes (Stmt-F.Set var it) in
    let over : (nat_lt var (length env) && expr_over (length env) it) ≡ true = sym (fold-roll-Stmt Bool (node_stmt_over (length env)) (Stmt-F.Set var it)) ∙ o in
    rw (x, w) (set-after n k var it (value it g.state) env t (and-right (nat_lt var (length env)) _ over))
after-step n (Stmt-F.If test chosen None) = λ k g env o t.
    let x = ap (λ (r : ℕ → Frame → Run). r k g) (para-roll-Stmt (ℕ → Frame → Run) node_runs (Stmt-F.If test chosen.0 None)) in
    let w = fold-roll-Stmt (List ℕ) node_writes (Stmt-F.If test chosen.0 None) in
    let over : (expr_over (length env) test && (stmt_over (length env) chosen.0 && true)) ≡ true = sym (fold-roll-Stmt Bool (node_stmt_over (length env)) (Stmt-F.If test chosen.0 None)) ∙ o in
    let rest = and-right (expr_over (length env) test) _ over in
    rw (x, w) (branch-after n (writes chosen.0) [] (value test g.state) _ _ env t (chosen.1 (k + 1) g env (and-left (stmt_over (length env) chosen.0) _ rest) t) (unchanged n [] env t))
after-step n (Stmt-F.If test chosen (Some other)) = λ k g env o t.
    let x = ap (λ (r : ℕ → Frame → Run). r k g) (para-roll-Stmt (ℕ → Frame → Run) node_runs (Stmt-F.If test chosen.0 (Some other.0))) in
    let w = fold-roll-Stmt (List ℕ) node_writes (Stmt-F.If test chosen.0 (Some other.0)) in
    let over : (expr_over (length env) test && (stmt_over (length env) chosen.0 && stmt_over (length env) other.0)) ≡ true = sym (fold-roll-Stmt Bool (node_stmt_over (length env)) (Stmt-F.If test chosen.0 (Some other.0))) ∙ o in
    let rest = and-right (expr_over (length env) test) _ over in
    rw (x, w) (branch-after n (writes chosen.0) (writes other.0) (value test g.state) _ _ env t
    (chosen.1 (k + 1) g env (and-left (stmt_over (length env) chosen.0) _ rest) t)
    (other.1 (k + 1 + stmt_count chosen.0) g env (and-right (stmt_over (length env) chosen.0) _ rest) t))
after-step n (Stmt-F.While test body) = λ k g env o t.
    let x = ap (λ (r : ℕ → Frame → Run). r k g) (para-roll-Stmt (ℕ → Frame → Run) node_runs (Stmt-F.While test body.0)) in
    let w = fold-roll-Stmt (List ℕ) node_writes (Stmt-F.While test body.0) in
    let over : (expr_over (length env) test && stmt_over (length env) body.0) ≡ true = sym (fold-roll-Stmt Bool (node_stmt_over (length env)) (Stmt-F.While test body.0)) ∙ o in
    rw (x, w) (loop-after n k test body.0 body.1 g.turns g env (and-right (expr_over (length env) test) _ over) t)
after-step n (Stmt-F.Return it) = λ k g env o t.
    let x = ap (λ (r : ℕ → Frame → Run). r k g) (para-roll-Stmt (ℕ → Frame → Run) node_runs (Stmt-F.Return it)) in
    rw x (unchanged n _ env t)
after-step n (Stmt-F.Out it) = λ k g env o t.
    let x = ap (λ (r : ℕ → Frame → Run). r k g) (para-roll-Stmt (ℕ → Frame → Run) node_runs (Stmt-F.Out it)) in
    rw x (unchanged n _ env t)
after-step n (Stmt-F.Assert it) = λ k g env o t.
    let x = ap (λ (r : ℕ → Frame → Run). r k g) (para-roll-Stmt (ℕ → Frame → Run) node_runs (Stmt-F.Assert it)) in
    rw x (unchanged n _ env t)
after-step n (Stmt-F.Block all) = λ k g env o t.
    let x = ap (λ (r : ℕ → Frame → Run). r k g) (para-roll-Stmt (ℕ → Frame → Run) node_runs (Stmt-F.Block (stmts_of n all))) in
    let w = fold-roll-Stmt (List ℕ) node_writes (Stmt-F.Block (stmts_of n all)) in
    let over : all_true (map (λ s. stmt_over (length env) s) (stmts_of n all)) ≡ true = sym (fold-roll-Stmt Bool (node_stmt_over (length env)) (Stmt-F.Block (stmts_of n all))) ∙ o in
    rw (x, w) (block-after n all (k + 1) g env over t)
after-step n (Stmt-F.Marked mark body) = λ k g env o t.
    let x = ap (λ (r : ℕ → Frame → Run). r k g) (para-roll-Stmt (ℕ → Frame → Run) node_runs (Stmt-F.Marked mark body.0)) in
    let w = fold-roll-Stmt (List ℕ) node_writes (Stmt-F.Marked mark body.0) in
    let over = sym (fold-roll-Stmt Bool (node_stmt_over (length env)) (Stmt-F.Marked mark body.0)) ∙ o in
    rw (x, w) (body.1 (k + 1) g env over t)

pub is-after : (n : ℕ) (s : Stmt) → Afters n s
is-after n s = ind-Stmt (Afters n) (λ x z is. subst (λ c. Afters n (roll-Stmt c)) is (after-step n z)) s
