-- The rows of a program's dependences are of what its runs evaluate.
use Rattle.std.proofs.Common.{◌≡◌, ℕ, Bool, ◌||◌, not, nat_eq, List, Option, Some, None, sym, ap, ◌∙◌, subst, slice_get, unwrap_or, bit_and}
use Rattle.std.specs.Option.{option_map}
use Rattle.prv_model.specs.Numbers.{statements_all}
use Rattle.prv_model.specs.declared.expr.Expr.{Expr}
use Rattle.prv_model.specs.declared.program.Program.{Program}
use Rattle.prv_model.specs.declared.stmt.Stmt.{Stmt, roll-Stmt, map-Stmt, out-Stmt, roll-out-Stmt}
use Rattle.prv_model.specs.declared.stmt.Stmt.TheOpen.{Stmt-F}
use Rattle.prv_model.specs.declared.stmt.Stmt.TheFolds.{fold-roll-Stmt}
use Rattle.prv_model.specs.declared.stmt.Stmt.TheVariants.{Skip, If, rolls-If}
use Rattle.prv_dep.specs.Dependences.{vars, may_fault, may_leave, node_may_leave, writes, node_writes, overwrites, node_overwrites, branch_any}
use Rattle.prv_dep.specs.Tables.{mask, reads, node_reads, row, row_at, dependences}
use Rattle.prv_dep.specs.declared.writes.Row.{Row}
use Rattle.prv_dep.proofs.MaskLaws.{mask-one}
use Rattle.prv_dep.proofs.RowLaws.{row-of}
use Rattle.prv_run.specs.Runs.{Run, Use, Idle, Eval, Then, Choice, Mark, Sets, Puts, Returns, Asserts, Tests}
use Rattle.prv_run.proofs.Fitting.{node_own, own, Fits}
use Rattle.prv_select.specs.BackwardWalks.{is_relevant}
use Rattle.prv_select.proofs.Masks.{some-needed}
use Rattle.prv_select.proofs.Lying.{branch_writes}
use Rattle.prv_select.proofs.Walking.{SetsRow, IsOfEval, IsOfChoice, Rows}

own-as : (s : Stmt) (d : Stmt-F Stmt) → roll-Stmt d ≡ s → own s ≡ node_own (map-Stmt Stmt (Option (Use × Expr)) (λ y. own y) d)
own-as s d is = ap (λ (x : Stmt). own x) (sym is) ∙ fold-roll-Stmt (Option (Use × Expr)) node_own d

reads-as : (s : Stmt) (d : Stmt-F Stmt) → roll-Stmt d ≡ s → reads s ≡ node_reads (map-Stmt Stmt (List ℕ) (λ y. reads y) d)
reads-as s d is = ap (λ (x : Stmt). reads x) (sym is) ∙ fold-roll-Stmt (List ℕ) node_reads d

writes-as : (s : Stmt) (d : Stmt-F Stmt) → roll-Stmt d ≡ s → writes s ≡ node_writes (map-Stmt Stmt (List ℕ) (λ y. writes y) d)
writes-as s d is = ap (λ (x : Stmt). writes x) (sym is) ∙ fold-roll-Stmt (List ℕ) node_writes d

overwrites-as : (s : Stmt) (d : Stmt-F Stmt) → roll-Stmt d ≡ s → overwrites s ≡ node_overwrites (map-Stmt Stmt (List ℕ) (λ y. overwrites y) d)
overwrites-as s d is = ap (λ (x : Stmt). overwrites x) (sym is) ∙ fold-roll-Stmt (List ℕ) node_overwrites d

leaves-as : (s : Stmt) (d : Stmt-F Stmt) → roll-Stmt d ≡ s → may_leave s ≡ node_may_leave (map-Stmt Stmt Bool (λ y. may_leave y) d)
leaves-as s d is = ap (λ (x : Stmt). may_leave x) (sym is) ∙ fold-roll-Stmt Bool node_may_leave d

same-own : (a b : Use × Expr) → Some a ≡ Some b → a ≡ b
same-own a b e = cc

no-own : (b : Use × Expr) → None ≡ Some b → ⊥
no-own b e = cc

eval-as : (s : Stmt) (a b : Use × Expr) → own s ≡ Some a → own s ≡ Some b → reads s ≡ vars a.1 → SetsRow (row s) a.0 a.1 → IsOfEval (row s) b.0 b.1
eval-as s a b is owns read set = subst (λ (u : Use × Expr). IsOfEval (row s) u.0 u.1) (same-own a b (sym is ∙ owns)) (record { reads = ap (λ (vs : List ℕ). mask vs) read; set = set })

-- what a statement evaluates itself is in its row
eval-row : (s : Stmt) (d : Stmt-F Stmt) → roll-Stmt d ≡ s → (u : Use × Expr) → own s ≡ Some u → IsOfEval (row s) u.0 u.1
eval-row s Stmt-F.Skip is u owns = absurd (no-own u (sym (own-as s Stmt-F.Skip is) ∙ owns))
eval-row s (Stmt-F.Set var e) is u owns =
    eval-as s (Sets var, e) u (own-as s (Stmt-F.Set var e) is) owns (reads-as s (Stmt-F.Set var e) is)
    (record {
      writes = ap (λ (vs : List ℕ). mask vs) (writes-as s (Stmt-F.Set var e) is) ∙ mask-one var;
      overwrites = ap (λ (vs : List ℕ). mask vs) (overwrites-as s (Stmt-F.Set var e) is) ∙ mask-one var;
      leaves = leaves-as s (Stmt-F.Set var e) is;
    })
eval-row s (Stmt-F.If test chosen None) is u owns = eval-as s (Tests, test) u (own-as s (Stmt-F.If test chosen None) is) owns (reads-as s (Stmt-F.If test chosen None) is) tt
eval-row s (Stmt-F.If test chosen (Some other)) is u owns = eval-as s (Tests, test) u (own-as s (Stmt-F.If test chosen (Some other)) is) owns (reads-as s (Stmt-F.If test chosen (Some other)) is) tt
eval-row s (Stmt-F.While test body) is u owns = eval-as s (Tests, test) u (own-as s (Stmt-F.While test body) is) owns (reads-as s (Stmt-F.While test body) is) tt
eval-row s (Stmt-F.Return e) is u owns = eval-as s (Returns, e) u (own-as s (Stmt-F.Return e) is) owns (reads-as s (Stmt-F.Return e) is) tt
eval-row s (Stmt-F.Out e) is u owns = eval-as s (Puts, e) u (own-as s (Stmt-F.Out e) is) owns (reads-as s (Stmt-F.Out e) is) tt
eval-row s (Stmt-F.Assert e) is u owns = eval-as s (Asserts, e) u (own-as s (Stmt-F.Assert e) is) owns (reads-as s (Stmt-F.Assert e) is) tt
eval-row s (Stmt-F.Block all) is u owns = absurd (no-own u (sym (own-as s (Stmt-F.Block all) is) ∙ owns))
eval-row s (Stmt-F.Marked mark body) is u owns = absurd (no-own u (sym (own-as s (Stmt-F.Marked mark body) is) ∙ owns))

-- what an `if` may write, and whether it may leave
if-writes : (test : Expr) (chosen : Stmt) (other : Option Stmt) → writes (If test chosen other) ≡ branch_writes chosen other
if-writes test chosen None = writes-as (If test chosen None) (Stmt-F.If test chosen None) (rolls-If test chosen None)
if-writes test chosen (Some other) = writes-as (If test chosen (Some other)) (Stmt-F.If test chosen (Some other)) (rolls-If test chosen (Some other))

if-leaves : (test : Expr) (chosen : Stmt) (other : Option Stmt) → may_leave (If test chosen other) ≡ (may_fault test || (may_leave chosen || branch_any (option_map (λ s. may_leave s) other)))
if-leaves test chosen None = leaves-as (If test chosen None) (Stmt-F.If test chosen None) (rolls-If test chosen None)
if-leaves test chosen (Some other) = leaves-as (If test chosen (Some other)) (Stmt-F.If test chosen (Some other)) (rolls-If test chosen (Some other))

choice-row : (r : Row) (test : Expr) (chosen : Stmt) (other : Option Stmt) → r ≡ row (If test chosen other) → IsOfChoice r test chosen other
choice-row r test chosen other is n needed bits need =
    let leaves = may_fault test || (may_leave chosen || branch_any (option_map (λ s. may_leave s) other)) in
    ap (λ (q : Row). is_relevant q n) is ∙ (λ i. if-leaves test chosen other i || not (nat_eq (bit_and (mask (if-writes test chosen other i)) n) 0))
    ∙ ap (λ (b : Bool). leaves || b) (some-needed n needed (branch_writes chosen other) need bits)

here-row : (p : Program) (rows : List Row) (k : ℕ) (s : Stmt) → rows ≡ dependences p → slice_get (statements_all p.body) k ≡ Some s → row_at rows k ≡ row s
here-row p rows k s is here = row-of p rows k is ∙ ap (λ (o : Option Stmt). row (unwrap_or o Skip)) here

pub rows-run : (p : Program) (rows : List Row) → rows ≡ dependences p → (run : Run) → Fits (statements_all p.body) run → Rows rows run
rows-run p rows is Idle fits = tt
rows-run p rows is (Eval k why e x) fits =
    subst (λ (r : Row). IsOfEval r why e) (sym (here-row p rows k fits.stmt is fits.here)) (eval-row fits.stmt (out-Stmt fits.stmt) (roll-out-Stmt fits.stmt) (why, e) fits.owns)
rows-run p rows is (Then a b) fits = (rows-run p rows is a fits.0, rows-run p rows is b fits.1)
rows-run p rows is (Choice k test chosen other inner) fits = (choice-row (row_at rows k) test chosen other (here-row p rows k (If test chosen other) is fits.0), rows-run p rows is inner fits.1)
rows-run p rows is (Mark m inner) fits = rows-run p rows is inner fits
