-- The statements that a run speaks of by their numbers are those of the program: each evaluation is of the expression of the statement with its number,
-- and each `if` is the statement with its number.
use Rattle.std.proofs.Common.{◌≡◌, ℕ, zero, suc, ◌+◌, ◌==◌, Bool, true, false, List, [], ◌∷◌, ◌++◌, length, drop, map, ℤ, Option, Some, None, if◌then◌else◌, refl, sym, ap, ◌∙◌, subst, append_assoc, slice_get}
use Rattle.std.proofs.lemmas.List.{append-nil, drop-drop, drop_at}
use Rattle.std.specs.Option.{option_map}
use Rattle.prv_model.specs.Words.{is_zero}
use Rattle.prv_model.specs.Expressions.{value}
use Rattle.prv_model.specs.Numbers.{inside, statements, statements_all}
use Rattle.prv_model.specs.Programs.{stmt_count}
use Rattle.prv_model.specs.Statements.{Frame, Step, exec, spend}
use Rattle.prv_model.specs.Outcomes.{start}
use Rattle.prv_model.proofs.NumberLaws.{counts, inside-If, inside-While, inside-Block, inside-Marked}
use Rattle.prv_model.specs.declared.expr.Expr.{Expr}
use Rattle.prv_model.specs.declared.outcome.Ending.{Ending}
use Rattle.prv_model.specs.declared.program.Program.{Program}
use Rattle.prv_model.specs.declared.stmt.Stmt.{Stmt, roll-Stmt, map-Stmt}
use Rattle.prv_model.specs.declared.stmt.Stmt.TheOpen.{Stmt-F}
use Rattle.prv_model.specs.declared.stmt.Stmt.TheFolds.{fold-Stmt, fold-roll-Stmt, ind-Stmt}
use Rattle.prv_model.specs.declared.stmt.Stmt.TheVariants as v
use Rattle.prv_run.specs.Runs.{Run, Use, Idle, Eval, Then, Choice, Mark, Sets, Puts, Returns, Asserts, Tests, evaluation, where_goes, follow, branch, turn_run, loop_run, runs, runs_all, run_of}
use Rattle.prv_run.proofs.RunLaws.{runs-Skip, runs-Set, runs-If, runs-While, runs-Return, runs-Out, runs-Assert, runs-Block, runs-Marked}

-- the expression of a statement itself, and what it is evaluated for
abbrev pub node_own : Stmt-F (Option (Use × Expr)) → Option (Use × Expr)
node_own (Stmt-F.Set var e) = Some (Sets var, e)
node_own (Stmt-F.If test chosen other) = Some (Tests, test)
node_own (Stmt-F.While test body) = Some (Tests, test)
node_own (Stmt-F.Return e) = Some (Returns, e)
node_own (Stmt-F.Out e) = Some (Puts, e)
node_own (Stmt-F.Assert e) = Some (Asserts, e)
node_own _ = None

abbrev pub own : Stmt → Option (Use × Expr)
own = fold-Stmt (Option (Use × Expr)) node_own

-- the statement with a number evaluates this expression
pub record Evaluates (all : List Stmt) (k : ℕ) (why : Use) (e : Expr) : Type 0 where
  pub stmt : Stmt
  pub here : slice_get all k ≡ Some stmt
  pub owns : own stmt ≡ Some (why, e)

-- a run is of these statements
abbrev pub Fits : List Stmt → Run → Type 0
Fits all Idle = Unit {0}
Fits all (Eval k why e x) = Evaluates all k why e
Fits all (Then a b) = Fits all a × Fits all b
Fits all (Choice k test chosen other inner) = (slice_get all k ≡ Some (v.If test chosen other)) × Fits all inner
Fits all (Mark mark inner) = Fits all inner

-- from a number on these statements stand
pub record Stands (all : List Stmt) (k : ℕ) (flat : List Stmt) : Type 0 where
  pub behind : List Stmt
  pub placed : drop k all ≡ flat ++ behind

drop-none : (k : ℕ) (ys : List Stmt) (x : Stmt) → drop k [] ≡ x ∷ ys → slice_get [] k ≡ Some x
drop-none zero ys x e = cc
drop-none (suc k) ys x e = cc

head-is : (x z : Stmt) (xs ys : List Stmt) → z ∷ xs ≡ x ∷ ys → z ≡ x
head-is x z xs ys e = cc

at-place : (k : ℕ) (xs ys : List Stmt) (x : Stmt) → drop k xs ≡ x ∷ ys → slice_get xs k ≡ Some x
at-place k [] ys x e = drop-none k ys x e
at-place zero (z ∷ xs) ys x e = ap Some (head-is x z xs ys e)
at-place (suc k) (z ∷ xs) ys x e = at-place k xs ys x e

stands-here : (all : List Stmt) (k : ℕ) (s : Stmt) (flat : List Stmt) → Stands all k (s ∷ flat) → slice_get all k ≡ Some s
stands-here all k s flat h = at-place k all (flat ++ h.behind) s h.placed

stands-front : (all : List Stmt) (k : ℕ) (a b : List Stmt) → Stands all k (a ++ b) → Stands all k a
stands-front all k a b h = record { behind = b ++ h.behind; placed = h.placed ∙ append_assoc a b h.behind }

stands-behind : (all : List Stmt) (k j : ℕ) (a b : List Stmt) → Stands all k (a ++ b) → j ≡ k + length a → Stands all j b
stands-behind all k j a b h is = record {
  behind = h.behind;
  placed = ap (λ (n : ℕ). drop n all) is ∙ sym (drop-drop (length a) k all) ∙ ap (λ (rest : List Stmt). drop (length a) rest) (h.placed ∙ append_assoc a b h.behind) ∙ drop_at a (b ++ h.behind) (length a) refl;
}

-- inside a statement
within : (all : List Stmt) (k : ℕ) (s : Stmt) (flat : List Stmt) → Stands all k (statements s) → inside s ≡ flat → Stands all (k + 1) flat
within all k s flat h is = subst (λ (xs : List Stmt). Stands all (k + 1) xs) is (stands-behind all k (k + 1) (s ∷ []) (inside s) h refl)

-- one statement that evaluates its own expression
fits-own : (all : List Stmt) (s : Stmt) (k : ℕ) (f : Frame) (why : Use) (e : Expr) → Stands all k (statements s) → own s ≡ Some (why, e) → runs s k f ≡ evaluation k why e f → Fits all (runs s k f)
fits-own all s k f why e h owns is = subst (λ (r : Run). Fits all r) (sym is) (record { stmt = s; here = stands-here all k s _ h; owns = owns })

abbrev FitsRun : Stmt → Type 0
FitsRun s = (all : List Stmt) (k : ℕ) (f : Frame) → Stands all k (statements s) → Fits all (runs s k f)

abbrev Fitting : Type 0
Fitting = (s : Stmt) × FitsRun s

fits-branch : (all : List Stmt) (x : Option ℤ) (a b : Run) → Fits all a → Fits all b → Fits all (branch x a b)
fits-branch all None a b p q = tt
fits-branch all (Some n) a b p q = by (is_zero n)
  where
    by : (z : Bool) → Fits all (if z then b else a)
    by true = q
    by false = p

fits-where : (all : List Stmt) (ending : Option Ending) (f : Frame) (next : Frame → Run) → ((g : Frame) → Fits all (next g)) → Fits all (where_goes ending f next)
fits-where all None f next h = h f
fits-where all (Some how) f next h = tt

fits-turn : (all : List Stmt) (x : Option ℤ) (f : Frame) (next : Frame → Run) → ((g : Frame) → Fits all (next g)) → Fits all (turn_run x f next)
fits-turn all x f next h = fits-branch all x _ Idle (by (f.turns == 0)) tt
  where
    by : (z : Bool) → Fits all (if z then Idle else next (spend f))
    by true = tt
    by false = h (spend f)

fits-loop : (all : List Stmt) (k : ℕ) (test : Expr) (body : Frame → Step) (inner : Frame → Run) (more : ℕ) (f : Frame) → Evaluates all k Tests test → ((g : Frame) → Fits all (inner g)) →
    Fits all (loop_run k test body inner more f)
fits-loop all k test body inner zero f here h = here
fits-loop all k test body inner (suc more) f here h =
    let later = loop_run k test body inner more in
    let next : (g : Frame) → Fits all (Then (inner g) (follow (body g) later)) =
    λ g. (h g, fits-where all (body g).ending (body g).frame later (λ q. fits-loop all k test body inner more q here h)) in
    (here, fits-turn all (value test f.state) f (λ g. Then (inner g) (follow (body g) later)) next)

fits-list : (items : List Fitting) (all : List Stmt) (k : ℕ) (f : Frame) → Stands all k (statements_all (map (λ e. e.0) items)) → Fits all (runs_all (map (λ e. e.0) items) k f)
fits-list [] all k f h = tt
fits-list (e ∷ items) all k f h = (
  e.1 all k f (stands-front all k (statements e.0) _ h),
  fits-where all (exec e.0 f).ending (exec e.0 f).frame _
      (λ g. fits-list items all (k + stmt_count e.0) g (stands-behind all k (k + stmt_count e.0) (statements e.0) _ h (ap (λ (n : ℕ). k + n) (sym (counts e.0))))),
)

own-is : (s : Stmt) (d : Stmt-F Stmt) (o : Option (Use × Expr)) → roll-Stmt d ≡ s → node_own (map-Stmt Stmt (Option (Use × Expr)) (λ y. own y) d) ≡ o → own s ≡ o
own-is s d o is gives = ap (λ (x : Stmt). own x) (sym is) ∙ fold-roll-Stmt (Option (Use × Expr)) node_own d ∙ gives

fits-If : (test : Expr) (chosen : Fitting) (other : Option Fitting) → FitsRun (v.If test chosen.0 (option_map (λ e. e.0) other))
fits-If test chosen None = λ all k f h.
    let here = within all k (v.If test chosen.0 None) _ h (inside-If test chosen.0 None) in
    let owned = own-is (v.If test chosen.0 None) (Stmt-F.If test chosen.0 None) (Some (Tests, test)) (v.rolls-If test chosen.0 None) refl in
    subst (λ (r : Run). Fits all r) (sym (runs-If test chosen.0 None k f)) (
      stands-here all k _ _ h,
      (
        record { stmt = v.If test chosen.0 None; here = stands-here all k _ _ h; owns = owned },
        fits-branch all (value test f.state) _ _ (chosen.1 all (k + 1) f (stands-front all (k + 1) (statements chosen.0) _ here)) tt,
      ),
    )
fits-If test chosen (Some other) = λ all k f h.
    let here = within all k (v.If test chosen.0 (Some other.0)) _ h (inside-If test chosen.0 (Some other.0)) in
    let owned = own-is (v.If test chosen.0 (Some other.0)) (Stmt-F.If test chosen.0 (Some other.0)) (Some (Tests, test)) (v.rolls-If test chosen.0 (Some other.0)) refl in
    subst (λ (r : Run). Fits all r) (sym (runs-If test chosen.0 (Some other.0) k f)) (
      stands-here all k _ _ h,
      (
        record { stmt = v.If test chosen.0 (Some other.0); here = stands-here all k _ _ h; owns = owned },
        fits-branch all (value test f.state) _ _ (chosen.1 all (k + 1) f (stands-front all (k + 1) (statements chosen.0) _ here))
            (other.1 all (k + 1 + stmt_count chosen.0) f (stands-behind all (k + 1) _ (statements chosen.0) _ here (ap (λ (n : ℕ). k + 1 + n) (sym (counts chosen.0))))),
      ),
    )

fits-step : (y : Stmt-F Fitting) → FitsRun (roll-Stmt (map-Stmt Fitting Stmt (λ e. e.0) y))
fits-step Stmt-F.Skip = subst FitsRun (sym v.rolls-Skip) (λ all k f h. subst (λ (r : Run). Fits all r) (sym (runs-Skip k f)) tt)
fits-step (Stmt-F.Set var e) = subst FitsRun (sym (v.rolls-Set var e)) (λ all k f h.
    fits-own all (v.Set var e) k f (Sets var) e h (own-is (v.Set var e) (Stmt-F.Set var e) _ (v.rolls-Set var e) refl) (runs-Set var e k f))
fits-step (Stmt-F.If test chosen None) = subst FitsRun (sym (v.rolls-If test chosen.0 None)) (fits-If test chosen None)
fits-step (Stmt-F.If test chosen (Some other)) = subst FitsRun (sym (v.rolls-If test chosen.0 (Some other.0))) (fits-If test chosen (Some other))
fits-step (Stmt-F.While test body) = subst FitsRun (sym (v.rolls-While test body.0)) (λ all k f h.
    let here = within all k (v.While test body.0) _ h (inside-While test body.0) in
    let owned = own-is (v.While test body.0) (Stmt-F.While test body.0) (Some (Tests, test)) (v.rolls-While test body.0) refl in
    subst (λ (r : Run). Fits all r) (sym (runs-While test body.0 k f))
    (fits-loop all k test (exec body.0) (runs body.0 (k + 1)) f.turns f (record { stmt = v.While test body.0; here = stands-here all k _ _ h; owns = owned }) (λ g. body.1 all (k + 1) g here)))
fits-step (Stmt-F.Return e) = subst FitsRun (sym (v.rolls-Return e)) (λ all k f h.
    fits-own all (v.Return e) k f Returns e h (own-is (v.Return e) (Stmt-F.Return e) _ (v.rolls-Return e) refl) (runs-Return e k f))
fits-step (Stmt-F.Out e) = subst FitsRun (sym (v.rolls-Out e)) (λ all k f h.
    fits-own all (v.Out e) k f Puts e h (own-is (v.Out e) (Stmt-F.Out e) _ (v.rolls-Out e) refl) (runs-Out e k f))
fits-step (Stmt-F.Assert e) = subst FitsRun (sym (v.rolls-Assert e)) (λ all k f h.
    fits-own all (v.Assert e) k f Asserts e h (own-is (v.Assert e) (Stmt-F.Assert e) _ (v.rolls-Assert e) refl) (runs-Assert e k f))
fits-step (Stmt-F.Block items) = subst FitsRun (sym (v.rolls-Block (map (λ e. e.0) items))) (λ all k f h.
    let here = within all k (v.Block (map (λ e. e.0) items)) _ h (inside-Block (map (λ e. e.0) items)) in
    subst (λ (r : Run). Fits all r) (sym (runs-Block (map (λ e. e.0) items) k f)) (fits-list items all (k + 1) f here))
fits-step (Stmt-F.Marked mark body) = subst FitsRun (sym (v.rolls-Marked mark body.0)) (λ all k f h.
    let here = within all k (v.Marked mark body.0) _ h (inside-Marked mark body.0) in
    subst (λ (r : Run). Fits all r) (sym (runs-Marked mark body.0 k f)) (body.1 all (k + 1) f here))

-- what is run of a statement speaks of the statements that stand from its number on
pub fits : (s : Stmt) (all : List Stmt) (k : ℕ) (f : Frame) → Stands all k (statements s) → Fits all (runs s k f)
fits s = ind-Stmt FitsRun (λ z y is. subst (λ (w : Stmt-F Stmt). FitsRun (roll-Stmt w)) is (fits-step y)) s

pub fits-all : (items all : List Stmt) (k : ℕ) (f : Frame) → Stands all k (statements_all items) → Fits all (runs_all items k f)
fits-all [] all k f h = tt
fits-all (s ∷ items) all k f h = (
  fits s all k f (stands-front all k (statements s) _ h),
  fits-where all (exec s f).ending (exec s f).frame _
      (λ g. fits-all items all (k + stmt_count s) g (stands-behind all k (k + stmt_count s) (statements s) _ h (ap (λ (n : ℕ). k + n) (sym (counts s))))),
)

-- what is run of a program speaks of its statements by their numbers in text order
pub fits-program : (p : Program) (turns : ℕ) (x : List ℤ) → Fits (statements_all p.body) (run_of p turns x)
fits-program p turns x = fits-all p.body (statements_all p.body) 0 (start p turns x) (record { behind = []; placed = sym (append-nil (statements_all p.body)) })
