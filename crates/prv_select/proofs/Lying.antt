-- A run lies in a scope: each of its evaluations stands there, or in an `if` or a mark of the run, as the table of places has it.
use Rattle.std.proofs.Common.{◌≡◌, ℕ, zero, suc, ◌+◌, ◌<◌, ◌≤◌, ◌==◌, nat_lt, Bool, true, false, ◌&&◌, List, [], ◌∷◌, ◌++◌, length, drop, map, ℤ, Option, Some, None, if◌then◌else◌, refl, sym, ap, ◌∙◌, subst, append_assoc, slice_get, unwrap_or, arith}
use Rattle.std.proofs.lemmas.List.{append-nil, drop-drop, drop_at}
use Rattle.std.proofs.lemmas.Bool.Decides.{nat_tests}
use Rattle.std.specs.Option.{option_map}
use Rattle.std.specs.List.{flat_map}
use Rattle.prv_model.specs.Words.{is_zero}
use Rattle.prv_model.specs.Expressions.{value}
use Rattle.prv_model.specs.Programs.{stmt_count, expr_over, stmt_over, node_stmt_over, all_true}
use Rattle.prv_model.specs.Statements.{Frame, Step, exec, spend}
use Rattle.prv_model.specs.Outcomes.{start}
use Rattle.prv_model.specs.declared.expr.Expr.{Expr}
use Rattle.prv_model.specs.declared.outcome.Ending.{Ending}
use Rattle.prv_model.specs.declared.program.Program.{Program}
use Rattle.prv_model.specs.declared.stmt.Stmt.{Stmt, roll-Stmt, map-Stmt}
use Rattle.prv_model.specs.declared.stmt.Stmt.TheOpen.{Stmt-F}
use Rattle.prv_model.specs.declared.stmt.Stmt.TheFolds.{fold-roll-Stmt, ind-Stmt}
use Rattle.prv_model.specs.declared.stmt.Stmt.TheVariants as v
use Rattle.prv_dep.specs.Dependences.{writes, node_writes, branch_list}
use Rattle.prv_dep.proofs.DependenceLaws.{and-left, and-right}
use Rattle.prv_run.specs.Runs.{Run, Use, Idle, Eval, Then, Choice, Mark, Sets, Puts, Returns, Asserts, Tests, evaluation, where_goes, follow, branch, turn_run, loop_run, runs, runs_all, run_of}
use Rattle.prv_run.proofs.RunLaws.{runs-Skip, runs-Set, runs-If, runs-While, runs-Return, runs-Out, runs-Assert, runs-Block, runs-Marked}
use Rattle.prv_select.specs.declared.places.Scope.{Scope}
use Rattle.prv_select.specs.declared.places.Place.{Place}
use Rattle.prv_select.specs.Places.{outside, inner, places_inside, places_of, places_all, place_at}
use Rattle.prv_select.proofs.Masks.{HaveBits}
use Rattle.prv_select.proofs.PlaceLaws as p
use Rattle.prv_select.proofs.PlaceLaws.{part, marked, places-count}

-- the variable that is set has a bit
abbrev pub SetsBit : Use → Type 0
SetsBit (Sets var) = var < 64
SetsBit _ = Unit {0}

-- what the branches of an `if` may write
abbrev pub branch_writes : Stmt → Option Stmt → List ℕ
branch_writes chosen other = writes chosen ++ branch_list (option_map (λ s. writes s) other)

-- a run lies in a scope
pub data Lies (places : List Place) : Scope → Run → Type 0 where
  is_idle : (s : Scope) → Lies places s Idle
  is_eval : (s : Scope) (k : ℕ) (why : Use) (e : Expr) (x : Option ℤ) → place_at places k ≡ record { outer = s; inner = s } → SetsBit why → Lies places s (Eval k why e x)
  is_next : (s : Scope) (a b : Run) → Lies places s a → Lies places s b → Lies places s (Then a b)
  is_choice : (s : Scope) (k : ℕ) (test : Expr) (chosen : Stmt) (other : Option Stmt) (x : Option ℤ) (rest : Run) → place_at places k ≡ record { outer = s; inner = part s k } → HaveBits (branch_writes chosen other) → Lies places (part s k) rest → Lies places s (Choice k test chosen other (Then (Eval k Tests test x) rest))
  is_mark : (s : Scope) (m : ℕ) (run : Run) → Lies places (marked s m) run → Lies places s (Mark m run)

-- from a number on these places stand
pub record Stands (places : List Place) (k : ℕ) (front : List Place) : Type 0 where
  pub behind : List Place
  pub placed : drop k places ≡ front ++ behind

drop-none : (k : ℕ) (ys : List Place) (x : Place) → drop k [] ≡ x ∷ ys → slice_get [] k ≡ Some x
drop-none zero ys x e = cc
drop-none (suc k) ys x e = cc

head-is : (x z : Place) (xs ys : List Place) → z ∷ xs ≡ x ∷ ys → z ≡ x
head-is x z xs ys e = cc

at-place : (k : ℕ) (xs ys : List Place) (x : Place) → drop k xs ≡ x ∷ ys → slice_get xs k ≡ Some x
at-place k [] ys x e = drop-none k ys x e
at-place zero (z ∷ xs) ys x e = ap Some (head-is x z xs ys e)
at-place (suc k) (z ∷ xs) ys x e = at-place k xs ys x e

stands-here : (places : List Place) (k : ℕ) (x : Place) (front : List Place) → Stands places k (x ∷ front) → place_at places k ≡ x
stands-here places k x front h = ap (λ (o : Option Place). unwrap_or o (record { outer = outside; inner = outside })) (at-place k places (front ++ h.behind) x h.placed)

stands-front : (places : List Place) (k : ℕ) (a b : List Place) → Stands places k (a ++ b) → Stands places k a
stands-front places k a b h = record { behind = b ++ h.behind; placed = h.placed ∙ append_assoc a b h.behind }

stands-behind : (places : List Place) (k j : ℕ) (a b : List Place) → Stands places k (a ++ b) → j ≡ k + length a → Stands places j b
stands-behind places k j a b h is = record {
  behind = h.behind;
  placed = ap (λ (n : ℕ). drop n places) is ∙ sym (drop-drop (length a) k places) ∙ ap (λ (rest : List Place). drop (length a) rest) (h.placed ∙ append_assoc a b h.behind) ∙ drop_at a (b ++ h.behind) (length a) refl;
}

-- the place of a statement, and those inside it
own-place : (places : List Place) (s : Stmt) (outer scope : Scope) (k : ℕ) → Stands places k (places_of s outer k) → inner s k outer ≡ scope → place_at places k ≡ record { outer = outer; inner = scope }
own-place places s outer scope k h is = stands-here places k _ _ h ∙ (λ i. record { outer = outer; inner = is i })

within : (places : List Place) (s : Stmt) (outer scope : Scope) (k : ℕ) (front : List Place) → Stands places k (places_of s outer k) → inner s k outer ≡ scope → places_inside s scope (k + 1) ≡ front → Stands places (k + 1) front
within places s outer scope k front h is same =
    subst (λ (xs : List Place). Stands places (k + 1) xs) (ap (λ (q : Scope). places_inside s q (k + 1)) is ∙ same)
    (stands-behind places k (k + 1) (record { outer = outer; inner = inner s k outer } ∷ []) (places_inside s (inner s k outer) (k + 1)) h refl)

-- the second of two statements
second : (places : List Place) (a b : Stmt) (scope : Scope) (k : ℕ) → Stands places k (places_of a scope k ++ places_of b scope (k + length (places_of a scope k))) → Stands places (k + stmt_count a) (places_of b scope (k + stmt_count a))
second places a b scope k h =
    subst (λ (n : ℕ). Stands places (k + n) (places_of b scope (k + n))) (places-count a scope k)
    (stands-behind places k _ (places_of a scope k) (places_of b scope (k + length (places_of a scope k))) h refl)

-- each variable of a program has a bit
few : (n v : ℕ) → n ≤ 64 → nat_lt v n ≡ true → v < 64
few n v low is = let below : v < n = grind (arith, nat_tests) in omega arith

bits-append : (a b : List ℕ) → HaveBits a → HaveBits b → HaveBits (a ++ b)
bits-append [] b h g = g
bits-append (v ∷ a) b h g = (h.0, bits-append a b h.1 g)

abbrev WritesBits : Stmt → Type 0
WritesBits s = (n : ℕ) → n ≤ 64 → stmt_over n s ≡ true → HaveBits (writes s)

abbrev Writing : Type 0
Writing = (s : Stmt) × WritesBits s

bits-all : (all : List Writing) (n : ℕ) → n ≤ 64 → all_true (map (λ s. stmt_over n s) (map (λ e. e.0) all)) ≡ true → HaveBits (flat_map (λ each. each) (map (λ s. writes s) (map (λ e. e.0) all)))
bits-all [] n low over = tt
bits-all (e ∷ all) n low over = bits-append (writes e.0) _ (e.1 n low (and-left _ _ over)) (bits-all all n low (and-right (stmt_over n e.0) _ over))

bits-step : (y : Stmt-F Writing) → WritesBits (roll-Stmt (map-Stmt Writing Stmt (λ e. e.0) y))
bits-step Stmt-F.Skip = λ n low over. rw (fold-roll-Stmt (List ℕ) node_writes Stmt-F.Skip) tt
bits-step (Stmt-F.Set var e) = λ n low over.
    let own : (nat_lt var n && expr_over n e) ≡ true = sym (fold-roll-Stmt Bool (node_stmt_over n) (Stmt-F.Set var e)) ∙ over in
    rw (fold-roll-Stmt (List ℕ) node_writes (Stmt-F.Set var e)) (few n var low (and-left _ _ own), tt)
bits-step (Stmt-F.If test chosen None) = λ n low over.
    let own : (expr_over n test && (stmt_over n chosen.0 && true)) ≡ true = sym (fold-roll-Stmt Bool (node_stmt_over n) (Stmt-F.If test chosen.0 None)) ∙ over in
    rw (fold-roll-Stmt (List ℕ) node_writes (Stmt-F.If test chosen.0 None))
    (bits-append (writes chosen.0) [] (chosen.1 n low (and-left _ _ (and-right (expr_over n test) _ own))) tt)
bits-step (Stmt-F.If test chosen (Some other)) = λ n low over.
    let own : (expr_over n test && (stmt_over n chosen.0 && stmt_over n other.0)) ≡ true = sym (fold-roll-Stmt Bool (node_stmt_over n) (Stmt-F.If test chosen.0 (Some other.0))) ∙ over in
    let both = and-right (expr_over n test) _ own in
    rw (fold-roll-Stmt (List ℕ) node_writes (Stmt-F.If test chosen.0 (Some other.0)))
    (bits-append (writes chosen.0) (writes other.0) (chosen.1 n low (and-left _ _ both)) (other.1 n low (and-right (stmt_over n chosen.0) _ both)))
bits-step (Stmt-F.While test body) = λ n low over.
    let own : (expr_over n test && stmt_over n body.0) ≡ true = sym (fold-roll-Stmt Bool (node_stmt_over n) (Stmt-F.While test body.0)) ∙ over in
    rw (fold-roll-Stmt (List ℕ) node_writes (Stmt-F.While test body.0)) (body.1 n low (and-right (expr_over n test) _ own))
bits-step (Stmt-F.Return e) = λ n low over. rw (fold-roll-Stmt (List ℕ) node_writes (Stmt-F.Return e)) tt
bits-step (Stmt-F.Out e) = λ n low over. rw (fold-roll-Stmt (List ℕ) node_writes (Stmt-F.Out e)) tt
bits-step (Stmt-F.Assert e) = λ n low over. rw (fold-roll-Stmt (List ℕ) node_writes (Stmt-F.Assert e)) tt
bits-step (Stmt-F.Block all) = λ n low over.
    let stmts = map (λ e. e.0) all in
    let own = sym (fold-roll-Stmt Bool (node_stmt_over n) (Stmt-F.Block stmts)) ∙ over in
    rw (fold-roll-Stmt (List ℕ) node_writes (Stmt-F.Block stmts)) (bits-all all n low own)
bits-step (Stmt-F.Marked mark body) = λ n low over.
    let own = sym (fold-roll-Stmt Bool (node_stmt_over n) (Stmt-F.Marked mark body.0)) ∙ over in
    rw (fold-roll-Stmt (List ℕ) node_writes (Stmt-F.Marked mark body.0)) (body.1 n low own)

writes-bits : (s : Stmt) → WritesBits s
writes-bits s = ind-Stmt WritesBits (λ z y is. subst (λ (w : Stmt-F Stmt). WritesBits (roll-Stmt w)) is (bits-step y)) s

-- ---- what is run of a statement lies where the statement stands
abbrev LiesRun : Stmt → Type 0
LiesRun s = (places : List Place) (outer : Scope) (k : ℕ) (f : Frame) (n : ℕ) → n ≤ 64 → stmt_over n s ≡ true → Stands places k (places_of s outer k) → Lies places outer (runs s k f)

abbrev Lying : Type 0
Lying = (s : Stmt) × LiesRun s

over-as : (s : Stmt) (d : Stmt-F Stmt) (n : ℕ) → roll-Stmt d ≡ s → stmt_over n s ≡ true → node_stmt_over n (map-Stmt Stmt Bool (λ y. stmt_over n y) d) ≡ true
over-as s d n is over = sym (fold-roll-Stmt Bool (node_stmt_over n) d) ∙ ap (λ (x : Stmt). stmt_over n x) is ∙ over

-- one statement that evaluates its own expression
lies-own : (places : List Place) (s : Stmt) (outer : Scope) (k : ℕ) (f : Frame) (why : Use) (e : Expr) → Stands places k (places_of s outer k) → inner s k outer ≡ outer → SetsBit why → runs s k f ≡ evaluation k why e f → Lies places outer (runs s k f)
lies-own places s outer k f why e h same bit is =
    subst (λ (r : Run). Lies places outer r) (sym is) (Lies.is_eval outer k why e (value e f.state) (own-place places s outer outer k h same) bit)

lies-branch : (places : List Place) (scope : Scope) (x : Option ℤ) (a b : Run) → Lies places scope a → Lies places scope b → Lies places scope (branch x a b)
lies-branch places scope None a b g h = Lies.is_idle scope
lies-branch places scope (Some n) a b g h = by (is_zero n)
  where
    by : (z : Bool) → Lies places scope (if z then b else a)
    by true = h
    by false = g

lies-where : (places : List Place) (scope : Scope) (ending : Option Ending) (f : Frame) (next : Frame → Run) → ((g : Frame) → Lies places scope (next g)) → Lies places scope (where_goes ending f next)
lies-where places scope None f next h = h f
lies-where places scope (Some how) f next h = Lies.is_idle scope

lies-turn : (places : List Place) (scope : Scope) (x : Option ℤ) (f : Frame) (next : Frame → Run) → ((g : Frame) → Lies places scope (next g)) → Lies places scope (turn_run x f next)
lies-turn places scope x f next h = lies-branch places scope x _ Idle (by (f.turns == 0)) (Lies.is_idle scope)
  where
    by : (z : Bool) → Lies places scope (if z then Idle else next (spend f))
    by true = Lies.is_idle scope
    by false = h (spend f)

lies-loop : (places : List Place) (scope : Scope) (k : ℕ) (test : Expr) (body : Frame → Step) (inner_run : Frame → Run) (more : ℕ) (f : Frame) → place_at places k ≡ record { outer = scope; inner = scope } → ((g : Frame) → Lies places scope (inner_run g)) →
    Lies places scope (loop_run k test body inner_run more f)
lies-loop places scope k test body inner_run zero f here h = Lies.is_eval scope k Tests test (value test f.state) here tt
lies-loop places scope k test body inner_run (suc more) f here h =
    let later = loop_run k test body inner_run more in
    let turn : (g : Frame) → Lies places scope (Then (inner_run g) (follow (body g) later)) =
    λ g. Lies.is_next scope (inner_run g) (follow (body g) later) (h g) (lies-where places scope (body g).ending (body g).frame later (λ q. lies-loop places scope k test body inner_run more q here h)) in
    Lies.is_next scope (evaluation k Tests test f) (turn_run (value test f.state) f (λ g. Then (inner_run g) (follow (body g) later)))
    (Lies.is_eval scope k Tests test (value test f.state) here tt) (lies-turn places scope (value test f.state) f (λ g. Then (inner_run g) (follow (body g) later)) turn)

lies-list : (items : List Lying) (places : List Place) (scope : Scope) (k : ℕ) (f : Frame) (n : ℕ) → n ≤ 64 → all_true (map (λ s. stmt_over n s) (map (λ e. e.0) items)) ≡ true →
    Stands places k (places_all (map (λ e. e.0) items) scope k) → Lies places scope (runs_all (map (λ e. e.0) items) k f)
lies-list [] places scope k f n low over h = Lies.is_idle scope
lies-list (e ∷ items) places scope k f n low over h =
    let rest = map (λ e. e.0) items in
    let behind : Stands places (k + stmt_count e.0) (places_all rest scope (k + stmt_count e.0)) =
    subst (λ (j : ℕ). Stands places (k + j) (places_all rest scope (k + j))) (places-count e.0 scope k)
    (stands-behind places k _ (places_of e.0 scope k) (places_all rest scope (k + length (places_of e.0 scope k))) h refl) in
    Lies.is_next scope (runs e.0 k f) (follow (exec e.0 f) (runs_all rest (k + stmt_count e.0)))
    (e.1 places scope k f n low (and-left _ _ over) (stands-front places k (places_of e.0 scope k) _ h))
    (lies-where places scope (exec e.0 f).ending (exec e.0 f).frame _ (λ g. lies-list items places scope (k + stmt_count e.0) g n low (and-right (stmt_over n e.0) _ over) behind))

lies-then : (test : Expr) (chosen : Lying) → LiesRun (v.If test chosen.0 None)
lies-then test chosen = λ places outer k f n low over h.
    let s = v.If test chosen.0 None in
    let own : (expr_over n test && (stmt_over n chosen.0 && true)) ≡ true = over-as s (Stmt-F.If test chosen.0 None) n (v.rolls-If test chosen.0 None) over in
    let first = and-left _ _ (and-right (expr_over n test) _ own) in
    let is = p.inner-If test chosen.0 None k outer in
    let inside = within places s outer (part outer k) k _ h is (p.places-then test chosen.0 (part outer k) (k + 1)) in
    subst (λ (r : Run). Lies places outer r) (sym (runs-If test chosen.0 None k f))
    (Lies.is_choice outer k test chosen.0 None (value test f.state) _ (own-place places s outer (part outer k) k h is) (bits-append (writes chosen.0) [] (writes-bits chosen.0 n low first) tt)
    (lies-branch places (part outer k) (value test f.state) _ _ (chosen.1 places (part outer k) (k + 1) f n low first inside) (Lies.is_idle (part outer k))))

lies-else : (test : Expr) (chosen other : Lying) → LiesRun (v.If test chosen.0 (Some other.0))
lies-else test chosen other = λ places outer k f n low over h.
    let s = v.If test chosen.0 (Some other.0) in
    let own : (expr_over n test && (stmt_over n chosen.0 && stmt_over n other.0)) ≡ true = over-as s (Stmt-F.If test chosen.0 (Some other.0)) n (v.rolls-If test chosen.0 (Some other.0)) over in
    let both = and-right (expr_over n test) _ own in
    let first = and-left (stmt_over n chosen.0) _ both in
    let last = and-right (stmt_over n chosen.0) _ both in
    let is = p.inner-If test chosen.0 (Some other.0) k outer in
    let inside = within places s outer (part outer k) k _ h is (p.places-else test chosen.0 other.0 (part outer k) (k + 1)) in
    subst (λ (r : Run). Lies places outer r) (sym (runs-If test chosen.0 (Some other.0) k f))
    (Lies.is_choice outer k test chosen.0 (Some other.0) (value test f.state) _ (own-place places s outer (part outer k) k h is)
    (bits-append (writes chosen.0) (writes other.0) (writes-bits chosen.0 n low first) (writes-bits other.0 n low last))
    (lies-branch places (part outer k) (value test f.state) _ _ (chosen.1 places (part outer k) (k + 1) f n low first (stands-front places (k + 1) (places_of chosen.0 (part outer k) (k + 1)) _ inside))
    (other.1 places (part outer k) (k + 1 + stmt_count chosen.0) f n low last (second places chosen.0 other.0 (part outer k) (k + 1) inside))))

lies-step : (y : Stmt-F Lying) → LiesRun (roll-Stmt (map-Stmt Lying Stmt (λ e. e.0) y))
lies-step Stmt-F.Skip = subst LiesRun (sym v.rolls-Skip) (λ places outer k f n low over h. subst (λ (r : Run). Lies places outer r) (sym (runs-Skip k f)) (Lies.is_idle outer))
lies-step (Stmt-F.Set var e) = subst LiesRun (sym (v.rolls-Set var e)) (λ places outer k f n low over h.
    let own : (nat_lt var n && expr_over n e) ≡ true = over-as (v.Set var e) (Stmt-F.Set var e) n (v.rolls-Set var e) over in
    lies-own places (v.Set var e) outer k f (Sets var) e h (p.inner-Set var e k outer) (few n var low (and-left _ _ own)) (runs-Set var e k f))
lies-step (Stmt-F.If test chosen None) = subst LiesRun (sym (v.rolls-If test chosen.0 None)) (lies-then test chosen)
lies-step (Stmt-F.If test chosen (Some other)) = subst LiesRun (sym (v.rolls-If test chosen.0 (Some other.0))) (lies-else test chosen other)
lies-step (Stmt-F.While test body) = subst LiesRun (sym (v.rolls-While test body.0)) (λ places outer k f n low over h.
    let s = v.While test body.0 in
    let own : (expr_over n test && stmt_over n body.0) ≡ true = over-as s (Stmt-F.While test body.0) n (v.rolls-While test body.0) over in
    let is = p.inner-While test body.0 k outer in
    let inside = within places s outer outer k _ h is (p.places-While test body.0 outer (k + 1)) in
    subst (λ (r : Run). Lies places outer r) (sym (runs-While test body.0 k f))
    (lies-loop places outer k test (exec body.0) (runs body.0 (k + 1)) f.turns f (own-place places s outer outer k h is) (λ g. body.1 places outer (k + 1) g n low (and-right (expr_over n test) _ own) inside)))
lies-step (Stmt-F.Return e) = subst LiesRun (sym (v.rolls-Return e)) (λ places outer k f n low over h.
    lies-own places (v.Return e) outer k f Returns e h (p.inner-Return e k outer) tt (runs-Return e k f))
lies-step (Stmt-F.Out e) = subst LiesRun (sym (v.rolls-Out e)) (λ places outer k f n low over h.
    lies-own places (v.Out e) outer k f Puts e h (p.inner-Out e k outer) tt (runs-Out e k f))
lies-step (Stmt-F.Assert e) = subst LiesRun (sym (v.rolls-Assert e)) (λ places outer k f n low over h.
    lies-own places (v.Assert e) outer k f Asserts e h (p.inner-Assert e k outer) tt (runs-Assert e k f))
lies-step (Stmt-F.Block items) = subst LiesRun (sym (v.rolls-Block (map (λ e. e.0) items))) (λ places outer k f n low over h.
    let all = map (λ e. e.0) items in
    let own = over-as (v.Block all) (Stmt-F.Block all) n (v.rolls-Block all) over in
    let inside = within places (v.Block all) outer outer k _ h (p.inner-Block all k outer) (p.places-Block all outer (k + 1)) in
    subst (λ (r : Run). Lies places outer r) (sym (runs-Block all k f)) (lies-list items places outer (k + 1) f n low own inside))
lies-step (Stmt-F.Marked m body) = subst LiesRun (sym (v.rolls-Marked m body.0)) (λ places outer k f n low over h.
    let s = v.Marked m body.0 in
    let own = over-as s (Stmt-F.Marked m body.0) n (v.rolls-Marked m body.0) over in
    let inside = within places s outer (marked outer m) k _ h (p.inner-Marked m body.0 k outer) (p.places-Marked m body.0 (marked outer m) (k + 1)) in
    subst (λ (r : Run). Lies places outer r) (sym (runs-Marked m body.0 k f)) (Lies.is_mark outer m _ (body.1 places (marked outer m) (k + 1) f n low own inside)))

lies : (s : Stmt) → LiesRun s
lies s = ind-Stmt LiesRun (λ z y is. subst (λ (w : Stmt-F Stmt). LiesRun (roll-Stmt w)) is (lies-step y)) s

lies-all : (all : List Stmt) (places : List Place) (scope : Scope) (k : ℕ) (f : Frame) (n : ℕ) → n ≤ 64 → all_true (map (λ s. stmt_over n s) all) ≡ true → Stands places k (places_all all scope k) → Lies places scope (runs_all all k f)
lies-all [] places scope k f n low over h = Lies.is_idle scope
lies-all (s ∷ all) places scope k f n low over h =
    let behind : Stands places (k + stmt_count s) (places_all all scope (k + stmt_count s)) =
    subst (λ (j : ℕ). Stands places (k + j) (places_all all scope (k + j))) (places-count s scope k)
    (stands-behind places k _ (places_of s scope k) (places_all all scope (k + length (places_of s scope k))) h refl) in
    Lies.is_next scope (runs s k f) (follow (exec s f) (runs_all all (k + stmt_count s)))
    (lies s places scope k f n low (and-left _ _ over) (stands-front places k (places_of s scope k) _ h))
    (lies-where places scope (exec s f).ending (exec s f).frame _ (λ g. lies-all all places scope (k + stmt_count s) g n low (and-right (stmt_over n s) _ over) behind))

-- what is run of a program lies where its statements stand
pub lies-program : (p : Program) (turns : ℕ) (x : List ℤ) → Lies (places_all p.body outside 0) outside (run_of p turns x)
lies-program p turns x =
    lies-all p.body (places_all p.body outside 0) outside 0 (start p turns x) (length p.names) p.kept.few_names p.kept.own_variables
    (record { behind = []; placed = sym (append-nil (places_all p.body outside 0)) })
