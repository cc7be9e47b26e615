-- The places of a statement, variant by variant, and how many they are.
use Rattle.std.proofs.Common.{◌≡◌, ℕ, ◌+◌, List, [], ◌∷◌, ◌++◌, length, map, Option, Some, None, refl, sym, ap, ◌∙◌, subst, sum, arith, length-append}
use Rattle.std.proofs.lemmas.List.Sums.{sum_by-cons}
use Rattle.prv_model.specs.Programs.{node_count, stmt_count}
use Rattle.prv_model.specs.declared.expr.Expr.{Expr}
use Rattle.prv_model.specs.declared.stmt.Stmt.{Stmt, roll-Stmt, map-Stmt}
use Rattle.prv_model.specs.declared.stmt.Stmt.TheOpen.{Stmt-F}
use Rattle.prv_model.specs.declared.stmt.Stmt.TheFolds.{fold-roll-Stmt, para-roll-Stmt, ind-Stmt}
use Rattle.prv_model.specs.declared.stmt.Stmt.TheVariants.{Skip, Set, If, While, Return, Out, Assert, Block, Marked, rolls-Skip, rolls-Set, rolls-If, rolls-While, rolls-Return, rolls-Out, rolls-Assert, rolls-Block, rolls-Marked}
use Rattle.prv_select.specs.declared.places.Scope.{Scope}
use Rattle.prv_select.specs.declared.places.Place.{Place}
use Rattle.prv_select.specs.MarkSets.{one_mark, both_marks}
use Rattle.prv_select.specs.Places.{node_inner, inner, node_places, places_inside, places_of, places_all}

abbrev Inner : Type 0
Inner = ℕ → Scope → Scope

abbrev Inside : Type 0
Inside = Scope → ℕ → List Place

-- the scope inside an `if`, and inside a mark
abbrev pub part : Scope → ℕ → Scope
part outer k = record { nearest = Some k; depth = outer.depth + 1; marks = outer.marks }

abbrev pub marked : Scope → ℕ → Scope
marked outer mark = record { nearest = outer.nearest; depth = outer.depth; marks = both_marks outer.marks (one_mark mark) }

inner-as : (s : Stmt) (d : Stmt-F Stmt) (k : ℕ) (outer : Scope) → roll-Stmt d ≡ s → inner s k outer ≡ node_inner (map-Stmt Stmt Inner (λ y. inner y) d) k outer
inner-as s d k outer is = ap (λ (x : Stmt). inner x k outer) (sym is) ∙ ap (λ (g : Inner). g k outer) (fold-roll-Stmt Inner node_inner d)

pub inner-Skip : (k : ℕ) (outer : Scope) → inner Skip k outer ≡ outer
inner-Skip k outer = inner-as Skip Stmt-F.Skip k outer rolls-Skip

pub inner-Set : (var : ℕ) (e : Expr) (k : ℕ) (outer : Scope) → inner (Set var e) k outer ≡ outer
inner-Set var e k outer = inner-as (Set var e) (Stmt-F.Set var e) k outer (rolls-Set var e)

pub inner-If : (test : Expr) (chosen : Stmt) (other : Option Stmt) (k : ℕ) (outer : Scope) → inner (If test chosen other) k outer ≡ part outer k
inner-If test chosen other k outer = inner-as (If test chosen other) (Stmt-F.If test chosen other) k outer (rolls-If test chosen other)

pub inner-While : (test : Expr) (body : Stmt) (k : ℕ) (outer : Scope) → inner (While test body) k outer ≡ outer
inner-While test body k outer = inner-as (While test body) (Stmt-F.While test body) k outer (rolls-While test body)

pub inner-Return : (e : Expr) (k : ℕ) (outer : Scope) → inner (Return e) k outer ≡ outer
inner-Return e k outer = inner-as (Return e) (Stmt-F.Return e) k outer (rolls-Return e)

pub inner-Out : (e : Expr) (k : ℕ) (outer : Scope) → inner (Out e) k outer ≡ outer
inner-Out e k outer = inner-as (Out e) (Stmt-F.Out e) k outer (rolls-Out e)

pub inner-Assert : (e : Expr) (k : ℕ) (outer : Scope) → inner (Assert e) k outer ≡ outer
inner-Assert e k outer = inner-as (Assert e) (Stmt-F.Assert e) k outer (rolls-Assert e)

pub inner-Block : (all : List Stmt) (k : ℕ) (outer : Scope) → inner (Block all) k outer ≡ outer
inner-Block all k outer = inner-as (Block all) (Stmt-F.Block all) k outer (rolls-Block all)

pub inner-Marked : (mark : ℕ) (body : Stmt) (k : ℕ) (outer : Scope) → inner (Marked mark body) k outer ≡ marked outer mark
inner-Marked mark body k outer = inner-as (Marked mark body) (Stmt-F.Marked mark body) k outer (rolls-Marked mark body)

inside-as : (s : Stmt) (d : Stmt-F Stmt) (scope : Scope) (k : ℕ) → roll-Stmt d ≡ s → places_inside s scope k ≡ node_places (map-Stmt Stmt (Stmt × Inside) (λ y. (y, places_inside y)) d) scope k
inside-as s d scope k is = ap (λ (x : Stmt). places_inside x scope k) (sym is) ∙ ap (λ (g : Inside). g scope k) (para-roll-Stmt Inside node_places d)

pub places-Skip : (scope : Scope) (k : ℕ) → places_inside Skip scope k ≡ []
places-Skip scope k = inside-as Skip Stmt-F.Skip scope k rolls-Skip

pub places-Set : (var : ℕ) (e : Expr) (scope : Scope) (k : ℕ) → places_inside (Set var e) scope k ≡ []
places-Set var e scope k = inside-as (Set var e) (Stmt-F.Set var e) scope k (rolls-Set var e)

pub places-then : (test : Expr) (chosen : Stmt) (scope : Scope) (k : ℕ) → places_inside (If test chosen None) scope k ≡ places_of chosen scope k
places-then test chosen scope k = inside-as (If test chosen None) (Stmt-F.If test chosen None) scope k (rolls-If test chosen None)

pub places-else : (test : Expr) (chosen other : Stmt) (scope : Scope) (k : ℕ) →
    places_inside (If test chosen (Some other)) scope k ≡ places_of chosen scope k ++ places_of other scope (k + length (places_of chosen scope k))
places-else test chosen other scope k = inside-as (If test chosen (Some other)) (Stmt-F.If test chosen (Some other)) scope k (rolls-If test chosen (Some other))

pub places-While : (test : Expr) (body : Stmt) (scope : Scope) (k : ℕ) → places_inside (While test body) scope k ≡ places_of body scope k
places-While test body scope k = inside-as (While test body) (Stmt-F.While test body) scope k (rolls-While test body)

pub places-Return : (e : Expr) (scope : Scope) (k : ℕ) → places_inside (Return e) scope k ≡ []
places-Return e scope k = inside-as (Return e) (Stmt-F.Return e) scope k (rolls-Return e)

pub places-Out : (e : Expr) (scope : Scope) (k : ℕ) → places_inside (Out e) scope k ≡ []
places-Out e scope k = inside-as (Out e) (Stmt-F.Out e) scope k (rolls-Out e)

pub places-Assert : (e : Expr) (scope : Scope) (k : ℕ) → places_inside (Assert e) scope k ≡ []
places-Assert e scope k = inside-as (Assert e) (Stmt-F.Assert e) scope k (rolls-Assert e)

pub places-Block : (all : List Stmt) (scope : Scope) (k : ℕ) → places_inside (Block all) scope k ≡ places_all all scope k
places-Block all scope k = inside-as (Block all) (Stmt-F.Block all) scope k (rolls-Block all)

pub places-Marked : (mark : ℕ) (body : Stmt) (scope : Scope) (k : ℕ) → places_inside (Marked mark body) scope k ≡ places_of body scope k
places-Marked mark body scope k = inside-as (Marked mark body) (Stmt-F.Marked mark body) scope k (rolls-Marked mark body)

-- a statement has as many places as it counts statements
abbrev Counts : Stmt → Type 0
Counts s = (outer : Scope) (k : ℕ) → length (places_of s outer k) ≡ stmt_count s

abbrev Counted : Type 0
Counted = (s : Stmt) × Counts s

count-as : (s : Stmt) (d : Stmt-F Stmt) → roll-Stmt d ≡ s → stmt_count s ≡ node_count (map-Stmt Stmt ℕ (λ y. stmt_count y) d)
count-as s d is = ap (λ (x : Stmt). stmt_count x) (sym is) ∙ fold-roll-Stmt ℕ node_count d

counts-all : (all : List Counted) (scope : Scope) (k : ℕ) → length (places_all (map (λ e. e.0) all) scope k) ≡ sum (map (λ s. stmt_count s) (map (λ e. e.0) all))
counts-all [] scope k = refl
counts-all (e ∷ all) scope k =
    length-append (places_of e.0 scope k) (places_all (map (λ e. e.0) all) scope (k + length (places_of e.0 scope k)))
    ∙ (λ i. e.1 scope k i + counts-all all scope (k + length (places_of e.0 scope k)) i)
    ∙ sym (sum_by-cons (λ n. n) (stmt_count e.0) (map (λ s. stmt_count s) (map (λ e. e.0) all)))

counts-own : (s : Stmt) (n : ℕ) → ((scope : Scope) (k : ℕ) → length (places_inside s scope k) ≡ n) → stmt_count s ≡ 1 + n → Counts s
counts-own s n long is outer k = let more : length (places_inside s (inner s k outer) (k + 1)) ≡ n = long (inner s k outer) (k + 1) in omega (arith, more, is)

counts-then : (test : Expr) (chosen : Counted) → Counts (If test chosen.0 None)
counts-then test chosen =
    counts-own (If test chosen.0 None) (stmt_count chosen.0) (λ scope k. ap (λ (ps : List Place). length ps) (places-then test chosen.0 scope k) ∙ chosen.1 scope k)
    (count-as (If test chosen.0 None) (Stmt-F.If test chosen.0 None) (rolls-If test chosen.0 None) ∙ (let e : 1 + (stmt_count chosen.0 + 0) ≡ 1 + stmt_count chosen.0 = omega arith in e))

counts-else : (test : Expr) (chosen other : Counted) → Counts (If test chosen.0 (Some other.0))
counts-else test chosen other =
    counts-own (If test chosen.0 (Some other.0)) (stmt_count chosen.0 + stmt_count other.0)
    (λ scope k.
    ap (λ (ps : List Place). length ps) (places-else test chosen.0 other.0 scope k)
    ∙ length-append (places_of chosen.0 scope k) (places_of other.0 scope (k + length (places_of chosen.0 scope k)))
    ∙ (λ i. chosen.1 scope k i + other.1 scope (k + length (places_of chosen.0 scope k)) i))
    (count-as (If test chosen.0 (Some other.0)) (Stmt-F.If test chosen.0 (Some other.0)) (rolls-If test chosen.0 (Some other.0)))

counts-leaf : (s : Stmt) (d : Stmt-F Stmt) → roll-Stmt d ≡ s → node_count (map-Stmt Stmt ℕ (λ y. stmt_count y) d) ≡ 1 → ((scope : Scope) (k : ℕ) → places_inside s scope k ≡ []) → Counts s
counts-leaf s d is one none = counts-own s 0 (λ scope k. ap (λ (ps : List Place). length ps) (none scope k)) (count-as s d is ∙ one)

counts-step : (y : Stmt-F Counted) → Counts (roll-Stmt (map-Stmt Counted Stmt (λ e. e.0) y))
counts-step Stmt-F.Skip = subst Counts (sym rolls-Skip) (counts-leaf Skip Stmt-F.Skip rolls-Skip refl places-Skip)
counts-step (Stmt-F.Set var e) = subst Counts (sym (rolls-Set var e)) (counts-leaf (Set var e) (Stmt-F.Set var e) (rolls-Set var e) refl (places-Set var e))
counts-step (Stmt-F.If test chosen None) = subst Counts (sym (rolls-If test chosen.0 None)) (counts-then test chosen)
counts-step (Stmt-F.If test chosen (Some other)) = subst Counts (sym (rolls-If test chosen.0 (Some other.0))) (counts-else test chosen other)
counts-step (Stmt-F.While test body) =
    subst Counts (sym (rolls-While test body.0))
    (counts-own (While test body.0) (stmt_count body.0) (λ scope k. ap (λ (ps : List Place). length ps) (places-While test body.0 scope k) ∙ body.1 scope k)
    (count-as (While test body.0) (Stmt-F.While test body.0) (rolls-While test body.0)))
counts-step (Stmt-F.Return e) = subst Counts (sym (rolls-Return e)) (counts-leaf (Return e) (Stmt-F.Return e) (rolls-Return e) refl (places-Return e))
counts-step (Stmt-F.Out e) = subst Counts (sym (rolls-Out e)) (counts-leaf (Out e) (Stmt-F.Out e) (rolls-Out e) refl (places-Out e))
counts-step (Stmt-F.Assert e) = subst Counts (sym (rolls-Assert e)) (counts-leaf (Assert e) (Stmt-F.Assert e) (rolls-Assert e) refl (places-Assert e))
counts-step (Stmt-F.Block all) =
    let stmts = map (λ e. e.0) all in
    subst Counts (sym (rolls-Block stmts))
    (counts-own (Block stmts) (sum (map (λ s. stmt_count s) stmts)) (λ scope k. ap (λ (ps : List Place). length ps) (places-Block stmts scope k) ∙ counts-all all scope k)
    (count-as (Block stmts) (Stmt-F.Block stmts) (rolls-Block stmts)))
counts-step (Stmt-F.Marked mark body) =
    subst Counts (sym (rolls-Marked mark body.0))
    (counts-own (Marked mark body.0) (stmt_count body.0) (λ scope k. ap (λ (ps : List Place). length ps) (places-Marked mark body.0 scope k) ∙ body.1 scope k)
    (count-as (Marked mark body.0) (Stmt-F.Marked mark body.0) (rolls-Marked mark body.0)))

pub places-count : (s : Stmt) (outer : Scope) (k : ℕ) → length (places_of s outer k) ≡ stmt_count s
places-count s = ind-Stmt Counts (λ z y is. subst (λ (w : Stmt-F Stmt). Counts (roll-Stmt w)) is (counts-step y)) s
