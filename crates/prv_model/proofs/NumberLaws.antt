-- The statements inside a statement, variant by variant, and how many they are.
use Rattle.std.proofs.Common.{◌≡◌, ℕ, suc, ◌+◌, List, [], ◌∷◌, ◌++◌, length, map, Option, Some, None, refl, sym, ap, ◌∙◌, subst, sum, arith, length-append}
use Rattle.std.specs.Option.{option_map}
use Rattle.std.proofs.lemmas.List.Sums.{sum_by-cons}
use Rattle.std.specs.List.{flat_map}
use Rattle.prv_model.specs.Numbers.{with_inside, branch_inside, node_inside, inside, statements, statements_all}
use Rattle.prv_model.specs.Programs.{counted, node_count, stmt_count}
use Rattle.prv_model.specs.declared.expr.Expr.{Expr}
use Rattle.prv_model.specs.declared.stmt.Stmt.{Stmt, roll-Stmt}
use Rattle.prv_model.specs.declared.stmt.Stmt.TheOpen.{Stmt-F}
use Rattle.prv_model.specs.declared.stmt.Stmt.TheFolds.{para-Stmt, para-roll-Stmt, fold-Stmt, fold-roll-Stmt, ind-Stmt, map-Stmt}
use Rattle.prv_model.specs.declared.stmt.Stmt.TheVariants.{Skip, Set, If, While, Return, Out, Assert, Block, Marked, rolls-Skip, rolls-Set, rolls-If, rolls-While, rolls-Return, rolls-Out, rolls-Assert, rolls-Block, rolls-Marked}

pub inside-If : (test : Expr) (chosen : Stmt) (other : Option Stmt) → inside (If test chosen other) ≡ statements chosen ++ branch_inside (option_map (λ s. (s, inside s)) other)
inside-If test chosen None = ap (λ (s : Stmt). inside s) (sym (rolls-If test chosen None)) ∙ para-roll-Stmt (List Stmt) node_inside (Stmt-F.If test chosen None)
inside-If test chosen (Some o) = ap (λ (s : Stmt). inside s) (sym (rolls-If test chosen (Some o))) ∙ para-roll-Stmt (List Stmt) node_inside (Stmt-F.If test chosen (Some o))

pub inside-While : (test : Expr) (body : Stmt) → inside (While test body) ≡ statements body
inside-While test body = ap (λ (s : Stmt). inside s) (sym (rolls-While test body)) ∙ para-roll-Stmt (List Stmt) node_inside (Stmt-F.While test body)

pub inside-Marked : (mark : ℕ) (body : Stmt) → inside (Marked mark body) ≡ statements body
inside-Marked mark body = ap (λ (s : Stmt). inside s) (sym (rolls-Marked mark body)) ∙ para-roll-Stmt (List Stmt) node_inside (Stmt-F.Marked mark body)

flat-pairs : (all : List Stmt) → flat_map with_inside (map (λ s. (s, inside s)) all) ≡ statements_all all
flat-pairs [] = refl
flat-pairs (s ∷ all) = ap (λ (rest : List Stmt). statements s ++ rest) (flat-pairs all)

pub inside-Block : (all : List Stmt) → inside (Block all) ≡ statements_all all
inside-Block all = ap (λ (s : Stmt). inside s) (sym (rolls-Block all)) ∙ para-roll-Stmt (List Stmt) node_inside (Stmt-F.Block all) ∙ flat-pairs all

-- a statement and those inside it are as many as it counts
abbrev Counts : Stmt → Type 0
Counts s = length (statements s) ≡ stmt_count s

abbrev Counted : Type 0
Counted = (s : Stmt) × Counts s

counts-all : (all : List Counted) → length (flat_map with_inside (map (λ s. (s, inside s)) (map (λ e. e.0) all))) ≡ sum (map (λ s. stmt_count s) (map (λ e. e.0) all))
counts-all [] = refl
counts-all (e ∷ all) =
    length-append (statements e.0) (flat_map with_inside (map (λ s. (s, inside s)) (map (λ e. e.0) all)))
    ∙ ap (λ (n : ℕ). length (statements e.0) + n) (counts-all all) ∙ ap (λ (n : ℕ). n + sum (map (λ s. stmt_count s) (map (λ e. e.0) all))) e.1
    ∙ sym (sum_by-cons (λ n. n) (stmt_count e.0) (map (λ s. stmt_count s) (map (λ e. e.0) all)))

counts-step : (y : Stmt-F Counted) → Counts (roll-Stmt (map-Stmt Counted Stmt (λ e. e.0) y))
counts-step Stmt-F.Skip = rw (para-roll-Stmt (List Stmt) node_inside Stmt-F.Skip, fold-roll-Stmt ℕ node_count Stmt-F.Skip) refl
counts-step (Stmt-F.Set var e) = rw (para-roll-Stmt (List Stmt) node_inside (Stmt-F.Set var e), fold-roll-Stmt ℕ node_count (Stmt-F.Set var e)) refl
counts-step (Stmt-F.If test chosen None) =
    rw (para-roll-Stmt (List Stmt) node_inside (Stmt-F.If test chosen.0 None), fold-roll-Stmt ℕ node_count (Stmt-F.If test chosen.0 None))
    (let two = length-append (statements chosen.0) [] in let one = chosen.1 in omega arith)
counts-step (Stmt-F.If test chosen (Some other)) =
    rw (para-roll-Stmt (List Stmt) node_inside (Stmt-F.If test chosen.0 (Some other.0)), fold-roll-Stmt ℕ node_count (Stmt-F.If test chosen.0 (Some other.0)))
    (let two = length-append (statements chosen.0) (statements other.0) in let one = chosen.1 in let more = other.1 in omega arith)
counts-step (Stmt-F.While test body) =
    rw (para-roll-Stmt (List Stmt) node_inside (Stmt-F.While test body.0), fold-roll-Stmt ℕ node_count (Stmt-F.While test body.0))
    (let one = body.1 in omega arith)
counts-step (Stmt-F.Return e) = rw (para-roll-Stmt (List Stmt) node_inside (Stmt-F.Return e), fold-roll-Stmt ℕ node_count (Stmt-F.Return e)) refl
counts-step (Stmt-F.Out e) = rw (para-roll-Stmt (List Stmt) node_inside (Stmt-F.Out e), fold-roll-Stmt ℕ node_count (Stmt-F.Out e)) refl
counts-step (Stmt-F.Assert e) = rw (para-roll-Stmt (List Stmt) node_inside (Stmt-F.Assert e), fold-roll-Stmt ℕ node_count (Stmt-F.Assert e)) refl
counts-step (Stmt-F.Block all) =
    rw (para-roll-Stmt (List Stmt) node_inside (Stmt-F.Block (map (λ e. e.0) all)), fold-roll-Stmt ℕ node_count (Stmt-F.Block (map (λ e. e.0) all)))
    (let rest = counts-all all in omega arith)
counts-step (Stmt-F.Marked mark body) =
    rw (para-roll-Stmt (List Stmt) node_inside (Stmt-F.Marked mark body.0), fold-roll-Stmt ℕ node_count (Stmt-F.Marked mark body.0))
    (let one = body.1 in omega arith)

pub counts : (s : Stmt) → length (statements s) ≡ stmt_count s
counts s = ind-Stmt Counts (λ z y is. subst (λ (w : Stmt-F Stmt). Counts (roll-Stmt w)) is (counts-step y)) s

-- nothing is inside a statement of another variant
abbrev HasNone : Stmt → Type 0
HasNone s =
    ((test : Expr) (chosen : Stmt) (other : Option Stmt) → s ≡ If test chosen other → ⊥) →
    ((test : Expr) (body : Stmt) → s ≡ While test body → ⊥) →
    ((all : List Stmt) → s ≡ Block all → ⊥) →
    ((mark : ℕ) (body : Stmt) → s ≡ Marked mark body → ⊥) → inside s ≡ []

none-step : (y : Stmt-F ((s : Stmt) × HasNone s)) → HasNone (roll-Stmt (map-Stmt ((s : Stmt) × HasNone s) Stmt (λ e. e.0) y))
none-step Stmt-F.Skip = λ a b c d. para-roll-Stmt (List Stmt) node_inside Stmt-F.Skip
none-step (Stmt-F.Set var e) = λ a b c d. para-roll-Stmt (List Stmt) node_inside (Stmt-F.Set var e)
none-step (Stmt-F.If test chosen None) = λ a b c d. absurd (a test chosen.0 None (rolls-If test chosen.0 None))
none-step (Stmt-F.If test chosen (Some o)) = λ a b c d. absurd (a test chosen.0 (Some o.0) (rolls-If test chosen.0 (Some o.0)))
none-step (Stmt-F.While test body) = λ a b c d. absurd (b _ _ (rolls-While test body.0))
none-step (Stmt-F.Return e) = λ a b c d. para-roll-Stmt (List Stmt) node_inside (Stmt-F.Return e)
none-step (Stmt-F.Out e) = λ a b c d. para-roll-Stmt (List Stmt) node_inside (Stmt-F.Out e)
none-step (Stmt-F.Assert e) = λ a b c d. para-roll-Stmt (List Stmt) node_inside (Stmt-F.Assert e)
none-step (Stmt-F.Block all) = λ a b c d. absurd (c _ (rolls-Block (map (λ e. e.0) all)))
none-step (Stmt-F.Marked mark body) = λ a b c d. absurd (d _ _ (rolls-Marked mark body.0))

pub inside-none : (s : Stmt) →
    ((test : Expr) (chosen : Stmt) (other : Option Stmt) → s ≡ If test chosen other → ⊥) →
    ((test : Expr) (body : Stmt) → s ≡ While test body → ⊥) →
    ((all : List Stmt) → s ≡ Block all → ⊥) →
    ((mark : ℕ) (body : Stmt) → s ≡ Marked mark body → ⊥) → inside s ≡ []
inside-none s = ind-Stmt HasNone (λ z y is. subst (λ (w : Stmt-F Stmt). HasNone (roll-Stmt w)) is (none-step y)) s

pub inside-Skip : inside Skip ≡ []
inside-Skip = ap (λ (s : Stmt). inside s) (sym rolls-Skip) ∙ para-roll-Stmt (List Stmt) node_inside Stmt-F.Skip

pub inside-Set : (var : ℕ) (e : Expr) → inside (Set var e) ≡ []
inside-Set var e = ap (λ (s : Stmt). inside s) (sym (rolls-Set var e)) ∙ para-roll-Stmt (List Stmt) node_inside (Stmt-F.Set var e)

pub inside-Return : (e : Expr) → inside (Return e) ≡ []
inside-Return e = ap (λ (s : Stmt). inside s) (sym (rolls-Return e)) ∙ para-roll-Stmt (List Stmt) node_inside (Stmt-F.Return e)

pub inside-Out : (e : Expr) → inside (Out e) ≡ []
inside-Out e = ap (λ (s : Stmt). inside s) (sym (rolls-Out e)) ∙ para-roll-Stmt (List Stmt) node_inside (Stmt-F.Out e)

pub inside-Assert : (e : Expr) → inside (Assert e) ≡ []
inside-Assert e = ap (λ (s : Stmt). inside s) (sym (rolls-Assert e)) ∙ para-roll-Stmt (List Stmt) node_inside (Stmt-F.Assert e)
