-- How the table of places is put together.
use Rattle.std.proofs.Common.{◌≡◌, ℕ, ◌+◌, ◌<◌, ◌≤◌, List, [], ◌∷◌, ◌++◌, length, drop, get_or, Option, Some, None, sym, ap, ◌∙◌, append_assoc, length-append}
use Rattle.std.proofs.lemmas.List.{append-nil, drop_more, drop_all}
use Rattle.prv_model.specs.declared.expr.Expr.{Expr}
use Rattle.prv_model.specs.declared.stmt.Stmt.{Stmt, roll-Stmt, out-Stmt, roll-out-Stmt}
use Rattle.prv_model.specs.declared.stmt.Stmt.TheOpen.{Stmt-F}
use Rattle.prv_model.specs.declared.stmt.Stmt.TheVariants.{If, While, Block, Marked, rolls-Skip, rolls-Set, rolls-If, rolls-While, rolls-Return, rolls-Out, rolls-Assert, rolls-Block, rolls-Marked}
use Rattle.prv_select.specs.declared.places.Scope.{Scope}
use Rattle.prv_select.specs.declared.places.Place.{Place}
use Rattle.prv_select.specs.Places.{places_inside, places_of, places_all}
use Rattle.prv_select.proofs.PlaceLaws as p

-- the places that were added are those of the statements inside
placed : (s t : Stmt) (scope : Scope) (old new more : List Place) → s ≡ t → places_inside t scope (length old) ≡ more → new ≡ old ++ more → new ≡ old ++ places_inside s scope (length old)
placed s t scope old new more is law done = done ∙ ap (λ (ps : List Place). old ++ ps) (sym law ∙ ap (λ (x : Stmt). places_inside x scope (length old)) (sym is))

pub placed-then : (s chosen : Stmt) (other : Option Stmt) (test : Expr) (scope : Scope) (old new : List Place) → s ≡ If test chosen other → other ≡ None →
    new ≡ old ++ places_of chosen scope (length old) → new ≡ old ++ places_inside s scope (length old)
placed-then s chosen other test scope old new is none done =
    placed s (If test chosen None) scope old new _ (is ∙ ap (λ (o : Option Stmt). If test chosen o) none) (p.places-then test chosen scope (length old)) done

pub placed-else : (s chosen last : Stmt) (other : Option Stmt) (test : Expr) (scope : Scope) (old mid new : List Place) → s ≡ If test chosen other → other ≡ Some last →
    mid ≡ old ++ places_of chosen scope (length old) → new ≡ mid ++ places_of last scope (length mid) → new ≡ old ++ places_inside s scope (length old)
placed-else s chosen last other test scope old mid new is some front back =
    let first = places_of chosen scope (length old) in
    let long : length mid ≡ length old + length first = ap (λ (ps : List Place). length ps) front ∙ length-append old first in
    placed s (If test chosen (Some last)) scope old new _ (is ∙ ap (λ (o : Option Stmt). If test chosen o) some) (p.places-else test chosen last scope (length old))
    (back ∙ ap (λ (n : ℕ). mid ++ places_of last scope n) long ∙ ap (λ (ps : List Place). ps ++ places_of last scope (length old + length first)) front
    ∙ append_assoc old first (places_of last scope (length old + length first)))

pub placed-While : (s body : Stmt) (test : Expr) (scope : Scope) (old new : List Place) → s ≡ While test body → new ≡ old ++ places_of body scope (length old) → new ≡ old ++ places_inside s scope (length old)
placed-While s body test scope old new is done = placed s (While test body) scope old new _ is (p.places-While test body scope (length old)) done

pub placed-Block : (s : Stmt) (all : List Stmt) (scope : Scope) (old new : List Place) → s ≡ Block all → new ≡ old ++ places_all all scope (length old) → new ≡ old ++ places_inside s scope (length old)
placed-Block s all scope old new is done = placed s (Block all) scope old new _ is (p.places-Block all scope (length old)) done

pub placed-Marked : (s body : Stmt) (mark : ℕ) (scope : Scope) (old new : List Place) → s ≡ Marked mark body → new ≡ old ++ places_of body scope (length old) → new ≡ old ++ places_inside s scope (length old)
placed-Marked s body mark scope old new is done = placed s (Marked mark body) scope old new _ is (p.places-Marked mark body scope (length old)) done

-- nothing is inside a statement of another variant
abbrev HasNone : Stmt → Type 0
HasNone s =
    ((test : Expr) (chosen : Stmt) (other : Option Stmt) → s ≡ If test chosen other → ⊥) →
    ((test : Expr) (body : Stmt) → s ≡ While test body → ⊥) →
    ((all : List Stmt) → s ≡ Block all → ⊥) →
    ((mark : ℕ) (body : Stmt) → s ≡ Marked mark body → ⊥) → (scope : Scope) (k : ℕ) → places_inside s scope k ≡ []

none-as : (s : Stmt) (d : Stmt-F Stmt) → roll-Stmt d ≡ s → HasNone s
none-as s Stmt-F.Skip is = λ a b c d scope k. ap (λ (x : Stmt). places_inside x scope k) (sym is ∙ rolls-Skip) ∙ p.places-Skip scope k
none-as s (Stmt-F.Set var e) is = λ a b c d scope k. ap (λ (x : Stmt). places_inside x scope k) (sym is ∙ rolls-Set var e) ∙ p.places-Set var e scope k
none-as s (Stmt-F.If test chosen other) is = λ a b c d scope k. absurd (a test chosen other (sym is ∙ rolls-If test chosen other))
none-as s (Stmt-F.While test body) is = λ a b c d scope k. absurd (b test body (sym is ∙ rolls-While test body))
none-as s (Stmt-F.Return e) is = λ a b c d scope k. ap (λ (x : Stmt). places_inside x scope k) (sym is ∙ rolls-Return e) ∙ p.places-Return e scope k
none-as s (Stmt-F.Out e) is = λ a b c d scope k. ap (λ (x : Stmt). places_inside x scope k) (sym is ∙ rolls-Out e) ∙ p.places-Out e scope k
none-as s (Stmt-F.Assert e) is = λ a b c d scope k. ap (λ (x : Stmt). places_inside x scope k) (sym is ∙ rolls-Assert e) ∙ p.places-Assert e scope k
none-as s (Stmt-F.Block all) is = λ a b c d scope k. absurd (c all (sym is ∙ rolls-Block all))
none-as s (Stmt-F.Marked mark body) is = λ a b c d scope k. absurd (d mark body (sym is ∙ rolls-Marked mark body))

pub placed-none : (s : Stmt) (scope : Scope) (old : List Place) →
    ((test : Expr) (chosen : Stmt) (other : Option Stmt) → s ≡ If test chosen other → ⊥) →
    ((test : Expr) (body : Stmt) → s ≡ While test body → ⊥) →
    ((all : List Stmt) → s ≡ Block all → ⊥) →
    ((mark : ℕ) (body : Stmt) → s ≡ Marked mark body → ⊥) → old ≡ old ++ places_inside s scope (length old)
placed-none s scope old a b c d = sym (append-nil old) ∙ ap (λ (ps : List Place). old ++ ps) (sym (none-as s (out-Stmt s) (roll-out-Stmt s) a b c d scope (length old)))

-- one statement more
pub placed-next : (all : List Stmt) (i : ℕ) (x : Stmt) (scope : Scope) (was now whole : List Place) → i < length all → x ≡ get_or all i x → now ≡ was ++ places_of x scope (length was) →
    was ++ places_all (drop i all) scope (length was) ≡ whole → now ++ places_all (drop (i + 1) all) scope (length now) ≡ whole
placed-next all i x scope was now whole low is done so =
    let own = places_of x scope (length was) in
    let rest = drop (i + 1) all in
    let next : drop i all ≡ x ∷ rest = drop_more all i x low ∙ ap (λ (s : Stmt). s ∷ rest) (sym is) in
    let long : length now ≡ length was + length own = ap (λ (ps : List Place). length ps) done ∙ length-append was own in
    ap (λ (n : ℕ). now ++ places_all rest scope n) long ∙ ap (λ (ps : List Place). ps ++ places_all rest scope (length was + length own)) done
    ∙ append_assoc was own (places_all rest scope (length was + length own))
    ∙ ap (λ (xs : List Stmt). was ++ places_all xs scope (length was)) (sym next) ∙ so

pub placed-last : (all : List Stmt) (i : ℕ) (scope : Scope) (now whole : List Place) → length all ≤ i → now ++ places_all (drop i all) scope (length now) ≡ whole → now ≡ whole
placed-last all i scope now whole past so = sym (append-nil now) ∙ ap (λ (xs : List Stmt). now ++ places_all xs scope (length now)) (sym (drop_all i all past)) ∙ so
