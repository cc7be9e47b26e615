-- The steps of the code's loops.
use Rattle.std.proofs.Common.{◌≡◌, ℕ, zero, suc, ◌+◌, ◌-◌, ◌<◌, Bool, true, false, List, [], ◌∷◌, ◌++◌, Option, Some, None, if◌then◌else◌, refl, sym, ap, ◌∙◌, arith, filter}
use Rattle.prv_model.specs.declared.stmt.Stmt.{Stmt}
use Rattle.prv_model.specs.declared.stmt.Stmt.TheOpen.{Stmt-F}
use Rattle.prv_model.specs.declared.stmt.Stmt.TheFolds.{fold-roll-Stmt}
use Rattle.prv_model.specs.declared.stmt.Stmt.TheVariants.{Skip, rolls-Skip}
use Rattle.prv_dep.specs.Dependences.{writes, node_writes, overwrites, node_overwrites, may_leave, node_may_leave}
use Rattle.prv_dep.specs.Tables.{mask, reads, node_reads, row, row_at}
use Rattle.prv_dep.specs.declared.writes.Row.{Row}
use Rattle.prv_select.specs.declared.places.Place.{Place}
use Rattle.prv_select.specs.Choices.{numbers_from, rising_below}
use Rattle.prv_select.specs.Places.{place_at}
use Rattle.prv_select.specs.BackwardWalks.{is_relevant, or_else, outermost}

-- `;` depends on nothing
pub row-Skip : record { writes = 0; overwrites = 0; reads = 0; leaves = false } ≡ row Skip
row-Skip =
    let written : 0 ≡ mask (writes Skip) = ap (λ (vs : List ℕ). mask vs) (sym (ap (λ (s : Stmt). writes s) (sym rolls-Skip) ∙ fold-roll-Stmt (List ℕ) node_writes Stmt-F.Skip)) in
    let over : 0 ≡ mask (overwrites Skip) = ap (λ (vs : List ℕ). mask vs) (sym (ap (λ (s : Stmt). overwrites s) (sym rolls-Skip) ∙ fold-roll-Stmt (List ℕ) node_overwrites Stmt-F.Skip)) in
    let read : 0 ≡ mask (reads Skip) = ap (λ (vs : List ℕ). mask vs) (sym (ap (λ (s : Stmt). reads s) (sym rolls-Skip) ∙ fold-roll-Stmt (List ℕ) node_reads Stmt-F.Skip)) in
    let left : false ≡ may_leave Skip = sym (ap (λ (s : Stmt). may_leave s) (sym rolls-Skip) ∙ fold-roll-Stmt Bool node_may_leave Stmt-F.Skip) in
    λ i. record { writes = written i; overwrites = over i; reads = read i; leaves = left i }

or-assoc : (a b d : Option ℕ) → or_else (or_else a b) d ≡ or_else a (or_else b d)
or-assoc None b d = refl
or-assoc (Some k) b d = refl

or-choice : (b : Bool) (k : ℕ) (found : Option ℕ) → or_else (if b then None else Some k) found ≡ (if b then found else Some k)
or-choice true k found = refl
or-choice false k found = refl

module _ (places : List Place) (rows : List Row) (needed : ℕ) where
  none-left : (n : ℕ) → outermost places rows needed n None ≡ None
  none-left zero = refl
  none-left (suc n) = refl

  -- one `if` further outward, where there is none, and where there is one
  pub outward-none : (count i : ℕ) (at at' found found' whole : Option ℕ) → at ≡ None → at' ≡ at → found' ≡ found →
      or_else (outermost places rows needed (count - i) at) found ≡ whole → or_else (outermost places rows needed (count - (i + 1)) at') found' ≡ whole
  outward-none count i at at' found found' whole none same kept so =
      (λ j. or_else (outermost places rows needed (count - (i + 1)) ((same ∙ none) j)) (kept j)) ∙ ap (λ (o : Option ℕ). or_else o found) (none-left (count - (i + 1)))
      ∙ sym (ap (λ (o : Option ℕ). or_else o found) (ap (λ (o : Option ℕ). outermost places rows needed (count - i) o) none ∙ none-left (count - i))) ∙ so

  pub outward-some : (count i k : ℕ) (at at' found found' whole : Option ℕ) (b : Bool) → i < count → at ≡ Some k → at' ≡ (place_at places k).outer.nearest → is_relevant (row_at rows k) needed ≡ b →
      found' ≡ (if b then found else Some k) →
      or_else (outermost places rows needed (count - i) at) found ≡ whole → or_else (outermost places rows needed (count - (i + 1)) at') found' ≡ whole
  outward-some count i k at at' found found' whole b low some further relevant kept so =
      let rest = outermost places rows needed (count - (i + 1)) (place_at places k).outer.nearest in
      let more : count - i ≡ suc (count - (i + 1)) = omega arith in
      let step : or_else (outermost places rows needed (count - i) at) found ≡ or_else (or_else rest (if b then None else Some k)) found =
      (λ j. or_else (outermost places rows needed (more j) (some j)) found) ∙ ap (λ (z : Bool). or_else (or_else rest (if z then None else Some k)) found) relevant in
      (λ j. or_else (outermost places rows needed (count - (i + 1)) (further j)) ((kept ∙ sym (or-choice b k found)) j)) ∙ sym (or-assoc rest (if b then None else Some k) found) ∙ sym step ∙ so

numbers-more : (j k n : ℕ) → n ≡ j + k → numbers_from j (suc k) ≡ numbers_from j k ++ n ∷ []
numbers-more j zero n is = let e : j ≡ n = omega (arith, is) in ap (λ (m : ℕ). m ∷ []) e
numbers-more j (suc k) n is = ap (λ (ns : List ℕ). j ∷ ns) (numbers-more (suc j) k n (omega (arith, is)))

filter-append : (f : ℕ → Bool) (a b : List ℕ) → filter f (a ++ b) ≡ filter f a ++ filter f b
filter-append f [] b = refl
filter-append f (x ∷ a) b = by (f x) (filter-append f a b)
  where
    by : (z : Bool) → filter f (a ++ b) ≡ filter f a ++ filter f b → (if z then x ∷ filter f (a ++ b) else filter f (a ++ b)) ≡ (if z then x ∷ filter f a else filter f a) ++ filter f b
    by true e = ap (λ (ns : List ℕ). x ∷ ns) e
    by false e = e

-- the marks below a number: none, and one more
pub rising-none : (f : ℕ → Bool) (marks : List ℕ) → marks ≡ [] → marks ≡ rising_below f 0
unfolding rising_below
rising-none f marks is = is

pub rising-next : (f : ℕ → Bool) (k : ℕ) (was now : List ℕ) → now ≡ was ++ filter f (k ∷ []) → was ≡ rising_below f k → now ≡ rising_below f (k + 1)
unfolding rising_below
rising-next f k was now is so =
    let e : suc k ≡ k + 1 = omega arith in
    is ∙ ap (λ (ns : List ℕ). ns ++ filter f (k ∷ [])) so ∙ sym (filter-append f (numbers_from 0 k) (k ∷ []))
    ∙ ap (λ (ns : List ℕ). filter f ns) (sym (numbers-more 0 k k (omega arith)) ∙ ap (λ (n : ℕ). numbers_from 0 n) e)
