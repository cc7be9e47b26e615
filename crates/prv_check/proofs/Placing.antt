-- Flags by rounds, and tables by literal.
use Rattle.std.proofs.Common.{◌≡◌, ℕ, suc, zero, ◌+◌, ◌*◌, ◌<◌, ◌≤◌, Bool, true, false, ◌&&◌, ◌||◌, List, [], ◌∷◌, length, map, replicate, refl, sym, subst, ◌∙◌, inl, inr, arith, get_or}
use Rattle.std.specs.Prelude.{nat_eq, nat_lt}
use Rattle.std.specs.List.{All, list_all}
use Rattle.std.proofs.lemmas.List.Sums.{AllPass-from_list_all}
use Rattle.std.proofs.Math.Bool.{and-false, or-true}
use Rattle.std.proofs.lemmas.Bool.{true≢false, cases_lt, ne_eqb, and_parts, leb-true, lt-ltb, and_from}
use Rattle.std.proofs.lemmas.List.{length-replicate, get_or-replicate}
use Rattle.std.proofs.lemmas.List.Folds.{Any-from_list_any}
use Rattle.std.proofs.Math.ListN.{get_or-eq_default}
use Rattle.prv_cnf.specs.declared.literal.Lit.{Lit}
use Rattle.prv_cnf.specs.Literals.{variable, same_literal, has_literal}
use Rattle.prv_cnf.specs.Places.{place_of}
use Rattle.prv_cnf.proofs.Values.{same_literal-eq, same_literal_refl}
use Rattle.prv_cnf.proofs.Placing.{place_of-le}
use Rattle.prv_check.specs.Lines.{is_within}
use Rattle.prv_check.specs.Inner.Tables.{flag, are_flagged, IsTableOf, AreFlagged}

-- ---- flags by rounds

-- no round is the next one
pub cleared : (s : ℕ) (rs : List ℕ) → All (λ r. r ≤ s) rs → map (nat_eq (s + 1)) rs ≡ replicate (length rs) false
cleared s [] all = refl
cleared s (r ∷ rs) all =
    let low : r ≤ s = all 0 r (omega arith) in
    let head : nat_eq (s + 1) r ≡ false = ne_eqb (s + 1) r (λ e. omega arith) in
    let tail : map (nat_eq (s + 1)) rs ≡ replicate (length rs) false = cleared s rs (λ k d inside. all (suc k) d (omega arith)) in
    rw (head, tail) refl

pub map-replicate : {A B : Type 0} (f : A → B) (n : ℕ) (x : A) → map f (replicate n x) ≡ replicate n (f x)
map-replicate f zero x = refl
map-replicate f (suc n) x = rw (map-replicate f n x) refl

pub nothing_set : (n k : ℕ) → get_or (replicate n false) k false ≡ false
nothing_set n k =
    elim (cases_lt k n) [
      | inl inside ↦ get_or-replicate n k false false inside
      | inr past ↦ get_or-eq_default (replicate n false) false (rw length-replicate past)
    ]

pub nothing_flagged : (n : ℕ) (l : Lit) → flag (replicate n false) l ≡ false
nothing_flagged n l = nothing_set n (place_of l)

-- ---- tables of the literals of a list

-- literals of the first n variables have places in a table for them
pub within_places : (n size : ℕ) (ls : List Lit) → list_all (is_within n) ls ≡ true → size ≡ 2 * n + 1 → All (λ l. place_of l < size) ls
within_places n size ls within e k d inside =
    let low = and_parts (nat_lt 0 (variable (get_or ls k d))) _ (AllPass-from_list_all (is_within n) ls within k d inside) in
    omega (arith, place_of-le (get_or ls k d), leb-true (variable (get_or ls k d)) n low.1)

-- a literal that stands in a list whose literals have places has one
has_place : (size : ℕ) (ls : List Lit) (l : Lit) → All (λ x. place_of x < size) ls → has_literal ls l ≡ true → place_of l < size
has_place size ls l places here =
    let (j, x, inside, at_j, same) = Any-from_list_any (same_literal l) ls here in
    let e : get_or ls j x ≡ l = at_j ∙ sym (same_literal-eq l x same) in
    subst (λ (y : Lit). place_of y < size) e (places j x inside)

-- the literals of a list, all of which have places, are those of the table that they were set in
pub is_table : (size : ℕ) (ls : List Lit) (table : List Bool) → All (λ l. place_of l < size) ls → ((l : Lit) → flag table l ≡ (nat_lt (place_of l) size && has_literal ls l)) → IsTableOf table ls
is_table size ls table places flagged l = by (has_literal ls l) refl
  where
    by : (b : Bool) → has_literal ls l ≡ b → flag table l ≡ has_literal ls l
    by true here =
        flagged l ∙ (rw (lt-ltb (place_of l) size (has_place size ls l places here)) refl)
    by false gone = flagged l ∙ (rw gone (and-false (nat_lt (place_of l) size)))

-- literals that have places are set where all that have places are
pub all_have_places : (ls : List Lit) (table : List Bool) → All (λ l. place_of l < length table) ls → AreFlagged table ls → are_flagged table ls ≡ true
all_have_places ls table places flagged = go ls (λ l h. h)
  where
    go : (xs : List Lit) → ((l : Lit) → has_literal xs l ≡ true → has_literal ls l ≡ true) → are_flagged table xs ≡ true
    go [] some = refl
    go (x ∷ xs) some =
        let here : has_literal ls x ≡ true = some x (rw (same_literal_refl x) refl) in
        and_from (flag table x) (are_flagged table xs)
        (flagged x here (has_place (length table) ls x places here))
        (go xs (λ l h. some l (rw h (or-true (same_literal l x)))))

-- what is flagged has a place
flag_has_place : (table : List Bool) (l : Lit) → flag table l ≡ true → place_of l < length table
flag_has_place table l set =
    elim (cases_lt (place_of l) (length table)) [
      | inl inside ↦ inside
      | inr past ↦ absurd (true≢false (sym set ∙ get_or-eq_default table false past))
    ]

pub flagged_have_places : (table : List Bool) (n : ℕ) (ls : List Lit) → length table ≡ n → are_flagged table ls ≡ true → All (λ l. place_of l < n) ls
flagged_have_places table n ls size flagged k d inside =
    omega (arith, flag_has_place table (get_or ls k d) (AllPass-from_list_all (flag table) ls flagged k d inside))

-- what was set stays set, and what is added is set
pub flagged_kept : (old new : List Bool) (ls added : List Lit) → length new ≡ length old → ((l : Lit) → flag new l ≡ (flag old l || (nat_lt (place_of l) (length old) && has_literal added l))) → AreFlagged old ls → AreFlagged new ls
flagged_kept old new ls added size flagged before l here inside = flagged l ∙ (rw (before l here (rw (← size) inside)) refl)

pub flagged_added : (old new : List Bool) (added : List Lit) → length new ≡ length old → ((l : Lit) → flag new l ≡ (flag old l || (nat_lt (place_of l) (length old) && has_literal added l))) → AreFlagged new added
flagged_added old new added size flagged l here inside =
    let low : nat_lt (place_of l) (length old) ≡ true = lt-ltb (place_of l) (length old) (rw (← size) inside) in
    flagged l ∙ (rw (low, here) (or-true (flag old l)))
