-- What the hints of a line made true, and what is used of it.
use Rattle.std.proofs.Common.{◌≡◌, ℕ, suc, zero, ◌<◌, ◌≤◌, Bool, true, false, ◌&&◌, ◌||◌, List, [], ◌∷◌, ◌++◌, map, length, drop, get_or, Option, None, Some, refl, sym, ap, ◌∙◌, arith}
use Rattle.std.specs.Prelude.{slice_get, slice_index_or}
use Rattle.std.specs.List.{All, list_all}
use Rattle.std.proofs.lemmas.Bool.{and_parts}
use Rattle.std.specs.Option.{option_map_or}
use Rattle.std.proofs.lemmas.List.{append-nil, append_assoc, length-append, length-map}
use Rattle.std.proofs.Math.Seq.{drop-cons, drop-append_seam}
use Rattle.prv_cnf.specs.declared.literal.Lit.{Lit}
use Rattle.prv_cnf.specs.Literals.{negate, has_literal}
use Rattle.prv_check.specs.Propagation.{unit_literal, trail_after}
use Rattle.prv_check.specs.Lines.{clauses_at}
use Rattle.prv_cnf.specs.Places.{place_of}
use Rattle.prv_check.specs.Inner.Tables.{flag, are_flagged}
use Rattle.prv_check.specs.Freshness.{stands_in, units_used, have_use}

-- what the clauses make true, in turn
abbrev pub units_of : List Lit → List (List Lit) → List Lit
units_of trues [] = []
units_of trues (c ∷ []) = []
units_of trues (c ∷ (d ∷ cs)) =
    option_map_or (λ l. l ∷ units_of (trues ++ l ∷ []) (d ∷ cs)) (unit_literal trues c) []

pub trail_is : (trues : List Lit) (cs : List (List Lit)) → trail_after trues cs ≡ trues ++ units_of trues cs
trail_is trues [] = sym (append-nil trues)
trail_is trues (c ∷ []) = sym (append-nil trues)
trail_is trues (c ∷ (d ∷ cs)) =
    elim (unit_literal trues c) as (λ o. option_map_or (λ l. trail_after (trues ++ l ∷ []) (d ∷ cs)) o trues ≡ trues ++ option_map_or (λ l. l ∷ units_of (trues ++ l ∷ []) (d ∷ cs)) o []) [
      | None ↦ sym (append-nil trues)
      | Some l ↦ trail_is (trues ++ l ∷ []) (d ∷ cs) ∙ append_assoc trues (l ∷ []) (units_of (trues ++ l ∷ []) (d ∷ cs))
    ]

used_is : (trues : List Lit) (cs : List (List Lit)) → units_used trues cs ≡ have_use (units_of trues cs) cs
used_is trues [] = refl
used_is trues (c ∷ []) = refl
used_is trues (c ∷ (d ∷ cs)) =
    elim (unit_literal trues c) as (λ o. option_map_or (λ l. stands_in (d ∷ cs) (negate l) && units_used (trues ++ l ∷ []) (d ∷ cs)) o true ≡ have_use (option_map_or (λ l. l ∷ units_of (trues ++ l ∷ []) (d ∷ cs)) o []) (c ∷ (d ∷ cs))) [
      | None ↦ refl
      | Some l ↦ rw (used_is (trues ++ l ∷ []) (d ∷ cs)) refl
    ]

-- the trail's part after those that it began with
pub use_by_trail : (trues : List Lit) (cs : List (List Lit)) (n : ℕ) → n ≡ length trues → have_use (drop n (trail_after trues cs)) cs ≡ units_used trues cs
use_by_trail trues cs n e = rw (e, trail_is trues cs, drop-append_seam trues (units_of trues cs)) (sym (used_is trues cs))

-- a hint more, before those that were looked at
pub use_step : (n : ℕ) (us : List Lit) (cs : List (List Lit)) (hs : List ℕ) → n < length hs → have_use (drop n us) (clauses_at cs (drop n hs)) ≡ (option_map_or (λ u. stands_in (clauses_at cs (drop (suc n) hs)) (negate u)) (slice_get us n) true && have_use (drop (suc n) us) (clauses_at cs (drop (suc n) hs)))
use_step n us cs [] inside = absurd (omega arith)
use_step zero [] cs (h ∷ hs) inside = refl
use_step zero (u ∷ us) cs (h ∷ hs) inside = refl
use_step (suc n) [] cs (h ∷ hs) inside = use_step_none n cs hs (omega arith)
  where
    use_step_none : (n : ℕ) (cs : List (List Lit)) (hs : List ℕ) → n < length hs → have_use [] (clauses_at cs (drop n hs)) ≡ true
    use_step_none n cs hs inside = refl
use_step (suc n) (u ∷ us) cs (h ∷ hs) inside = use_step n us cs hs (omega arith)

pub use_none : (us : List Lit) → have_use us [] ≡ true
use_none [] = refl
use_none (u ∷ us) = refl

pub stands_step : (n : ℕ) (cs : List (List Lit)) (hs : List ℕ) (x : Lit) → n < length hs → stands_in (clauses_at cs (drop n hs)) x ≡ (has_literal (slice_index_or cs (get_or hs n 0) []) x || stands_in (clauses_at cs (drop (suc n) hs)) x)
stands_step n cs hs x inside = rw (drop-cons hs n 0 inside) refl

pub all_same : (p q : Lit → Bool) → ((l : Lit) → p l ≡ q l) → (ls : List Lit) → list_all p ls ≡ list_all q ls
all_same p q same [] = refl
all_same p q same (x ∷ xs) = rw (same x, all_same p q same xs) refl

pub same_or_true : (p q : Lit → Bool) → ((l : Lit) → p l ≡ q l) → (o : Option Lit) → option_map_or p o true ≡ option_map_or q o true
same_or_true p q same None = refl
same_or_true p q same (Some l) = same l

pub or_swapped : (a b c d : Bool) → a ≡ b → c ≡ d → (a || c) ≡ (d || b)
or_swapped true b true d e f = rw (← e, ← f) refl
or_swapped true b false d e f = rw (← e, ← f) refl
or_swapped false b true d e f = rw (← e, ← f) refl
or_swapped false b false d e f = rw (← e, ← f) refl

-- the trail begins with the negations of the line's literals
pub trail_long : (lits : List Lit) (cs : List (List Lit)) → length lits ≤ length (trail_after (map negate lits) cs)
trail_long lits cs =
    rw (trail_is (map negate lits) cs) (omega (arith, length-append (map negate lits) (units_of (map negate lits) cs), length-map lits negate))

-- a table that has what the clauses have tells whether literals that have places stand in them
pub flagged_stand : (size : ℕ) (table : List Bool) (cs : List (List Lit)) (ls : List Lit) → All (λ l. place_of l < size) ls → ((x : Lit) → place_of x < size → flag table x ≡ stands_in cs x) → are_flagged table ls ≡ list_all (stands_in cs) ls
flagged_stand size table cs [] places same = refl
flagged_stand size table cs (l ∷ ls) places same =
    let first : flag table l ≡ stands_in cs l = same l (places 0 l (omega arith)) in
    let rest : are_flagged table ls ≡ list_all (stands_in cs) ls =
    flagged_stand size table cs ls (λ k d inside. places (suc k) d (omega arith)) same in
    rw (first, rest) refl

pub lean_parts : (cs : List (List Lit)) (lits units : List Lit) (stand used : Bool) → stand ≡ list_all (stands_in cs) lits → used ≡ have_use units cs → units ≡ drop (length lits) (trail_after (map negate lits) cs) → (stand && used) ≡ (list_all (stands_in cs) lits && units_used (map negate lits) cs)
lean_parts cs lits units stand used e f g =
    let u : used ≡ units_used (map negate lits) cs =
    f ∙ ap (λ (us : List Lit). have_use us cs) g ∙ use_by_trail (map negate lits) cs (length lits) (sym (length-map lits negate)) in
    rw (e, u) refl

pub all_drop : {X : Type 0} (p : X → Bool) (n : ℕ) (xs : List X) → list_all p xs ≡ true → list_all p (drop n xs) ≡ true
all_drop p zero xs all = all
all_drop p (suc n) [] all = refl
all_drop p (suc n) (x ∷ xs) all = all_drop p n xs (and_parts (p x) (list_all p xs) all).1
