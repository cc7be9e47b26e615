-- One literal at a time, and one hint at a time.
use Rattle.std.proofs.Common.{◌≡◌, ℕ, suc, ◌+◌, ◌<◌, Bool, true, false, not, List, [], ◌∷◌, ◌++◌, length, take, drop, get_or, Option, None, Some, refl, sym, subst, ◌∙◌, add-one, arith}
use Rattle.std.specs.Prelude.{MatchOption, slice_index_or}
use Rattle.std.specs.Option.{option_map_or}
use Rattle.std.proofs.lemmas.Bool.{not-true}
use Rattle.std.proofs.lemmas.List.Elements.{filter-append}
use Rattle.std.proofs.lemmas.List.Folds.{list_all-append}
use Rattle.prv_cnf.specs.declared.literal.Lit.{Lit}
use Rattle.prv_cnf.specs.Literals.{same_literal}
use Rattle.prv_check.specs.declared.fault.LineWhy.TheVariants.{NotUnit}
use Rattle.prv_check.specs.Propagation.{is_false, unfalsified, sole, unit_literal, hints_fault, trail_after}
use Rattle.std.proofs.lemmas.List.{take-append-drop}
use Rattle.std.proofs.Math.Seq.{drop-cons}
use Rattle.prv_check.specs.Lines.{clauses_at}

-- what was found of a list: nothing where it is empty, else its one literal
abbrev pub IsSole : Option Lit → List Lit → Type 0
IsSole found ls = MatchOption found (ls ≡ []) (λ l. sole ls ≡ Some l)

-- another comes
sole_other : (ls : List Lit) (l y : Lit) (ys : List Lit) → sole ls ≡ Some l → same_literal l y ≡ false → sole (ls ++ y ∷ ys) ≡ None
sole_other [] l y ys one other = absurd cc
sole_other (x ∷ xs) l y ys one other = grind (arith, list_all-append (same_literal x) xs (y ∷ ys))

-- a second literal that isn't false settles it
pub found_two : (trues xs : List Lit) (i : ℕ) (found : Option Lit) (d : Lit) (other : Bool) → i < length xs → is_false trues (get_or xs i d) ≡ false → IsSole found (unfalsified trues (take i xs)) → MatchOption found (other ≡ false) (λ l. other ≡ not (same_literal l (get_or xs i d))) → other ≡ true → unit_literal trues xs ≡ None
found_two trues xs i None d other inside here found answer differs = absurd cc
found_two trues xs i (Some l) d other inside here found answer differs =
    let P : List Lit → Type 0 = λ ls. sole (unfalsified trues ls) ≡ None in
    subst P (take-append-drop i xs)
    (rw (drop-cons xs i d inside, filter-append (λ l. not (is_false trues l)), here)
    (sole_other (unfalsified trues (take i xs)) l (get_or xs i d) _ found (not-true (same_literal l (get_or xs i d)) (sym answer ∙ differs))))

-- the hints that are left, before the last
abbrev pub left_at : List ℕ → ℕ → ℕ → List ℕ
left_at others last i = drop i others ++ last ∷ []

-- a hint before the last: what its fault and the trail after it are
fault_step : (trues : List Lit) (cs : List (List Lit)) (h : ℕ) (hs : List ℕ) (last : ℕ) → hints_fault trues (clauses_at cs (h ∷ (hs ++ last ∷ []))) ≡ option_map_or (λ l. hints_fault (trues ++ l ∷ []) (clauses_at cs (hs ++ last ∷ []))) (unit_literal trues (slice_index_or cs h [])) (Some NotUnit)
fault_step trues cs h [] last = refl
fault_step trues cs h (x ∷ xs) last = refl

trail_step : (trues : List Lit) (cs : List (List Lit)) (h : ℕ) (hs : List ℕ) (last : ℕ) → trail_after trues (clauses_at cs (h ∷ (hs ++ last ∷ []))) ≡ option_map_or (λ l. trail_after (trues ++ l ∷ []) (clauses_at cs (hs ++ last ∷ []))) (unit_literal trues (slice_index_or cs h [])) trues
trail_step trues cs h [] last = refl
trail_step trues cs h (x ∷ xs) last = refl

-- the same at a place of the hints
pub fault_at_hint : (trues : List Lit) (cs : List (List Lit)) (others : List ℕ) (last i : ℕ) → i < length others → hints_fault trues (clauses_at cs (left_at others last i)) ≡ option_map_or (λ l. hints_fault (trues ++ l ∷ []) (clauses_at cs (left_at others last (i + 1)))) (unit_literal trues (slice_index_or cs (get_or others i 0) [])) (Some NotUnit)
fault_at_hint trues cs others last i inside =
    rw (drop-cons others i 0 inside, add-one) (fault_step trues cs (get_or others i 0) (drop (suc i) others) last)

pub trail_at_hint : (trues : List Lit) (cs : List (List Lit)) (others : List ℕ) (last i : ℕ) → i < length others → trail_after trues (clauses_at cs (left_at others last i)) ≡ option_map_or (λ l. trail_after (trues ++ l ∷ []) (clauses_at cs (left_at others last (i + 1)))) (unit_literal trues (slice_index_or cs (get_or others i 0) [])) trues
trail_at_hint trues cs others last i inside =
    rw (drop-cons others i 0 inside, add-one) (trail_step trues cs (get_or others i 0) (drop (suc i) others) last)
