-- The literals of a clause made false, one after another.
use Rattle.std.proofs.Common.{◌≡◌, ℕ, ◌+◌, ◌<◌, ◌≤◌, Bool, true, false, not, ◌&&◌, ◌||◌, List, [], ◌∷◌, ◌++◌, map, length, take, get_or, refl, sym, ap, subst, ◌∙◌, add-one}
use Rattle.std.specs.List.{list_any, list_all}
use Rattle.std.specs.Bool.{Decides, one_answer}
use Rattle.std.proofs.lemmas.Bool.{and_parts, leb-true}
use Rattle.std.proofs.lemmas.Bool.Decides.{Decides-int_eq}
use Rattle.std.proofs.Math.Seq.{take-suc}
use Rattle.std.proofs.lemmas.List.{map-append}
use Rattle.std.proofs.lemmas.List.Folds.{list_any-append}
use Rattle.std.proofs.lemmas.List.Sums.{AllPass-from_list_all}
use Rattle.prv_cnf.specs.declared.literal.Lit.{Lit}
use Rattle.prv_cnf.specs.Literals.{variable, negate, same_literal, has_literal}
use Rattle.prv_cnf.proofs.Values.{same_literal-eq, negate-negate}
use Rattle.prv_check.specs.Lines.{is_within, no_repeat, is_tautology}

same_literal_Decides : (a b : Lit) → Decides (same_literal a b) (a ≡ b)
same_literal_Decides a b = (same_literal-eq a b, λ (e : a ≡ b). subst_same a b e)
  where
    subst_same : (a b : Lit) → a ≡ b → same_literal a b ≡ true
    subst_same a b e = (Decides-int_eq a.0 b.0).1 (ap (λ (l : Lit). l.0) e)

-- two literals are the same where their negations are, and whichever comes first
pub same_literal-negate : (a b : Lit) → same_literal (negate a) (negate b) ≡ same_literal a b
same_literal-negate a b =
    one_answer (same_literal (negate a) (negate b)) (same_literal a b) (
      λ h. sym (negate-negate a) ∙ ap negate (same_literal-eq (negate a) (negate b) h) ∙ negate-negate b,
      λ e. (same_literal_Decides (negate a) (negate b)).1 (ap negate e),
    )
    (same_literal_Decides a b)

pub same_literal_comm : (a b : Lit) → same_literal a b ≡ same_literal b a
same_literal_comm a b =
    one_answer (same_literal a b) (same_literal b a)
    (same_literal_Decides a b)
    (λ h. sym ((same_literal_Decides b a).0 h), λ e. (same_literal_Decides b a).1 (sym e))

-- a literal stands in a list where its negation stands among the negations
pub has_literal-negate : (ls : List Lit) (l : Lit) → has_literal (map negate ls) (negate l) ≡ has_literal ls l
has_literal-negate [] l = refl
has_literal-negate (x ∷ xs) l = rw (same_literal-negate l x, has_literal-negate xs l) refl

-- one more literal at the end
pub no_repeat_push : (ls : List Lit) (l : Lit) → no_repeat (ls ++ l ∷ []) ≡ (no_repeat ls && not (has_literal ls l))
no_repeat_push [] l = refl
no_repeat_push (x ∷ xs) l =
    rw (no_repeat_push xs l, list_any-append (same_literal x) xs (l ∷ []), same_literal_comm x l)
    (joined (list_any (same_literal x) xs) (same_literal l x) (no_repeat xs) (has_literal xs l))
  where
    joined : (a b c d : Bool) → (not (a || (b || false)) && (c && not d)) ≡ ((not a && c) && not (b || d))
    joined true true true true = refl
    joined true true true false = refl
    joined true true false true = refl
    joined true true false false = refl
    joined true false true true = refl
    joined true false true false = refl
    joined true false false true = refl
    joined true false false false = refl
    joined false true true true = refl
    joined false true true false = refl
    joined false true false true = refl
    joined false true false false = refl
    joined false false true true = refl
    joined false false true false = refl
    joined false false false true = refl
    joined false false false false = refl

any_same : (p q : Lit → Bool) → ((l : Lit) → p l ≡ q l) → (ls : List Lit) → list_any p ls ≡ list_any q ls
any_same p q same [] = refl
any_same p q same (x ∷ xs) = rw (same x, any_same p q same xs) refl

-- a clause is a tautology where one of its literals stands among the negations
pub tautology_by_negations : (c : List Lit) → list_any (has_literal (map negate c)) c ≡ is_tautology c
tautology_by_negations c =
    any_same (has_literal (map negate c)) (λ l. has_literal c (negate l))
    (λ l. let P : Lit → Type 0 = λ x. has_literal (map negate c) x ≡ has_literal c (negate l) in
    subst P (negate-negate l) (has_literal-negate c (negate l))) c

-- a literal of a clause within n variables
pub within_at : (n : ℕ) (c : List Lit) (i : ℕ) (d : Lit) → list_all (is_within n) c ≡ true → i < length c → variable (get_or c i d) ≤ n
within_at n c i d within inside =
    leb-true (variable (get_or c i d)) n (and_parts _ _ (AllPass-from_list_all (is_within n) c within i d inside)).1

-- one more literal of the clause made false
pub negations_more : (lits : List Lit) (i : ℕ) (d : Lit) → i < length lits → map negate (take (i + 1) lits) ≡ map negate (take i lits) ++ negate (get_or lits i d) ∷ []
negations_more lits i d inside =
    rw (add-one, take-suc lits i d inside) (map-append negate (take i lits) (get_or lits i d ∷ []))

pub once_more : (lits : List Lit) (i : ℕ) (d : Lit) → i < length lits → no_repeat (take (i + 1) lits) ≡ (no_repeat (take i lits) && not (has_literal (map negate (take i lits)) (negate (get_or lits i d))))
once_more lits i d inside =
    rw (add-one, take-suc lits i d inside, has_literal-negate (take i lits) (get_or lits i d))
    (no_repeat_push (take i lits) (get_or lits i d))
