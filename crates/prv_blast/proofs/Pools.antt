-- Pools whose terms are over 8 parameters, as the tests make them.
use Rattle.std.proofs.Common.{◌≡◌, ℕ, zero, suc, ◌<◌, ◌≤◌, Bool, true, List, [], ◌∷◌, ◌++◌, length, ℤ, Result, Ok, Err, IfOk, OnOk, sym, ap, ◌∙◌, subst, arith, length-append}
use Rattle.std.specs.List.{AllByRecursion}
use Rattle.prv_model.specs.Words.{is_word}
use Rattle.prv_model.specs.Terms.{IsTerm, node_is_term}
use Rattle.prv_model.specs.declared.term.Term.{Term}
use Rattle.prv_model.specs.declared.term.Term.TheVariants.{Param, Num, rolls-Param, rolls-Num}
use Rattle.prv_model.specs.declared.term.Term.TheOpen.{Term-F}
use Rattle.prv_model.specs.declared.term.Term.TheFolds.{fold-roll-Term}
use Rattle.prv_pool.specs.Tables.{Table, Makes, term_at}
use Rattle.prv_pool.specs.declared.error.PoolError.{PoolError}
use Rattle.prv_pool.proofs.NodeLemmas.{get-within}
use Rattle.prv_blast.proofs.Growing.{term-keeps, term-growth}
use Rattle.prv_blast.proofs.Standing.{term-down}

pub param-term : (n k : ℕ) → node_is_term n (Term-F.Param k) ≡ true → IsTerm n (Param k)
param-term n k h = let P : Term → Type 0 = λ t. IsTerm n t in subst P (rolls-Param k) (fold-roll-Term Bool (node_is_term n) (Term-F.Param k) ∙ h)

pub num-term : (n : ℕ) (z : ℤ) → is_word z ≡ true → IsTerm n (Num z)
num-term n z h = let P : Term → Type 0 = λ t. IsTerm n t in subst P (rolls-Num z) (fold-roll-Term Bool (node_is_term n) (Term-F.Num z) ∙ h)

pub at-known : (n : ℕ) (terms : List Term) → AllByRecursion (IsTerm 8) terms → n < length terms → IsTerm 8 (term_at terms n)
at-known n [] h below = absurd (omega arith)
at-known zero (t ∷ terms) h below = h.0
at-known (suc n) (t ∷ terms) h below = at-known n terms h.1 (omega arith)

pub made-known : (t : Term) (old new : Table) (n : ℕ) → Makes t old new (Ok n) → IsTerm 8 t → AllByRecursion (IsTerm 8) old.terms → AllByRecursion (IsTerm 8) new.terms
made-known t old new n m is h = subst (AllByRecursion (IsTerm 8)) (sym m.grows) (term-keeps (IsTerm 8) (term-down 8) t is old.terms h)

pub made-longer : (t : Term) (old new : Table) (n : ℕ) → Makes t old new (Ok n) → length old.terms ≤ length new.terms
made-longer t old new n m =
    let growth = term-growth t old.terms in
    let long : length new.terms ≡ length (old.terms ++ growth.more) = ap length (m.grows ∙ growth.grown) in omega (arith, long, length-append old.terms growth.more)

pub made-there : (t : Term) (old new : Table) (n : ℕ) → Makes t old new (Ok n) → n < length new.terms
made-there t old new n m = get-within new.terms n t m.stands

-- the same where a call is answered
pub known-where : (t : Term) (old new : Table) (r : Result ℕ PoolError) → Makes t old new r → IsTerm 8 t → AllByRecursion (IsTerm 8) old.terms → OnOk r (AllByRecursion (IsTerm 8) new.terms)
known-where t old new (Ok n) m is h = made-known t old new n m is h
known-where t old new (Err e) m is h = tt

pub longer-where : (t : Term) (old new : Table) (r : Result ℕ PoolError) → Makes t old new r → OnOk r (length old.terms ≤ length new.terms)
longer-where t old new (Ok n) m = made-longer t old new n m
longer-where t old new (Err e) m = tt

pub there-where : (t : Term) (old new : Table) (r : Result ℕ PoolError) → Makes t old new r → IfOk r (λ n. n < length new.terms)
there-where t old new (Ok n) m = made-there t old new n m
there-where t old new (Err e) m = tt
