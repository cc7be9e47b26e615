-- Trails that extend others.
use Rattle.std.proofs.Common.{◌≡◌, ℕ, ◌<◌, ◌≤◌, List, [], ◌∷◌, ◌++◌, length, take, sym, ap, ◌∙◌, arith}
use Rattle.std.proofs.lemmas.List.{take_all, take-take, get_or-take, length-take, take-append-le}
use Rattle.prv_propagate.specs.declared.trail.Step.{Step}
use Rattle.prv_propagate.specs.Trails.{trues, step_at}
use Rattle.prv_propagate.specs.Soundness.{IsExtended}
use Rattle.prv_cnf.specs.Literals.{negate, has_literal}
use Rattle.prv_propagate.specs.Walking.{false_by}
use Rattle.prv_propagate.proofs.Guarding.{IsWithin}
use Rattle.prv_propagate.proofs.Walking.{within_take}

pub extended_none : (steps : List Step) → IsExtended steps steps
extended_none steps = take_all (length steps) steps (omega arith)

pub extended_long : (old new : List Step) → IsExtended old new → length old ≤ length new
extended_long old new e = omega (arith, ap length e, length-take (length old) new)

pub extended_more : (a b c : List Step) → IsExtended a b → IsExtended b c → IsExtended a c
extended_more a b c ab bc =
    sym (take-take (length a) (length b) c (extended_long a b ab)) ∙ ap (λ (ss : List Step). take (length a) ss) bc ∙ ab

pub extended_push : (steps : List Step) (s : Step) → IsExtended steps (steps ++ s ∷ [])
extended_push steps s = take-append-le (length steps) steps (s ∷ []) (omega arith) ∙ extended_none steps

pub extended_at : (old new : List Step) (k : ℕ) → IsExtended old new → k < length old → step_at new k ≡ step_at old k
extended_at old new k e inside = sym (get_or-take (length old) new k (step_at [] 0) inside) ∙ ap (λ (ss : List Step). step_at ss k) e

pub extended_by : (old new : List Step) (k : ℕ) → IsExtended old new → k < length old → false_by new k ≡ false_by old k
extended_by old new k e inside = ap (λ (s : Step). negate s.lit) (extended_at old new k e inside)

-- what was true stays true
pub extended_true : (old new : List Step) → IsExtended old new → IsWithin (trues old) (trues new)
extended_true old new e l h = within_take (length old) new l (ap (λ (ss : List Step). has_literal (trues ss) l) e ∙ h)
