-- The steps of a trail, by their places.
use Rattle.std.proofs.Common.{◌≡◌, ℕ, suc, zero, ◌<◌, ◌≤◌, true, List, [], ◌∷◌, ◌++◌, length, take, sym, inl, inr, arith}
use Rattle.std.proofs.lemmas.Bool.{or_cases, cases_lt, or_right, or_left}
use Rattle.std.proofs.lemmas.List.{map-append, get_or_append_left, get_or_push, take-append-le, take_all, get_or-take, take-take, length-take-le, length_push}
use Rattle.prv_cnf.specs.declared.literal.Lit.{Lit}
use Rattle.prv_cnf.specs.Literals.{same_literal, has_literal}
use Rattle.prv_cnf.proofs.Values.{same_literal-eq, same_literal_refl}
use Rattle.prv_propagate.specs.declared.trail.Step.{Step}
use Rattle.prv_propagate.specs.Trails.{trues, step_at, EachStep}

pub trues_push : (steps : List Step) (s : Step) → trues (steps ++ s ∷ []) ≡ trues steps ++ s.lit ∷ []
trues_push steps s = map-append (λ (s : Step). s.lit) steps (s ∷ [])

-- a true literal has a place among the steps
pub place_in : (steps : List Step) (l : Lit) → has_literal (trues steps) l ≡ true → (k : ℕ) × (k < length steps) × ((step_at steps k).lit ≡ l)
place_in [] l h = absurd cc
place_in (s ∷ ss) l h =
    elim (or_cases (same_literal l s.lit) (has_literal (trues ss) l) h) [
      | inl same ↦ (0, omega arith, sym (same_literal-eq l s.lit same))
      | inr later ↦ let r = place_in ss l later in (suc r.0, omega (arith, r.1), r.2)
    ]

-- the literal of a step is true
pub true_at : (steps : List Step) (k : ℕ) → k < length steps → has_literal (trues steps) (step_at steps k).lit ≡ true
true_at [] k h = absurd (omega arith)
true_at (s ∷ ss) zero h = or_left (same_literal s.lit s.lit) (has_literal (trues ss) s.lit) (same_literal_refl s.lit)
true_at (s ∷ ss) (suc k) h = or_right (same_literal (step_at ss k).lit s.lit) (has_literal (trues ss) (step_at ss k).lit) (true_at ss k (omega arith))

-- what is true in a front stays true
pub true_later : (n : ℕ) (steps : List Step) (l : Lit) → has_literal (trues (take n steps)) l ≡ true → has_literal (trues steps) l ≡ true
true_later zero steps l h = absurd cc
true_later (suc n) [] l h = absurd cc
true_later (suc n) (s ∷ ss) l h =
    elim (or_cases (same_literal l s.lit) (has_literal (trues (take n ss)) l) h) [
      | inl same ↦ or_left (same_literal l s.lit) (has_literal (trues ss) l) same
      | inr later ↦ or_right (same_literal l s.lit) (has_literal (trues ss) l) (true_later n ss l later)
    ]

-- a step more
pub EachStep-push : (P : List Step → Step → Type 0) (steps : List Step) (s : Step) → EachStep P steps → P steps s → EachStep P (steps ++ s ∷ [])
EachStep-push P steps s each here k h =
    elim (cases_lt k (length steps)) [
      | inl inside ↦
          rw (take-append-le k steps (s ∷ []) (omega arith), get_or_append_left steps (s ∷ []) (step_at [] 0) k inside) (each k inside)
      | inr after ↦
          let e : length steps ≡ k = omega (arith, length_push steps s) in
          rw (take-append-le k steps (s ∷ []) (omega arith), take_all k steps (omega arith), get_or_push steps s (step_at [] 0) k e) here
    ]

-- fewer steps
pub EachStep-take : (P : List Step → Step → Type 0) (n : ℕ) (steps : List Step) → EachStep P steps → n ≤ length steps → EachStep P (take n steps)
EachStep-take P n steps each within k h =
    let inside : k < n = omega (arith, length-take-le n steps within) in
    rw (take-take k n steps (omega arith), get_or-take n steps k (step_at [] 0) inside) (each k (omega arith))
