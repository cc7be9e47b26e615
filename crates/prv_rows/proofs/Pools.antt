-- Numbers of nodes in a pool over 8 parameters.
use Rattle.std.proofs.Common.{◌≡◌, ℕ, ◌<◌, true, List, [], ◌∷◌, length, map, All, nat_lt}
use Rattle.std.specs.List.{AllByRecursion, list_all}
use Rattle.std.proofs.lemmas.Bool.{and_parts, ltb-true}
use Rattle.prv_model.specs.Terms.{IsTerm}
use Rattle.prv_model.specs.declared.term.Term.{Term}
use Rattle.prv_pool.specs.Tables.{term_at}
use Rattle.prv_blast.proofs.Growing.{recursive-all}
use Rattle.prv_blast.proofs.Pools.{at-known}

within : (n : ℕ) (xs : List ℕ) → list_all (λ k. nat_lt k n) xs ≡ true → AllByRecursion (λ k. k < n) xs
within n [] h = tt
within n (x ∷ xs) h = let parts = and_parts (nat_lt x n) (list_all (λ k. nat_lt k n) xs) h in (ltb-true x n parts.0, within n xs parts.1)

known : (terms : List Term) → AllByRecursion (IsTerm 8) terms → (roots : List ℕ) → AllByRecursion (λ n. n < length terms) roots → AllByRecursion (IsTerm 8) (map (term_at terms) roots)
known terms h [] w = tt
known terms h (n ∷ ns) w = (at-known n terms h w.0, known terms h ns w.1)

pub roots-within : (terms : List Term) (roots : List ℕ) → list_all (λ n. nat_lt n (length terms)) roots ≡ true → All (λ n. n < length terms) roots
roots-within terms roots w = recursive-all (λ n. n < length terms) roots (within (length terms) roots w)

pub roots-known : (terms : List Term) (roots : List ℕ) → AllByRecursion (IsTerm 8) terms → list_all (λ n. nat_lt n (length terms)) roots ≡ true → All (IsTerm 8) (map (term_at terms) roots)
roots-known terms roots h w = recursive-all (IsTerm 8) (map (term_at terms) roots) (known terms h roots (within (length terms) roots w))
