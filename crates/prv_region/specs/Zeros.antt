-- The first of some terms that is 0 on an input.
use Rattle.std.specs.Prelude.{◌≡◌, ℕ, ◌<◌, true, List, ℤ, length, take}
use Rattle.prv_model.specs.Words.{is_zero}
use Rattle.prv_model.specs.Terms.{term_value, holds}
use Rattle.prv_model.specs.declared.term.Term.{Term}
use Rattle.prv_pool.specs.Tables.{term_at}

-- the term at this place is 0 on an input, on which none of those before it is
pub record IsFirstZero (terms : List Term) (x : List ℤ) (place : ℕ) : Type 0 where
  pub within : place < length terms
  pub before : holds (take place terms) x ≡ true
  pub zero : is_zero (term_value (term_at terms place) x) ≡ true
