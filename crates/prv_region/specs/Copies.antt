-- What a copy of terms does to the table that it is made in.
use Rattle.std.specs.Prelude.{◌≡◌, ℕ, ◌<◌, length, Some, Result, Err, IfOk, OnOk, slice_get}
use Rattle.prv_model.specs.declared.term.Term.{Term}
use Rattle.prv_pool.specs.Tables.{Table, Grown, add_term}
use Rattle.prv_pool.specs.declared.error.PoolError.{PoolError}
use Rattle.prv_pool.specs.declared.error.PoolError.TheVariants.{Wide}

-- a call copies a term: it makes it, but a refusal may leave new terms behind
pub record Copies (t : Term) (old new : Table) (result : Result ℕ PoolError) : Type 0 where
  pub stands : IfOk result (λ n. slice_get new.terms n ≡ Some t)
  pub grows : OnOk result (new.terms ≡ add_term t old.terms)
  pub kept : Grown old.terms new.terms
  pub limit : new.max_nodes ≡ old.max_nodes
  pub wide : result ≡ Err Wide → old.max_nodes < length (add_term t old.terms)
