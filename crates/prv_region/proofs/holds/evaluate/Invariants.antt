use Rattle.std.proofs.Common.{◌≡◌, ℕ, ◌<◌, length}
use Rattle.prv_model.specs.Terms.{term_value}
use Rattle.prv_pool.specs.Tables.{term_at}
use Rattle.prv_region.specs.Values.{value_at}
use Rattle.prv_region.proofs.holds.evaluate.Given as goal

abbrev pub invariant-loop-n : goal.invariant-loop-n
invariant-loop-n l = record {
  room : length l.values.items ≡ length l.fn.values.items;
  values : (k : ℕ) → k < l.n → value_at l.values.items k ≡ term_value (term_at l.pool.terms k) l.words;
}
