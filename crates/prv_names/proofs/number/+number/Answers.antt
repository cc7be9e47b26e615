use Rattle.std.proofs.Common.{ℕ, ◌+◌, ap, sym, ◌∙◌}
use Rattle.prv_names.proofs.CountLemmas.{stmt_count-Block, tree_count-Block}
use Rattle.prv_names.proofs.number.+number.Goals as goal

pub number-returns-in_ok-number_all-in-Block-clause-count : goal.number-returns-in_ok-number_all-in-Block-clause-count
number-returns-in_ok-number_all-in-Block-clause-count t c =
    let same = rw c.as_slice.ensures at c.in_ok-number_all-in-Block.ensures.count in
    rw c.in-Block.is (stmt_count-Block c.in_ok-number_all-in-Block.field-0 ∙ ap (λ (n : ℕ). 1 + n) same ∙ sym (tree_count-Block c.in-Block.all))
