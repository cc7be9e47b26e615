use Rattle.std.proofs.Common.{◌≡◌, ◌+◌, ◌++◌, vec_len, vec_capacity}
use Rattle.prv_board.specs.Trees.{not_retired}
use Rattle.prv_board.proofs.apply.add_live.Given as goal

abbrev pub invariant-loop : goal.invariant-loop
invariant-loop l = record {
  items : l.retired.items ≡ l.fn.retired.items ++ not_retired l.counter;
  len : vec_len l.retired ≡ vec_len l.fn.retired + l.counter;
  capacity : vec_capacity l.retired ≡ vec_capacity l.fn.retired;
}
