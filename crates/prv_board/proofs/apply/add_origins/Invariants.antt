use Rattle.std.proofs.Common.{◌≡◌, ◌+◌, ◌++◌, vec_len, vec_capacity}
use Rattle.prv_board.specs.Trees.{origins_from}
use Rattle.prv_board.proofs.apply.add_origins.Given as goal

abbrev pub invariant-loop-part : goal.invariant-loop-part
invariant-loop-part l = record {
  items : l.origins.items ≡ l.fn.origins.items ++ origins_from l.settlement 0 l.part;
  len : vec_len l.origins ≡ vec_len l.fn.origins + l.part;
  capacity : vec_capacity l.origins ≡ vec_capacity l.fn.origins;
}
