use Rattle.std.proofs.Common.{◌≡◌, length}
use Rattle.prv_region.proofs.CopyLemmas.{IsCopying, left}
use Rattle.prv_region.proofs.copy.copy_new.Given as goal

abbrev pub invariant-loop-n : goal.invariant-loop-n
invariant-loop-n l = record {
  copying : IsCopying l.from.terms l.fn.into.terms l.into.terms l.numbers.items l.root l.made l.waiting.items;
  limit : l.into.max_nodes ≡ l.fn.into.max_nodes;
}

abbrev pub decreases-loop-n : goal.decreases-loop-n
decreases-loop-n l = left l.numbers.items (length l.from.terms) l.waiting.items
