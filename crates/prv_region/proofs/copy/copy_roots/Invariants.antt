use Rattle.std.proofs.Common.{◌≡◌, [], take}
use Rattle.prv_region.proofs.CopyLemmas.{AreCopying}
use Rattle.prv_region.proofs.copy.copy_roots.Given as goal

abbrev pub invariant-loop-root : goal.invariant-loop-root
invariant-loop-root l = record {
  copying : AreCopying l.from.terms l.fn.into.terms l.into.terms l.numbers.items l.copies.items (take l.root-index l.roots);
  idle : l.waiting.items ≡ [];
  limit : l.into.max_nodes ≡ l.fn.into.max_nodes;
}
