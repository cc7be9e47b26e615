use Rattle.std.proofs.Common.{◌≡◌, ◌≤◌, ◌++◌, length, take}
use Rattle.std.specs.List.{AllByRecursion}
use Rattle.prv_pool.specs.Tables.{term_at}
use Rattle.prv_text.specs.Terms.{spelled}
use Rattle.prv_text.specs.Waiting.{waiting_text, IsWithin, left}
use Rattle.prv_text.proofs.node.push_pieces.Given as goal

-- what is written and what waits are the whole text, up to the end
abbrev pub invariant-loop-waiting : goal.invariant-loop-waiting
invariant-loop-waiting l = record {
  goes : take l.end (l.out.items ++ waiting_text l.names l.pool.terms l.waiting.items) ≡ take l.end (l.fn.out.items ++ (spelled l.names (term_at l.pool.terms l.node)).text);
  within : AllByRecursion (IsWithin (length l.pool.terms)) l.waiting.items;
  room : length l.out.items ≤ l.end;
}

abbrev pub decreases-loop-waiting : goal.decreases-loop-waiting
decreases-loop-waiting l = left l.end l.out.items l.waiting.items
