use Rattle.std.proofs.Common.{◌≡◌, length, drop, fold}
use Rattle.prv_names.specs.Scopes.{start, after, first_fault}
use Rattle.prv_names.specs.ScopeStacks.{standing_of, IsNested}
use Rattle.prv_names.proofs.checker.resolve.Given as goal

-- what is wrong from here, and what will be declared, is so from the start
abbrev pub invariant-loop-next : goal.invariant-loop-next
invariant-loop-next l = record {
  nested : IsNested 0 l.scopes.starts.items (length l.scopes.visible);
  faults : first_fault (standing_of l.scopes) (drop l.next-index l.said) ≡ first_fault start l.said;
  names : fold after (standing_of l.scopes) (drop l.next-index l.said) ≡ fold after start l.said;
}
