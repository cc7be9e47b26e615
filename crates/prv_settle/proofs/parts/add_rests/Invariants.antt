use Rattle.std.proofs.Common.{◌≡◌, ◌+◌, ◌++◌, List, length, map, take}
use Rattle.prv_model.specs.declared.entry.Kind.TheVariants as k
use Rattle.prv_model.specs.declared.term.Term.{Term}
use Rattle.prv_pool.specs.Folding.{negation}
use Rattle.prv_part.specs.Parts.{rests, unmarked}
use Rattle.prv_settle.proofs.parts.add_rests.Given as goal

abbrev pub invariant-loop-k : goal.invariant-loop-k
invariant-loop-k l = (us ps middle : List Term) → l.terms ≡ us ++ (ps ++ (middle ++ map negation ps)) → l.region ≡ length us → l.literals ≡ length ps →
    l.negations ≡ length us + length ps + length middle → l.parts.items ≡ l.fn.parts.items ++ map (unmarked k.Unexplored) (take l.k (rests us ps))
