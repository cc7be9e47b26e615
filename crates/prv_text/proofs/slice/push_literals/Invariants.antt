use Rattle.std.proofs.Common.{◌≡◌, ◌++◌, drop, flat_map}
use Rattle.prv_pool.specs.Tables.{term_at}
use Rattle.prv_text.specs.Lines.{line}
use Rattle.prv_text.specs.Terms.{literal_text}
use Rattle.prv_text.proofs.slice.push_literals.Given as goal

-- the lines so far and those that are left are all of them
abbrev pub invariant-loop-literal : goal.invariant-loop-literal
invariant-loop-literal l =
    l.out.items ++ flat_map (λ n. line (literal_text l.names (term_at l.pool.terms n))) (drop l.literal-index l.literals)
    ≡ l.initial.out.items ++ flat_map (λ n. line (literal_text l.names (term_at l.pool.terms n))) l.literals
