use Rattle.std.proofs.Common.{◌≡◌, ◌++◌, drop, flat_map, codes}
use Rattle.prv_pool.specs.Tables.{term_at}
use Rattle.prv_text.specs.Lines.{line}
use Rattle.prv_text.specs.Slices.{out_text}
use Rattle.prv_text.proofs.slice.push_outs.Given as goal

-- the lines so far and those that are left are all of them
abbrev pub invariant-loop-node : goal.invariant-loop-node
invariant-loop-node l =
    l.out.items ++ flat_map (λ n. line (codes "out " ++ out_text l.names (term_at l.pool.terms n))) (drop l.node-index l.outs)
    ≡ l.initial.out.items ++ flat_map (λ n. line (codes "out " ++ out_text l.names (term_at l.pool.terms n))) l.outs
