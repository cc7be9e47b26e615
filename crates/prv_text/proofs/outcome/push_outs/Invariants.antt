use Rattle.std.proofs.Common.{◌≡◌, ◌++◌, drop, flat_map, codes}
use Rattle.std.specs.Fmt.{signed_decimal}
use Rattle.prv_text.specs.Lines.{line}
use Rattle.prv_text.proofs.outcome.push_outs.Given as goal

-- the lines so far and those that are left are all of them
abbrev pub invariant-loop-word : goal.invariant-loop-word
invariant-loop-word l =
    l.out.items ++ flat_map (λ n. line (codes "out " ++ signed_decimal n)) (drop l.word-index l.words)
    ≡ l.initial.out.items ++ flat_map (λ n. line (codes "out " ++ signed_decimal n)) l.words
