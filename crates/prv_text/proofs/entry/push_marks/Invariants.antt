use Rattle.std.proofs.Common.{◌≡◌, ◌++◌, drop, flat_map, codes, decimal}
use Rattle.prv_text.proofs.entry.push_marks.Given as goal

-- the text so far and what is left are all of it
abbrev pub invariant-loop-mark : goal.invariant-loop-mark
invariant-loop-mark l = l.out.items ++ flat_map (λ next. codes "," ++ decimal next) (drop l.mark-index l.rest) ≡ l.initial.out.items ++ flat_map (λ next. codes "," ++ decimal next) l.rest
