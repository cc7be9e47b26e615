use Rattle.std.proofs.Common.{◌≡◌, ◌++◌, drop, flat_map, codes}
use Rattle.std.specs.Fmt.{signed_decimal}
use Rattle.prv_text.proofs.entry.push_words.Given as goal

-- the text so far and what is left are all of it
abbrev pub invariant-loop-word : goal.invariant-loop-word
invariant-loop-word l = l.out.items ++ flat_map (λ next. codes " " ++ signed_decimal next) (drop l.word-index l.rest) ≡ l.initial.out.items ++ flat_map (λ next. codes " " ++ signed_decimal next) l.rest
