use Rattle.std.proofs.Common.{◌≡◌, ◌-◌}
use Rattle.prv_codec.specs.Reading.{word_at, items_at}
use Rattle.prv_codec.proofs.Loops.{with_front}
use Rattle.prv_codec.proofs.list.words_at.Given as goal

abbrev pub invariant-loop : goal.invariant-loop
invariant-loop l = with_front l.words (items_at (word_at l.form) (l.count - l.counter) l.rest) ≡ items_at (word_at l.form) l.count l.bytes
