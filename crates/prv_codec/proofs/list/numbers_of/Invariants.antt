use Rattle.std.proofs.Common.{◌≡◌, ◌-◌}
use Rattle.prv_codec.specs.Reading.{number_at, items_at}
use Rattle.prv_codec.proofs.Loops.{with_front}
use Rattle.prv_codec.proofs.list.numbers_of.Given as goal

abbrev pub invariant-loop : goal.invariant-loop
invariant-loop l = with_front l.numbers.items (items_at (number_at l.form) (l.count - l.counter) l.rest) ≡ items_at (number_at l.form) l.count l.bytes
