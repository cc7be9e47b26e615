use Rattle.std.proofs.Common.{◌≡◌, ◌++◌, length, take}
use Rattle.std.specs.List.{flat_map}
use Rattle.prv_codec.specs.Forms.{number}
use Rattle.prv_codec.proofs.list.put_numbers.Given as goal

abbrev pub invariant-loop-value : goal.invariant-loop-value
invariant-loop-value l = l.out.items ≡ l.fn.out.items ++ (number l.form (length l.numbers) ++ flat_map (number l.form) (take l.value-index l.numbers))
