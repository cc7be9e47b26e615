use Rattle.std.proofs.Common.{arith}
use Rattle.prv_codec.proofs.Bounds.{low_below}
use Rattle.prv_codec.proofs.number.+groups_at.Goals as goal

pub returns-then-byte-lt128-clause-below : goal.returns-then-byte-lt128-clause-below
returns-then-byte-lt128-clause-below t c =
    low_below c.args.top c.args.more c.from-then-byte-lt128.result c.requires.some (omega arith) (omega (arith, c.from-then-byte-lt128.ensures))
