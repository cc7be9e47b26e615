use Rattle.std.proofs.Common.{arith}
use Rattle.prv_arith.proofs.OperatorLaws.{cost-bound}
use Rattle.prv_arith.proofs.tests.value.Goals as goal

pub word_op-requires-clause-first : goal.word_op-requires-clause-first
word_op-requires-clause-first g c = c.constant.ensures _

pub word_op-requires-clause-second : goal.word_op-requires-clause-second
word_op-requires-clause-second g c = c.constant-2.ensures _

pub word_op-requires-clause-room : goal.word_op-requires-clause-room
word_op-requires-clause-room g c = omega (arith, cost-bound c.args.op)
