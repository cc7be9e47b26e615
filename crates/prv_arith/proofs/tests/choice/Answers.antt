use Rattle.prv_arith.proofs.tests.choice.Goals as goal

pub word_pick-requires-clause-selector : goal.word_pick-requires-clause-selector
word_pick-requires-clause-selector g c = c.constant.ensures _

pub word_pick-requires-clause-first : goal.word_pick-requires-clause-first
word_pick-requires-clause-first g c = c.constant-2.ensures _

pub word_pick-requires-clause-second : goal.word_pick-requires-clause-second
word_pick-requires-clause-second g c = c.constant-3.ensures _
