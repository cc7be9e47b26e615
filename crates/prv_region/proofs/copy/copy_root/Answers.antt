use Rattle.prv_region.proofs.CopyLemmas.{copies-there}
use Rattle.prv_region.proofs.copy.copy_root.Goals as goal

pub returns-in-Some-clause-copies : goal.returns-in-Some-clause-copies
returns-in-Some-clause-copies c =
    copies-there c.args.from.now.terms c.args.into.now c.args.numbers.now.items c.as_slice.result.now c.args.root c.in-Some.n c.requires.stands c.as_slice.ensures.value c.in-Some.ensures
