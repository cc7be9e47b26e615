use Rattle.prv_settle.proofs.Supporting.{settled-shown, settled-at-shown}
use Rattle.prv_settle.proofs.laws.settled_regions_are_supported.Goals as goal

pub returns-clause-searched : goal.returns-clause-searched
returns-clause-searched c = settled-shown

pub returns-clause-given : goal.returns-clause-given
returns-clause-given c = settled-at-shown
