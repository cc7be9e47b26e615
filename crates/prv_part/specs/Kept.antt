-- A settlement as it is seen from outside.
use Rattle.std.specs.Arc.{arc_value}
use Rattle.prv_part.specs.Settlements.{Finding, finding}
use Rattle.prv_part.specs.declared.settlement.Settlement.TheInside.{Inside}

abbrev pub found : Inside → Finding
found s = finding (arc_value s.pair) s.entry s.region s.member s.shape s.parts s.numbers
