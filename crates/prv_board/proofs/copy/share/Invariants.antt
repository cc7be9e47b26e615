use Rattle.std.proofs.Common.{◌≡◌, map, take}
use Rattle.std.specs.Arc.{arc_value}
use Rattle.prv_board.proofs.copy.share.Given as goal

abbrev pub invariant-loop-settlement : goal.invariant-loop-settlement
invariant-loop-settlement l = map (λ s. arc_value s) l.shared.items ≡ map (λ s. arc_value s) (take l.settlement-index l.settlements)
