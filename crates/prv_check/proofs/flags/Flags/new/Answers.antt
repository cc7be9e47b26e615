use Rattle.std.proofs.Common.{ℕ, List, map, ap, ◌∙◌}
use Rattle.std.specs.Prelude.{nat_eq}
use Rattle.prv_check.proofs.Placing.{map-replicate}
use Rattle.prv_check.proofs.flags.Flags.new.Goals as goal

pub returns : goal.returns
returns c =
    ap (λ (rounds : List ℕ). map (nat_eq 1) rounds) (c.in_ok-rounds.ensures.items_if_clones_equal (λ y same. same))
    ∙ map-replicate (nat_eq 1) c.args.count 0
