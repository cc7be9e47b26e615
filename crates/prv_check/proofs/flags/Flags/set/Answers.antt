use Rattle.std.proofs.Common.{ℕ, List, map, refl, ap, ◌∙◌}
use Rattle.std.specs.Prelude.{Bool, true, nat_eq, slice_set}
use Rattle.std.proofs.lemmas.Bool.{eq-eqb}
use Rattle.std.proofs.lemmas.List.{map-set}
use Rattle.prv_check.proofs.flags.Flags.set.Goals as goal

pub returns : goal.returns
returns c =
    let round : ℕ = c.self.inside.round in
    let rounds : List ℕ = c.self.inside.rounds.items in
    map-set (nat_eq round) rounds c.args.at round
    ∙ ap (λ (b : Bool). slice_set (map (nat_eq round) rounds) c.args.at b) (eq-eqb round round refl)
    ∙ ap (λ (flags : List Bool). slice_set flags c.args.at true) c.self.view_is
