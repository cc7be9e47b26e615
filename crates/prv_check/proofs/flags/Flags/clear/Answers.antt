use Rattle.std.proofs.Common.{◌≡◌, ℕ, List, length, map, replicate, sym, ap, ◌∙◌}
use Rattle.std.specs.Prelude.{Bool, false, nat_eq}
use Rattle.std.proofs.lemmas.List.{length-map}
use Rattle.prv_check.proofs.Placing.{map-replicate, cleared}
use Rattle.prv_check.proofs.flags.Flags.clear.Goals as goal
use Rattle.prv_check.proofs.flags.Flags.clear.Goals.{then-self, else-self}

pub returns : goal.returns
returns c =
    let rounds : List ℕ = c.self.inside.rounds.items in
    let size : length rounds ≡ length c.args.self.now =
    sym (length-map rounds (nat_eq c.self.inside.round)) ∙ ap (λ (flags : List Bool). length flags) c.self.view_is in
    elim c.if-self.branch [
      | then-self w ↦
          let zeros : w.fill.new.self.items ≡ replicate c.self.inside.rounds.len 0 = w.fill.ensures.items (λ y same. same) in
          rw w.self-inside-is
          (ap (λ (xs : List ℕ). map (nat_eq 1) xs) zeros
          ∙ map-replicate (nat_eq 1) c.self.inside.rounds.len 0
          ∙ ap (λ (n : ℕ). replicate n false) (c.self.inside.rounds.ok.0 ∙ size))
      | else-self w ↦
          rw w.self-inside-is
          (cleared c.self.inside.round rounds c.self.invariant
          ∙ ap (λ (n : ℕ). replicate n false) size)
    ]
