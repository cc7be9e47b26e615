-- A board and a record determine the settlement, and what settling an entry gives is supported there.
use Rattle.std.proofs.Common.{◌≡◌, ℕ, true, List, Some, Option, unwrap_or, sym, ap, ◌∙◌}
use Rattle.std.specs.Option.{option_map}
use Rattle.prv_model.specs.declared.term.Term.{Term}
use Rattle.prv_part.specs.declared.part.Part.{Part}
use Rattle.prv_part.specs.Settlements.{Finding}
use Rattle.prv_board.specs.Slots.{part_at, may_replace, may_replace_part}
use Rattle.prv_board.specs.Replays.{Replay, slots}
use Rattle.prv_record.specs.declared.raw.Raw.{Raw}
use Rattle.prv_settle.specs.Boards.{IsSupportedOn}
use Rattle.prv_settle.specs.Supported.{finding_of, IsSupported}

-- the region of the entry that a record names
abbrev region_on : Replay → Raw → Option (List Term)
region_on b raw = option_map (λ p. p.region) (part_at (slots b) raw.entry)

region-is : (b : Replay) (f : Finding) (raw : Raw) → IsSupportedOn b f raw → region_on b raw ≡ Some f.region
region-is b f raw h =
    let number : f.entry ≡ raw.entry = ap (λ (g : Finding). g.entry) h.supported.gives in
    ap (λ (n : ℕ). option_map (λ p. p.region) (part_at (slots b) n)) (sym number) ∙ h.belongs.same_region

pub determined : (b : Replay) (f g : Finding) (raw : Raw) → IsSupportedOn b f raw → IsSupportedOn b g raw → f ≡ g
determined b f g raw one other =
    let pairs : f.pair ≡ g.pair = one.belongs.same_pair ∙ sym other.belongs.same_pair in
    let both : Some f.region ≡ Some g.region = sym (region-is b f raw one) ∙ region-is b g raw other in
    let regions : f.region ≡ g.region = ap (λ (o : Option (List Term)). unwrap_or o f.region) both in
    one.supported.gives ∙ (λ i. finding_of (pairs i) (regions i) raw) ∙ sym other.supported.gives

-- a settlement of an entry's region that is open to it
pub on-board : (b : Replay) (f : Finding) (raw : Raw) (part : Part) → part_at (slots b) f.entry ≡ Some part → f.pair ≡ b.pair → f.region ≡ part.region → may_replace f.parts part.kind ≡ true → IsSupported f raw → IsSupportedOn b f raw
on-board b f raw part at pairs region opened supported = record {
  belongs = record {
    same_pair = pairs;
    open_entry = ap (λ (o : Option Part). may_replace_part f.parts o) at ∙ opened;
    same_region = ap (λ (o : Option Part). option_map (λ p. p.region) o) at ∙ ap (λ (x : List Term). Some x) (sym region);
  };
  supported = supported;
}
