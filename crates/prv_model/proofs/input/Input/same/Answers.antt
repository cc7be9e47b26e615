use Rattle.std.proofs.Common.{◌≡◌, refl, sym, ◌∙◌}
use Rattle.std.specs.Cmp.{signed_Decides}
use Rattle.std.specs.Ordering.{int_eq}
use lib.Pointwise.{pointwise, pointwise_decides}
use Rattle.prv_model.proofs.input.Input.same.Goals as goal

pub returns : goal.returns
returns c =
    let mine : c.as_slice.result.now ≡ c.args.self.now = c.as_slice.ensures.value ∙ c.self.view_is in
    let theirs : c.as_slice-2.result.now ≡ c.args.other.now = c.as_slice-2.ensures.value ∙ c.other.view_is in
    let equal : c.eq.result ≡ pointwise int_eq c.args.self.now c.args.other.now = c.eq.ensures ∙ rw (mine, theirs) refl in
    let decides = pointwise_decides signed_Decides c.args.self.now c.args.other.now in
    (λ h. decides.0 (sym equal ∙ h), λ h. equal ∙ decides.1 h)
