use Rattle.std.proofs.Common.{◌≡◌, ◌↔◌, Bool, sym, ◌∙◌, subst}
use Rattle.std.specs.Prelude.{IsTrue}
use Rattle.std.proofs.lemmas.Cmp.{is_eq_index}
use Rattle.prv_model.proofs.OrderLemmas.{same_term-same}
use Rattle.prv_model.proofs.term.Term.same.Goals as goal

pub returns : goal.returns
returns c =
    subst (λ (b : Bool). IsTrue b ↔ (c.args.self.now ≡ c.args.other.now))
    (sym (c.eq.ensures ∙ sym (is_eq_index c.order.result)))
    (rw c.order.ensures (same_term-same c.args.self.now c.args.other.now))
