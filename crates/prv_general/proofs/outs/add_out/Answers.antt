use Rattle.std.proofs.Common.{ℕ, List, ◌++◌, sym, ◌∙◌, subst}
use Rattle.prv_sym.specs.Calls.{AllStand}
use Rattle.prv_general.specs.Conditions.{event_outs}
use Rattle.prv_general.proofs.Standing.{puts-more}
use Rattle.prv_general.proofs.outs.add_out.Goals as goal

pub returns-in_ok-push : goal.returns-in_ok-push
returns-in_ok-push c = λ terms ts t s is.
    subst (λ (ns : List ℕ). AllStand terms ns (ts ++ event_outs c.args.event t)) (sym c.in_ok-push.ensures.ok)
    (puts-more terms c.args.outs.now ts c.args.value t c.args.event c.if-event.true (sym c.puts.ensures ∙ c.if-puts.true) s is)
