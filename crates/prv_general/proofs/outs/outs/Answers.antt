use Rattle.std.proofs.Common.{◌<◌, ℕ, List, [], length, get_or, sym, subst, arith}
use Rattle.prv_model.specs.declared.term.Term.{Term}
use Rattle.prv_pool.specs.Tables.{term_at}
use Rattle.prv_sym.specs.Calls.{AllStand}
use Rattle.prv_sym.proofs.Naming.{there}
use Rattle.prv_general.specs.Conditions.{event_outs}
use Rattle.prv_general.proofs.Alongs.{along-more}
use Rattle.prv_general.proofs.Standing.{all-at, all-in}
use Rattle.prv_general.proofs.outs.outs.Goals as goal

pub loop-k-init : goal.loop-k-init
loop-k-init c = λ terms ts s. subst (λ (ns : List ℕ). AllStand terms ns []) (sym c.new-outs.ensures) tt

pub loop-k-preserved : goal.loop-k-preserved
loop-k-preserved c = λ terms ts s.
    let vs = c.args.values.now in
    let es = c.args.events.now in
    let k = c.loop-k.k in
    let below : k < length vs = omega (arith, c.requires, c.loop-k-test.true) in
    let v = get_or vs k 0 in
    subst (λ (us : List Term). AllStand terms c.add_out.new.outs us) (sym (along-more event_outs es ts k _ (term_at terms v) c.loop-k-test.true (all-at terms vs ts k 0 s below)))
    (c.in_ok-add_out.ensures terms _ (term_at terms v) (c.loop-k.invariant terms ts s) (there terms v (all-in terms vs ts s k 0 below)))
