use Rattle.std.proofs.Common.{refl, arith}
use Rattle.std.proofs.lemmas.List.{length-map}
use Rattle.std.proofs.lemmas.Result.{err_from_is_err_and}
use Rattle.prv_pool.specs.Tables.{term_at}
use Rattle.prv_sym.proofs.Naming.{one-refused, stands-in}
use Rattle.prv_settle.proofs.Joining.{joined-start, joined-all}
use Rattle.prv_settle.proofs.Equating.{pair-at, joined-step, joined-stop}
use Rattle.prv_settle.proofs.equality.all_equal.Goals as goal

pub returns-in_err-made-clause-names : goal.returns-in_err-made-clause-names
returns-in_err-made-clause-names c =
    let p = err_from_is_err_and c.from_residual.result c.from_residual.ensures.1 in
    rw (p.1, p.2) (one-refused _ _ _ _ _ c.in_err-made.ensures)

pub loop-k-init : goal.loop-k-init
loop-k-init c = joined-start _ _ _ _ _ c.in_ok-made.ensures

pub one_more-requires-clause-made : goal.one_more-requires-clause-made
one_more-requires-clause-made c = stands-in _ _ _ c.loop-k.invariant.stands

pub returns-in_err-made-2-clause-names : goal.returns-in_err-made-2-clause-names
returns-in_err-made-2-clause-names c =
    let p = err_from_is_err_and c.from_residual-in_err-made-2.result c.from_residual-in_err-made-2.ensures.1 in
    let pair = pair-at c.args.pool.now c.loop-k.pool c.args.before.now c.args.after.now c.loop-k.k c.loop-k.made _ _ c.loop-k.invariant c.requires.same c.requires.before c.requires.after c.loop-k-test.true refl refl in
    rw (p.1, p.2) (joined-stop _ _ _ _ _ c.loop-k.k c.loop-k.made _ _ _ c.loop-k.invariant pair c.in_err-made-2.ensures.names)

pub loop-k-preserved : goal.loop-k-preserved
loop-k-preserved c =
    let pair = pair-at c.args.pool.now c.loop-k.pool c.args.before.now c.args.after.now c.loop-k.k c.loop-k.made _ _ c.loop-k.invariant c.requires.same c.requires.before c.requires.after c.loop-k-test.true refl refl in
    joined-step _ _ _ _ _ c.loop-k.k c.loop-k.made _ _ _ c.loop-k.invariant pair c.in_ok-made-2.ensures.stands c.in_ok-made-2.ensures.names

pub returns-clause-stands : goal.returns-clause-stands
returns-clause-stands c =
    (joined-all c.args.pool.now c.loop-k.pool _ _ c.loop-k.k c.loop-k.made (omega (arith, length-map c.args.before.now (term_at c.args.pool.now.terms), c.loop-k-test.false)) c.loop-k.invariant).0

pub returns-clause-names : goal.returns-clause-names
returns-clause-names c =
    (joined-all c.args.pool.now c.loop-k.pool _ _ c.loop-k.k c.loop-k.made (omega (arith, length-map c.args.before.now (term_at c.args.pool.now.terms), c.loop-k-test.false)) c.loop-k.invariant).1
