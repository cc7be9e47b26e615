use Rattle.std.proofs.lemmas.Result.{err_from_is_err_and}
use Rattle.prv_sym.proofs.Naming.{one-refused, kept-in, made-in}
use Rattle.prv_settle.proofs.Equating.{one-more-named, one-more-stands}
use Rattle.prv_settle.proofs.equality.one_more.Goals as goal

pub returns-in_err-same-clause-names : goal.returns-in_err-same-clause-names
returns-in_err-same-clause-names c =
    let p = err_from_is_err_and c.from_residual.result c.from_residual.ensures.1 in
    rw (p.1, p.2) (one-refused _ _ _ _ _ c.in_err-same.ensures)

pub op-requires-2-clause-first : goal.op-requires-2-clause-first
op-requires-2-clause-first c = kept-in _ _ _ _ c.args.made c.in_ok-same.ensures c.requires.made

pub op-requires-2-clause-second : goal.op-requires-2-clause-second
op-requires-2-clause-second c = made-in _ _ _ _ c.in_ok-same.ensures

pub returns-clause-stands : goal.returns-clause-stands
returns-clause-stands c = one-more-stands c.args.made c.args.before c.args.after c.in_ok-same.same c.args.pool.now _ _ _ c.requires.made c.in_ok-same.ensures c.op-2.ensures

pub returns-clause-names : goal.returns-clause-names
returns-clause-names c = one-more-named c.args.made c.args.before c.args.after c.in_ok-same.same c.args.pool.now _ _ _ c.requires.made c.in_ok-same.ensures c.op-2.ensures
