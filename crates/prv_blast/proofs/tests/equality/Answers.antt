use Rattle.std.proofs.Common.{refl, pos, arith}
use Rattle.prv_model.specs.declared.term.Term.TheVariants.{Param, Num}
use Rattle.prv_blast.proofs.Pools.{param-term, num-term, made-known, made-longer, made-there}
use Rattle.prv_blast.proofs.tests.equality.Goals as goal

pub op-requires-clause-known : goal.op-requires-clause-known
op-requires-clause-known c =
    let first = made-known (Param 0) c.args.pool.now c.param.new.self c.in_ok-a.a c.in_ok-a.ensures (param-term 8 0 refl) c.requires.known in
    made-known (Num (pos 5)) c.param.new.self c.num.new.self c.in_ok-five.five c.in_ok-five.ensures (num-term 8 (pos 5) refl) first

pub op-requires-clause-first : goal.op-requires-clause-first
op-requires-clause-first c =
    omega (arith, made-there (Param 0) c.args.pool.now c.param.new.self c.in_ok-a.a c.in_ok-a.ensures, made-longer (Num (pos 5)) c.param.new.self c.num.new.self c.in_ok-five.five c.in_ok-five.ensures)

pub op-requires-clause-second : goal.op-requires-clause-second
op-requires-clause-second c = made-there (Num (pos 5)) c.param.new.self c.num.new.self c.in_ok-five.five c.in_ok-five.ensures
