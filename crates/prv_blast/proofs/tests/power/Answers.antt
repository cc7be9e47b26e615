use Rattle.std.proofs.Common.{refl}
use Rattle.prv_model.specs.declared.term.Term.TheVariants.{Param}
use Rattle.prv_blast.proofs.Pools.{param-term, made-known, made-there}
use Rattle.prv_blast.proofs.tests.power.Goals as goal

pub loop-init : goal.loop-init
loop-init c = record {
  known = made-known (Param 0) c.args.pool.now c.param.new.self c.in_ok-a.a c.in_ok-a.ensures (param-term 8 0 refl) c.requires.known;
  first = made-there (Param 0) c.args.pool.now c.param.new.self c.in_ok-a.a c.in_ok-a.ensures;
  product = made-there (Param 0) c.args.pool.now c.param.new.self c.in_ok-a.a c.in_ok-a.ensures;
}
