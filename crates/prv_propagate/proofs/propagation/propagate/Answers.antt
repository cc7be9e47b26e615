use Rattle.std.proofs.Common.{refl}
use Rattle.prv_propagate.proofs.Extending.{extended_none}
use Rattle.prv_propagate.proofs.propagation.propagate.Goals as goal

pub loop-at-init : goal.loop-at-init
loop-at-init c = record {
  sound = c.requires.sound;
  inside = c.requires.inside;
  before = c.requires.before;
  extended = extended_none c.args.trail.now.steps;
  vars = refl;
}
