use Rattle.std.proofs.Common.{◌≡◌, []}
use Rattle.prv_check.specs.Lines.{known}
use Rattle.prv_propagate.specs.Loading.{IsLoading}
use Rattle.prv_propagate.proofs.loading.load.Given as goal

abbrev pub invariant-loop-number : goal.invariant-loop-number
invariant-loop-number l = IsLoading (known l.cnf []) l.number l.trail l.watches × (l.trail.vars ≡ l.fn.trail.vars)
