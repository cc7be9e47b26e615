use Rattle.std.proofs.Common.{◌≡◌, subst, rules}
use Rattle.prv_gate.specs.Circuits.{IsCircuit, find_gate}
use Rattle.prv_gate.proofs.Keeping.{found-inside}
use Rattle.prv_gate.proofs.builder.Builder.find.Goals as goal

pub returns-clause-inside : goal.returns-clause-inside
returns-clause-inside c =
    let circuit : IsCircuit c.args.self.now = subst IsCircuit c.self.view_is c.self.invariant.0 in
    let value : c.copied.result ≡ find_gate c.args.gate c.args.self.now.gates = search rules in
    found-inside c.args.self.now circuit c.args.gate c.copied.result value
