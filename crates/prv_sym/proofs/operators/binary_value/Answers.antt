use Rattle.prv_sym.proofs.Naming.{names-one}
use Rattle.prv_sym.proofs.operators.binary_value.Goals as goal

pub returns-in-Plain-clause-names : goal.returns-in-Plain-clause-names
returns-in-Plain-clause-names c = rw c.in-Plain.is (names-one _ _ _ _ c.op.ensures)

pub returns-in-Exchanged-clause-names : goal.returns-in-Exchanged-clause-names
returns-in-Exchanged-clause-names c = rw c.in-Exchanged.is (names-one _ _ _ _ c.op-in-Exchanged.ensures)

pub returns-in-Divides-clause-names : goal.returns-in-Divides-clause-names
returns-in-Divides-clause-names c = rw c.in-Divides.is (names-one _ _ _ _ c.op-in-Divides.ensures)
