use Rattle.prv_sym.proofs.Naming.{names-one}
use Rattle.prv_sym.proofs.operators.binary_safe.Goals as goal

pub returns-in-Plain-clause-names : goal.returns-in-Plain-clause-names
returns-in-Plain-clause-names c = rw c.in-Plain.is (names-one _ _ _ _ c.op.ensures)

pub returns-in-Exchanged-clause-names : goal.returns-in-Exchanged-clause-names
returns-in-Exchanged-clause-names c = rw c.in-Exchanged.is (names-one _ _ _ _ c.op-in-Exchanged.ensures)

pub returns-in-Divides-clause-stands : goal.returns-in-Divides-clause-stands
returns-in-Divides-clause-stands c = rw c.in-Divides.is (c.division_safe.ensures.stands c.in-Divides.field-0)
