use Rattle.prv_settle.proofs.Recording.{supported-fields, supported-small}
use Rattle.prv_settle.proofs.laws.supporting_records_are_small.Goals as goal

pub returns-clause-fields : goal.returns-clause-fields
returns-clause-fields c = supported-fields

pub returns-clause-small : goal.returns-clause-small
returns-clause-small c = supported-small
