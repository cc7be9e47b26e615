use Rattle.prv_general.proofs.SliceTerms.{literals-are-terms, outs-are-terms}
use Rattle.prv_general.proofs.laws.slice_is_over_parameters.Goals as goal

pub returns-clause-literals : goal.returns-clause-literals
returns-clause-literals c = literals-are-terms

pub returns-clause-outs : goal.returns-clause-outs
returns-clause-outs c = outs-are-terms
