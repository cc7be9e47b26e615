use Rattle.prv_sym.proofs.Naming.{makes-as, names-one}
use Rattle.prv_sym.proofs.Slots.{names-known, node-term, node-in, node-stands, param-term}
use Rattle.prv_sym.proofs.expressions.variable.Goals as goal

pub returns-in-Param-clause-names : goal.returns-in-Param-clause-names
returns-in-Param-clause-names c = names-one _ _ _ _ (makes-as _ _ _ _ _ (param-term c.args.pool.now.terms c.args.slots.now c.args.var _ c.in-Param.ensures) c.param.ensures)

pub returns-in-Param-clause-stands : goal.returns-in-Param-clause-stands
returns-in-Param-clause-stands c = (makes-as _ _ _ _ _ (param-term c.args.pool.now.terms c.args.slots.now c.args.var _ c.in-Param.ensures) c.param.ensures).stands

pub returns-in-Zero-clause-names : goal.returns-in-Zero-clause-names
returns-in-Zero-clause-names c = names-one _ _ _ _ (makes-as _ _ _ _ _ (param-term c.args.pool.now.terms c.args.slots.now c.args.var _ c.in-Zero.ensures) c.num.ensures)

pub returns-in-Zero-clause-stands : goal.returns-in-Zero-clause-stands
returns-in-Zero-clause-stands c = (makes-as _ _ _ _ _ (param-term c.args.pool.now.terms c.args.slots.now c.args.var _ c.in-Zero.ensures) c.num.ensures).stands

pub returns-in-Node-clause-names : goal.returns-in-Node-clause-names
returns-in-Node-clause-names c =
    names-known _ _ _ (node-in c.args.pool.now.terms c.args.slots.now c.args.var _ c.requires c.in-Node.ensures) (node-term c.args.pool.now.terms c.args.slots.now c.args.var _ c.in-Node.ensures)

pub returns-in-Node-clause-stands : goal.returns-in-Node-clause-stands
returns-in-Node-clause-stands c = node-stands c.args.pool.now.terms c.args.slots.now c.args.var _ c.requires c.in-Node.ensures
