use Rattle.std.proofs.Common.{sym, ◌∙◌}
use Rattle.prv_pool.proofs.NodeLemmas.{get-within}
use Rattle.prv_pool.proofs.FoundLemmas.{found-same, found-turned-if, found-within}
use Rattle.prv_pool.proofs.pool.Pool.find_exchangeable.Goals as goal

pub returns-in-Some-clause-value : goal.returns-in-Some-clause-value
returns-in-Some-clause-value c = found-same c.args.self.now.terms c.args.op c.args.a c.args.b c.in-Some.there c.find.ensures.table.all_folded c.in-Some.ensures.found

pub returns-in-Some-clause-within : goal.returns-in-Some-clause-within
returns-in-Some-clause-within c = get-within c.args.self.now.terms c.in-Some.there _ c.in-Some.ensures.found

pub returns-in-None-clause-value : goal.returns-in-None-clause-value
returns-in-None-clause-value c =
    found-turned-if c.args.self.now.terms c.args.op c.args.a c.args.b c.find-in-None.result (sym c.exchanges.ensures ∙ c.if-not-exchanges.false) c.find.ensures.table.all_folded c.find-in-None.ensures.found

pub returns-in-None-clause-within : goal.returns-in-None-clause-within
returns-in-None-clause-within c = found-within c.args.self.now.terms _ c.find-in-None.result c.find-in-None.ensures.found
