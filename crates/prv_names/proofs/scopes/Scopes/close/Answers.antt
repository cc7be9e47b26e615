use Rattle.prv_names.proofs.NestingLemmas.{closed, closed-nested}
use Rattle.prv_names.proofs.scopes.Scopes.close.Goals as goal

pub returns-in-Some-clause-here : goal.returns-in-Some-clause-here
returns-in-Some-clause-here c =
    closed c.args.self.now.declared c.args.self.now.visible c.truncate.new.self c.args.self.now.starts.items c.pop.new.self.items c.in-Some.start c.in-Some.ensures.items c.truncate.ensures c.requires

pub returns-in-Some-clause-nested : goal.returns-in-Some-clause-nested
returns-in-Some-clause-nested c =
    closed-nested c.args.self.now.declared c.args.self.now.visible c.truncate.new.self c.args.self.now.starts.items c.pop.new.self.items c.in-Some.start c.in-Some.ensures.items c.truncate.ensures c.requires
