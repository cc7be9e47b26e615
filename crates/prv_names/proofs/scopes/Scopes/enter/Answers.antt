use Rattle.prv_names.proofs.NestingLemmas.{entered, entered-nested}
use Rattle.prv_names.proofs.scopes.Scopes.enter.Goals as goal

pub returns-clause-here : goal.returns-clause-here
returns-clause-here c =
    entered c.args.self.now.declared c.args.self.now.visible c.add.new.self c.args.self.now.starts.items c.args.name.now c.add-2.new.self c.requires c.in_ok-add.ensures c.in_ok-add-2.ensures

pub returns-clause-nested : goal.returns-clause-nested
returns-clause-nested c = entered-nested c.args.self.now.visible c.args.self.now.starts.items c.args.name.now c.add-2.new.self c.requires c.in_ok-add-2.ensures
