use Rattle.std.proofs.Common.{◌≡◌, ◌-◌, ◌∙◌, length, take, ap, arith}
use Rattle.prv_blast.proofs.Orders.{last-within, last-unmet, down, up}
use Rattle.prv_blast.proofs.order.Order.step.Goals as goal

pub node-requires : goal.node-requires
node-requires c = last-within (length c.args.pool.now.terms) c.args.self.now c.args.path.now.items c.args.node c.requires.walk c.requires.last

pub push-requires-in-None : goal.push-requires-in-None
push-requires-in-None c = last-unmet (length c.args.pool.now.terms) c.args.self.now c.args.path.now.items c.args.node c.requires.walk c.requires.last

pub returns-in_ok-push-in-Some-clause-walk : goal.returns-in_ok-push-in-Some-clause-walk
returns-in_ok-push-in-Some-clause-walk c =
    (down c.args.pool.now c.node.ensures.table c.args.self.now c.args.path.now.items c.push.new.self.items c.args.node c.node.result c.requires.walk c.requires.last
    c.node.ensures.value c.node.ensures.before c.in-Some.operand c.in-Some.ensures c.in_ok-push-in-Some.ensures.items).walk

pub returns-in_ok-push-in-Some-clause-climbed : goal.returns-in_ok-push-in-Some-clause-climbed
returns-in_ok-push-in-Some-clause-climbed c =
    (down c.args.pool.now c.node.ensures.table c.args.self.now c.args.path.now.items c.push.new.self.items c.args.node c.node.result c.requires.walk c.requires.last
    c.node.ensures.value c.node.ensures.before c.in-Some.operand c.in-Some.ensures c.in_ok-push-in-Some.ensures.items).climbs

pub returns-in_ok-push-in-Some-clause-shorter : goal.returns-in_ok-push-in-Some-clause-shorter
returns-in_ok-push-in-Some-clause-shorter c =
    (down c.args.pool.now c.node.ensures.table c.args.self.now c.args.path.now.items c.push.new.self.items c.args.node c.node.result c.requires.walk c.requires.last
    c.node.ensures.value c.node.ensures.before c.in-Some.operand c.in-Some.ensures c.in_ok-push-in-Some.ensures.items).shorter

pub returns-in_ok-push-in-None-clause-walk : goal.returns-in_ok-push-in-None-clause-walk
returns-in_ok-push-in-None-clause-walk c =
    let long : c.args.path.now.len ≡ length c.args.path.now.items = omega arith in
    (up c.args.pool.now c.node.ensures.table c.args.self.now c.args.path.now.items c.pop.new.self.items c.args.node c.node.result c.requires.walk c.requires.last
    c.node.ensures.value c.node.ensures.before c.push-in-None.new.self c.in-None.ensures c.in_ok-push-in-None.ensures.last c.in_ok-push-in-None.ensures.distinct (c.pop.ensures.rest ∙ ap (λ n. take (n - 1) c.args.path.now.items) long)).walk

pub returns-in_ok-push-in-None-clause-climbed : goal.returns-in_ok-push-in-None-clause-climbed
returns-in_ok-push-in-None-clause-climbed c =
    let long : c.args.path.now.len ≡ length c.args.path.now.items = omega arith in
    (up c.args.pool.now c.node.ensures.table c.args.self.now c.args.path.now.items c.pop.new.self.items c.args.node c.node.result c.requires.walk c.requires.last
    c.node.ensures.value c.node.ensures.before c.push-in-None.new.self c.in-None.ensures c.in_ok-push-in-None.ensures.last c.in_ok-push-in-None.ensures.distinct (c.pop.ensures.rest ∙ ap (λ n. take (n - 1) c.args.path.now.items) long)).climbs

pub returns-in_ok-push-in-None-clause-shorter : goal.returns-in_ok-push-in-None-clause-shorter
returns-in_ok-push-in-None-clause-shorter c =
    let long : c.args.path.now.len ≡ length c.args.path.now.items = omega arith in
    (up c.args.pool.now c.node.ensures.table c.args.self.now c.args.path.now.items c.pop.new.self.items c.args.node c.node.result c.requires.walk c.requires.last
    c.node.ensures.value c.node.ensures.before c.push-in-None.new.self c.in-None.ensures c.in_ok-push-in-None.ensures.last c.in_ok-push-in-None.ensures.distinct (c.pop.ensures.rest ∙ ap (λ n. take (n - 1) c.args.path.now.items) long)).shorter
