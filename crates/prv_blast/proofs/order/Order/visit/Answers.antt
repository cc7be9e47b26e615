use Rattle.std.proofs.Common.{◌≡◌, ◌∙◌, [], ◌∷◌, ◌++◌, sym, ap}
use Rattle.prv_blast.specs.Orders.{terms_at, climbed}
use Rattle.prv_blast.proofs.Orders.{starts-walk, visited-before}
use Rattle.prv_blast.proofs.order.Order.visit.Goals as goal

pub returns-then-has-clause-grows : goal.returns-then-has-clause-grows
returns-then-has-clause-grows c = visited-before c.args.pool.now.terms c.args.self.now c.args.root (sym c.if-has.true ∙ c.has.ensures.value)

pub loop-node-init : goal.loop-node-init
loop-node-init c =
    let path : c.push.new.self.items ≡ c.args.root ∷ [] = c.in_ok-push.ensures.items ∙ ap (λ xs. xs ++ c.args.root ∷ []) c.new-path.ensures.items in
    record {
      walk = starts-walk c.args.pool.now c.args.self.now c.push.new.self.items c.args.root c.has.ensures.distinct c.requires.within c.requires.root (sym c.if-has.false ∙ c.has.ensures.value) path;
      climbs = ap (λ ns. climbed c.args.pool.now.terms ns (terms_at c.args.pool.now.terms c.args.self.now)) path;
    }
