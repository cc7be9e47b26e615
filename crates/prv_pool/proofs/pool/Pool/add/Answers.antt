use Rattle.std.proofs.Common.{arith, refl, ◌∙◌, subst, sym, ap, List, Bool}
use Rattle.prv_pool.specs.Nodes.{IsPool, AreDistinct, terms_of}
use Rattle.prv_pool.specs.declared.node.Node.{Node}
use Rattle.prv_pool.proofs.NodeLemmas.{length-terms_of, terms_of-push}
use Rattle.prv_pool.proofs.PoolLemmas.{pool-grown, below-terms, is-new-node, memory-not-wide}
use Rattle.prv_pool.proofs.pool.Pool.add.Goals as goal

pub returns-then-self-count-clause-wide : goal.returns-then-self-count-clause-wide
returns-then-self-count-clause-wide c = rw (← c.self.view_is) (λ _. omega (arith, c.if-self-count.true, c.len-count.ensures.len, length-terms_of c.self.inside.nodes), λ _. refl)

pub is_truth_node-truth-requires : goal.is_truth_node-truth-requires
is_truth_node-truth-requires c = below-terms c.self.inside.nodes c.args.node (rw (← c.self.view_is) at c.requires.below)

pub push-requires : goal.push-requires
push-requires c = let new = rw (← c.self.view_is) at c.requires.is_new in is-new-node c.self.invariant c.args.node new

pub returns-in_err-push-clause-wide : goal.returns-in_err-push-clause-wide
returns-in_err-push-clause-wide c =
    let not_wide = memory-not-wide c.from_residual.result c.from_residual.ensures.1 in
    rw (← c.self.view_is) (λ e. absurd (not_wide e), λ h. absurd (omega (arith, c.if-self-count.false, c.len-count.ensures.len, length-terms_of c.self.inside.nodes)))

pub invariant_of-self-2 : goal.invariant_of-self-2
invariant_of-self-2 c =
    let low = below-terms c.self.inside.nodes c.args.node (rw (← c.self.view_is) at c.requires.below) in
    let folded = rw (← c.self.view_is) at c.requires.is_folded in
    let made = c.in_ok-push.ensures.ok in
    subst (λ (ns : List (Node × Bool)). IsPool ns c.self.inside.max_nodes) (sym made)
    (pool-grown c.self.invariant (c.args.node, c.is_truth_node-truth.result) low c.is_truth_node-truth.ensures folded (omega (arith, c.if-self-count.false, c.len-count.ensures.len)) (subst AreDistinct made c.push.ensures.distinct))

pub returns-clause-number : goal.returns-clause-number
returns-clause-number c = rw (← c.self.view_is) (c.len-count.ensures.len ∙ sym (length-terms_of c.self.inside.nodes))

pub returns-clause-grows : goal.returns-clause-grows
returns-clause-grows c = rw (← c.self.view_is) (ap terms_of c.in_ok-push.ensures.ok ∙ terms_of-push c.self.inside.nodes (c.args.node, c.is_truth_node-truth.result))

pub returns-clause-wide : goal.returns-clause-wide
returns-clause-wide c =
    rw (← c.self.view_is) (λ e. cc, λ h. absurd (omega (arith, c.if-self-count.false, c.len-count.ensures.len, length-terms_of c.self.inside.nodes)))
