use Rattle.std.proofs.Common.{sym, ◌∙◌, arith}
use Rattle.prv_pool.specs.Tables.{term_at}
use Rattle.prv_pool.proofs.NodeLemmas.{term_at-some}
use Rattle.prv_text.specs.Terms.{spelled}
use Rattle.prv_text.proofs.Writing.{spelled-compound, goes-compound, goes-simple, on-ok}
use Rattle.prv_text.proofs.node.push_operand.Goals as goal

pub returns-in_ok-push : goal.returns-in_ok-push
returns-in_ok-push c =
    let names = c.args.names.now in
    let terms = c.args.pool.now.terms in
    let t = term_at terms c.args.node in
    let compound = spelled-compound names terms t c.node.result (term_at-some terms c.args.node _ c.node.ensures.value) in
    on-ok c.open.result (λ inner. goes-compound names terms c.args.end c.args.out.now.items (spelled names t) c.args.waiting.now.items _ c.open.new.out.items c.open.new.waiting.items (omega (arith, c.args.out.now.ok.0)) (compound ∙ sym c.is_compound.ensures ∙ c.if-is_compound.true) c.in_ok-push_capped.ensures (rw c.in_ok-push.ensures.items at inner)) c.open.ensures

pub returns-else-is_compound : goal.returns-else-is_compound
returns-else-is_compound c =
    let names = c.args.names.now in
    let terms = c.args.pool.now.terms in
    let t = term_at terms c.args.node in
    let compound = spelled-compound names terms t c.node.result (term_at-some terms c.args.node _ c.node.ensures.value) in
    on-ok c.open-else-is_compound.result (λ inner. goes-simple names terms c.args.end c.args.out.now.items (spelled names t) c.args.waiting.now.items c.open-else-is_compound.new.out.items c.open-else-is_compound.new.waiting.items (compound ∙ sym c.is_compound.ensures ∙ c.if-is_compound.false) inner) c.open-else-is_compound.ensures
