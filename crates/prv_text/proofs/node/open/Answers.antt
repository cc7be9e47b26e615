use Rattle.std.proofs.Common.{rules, SFits, arith}
use Rattle.std.specs.Int.{w32}
use Rattle.std.proofs.lemmas.Int.{to_z-of_z}
use Rattle.prv_pool.specs.Tables.{term_at}
use Rattle.prv_pool.proofs.NodeLemmas.{term_at-some}
use Rattle.prv_text.proofs.Writing.{goes-Param, goes-Num, goes-Op, goes-Pick, on-ok, on-pushed}
use Rattle.prv_text.proofs.node.open.Goals as goal

pub returns-in-Param : goal.returns-in-Param
returns-in-Param c =
    let terms = c.args.pool.now.terms in
    let is = term_at-some terms c.args.node _ c.in-Param.ensures.value in
    on-ok c.push_name.result (λ written. goes-Param c.args.names.now terms c.args.end c.args.out.now.items c.args.waiting.now.items (term_at terms c.args.node) c.in-Param.k c.push_name.new.out.items (omega (arith, c.args.out.now.ok.0)) c.requires.waits is written) c.push_name.ensures

pub returns-in-Num : goal.returns-in-Num
returns-in-Num c =
    let terms = c.args.pool.now.terms in
    let is = term_at-some terms c.args.node _ c.in-Num.ensures.value in
    let fits : SFits w32 c.in-Num.n = search rules in
    on-ok c.push_decimal.result (λ written. goes-Num c.args.names.now terms c.args.end c.args.out.now.items c.args.waiting.now.items (term_at terms c.args.node) c.in-Num.n c.push_decimal.new.out.items (omega (arith, c.args.out.now.ok.0)) c.requires.waits is written) (rw (to_z-of_z w32 c.in-Num.n fits) at c.push_decimal.ensures)

pub returns-in-Op : goal.returns-in-Op
returns-in-Op c =
    let terms = c.args.pool.now.terms in
    let is = term_at-some terms c.args.node _ c.in-Op.ensures.value in
    on-pushed c.extend_from_slice.result _ _ _ c.extend_from_slice.ensures.items (λ pushed.
    rw pushed (goes-Op c.args.names.now terms c.args.end c.args.out.now.items c.args.waiting.now.items c.args.node (term_at terms c.args.node) c.in-Op.op c.in-Op.a c.in-Op.b (omega (arith, c.args.out.now.ok.0)) c.requires.waits is c.requires.within c.in-Op.ensures.before))

pub returns-in-Pick : goal.returns-in-Pick
returns-in-Pick c =
    let terms = c.args.pool.now.terms in
    let is = term_at-some terms c.args.node _ c.in-Pick.ensures.value in
    on-pushed c.extend_from_slice-in-Pick.result _ _ _ c.extend_from_slice-in-Pick.ensures.items (λ pushed.
    rw pushed (goes-Pick c.args.names.now terms c.args.end c.args.out.now.items c.args.waiting.now.items c.args.node (term_at terms c.args.node) c.in-Pick.test c.in-Pick.chosen c.in-Pick.other (omega (arith, c.args.out.now.ok.0)) c.requires.waits is c.requires.within c.in-Pick.ensures.before))
