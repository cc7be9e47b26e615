use Rattle.std.proofs.Common.{arith, ◌∙◌, sym, ap, List, ℕ, Option}
use Rattle.prv_region.specs.Numbers.{number_at}
use Rattle.prv_region.proofs.CopyLemmas.{last-below-all, ready-smaller, ready-copying, lacks-smaller, lacks-copying, copies-refused}
use Rattle.prv_region.proofs.copy.copy_new.Goals as goal

pub node_in-requires-clause-within : goal.node_in-requires-clause-within
node_in-requires-clause-within c =
    last-below-all c.args.from.now.terms c.args.into.now.terms c.loop-n.numbers.items c.args.root c.loop-n.made c.loop-n.waiting.items c.pop.new.self.items c.in-Some.n c.in-Some.ensures.items c.loop-n.into.terms c.loop-n.invariant.copying

pub returns-in_err-made-in-Ready-clause-copies : goal.returns-in_err-made-in-Ready-clause-copies
returns-in_err-made-in-Ready-clause-copies c =
    copies-refused c.args.from.now.terms c.args.into.now c.loop-n.into c.intern.new.self c.loop-n.numbers.items c.args.root c.loop-n.made c.loop-n.waiting.items c.pop.new.self.items c.in-Some.n _ c.intern.result
    c.from_residual-in_err-made-in-Ready.result c.in_err-made-in-Ready.field-0.0 c.in-Some.ensures.items c.loop-n.invariant.copying c.loop-n.invariant.limit c.in-Ready.ensures.renumbers.1 c.intern.ensures c.in_err-made-in-Ready.was
    c.from_residual-in_err-made-in-Ready.ensures.1

pub index_mut-requires : goal.index_mut-requires
index_mut-requires c =
    let below =
    last-below-all c.args.from.now.terms c.args.into.now.terms c.loop-n.numbers.items c.args.root c.loop-n.made c.loop-n.waiting.items c.pop.new.self.items c.in-Some.n c.in-Some.ensures.items c.loop-n.into.terms c.loop-n.invariant.copying in
    let sized = c.loop-n.invariant.copying.sized in
    omega (arith, below, sized, c.loop-n.numbers.ok)

pub loop-n-smaller-in-Ready : goal.loop-n-smaller-in-Ready
loop-n-smaller-in-Ready c =
    ready-smaller c.args.from.now.terms c.args.into.now.terms c.loop-n.numbers.items c.args.root c.loop-n.made c.loop-n.waiting.items c.pop.new.self.items c.in-Some.n c.in-Some.ensures.items c.loop-n.into.terms c.in_ok-made-in-Ready.made
    c.loop-n.invariant.copying

pub loop-n-preserved-in-Ready : goal.loop-n-preserved-in-Ready
loop-n-preserved-in-Ready c = record {
  copying =
      ready-copying c.args.from.now.terms c.args.into.now.terms c.loop-n.numbers.items c.args.root c.loop-n.made c.loop-n.waiting.items c.pop.new.self.items c.in-Some.n c.in-Some.ensures.items c.loop-n.into.terms c.intern.new.self.terms
      c.in_ok-made-in-Ready.made _ c.loop-n.invariant.copying c.in-Ready.ensures.renumbers.1 c.in_ok-made-in-Ready.ensures.stands c.in_ok-made-in-Ready.ensures.grows;
  limit = c.intern.ensures.limit ∙ c.loop-n.invariant.limit;
}

pub loop-n-smaller : goal.loop-n-smaller
loop-n-smaller c =
    lacks-smaller c.args.from.now.terms c.args.into.now.terms c.loop-n.numbers.items c.args.root c.loop-n.made c.loop-n.waiting.items c.pop.new.self.items c.in-Some.n c.in-Some.ensures.items c.push-in-Lacks.new.list.items
    c.push-in-Lacks-2.new.list.items c.in-Lacks.operand c.in_ok-push-in-Lacks.ensures c.in_ok-push-in-Lacks-2.ensures c.in-Lacks.ensures.renumbers.0

pub loop-n-preserved : goal.loop-n-preserved
loop-n-preserved c = record {
  copying =
      lacks-copying c.args.from.now.terms c.args.into.now.terms c.loop-n.numbers.items c.args.root c.loop-n.made c.loop-n.waiting.items c.pop.new.self.items c.in-Some.n c.in-Some.ensures.items c.loop-n.into.terms c.push-in-Lacks.new.list.items
      c.push-in-Lacks-2.new.list.items c.in-Lacks.operand c.loop-n.invariant.copying c.in_ok-push-in-Lacks.ensures c.in_ok-push-in-Lacks-2.ensures c.in-Lacks.ensures.renumbers.0 (ap (λ (ns : List (Option ℕ)). number_at ns c.in-Lacks.operand) (sym c.as_slice.ensures.value) ∙ c.in-Lacks.ensures.renumbers.1) c.in-Lacks.ensures.renumbers.3;
  limit = c.loop-n.invariant.limit;
}
