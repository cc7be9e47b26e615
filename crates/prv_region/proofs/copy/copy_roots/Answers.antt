use Rattle.std.proofs.Common.{arith, ◌∙◌, get_or}
use Rattle.std.proofs.lemmas.List.{get_or_default}
use Rattle.prv_pool.proofs.AddLemmas.{grown-twice}
use Rattle.prv_region.proofs.CopyLemmas.{copying-kept, copying-one, region-refused, passed}
use Rattle.prv_region.proofs.copy.copy_roots.Goals as goal

pub returns-in_err-copy-clause-kept : goal.returns-in_err-copy-clause-kept
returns-in_err-copy-clause-kept c = grown-twice _ _ _ (copying-kept _ _ _ _ _ _ c.loop-root.invariant.copying) c.copy_root.ensures.copies.kept

pub returns-in_err-copy-clause-wide : goal.returns-in_err-copy-clause-wide
returns-in_err-copy-clause-wide c wide =
    region-refused c.args.from.now.terms c.args.into.now.terms c.loop-root.into c.copy_root.new.into c.loop-root.numbers.items c.loop-root.copies.items c.args.roots.now c.loop-root.root-index _ c.args.into.now.max_nodes
    c.copy_root.result c.copy_root.result c.in_err-copy.field-0.0 c.loop-root.invariant.copying (omega arith) (get_or_default c.args.roots.now c.loop-root.root-index 0 (get_or c.args.roots.now c.loop-root.root-index 0) (omega arith)) c.loop-root.invariant.limit c.copy_root.ensures.copies c.in_err-copy.was
    (passed c.from_residual-in_err-copy.result c.in_err-copy.field-0.0 _ c.from_residual-in_err-copy.ensures.1 wide)

pub returns-in_err-push-clause-kept : goal.returns-in_err-push-clause-kept
returns-in_err-push-clause-kept c = grown-twice _ _ _ (copying-kept _ _ _ _ _ _ c.loop-root.invariant.copying) c.copy_root.ensures.copies.kept

pub returns-clause-kept : goal.returns-clause-kept
returns-clause-kept c = copying-kept _ _ _ _ _ _ c.loop-root.invariant.copying

pub loop-root-preserved : goal.loop-root-preserved
loop-root-preserved c = record {
  copying =
      copying-one c.args.from.now.terms c.args.into.now.terms c.loop-root.into c.copy_root.new.into c.loop-root.numbers.items c.copy_root.new.numbers.items c.loop-root.copies.items c.push.new.list.items c.args.roots.now
      c.loop-root.root-index _ c.in_ok-copy.copy c.loop-root.invariant.copying (omega arith) (get_or_default c.args.roots.now c.loop-root.root-index 0 (get_or c.args.roots.now c.loop-root.root-index 0) (omega arith)) c.in_ok-copy.ensures.copies c.in_ok-copy.ensures.sized c.in_ok-copy.ensures.stands c.in_ok-push.ensures;
  idle = c.in_ok-copy.ensures.idle;
  limit = c.in_ok-copy.ensures.copies.limit ∙ c.loop-root.invariant.limit;
}
