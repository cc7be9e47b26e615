use Rattle.std.proofs.Common.{◌++◌, ◌∷◌, [], ◌∙◌, ap, sym, List, Option, None, arith, append_assoc}
use Rattle.prv_board.specs.Trees.{not_retired}
use Rattle.prv_board.specs.declared.tree.Retired.{Retired}
use Rattle.prv_board.proofs.KeptLaws.{not_retired-push}
use Rattle.prv_board.proofs.apply.add_live.Goals as goal

pub loop-preserved : goal.loop-preserved
loop-preserved c = record {
  items =
      c.push_reserved.ensures.items ∙ ap (λ (rs : List (Option Retired)). rs ++ None ∷ []) c.loop.invariant.items ∙ append_assoc c.args.retired.now.items (not_retired c.loop.counter) (None ∷ [])
      ∙ ap (λ (rs : List (Option Retired)). c.args.retired.now.items ++ rs) (sym (not_retired-push c.loop.counter));
  len = omega (arith, c.push_reserved.ensures.len, c.loop.invariant.len);
  capacity = c.push_reserved.ensures.capacity ∙ c.loop.invariant.capacity;
}
