use Rattle.std.proofs.Common.{◌++◌, ◌∷◌, [], ◌∙◌, ap, sym, List, ℕ, arith, append_assoc, zero-add}
use Rattle.prv_board.specs.Trees.{origins_from}
use Rattle.prv_board.specs.declared.tree.Origin.{Origin}
use Rattle.prv_board.specs.declared.tree.Origin.TheVariants.{Made}
use Rattle.prv_board.proofs.KeptLaws.{origins-push}
use Rattle.prv_board.proofs.apply.add_origins.Goals as goal

pub loop-part-preserved : goal.loop-part-preserved
loop-part-preserved c =
    let k = c.args.settlement in
    let n = c.loop-part.part in
    record {
      items =
          c.push_reserved.ensures.items ∙ ap (λ (os : List Origin). os ++ Made k n ∷ []) c.loop-part.invariant.items ∙ append_assoc c.args.origins.now.items (origins_from k 0 n) (Made k n ∷ [])
          ∙ ap (λ (i : ℕ). c.args.origins.now.items ++ (origins_from k 0 n ++ Made k i ∷ [])) (sym (zero-add n))
          ∙ ap (λ (os : List Origin). c.args.origins.now.items ++ os) (sym (origins-push k 0 n));
      len = omega (arith, c.push_reserved.ensures.len, c.loop-part.invariant.len);
      capacity = c.push_reserved.ensures.capacity ∙ c.loop-part.invariant.capacity;
    }
