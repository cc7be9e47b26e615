use Rattle.std.proofs.Common.{◌++◌, codes}
use Rattle.prv_text.specs.Terms.{symbol as symbol_of}
use Rattle.prv_text.proofs.Capped.{take_more_of}
use Rattle.prv_text.proofs.pieces.push_between.Goals as goal

pub returns : goal.returns
returns c =
    let end = c.args.end in
    let old = c.args.out.now.items in
    let symbol = symbol_of c.args.op in
    let e2 = take_more_of end old _ _ (codes " ") symbol c.in_ok-push_capped.ensures (rw c.symbol.ensures at c.in_ok-push_capped-2.ensures) in
    take_more_of end old _ _ (codes " " ++ symbol) (codes " ") e2 c.in_ok-push_capped-3.ensures
