use Rattle.std.proofs.Common.{◌++◌, codes}
use Rattle.prv_text.specs.Reports.{count_text}
use Rattle.prv_text.proofs.Capped.{one_more_piece}
use Rattle.prv_text.proofs.Writing.{on-ok}
use Rattle.prv_text.proofs.counts.push_counts_text.Goals as goal

pub returns : goal.returns
returns c =
    let old = c.args.out.now.items in
    let counts = c.args.counts.now in
    let same = count_text (codes "same ") counts.same in
    let different = same ++ count_text (codes " different ") counts.different in
    let empty = different ++ count_text (codes " empty ") counts.empty in
    let beyond = empty ++ count_text (codes " beyond ") counts.beyond in
    let open_ = beyond ++ count_text (codes " open ") counts.unexplored in
    let e2 = one_more_piece old _ _ same _ c.in_ok-push_count.ensures c.in_ok-push_count-2.ensures in
    let e3 = one_more_piece old _ _ different _ e2 c.in_ok-push_count-3.ensures in
    let e4 = one_more_piece old _ _ empty _ e3 c.in_ok-push_count-4.ensures in
    let e5 = one_more_piece old _ _ beyond _ e4 c.in_ok-push_count-5.ensures in
    on-ok c.push_count-6.result (λ last. one_more_piece old _ _ open_ _ e5 last) c.push_count-6.ensures
