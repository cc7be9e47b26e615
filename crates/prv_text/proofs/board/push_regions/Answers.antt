use Rattle.std.proofs.Common.{◌≡◌, ℕ, [], ◌∷◌, ◌++◌, length, flat_map, codes, decimal, sym, ap, ◌∙◌}
use Rattle.prv_board.specs.Replays.{slots}
use Rattle.prv_board.specs.declared.totals.Totals.{Totals}
use Rattle.prv_text.specs.Lines.{line}
use Rattle.prv_text.specs.Entries.{entry_line}
use Rattle.prv_text.specs.Boards.{live_entries, names_of}
use Rattle.prv_text.proofs.Capped.{one_more_piece}
use Rattle.prv_text.proofs.Live.{length-live}
use Rattle.prv_text.proofs.board.push_regions.Goals as goal

pub returns : goal.returns
returns c =
    let b = c.args.board.now.replay in
    let old = c.args.out.now.items in
    let count = c.totals.result.entries in
    let lines = flat_map (entry_line (names_of b)) (live_entries b) in
    let e2 = one_more_piece old _ _ (codes "regions ") (decimal count) c.in_ok-extend_from_slice.ensures.items c.in_ok-push_number.ensures in
    let e3 = one_more_piece old _ _ (codes "regions " ++ decimal count) (10 ∷ []) e2 c.in_ok-push.ensures.items in
    let e4 = one_more_piece old _ _ (line (codes "regions " ++ decimal count)) lines e3 c.in_ok-push_live.ensures in
    let counted : count ≡ length (live_entries b) = ap (λ (t : Totals). t.entries) c.totals.ensures.value ∙ sym (length-live 0 (slots b)) in
    e4 ∙ ap (λ (n : ℕ). old ++ (line (codes "regions " ++ decimal n) ++ lines)) counted
