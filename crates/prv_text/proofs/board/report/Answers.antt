use Rattle.std.proofs.Common.{ℕ, List, ◌++◌, sym, ap, ◌∙◌}
use Rattle.prv_part.specs.declared.part.Part.{Part}
use Rattle.prv_board.specs.Replays.{slots, counts_of}
use Rattle.prv_text.specs.Lines.{line}
use Rattle.prv_text.specs.Ends.{end_text}
use Rattle.prv_text.specs.Reports.{counts_line}
use Rattle.prv_text.specs.Boards.{board_regions, board_counts}
use Rattle.prv_text.proofs.Live.{parts-live}
use Rattle.prv_text.proofs.board.report.Goals as goal

pub returns : goal.returns
returns c =
    let b = c.args.board.now.replay in
    let end = line (end_text c.args.last.now) in
    let e1 = c.in_ok-push_regions.ensures ∙ ap (λ (zs : List ℕ). zs ++ board_regions b) c.new-out.ensures.items in
    let e2 = c.in_ok-push_board_counts.ensures ∙ ap (λ (zs : List ℕ). zs ++ board_counts b) e1 in
    let e3 = c.in_ok-push_last.ensures ∙ ap (λ (zs : List ℕ). zs ++ end) e2 in
    e3 ∙ ap (λ (ps : List Part). board_regions b ++ counts_line (counts_of ps) ++ end) (sym (parts-live 0 (slots b)))
