use Rattle.std.proofs.Common.{◌++◌, ◌∙◌, ap, codes, arith, List, ℕ}
use Rattle.prv_text.proofs.Spelling.{cut-long}
use Rattle.prv_text.proofs.pieces.cut_behind.Goals as goal

pub returns-in_ok-extend_from_slice : goal.returns-in_ok-extend_from_slice
returns-in_ok-extend_from_slice c = λ old text limit at is.
    c.in_ok-extend_from_slice.ensures.items
    ∙ ap (λ (zs : List ℕ). zs ++ codes "..") c.truncate.ensures.items
    ∙ cut-long limit c.args.end old text c.args.out.now.items at is (omega (arith, c.args.out.now.ok.0))
