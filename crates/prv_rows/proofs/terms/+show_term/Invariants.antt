use Rattle.prv_rows.proofs.terms.+show_term.Given as goal

-- operands stand before their node
abbrev pub decreases-show_term : goal.decreases-show_term
decreases-show_term l = l.n
