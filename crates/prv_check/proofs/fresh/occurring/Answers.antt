use Rattle.std.proofs.Common.{◌≡◌, ℕ, List, get_or, subst, ◌∙◌, inl, inr, arith}
use Rattle.std.proofs.lemmas.Bool.{cases_lt}
use Rattle.std.proofs.lemmas.List.{get_or_default}
use Rattle.prv_cnf.specs.declared.literal.Lit.{Lit}
use Rattle.prv_check.specs.LogLines.{LogLine}
use Rattle.prv_check.specs.Inner.Tables.{AreFlagged}
use Rattle.prv_check.proofs.Placing.{flagged_kept, flagged_added}
use Rattle.prv_check.proofs.fresh.occurring.Goals as goal

pub loop-line-preserved : goal.loop-line-preserved
loop-line-preserved c =
    let new = c.flag_all.new.flags in
    let added : List Lit = c.lits.result.now in
    let at : ℕ = c.loop-line.line-index in (
      c.flag_all.ensures.size ∙ c.loop-line.invariant.0,
      λ k d below. elim (cases_lt k at) [
        | inl before ↦ flagged_kept c.loop-line.occurs new (get_or c.args.lines.now k d).clause added c.flag_all.ensures.size c.flag_all.ensures.flagged (c.loop-line.invariant.1 k d before)
        | inr after ↦
            let here : at ≡ k = omega arith in
            let line : LogLine = c.line-item.result in
            let same : line ≡ get_or c.args.lines.now at d = c.line-item.is ∙ get_or_default c.args.lines.now at line d c.loop-line-test.true in
            let P : ℕ → Type 0 = λ n. AreFlagged new (get_or c.args.lines.now n d).clause in
            let Q : LogLine → Type 0 = λ s. AreFlagged new s.clause in
            let flagged : AreFlagged new added = flagged_added c.loop-line.occurs new added c.flag_all.ensures.size c.flag_all.ensures.flagged in
            subst P here (subst Q same (subst (λ (ls : List Lit). AreFlagged new ls) (c.lits.ensures ∙ c.clause.ensures) flagged))
      ],
    )
