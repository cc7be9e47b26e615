use Rattle.std.proofs.Common.{◌≡◌, ◌+◌, Some, ap, sym, ◌∙◌, arith, subst, slice_get, unwrap_or, List, ℕ, Option}
use Rattle.prv_model.specs.Programs.{stmt_count}
use Rattle.prv_model.specs.Numbers.{statements}
use Rattle.prv_run.specs.declared.record.Recorder.{Recorder}
use Rattle.prv_run.specs.Telling.{Knows, Agrees}
use Rattle.prv_run.proofs.Tellings.{size-at, fitting}
use Rattle.prv_run.proofs.record.Recorder.behind.Goals as goal

pub returns-in-On : goal.returns-in-On
returns-in-On c = λ s known.
    let here = size-at c.in-On.sizes c.args.number s (subst (λ r. Knows r c.args.number (statements s)) c.in-On.is known) in
    let found : c.copied.result ≡ Some (stmt_count s) = c.copied.ensures ∙ c.at.ensures ∙ ap (λ (xs : List ℕ). slice_get xs c.args.number) c.as_slice.ensures ∙ here.0 in
    let size : c.unwrap_or-size.result ≡ stmt_count s = c.unwrap_or-size.ensures ∙ ap (λ (o : Option ℕ). unwrap_or o 0) found in
    let kept : c.unwrap_or.result ≡ c.unwrap_or-size.result = c.unwrap_or.ensures ∙ fitting c.try_from.result c.unwrap_or-size.result 4294967296 4294967295 c.try_from.ensures (omega arith) in
    let same : c.saturating_add.result ≡ c.args.number + stmt_count s = omega arith in
    subst (λ (r : Recorder). Agrees r c.saturating_add.result (c.args.number + stmt_count s)) (sym c.in-On.is) same
