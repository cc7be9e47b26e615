use Rattle.std.proofs.Common.{◌≡◌, List, ℕ, length, ◌∙◌, sym, ap, arith, Vec, Global}
use Rattle.std.proofs.lemmas.List.{length-map}
use Rattle.prv_journal.specs.Records.{Payloads}
use Rattle.prv_journal.proofs.RecordsRead.{records-end}
use Rattle.prv_journal.proofs.journal.Journal.load.Goals as goal

pub invariant_of-journal : goal.invariant_of-journal
invariant_of-journal g c =
    let items : Vec ℕ Global → List ℕ = λ (v : Vec ℕ Global). v.items in
    let count : c.len.result ≡ length c.in-Ok.found.payloads.items = omega (arith, c.len.ensures, c.in-Ok.found.payloads.ok.0) in (
      omega (arith, c.in-Ok.ensures.size, count),
      λ tells whole.
          let t = c.in-Ok.ensures.found tells in
          record { settled = t.0; count_is = count ∙ sym (length-map c.in-Ok.found.payloads.items items) ∙ sym (ap length t.1) },
    )

pub returns-in-Ok-clause-payloads : goal.returns-in-Ok-clause-payloads
returns-in-Ok-clause-payloads g c = λ tells.
    let t = c.in-Ok.ensures.found tells in
    sym (c.in-Ok.ensures.same tells) ∙ records-end _ _ t.0.payloads t.0.ends ∙ ap Payloads t.1
