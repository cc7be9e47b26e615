use Rattle.std.proofs.Common.{◌≡◌, inl, refl, ◌∙◌, sym, subst, arith, rules}
use Rattle.prv_disk.specs.Crashes.{AddsOnly}
use Rattle.prv_journal.specs.Records.{Payloads}
use Rattle.prv_journal.specs.Ends.{IsSettled}
use Rattle.prv_journal.specs.Journals.{Has, HasOrWith}
use Rattle.prv_journal.proofs.Moments.{adds-none, adds-then, adds-weaker}
use Rattle.prv_journal.proofs.RecordsWritten.{staged-file, staged-ends, stage-left, gate-left, ends-room}
use Rattle.prv_journal.proofs.Settled.{settled-staged, settled-opened}
use Rattle.prv_journal.proofs.append.append_record.Goals as goal

pub returns-in_err-bytes-clause-any_moment : goal.returns-in_err-bytes-clause-any_moment
returns-in_err-bytes-clause-any_moment g c = λ tells s. adds-none _ _ _

pub returns-in_err-bytes-clause-same : goal.returns-in_err-bytes-clause-same
returns-in_err-bytes-clause-same g c = λ is tells s. (s, refl)

pub returns-in_err-bytes-clause-memory : goal.returns-in_err-bytes-clause-memory
returns-in_err-bytes-clause-memory g c = λ is tells s. adds-none _ _ _

pub returns-in_err-write_lasting-clause-any_moment : goal.returns-in_err-write_lasting-clause-any_moment
returns-in_err-write_lasting-clause-any_moment g c = λ tells s.
    adds-weaker _ _ _ _ _ (HasOrWith s.payloads c.args.payload.now) (c.write_lasting.ensures.any_moment tells)
    (λ image torn. inl (stage-left _ _ _ s.payloads image s.ends torn))

pub returns-in_err-write_lasting-clause-same : goal.returns-in_err-write_lasting-clause-same
returns-in_err-write_lasting-clause-same g c = λ is tells s.
    subst (λ d. (t : IsSettled (g.D.Disk.seen d) (g.D.Disk.may_leave d) c.args.end) × (t.payloads ≡ s.payloads)) (sym (c.in_err-write_lasting.ensures.unchanged (search rules))) (s, refl)

pub returns-in_err-write_lasting-clause-memory : goal.returns-in_err-write_lasting-clause-memory
returns-in_err-write_lasting-clause-memory g c = λ is tells s.
    adds-weaker _ _ _ _ _ (Has (Payloads s.payloads)) (c.write_lasting.ensures.any_moment tells)
    (λ image torn. stage-left _ _ _ s.payloads image s.ends torn)

pub write_lasting-requires-clause-within : goal.write_lasting-requires-clause-within
write_lasting-requires-clause-within g c = λ tells.
    let s = c.requires.settled tells in
    ends-room _ _ s.payloads s.ends

pub write_lasting-requires-2-clause-within : goal.write_lasting-requires-2-clause-within
write_lasting-requires-2-clause-within g c = λ tells.
    let s = c.requires.settled tells in
    let t = staged-file _ _ s.payloads c.args.payload.now _ _ s.ends c.requires.short (c.deref.ensures.value ∙ c.in_ok-bytes.ensures) (c.in_ok-write_lasting.ensures.written tells) in
    omega (arith, ends-room _ _ s.payloads (staged-ends _ _ s.payloads c.args.payload.now t))

pub returns-in_err-write_lasting-2-clause-any_moment : goal.returns-in_err-write_lasting-2-clause-any_moment
returns-in_err-write_lasting-2-clause-any_moment g c = λ tells s.
    let t = staged-file _ _ s.payloads c.args.payload.now _ _ s.ends c.requires.short (c.deref.ensures.value ∙ c.in_ok-bytes.ensures) (c.in_ok-write_lasting.ensures.written tells) in
    adds-then _ _ _ _ _ _ _ _ (HasOrWith s.payloads c.args.payload.now) (c.write_lasting.ensures.any_moment tells) (c.write_lasting-2.ensures.any_moment tells)
    (λ image torn. inl (stage-left _ _ _ s.payloads image s.ends torn))
    (λ image torn. gate-left _ _ s.payloads c.args.payload.now image t c.requires.short torn)

pub returns-in_err-write_lasting-2-clause-same : goal.returns-in_err-write_lasting-2-clause-same
returns-in_err-write_lasting-2-clause-same g c = λ is tells s.
    subst (λ d. (t : IsSettled (g.D.Disk.seen d) (g.D.Disk.may_leave d) c.args.end) × (t.payloads ≡ s.payloads)) (sym (c.in_err-write_lasting-2.ensures.unchanged (search rules)))
    (settled-staged _ _ _ _ c.args.end c.args.payload.now _ s c.requires.short (c.deref.ensures.value ∙ c.in_ok-bytes.ensures) (c.in_ok-write_lasting.ensures.written tells) (c.in_ok-write_lasting.ensures.lasting tells))

pub returns-in_err-write_lasting-2-clause-memory : goal.returns-in_err-write_lasting-2-clause-memory
returns-in_err-write_lasting-2-clause-memory g c = λ is tells s.
    subst (λ d. AddsOnly (g.D.Disk.moment c.args.disk.now) (g.D.Disk.moment d) (g.D.Disk.left_since c.args.disk.now) (g.D.Disk.left_since d) (Has (Payloads s.payloads))) (sym (c.in_err-write_lasting-2.ensures.unchanged (search rules)))
    (adds-weaker _ _ _ _ _ (Has (Payloads s.payloads)) (c.write_lasting.ensures.any_moment tells) (λ image torn. stage-left _ _ _ s.payloads image s.ends torn))

pub returns-clause-added : goal.returns-clause-added
returns-clause-added g c = λ tells s.
    settled-opened _ _ _ _ _ c.args.end c.args.payload.now _ s c.requires.short (c.deref.ensures.value ∙ c.in_ok-bytes.ensures) (c.in_ok-write_lasting.ensures.written tells) (c.in_ok-write_lasting-2.ensures.written tells) (c.in_ok-write_lasting-2.ensures.lasting tells)

pub returns-clause-any_moment : goal.returns-clause-any_moment
returns-clause-any_moment g c = λ tells s.
    let t = staged-file _ _ s.payloads c.args.payload.now _ _ s.ends c.requires.short (c.deref.ensures.value ∙ c.in_ok-bytes.ensures) (c.in_ok-write_lasting.ensures.written tells) in
    adds-then _ _ _ _ _ _ _ _ (HasOrWith s.payloads c.args.payload.now) (c.write_lasting.ensures.any_moment tells) (c.write_lasting-2.ensures.any_moment tells)
    (λ image torn. inl (stage-left _ _ _ s.payloads image s.ends torn))
    (λ image torn. gate-left _ _ s.payloads c.args.payload.now image t c.requires.short torn)
