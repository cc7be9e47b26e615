use Rattle.std.proofs.Common.{◌≡◌, inl, ⊎_elim, List, ℕ, ◌+◌, ◌^◌, ◌<◌, IsErrOf, length, ◌∙◌, sym, subst, arith, rules}
use Rattle.std.proofs.lemmas.Bool.{false≢true}
use Rattle.prv_disk.specs.declared.disk.DiskError.TheVariants.{Memory}
use Rattle.prv_journal.specs.Records.{records, followed_by}
use Rattle.prv_journal.specs.Ends.{HasSettled}
use Rattle.prv_journal.specs.Journals.{Has}
use Rattle.prv_journal.proofs.Moments.{adds-none, adds-weaker}
use Rattle.prv_journal.proofs.Kept.{has-before, has-payloads, has-or-with, has-added, has-same, count-added, count-same}
use Rattle.prv_journal.proofs.journal.Journal.append.Goals as goal

pub returns-then-payload-gt-MAX_PAYLOAD-clause-any_moment : goal.returns-then-payload-gt-MAX_PAYLOAD-clause-any_moment
returns-then-payload-gt-MAX_PAYLOAD-clause-any_moment g c =
    rw (← c.self.view_is) (λ tells whole image left.
    inl (has-before _ _ c.self.inside.end image (c.self.invariant.1 tells whole).settled (g.met.D.Disk.only_now c.self.inside.disk image left)))

pub returns-then-payload-gt-MAX_PAYLOAD-clause-earlier : goal.returns-then-payload-gt-MAX_PAYLOAD-clause-earlier
returns-then-payload-gt-MAX_PAYLOAD-clause-earlier g c =
    λ tells whole. adds-none _ _ _

pub returns-then-self-clause-any_moment : goal.returns-then-self-clause-any_moment
returns-then-self-clause-any_moment g c =
    rw (← c.self.view_is) (λ tells whole. absurd (false≢true (sym whole ∙ c.if-self.true)))

pub returns-then-self-clause-earlier : goal.returns-then-self-clause-earlier
returns-then-self-clause-earlier g c =
    λ tells whole. adds-none _ _ _

pub append_record-requires-clause-room : goal.append_record-requires-clause-room
append_record-requires-clause-room g c =
    let few : c.self.inside.count < 2 ^ 32 = subst (λ v. v.count < 2 ^ 32) (sym c.self.view_is) c.requires in
    omega (arith, few, c.self.invariant.0)

pub append_record-requires-clause-settled : goal.append_record-requires-clause-settled
append_record-requires-clause-settled g c =
    λ tells. (c.self.invariant.1 tells c.if-self.false).settled

pub invariant_of-self : goal.invariant_of-self
invariant_of-self g c =
    let memory : IsErrOf c.append_record.result Memory = search rules in (
      c.self.invariant.0,
      λ tells whole.
          let h = c.self.invariant.1 tells whole in
          let t = c.append_record.ensures.same memory tells h.settled in
          count-same _ _ _ _ c.self.inside.end c.self.inside.count h t.0 t.1,
    )

pub returns-in-Err-Memory-clause-any_moment : goal.returns-in-Err-Memory-clause-any_moment
returns-in-Err-Memory-clause-any_moment g c =
    rw (← c.self.view_is) (λ tells whole image left.
    let s = (c.self.invariant.1 tells whole).settled in
    ⊎_elim (λ was. inl (has-before _ _ c.self.inside.end image s (g.met.D.Disk.only_now c.self.inside.disk image was)))
    (λ is. has-or-with _ _ c.self.inside.end c.args.payload.now image s is)
    ((c.append_record.ensures.any_moment tells s).each (g.D.Disk.moment c.self.inside.disk) image (omega arith) left))

pub returns-in-Err-Memory-clause-earlier : goal.returns-in-Err-Memory-clause-earlier
returns-in-Err-Memory-clause-earlier g c =
    rw (← c.self.view_is) (λ tells whole.
    let s = (c.self.invariant.1 tells whole).settled in
    adds-weaker _ _ _ _ _ _ (c.append_record.ensures.any_moment tells s) (λ image is. has-or-with _ _ c.self.inside.end c.args.payload.now image s is))

pub returns-in-Err-Memory-clause-memory : goal.returns-in-Err-Memory-clause-memory
returns-in-Err-Memory-clause-memory g c =
    let memory : IsErrOf c.append_record.result Memory = search rules in
    rw (← c.self.view_is) (λ is tells image left.
    let s = (c.self.invariant.1 tells c.if-self.false).settled in
    ⊎_elim (λ was. has-before _ _ c.self.inside.end image s (g.met.D.Disk.only_now c.self.inside.disk image was))
    (λ has. has-payloads _ _ c.self.inside.end image s has)
    ((c.append_record.ensures.memory memory tells s).each (g.D.Disk.moment c.self.inside.disk) image (omega arith) left))

pub returns-in-Err-Memory-clause-earlier_memory : goal.returns-in-Err-Memory-clause-earlier_memory
returns-in-Err-Memory-clause-earlier_memory g c =
    let memory : IsErrOf c.append_record.result Memory = search rules in
    rw (← c.self.view_is) (λ is tells.
    let s = (c.self.invariant.1 tells c.if-self.false).settled in
    adds-weaker _ _ _ _ _ _ (c.append_record.ensures.memory memory tells s) (λ image has. has-payloads _ _ c.self.inside.end image s has))

pub returns-in-Err-Memory-clause-same : goal.returns-in-Err-Memory-clause-same
returns-in-Err-Memory-clause-same g c =
    let memory : IsErrOf c.append_record.result Memory = search rules in
    rw (← c.self.view_is) (λ is tells.
    let s = (c.self.invariant.1 tells c.if-self.false).settled in
    let t = c.append_record.ensures.same memory tells s in
    has-same _ _ _ _ c.self.inside.end _ s t.0 t.1)

pub returns-in-Err-Failed-clause-any_moment : goal.returns-in-Err-Failed-clause-any_moment
returns-in-Err-Failed-clause-any_moment g c =
    rw (← c.self.view_is) (λ tells whole image left.
    let s = (c.self.invariant.1 tells whole).settled in
    ⊎_elim (λ was. inl (has-before _ _ c.self.inside.end image s (g.met.D.Disk.only_now c.self.inside.disk image was)))
    (λ is. has-or-with _ _ c.self.inside.end c.args.payload.now image s is)
    ((c.append_record.ensures.any_moment tells s).each (g.D.Disk.moment c.self.inside.disk) image (omega arith) left))

pub returns-in-Err-Failed-clause-earlier : goal.returns-in-Err-Failed-clause-earlier
returns-in-Err-Failed-clause-earlier g c =
    rw (← c.self.view_is) (λ tells whole.
    let s = (c.self.invariant.1 tells whole).settled in
    adds-weaker _ _ _ _ _ _ (c.append_record.ensures.any_moment tells s) (λ image is. has-or-with _ _ c.self.inside.end c.args.payload.now image s is))

pub invariant_of-self-2 : goal.invariant_of-self-2
invariant_of-self-2 g c =
    let h_end : c.self.inside.end + 5 + length c.args.payload.now ≡ c.self.inside.end + (5 + length c.args.payload.now) = omega arith in (
      omega (arith, c.self.invariant.0, c.if-payload-gt-MAX_PAYLOAD.false),
      λ tells whole.
          let h = c.self.invariant.1 tells whole in
          let t = c.in-Ok.ensures.added tells h.settled in
          subst (λ (e : ℕ). HasSettled (g.D.Disk.seen c.append_record.new.disk) (g.D.Disk.may_leave c.append_record.new.disk) e (c.self.inside.count + 1)) h_end
          (count-added _ _ _ _ c.self.inside.end _ c.self.inside.count c.args.payload.now h t.0 t.1),
    )

pub returns-clause-added : goal.returns-clause-added
returns-clause-added g c =
    rw (← c.self.view_is) (λ tells.
    let s = (c.self.invariant.1 tells c.if-self.false).settled in
    let t = c.in-Ok.ensures.added tells s in
    has-added _ _ _ _ c.self.inside.end _ c.args.payload.now s t.0 t.1)

pub returns-clause-lasting : goal.returns-clause-lasting
returns-clause-lasting g c =
    rw (← c.self.view_is) (λ tells image left.
    let s = (c.self.invariant.1 tells c.if-self.false).settled in
    let t = c.in-Ok.ensures.added tells s in
    subst (λ (f : List ℕ). Has (followed_by c.args.payload.now (records (g.D.Disk.seen c.self.inside.disk))) f) (sym (t.0.lasting image left))
    (has-added _ _ _ _ c.self.inside.end _ c.args.payload.now s t.0 t.1))

pub returns-clause-any_moment : goal.returns-clause-any_moment
returns-clause-any_moment g c =
    rw (← c.self.view_is) (λ tells whole image left.
    let s = (c.self.invariant.1 tells whole).settled in
    ⊎_elim (λ was. inl (has-before _ _ c.self.inside.end image s (g.met.D.Disk.only_now c.self.inside.disk image was)))
    (λ is. has-or-with _ _ c.self.inside.end c.args.payload.now image s is)
    ((c.append_record.ensures.any_moment tells s).each (g.D.Disk.moment c.self.inside.disk) image (omega arith) left))

pub returns-clause-earlier : goal.returns-clause-earlier
returns-clause-earlier g c =
    rw (← c.self.view_is) (λ tells whole.
    let s = (c.self.invariant.1 tells whole).settled in
    adds-weaker _ _ _ _ _ _ (c.append_record.ensures.any_moment tells s) (λ image is. has-or-with _ _ c.self.inside.end c.args.payload.now image s is))
