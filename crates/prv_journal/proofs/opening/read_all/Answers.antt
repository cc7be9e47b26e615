use Rattle.prv_journal.proofs.Moments.{adds-one, adds-nothing, adds-still}
use Rattle.prv_journal.proofs.opening.read_all.Goals as goal

pub returns-in_err-sync-clause-any_moment : goal.returns-in_err-sync-clause-any_moment
returns-in_err-sync-clause-any_moment g c = λ tells.
    adds-nothing _ _ _ _ _ _ _ (c.sync.ensures.time tells) (c.sync.ensures.crash tells) (λ t image le was. g.met.D.Disk.counts_now c.args.disk.now t image le was)

pub returns-in_err-len-clause-any_moment : goal.returns-in_err-len-clause-any_moment
returns-in_err-len-clause-any_moment g c = λ tells.
    let lasts = c.in_ok-sync.ensures.lasting tells in
    adds-still _ _ _ _ _ _ _ _ _ (adds-one _ _ _ _ _ _ (c.sync.ensures.time tells) lasts) (c.len.ensures.time tells) (c.len.ensures.crash tells) lasts

pub returns-in_err-bytes-clause-any_moment : goal.returns-in_err-bytes-clause-any_moment
returns-in_err-bytes-clause-any_moment g c = λ tells.
    let lasts = c.in_ok-sync.ensures.lasting tells in
    adds-still _ _ _ _ _ _ _ _ _ (adds-one _ _ _ _ _ _ (c.sync.ensures.time tells) lasts) (c.len.ensures.time tells) (c.len.ensures.crash tells) lasts

pub returns-in_err-read_at-clause-any_moment : goal.returns-in_err-read_at-clause-any_moment
returns-in_err-read_at-clause-any_moment g c = λ tells.
    let lasts = c.in_ok-sync.ensures.lasting tells in
    adds-still _ _ _ _ _ _ _ _ _ (adds-still _ _ _ _ _ _ _ _ _ (adds-one _ _ _ _ _ _ (c.sync.ensures.time tells) lasts) (c.len.ensures.time tells) (c.len.ensures.crash tells) lasts)
    (c.read_at.ensures.time tells) (c.read_at.ensures.crash tells) (λ image left. lasts image (c.len.ensures.crash tells image left))

pub returns-clause-any_moment : goal.returns-clause-any_moment
returns-clause-any_moment g c = λ tells.
    let lasts = c.in_ok-sync.ensures.lasting tells in
    adds-still _ _ _ _ _ _ _ _ _ (adds-still _ _ _ _ _ _ _ _ _ (adds-one _ _ _ _ _ _ (c.sync.ensures.time tells) lasts) (c.len.ensures.time tells) (c.len.ensures.crash tells) lasts)
    (c.read_at.ensures.time tells) (c.read_at.ensures.crash tells) (λ image left. lasts image (c.len.ensures.crash tells image left))
