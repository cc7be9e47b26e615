use Rattle.std.proofs.Common.{List, ℕ, length, subst}
use Rattle.prv_disk.specs.Bytes.{Torn}
use Rattle.prv_journal.proofs.Moments.{adds-one, adds-then}
use Rattle.prv_journal.proofs.append.write_lasting.Goals as goal

pub returns-in_err-write_at-clause-any_moment : goal.returns-in_err-write_at-clause-any_moment
returns-in_err-write_at-clause-any_moment g c = λ tells.
    let torn : List ℕ → Type 0 = Torn c.args.at (length c.args.piece.now) (g.D.Disk.seen c.args.disk.now) in
    let left : (image : List ℕ) → g.D.Disk.may_leave c.write_at.new.self image → torn image = λ image now.
    let from = c.write_at.ensures.crash tells image now in
    subst (λ (f : List ℕ). Torn c.args.at (length c.args.piece.now) f image) (c.requires.lasting tells from.0 from.1) from.2 in
    adds-one _ _ _ _ _ torn (c.write_at.ensures.time tells) left

pub returns-in_err-sync-clause-any_moment : goal.returns-in_err-sync-clause-any_moment
returns-in_err-sync-clause-any_moment g c = λ tells.
    let torn : List ℕ → Type 0 = Torn c.args.at (length c.args.piece.now) (g.D.Disk.seen c.args.disk.now) in
    let left : (image : List ℕ) → g.D.Disk.may_leave c.write_at.new.self image → torn image = λ image now.
    let from = c.write_at.ensures.crash tells image now in
    subst (λ (f : List ℕ). Torn c.args.at (length c.args.piece.now) f image) (c.requires.lasting tells from.0 from.1) from.2 in
    adds-then _ _ _ _ _ _ torn torn torn (adds-one _ _ _ _ _ torn (c.write_at.ensures.time tells) left)
    (adds-one _ _ _ _ _ torn (c.sync.ensures.time tells) (λ image now. left image (c.sync.ensures.crash tells image now)))
    (λ image is. is) (λ image is. is)

pub returns-clause-any_moment : goal.returns-clause-any_moment
returns-clause-any_moment g c = λ tells.
    let torn : List ℕ → Type 0 = Torn c.args.at (length c.args.piece.now) (g.D.Disk.seen c.args.disk.now) in
    let left : (image : List ℕ) → g.D.Disk.may_leave c.write_at.new.self image → torn image = λ image now.
    let from = c.write_at.ensures.crash tells image now in
    subst (λ (f : List ℕ). Torn c.args.at (length c.args.piece.now) f image) (c.requires.lasting tells from.0 from.1) from.2 in
    adds-then _ _ _ _ _ _ torn torn torn (adds-one _ _ _ _ _ torn (c.write_at.ensures.time tells) left)
    (adds-one _ _ _ _ _ torn (c.sync.ensures.time tells) (λ image now. left image (c.sync.ensures.crash tells image now)))
    (λ image is. is) (λ image is. is)
