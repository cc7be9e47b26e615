use Rattle.std.proofs.Common.{◌≡◌, List, ℕ, ◌≤◌, [], length, map, refl, ◌∙◌, sym, ap, subst, arith, Vec, Global}
use Rattle.prv_journal.specs.Records.{records}
use Rattle.prv_journal.specs.Ends.{EndsAt}
use Rattle.prv_journal.specs.Journals.{Has}
use Rattle.prv_journal.proofs.Moments.{adds-then, adds-weaker}
use Rattle.prv_journal.proofs.Settled.{fresh-left, fresh-has, fresh-settled}
use Rattle.prv_journal.proofs.opening.open.Goals as goal

pub returns-in_err-bytes-clause-any_moment : goal.returns-in_err-bytes-clause-any_moment
returns-in_err-bytes-clause-any_moment g c = λ tells.
    adds-weaker _ _ _ _ _ (Has (records (g.D.Disk.seen c.args.disk.now))) (c.read_all.ensures.any_moment tells) (λ image is. ap records is)

pub returns-in_err-found-clause-any_moment : goal.returns-in_err-found-clause-any_moment
returns-in_err-found-clause-any_moment g c = λ tells.
    adds-weaker _ _ _ _ _ (Has (records (g.D.Disk.seen c.args.disk.now))) (c.read_all.ensures.any_moment tells) (λ image is. ap records is)

pub returns-then-len-gt1-clause-any_moment : goal.returns-then-len-gt1-clause-any_moment
returns-then-len-gt1-clause-any_moment g c = λ tells.
    adds-weaker _ _ _ _ _ (Has (records (g.D.Disk.seen c.args.disk.now))) (c.read_all.ensures.any_moment tells) (λ image is. ap records is)

pub returns-then-len-gt1-clause-found : goal.returns-then-len-gt1-clause-found
returns-then-len-gt1-clause-found g c = λ tells.
    let items : Vec ℕ Global → List ℕ = λ (v : Vec ℕ Global). v.items in
    let found = c.in_ok-found.found in
    let seen = c.read_all.ensures.seen tells in
    let bytes_are : c.deref.result.now ≡ g.D.Disk.seen c.read_all.new.disk = c.deref.ensures.value ∙ c.in_ok-bytes.ensures.bytes tells ∙ sym seen in (
      record {
        payloads = map items found.payloads.items;
        ends = subst (λ (f : List ℕ). EndsAt f found.end (map items found.payloads.items)) bytes_are c.in_ok-found.ensures.ends;
        lasting = λ image left. c.in_ok-bytes.ensures.lasting tells image left ∙ sym seen;
      },
      refl,
    )

pub returns-then-len-gt1-clause-same : goal.returns-then-len-gt1-clause-same
returns-then-len-gt1-clause-same g c = λ tells. ap records (c.read_all.ensures.seen tells)

pub write_lasting-requires-clause-lasting : goal.write_lasting-requires-clause-lasting
write_lasting-requires-clause-lasting g c = λ tells image left. c.in_ok-bytes.ensures.lasting tells image left ∙ sym (c.read_all.ensures.seen tells)

pub returns-in_err-write_lasting-clause-any_moment : goal.returns-in_err-write_lasting-clause-any_moment
returns-in_err-write_lasting-clause-any_moment g c = λ tells.
    let seen = c.read_all.ensures.seen tells in
    let short : length (g.D.Disk.seen c.read_all.new.disk) ≤ 1 = omega (arith, ap length (c.in_ok-bytes.ensures.bytes tells ∙ sym seen), c.len.ensures, c.if-len-gt1.false, c.in_ok-bytes.bytes.ok.0) in
    adds-then _ _ _ _ _ _ _ _ (Has (records (g.D.Disk.seen c.args.disk.now))) (c.read_all.ensures.any_moment tells) (c.write_lasting.ensures.any_moment tells) (λ image is. ap records is)
    (λ image torn. fresh-left _ image short torn ∙ ap records seen)

pub returns-clause-any_moment : goal.returns-clause-any_moment
returns-clause-any_moment g c = λ tells.
    let seen = c.read_all.ensures.seen tells in
    let short : length (g.D.Disk.seen c.read_all.new.disk) ≤ 1 = omega (arith, ap length (c.in_ok-bytes.ensures.bytes tells ∙ sym seen), c.len.ensures, c.if-len-gt1.false, c.in_ok-bytes.bytes.ok.0) in
    adds-then _ _ _ _ _ _ _ _ (Has (records (g.D.Disk.seen c.args.disk.now))) (c.read_all.ensures.any_moment tells) (c.write_lasting.ensures.any_moment tells) (λ image is. ap records is)
    (λ image torn. fresh-left _ image short torn ∙ ap records seen)

pub returns-clause-same : goal.returns-clause-same
returns-clause-same g c = λ tells.
    let seen = c.read_all.ensures.seen tells in
    let short : length (g.D.Disk.seen c.read_all.new.disk) ≤ 1 = omega (arith, ap length (c.in_ok-bytes.ensures.bytes tells ∙ sym seen), c.len.ensures, c.if-len-gt1.false, c.in_ok-bytes.bytes.ok.0) in
    fresh-has _ _ short (c.in_ok-write_lasting.ensures.written tells) ∙ ap records seen

pub returns-clause-found : goal.returns-clause-found
returns-clause-found g c = λ tells.
    let items : Vec ℕ Global → List ℕ = λ (v : Vec ℕ Global). v.items in
    let t = fresh-settled (g.D.Disk.seen c.read_all.new.disk) _ _ (c.in_ok-write_lasting.ensures.written tells) (c.in_ok-write_lasting.ensures.lasting tells) in
    let none : [] ≡ map items c.new.result.items = ap (map items) (sym c.new.ensures.items) in
    (t.0, t.1 ∙ none)
