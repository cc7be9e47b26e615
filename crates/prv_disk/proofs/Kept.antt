-- What the fields of a disk in memory keep, as calls go on.
use Rattle.std.proofs.Common.{◌≡◌, ℕ, zero, suc, ◌+◌, ◌<◌, ◌==◌, List, [], ◌∷◌, ◌++◌, length, take, drop, if◌then◌else◌, false, refl, sym, ◌∙◌, ap, arith, add-one, length-append}
use Rattle.std.proofs.lemmas.Bool.Decides.{nat_tests}
use Rattle.std.proofs.lemmas.List.{take-append-le, drop-append-le, take_all, drop_all}
use Rattle.prv_disk.specs.Bytes.{overwritten}
use Rattle.prv_disk.specs.MemDisk.{Event, Wrote, Passed, Synced, content, crashed, picked, times, then_quiet, then_writes, Written, Calls, after_picks, quiet, IsKept}
use Rattle.prv_disk.specs.declared.quiet_calls.QuietCalls.{QuietCalls}

times-length : (n : ℕ) (event : Event) (log : List Event) → length (times n event log) ≡ n + length log
times-length zero event log = omega arith
times-length (suc n) event log = omega (arith, times-length n event log)

pub quiet-length : (calls : QuietCalls) (log : List Event) → length (then_quiet calls log) ≡ calls.synced + (calls.passed + length log)
quiet-length calls log = omega (arith, times-length calls.synced Synced (times calls.passed Passed log), times-length calls.passed Passed log)

content-passed : (start : List ℕ) (n : ℕ) (log : List Event) → content start (times n Passed log) ≡ content start log
content-passed start zero log = refl
content-passed start (suc n) log = content-passed start n log

content-synced : (start : List ℕ) (n : ℕ) (log : List Event) → content start (times n Synced log) ≡ content start log
content-synced start zero log = refl
content-synced start (suc n) log = content-synced start n log

pub content-quiet : (start : List ℕ) (calls : QuietCalls) (log : List Event) → content start (then_quiet calls log) ≡ content start log
content-quiet start calls log = content-synced start calls.synced (times calls.passed Passed log) ∙ content-passed start calls.passed log

-- the writes, one after another
pub content-writes : (start : List ℕ) (writes : List Written) (log : List Event) → content start (then_writes writes log) ≡ after_picks 1 writes (content start log)
content-writes start [] log = refl
content-writes start (w ∷ writes) log =
    content-writes start writes (Wrote w.at w.bytes ∷ then_quiet w.before log)
    ∙ ap (λ file. after_picks 1 writes (overwritten file w.at w.bytes)) (content-quiet start w.before log)

pub writes-push : (writes : List Written) (w : Written) (log : List Event) → then_writes (writes ++ w ∷ []) log ≡ Wrote w.at w.bytes ∷ then_quiet w.before (then_writes writes log)
writes-push [] w log = refl
writes-push (x ∷ writes) w log = writes-push writes w (Wrote x.at x.bytes ∷ then_quiet x.before log)

picks-push : (pick : ℕ) (writes : List Written) (w : Written) (file : List ℕ) → after_picks pick (writes ++ w ∷ []) file ≡ picked pick w.at w.bytes (after_picks pick writes file)
picks-push pick [] w file = refl
picks-push pick (x ∷ writes) w file = picks-push pick writes w (picked pick x.at x.bytes file)

-- the counts of calls, one higher
pub one-synced : (calls : QuietCalls) (log : List Event) (synced : ℕ) → synced ≡ calls.synced + 1 → then_quiet (record { passed = calls.passed; synced = synced }) log ≡ Synced ∷ then_quiet calls log
one-synced calls log synced is = ap (λ n. times n Synced (times calls.passed Passed log)) (is ∙ add-one calls.synced)

pub one-passed : (calls : QuietCalls) (log : List Event) (passed : ℕ) → passed ≡ calls.passed + 1 → calls.synced ≡ 0 → then_quiet (record { passed = passed; synced = calls.synced }) log ≡ Passed ∷ then_quiet calls log
one-passed calls log passed is none =
    ap (λ n. times n Synced (times passed Passed log)) none
    ∙ ap (λ n. times n Passed log) (is ∙ add-one calls.passed)
    ∙ ap (λ n. Passed ∷ times n Synced (times calls.passed Passed log)) (sym none)

-- a quiet call behind a sync counts as one
pub quiet-synced : (calls : QuietCalls) (log : List Event) → 0 < calls.synced → quiet (then_quiet calls log) ≡ Synced
quiet-synced calls log some = behind calls.synced (times calls.passed Passed log) some
  where
    behind : (n : ℕ) (log : List Event) → 0 < n → quiet (times n Synced log) ≡ Synced
    behind zero log some = absurd (omega arith)
    behind (suc n) log some = refl

-- and elsewhere it is just passed
pub quiet-passed : (calls : QuietCalls) (writes : List Written) → calls.synced ≡ 0 → quiet (then_quiet calls (then_writes writes [])) ≡ Passed
quiet-passed calls writes none =
    ap (λ n. quiet (times n Synced (times calls.passed Passed (then_writes writes [])))) none
    ∙ behind calls.passed (then_writes writes []) (no-sync writes [] refl)
  where
    no-sync : (writes : List Written) (log : List Event) → quiet log ≡ Passed → quiet (then_writes writes log) ≡ Passed
    no-sync [] log is = is
    no-sync (w ∷ writes) log is = no-sync writes (Wrote w.at w.bytes ∷ then_quiet w.before log) refl

    behind : (n : ℕ) (log : List Event) → quiet log ≡ Passed → quiet (times n Passed log) ≡ Passed
    behind zero log is = is
    behind (suc n) log is = refl

-- what is seen after a quiet call, where not all is lasting
pub seen-passed : (start : List ℕ) (calls : QuietCalls) (writes : List Written) (passed : ℕ) → passed ≡ calls.passed + 1 → calls.synced ≡ 0
    → let log : List Event = then_quiet calls (then_writes writes []) in
    let seen : Calls = record { start = start; log = then_quiet (record { passed = passed; synced = calls.synced }) (then_writes writes []) } in
    seen ≡ record { start = start; log = quiet log ∷ log }
seen-passed start calls writes passed is none =
    let log : List Event = then_quiet calls (then_writes writes []) in
    let same : then_quiet (record { passed = passed; synced = calls.synced }) (then_writes writes []) ≡ quiet log ∷ log =
    one-passed calls (then_writes writes []) passed is none ∙ ap (λ event. event ∷ log) (sym (quiet-passed calls writes none)) in
    λ i. record { start = start; log = same i }

-- and where it is
pub seen-quiet : (start : List ℕ) (calls : QuietCalls) (writes : List Written) (synced : ℕ) → synced ≡ calls.synced + 1 → 0 < calls.synced
    → let log : List Event = then_quiet calls (then_writes writes []) in
    let seen : Calls = record { start = start; log = then_quiet (record { passed = calls.passed; synced = synced }) (then_writes writes []) } in
    seen ≡ record { start = start; log = quiet log ∷ log }
seen-quiet start calls writes synced is some =
    let log : List Event = then_quiet calls (then_writes writes []) in
    let same : then_quiet (record { passed = calls.passed; synced = synced }) (then_writes writes []) ≡ quiet log ∷ log =
    one-synced calls (then_writes writes []) synced is ∙ ap (λ event. event ∷ log) (sym (quiet-synced calls (then_writes writes []) some)) in
    λ i. record { start = start; log = same i }

-- what is seen after a write
pub seen-written : (start : List ℕ) (writes more : List Written) (w : Written) → more ≡ writes ++ w ∷ []
    → let seen : Calls = record { start = start; log = then_quiet (record { passed = 0; synced = 0 }) (then_writes more []) } in
    seen ≡ record { start = start; log = Wrote w.at w.bytes ∷ then_quiet w.before (then_writes writes []) }
seen-written start writes more w is =
    let same : then_writes more [] ≡ Wrote w.at w.bytes ∷ then_quiet w.before (then_writes writes []) = ap (λ ws. then_writes ws []) is ∙ writes-push writes w [] in
    λ i. record { start = start; log = same i }

-- before the first call
pub kept-new : (start current : List ℕ) → IsKept start current [] (record { passed = 0; synced = 0 }) 0
kept-new start current = record {
  current_is = λ some. absurd (omega (arith, some));
  within = omega arith;
  all_lasting = λ some. refl;
  leaves = λ pick. refl;
}

-- after a sync all is lasting
pub kept-synced : (start current : List ℕ) (writes : List Written) (calls : QuietCalls) (old synced count : ℕ) → IsKept start current writes calls old → synced ≡ calls.synced + 1 → count ≡ length writes
    → IsKept start current writes (record { passed = calls.passed; synced = synced }) count
kept-synced start current writes calls old synced count kept is all =
    let log : List Event = then_writes writes [] in
    let more : then_quiet (record { passed = calls.passed; synced = synced }) log ≡ Synced ∷ then_quiet calls log = one-synced calls log synced is in
    let written : content start (then_quiet calls log) ≡ after_picks 1 writes start = content-quiet start calls log ∙ content-writes start writes [] in
    record {
      current_is = λ some. kept.current_is some ∙ ap (content start) (sym more);
      within = omega arith;
      all_lasting = λ some. all;
      leaves = λ pick.
          ap (crashed pick start) more ∙ written
          ∙ ap (λ ws. after_picks 1 ws start) (sym (take_all count writes (omega arith)))
          ∙ ap (λ ws. after_picks pick ws (after_picks 1 (take count writes) start)) (sym (drop_all count writes (omega arith)));
    }

-- a quiet call where not all is lasting
pub kept-passed : (start current : List ℕ) (writes : List Written) (calls : QuietCalls) (count passed : ℕ) → IsKept start current writes calls count → passed ≡ calls.passed + 1 → calls.synced ≡ 0
    → IsKept start current writes (record { passed = passed; synced = calls.synced }) count
kept-passed start current writes calls count passed kept is none =
    let log : List Event = then_writes writes [] in
    let more : then_quiet (record { passed = passed; synced = calls.synced }) log ≡ Passed ∷ then_quiet calls log = one-passed calls log passed is none in
    record {
      current_is = λ some. kept.current_is some ∙ ap (content start) (sym more);
      within = kept.within;
      all_lasting = kept.all_lasting;
      leaves = λ pick. ap (crashed pick start) more ∙ kept.leaves pick;
    }

-- what a write is done on
pub base-is : (start current : List ℕ) (writes : List Written) (since : QuietCalls) (synced n : ℕ) → IsKept start current writes since synced → n ≡ length writes
    → (if n == 0 then start else current) ≡ content start (then_quiet since (then_writes writes []))
base-is start current [] since synced n kept is = ap (λ k. if k == 0 then start else current) is ∙ sym (content-quiet start since [])
base-is start current (w ∷ writes) since synced n kept is =
    let test : (n == 0) ≡ false = grind (arith, nat_tests) in
    ap (λ b. if b then start else current) test ∙ kept.current_is (omega arith)

-- one write more
pub kept-written : (start current base new : List ℕ) (writes more : List Written) (w : Written) (count : ℕ) → IsKept start current writes w.before count
    → more ≡ writes ++ w ∷ [] → base ≡ content start (then_quiet w.before (then_writes writes [])) → new ≡ overwritten base w.at w.bytes
    → IsKept start new more (record { passed = 0; synced = 0 }) count
kept-written start current base new writes more w count kept is base_is new_is =
    let log : List Event = then_quiet w.before (then_writes writes []) in
    let next : then_writes more [] ≡ Wrote w.at w.bytes ∷ log = ap (λ ws. then_writes ws []) is ∙ writes-push writes w [] in
    let longer : length more ≡ length writes + 1 = ap length is ∙ length-append writes (w ∷ []) in
    let front : take count more ≡ take count writes = ap (take count) is ∙ take-append-le count writes (w ∷ []) kept.within in
    let back : drop count more ≡ drop count writes ++ w ∷ [] = ap (drop count) is ∙ drop-append-le count writes (w ∷ []) kept.within in
    record {
      current_is = λ some. new_is ∙ ap (λ file. overwritten file w.at w.bytes) base_is ∙ ap (content start) (sym next);
      within = omega (arith, longer, kept.within);
      all_lasting = λ some. absurd (omega (arith, some));
      leaves = λ pick.
          ap (crashed pick start) next
          ∙ ap (picked pick w.at w.bytes) (kept.leaves pick)
          ∙ sym (picks-push pick (drop count writes) w (after_picks 1 (take count writes) start))
          ∙ ap (λ ws. after_picks pick ws (after_picks 1 (take count writes) start)) (sym back)
          ∙ ap (λ ws. after_picks pick (drop count more) (after_picks 1 ws start)) (sym front);
    }
