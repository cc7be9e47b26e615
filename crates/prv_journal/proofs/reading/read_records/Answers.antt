use Rattle.std.proofs.Common.{◌≡◌, ℕ, ◌+◌, ◌≤◌, false, All, List, [], ◌∷◌, ◌++◌, length, take, drop, map, sym, ◌∙◌, ap, subst, arith, rules, length-append, Vec, Global}
use Rattle.std.proofs.lemmas.List.{map-append}
use Rattle.std.proofs.lemmas.List.Elements.{All-push}
use Rattle.prv_journal.specs.Records.{Damaged, is_whole}
use Rattle.prv_journal.specs.Ends.{Opens}
use Rattle.prv_journal.proofs.RecordsNext.{Whole, to-end, whole-split, read-within, read-opens, read-damaged, read-ends}
use Rattle.prv_journal.proofs.reading.read_records.Goals as goal

pub returns-in_default-clause-damaged : goal.returns-in_default-clause-damaged
returns-in_default-clause-damaged c =
    let l = c.loop-end in
    let bytes : List ℕ = c.args.bytes.now in
    let all = to-end bytes (l.end + 1) in
    read-damaged bytes l.end (map (λ payload. payload.items) l.payloads.items) c.requires l.invariant.0 c.loop-end-test.true l.invariant.2 (subst (λ (b : List ℕ). is_whole b ≡ false) all c.in_default.ensures.none)
    ∙ ap (λ (b : List ℕ). Damaged l.end (length b)) (sym all)

pub loop-end-preserved : goal.loop-end-preserved
loop-end-preserved c =
    let l = c.loop-end in
    let bytes : List ℕ = c.args.bytes.now in
    let body : List ℕ = c.in-Some.payload.now in
    let items : Vec ℕ Global → List ℕ = λ (v : Vec ℕ Global). v.items in
    let all = to-end bytes (l.end + 1) in
    let w : Whole (drop (l.end + 1) bytes) body = subst (λ (b : List ℕ). Whole b body) all (whole-split _ body c.in-Some.ensures.some.0 c.in-Some.ensures.some.1) in
    let copied : c.in_ok-to_vec.field-0.items ≡ body = search rules in
    let pushed : c.push.new.self.items ≡ l.payloads.items ++ c.in_ok-to_vec.field-0 ∷ [] = c.in_ok-push.ensures.items in
    let payloads_are : map items c.push.new.self.items ≡ map items l.payloads.items ++ body ∷ [] =
    ap (map items) pushed ∙ map-append items l.payloads.items (c.in_ok-to_vec.field-0 ∷ []) ∙ ap (λ (p : List ℕ). map items l.payloads.items ++ p ∷ []) copied in
    let count : length c.push.new.self.items ≡ length l.payloads.items + 1 = ap length pushed ∙ length-append l.payloads.items (c.in_ok-to_vec.field-0 ∷ []) in
    let short : length c.in_ok-to_vec.field-0.items ≤ 17000000 = omega (arith, ap length copied, w.short) in
    let is_short : Vec ℕ Global → Type 0 = λ (v : Vec ℕ Global). length v.items ≤ 17000000 in
    let all_short : All is_short c.push.new.self.items = subst (All is_short) (sym pushed) (All-push is_short l.payloads.items c.in_ok-to_vec.field-0 l.invariant.3 short) in
    (read-within bytes l.end body l.invariant.0 c.loop-end-test.true w, omega (arith, l.invariant.1, w.short, count), subst (λ (ps : List (List ℕ)). Opens (take (l.end + (5 + length body)) bytes) ps) (sym payloads_are) (read-opens bytes l.end (map items l.payloads.items) body l.invariant.0 c.loop-end-test.true l.invariant.2 w), all_short)

pub returns-clause-ends : goal.returns-clause-ends
returns-clause-ends c =
    read-ends c.args.bytes.now c.loop-end.end (map (λ payload. payload.items) c.loop-end.payloads.items) c.loop-end.invariant.0 c.loop-end-test.false c.loop-end.invariant.2
