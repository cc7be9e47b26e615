use Rattle.std.proofs.Common.{drop, sym, ◌∙◌, arith}
use Rattle.std.proofs.lemmas.List.{take_rest}
use Rattle.prv_lex.proofs.FormLemmas.{word-front-is}
use Rattle.prv_lex.proofs.ScanLemmas.{Stopped, blank-front, scanned-gap, scanned-added, added-moves, len-fits, scan-stops, is-err, stopped-refused, stopped-tokens, stopped-refuses, scanned-end}
use Rattle.prv_lex.proofs.FileLemmas.{tokens-read, tokens-one, tokens-not_refused}
use Rattle.prv_lex.proofs.scan.tokens.Goals as goal

pub loop-place-preserved-then-is_blank : goal.loop-place-preserved-then-is_blank
loop-place-preserved-then-is_blank c =
    let blank = rw take_rest at c.is_blank.ensures in
    scanned-gap _ _ _ _ c.loop-place.invariant c.loop-place-test.true (blank-front (drop c.loop-place.place c.args.bytes.now) (sym blank ∙ c.if-is_blank.true))

pub loop-place-preserved-then-is_letter : goal.loop-place-preserved-then-is_letter
loop-place-preserved-then-is_letter c =
    let letter = rw take_rest at c.is_letter.ensures in
    let run = rw take_rest at c.word_of.ensures in
    scanned-added _ _ _ _ _ _ c.loop-place.invariant c.loop-place-test.true (word-front-is (drop c.loop-place.place c.args.bytes.now) _ _ (sym letter ∙ c.if-is_letter.true) run c.in_ok-word_at.ensures) c.in_ok-place.ensures.added

word_stops : (c : goal.After-drop-found-in_err-place) → Stopped c.args.bytes.now c.in_err-place.field-0.0
word_stops c =
    let letter = rw take_rest at c.is_letter.ensures in
    let run = rw take_rest at c.word_of.ensures in
    scan-stops _ _ _ _ _ c.if-bytes-gt-MAX_FILE.false c.loop-place.invariant c.loop-place-test.true (word-front-is (drop c.loop-place.place c.args.bytes.now) _ _ (sym letter ∙ c.if-is_letter.true) run c.in_ok-word_at.ensures) c.in_err-place.ensures.stopped

pub returns-in_err-place-clause-refused : goal.returns-in_err-place-clause-refused
returns-in_err-place-clause-refused c place why answered =
    stopped-refused _ _ _ place why (word_stops c) (is-err _ _ c.from_residual-in_err-place.ensures.1) answered

pub returns-in_err-place-clause-finds : goal.returns-in_err-place-clause-finds
returns-in_err-place-clause-finds c list has =
    rw (is-err _ c.in_err-place.field-0.0 c.from_residual-in_err-place.ensures.1) (stopped-tokens _ _ list (word_stops c) has)

pub returns-in_err-place-clause-refuses : goal.returns-in_err-place-clause-refuses
returns-in_err-place-clause-refuses c place why refused =
    rw (is-err _ c.in_err-place.field-0.0 c.from_residual-in_err-place.ensures.1) (stopped-refuses _ _ place why (word_stops c) refused)

pub add_front-requires-else-is_letter-clause-short : goal.add_front-requires-else-is_letter-clause-short
add_front-requires-else-is_letter-clause-short c =
    let is = rw take_rest at c.other_front.ensures in
    let fits = len-fits c.args.bytes.now c.loop-place.place c.other_front.result c.loop-place-test.true is in
    omega (arith, fits)

pub loop-place-smaller : goal.loop-place-smaller
loop-place-smaller c =
    let is = rw take_rest at c.other_front.ensures in
    omega (arith, added-moves c.args.bytes.now _ _ c.loop-place.place _ _ c.loop-place-test.true is c.in_ok-place-2.ensures.added)

pub loop-place-preserved : goal.loop-place-preserved
loop-place-preserved c =
    let is = rw take_rest at c.other_front.ensures in
    scanned-added _ _ _ _ _ _ c.loop-place.invariant c.loop-place-test.true is c.in_ok-place-2.ensures.added

other_stops : (c : goal.After-drop-found-in_err-place-2) → Stopped c.args.bytes.now c.in_err-place-2.field-0.0
other_stops c =
    let is = rw take_rest at c.other_front.ensures in
    scan-stops _ _ _ _ _ c.if-bytes-gt-MAX_FILE.false c.loop-place.invariant c.loop-place-test.true is c.in_err-place-2.ensures.stopped

pub returns-in_err-place-2-clause-refused : goal.returns-in_err-place-2-clause-refused
returns-in_err-place-2-clause-refused c place why answered =
    stopped-refused _ _ _ place why (other_stops c) (is-err _ _ c.from_residual-in_err-place-2.ensures.1) answered

pub returns-in_err-place-2-clause-finds : goal.returns-in_err-place-2-clause-finds
returns-in_err-place-2-clause-finds c list has =
    rw (is-err _ c.in_err-place-2.field-0.0 c.from_residual-in_err-place-2.ensures.1) (stopped-tokens _ _ list (other_stops c) has)

pub returns-in_err-place-2-clause-refuses : goal.returns-in_err-place-2-clause-refuses
returns-in_err-place-2-clause-refuses c place why refused =
    rw (is-err _ c.in_err-place-2.field-0.0 c.from_residual-in_err-place-2.ensures.1) (stopped-refuses _ _ place why (other_stops c) refused)

pub returns-clause-found : goal.returns-clause-found
returns-clause-found c = tokens-read _ _ c.if-bytes-gt-MAX_FILE.false (scanned-end _ _ _ c.loop-place.invariant c.loop-place-test.false)

pub returns-clause-finds : goal.returns-clause-finds
returns-clause-finds c list has = tokens-one _ _ list (returns-clause-found c) has

pub returns-clause-refuses : goal.returns-clause-refuses
returns-clause-refuses c place why refused = tokens-not_refused _ _ place why (returns-clause-found c) refused
