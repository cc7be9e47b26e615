use Rattle.std.proofs.Common.{◌≡◌, [], length, rules, arith}
use Rattle.prv_line.proofs.InputLemmas.{no_words_refused, refused_at}
use Rattle.prv_line.proofs.input.read_input.Goals as goal

pub returns-then-is_empty-clause-err : goal.returns-then-is_empty-clause-err
returns-then-is_empty-clause-err c =
    let empty : length c.args.words.now ≡ 0 = search rules in
    (0, omega arith, no_words_refused c.args.words.now empty)

pub returns-then-index-eq-MOST_WORDS-clause-err : goal.returns-then-index-eq-MOST_WORDS-clause-err
returns-then-index-eq-MOST_WORDS-clause-err c =
    let e = c.if-index-eq-MOST_WORDS.true in (
      c.loop-index.index,
      omega arith,
      refused_at c.args.words.now c.loop-index.index (record { ref_ptr = (0, 0); now = [] }) c.loop-index-test.true c.loop-index.invariant.each c.loop-index.invariant.few (λ s h. omega arith),
    )

pub returns-in-None-clause-err : goal.returns-in-None-clause-err
returns-in-None-clause-err c = (
  c.loop-index.index,
  omega arith,
  refused_at c.args.words.now c.loop-index.index (record { ref_ptr = (0, 0); now = [] }) c.loop-index-test.true c.loop-index.invariant.each c.loop-index.invariant.few (λ s h. c.in-None.ensures s),
)
