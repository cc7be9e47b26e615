use Rattle.std.proofs.Common.{◌≡◌, length, Err, ap, arith}
use Rattle.std.proofs.lemmas.Result.{err_from_is_err_and}
use Rattle.prv_general.specs.Slices.{slice}
use Rattle.prv_general.proofs.Standing.{all-long}
use Rattle.prv_general.proofs.Whole.{passed-wide}
use Rattle.prv_general.proofs.slice.generalise.Goals as goal

pub returns-in_err-slice-clause-kept : goal.returns-in_err-slice-clause-kept
returns-in_err-slice-clause-kept c = c.in_err-slice.ensures.names.kept

pub returns-in_err-slice-clause-only : goal.returns-in_err-slice-clause-only
returns-in_err-slice-clause-only c = c.in_err-slice.ensures.names.only

pub returns-in_err-slice-clause-limit : goal.returns-in_err-slice-clause-limit
returns-in_err-slice-clause-limit c = c.in_err-slice.ensures.names.limit

pub returns-in_err-slice-clause-wide : goal.returns-in_err-slice-clause-wide
returns-in_err-slice-clause-wide c = λ wide.
    let passed = err_from_is_err_and c.from_residual.result c.from_residual.ensures.1 in
    c.in_err-slice.ensures.names.wide (ap Err (passed-wide _ _ _ passed.1 passed.2 wide))

pub returns-then-len-gt-MAX_LITERALS-clause-counted : goal.returns-then-len-gt-MAX_LITERALS-clause-counted
returns-then-len-gt-MAX_LITERALS-clause-counted c = λ many. c.in_ok-slice.ensures.names.grows

pub returns-then-len-gt-MAX_LITERALS-clause-kept : goal.returns-then-len-gt-MAX_LITERALS-clause-kept
returns-then-len-gt-MAX_LITERALS-clause-kept c = c.in_ok-slice.ensures.names.kept

pub returns-then-len-gt-MAX_LITERALS-clause-only : goal.returns-then-len-gt-MAX_LITERALS-clause-only
returns-then-len-gt-MAX_LITERALS-clause-only c = c.in_ok-slice.ensures.names.only

pub returns-then-len-gt-MAX_LITERALS-clause-limit : goal.returns-then-len-gt-MAX_LITERALS-clause-limit
returns-then-len-gt-MAX_LITERALS-clause-limit c = c.in_ok-slice.ensures.names.limit

pub returns-then-len-gt-MAX_LITERALS-clause-literals : goal.returns-then-len-gt-MAX_LITERALS-clause-literals
returns-then-len-gt-MAX_LITERALS-clause-literals c = λ many.
    let long : length c.in_ok-slice.slice.literals ≡ length (slice c.args.program.now c.args.turns c.args.input.now).literals = all-long _ _ _ c.in_ok-slice.ensures.slice.literals in
    omega (arith, long, c.len.ensures, c.if-len-gt-MAX_LITERALS.true)

pub returns-clause-kept : goal.returns-clause-kept
returns-clause-kept c = c.in_ok-slice.ensures.names.kept

pub returns-clause-only : goal.returns-clause-only
returns-clause-only c = c.in_ok-slice.ensures.names.only

pub returns-clause-limit : goal.returns-clause-limit
returns-clause-limit c = c.in_ok-slice.ensures.names.limit

pub returns-clause-grows : goal.returns-clause-grows
returns-clause-grows c = c.in_ok-slice.ensures.names.grows

pub returns-clause-few : goal.returns-clause-few
returns-clause-few c =
    let long : length c.in_ok-slice.slice.literals ≡ length (slice c.args.program.now c.args.turns c.args.input.now).literals = all-long _ _ _ c.in_ok-slice.ensures.slice.literals in
    omega (arith, long, c.len.ensures, c.if-len-gt-MAX_LITERALS.false)
