use Rattle.std.proofs.Common.{◌≡◌, Err, ap, subst}
use Rattle.prv_marks.specs.declared.error.PairError.{PairError}
use Rattle.prv_marks.specs.Pairs.{IsRefused}
use Rattle.prv_marks.proofs.PairLemmas.{one_refusal, pair_not_refused}
use Rattle.prv_marks.proofs.pairing.pair.Goals as goal

pub returns-in-Some-clause-paired : goal.returns-in-Some-clause-paired
returns-in-Some-clause-paired c = (
  λ never. absurd (cc never),
  λ pair. absurd (pair_not_refused c.args.before c.args.after c.in-Some.why pair c.in-Some.ensures.found),
)

pub returns-in-Some-clause-refused : goal.returns-in-Some-clause-refused
returns-in-Some-clause-refused c = λ why. (
  λ is.
      let same : c.in-Some.why ≡ why = cc is in
      subst (λ (e : PairError). IsRefused c.args.before c.args.after e) same c.in-Some.ensures.found,
  λ refused. ap (λ (e : PairError). Err e) (one_refusal c.args.before c.args.after c.in-Some.why why c.in-Some.ensures.found refused),
)

pub returns-in-None-clause-refused : goal.returns-in-None-clause-refused
returns-in-None-clause-refused c = λ why. (
  λ is. absurd (cc is),
  λ refused. absurd (pair_not_refused c.args.before c.args.after why c.in-None.ensures.none refused),
)
