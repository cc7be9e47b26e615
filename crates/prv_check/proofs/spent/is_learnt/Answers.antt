use Rattle.std.proofs.Common.{rules, ◌≡◌, ◌&&◌, true, false, nat_lt, Option, None, Some, length, refl, sym, ◌∙◌, arith}
use Rattle.std.specs.List.{list_all}
use Rattle.std.specs.Option.{is_some}
use Rattle.std.proofs.lemmas.Bool.{and_parts}
use Rattle.prv_check.specs.declared.fault.LineWhy.{LineWhy}
use Rattle.prv_check.specs.Lines.{known}
use Rattle.prv_check.specs.Freshness.{fresh_fault}
use Rattle.prv_check.specs.Spending.{are_distinct}
use Rattle.prv_check.proofs.Judging.{learnt_from, none_from_learnt}
use Rattle.prv_check.proofs.spent.is_learnt.Goals as goal

none_of : (o : Option LineWhy) → is_some o ≡ false → o ≡ None
none_of None h = refl
none_of (Some why) h = absurd cc

pub returns-clause-learnt : goal.returns-clause-learnt
returns-clause-learnt c =
    let f = c.args.cnf.now in
    let earlier = c.args.earlier.now in
    let line = c.args.line.now in
    let named : (list_all (λ n. nat_lt n (length (known f earlier))) line.hints && are_distinct line.hints) ≡ true = search rules in
    let distinct = and_parts (list_all (λ n. nat_lt n (length (known f earlier))) line.hints) (are_distinct line.hints) named in (
      λ yes.
          let none : c.fresh_fault-why.result ≡ None = none_of c.fresh_fault-why.result (grind (arith, c.is_none.ensures, yes)) in
          learnt_from f earlier line (sym c.fresh_fault-why.ensures.fault ∙ none) distinct.1,
      λ learnt.
          let none : c.fresh_fault-why.result ≡ None = c.fresh_fault-why.ensures.fault ∙ none_from_learnt f earlier line learnt in
          let empty : is_some c.fresh_fault-why.result ≡ false = rw none refl in
          grind (arith, c.is_none.ensures, empty),
    )
