use Rattle.std.proofs.Common.{sym, arith, rules}
use Rattle.std.specs.Option.{option_copied}
use Rattle.prv_line.proofs.OptionSteps.{refused_head, refused_name, refused_last, takes}
use Rattle.prv_line.proofs.options.take_option.Goals as goal

pub returns-in_default-clause-err : goal.returns-in_default-clause-err
returns-in_default-clause-err c = λ s. (0, omega arith, refused_head c.args.allowed s _ _ (λ n value e may. c.in_default.ensures n value e))

pub returns-then-not-has-clause-err : goal.returns-then-not-has-clause-err
returns-then-not-has-clause-err c = λ s. (0, omega arith, refused_name c.args.allowed s _ _ c.in-Some.head.name (option_copied c.in-Some.head.value) c.in-Some.ensures (sym c.if-not-has.ensures))

pub returns-in-Some-take_value-clause-ok : goal.returns-in-Some-take_value-clause-ok
returns-in-Some-take_value-clause-ok c = takes c.args.allowed _ _ c.args.at c.in-Some.head.name (option_copied c.in-Some.head.value) _ _ _ _ c.in-Some.ensures (search rules) c.in-Some-take_value.ensures

pub returns-in-None-clause-err : goal.returns-in-None-clause-err
returns-in-None-clause-err c = λ s. (1, omega arith, refused_last c.args.allowed s _ _ c.in-Some.head.name (option_copied c.in-Some.head.value) c.in-Some.ensures c.in-None.ensures.0 c.in-None.ensures.1 (search rules))
