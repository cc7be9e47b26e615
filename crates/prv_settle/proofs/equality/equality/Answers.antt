use Rattle.std.proofs.Common.{◌∙◌}
use Rattle.prv_settle.proofs.Equating.{comparable-as, outs-in, equal-stands, equal-names, none-stands, none-names}
use Rattle.prv_settle.proofs.equality.equality.Goals as goal

pub all_equal-requires-clause-before : goal.all_equal-requires-clause-before
all_equal-requires-clause-before c = outs-in c.args.pool.now.terms c.args.before.now c.requires.0 _ c.as_slice.ensures c.requires.2

pub all_equal-requires-clause-after : goal.all_equal-requires-clause-after
all_equal-requires-clause-after c = outs-in c.args.pool.now.terms c.args.after.now c.requires.1 _ c.as_slice-then-are_comparable.ensures c.requires.3

pub returns-then-are_comparable-clause-stands : goal.returns-then-are_comparable-clause-stands
returns-then-are_comparable-clause-stands c = λ a b ha hb.
    let same = comparable-as c.args.pool.now.terms c.args.before.now c.args.after.now a b c.are_comparable.result ha hb c.are_comparable.ensures in
    equal-stands c.args.before.now c.args.after.now a b c.args.pool.now c.all_equal.new.pool c.all_equal.result _ _ c.as_slice.ensures c.as_slice-then-are_comparable.ensures ha hb (same ∙ c.if-are_comparable.true) c.all_equal.ensures.stands

pub returns-then-are_comparable-clause-names : goal.returns-then-are_comparable-clause-names
returns-then-are_comparable-clause-names c = λ a b ha hb.
    let same = comparable-as c.args.pool.now.terms c.args.before.now c.args.after.now a b c.are_comparable.result ha hb c.are_comparable.ensures in
    equal-names c.args.before.now c.args.after.now a b c.args.pool.now c.all_equal.new.pool c.all_equal.result _ _ c.as_slice.ensures c.as_slice-then-are_comparable.ensures ha hb (same ∙ c.if-are_comparable.true) c.all_equal.ensures.names

pub returns-else-are_comparable-clause-stands : goal.returns-else-are_comparable-clause-stands
returns-else-are_comparable-clause-stands c = λ a b ha hb.
    let same = comparable-as c.args.pool.now.terms c.args.before.now c.args.after.now a b c.are_comparable.result ha hb c.are_comparable.ensures in
    none-stands c.args.before.now c.args.after.now a b c.args.pool.now c.num.new.self c.num.result (same ∙ c.if-are_comparable.false) c.num.ensures

pub returns-else-are_comparable-clause-names : goal.returns-else-are_comparable-clause-names
returns-else-are_comparable-clause-names c = λ a b ha hb.
    let same = comparable-as c.args.pool.now.terms c.args.before.now c.args.after.now a b c.are_comparable.result ha hb c.are_comparable.ensures in
    none-names c.args.before.now c.args.after.now a b c.args.pool.now c.num.new.self c.num.result (same ∙ c.if-are_comparable.false) c.num.ensures
