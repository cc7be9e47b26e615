use Rattle.std.proofs.Common.{◌≡◌, ◌++◌, List, ℕ, take, codes, true, false, ap, sym, ◌∙◌}
use Rattle.prv_text.specs.Terms.{spelled, operand, between, Spelled}
use Rattle.prv_text.proofs.Capped.{take_more_of}
use Rattle.prv_text.proofs.Spelling.{spelled-Op, spelled-Pick, operand-compound, operand-simple}
use Rattle.prv_text.proofs.term.+term.Goals as goal

pub push_spelled-returns-in_ok-push_operand-in-Op-2 : goal.push_spelled-returns-in_ok-push_operand-in-Op-2
push_spelled-returns-in_ok-push_operand-in-Op-2 t c =
    let end = c.args.end in
    let old = c.args.out.now.items in
    let names = c.args.names.now in
    let a = operand (spelled names c.in-Op.a) in
    let first = rw c.get.ensures at c.in_ok-push_operand-in-Op.ensures in
    let e2 = take_more_of end old _ _ a (between c.in-Op.op) first c.in_ok-push_between-in-Op.ensures in
    let e3 = take_more_of end old _ _ (a ++ between c.in-Op.op) (operand (spelled names c.in-Op.b)) e2 (rw c.get-in-Op.ensures at c.in_ok-push_operand-in-Op-2.ensures) in
    e3 ∙ ap (λ (s : Spelled). take end (old ++ s.text)) (sym (ap (spelled names) c.in-Op.is ∙ spelled-Op names c.in-Op.op c.in-Op.a c.in-Op.b))

pub push_spelled-returns-in_ok-push_operand-in-Pick-3 : goal.push_spelled-returns-in_ok-push_operand-in-Pick-3
push_spelled-returns-in_ok-push_operand-in-Pick-3 t c =
    let end = c.args.end in
    let old = c.args.out.now.items in
    let names = c.args.names.now in
    let p = c.in-Pick in
    let test = operand (spelled names p.test) in
    let chosen = operand (spelled names p.chosen) in
    let first = rw c.get-in-Pick.ensures at c.in_ok-push_operand-in-Pick.ensures in
    let e2 = take_more_of end old _ _ test (codes " ? ") first c.in_ok-push_capped-in-Pick.ensures in
    let e3 = take_more_of end old _ _ (test ++ codes " ? ") chosen e2 (rw c.get-in-Pick-2.ensures at c.in_ok-push_operand-in-Pick-2.ensures) in
    let e4 = take_more_of end old _ _ (test ++ codes " ? " ++ chosen) (codes " : ") e3 c.in_ok-push_capped-in-Pick-2.ensures in
    let e5 = take_more_of end old _ _ (test ++ codes " ? " ++ chosen ++ codes " : ") (operand (spelled names p.other)) e4 (rw c.get-in-Pick-3.ensures at c.in_ok-push_operand-in-Pick-3.ensures) in
    e5 ∙ ap (λ (s : Spelled). take end (old ++ s.text)) (sym (ap (spelled names) p.is ∙ spelled-Pick names p.test p.chosen p.other))

pub push_operand-returns-in_ok-push_capped-2 : goal.push_operand-returns-in_ok-push_capped-2
push_operand-returns-in_ok-push_capped-2 t c =
    let end = c.args.end in
    let old = c.args.out.now.items in
    let s = spelled c.args.names.now c.args.term.now in
    let compound : s.compound ≡ true = sym (c.is_compound.ensures c.args.names.now) ∙ c.if-is_compound.true in
    let written = take_more_of end old _ _ (codes "(") s.text c.in_ok-push_capped.ensures c.in_ok-push_spelled.ensures in
    let closed = take_more_of end old _ _ (codes "(" ++ s.text) (codes ")") written c.in_ok-push_capped-2.ensures in
    closed ∙ ap (λ (text : List ℕ). take end (old ++ text)) (sym (operand-compound s compound))

pub push_operand-returns-else-is_compound : goal.push_operand-returns-else-is_compound
push_operand-returns-else-is_compound t c =
    let s = spelled c.args.names.now c.args.term.now in
    let simple : s.compound ≡ false = sym (c.is_compound.ensures c.args.names.now) ∙ c.if-is_compound.false in
    rw (operand-simple s simple) c.push_spelled-else-is_compound.ensures
