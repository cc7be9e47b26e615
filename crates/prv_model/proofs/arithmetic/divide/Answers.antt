use Rattle.std.proofs.Common.{◌≡◌, ap, Some, ◌∙◌, int_div}
use Rattle.std.specs.Int.{w32}
use Rattle.std.proofs.lemmas.Int.{to_z-of_z}
use Rattle.prv_model.specs.Words.{wrap}
use Rattle.prv_model.proofs.WordLemmas.{cast-wrap, mag-quotient, is_zero-bits}
use Rattle.prv_model.proofs.arithmetic.divide.Goals as goal

pub returns-else-b-eq0 : goal.returns-else-b-eq0
returns-else-b-eq0 c =
    let a = to_z-of_z w32 c.args.a c.ranges.a in
    let b = to_z-of_z w32 c.args.b c.ranges.b in
    let quotient = rw (a, b) at c.wrapping_div.ensures in
    let wrapped : c.wrapping_div.result ≡ wrap (int_div c.args.a c.args.b) =
    quotient ∙ cast-wrap (int_div c.args.a c.args.b) (mag-quotient c.args.a c.args.b c.ranges.a.sfits) in
    rw (is_zero-bits c.args.b c.ranges.b.sfits c.if-b-eq0.false)
    (ap Some (to_z-of_z w32 c.wrapping_div.result (record { sfits = c.wrapping_div.type_inv }) ∙ wrapped))
