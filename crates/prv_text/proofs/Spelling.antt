-- How terms are spelled, variant by variant.
use Rattle.std.proofs.Common.{◌≡◌, ℤ, ℕ, suc, ◌+◌, ◌<◌, ◌≤◌, Bool, true, false, List, ◌++◌, length, take, sym, ap, ◌∙◌, codes, arith, append_assoc, nat_le, if◌then◌else◌}
use Rattle.std.proofs.Math.Seq.{take-append-add}
use Rattle.std.proofs.lemmas.List.{length-append, length-take, take_all}
use Rattle.std.proofs.lemmas.Bool.Decides.{nat_tests}
use Rattle.prv_text.proofs.Capped.{take_one_more}
use Rattle.std.specs.Fmt.{signed_decimal}
use Rattle.prv_model.specs.declared.op.TermOp.{TermOp}
use Rattle.prv_model.specs.declared.term.Term.{Term, Term-F, fold-roll-Term}
use Rattle.prv_model.specs.declared.term.Term.TheVariants.{Param, Op, Pick, Num, rolls-Param, rolls-Op, rolls-Pick, rolls-Num}
use Rattle.prv_text.specs.Terms.{Spelled, operand, between, name_of, node_spelled, spelled, cut}

pub spelled-Param : (names : List (List ℕ)) (k : ℕ) → spelled names (Param k) ≡ record { text = name_of names k; compound = false }
spelled-Param names k = ap (spelled names) (sym (rolls-Param k)) ∙ fold-roll-Term Spelled (node_spelled names) (Term-F.Param k)

pub spelled-Num : (names : List (List ℕ)) (n : ℤ) → spelled names (Num n) ≡ record { text = signed_decimal n; compound = false }
spelled-Num names n = ap (spelled names) (sym (rolls-Num n)) ∙ fold-roll-Term Spelled (node_spelled names) (Term-F.Num n)

pub spelled-Op : (names : List (List ℕ)) (op : TermOp) (a b : Term) →
    spelled names (Op op a b) ≡ record { text = operand (spelled names a) ++ between op ++ operand (spelled names b); compound = true }
spelled-Op names op a b = ap (spelled names) (sym (rolls-Op op a b)) ∙ fold-roll-Term Spelled (node_spelled names) (Term-F.Op op a b)

pub spelled-Pick : (names : List (List ℕ)) (test chosen other : Term) →
    spelled names (Pick test chosen other) ≡ record { text = operand (spelled names test) ++ codes " ? " ++ operand (spelled names chosen) ++ codes " : " ++ operand (spelled names other); compound = true }
spelled-Pick names test chosen other = ap (spelled names) (sym (rolls-Pick test chosen other)) ∙ fold-roll-Term Spelled (node_spelled names) (Term-F.Pick test chosen other)

-- an operator or a choice as an operand
pub operand-compound : (s : Spelled) → s.compound ≡ true → operand s ≡ codes "(" ++ s.text ++ codes ")"
operand-compound s is = rw is

-- a number or a parameter as an operand
pub operand-simple : (s : Spelled) → s.compound ≡ false → operand s ≡ s.text
operand-simple s is = rw is

-- what was written with room for one byte more than the limit
written-to : (limit end : ℕ) (old text mid : List ℕ) → end ≡ length old + limit → mid ≡ take (end + 1) (old ++ text) → mid ≡ old ++ take (suc limit) text
written-to limit end old text mid at is = is ∙ ap (λ (m : ℕ). take m (old ++ text)) (omega arith) ∙ take-append-add old text (suc limit)

-- a text that goes on past the limit is cut
pub cut-long : (limit end : ℕ) (old text mid : List ℕ) → end ≡ length old + limit → mid ≡ take (end + 1) (old ++ text) → end < length mid → take end mid ++ codes ".." ≡ old ++ cut limit text
cut-long limit end old text mid at is long =
    let written = written-to limit end old text mid at is in
    let counts : length mid ≡ length old + length (take (suc limit) text) = ap length written ∙ length-append old (take (suc limit) text) in
    let more : limit < length text = omega (arith, length-take (suc limit) text) in
    let past : (nat_le (length text) limit) ≡ false = grind (arith, nat_tests) in
    let front : take end mid ≡ old ++ take limit text =
    ap (take end) written ∙ ap (λ (m : ℕ). take m (old ++ take (suc limit) text)) at ∙ take-append-add old (take (suc limit) text) limit ∙ ap (λ (zs : List ℕ). old ++ zs) (take_one_more limit text) in
    ap (λ (zs : List ℕ). zs ++ codes "..") front ∙ append_assoc old (take limit text) (codes "..") ∙ ap (λ (b : Bool). old ++ (if b then text else take limit text ++ codes "..")) (sym past)

-- and one that doesn't is whole
pub cut-short : (limit end : ℕ) (old text mid : List ℕ) → end ≡ length old + limit → mid ≡ take (end + 1) (old ++ text) → length mid ≤ end → mid ≡ old ++ cut limit text
cut-short limit end old text mid at is short =
    let written = written-to limit end old text mid at is in
    let counts : length mid ≡ length old + length (take (suc limit) text) = ap length written ∙ length-append old (take (suc limit) text) in
    let few : length text ≤ limit = omega (arith, length-take (suc limit) text) in
    let within : (nat_le (length text) limit) ≡ true = grind (arith, nat_tests) in
    let more : length text ≤ suc limit = omega arith in
    written ∙ ap (λ (zs : List ℕ). old ++ zs) (take_all (suc limit) text more) ∙ ap (λ (b : Bool). old ++ (if b then text else take limit text ++ codes "..")) (sym within)
