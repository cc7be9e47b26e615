-- What sums and negatives give.
use Rattle.std.proofs.Common.{◌≡◌, ℕ, suc, ◌+◌, ◌*◌, ◌≤◌, Bool, true, false, List, [], ◌∷◌, length, map, replicate, refl, sym, ap, ap₂, ◌∙◌, arith}
use Rattle.std.proofs.lemmas.List.{length-map, length-replicate}
use Rattle.prv_cnf.specs.declared.formula.TheConstants.{MAX_VARS}
use Rattle.prv_gate.specs.Bits.{IsBit, bit_value}
use Rattle.prv_gate.specs.Circuits.{Circuit, give, and_then, IsCircuit}
use Rattle.prv_gate.specs.Folding.{xor_gate, full_adder}
use Rattle.prv_gate.specs.Growth.{Gives}
use Rattle.prv_gate.specs.declared.bit.Bit.{Bit}
use Rattle.prv_gate.specs.declared.bit.Bit.TheVariants.{False}
use Rattle.prv_gate.proofs.Composing.{gives-here, gives-value, bit-more}
use Rattle.prv_bits.specs.Gates.{xor, parity, majority}
use Rattle.prv_bits.specs.Numbers.{zeros, pairwise}
use Rattle.prv_bits.specs.Sums.{carry, add, ripple, increment, negate_if, magnitude as magnitude_of}
use Rattle.prv_bits.proofs.PlaceLaws.{map-replicate}
use Rattle.prv_arith.specs.declared.pairs.PairGate.TheVariants.{Xor}
use Rattle.prv_arith.specs.Lists.{AllBits, values, unset_bits, top_bit, with_top, AreCarried, carried_values, IsReady}
use Rattle.prv_arith.specs.Pairs.{paired}
use Rattle.prv_arith.specs.Sums.{summed, added, negated, magnitude}
use Rattle.prv_arith.proofs.ListLaws.{bits-more, bits-replicate, top-inside, values-top, values-unset}
use Rattle.prv_arith.proofs.Joining.{gives-then, top-gives, carried-gives}
use Rattle.prv_arith.proofs.GateLaws.{xor-gives, adder-gives}
use Rattle.prv_arith.proofs.PairLaws.{ready-tail, paired-gives, pairwise-replicate, length-paired}

pub summed-gives : (c : Bit) (xs ys : List Bit) (s : Circuit) → IsBit s.formula.vars c → IsReady (14 * length xs) s xs ys →
    Gives AreCarried carried_values (14 * length xs) s (summed c xs ys s) (λ v. (carry (bit_value v c) (values v xs) (values v ys), add (bit_value v c) (values v xs) (values v ys)))
summed-gives c [] ys s hc h = gives-here AreCarried carried_values _ s (c, []) _ h.circuit (hc, tt) (λ v model. refl)
summed-gives c (x ∷ xs) [] s hc h = gives-here AreCarried carried_values _ s (c, []) _ h.circuit (hc, tt) (λ v model. refl)
summed-gives c (x ∷ xs) (y ∷ ys) s hc h =
    let n = s.formula.vars in
    let r = summed c xs ys s in
    let first = summed-gives c xs ys s hc (ready-tail _ _ x y xs ys s (omega arith) h) in
    let t = r.circuit in
    let kept = first.grows.vars_kept in
    let second =
    adder-gives x y r.out.0 t first.grows.circuit (bit-more n t.formula.vars x kept h.first.0) (bit-more n t.formula.vars y kept h.second.0) first.inside.0
    (omega (arith, first.grows.vars_cost, h.room)) in
    gives-then AreCarried carried_values AreCarried carried_values (14 * length xs) 14 (14 * length (x ∷ xs)) s r
    (λ lower u. and_then (full_adder x y lower.0 u) (λ p w. give (p.1, p.0 ∷ lower.1) w))
    (λ v. (carry (bit_value v c) (values v xs) (values v ys), add (bit_value v c) (values v xs) (values v ys)))
    (λ v p. (majority (bit_value v x) (bit_value v y) p.0, parity (bit_value v x) (bit_value v y) p.0 ∷ p.1))
    (omega arith) first (carried-gives 14 t (full_adder x y r.out.0 t) r.out.1 _ second first.inside.1)

pub added-gives : (c : Bit) (xs ys : List Bit) (s : Circuit) → IsBit s.formula.vars c → IsReady (14 * length xs) s xs ys →
    Gives AllBits values (14 * length xs) s (added c xs ys s) (λ v. add (bit_value v c) (values v xs) (values v ys))
added-gives c [] ys s hc h = gives-here AllBits values _ s [] _ h.circuit tt (λ v model. refl)
added-gives c (x ∷ xs) [] s hc h = gives-here AllBits values _ s [] _ h.circuit tt (λ v model. refl)
added-gives c (x ∷ xs) (y ∷ ys) s hc h =
    let n = s.formula.vars in
    let r = summed c xs ys s in
    let first = summed-gives c xs ys s hc (ready-tail _ _ x y xs ys s (omega arith) h) in
    let t = r.circuit in
    let kept = first.grows.vars_kept in
    let one =
    xor-gives x y t first.grows.circuit (bit-more n t.formula.vars x kept h.first.0) (bit-more n t.formula.vars y kept h.second.0)
    (omega (arith, first.grows.vars_cost, h.room)) in
    let d = xor_gate x y t in
    let u = d.circuit in
    let two =
    xor-gives d.out r.out.0 u one.grows.circuit one.inside (bit-more t.formula.vars u.formula.vars r.out.0 one.grows.vars_kept first.inside.0)
    (omega (arith, one.grows.vars_cost, first.grows.vars_cost, h.room)) in
    let place =
    gives-then IsBit bit_value AllBits values 4 4 8 t d (λ e w. with_top (xor_gate e r.out.0 w) r.out.1)
    (λ v. xor (bit_value v x) (bit_value v y)) (λ v e. xor e (bit_value v r.out.0) ∷ values v r.out.1)
    (omega arith) one (top-gives 4 u (xor_gate d.out r.out.0 u) r.out.1 _ two (bits-more t.formula.vars u.formula.vars r.out.1 one.grows.vars_kept first.inside.1)) in
    gives-then AreCarried carried_values AllBits values (14 * length xs) 8 (14 * length (x ∷ xs)) s r
    (λ lower u. and_then (xor_gate x y u) (λ e w. with_top (xor_gate e lower.0 w) lower.1))
    (λ v. (carry (bit_value v c) (values v xs) (values v ys), add (bit_value v c) (values v xs) (values v ys)))
    (λ v p. parity (bit_value v x) (bit_value v y) p.0 ∷ p.1)
    (omega arith) first place

-- one more is a sum with zeros
carry-zeros : (c : Bool) (bs : List Bool) → carry c bs (zeros (length bs)) ≡ ripple c bs
carry-zeros c [] = refl
carry-zeros c (true ∷ bs) = carry-zeros c bs
carry-zeros c (false ∷ bs) = refl

keeps : (b k : Bool) → parity b false k ≡ xor b k
keeps true k = refl
keeps false k = refl

add-zeros : (c : Bool) (bs : List Bool) → add c bs (zeros (length bs)) ≡ increment c bs
add-zeros c [] = refl
add-zeros c (b ∷ bs) = ap₂ (λ (x : Bool) (xs : List Bool). x ∷ xs) (keeps b _ ∙ ap (xor b) (carry-zeros c bs)) (add-zeros c bs)

negative-is : (c : Bool) (bs : List Bool) (n : ℕ) → n ≡ length bs → add c (pairwise xor (replicate n c) bs) (zeros n) ≡ negate_if c bs
negative-is c bs n e =
    ap (λ (t : List Bool). add c t (zeros n)) (pairwise-replicate xor n c bs e)
    ∙ ap (λ (k : ℕ). add c (map (xor c) bs) (zeros k)) (e ∙ sym (length-map bs (xor c)))
    ∙ add-zeros c (map (xor c) bs)

pub negated-gives : (c : Bit) (bs : List Bit) (s : Circuit) → IsCircuit s → IsBit s.formula.vars c → AllBits s.formula.vars bs → s.formula.vars + 18 * length bs ≤ MAX_VARS →
    Gives AllBits values (18 * length bs) s (negated c bs s) (λ v. negate_if (bit_value v c) (values v bs))
unfolding negated
negated-gives c bs s h hc hbs room =
    let n = s.formula.vars in
    let k = length bs in
    let w : length (replicate k c) ≡ k = length-replicate k c in
    let r = paired Xor (replicate k c) bs s in
    let first = paired-gives Xor (replicate k c) bs s tt (record { circuit = h; first = bits-replicate n k c hc; second = hbs; room = omega (arith, room) }) in
    let l : length r.out ≡ k = length-paired Xor (replicate k c) bs s w ∙ w in
    let t = r.circuit in
    let second =
    added-gives c r.out (unset_bits k) t (bit-more n t.formula.vars c first.grows.vars_kept hc)
    (record { circuit = first.grows.circuit; first = first.inside; second = bits-replicate t.formula.vars k False tt; room = omega (arith, room, first.grows.vars_cost) }) in
    gives-value AllBits values (18 * k) s _ _ (λ v. negate_if (bit_value v c) (values v bs))
    (λ v model.
    ap₂ (λ (cs zs : List Bool). add (bit_value v c) (pairwise xor cs (values v bs)) zs) (map-replicate (bit_value v) k c) (values-unset v k)
    ∙ negative-is (bit_value v c) (values v bs) k (sym (length-map bs (bit_value v))))
    (gives-then AllBits values AllBits values (4 * length (replicate k c)) (14 * length r.out) (18 * k) s r (λ flipped u. added c flipped (unset_bits k) u)
    (λ v. pairwise xor (values v (replicate k c)) (values v bs)) (λ v fs. add (bit_value v c) fs (values v (unset_bits k)))
    (omega arith) first second)

pub magnitude-gives : (bs : List Bit) (s : Circuit) → IsCircuit s → AllBits s.formula.vars bs → s.formula.vars + 18 * length bs ≤ MAX_VARS →
    Gives AllBits values (18 * length bs) s (magnitude bs s) (λ v. magnitude_of (values v bs))
magnitude-gives bs s h hbs room =
    gives-value AllBits values (18 * length bs) s (magnitude bs s) _ _
    (λ v model. ap (λ (c : Bool). negate_if c (values v bs)) (values-top v bs))
    (negated-gives (top_bit bs) bs s h (top-inside s.formula.vars bs hbs) hbs room)

pub length-summed : (c : Bit) (xs ys : List Bit) (s : Circuit) → length xs ≡ length ys → length (summed c xs ys s).out.1 ≡ length xs
length-summed c [] ys s e = refl
length-summed c (x ∷ xs) [] s e = cc
length-summed c (x ∷ xs) (y ∷ ys) s e = ap suc (length-summed c xs ys s (omega arith))

pub length-added : (c : Bit) (xs ys : List Bit) (s : Circuit) → length xs ≡ length ys → length (added c xs ys s).out ≡ length xs
length-added c [] ys s e = refl
length-added c (x ∷ xs) [] s e = cc
length-added c (x ∷ xs) (y ∷ ys) s e = ap suc (length-summed c xs ys s (omega arith))

pub length-negated : (c : Bit) (bs : List Bit) (s : Circuit) → length (negated c bs s).out ≡ length bs
unfolding negated
length-negated c bs s =
    let k = length bs in
    let w : length (replicate k c) ≡ k = length-replicate k c in
    let r = paired Xor (replicate k c) bs s in
    let l : length r.out ≡ k = length-paired Xor (replicate k c) bs s w ∙ w in
    length-added c r.out (unset_bits k) r.circuit (l ∙ sym (length-replicate k False)) ∙ l
