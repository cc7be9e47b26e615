-- What shifts give.
use Rattle.std.proofs.Common.{◌≡◌, ℕ, ◌*◌, ◌^◌, Bool, false, List, [], ◌∷◌, length, refl, sym, ap, ◌∙◌, arith}
use Rattle.std.proofs.lemmas.List.{length-map}
use Rattle.prv_gate.specs.Bits.{IsBit, bit_value}
use Rattle.prv_gate.specs.Circuits.{Circuit}
use Rattle.prv_gate.specs.Growth.{Gives}
use Rattle.prv_gate.specs.declared.bit.Bit.{Bit}
use Rattle.prv_gate.specs.declared.bit.Bit.TheVariants.{False}
use Rattle.prv_gate.proofs.Composing.{gives-here, gives-value, bit-more}
use Rattle.prv_bits.specs.Gates.{mux}
use Rattle.prv_bits.specs.Places.{raised, lowered}
use Rattle.prv_bits.specs.Numbers.{pairwise}
use Rattle.prv_bits.specs.Shifts.{shift_up, shift_down}
use Rattle.prv_bits.proofs.PlaceLaws.{map-raised, map-lowered, length-raised, length-lowered}
use Rattle.prv_arith.specs.declared.pairs.PairGate.TheVariants.{Mux}
use Rattle.prv_arith.specs.Lists.{AllBits, values, IsReady}
use Rattle.prv_arith.specs.Pairs.{paired}
use Rattle.prv_arith.specs.Shifts.{shifted_up, shifted_down}
use Rattle.prv_arith.proofs.ListLaws.{bits-raised, bits-lowered}
use Rattle.prv_arith.proofs.Joining.{gives-then}
use Rattle.prv_arith.proofs.PairLaws.{paired-gives, length-paired}

pub length-shifted_up : (amount bs : List Bit) (s : Circuit) → length (shifted_up amount bs s).out ≡ length bs
length-shifted_up [] bs s = refl
length-shifted_up (k ∷ amount) bs s =
    let r = shifted_up amount bs s in
    let l = length-raised False (2 ^ length amount) r.out in
    length-paired (Mux k) (raised False (2 ^ length amount) r.out) r.out r.circuit l ∙ l ∙ length-shifted_up amount bs s

pub length-shifted_down : (c : Bit) (amount bs : List Bit) (s : Circuit) → length (shifted_down c amount bs s).out ≡ length bs
length-shifted_down c [] bs s = refl
length-shifted_down c (k ∷ amount) bs s =
    let r = shifted_down c amount bs s in
    let l = length-lowered c (2 ^ length amount) r.out in
    length-paired (Mux k) (lowered c (2 ^ length amount) r.out) r.out r.circuit l ∙ l ∙ length-shifted_down c amount bs s

pub shifted_up-gives : (amount bs : List Bit) (s : Circuit) → IsReady (4 * (length amount * length bs)) s amount bs →
    Gives AllBits values (4 * (length amount * length bs)) s (shifted_up amount bs s) (λ v. shift_up (values v amount) (values v bs))
shifted_up-gives [] bs s h = gives-here AllBits values _ s bs _ h.circuit h.second (λ v model. refl)
shifted_up-gives (k ∷ amount) bs s h =
    let n = s.formula.vars in
    let p = 2 ^ length amount in
    let r = shifted_up amount bs s in
    let first = shifted_up-gives amount bs s (record { circuit = h.circuit; first = h.first.1; second = h.second; room = omega (arith, h.room) }) in
    let t = r.circuit in
    let m = t.formula.vars in
    let moved = raised False p r.out in
    let l : length moved ≡ length bs = length-raised False p r.out ∙ length-shifted_up amount bs s in
    let second =
    paired-gives (Mux k) moved r.out t (bit-more n m k first.grows.vars_kept h.first.0)
    (record { circuit = first.grows.circuit; first = bits-raised m p r.out first.inside; second = first.inside; room = omega (arith, h.room, first.grows.vars_cost, l) }) in
    gives-then AllBits values AllBits values (4 * (length amount * length bs)) (4 * length moved) (4 * (length (k ∷ amount) * length bs)) s r
    (λ bits u. paired (Mux k) (raised False p bits) bits u)
    (λ v. shift_up (values v amount) (values v bs)) (λ v bits. pairwise (mux (bit_value v k)) (raised false (2 ^ length (values v amount)) bits) bits)
    (omega (arith, l)) first
    (gives-value AllBits values (4 * length moved) t _ (λ v. pairwise (mux (bit_value v k)) (values v moved) (values v r.out)) _
    (λ v model. ap (λ (up : List Bool). pairwise (mux (bit_value v k)) up (values v r.out))
    (map-raised (bit_value v) False p r.out ∙ ap (λ (i : ℕ). raised false (2 ^ i) (values v r.out)) (sym (length-map amount (bit_value v)))))
    second)

pub shifted_down-gives : (c : Bit) (amount bs : List Bit) (s : Circuit) → IsBit s.formula.vars c → IsReady (4 * (length amount * length bs)) s amount bs →
    Gives AllBits values (4 * (length amount * length bs)) s (shifted_down c amount bs s) (λ v. shift_down (bit_value v c) (values v amount) (values v bs))
shifted_down-gives c [] bs s hc h = gives-here AllBits values _ s bs _ h.circuit h.second (λ v model. refl)
shifted_down-gives c (k ∷ amount) bs s hc h =
    let n = s.formula.vars in
    let p = 2 ^ length amount in
    let r = shifted_down c amount bs s in
    let first = shifted_down-gives c amount bs s hc (record { circuit = h.circuit; first = h.first.1; second = h.second; room = omega (arith, h.room) }) in
    let t = r.circuit in
    let m = t.formula.vars in
    let moved = lowered c p r.out in
    let l : length moved ≡ length bs = length-lowered c p r.out ∙ length-shifted_down c amount bs s in
    let second =
    paired-gives (Mux k) moved r.out t (bit-more n m k first.grows.vars_kept h.first.0)
    (record { circuit = first.grows.circuit; first = bits-lowered m c p r.out (bit-more n m c first.grows.vars_kept hc) first.inside; second = first.inside; room = omega (arith, h.room, first.grows.vars_cost, l) }) in
    gives-then AllBits values AllBits values (4 * (length amount * length bs)) (4 * length moved) (4 * (length (k ∷ amount) * length bs)) s r
    (λ bits u. paired (Mux k) (lowered c p bits) bits u)
    (λ v. shift_down (bit_value v c) (values v amount) (values v bs)) (λ v bits. pairwise (mux (bit_value v k)) (lowered (bit_value v c) (2 ^ length (values v amount)) bits) bits)
    (omega (arith, l)) first
    (gives-value AllBits values (4 * length moved) t _ (λ v. pairwise (mux (bit_value v k)) (values v moved) (values v r.out)) _
    (λ v model. ap (λ (down : List Bool). pairwise (mux (bit_value v k)) down (values v r.out))
    (map-lowered (bit_value v) c p r.out ∙ ap (λ (i : ℕ). lowered (bit_value v c) (2 ^ i) (values v r.out)) (sym (length-map amount (bit_value v)))))
    second)
