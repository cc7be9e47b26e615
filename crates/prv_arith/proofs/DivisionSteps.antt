-- What one step of a division gives.
use Rattle.std.proofs.Common.{◌≡◌, ℕ, ◌+◌, ◌-◌, ◌*◌, ◌≤◌, min, Bool, true, not, ◌&&◌, ◌||◌, List, length, refl, sym, ap, ap₂, ◌∙◌, arith}
use Rattle.std.proofs.lemmas.List.{length-map}
use Rattle.prv_cnf.specs.declared.formula.TheConstants.{MAX_VARS}
use Rattle.prv_gate.specs.Bits.{IsBit, bit_value, negate_bit}
use Rattle.prv_gate.specs.Circuits.{Circuit, give, and_then, IsCircuit}
use Rattle.prv_gate.specs.Folding.{and_gate}
use Rattle.prv_gate.specs.Growth.{Gives}
use Rattle.prv_gate.specs.declared.bit.Bit.{Bit}
use Rattle.prv_gate.specs.declared.bit.Bit.TheVariants.{False, True}
use Rattle.prv_gate.proofs.Composing.{gives-value, bit-more}
use Rattle.prv_gate.proofs.Steps.{IsBit-negate, bit_value-negate}
use Rattle.prv_gate.proofs.Laws.{and_gate-gives}
use Rattle.prv_bits.specs.Gates.{mux}
use Rattle.prv_bits.specs.Places.{low, high}
use Rattle.prv_bits.specs.Numbers.{pairwise, any}
use Rattle.prv_bits.specs.Sums.{carry, add}
use Rattle.prv_bits.specs.Quotients.{fits, reduce}
use Rattle.prv_bits.proofs.PlaceLaws.{length-low, length-high, map-low}
use Rattle.prv_arith.specs.declared.pairs.PairGate.TheVariants.{Mux}
use Rattle.prv_arith.specs.Lists.{AllBits, values, opposites, AreCarried, carried_values}
use Rattle.prv_arith.specs.Pairs.{or_gate, paired, some}
use Rattle.prv_arith.specs.Sums.{summed}
use Rattle.prv_arith.specs.Quotients.{fitting, divided_step}
use Rattle.prv_arith.proofs.ListLaws.{bits-more, bits-low, bits-high, bits-opposites, values-opposites, values-high, values-low}
use Rattle.prv_arith.proofs.Joining.{gives-then, gives-with}
use Rattle.prv_arith.proofs.GateLaws.{or-gives}
use Rattle.prv_arith.proofs.PairLaws.{paired-gives, some-gives, length-paired}
use Rattle.prv_arith.proofs.SumLaws.{summed-gives, length-summed}

pub fitting-gives : (d r : List Bit) (carry : Bit) (s : Circuit) → IsCircuit s → AllBits s.formula.vars d → AllBits s.formula.vars r → IsBit s.formula.vars carry →
    s.formula.vars + (3 * (length r - length d) + 3 * (length d - length r) + 6) ≤ MAX_VARS →
    Gives IsBit bit_value (3 * (length r - length d) + 3 * (length d - length r) + 6) s (fitting d r carry s)
    (λ v. any (values v (high (length d) r)) || (not (any (values v (high (length r) d))) && bit_value v carry))
unfolding fitting
fitting-gives d r carry s h hd hr hc room =
    let n = s.formula.vars in
    let lr = length-high (length d) r in
    let ld = length-high (length r) d in
    let one = some False (high (length d) r) s in
    let first = some-gives False (high (length d) r) s h tt (bits-high n (length d) r hr) (omega (arith, room, lr)) in
    let t = one.circuit in
    let two = some False (high (length r) d) t in
    let second =
    some-gives False (high (length r) d) t first.grows.circuit tt (bits-high t.formula.vars (length r) d (bits-more n t.formula.vars d first.grows.vars_kept hd))
    (omega (arith, room, lr, ld, first.grows.vars_cost)) in
    let u = two.circuit in
    let m = u.formula.vars in
    let kept : n ≤ m = omega (arith, first.grows.vars_kept, second.grows.vars_kept) in
    let three = and_gate (negate_bit two.out) carry u in
    let third =
    gives-value IsBit bit_value 3 u three _ (λ v. not (bit_value v two.out) && bit_value v carry)
    (λ v model. ap (λ (b : Bool). b && bit_value v carry) (bit_value-negate m v two.out second.inside))
    (and_gate-gives (negate_bit two.out) carry u second.grows.circuit (IsBit-negate m two.out second.inside) (bit-more n m carry kept hc)
    (omega (arith, room, lr, ld, first.grows.vars_cost, second.grows.vars_cost))) in
    let w = three.circuit in
    let fourth =
    or-gives one.out three.out w third.grows.circuit
    (bit-more t.formula.vars w.formula.vars one.out (omega (arith, second.grows.vars_kept, third.grows.vars_kept)) first.inside) third.inside
    (omega (arith, room, lr, ld, first.grows.vars_cost, second.grows.vars_cost, third.grows.vars_cost)) in
    let inner =
    gives-then IsBit bit_value IsBit bit_value 3 3 6 u three (λ within z. or_gate one.out within z)
    (λ v. not (bit_value v two.out) && bit_value v carry) (λ v x. bit_value v one.out || x) (omega arith) third fourth in
    let middle =
    gives-then IsBit bit_value IsBit bit_value (3 * length (high (length r) d)) 6 (3 * (length d - length r) + 6) t two
    (λ above z. and_then (and_gate (negate_bit above) carry z) (λ within y. or_gate one.out within y))
    (λ v. any (values v (high (length r) d))) (λ v x. bit_value v one.out || (not x && bit_value v carry)) (omega (arith, ld)) second inner in
    gives-then IsBit bit_value IsBit bit_value (3 * length (high (length d) r)) (3 * (length d - length r) + 6) (3 * (length r - length d) + 3 * (length d - length r) + 6) s one
    (λ over z. and_then (some False (high (length r) d) z) (λ above y. and_then (and_gate (negate_bit above) carry y) (λ within x. or_gate over within x)))
    (λ v. any (values v (high (length d) r))) (λ v x. x || (not (any (values v (high (length r) d))) && bit_value v carry)) (omega (arith, lr)) first middle

-- whether a difference is taken, from the bits above, those below and the difference, and what is left
abbrev taken : Bool → Bool → Bool → Bool
taken over above c = over || (not above && c)

abbrev step_of : List Bool → List Bool → List Bool → List Bool → Bool × List Bool
step_of over above r d =
    (taken (any over) (any above) (carry true r d), pairwise (mux (taken (any over) (any above) (carry true r d))) (add true r d) r)

step-same : (a a' b b' c c' e e' : List Bool) → a ≡ a' → b ≡ b' → c ≡ c' → e ≡ e' → step_of a b c e ≡ step_of a' b' c' e'
step-same a a' b b' c c' e e' p q r s =
    ap₂ (λ (x y : List Bool). step_of x y c e) p q ∙ ap₂ (λ (x y : List Bool). step_of a' b' x y) r s

length-opposites : (d : List Bit) → length (opposites d) ≡ length d
length-opposites d = length-map d negate_bit

module _ (d r : List Bit) (s : Circuit) where
  -- the places of the difference
  pub length-both : length (low (length d) r) ≡ length (low (length r) (opposites d))
  length-both = length-low (length d) r ∙ sym (length-low (length r) (opposites d) ∙ omega (arith, length-opposites d))

  pub length-divided_step : length (divided_step d r s).out.1 ≡ min (length d) (length r)
  unfolding divided_step
  length-divided_step =
      let one = summed True (low (length d) r) (low (length r) (opposites d)) s in
      let l = length-summed True (low (length d) r) (low (length r) (opposites d)) s length-both in
      let two = fitting d r one.out.0 one.circuit in
      length-paired (Mux two.out) one.out.1 (low (length d) r) two.circuit l ∙ l ∙ length-low (length d) r

  module _ (h : IsCircuit s) (hd : AllBits s.formula.vars d) (hr : AllBits s.formula.vars r) (short : length r ≤ length d + 1) (room : s.formula.vars + (18 * length d + 9) ≤ MAX_VARS) where
    pub divided_step-gives : Gives AreCarried carried_values (18 * length d + 9) s (divided_step d r s) (λ v. (fits (values v d) (values v r), reduce (values v d) (values v r)))
    unfolding divided_step
    divided_step-gives =
        let n = s.formula.vars in
        let rl = low (length d) r in
        let dl = low (length r) (opposites d) in
        let l = length-low (length d) r in
        let one = summed True rl dl s in
        let first =
        summed-gives True rl dl s tt
        (record { circuit = h; first = bits-low n (length d) r hr; second = bits-low n (length r) (opposites d) (bits-opposites n d hd); room = omega (arith, room, l) }) in
        let lo = length-summed True rl dl s length-both in
        let t = one.circuit in
        let m = t.formula.vars in
        let two = fitting d r one.out.0 t in
        let second =
        fitting-gives d r one.out.0 t first.grows.circuit (bits-more n m d first.grows.vars_kept hd) (bits-more n m r first.grows.vars_kept hr) first.inside.0
        (omega (arith, room, l, first.grows.vars_cost)) in
        let u = two.circuit in
        let k = u.formula.vars in
        let kept : n ≤ k = omega (arith, first.grows.vars_kept, second.grows.vars_kept) in
        let three = paired (Mux two.out) one.out.1 rl u in
        let third =
        paired-gives (Mux two.out) one.out.1 rl u second.inside
        (record {
          circuit = second.grows.circuit;
          first = bits-more m k one.out.1 second.grows.vars_kept first.inside.1;
          second = bits-more n k rl kept (bits-low n (length d) r hr);
          room = omega (arith, room, l, lo, first.grows.vars_cost, second.grows.vars_cost);
        }) in
        let inner =
        gives-with AllBits values AreCarried carried_values (4 * length one.out.1) u three (λ rest. (two.out, rest))
        (λ v. pairwise (mux (bit_value v two.out)) (values v one.out.1) (values v rl)) (λ v x. (bit_value v two.out, x))
        (λ inside. (bit-more k three.circuit.formula.vars two.out third.grows.vars_kept second.inside, inside))
        (λ v model. refl) third in
        let c = 3 * (length r - length d) + 3 * (length d - length r) + 6 in
        let middle =
        gives-then IsBit bit_value AreCarried carried_values c (4 * length one.out.1) (c + 4 * length one.out.1) t two
        (λ f z. and_then (paired (Mux f) one.out.1 rl z) (λ rest y. give (f, rest) y))
        (λ v. any (values v (high (length d) r)) || (not (any (values v (high (length r) d))) && bit_value v one.out.0))
        (λ v f. (f, pairwise (mux f) (values v one.out.1) (values v rl))) (omega arith) second inner in
        gives-value AreCarried carried_values (18 * length d + 9) s _ (λ v. step_of (values v (high (length d) r)) (values v (high (length r) d)) (values v rl) (values v dl)) _
        (λ v model.
        step-same _ _ _ _ _ _ _ _ (values-high v d r) (values-high v r d) (values-low v d r)
        (map-low (bit_value v) (length r) (opposites d)
        ∙ ap₂ (λ (i : ℕ) (x : List Bool). low i x) (sym (length-map r (bit_value v))) (values-opposites v n d hd)
        ∙ sym (map-low not (length (values v r)) (values v d))))
        (gives-then AreCarried carried_values AreCarried carried_values (14 * length rl) (c + 4 * length one.out.1) (18 * length d + 9) s one
        (λ difference z. and_then (fitting d r difference.0 z) (λ f y. and_then (paired (Mux f) difference.1 rl y) (λ rest x. give (f, rest) x)))
        (λ v. (carry true (values v rl) (values v dl), add true (values v rl) (values v dl)))
        (λ v p. (taken (any (values v (high (length d) r))) (any (values v (high (length r) d))) p.0, pairwise (mux (taken (any (values v (high (length d) r))) (any (values v (high (length r) d))) p.0)) p.1 (values v rl)))
        (omega (arith, l, lo, short)) first middle)
