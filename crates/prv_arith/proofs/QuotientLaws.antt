-- What the quotients and remainders of words give.
use Rattle.std.proofs.Common.{◌≡◌, ℕ, zero, suc, ◌+◌, ◌*◌, ◌/◌, ◌%◌, ◌<◌, ◌≤◌, Bool, true, false, not, ◌&&◌, List, [], length, drop, replicate, ℤ, pos, negsuc, refl, sym, ap, ap₂, ◌∙◌, arith, length-drop, nat_abs}
use Rattle.std.proofs.Math.Nat.{mul-le-mul}
use Rattle.std.proofs.lemmas.List.{length-map, length-replicate}
use Rattle.prv_cnf.specs.declared.formula.TheConstants.{MAX_VARS}
use Rattle.prv_cnf.specs.Models.{IsModel}
use Rattle.prv_model.specs.Words.{is_zero}
use Rattle.prv_gate.specs.Bits.{IsBit, bit_value}
use Rattle.prv_gate.specs.Circuits.{Circuit, Run, and_then, IsCircuit}
use Rattle.prv_gate.specs.Folding.{xor_gate}
use Rattle.prv_gate.specs.Growth.{Grows, Gives}
use Rattle.prv_gate.specs.declared.bit.Bit.{Bit}
use Rattle.prv_gate.specs.declared.bit.Bit.TheVariants.{False}
use Rattle.prv_gate.proofs.Composing.{grows-then, grows-more, bit-more, gives-value, gives-more, gives-after}
use Rattle.prv_bits.specs.Gates.{xor}
use Rattle.prv_bits.specs.Places.{padded}
use Rattle.prv_bits.specs.Numbers.{bit, number, word, gated, pairwise, any, sign}
use Rattle.prv_bits.specs.Sums.{negate_if, magnitude as magnitude_of}
use Rattle.prv_bits.specs.Quotients.{quotient, rest, divided as divided_bits, left_over, signed_quotient as quotient_of, signed_remainder as remainder_of}
use Rattle.prv_bits.proofs.PlaceLaws.{map-replicate, map-padded, length-padded}
use Rattle.prv_bits.proofs.NumberLaws.{number-same, number-gated, number-padded, length-gated}
use Rattle.prv_bits.proofs.WordLaws.{is_zero-word}
use Rattle.prv_bits.proofs.SignedLaws.{magnitude-is}
use Rattle.prv_bits.proofs.SumLaws.{length-negate_if}
use Rattle.prv_bits.proofs.DivisionLaws.{quotient-is, rest-is, divided-is, left_over-is, length-divided, length-left_over}
use Rattle.prv_arith.specs.declared.pairs.PairGate.TheVariants.{And}
use Rattle.prv_arith.specs.Lists.{AllBits, values, leading, top_bit, IsReady}
use Rattle.prv_arith.specs.Pairs.{some}
use Rattle.prv_arith.specs.Sums.{negated, magnitude}
use Rattle.prv_arith.specs.Quotients.{divided_on, divided, masked, signed_division, signed_quotient, signed_remainder}
use Rattle.prv_arith.proofs.ListLaws.{bits-more, bits-drop, bits-replicate, bits-padded, top-inside, values-top, number-leading}
use Rattle.prv_arith.proofs.Joining.{gives-then}
use Rattle.prv_arith.proofs.GateLaws.{xor-gives}
use Rattle.prv_arith.proofs.PairLaws.{paired-gives, some-gives, length-paired, pairwise-replicate}
use Rattle.prv_arith.proofs.SumLaws.{negated-gives, magnitude-gives, length-negated}
use Rattle.prv_arith.proofs.DivisionLaws.{divided_on-gives}

-- bits that are masked
module _ (c : Bit) (xs bs : List Bit) (s : Circuit) (short : length bs ≤ length xs) where
  wide : length (replicate (length xs) c) ≡ length xs
  wide = length-replicate (length xs) c

  same-width : length (replicate (length xs) c) ≡ length (padded False (length xs) bs)
  same-width = wide ∙ sym (length-padded False (length xs) bs short)

  pub length-masked : length (masked c xs bs s).out ≡ length xs
  unfolding masked
  length-masked = length-paired And (replicate (length xs) c) (padded False (length xs) bs) s same-width ∙ wide

  pub masked-gives : IsCircuit s → IsBit s.formula.vars c → AllBits s.formula.vars bs → s.formula.vars + 4 * length xs ≤ MAX_VARS →
      Gives AllBits values (4 * length xs) s (masked c xs bs s) (λ v. gated (bit_value v c) (padded false (length xs) (values v bs)))
  unfolding masked
  masked-gives h hc hbs room =
      let n = s.formula.vars in
      let k = length xs in
      gives-more AllBits values (4 * length (replicate k c)) (4 * k) s _ _ (omega (arith, wide))
      (gives-value AllBits values (4 * length (replicate k c)) s _ (λ v. pairwise (λ a b. a && b) (values v (replicate k c)) (values v (padded False k bs))) _
      (λ v model.
      ap₂ (λ (a b : List Bool). pairwise (λ x y. x && y) a b) (map-replicate (bit_value v) k c) (map-padded (bit_value v) False k bs)
      ∙ pairwise-replicate (λ x y. x && y) k (bit_value v c) (padded false k (values v bs))
      (sym (length-padded false k (values v bs) (omega (arith, length-map bs (bit_value v), short)))))
      (paired-gives And (replicate k c) (padded False k bs) s tt
      (record { circuit = h; first = bits-replicate n k c hc; second = bits-padded n k bs hbs; room = omega (arith, room, wide) })))

-- a number that is wanted only where it isn't masked
only : (c : Bool) (a b : ℕ) → (c ≡ true → a ≡ b) → bit c * a ≡ bit c * b
only true a b h = ap (λ (n : ℕ). 1 * n) (h refl)
only false a b h = omega arith

module _ (c : Bool) (A D Q : List Bool) (n : ℕ) (w : n ≡ length A) (short : length Q ≤ n) (nonzero : c ≡ true → 0 < number D) where
  width : length (gated c (padded false n Q)) ≡ length A
  width = length-gated c (padded false n Q) ∙ length-padded false n Q short ∙ w

  quotient-same : (0 < number D → number Q ≡ number A / number D) → gated c (padded false n Q) ≡ divided_bits c A D
  quotient-same is =
      number-same (gated c (padded false n Q)) (divided_bits c A D) (width ∙ sym (length-divided c A D))
      (number-gated c (padded false n Q) ∙ ap (λ (i : ℕ). bit c * i) (number-padded n Q)
      ∙ only c (number Q) (number A / number D) (λ e. is (nonzero e)) ∙ sym (divided-is c A D nonzero))

  rest-same : (0 < number D → number Q ≡ number A % number D) → gated c (padded false n Q) ≡ left_over c A D
  rest-same is =
      number-same (gated c (padded false n Q)) (left_over c A D) (width ∙ sym (length-left_over c A D))
      (number-gated c (padded false n Q) ∙ ap (λ (i : ℕ). bit c * i) (number-padded n Q)
      ∙ only c (number Q) (number A % number D) (λ e. is (nonzero e)) ∙ sym (left_over-is c A D nonzero))

-- the magnitude of a word that isn't 0
positive : (z : ℤ) {n : ℕ} → is_zero z ≡ false → n ≡ nat_abs z → 0 < n
positive (pos zero) e h = cc
positive (pos (suc n)) e h = omega arith
positive (negsuc n) e h = omega arith

nonzero-magnitude : (ys : List Bool) → length ys ≡ 32 → any ys ≡ true → 0 < number (magnitude_of ys)
nonzero-magnitude ys k e = positive (word ys) (is_zero-word ys k ∙ ap not e) (magnitude-is ys k)

-- the most that a division of magnitudes adds
abbrev pub division_cost : ℕ → ℕ → ℕ
division_cost n m = 3 * m + 18 * n + 18 * m + n * (18 * m + 9)

-- what a division of magnitudes does
pub record IsDivision (xs ys : List Bit) (s : Circuit) (run : Run (Bit × List Bit × List Bit)) : Type 0 where
  pub grows : Grows (division_cost (length xs) (length ys)) s run.circuit
  pub nonzero : IsBit run.circuit.formula.vars run.out.0
  pub quotient : AllBits run.circuit.formula.vars run.out.1
  pub rest : AllBits run.circuit.formula.vars run.out.2
  pub quotient_length : length run.out.1 ≤ length xs
  pub rest_length : length run.out.2 ≤ length ys
  pub test : (v : ℕ → Bool) → IsModel v run.circuit.formula → bit_value v run.out.0 ≡ any (values v ys)
  pub whole : (v : ℕ → Bool) → IsModel v run.circuit.formula → 0 < number (magnitude_of (values v ys)) →
      (number (values v run.out.1) ≡ number (magnitude_of (values v xs)) / number (magnitude_of (values v ys)))
      × (number (values v run.out.2) ≡ number (magnitude_of (values v xs)) % number (magnitude_of (values v ys)))

divided-number : (D X : List Bool) (a b : ℕ) → number D ≡ b → number X ≡ a → 0 < number D → number (quotient D [] X) ≡ a / b
divided-number D X a b e f h = quotient-is D [] X h ∙ ap₂ (λ (m n : ℕ). m / n) (omega (arith, f)) e

left-number : (D X : List Bool) (a b : ℕ) → number D ≡ b → number X ≡ a → 0 < number D → number (rest D [] X) ≡ a % b
left-number D X a b e f h = rest-is D [] X h ∙ ap₂ (λ (m n : ℕ). m % n) (omega (arith, f)) e

module _ (xs ys : List Bit) (s : Circuit) (h : IsReady (division_cost (length xs) (length ys)) s xs ys) where
  pub is-division : IsDivision xs ys s (signed_division xs ys s)
  unfolding signed_division divided
  is-division =
      let n = s.formula.vars in
      let one = some False ys s in
      let first = some-gives False ys s h.circuit tt h.second (omega (arith, h.room)) in
      let t = one.circuit in
      let two = magnitude xs t in
      let second = magnitude-gives xs t first.grows.circuit (bits-more n t.formula.vars xs first.grows.vars_kept h.first) (omega (arith, h.room, first.grows.vars_cost)) in
      let u = two.circuit in
      let three = magnitude ys u in
      let third =
      magnitude-gives ys u second.grows.circuit (bits-more n u.formula.vars ys (omega (arith, first.grows.vars_kept, second.grows.vars_kept)) h.second)
      (omega (arith, h.room, first.grows.vars_cost, second.grows.vars_cost)) in
      let w = three.circuit in
      let m = w.formula.vars in
      let j = leading w.known three.out in
      let k = leading w.known two.out in
      let d = drop j three.out in
      let x = drop k two.out in
      let ld : length d ≤ length ys = omega (arith, length-drop j three.out, length-negated (top_bit ys) ys u) in
      let lx : length x ≤ length xs = omega (arith, length-drop k two.out, length-negated (top_bit xs) xs t) in
      let per : 18 * length d + 9 ≤ 18 * length ys + 9 = omega arith in
      let less : length x * (18 * length d + 9) ≤ length xs * (18 * length ys + 9) = mul-le-mul lx per in
      let fourth =
      divided_on-gives d [] [] x w third.grows.circuit (bits-drop m j three.out third.inside) tt tt
      (bits-drop m k two.out (bits-more u.formula.vars m two.out third.grows.vars_kept second.inside)) (omega arith)
      (omega (arith, h.room, first.grows.vars_cost, second.grows.vars_cost, third.grows.vars_cost, less)) in
      let both = divided_on d [] [] x w in
      let z = both.circuit in
      record {
        grows =
            grows-more (3 * length ys + (18 * length xs + (18 * length ys + length x * (18 * length d + 9)))) (division_cost (length xs) (length ys)) s z (omega (arith, less))
            (grows-then (3 * length ys) (18 * length xs + (18 * length ys + length x * (18 * length d + 9))) s t z first.grows
            (grows-then (18 * length xs) (18 * length ys + length x * (18 * length d + 9)) t u z second.grows
            (grows-then (18 * length ys) (length x * (18 * length d + 9)) u w z third.grows fourth.grows)));
        nonzero = bit-more t.formula.vars z.formula.vars one.out (omega (arith, second.grows.vars_kept, third.grows.vars_kept, fourth.grows.vars_kept)) first.inside;
        quotient = fourth.inside.0;
        rest = fourth.inside.1;
        quotient_length = omega (arith, fourth.quotient_length, lx);
        rest_length = omega (arith, fourth.rest_length, ld);
        test = λ v model. first.value v (second.grows.restricts v (third.grows.restricts v (fourth.grows.restricts v model)));
        whole = λ v model positive.
            let model' = fourth.grows.restricts v model in
            let divisor : number (values v d) ≡ number (magnitude_of (values v ys)) =
            number-leading w third.grows.circuit v model' three.out third.inside ∙ ap number (third.value v model') in
            let dividend : number (values v x) ≡ number (magnitude_of (values v xs)) =
            number-leading w third.grows.circuit v model' two.out (bits-more u.formula.vars m two.out third.grows.vars_kept second.inside) ∙ ap number (second.value v (third.grows.restricts v model')) in
            let more : 0 < number (values v d) = omega (arith, divisor, positive) in
            let ends = fourth.value v model more in (
              ap number ends.0 ∙ divided-number (values v d) (values v x) _ _ divisor dividend more,
              ends.1 ∙ left-number (values v d) (values v x) _ _ divisor dividend more,
            );
      }

-- the most that a quotient or a remainder adds
abbrev pub quotient_cost : ℕ → ℕ
quotient_cost n = division_cost n n + (4 * n + (4 + 18 * n))

module _ (xs ys : List Bit) (s : Circuit) (wx : length xs ≡ 32) (wy : length ys ≡ 32) (h : IsReady (quotient_cost (length xs)) s xs ys) where
  same-length : length ys ≡ length xs
  same-length = wy ∙ sym wx

  dividing : IsDivision xs ys s (signed_division xs ys s)
  dividing = is-division xs ys s (record { circuit = h.circuit; first = h.first; second = h.second; room = omega (arith, h.room, ap (λ (n : ℕ). division_cost (length xs) n) same-length) })

  division-grows : Grows (division_cost (length xs) (length xs)) s (signed_division xs ys s).circuit
  division-grows = grows-more _ _ s _ (omega (arith, ap (λ (n : ℕ). division_cost (length xs) n) same-length)) dividing.grows

  nonzero : (v : ℕ → Bool) → any (values v ys) ≡ true → 0 < number (magnitude_of (values v ys))
  nonzero v = nonzero-magnitude (values v ys) (length-map ys (bit_value v) ∙ wy)

  magnitude-width : (v : ℕ → Bool) → length xs ≡ length (magnitude_of (values v xs))
  magnitude-width v = sym (length-negate_if (sign (values v xs)) (values v xs) ∙ length-map xs (bit_value v))

  -- the quotient, before its sign is put on
  raw_quotient-gives : let division = signed_division xs ys s in
      Gives AllBits values (4 * length xs) division.circuit (masked division.out.0 xs division.out.1 division.circuit)
      (λ v. divided_bits (any (values v ys)) (magnitude_of (values v xs)) (magnitude_of (values v ys)))
  raw_quotient-gives =
      let division = signed_division xs ys s in
      gives-value AllBits values (4 * length xs) division.circuit _ (λ v. gated (bit_value v division.out.0) (padded false (length xs) (values v division.out.1))) _
      (λ v model.
      ap (λ (c : Bool). gated c (padded false (length xs) (values v division.out.1))) (dividing.test v model)
      ∙ quotient-same (any (values v ys)) (magnitude_of (values v xs)) (magnitude_of (values v ys)) (values v division.out.1) (length xs) (magnitude-width v)
      (omega (arith, length-map division.out.1 (bit_value v), dividing.quotient_length)) (nonzero v) (λ p. (dividing.whole v model p).0))
      (masked-gives division.out.0 xs division.out.1 division.circuit dividing.quotient_length dividing.grows.circuit dividing.nonzero dividing.quotient
      (omega (arith, h.room, division-grows.vars_cost)))

  raw_rest-gives : let division = signed_division xs ys s in
      Gives AllBits values (4 * length xs) division.circuit (masked division.out.0 xs division.out.2 division.circuit)
      (λ v. left_over (any (values v ys)) (magnitude_of (values v xs)) (magnitude_of (values v ys)))
  raw_rest-gives =
      let division = signed_division xs ys s in
      let short : length division.out.2 ≤ length xs = omega (arith, dividing.rest_length, same-length) in
      gives-value AllBits values (4 * length xs) division.circuit _ (λ v. gated (bit_value v division.out.0) (padded false (length xs) (values v division.out.2))) _
      (λ v model.
      ap (λ (c : Bool). gated c (padded false (length xs) (values v division.out.2))) (dividing.test v model)
      ∙ rest-same (any (values v ys)) (magnitude_of (values v xs)) (magnitude_of (values v ys)) (values v division.out.2) (length xs) (magnitude-width v)
      (omega (arith, length-map division.out.2 (bit_value v), short)) (nonzero v) (λ p. (dividing.whole v model p).1))
      (masked-gives division.out.0 xs division.out.2 division.circuit short dividing.grows.circuit dividing.nonzero dividing.rest
      (omega (arith, h.room, division-grows.vars_cost)))

  pub signed_quotient-gives : Gives AllBits values (quotient_cost (length xs)) s (signed_quotient xs ys s) (λ v. quotient_of (values v xs) (values v ys))
  unfolding signed_quotient
  signed_quotient-gives =
      let n = s.formula.vars in
      let k = length xs in
      let division = signed_division xs ys s in
      let t = division.circuit in
      let raw = masked division.out.0 xs division.out.1 t in
      let lr = length-masked division.out.0 xs division.out.1 t dividing.quotient_length in
      let first = raw_quotient-gives in
      let u = raw.circuit in
      let m = u.formula.vars in
      let more : n ≤ m = omega (arith, division-grows.vars_kept, first.grows.vars_kept) in
      let one = xor_gate (top_bit xs) (top_bit ys) u in
      let second =
      xor-gives (top_bit xs) (top_bit ys) u first.grows.circuit (bit-more n m (top_bit xs) more (top-inside n xs h.first)) (bit-more n m (top_bit ys) more (top-inside n ys h.second))
      (omega (arith, h.room, division-grows.vars_cost, first.grows.vars_cost)) in
      let third =
      negated-gives one.out raw.out one.circuit second.grows.circuit second.inside (bits-more m one.circuit.formula.vars raw.out second.grows.vars_kept first.inside)
      (omega (arith, h.room, division-grows.vars_cost, first.grows.vars_cost, second.grows.vars_cost, lr)) in
      let inner =
      gives-then IsBit bit_value AllBits values 4 (18 * length raw.out) (4 + 18 * k) u one (λ sign w. negated sign raw.out w)
      (λ v. xor (bit_value v (top_bit xs)) (bit_value v (top_bit ys))) (λ v c. negate_if c (values v raw.out)) (omega (arith, lr)) second third in
      let next =
      gives-then AllBits values AllBits values (4 * k) (4 + 18 * k) (4 * k + (4 + 18 * k)) t raw
      (λ bits w. and_then (xor_gate (top_bit xs) (top_bit ys) w) (λ sign z. negated sign bits z))
      (λ v. divided_bits (any (values v ys)) (magnitude_of (values v xs)) (magnitude_of (values v ys)))
      (λ v bits. negate_if (xor (bit_value v (top_bit xs)) (bit_value v (top_bit ys))) bits) (omega arith) first inner in
      gives-value AllBits values (quotient_cost k) s _ _ _
      (λ v model.
      ap₂ (λ (a b : Bool). negate_if (xor a b) (divided_bits (any (values v ys)) (magnitude_of (values v xs)) (magnitude_of (values v ys))))
      (values-top v xs) (values-top v ys))
      (gives-after AllBits values (division_cost k k) (4 * k + (4 + 18 * k)) s t _ _ division-grows next)

  pub signed_remainder-gives : Gives AllBits values (quotient_cost (length xs)) s (signed_remainder xs ys s) (λ v. remainder_of (values v xs) (values v ys))
  unfolding signed_remainder
  signed_remainder-gives =
      let n = s.formula.vars in
      let k = length xs in
      let division = signed_division xs ys s in
      let t = division.circuit in
      let raw = masked division.out.0 xs division.out.2 t in
      let short : length division.out.2 ≤ length xs = omega (arith, dividing.rest_length, same-length) in
      let lr = length-masked division.out.0 xs division.out.2 t short in
      let first = raw_rest-gives in
      let u = raw.circuit in
      let m = u.formula.vars in
      let more : n ≤ m = omega (arith, division-grows.vars_kept, first.grows.vars_kept) in
      let second =
      negated-gives (top_bit xs) raw.out u first.grows.circuit (bit-more n m (top_bit xs) more (top-inside n xs h.first)) first.inside
      (omega (arith, h.room, division-grows.vars_cost, first.grows.vars_cost, lr)) in
      let next =
      gives-then AllBits values AllBits values (4 * k) (18 * length raw.out) (4 * k + (4 + 18 * k)) t raw (λ bits w. negated (top_bit xs) bits w)
      (λ v. left_over (any (values v ys)) (magnitude_of (values v xs)) (magnitude_of (values v ys)))
      (λ v bits. negate_if (bit_value v (top_bit xs)) bits) (omega (arith, lr)) first second in
      gives-value AllBits values (quotient_cost k) s _ _ _
      (λ v model.
      ap (λ (a : Bool). negate_if a (left_over (any (values v ys)) (magnitude_of (values v xs)) (magnitude_of (values v ys)))) (values-top v xs))
      (gives-after AllBits values (division_cost k k) (4 * k + (4 + 18 * k)) s t _ _ division-grows next)

  pub length-signed_quotient : length (signed_quotient xs ys s).out ≡ length xs
  unfolding signed_quotient
  length-signed_quotient =
      let division = signed_division xs ys s in
      let raw = masked division.out.0 xs division.out.1 division.circuit in
      let one = xor_gate (top_bit xs) (top_bit ys) raw.circuit in
      length-negated one.out raw.out one.circuit ∙ length-masked division.out.0 xs division.out.1 division.circuit dividing.quotient_length

  pub length-signed_remainder : length (signed_remainder xs ys s).out ≡ length xs
  unfolding signed_remainder
  length-signed_remainder =
      let division = signed_division xs ys s in
      let raw = masked division.out.0 xs division.out.2 division.circuit in
      length-negated (top_bit xs) raw.out raw.circuit ∙ length-masked division.out.0 xs division.out.2 division.circuit (omega (arith, dividing.rest_length, same-length))
