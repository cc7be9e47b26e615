-- What the circuit of each operator gives, in bits and in words.
use Rattle.std.proofs.Common.{◌≡◌, ℕ, ◌-◌, ◌*◌, ◌<◌, ◌≤◌, min, Bool, true, not, List, [], ◌∷◌, length, replicate, refl, sym, ap, ap₂, ◌∙◌, arith, length-append, if◌then◌else◌}
use Rattle.std.proofs.lemmas.List.{length-map, length-replicate}
use Rattle.prv_model.specs.Words.{is_zero}
use Rattle.prv_model.specs.Terms.{total}
use Rattle.prv_model.specs.declared.op.TermOp.{TermOp}
use Rattle.prv_model.specs.declared.op.TermOp.TheVariants.{Add, Sub, Mul, Div, Rem, Shl, Shr, And, Or, Xor, Lt, Le, Eq, Ne}
use Rattle.prv_gate.specs.Bits.{IsBit, bit_value, negate_bit}
use Rattle.prv_gate.specs.Circuits.{Circuit, Run, opposite}
use Rattle.prv_gate.specs.Growth.{Gives}
use Rattle.prv_gate.specs.declared.bit.Bit.{Bit}
use Rattle.prv_gate.specs.declared.bit.Bit.TheVariants.{False, True}
use Rattle.prv_gate.proofs.Composing.{gives-value, gives-more}
use Rattle.prv_gate.proofs.Steps.{IsBit-negate, bit_value-negate}
use Rattle.prv_bits.specs.Gates.{mux}
use Rattle.prv_bits.specs.Places.{low}
use Rattle.prv_bits.specs.Numbers.{word, pairwise, any}
use Rattle.prv_bits.specs.Sums.{add}
use Rattle.prv_bits.specs.Orders.{signed_below, differ, flag_bits}
use Rattle.prv_bits.specs.Shifts.{shift_up, shift_down}
use Rattle.prv_bits.specs.Operators.{operate}
use Rattle.prv_bits.proofs.PlaceLaws.{map-low, length-low}
use Rattle.prv_bits.proofs.OperatorLaws.{word-operate, word-pick}
use Rattle.prv_arith.specs.declared.pairs.PairGate.TheVariants as p
use Rattle.prv_arith.specs.Lists.{AllBits, values, opposites, top_bit, IsReady}
use Rattle.prv_arith.specs.Pairs.{paired, some}
use Rattle.prv_arith.specs.Orders.{flag}
use Rattle.prv_arith.specs.Costs.{op_cost, pick_cost}
use Rattle.prv_arith.specs.Words.{word_value, flag_word, op_bits, pick_bits}
use Rattle.prv_arith.proofs.ListLaws.{bits-more, bits-low, bits-opposites, top-inside, values-opposites, values-top}
use Rattle.prv_arith.proofs.Joining.{gives-then, gives-with}
use Rattle.prv_arith.proofs.PairLaws.{paired-gives, some-gives, length-paired}
use Rattle.prv_arith.proofs.SumLaws.{added-gives, length-added}
use Rattle.prv_arith.proofs.OrderLaws.{signed_less-gives, unlike-gives, values-flag, flag-inside}
use Rattle.prv_arith.proofs.ProductLaws.{rows_cost, times-gives, length-times}
use Rattle.prv_arith.proofs.ShiftLaws.{shifted_up-gives, shifted_down-gives, length-shifted_up, length-shifted_down}
use Rattle.prv_arith.proofs.QuotientLaws.{quotient_cost, signed_quotient-gives, signed_remainder-gives, length-signed_quotient, length-signed_remainder}

pub ready-less : (c d : ℕ) (xs ys : List Bit) (s : Circuit) → d ≤ c → IsReady c s xs ys → IsReady d s xs ys
ready-less c d xs ys s le h = record { circuit = h.circuit; first = h.first; second = h.second; room = omega (arith, h.room) }

-- the opposite of a bit that a run gives
opposite-gives : (c : ℕ) (s : Circuit) (r : Run Bit) (f : (ℕ → Bool) → Bool) → Gives IsBit bit_value c s r f → Gives IsBit bit_value c s (opposite r) (λ v. not (f v))
opposite-gives c s r f h =
    gives-with IsBit bit_value IsBit bit_value c s r negate_bit f (λ v b. not b)
    (λ inside. IsBit-negate r.circuit.formula.vars r.out inside)
    (λ v model. bit_value-negate r.circuit.formula.vars v r.out h.inside) h

-- a word that is the bit of a run
flag-gives : (c n : ℕ) (s : Circuit) (r : Run Bit) (f : (ℕ → Bool) → Bool) → Gives IsBit bit_value c s r f → Gives AllBits values c s (flag_word n r) (λ v. flag_bits n (f v))
flag-gives c n s r f h =
    gives-with IsBit bit_value AllBits values c s r (flag n) f (λ v b. flag_bits n b)
    (λ inside. flag-inside r.circuit.formula.vars n r.out inside)
    (λ v model. values-flag v n r.out) h

length-flag : (n : ℕ) (b : Bit) → 0 < n → length (flag n b) ≡ n
length-flag n b h = length-append (replicate (n - 1) False) (b ∷ []) ∙ omega (arith, length-replicate (n - 1) False)

abbrev InBits : TermOp → Type 0
InBits op = (xs ys : List Bit) (s : Circuit) → length xs ≡ 32 → length ys ≡ 32 → IsReady (op_cost op) s xs ys →
    Gives AllBits values (op_cost op) s (op_bits op xs ys s) (λ v. operate op (values v xs) (values v ys))

add-bits : InBits Add
unfolding op_bits
add-bits xs ys s wx wy h = gives-more AllBits values (14 * length xs) 500 s _ _ (omega arith) (added-gives False xs ys s tt (ready-less 500 (14 * length xs) xs ys s (omega arith) h))

sub-bits : InBits Sub
unfolding op_bits
sub-bits xs ys s wx wy h =
    gives-value AllBits values 500 s _ (λ v. add true (values v xs) (values v (opposites ys))) _
    (λ v model. ap (add true (values v xs)) (values-opposites v s.formula.vars ys h.second))
    (gives-more AllBits values (14 * length xs) 500 s _ _ (omega arith)
    (added-gives True xs (opposites ys) s tt
    (record { circuit = h.circuit; first = h.first; second = bits-opposites s.formula.vars ys h.second; room = omega (arith, h.room) })))

mul-bits : InBits Mul
unfolding op_bits
mul-bits xs ys s wx wy h =
    let cost : rows_cost (length xs) (length ys) ≡ 9504 = ap₂ rows_cost wx wy in
    gives-more AllBits values (rows_cost (length xs) (length ys)) 10000 s _ _ (omega arith)
    (times-gives xs ys s (omega arith) (ready-less 10000 (rows_cost (length xs) (length ys)) xs ys s (omega arith) h))

div-bits : InBits Div
unfolding op_bits
div-bits xs ys s wx wy h =
    let cost : quotient_cost (length xs) ≤ 24000 = omega (arith, ap quotient_cost wx) in
    gives-more AllBits values (quotient_cost (length xs)) 24000 s _ _ cost
    (signed_quotient-gives xs ys s wx wy (ready-less 24000 (quotient_cost (length xs)) xs ys s cost h))

rem-bits : InBits Rem
unfolding op_bits
rem-bits xs ys s wx wy h =
    let cost : quotient_cost (length xs) ≤ 24000 = omega (arith, ap quotient_cost wx) in
    gives-more AllBits values (quotient_cost (length xs)) 24000 s _ _ cost
    (signed_remainder-gives xs ys s wx wy (ready-less 24000 (quotient_cost (length xs)) xs ys s cost h))

-- the stages of a shift by the lowest k bits
stages : (k : ℕ) (xs ys : List Bit) → k ≡ 5 → length xs ≡ 32 → length ys ≡ 32 → 4 * (length (low k ys) * length xs) ≡ 640
stages k xs ys e wx wy = ap₂ (λ (m n : ℕ). 4 * (m * n)) (length-low k ys ∙ ap₂ min e wy) wx

shl-bits : InBits Shl
unfolding op_bits
shl-bits xs ys s wx wy h =
    let cost = stages 5 xs ys refl wx wy in
    gives-value AllBits values 700 s _ (λ v. shift_up (values v (low 5 ys)) (values v xs)) _
    (λ v model. ap (λ (k : List Bool). shift_up k (values v xs)) (map-low (bit_value v) 5 ys))
    (gives-more AllBits values (4 * (length (low 5 ys) * length xs)) 700 s _ _ (omega arith)
    (shifted_up-gives (low 5 ys) xs s (record { circuit = h.circuit; first = bits-low s.formula.vars 5 ys h.second; second = h.first; room = omega (arith, h.room) })))

shr-bits : InBits Shr
unfolding op_bits
shr-bits xs ys s wx wy h =
    let cost = stages 5 xs ys refl wx wy in
    gives-value AllBits values 700 s _ (λ v. shift_down (bit_value v (top_bit xs)) (values v (low 5 ys)) (values v xs)) _
    (λ v model. ap₂ (λ (b : Bool) (k : List Bool). shift_down b k (values v xs)) (values-top v xs) (map-low (bit_value v) 5 ys))
    (gives-more AllBits values (4 * (length (low 5 ys) * length xs)) 700 s _ _ (omega arith)
    (shifted_down-gives (top_bit xs) (low 5 ys) xs s (top-inside s.formula.vars xs h.first)
    (record { circuit = h.circuit; first = bits-low s.formula.vars 5 ys h.second; second = h.first; room = omega (arith, h.room) })))

and-bits : InBits And
unfolding op_bits
and-bits xs ys s wx wy h = gives-more AllBits values (4 * length xs) 128 s _ _ (omega arith) (paired-gives p.And xs ys s tt (ready-less 128 (4 * length xs) xs ys s (omega arith) h))

or-bits : InBits Or
unfolding op_bits
or-bits xs ys s wx wy h = gives-more AllBits values (4 * length xs) 128 s _ _ (omega arith) (paired-gives p.Or xs ys s tt (ready-less 128 (4 * length xs) xs ys s (omega arith) h))

xor-bits : InBits Xor
unfolding op_bits
xor-bits xs ys s wx wy h = gives-more AllBits values (4 * length xs) 128 s _ _ (omega arith) (paired-gives p.Xor xs ys s tt (ready-less 128 (4 * length xs) xs ys s (omega arith) h))

lt-bits : InBits Lt
unfolding op_bits
lt-bits xs ys s wx wy h =
    gives-value AllBits values 500 s _ (λ v. flag_bits (length xs) (signed_below (values v xs) (values v ys))) _
    (λ v model. ap (λ (n : ℕ). flag_bits n (signed_below (values v xs) (values v ys))) (sym (length-map xs (bit_value v))))
    (flag-gives 500 (length xs) s _ _
    (gives-more IsBit bit_value (8 * length xs) 500 s _ _ (omega arith) (signed_less-gives xs ys s (ready-less 500 (8 * length xs) xs ys s (omega arith) h))))

le-bits : InBits Le
unfolding op_bits
le-bits xs ys s wx wy h =
    gives-value AllBits values 500 s _ (λ v. flag_bits (length xs) (not (signed_below (values v ys) (values v xs)))) _
    (λ v model. ap (λ (n : ℕ). flag_bits n (not (signed_below (values v ys) (values v xs)))) (sym (length-map xs (bit_value v))))
    (flag-gives 500 (length xs) s _ _
    (opposite-gives 500 s _ _
    (gives-more IsBit bit_value (8 * length ys) 500 s _ _ (omega arith)
    (signed_less-gives ys xs s (record { circuit = h.circuit; first = h.second; second = h.first; room = omega (arith, h.room) })))))

eq-bits : InBits Eq
unfolding op_bits
eq-bits xs ys s wx wy h =
    gives-value AllBits values 256 s _ (λ v. flag_bits (length xs) (not (differ (values v xs) (values v ys)))) _
    (λ v model. ap (λ (n : ℕ). flag_bits n (not (differ (values v xs) (values v ys)))) (sym (length-map xs (bit_value v))))
    (flag-gives 256 (length xs) s _ _
    (opposite-gives 256 s _ _
    (gives-more IsBit bit_value (7 * length xs) 256 s _ _ (omega arith) (unlike-gives xs ys s (wx ∙ sym wy) (ready-less 256 (7 * length xs) xs ys s (omega arith) h)))))

ne-bits : InBits Ne
unfolding op_bits
ne-bits xs ys s wx wy h =
    gives-value AllBits values 256 s _ (λ v. flag_bits (length xs) (differ (values v xs) (values v ys))) _
    (λ v model. ap (λ (n : ℕ). flag_bits n (differ (values v xs) (values v ys))) (sym (length-map xs (bit_value v))))
    (flag-gives 256 (length xs) s _ _
    (gives-more IsBit bit_value (7 * length xs) 256 s _ _ (omega arith) (unlike-gives xs ys s (wx ∙ sym wy) (ready-less 256 (7 * length xs) xs ys s (omega arith) h))))

in-bits : (op : TermOp) → InBits op
in-bits Add = add-bits
in-bits Sub = sub-bits
in-bits Mul = mul-bits
in-bits Div = div-bits
in-bits Rem = rem-bits
in-bits Shl = shl-bits
in-bits Shr = shr-bits
in-bits And = and-bits
in-bits Or = or-bits
in-bits Xor = xor-bits
in-bits Lt = lt-bits
in-bits Le = le-bits
in-bits Eq = eq-bits
in-bits Ne = ne-bits

module _ (xs ys : List Bit) (s : Circuit) (wx : length xs ≡ 32) (wy : length ys ≡ 32) where
  -- the word of an operator's bits is its total value
  pub op_bits-gives : (op : TermOp) → IsReady (op_cost op) s xs ys →
      Gives AllBits word_value (op_cost op) s (op_bits op xs ys s) (λ v. total op (word_value v xs) (word_value v ys))
  op_bits-gives op h =
      let bits = in-bits op xs ys s wx wy h in
      record {
        grows = bits.grows;
        inside = bits.inside;
        value = λ v model.
            ap word (bits.value v model)
            ∙ word-operate op (values v xs) (values v ys) (length-map xs (bit_value v) ∙ wx) (length-map ys (bit_value v) ∙ wy);
      }

  -- and there are 32 of them
  pub length-op_bits : (op : TermOp) → IsReady (op_cost op) s xs ys → length (op_bits op xs ys s).out ≡ 32
  unfolding op_bits
  length-op_bits Add h = length-added False xs ys s (wx ∙ sym wy) ∙ wx
  length-op_bits Sub h = length-added True xs (opposites ys) s (wx ∙ sym (length-map ys negate_bit ∙ wy)) ∙ wx
  length-op_bits Mul h = length-times xs ys s (omega arith) ∙ wx
  length-op_bits Div h = length-signed_quotient xs ys s wx wy (ready-less 24000 (quotient_cost (length xs)) xs ys s (omega (arith, ap quotient_cost wx)) h) ∙ wx
  length-op_bits Rem h = length-signed_remainder xs ys s wx wy (ready-less 24000 (quotient_cost (length xs)) xs ys s (omega (arith, ap quotient_cost wx)) h) ∙ wx
  length-op_bits Shl h = length-shifted_up (low 5 ys) xs s ∙ wx
  length-op_bits Shr h = length-shifted_down (top_bit xs) (low 5 ys) xs s ∙ wx
  length-op_bits And h = length-paired p.And xs ys s (wx ∙ sym wy) ∙ wx
  length-op_bits Or h = length-paired p.Or xs ys s (wx ∙ sym wy) ∙ wx
  length-op_bits Xor h = length-paired p.Xor xs ys s (wx ∙ sym wy) ∙ wx
  length-op_bits Lt h = length-flag (length xs) _ (omega arith) ∙ wx
  length-op_bits Le h = length-flag (length xs) _ (omega arith) ∙ wx
  length-op_bits Eq h = length-flag (length xs) _ (omega arith) ∙ wx
  length-op_bits Ne h = length-flag (length xs) _ (omega arith) ∙ wx

  module _ (cs : List Bit) (wc : length cs ≡ 32) where
    pub length-pick_bits : length (pick_bits cs xs ys s).out ≡ 32
    unfolding pick_bits
    length-pick_bits = let c = some False cs s in length-paired (p.Mux c.out) xs ys c.circuit (wx ∙ sym wy) ∙ wx

    -- the word of a choice's bits
    pub pick_bits-gives : AllBits s.formula.vars cs → IsReady pick_cost s xs ys →
        Gives AllBits word_value pick_cost s (pick_bits cs xs ys s) (λ v. if is_zero (word_value v cs) then word_value v ys else word_value v xs)
    unfolding pick_bits
    pick_bits-gives hc h =
        let n = s.formula.vars in
        let one = some False cs s in
        let first = some-gives False cs s h.circuit tt hc (omega (arith, h.room)) in
        let t = one.circuit in
        let second =
        paired-gives (p.Mux one.out) xs ys t first.inside
        (record { circuit = first.grows.circuit; first = bits-more n t.formula.vars xs first.grows.vars_kept h.first; second = bits-more n t.formula.vars ys first.grows.vars_kept h.second; room = omega (arith, h.room, first.grows.vars_cost) }) in
        let bits =
        gives-then IsBit bit_value AllBits values (3 * length cs) (4 * length xs) 256 s one (λ c u. paired (p.Mux c) xs ys u)
        (λ v. any (values v cs)) (λ v c. pairwise (mux c) (values v xs) (values v ys)) (omega arith) first second in
        record {
          grows = bits.grows;
          inside = bits.inside;
          value = λ v model.
              ap word (bits.value v model)
              ∙ word-pick (values v cs) (values v xs) (values v ys) (length-map cs (bit_value v) ∙ wc) (length-map xs (bit_value v) ∙ wx ∙ sym (length-map ys (bit_value v) ∙ wy));
        }

pub cost-bound : (op : TermOp) → op_cost op ≤ 24000
cost-bound Add = omega arith
cost-bound Sub = omega arith
cost-bound Mul = omega arith
cost-bound Div = omega arith
cost-bound Rem = omega arith
cost-bound Shl = omega arith
cost-bound Shr = omega arith
cost-bound And = omega arith
cost-bound Or = omega arith
cost-bound Xor = omega arith
cost-bound Lt = omega arith
cost-bound Le = omega arith
cost-bound Eq = omega arith
cost-bound Ne = omega arith
