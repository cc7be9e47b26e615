-- What loops that go from the lowest place up know at each place.
use Rattle.std.proofs.Common.{◌≡◌, ℕ, zero, suc, ◌+◌, ◌-◌, ◌*◌, ◌<◌, ◌≤◌, Bool, List, [], ◌∷◌, length, drop, get_or, refl, sym, subst, arith, length-drop, drop-cons}
use Rattle.std.proofs.Math.Nat.{mul-le-mul_left}
use Rattle.prv_cnf.specs.declared.formula.TheConstants.{MAX_VARS}
use Rattle.prv_gate.specs.Bits.{IsBit, bit_value}
use Rattle.prv_gate.specs.Circuits.{Circuit, Run, IsCircuit}
use Rattle.prv_gate.specs.Growth.{Grows, Gives}
use Rattle.prv_gate.specs.declared.bit.Bit.{Bit}
use Rattle.prv_gate.specs.declared.bit.Bit.TheVariants.{False}
use Rattle.prv_gate.proofs.Composing.{bit-more}
use Rattle.prv_arith.specs.Lists.{AllBits, values, IsReady, AreCarried, carried_values}
use Rattle.prv_arith.specs.declared.pairs.PairGate.{PairGate}
use Rattle.prv_arith.specs.Pairs.{paired, IsPairGate}
use Rattle.prv_arith.specs.Sums.{summed}
use Rattle.prv_arith.specs.Orders.{less}
use Rattle.prv_arith.proofs.ListLaws.{bits-more, bits-drop}
use Rattle.prv_arith.proofs.PairLaws.{paired-gives}
use Rattle.prv_arith.proofs.SumLaws.{summed-gives}
use Rattle.prv_arith.proofs.OrderLaws.{less-gives}

pub get-inside : (n : ℕ) (xs : List Bit) (k : ℕ) → AllBits n xs → IsBit n (get_or xs k False)
get-inside n [] k h = tt
get-inside n (x ∷ xs) zero h = h.0
get-inside n (x ∷ xs) (suc k) h = get-inside n xs k h.1

-- what a run gives, by an equal one
pub gives-along : {A B : Type 0} (In : ℕ → A → Type 0) (read : (ℕ → Bool) → A → B) (c : ℕ) (s : Circuit) (r q : Run A) (f : (ℕ → Bool) → B) → r ≡ q → Gives In read c s q f → Gives In read c s r f
gives-along In read c s r q f e h = subst (λ x. Gives In read c s x f) (sym e) h

-- how it grows and which bits it answers, by an equal one
pub along-both : {A B : Type 0} (In : ℕ → A → Type 0) (read : (ℕ → Bool) → A → B) (c : ℕ) (s : Circuit) (r q : Run A) (f : (ℕ → Bool) → B) → r ≡ q → Gives In read c s q f → Grows c s r.circuit × In r.circuit.formula.vars r.out
along-both In read c s r q f e h = let all = gives-along In read c s r q f e h in (all.grows, all.inside)

-- the bits of a place, and room for its gates
pub record IsPlace (k : ℕ) (t : Circuit) (x y : Bit) : Type 0 where
  pub circuit : IsCircuit t
  pub first : IsBit t.formula.vars x
  pub second : IsBit t.formula.vars y
  pub room : t.formula.vars + k ≤ MAX_VARS

module _ (k : ℕ) (xs ys : List Bit) (i : ℕ) (s : Circuit) (h : IsReady (k * length xs) s xs ys) where
  pub ready-drop : IsReady (k * length (drop i xs)) s (drop i xs) (drop i ys)
  ready-drop =
      let n = s.formula.vars in
      let le : length (drop i xs) ≤ length xs = omega (arith, length-drop i xs) in
      record { circuit = h.circuit; first = bits-drop n i xs h.first; second = bits-drop n i ys h.second; room = omega (arith, h.room, mul-le-mul_left k le) }

  pub place : (t : Circuit) → 0 < i → i ≤ length xs → Grows (k * length (drop i xs)) s t → IsPlace k t (get_or xs (i - 1) False) (get_or ys (i - 1) False)
  place t low high g =
      let n = s.formula.vars in
      let m = t.formula.vars in
      let le : length (drop i xs) + 1 ≤ length xs = omega (arith, length-drop i xs) in
      record {
        circuit = g.circuit;
        first = bit-more n m (get_or xs (i - 1) False) g.vars_kept (get-inside n xs (i - 1) h.first);
        second = bit-more n m (get_or ys (i - 1) False) g.vars_kept (get-inside n ys (i - 1) h.second);
        room = omega (arith, h.room, g.vars_cost, mul-le-mul_left k le);
      }

-- at the end of a loop
pub drop-none : (i : ℕ) (xs : List Bit) → i ≤ 0 → drop i xs ≡ xs
drop-none zero xs h = refl
drop-none (suc i) xs h = absurd (omega arith)

-- each loop, when it comes to a place
module _ (xs ys : List Bit) (i : ℕ) (s b : Circuit) where
  pub pair-now : (gate : PairGate) (out : List Bit) → IsPairGate s.formula.vars gate → IsReady (4 * length xs) s xs ys →
      record { out = out; circuit = b } ≡ paired gate (drop i xs) (drop i ys) s → Grows (4 * length (drop i xs)) s b
  pair-now gate out g h e =
      (gives-along AllBits values (4 * length (drop i xs)) s (record { out = out; circuit = b }) (paired gate (drop i xs) (drop i ys) s) _ e
      (paired-gives gate (drop i xs) (drop i ys) s g (ready-drop 4 xs ys i s h))).grows

  pub sum-now : (c k : Bit) (out : List Bit) → IsBit s.formula.vars c → IsReady (14 * length xs) s xs ys →
      record { out = (k, out); circuit = b } ≡ summed c (drop i xs) (drop i ys) s → Grows (14 * length (drop i xs)) s b × IsBit b.formula.vars k
  sum-now c k out hc h e =
      let all = gives-along AreCarried carried_values (14 * length (drop i xs)) s (record { out = (k, out); circuit = b }) (summed c (drop i xs) (drop i ys) s) _ e
      (summed-gives c (drop i xs) (drop i ys) s hc (ready-drop 14 xs ys i s h)) in
      (all.grows, all.inside.0)

  pub less-now : (out : Bit) → IsReady (8 * length xs) s xs ys →
      record { out = out; circuit = b } ≡ less (drop i xs) (drop i ys) s → Grows (8 * length (drop i xs)) s b × IsBit b.formula.vars out
  less-now out h e =
      let all = gives-along IsBit bit_value (8 * length (drop i xs)) s (record { out = out; circuit = b }) (less (drop i xs) (drop i ys) s) _ e
      (less-gives (drop i xs) (drop i ys) s (ready-drop 8 xs ys i s h)) in
      (all.grows, all.inside)

-- and at its end
module _ (xs ys : List Bit) (s b : Circuit) where
  pub pair-end : (gate : PairGate) (out : List Bit) (i : ℕ) → i ≤ 0 → record { out = drop i out; circuit = b } ≡ paired gate (drop i xs) (drop i ys) s → record { out = out; circuit = b } ≡ paired gate xs ys s
  pair-end gate out zero le e = e
  pair-end gate out (suc i) le e = absurd (omega arith)

  pub sum-end : (c k : Bit) (out : List Bit) (i : ℕ) → i ≤ 0 → record { out = (k, drop i out); circuit = b } ≡ summed c (drop i xs) (drop i ys) s → record { out = (k, out); circuit = b } ≡ summed c xs ys s
  sum-end c k out zero le e = e
  sum-end c k out (suc i) le e = absurd (omega arith)

  pub less-end : (out : Bit) (i : ℕ) → i ≤ 0 → record { out = out; circuit = b } ≡ less (drop i xs) (drop i ys) s → record { out = out; circuit = b } ≡ less xs ys s
  less-end out zero le e = e
  less-end out (suc i) le e = absurd (omega arith)

-- a loop over all bits, from one bit to the next
pub some-kept : (bits : List Bit) (k : ℕ) (s t : Circuit) → k < length bits → Grows 3 s t →
    IsReady (3 * length (drop k bits)) s (drop k bits) (drop k bits) → IsReady (3 * length (drop (suc k) bits)) t (drop (suc k) bits) (drop (suc k) bits)
some-kept bits k s t lt g h =
    let P : List Bit → Type 0 = λ l. AllBits s.formula.vars l in
    let split = drop-cons bits k False lt in
    let rest = bits-more s.formula.vars t.formula.vars (drop (suc k) bits) g.vars_kept (subst P split h.first).1 in
    record { circuit = g.circuit; first = rest; second = rest; room = omega (arith, h.room, g.vars_cost, length-drop k bits, length-drop (suc k) bits) }
