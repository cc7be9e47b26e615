-- What the code of a division of words knows.
use Rattle.std.proofs.Common.{◌≡◌, ℕ, ◌+◌, ◌*◌, ◌≤◌, List, [], length, take, drop, replicate, refl, sym, ap, ap₂, subst, ◌∙◌, arith, length-drop, length-take}
use Rattle.std.proofs.Math.Nat.{mul-le-mul}
use Rattle.std.proofs.lemmas.List.{take-map, drop-map}
use Rattle.prv_gate.specs.Bits.{IsBit, negate_bit}
use Rattle.prv_gate.specs.Circuits.{Circuit, Run, give, and_then}
use Rattle.prv_gate.specs.Folding.{xor_gate}
use Rattle.prv_gate.specs.Growth.{Grows}
use Rattle.prv_gate.specs.declared.bit.Bit.{Bit}
use Rattle.prv_gate.specs.declared.bit.Bit.TheVariants.{False}
use Rattle.prv_bits.specs.Places.{padded}
use Rattle.prv_arith.specs.declared.pairs.PairGate.TheVariants.{And}
use Rattle.prv_arith.specs.Lists.{AllBits, opposites, IsReady, leading, top_bit}
use Rattle.prv_arith.specs.Pairs.{paired, some}
use Rattle.prv_arith.specs.Sums.{negated, magnitude}
use Rattle.prv_arith.specs.Quotients.{divided_on, divided, masked, signed_division, signed_quotient, signed_remainder}
use Rattle.prv_arith.proofs.ListLaws.{bits-take, bits-drop, bits-padded}
use Rattle.prv_arith.proofs.QuotientLaws.{IsDivision, division_cost, is-division}
use Rattle.prv_arith.proofs.RunLaws.{joins, take-rest}

pub word-ready : (d x : List Bit) (j k n m : ℕ) (s : Circuit) → IsReady (length x * (18 * length d + 9)) s d x →
    IsReady (length (take m (drop k x)) * (18 * length (take n (drop j d)) + 9)) s (take n (drop j d)) (take m (drop k x))
word-ready d x j k n m s h =
    let v = s.formula.vars in
    let ld : length (take n (drop j d)) ≤ length d = omega (arith, length-take n (drop j d), length-drop j d) in
    let lx : length (take m (drop k x)) ≤ length x = omega (arith, length-take m (drop k x), length-drop k x) in
    let per : 18 * length (take n (drop j d)) + 9 ≤ 18 * length d + 9 = omega arith in
    let less : length (take m (drop k x)) * (18 * length (take n (drop j d)) + 9) ≤ length x * (18 * length d + 9) = mul-le-mul lx per in
    record {
      circuit = h.circuit;
      first = bits-take v n (drop j d) (bits-drop v j d h.first);
      second = bits-take v m (drop k x) (bits-drop v k x h.second);
      room = omega (arith, h.room, less);
    }

pub opposite-slice : (d o : List Bit) (j n : ℕ) → o ≡ opposites d → take n (drop j o) ≡ opposites (take n (drop j d))
opposite-slice d o j n e = ap (λ (l : List Bit). take n (drop j l)) e ∙ ap (take n) (drop-map negate_bit j d) ∙ take-map negate_bit n (drop j d)

pub words-run : (d x q r : List Bit) (j k n m : ℕ) (s t : Circuit) → length d ≤ n + j → length x ≤ m + k → j ≡ leading s.known d → k ≡ leading s.known x →
    record { out = (q, r); circuit = t } ≡ divided_on (take n (drop j d)) [] [] (take m (drop k x)) s → record { out = (q, r); circuit = t } ≡ divided d x s
unfolding divided
words-run d x q r j k n m s t ld lx ej ek e =
    e ∙ ap₂ (λ (a b : List Bit). divided_on a [] [] b s) (take-rest j n d ld ∙ ap (λ (i : ℕ). drop i d) ej) (take-rest k m x lx ∙ ap (λ (i : ℕ). drop i x) ek)

pub division-run : (xs ys a d : List Bit) (nonzero : Bit) (s t u w : Circuit) → record { out = nonzero; circuit = t } ≡ some False ys s →
    record { out = a; circuit = u } ≡ magnitude xs t → record { out = d; circuit = w } ≡ magnitude ys u →
    record { out = (nonzero, (divided d a w).out.0, (divided d a w).out.1); circuit = (divided d a w).circuit } ≡ signed_division xs ys s
unfolding signed_division
division-run xs ys a d nonzero s t u w one two three =
    let end : Run (Bit × List Bit × List Bit) = record { out = (nonzero, (divided d a w).out.0, (divided d a w).out.1); circuit = (divided d a w).circuit } in
    joins (record { out = nonzero; circuit = t }) (some False ys s)
    (λ z y. and_then (magnitude xs y) (λ e v. and_then (magnitude ys v) (λ f c. and_then (divided f e c) (λ b g. give (z, b.0, b.1) g)))) end one
    (joins (record { out = a; circuit = u }) (magnitude xs t) (λ e v. and_then (magnitude ys v) (λ f c. and_then (divided f e c) (λ b g. give (nonzero, b.0, b.1) g))) end two
    (joins (record { out = d; circuit = w }) (magnitude ys u) (λ f c. and_then (divided f a c) (λ b g. give (nonzero, b.0, b.1) g)) end three refl))

-- what is ready behind some steps
pub ready-grown : (n c k : ℕ) (xs ys zs ws : List Bit) (s t : Circuit) → IsReady n s xs ys → Grows c s t → c + k ≤ n → AllBits t.formula.vars zs → AllBits t.formula.vars ws → IsReady k t zs ws
ready-grown n c k xs ys zs ws s t h g le hz hw = record { circuit = g.circuit; first = hz; second = hw; room = omega (arith, h.room, g.vars_cost) }

module _ (xs ys : List Bit) (s t : Circuit) (wx : length xs ≡ 32) (wy : length ys ≡ 32) (h : IsReady 24000 s xs ys) (et : t ≡ (signed_division xs ys s).circuit) where
  cost : division_cost (length xs) (length ys) ≡ 19968
  cost = ap₂ division_cost wx wy

  facts : IsDivision xs ys s (signed_division xs ys s)
  facts = is-division xs ys s (record { circuit = h.circuit; first = h.first; second = h.second; room = omega (arith, h.room, cost) })

  pub division-grows : Grows 19968 s t
  division-grows =
      let P : Circuit → Type 0 = λ c. Grows 19968 s c in
      let Q : ℕ → Type 0 = λ n. Grows n s (signed_division xs ys s).circuit in
      subst P (sym et) (subst Q cost facts.grows)

  pub nonzero-inside : (b : Bit) → b ≡ (signed_division xs ys s).out.0 → IsBit t.formula.vars b
  nonzero-inside b e =
      let P : Circuit → Type 0 = λ c. IsBit c.formula.vars b in
      let Q : Bit → Type 0 = λ a. IsBit (signed_division xs ys s).circuit.formula.vars a in
      subst P (sym et) (subst Q (sym e) facts.nonzero)

  pub quotient-inside : (q : List Bit) → q ≡ padded False 32 (signed_division xs ys s).out.1 → AllBits t.formula.vars q
  quotient-inside q e =
      let P : Circuit → Type 0 = λ c. AllBits c.formula.vars q in
      let Q : List Bit → Type 0 = λ l. AllBits (signed_division xs ys s).circuit.formula.vars l in
      subst P (sym et) (subst Q (sym e) (bits-padded (signed_division xs ys s).circuit.formula.vars 32 (signed_division xs ys s).out.1 facts.quotient))

  pub rest-inside : (q : List Bit) → q ≡ padded False 32 (signed_division xs ys s).out.2 → AllBits t.formula.vars q
  rest-inside q e =
      let P : Circuit → Type 0 = λ c. AllBits c.formula.vars q in
      let Q : List Bit → Type 0 = λ l. AllBits (signed_division xs ys s).circuit.formula.vars l in
      subst P (sym et) (subst Q (sym e) (bits-padded (signed_division xs ys s).circuit.formula.vars 32 (signed_division xs ys s).out.2 facts.rest))

-- a word that is masked
masked-run : (n : ℕ) (xs bs : List Bit) (c b : Bit) (q raw : List Bit) (s t u : Circuit) → n ≡ length xs → t ≡ s → b ≡ c → q ≡ padded False n bs →
    record { out = raw; circuit = u } ≡ paired And (replicate n b) q t → record { out = raw; circuit = u } ≡ masked c xs bs s
unfolding masked
masked-run n xs bs c b q raw s t u en et eb eq e =
    e ∙ ap₂ (λ (x : Bit) (l : List Bit). paired And (replicate n x) l t) eb eq
    ∙ ap₂ (λ (m : ℕ) (v : Circuit). paired And (replicate m c) (padded False m bs) v) en et

pub quotient-run : (xs ys q raw out : List Bit) (b sign : Bit) (s t u w z : Circuit) → length xs ≡ 32 → t ≡ (signed_division xs ys s).circuit →
    b ≡ (signed_division xs ys s).out.0 → q ≡ padded False 32 (signed_division xs ys s).out.1 →
    record { out = raw; circuit = u } ≡ paired And (replicate 32 b) q t → record { out = sign; circuit = w } ≡ xor_gate (top_bit xs) (top_bit ys) u →
    record { out = out; circuit = z } ≡ negated sign raw w → record { out = out; circuit = z } ≡ signed_quotient xs ys s
unfolding signed_quotient
quotient-run xs ys q raw out b sign s t u w z wx et eb eq one two three =
    let d = signed_division xs ys s in
    let end : Run (List Bit) = record { out = out; circuit = z } in
    joins (record { out = raw; circuit = u }) (masked d.out.0 xs d.out.1 d.circuit) (λ r v. and_then (xor_gate (top_bit xs) (top_bit ys) v) (λ g y. negated g r y)) end
    (masked-run 32 xs d.out.1 d.out.0 b q raw d.circuit t u (sym wx) et eb eq one)
    (joins (record { out = sign; circuit = w }) (xor_gate (top_bit xs) (top_bit ys) u) (λ g y. negated g raw y) end two three)

pub remainder-run : (xs ys q raw out : List Bit) (b : Bit) (s t u z : Circuit) → length xs ≡ 32 → t ≡ (signed_division xs ys s).circuit →
    b ≡ (signed_division xs ys s).out.0 → q ≡ padded False 32 (signed_division xs ys s).out.2 →
    record { out = raw; circuit = u } ≡ paired And (replicate 32 b) q t →
    record { out = out; circuit = z } ≡ negated (top_bit xs) raw u → record { out = out; circuit = z } ≡ signed_remainder xs ys s
unfolding signed_remainder
remainder-run xs ys q raw out b s t u z wx et eb eq one two =
    let d = signed_division xs ys s in
    joins (record { out = raw; circuit = u }) (masked d.out.0 xs d.out.2 d.circuit) (λ r v. negated (top_bit xs) r v) (record { out = out; circuit = z })
    (masked-run 32 xs d.out.2 d.out.0 b q raw d.circuit t u (sym wx) et eb eq one) two
