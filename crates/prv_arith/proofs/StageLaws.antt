-- What the stages of a shift know of each other, and the rows of a product.
use Rattle.std.proofs.Common.{◌≡◌, ℕ, zero, suc, ◌+◌, ◌-◌, ◌*◌, ◌^◌, ◌<◌, ◌≤◌, Bool, List, length, drop, get_or, refl, sym, ap, ap₂, subst, ◌∙◌, arith, length-drop, pow-suc}
use Rattle.std.proofs.Math.Pow.{pow_mono}
use Rattle.prv_gate.specs.Bits.{IsBit}
use Rattle.prv_gate.specs.Circuits.{Circuit, Run}
use Rattle.prv_gate.specs.Growth.{Gives}
use Rattle.prv_gate.specs.declared.bit.Bit.{Bit}
use Rattle.prv_gate.specs.declared.bit.Bit.TheVariants.{False}
use Rattle.prv_gate.proofs.Composing.{bit-more}
use Rattle.prv_bits.specs.Places.{raised, lowered}
use Rattle.prv_bits.proofs.PlaceLaws.{length-raised, length-lowered}
use Rattle.prv_arith.specs.Lists.{AllBits, values, IsReady}
use Rattle.prv_arith.specs.Shifts.{shifted_up, shifted_down}
use Rattle.prv_arith.specs.Products.{times}
use Rattle.prv_arith.proofs.ListLaws.{bits-more, bits-drop, bits-raised, bits-lowered}
use Rattle.prv_arith.proofs.ShiftLaws.{shifted_up-gives, shifted_down-gives, length-shifted_up, length-shifted_down}
use Rattle.prv_arith.proofs.ProductLaws.{rows_cost, times-gives}
use Rattle.prv_arith.proofs.LoopLaws.{get-inside, gives-along}

pub by-bound : (by i : ℕ) → 0 < i → by ≡ 2 ^ (5 - i) → by ≤ 32
by-bound by i low e = let p : 2 ^ (5 - i) ≤ 2 ^ 5 = pow_mono {i = 5 - i} {j = 5} (omega arith) in omega arith

pub by-next : (by i : ℕ) → 0 < i → i ≤ 5 → by ≡ 2 ^ (5 - i) → by * 2 ≡ 2 ^ (5 - (i - 1))
by-next by i low high e =
    let p : 2 ^ (5 - (i - 1)) ≡ 2 ^ suc (5 - i) = ap (λ (n : ℕ). 2 ^ n) (omega arith) in
    omega (arith, p, pow-suc 2 (5 - i))

module _ (amount bits moved : List Bit) (out : List Bit) (i by : ℕ) (s b : Circuit) (wa : length amount ≡ 5) (wb : length bits ≡ 32) where
  stage : 0 < i → i ≤ 5 → 4 * (length (drop i amount) * length bits) + 128 ≤ 640
  stage low high = omega (arith, length-drop i amount, ap₂ (λ (m n : ℕ). m * n) (length-drop i amount ∙ ap (λ (m : ℕ). m - i) wa) wb)

  ready-here : IsReady 640 s amount bits → 0 < i → i ≤ 5 → IsReady (4 * (length (drop i amount) * length bits)) s (drop i amount) bits
  ready-here h low high =
      let most = stage low high in
      record { circuit = h.circuit; first = bits-drop s.formula.vars i amount h.first; second = h.second; room = omega (arith, h.room) }

  ready-next : Gives AllBits values (4 * (length (drop i amount) * length bits)) s (record { out = moved; circuit = b }) (λ v. values v moved) →
      IsReady 640 s amount bits → 0 < i → i ≤ 5 → length out ≡ 32 → AllBits b.formula.vars out → IsBit b.formula.vars (get_or amount (i - 1) False) × IsReady (4 * length out) b out moved
  ready-next g h low high w inside =
      let most = stage low high in (
        bit-more s.formula.vars b.formula.vars (get_or amount (i - 1) False) g.grows.vars_kept (get-inside s.formula.vars amount (i - 1) h.first),
        record { circuit = g.grows.circuit; first = inside; second = g.inside; room = omega (arith, h.room, g.grows.vars_cost) },
      )

  itself : (c : ℕ) (q : Run (List Bit)) (f : (ℕ → Bool) → List Bool) → record { out = moved; circuit = b } ≡ q → Gives AllBits values c s q f → Gives AllBits values c s (record { out = moved; circuit = b }) (λ v. values v moved)
  itself c q f e g =
      let all = gives-along AllBits values c s (record { out = moved; circuit = b }) q f e g in
      record { grows = all.grows; inside = all.inside; value = λ v model. refl }

  pub up-place : IsReady 640 s amount bits → 0 < i → i ≤ 5 → out ≡ raised False by moved → record { out = moved; circuit = b } ≡ shifted_up (drop i amount) bits s →
      IsBit b.formula.vars (get_or amount (i - 1) False) × IsReady (4 * length out) b out moved
  up-place h low high u e =
      let g = itself (4 * (length (drop i amount) * length bits)) (shifted_up (drop i amount) bits s) _ e (shifted_up-gives (drop i amount) bits s (ready-here h low high)) in
      let l : length moved ≡ 32 = ap (λ (r : Run (List Bit)). length r.out) e ∙ length-shifted_up (drop i amount) bits s ∙ wb in
      let P : List Bit → Type 0 = λ x. AllBits b.formula.vars x in
      ready-next g h low high (ap length u ∙ length-raised False by moved ∙ l) (subst P (sym u) (bits-raised b.formula.vars by moved g.inside))

module _ (c : Bit) (amount bits moved : List Bit) (out : List Bit) (i by : ℕ) (s b : Circuit) (wa : length amount ≡ 5) (wb : length bits ≡ 32) where
  pub down-place : IsBit s.formula.vars c → IsReady 640 s amount bits → 0 < i → i ≤ 5 → out ≡ lowered c by moved → record { out = moved; circuit = b } ≡ shifted_down c (drop i amount) bits s →
      IsBit b.formula.vars (get_or amount (i - 1) False) × IsReady (4 * length out) b out moved
  down-place hc h low high u e =
      let g = itself amount bits moved out i by s b wa wb (4 * (length (drop i amount) * length bits)) (shifted_down c (drop i amount) bits s) _ e
      (shifted_down-gives c (drop i amount) bits s hc (ready-here amount bits moved out i by s b wa wb h low high)) in
      let l : length moved ≡ 32 = ap (λ (r : Run (List Bit)). length r.out) e ∙ length-shifted_down c (drop i amount) bits s ∙ wb in
      let P : List Bit → Type 0 = λ x. AllBits b.formula.vars x in
      ready-next amount bits moved out i by s b wa wb g h low high (ap length u ∙ length-lowered c by moved ∙ l)
      (subst P (sym u) (bits-lowered b.formula.vars c by moved (bit-more s.formula.vars b.formula.vars c g.grows.vars_kept hc) g.inside))

rows-more : (n k m : ℕ) → rows_cost n k ≤ rows_cost n (k + m)
rows-more n k zero = let e : k + 0 ≡ k = omega arith in omega (arith, ap (rows_cost n) e)
rows-more n k (suc m) =
    let e : k + suc m ≡ suc (k + m) = omega arith in
    omega (arith, rows-more n k m, ap (rows_cost n) e)

-- before the row of a bit is added
module _ (xs ys product : List Bit) (i k : ℕ) (s b : Circuit) (wx : length xs ≡ 32) (wy : length ys ≡ 32) (h : IsReady 10000 s xs ys) where
  pub row-place : 0 < i → k + i ≡ 32 → record { out = product; circuit = b } ≡ times xs (drop i ys) s →
      IsBit b.formula.vars (get_or ys (i - 1) False) × IsReady (18 * length (drop k xs)) b (drop k xs) product
  row-place low at e =
      let ld : length (drop i ys) ≡ k = omega (arith, length-drop i ys) in
      let same : rows_cost (length xs) (length (drop i ys)) ≡ rows_cost 32 k = ap₂ rows_cost wx ld in
      let up : rows_cost 32 (suc k) ≤ rows_cost 32 (suc k + (i - 1)) = rows-more 32 (suc k) (i - 1) in
      let whole : suc k + (i - 1) ≡ 32 = omega arith in
      let all : rows_cost 32 (suc k + (i - 1)) ≡ rows_cost 32 32 = ap (rows_cost 32) whole in
      let most : rows_cost 32 k + 18 * (32 - k) ≤ 9504 = omega arith in
      let g = gives-along AllBits values (rows_cost (length xs) (length (drop i ys))) s (record { out = product; circuit = b }) (times xs (drop i ys) s) _ e
      (times-gives xs (drop i ys) s (omega (arith, length-drop i ys))
      (record { circuit = h.circuit; first = h.first; second = bits-drop s.formula.vars i ys h.second; room = omega (arith, h.room) })) in (
        bit-more s.formula.vars b.formula.vars (get_or ys (i - 1) False) g.grows.vars_kept (get-inside s.formula.vars ys (i - 1) h.second),
        record {
          circuit = g.grows.circuit;
          first = bits-drop b.formula.vars k xs (bits-more s.formula.vars b.formula.vars xs g.grows.vars_kept h.first);
          second = g.inside;
          room = omega (arith, h.room, g.grows.vars_cost, length-drop k xs);
        },
      )
