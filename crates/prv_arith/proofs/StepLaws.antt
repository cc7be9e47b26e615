-- What the code of a division knows at each step.
use Rattle.std.proofs.Common.{◌≡◌, ℕ, suc, ◌+◌, ◌-◌, ◌*◌, ◌<◌, ◌≤◌, min, List, [], ◌∷◌, ◌++◌, length, take, drop, sym, ap, ap₂, subst, ◌∙◌, arith, length-drop, length-append, replicate, set, get_or, add-one, drop-cons}
use Rattle.std.proofs.Math.ListN.{drop_of_length-le}
use Rattle.std.proofs.Math.Seq.{take-suc-set}
use Rattle.std.proofs.lemmas.List.{length-map, length-replicate, take-replicate, append-nil, drop-append-le}
use Rattle.prv_gate.specs.Bits.{IsBit, bit_value, negate_bit}
use Rattle.prv_gate.specs.Circuits.{Circuit, Run}
use Rattle.prv_gate.specs.Growth.{Grows}
use Rattle.prv_gate.specs.declared.bit.Bit.{Bit}
use Rattle.prv_gate.specs.declared.bit.Bit.TheVariants.{False, True}
use Rattle.prv_bits.specs.Places.{low, padded}
use Rattle.prv_bits.proofs.PlaceLaws.{length-low}
use Rattle.prv_arith.specs.declared.pairs.PairGate.TheVariants.{Mux}
use Rattle.prv_arith.specs.Lists.{AllBits, opposites, AreCarried, carried_values, IsReady, leading}
use Rattle.prv_arith.specs.Pairs.{paired}
use Rattle.prv_arith.specs.Sums.{summed}
use Rattle.prv_arith.specs.Quotients.{fitting, divided_step, divided_on, trimmed_step}
use Rattle.prv_arith.proofs.ListLaws.{bits-more, bits-low, bits-drop, bits-append, bits-opposites}
use Rattle.prv_arith.proofs.SumLaws.{summed-gives, length-summed}
use Rattle.prv_arith.proofs.DivisionSteps.{fitting-gives, divided_step-gives, length-both}
use Rattle.prv_arith.proofs.LoopLaws.{along-both}
use Rattle.prv_arith.proofs.RunLaws.{take-rest, take-whole, front, divided_step-run}

module _ (d r o lo dl : List Bit) (s : Circuit) (h : IsReady (18 * length d + 9) s d r) (short : length r ≤ length d + 1)
    (el : lo ≡ low (length d) r) (ed : dl ≡ low (length r) (opposites d)) where
  l : length lo ≡ min (length d) (length r)
  l = ap length el ∙ length-low (length d) r

  pub sum-ready : IsReady (14 * length lo) s lo dl
  sum-ready =
      let n = s.formula.vars in
      let P : List Bit → Type 0 = λ x. AllBits n x in
      record {
        circuit = h.circuit;
        first = subst P (sym el) (bits-low n (length d) r h.second);
        second = subst P (sym ed) (bits-low n (length r) (opposites d) (bits-opposites n d h.first));
        room = omega (arith, h.room, l);
      }

  module _ (carry : Bit) (difference : List Bit) (t : Circuit) (e : record { out = (carry, difference); circuit = t } ≡ summed True lo dl s) where
    sum : Grows (14 * length lo) s t × AreCarried t.formula.vars (carry, difference)
    sum = along-both AreCarried carried_values (14 * length lo) s (record { out = (carry, difference); circuit = t }) (summed True lo dl s) _ e (summed-gives True lo dl s tt sum-ready)

    pub carry-inside : IsBit t.formula.vars carry
    carry-inside = sum.1.0

    pub fit-ready : IsReady (3 * (length r - length d) + 3 * (length d - length r) + 6) t d r
    fit-ready =
        let n = s.formula.vars in
        record {
          circuit = sum.0.circuit;
          first = bits-more n t.formula.vars d sum.0.vars_kept h.first;
          second = bits-more n t.formula.vars r sum.0.vars_kept h.second;
          room = omega (arith, h.room, sum.0.vars_cost, l, short);
        }

    module _ (fits : Bit) (u : Circuit) (f : record { out = fits; circuit = u } ≡ fitting d r carry t) where
      fit : Grows (3 * (length r - length d) + 3 * (length d - length r) + 6) t u × IsBit u.formula.vars fits
      fit =
          along-both IsBit bit_value (3 * (length r - length d) + 3 * (length d - length r) + 6) t (record { out = fits; circuit = u }) (fitting d r carry t) _ f
          (fitting-gives d r carry t fit-ready.circuit fit-ready.first fit-ready.second carry-inside fit-ready.room)

      pub fits-inside : IsBit u.formula.vars fits
      fits-inside = fit.1

      pub choice-ready : IsReady (4 * length difference) u difference lo
      choice-ready =
          let n = s.formula.vars in
          let m = t.formula.vars in
          let k = u.formula.vars in
          let same : length lo ≡ length dl = ap length el ∙ length-both d r s ∙ sym (ap length ed) in
          let w : length difference ≡ length lo = ap (λ (x : Run (Bit × List Bit)). length x.out.1) e ∙ length-summed True lo dl s same in
          record {
            circuit = fit.0.circuit;
            first = bits-more m k difference fit.0.vars_kept sum.1.1;
            second = bits-more n k lo (omega (arith, sum.0.vars_kept, fit.0.vars_kept)) sum-ready.first;
            room = omega (arith, h.room, sum.0.vars_cost, fit.0.vars_cost, l, w, short);
          }

      pub step-run : (rest : List Bit) (w : Circuit) → record { out = rest; circuit = w } ≡ paired (Mux fits) difference lo u → record { out = (fits, rest); circuit = w } ≡ divided_step d r s
      step-run rest w g =
          divided_step-run d r difference rest carry fits s t u w (e ∙ ap₂ (λ (a b : List Bit). summed True a b s) el ed) f
          (g ∙ ap (λ (a : List Bit). paired (Mux fits) difference a u) el)

-- the low bits, as parts of slices
pub low-part : (d r : List Bit) (w n : ℕ) → w ≡ min (length d) (length r) → length r ≤ n + (length r - w) → take n (drop (length r - w) r) ≡ low (length d) r
low-part d r w n ew le = take-rest (length r - w) n r le ∙ ap (λ (k : ℕ). drop k r) (omega arith)

pub opposite-part : (d r o : List Bit) (w n : ℕ) → o ≡ opposites d → w ≡ min (length d) (length r) → length o ≤ n + (length o - w) → take n (drop (length o - w) o) ≡ low (length r) (opposites d)
opposite-part d r o w n eo ew le =
    let lo : length o ≡ length d = ap length eo ∙ length-map d negate_bit in
    take-rest (length o - w) n o le
    ∙ ap (λ (x : List Bit). drop (length x - w) x) eo
    ∙ ap (λ (k : ℕ). drop k (opposites d)) (omega (arith, length-map d negate_bit))

-- one step of a division: what is known behind it
module _ (d r : List Bit) (s t : Circuit) (fits : Bit) (rest : List Bit) (h : IsReady (18 * length d + 9) s d r) (short : length r ≤ length d + 1) where
  pub step-inside : record { out = (fits, rest); circuit = t } ≡ divided_step d r s → AllBits t.formula.vars rest
  step-inside e =
      (along-both AreCarried carried_values (18 * length d + 9) s (record { out = (fits, rest); circuit = t }) (divided_step d r s) _ e
      (divided_step-gives d r s h.circuit h.first h.second short h.room)).1.1

  pub trimmed-run : (k : ℕ) → record { out = (fits, rest); circuit = t } ≡ divided_step d r s → k ≡ leading t.known rest → record { out = (fits, drop k rest); circuit = t } ≡ trimmed_step d r s
  trimmed-run k e ek =
      ap (λ (n : ℕ). record { out = (fits, drop n rest); circuit = t }) ek
      ∙ ap (λ (x : Run (Bit × List Bit)). record { out = (x.out.0, drop (leading x.circuit.known x.out.1) x.out.1); circuit = x.circuit }) e

  pub trimmed-both : record { out = (fits, rest); circuit = t } ≡ trimmed_step d r s → Grows (18 * length d + 9) s t × AllBits t.formula.vars rest
  trimmed-both e =
      let g = divided_step-gives d r s h.circuit h.first h.second short h.room in
      let q = divided_step d r s in
      let P : Run (Bit × List Bit) → Type 0 = λ x. Grows (18 * length d + 9) s x.circuit × AllBits x.circuit.formula.vars x.out.1 in
      subst P (sym e) (g.grows, bits-drop q.circuit.formula.vars (leading q.circuit.known q.out.1) q.out.1 g.inside.1)

-- lists in arrays
pub placed : (rest : List Bit) (w : ℕ) (b : Bit) → w < length rest → take (w + 1) (set rest w b) ≡ take w rest ++ b ∷ []
placed rest w b lt = rw add-one (take-suc-set rest w b lt)

pub middle : (k m : ℕ) (a b : List Bit) → length a ≡ m → k ≤ m → take (m - k) (drop k (a ++ b)) ≡ drop k a
middle k m a b w le =
    ap (take (m - k)) (drop-append-le k a b (omega arith)) ∙ front (m - k) (drop k a) b (omega (arith, length-drop k a))

pub left-run : (d r r' out copied L R : List Bit) (room k : ℕ) (s t : Circuit) (fits : Bit) → length out ≡ room → k ≤ room →
    copied ≡ take (room - k) (drop k (out ++ L)) → r ≡ r' →
    record { out = (fits, drop k out); circuit = t } ≡ trimmed_step d r s → record { out = (fits, take (room - k) (copied ++ R)); circuit = t } ≡ trimmed_step d r' s
left-run d r r' out copied L R room k s t fits w le ec er e =
    let same : copied ≡ drop k out = ec ∙ middle k room out L w le in
    ap (λ (l : List Bit). record { out = (fits, l); circuit = t }) (front (room - k) copied R (ap length same ∙ omega (arith, length-drop k out)) ∙ same)
    ∙ e ∙ ap (λ (l : List Bit). trimmed_step d l s) er

-- the loop over the dividend
module _ (d x : List Bit) (i : ℕ) (lt : i < length x) where
  pub bit-ready : (r : List Bit) (s : Circuit) → AllBits s.formula.vars r → IsReady (length (drop i x) * (18 * length d + 9)) s d (drop i x) → IsReady (18 * length d + 9) s d (r ++ get_or x i False ∷ [])
  bit-ready r s hr h =
      let n = s.formula.vars in
      let split = drop-cons x i False lt in
      let P : List Bit → Type 0 = λ l. IsReady (length l * (18 * length d + 9)) s d l in
      let h' = subst P split h in
      record { circuit = h'.circuit; first = h'.first; second = bits-append n r (get_or x i False ∷ []) hr (h'.second.0, tt); room = omega (arith, h'.room) }

  pub on-next : (q r r' : List Bit) (b b' : Circuit) (fits : Bit) → record { out = (fits, r'); circuit = b' } ≡ trimmed_step d (r ++ get_or x i False ∷ []) b →
      divided_on d (q ++ fits ∷ []) r' (drop (suc i) x) b' ≡ divided_on d q r (drop i x) b
  on-next q r r' b b' fits e =
      ap (λ (p : Run (Bit × List Bit)). divided_on d (q ++ p.out.0 ∷ []) p.out.1 (drop (suc i) x) p.circuit) e
      ∙ sym (ap (λ (l : List Bit). divided_on d q r l b) (drop-cons x i False lt))

  pub on-kept : (r r' : List Bit) (b b' : Circuit) (fits : Bit) → length r ≤ length d → AllBits b.formula.vars r → IsReady (length (drop i x) * (18 * length d + 9)) b d (drop i x) →
      record { out = (fits, r'); circuit = b' } ≡ trimmed_step d (r ++ get_or x i False ∷ []) b →
      AllBits b'.formula.vars r' × IsReady (length (drop (suc i) x) * (18 * length d + 9)) b' d (drop (suc i) x)
  on-kept r r' b b' fits short hr h e =
      let n = b.formula.vars in
      let m = b'.formula.vars in
      let now = r ++ get_or x i False ∷ [] in
      let both = trimmed-both d now b b' fits r' (bit-ready r b hr h) (omega (arith, length-append r (get_or x i False ∷ []))) e in
      let split = drop-cons x i False lt in
      let P : List Bit → Type 0 = λ l. IsReady (length l * (18 * length d + 9)) b d l in
      let h' = subst P split h in (
        both.1,
        record {
          circuit = both.0.circuit;
          first = bits-more n m d both.0.vars_kept h.first;
          second = bits-more n m (drop (suc i) x) both.0.vars_kept h'.second.1;
          room = omega (arith, h'.room, both.0.vars_cost);
        },
      )

pub on-end : (d x q r : List Bit) (i : ℕ) (b : Circuit) (end : Run (List Bit × List Bit)) → length x ≤ i → length q ≤ i →
    divided_on d (take i q) r (drop i x) b ≡ end → record { out = (q, r); circuit = b } ≡ end
on-end d x q r i b end lx lq e =
    sym (ap₂ (λ (l m : List Bit). divided_on d l r m b) (take-whole i q lq) (drop_of_length-le x lx)) ∙ e

-- bits at the end of a list of unset ones
pub pad-is : (k n : ℕ) (q : List Bit) → k ≤ n → length q ≡ n - k → take k (replicate n False) ++ (q ++ drop (n - k) (drop k (replicate n False))) ≡ padded False n q
pad-is k n q le w =
    let none : drop (n - k) (drop k (replicate n False)) ≡ [] = drop_of_length-le (drop k (replicate n False)) (omega (arith, length-drop k (replicate n False), length-replicate n False)) in
    ap₂ (λ (a b : List Bit). a ++ (q ++ b)) (take-replicate k n False le ∙ ap (λ (m : ℕ). replicate m False) (let e : k ≡ n - length q = omega arith in e)) none
    ∙ ap (λ (b : List Bit). replicate (n - length q) False ++ b) (append-nil q)
