-- What products give.
use Rattle.std.proofs.Common.{◌≡◌, ℕ, zero, suc, ◌+◌, ◌-◌, ◌*◌, ◌≤◌, Bool, true, false, ◌&&◌, List, [], ◌∷◌, ◌++◌, length, take, drop, replicate, refl, sym, ap, ap₂, ◌∙◌, arith, length-append, length-drop, length-take, if◌then◌else◌}
use Rattle.std.proofs.lemmas.List.{length-map, length-replicate, map-append, take-map, drop-map}
use Rattle.prv_cnf.specs.declared.formula.TheConstants.{MAX_VARS}
use Rattle.prv_gate.specs.Bits.{IsBit, bit_value}
use Rattle.prv_gate.specs.Knowledge.{reduced}
use Rattle.prv_gate.specs.Circuits.{Circuit, Run, give, and_then, IsCircuit}
use Rattle.prv_gate.specs.Growth.{Gives}
use Rattle.prv_gate.specs.declared.bit.Bit.{Bit}
use Rattle.prv_gate.specs.declared.bit.Bit.TheVariants.{False}
use Rattle.prv_gate.proofs.Composing.{gives-here, gives-more, gives-value, gives-value-after, bit-more}
use Rattle.prv_gate.proofs.Steps.{reduced-value}
use Rattle.prv_bits.specs.Numbers.{zeros, pairwise, gated}
use Rattle.prv_bits.specs.Sums.{add}
use Rattle.prv_bits.specs.Products.{add_row, product}
use Rattle.prv_bits.proofs.PlaceLaws.{map-replicate}
use Rattle.prv_bits.proofs.NumberLaws.{length-gated}
use Rattle.prv_bits.proofs.ProductLaws.{product-skip}
use Rattle.prv_arith.specs.declared.pairs.PairGate.TheVariants.{And}
use Rattle.prv_arith.specs.Lists.{AllBits, values, unset_bits, is_unset, IsReady}
use Rattle.prv_arith.specs.Pairs.{paired}
use Rattle.prv_arith.specs.Sums.{added}
use Rattle.prv_arith.specs.Products.{row_added, times}
use Rattle.prv_arith.proofs.ListLaws.{bits-more, bits-append, bits-replicate, bits-take, bits-drop, values-unset, unset-value}
use Rattle.prv_arith.proofs.Joining.{gives-then, gives-with}
use Rattle.prv_arith.proofs.PairLaws.{paired-gives, pairwise-replicate, length-paired}
use Rattle.prv_arith.proofs.SumLaws.{added-gives, length-added}

module _ (y : Bit) (row bs : List Bit) (s : Circuit) (short : length row ≤ length bs) where
  w : length (replicate (length row) y) ≡ length row
  w = length-replicate (length row) y

  length-row : length (paired And (replicate (length row) y) row s).out ≡ length row
  length-row = length-paired And (replicate (length row) y) row s w ∙ w

  length-part : length (take (length row) bs) ≡ length row
  length-part = length-take (length row) bs ∙ omega arith

  pub length-row_added : length (row_added y row bs s).out ≡ length bs
  unfolding row_added
  length-row_added =
      let r = paired And (replicate (length row) y) row s in
      let a = added False r.out (take (length row) bs) r.circuit in
      let l : length a.out ≡ length row = length-added False r.out (take (length row) bs) r.circuit (length-row ∙ sym length-part) ∙ length-row in
      length-append a.out (drop (length row) bs) ∙ omega (arith, length-drop (length row) bs)

  module _ (h : IsCircuit s) (hy : IsBit s.formula.vars y) (hrow : AllBits s.formula.vars row) (hbs : AllBits s.formula.vars bs) (room : s.formula.vars + 18 * length row ≤ MAX_VARS) where
    pub row_added-gives : Gives AllBits values (18 * length row) s (row_added y row bs s) (λ v. add_row (gated (bit_value v y) (values v row)) (values v bs))
    unfolding row_added
    row_added-gives =
        let n = s.formula.vars in
        let k = length row in
        let r = paired And (replicate k y) row s in
        let first = paired-gives And (replicate k y) row s tt (record { circuit = h; first = bits-replicate n k y hy; second = hrow; room = omega (arith, room, w) }) in
        let t = r.circuit in
        let m = t.formula.vars in
        let hbs' = bits-more n m bs first.grows.vars_kept hbs in
        let second =
        added-gives False r.out (take k bs) t tt
        (record { circuit = first.grows.circuit; first = first.inside; second = bits-take m k bs hbs'; room = omega (arith, room, first.grows.vars_cost, w, length-row) }) in
        let a = added False r.out (take k bs) t in
        let whole =
        gives-with AllBits values AllBits values (14 * length r.out) t a (λ sum. sum ++ drop k bs)
        (λ v. add false (values v r.out) (values v (take k bs))) (λ v sum. sum ++ drop k (values v bs))
        (λ inside. bits-append a.circuit.formula.vars a.out (drop k bs) inside (bits-more m a.circuit.formula.vars (drop k bs) second.grows.vars_kept (bits-drop m k bs hbs')))
        (λ v model. map-append (bit_value v) a.out (drop k bs) ∙ ap (λ (e : List Bool). values v a.out ++ e) (sym (drop-map (bit_value v) k bs)))
        second in
        gives-value AllBits values (18 * k) s _ _ (λ v. add_row (gated (bit_value v y) (values v row)) (values v bs))
        (λ v model.
        ap₂ (λ (g e : List Bool). add false g e ++ drop k (values v bs))
        (ap (λ (c : List Bool). pairwise (λ a b. a && b) c (values v row)) (map-replicate (bit_value v) k y) ∙ pairwise-replicate (λ a b. a && b) k (bit_value v y) (values v row) (sym (length-map row (bit_value v))))
        (sym (take-map (bit_value v) k bs))
        ∙ ap (λ (i : ℕ). add false (gated (bit_value v y) (values v row)) (take i (values v bs)) ++ drop i (values v bs))
        (sym (length-gated (bit_value v y) (values v row) ∙ length-map row (bit_value v))))
        (gives-then AllBits values AllBits values (4 * length (replicate k y)) (14 * length r.out) (18 * k) s r
        (λ g u. and_then (added False g (take k bs) u) (λ sum z. give (sum ++ drop k bs) z))
        (λ v. pairwise (λ a b. a && b) (values v (replicate k y)) (values v row)) (λ v g. add false g (values v (take k bs)) ++ drop k (values v bs))
        (omega (arith, w, length-row)) first whole)

-- the rows of the k lowest bits, of n bits each but for those shifted out
abbrev pub rows_cost : ℕ → ℕ → ℕ
rows_cost n zero = 0
rows_cost n (suc k) = rows_cost n k + 18 * (n - k)

pub length-times : (xs ys : List Bit) (s : Circuit) → length ys ≤ length xs → length (times xs ys s).out ≡ length xs
length-times xs [] s le = length-replicate (length xs) False
length-times xs (y ∷ ys) s le =
    by (length-times xs ys s (omega arith)) (is_unset (reduced (times xs ys s).circuit.known y))
  where
    by : length (times xs ys s).out ≡ length xs → (t : Bool) →
        length (if t then give (times xs ys s).out (times xs ys s).circuit else row_added y (drop (length ys) xs) (times xs ys s).out (times xs ys s).circuit).out ≡ length xs
    by l true = l
    by l false = length-row_added y (drop (length ys) xs) (times xs ys s).out (times xs ys s).circuit (omega (arith, length-drop (length ys) xs)) ∙ l

pub times-gives : (xs ys : List Bit) (s : Circuit) → length ys ≤ length xs → IsReady (rows_cost (length xs) (length ys)) s xs ys →
    Gives AllBits values (rows_cost (length xs) (length ys)) s (times xs ys s) (λ v. product (values v xs) (values v ys))
times-gives xs [] s le h =
    gives-here AllBits values _ s (unset_bits (length xs)) _ h.circuit (bits-replicate s.formula.vars (length xs) False tt)
    (λ v model. values-unset v (length xs) ∙ ap zeros (sym (length-map xs (bit_value v))))
times-gives xs (y ∷ ys) s le h =
    let first = times-gives xs ys s (omega arith) (record { circuit = h.circuit; first = h.first; second = h.second.1; room = omega (arith, h.room) }) in
    by first (is_unset (reduced (times xs ys s).circuit.known y)) refl
  where
    n : ℕ
    n = length xs

    k : ℕ
    k = length ys

    r : Run (List Bit)
    r = times xs ys s

    by : Gives AllBits values (rows_cost (length xs) (length ys)) s (times xs ys s) (λ v. product (values v xs) (values v ys)) →
        (t : Bool) → is_unset (reduced (times xs ys s).circuit.known y) ≡ t →
        Gives AllBits values (rows_cost (length xs) (length ys) + 18 * (length xs - length ys)) s
        (if t then give (times xs ys s).out (times xs ys s).circuit else row_added y (drop (length ys) xs) (times xs ys s).out (times xs ys s).circuit)
        (λ v. product (values v xs) (bit_value v y ∷ values v ys))
    by first true e =
        gives-more AllBits values (rows_cost (length xs) (length ys)) (rows_cost (length xs) (length ys) + 18 * (length xs - length ys)) s (times xs ys s) _ (omega arith)
        (gives-value-after AllBits values (rows_cost (length xs) (length ys)) s (times xs ys s) (λ v. product (values v xs) (values v ys)) _
        (λ v model.
        let unset : bit_value v y ≡ false = sym (reduced-value (times xs ys s).circuit first.grows.circuit v model y (bit-more s.formula.vars (times xs ys s).circuit.formula.vars y first.grows.vars_kept h.second.0)) ∙ unset-value v (reduced (times xs ys s).circuit.known y) e in
        sym (ap (λ (b : Bool). product (values v xs) (b ∷ values v ys)) unset ∙ product-skip (values v xs) (values v ys) (omega (arith, length-map xs (bit_value v), length-map ys (bit_value v)))))
        first)
    by first false e =
        let t = (times xs ys s).circuit in
        let m = s.formula.vars in
        let more = first.grows.vars_kept in
        let row = drop (length ys) xs in
        let short : length row ≤ length (times xs ys s).out = omega (arith, length-drop (length ys) xs, length-times xs ys s (omega arith)) in
        let second =
        row_added-gives y row (times xs ys s).out t short first.grows.circuit (bit-more m t.formula.vars y more h.second.0)
        (bits-drop t.formula.vars (length ys) xs (bits-more m t.formula.vars xs more h.first)) first.inside
        (omega (arith, h.room, first.grows.vars_cost, length-drop (length ys) xs)) in
        gives-then AllBits values AllBits values (rows_cost (length xs) (length ys)) (18 * length row) (rows_cost (length xs) (length ys) + 18 * (length xs - length ys)) s (times xs ys s)
        (λ bs u. row_added y row bs u)
        (λ v. product (values v xs) (values v ys)) (λ v bs. add_row (gated (bit_value v y) (drop (length (values v ys)) (values v xs))) bs)
        (omega (arith, length-drop (length ys) xs)) first
        (gives-value AllBits values (18 * length row) t _ (λ v. add_row (gated (bit_value v y) (values v row)) (values v (times xs ys s).out)) _
        (λ v model. ap (λ (part : List Bool). add_row (gated (bit_value v y) part) (values v (times xs ys s).out))
        (sym (drop-map (bit_value v) (length ys) xs) ∙ ap (λ (i : ℕ). drop i (values v xs)) (sym (length-map ys (bit_value v)))))
        second)
