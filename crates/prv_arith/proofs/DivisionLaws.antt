-- What a division of bits gives, where bits known to be unset are left out.
use Rattle.std.proofs.Common.{◌≡◌, ℕ, ◌+◌, ◌*◌, ◌<◌, ◌≤◌, Bool, true, false, List, [], ◌∷◌, ◌++◌, length, drop, refl, sym, ap, ap₂, ◌∙◌, arith, length-append, length-drop, append_assoc}
use Rattle.std.proofs.lemmas.List.{map-append, append-nil}
use Rattle.prv_cnf.specs.declared.formula.TheConstants.{MAX_VARS}
use Rattle.prv_cnf.specs.Models.{IsModel}
use Rattle.prv_gate.specs.Bits.{bit_value}
use Rattle.prv_gate.specs.Circuits.{Circuit, Run, IsCircuit}
use Rattle.prv_gate.specs.Growth.{Grows}
use Rattle.prv_gate.specs.declared.bit.Bit.{Bit}
use Rattle.prv_gate.proofs.Composing.{grows-here, grows-then, grows-more}
use Rattle.prv_bits.specs.Numbers.{bit, number}
use Rattle.prv_bits.specs.Quotients.{fits, reduce, quotient, rest}
use Rattle.prv_bits.proofs.NumberLaws.{number-append}
use Rattle.prv_bits.proofs.DivisionSteps.{reduce-is}
use Rattle.prv_bits.proofs.DivisionLaws.{one-quotient, one-rest}
use Rattle.prv_arith.specs.Lists.{AllBits, values, leading, AreLists}
use Rattle.prv_arith.specs.Quotients.{divided_step, divided_on}
use Rattle.prv_arith.proofs.ListLaws.{bits-more, bits-append, bits-drop, number-leading}
use Rattle.prv_arith.proofs.DivisionSteps.{divided_step-gives, length-divided_step}

-- what the rest of a division does: in each model in which what is left is less than the divisor
pub record Divides (d q r xs : List Bit) (s : Circuit) (run : Run (List Bit × List Bit)) : Type 0 where
  pub grows : Grows (length xs * (18 * length d + 9)) s run.circuit
  pub inside : AreLists run.circuit.formula.vars run.out
  pub quotient_length : length run.out.0 ≡ length q + length xs
  pub rest_length : length run.out.1 ≤ length d
  pub value : (v : ℕ → Bool) → IsModel v run.circuit.formula → number (values v r) < number (values v d) →
      (values v run.out.0 ≡ values v q ++ quotient (values v d) (values v r) (values v xs))
      × (number (values v run.out.1) ≡ number (rest (values v d) (values v r) (values v xs)))

bit-le : (b : Bool) → bit b ≤ 1
bit-le true = omega arith
bit-le false = omega arith

-- one step and those that follow, as numbers
module _ (D R X Q Q' F G L : List Bool) (x f : Bool) (small : number R < number D) where
  less-next : number (R ++ x ∷ []) < number D + number D
  less-next = omega (arith, number-append R (x ∷ []), bit-le x)

  -- F is what the step left, with zeros left out
  module _ (left : number F ≡ number (reduce D (R ++ x ∷ []))) where
    pub less-left : number F < number D
    less-left = omega (arith, left, (reduce-is D (R ++ x ∷ []) less-next).1)

    pub quotient-step : f ≡ fits D (R ++ x ∷ []) → Q' ≡ Q ++ f ∷ [] → L ≡ Q' ++ quotient D F X → L ≡ Q ++ quotient D R (x ∷ X)
    quotient-step e a b =
        b ∙ ap₂ (λ (m k : List Bool). m ++ k) (a ∙ ap (λ (t : Bool). Q ++ t ∷ []) e) (one-quotient D D F (reduce D (R ++ x ∷ [])) X refl left less-left)
        ∙ append_assoc Q (fits D (R ++ x ∷ []) ∷ []) (quotient D (reduce D (R ++ x ∷ [])) X)

    pub rest-step : number G ≡ number (rest D F X) → number G ≡ number (rest D R (x ∷ X))
    rest-step e = e ∙ one-rest D D F (reduce D (R ++ x ∷ [])) X refl left less-left

pub divided_on-gives : (d q r xs : List Bit) (s : Circuit) → IsCircuit s → AllBits s.formula.vars d → AllBits s.formula.vars q → AllBits s.formula.vars r → AllBits s.formula.vars xs →
    length r ≤ length d → s.formula.vars + length xs * (18 * length d + 9) ≤ MAX_VARS → Divides d q r xs s (divided_on d q r xs s)
divided_on-gives d q r [] s h hd hq hr hxs short room = record {
  grows = grows-here (0 * (18 * length d + 9)) s h;
  inside = (hq, hr);
  quotient_length = omega arith;
  rest_length = short;
  value = λ v model small. (sym (append-nil (values v q)), refl);
}
divided_on-gives d q r (x ∷ xs) s h hd hq hr hxs short room =
    let n = s.formula.vars in
    let k = 18 * length d + 9 in
    let now = r ++ x ∷ [] in
    let lr : length now ≡ length r + 1 = length-append r (x ∷ []) in
    let st = divided_step d now s in
    let t = st.circuit in
    let m = t.formula.vars in
    let c = leading t.known st.out.1 in
    let r' = drop c st.out.1 in
    let step = divided_step-gives d now s h hd (bits-append n r (x ∷ []) hr (hxs.0, tt)) (omega (arith, lr, short)) (omega (arith, room)) in
    let more = step.grows.vars_kept in
    let l : length r' ≤ length d = omega (arith, length-drop c st.out.1, length-divided_step d now s) in
    let later =
    divided_on-gives d (q ++ st.out.0 ∷ []) r' xs t step.grows.circuit (bits-more n m d more hd)
    (bits-append m q (st.out.0 ∷ []) (bits-more n m q more hq) (step.inside.0, tt)) (bits-drop m c st.out.1 step.inside.1) (bits-more n m xs more hxs.1) l
    (omega (arith, room, step.grows.vars_cost)) in
    record {
      grows = grows-more (k + length xs * k) (length (x ∷ xs) * k) s _ (omega arith) (grows-then k (length xs * k) s t _ step.grows later.grows);
      inside = later.inside;
      quotient_length = later.quotient_length ∙ omega (arith, length-append q (st.out.0 ∷ []));
      rest_length = later.rest_length;
      value = λ v model small.
          let model' = later.grows.restricts v model in
          let same = map-append (bit_value v) r (x ∷ []) in
          let both = step.value v model' ∙ ap (λ (b : List Bool). (fits (values v d) b, reduce (values v d) b)) same in
          let left = number-leading t step.grows.circuit v model' st.out.1 step.inside.1 ∙ ap (λ (p : Bool × List Bool). number p.1) both in
          let less = less-left (values v d) (values v r) (values v xs) [] [] (values v r') [] [] (bit_value v x) false small left in
          let ends = later.value v model less in (
            quotient-step (values v d) (values v r) (values v xs) (values v q) (values v (q ++ st.out.0 ∷ [])) (values v r') [] _ (bit_value v x) (bit_value v st.out.0) small left
                (ap (λ (p : Bool × List Bool). p.0) both) (map-append (bit_value v) q (st.out.0 ∷ [])) ends.0,
            rest-step (values v d) (values v r) (values v xs) [] [] (values v r') _ [] (bit_value v x) false small left ends.1,
          );
    }
