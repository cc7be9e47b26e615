-- No input meets a condition whose formula a log refutes.
use Rattle.std.proofs.Common.{◌≡◌, ℕ, zero, suc, [], ◌∷◌, ◌≤◌, ◌<◌, Bool, true, false, List, take, ℤ, refl, sym, ◌∙◌, arith, slice_get}
use Rattle.std.specs.List.{AllByRecursion}
use Rattle.std.proofs.lemmas.List.{length-take}
use Rattle.std.proofs.lemmas.List.Elements.{All-take}
use Rattle.prv_model.specs.Words.{IsWord}
use Rattle.prv_model.specs.Boards.{IsInput}
use Rattle.prv_model.specs.Terms.{IsTerm, holds}
use Rattle.prv_model.specs.declared.term.Term.{Term}
use Rattle.prv_cnf.specs.Formulas.{IsFormula}
use Rattle.prv_blast.specs.Formulas.{formula}
use Rattle.prv_blast.specs.Subterms.{param_count, cost}
use Rattle.prv_blast.proofs.Standing.{encodes-formula, formula-stands, params-over, params-least}
use Rattle.prv_check.specs.LogLines.{LogLine}
use Rattle.prv_check.proofs.Refuting.{accepted_refutes}
use Rattle.prv_settle.specs.Grounds.{IsRefuted}
use Rattle.prv_settle.proofs.Fronts.{Alike, holds-alike, all-wider}

is-formula : (condition : List Term) → AllByRecursion (IsTerm 8) condition → cost condition ≤ 1500000 → IsFormula (formula condition)
is-formula condition known cheap = (encodes-formula condition known cheap).circuit.formula

get-front : (n : ℕ) (x : List ℤ) (k : ℕ) → k < n → slice_get (take n x) k ≡ slice_get x k
get-front zero x k h = absurd (omega (arith, h))
get-front (suc n) [] k h = refl
get-front (suc n) (w ∷ x) zero h = refl
get-front (suc n) (w ∷ x) (suc k) h = get-front n x k (omega (arith, h))

-- the first words of an input are an input
front-input : (n m : ℕ) (x : List ℤ) → n ≤ m → IsInput m x → IsInput n (take n x)
front-input n m x le h = record {
  long = length-take n x ∙ omega (arith, le, h.long);
  words = All-take IsWord n x h.words;
}

pub refuted-none : (n : ℕ) (condition : List Term) (log : List LogLine) → n ≤ 8 → AllByRecursion (IsTerm n) condition → IsRefuted condition log → (x : List ℤ) → IsInput n x → holds condition x ≡ false
refuted-none n condition log le known r x h = by (holds condition x) refl
  where
    none : holds condition x ≡ true → ⊥
    none met =
        let m = param_count condition in
        let few = params-least n condition known in
        let own = params-over n condition known in
        let eight = all-wider n 8 le condition known in
        let alike : Alike m x (take m x) = λ k below. sym (get-front m x k below) in
        let same = holds-alike m x (take m x) alike condition own in
        let model = (formula-stands condition eight r.cheap (take m x) (front-input m n x few h)).0 (sym same ∙ met) in
        accepted_refutes (formula condition) log (is-formula condition eight r.cheap) r.accepted model.0 model.1

    by : (z : Bool) → holds condition x ≡ z → holds condition x ≡ false
    by true e = absurd (none e)
    by false e = e
