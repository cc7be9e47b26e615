-- The clauses that are still to be examined: all others are open.
use Rattle.std.proofs.Common.{◌≡◌, ℕ, ◌+◌, ◌*◌, ◌<◌, ◌≤◌, ◌≢◌, Bool, true, false, List, [], ◌∷◌, ◌++◌, Option, None, length, get_or, eqb, ap, sym, ◌∙◌, subst, arith, ⊎_elim, length-append}
use Rattle.std.specs.List.{AllByRecursion}
use Rattle.std.proofs.lemmas.Bool.Decides.{eqb_tells}
use Rattle.std.proofs.lemmas.List.{get_or_append_left}
use Rattle.prv_cnf.specs.declared.literal.Lit.{Lit}
use Rattle.prv_cnf.specs.Literals.{negate, has_literal}
use Rattle.prv_cnf.specs.Formulas.{Formula, IsLiteral}
use Rattle.prv_gate.specs.Knowledge.{known_value}
use Rattle.prv_gate.specs.Examining.{examined, known_by, learned, unknown_count}
use Rattle.prv_gate.specs.Occurrences.{occurrences_of, is_listed, total, AreEntered, AreOpen, ArePending, IsOpen}
use Rattle.prv_gate.specs.declared.propagate.Examined.TheVariants.{Open, Forces}
use Rattle.prv_gate.proofs.Examination.{forces-one}
use Rattle.prv_gate.proofs.Reaching.{clause-at}
use Rattle.prv_gate.proofs.Learning.{learned-count}
use Rattle.prv_gate.proofs.Opening.{true-open, open-stays, learned-true, examined-alike}
use Rattle.prv_gate.proofs.Entering.{listed-first, listed-last, unlisted-both, unlisted-one, all-first, all-last, all-both, total-most}

pub popped-below : (cs : List (List Lit)) (known : List (Option Bool)) (pending front : List ℕ) (number : ℕ) → pending ≡ front ++ number ∷ [] → ArePending cs known pending → number < length cs
popped-below cs known pending front number popped h =
    (all-last (λ k. k < length cs) front (number ∷ []) (subst (AllByRecursion (λ k. k < length cs)) popped h.below)).0

module _ (f : Formula) (inside : AllByRecursion (AllByRecursion (IsLiteral f.vars)) f.clauses) (now next : List (Option Bool)) (size : length now ≡ f.vars)
    (pending front : List ℕ) (number : ℕ) (popped : pending ≡ front ++ number ∷ []) (h : ArePending f.clauses now pending)
    (lits : List Lit) (same : lits ≡ get_or f.clauses number []) (after : next ≡ known_by now (examined now None lits)) where
  both : ArePending f.clauses now (front ++ number ∷ [])
  both = subst (ArePending f.clauses now) popped h

  number-below : number < length f.clauses
  number-below = popped-below f.clauses now pending front number popped h

  front-below : AllByRecursion (λ k. k < length f.clauses) front
  front-below = all-first (λ k. k < length f.clauses) front (number ∷ []) both.below

  -- a clause that isn't pending any more is open, if it isn't the one that was examined
  others-open : (k : ℕ) → k < length f.clauses → is_listed k front ≡ false → k ≢ number → IsOpen f.clauses now k
  others-open k at absent apart = both.opened k at (unlisted-both k front (number ∷ []) absent (unlisted-one k number apart))

  -- an open clause
  pub pending-open : Open ≡ examined now None lits → ArePending f.clauses next front
  pending-open is =
      let stays : next ≡ now = after ∙ ap (known_by now) (sym is) in
      subst (λ (known : List (Option Bool)). ArePending f.clauses known front) (sym stays) (record {
        below = front-below;
        opened = λ k at absent. ⊎_elim
            (λ (here : (eqb k number ≡ true) × (k ≡ number)). ap (λ (j : ℕ). examined now None (get_or f.clauses j [])) here.1 ∙ ap (examined now None) (sym same) ∙ sym is)
            (λ (other : (eqb k number ≡ false) × (k ≢ number)). others-open k at absent other.1)
            (eqb_tells k number);
      })

  module _ (l : Lit) (is : Forces l ≡ examined now None lits) where
    at_number : examined now None (get_or f.clauses number []) ≡ Forces l
    at_number = ap (examined now None) (sym same) ∙ sym is

    one : (has_literal (get_or f.clauses number []) l ≡ true) × IsLiteral f.vars l
    one = let r = forces-one now f.vars l (get_or f.clauses number []) (clause-at f.vars f.clauses number inside) at_number in (r.0, r.3)

    here : IsLiteral (length now) l
    here = (one.1.0, omega (arith, one.1.1))

    pub forced-inside : IsLiteral f.vars l
    forced-inside = one.1

    is_learned : next ≡ learned now l
    is_learned = after ∙ ap (known_by now) (sym is)

    -- a clause that forces a literal is open then, and those in which the literal became false are pending
    pub pending-forces : (lists : List (List ℕ)) → AreEntered f.clauses (length f.clauses) lists → (occurrences : List ℕ) → occurrences ≡ occurrences_of lists (negate l) →
        (more : List ℕ) → more ≡ front ++ occurrences → ArePending f.clauses next more
    pending-forces lists entered occurrences are more extended =
        subst (ArePending f.clauses next) (sym extended) (subst (λ (known : List (Option Bool)). ArePending f.clauses known (front ++ occurrences)) (sym is_learned) (record {
          below = all-both (λ k. k < length f.clauses) front occurrences front-below (subst (AllByRecursion (λ k. k < length f.clauses)) (sym are) (entered.numbers (negate l)));
          opened = λ k at absent. ⊎_elim
              (λ (this : (eqb k number ≡ true) × (k ≡ number)).
              ap (λ (j : ℕ). examined (learned now l) None (get_or f.clauses j [])) this.1
              ∙ true-open (learned now l) l (learned-true now l here) (get_or f.clauses number []) None one.0)
              (λ (other : (eqb k number ≡ false) × (k ≢ number)).
              open-stays now l here (get_or f.clauses k [])
              (subst (λ (n : ℕ). AllByRecursion (IsLiteral n) (get_or f.clauses k [])) (sym size) (clause-at f.vars f.clauses k inside))
              (entered.stand k (negate l) at (ap (is_listed k) (sym are) ∙ listed-last k front occurrences absent)) None
              (others-open k at (listed-first k front occurrences absent) other.1))
              (eqb_tells k number);
        }))

    -- fewer variables aren't known then
    pub work-less : (lists : List (List ℕ)) (occurrences : List ℕ) → occurrences ≡ occurrences_of lists (negate l) → (more : List ℕ) → more ≡ front ++ occurrences →
        unknown_count next * (total lists + 1) + length more < unknown_count now * (total lists + 1) + length pending
    work-less lists occurrences are more extended =
        let count : unknown_count next + 1 ≡ unknown_count now = ap (λ (known : List (Option Bool)). unknown_count known + 1) is_learned ∙ learned-count f inside now size number number-below l at_number in
        let few : length occurrences ≤ total lists = subst (λ (xs : List ℕ). length xs ≤ total lists) (sym are) (total-most lists _) in
        let long : length pending ≡ length front + 1 = ap length popped ∙ length-append front (number ∷ []) in
        let split : unknown_count now * (total lists + 1) ≡ unknown_count next * (total lists + 1) + (total lists + 1) =
        ap (λ (n : ℕ). n * (total lists + 1)) (sym count) ∙ (omega arith) in
        let longer : length more ≡ length front + length occurrences = ap length extended ∙ length-append front occurrences in
        omega (arith, split, few, long, longer)

  -- the same variables are known where the clause was open
  pub work-open : Open ≡ examined now None lits → (total_count : ℕ) → unknown_count next * total_count + length front < unknown_count now * total_count + length pending
  work-open is n =
      let stays : next ≡ now = after ∙ ap (known_by now) (sym is) in
      let count : unknown_count next ≡ unknown_count now = ap unknown_count stays in
      let long : length pending ≡ length front + 1 = ap length popped ∙ length-append front (number ∷ []) in
      let split : unknown_count next * n ≡ unknown_count now * n = ap (λ (c : ℕ). c * n) count in
      omega (arith, split, long)

-- at the start the clauses that weren't entered before are pending
pub pending-new : (cs : List (List Lit)) (old known : List (Option Bool)) (n : ℕ) (lists : List (List ℕ)) (pending : List ℕ) → ((k : ℕ) → known_value old k ≡ known_value known k) →
    AreOpen cs old n lists → AllByRecursion (λ k. k < length cs) pending → ((k : ℕ) → k < length cs → is_listed k pending ≡ false → k < n) → ArePending cs known pending
pending-new cs old known n lists pending same h below new = record {
  below = below;
  opened = λ k at absent. sym (examined-alike old known same (get_or cs k []) None) ∙ h.opened k (new k at absent);
}

-- at the end all are open
pub all-open : (cs : List (List Lit)) (known : List (Option Bool)) (pending : List ℕ) → ArePending cs known pending → pending ≡ [] → (k : ℕ) → k < length cs → IsOpen cs known k
all-open cs known pending h none k at = h.opened k at (ap (is_listed k) none)

-- clauses that are added later aren't entered yet
pub open-none : (cs : List (List Lit)) (known : List (Option Bool)) (n : ℕ) (lists : List (List ℕ)) → n ≡ 0 → lists ≡ [] → AreOpen cs known n lists
open-none cs known n lists e f = subst (λ (m : ℕ). AreOpen cs known m lists) (sym e) (subst (λ (ls : List (List ℕ)). AreOpen cs known 0 ls) (sym f) (record {
  entered = record { below = omega arith; numbers = λ l. tt; stand = λ k l below absent. absurd (omega (arith, below)) };
  opened = λ k below. absurd (omega (arith, below));
}))

pub open-as : (cs ds : List (List Lit)) (known : List (Option Bool)) (n : ℕ) (lists : List (List ℕ)) → ds ≡ cs → AreOpen cs known n lists → AreOpen ds known n lists
open-as cs ds known n lists e h = subst (λ (c : List (List Lit)). AreOpen c known n lists) (sym e) h

pub open-more : (cs ds : List (List Lit)) (known : List (Option Bool)) (n : ℕ) (lists : List (List ℕ)) → AreOpen cs known n lists → AreOpen (cs ++ ds) known n lists
open-more cs ds known n lists h =
    let front : (k : ℕ) → k < n → get_or (cs ++ ds) k [] ≡ get_or cs k [] = λ k below. get_or_append_left cs ds [] k (omega (arith, below, h.entered.below)) in
    record {
      entered = record {
        below = omega (arith, h.entered.below, length-append cs ds);
        numbers = h.entered.numbers;
        stand = λ k l below absent. ap (λ (c : List Lit). has_literal c l) (front k below) ∙ h.entered.stand k l below absent;
      };
      opened = λ k below. ap (examined known None) (front k below) ∙ h.opened k below;
    }
