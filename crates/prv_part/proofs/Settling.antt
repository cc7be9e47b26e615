-- When an empty region, and one of which nothing is decided, is settled.
use Rattle.std.proofs.Common.{◌≡◌, ℕ, ◌<◌, ◌^◌, true, false, List, [], ◌∷◌, length, ℤ, None, pos, refl, sym, ap, subst, ◌∙◌, arith}
use Rattle.prv_model.specs.Words.{is_word}
use Rattle.prv_model.specs.Terms.{holds}
use Rattle.prv_model.specs.Boards.{IsInput}
use Rattle.prv_model.specs.declared.entry.Kind.TheVariants as k
use Rattle.prv_model.specs.declared.entry.Reason.{Reason}
use Rattle.prv_model.specs.declared.entry.Reason.TheVariants.{Wide}
use Rattle.prv_model.specs.declared.program.Pair.{Pair}
use Rattle.prv_model.specs.declared.term.Term.{Term}
use Rattle.prv_model.specs.declared.term.Term.TheVariants.{Num}
use Rattle.prv_model.proofs.TermLemmas.{term_value-Num}
use Rattle.prv_sym.proofs.SymbolLaws.{num-term}
use Rattle.prv_part.specs.Parts.{Other, unmarked, IsOver}
use Rattle.prv_part.specs.Settlements.{finding, IsSettlement}
use Rattle.prv_part.specs.declared.shape.Shape.TheVariants.{Empty, Stuck}
use Rattle.prv_part.proofs.Covering.{parts-cover}
use Rattle.prv_part.proofs.Truths.{empty-true, stuck-true}

pub empty-settled : (pair : Pair) (entry : ℕ) (region : List Term) (numbers : ℕ) → ((x : List ℤ) → IsInput pair.before.params x → holds region x ≡ false) → length region < 2 ^ 62 → numbers < 2 ^ 62 → IsOver pair.before.params region →
    IsSettlement (finding pair entry region None Empty (unmarked k.Empty region ∷ []) numbers)
empty-settled pair entry region numbers none short few over = record {
  run = refl;
  member = tt;
  parts = (Other.Left Wide, Wide, refl);
  once = parts-cover pair pair.before.params region Empty [] (Other.Left Wide) Wide;
  true_parts = empty-true pair region [] (Other.Left Wide) Wide none;
  over = (over, tt);
  few_parts = omega arith;
  few_numbers = few;
  few_literals = omega arith;
}

pub stuck-settled : (pair : Pair) (entry : ℕ) (region : List Term) (why : Reason) (numbers : ℕ) → length region < 2 ^ 62 → numbers < 2 ^ 62 → IsOver pair.before.params region →
    IsSettlement (finding pair entry region None Stuck (unmarked (k.Undecided why) region ∷ []) numbers)
stuck-settled pair entry region why numbers short few over = record {
  run = tt;
  member = tt;
  parts = (Other.Left why, why, refl);
  once = parts-cover pair pair.before.params region Stuck [] (Other.Left why) why;
  true_parts = stuck-true pair region [] (Other.Left why) why;
  over = (over, tt);
  few_parts = omega arith;
  few_numbers = few;
  few_literals = omega arith;
}

-- a region of one condition, and one whose condition is 0
pub one-short : (region : List Term) (t : Term) → region ≡ t ∷ [] → length region < 2 ^ 62
one-short region t e = let long : length region ≡ 1 = ap (λ (r : List Term). length r) e in omega arith

pub zero-none : (region : List Term) (x : List ℤ) → region ≡ Num (pos 0) ∷ [] → holds region x ≡ false
zero-none region x e = ap (λ (r : List Term). holds r x) e ∙ rw (term_value-Num (pos 0) x) refl

-- the region of one number speaks of no parameter
pub number-over : (n : ℕ) (region : List Term) (w : ℤ) → is_word w ≡ true → region ≡ Num w ∷ [] → IsOver n region
number-over n region w word e = let P : List Term → Type 0 = λ r. IsOver n r in subst P (sym e) (num-term n w word, tt)
