-- A condition that is the number 1 holds everywhere, so a slice may leave it out.
use Rattle.std.proofs.Common.{◌≡◌, Bool, true, false, ◌&&◌, not, List, [], ◌∷◌, ℤ, pos, refl, sym, ap, ◌∙◌, if◌then◌else◌, unwrap_or}
use Rattle.std.specs.Prelude.{filter}
use Rattle.std.specs.Option.{option_map}
use Rattle.std.specs.Ordering.{int_eq}
use Rattle.std.specs.Cmp.{signed_Decides}
use Rattle.prv_model.specs.Words.{is_zero}
use Rattle.prv_model.specs.Terms.{term_value, holds}
use Rattle.prv_model.proofs.TermLemmas.{term_value-Num}
use Rattle.prv_model.specs.declared.term.Term.{Term, roll-Term, out-Term, roll-out-Term}
use Rattle.prv_model.specs.declared.term.Term.TheOpen.{Term-F}
use Rattle.prv_model.specs.declared.term.Term.TheVariants.{Num, rolls-Num}
use Rattle.prv_pool.specs.Folding.{node_number, is_number}
use Rattle.prv_general.specs.Slices.{says_something}

-- a term that is the number 1
one-is : (t : Term) → is_number (pos 1) t ≡ true → t ≡ Num (pos 1)
one-is t e = sym (roll-out-Term t) ∙ by (out-Term t) e
  where
    by : (z : Term-F Term) → unwrap_or (option_map (int_eq (pos 1)) (node_number z)) false ≡ true → roll-Term z ≡ Num (pos 1)
    by (Term-F.Param j) e = cc e
    by (Term-F.Op op a b) e = cc e
    by (Term-F.Pick c a b) e = cc e
    by (Term-F.Num m) e = rolls-Num m ∙ ap (λ (i : ℤ). Num i) (sym ((signed_Decides (pos 1) m).0 e))

one-holds : (t : Term) (y : List ℤ) → is_number (pos 1) t ≡ true → not (is_zero (term_value t y)) ≡ true
one-holds t y e = ap (λ (u : Term). not (is_zero (term_value u y))) (one-is t e) ∙ ap (λ (n : ℤ). not (is_zero n)) (term_value-Num (pos 1) y)

-- what says something holds where all do
pub holds-filtered : (ts : List Term) (y : List ℤ) → holds (filter says_something ts) y ≡ holds ts y
holds-filtered [] y = refl
holds-filtered (t ∷ ts) y = by (is_number (pos 1) t) refl (holds-filtered ts y)
  where
    by : (z : Bool) → is_number (pos 1) t ≡ z → holds (filter says_something ts) y ≡ holds ts y → holds (if not z then t ∷ filter says_something ts else filter says_something ts) y ≡ holds (t ∷ ts) y
    by true is rest = rest ∙ sym (ap (λ (c : Bool). c && holds ts y) (one-holds t y is))
    by false is rest = ap (λ (c : Bool). not (is_zero (term_value t y)) && c) rest
