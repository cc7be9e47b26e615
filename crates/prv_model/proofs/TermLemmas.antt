-- What terms are worth, variant by variant, and which inputs a longer region holds.
use Rattle.std.proofs.Common.{◌≡◌, ℕ, Bool, true, false, ◌&&◌, not, List, [], ◌∷◌, ◌++◌, ℤ, pos, refl, sym, ap, ◌∙◌, slice_get, unwrap_or, if◌then◌else◌}
use Rattle.prv_model.specs.Words.{is_zero, flag}
use Rattle.prv_model.specs.Terms.{term_value, node_term_value, total, holds}
use Rattle.prv_model.specs.declared.op.TermOp.{TermOp}
use Rattle.prv_model.specs.declared.term.Term.{Term, Term-F, fold-roll-Term}
use Rattle.prv_model.specs.declared.term.Term.TheVariants.{Param, Op, Pick, Num, rolls-Param, rolls-Op, rolls-Pick, rolls-Num}

pub term_value-Param : (k : ℕ) (x : List ℤ) → term_value (Param k) x ≡ unwrap_or (slice_get x k) (pos 0)
term_value-Param k x = ap (λ (t : Term). term_value t x) (sym (rolls-Param k)) ∙ ap (λ (f : List ℤ → ℤ). f x) (fold-roll-Term (List ℤ → ℤ) node_term_value (Term-F.Param k))

pub term_value-Num : (n : ℤ) (x : List ℤ) → term_value (Num n) x ≡ n
term_value-Num n x = ap (λ (t : Term). term_value t x) (sym (rolls-Num n)) ∙ ap (λ (f : List ℤ → ℤ). f x) (fold-roll-Term (List ℤ → ℤ) node_term_value (Term-F.Num n))

pub term_value-Op : (op : TermOp) (a b : Term) (x : List ℤ) → term_value (Op op a b) x ≡ total op (term_value a x) (term_value b x)
term_value-Op op a b x = ap (λ (t : Term). term_value t x) (sym (rolls-Op op a b)) ∙ ap (λ (f : List ℤ → ℤ). f x) (fold-roll-Term (List ℤ → ℤ) node_term_value (Term-F.Op op a b))

pub term_value-Pick : (test chosen other : Term) (x : List ℤ) → term_value (Pick test chosen other) x ≡ (if is_zero (term_value test x) then term_value other x else term_value chosen x)
term_value-Pick test chosen other x = ap (λ (t : Term). term_value t x) (sym (rolls-Pick test chosen other)) ∙ ap (λ (f : List ℤ → ℤ). f x) (fold-roll-Term (List ℤ → ℤ) node_term_value (Term-F.Pick test chosen other))

-- a flag is nonzero where it is set
pub is_zero-flag : (b : Bool) → not (is_zero (flag b)) ≡ b
is_zero-flag true = refl
is_zero-flag false = refl

and_assoc : (a b c : Bool) → (a && b) && c ≡ a && (b && c)
and_assoc true b c = refl
and_assoc false b c = refl

-- a region with more terms holds what both parts hold
pub holds-append : (a b : List Term) (x : List ℤ) → holds (a ++ b) x ≡ (holds a x && holds b x)
holds-append [] b x = refl
holds-append (t ∷ a) b x =
    ap (λ (c : Bool). not (is_zero (term_value t x)) && c) (holds-append a b x) ∙ sym (and_assoc (not (is_zero (term_value t x))) (holds a x) (holds b x))
