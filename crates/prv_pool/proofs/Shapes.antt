-- What the definitions on terms say, variant by variant.
use Rattle.std.proofs.Common.{◌≡◌, ℕ, Bool, true, false, ◌&&◌, ◌||◌, List, [], ◌∷◌, ◌++◌, ℤ, pos, sym, ap, ◌∙◌, if◌then◌else◌}
use Rattle.std.specs.Ordering.{int_eq}
use Rattle.std.specs.Prelude.{is_none}
use Rattle.std.specs.List.{list_all}
use Rattle.prv_model.specs.declared.op.TermOp.{TermOp}
use Rattle.prv_model.specs.declared.term.Term.{Term, out-Term, out-roll-Term}
use Rattle.prv_model.specs.declared.term.Term.TheVariants.{Param, Op, Pick, Num, rolls-Param, rolls-Op, rolls-Pick, rolls-Num}
use Rattle.prv_model.specs.declared.term.Term.TheOpen.{Term-F}
use Rattle.prv_model.specs.declared.term.Term.TheFolds.{fold-roll-Term, para-roll-Term}
use Rattle.prv_pool.specs.Folding.{is_truth_shaped, node_is_truth, compares, joins, is_settled, pick_rules, is_folded, node_is_folded}
use Rattle.prv_pool.specs.Tables.{has_term, add_term, node_added}

-- ---- nodes of terms

pub out-Param : (k : ℕ) → out-Term (Param k) ≡ Term-F.Param k
out-Param k = ap out-Term (sym (rolls-Param k)) ∙ out-roll-Term (Term-F.Param k)

pub out-Op : (op : TermOp) (a b : Term) → out-Term (Op op a b) ≡ Term-F.Op op a b
out-Op op a b = ap out-Term (sym (rolls-Op op a b)) ∙ out-roll-Term (Term-F.Op op a b)

pub out-Pick : (t a b : Term) → out-Term (Pick t a b) ≡ Term-F.Pick t a b
out-Pick t a b = ap out-Term (sym (rolls-Pick t a b)) ∙ out-roll-Term (Term-F.Pick t a b)

pub out-Num : (n : ℤ) → out-Term (Num n) ≡ Term-F.Num n
out-Num n = ap out-Term (sym (rolls-Num n)) ∙ out-roll-Term (Term-F.Num n)

-- ---- truth-shaped terms

pub truth-Param : (k : ℕ) → is_truth_shaped (Param k) ≡ false
truth-Param k = ap is_truth_shaped (sym (rolls-Param k)) ∙ fold-roll-Term Bool node_is_truth (Term-F.Param k)

pub truth-Op : (op : TermOp) (a b : Term) → is_truth_shaped (Op op a b) ≡ (compares op || (joins op && (is_truth_shaped a && is_truth_shaped b)))
truth-Op op a b = ap is_truth_shaped (sym (rolls-Op op a b)) ∙ fold-roll-Term Bool node_is_truth (Term-F.Op op a b)

pub truth-Pick : (t a b : Term) → is_truth_shaped (Pick t a b) ≡ (is_truth_shaped a && is_truth_shaped b)
truth-Pick t a b = ap is_truth_shaped (sym (rolls-Pick t a b)) ∙ fold-roll-Term Bool node_is_truth (Term-F.Pick t a b)

pub truth-Num : (n : ℤ) → is_truth_shaped (Num n) ≡ (int_eq (pos 0) n || int_eq (pos 1) n)
truth-Num n = ap is_truth_shaped (sym (rolls-Num n)) ∙ fold-roll-Term Bool node_is_truth (Term-F.Num n)

-- ---- folded terms

pub folded-Param : (k : ℕ) → is_folded (Param k) ≡ true
folded-Param k = ap is_folded (sym (rolls-Param k)) ∙ para-roll-Term Bool node_is_folded (Term-F.Param k)

pub folded-Op : (op : TermOp) (a b : Term) → is_folded (Op op a b) ≡ ((is_folded a && is_folded b) && is_settled op a b)
folded-Op op a b = ap is_folded (sym (rolls-Op op a b)) ∙ para-roll-Term Bool node_is_folded (Term-F.Op op a b)

pub folded-Pick : (t a b : Term) → is_folded (Pick t a b) ≡ ((is_folded t && (is_folded a && is_folded b)) && list_all is_none (pick_rules t a b))
folded-Pick t a b = ap is_folded (sym (rolls-Pick t a b)) ∙ para-roll-Term Bool node_is_folded (Term-F.Pick t a b)

pub folded-Num : (n : ℤ) → is_folded (Num n) ≡ true
folded-Num n = ap is_folded (sym (rolls-Num n)) ∙ para-roll-Term Bool node_is_folded (Term-F.Num n)

-- ---- a list with a term

pub add-Param : (k : ℕ) (ts : List Term) → add_term (Param k) ts ≡ (if has_term ts (Param k) then ts else ts ++ Param k ∷ [])
add-Param k ts =
    ap (λ (t : Term). add_term t ts) (sym (rolls-Param k))
    ∙ ap (λ (f : List Term → List Term). f ts) (para-roll-Term (List Term → List Term) node_added (Term-F.Param k))
    ∙ ap (λ (t : Term). if has_term ts t then ts else ts ++ t ∷ []) (rolls-Param k)

pub add-Op : (op : TermOp) (a b : Term) (ts : List Term) → add_term (Op op a b) ts ≡ (if has_term ts (Op op a b) then ts else add_term b (add_term a ts) ++ Op op a b ∷ [])
add-Op op a b ts =
    ap (λ (t : Term). add_term t ts) (sym (rolls-Op op a b))
    ∙ ap (λ (f : List Term → List Term). f ts) (para-roll-Term (List Term → List Term) node_added (Term-F.Op op a b))
    ∙ ap (λ (t : Term). if has_term ts t then ts else add_term b (add_term a ts) ++ t ∷ []) (rolls-Op op a b)

pub add-Pick : (t a b : Term) (ts : List Term) → add_term (Pick t a b) ts ≡ (if has_term ts (Pick t a b) then ts else add_term b (add_term a (add_term t ts)) ++ Pick t a b ∷ [])
add-Pick t a b ts =
    ap (λ (u : Term). add_term u ts) (sym (rolls-Pick t a b))
    ∙ ap (λ (f : List Term → List Term). f ts) (para-roll-Term (List Term → List Term) node_added (Term-F.Pick t a b))
    ∙ ap (λ (u : Term). if has_term ts u then ts else add_term b (add_term a (add_term t ts)) ++ u ∷ []) (rolls-Pick t a b)

pub add-Num : (n : ℤ) (ts : List Term) → add_term (Num n) ts ≡ (if has_term ts (Num n) then ts else ts ++ Num n ∷ [])
add-Num n ts =
    ap (λ (t : Term). add_term t ts) (sym (rolls-Num n))
    ∙ ap (λ (f : List Term → List Term). f ts) (para-roll-Term (List Term → List Term) node_added (Term-F.Num n))
    ∙ ap (λ (t : Term). if has_term ts t then ts else ts ++ t ∷ []) (rolls-Num n)
