-- An operator that stands in a table of folded terms is found there.
use Rattle.std.proofs.Common.{◌≡◌, ℕ, ◌<◌, true, List, length, Option, Some, None, slice_get, sym, ap, ◌∙◌}
use Rattle.std.specs.Prelude.{IfSome}
use Rattle.prv_model.specs.declared.op.TermOp.{TermOp}
use Rattle.prv_model.specs.declared.term.Term.{Term}
use Rattle.prv_model.specs.declared.term.Term.TheVariants.{Op}
use Rattle.prv_pool.specs.Folding.{exchanges, folded, is_folded}
use Rattle.prv_pool.specs.Tables.{term_at}
use Rattle.prv_pool.proofs.NodeLemmas.{get-within, term_at-some}
use Rattle.prv_pool.proofs.FoldedLemmas.{folded-is, turned-is}

-- in the order that is asked for
pub found-same : (ts : List Term) (op : TermOp) (a b n : ℕ) → ((i : ℕ) → i < length ts → is_folded (term_at ts i) ≡ true) → slice_get ts n ≡ Some (Op op (term_at ts a) (term_at ts b))
    → term_at ts n ≡ folded op (term_at ts a) (term_at ts b)
found-same ts op a b n all e =
    let at = term_at-some ts n _ e in
    at ∙ sym (folded-is op (term_at ts a) (term_at ts b) (sym (ap is_folded at) ∙ all n (get-within ts n _ e)))

-- in the other order
found-turned : (ts : List Term) (op : TermOp) (a b n : ℕ) → exchanges op ≡ true → ((i : ℕ) → i < length ts → is_folded (term_at ts i) ≡ true) → slice_get ts n ≡ Some (Op op (term_at ts b) (term_at ts a))
    → term_at ts n ≡ folded op (term_at ts a) (term_at ts b)
found-turned ts op a b n x all e =
    let at = term_at-some ts n _ e in
    at ∙ sym (turned-is op (term_at ts a) (term_at ts b) x (sym (ap is_folded at) ∙ all n (get-within ts n _ e)))

-- what a look-up answers, if it answers
pub found-within : (ts : List Term) (t : Term) (o : Option ℕ) → IfSome o (λ n. slice_get ts n ≡ Some t) → IfSome o (λ n. n < length ts)
found-within ts t None h = tt
found-within ts t (Some n) h = get-within ts n t h

pub found-turned-if : (ts : List Term) (op : TermOp) (a b : ℕ) (o : Option ℕ) → exchanges op ≡ true → ((i : ℕ) → i < length ts → is_folded (term_at ts i) ≡ true) → IfSome o (λ n. slice_get ts n ≡ Some (Op op (term_at ts b) (term_at ts a)))
    → IfSome o (λ n. term_at ts n ≡ folded op (term_at ts a) (term_at ts b))
found-turned-if ts op a b None x all h = tt
found-turned-if ts op a b (Some n) x all h = found-turned ts op a b n x all h
