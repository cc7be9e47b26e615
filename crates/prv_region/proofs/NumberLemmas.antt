-- Nodes with the numbers that their operands have in another table.
use Rattle.std.proofs.Common.{◌≡◌, ℕ, ◌<◌, true, List, length, Option, Some, None, slice_get, refl, sym, ◌∙◌, subst}
use Rattle.prv_model.specs.declared.op.TermOp.{TermOp}
use Rattle.prv_model.specs.declared.term.Term.{Term}
use Rattle.prv_model.specs.declared.term.Term.TheVariants.{Op, Pick}
use Rattle.prv_pool.specs.Tables.{has_term, add_term, term_at}
use Rattle.prv_pool.specs.Nodes.{node_term, AreBelow}
use Rattle.prv_region.specs.Numbers.{number_at, Stands, Renumbers, with_number, renumbered}
use Rattle.prv_pool.specs.declared.node.Node.{Node}
use Rattle.prv_pool.specs.declared.node.Node.TheVariants as node
use Rattle.prv_region.specs.declared.numbers.Renumbering.{Renumbering}
use Rattle.prv_region.specs.declared.numbers.Renumbering.TheVariants.{Ready, Lacks}
use Rattle.prv_pool.proofs.NodeLemmas.{get-within, term_at-some}
use Rattle.prv_pool.proofs.TableLemmas.{IsClosed, has-at}
use Rattle.prv_pool.proofs.AddLemmas.{op-first-left, op-first-right, pick-first-test, pick-first-left, pick-first-right}

-- what renumbering says of a node whose operands are below n
abbrev Fits : List Term → List Term → List (Option ℕ) → ℕ → Node → Renumbering → Type 0
Fits from into numbers n k (Ready m) = AreBelow (length into) m × (node_term into m ≡ node_term from k)
Fits from into numbers n k (Lacks a) =
    (a < n) × (number_at numbers a ≡ None) × (has_term into (node_term from k) ≡ true → has_term into (term_at from a) ≡ true)
    × (add_term (node_term from k) (add_term (term_at from a) into) ≡ add_term (node_term from k) into)

module _ (from into : List Term) (numbers : List (Option ℕ)) (n : ℕ) (closed : IsClosed into) (stands : Stands from into numbers) where
  low : (k : ℕ) → k < n → (m : ℕ) → number_at numbers k ≡ Some m → m < length into
  low k h m e = get-within into m _ (stands.at k m e)

  same : (k : ℕ) → k < n → (m : ℕ) → number_at numbers k ≡ Some m → term_at into m ≡ term_at from k
  same k h m e = term_at-some into m _ (stands.at k m e)

  there : (k : ℕ) → k < n → (m : ℕ) → number_at numbers k ≡ Some m → has_term into (term_at from k) ≡ true
  there k h m e = has-at into m _ (stands.at k m e)

  fits-op : (o : TermOp) (a b : ℕ) → a < n → b < n → (x y : Option ℕ) → number_at numbers a ≡ x → number_at numbers b ≡ y
      → Fits from into numbers n (node.Op o a b) (with_number x a (λ u. with_number y b (λ v. Ready (node.Op o u v))))
  fits-op o a b ha hb None y e f = (ha, e, λ h. (closed.0 o _ _ h).0, op-first-left o _ _ into closed)
  fits-op o a b ha hb (Some u) None e f = (hb, f, λ h. (closed.0 o _ _ h).1, op-first-right o _ _ into closed (there a ha u e))
  fits-op o a b ha hb (Some u) (Some v) e f = ((low a ha u e, low b hb v f), λ i. Op o (same a ha u e i) (same b hb v f i))

  fits-pick : (t a b : ℕ) → t < n → a < n → b < n → (w x y : Option ℕ) → number_at numbers t ≡ w → number_at numbers a ≡ x → number_at numbers b ≡ y
      → Fits from into numbers n (node.Pick t a b) (with_number w t (λ s. with_number x a (λ u. with_number y b (λ v. Ready (node.Pick s u v)))))
  fits-pick t a b ht ha hb None x y d e f = (ht, d, λ h. (closed.1 _ _ _ h).0, pick-first-test _ _ _ into closed)
  fits-pick t a b ht ha hb (Some s) None y d e f = (ha, e, λ h. (closed.1 _ _ _ h).1, pick-first-left _ _ _ into closed (there t ht s d))
  fits-pick t a b ht ha hb (Some s) (Some u) None d e f = (hb, f, λ h. (closed.1 _ _ _ h).2, pick-first-right _ _ _ into closed (there t ht s d) (there a ha u e))
  fits-pick t a b ht ha hb (Some s) (Some u) (Some v) d e f =
      ((low t ht s d, low a ha u e, low b hb v f), λ i. Pick (same t ht s d i) (same a ha u e i) (same b hb v f i))

  pub fits : (k : Node) → AreBelow n k → Fits from into numbers n k (renumbered numbers k)
  fits (node.Param j) h = (tt, refl)
  fits (node.Num j) h = (tt, refl)
  fits (node.Op o a b) h = fits-op o a b h.0 h.1 (number_at numbers a) (number_at numbers b) refl refl
  fits (node.Pick t a b) h = fits-pick t a b h.0 h.1 h.2 (number_at numbers t) (number_at numbers a) (number_at numbers b) refl refl refl

as-renumbers : (from into : List Term) (numbers : List (Option ℕ)) (n : ℕ) (k : Node) (r : Renumbering) → node_term from k ≡ term_at from n → Fits from into numbers n k r → Renumbers from into numbers n r
as-renumbers from into numbers n k (Ready m) e fit = (fit.0, fit.1 ∙ e)
as-renumbers from into numbers n k (Lacks a) e fit =
    let P : Term → Type 0 = λ t. (has_term into t ≡ true → has_term into (term_at from a) ≡ true) × (add_term t (add_term (term_at from a) into) ≡ add_term t into) in
    let both = subst P e (fit.2, fit.3) in
    (fit.0, fit.1, both.0, both.1)

pub renumbers : (from into : List Term) (numbers : List (Option ℕ)) (n : ℕ) (k : Node) → IsClosed into → Stands from into numbers → slice_get from n ≡ Some (node_term from k) → AreBelow n k
    → Renumbers from into numbers n (renumbered numbers k)
renumbers from into numbers n k closed stands e below = as-renumbers from into numbers n k (renumbered numbers k) (sym (term_at-some from n _ e)) (fits from into numbers n closed stands k below)
