-- Nodes of a table and their terms.
use Rattle.std.proofs.Common.{◌≡◌, ℕ, suc, ◌<◌, Bool, true, false, ◌||◌, nat_eq, List, [], ◌∷◌, length, refl, sym, ap, ◌∙◌, arith, eq-eqb}
use Rattle.std.specs.List.{list_any}
use Rattle.prv_model.specs.TermOrder.{same_term}
use Rattle.prv_model.specs.declared.term.Term.{Term}
use Rattle.prv_model.proofs.OrderLemmas.{same_term-same}
use Rattle.prv_pool.specs.Tables.{Table, IsTable, term_at, has_term}
use Rattle.prv_general.specs.Answers.{terms_at}
use Rattle.prv_settle.specs.Making.{AreNodes}

pub first-node : (terms : List Term) (n : ℕ) (ns : List ℕ) → AreNodes terms (n ∷ ns) → n < length terms
first-node terms n ns h = h 0 n (omega arith)

pub other-nodes : (terms : List Term) (n : ℕ) (ns : List ℕ) → AreNodes terms (n ∷ ns) → AreNodes terms ns
other-nodes terms n ns h = λ k d below. h (suc k) d (omega (arith, below))

-- two nodes are one exactly where their terms are
same-node : (table : Table) → IsTable table → (n m : ℕ) → n < length table.terms → m < length table.terms → nat_eq n m ≡ same_term (term_at table.terms n) (term_at table.terms m)
same-node table kept n m hn hm = by (nat_eq n m) (same_term (term_at table.terms n) (term_at table.terms m)) refl refl
  where
    by : (b c : Bool) → nat_eq n m ≡ b → same_term (term_at table.terms n) (term_at table.terms m) ≡ c → nat_eq n m ≡ same_term (term_at table.terms n) (term_at table.terms m)
    by true c e f =
        let same : n ≡ m = grind (arith, e) in
        e ∙ sym ((same_term-same (term_at table.terms n) (term_at table.terms m)).1 (ap (λ (k : ℕ). term_at table.terms k) same))
    by false true e f =
        let same : n ≡ m = kept.distinct n m hn hm ((same_term-same (term_at table.terms n) (term_at table.terms m)).0 f) in
        eq-eqb n m same ∙ sym f
    by false false e f = e ∙ sym f

-- a node is among some nodes exactly where its term is among their terms
pub contains-term : (table : Table) → IsTable table → (ns : List ℕ) (n : ℕ) → AreNodes table.terms ns → n < length table.terms → list_any (nat_eq n) ns ≡ has_term (terms_at table.terms ns) (term_at table.terms n)
contains-term table kept [] n h hn = refl
contains-term table kept (m ∷ ns) n h hn =
    let here = same-node table kept n m hn (first-node table.terms m ns h) in
    let rest = contains-term table kept ns n (other-nodes table.terms m ns h) hn in
    λ i. here i || rest i
