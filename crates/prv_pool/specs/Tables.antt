-- A table of terms: which term a number stands for, and by which terms a call makes the table grow.
use Rattle.std.specs.Prelude.{refl, ◌≡◌, ◌↔◌, ℕ, ◌<◌, ◌≤◌, Bool, true, List, [], ◌∷◌, ◌++◌, length, pos, Some, Result, Err, IfOk, OnOk, OnErr, if◌then◌else◌, unwrap_or, slice_get, take, fold, map, All}
use Rattle.std.specs.List.{list_any, AllByRecursion}
use Rattle.std.specs.Coded.{Coded, code_by, coded×, coded_ℕ, coded_list}
use Rattle.prv_model.specs.contracts.term.Term as term_row
use Rattle.prv_model.specs.TermOrder.{same_term}
use Rattle.prv_model.specs.declared.term.Term.{Term, roll-Term, map-Term, out-Term}
use Rattle.prv_model.specs.declared.term.Term.TheVariants.{Num}
use Rattle.prv_model.specs.declared.term.Term.TheOpen.{Term-F}
use Rattle.prv_model.specs.declared.term.Term.TheFolds.{para-Term}
use Rattle.prv_pool.specs.Folding.{is_folded}
use Rattle.prv_pool.specs.declared.error.PoolError.{PoolError}
use Rattle.prv_pool.specs.declared.error.PoolError.TheVariants.{Wide}

-- a table: its terms in the order in which they were made, and how many it may have
pub record Table : Type 0 where
  pub terms : List Term
  pub max_nodes : ℕ

abbrev pub term_code : Coded Term
term_code = (term_row.the_row).coded

-- a table is stored as the pair of its fields
abbrev pub table_code : Coded Table
table_code =
    code_by (List Term × ℕ) (coded× (coded_list term_code) coded_ℕ) (λ t. (t.terms, t.max_nodes)) (λ p. record { terms = p.0; max_nodes = p.1 }) (λ _. refl)

-- the term at a number
abbrev pub term_at : List Term → ℕ → Term
term_at terms n = unwrap_or (slice_get terms n) (Num (pos 0))

-- a list has a term
abbrev pub has_term : List Term → Term → Bool
has_term terms t = list_any (same_term t) terms

-- the operands of one node are added from left to right
abbrev pub operands_added : Term-F (Term × (List Term → List Term)) → List Term → List Term
operands_added (Term-F.Param k) terms = terms
operands_added (Term-F.Op op a b) terms = b.1 (a.1 terms)
operands_added (Term-F.Pick test a b) terms = b.1 (a.1 (test.1 terms))
operands_added (Term-F.Num n) terms = terms

-- one node's operands and then its own term are added, where the list hasn't got the term
abbrev pub node_added : Term-F (Term × (List Term → List Term)) → List Term → List Term
node_added x terms =
    let t = roll-Term (map-Term (Term × (List Term → List Term)) Term (λ child. child.0) x) in
    if has_term terms t then terms else operands_added x terms ++ t ∷ []

-- a list with a term: what of the term and its subterms the list hasn't got is appended, a subterm before its term
abbrev pub add_term : Term → List Term → List Term
add_term = para-Term (List Term → List Term) node_added

-- a list with each of some terms, in turn
abbrev pub add_terms : List Term → List Term → List Term
add_terms terms more = fold (λ made t. add_term t made) terms more

-- a list goes on from another
pub record Grown (old new : List Term) : Type 0 where
  pub more : List Term
  pub is : new ≡ old ++ more

-- the operands of one node, from left to right
abbrev pub node_operands : Term-F Term → List Term
node_operands (Term-F.Param k) = []
node_operands (Term-F.Op op a b) = a ∷ b ∷ []
node_operands (Term-F.Pick test a b) = test ∷ a ∷ b ∷ []
node_operands (Term-F.Num n) = []

-- what a table keeps: no term twice, the operands of a term before it, folded terms alone, and no more than it may have
pub record IsTable (table : Table) : Type 0 where
  pub distinct : (i j : ℕ) → i < length table.terms → j < length table.terms → term_at table.terms i ≡ term_at table.terms j → i ≡ j
  pub closed : (i : ℕ) → i < length table.terms → AllByRecursion (λ t. has_term (take i table.terms) t ≡ true) (node_operands (out-Term (term_at table.terms i)))
  pub all_folded : (i : ℕ) → i < length table.terms → is_folded (term_at table.terms i) ≡ true
  pub within : length table.terms ≤ table.max_nodes

-- these are the terms at some numbers of a table
pub record AreAt (these : List Term) (table : Table) (numbers : List ℕ) : Type 0 where
  pub is_table : IsTable table
  pub within : All (λ n. n < length table.terms) numbers
  pub are : these ≡ map (term_at table.terms) numbers

-- a call makes a term: the answer is its number, and the table has grown by the term and those of its subterms that were new
-- A refusal leaves the table as it was. The table is too small exactly where it has no room for what it would grow by.
pub record Makes (t : Term) (old new : Table) (result : Result ℕ PoolError) : Type 0 where
  pub stands : IfOk result (λ n. slice_get new.terms n ≡ Some t)
  pub grows : OnOk result (new.terms ≡ add_term t old.terms)
  pub limit : new.max_nodes ≡ old.max_nodes
  pub refused : OnErr result (new ≡ old)
  pub wide : (result ≡ Err Wide) ↔ (old.max_nodes < length (add_term t old.terms))
