-- Nodes that stand for terms: in a table that has grown, one more, and what follows for their numbers.
use Rattle.std.proofs.Common.{◌≡◌, ℕ, zero, suc, ◌<◌, Bool, true, false, ◌&&◌, not, List, [], ◌∷◌, ◌++◌, length, map, get_or, slice_get, Option, Some, ℤ, pos, refl, sym, ap, ◌∙◌, subst, arith, All, if◌then◌else◌, unwrap_or}
use Rattle.std.specs.Prelude.{filter}
use Rattle.std.specs.Option.{option_map}
use Rattle.std.specs.Ordering.{int_eq}
use Rattle.std.proofs.lemmas.List.Elements.{filter-append}
use Rattle.prv_model.specs.declared.term.Term.{Term}
use Rattle.prv_pool.specs.Nodes.{node_term, node_number}
use Rattle.prv_pool.specs.Tables.{term_at}
use Rattle.prv_pool.specs.declared.node.Node.{Node}
use Rattle.prv_pool.specs.declared.node.Node.TheVariants as node
use Rattle.prv_run.specs.declared.event.Event.{Event}
use Rattle.prv_pool.proofs.FoldLemmas.{number-of-node}
use Rattle.prv_sym.specs.Calls.{StandsFor, AllStand}
use Rattle.prv_sym.specs.Symbols.{Symbol}
use Rattle.prv_sym.proofs.Naming.{Grows, stands-on, stands-in, stands-at}
use Rattle.prv_general.specs.Slices.{says_something}
use Rattle.prv_general.specs.Conditions.{node_is_one, puts, event_outs, symbols_at}

-- in a table that has grown
pub all-on : (old new : List Term) → Grows old new → (ns : List ℕ) (ts : List Term) → AllStand old ns ts → AllStand new ns ts
all-on old new h [] [] s = tt
all-on old new h [] (t ∷ ts) s = absurd s
all-on old new h (n ∷ ns) [] s = absurd s
all-on old new h (n ∷ ns) (t ∷ ts) s = (stands-on old new n t h s.0, all-on old new h ns ts s.1)

-- one node more
pub all-more : (terms : List Term) (ns : List ℕ) (ts : List Term) (n : ℕ) (t : Term) → AllStand terms ns ts → StandsFor terms n t → AllStand terms (ns ++ n ∷ []) (ts ++ t ∷ [])
all-more terms [] [] n t s is = (is, tt)
all-more terms [] (u ∷ ts) n t s is = absurd s
all-more terms (m ∷ ns) [] n t s is = absurd s
all-more terms (m ∷ ns) (u ∷ ts) n t s is = (s.0, all-more terms ns ts n t s.1 is)

-- there are as many nodes as terms
pub all-long : (terms : List Term) (ns : List ℕ) (ts : List Term) → AllStand terms ns ts → length ns ≡ length ts
all-long terms [] [] s = refl
all-long terms [] (t ∷ ts) s = absurd s
all-long terms (n ∷ ns) [] s = absurd s
all-long terms (n ∷ ns) (t ∷ ts) s = ap (λ (l : ℕ). suc l) (all-long terms ns ts s.1)

-- each node is of the table
pub all-in : (terms : List Term) (ns : List ℕ) (ts : List Term) → AllStand terms ns ts → All (λ n. n < length terms) ns
all-in terms [] ts s = λ k d below. absurd (omega (arith, below))
all-in terms (n ∷ ns) [] s = absurd s
all-in terms (n ∷ ns) (t ∷ ts) s = λ k. elim k as (λ i. (d : ℕ) → i < length (n ∷ ns) → get_or (n ∷ ns) i d < length terms) [
  | zero ↦ λ d below. stands-in terms n t s.0
  | suc i ↦ λ d below. all-in terms ns ts s.1 i d (omega (arith, below))
]

-- the terms at the nodes
pub all-terms : (terms : List Term) (ns : List ℕ) (ts : List Term) → AllStand terms ns ts → map (term_at terms) ns ≡ ts
all-terms terms [] [] s = refl
all-terms terms [] (t ∷ ts) s = absurd s
all-terms terms (n ∷ ns) [] s = absurd s
all-terms terms (n ∷ ns) (t ∷ ts) s = λ i. stands-at terms n t s.0 i ∷ all-terms terms ns ts s.1 i

-- the term of one of them
pub all-at : (terms : List Term) (ns : List ℕ) (ts : List Term) (i d : ℕ) → AllStand terms ns ts → i < length ns → slice_get ts i ≡ Some (term_at terms (get_or ns i d))
all-at terms [] ts i d s below = absurd (omega (arith, below))
all-at terms (n ∷ ns) [] i d s below = absurd s
all-at terms (n ∷ ns) (t ∷ ts) zero d s below = ap (λ (u : Term). Some u) (sym (stands-at terms n t s.0))
all-at terms (n ∷ ns) (t ∷ ts) (suc i) d s below = all-at terms ns ts i d s.1 (omega (arith, below))

-- the symbols at nodes that stand for their terms
pub symbols-are : (terms : List Term) (vs ss : List ℕ) (symbols : List Symbol) → AllStand terms vs (map (λ s. s.term) symbols) → AllStand terms ss (map (λ s. s.safe) symbols) → symbols_at terms vs ss ≡ symbols
symbols-are terms [] [] [] a b = refl
symbols-are terms [] (s ∷ ss) [] a b = absurd b
symbols-are terms (v ∷ vs) ss [] a b = absurd a
symbols-are terms [] ss (x ∷ symbols) a b = absurd a
symbols-are terms (v ∷ vs) [] (x ∷ symbols) a b = absurd b
symbols-are terms (v ∷ vs) (s ∷ ss) (x ∷ symbols) a b =
    λ i. record { term = stands-at terms v x.term a.0 i; safe = stands-at terms s x.safe b.0 i } ∷ symbols-are terms vs ss symbols a.1 b.1 i

-- whether a node's term says something
number-is-one : (d : Node) → unwrap_or (option_map (int_eq (pos 1)) (node_number d)) false ≡ node_is_one d
number-is-one (node.Param k) = refl
number-is-one (node.Num n) = refl
number-is-one (node.Op op a b) = refl
number-is-one (node.Pick test a b) = refl

pub node-says : (terms : List Term) (d : Node) → says_something (node_term terms d) ≡ not (node_is_one d)
node-says terms d = ap (λ (o : Option ℤ). not (unwrap_or (option_map (int_eq (pos 1)) o) false)) (number-of-node terms d) ∙ ap (λ (b : Bool). not b) (number-is-one d)

-- one condition more, which says something
pub says-more : (terms : List Term) (ns : List ℕ) (ts : List Term) (n : ℕ) (t : Term) → AllStand terms ns (filter says_something ts) → StandsFor terms n t → says_something t ≡ true →
    AllStand terms (ns ++ n ∷ []) (filter says_something (ts ++ t ∷ []))
says-more terms ns ts n t s is says =
    let P : List Term → Type 0 = λ us. AllStand terms (ns ++ n ∷ []) us in
    let one : filter says_something (t ∷ []) ≡ t ∷ [] = ap (λ (b : Bool). if b then t ∷ [] else []) says in
    subst P (sym (filter-append says_something ts (t ∷ []) ∙ ap (λ (us : List Term). filter says_something ts ++ us) one)) (all-more terms ns (filter says_something ts) n t s is)

-- what an evaluation puts out
pub puts-more : (terms : List Term) (ns : List ℕ) (ts : List Term) (n : ℕ) (t : Term) (event : Event) → event.safe ≡ true → puts event.what ≡ true → AllStand terms ns ts → StandsFor terms n t →
    AllStand terms (ns ++ n ∷ []) (ts ++ event_outs event t)
puts-more terms ns ts n t event safe out s is =
    let both : (event.safe && puts event.what) ≡ true = (λ i. safe i && puts event.what) ∙ out in
    subst (λ (us : List Term). AllStand terms (ns ++ n ∷ []) (ts ++ us)) (sym (ap (λ (b : Bool). if b then t ∷ [] else []) both)) (all-more terms ns ts n t s is)
