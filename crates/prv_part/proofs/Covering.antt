-- The parts of a region cover it: each of its inputs lies in exactly one of them.
use Rattle.std.proofs.Common.{◌≡◌, ℕ, ◌+◌, Bool, true, false, ◌&&◌, not, List, [], ◌∷◌, ◌++◌, map, ℤ, refl, sym, ap, ◌∙◌, arith, append_assoc}
use Rattle.std.proofs.lemmas.List.{append-nil}
use Rattle.std.specs.List.{AllByRecursion}
use Rattle.prv_model.specs.Words.{is_zero}
use Rattle.prv_model.specs.Terms.{term_value, holds}
use Rattle.prv_model.specs.Boards.{one_if, places, Covers, IsTrueOf}
use Rattle.prv_model.specs.declared.entry.Kind.TheVariants as k
use Rattle.prv_model.specs.declared.entry.Reason.{Reason}
use Rattle.prv_model.specs.declared.program.Pair.{Pair}
use Rattle.prv_model.specs.declared.term.Term.{Term}
use Rattle.prv_model.proofs.TermLemmas.{holds-append}
use Rattle.prv_pool.specs.Folding.{negation}
use Rattle.prv_part.specs.Literals.{pair_literals, decided_equality}
use Rattle.prv_part.specs.Parts.{rests, Other, unmarked, partition, open_rests, second_part, parts_of}
use Rattle.prv_part.specs.declared.shape.Shape.{Shape}
use Rattle.prv_part.specs.declared.shape.Shape.TheVariants.{Empty, Stuck, Whole, Split, Beyond}
use Rattle.prv_part.proofs.Negations.{negation-nonzero}

and-true : (b : Bool) → (b && true) ≡ b
and-true true = refl
and-true false = refl

-- a region with one term more
holds-more : (region : List Term) (t : Term) (x : List ℤ) → holds (region ++ t ∷ []) x ≡ (holds region x && not (is_zero (term_value t x)))
holds-more region t x = holds-append region (t ∷ []) x ∙ ap (λ (c : Bool). holds region x && c) (and-true _)

pub holds-less : (region : List Term) (t : Term) (x : List ℤ) → holds (region ++ negation t ∷ []) x ≡ (holds region x && is_zero (term_value t x))
holds-less region t x = holds-more region (negation t) x ∙ ap (λ (c : Bool). holds region x && c) (negation-nonzero t x)

either : (h z : Bool) → one_if (h && not z) + one_if (h && z) ≡ one_if h
either true true = refl
either true false = refl
either false z = refl

-- a term and its negation cut a region in two
pub halves : (region : List Term) (t : Term) (x : List ℤ) → one_if (holds (region ++ t ∷ []) x) + one_if (holds (region ++ negation t ∷ []) x) ≡ one_if (holds region x)
halves region t x = (λ i. one_if (holds-more region t x i) + one_if (holds-less region t x i)) ∙ either (holds region x) (is_zero (term_value t x))

-- what covers the inputs on which the literals hold, covers the region with the rests
pub rests-fill : (region ps : List Term) (x : List ℤ) → one_if (holds (region ++ ps) x) + places (rests region ps) x ≡ one_if (holds region x)
rests-fill region [] x = ap (λ (r : List Term). one_if (holds r x) + 0) (append-nil region) ∙ omega arith
rests-fill region (p ∷ ps) x =
    let more = region ++ p ∷ [] in
    let rest = places (rests more ps) x in
    let all : one_if (holds (region ++ p ∷ ps) x) + rest ≡ one_if (holds more x) =
    ap (λ (r : List Term). one_if (holds r x) + rest) (sym (append_assoc region (p ∷ []) ps)) ∙ rests-fill more ps x in
    omega (arith, all, halves region p x)

-- the inputs on which the literals hold, whole or cut in two, and the rests
pub whole-covers : (n : ℕ) (region ps : List Term) → Covers n region ((region ++ ps) ∷ rests region ps)
whole-covers n region ps = λ x here. rests-fill region ps x

pub split-covers : (n : ℕ) (region ps : List Term) (t : Term) → Covers n region (((region ++ ps) ++ t ∷ []) ∷ ((region ++ ps) ++ negation t ∷ []) ∷ rests region ps)
split-covers n region ps t = λ x here. omega (arith, halves (region ++ ps) t x, rests-fill region ps x)

-- the regions of parts that are left open
open-regions : (regions : List (List Term)) → map (λ p. p.region) (map (unmarked k.Unexplored) regions) ≡ regions
open-regions [] = refl
open-regions (r ∷ regions) = ap (λ (more : List (List Term)). r ∷ more) (open-regions regions)

-- one part, or two, and the rests
whole-cover : (pair : Pair) (region : List Term) (t x : List ℤ) →
    one_if (holds (partition pair region t) x) + places (map (λ p. p.region) (open_rests pair region t)) x ≡ one_if (holds region x)
whole-cover pair region t x =
    ap (λ (rs : List (List Term)). one_if (holds (partition pair region t) x) + places rs x) (open-regions (rests region (pair_literals pair region t)))
    ∙ rests-fill region (pair_literals pair region t) x

second-region : (pair : Pair) (t : List ℤ) (other : Other) (region : List Term) → (second_part pair t other region).region ≡ region
second-region pair t (Other.Found y) region = refl
second-region pair t (Other.Left why) region = refl

-- the parts of each shape cover the region
pub parts-cover : (pair : Pair) (n : ℕ) (region : List Term) (shape : Shape) (t : List ℤ) (other : Other) (why : Reason) →
    Covers n region (map (λ p. p.region) (parts_of pair region shape t other why))
parts-cover pair n region Empty t other why = λ x here. omega arith
parts-cover pair n region Stuck t other why = λ x here. omega arith
parts-cover pair n region Beyond t other why = λ x here. whole-cover pair region t x
parts-cover pair n region Whole t other why = λ x here. whole-cover pair region t x
parts-cover pair n region Split t other why = λ x here.
    let same = decided_equality pair t in
    let front = partition pair region t in
    let rest = places (map (λ p. p.region) (open_rests pair region t)) x in
    let second : one_if (holds (second_part pair t other (front ++ negation same ∷ [])).region x) ≡ one_if (holds (front ++ negation same ∷ []) x) =
    ap (λ (r : List Term). one_if (holds r x)) (second-region pair t other (front ++ negation same ∷ [])) in
    omega (arith, second, halves front same x, whole-cover pair region t x)

-- parts that are left open claim nothing
pub open-true : (pair : Pair) (regions : List (List Term)) → AllByRecursion (λ p. IsTrueOf pair p.kind p.region) (map (unmarked k.Unexplored) regions)
open-true pair [] = tt
open-true pair (r ∷ regions) = (record { claims = λ x there inside. tt; sample = tt }, open-true pair regions)
