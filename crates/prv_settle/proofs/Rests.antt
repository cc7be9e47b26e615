-- The parts of the rests, made one after another from the terms of a partition and the negations behind them.
use Rattle.std.proofs.Common.{◌≡◌, ℕ, zero, suc, ◌+◌, ◌<◌, ◌≤◌, List, [], ◌∷◌, ◌++◌, length, map, take, get_or, slice_get, Option, Some, unwrap_or, refl, sym, ap, ◌∙◌, arith, append_assoc, append-nil, pos}
use Rattle.std.specs.Option.{option_map}
use Rattle.std.proofs.lemmas.List.{map-append, take_all, take_more, take-append-le, get_or-append-add}
use Rattle.std.proofs.lemmas.Option.{get_or_from_slice_get, slice_get-get_or, slice_get-map, slice_get_within, unwrap_or-slice_get}
use Rattle.std.proofs.Math.Seq.{take-append-add}
use Rattle.prv_model.specs.declared.entry.Kind.TheVariants as k
use Rattle.prv_model.specs.declared.term.Term.{Term}
use Rattle.prv_model.specs.declared.term.Term.TheVariants.{Num}
use Rattle.prv_pool.specs.Folding.{negation}
use Rattle.prv_pool.specs.Tables.{term_at}
use Rattle.prv_part.specs.Parts.{rests, unmarked}
use Rattle.prv_part.specs.declared.part.Part.{Part}

rest-at : (us ps : List Term) (i : ℕ) (p : Term) → slice_get ps i ≡ Some p → slice_get (rests us ps) i ≡ Some ((us ++ take i ps) ++ negation p ∷ [])
rest-at us [] i p at = cc at
rest-at us (q ∷ ps) zero p at =
    let same : q ≡ p = ap (λ (o : Option Term). unwrap_or o q) at in
    ap (λ (t : Term). Some (us ++ negation t ∷ [])) same ∙ ap (λ (front : List Term). Some (front ++ negation p ∷ [])) (sym (append-nil us))
rest-at us (q ∷ ps) (suc i) p at =
    rest-at (us ++ q ∷ []) ps i p at ∙ ap (λ (front : List Term). Some (front ++ negation p ∷ [])) (append_assoc us (q ∷ []) (take i ps))

rests-long : (us ps : List Term) → length (rests us ps) ≡ length ps
rests-long us [] = refl
rests-long us (p ∷ ps) = ap (λ (n : ℕ). suc n) (rests-long (us ++ p ∷ []) ps)

-- the front of two lists and some of the second
take-front : (us ps more : List Term) (i : ℕ) → i ≤ length ps → take (length us + i) (us ++ (ps ++ more)) ≡ us ++ take i ps
take-front us ps more i h = take-append-add us (ps ++ more) i ∙ ap (λ (front : List Term). us ++ front) (take-append-le i ps more h)

take-one : {X : Type 0} (xs : List X) (i : ℕ) (x : X) → slice_get xs i ≡ Some x → take (i + 1) xs ≡ take i xs ++ x ∷ []
take-one {X = X} xs i x at = take_more xs i x (slice_get_within xs i x at) ∙ ap (λ (y : X). take i xs ++ y ∷ []) (get_or_from_slice_get xs i x x at)

-- the negation of a literal behind the partition and some more terms
negation-at : (us ps middle : List Term) (n i : ℕ) (p : Term) → n ≡ length us + length ps + length middle → slice_get ps i ≡ Some p →
    term_at (us ++ (ps ++ (middle ++ map negation ps))) (n + i) ≡ negation p
negation-at us ps middle n i p is at =
    let none = Num (pos 0) in
    let place : n + i ≡ length us + (length ps + (length middle + i)) = omega (arith, is) in
    ap (λ (m : ℕ). term_at (us ++ (ps ++ (middle ++ map negation ps))) m) place
    ∙ unwrap_or-slice_get (us ++ (ps ++ (middle ++ map negation ps))) (length us + (length ps + (length middle + i))) none
    ∙ get_or-append-add us (ps ++ (middle ++ map negation ps)) (length ps + (length middle + i)) none
    ∙ get_or-append-add ps (middle ++ map negation ps) (length middle + i) none
    ∙ get_or-append-add middle (map negation ps) i none
    ∙ get_or_from_slice_get (map negation ps) i (negation p) none (slice_get-map negation ps i ∙ ap (λ (o : Option Term). option_map negation o) at)

-- one rest more
pub rests-more : (terms us ps middle : List Term) (region negations i : ℕ) (parts before after : List Part) (rest : List Term) → terms ≡ us ++ (ps ++ (middle ++ map negation ps)) → region ≡ length us →
    negations ≡ length us + length ps + length middle → i < length ps → rest ≡ take (region + i) terms ++ term_at terms (negations + i) ∷ [] →
    before ≡ parts ++ map (unmarked k.Unexplored) (take i (rests us ps)) → after ≡ before ++ unmarked k.Unexplored rest ∷ [] →
    after ≡ parts ++ map (unmarked k.Unexplored) (take (i + 1) (rests us ps))
rests-more terms us ps middle region negations i parts before after rest are long behind_is below is was new =
    let p = get_or ps i (Num (pos 0)) in
    let at = slice_get-get_or ps i (Num (pos 0)) below in
    let whole = us ++ (ps ++ (middle ++ map negation ps)) in
    let front : take (region + i) terms ≡ us ++ take i ps =
    (λ j. take (long j + i) (are j)) ∙ take-front us ps (middle ++ map negation ps) i (omega (arith, below)) in
    let last : term_at terms (negations + i) ≡ negation p = ap (λ (ts : List Term). term_at ts (negations + i)) are ∙ negation-at us ps middle negations i p behind_is at in
    let this : rest ≡ (us ++ take i ps) ++ negation p ∷ [] = is ∙ (λ j. front j ++ last j ∷ []) in
    let made : List (List Term) = take i (rests us ps) in
    let more : take (i + 1) (rests us ps) ≡ made ++ rest ∷ [] =
    take-one (rests us ps) i ((us ++ take i ps) ++ negation p ∷ []) (rest-at us ps i p at) ∙ ap (λ (r : List Term). made ++ r ∷ []) (sym this) in
    new ∙ ap (λ (these : List Part). these ++ unmarked k.Unexplored rest ∷ []) was
    ∙ append_assoc parts (map (unmarked k.Unexplored) made) (unmarked k.Unexplored rest ∷ [])
    ∙ ap (λ (these : List Part). parts ++ these) (sym (map-append (unmarked k.Unexplored) made (rest ∷ [])) ∙ ap (λ (rs : List (List Term)). map (unmarked k.Unexplored) rs) (sym more))

-- none yet, and all of them
pub rests-none : (us ps : List Term) (parts : List Part) → parts ≡ parts ++ map (unmarked k.Unexplored) (take 0 (rests us ps))
rests-none us ps parts = sym (append-nil parts)

pub rests-all : (us ps : List Term) (parts after : List Part) (n : ℕ) → length ps ≤ n → after ≡ parts ++ map (unmarked k.Unexplored) (take n (rests us ps)) → after ≡ parts ++ map (unmarked k.Unexplored) (rests us ps)
rests-all us ps parts after n h is =
    let long = rests-long us ps in
    is ∙ ap (λ (rs : List (List Term)). parts ++ map (unmarked k.Unexplored) rs) (take_all n (rests us ps) (omega (arith, h, long)))
