-- How many parts a region is cut into, and how many literals they have.
use Rattle.std.proofs.Common.{◌≡◌, ℕ, suc, ◌+◌, ◌*◌, ◌<◌, ◌≤◌, ◌^◌, Bool, true, false, ◌||◌, nat_lt, List, [], ◌∷◌, ◌++◌, length, map, ℤ, if◌then◌else◌, refl, ap, ◌∙◌, arith, length-append}
use Rattle.std.specs.List.{sum}
use Rattle.std.proofs.lemmas.List.Sums.{sum_by-cons}
use Rattle.prv_model.specs.declared.entry.Kind.TheVariants as k
use Rattle.prv_model.specs.declared.program.Pair.{Pair}
use Rattle.prv_model.specs.declared.term.Term.{Term}
use Rattle.prv_pool.specs.Folding.{negation}
use Rattle.prv_pool.specs.Tables.{has_term}
use Rattle.prv_part.specs.Literals.{without_repeats, slice_before, slice_after, pair_literals}
use Rattle.prv_part.specs.Parts.{Other, rests, unmarked, open_rests, partition, second_part}
use Rattle.prv_part.specs.declared.part.Part.{Part}
use Rattle.prv_settle.specs.Counts.{is_over, has_many_literals}

-- the literals of some parts together
abbrev pub literal_count : List Part → ℕ
literal_count parts = sum (map (λ p. length p.region) parts)

count-more : (p : Part) (parts : List Part) → literal_count (p ∷ parts) ≡ length p.region + literal_count parts
count-more p parts = sum_by-cons (λ n. n) (length p.region) (map (λ q. length q.region) parts)

new-length : (seen ts : List Term) → length (without_repeats seen ts) ≤ length ts
new-length seen [] = omega arith
new-length seen (t ∷ ts) = by (has_term seen t) (new-length seen ts) (new-length (seen ++ t ∷ []) ts)
  where
    by : (z : Bool) → length (without_repeats seen ts) ≤ length ts → length (without_repeats (seen ++ t ∷ []) ts) ≤ length ts →
        length (if z then without_repeats seen ts else (t ∷ without_repeats (seen ++ t ∷ []) ts)) ≤ suc (length ts)
    by true h l = omega (arith, h)
    by false h l = omega (arith, l)

neither : (a b : Bool) → (a || b) ≡ false → (a ≡ false) × (b ≡ false)
neither true b e = cc e
neither false b e = (refl, e)

within : (n : ℕ) → nat_lt 1024 n ≡ false → n ≤ 1024
within n e = grind (arith, e)

pub few-literals : (pair : Pair) (region : List Term) (t : List ℤ) → has_many_literals pair t ≡ false → length (pair_literals pair region t) ≤ 2048
few-literals pair region t e =
    let both = neither (is_over (slice_before pair t)) (is_over (slice_after pair t)) e in
    let a = within (length (slice_before pair t).literals) both.0 in
    let b = within (length (slice_after pair t).literals) both.1 in
    let all = length-append (slice_before pair t).literals (slice_after pair t).literals in
    let new = new-length region ((slice_before pair t).literals ++ (slice_after pair t).literals) in
    omega (arith, a, b, all, new)

one-more : (ts : List Term) (t : Term) → length (ts ++ t ∷ []) ≡ length ts + 1
one-more ts t = length-append ts (t ∷ [])

rests-length : (region ps : List Term) → length (map (unmarked k.Unexplored) (rests region ps)) ≡ length ps
rests-length region [] = refl
rests-length region (p ∷ ps) = ap (λ (n : ℕ). suc n) (rests-length (region ++ p ∷ []) ps)

rests-count : (region ps : List Term) → length region + length ps ≤ 281474976714752 → literal_count (map (unmarked k.Unexplored) (rests region ps)) ≤ length ps * 281474976714752
rests-count region [] h = omega arith
rests-count region (p ∷ ps) h =
    let more = one-more region p in
    let last = one-more region (negation p) in
    let rest = rests-count (region ++ p ∷ []) ps (omega (arith, h, more)) in
    let is = count-more (unmarked k.Unexplored (region ++ negation p ∷ [])) (map (unmarked k.Unexplored) (rests (region ++ p ∷ []) ps)) in
    omega (arith, h, last, rest, is)

-- both bounds on parts
pub record AreFew (these : List Part) : Type 0 where
  pub parts : length these < 2 ^ 30
  pub literals : literal_count these < 2 ^ 62

pub one-few : (p : Part) → length p.region ≤ 2 ^ 48 → AreFew (p ∷ [])
one-few p h = record { parts = omega arith; literals = let is = count-more p [] in omega (arith, h, is) }

pub whole-few : (pair : Pair) (region : List Term) (t : List ℤ) (p : Part) → p.region ≡ partition pair region t → length region ≤ 2 ^ 48 → has_many_literals pair t ≡ false → AreFew (p ∷ open_rests pair region t)
whole-few pair region t p is h e =
    let few = few-literals pair region t e in
    let ps = pair_literals pair region t in
    let long : length p.region ≡ length region + length ps = ap (λ (ts : List Term). length ts) is ∙ length-append region ps in
    let count = rests-length region ps in
    let all = rests-count region ps (omega (arith, h, few)) in
    let sums = count-more p (open_rests pair region t) in
    record { parts = omega (arith, few, count); literals = omega (arith, few, all, sums, long, h) }

pub split-few : (pair : Pair) (region : List Term) (t : List ℤ) (p q : Part) (a b : Term) → p.region ≡ partition pair region t ++ a ∷ [] → q.region ≡ partition pair region t ++ b ∷ [] →
    length region ≤ 2 ^ 48 → has_many_literals pair t ≡ false → AreFew (p ∷ q ∷ open_rests pair region t)
split-few pair region t p q a b is isq h e =
    let few = few-literals pair region t e in
    let ps = pair_literals pair region t in
    let whole = length-append region ps in
    let long : length p.region ≡ length (region ++ ps) + 1 = ap (λ (ts : List Term). length ts) is ∙ one-more (region ++ ps) a in
    let other : length q.region ≡ length (region ++ ps) + 1 = ap (λ (ts : List Term). length ts) isq ∙ one-more (region ++ ps) b in
    let count = rests-length region ps in
    let all = rests-count region ps (omega (arith, h, few)) in
    let sums = count-more q (open_rests pair region t) in
    let both = count-more p (q ∷ open_rests pair region t) in
    record { parts = omega (arith, few, count); literals = omega (arith, few, all, sums, both, long, other, whole, h) }

pub second-region : (pair : Pair) (t : List ℤ) (other : Other) (region : List Term) → (second_part pair t other region).region ≡ region
second-region pair t (Other.Found y) region = refl
second-region pair t (Other.Left why) region = refl
