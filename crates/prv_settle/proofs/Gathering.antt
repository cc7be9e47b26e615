-- The distinct terms of parts are those of the terms that their regions are made of.
use Rattle.std.proofs.Common.{◌≡◌, ℕ, Bool, true, ◌+◌, ◌-◌, ◌<◌, ◌≤◌, List, [], ◌∷◌, ◌++◌, length, map, take, drop, refl, sym, ap, ◌∙◌, subst, arith, append-nil, append_assoc}
use Rattle.std.specs.List.{AllByRecursion, flat_map}
use Rattle.std.proofs.lemmas.List.{take-append-drop, length-take-le, length-drop, length-append, length-map}
use Rattle.std.proofs.Math.Seq.{take-append_seam}
use Rattle.prv_model.specs.declared.entry.Kind.{Kind}
use Rattle.prv_model.specs.declared.entry.Kind.TheVariants as k
use Rattle.prv_model.specs.declared.term.Term.{Term}
use Rattle.prv_pool.specs.Folding.{negation}
use Rattle.prv_pool.specs.Tables.{has_term, add_term, add_terms, term_at}
use Rattle.prv_pool.proofs.NodeLemmas.{get-end, term_at-some}
use Rattle.prv_pool.proofs.TableLemmas.{has-more}
use Rattle.prv_sym.proofs.Naming.{add_terms-append}
use Rattle.prv_blast.specs.Subterms.{subterms}
use Rattle.prv_blast.proofs.Growing.{add-old, add-grown, term-growth, all-first, all-later, all-append, recursive-all}
use Rattle.prv_part.specs.Parts.{rests, unmarked}
use Rattle.prv_part.specs.declared.part.Part.{Part}
use Rattle.prv_record.specs.declared.raw.RawOther.{RawOther}
use Rattle.prv_record.specs.declared.raw.RawOther.TheVariants as o
use Rattle.prv_settle.specs.Making.{AreNodes, with_negations, parts_from, second_of}
use Rattle.prv_settle.specs.Supported.{parts_terms}

abbrev Has : List Term → List Term → Type 0
Has seen us = AllByRecursion (λ u. has_term seen u ≡ true) us

-- terms that are there add nothing
add-all-old : (seen us : List Term) → Has seen us → add_terms seen us ≡ seen
add-all-old seen [] h = refl
add-all-old seen (u ∷ us) h =
    let here = add-old u seen h.0 in
    ap (λ (ts : List Term). add_terms ts us) here ∙ add-all-old seen us h.1

-- what is there stays
has-all-more : (seen more us : List Term) → Has seen us → Has (seen ++ more) us
has-all-more seen more [] h = tt
has-all-more seen more (u ∷ us) h = (has-more seen more u h.0, has-all-more seen more us h.1)

has-after : (seen : List Term) (t : Term) (us : List Term) → Has seen us → Has (add_term t seen) us
has-after seen t us h =
    let g = term-growth t seen in
    subst (λ (ts : List Term). Has ts us) (sym g.grown) (has-all-more seen g.more us h)

-- a front that is there, and what follows
add-past : (seen us vs : List Term) → Has seen us → add_terms seen (us ++ vs) ≡ add_terms seen vs
add-past seen us vs h = add_terms-append us vs seen ∙ ap (λ (ts : List Term). add_terms ts vs) (add-all-old seen us h)

-- a region with one more term, and what follows
add-region : (seen us : List Term) (t : Term) (vs : List Term) → Has seen us → add_terms seen ((us ++ t ∷ []) ++ vs) ≡ add_terms (add_term t seen) vs
add-region seen us t vs h =
    ap (λ (ts : List Term). add_terms seen ts) (append_assoc us (t ∷ []) vs) ∙ add-past seen us (t ∷ vs) h

-- the rests add the negations of the literals
rests-add : (us ps seen : List Term) → Has seen us → Has seen ps → add_terms seen (flat_map (λ p. p.region) (map (unmarked k.Unexplored) (rests us ps))) ≡ add_terms seen (map negation ps)
rests-add us [] seen h l = refl
rests-add us (p ∷ ps) seen h l =
    let more = flat_map (λ q. q.region) (map (unmarked k.Unexplored) (rests (us ++ p ∷ []) ps)) in
    let after = has-after seen (negation p) us h in
    let later = has-after seen (negation p) (p ∷ ps) l in
    add-region seen us (negation p) more h ∙ rests-add (us ++ p ∷ []) ps (add_term (negation p) seen) (all-append (λ u. has_term (add_term (negation p) seen) u ≡ true) us (p ∷ []) after (later.0, tt)) later.1

module _ (region : ℕ) (whole : List Term) where
  abbrev here : List Term
  here = take region whole

  abbrev literals : List Term
  literals = drop region whole

  has-whole : Has (subterms whole) whole
  has-whole = let g = add-grown [] whole in g.there

  has-split : Has (subterms whole) (here ++ literals)
  has-split = subst (λ (ts : List Term). Has (subterms whole) ts) (sym (take-append-drop region whole)) has-whole

  has-here : Has (subterms whole) here
  has-here = all-first (λ u. has_term (subterms whole) u ≡ true) here literals has-split

  has-literals : Has (subterms whole) literals
  has-literals = all-later (λ u. has_term (subterms whole) u ≡ true) here literals has-split

  pub whole-terms : (kind : Kind) (marks : List ℕ) →
      subterms (with_negations region whole []) ≡ parts_terms (parts_from region whole (record { region = whole; kind = kind; marks = marks } ∷ []))
  whole-terms kind marks =
      add_terms-append whole (map negation literals) []
      ∙ sym (rests-add here literals (subterms whole) has-here has-literals)
      ∙ sym (add_terms-append whole (flat_map (λ q. q.region) (map (unmarked k.Unexplored) (rests here literals))) [])

  -- both halves add one term each
  halves : (a b : Term) (vs : List Term) → subterms ((whole ++ a ∷ []) ++ ((whole ++ b ∷ []) ++ vs)) ≡ add_terms (add_term b (add_term a (subterms whole))) vs
  halves a b vs =
      ap (λ (ts : List Term). subterms ts) (append_assoc whole (a ∷ []) ((whole ++ b ∷ []) ++ vs))
      ∙ add_terms-append whole (a ∷ ((whole ++ b ∷ []) ++ vs)) []
      ∙ add-region (add_term a (subterms whole)) whole b vs (has-after (subterms whole) a whole has-whole)

  pub split-terms : (a b : Term) (first second : Part) → first.region ≡ whole ++ a ∷ [] → second.region ≡ whole ++ b ∷ [] →
      subterms (with_negations region whole (a ∷ b ∷ [])) ≡ parts_terms (parts_from region whole (first ∷ second ∷ []))
  split-terms a b first second is isq =
      let s = subterms whole in
      let more = flat_map (λ q. q.region) (map (unmarked k.Unexplored) (rests here literals)) in
      let keep : (us : List Term) → Has s us → Has (add_term b (add_term a s)) us = λ us h. has-after (add_term a s) b us (has-after s a us h) in
      add_terms-append whole (a ∷ b ∷ map negation literals) []
      ∙ sym (rests-add here literals (add_term b (add_term a s)) (keep here has-here) (keep literals has-literals))
      ∙ sym (halves a b more)
      ∙ sym (λ i. subterms (is i ++ (isq i ++ more)))

  -- the terms, as the call that adds the rests asks for them
  pub laid-out : (more : List Term) → with_negations region whole more ≡ here ++ (literals ++ (more ++ map negation literals))
  laid-out more = ap (λ (ts : List Term). ts ++ (more ++ map negation literals)) (sym (take-append-drop region whole)) ∙ append_assoc here literals (more ++ map negation literals)

pub second-region-of : (agree : Bool) (other : RawOther) (marks : List ℕ) (region : List Term) → (second_of agree other marks region).region ≡ region
second-region-of agree o.None marks region = refl
second-region-of agree (o.Member x) marks region = refl
second-region-of agree (o.Reason why) marks region = refl

-- one part that is a whole region
pub only-terms : (kind : Kind) (region : List Term) → subterms region ≡ parts_terms (unmarked kind region ∷ [])
only-terms kind region = ap (λ (ts : List Term). subterms ts) (sym (append-nil region))

-- ---- the terms of parts where they lie

pub two-nodes : (terms : List Term) (a b : ℕ) → a < length terms → b < length terms → AreNodes terms (a ∷ b ∷ [])
two-nodes terms a b ha hb = recursive-all (λ n. n < length terms) (a ∷ b ∷ []) (ha, (hb, tt))

module _ (n : ℕ) (whole more terms : List Term) (is : terms ≡ with_negations n whole more) where
  pub laid-length : n ≤ length whole → length terms ≡ length whole + length more + (length whole - n)
  laid-length le =
      let all = ap (λ (ts : List Term). length ts) is ∙ length-append whole (more ++ map negation (drop n whole)) in
      let rest = length-append more (map negation (drop n whole)) in
      let last = length-map (drop n whole) negation ∙ length-drop n whole in
      omega (arith, all, rest, last)

  pub front-is : (all : ℕ) → all ≡ length whole → take all terms ≡ whole
  front-is all e = (λ i. take (e i) (is i)) ∙ take-append_seam whole (more ++ map negation (drop n whole))

  -- the rests are added behind some parts
  pub rests-listed : (m : ℕ) (old new : List Part) → n ≤ length whole → m ≡ length whole + length more →
      ((us ps middle : List Term) → terms ≡ us ++ (ps ++ (middle ++ map negation ps)) → n ≡ length us → length whole - n ≡ length ps → m ≡ length us + length ps + length middle →
      new ≡ old ++ map (unmarked k.Unexplored) (rests us ps)) → new ≡ parts_from n whole old
  rests-listed m old new le at says =
      let front = length-take-le n whole le in
      let rest = length-drop n whole in
      says (take n whole) (drop n whole) more (is ∙ laid-out n whole more) (sym front) (sym rest) (omega (arith, front, rest, at, le))

-- the terms behind a partition
pub first-half : (whole more : List Term) (a : Term) (at : ℕ) → at ≡ length whole → term_at (whole ++ a ∷ more) at ≡ a
first-half whole more a at e = ap (λ (m : ℕ). term_at (whole ++ a ∷ more) m) e ∙ term_at-some (whole ++ a ∷ more) (length whole) a (get-end whole a more)

pub second-half : (whole more : List Term) (a b : Term) (at : ℕ) → at ≡ length whole + 1 → term_at (whole ++ a ∷ b ∷ more) at ≡ b
second-half whole more a b at e =
    ap (λ (ts : List Term). term_at ts at) (sym (append_assoc whole (a ∷ []) (b ∷ more)))
    ∙ first-half (whole ++ a ∷ []) more b at (e ∙ sym (length-append whole (a ∷ [])))

-- ---- the parts that are made

-- what is said of the call that adds the rests behind so many terms
abbrev pub AddsRests : ℕ → ℕ → ℕ → List Term → List Part → List Part → Type 0
AddsRests n literals m terms old new =
    (us ps middle : List Term) → terms ≡ us ++ (ps ++ (middle ++ map negation ps)) → n ≡ length us → literals ≡ length ps → m ≡ length us + length ps + length middle → new ≡ old ++ map (unmarked k.Unexplored) (rests us ps)

module _ (n literals : ℕ) (whole more terms : List Term) (is : terms ≡ with_negations n whole more) (le : n ≤ length whole) (count : literals ≡ length whole - n) where
  pub listed : (m : ℕ) (front old new : List Part) → m ≡ length whole + length more → old ≡ front → AddsRests n literals m terms old new → new ≡ parts_from n whole front
  listed m front old new at same says =
      rests-listed n whole more terms is m old new le at (λ us ps middle e f g h. says us ps middle e f (count ∙ g) h)
      ∙ ap (λ (ps : List Part). parts_from n whole ps) same

pub half-first : (n : ℕ) (whole terms : List Term) (a b : Term) (m : ℕ) → terms ≡ with_negations n whole (a ∷ b ∷ []) → m ≡ length whole → take m terms ++ term_at terms m ∷ [] ≡ whole ++ a ∷ []
half-first n whole terms a b m is at =
    let front = front-is n whole (a ∷ b ∷ []) terms is m at in
    let here : term_at terms m ≡ a = ap (λ (ts : List Term). term_at ts m) is ∙ first-half whole (b ∷ map negation (drop n whole)) a m at in
    λ i. front i ++ here i ∷ []

pub half-second : (n : ℕ) (whole terms : List Term) (a b : Term) (m : ℕ) → terms ≡ with_negations n whole (a ∷ b ∷ []) → m ≡ length whole → take m terms ++ term_at terms (m + 1) ∷ [] ≡ whole ++ b ∷ []
half-second n whole terms a b m is at =
    let front = front-is n whole (a ∷ b ∷ []) terms is m at in
    let here : term_at terms (m + 1) ≡ b = ap (λ (ts : List Term). term_at ts (m + 1)) is ∙ second-half whole (map negation (drop n whole)) a b (m + 1) (omega (arith, at)) in
    λ i. front i ++ here i ∷ []
