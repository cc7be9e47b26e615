-- The first literal of a settlement's first part that is 0 on an input names the part that holds the input.
use Rattle.std.proofs.Common.{inl, inr, ◌⊎◌, ◌≡◌, ℕ, zero, suc, ◌+◌, ◌-◌, ◌<◌, ◌≤◌, ◌==◌, Bool, true, false, ◌&&◌, not, List, [], ◌∷◌, ◌++◌, length, map, take, ℤ, Option, Some, None, slice_get, if◌then◌else◌, unwrap_or, refl, sym, ap, ◌∙◌, subst, arith, append_assoc, length-append, eq-eqb}
use Rattle.std.proofs.lemmas.List.{append-nil, take-append-le, length-map}
use Rattle.std.proofs.lemmas.Option.{same_Some, slice_get-map, slice_get_within}
use Rattle.std.proofs.lemmas.Bool.Decides.{leb_tells, eqb_tells}
use Rattle.std.proofs.Math.Seq.{take-append-add, take-append_seam}
use Rattle.std.specs.Option.{option_map}
use Rattle.prv_model.specs.Words.{is_zero}
use Rattle.prv_model.specs.Terms.{term_value, holds}
use Rattle.prv_model.specs.declared.entry.Kind.TheVariants as k
use Rattle.prv_model.specs.declared.entry.Reason.{Reason}
use Rattle.prv_model.specs.declared.program.Pair.{Pair}
use Rattle.prv_model.specs.declared.term.Term.{Term}
use Rattle.prv_pool.specs.Folding.{negation}
use Rattle.prv_pool.specs.Tables.{term_at}
use Rattle.prv_region.specs.Zeros.{IsFirstZero}
use Rattle.prv_pool.proofs.NodeLemmas.{term_at-append}
use Rattle.prv_part.specs.Literals.{pair_literals, decided_equality}
use Rattle.prv_part.specs.Parts.{Other, Found, Left, rests, unmarked, partition, open_rests, second_part, parts_of}
use Rattle.prv_part.specs.Holders.{HoldsPart, part_without}
use Rattle.prv_part.specs.Settlements.{Finding, IsSettlement}
use Rattle.prv_part.specs.declared.shape.Shape.{Shape}
use Rattle.prv_part.specs.declared.shape.Shape.TheVariants.{Empty, Stuck, Whole, Split, Beyond}
use Rattle.prv_part.specs.declared.part.Part.{Part}
use Rattle.prv_part.proofs.Negations.{and-left, and-right}
use Rattle.prv_part.proofs.Covering.{holds-less}

-- ---- parts

parts-some : (pair : Pair) (region : List Term) (shape : Shape) (t : List ℤ) (other : Other) (why : Reason) → 1 ≤ length (parts_of pair region shape t other why)
parts-some pair region Empty t other why = omega arith
parts-some pair region Stuck t other why = omega arith
parts-some pair region Beyond t other why = omega arith
parts-some pair region Whole t other why = omega arith
parts-some pair region Split t other why = omega arith

-- a settlement has a part
pub some-parts : (f : Finding) → IsSettlement f → 1 ≤ length f.parts
some-parts f settled =
    let has = settled.parts in
    omega (arith, ap length has.2, parts-some f.pair f.region f.shape (unwrap_or f.member []) has.0 has.1)

one-on : (p : Part) (parts : List Part) (x : List ℤ) (i : ℕ) → HoldsPart parts x i → HoldsPart (p ∷ parts) x (suc i)
one-on p parts x i held = record { part = held.part; at = held.at; inside = held.inside }

-- ---- terms by their places

-- no term of a region that holds an input is 0 there
none-zero : (terms : List Term) (x : List ℤ) (i : ℕ) → holds terms x ≡ true → i < length terms → is_zero (term_value (term_at terms i) x) ≡ true → ⊥
none-zero [] x i h less z = absurd (omega arith)
none-zero (t ∷ terms) x zero h less z =
    let nonzero : not (is_zero (term_value t x)) ≡ true = and-left _ _ h in
    let cleared : not (is_zero (term_value t x)) ≡ false = ap not z in
    cc (nonzero, cleared)
none-zero (t ∷ terms) x (suc i) h less z = none-zero terms x i (and-right (not (is_zero (term_value t x))) _ h) (omega arith) z

term_at-behind : (a b : List Term) (i : ℕ) → term_at (a ++ b) (length a + i) ≡ term_at b i
term_at-behind [] b i = ap (λ (n : ℕ). term_at b n) (omega arith)
term_at-behind (t ∷ a) b i = ap (λ (n : ℕ). term_at (t ∷ (a ++ b)) n) (let e : suc (length a) + i ≡ suc (length a + i) = omega arith in e) ∙ term_at-behind a b i

-- the first term that is 0 stands behind a region that holds the input
record Behind (region ps : List Term) (x : List ℤ) (place : ℕ) : Type 0 where
  i : ℕ
  place_is : place ≡ length region + i
  within : i < length ps
  before : holds (region ++ take i ps) x ≡ true
  zero_there : is_zero (term_value (term_at ps i) x) ≡ true

behind : (region ps : List Term) (x : List ℤ) (place : ℕ) → holds region x ≡ true → IsFirstZero (region ++ ps) x place → Behind region ps x place
behind region ps x place h first = elim (leb_tells (length region) place) [
  | inl past ↦
      let i = place - length region in
      let is : place ≡ length region + i = let le = past.1 in omega arith in
      record {
        i = i;
        place_is = is;
        within = omega (arith, first.within, is, length-append region ps);
        before = ap (λ (ts : List Term). holds ts x) (sym (ap (λ (n : ℕ). take n (region ++ ps)) is ∙ take-append-add region ps i)) ∙ first.before;
        zero_there = ap (λ (t : Term). is_zero (term_value t x)) (sym (ap (λ (n : ℕ). term_at (region ++ ps) n) is ∙ term_at-behind region ps i)) ∙ first.zero;
      }
  | inr less ↦
      absurd (none-zero region x place h less.1 (ap (λ (t : Term). is_zero (term_value t x)) (sym (term_at-append region ps place less.1)) ∙ first.zero))
]

-- ---- rests

-- the rest of the first literal that is 0 holds the input
pub rest-behind : (region ps : List Term) (x : List ℤ) (i : ℕ) → i < length ps → holds (region ++ take i ps) x ≡ true → is_zero (term_value (term_at ps i) x) ≡ true → (r : List Term) × (slice_get (rests region ps) i ≡ Some r) × (holds r x ≡ true)
rest-behind region [] x i less h z = absurd (omega arith)
rest-behind region (p ∷ ps) x zero less h z =
    let here : holds region x ≡ true = ap (λ (ts : List Term). holds ts x) (sym (append-nil region)) ∙ h in
    (region ++ negation p ∷ [], refl, holds-less region p x ∙ rw (here, z) refl)
rest-behind region (p ∷ ps) x (suc i) less h z =
    rest-behind (region ++ p ∷ []) ps x i (omega arith) (ap (λ (ts : List Term). holds ts x) (append_assoc region (p ∷ []) (take i ps)) ∙ h) z

open-behind : (region ps : List Term) (x : List ℤ) (place : ℕ) (b : Behind region ps x place) → HoldsPart (map (unmarked k.Unexplored) (rests region ps)) x b.i
open-behind region ps x place b =
    let rest = rest-behind region ps x b.i b.within b.before b.zero_there in
    record {
      part = unmarked k.Unexplored rest.0;
      at = slice_get-map (unmarked k.Unexplored) (rests region ps) b.i ∙ ap (option_map (unmarked k.Unexplored)) rest.1;
      inside = rest.2;
    }

-- ---- the shapes

-- a place in the parts, and that the literal stands behind those of the region
record Named (region : List Term) (parts : List Part) (x : List ℤ) (place named : ℕ) : Type 0 where
  past : length region ≤ place
  held : HoldsPart parts x named

named-at : (region : List Term) (parts : List Part) (x : List ℤ) (place i j : ℕ) → i ≡ j → length region ≤ place → HoldsPart parts x i → Named region parts x place j
named-at region parts x place i j same past held = record { past = past; held = subst (λ (n : ℕ). HoldsPart parts x n) same held }

-- one decided part, and the rests
one-decided : (region ps : List Term) (first : Part) (x : List ℤ) (place : ℕ) → holds region x ≡ true → IsFirstZero (region ++ ps) x place →
    Named region (first ∷ map (unmarked k.Unexplored) (rests region ps)) x place (1 + (place - length region))
one-decided region ps first x place h cut =
    let b = behind region ps x place h cut in
    let parts = first ∷ map (unmarked k.Unexplored) (rests region ps) in
    named-at region parts x place (suc b.i) (1 + (place - length region)) (omega (arith, b.place_is)) (omega (arith, b.place_is))
    (one-on first (map (unmarked k.Unexplored) (rests region ps)) x b.i (open-behind region ps x place b))

-- two decided parts, cut by a term, and the rests
two-decided : (region ps : List Term) (t : Term) (first second : Part) (x : List ℤ) (place : ℕ) → second.region ≡ (region ++ ps) ++ negation t ∷ [] → holds region x ≡ true → IsFirstZero ((region ++ ps) ++ t ∷ []) x place →
    Named region (first ∷ second ∷ map (unmarked k.Unexplored) (rests region ps)) x place (if place + 1 == length ((region ++ ps) ++ t ∷ []) then 1 else 2 + (place - length region))
two-decided region ps t first second x place is h cut = elim (eqb_tells (place + 1) (length ((region ++ ps) ++ t ∷ []))) [
  | inl last ↦
      let count : length ((region ++ ps) ++ t ∷ []) ≡ length (region ++ ps) + 1 = length-append (region ++ ps) (t ∷ []) in
      let at : place ≡ length (region ++ ps) + 0 = let e = last.1 in omega arith in
      let inside : holds (region ++ ps) x ≡ true =
      ap (λ (ts : List Term). holds ts x) (sym (ap (λ (n : ℕ). take n ((region ++ ps) ++ t ∷ [])) (let e : place ≡ length (region ++ ps) = omega (arith, at) in e) ∙ take-append_seam (region ++ ps) (t ∷ []))) ∙ cut.before in
      let zeroed : is_zero (term_value t x) ≡ true =
      ap (λ (u : Term). is_zero (term_value u x)) (sym (ap (λ (n : ℕ). term_at ((region ++ ps) ++ t ∷ []) n) at ∙ term_at-behind (region ++ ps) (t ∷ []) 0)) ∙ cut.zero in
      let held : holds second.region x ≡ true = ap (λ (ts : List Term). holds ts x) is ∙ holds-less (region ++ ps) t x ∙ rw (inside, zeroed) refl in
      named-at region (first ∷ second ∷ rest) x place 1 _ (sym (ap (λ (b : Bool). if b then 1 else 2 + (place - length region)) last.0))
      (omega (arith, at, length-append region ps)) (record { part = second; at = refl; inside = held })
  | inr more ↦
      let count : length ((region ++ ps) ++ t ∷ []) ≡ length (region ++ ps) + 1 = length-append (region ++ ps) (t ∷ []) in
      let less : place < length (region ++ ps) = let e = more.1 in omega (arith, cut.within) in
      let earlier : IsFirstZero (region ++ ps) x place = record {
        within = less;
        before = ap (λ (ts : List Term). holds ts x) (sym (take-append-le place (region ++ ps) (t ∷ []) (omega arith))) ∙ cut.before;
        zero = ap (λ (u : Term). is_zero (term_value u x)) (sym (term_at-append (region ++ ps) (t ∷ []) place less)) ∙ cut.zero;
      } in
      let b = behind region ps x place h earlier in
      named-at region (first ∷ second ∷ rest) x place (suc (suc b.i)) _
      (let e : suc (suc b.i) ≡ 2 + (place - length region) = omega (arith, b.place_is) in e ∙ sym (ap (λ (c : Bool). if c then 1 else 2 + (place - length region)) more.0))
      (omega (arith, b.place_is))
      (one-on first (second ∷ rest) x (suc b.i) (one-on second rest x b.i (open-behind region ps x place b)))
]
  where
    rest : List Part
    rest = map (unmarked k.Unexplored) (rests region ps)

second-region : (pair : Pair) (t : List ℤ) (other : Other) (region : List Term) → (second_part pair t other region).region ≡ region
second-region pair t (Found x) region = refl
second-region pair t (Left why) region = refl

-- the first literal of the first part that is 0 names the part
parts-named : (pair : Pair) (region : List Term) (shape : Shape) (t : List ℤ) (other : Other) (why : Reason) (x : List ℤ) (place : ℕ) (first : Part) → holds region x ≡ true →
    slice_get (parts_of pair region shape t other why) 0 ≡ Some first → IsFirstZero first.region x place →
    Named region (parts_of pair region shape t other why) x place (part_without shape (length region) (length first.region) place)
parts-named pair region Empty t other why x place first h at cut_there =
    let same : region ≡ first.region = ap (λ (p : Part). p.region) (same_Some (unmarked k.Empty region) first at) in
    let P : List Term → Type 0 = λ r. IsFirstZero r x place in
    let own = subst P (sym same) cut_there in
    absurd (none-zero region x place h own.within own.zero)
parts-named pair region Stuck t other why x place first h at cut_there =
    let same : region ≡ first.region = ap (λ (p : Part). p.region) (same_Some (unmarked (k.Undecided why) region) first at) in
    let P : List Term → Type 0 = λ r. IsFirstZero r x place in
    let own = subst P (sym same) cut_there in
    absurd (none-zero region x place h own.within own.zero)
parts-named pair region Beyond t other why x place first h at cut_there =
    let same : partition pair region t ≡ first.region = ap (λ (p : Part). p.region) (same_Some _ first at) in
    let P : List Term → Type 0 = λ r. IsFirstZero r x place in
    one-decided region (pair_literals pair region t) _ x place h (subst P (sym same) cut_there)
parts-named pair region Whole t other why x place first h at cut_there =
    let same : partition pair region t ≡ first.region = ap (λ (p : Part). p.region) (same_Some _ first at) in
    let P : List Term → Type 0 = λ r. IsFirstZero r x place in
    one-decided region (pair_literals pair region t) _ x place h (subst P (sym same) cut_there)
parts-named pair region Split t other why x place first h at cut_there =
    let cut = decided_equality pair t in
    let both = partition pair region t in
    let same : both ++ cut ∷ [] ≡ first.region = ap (λ (p : Part). p.region) (same_Some _ first at) in
    let P : List Term → Type 0 = λ r. Named region (parts_of pair region Split t other why) x place (part_without Split (length region) (length r) place) in
    let Q : List Term → Type 0 = λ r. IsFirstZero r x place in
    subst P same
    (two-decided region (pair_literals pair region t) cut _ (second_part pair t other (both ++ negation cut ∷ [])) x place (second-region pair t other (both ++ negation cut ∷ [])) h (subst Q (sym same) cut_there))

pub record IsNamed (f : Finding) (x : List ℤ) (place named : ℕ) : Type 0 where
  pub past : length f.region ≤ place
  pub held : HoldsPart f.parts x named
  pub few : named < length f.parts

-- in a settlement
pub settled-named : (f : Finding) (x : List ℤ) (place : ℕ) (first : Part) → IsSettlement f → holds f.region x ≡ true → slice_get f.parts 0 ≡ Some first → IsFirstZero first.region x place →
    IsNamed f x place (part_without f.shape (length f.region) (length first.region) place)
settled-named f x place first settled h at cut_there =
    let has = settled.parts in
    let t = unwrap_or f.member [] in
    let P : List Part → Type 0 = λ ps. Named f.region ps x place (part_without f.shape (length f.region) (length first.region) place) in
    let found = subst P (sym has.2) (parts-named f.pair f.region f.shape t has.0 has.1 x place first h (ap (λ (ps : List Part). slice_get ps 0) (sym has.2) ∙ at) cut_there) in
    record { past = found.past; held = found.held; few = slice_get_within f.parts _ found.held.part found.held.at }

-- a region's terms are as many as their numbers
pub roots-many : (region : List Term) (at : ℕ → Term) (roots : List ℕ) → region ≡ map at roots → length roots ≡ length region
roots-many region at roots is = sym (ap length is ∙ length-map roots at)
