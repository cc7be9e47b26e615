-- The partition of the runs at an input, and the two halves of it.
use Rattle.std.proofs.Common.{◌≡◌, ℕ, ◌+◌, ◌<◌, ◌≤◌, ◌^◌, Bool, false, ◌||◌, nat_eq, List, [], ◌∷◌, ◌++◌, length, map, Some, Ok, All, ℤ, pos, if◌then◌else◌, refl, sym, ap, ◌∙◌, subst, arith, length-append}
use Rattle.std.proofs.lemmas.List.{length-map, map-append}
use Rattle.std.specs.List.{list_any}
use Rattle.prv_model.specs.Terms.{IsTerm}
use Rattle.prv_model.specs.declared.entry.Kind.{Kind}
use Rattle.prv_model.specs.declared.entry.Kind.TheVariants as k
use Rattle.prv_model.specs.declared.program.Pair.{Pair}
use Rattle.prv_model.specs.declared.term.Term.{Term}
use Rattle.prv_pool.specs.Folding.{is_number, negation}
use Rattle.prv_pool.specs.Tables.{Table, Makes, term_at, has_term}
use Rattle.prv_sym.specs.Calls.{StandsFor}
use Rattle.prv_sym.proofs.Naming.{Grows, grows-on, grown, stands-on, stands-in, stands-at, still-in, made-at}
use Rattle.prv_select.specs.Choices.{rising}
use Rattle.prv_general.specs.Answers.{terms_at}
use Rattle.prv_general.proofs.Standing.{all-long, all-in, all-terms}
use Rattle.prv_blast.proofs.Growing.{recursive-all, all-recursive, all-append}
use Rattle.prv_part.specs.Literals.{without_repeats, slice_before, slice_after, pair_literals, equality, agree_at, decided_equality}
use Rattle.prv_part.specs.Parts.{partition}
use Rattle.prv_part.specs.declared.part.Part.{Part}
use Rattle.prv_part.specs.declared.shape.Shape.TheVariants as s
use Rattle.prv_record.specs.declared.raw.RawOther.{RawOther}
use Rattle.prv_record.specs.declared.raw.RawOther.TheVariants as o
use Rattle.prv_record.specs.declared.raw.Proof.{Proof}
use Rattle.prv_record.specs.declared.raw.Proof.TheVariants as p
use Rattle.prv_settle.specs.Counts.{has_many_literals}
use Rattle.prv_settle.specs.Grounds.{is_granted, other_part}
use Rattle.prv_settle.specs.Halving.{AreHalves}
use Rattle.prv_settle.specs.Making.{AreNodes, AreRuns, IsCut, claimed, second_of, parts_from}
use Rattle.prv_settle.specs.Rooms.{HasRoom}
use Rattle.prv_settle.specs.Settlings.{raw_of}
use Rattle.prv_settle.specs.Supported.{raw_parts, other_of, reason_of}
use Rattle.prv_settle.specs.declared.cut.Cut.{Cut}
use Rattle.prv_settle.specs.declared.halves.Halves.{Halves}
use Rattle.prv_settle.specs.declared.runs.Runs.{Runs}
use Rattle.prv_settle.proofs.NodeLists.{same-terms}
use Rattle.prv_settle.proofs.OtherParts.{other-part-terms}
use Rattle.prv_settle.proofs.Rooms.{room-left}
use Rattle.prv_settle.proofs.Sizes.{few-literals}
use Rattle.prv_settle.proofs.Assembling.{beyond-parts, whole-parts, split-parts}

-- ---- the partition

-- the nodes of both runs are of their table
pub region-in : (pair : Pair) (region : List Term) (t : List ℤ) (table : Table) (made : Runs) → AreRuns pair region t table made → AreNodes table.terms made.region
region-in pair region t table made h = all-in table.terms made.region region h.region_is

pub before-in : (pair : Pair) (region : List Term) (t : List ℤ) (table : Table) (made : Runs) → AreRuns pair region t table made → AreNodes table.terms made.before.literals
before-in pair region t table made h = all-in table.terms made.before.literals (slice_before pair t).literals h.before_is.literals

pub after-in : (pair : Pair) (region : List Term) (t : List ℤ) (table : Table) (made : Runs) → AreRuns pair region t table made → AreNodes table.terms made.after.literals
after-in pair region t table made h = all-in table.terms made.after.literals (slice_after pair t).literals h.after_is.literals

pub cut-is : (pair : Pair) (region : List Term) (t : List ℤ) (made : Runs) (cut : Cut) (us xs ys ms ns : List ℕ) → AreRuns pair region t cut.pool made →
    us ≡ made.region → xs ≡ made.before.literals → ys ≡ made.after.literals → ms ≡ made.before.marks → ns ≡ made.after.marks → cut.region ≡ length us → AreNodes cut.pool.terms cut.partition.items →
    terms_at cut.pool.terms cut.partition.items ≡ terms_at cut.pool.terms us ++ without_repeats (terms_at cut.pool.terms us) (terms_at cut.pool.terms xs ++ terms_at cut.pool.terms ys) →
    cut.marks.items ≡ rising (λ mark. list_any (nat_eq mark) (ms ++ ns)) → IsCut pair region t cut
cut-is pair region t made cut us xs ys ms ns h eu ex ey em en long nodes terms marks =
    let table = cut.pool in
    let u : terms_at table.terms us ≡ region = ap (terms_at table.terms) eu ∙ all-terms table.terms made.region region h.region_is in
    let a : terms_at table.terms xs ≡ (slice_before pair t).literals = ap (terms_at table.terms) ex ∙ all-terms table.terms made.before.literals (slice_before pair t).literals h.before_is.literals in
    let b : terms_at table.terms ys ≡ (slice_after pair t).literals = ap (terms_at table.terms) ey ∙ all-terms table.terms made.after.literals (slice_after pair t).literals h.after_is.literals in
    let m : ms ≡ (slice_before pair t).marks = em ∙ h.before_is.marks in
    let n : ns ≡ (slice_after pair t).marks = en ∙ h.after_is.marks in
    record {
      long = long ∙ ap (λ (l : List ℕ). length l) eu ∙ all-long table.terms made.region region h.region_is;
      nodes = nodes;
      partition_is = terms ∙ (λ i. u i ++ without_repeats (u i) (a i ++ b i));
      marks_are = marks ∙ (λ i. rising (λ mark. list_any (nat_eq mark) (m i ++ n i)));
    }

-- the region's nodes stand before the literals'
pub cut-long : (pair : Pair) (region : List Term) (t : List ℤ) (cut : Cut) → IsCut pair region t cut → cut.region ≤ length cut.partition.items
cut-long pair region t cut h =
    let nodes = length-map cut.partition.items (term_at cut.pool.terms) in
    let terms : length (terms_at cut.pool.terms cut.partition.items) ≡ length (partition pair region t) = ap (λ (ts : List Term). length ts) h.partition_is in
    let all = length-append region (pair_literals pair region t) in
    let long = h.long in
    omega (arith, nodes, terms, all, long)

-- a table that has grown has the partition still
cut-on : (pair : Pair) (region : List Term) (t : List ℤ) (cut : Cut) (table : Table) → Grows cut.pool.terms table.terms → IsCut pair region t cut → IsCut pair region t (record cut { pool = table })
cut-on pair region t cut table g h = record {
  long = h.long;
  nodes = λ k d below. still-in cut.pool.terms table.terms _ g (h.nodes k d below);
  partition_is = same-terms cut.pool.terms table.terms cut.partition.items (record { more = g.0; is = g.1 }) h.nodes ∙ h.partition_is;
  marks_are = h.marks_are;
}

-- the equality in the table that the partition took over
pub equality-stands : (pair : Pair) (region : List Term) (t : List ℤ) (table now : Table) (made : Runs) → AreRuns pair region t table made → now ≡ table → StandsFor now.terms made.equality (equality (slice_before pair t) (slice_after pair t))
equality-stands pair region t table now made h e = let P : Table → Type 0 = λ z. StandsFor z.terms made.equality (equality (slice_before pair t) (slice_after pair t)) in subst P (sym e) h.equality_is

pub equality-in : (pair : Pair) (region : List Term) (t : List ℤ) (table now : Table) (made : Runs) → AreRuns pair region t table made → now ≡ table → made.equality < length now.terms
equality-in pair region t table now made h e = stands-in now.terms made.equality _ (equality-stands pair region t table now made h e)

-- ---- its halves

abbrev pub decided_term : List Term → ℕ → Bool → Term
decided_term terms n agree = if agree then term_at terms n else negation (term_at terms n)

pub halves-are : (pair : Pair) (region : List Term) (t : List ℤ) (cut : Cut) (mid last : Table) (n first second : ℕ) (agree : Bool) → Makes (decided_term cut.pool.terms n agree) cut.pool mid (Ok first) →
    Makes (negation (term_at mid.terms first)) mid last (Ok second) → HasRoom 4 cut → length mid.terms ≤ length cut.pool.terms + 2 → length last.terms ≤ length mid.terms + 2 → IsCut pair region t cut → agree ≡ agree_at pair t → StandsFor cut.pool.terms n (equality (slice_before pair t) (slice_after pair t)) →
    AreHalves pair region t (record { cut = record cut { pool = last }; first = first; second = second; agree = agree })
halves-are pair region t cut mid last n first second agree one two room few fewer h same stands =
    let old = cut.pool in
    let make = decided_term old.terms n agree in
    let e : term_at old.terms n ≡ equality (slice_before pair t) (slice_after pair t) = stands-at old.terms n _ stands in
    let is : make ≡ decided_equality pair t = λ i. if same i then e i else negation (e i) in
    let begun : Grows old.terms mid.terms = grown make old mid first one in
    let later : Grows mid.terms last.terms = grown (negation (term_at mid.terms first)) mid last second two in
    let at : term_at mid.terms first ≡ decided_equality pair t = made-at make old mid first one ∙ is in
    record {
      cut = cut-on pair region t cut last (grows-on old.terms mid.terms last.terms begun later) h;
      first = stands-on mid.terms last.terms first (decided_equality pair t) later (subst (StandsFor mid.terms first) is one.stands);
      second = subst (StandsFor last.terms second) (ap negation at) two.stands;
      agree = same;
      room = room-left cut mid last room few fewer one.limit two.limit;
    }

-- what the partition says by itself
pub granted-is : (pair : Pair) (region : List Term) (t : List ℤ) (halves : Halves) → AreHalves pair region t halves →
    (is_number (pos 1) (term_at halves.cut.pool.terms halves.first) || has_term (terms_at halves.cut.pool.terms halves.cut.partition.items) (term_at halves.cut.pool.terms halves.first)) ≡ is_granted pair region t
granted-is pair region t halves h =
    let first : term_at halves.cut.pool.terms halves.first ≡ decided_equality pair t = stands-at halves.cut.pool.terms halves.first _ h.first in
    λ i. is_number (pos 1) (first i) || has_term (h.cut.partition_is i) (first i)

-- as it is found at the nodes
pub granted-by : (pair : Pair) (region : List Term) (t : List ℤ) (halves : Halves) (ns : List ℕ) (z b : Bool) → AreHalves pair region t halves → ns ≡ halves.cut.partition.items →
    z ≡ (is_number (pos 1) (term_at halves.cut.pool.terms halves.first) || has_term (terms_at halves.cut.pool.terms ns) (term_at halves.cut.pool.terms halves.first)) → z ≡ b → is_granted pair region t ≡ b
granted-by pair region t halves ns z b h e is at =
    let terms = halves.cut.pool.terms in
    sym (granted-is pair region t halves h) ∙ (λ i. is_number (pos 1) (term_at terms halves.first) || has_term (terms_at terms (sym e i)) (term_at terms halves.first)) ∙ sym is ∙ at

-- the nodes of the other part
pub other-nodes-in : (pair : Pair) (region : List Term) (t : List ℤ) (halves : Halves) → AreHalves pair region t halves → AreNodes halves.cut.pool.terms (halves.cut.partition.items ++ halves.second ∷ [])
other-nodes-in pair region t halves h =
    let terms = halves.cut.pool.terms in
    let In : ℕ → Type 0 = λ n. n < length terms in
    recursive-all In (halves.cut.partition.items ++ halves.second ∷ [])
    (all-append In halves.cut.partition.items (halves.second ∷ []) (all-recursive In halves.cut.partition.items h.cut.nodes) (stands-in terms halves.second _ h.second, tt))

pub other-is : (pair : Pair) (region : List Term) (t : List ℤ) (halves : Halves) → AreHalves pair region t halves → map (term_at halves.cut.pool.terms) (halves.cut.partition.items ++ halves.second ∷ []) ≡ other_part pair region t
other-is pair region t halves h =
    let terms = halves.cut.pool.terms in
    map-append (term_at terms) halves.cut.partition.items (halves.second ∷ []) ∙ (λ i. h.cut.partition_is i ++ stands-at terms halves.second _ h.second i ∷ [])

-- so are those of a condition of these nodes
pub cond-in : (pair : Pair) (region : List Term) (t : List ℤ) (halves : Halves) (cond : List ℕ) → AreHalves pair region t halves → cond ≡ halves.cut.partition.items ++ halves.second ∷ [] → AreNodes halves.cut.pool.terms cond
cond-in pair region t halves cond h e = subst (AreNodes halves.cut.pool.terms) (sym e) (other-nodes-in pair region t halves h)

pub cond-is : (pair : Pair) (region : List Term) (t : List ℤ) (halves : Halves) (cond : List ℕ) → AreHalves pair region t halves → cond ≡ halves.cut.partition.items ++ halves.second ∷ [] → map (term_at halves.cut.pool.terms) cond ≡ other_part pair region t
cond-is pair region t halves cond h e = ap (map (term_at halves.cut.pool.terms)) e ∙ other-is pair region t halves h

pub cond-few : (pair : Pair) (region : List Term) (t : List ℤ) (halves : Halves) (cond : List ℕ) → AreHalves pair region t halves → cond ≡ halves.cut.partition.items ++ halves.second ∷ [] → length (other_part pair region t) ≤ 2 ^ 49 → length cond ≤ 2 ^ 49
cond-few pair region t halves cond h e few =
    let long = length-map cond (term_at halves.cut.pool.terms) in
    let same : length (map (term_at halves.cut.pool.terms) cond) ≡ length (other_part pair region t) = ap (λ (ts : List Term). length ts) (cond-is pair region t halves cond h e) in
    omega (arith, long, same, few)

-- the other part speaks of the parameters alone
pub other-known : (pair : Pair) (region : List Term) (t : List ℤ) → All (IsTerm pair.before.params) region → All (IsTerm pair.before.params) (other_part pair region t)
other-known pair region t known =
    recursive-all (IsTerm pair.before.params) (other_part pair region t) (other-part-terms pair region t (all-recursive (IsTerm pair.before.params) region known))

-- the other part has few literals
pub other-few : (pair : Pair) (region : List Term) (t : List ℤ) → length region ≤ 2 ^ 48 → has_many_literals pair t ≡ false → length (other_part pair region t) ≤ 2 ^ 49
other-few pair region t few none =
    let literals = few-literals pair region t none in
    let all = length-append region (pair_literals pair region t) in
    let one = length-append (partition pair region t) (negation (decided_equality pair t) ∷ []) in
    omega (arith, literals, all, one, few)

-- ---- parts

pub beyond-made : (pair : Pair) (region : List Term) (t : List ℤ) (entry : ℕ) (cut : Cut) (parts : List Part) → IsCut pair region t cut →
    parts ≡ parts_from cut.region (terms_at cut.pool.terms cut.partition.items) (record { region = terms_at cut.pool.terms cut.partition.items; kind = k.Beyond; marks = cut.marks.items } ∷ []) →
    parts ≡ raw_parts pair region (raw_of entry s.Beyond (Some t) o.None p.None)
beyond-made pair region t entry cut parts h are =
    are ∙ beyond-parts pair region t cut.region (terms_at cut.pool.terms cut.partition.items) cut.marks.items (other_of o.None) (reason_of o.None) h.long h.partition_is h.marks_are

pub whole-made : (pair : Pair) (region : List Term) (t : List ℤ) (entry : ℕ) (proof : Proof) (cut : Cut) (agree : Bool) (kind : Kind) (parts : List Part) → IsCut pair region t cut → agree ≡ agree_at pair t → kind ≡ claimed agree t →
    parts ≡ parts_from cut.region (terms_at cut.pool.terms cut.partition.items) (record { region = terms_at cut.pool.terms cut.partition.items; kind = kind; marks = cut.marks.items } ∷ []) →
    parts ≡ raw_parts pair region (raw_of entry s.Whole (Some t) o.None proof)
whole-made pair region t entry proof cut agree kind parts h same claims are =
    let terms = terms_at cut.pool.terms cut.partition.items in
    are ∙ (λ i. parts_from cut.region terms (record { region = terms; kind = claims i; marks = cut.marks.items } ∷ []))
    ∙ whole-parts pair region t cut.region terms cut.marks.items agree (other_of o.None) (reason_of o.None) h.long h.partition_is h.marks_are same

pub split-made : (pair : Pair) (region : List Term) (t : List ℤ) (entry : ℕ) (other : RawOther) (proof : Proof) (halves : Halves) (agree : Bool) (parts : List Part) → AreHalves pair region t halves → agree ≡ agree_at pair t → (other ≡ o.None → ⊥) →
    parts ≡ parts_from halves.cut.region (terms_at halves.cut.pool.terms halves.cut.partition.items) (
    record { region = terms_at halves.cut.pool.terms halves.cut.partition.items ++ term_at halves.cut.pool.terms halves.first ∷ []; kind = claimed agree t; marks = halves.cut.marks.items }
    ∷ second_of agree other halves.cut.marks.items (terms_at halves.cut.pool.terms halves.cut.partition.items ++ term_at halves.cut.pool.terms halves.second ∷ [])
    ∷ []
    ) → parts ≡ raw_parts pair region (raw_of entry s.Split (Some t) other proof)
split-made pair region t entry other proof halves agree parts h same some are =
    let cut = halves.cut in
    let terms = cut.pool.terms in
    are
    ∙ split-parts pair region t cut.region (terms_at terms cut.partition.items) cut.marks.items agree (term_at terms halves.first) (term_at terms halves.second) other (reason_of other) h.cut.long h.cut.partition_is h.cut.marks_are same
    (stands-at terms halves.first _ h.first) (stands-at terms halves.second _ h.second) some
