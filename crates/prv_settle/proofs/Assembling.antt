-- The parts that are made are those of the shape.
use Rattle.std.proofs.Common.{◌≡◌, ℕ, Bool, true, false, not, List, [], ◌∷◌, ◌++◌, length, map, take, drop, ℤ, if◌then◌else◌, refl, sym, ap, ◌∙◌}
use Rattle.std.proofs.Math.Seq.{take-append_seam, drop-append_seam}
use Rattle.prv_model.specs.declared.entry.Kind.TheVariants as k
use Rattle.prv_model.specs.declared.entry.Reason.{Reason}
use Rattle.prv_model.specs.declared.program.Pair.{Pair}
use Rattle.prv_model.specs.declared.term.Term.{Term}
use Rattle.prv_pool.specs.Folding.{negation}
use Rattle.prv_part.specs.Literals.{pair_literals, pair_marks, agree_at, decided_equality}
use Rattle.prv_part.specs.Parts.{Other, rests, unmarked, open_rests, partition, parts_of, decided_part, kind_at, second_part}
use Rattle.prv_part.specs.declared.part.Part.{Part}
use Rattle.prv_part.specs.declared.shape.Shape.TheVariants.{Whole, Split, Beyond}
use Rattle.prv_record.specs.declared.raw.RawOther.{RawOther}
use Rattle.prv_record.specs.declared.raw.RawOther.TheVariants as o
use Rattle.prv_settle.specs.Making.{claimed, second_of, parts_from}
use Rattle.prv_settle.specs.Supported.{other_of}

-- the rests of a partition
rests-are : (pair : Pair) (region : List Term) (t : List ℤ) (n : ℕ) (whole : List Term) → n ≡ length region → whole ≡ partition pair region t →
    map (unmarked k.Unexplored) (rests (take n whole) (drop n whole)) ≡ open_rests pair region t
rests-are pair region t n whole long is =
    (λ i. map (unmarked k.Unexplored) (rests (take (long i) (is i)) (drop (long i) (is i))))
    ∙ (λ i. map (unmarked k.Unexplored) (rests (take-append_seam region (pair_literals pair region t) i) (drop-append_seam region (pair_literals pair region t) i)))

pub beyond-parts : (pair : Pair) (region : List Term) (t : List ℤ) (n : ℕ) (whole : List Term) (marks : List ℕ) (other : Other) (why : Reason) → n ≡ length region → whole ≡ partition pair region t → marks ≡ pair_marks pair t →
    parts_from n whole (record { region = whole; kind = k.Beyond; marks = marks } ∷ []) ≡ parts_of pair region Beyond t other why
beyond-parts pair region t n whole marks other why long is marked =
    λ i. record { region = is i; kind = k.Beyond; marks = marked i } ∷ rests-are pair region t n whole long is i

pub whole-parts : (pair : Pair) (region : List Term) (t : List ℤ) (n : ℕ) (whole : List Term) (marks : List ℕ) (agree : Bool) (other : Other) (why : Reason) → n ≡ length region → whole ≡ partition pair region t → marks ≡ pair_marks pair t → agree ≡ agree_at pair t →
    parts_from n whole (record { region = whole; kind = claimed agree t; marks = marks } ∷ []) ≡ parts_of pair region Whole t other why
whole-parts pair region t n whole marks agree other why long is marked same =
    λ i. record { region = is i; kind = claimed (same i) t; marks = marked i } ∷ rests-are pair region t n whole long is i

contrary : (b : Bool) (y : List ℤ) → claimed (not b) y ≡ (if b then k.Different y else k.Same)
contrary true y = refl
contrary false y = refl

second-is : (pair : Pair) (t : List ℤ) (other : RawOther) (region : List Term) (marks : List ℕ) → marks ≡ pair_marks pair t → (shown : Other) → shown ≡ other_of other →
    (other ≡ o.None → ⊥) → second_of (agree_at pair t) other marks region ≡ second_part pair t shown region
second-is pair t o.None region marks marked shown is some = absurd (some refl)
second-is pair t (o.Member y) region marks marked shown is some =
    (λ i. record { region = region; kind = contrary (agree_at pair t) y i; marks = marked i }) ∙ ap (λ (s : Other). second_part pair t s region) (sym is)
second-is pair t (o.Reason why) region marks marked shown is some = ap (λ (s : Other). second_part pair t s region) (sym is)

pub split-parts : (pair : Pair) (region : List Term) (t : List ℤ) (n : ℕ) (whole : List Term) (marks : List ℕ) (agree : Bool) (a b : Term) (other : RawOther) (why : Reason) → n ≡ length region → whole ≡ partition pair region t → marks ≡ pair_marks pair t → agree ≡ agree_at pair t →
    a ≡ decided_equality pair t → b ≡ negation (decided_equality pair t) → (other ≡ o.None → ⊥) →
    parts_from n whole (record { region = whole ++ a ∷ []; kind = claimed agree t; marks = marks } ∷ second_of agree other marks (whole ++ b ∷ []) ∷ []) ≡ parts_of pair region Split t (other_of other) why
split-parts pair region t n whole marks agree a b other why long is marked same first second some =
    (λ i. record { region = is i ++ first i ∷ []; kind = claimed (same i) t; marks = marked i } ∷ second_of (same i) other marks (is i ++ second i ∷ []) ∷ rests-are pair region t n whole long is i)
    ∙ ap (λ (p : Part). decided_part pair t (kind_at pair t) (partition pair region t ++ decided_equality pair t ∷ []) ∷ p ∷ open_rests pair region t)
    (second-is pair t other (partition pair region t ++ negation (decided_equality pair t) ∷ []) marks marked (other_of other) refl some)
