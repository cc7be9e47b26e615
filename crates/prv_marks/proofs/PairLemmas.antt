-- Two versions make a pair or are refused for one reason, and never both.
use Rattle.std.proofs.Common.{◌≡◌, ℕ, List, Option, Some, None, sym, ◌∙◌, ap}
use Rattle.std.proofs.lemmas.Option.{same_Some, none-some}
use Rattle.prv_names.specs.declared.version.MarkAt.{MarkAt}
use Rattle.prv_names.specs.declared.version.Version.{Version}
use Rattle.prv_rule.specs.declared.skeleton.Skel.{Skel}
use Rattle.prv_marks.specs.declared.error.PairError.{PairError}
use Rattle.prv_marks.specs.declared.error.PairError.TheVariants.{Params, MarkTwice, MarkInside, Unmarked}
use Rattle.prv_marks.specs.declared.error.Side.{Side}
use Rattle.prv_marks.specs.declared.error.Side.TheVariants.{Before, After}
use Rattle.prv_marks.specs.Marks.{first_inner}
use Rattle.prv_marks.specs.Skeletons.{DifferAt, place_at}
use Rattle.prv_marks.specs.Pairs.{MakePair, UseMarksOnce, HaveNoInner, IsTwice, IsInside, IsRefused}
use Rattle.prv_marks.proofs.MarkLemmas.{one_twice, once_not_twice}
use Rattle.prv_marks.proofs.SkeletonLemmas.{equal_no_difference, one_index}

once_no_twice : (before after : List MarkAt) (side : Side) (mark : ℕ) → UseMarksOnce before after → IsTwice before after side mark → ⊥
once_no_twice before after Before mark once twice = once_not_twice before mark once.0 twice
once_no_twice before after After mark once twice = once_not_twice after mark once.1 twice.1

one_twice_mark : (before after : List MarkAt) (s t : Side) (m n : ℕ) → IsTwice before after s m → IsTwice before after t n → MarkTwice s m ≡ MarkTwice t n
one_twice_mark before after Before Before m n p q = ap (λ (k : ℕ). MarkTwice Before k) (one_twice before m n p q)
one_twice_mark before after Before After m n p q = absurd (once_not_twice before m q.0 p)
one_twice_mark before after After Before m n p q = absurd (once_not_twice before n p.0 q)
one_twice_mark before after After After m n p q = ap (λ (k : ℕ). MarkTwice After k) (one_twice after m n p.1 q.1)

-- a place is there, and none is
not_both : (o : Option ℕ) (k : ℕ) → o ≡ None → o ≡ Some k → ⊥
not_both o k none some = none-some k (sym none ∙ some)

no_inner_inside : (before after : List MarkAt) (side : Side) (place : ℕ) → HaveNoInner before after → IsInside before after side place → ⊥
no_inner_inside before after Before place none some = not_both (first_inner before) place none.0 some
no_inner_inside before after After place none some = not_both (first_inner after) place none.1 some.1

one_inside_place : (before after : List MarkAt) (s t : Side) (m n : ℕ) → IsInside before after s m → IsInside before after t n → MarkInside s m ≡ MarkInside t n
one_inside_place before after Before Before m n p q = ap (λ (k : ℕ). MarkInside Before k) (same_Some m n (sym p ∙ q))
one_inside_place before after Before After m n p q = absurd (not_both (first_inner before) m q.0 p)
one_inside_place before after After Before m n p q = absurd (not_both (first_inner before) n p.0 q)
one_inside_place before after After After m n p q = ap (λ (k : ℕ). MarkInside After k) (same_Some m n (sym p.1 ∙ q.1))

one_difference : (before after : List Skel) (k l m n : ℕ) → DifferAt before after k l → DifferAt before after m n → Unmarked k l ≡ Unmarked m n
one_difference before after k l m n p q =
    let same : p.index ≡ q.index = one_index before after p.index q.index p.first q.first in
    let old : k ≡ m = sym p.before_there ∙ ap (λ (i : ℕ). place_at before i) same ∙ q.before_there in
    let new : l ≡ n = sym p.after_there ∙ ap (λ (i : ℕ). place_at after i) same ∙ q.after_there in
    cc

-- two versions are refused for one reason at most
pub one_refusal : (before after : Version) (e f : PairError) → IsRefused before after e → IsRefused before after f → e ≡ f
one_refusal before after (Params k l) (Params m n) p q =
    let old : k ≡ m = p.1 ∙ sym q.1 in
    let new : l ≡ n = p.2 ∙ sym q.2 in
    cc
one_refusal before after (Params k l) (MarkTwice t n) p q = absurd (p.0 q.0)
one_refusal before after (Params k l) (MarkInside t n) p q = absurd (p.0 q.0)
one_refusal before after (Params k l) (Unmarked m n) p q = absurd (p.0 q.0)
one_refusal before after (MarkTwice s m) (Params k l) p q = absurd (q.0 p.0)
one_refusal before after (MarkTwice s m) (MarkTwice t n) p q = one_twice_mark before.marks after.marks s t m n p.1 q.1
one_refusal before after (MarkTwice s m) (MarkInside t n) p q = absurd (once_no_twice before.marks after.marks s m q.1 p.1)
one_refusal before after (MarkTwice s m) (Unmarked k n) p q = absurd (once_no_twice before.marks after.marks s m q.1 p.1)
one_refusal before after (MarkInside s m) (Params k l) p q = absurd (q.0 p.0)
one_refusal before after (MarkInside s m) (MarkTwice t n) p q = absurd (once_no_twice before.marks after.marks t n p.1 q.1)
one_refusal before after (MarkInside s m) (MarkInside t n) p q = one_inside_place before.marks after.marks s t m n p.2 q.2
one_refusal before after (MarkInside s m) (Unmarked k n) p q = absurd (no_inner_inside before.marks after.marks s m q.2 p.2)
one_refusal before after (Unmarked k l) (Params m n) p q = absurd (q.0 p.0)
one_refusal before after (Unmarked k l) (MarkTwice t n) p q = absurd (once_no_twice before.marks after.marks t n p.1 q.1)
one_refusal before after (Unmarked k l) (MarkInside t n) p q = absurd (no_inner_inside before.marks after.marks t n p.2 q.2)
one_refusal before after (Unmarked k l) (Unmarked m n) p q = one_difference before.skeleton after.skeleton k l m n p.3 q.3

-- versions that make a pair are not refused
pub pair_not_refused : (before after : Version) (why : PairError) → MakePair before after → IsRefused before after why → ⊥
pair_not_refused before after (Params m n) pair refused = refused.0 pair.same_params
pair_not_refused before after (MarkTwice side mark) pair refused = once_no_twice before.marks after.marks side mark pair.once refused.1
pair_not_refused before after (MarkInside side place) pair refused = no_inner_inside before.marks after.marks side place pair.no_inner refused.2
pair_not_refused before after (Unmarked m n) pair refused = equal_no_difference before.skeleton after.skeleton refused.3.index pair.same_items refused.3.first
