-- The list of entries of a point is legal, and its first entry holds exactly the point.
use Rattle.std.proofs.Common.{◌≡◌, ℕ, zero, suc, ◌+◌, Bool, true, false, ◌&&◌, not, List, [], ◌∷◌, ◌++◌, length, map, ℤ, pos, Option, Some, slice_get, unwrap_or, refl, sym, ap, ◌∙◌, subst, arith, append_assoc}
use Rattle.std.specs.Ordering.{int_eq}
use Rattle.std.specs.List.{AllByRecursion}
use Rattle.std.specs.Cmp.{signed_Decides}
use Rattle.std.proofs.lemmas.List.{append-nil, length-append}
use Rattle.prv_model.specs.Words.{is_zero}
use Rattle.prv_model.specs.Terms.{term_value, holds}
use Rattle.prv_model.specs.Comparison.{verdict}
use Rattle.prv_model.specs.Boards.{IsInput, one_if, places, Claims, ShowsMember, IsTrueOf, IsLegal, FirstHoldsOnly}
use Rattle.prv_model.specs.declared.op.TermOp.TheVariants.{Eq, Ne}
use Rattle.prv_model.specs.declared.term.Term.{Term}
use Rattle.prv_model.specs.declared.term.Term.TheVariants.{Param, Num}
use Rattle.prv_model.specs.declared.verdict.Verdict.{Verdict}
use Rattle.prv_model.specs.declared.verdict.Verdict.TheVariants as v
use Rattle.prv_model.specs.declared.program.Pair.{Pair}
use Rattle.prv_model.proofs.TermLemmas.{term_value-Param, term_value-Num, term_value-Op, is_zero-flag, holds-append}
use Rattle.prv_run.specs.Points.{equals, differs, literals, rests, kind_at, point}

-- whether parameter k of an input has the word n
has : ℕ → ℤ → List ℤ → Bool
has k n y = int_eq (unwrap_or (slice_get y k) (pos 0)) n

nonzero-equals : (k : ℕ) (n : ℤ) (y : List ℤ) → not (is_zero (term_value (equals k n) y)) ≡ has k n y
unfolding has
nonzero-equals k n y = rw (term_value-Op Eq (Param k) (Num n) y, term_value-Param k y, term_value-Num n y) (is_zero-flag (has k n y))

nonzero-differs : (k : ℕ) (n : ℤ) (y : List ℤ) → not (is_zero (term_value (differs k n) y)) ≡ not (has k n y)
unfolding has
nonzero-differs k n y = rw (term_value-Op Ne (Param k) (Num n) y, term_value-Param k y, term_value-Num n y) (is_zero-flag (not (has k n y)))

and_true : (b : Bool) → (b && true) ≡ b
and_true true = refl
and_true false = refl

holds-then : (front : List Term) (t : Term) (b : Bool) (y : List ℤ) → not (is_zero (term_value t y)) ≡ b → holds (front ++ t ∷ []) y ≡ (holds front y && b)
holds-then front t b y is = holds-append front (t ∷ []) y ∙ ap (λ (c : Bool). holds front y && c) (and_true _ ∙ is)

-- of an input in the front, either it has the word or it hasn't
either : (h e : Bool) → one_if (h && not e) + one_if (h && e) ≡ one_if (h)
either true true = refl
either true false = refl
either false e = refl

-- an input in the front lies in exactly one of the point and its rests, and no other input lies in any
places-point : (front : List Term) (number k : ℕ) (x y : List ℤ) →
    places ((front ++ literals k x) ∷ map (λ e. e.terms) (rests number front k x)) y ≡ one_if (holds front y)
places-point front number k [] y = rw (append-nil front) (omega arith)
places-point front number k (n ∷ x) y =
    let more = front ++ equals k n ∷ [] in
    let rest = places (map (λ e. e.terms) (rests (suc number) more (suc k) x)) y in
    let same : more ++ literals (suc k) x ≡ front ++ literals k (n ∷ x) = append_assoc front (equals k n ∷ []) (literals (suc k) x) in
    let here : one_if (holds (front ++ literals k (n ∷ x)) y) + rest ≡ one_if (holds front y && has k n y) =
    ap (λ (r : List Term). one_if (holds r y) + rest) (sym same)
    ∙ places-point more (suc number) (suc k) x y
    ∙ ap one_if (holds-then front (equals k n) (has k n y) y (nonzero-equals k n y)) in
    let there : one_if (holds (front ++ differs k n ∷ []) y) ≡ one_if (holds front y && not (has k n y)) =
    ap one_if (holds-then front (differs k n) (not (has k n y)) y (nonzero-differs k n y)) in
    omega (arith, here, there, either (holds front y) (has k n y))

slice_get-append : (front : List ℤ) (m : ℤ) (y : List ℤ) (k : ℕ) → length front ≡ k → slice_get (front ++ m ∷ y) k ≡ Some m
slice_get-append [] m y zero e = refl
slice_get-append [] m y (suc k) e = cc
slice_get-append (a ∷ front) m y zero e = cc
slice_get-append (a ∷ front) m y (suc k) e = slice_get-append front m y k (omega arith)

has-append : (front : List ℤ) (m n : ℤ) (y : List ℤ) (k : ℕ) → length front ≡ k → has k n (front ++ m ∷ y) ≡ int_eq m n
unfolding has
has-append front m n y k e = ap (λ (o : Option ℤ). int_eq (unwrap_or o (pos 0)) n) (slice_get-append front m y k e)

first_of_and : (a b : Bool) → (a && b) ≡ true → a ≡ true
first_of_and true b e = refl
first_of_and false b e = e

second_of_and : (a b : Bool) → (a && b) ≡ true → b ≡ true
second_of_and true b e = e
second_of_and false b e = cc

-- only the point itself has its words
only : (front x y : List ℤ) (k : ℕ) → length front ≡ k → length y ≡ length x → holds (literals k x) (front ++ y) ≡ true → y ≡ x
only front [] [] k at long inside = refl
only front [] (m ∷ y) k at long inside = cc
only front (n ∷ x) [] k at long inside = cc
only front (n ∷ x) (m ∷ y) k at long inside =
    let one : has k n (front ++ m ∷ y) ≡ true = sym (nonzero-equals k n (front ++ m ∷ y)) ∙ first_of_and _ _ inside in
    let same : m ≡ n = (signed_Decides m n).0 (sym (has-append front m n y k at) ∙ one) in
    let next : length (front ++ m ∷ []) ≡ suc k = omega (arith, length-append front (m ∷ []), at) in
    let rest : holds (literals (suc k) x) ((front ++ m ∷ []) ++ y) ≡ true =
    ap (λ (z : List ℤ). holds (literals (suc k) x) z) (append_assoc front (m ∷ []) y) ∙ second_of_and _ _ inside in
    let tail : y ≡ x = only (front ++ m ∷ []) x y (suc k) next (omega arith) rest in
    cc

-- the point has its words
itself : (front x : List ℤ) (k : ℕ) → length front ≡ k → holds (literals k x) (front ++ x) ≡ true
itself front [] k at = refl
itself front (n ∷ x) k at =
    let one : not (is_zero (term_value (equals k n) (front ++ n ∷ x))) ≡ true =
    nonzero-equals k n (front ++ n ∷ x) ∙ has-append front n n x k at ∙ (signed_Decides n n).1 refl in
    let next : length (front ++ n ∷ []) ≡ suc k = omega (arith, length-append front (n ∷ []), at) in
    let rest : holds (literals (suc k) x) (front ++ n ∷ x) ≡ true =
    ap (λ (z : List ℤ). holds (literals (suc k) x) z) (sym (append_assoc front (n ∷ []) x)) ∙ itself (front ++ n ∷ []) x (suc k) next in
    rw (one, rest) refl

-- the point holds exactly itself
pub point-only : (x y : List ℤ) → length y ≡ length x → holds (literals 0 x) y ≡ true → y ≡ x
point-only x y long inside = only [] x y 0 refl long inside

pub point-itself : (x : List ℤ) → holds (literals 0 x) x ≡ true
point-itself x = itself [] x 0 refl

-- each input lies in exactly one entry
pub point-once : (w : Verdict) (x y : List ℤ) → places (map (λ e. e.terms) (point w x)) y ≡ 1
point-once w x y = places-point [] 2 0 x y

-- what a verdict on an input lets be claimed is true of it
kind-claims : (w : Verdict) (x : List ℤ) → Claims (kind_at w x) w
kind-claims v.Beyond x = refl
kind-claims v.Same x = refl
kind-claims v.Differ x = refl

kind-sample : (count : ℕ) (w : Verdict) (x : List ℤ) → IsInput count x → ShowsMember count (kind_at w x) (literals 0 x)
kind-sample count v.Beyond x here = tt
kind-sample count v.Same x here = tt
kind-sample count v.Differ x here = (here, point-itself x)

-- the rests claim nothing, and show no sample
rests-true : (pair : Pair) (number : ℕ) (front : List Term) (k : ℕ) (x : List ℤ) →
    AllByRecursion (λ e. IsTrueOf pair e.kind e.terms) (rests number front k x)
rests-true pair number front k [] = tt
rests-true pair number front k (n ∷ x) =
    (record { claims = λ y there inside. tt; sample = tt }, rests-true pair (suc number) (front ++ equals k n ∷ []) (suc k) x)

pub point-legal : (pair : Pair) (x : List ℤ) → IsInput pair.before.params x → IsLegal pair (point (verdict pair x) x)
point-legal pair x here = record {
  once = λ y there. point-once (verdict pair x) x y;
  true_kinds = (
    record {
      claims = λ y there inside. subst (λ (z : List ℤ). Claims (kind_at (verdict pair x) x) (verdict pair z)) (sym (point-only x y (there.long ∙ sym here.long) inside)) (kind-claims (verdict pair x) x);
      sample = kind-sample pair.before.params (verdict pair x) x here;
    },
    rests-true pair 2 [] 0 x,
  );
}

pub point-first : (count : ℕ) (w : Verdict) (x : List ℤ) → IsInput count x → FirstHoldsOnly count (point w x) x
point-first count w x here =
    (refl, here, λ y there. (point-only x y (there.long ∙ sym here.long), λ same. subst (λ (z : List ℤ). holds (literals 0 x) z ≡ true) (sym same) (point-itself x)))
