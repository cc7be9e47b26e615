-- What a recorder is told of in parts, and which numbers follow for it.
use Rattle.std.proofs.Common.{◌≡◌, ℕ, suc, zero, ◌+◌, ◌<◌, ◌≤◌, List, [], ◌∷◌, ◌++◌, length, drop, map, Some, Result, Ok, Err, refl, sym, ap, ◌∙◌, subst, append_assoc, slice_get, ◌-◌, length-append, length-drop, sum, arith}
use Rattle.std.proofs.lemmas.List.{append-nil, length-map, drop-drop, drop_at}
use Rattle.std.proofs.lemmas.List.Sums.{sum_by-cons}
use Rattle.std.specs.Result.{OkIff, result_unwrap_or}
use Rattle.prv_model.specs.Numbers.{statements, statements_all}
use Rattle.prv_model.specs.Programs.{stmt_count}
use Rattle.prv_model.proofs.NumberLaws.{counts}
use Rattle.prv_model.specs.declared.limits.TheConstants.{MAX_STMTS}
use Rattle.prv_model.specs.declared.stmt.Stmt.{Stmt}
use Rattle.prv_run.specs.declared.event.Event.{Event}
use Rattle.prv_run.specs.declared.record.Recorder.{Recorder}
use Rattle.prv_run.specs.declared.record.Recorder.TheVariants.{Off, On}
use Rattle.prv_run.specs.Telling.{tell, HasSizes, Knows, Agrees}

pub tell-nothing : (r : Recorder) → tell r [] ≡ r
tell-nothing Off = refl
tell-nothing (On sizes told) = ap (λ (es : List Event). On sizes es) (append-nil told)

pub tell-more : (r : Recorder) (a b : List Event) → tell (tell r a) b ≡ tell r (a ++ b)
tell-more Off a b = refl
tell-more (On sizes told) a b = ap (λ (es : List Event). On sizes es) (append_assoc told a b)

-- what depends on a number is told alike where the numbers agree
pub tell-agrees : (r : Recorder) (es : ℕ → List Event) (j k : ℕ) → Agrees r j k → tell r (es j) ≡ tell r (es k)
tell-agrees Off es j k same = refl
tell-agrees (On sizes told) es j k same = ap (λ (n : ℕ). On sizes (told ++ es n)) same

pub knows-told : (r : Recorder) (es : List Event) (k : ℕ) (flat : List Stmt) → Knows r k flat → Knows (tell r es) k flat
knows-told Off es k flat known = tt
knows-told (On sizes told) es k flat known = known

pub agrees-told : (r : Recorder) (es : List Event) (j k : ℕ) → Agrees r j k → Agrees (tell r es) j k
agrees-told Off es j k same = tt
agrees-told (On sizes told) es j k same = same

-- the sizes of the first of two lists, and those behind them
sizes-split : (a b : List Stmt) (back : List ℕ) → map (λ s. stmt_count s) (a ++ b) ++ back ≡ map (λ s. stmt_count s) a ++ (map (λ s. stmt_count s) b ++ back)
sizes-split [] b back = refl
sizes-split (s ∷ a) b back = ap (λ (rest : List ℕ). stmt_count s ∷ rest) (sizes-split a b back)

has-front : (sizes : List ℕ) (k : ℕ) (a b : List Stmt) → HasSizes sizes k (a ++ b) → HasSizes sizes k a
has-front sizes k a b h = record { few = h.few; behind = map (λ s. stmt_count s) b ++ h.behind; placed = h.placed ∙ sizes-split a b h.behind }

has-behind : (sizes : List ℕ) (k j : ℕ) (a b : List Stmt) → HasSizes sizes k (a ++ b) → j ≡ k + length a → HasSizes sizes j b
has-behind sizes k j a b h is = record {
  few = h.few;
  behind = h.behind;
  placed =
      ap (λ (n : ℕ). drop n sizes) is ∙ sym (drop-drop (length a) k sizes)
      ∙ ap (λ (rest : List ℕ). drop (length a) rest) (h.placed ∙ sizes-split a b h.behind)
      ∙ drop_at (map (λ s. stmt_count s) a) (map (λ s. stmt_count s) b ++ h.behind) (length a) (length-map a (λ s. stmt_count s));
}

pub knows-front : (r : Recorder) (k : ℕ) (a b : List Stmt) → Knows r k (a ++ b) → Knows r k a
knows-front Off k a b known = tt
knows-front (On sizes told) k a b known = has-front sizes k a b known

pub knows-inside : (r : Recorder) (k j : ℕ) (s : Stmt) (flat : List Stmt) → Knows r k (s ∷ flat) → Agrees r j (k + 1) → Knows r j flat
knows-inside Off k j s flat known same = tt
knows-inside (On sizes told) k j s flat known same = has-behind sizes k j (s ∷ []) flat known same

pub knows-behind : (r : Recorder) (k j : ℕ) (s : Stmt) (b : List Stmt) → Knows r k (statements s ++ b) → Agrees r j (k + stmt_count s) → Knows r j b
knows-behind Off k j s b known same = tt
knows-behind (On sizes told) k j s b known same = has-behind sizes k j (statements s) b known (same ∙ ap (λ (n : ℕ). k + n) (sym (counts s)))

-- what stands at a place
drop-none : {A : Type 0} (k : ℕ) {ys : List A} {x : A} → drop k [] ≡ x ∷ ys → slice_get [] k ≡ Some x
drop-none zero e = cc
drop-none (suc k) e = cc

head-is : {A : Type 0} {x z : A} {xs ys : List A} → z ∷ xs ≡ x ∷ ys → z ≡ x
head-is e = cc

at-place : {A : Type 0} (k : ℕ) (xs ys : List A) (x : A) → drop k xs ≡ x ∷ ys → slice_get xs k ≡ Some x
at-place k [] ys x e = drop-none k e
at-place zero (z ∷ xs) ys x e = ap Some (head-is e)
at-place (suc k) (z ∷ xs) ys x e = at-place k xs ys x e

-- the size that stands at a statement's number, and how far it reaches
pub size-at : (sizes : List ℕ) (k : ℕ) (s : Stmt) → HasSizes sizes k (statements s) → (slice_get sizes k ≡ Some (stmt_count s)) × (k + stmt_count s ≤ MAX_STMTS)
size-at sizes k s h =
    let all : length sizes - k ≡ length (statements s) + length h.behind = sym (length-drop k sizes) ∙ ap (λ (xs : List ℕ). length xs) h.placed ∙ length-append (map (λ t. stmt_count t) (statements s)) h.behind ∙ ap (λ (n : ℕ). n + length h.behind) (length-map (statements s) (λ t. stmt_count t)) in
    let few : length sizes ≤ MAX_STMTS = h.few in
    let some : 1 ≤ length (statements s) = omega arith in
    (at-place k sizes _ (stmt_count s) h.placed, subst (λ (n : ℕ). k + n ≤ MAX_STMTS) (counts s) (omega arith))

-- what is known once more is told
pub knows-on : (r0 r1 : Recorder) (es : List Event) (k : ℕ) (flat : List Stmt) → r1 ≡ tell r0 es → Knows r0 k flat → Knows r1 k flat
knows-on r0 r1 es k flat is known = subst (λ (r : Recorder). Knows r k flat) (sym is) (knows-told r0 es k flat known)

pub agrees-on : (r0 r1 : Recorder) (es : List Event) (j k : ℕ) → r1 ≡ tell r0 es → Agrees r0 j k → Agrees r1 j k
agrees-on r0 r1 es j k is same = subst (λ (r : Recorder). Agrees r j k) (sym is) (agrees-told r0 es j k same)

-- a number that fits is kept
pub fitting : {E : Type 0} (r : Result ℕ E) (n most d : ℕ) → OkIff r (n < most) n → n < most → result_unwrap_or r d ≡ n
fitting (Ok x) n most d is fits = is.1
fitting (Err e) n most d is fits = absurd (is fits)

-- the statements of a list are as many as they count together
pub counts-all : (all : List Stmt) → length (statements_all all) ≡ sum (map (λ s. stmt_count s) all)
counts-all [] = refl
counts-all (s ∷ all) =
    length-append (statements s) (statements_all all) ∙ ap (λ (n : ℕ). n + length (statements_all all)) (counts s) ∙ ap (λ (n : ℕ). stmt_count s + n) (counts-all all)
    ∙ sym (sum_by-cons (λ n. n) (stmt_count s) (map (λ t. stmt_count t) all))

-- the sizes of all statements of a list are known from 0 on
pub knows-all : (sizes : List ℕ) (told : List Event) (all : List Stmt) → sizes ≡ map (λ s. stmt_count s) (statements_all all) → sum (map (λ s. stmt_count s) all) ≤ MAX_STMTS →
    Knows (On sizes told) 0 (statements_all all)
knows-all sizes told all is few = record {
  few = subst (λ (n : ℕ). n ≤ MAX_STMTS) (sym (ap (λ (xs : List ℕ). length xs) is ∙ length-map (statements_all all) (λ s. stmt_count s) ∙ counts-all all)) few;
  behind = [];
  placed = is ∙ sym (append-nil (map (λ s. stmt_count s) (statements_all all)));
}
