-- The equality of two slices, pair by pair.
use Rattle.std.proofs.Common.{◌≡◌, ℕ, zero, suc, ◌≤◌, List, [], ◌∷◌, ◌++◌, length, drop, slice_get, Option, Some, unwrap_or, Ok, Err, pos, refl, sym, ap, ◌∙◌, subst, arith, append_assoc, append-nil}
use Rattle.prv_model.specs.declared.op.TermOp.TheVariants.{And, Eq}
use Rattle.prv_model.specs.declared.term.Term.{Term}
use Rattle.prv_model.specs.declared.term.Term.TheVariants.{Num}
use Rattle.prv_pool.specs.Folding.{folded}
use Rattle.prv_pool.specs.Tables.{Table, Makes}
use Rattle.prv_pool.specs.declared.error.PoolError.{PoolError}
use Rattle.prv_sym.specs.Calls.{Names, StandsFor}
use Rattle.prv_sym.proofs.Naming.{names-one, names-then, names-stop}
use Rattle.prv_part.specs.Literals.{all_equal, all_equal_named}

-- the term that is joined so far, and what is named for it; with the rest it is the whole equality
pub record IsJoined (old now : Table) (a b : List Term) (i made : ℕ) : Type 0 where
  pub term : Term
  pub stands : StandsFor now.terms made term
  pub front : List Term
  pub names : Names {A = ℕ} front old now (Ok made)
  pub rest : all_equal term (drop i a) (drop i b) ≡ all_equal (Num (pos 1)) a b
  pub named : front ++ all_equal_named term (drop i a) (drop i b) ≡ Num (pos 1) ∷ all_equal_named (Num (pos 1)) a b

pub joined-start : (old now : Table) (a b : List Term) (made : ℕ) → Makes (Num (pos 1)) old now (Ok made) → IsJoined old now a b 0 made
joined-start old now a b made m = record {
  term = Num (pos 1);
  stands = m.stands;
  front = Num (pos 1) ∷ [];
  names = names-one (Num (pos 1)) old now (Ok made) m;
  rest = refl;
  named = refl;
}

drop-at : (ts : List Term) (i : ℕ) (t : Term) → slice_get ts i ≡ Some t → drop i ts ≡ t ∷ drop (suc i) ts
drop-at [] i t at = cc at
drop-at (u ∷ ts) zero t at = let same : u ≡ t = ap (λ (o : Option Term). unwrap_or o u) at in ap (λ (v : Term). v ∷ ts) same
drop-at (u ∷ ts) (suc i) t at = drop-at ts i t at

-- one pair more
pub joined-more : (old now new : Table) (a b : List Term) (i made next : ℕ) (x y : Term) → slice_get a i ≡ Some x → slice_get b i ≡ Some y → (j : IsJoined old now a b i made) →
    StandsFor new.terms next (folded And j.term (folded Eq x y)) → Names {A = ℕ} (folded Eq x y ∷ folded And j.term (folded Eq x y) ∷ []) now new (Ok next) → IsJoined old new a b (suc i) next
joined-more old now new a b i made next x y ax by j stands names =
    let same = folded Eq x y in
    let joined = folded And j.term same in
    let both : all_equal j.term (drop i a) (drop i b) ≡ all_equal joined (drop (suc i) a) (drop (suc i) b) = λ k. all_equal j.term (drop-at a i x ax k) (drop-at b i y by k) in
    let all : all_equal_named j.term (drop i a) (drop i b) ≡ same ∷ joined ∷ all_equal_named joined (drop (suc i) a) (drop (suc i) b) = λ k. all_equal_named j.term (drop-at a i x ax k) (drop-at b i y by k) in
    record {
      term = joined;
      stands = stands;
      front = j.front ++ same ∷ joined ∷ [];
      names = names-then j.front (same ∷ joined ∷ []) old now new made (Ok next) j.names names;
      rest = sym both ∙ j.rest;
      named = append_assoc j.front (same ∷ joined ∷ []) (all_equal_named joined (drop (suc i) a) (drop (suc i) b)) ∙ ap (λ (ts : List Term). j.front ++ ts) (sym all) ∙ j.named;
    }

-- a pair that was refused
pub joined-refused : {B : Type 0} (old now new : Table) (a b : List Term) (i made : ℕ) (x y : Term) (e : PoolError) → slice_get a i ≡ Some x → slice_get b i ≡ Some y → (j : IsJoined old now a b i made) →
    Names {A = B} (folded Eq x y ∷ folded And j.term (folded Eq x y) ∷ []) now new (Err e) → Names {A = B} (Num (pos 1) ∷ all_equal_named (Num (pos 1)) a b) old new (Err e)
joined-refused {B} old now new a b i made x y e ax by j names =
    let same = folded Eq x y in
    let joined = folded And j.term same in
    let left = all_equal_named joined (drop (suc i) a) (drop (suc i) b) in
    let all : all_equal_named j.term (drop i a) (drop i b) ≡ same ∷ joined ∷ left = λ k. all_equal_named j.term (drop-at a i x ax k) (drop-at b i y by k) in
    let front : Names {A = B} (j.front ++ same ∷ joined ∷ []) old new (Err e) = names-then j.front (same ∷ joined ∷ []) old now new made (Err e) j.names names in
    let whole : (j.front ++ same ∷ joined ∷ []) ++ left ≡ Num (pos 1) ∷ all_equal_named (Num (pos 1)) a b =
    append_assoc j.front (same ∷ joined ∷ []) left ∙ ap (λ (ts : List Term). j.front ++ ts) (sym all) ∙ j.named in
    subst (λ (ts : List Term). Names {A = B} ts old new (Err e)) whole (names-stop {A = B} {B = B} (j.front ++ same ∷ joined ∷ []) left old new e front)

drop-all : (ts : List Term) (i : ℕ) → length ts ≤ i → drop i ts ≡ []
drop-all [] zero h = refl
drop-all [] (suc i) h = refl
drop-all (t ∷ ts) zero h = absurd (omega (arith, h))
drop-all (t ∷ ts) (suc i) h = drop-all ts i (omega (arith, h))

-- all pairs
pub joined-all : (old now : Table) (a b : List Term) (i made : ℕ) → length a ≤ i → IsJoined old now a b i made →
    StandsFor now.terms made (all_equal (Num (pos 1)) a b) × Names {A = ℕ} (Num (pos 1) ∷ all_equal_named (Num (pos 1)) a b) old now (Ok made)
joined-all old now a b i made h j =
    let done : all_equal j.term (drop i a) (drop i b) ≡ j.term = ap (λ (ts : List Term). all_equal j.term ts (drop i b)) (drop-all a i h) in
    let none : all_equal_named j.term (drop i a) (drop i b) ≡ [] = ap (λ (ts : List Term). all_equal_named j.term ts (drop i b)) (drop-all a i h) in
    let front : j.front ≡ Num (pos 1) ∷ all_equal_named (Num (pos 1)) a b = sym (append-nil j.front) ∙ ap (λ (ts : List Term). j.front ++ ts) (sym none) ∙ j.named in (
      subst (λ (t : Term). StandsFor now.terms made t) (sym done ∙ j.rest) j.stands,
      subst (λ (ts : List Term). Names {A = ℕ} ts old now (Ok made)) front j.names,
    )
