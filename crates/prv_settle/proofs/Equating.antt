-- The equality of two slices, as nodes of one table.
use Rattle.std.proofs.Common.{◌≡◌, ℕ, suc, ◌+◌, ◌<◌, nat_eq, Bool, true, false, ◌&&◌, List, [], ◌∷◌, length, get_or, slice_get, Some, Result, Ok, Err, IfOk, pos, if◌then◌else◌, sym, ap, ◌∙◌, subst, arith}
use Rattle.prv_model.specs.Comparison.{ending_eq}
use Rattle.prv_model.specs.declared.op.TermOp.TheVariants.{And, Eq}
use Rattle.prv_model.specs.declared.term.Term.{Term}
use Rattle.prv_model.specs.declared.term.Term.TheVariants.{Num}
use Rattle.prv_pool.specs.Folding.{folded}
use Rattle.prv_pool.specs.Tables.{Table, Makes, term_at}
use Rattle.prv_pool.specs.declared.error.PoolError.{PoolError}
use Rattle.prv_sym.specs.Calls.{Names, StandsFor}
use Rattle.prv_sym.proofs.Naming.{Grows, refused, names-one, two-named, makes-as, made-at, kept-at, stands-at, stands-in, still-in, term-kept}
use Rattle.prv_general.specs.Answers.{IsSlice, terms_at}
use Rattle.prv_general.specs.Slices as slices
use Rattle.prv_general.specs.declared.slice.Slice.{Slice}
use Rattle.prv_general.proofs.Standing.{all-long, all-in, all-terms}
use Rattle.prv_part.specs.Literals.{are_comparable, all_equal, all_equal_named, equality, equality_named}
use Rattle.prv_settle.specs.Making.{AreNodes}
use Rattle.prv_settle.proofs.NodeLists.{term-of}
use Rattle.prv_settle.proofs.Joining.{IsJoined, joined-more, joined-refused}

-- ---- a join with one equality more

module _ (made before after same : ℕ) (old mid new : Table) where
  abbrev Same : Term
  Same = folded Eq (term_at old.terms before) (term_at old.terms after)

  abbrev Joined : Term
  Joined = folded And (term_at old.terms made) Same

  joined-as : (r : Result ℕ PoolError) → made < length old.terms → Makes Same old mid (Ok same) → Makes (folded And (term_at mid.terms made) (term_at mid.terms same)) mid new r → Makes Joined mid new r
  joined-as r below first second =
      makes-as _ Joined mid new r (λ i. folded And (kept-at Same old mid same made first below i) (made-at Same old mid same first i)) second

  pub one-more-named : (r : Result ℕ PoolError) → made < length old.terms → Makes Same old mid (Ok same) → Makes (folded And (term_at mid.terms made) (term_at mid.terms same)) mid new r → Names (Same ∷ Joined ∷ []) old new r
  one-more-named r below first second = two-named Same Joined old mid new same r first (joined-as r below first second)

  pub one-more-stands : (r : Result ℕ PoolError) → made < length old.terms → Makes Same old mid (Ok same) → Makes (folded And (term_at mid.terms made) (term_at mid.terms same)) mid new r → IfOk r (λ n. StandsFor new.terms n Joined)
  one-more-stands r below first second = (joined-as r below first second).stands

-- ---- the loop over the pairs

-- the nodes of one pair in the table as it is now
pub record IsPair (old now : Table) (before after : List ℕ) (i made m n : ℕ) : Type 0 where
  pub first : slice_get (terms_at old.terms before) i ≡ Some (term_at now.terms m)
  pub second : slice_get (terms_at old.terms after) i ≡ Some (term_at now.terms n)
  pub made_in : made < length now.terms
  pub first_in : m < length now.terms
  pub second_in : n < length now.terms

one-of : (old now : Table) (ns : List ℕ) (i m : ℕ) → Grows old.terms now.terms → AreNodes old.terms ns → i < length ns → m ≡ get_or ns i 0 → slice_get (terms_at old.terms ns) i ≡ Some (term_at now.terms m)
one-of old now ns i m g h below at =
    let inside : m < length old.terms = subst (λ (k : ℕ). k < length old.terms) (sym at) (h i 0 below) in
    term-of old.terms ns i 0 below ∙ ap (λ (k : ℕ). Some (term_at old.terms k)) (sym at) ∙ ap (λ (t : Term). Some t) (sym (term-kept old.terms now.terms m g inside))

in-now : (old now : Table) (ns : List ℕ) (i m : ℕ) → Grows old.terms now.terms → AreNodes old.terms ns → i < length ns → m ≡ get_or ns i 0 → m < length now.terms
in-now old now ns i m g h below at = still-in old.terms now.terms m g (subst (λ (k : ℕ). k < length old.terms) (sym at) (h i 0 below))

pub pair-at : (old now : Table) (before after : List ℕ) (i made m n : ℕ) → IsJoined old now (terms_at old.terms before) (terms_at old.terms after) i made → length before ≡ length after → AreNodes old.terms before → AreNodes old.terms after →
    i < length before → m ≡ get_or before i 0 → n ≡ get_or after i 0 → IsPair old now before after i made m n
pair-at old now before after i made m n j same hb ha below at to =
    let other : i < length after = omega (arith, same, below) in
    record {
      first = one-of old now before i m j.names.kept hb below at;
      second = one-of old now after i n j.names.kept ha other to;
      made_in = stands-in now.terms made j.term j.stands;
      first_in = in-now old now before i m j.names.kept hb below at;
      second_in = in-now old now after i n j.names.kept ha other to;
    }

-- the join is that of the term so far
joined-term : (old now : Table) (before after : List ℕ) (i made m n : ℕ) → (j : IsJoined old now (terms_at old.terms before) (terms_at old.terms after) i made) →
    folded And (term_at now.terms made) (folded Eq (term_at now.terms m) (term_at now.terms n)) ≡ folded And j.term (folded Eq (term_at now.terms m) (term_at now.terms n))
joined-term old now before after i made m n j = ap (λ (t : Term). folded And t (folded Eq (term_at now.terms m) (term_at now.terms n))) (stands-at now.terms made j.term j.stands)

pub joined-step : (old now new : Table) (before after : List ℕ) (i made next m n : ℕ) → (j : IsJoined old now (terms_at old.terms before) (terms_at old.terms after) i made) → IsPair old now before after i made m n →
    StandsFor new.terms next (folded And (term_at now.terms made) (folded Eq (term_at now.terms m) (term_at now.terms n))) →
    Names {A = ℕ} (folded Eq (term_at now.terms m) (term_at now.terms n) ∷ folded And (term_at now.terms made) (folded Eq (term_at now.terms m) (term_at now.terms n)) ∷ []) now new (Ok next) →
    IsJoined old new (terms_at old.terms before) (terms_at old.terms after) (i + 1) next
joined-step old now new before after i made next m n j p stands names =
    let same = folded Eq (term_at now.terms m) (term_at now.terms n) in
    let term = joined-term old now before after i made m n j in
    let more = joined-more old now new (terms_at old.terms before) (terms_at old.terms after) i made next (term_at now.terms m) (term_at now.terms n) p.first p.second j
    (subst (λ (t : Term). StandsFor new.terms next t) term stands) (subst (λ (t : Term). Names {A = ℕ} (same ∷ t ∷ []) now new (Ok next)) term names) in
    let one : suc i ≡ i + 1 = omega arith in
    subst (λ (k : ℕ). IsJoined old new (terms_at old.terms before) (terms_at old.terms after) k next) one more

pub joined-stop : {B : Type 0} (old now new : Table) (before after : List ℕ) (i made m n : ℕ) (e : PoolError) → (j : IsJoined old now (terms_at old.terms before) (terms_at old.terms after) i made) → IsPair old now before after i made m n →
    Names {A = ℕ} (folded Eq (term_at now.terms m) (term_at now.terms n) ∷ folded And (term_at now.terms made) (folded Eq (term_at now.terms m) (term_at now.terms n)) ∷ []) now new (Err e) →
    Names {A = B} (Num (pos 1) ∷ all_equal_named (Num (pos 1)) (terms_at old.terms before) (terms_at old.terms after)) old new (Err e)
joined-stop {B = B} old now new before after i made m n e j p names =
    let same = folded Eq (term_at now.terms m) (term_at now.terms n) in
    let term = joined-term old now before after i made m n j in
    joined-refused {B = B} old now new (terms_at old.terms before) (terms_at old.terms after) i made (term_at now.terms m) (term_at now.terms n) e p.first p.second j
    (refused {A = ℕ} {B = B} _ now new e (subst (λ (t : Term). Names {A = ℕ} (same ∷ t ∷ []) now new (Err e)) term names))

-- ---- both slices

-- whether two slices can be compared, by what stands for them
pub comparable-as : (terms : List Term) (before after : Slice) (a b : slices.Slice) (z : Bool) → IsSlice terms before a → IsSlice terms after b →
    z ≡ (ending_eq before.how after.how && nat_eq (length before.outs) (length after.outs)) → are_comparable a b ≡ z
comparable-as terms before after a b z ha hb is =
    let one = all-long terms before.outs a.outs ha.outs in
    let two = all-long terms after.outs b.outs hb.outs in
    sym (is ∙ (λ i. ending_eq (ha.how i) (hb.how i) && nat_eq (one i) (two i)))

equal-some : (terms : List Term) (before after : Slice) (a b : slices.Slice) → IsSlice terms before a → IsSlice terms after b → are_comparable a b ≡ true →
    (all_equal (Num (pos 1)) (terms_at terms before.outs) (terms_at terms after.outs) ≡ equality a b) ×
    (Num (pos 1) ∷ all_equal_named (Num (pos 1)) (terms_at terms before.outs) (terms_at terms after.outs) ≡ equality_named a b)
equal-some terms before after a b ha hb z =
    let one = all-terms terms before.outs a.outs ha.outs in
    let two = all-terms terms after.outs b.outs hb.outs in (
      (λ i. all_equal (Num (pos 1)) (one i) (two i)) ∙ sym (ap (λ (y : Bool). if y then all_equal (Num (pos 1)) a.outs b.outs else Num (pos 0)) z),
      (λ i. Num (pos 1) ∷ all_equal_named (Num (pos 1)) (one i) (two i))
          ∙ sym (ap (λ (y : Bool). if y then (Num (pos 1) ∷ all_equal_named (Num (pos 1)) a.outs b.outs) else (Num (pos 0) ∷ [])) z),
    )

equal-none : (a b : slices.Slice) → are_comparable a b ≡ false → (Num (pos 0) ≡ equality a b) × (Num (pos 0) ∷ [] ≡ equality_named a b)
equal-none a b z = (
  sym (ap (λ (y : Bool). if y then all_equal (Num (pos 1)) a.outs b.outs else Num (pos 0)) z),
  sym (ap (λ (y : Bool). if y then (Num (pos 1) ∷ all_equal_named (Num (pos 1)) a.outs b.outs) else (Num (pos 0) ∷ [])) z),
)

pub outs-in : (terms : List Term) (made : Slice) (s : slices.Slice) (outs : List ℕ) → outs ≡ made.outs → IsSlice terms made s → AreNodes terms outs
outs-in terms made s outs is h = subst (λ (ns : List ℕ). AreNodes terms ns) (sym is) (all-in terms made.outs s.outs h.outs)

module _ (before after : Slice) (a b : slices.Slice) (old new : Table) (r : Result ℕ PoolError) where
  pub equal-stands : (x y : List ℕ) → x ≡ before.outs → y ≡ after.outs → IsSlice old.terms before a → IsSlice old.terms after b → are_comparable a b ≡ true →
      IfOk r (λ n. StandsFor new.terms n (all_equal (Num (pos 1)) (terms_at old.terms x) (terms_at old.terms y))) → IfOk r (λ n. StandsFor new.terms n (equality a b))
  equal-stands x y ax by ha hb z h =
      let same : all_equal (Num (pos 1)) (terms_at old.terms x) (terms_at old.terms y) ≡ equality a b =
      (λ i. all_equal (Num (pos 1)) (terms_at old.terms (ax i)) (terms_at old.terms (by i))) ∙ (equal-some old.terms before after a b ha hb z).0 in
      subst (λ (t : Term). IfOk r (λ n. StandsFor new.terms n t)) same h

  pub equal-names : (x y : List ℕ) → x ≡ before.outs → y ≡ after.outs → IsSlice old.terms before a → IsSlice old.terms after b → are_comparable a b ≡ true →
      Names (Num (pos 1) ∷ all_equal_named (Num (pos 1)) (terms_at old.terms x) (terms_at old.terms y)) old new r → Names (equality_named a b) old new r
  equal-names x y ax by ha hb z h =
      let same : Num (pos 1) ∷ all_equal_named (Num (pos 1)) (terms_at old.terms x) (terms_at old.terms y) ≡ equality_named a b =
      (λ i. Num (pos 1) ∷ all_equal_named (Num (pos 1)) (terms_at old.terms (ax i)) (terms_at old.terms (by i))) ∙ (equal-some old.terms before after a b ha hb z).1 in
      subst (λ (ts : List Term). Names ts old new r) same h

  pub none-stands : are_comparable a b ≡ false → Makes (Num (pos 0)) old new r → IfOk r (λ n. StandsFor new.terms n (equality a b))
  none-stands z m = subst (λ (t : Term). IfOk r (λ n. StandsFor new.terms n t)) (equal-none a b z).0 m.stands

  pub none-names : are_comparable a b ≡ false → Makes (Num (pos 0)) old new r → Names (equality_named a b) old new r
  none-names z m = subst (λ (ts : List Term). Names ts old new r) (equal-none a b z).1 (names-one (Num (pos 0)) old new r m)
