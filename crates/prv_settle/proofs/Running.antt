-- The runs of both versions in one table: which terms were named, and whether they are too many.
use Rattle.std.proofs.Common.{◌≡◌, ◌<◌, List, ◌++◌, length, Result, Ok, Err, OnOk, OnErr, ℤ, ap, ◌∙◌}
use Rattle.prv_model.specs.Outcomes.{outcome}
use Rattle.prv_model.specs.declared.program.Pair.{Pair}
use Rattle.prv_model.specs.declared.term.Term.{Term}
use Rattle.prv_pool.specs.Tables.{Table, add_terms}
use Rattle.prv_pool.specs.declared.error.PoolError.{PoolError}
use Rattle.prv_pool.specs.declared.error.PoolError.TheVariants.{Wide}
use Rattle.prv_sym.specs.Calls.{Names, StandsFor}
use Rattle.prv_sym.proofs.Naming.{Grows, grows-none, grows-on, only-all, only-none, add_terms-grows, names-then, names-stop}
use Rattle.prv_general.specs.Answers.{IsSlice, terms_at}
use Rattle.prv_general.specs.Slices as slices
use Rattle.prv_general.specs.Slices.{slice_named}
use Rattle.prv_general.specs.declared.slice.Slice.{Slice}
use Rattle.prv_general.proofs.Standing.{all-on}
use Rattle.prv_part.specs.Literals.{equality, equality_named, slice_before, slice_after}
use Rattle.prv_settle.specs.Counts.{named}
use Rattle.prv_settle.specs.Making.{AreNodes, AreRuns}
use Rattle.prv_settle.specs.declared.runs.Runs.{Runs}
use Rattle.prv_settle.proofs.NodeLists.{stand-as}

-- a copy of a region names its terms
pub copy-names : {A : Type 0} (region : List Term) (old new : Table) (r : Result A PoolError) → OnOk r (new.terms ≡ add_terms old.terms region) → new.max_nodes ≡ old.max_nodes → OnErr r (new ≡ old) →
    (r ≡ Err Wide → old.max_nodes < length (add_terms old.terms region)) → Names region old new r
copy-names region old new (Ok x) grows limit same wide =
    let more = add_terms-grows region old.terms in
    record { grows = grows; kept = (more.0, grows ∙ more.1); only = only-all region old.terms new.terms grows; limit = limit; wide = wide }
copy-names region old new (Err e) grows limit same wide =
    let none = grows-none old.terms in
    let is = ap (λ (t : Table). t.terms) same in
    record { grows = tt; kept = (none.0, is ∙ none.1); only = only-none region old.terms new.terms is; limit = limit; wide = wide }

-- four calls in turn, up to the first that is refused
first-refused : {A B : Type 0} (a b c d : List Term) (old new : Table) (e : PoolError) → Names {A = A} a old new (Err e) → Names {A = B} (a ++ (b ++ (c ++ d))) old new (Err e)
first-refused a b c d old new e h = names-stop a (b ++ (c ++ d)) old new e h

second-refused : {A B C : Type 0} (a b c d : List Term) (old mid new : Table) (x : A) (e : PoolError) → Names a old mid (Ok x) → Names {A = B} b mid new (Err e) → Names {A = C} (a ++ (b ++ (c ++ d))) old new (Err e)
second-refused {A} {B} {C} a b c d old mid new x e one two =
    names-then a (b ++ (c ++ d)) old mid new x (Err e) one (names-stop {A = B} {B = C} b (c ++ d) mid new e two)

-- the same at a pair: the region, or the slice of the version before, was refused
pub region-refused : {A B : Type 0} (pair : Pair) (region : List Term) (t : List ℤ) (old new : Table) (e : PoolError) → Names {A = A} region old new (Err e) → Names {A = B} (named pair region t) old new (Err e)
region-refused {A = A} {B = B} pair region t old new e h =
    first-refused {A = A} {B = B} region (slice_named pair.before pair.turns t) (slice_named pair.after pair.turns t) (equality_named (slice_before pair t) (slice_after pair t)) old new e h

pub before-refused : {A B C : Type 0} (pair : Pair) (region : List Term) (t : List ℤ) (old mid new : Table) (x : A) (e : PoolError) → Names region old mid (Ok x) → Names {A = B} (slice_named pair.before pair.turns t) mid new (Err e) →
    Names {A = C} (named pair region t) old new (Err e)
before-refused {A = A} {B = B} {C = C} pair region t old mid new x e one two =
    second-refused {A = A} {B = B} {C = C} region (slice_named pair.before pair.turns t) (slice_named pair.after pair.turns t) (equality_named (slice_before pair t) (slice_after pair t)) old mid new x e one two

pub third-refused : {A B C D : Type 0} (a b c d : List Term) (old mid far new : Table) (x : A) (y : B) (e : PoolError) → Names a old mid (Ok x) → Names b mid far (Ok y) → Names {A = C} c far new (Err e) →
    Names {A = D} (a ++ (b ++ (c ++ d))) old new (Err e)
third-refused {A} {B} {C} {D} a b c d old mid far new x y e one two three =
    names-then a (b ++ (c ++ d)) old mid new x (Err e) one (names-then b (c ++ d) mid far new y (Err e) two (names-stop {A = C} {B = D} c d far new e three))

pub all-named : {A B C D : Type 0} (a b c d : List Term) (old mid far last new : Table) (x : A) (y : B) (z : C) (r : Result D PoolError) → Names a old mid (Ok x) → Names b mid far (Ok y) → Names c far last (Ok z) → Names d last new r →
    Names (a ++ (b ++ (c ++ d))) old new r
all-named a b c d old mid far last new x y z r one two three four =
    names-then a (b ++ (c ++ d)) old mid new x r one (names-then b (c ++ d) mid far new y r two (names-then c d far last new z r three four))

-- ---- what was made stands in the table that has grown by the later calls

pub slice-on : (old new : List Term) (made : Slice) (s : slices.Slice) → Grows old new → IsSlice old made s → IsSlice new made s
slice-on old new made s g h = record {
  literals = all-on old new g made.literals s.literals h.literals;
  outs = all-on old new g made.outs s.outs h.outs;
  how = h.how;
  marks = h.marks;
}

pub runs-made : (pair : Pair) (region : List Term) (t : List ℤ) (one two three : List Term) (table : Table) (made : Runs) → Grows one two → Grows two three → Grows three table.terms →
    AreNodes one made.region → terms_at one made.region ≡ region → IsSlice two made.before (slice_before pair t) → IsSlice three made.after (slice_after pair t) →
    StandsFor table.terms made.equality (equality (slice_before pair t) (slice_after pair t)) → made.before.outcome ≡ outcome pair.before pair.turns t → made.after.outcome ≡ outcome pair.after pair.turns t → AreRuns pair region t table made
runs-made pair region t one two three table made g h k nodes are before after same did does =
    let late = grows-on two three table.terms h k in
    record {
      region_is = all-on one table.terms (grows-on one two table.terms g late) made.region region (stand-as one made.region region nodes are);
      before_is = slice-on two table.terms made.before (slice_before pair t) late before;
      after_is = slice-on three table.terms made.after (slice_after pair t) k after;
      equality_is = same;
      before_outcome = did;
      after_outcome = does;
    }
