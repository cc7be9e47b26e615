-- The rows of a list with one more statement, and the row at a number.
use Rattle.std.proofs.Common.{◌≡◌, ℕ, zero, suc, Bool, true, false, ◌||◌, List, [], ◌∷◌, ◌++◌, map, Option, Some, refl, sym, ap, ◌∙◌, append_assoc, slice_get, unwrap_or, bit_or}
use Rattle.std.specs.List.{list_any, flat_map}
use Rattle.std.proofs.lemmas.List.{append-nil, map-append}
use Rattle.prv_model.specs.Numbers.{statements, statements_all}
use Rattle.prv_model.specs.declared.expr.Expr.{Expr}
use Rattle.prv_model.specs.declared.program.Program.{Program}
use Rattle.prv_model.specs.declared.stmt.Stmt.{Stmt}
use Rattle.prv_model.specs.declared.stmt.Stmt.TheOpen.{Stmt-F}
use Rattle.prv_model.specs.declared.stmt.Stmt.TheFolds.{fold-roll-Stmt}
use Rattle.prv_model.specs.declared.stmt.Stmt.TheVariants.{Skip, Set, If, Block, rolls-Set, rolls-If, rolls-Block}
use Rattle.prv_dep.specs.declared.writes.Row.{Row}
use Rattle.prv_dep.specs.Dependences.{writes, node_writes, overwrites, node_overwrites, may_leave, node_may_leave}
use Rattle.prv_dep.specs.Tables.{bit, mask, reads, node_reads, row, row_at, dependences, statement}
use Rattle.prv_dep.proofs.MaskLaws.{mask-append, mask-one}

flat-more : {A X : Type 0} (f : X → List A) (front : List X) (x : X) → flat_map (λ each. each) (map f (front ++ x ∷ [])) ≡ flat_map (λ each. each) (map f front) ++ f x
flat-more f [] x = append-nil (f x)
flat-more {A} f (y ∷ front) x = ap (λ (rest : List A). f y ++ rest) (flat-more f front x) ∙ sym (append_assoc (f y) _ (f x))

or_false : (b : Bool) → (b || false) ≡ b
or_false true = refl
or_false false = refl

or_assoc : (a b c : Bool) → (a || (b || c)) ≡ ((a || b) || c)
or_assoc true b c = refl
or_assoc false b c = refl

any-more : {X : Type 0} (f : X → Bool) (front : List X) (x : X) → list_any (λ b. b) (map f (front ++ x ∷ [])) ≡ (list_any (λ b. b) (map f front) || f x)
any-more f [] x = or_false (f x)
any-more f (y ∷ front) x = ap (λ (b : Bool). f y || b) (any-more f front x) ∙ or_assoc (f y) _ (f x)

all-more : (front : List Stmt) (x : Stmt) → statements_all (front ++ x ∷ []) ≡ statements_all front ++ statements x
all-more [] x = append-nil (statements x)
all-more (y ∷ front) x = ap (λ (rest : List Stmt). statements y ++ rest) (all-more front x) ∙ sym (append_assoc (statements y) _ (statements x))

-- what is kept of a list with one more statement
pub more-writes : (front next : List Stmt) (x : Stmt) (w v : ℕ) → next ≡ front ++ x ∷ [] → w ≡ mask (flat_map (λ each. each) (map (λ s. writes s) front)) → v ≡ mask (writes x) →
    bit_or w v ≡ mask (flat_map (λ each. each) (map (λ s. writes s) next))
more-writes front next x w v is so far =
    ap (λ (n : ℕ). bit_or n v) so ∙ ap (λ (n : ℕ). bit_or (mask (flat_map (λ each. each) (map (λ s. writes s) front))) n) far
    ∙ sym (mask-append (flat_map (λ each. each) (map (λ s. writes s) front)) (writes x)) ∙ ap (λ (vs : List ℕ). mask vs) (sym (flat-more (λ s. writes s) front x))
    ∙ ap (λ (all : List Stmt). mask (flat_map (λ each. each) (map (λ s. writes s) all))) (sym is)

pub more-leaves : (front next : List Stmt) (x : Stmt) (a b : Bool) → next ≡ front ++ x ∷ [] → a ≡ list_any (λ b. b) (map (λ s. may_leave s) front) → b ≡ may_leave x →
    (a || b) ≡ list_any (λ b. b) (map (λ s. may_leave s) next)
more-leaves front next x a b is so far =
    ap (λ (c : Bool). c || b) so ∙ ap (λ (c : Bool). list_any (λ b. b) (map (λ s. may_leave s) front) || c) far
    ∙ sym (any-more (λ s. may_leave s) front x) ∙ ap (λ (all : List Stmt). list_any (λ b. b) (map (λ s. may_leave s) all)) (sym is)

pub more-rows : (front next : List Stmt) (x : Stmt) (start old new : List Row) → next ≡ front ++ x ∷ [] → old ≡ start ++ map (λ s. row s) (statements_all front) →
    new ≡ old ++ map (λ s. row s) (statements x) → new ≡ start ++ map (λ s. row s) (statements_all next)
more-rows front next x start old new is so far =
    far ∙ ap (λ (rows : List Row). rows ++ map (λ s. row s) (statements x)) so ∙ append_assoc start _ _
    ∙ ap (λ (rows : List Row). start ++ rows) (sym (map-append (λ s. row s) (statements_all front) (statements x)) ∙ ap (λ (all : List Stmt). map (λ s. row s) all) (sym (all-more front x) ∙ ap (λ (all : List Stmt). statements_all all) (sym is)))

-- the row of a statement is its parts
pub row-is : (s : Stmt) (w o r : ℕ) (b : Bool) → w ≡ mask (writes s) → o ≡ mask (overwrites s) → r ≡ mask (reads s) → b ≡ may_leave s →
    record { writes = w; overwrites = o; reads = r; leaves = b } ≡ row s
row-is s w o r b written over read left = λ i. record { writes = written i; overwrites = over i; reads = read i; leaves = left i }

pub written-Set : (s : Stmt) (var : ℕ) (e : Expr) (w : ℕ) → s ≡ Set var e → w ≡ bit var → w ≡ mask (writes s)
written-Set s var e w is so =
    so ∙ sym (mask-one var) ∙ ap (λ (vs : List ℕ). mask vs) (sym (ap (λ (t : Stmt). writes t) (sym (rolls-Set var e)) ∙ fold-roll-Stmt (List ℕ) node_writes (Stmt-F.Set var e)))
    ∙ ap (λ (t : Stmt). mask (writes t)) (sym is)

pub overwritten-Set : (s : Stmt) (var : ℕ) (e : Expr) (o : ℕ) → s ≡ Set var e → o ≡ bit var → o ≡ mask (overwrites s)
overwritten-Set s var e o is so =
    so ∙ sym (mask-one var) ∙ ap (λ (vs : List ℕ). mask vs) (sym (ap (λ (t : Stmt). overwrites t) (sym (rolls-Set var e)) ∙ fold-roll-Stmt (List ℕ) node_overwrites (Stmt-F.Set var e)))
    ∙ ap (λ (t : Stmt). mask (overwrites t)) (sym is)

pub written-If : (s : Stmt) (test : Expr) (chosen last : Stmt) (other : Option Stmt) (w v : ℕ) → s ≡ If test chosen other → other ≡ Some last → w ≡ mask (writes chosen) → v ≡ mask (writes last) →
    bit_or w v ≡ mask (writes s)
written-If s test chosen last other w v is some first second =
    ap (λ (n : ℕ). bit_or n v) first ∙ ap (λ (n : ℕ). bit_or (mask (writes chosen)) n) second ∙ sym (mask-append (writes chosen) (writes last))
    ∙ ap (λ (vs : List ℕ). mask vs) (sym (ap (λ (t : Stmt). writes t) (sym (rolls-If test chosen (Some last))) ∙ fold-roll-Stmt (List ℕ) node_writes (Stmt-F.If test chosen (Some last))))
    ∙ ap (λ (o : Option Stmt). mask (writes (If test chosen o))) (sym some) ∙ ap (λ (t : Stmt). mask (writes t)) (sym is)

-- the row of a block
pub block-row : (all : List Stmt) (w : ℕ) (b : Bool) → w ≡ mask (flat_map (λ each. each) (map (λ s. writes s) all)) → b ≡ list_any (λ b. b) (map (λ s. may_leave s) all) →
    record { writes = w; overwrites = 0; reads = 0; leaves = b } ≡ row (Block all)
block-row all w b so far =
    let written : w ≡ mask (writes (Block all)) = so ∙ ap (λ (vs : List ℕ). mask vs) (sym (ap (λ (s : Stmt). writes s) (sym (rolls-Block all)) ∙ fold-roll-Stmt (List ℕ) node_writes (Stmt-F.Block all))) in
    let left : b ≡ may_leave (Block all) = far ∙ sym (ap (λ (s : Stmt). may_leave s) (sym (rolls-Block all)) ∙ fold-roll-Stmt Bool node_may_leave (Stmt-F.Block all)) in
    let over : 0 ≡ mask (overwrites (Block all)) = sym (ap (λ (s : Stmt). mask (overwrites s)) (sym (rolls-Block all)) ∙ ap (λ (vs : List ℕ). mask vs) (fold-roll-Stmt (List ℕ) node_overwrites (Stmt-F.Block all))) in
    let read : 0 ≡ mask (reads (Block all)) = sym (ap (λ (s : Stmt). mask (reads s)) (sym (rolls-Block all)) ∙ ap (λ (vs : List ℕ). mask vs) (fold-roll-Stmt (List ℕ) node_reads (Stmt-F.Block all))) in
    λ i. record { writes = written i; overwrites = over i; reads = read i; leaves = left i }

-- the row at a number is that of the statement with this number
at-rows : (all : List Stmt) (k : ℕ) → row_at (map (λ s. row s) all) k ≡ row (unwrap_or (slice_get all k) Skip)
at-rows [] k = refl
at-rows (s ∷ all) zero = refl
at-rows (s ∷ all) (suc k) = at-rows all k

pub row-of : (p : Program) (rows : List Row) (k : ℕ) → rows ≡ dependences p → row_at rows k ≡ row (statement p k)
row-of p rows k is = ap (λ (r : List Row). row_at r k) is ∙ at-rows (statements_all p.body) k
