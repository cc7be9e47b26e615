-- How the text of a node goes on, piece by piece.
use Rattle.std.proofs.Common.{◌≡◌, ℕ, ◌<◌, ◌≤◌, true, false, List, [], ◌∷◌, ◌++◌, length, take, fold, sym, ap, ◌∙◌, codes, arith, append_assoc, append-nil, if◌then◌else◌, ℤ, Result, Ok, Err}
use Rattle.std.specs.Prelude.{OnOk, is_ok}
use Rattle.std.specs.Fmt.{signed_decimal}
use Rattle.std.specs.List.{AllByRecursion}
use Rattle.std.proofs.lemmas.List.{length-append, length-take, take_all, take-append-le}
use Rattle.std.proofs.lemmas.List.Sums.{fold-append, fold_push}
use Rattle.prv_model.specs.declared.op.TermOp.{TermOp}
use Rattle.prv_model.specs.declared.term.Term.{Term}
use Rattle.prv_model.specs.declared.term.Term.TheVariants.{Param, Op, Pick, Num}
use Rattle.prv_pool.specs.Tables.{term_at}
use Rattle.prv_pool.specs.Nodes.{node_term}
use Rattle.prv_pool.specs.declared.node.Node.{Node}
use Rattle.prv_pool.specs.declared.node.Node.TheVariants as node
use Rattle.prv_text.proofs.Capped.{take_again}
use Rattle.prv_text.proofs.Spelling.{spelled-Param, spelled-Num, spelled-Op, spelled-Pick, operand-compound, operand-simple}
use Rattle.prv_text.specs.Terms.{Spelled, operand, between, name_of, spelled}
use Rattle.prv_text.specs.Waiting.{piece_text, waiting_text, IsWithin, is_compound, pieces_of, Goes}
use Rattle.prv_text.specs.declared.node.Piece.{Piece}
use Rattle.prv_text.specs.declared.node.Piece.TheVariants.{Operand, Between, Chosen, Other, Close}

-- ---- pieces of a table

all-append : (n : ℕ) (xs ys : List Piece) → AllByRecursion (IsWithin n) xs → AllByRecursion (IsWithin n) ys → AllByRecursion (IsWithin n) (xs ++ ys)
all-append n [] ys a b = b
all-append n (x ∷ xs) ys a b = (a.0, all-append n xs ys a.1 b)

pub all-front : (n : ℕ) (xs ys : List Piece) → AllByRecursion (IsWithin n) (xs ++ ys) → AllByRecursion (IsWithin n) xs
all-front n [] ys a = tt
all-front n (x ∷ xs) ys a = (a.0, all-front n xs ys a.1)

pub all-last : (n : ℕ) (xs : List Piece) (y : Piece) → AllByRecursion (IsWithin n) (xs ++ y ∷ []) → IsWithin n y
all-last n [] y a = a.0
all-last n (x ∷ xs) y a = all-last n xs y a.1

-- ---- one step

-- a text is written at once
pub goes-written : (names : List (List ℕ)) (terms : List Term) (end more : ℕ) (old text : List ℕ) (waited : List Piece) (new : List ℕ) →
    length old ≤ end → AllByRecursion (IsWithin (length terms)) waited → new ≡ take end (old ++ text) → Goes names terms end more old text waited new waited
goes-written names terms end more old text waited new fits within is =
    let counts : length new ≡ length (take end (old ++ text)) = ap length is in
    let w = waiting_text names terms waited in
    record {
      goes = ap (λ (zs : List ℕ). take end (zs ++ w)) is ∙ take_again end (old ++ text) w;
      within = within;
      room = omega (arith, length-take end (old ++ text));
      less = omega (arith, length-take end (old ++ text), length-append old text);
    }

-- the pieces of a text wait
goes-waits : (names : List (List ℕ)) (terms : List Term) (end more : ℕ) (old text : List ℕ) (waited pieces : List Piece) →
    length old ≤ end → length pieces ≤ more → AllByRecursion (IsWithin (length terms)) waited → AllByRecursion (IsWithin (length terms)) pieces →
    fold (λ text piece. piece_text names terms piece ++ text) (waiting_text names terms waited) pieces ≡ text ++ waiting_text names terms waited →
    Goes names terms end more old text waited old (waited ++ pieces)
goes-waits names terms end more old text waited pieces fits few within are is = record {
  goes =
      ap (λ (zs : List ℕ). take end (old ++ zs)) (fold-append (λ text piece. piece_text names terms piece ++ text) [] waited pieces ∙ is)
      ∙ ap (take end) (sym (append_assoc old text (waiting_text names terms waited)));
  within = all-append (length terms) waited pieces within are;
  room = fits;
  less = omega (arith, length-append waited pieces);
}

-- the text of a node's term: a name and a number are written, operands wait
pub goes-Param : (names : List (List ℕ)) (terms : List Term) (end : ℕ) (old : List ℕ) (waited : List Piece) (t : Term) (k : ℕ) (new : List ℕ) →
    length old ≤ end → AllByRecursion (IsWithin (length terms)) waited → t ≡ Param k → new ≡ take end (old ++ name_of names k) →
    Goes names terms end (pieces_of (spelled names t)) old (spelled names t).text waited new waited
goes-Param names terms end old waited t k new fits within is written =
    let s : Spelled = record { text = name_of names k; compound = false } in
    let spells : spelled names t ≡ s = ap (spelled names) is ∙ spelled-Param names k in
    rw spells (goes-written names terms end 0 old (name_of names k) waited new fits within written)

pub goes-Num : (names : List (List ℕ)) (terms : List Term) (end : ℕ) (old : List ℕ) (waited : List Piece) (t : Term) (n : ℤ) (new : List ℕ) →
    length old ≤ end → AllByRecursion (IsWithin (length terms)) waited → t ≡ Num n → new ≡ take end (old ++ signed_decimal n) →
    Goes names terms end (pieces_of (spelled names t)) old (spelled names t).text waited new waited
goes-Num names terms end old waited t n new fits within is written =
    let s : Spelled = record { text = signed_decimal n; compound = false } in
    let spells : spelled names t ≡ s = ap (spelled names) is ∙ spelled-Num names n in
    rw spells (goes-written names terms end 0 old (signed_decimal n) waited new fits within written)

pub goes-Op : (names : List (List ℕ)) (terms : List Term) (end : ℕ) (old : List ℕ) (waited : List Piece) (n : ℕ) (t : Term) (op : TermOp) (a b : ℕ) →
    length old ≤ end → AllByRecursion (IsWithin (length terms)) waited → t ≡ Op op (term_at terms a) (term_at terms b) → n < length terms → (a < n) × (b < n) →
    Goes names terms end (pieces_of (spelled names t)) old (spelled names t).text waited old (waited ++ Operand b ∷ Between op ∷ Operand a ∷ [])
goes-Op names terms end old waited n t op a b fits within is inside below =
    let x = operand (spelled names (term_at terms a)) in
    let y = operand (spelled names (term_at terms b)) in
    let w = waiting_text names terms waited in
    let s : Spelled = record { text = x ++ between op ++ y; compound = true } in
    let spells : spelled names t ≡ s = ap (spelled names) is ∙ spelled-Op names op (term_at terms a) (term_at terms b) in
    let order = sym (append_assoc (x ++ between op) y w ∙ append_assoc x (between op) (y ++ w)) in
    let goes : Goes names terms end 5 old (x ++ between op ++ y) waited old (waited ++ Operand b ∷ Between op ∷ Operand a ∷ []) =
    goes-waits names terms end 5 old (x ++ between op ++ y) waited (Operand b ∷ Between op ∷ Operand a ∷ []) fits (omega arith) within (omega (arith, below.1), (tt, (omega (arith, below.0), tt))) order in
    rw spells goes

pub goes-Pick : (names : List (List ℕ)) (terms : List Term) (end : ℕ) (old : List ℕ) (waited : List Piece) (n : ℕ) (t : Term) (test chosen other : ℕ) →
    length old ≤ end → AllByRecursion (IsWithin (length terms)) waited → t ≡ Pick (term_at terms test) (term_at terms chosen) (term_at terms other) →
    n < length terms → (test < n) × (chosen < n) × (other < n) →
    Goes names terms end (pieces_of (spelled names t)) old (spelled names t).text waited old (waited ++ Operand other ∷ Other ∷ Operand chosen ∷ Chosen ∷ Operand test ∷ [])
goes-Pick names terms end old waited n t test chosen other fits within is inside below =
    let x = operand (spelled names (term_at terms test)) in
    let y = operand (spelled names (term_at terms chosen)) in
    let z = operand (spelled names (term_at terms other)) in
    let w = waiting_text names terms waited in
    let s : Spelled = record { text = x ++ codes " ? " ++ y ++ codes " : " ++ z; compound = true } in
    let spells : spelled names t ≡ s = ap (spelled names) is ∙ spelled-Pick names (term_at terms test) (term_at terms chosen) (term_at terms other) in
    let order = sym (append_assoc (x ++ codes " ? " ++ y ++ codes " : ") z w ∙ append_assoc (x ++ codes " ? " ++ y) (codes " : ") (z ++ w) ∙ append_assoc (x ++ codes " ? ") y (codes " : " ++ (z ++ w)) ∙ append_assoc x (codes " ? ") (y ++ (codes " : " ++ (z ++ w)))) in
    let goes : Goes names terms end 5 old (x ++ codes " ? " ++ y ++ codes " : " ++ z) waited old (waited ++ Operand other ∷ Other ∷ Operand chosen ∷ Chosen ∷ Operand test ∷ []) =
    goes-waits names terms end 5 old (x ++ codes " ? " ++ y ++ codes " : " ++ z) waited (Operand other ∷ Other ∷ Operand chosen ∷ Chosen ∷ Operand test ∷ []) fits (omega arith) within (omega (arith, below.2), (tt, (omega (arith, below.1), (tt, (omega (arith, below.0), tt))))) order in
    rw spells goes

-- a node's term stands in parentheses where the node does
pub spelled-compound : (names : List (List ℕ)) (terms : List Term) (t : Term) (m : Node) → t ≡ node_term terms m → (spelled names t).compound ≡ is_compound m
spelled-compound names terms t m is = ap (λ (u : Term). (spelled names u).compound) is ∙ by m
  where
    by : (m : Node) → (spelled names (node_term terms m)).compound ≡ is_compound m
    by (node.Param k) = ap (λ (s : Spelled). s.compound) (spelled-Param names k)
    by (node.Num n) = ap (λ (s : Spelled). s.compound) (spelled-Num names n)
    by (node.Op op a b) = ap (λ (s : Spelled). s.compound) (spelled-Op names op (term_at terms a) (term_at terms b))
    by (node.Pick test a b) = ap (λ (s : Spelled). s.compound) (spelled-Pick names (term_at terms test) (term_at terms a) (term_at terms b))

-- a text in parentheses
pub goes-compound : (names : List (List ℕ)) (terms : List Term) (end : ℕ) (old : List ℕ) (s : Spelled) (waited : List Piece) (mid new : List ℕ) (waiting : List Piece) →
    length old < end → s.compound ≡ true → mid ≡ take end (old ++ codes "(") →
    Goes names terms end (pieces_of s) mid s.text (waited ++ Close ∷ []) new waiting → Goes names terms end 0 old (operand s) waited new waiting
goes-compound names terms end old s waited mid new waiting fits compound is inner =
    let w = waiting_text names terms waited in
    let behind : waiting_text names terms (waited ++ Close ∷ []) ≡ codes ")" ++ w = fold_push (λ text piece. piece_text names terms piece ++ text) [] waited Close in
    let counts : length mid ≡ length (take end (old ++ codes "(")) = ap length is in
    let few : pieces_of s ≡ 5 = rw compound in
    let inside = s.text ++ (codes ")" ++ w) in
    let order = append_assoc old (codes "(") inside
    ∙ ap (λ (zs : List ℕ). old ++ zs) (sym (append_assoc (codes "(" ++ s.text) (codes ")") w ∙ append_assoc (codes "(") s.text (codes ")" ++ w)))
    ∙ sym (append_assoc old (codes "(" ++ s.text ++ codes ")") w) in
    record {
      goes = inner.goes
          ∙ ap (λ (zs : List ℕ). take end (mid ++ s.text ++ zs)) behind
          ∙ ap (take end) (append_assoc mid s.text (codes ")" ++ w))
          ∙ ap (λ (zs : List ℕ). take end (zs ++ inside)) is
          ∙ take_again end (old ++ codes "(") inside
          ∙ ap (take end) order
          ∙ ap (λ (zs : List ℕ). take end (old ++ zs ++ w)) (sym (operand-compound s compound));
      within = inner.within;
      room = inner.room;
      less = omega (arith, length-take end (old ++ codes "("), length-append old (codes "("), length-append waited (Close ∷ []), inner.less);
    }

-- a text without parentheses
pub goes-simple : (names : List (List ℕ)) (terms : List Term) (end : ℕ) (old : List ℕ) (s : Spelled) (waited : List Piece) (new : List ℕ) (waiting : List Piece) →
    s.compound ≡ false → Goes names terms end (pieces_of s) old s.text waited new waiting → Goes names terms end 0 old (operand s) waited new waiting
goes-simple names terms end old s waited new waiting simple inner =
    let none : pieces_of s ≡ 0 = rw simple in
    record {
      goes = inner.goes ∙ ap (λ (zs : List ℕ). take end (old ++ zs ++ waiting_text names terms waited)) (sym (operand-simple s simple));
      within = inner.within;
      room = inner.room;
      less = omega (arith, inner.less);
    }

-- ---- the end

-- there is no room for more
pub written-full : (end : ℕ) (out behind whole : List ℕ) → length out ≤ end → end ≤ length out → take end (out ++ behind) ≡ whole → out ≡ whole
written-full end out behind whole most least is = sym (take_all end out most) ∙ sym (take-append-le end out behind least) ∙ is

-- nothing waits
pub written-whole : (end : ℕ) (out whole : List ℕ) → length out ≤ end → take end (out ++ []) ≡ whole → out ≡ whole
written-whole end out whole most is = sym (take_all end out most) ∙ ap (take end) (sym (append-nil out)) ∙ is

-- ---- what holds of a call that passes

pub on-ok : {A E P Q : Type 0} (r : Result A E) → (P → Q) → OnOk r P → OnOk r Q
on-ok (Ok a) f h = f h
on-ok (Err e) f h = tt

pub on-pushed : {A E X Q : Type 0} (r : Result A E) (new all old : List X) → new ≡ (if is_ok r then all else old) → (new ≡ all → Q) → OnOk r Q
on-pushed (Ok a) new all old is f = f is
on-pushed (Err e) new all old is f = tt
