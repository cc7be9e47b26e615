-- The words of one more root are those of the definition.
use Rattle.std.proofs.Common.{◌≡◌, ℕ, ◌+◌, ◌<◌, ◌≤◌, nat_eq, nat_lt, Bool, true, false, List, [], ◌∷◌, ◌++◌, length, map, zip, drop, Option, Some, None, option_map, cond, position, get_or, slice_get, unwrap_or, refl, sym, ap, ap₂, ◌∙◌, subst, arith, fold, append_assoc, append-nil, length-append, if◌then◌else◌}
use Rattle.std.specs.List.{AllByRecursion, IsDistinct, position_or_len}
use Rattle.std.proofs.lemmas.Bool.{ltb-true, ltb-false, lt-ltb, eq-eqb, eqb-true}
use Rattle.std.proofs.lemmas.Option.{get_or_from_slice_get, slice_get-map}
use Rattle.std.proofs.lemmas.List.{length-map}
use Rattle.std.proofs.lemmas.List.Sums.{fails_before_first, fold-append}
use Rattle.std.proofs.lemmas.List.Quantifiers.{position-Some}
use Rattle.std.proofs.lemmas.Map.Keys.{apart_from_distinct}
use Rattle.std.proofs.lemmas.Slice.Zip.{length-zip}
use Rattle.std.proofs.Math.Seq.{drop-append_seam}
use Rattle.prv_model.specs.declared.term.Term.{Term, map-Term, out-Term}
use Rattle.prv_gate.specs.Circuits.{Circuit}
use Rattle.prv_gate.specs.Assertions.{asserted}
use Rattle.prv_gate.specs.declared.bit.Bit.{Bit}
use Rattle.prv_arith.specs.Lists.{AllBits}
use Rattle.prv_arith.specs.declared.words.Word.{Word}
use Rattle.prv_pool.specs.Tables.{Table, IsTable, term_at, has_term, add_term, add_terms}
use Rattle.prv_pool.specs.Nodes.{node_term, AreBelow}
use Rattle.prv_pool.specs.declared.node.Node.{Node}
use Rattle.prv_pool.specs.declared.node.Node.TheVariants as node
use Rattle.prv_pool.proofs.NodeLemmas.{get-append, get-end, get-within, term_at-some}
use Rattle.prv_pool.proofs.TableLemmas.{has-found}
use Rattle.prv_blast.specs.Subterms.{node_cost, costs}
use Rattle.prv_blast.specs.Encodings.{Encoding, encoded, missing, term_bits, node_bits, with_term, with_terms, with_assertion, with_literal}
use Rattle.prv_blast.specs.Orders.{AreWithin, terms_at, operands}
use Rattle.prv_blast.specs.Encoders.{encoding_at, HasWord, bits_at, node_run, run_cost, CanRun, IsPlain, CanEncode}
use Rattle.prv_blast.proofs.Growing.{operands_of, Growth, IsClosedOver, closed-first, closed-later, term-growth, add-old, add-new, all-first, all-later}
use Rattle.prv_blast.proofs.Words.{AddsTerms, word-found, terms-add}
use Rattle.prv_blast.proofs.Meaning.{costs-append}
use Rattle.prv_blast.proofs.Orders.{operands-of-node}
use Rattle.prv_blast.proofs.Costs.{cost-of-node}
use Rattle.prv_blast.proofs.Encoders.{within-get, get-terms, bits-of-term, run-is, word-more}

-- an encoding has as many terms as it has words
pub length-encoded : (table : List Term) (ns : List ℕ) (words : List Word) (s : Circuit) → length words ≤ length ns → length (encoded (encoding_at table ns words s)) ≡ length words
length-encoded table ns words s fits =
    let bits : List (List Bit) = map (λ w. w.bits) words in
    let pairs : List (Term × List Bit) = zip (terms_at table ns) bits in
    let short : length pairs ≡ length words = omega (arith, length-zip (terms_at table ns) bits, length-map ns (term_at table), length-map words (λ (w : Word). w.bits)) in
    length-map pairs (λ (w : Term × List Bit). w.0) ∙ short

-- a node that stands at a place is first met there or before
pub position-there : (ns : List ℕ) (i o : ℕ) → slice_get ns i ≡ Some o → (p : ℕ) × (position (nat_eq o) ns ≡ Some p) × (p ≤ i)
position-there ns i o at = by (nat_lt i (position_or_len (nat_eq o) ns)) refl
  where
    p : ℕ
    p = position_or_len (nat_eq o) ns

    by : (b : Bool) → nat_lt i (position_or_len (nat_eq o) ns) ≡ b → (p : ℕ) × (position (nat_eq o) ns ≡ Some p) × (p ≤ i)
    by true e =
        let other = fails_before_first (nat_eq o) ns i o (ltb-true i (position_or_len (nat_eq o) ns) e) in
        let same : o ≡ get_or ns i o = sym (get_or_from_slice_get ns i o o at) in
        let yes = eq-eqb o (get_or ns i o) same in
        absurd (let no : true ≡ false = sym yes ∙ other in cc)
    by false e =
        let before : position_or_len (nat_eq o) ns ≤ i = ltb-false i (position_or_len (nat_eq o) ns) e in
        let less : position_or_len (nat_eq o) ns < length ns = (let here = get-within ns i o at in omega arith) in
        (position_or_len (nat_eq o) ns, ap (λ (b : Bool). cond b (Some (position_or_len (nat_eq o) ns)) None) (lt-ltb (position_or_len (nat_eq o) ns) (length ns) less), before)

-- a node whose term is one of the first has its place there
pub place-of : (table : Table) → IsTable table → (ns : List ℕ) → AreWithin (length table.terms) ns → (front back : List Term) → terms_at table.terms ns ≡ front ++ back → (o : ℕ) → o < length table.terms →
    has_term front (term_at table.terms o) ≡ true → HasWord ns (length front) o
place-of table kept ns within front back split o less there =
    let found = has-found front (term_at table.terms o) there in
    let short = get-within front found.0 (term_at table.terms o) found.1 in
    let at : slice_get (terms_at table.terms ns) found.0 ≡ Some (term_at table.terms o) = ap (λ (ts : List Term). slice_get ts found.0) split ∙ get-append front back found.0 short ∙ found.1 in
    let m = get-terms table.terms ns found.0 (term_at table.terms o) at in
    let same : m.0 ≡ o = kept.distinct m.0 o (within-get (length table.terms) ns within found.0 m.0 m.1) less m.2 in
    let place = position-there ns found.0 o (m.1 ∙ ap Some same) in
    (place.0, place.1, omega (arith, place.2))

-- the part of a root's missing subterms that has bits: those at the places before one
pub record IsPartWay (table : Table) (root : ℕ) (e f : Encoding) (place : ℕ) : Type 0 where
  pub done : List Term
  pub left : List Term
  pub split : missing e (term_at table.terms root) ≡ done ++ left
  pub place_is : place ≡ length (encoded e) + length done
  pub made : f ≡ fold with_term e done

-- what the words of a node's operands are
record IsOperand (table : List Term) (ns : List ℕ) (words : List Word) (s : Circuit) (o : ℕ) : Type 0 where
  has : HasWord ns (length words) o
  inside : AllBits s.formula.vars (bits_at ns words o)
  same : bits_at ns words o ≡ term_bits (encoding_at table ns words s) (term_at table o)

has-words : (table : List Term) (ns : List ℕ) (words : List Word) (s : Circuit) (ops : List ℕ) → AllByRecursion (IsOperand table ns words s) ops → AllByRecursion (HasWord ns (length words)) ops
has-words table ns words s [] h = tt
has-words table ns words s (o ∷ ops) h = (h.0.has, has-words table ns words s ops h.1)

all-inside : (table : List Term) (ns : List ℕ) (words : List Word) (s : Circuit) (ops : List ℕ) → AllByRecursion (IsOperand table ns words s) ops → AllByRecursion (λ o. AllBits s.formula.vars (bits_at ns words o)) ops
all-inside table ns words s [] h = tt
all-inside table ns words s (o ∷ ops) h = (h.0.inside, all-inside table ns words s ops h.1)

all-same : (table : List Term) (ns : List ℕ) (words : List Word) (s : Circuit) (ops : List ℕ) → AllByRecursion (IsOperand table ns words s) ops → AllByRecursion (λ o. bits_at ns words o ≡ term_bits (encoding_at table ns words s) (term_at table o)) ops
all-same table ns words s [] h = tt
all-same table ns words s (o ∷ ops) h = (h.0.same, all-same table ns words s ops h.1)

-- where a root has its word
pub record Ends (table : List Term) (ns : List ℕ) (root : ℕ) (e : Encoding) (words : List Word) (s : Circuit) : Type 0 where
  pub encodes : encoding_at table ns words s ≡ with_terms e (term_at table root)
  pub fits : length words ≤ length ns
  pub has : HasWord ns (length words) root
  pub bits : bits_at ns words root ≡ term_bits (encoding_at table ns words s) (term_at table root)
  pub inside : AllBits s.formula.vars (bits_at ns words root)

module _ (table : Table) (ns : List ℕ) (root : ℕ) (e : Encoding) (can : CanEncode table ns root e) where
  abbrev t : Term
  t = term_at table.terms root

  abbrev growth : Growth (t ∷ []) (encoded e) (add_term t (encoded e))
  growth = term-growth t (encoded e)

  missing-is : missing e t ≡ growth.more
  missing-is = ap (drop (length e.words)) growth.grown ∙ ap (λ (k : ℕ). drop k (encoded e ++ growth.more)) (sym (length-map e.words (λ w. w.0))) ∙ drop-append_seam (encoded e) growth.more

  grown : add_term t (encoded e) ≡ encoded e ++ missing e t
  grown = growth.grown ∙ ap (λ (us : List Term). encoded e ++ us) (sym missing-is)

  order-is : terms_at table.terms ns ≡ (encoded e ++ missing e t) ++ can.later
  order-is = can.order ∙ ap (λ (us : List Term). us ++ can.later) grown

  closed : IsClosedOver (encoded e) (missing e t)
  closed = subst (IsClosedOver (encoded e)) (sym missing-is) growth.closed

  root-there : has_term (encoded e ++ missing e t) t ≡ true
  root-there = ap (λ (us : List Term). has_term us t) (sym grown) ∙ growth.there.0

  root-place : HasWord ns (length (encoded e ++ missing e t)) root
  root-place = place-of table can.kept ns can.within (encoded e ++ missing e t) can.later order-is root can.root_within root-there

  -- what the first of the missing terms add
  adds : (done left : List Term) → missing e t ≡ done ++ left → AddsTerms can.params e (fold with_term e done) done
  adds done left split =
      let Q = λ (u : Term). IsPlain can.params (out-Term u) in
      let all = all-first Q (encoded e ++ missing e t) can.later (subst (AllByRecursion Q) order-is can.plain) in
      let plain = all-first Q done left (subst (AllByRecursion Q) split (all-later Q (encoded e) (missing e t) all)) in
      let spent : costs (missing e t) ≡ costs done + costs left = ap costs split ∙ costs-append done left in
      terms-add can.params done e can.circuit can.inputs can.words (closed-first (encoded e) done left (subst (IsClosedOver (encoded e)) split closed)) plain (omega (arith, can.room))

  pub starts-way : (k : ℕ) → k ≡ length (encoded e) → IsPartWay table root e e k
  starts-way k long = record { done = []; left = missing e t; split = refl; place_is = omega arith; made = refl }

  -- what the code finds of the root's place
  pub place-found : (found : Option ℕ) (d place : ℕ) → found ≡ position (nat_eq root) ns → place ≡ unwrap_or found d → position (nat_eq root) ns ≡ Some place
  place-found found d place e f = root-place.1 ∙ ap Some (sym (f ∙ ap (λ (o : Option ℕ). unwrap_or o d) (e ∙ root-place.1)))

  pub place-within : (place : ℕ) → position (nat_eq root) ns ≡ Some place → place < length ns
  place-within place at = (position-Some (nat_eq root) ns place root at).0

  -- the next place is that of a missing term, unless the root's place is passed
  next-term : (f : Encoding) (place end m : ℕ) (way : IsPartWay table root e f place) → position (nat_eq root) ns ≡ Some end → place ≤ end → slice_get ns place ≡ Some m → (rest : List Term) × (way.left ≡ term_at table.terms m ∷ rest)
  next-term f place end m way root-at before at = by way.left refl
    where
      by : (left : List Term) → way.left ≡ left → (rest : List Term) × (left ≡ term_at table.terms m ∷ rest)
      by [] none =
          let all : missing e t ≡ way.done = way.split ∙ ap (λ (us : List Term). way.done ++ us) none ∙ append-nil way.done in
          let long : length (encoded e ++ missing e t) ≡ place = ap (λ (us : List Term). length (encoded e ++ us)) all ∙ length-append (encoded e) way.done ∙ sym way.place_is in
          let same : end ≡ root-place.0 = (let both : Some end ≡ Some root-place.0 = sym root-at ∙ root-place.1 in cc) in
          absurd (omega (arith, root-place.2))
      by (u ∷ rest) some =
          let split : missing e t ≡ way.done ++ u ∷ rest = way.split ∙ ap (λ (us : List Term). way.done ++ us) some in
          let there : terms_at table.terms ns ≡ (encoded e ++ way.done) ++ u ∷ (rest ++ can.later) =
          order-is ∙ ap (λ (us : List Term). (encoded e ++ us) ++ can.later) split ∙ ap (λ (us : List Term). us ++ can.later) (sym (append_assoc (encoded e) way.done (u ∷ rest))) ∙ append_assoc (encoded e ++ way.done) (u ∷ rest) can.later in
          let long : place ≡ length (encoded e ++ way.done) = way.place_is ∙ sym (length-append (encoded e) way.done) in
          let here : slice_get (terms_at table.terms ns) place ≡ Some u =
          ap (slice_get (terms_at table.terms ns)) long ∙ ap (λ (us : List Term). slice_get us (length (encoded e ++ way.done))) there ∙ get-end (encoded e ++ way.done) u (rest ++ can.later) in
          let is : Some u ≡ Some (term_at table.terms m) = sym here ∙ slice_get-map (term_at table.terms) ns place ∙ ap (option_map (term_at table.terms)) at in
          let same : u ≡ term_at table.terms m = cc in
          (rest, ap (λ (v : Term). v ∷ rest) same)

  -- the node at the next place
  module _ (words : List Word) (s : Circuit) (place end m : ℕ) (nd : Node) (way : IsPartWay table root e (encoding_at table.terms ns words s) place) (long : length words ≡ place) (root-at : position (nat_eq root) ns ≡ Some end) (before : place ≤ end)
      (at : slice_get ns place ≡ Some m) (is : slice_get table.terms m ≡ Some (node_term table.terms nd)) (below : AreBelow m nd) where
    abbrev f : Encoding
    f = encoding_at table.terms ns words s

    abbrev next : (rest : List Term) × (way.left ≡ term_at table.terms m ∷ rest)
    next = next-term f place end m way root-at before at

    split : missing e t ≡ way.done ++ term_at table.terms m ∷ next.0
    split = way.split ∙ ap (λ (us : List Term). way.done ++ us) next.1

    added : AddsTerms can.params e f way.done
    added = subst (λ (g : Encoding). AddsTerms can.params e g way.done) (sym way.made) (adds way.done (term_at table.terms m ∷ next.0) split)

    node-is : term_at table.terms m ≡ node_term table.terms nd
    node-is = term_at-some table.terms m (node_term table.terms nd) is

    ops-are : operands_of (term_at table.terms m) ≡ terms_at table.terms (operands nd)
    ops-are = ap operands_of node-is ∙ operands-of-node table.terms nd

    met : AllByRecursion (λ u. has_term (encoded e ++ way.done) u ≡ true) (terms_at table.terms (operands nd))
    met = subst (AllByRecursion (λ u. has_term (encoded e ++ way.done) u ≡ true)) ops-are (closed-later (encoded e) way.done (term_at table.terms m ∷ next.0) (subst (IsClosedOver (encoded e)) split closed)).0

    order-split : terms_at table.terms ns ≡ (encoded e ++ way.done) ++ ((term_at table.terms m ∷ next.0) ++ can.later)
    order-split =
        order-is ∙ ap (λ (us : List Term). (encoded e ++ us) ++ can.later) split ∙ ap (λ (us : List Term). us ++ can.later) (sym (append_assoc (encoded e) way.done (term_at table.terms m ∷ next.0))) ∙ append_assoc (encoded e ++ way.done) (term_at table.terms m ∷ next.0) can.later

    count : length (encoded e ++ way.done) ≡ length words
    count = length-append (encoded e) way.done ∙ sym way.place_is ∙ sym long

    operand : (o : ℕ) → o < length table.terms → has_term (encoded e ++ way.done) (term_at table.terms o) ≡ true → IsOperand table.terms ns words s o
    operand o less there =
        let has = subst (λ (k : ℕ). HasWord ns k o) count (place-of table can.kept ns can.within (encoded e ++ way.done) ((term_at table.terms m ∷ next.0) ++ can.later) order-split o less there) in
        let same = bits-of-term table can.kept ns can.within words s o has in
        let word = word-found can.params s (term_at table.terms o) f.words added.words (ap (λ (us : List Term). has_term us (term_at table.terms o)) added.terms ∙ there) in
        record { has = has; inside = subst (AllBits s.formula.vars) (sym same) word.inside; same = same }

    all-operands : (ops : List ℕ) → AllByRecursion (λ o. o < m) ops → AllByRecursion (λ u. has_term (encoded e ++ way.done) u ≡ true) (terms_at table.terms ops) → AllByRecursion (IsOperand table.terms ns words s) ops
    all-operands [] less there = tt
    all-operands (o ∷ ops) less there = (operand o (omega (arith, less.0, get-within table.terms m (node_term table.terms nd) is)) there.0, all-operands ops less.1 there.1)

    below-all : (k : Node) → AreBelow m k → AllByRecursion (λ j. j < m) (operands k)
    below-all (node.Param k) h = tt
    below-all (node.Num k) h = tt
    below-all (node.Op op a b) h = (h.0, (h.1, tt))
    below-all (node.Pick c a b) h = (h.0, (h.1, (h.2, tt)))

    are-operands : AllByRecursion (IsOperand table.terms ns words s) (operands nd)
    are-operands = all-operands (operands nd) (below-all nd below) met

    pub operands-have : AllByRecursion (HasWord ns (length words)) (operands nd)
    operands-have = has-words table.terms ns words s (operands nd) are-operands

    pub can-run : CanRun nd (bits_at ns words) s
    can-run =
        let costs-are : costs (missing e t) ≡ costs way.done + (node_cost (out-Term (term_at table.terms m)) + costs next.0) = ap costs split ∙ costs-append way.done (term_at table.terms m ∷ next.0) in
        let one : node_cost (out-Term (term_at table.terms m)) ≡ run_cost nd = ap (λ (u : Term). node_cost (out-Term u)) node-is ∙ cost-of-node table.terms nd in
        record { inside = all-inside table.terms ns words s (operands nd) are-operands; room = omega (arith, can.room, added.grows.vars_cost) }

    pub goes-on : (w : Word) (s' : Circuit) → record { out = w.bits; circuit = s' } ≡ node_run nd (bits_at ns words) s → IsPartWay table root e (encoding_at table.terms ns (words ++ w ∷ []) s') (place + 1)
    goes-on w s' run =
        let made = run ∙ run-is table.terms f (bits_at ns words) nd s (all-same table.terms ns words s (operands nd) are-operands) in
        let step = word-more table.terms ns words w s s' m (ap (slice_get ns) long ∙ at) (made ∙ ap (λ (u : Term). node_bits (map-Term Term (List Bit) (term_bits f) (out-Term u)) s) (sym node-is)) in
        record {
          done = way.done ++ term_at table.terms m ∷ [];
          left = next.0;
          split = split ∙ sym (append_assoc way.done (term_at table.terms m ∷ []) next.0);
          place_is = omega (arith, way.place_is, length-append way.done (term_at table.terms m ∷ []));
          made = step ∙ ap (λ (g : Encoding). with_term g (term_at table.terms m)) way.made ∙ sym (fold-append with_term e way.done (term_at table.terms m ∷ []));
        }

  -- the root is the last of the terms that are missing
  long-enough : (end : ℕ) → IsDistinct nat_eq ns → position (nat_eq root) ns ≡ Some end → (place : ℕ) → end < place → length (encoded e) ≤ place → length (encoded e ++ missing e t) ≤ place
  long-enough end distinct root-at place behind first = by (has_term (encoded e) t) refl
    where
      refuted : (b : Bool) → (b ≡ true → ⊥) → b ≡ false
      refuted true h = absurd (h refl)
      refuted false h = refl

      by : (b : Bool) → has_term (encoded e) t ≡ b → length (encoded e ++ missing e t) ≤ place
      by true there =
          let none : length (encoded e ++ missing e t) ≡ length (encoded e) = ap (λ (us : List Term). length us) (sym grown ∙ add-old t (encoded e) there) in
          omega arith
      by false lacks =
          let before = add_terms (encoded e) (operands_of t) in
          let ends : encoded e ++ missing e t ≡ before ++ t ∷ [] = sym grown ∙ add-new t (encoded e) lacks in
          let long : length (encoded e ++ missing e t) ≡ length before + 1 = ap (λ (us : List Term). length us) ends ∙ length-append before (t ∷ []) in
          let at : slice_get (terms_at table.terms ns) (length before) ≡ Some t =
          ap (λ (us : List Term). slice_get us (length before)) (order-is ∙ ap (λ (us : List Term). us ++ can.later) ends ∙ append_assoc before (t ∷ []) can.later) ∙ get-end before t can.later in
          let m = get-terms table.terms ns (length before) t at in
          let same : m.0 ≡ root = can.kept.distinct m.0 root (within-get (length table.terms) ns can.within (length before) m.0 m.1) can.root_within m.2 in
          let last : get_or ns (length before) root ≡ root = get_or_from_slice_get ns (length before) root root (m.1 ∙ ap Some same) in
          let found = position-Some (nat_eq root) ns end root root-at in
          let one : root ≡ get_or ns end root = eqb-true root (get_or ns end root) found.1 in
          let here = get-within ns (length before) m.0 m.1 in
          let apart : end < length before → ⊥ = λ less.
          let other = apart_from_distinct nat_eq ns end (length before) root distinct less here in
          let equal = eq-eqb (get_or ns end root) (get_or ns (length before) root) (sym one ∙ sym last) in
          let no : true ≡ false = sym equal ∙ other in
          cc in
          let le : length before ≤ end = ltb-false end (length before) (refuted (nat_lt end (length before)) (λ yes. apart (ltb-true end (length before) yes))) in
          omega arith

  -- the same, by what the code says of each step
  pub goes-on-by : (words ws vs : List Word) (s s' : Circuit) (place end m : ℕ) (nd : Node) (w : Word) → IsPartWay table root e (encoding_at table.terms ns words s) place → length words ≡ place → position (nat_eq root) ns ≡ Some end → place ≤ end →
      slice_get ns place ≡ Some m → slice_get table.terms m ≡ Some (node_term table.terms nd) → AreBelow m nd → record { out = w.bits; circuit = s' } ≡ node_run nd (bits_at ns words) s → vs ≡ words → ws ≡ vs ++ w ∷ [] → IsPartWay table root e (encoding_at table.terms ns ws s') (place + 1)
  goes-on-by words ws vs s s' place end m nd w way long root-at before at is below run same pushed =
      subst (λ (us : List Word). IsPartWay table root e (encoding_at table.terms ns us s') (place + 1)) (sym (pushed ∙ ap (λ (us : List Word). us ++ w ∷ []) same))
      (goes-on words s place end m nd way long root-at before at is below w s' run)

  -- the end of the way, behind the root's place
  pub ends-way : (words : List Word) (s : Circuit) (place end : ℕ) → IsPartWay table root e (encoding_at table.terms ns words s) place → length words ≡ place → IsDistinct nat_eq ns → position (nat_eq root) ns ≡ Some end → end < place → Ends table.terms ns root e words s
  ends-way words s place end way long distinct root-at behind =
      let f = encoding_at table.terms ns words s in
      let all = encoded e ++ missing e t in
      let enough = long-enough end distinct root-at place behind (omega (arith, way.place_is)) in
      let parts : length all ≡ length (encoded e) + (length way.done + length way.left) =
      length-append (encoded e) (missing e t) ∙ ap (λ (us : List Term). length (encoded e) + length us) way.split ∙ ap (λ (k : ℕ). length (encoded e) + k) (length-append way.done way.left) in
      let none : way.left ≡ [] = empty way.left (omega (arith, way.place_is)) in
      let done : missing e t ≡ way.done = way.split ∙ ap (λ (us : List Term). way.done ++ us) none ∙ append-nil way.done in
      let encodes : f ≡ with_terms e t = way.made ∙ ap (fold with_term e) (sym done) in
      let count : length all ≡ length words = length-append (encoded e) (missing e t) ∙ ap (λ (us : List Term). length (encoded e) + length us) done ∙ sym way.place_is ∙ sym long in
      let has = subst (λ (k : ℕ). HasWord ns k root) count root-place in
      let bits = bits-of-term table can.kept ns can.within words s root has in
      let added : AddsTerms can.params e f (missing e t) = subst (λ (g : Encoding). AddsTerms can.params e g (missing e t)) (sym encodes) (adds (missing e t) [] (sym (append-nil (missing e t)))) in
      let word = word-found can.params s t f.words added.words (ap (λ (us : List Term). has_term us t) added.terms ∙ root-there) in
      record {
        encodes = encodes;
        fits = omega (arith, count, length-map ns (term_at table.terms), ap (λ (us : List Term). length us) order-is, length-append all can.later);
        has = has;
        bits = bits;
        inside = subst (AllBits s.formula.vars) (sym bits) word.inside;
      }
    where
      empty : (us : List Term) → length us ≡ 0 → us ≡ []
      empty [] h = refl
      empty (u ∷ us) h = absurd (omega arith)

-- a literal that is asserted
pub asserts-literal : (table : List Term) (ns : List ℕ) (words words' : List Word) (s s' : Circuit) (root : ℕ) (e : Encoding) → e.circuit.is_ended ≡ false → encoding_at table ns words s ≡ with_terms e (term_at table root) →
    bits_at ns words root ≡ term_bits (encoding_at table ns words s) (term_at table root) → s' ≡ asserted (bits_at ns words root) s → words' ≡ words → encoding_at table ns words' s' ≡ with_literal e (term_at table root)
asserts-literal table ns words words' s s' root e open-yet encodes bits is same =
    let t = term_at table root in
    ap₂ (λ (ws : List Word) (r : Circuit). encoding_at table ns ws r) same (is ∙ ap (λ (bs : List Bit). asserted bs s) bits)
    ∙ ap (λ (f : Encoding). with_assertion f t) encodes
    ∙ sym (ap (λ (b : Bool). if b then e else with_assertion (with_terms e t) t) open-yet)
