-- The words that the code has are the bits of the definition's terms.
use Rattle.std.proofs.Common.{◌≡◌, ℕ, zero, suc, ◌+◌, ◌<◌, nat_eq, Bool, true, false, cond, List, [], ◌∷◌, ◌++◌, length, map, zip, Option, Some, option_map, position, get_or, slice_get, unwrap_or, refl, sym, ap, ap₂, ◌∙◌, arith}
use Rattle.std.specs.List.{AllByRecursion}
use Rattle.std.specs.Map.{lookup}
use Rattle.std.specs.Option.{option_and_then}
use Rattle.std.proofs.lemmas.Bool.{eqb-true, eq-eqb}
use Rattle.std.proofs.lemmas.Option.{slice_get-get_or, get_or_from_slice_get, slice_get-map}
use Rattle.std.proofs.lemmas.List.{length-map, map-append}
use Rattle.std.proofs.lemmas.List.Quantifiers.{position-Some}
use Rattle.prv_model.specs.TermOrder.{same_term}
use Rattle.prv_model.specs.declared.term.Term.{Term, map-Term, out-Term}
use Rattle.prv_model.specs.declared.term.Term.TheOpen.{Term-F}
use Rattle.prv_gate.specs.Circuits.{Circuit, Run}
use Rattle.prv_gate.specs.declared.bit.Bit.{Bit}
use Rattle.prv_arith.specs.Words.{op_bits, pick_bits}
use Rattle.prv_arith.specs.declared.words.Word.{Word}
use Rattle.prv_pool.specs.Tables.{Table, IsTable, term_at}
use Rattle.prv_pool.specs.Nodes.{node_term}
use Rattle.prv_pool.specs.declared.node.Node.{Node}
use Rattle.prv_pool.specs.declared.node.Node.TheVariants as node
use Rattle.prv_pool.proofs.Shapes.{out-Param, out-Op, out-Pick, out-Num}
use Rattle.prv_pool.proofs.TableLemmas.{same-itself, same-not}
use Rattle.prv_blast.specs.Encodings.{Encoding, term_bits, node_bits, with_term}
use Rattle.prv_blast.specs.Orders.{AreWithin, terms_at, operands}
use Rattle.prv_blast.specs.Encoders.{encoding_at, HasWord, bits_at, node_run}

-- ---- look-ups

-- the first term that is t has its own place
lookup-zip : (t : Term) (ts : List Term) (bs : List (List Bit)) (i : ℕ) → i < length bs → slice_get ts i ≡ Some t → ((k : ℕ) (u : Term) → k < i → slice_get ts k ≡ Some u → same_term t u ≡ false) →
    lookup (same_term t) (zip ts bs) ≡ slice_get bs i
lookup-zip t [] bs i less at before = cc
lookup-zip t (u ∷ ts) [] i less at before = absurd (omega arith)
lookup-zip t (u ∷ ts) (b ∷ bs) zero less at before =
    let same : u ≡ t = cc in
    let yes : same_term t u ≡ true = ap (same_term t) same ∙ same-itself t in
    ap (λ (c : Bool). cond c (Some b) (lookup (same_term t) (zip ts bs))) yes
lookup-zip t (u ∷ ts) (b ∷ bs) (suc i) less at before =
    let other : same_term t u ≡ false = before 0 u (omega arith) refl in
    ap (λ (c : Bool). cond c (Some b) (lookup (same_term t) (zip ts bs))) other ∙ lookup-zip t ts bs i (omega arith) at (λ k v below e. before (suc k) v (omega arith) e)

pub zip-none : (ts : List Term) → zip {X = List Bit} ts [] ≡ []
zip-none [] = refl
zip-none (t ∷ ts) = refl

zip-more : (ts : List Term) (bs : List (List Bit)) (b : List Bit) (t : Term) → slice_get ts (length bs) ≡ Some t → zip ts (bs ++ b ∷ []) ≡ zip ts bs ++ (t, b) ∷ []
zip-more [] bs b t at = cc
zip-more (u ∷ ts) [] b t at = let same : u ≡ t = cc in ap (λ (v : Term). (v, b) ∷ zip {X = List Bit} ts []) same ∙ ap (λ (ws : List (Term × List Bit)). (t, b) ∷ ws) (zip-none ts)
zip-more (u ∷ ts) (c ∷ bs) b t at = ap (λ (ws : List (Term × List Bit)). (u, c) ∷ ws) (zip-more ts bs b t at)

pub within-get : (n : ℕ) (ns : List ℕ) → AreWithin n ns → (i k : ℕ) → slice_get ns i ≡ Some k → k < n
within-get n [] h i k e = cc
within-get n (m ∷ ns) h zero k e = let same : m ≡ k = cc in omega (arith, h.0)
within-get n (m ∷ ns) h (suc i) k e = within-get n ns h.1 i k e

pub get-terms : (table : List Term) (ns : List ℕ) (i : ℕ) (u : Term) → slice_get (terms_at table ns) i ≡ Some u → (k : ℕ) × (slice_get ns i ≡ Some k) × (term_at table k ≡ u)
get-terms table [] i u e = cc
get-terms table (m ∷ ns) zero u e = (m, refl, cc)
get-terms table (m ∷ ns) (suc i) u e = get-terms table ns i u e

-- the word of a node is the bits of its term
pub bits-of-term : (table : Table) → IsTable table → (ns : List ℕ) → AreWithin (length table.terms) ns → (words : List Word) (s : Circuit) (n : ℕ) → HasWord ns (length words) n → bits_at ns words n ≡ term_bits (encoding_at table.terms ns words s) (term_at table.terms n)
bits-of-term table kept ns within words s n has =
    let i = has.0 in
    let found = position-Some (nat_eq n) ns i n has.1 in
    let here : slice_get ns i ≡ Some n = slice_get-get_or ns i n found.0 ∙ ap Some (sym (eqb-true n (get_or ns i n) found.1)) in
    let bits : List (List Bit) = map (λ w. w.bits) words in
    let at : slice_get (terms_at table.terms ns) i ≡ Some (term_at table.terms n) = slice_get-map (term_at table.terms) ns i ∙ ap (option_map (term_at table.terms)) here in
    let less : i < length bits = omega (arith, has.2, length-map words (λ (w : Word). w.bits)) in
    let before : (k : ℕ) (u : Term) → k < i → slice_get (terms_at table.terms ns) k ≡ Some u → same_term (term_at table.terms n) u ≡ false = λ k u below e.
    let m = get-terms table.terms ns k u e in
    let other : nat_eq n m.0 ≡ false = ap (nat_eq n) (sym (get_or_from_slice_get ns k m.0 n m.1)) ∙ found.2 k below in
    same-not (term_at table.terms n) u
    (λ same.
    let one : n ≡ m.0 = kept.distinct n m.0 (within-get (length table.terms) ns within i n here) (within-get (length table.terms) ns within k m.0 m.1) (same ∙ sym m.2) in
    let yes = eq-eqb n m.0 one in
    let impossible : true ≡ false = sym yes ∙ other in
    cc) in
    let code : bits_at ns words n ≡ unwrap_or (option_map (λ w. w.bits) (slice_get words i)) [] = ap (λ (o : Option ℕ). unwrap_or (option_map (λ (w : Word). w.bits) (option_and_then (slice_get words) o)) []) has.1 in
    code
    ∙ ap (λ (o : Option (List Bit)). unwrap_or o []) (sym (slice_get-map (λ (w : Word). w.bits) words i) ∙ sym (lookup-zip (term_at table.terms n) (terms_at table.terms ns) bits i less at before))

-- ---- one node

abbrev SameBits : (ℕ → List Bit) → Encoding → List Term → ℕ → Type 0
SameBits bits e table n = bits n ≡ term_bits e (term_at table n)

-- a node's bits are those of its term
pub run-is : (table : List Term) (e : Encoding) (bits : ℕ → List Bit) (nd : Node) (s : Circuit) → AllByRecursion (SameBits bits e table) (operands nd) → node_run nd bits s ≡ node_bits (map-Term Term (List Bit) (term_bits e) (out-Term (node_term table nd))) s
run-is table e bits (node.Param k) s h = ap (λ (y : Term-F Term). node_bits (map-Term Term (List Bit) (term_bits e) y) s) (sym (out-Param k))
run-is table e bits (node.Num z) s h = ap (λ (y : Term-F Term). node_bits (map-Term Term (List Bit) (term_bits e) y) s) (sym (out-Num z))
run-is table e bits (node.Op op a b) s h =
    ap₂ (λ (x y : List Bit). op_bits op x y s) h.0 h.1.0
    ∙ ap (λ (y : Term-F Term). node_bits (map-Term Term (List Bit) (term_bits e) y) s) (sym (out-Op op (term_at table a) (term_at table b)))
run-is table e bits (node.Pick c a b) s h =
    (λ i. pick_bits (h.0 i) (h.1.0 i) (h.1.1.0 i) s)
    ∙ ap (λ (y : Term-F Term). node_bits (map-Term Term (List Bit) (term_bits e) y) s) (sym (out-Pick (term_at table c) (term_at table a) (term_at table b)))

-- a word more is a term more
pub word-more : (table : List Term) (ns : List ℕ) (words : List Word) (w : Word) (s s' : Circuit) (n : ℕ) → slice_get ns (length words) ≡ Some n →
    record { out = w.bits; circuit = s' } ≡ node_bits (map-Term Term (List Bit) (term_bits (encoding_at table ns words s)) (out-Term (term_at table n))) s →
    encoding_at table ns (words ++ w ∷ []) s' ≡ with_term (encoding_at table ns words s) (term_at table n)
word-more table ns words w s s' n at run =
    let bits : List (List Bit) = map (λ w. w.bits) words in
    let place : slice_get (terms_at table ns) (length bits) ≡ Some (term_at table n) =
    ap (slice_get (terms_at table ns)) (length-map words (λ (w : Word). w.bits)) ∙ slice_get-map (term_at table) ns (length words) ∙ ap (option_map (term_at table)) at in
    let longer : zip (terms_at table ns) (map (λ w. w.bits) (words ++ w ∷ [])) ≡ zip (terms_at table ns) bits ++ (term_at table n, w.bits) ∷ [] =
    ap (zip (terms_at table ns)) (map-append (λ (w : Word). w.bits) words (w ∷ [])) ∙ zip-more (terms_at table ns) bits w.bits (term_at table n) place in
    let made : Run (List Bit) = node_bits (map-Term Term (List Bit) (term_bits (encoding_at table ns words s)) (out-Term (term_at table n))) s in
    ap₂ (λ (ws : List (Term × List Bit)) (t : Circuit). record { words = ws; circuit = t }) longer (ap (λ (r : Run (List Bit)). r.circuit) run)
    ∙ ap (λ (b : List Bit). record { words = zip (terms_at table ns) bits ++ (term_at table n, b) ∷ []; circuit = made.circuit }) (ap (λ (r : Run (List Bit)). r.out) run)
