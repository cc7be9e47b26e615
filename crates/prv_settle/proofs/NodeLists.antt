-- Nodes of a table that has grown, one node more, and which nodes are marked.
use Rattle.std.proofs.Common.{◌≡◌, ℕ, zero, suc, ◌+◌, ◌-◌, ◌<◌, Bool, true, false, ◌||◌, nat_eq, List, [], ◌∷◌, ◌++◌, length, map, take, drop, set, get_or, slice_index_or, if◌then◌else◌, refl, sym, ap, ◌∙◌, subst, arith, append_assoc, append-nil, eq-eqb, ◌≢◌, slice_get, Ok, Option, Some, unwrap_or, ℤ, pos}
use Rattle.std.specs.List.{list_any}
use Rattle.std.specs.Option.{option_map}
use Rattle.std.specs.Ordering.{int_eq}
use Rattle.std.proofs.lemmas.List.{map-append, take-map, take_all, drop-map, take_more, length-drop, length-map, length-set, get_or-set_same, get_or-set_other}
use Rattle.std.proofs.lemmas.List.Elements.{All-append, All-drop}
use Rattle.std.proofs.lemmas.List.Folds.{list_any-append}
use Rattle.prv_model.specs.declared.term.Term.{Term}
use Rattle.prv_model.specs.declared.term.Term.TheVariants.{Num}
use Rattle.prv_pool.specs.Folding.{negation, is_number}
use Rattle.prv_pool.specs.Nodes.{node_term, node_number}
use Rattle.prv_pool.specs.declared.node.Node.{Node}
use Rattle.prv_pool.specs.declared.node.Node.TheVariants as node
use Rattle.prv_pool.proofs.AddLemmas.{add-grows}
use Rattle.prv_pool.proofs.FoldLemmas.{number-at}
use Rattle.prv_pool.specs.Tables.{Table, IsTable, Makes, Grown, has_term, term_at}
use Rattle.prv_sym.specs.Calls.{AllStand}
use Rattle.prv_sym.proofs.Naming.{Grows, term-kept, still-in, there, made-in, made-at}
use Rattle.prv_general.specs.Answers.{terms_at}
use Rattle.prv_general.specs.Conditions.{node_is_one}
use Rattle.prv_part.specs.Literals.{without_repeats}
use Rattle.prv_settle.specs.Making.{AreNodes, AreMarked, with_negations}
use Rattle.prv_settle.proofs.Nodes.{first-node, other-nodes, contains-term}
use Rattle.prv_settle.proofs.Partitioning.{added, repeats-push, repeats-append}

-- ---- in a table that has grown

grows : (old new : List Term) → Grown old new → Grows old new
grows old new g = (g.more, g.is)

pub still-nodes : (old new : List Term) (ns : List ℕ) → Grown old new → AreNodes old ns → AreNodes new ns
still-nodes old new ns g h = λ k d below. still-in old new (get_or ns k d) (grows old new g) (h k d below)

pub same-terms : (old new : List Term) (ns : List ℕ) → Grown old new → AreNodes old ns → terms_at new ns ≡ terms_at old ns
same-terms old new [] g h = refl
same-terms old new (n ∷ ns) g h =
    let here = term-kept old new n (grows old new g) (first-node old n ns h) in
    let rest = same-terms old new ns g (other-nodes old n ns h) in
    λ i. here i ∷ rest i

-- ---- one node more

one-node : (terms : List Term) (n : ℕ) → n < length terms → AreNodes terms (n ∷ [])
one-node terms n h = λ k d below. by k d below
  where
    by : (k d : ℕ) → k < 1 → get_or (n ∷ []) k d < length terms
    by zero d below = h
    by (suc k) d below = absurd (omega (arith, below))

nodes-push : (terms : List Term) (ns : List ℕ) (n : ℕ) → AreNodes terms ns → n < length terms → AreNodes terms (ns ++ n ∷ [])
nodes-push terms ns n h below = All-append (λ m. m < length terms) ns (n ∷ []) h (one-node terms n below)

terms-push : (terms : List Term) (ns : List ℕ) (n : ℕ) → terms_at terms (ns ++ n ∷ []) ≡ terms_at terms ns ++ term_at terms n ∷ []
terms-push terms ns n = map-append (term_at terms) ns (n ∷ [])

-- nodes that have these terms stand for them
stand-all : (terms : List Term) (ns : List ℕ) → AreNodes terms ns → AllStand terms ns (terms_at terms ns)
stand-all terms [] h = tt
stand-all terms (n ∷ ns) h = (there terms n (first-node terms n ns h), stand-all terms ns (other-nodes terms n ns h))

pub stand-as : (terms : List Term) (ns : List ℕ) (ts : List Term) → AreNodes terms ns → terms_at terms ns ≡ ts → AllStand terms ns ts
stand-as terms ns ts h is = subst (λ (us : List Term). AllStand terms ns us) is (stand-all terms ns h)

-- ---- negations

-- some nodes, and behind them one that was made
pub made-grown : (t : Term) (old new : Table) (made : ℕ) → Makes t old new (Ok made) → Grown old.terms new.terms
made-grown t old new made m = let g = add-grows t old.terms in record { more = g.more; is = m.grows ∙ g.is }

pub made-nodes : (t : Term) (old new : Table) (made : ℕ) (ns after : List ℕ) → Makes t old new (Ok made) → AreNodes old.terms ns → after ≡ ns ++ made ∷ [] → AreNodes new.terms after
made-nodes t old new made ns after m h is =
    subst (λ (ms : List ℕ). AreNodes new.terms ms) (sym is) (nodes-push new.terms ns made (still-nodes old.terms new.terms ns (made-grown t old new made m) h) (made-in t old new made m))

pub made-terms : (t : Term) (old new : Table) (made : ℕ) (ns after : List ℕ) → Makes t old new (Ok made) → AreNodes old.terms ns → after ≡ ns ++ made ∷ [] → terms_at new.terms after ≡ terms_at old.terms ns ++ t ∷ []
made-terms t old new made ns after m h is =
    ap (λ (ms : List ℕ). terms_at new.terms ms) is ∙ terms-push new.terms ns made
    ∙ (λ i. same-terms old.terms new.terms ns (made-grown t old new made m) h i ++ made-at t old new made m i ∷ [])

-- one more of the negations
pub negations-more : (old now : List Term) (items : List ℕ) (i node : ℕ) (front before all : List Term) → Grown old now → AreNodes old items → i < length items → node ≡ get_or items i 0 →
    before ≡ front ++ map negation (terms_at old (take i items)) → all ≡ before ++ negation (term_at now node) ∷ [] → all ≡ front ++ map negation (terms_at old (take (i + 1) items))
negations-more old now items i node front before all g h below at was is =
    let old_term : term_at now node ≡ term_at old node = term-kept old now node (grows old now g) (subst (λ (n : ℕ). n < length old) (sym at) (h i 0 below)) in
    let more : take (i + 1) items ≡ take i items ++ node ∷ [] = take_more items i 0 below ∙ ap (λ (n : ℕ). take i items ++ n ∷ []) (sym at) in
    let terms : map negation (terms_at old (take (i + 1) items)) ≡ map negation (terms_at old (take i items)) ++ negation (term_at old node) ∷ [] =
    ap (λ (ns : List ℕ). map negation (terms_at old ns)) more ∙ ap (λ (ts : List Term). map negation ts) (terms-push old (take i items) node) ∙ map-append negation (terms_at old (take i items)) (term_at old node ∷ []) in
    is ∙ (λ k. was k ++ negation (old_term k) ∷ []) ∙ append_assoc front (map negation (terms_at old (take i items))) (negation (term_at old node) ∷ []) ∙ ap (λ (ts : List Term). front ++ ts) (sym terms)

-- all of them
pub negations-all : (old : List Term) (partition more items : List ℕ) (region i : ℕ) (all : List Term) → items ≡ drop region partition → take i items ≡ items →
    all ≡ (terms_at old partition ++ terms_at old more) ++ map negation (terms_at old (take i items)) → all ≡ with_negations region (terms_at old partition) (terms_at old more)
negations-all old partition more items region i all are whole is =
    let negated : terms_at old (take i items) ≡ drop region (terms_at old partition) = ap (λ (ns : List ℕ). terms_at old ns) (whole ∙ are) ∙ sym (drop-map (term_at old) region partition) in
    is ∙ ap (λ (ts : List Term). (terms_at old partition ++ terms_at old more) ++ map negation ts) negated ∙ append_assoc (terms_at old partition) (terms_at old more) (map negation (drop region (terms_at old partition)))

pub joined-nodes : (terms : List Term) (a b all : List ℕ) → all ≡ a ++ b → AreNodes terms a → AreNodes terms b → AreNodes terms all
joined-nodes terms a b all is ha hb = subst (λ (ns : List ℕ). AreNodes terms ns) (sym is) (All-append (λ n. n < length terms) a b ha hb)

pub joined-terms : (terms : List Term) (a b all : List ℕ) → all ≡ a ++ b → terms_at terms all ≡ terms_at terms a ++ terms_at terms b
joined-terms terms a b all is = ap (λ (ns : List ℕ). terms_at terms ns) is ∙ map-append (term_at terms) a b

-- a list from a number on, cut off at its end
pub tail-is : (count : ℕ) (ns : List ℕ) → take (length ns - count) (drop count ns) ≡ drop count ns
tail-is count ns = let long = length-drop count ns in take_all (length ns - count) (drop count ns) (omega (arith, long))

pub tail-long : (count : ℕ) (ns : List ℕ) → length (take (length ns - count) (drop count ns)) ≡ length ns - count
tail-long count ns = ap (λ (ms : List ℕ). length ms) (tail-is count ns) ∙ length-drop count ns

pub dropped-nodes : (terms : List Term) (ns these : List ℕ) (count : ℕ) → these ≡ drop count ns → AreNodes terms ns → AreNodes terms these
dropped-nodes terms ns these count is h = subst (λ (ms : List ℕ). AreNodes terms ms) (sym is) (All-drop (λ n. n < length terms) count ns h)

-- the terms at the first nodes, and with one more of them
pub term-of : (terms : List Term) (ns : List ℕ) (k d : ℕ) → k < length ns → slice_get (terms_at terms ns) k ≡ Some (term_at terms (get_or ns k d))
term-of terms [] k d below = absurd (omega (arith, below))
term-of terms (x ∷ ns) zero d below = refl
term-of terms (x ∷ ns) (suc k) d below = term-of terms ns k d (omega (arith, below))

pub front-terms : (terms self : List Term) (nodes roots these : List ℕ) (count : ℕ) → roots ≡ nodes → terms_at terms nodes ≡ self → these ≡ take count roots → terms_at terms these ≡ take count self
front-terms terms self nodes roots these count same view is =
    ap (λ (ns : List ℕ). terms_at terms ns) (is ∙ ap (λ (ns : List ℕ). take count ns) same) ∙ sym (take-map (term_at terms) count nodes) ∙ ap (λ (ts : List Term). take count ts) view

pub last-terms : (terms self : List Term) (nodes roots these : List ℕ) (count last : ℕ) → roots ≡ nodes → terms_at terms nodes ≡ self → last < length self → these ≡ take count roots ++ get_or roots last 0 ∷ [] →
    terms_at terms these ≡ take count self ++ term_at self last ∷ []
last-terms terms self nodes roots these count last same view below is =
    let long = ap (λ (ts : List Term). length ts) view in
    let inside : last < length nodes = omega (arith, below, long, length-map nodes (term_at terms)) in
    let front = front-terms terms self nodes nodes (take count nodes) count refl view refl in
    let at : term_at terms (get_or nodes last 0) ≡ term_at self last =
    sym (ap (λ (o : Option Term). unwrap_or o (Num (pos 0))) (term-of terms nodes last 0 inside)) ∙ ap (λ (ts : List Term). term_at ts last) view in
    ap (λ (ns : List ℕ). terms_at terms ns) (is ∙ (λ i. take count (same i) ++ get_or (same i) last 0 ∷ []))
    ∙ terms-push terms (take count nodes) (get_or nodes last 0) ∙ (λ i. front i ++ at i ∷ [])

-- ---- marked nodes

pub marked-none : (has : List Bool) → ((k : ℕ) → k < length has → slice_index_or has k false ≡ false) → AreMarked has []
marked-none has h = record { at = h }

or-false : (b : Bool) → (b || false) ≡ b
or-false true = refl
or-false false = refl

or-true : (b : Bool) → (b || true) ≡ true
or-true true = refl
or-true false = refl

-- one more is marked
marked-more : (has new : List Bool) (nodes : List ℕ) (n : ℕ) → AreMarked has nodes → n < length has → new ≡ set has n true → AreMarked new (nodes ++ n ∷ [])
marked-more has new nodes n h below is = subst (λ (bs : List Bool). AreMarked bs (nodes ++ n ∷ [])) (sym is) (record { at = λ k within. by k (nat_eq k n) refl within })
  where
    by : (k : ℕ) (b : Bool) → nat_eq k n ≡ b → k < length (set has n true) → slice_index_or (set has n true) k false ≡ list_any (nat_eq k) (nodes ++ n ∷ [])
    by k true e within =
        let same : k ≡ n = grind (arith, e) in
        let here : slice_index_or (set has n true) k false ≡ true = ap (λ (m : ℕ). slice_index_or (set has n true) m false) same ∙ get_or-set_same has n true false below in
        here ∙ sym (list_any-append (nat_eq k) nodes (n ∷ []) ∙ ap (λ (z : Bool). list_any (nat_eq k) nodes || (z || false)) e ∙ or-true (list_any (nat_eq k) nodes))
    by k false e within =
        let other : k ≢ n = λ same. let yes : nat_eq k n ≡ true = eq-eqb k n same in cc (yes, e) in
        let long = length-set has n true in
        let in_has : k < length has = omega (arith, within, long) in
        get_or-set_other has n k true false other
        ∙ h.at k in_has
        ∙ sym (list_any-append (nat_eq k) nodes (n ∷ []) ∙ ap (λ (z : Bool). list_any (nat_eq k) nodes || (z || false)) e ∙ or-false (list_any (nat_eq k) nodes))

-- ---- nodes that are new

-- a node behind some nodes, if it isn't among them
if-new : (terms : List Term) (n : ℕ) (b : Bool) → terms_at terms (if b then [] else n ∷ []) ≡ (if b then [] else term_at terms n ∷ [])
if-new terms n true = refl
if-new terms n false = refl

new-in : (terms : List Term) (ns : List ℕ) (n : ℕ) (b : Bool) → AreNodes terms ns → n < length terms → AreNodes terms (ns ++ (if b then [] else n ∷ []))
new-in terms ns n true h below = subst (λ (ms : List ℕ). AreNodes terms ms) (sym (append-nil ns)) h
new-in terms ns n false h below = nodes-push terms ns n h below

pub new-node : (table : Table) (old nodes new more : List ℕ) (i node : ℕ) → IsTable table → AreNodes table.terms nodes → AreNodes table.terms more → i < length more → node ≡ get_or more i 0 →
    terms_at table.terms nodes ≡ terms_at table.terms old ++ without_repeats (terms_at table.terms old) (terms_at table.terms (take i more)) →
    new ≡ nodes ++ (if list_any (nat_eq node) nodes then [] else node ∷ []) →
    AreNodes table.terms new × (terms_at table.terms new ≡ terms_at table.terms old ++ without_repeats (terms_at table.terms old) (terms_at table.terms (take (i + 1) more)))
new-node table old nodes new more i node kept hn hm below at was is =
    let inside : node < length table.terms = subst (λ (n : ℕ). n < length table.terms) (sym at) (hm i 0 below) in
    let t = term_at table.terms node in
    let seen = terms_at table.terms old in
    let ts = terms_at table.terms (take i more) in
    let found : list_any (nat_eq node) nodes ≡ has_term (seen ++ without_repeats seen ts) t =
    contains-term table kept nodes node hn inside ∙ ap (λ (us : List Term). has_term us t) was in
    let last : terms_at table.terms (if list_any (nat_eq node) nodes then [] else node ∷ []) ≡ added seen (without_repeats seen ts) t =
    if-new table.terms node (list_any (nat_eq node) nodes) ∙ ap (λ (b : Bool). if b then [] else t ∷ []) found in
    let all : terms_at table.terms new ≡ (seen ++ without_repeats seen ts) ++ added seen (without_repeats seen ts) t =
    ap (λ (ns : List ℕ). terms_at table.terms ns) is ∙ map-append (term_at table.terms) nodes (if list_any (nat_eq node) nodes then [] else node ∷ []) ∙ (λ k. was k ++ last k) in
    let longer : terms_at table.terms (take (i + 1) more) ≡ ts ++ t ∷ [] =
    ap (λ (ns : List ℕ). terms_at table.terms ns) (take_more more i 0 below ∙ ap (λ (n : ℕ). take i more ++ n ∷ []) (sym at)) ∙ terms-push table.terms (take i more) node in (
      subst (λ (ns : List ℕ). AreNodes table.terms ns) (sym is) (new-in table.terms nodes node (list_any (nat_eq node) nodes) hn inside),
      all ∙ append_assoc seen (without_repeats seen ts) (added seen (without_repeats seen ts) t)
          ∙ ap (λ (us : List Term). seen ++ us) (sym (repeats-push seen ts t) ∙ ap (λ (us : List Term). without_repeats seen us) (sym longer)),
    )

-- the region's terms, then those of one slice, then those of the other
pub partitioned : (terms : List Term) (start region : List ℕ) (before after first all : List Term) → start ≡ region → first ≡ terms_at terms start ++ without_repeats (terms_at terms start) before →
    all ≡ first ++ without_repeats first after → all ≡ terms_at terms region ++ without_repeats (terms_at terms region) (before ++ after)
partitioned terms start region before after first all same one two =
    let own = terms_at terms region in
    let begins : first ≡ own ++ without_repeats own before = one ∙ ap (λ (ns : List ℕ). terms_at terms ns ++ without_repeats (terms_at terms ns) before) same in
    two ∙ (λ k. begins k ++ without_repeats (begins k) after) ∙ append_assoc own (without_repeats own before) (without_repeats (own ++ without_repeats own before) after)
    ∙ ap (λ (us : List Term). own ++ us) (sym (repeats-append own before after))

-- ---- the number 1

number-one : (d : Node) → unwrap_or (option_map (int_eq (pos 1)) (node_number d)) false ≡ node_is_one d
number-one (node.Param k) = refl
number-one (node.Num n) = refl
number-one (node.Op op a b) = refl
number-one (node.Pick test a b) = refl

one-at : (terms : List Term) (n : ℕ) (d : Node) → slice_get terms n ≡ Some (node_term terms d) → node_is_one d ≡ is_number (pos 1) (term_at terms n)
one-at terms n d at = sym (ap (λ (o : Option ℤ). unwrap_or (option_map (int_eq (pos 1)) o) false) (number-at terms n d at) ∙ number-one d)

-- a partition says so by itself
pub granted-as : (table : Table) (partition : List ℕ) (n : ℕ) (d : Node) (one among : Bool) → IsTable table → AreNodes table.terms partition → n < length table.terms → slice_get table.terms n ≡ Some (node_term table.terms d) →
    one ≡ node_is_one d → among ≡ list_any (nat_eq n) partition → (one || among) ≡ (is_number (pos 1) (term_at table.terms n) || has_term (terms_at table.terms partition) (term_at table.terms n))
granted-as table partition n d one among kept h below at is there_is =
    let first : one ≡ is_number (pos 1) (term_at table.terms n) = is ∙ one-at table.terms n d at in
    let second : among ≡ has_term (terms_at table.terms partition) (term_at table.terms n) = there_is ∙ contains-term table kept partition n h below in
    λ i. first i || second i

-- ---- a node is marked where it is added

pub marked-next : (has new : List Bool) (nodes : List ℕ) (i n : ℕ) → AreMarked has (take i nodes) → i < length nodes → n ≡ get_or nodes i 0 → n < length has → new ≡ set has n true → AreMarked new (take (i + 1) nodes)
marked-next has new nodes i n h below at inside is =
    let more : take i nodes ++ n ∷ [] ≡ take (i + 1) nodes = sym (take_more nodes i 0 below ∙ ap (λ (m : ℕ). take i nodes ++ m ∷ []) (sym at)) in
    subst (λ (ns : List ℕ). AreMarked new ns) more (marked-more has new (take i nodes) n h inside is)

pub marked-same : (has : List Bool) (a b : List ℕ) → a ≡ b → AreMarked has a → AreMarked has b
marked-same has a b is h = subst (λ (ns : List ℕ). AreMarked has ns) is h
