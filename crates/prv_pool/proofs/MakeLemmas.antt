-- What a call that makes a term does to the table, by what adding one node does.
use Rattle.std.proofs.Common.{◌≡◌, ◌↔◌, pos, ℕ, ◌+◌, ◌-◌, ◌<◌, ◌≤◌, Bool, true, false, ◌||◌, List, [], ◌∷◌, ◌++◌, length, take, Some, Result, Ok, Err, slice_get, refl, sym, ap, ◌∙◌, subst, arith, length-append}
use Rattle.std.proofs.Math.Seq.{take-append_seam}
use Rattle.std.specs.Prelude.{OnOk, OnErr, IfOk}
use Rattle.prv_model.specs.declared.op.TermOp.{TermOp}
use Rattle.prv_model.specs.declared.term.Term.{Term, out-Term}
use Rattle.prv_model.specs.declared.term.Term.TheVariants.{Op, Num}
use Rattle.prv_pool.specs.Tables.{Table, Makes, term_at, has_term, add_term}
use Rattle.prv_pool.specs.Nodes.{node_term, AreBelow}
use Rattle.prv_pool.specs.declared.error.PoolError.{PoolError}
use Rattle.prv_pool.specs.declared.error.PoolError.TheVariants.{Wide, Memory}
use Rattle.prv_pool.specs.declared.node.Node.{Node}
use Rattle.prv_pool.specs.declared.node.Node.TheVariants as node
use Rattle.prv_pool.proofs.Shapes.{out-Op, out-Num}
use Rattle.prv_pool.proofs.NodeLemmas.{get-end, term_at-append, term_at-get, term_at-some}
use Rattle.prv_pool.proofs.TableLemmas.{has-at, has-append, same-not, add-there, add-node, add-with-zero, IsClosed}

-- a term that is there
pub makes-there : (t : Term) (table : Table) (n : ℕ) → length table.terms ≤ table.max_nodes → slice_get table.terms n ≡ Some t → Makes t table table (Ok n)
makes-there t table n within e =
    let same = add-there t table.terms (has-at table.terms n t e) in
    record {
      stands = e;
      grows = sym same;
      limit = refl;
      refused = tt;
      wide = (λ d. cc, λ h. absurd (omega (arith, ap length same)));
    }

pub makes-known : (table : Table) (n : ℕ) → length table.terms ≤ table.max_nodes → n < length table.terms → Makes (term_at table.terms n) table table (Ok n)
makes-known table n within h = makes-there (term_at table.terms n) table n within (term_at-get table.terms n h)

-- one new node
pub makes-added : (k : Node) (old new : Table) (r : Result ℕ PoolError) → AreBelow (length old.terms) k → has_term old.terms (node_term old.terms k) ≡ false
    → IfOk r (λ n. n ≡ length old.terms) → OnOk r (new.terms ≡ old.terms ++ node_term old.terms k ∷ []) → new.max_nodes ≡ old.max_nodes → OnErr r (new ≡ old)
    → (r ≡ Err Wide) ↔ (old.max_nodes ≤ length old.terms) → Makes (node_term old.terms k) old new r
makes-added k old new (Ok n) low lacks number grows limit refused wide =
    let made = add-node old.terms k low lacks in
    let longer : length (add_term (node_term old.terms k) old.terms) ≡ length old.terms + 1 = ap length made ∙ length-append old.terms (node_term old.terms k ∷ []) in
    record {
      stands = ap (slice_get new.terms) number ∙ ap (λ (ts : List Term). slice_get ts (length old.terms)) grows ∙ get-end old.terms (node_term old.terms k) [];
      grows = grows ∙ sym made;
      limit = limit;
      refused = tt;
      wide = (λ e. cc, λ h. wide.1 (omega arith));
    }
makes-added k old new (Err w) low lacks number grows limit refused wide =
    let made = add-node old.terms k low lacks in
    let longer : length (add_term (node_term old.terms k) old.terms) ≡ length old.terms + 1 = ap length made ∙ length-append old.terms (node_term old.terms k ∷ []) in
    record {
      stands = tt;
      grows = tt;
      limit = limit;
      refused = refused;
      wide = (λ e. let full = wide.0 e in omega arith, λ h. wide.1 (omega arith));
    }

-- ---- 0 and an operator on a term and 0

-- a list that lacks 0 lacks what is made of it
pub lacks-on-zero : (ts : List Term) (o : TermOp) (a : Term) → IsClosed ts → has_term ts (Num (pos 0)) ≡ false → has_term ts (Op o a (Num (pos 0))) ≡ false
lacks-on-zero ts o a closed lacks = by (has_term ts (Op o a (Num (pos 0)))) refl
  where
    by : (b : Bool) → has_term ts (Op o a (Num (pos 0))) ≡ b → has_term ts (Op o a (Num (pos 0))) ≡ false
    by true e = let there = (closed.0 o a (Num (pos 0)) e).1 in cc
    by false e = e

-- and so does the list with 0
pub lacks-behind-zero : (ts : List Term) (o : TermOp) (a : Term) → has_term ts (Op o a (Num (pos 0))) ≡ false → has_term (ts ++ Num (pos 0) ∷ []) (Op o a (Num (pos 0))) ≡ false
lacks-behind-zero ts o a lacks =
    let differ = same-not (Op o a (Num (pos 0))) (Num (pos 0)) (λ e. let f = sym (out-Op o a (Num (pos 0))) ∙ ap out-Term e ∙ out-Num (pos 0) in cc) in
    has-append ts (Num (pos 0) ∷ []) (Op o a (Num (pos 0))) ∙ (λ i. lacks i || (differ i || false))

two-more : (ts : List Term) (o : TermOp) (n : ℕ) → IsClosed ts → n < length ts → has_term ts (Num (pos 0)) ≡ false → length (add_term (Op o (term_at ts n) (Num (pos 0))) ts) ≡ length ts + 2
two-more ts o n closed h lacks =
    ap length (add-with-zero ts o n h lacks (lacks-on-zero ts o _ closed lacks)) ∙ length-append (ts ++ Num (pos 0) ∷ []) (Op o (term_at ts n) (Num (pos 0)) ∷ []) ∙ omega (arith, length-append ts (Num (pos 0) ∷ []))

-- no room for both
pub makes-no-room : (old : Table) (o : TermOp) (n count : ℕ) → IsClosed old.terms → n < length old.terms → has_term old.terms (Num (pos 0)) ≡ false → length old.terms ≤ old.max_nodes → count ≡ length old.terms
    → old.max_nodes - count < 2 → Makes (Op o (term_at old.terms n) (Num (pos 0))) old old (Err Wide)
makes-no-room old o n count closed h lacks within e full =
    let more = two-more old.terms o n closed h lacks in
    record {
      stands = tt;
      grows = tt;
      limit = refl;
      refused = refl;
      wide = (λ _. omega arith, λ _. refl);
    }

-- want of memory, and nothing changed
pub makes-no-memory : (old new : Table) (o : TermOp) (n count : ℕ) → IsClosed old.terms → n < length old.terms → has_term old.terms (Num (pos 0)) ≡ false → count ≡ length old.terms
    → 2 ≤ old.max_nodes - count → new ≡ old → Makes (Op o (term_at old.terms n) (Num (pos 0))) old new (Err Memory)
makes-no-memory old new o n count closed h lacks e room same =
    let more = two-more old.terms o n closed h lacks in
    record {
      stands = tt;
      grows = tt;
      limit = ap (λ (t : Table). t.max_nodes) same;
      refused = same;
      wide = (λ d. cc, λ d. absurd (omega arith));
    }

-- the term of an operator on a node and the newest
newest-term : (ts us : List Term) (o : TermOp) (n z : ℕ) → n < length ts → us ≡ ts ++ Num (pos 0) ∷ [] → z ≡ length ts → node_term us (node.Op o n z) ≡ Op o (term_at ts n) (Num (pos 0))
newest-term ts us o n z h grown at =
    let first : term_at us n ≡ term_at ts n = ap (λ (vs : List Term). term_at vs n) grown ∙ term_at-append ts (Num (pos 0) ∷ []) n h in
    let second : term_at us z ≡ Num (pos 0) =
    (λ i. term_at (grown i) (at i)) ∙ term_at-some (ts ++ Num (pos 0) ∷ []) (length ts) (Num (pos 0)) (get-end ts (Num (pos 0)) []) in
    λ i. Op o (first i) (second i)

pub newest-folded : (P : Term → Type 0) (ts us : List Term) (o : TermOp) (n z : ℕ) → n < length ts → us ≡ ts ++ Num (pos 0) ∷ [] → z ≡ length ts → P (Op o (term_at ts n) (Num (pos 0))) → P (node_term us (node.Op o n z))
newest-folded P ts us o n z h grown at folded = subst P (sym (newest-term ts us o n z h grown at)) folded

pub newest-lacks : (ts us : List Term) (o : TermOp) (n z : ℕ) → IsClosed ts → n < length ts → has_term ts (Num (pos 0)) ≡ false → us ≡ ts ++ Num (pos 0) ∷ [] → z ≡ length ts → has_term us (node_term us (node.Op o n z)) ≡ false
newest-lacks ts us o n z closed h lacks grown at =
    (λ i. has_term (grown i) (newest-term ts us o n z h grown at i)) ∙ lacks-behind-zero ts o _ (lacks-on-zero ts o _ closed lacks)

-- both are made
pub makes-both : (old middle new : Table) (o : TermOp) (n z made count : ℕ) → IsClosed old.terms → n < length old.terms → has_term old.terms (Num (pos 0)) ≡ false → count ≡ length old.terms → 2 ≤ old.max_nodes - count
    → z ≡ length old.terms → middle.terms ≡ old.terms ++ Num (pos 0) ∷ [] → middle.max_nodes ≡ old.max_nodes
    → made ≡ length middle.terms → new.terms ≡ middle.terms ++ node_term middle.terms (node.Op o n z) ∷ [] → new.max_nodes ≡ middle.max_nodes
    → Makes (Op o (term_at old.terms n) (Num (pos 0))) old new (Ok made)
makes-both old middle new o n z made count closed h lacks e room at grown limit at' grown' limit' =
    let t = Op o (term_at old.terms n) (Num (pos 0)) in
    let more = two-more old.terms o n closed h lacks in
    let both : new.terms ≡ (old.terms ++ Num (pos 0) ∷ []) ++ t ∷ [] = grown' ∙ (λ i. grown i ++ newest-term old.terms middle.terms o n z h grown at i ∷ []) in
    record {
      stands = (λ i. slice_get (both i) ((at' ∙ ap length grown) i)) ∙ get-end (old.terms ++ Num (pos 0) ∷ []) t [];
      grows = both ∙ sym (add-with-zero old.terms o n h lacks (lacks-on-zero old.terms o _ closed lacks));
      limit = limit' ∙ limit;
      refused = tt;
      wide = (λ d. cc, λ d. absurd (omega arith));
    }

-- the table is cut to what it was
pub cut-back : (old middle late new : Table) (count : ℕ) → count ≡ length old.terms → middle.terms ≡ old.terms ++ Num (pos 0) ∷ [] → middle.max_nodes ≡ old.max_nodes → late ≡ middle
    → new ≡ record late { terms = take count late.terms } → new ≡ old
cut-back old middle late new count e grown limit refused cut =
    let terms : take count late.terms ≡ old.terms =
    (λ i. take (e i) ((ap (λ (t : Table). t.terms) refused ∙ grown) i)) ∙ take-append_seam old.terms (Num (pos 0) ∷ []) in
    let max : late.max_nodes ≡ old.max_nodes = ap (λ (t : Table). t.max_nodes) refused ∙ limit in
    cut ∙ (λ i. record { terms = terms i; max_nodes = max i })
