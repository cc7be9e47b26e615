-- The flat walk along a run's evaluations has what the run has as a structure.
use Rattle.std.proofs.Common.{◌≡◌, ℕ, ◌<◌, Bool, true, false, List, [], ◌∷◌, ◌++◌, length, map, ℤ, pos, Option, Some, None, Ok, Err, refl, sym, ap, ◌∙◌, subst, append_assoc, slice_set, unwrap_or}
use Rattle.std.proofs.lemmas.List.{append-nil, map-append}
use Rattle.std.proofs.lemmas.Option.{slice_get-map}
use Rattle.std.specs.Option.{option_map}
use Rattle.prv_model.specs.declared.expr.Expr.{Expr}
use Rattle.prv_model.specs.declared.stmt.Stmt.{Stmt, map-Stmt, out-Stmt, roll-out-Stmt}
use Rattle.prv_model.specs.declared.stmt.Stmt.TheOpen.{Stmt-F}
use Rattle.prv_model.specs.declared.stmt.Stmt.TheFolds.{fold-roll-Stmt}
use Rattle.prv_model.specs.declared.term.Term.{Term}
use Rattle.prv_model.specs.declared.term.Term.TheVariants.{Num}
use Rattle.prv_run.specs.Runs.{Run, Use, Sets, Puts, Returns, Asserts, Tests, Idle, Eval, Then, Choice, Mark, events, event, what_of}
use Rattle.prv_run.specs.declared.event.Event.{Event}
use Rattle.prv_run.proofs.Fitting as fit
use Rattle.prv_pool.specs.Tables.{Table, add_terms, term_at}
use Rattle.prv_pool.specs.declared.error.PoolError.{PoolError}
use Rattle.prv_pool.specs.declared.error.PoolError.TheVariants.{Memory}
use Rattle.prv_sym.specs.declared.evaluations.Walk.{Walk}
use Rattle.prv_sym.specs.declared.symbol_nodes.SymbolNodes.{SymbolNodes}
use Rattle.prv_sym.specs.declared.symbol_nodes.Slot.{Slot}
use Rattle.prv_sym.specs.Calls.{Names, StandsFor, AreSlots, AllStand, terms_of}
use Rattle.prv_sym.specs.Named.{named, run_named, run_symbols}
use Rattle.prv_sym.specs.Symbols.{symbol, after}
use Rattle.prv_sym.specs.Walks.{Own, node_own, own, row_at, Walked, set_by, slots_by, with_own, with_row, walked, Reached}
use Rattle.prv_sym.proofs.Slots.{slots-kept, terms-kept, slots-set, terms-set}
use Rattle.prv_sym.proofs.Naming.{Grows, names-as, stands-on, stands-in, names-then, names-stop, refused, add_terms-append, add_terms-grows, only-all}

-- what a statement evaluates, by what it is for
abbrev own_by : Use → Expr → Own
own_by (Sets var) e = record { expr = e; sets = Some var }
own_by Puts e = record { expr = e; sets = None }
own_by Returns e = record { expr = e; sets = None }
own_by Asserts e = record { expr = e; sets = None }
own_by Tests e = record { expr = e; sets = None }

abbrev by_use : Use × Expr → Own
by_use p = own_by p.0 p.1

node-same : (d : Stmt-F Stmt) → node_own (map-Stmt Stmt (Option Own) (λ s. own s) d) ≡ option_map by_use (fit.node_own (map-Stmt Stmt (Option (Use × Expr)) (λ s. fit.own s) d))
node-same Stmt-F.Skip = refl
node-same (Stmt-F.Set var e) = refl
node-same (Stmt-F.If test chosen None) = refl
node-same (Stmt-F.If test chosen (Some other)) = refl
node-same (Stmt-F.While test body) = refl
node-same (Stmt-F.Return e) = refl
node-same (Stmt-F.Out e) = refl
node-same (Stmt-F.Assert e) = refl
node-same (Stmt-F.Block all) = refl
node-same (Stmt-F.Marked mark body) = refl

same-own : (s : Stmt) → own s ≡ option_map by_use (fit.own s)
same-own s = subst (λ (x : Stmt). own x ≡ option_map by_use (fit.own x)) (roll-out-Stmt s)
    (fold-roll-Stmt (Option Own) node_own (out-Stmt s) ∙ node-same (out-Stmt s)
    ∙ ap (option_map by_use) (sym (fold-roll-Stmt (Option (Use × Expr)) fit.node_own (out-Stmt s))))

row-is : (all : List Stmt) (k : ℕ) (why : Use) (e : Expr) → fit.Evaluates all k why e → row_at (map (λ s. own s) all) k ≡ Some (own_by why e)
row-is all k why e h =
    ap (λ (o : Option (Option Own)). unwrap_or o None) (slice_get-map (λ s. own s) all k ∙ ap (option_map (λ s. own s)) h.here)
    ∙ same-own h.stmt ∙ ap (option_map by_use) h.owns

-- what a walk has behind a run
abbrev pub along : Run → Walked → Walked
along run w = record { env = after run w.env; symbols = w.symbols ++ run_symbols run w.env; named = w.named ++ run_named run w.env }

pub walked-append : (rows : List (Option Own)) (a b : List Event) (w : Walked) → walked rows (a ++ b) w ≡ walked rows b (walked rows a w)
walked-append rows [] b w = refl
walked-append rows (x ∷ a) b w = walked-append rows a b (with_row (row_at rows x.stmt) x.safe w)

one-more : (why : Use) (e : Expr) (v : Option ℤ) (k : ℕ) (w : Walked) → with_own (own_by why e) (event k (what_of why) v).safe w ≡ along (Eval k why e v) w
one-more (Sets var) e None k w = refl
one-more Puts e None k w = refl
one-more Returns e None k w = refl
one-more Asserts e None k w = refl
one-more Tests e None k w = refl
one-more (Sets var) e (Some n) k w = refl
one-more Puts e (Some n) k w = refl
one-more Returns e (Some n) k w = refl
one-more Asserts e (Some n) k w = refl
one-more Tests e (Some n) k w = refl

number-is : (k : ℕ) (why : Use) (v : Option ℤ) → (event k (what_of why) v).stmt ≡ k
number-is k why None = refl
number-is k why (Some n) = refl

pub walk-run : (all : List Stmt) (run : Run) → fit.Fits all run → (w : Walked) → walked (map (λ s. own s) all) (events run) w ≡ along run w
walk-run all Idle h w = λ i. record { env = w.env; symbols = sym (append-nil w.symbols) i; named = sym (append-nil w.named) i }
walk-run all (Eval k why e v) h w =
    ap (λ (o : Option Own). with_row o (event k (what_of why) v).safe w) (ap (λ (j : ℕ). row_at (map (λ s. own s) all) j) (number-is k why v) ∙ row-is all k why e h)
    ∙ one-more why e v k w
walk-run all (Then a b) h w =
    let rows = map (λ s. own s) all in
    let v = along a w in
    walked-append rows (events a) (events b) w ∙ ap (λ (x : Walked). walked rows (events b) x) (walk-run all a h.0 w) ∙ walk-run all b h.1 v
    ∙ (λ i. record {
      env = after b (after a w.env);
      symbols = append_assoc w.symbols (run_symbols a w.env) (run_symbols b (after a w.env)) i;
      named = append_assoc w.named (run_named a w.env) (run_named b (after a w.env)) i;
    })
walk-run all (Choice k test chosen other inner) h w = walk-run all inner h.1 w
walk-run all (Mark mark inner) h w = walk-run all inner h w

-- a walk keeps what was named
abbrev Further : List (Option Own) → List Event → Walked → Type 0
Further rows told w = (rest : List Term) × ((walked rows told w).named ≡ w.named ++ rest)

named-more : (rows : List (Option Own)) (told : List Event) (w : Walked) → Further rows told w
named-more rows [] w = ([], sym (append-nil w.named))
named-more rows (x ∷ told) w = by (row_at rows x.stmt) refl (λ v. named-more rows told v)
  where
    by : (o : Option Own) → row_at rows x.stmt ≡ o → ((v : Walked) → Further rows told v) → Further rows (x ∷ told) w
    by None is further =
        let more = further w in
        (more.0, ap (λ (p : Option Own). (walked rows told (with_row p x.safe w)).named) is ∙ more.1)
    by (Some o) is further =
        let more = further (with_own o x.safe w) in
        (named o.expr w.env ++ more.0, ap (λ (p : Option Own). (walked rows told (with_row p x.safe w)).named) is ∙ more.1 ∙ append_assoc w.named (named o.expr w.env) more.0)

-- nodes in a table that has grown
stand-kept : (old new : List Term) → Grows old new → (ns : List ℕ) (ts : List Term) → AllStand old ns ts → AllStand new ns ts
stand-kept old new h [] [] s = tt
stand-kept old new h [] (t ∷ ts) s = absurd s
stand-kept old new h (n ∷ ns) [] s = absurd s
stand-kept old new h (n ∷ ns) (t ∷ ts) s = (stands-on old new n t h s.0, stand-kept old new h ns ts s.1)

stand-more : (terms : List Term) (ns : List ℕ) (ts : List Term) (n : ℕ) (t : Term) → AllStand terms ns ts → StandsFor terms n t → AllStand terms (ns ++ n ∷ []) (ts ++ t ∷ [])
stand-more terms [] [] n t s is = (is, tt)
stand-more terms [] (u ∷ ts) n t s is = absurd s
stand-more terms (m ∷ ns) [] n t s is = absurd s
stand-more terms (m ∷ ns) (u ∷ ts) n t s is = (s.0, stand-more terms ns ts n t s.1 is)

pub slots-by : (terms : List Term) (n : ℕ) → n < length terms → (sets : Option ℕ) (safe : Bool) (slots : List Slot) → AreSlots terms slots → AreSlots terms (slots_by sets safe n slots)
slots-by terms n h None true slots s = s
slots-by terms n h None false slots s = s
slots-by terms n h (Some v) true slots s = slots-set terms n h slots v s
slots-by terms n h (Some v) false slots s = s

terms-by : (terms : List Term) (n : ℕ) (t : Term) → term_at terms n ≡ t → (sets : Option ℕ) (safe : Bool) (slots : List Slot) → terms_of terms (slots_by sets safe n slots) ≡ set_by sets safe t (terms_of terms slots)
terms-by terms n t is None true slots = refl
terms-by terms n t is None false slots = refl
terms-by terms n t is (Some v) true slots = terms-set terms n slots v ∙ ap (λ (u : Term). slice_set (terms_of terms slots) v u) is
terms-by terms n t is (Some v) false slots = refl

-- a walk goes on by one evaluation
pub reached-on : (first old mid : Table) (walk next : Walk) (w : Walked) (o : Own) (safe : Bool) (nodes : SymbolNodes) → Reached first old walk w →
    StandsFor mid.terms nodes.value (symbol o.expr (terms_of old.terms walk.slots)).term → StandsFor mid.terms nodes.safe (symbol o.expr (terms_of old.terms walk.slots)).safe →
    Names {A = SymbolNodes} (named o.expr (terms_of old.terms walk.slots)) old mid (Ok nodes) →
    next.values ≡ walk.values ++ nodes.value ∷ [] → next.safes ≡ walk.safes ++ nodes.safe ∷ [] → next.slots ≡ slots_by o.sets safe nodes.value walk.slots →
    Reached first mid next (with_own o safe w)
reached-on first old mid walk next w o safe nodes r value safety names vs ss slots =
    let env : terms_of old.terms walk.slots ≡ w.env = r.env in
    let is : StandsFor mid.terms nodes.value (symbol o.expr w.env).term = subst (λ (ts : List Term). StandsFor mid.terms nodes.value (symbol o.expr ts).term) env value in
    let safe_is : StandsFor mid.terms nodes.safe (symbol o.expr w.env).safe = subst (λ (ts : List Term). StandsFor mid.terms nodes.safe (symbol o.expr ts).safe) env safety in
    let below = stands-in mid.terms nodes.value _ is in
    record {
      slots = subst (λ (xs : List Slot). AreSlots mid.terms xs) (sym slots) (slots-by mid.terms nodes.value below o.sets safe walk.slots (slots-kept old.terms mid.terms names.kept walk.slots r.slots));
      env = ap (λ (xs : List Slot). terms_of mid.terms xs) slots ∙ terms-by mid.terms nodes.value _ (ap (λ (u : Option Term). unwrap_or u (Num (pos 0))) is) o.sets safe walk.slots
          ∙ ap (λ (ts : List Term). set_by o.sets safe (symbol o.expr w.env).term ts) (terms-kept old.terms mid.terms names.kept walk.slots r.slots ∙ env);
      values = subst (λ (ts : List Term). AllStand mid.terms next.values ts) (sym (map-append (λ s. s.term) w.symbols (symbol o.expr w.env ∷ [])))
          (subst (λ (ns : List ℕ). AllStand mid.terms ns (map (λ s. s.term) w.symbols ++ (symbol o.expr w.env).term ∷ [])) (sym vs)
          (stand-more mid.terms walk.values _ nodes.value _ (stand-kept old.terms mid.terms names.kept walk.values _ r.values) is));
      safes = subst (λ (ts : List Term). AllStand mid.terms next.safes ts) (sym (map-append (λ s. s.safe) w.symbols (symbol o.expr w.env ∷ [])))
          (subst (λ (ns : List ℕ). AllStand mid.terms ns (map (λ s. s.safe) w.symbols ++ (symbol o.expr w.env).safe ∷ [])) (sym ss)
          (stand-more mid.terms walk.safes _ nodes.safe _ (stand-kept old.terms mid.terms names.kept walk.safes _ r.safes) safe_is));
      grows = names.grows ∙ (λ i. add_terms (r.grows i) (named o.expr (env i))) ∙ sym (add_terms-append w.named (named o.expr w.env) first.terms);
      limit = names.limit ∙ r.limit;
    }

-- a walk names what it has named
pub reached-names : {A : Type 0} (first now : Table) (walk : Walk) (w : Walked) (x : A) → Reached first now walk w → Names w.named first now (Ok x)
reached-names first now walk w x r = record {
  grows = r.grows;
  kept = ((add_terms-grows w.named first.terms).0, r.grows ∙ (add_terms-grows w.named first.terms).1);
  only = only-all w.named first.terms now.terms r.grows;
  limit = r.limit;
  wide = λ e. absurd (cc);
}

-- an evaluation that is refused
pub refused-on : {A B : Type 0} (first old mid : Table) (walk : Walk) (w : Walked) (o : Own) (safe : Bool) (e : PoolError) → Reached first old walk w →
    Names {A = A} (named o.expr (terms_of old.terms walk.slots)) old mid (Err e) → Names {A = B} (with_own o safe w).named first mid (Err e)
refused-on {A = A} {B = B} first old mid walk w o safe e r names =
    names-then w.named (named o.expr w.env) first old mid (tt {0}) (Err e) (reached-names first old walk w (tt {0}) r)
    (renamed (named o.expr (terms_of old.terms walk.slots)) (named o.expr w.env) (ap (λ (ts : List Term). named o.expr ts) r.env) names)
  where
    renamed : (a b : List Term) → a ≡ b → Names {A = A} a old mid (Err e) → Names {A = B} b old mid (Err e)
    renamed a b is n = names-as a b old mid (Err e) is (refused a old mid e n)

-- one evaluation of several is refused
pub refused-among : {A B : Type 0} (rows : List (Option Own)) (a b : List Event) (first new : Table) (w : Walked) (e : PoolError) →
    Names {A = A} (walked rows a w).named first new (Err e) → Names {A = B} (walked rows (a ++ b) w).named first new (Err e)
refused-among {B = B} rows a b first new w e n =
    let more = named-more rows b (walked rows a w) in
    let is : (walked rows (a ++ b) w).named ≡ (walked rows a w).named ++ more.0 = ap (λ (x : Walked). x.named) (walked-append rows a b w) ∙ more.1 in
    subst (λ (xs : List Term). Names {A = B} xs first new (Err e)) (sym is) (names-stop (walked rows a w).named more.0 first new e n)

-- a walk's evaluation was named, and then there was no memory
pub named-on : {A B : Type 0} (first old mid : Table) (walk : Walk) (w : Walked) (o : Own) (safe : Bool) (x : A) → Reached first old walk w →
    Names {A = A} (named o.expr (terms_of old.terms walk.slots)) old mid (Ok x) → Names {A = B} (with_own o safe w).named first mid (Err Memory)
named-on {B = B} first old mid walk w o safe x r names =
    out-of-memory (w.named ++ named o.expr w.env) (names-then w.named (named o.expr w.env) first old mid (tt {0}) (Ok x) (reached-names first old walk w (tt {0}) r)
    (names-as (named o.expr (terms_of old.terms walk.slots)) (named o.expr w.env) old mid (Ok x) (ap (λ (ts : List Term). named o.expr ts) r.env) names))
  where
    out-of-memory : {A : Type 0} (more : List Term) {x : A} → Names {A = A} more first mid (Ok x) → Names {A = B} more first mid (Err Memory)
    out-of-memory more n = record { grows = tt; kept = n.kept; only = n.only; limit = n.limit; wide = λ e. absurd (cc) }
