-- A walk along a list of evaluations: where it begins, one evaluation more, and where it ends.
use Rattle.std.proofs.Common.{◌≡◌, ℕ, zero, suc, ◌+◌, ◌<◌, List, [], ◌∷◌, ◌++◌, length, map, ℤ, Option, Err, refl, sym, ap, ◌∙◌, subst, take, drop, get_or, arith}
use Rattle.std.proofs.lemmas.List.{take_more, take-append-drop, map-append}
use Rattle.prv_model.specs.Numbers.{statements_all}
use Rattle.prv_model.specs.declared.program.Program.{Program}
use Rattle.prv_model.specs.declared.term.Term.{Term}
use Rattle.prv_model.specs.declared.term.Term.TheVariants.{Param}
use Rattle.prv_run.specs.Runs.{events, run_of}
use Rattle.prv_run.specs.declared.event.Event.{Event}
use Rattle.prv_run.proofs.Fitting as fit
use Rattle.prv_pool.specs.Tables.{Table}
use Rattle.prv_pool.specs.declared.error.PoolError.{PoolError}
use Rattle.prv_pool.specs.declared.error.PoolError.TheVariants.{Memory}
use Rattle.prv_sym.specs.declared.evaluations.Walk.{Walk}
use Rattle.prv_sym.specs.declared.symbol_nodes.Slot.{Slot}
use Rattle.prv_sym.specs.Calls.{Names, IsSlot, AreSlots, AllStand, slot_term, terms_of}
use Rattle.prv_sym.specs.Named.{run_named}
use Rattle.prv_sym.specs.Symbols.{params_from, start_terms}
use Rattle.prv_sym.specs.Walks.{Own, own, row_at, Walked, with_row, walked, Reached}
use Rattle.prv_sym.proofs.Naming.{grows-none, add_terms-grows, refused}
use Rattle.prv_sym.proofs.Walking.{along, walk-run, walked-append, refused-among}

-- one evaluation more
pub walked-next : (rows : List (Option Own)) (events : List Event) (i : ℕ) (d : Event) (o : Option Own) (w : Walked) → i < length events → o ≡ row_at rows (get_or events i d).stmt →
    with_row o (get_or events i d).safe (walked rows (take i events) w) ≡ walked rows (take (i + 1) events) w
walked-next rows events i d o w below is =
    ap (λ (p : Option Own). with_row p (get_or events i d).safe (walked rows (take i events) w)) is
    ∙ sym (ap (λ (es : List Event). walked rows es w) (take_more events i d below) ∙ walked-append rows (take i events) (get_or events i d ∷ []) w)

-- one evaluation is refused, and those behind it are not reached
pub stopped-at : {A B : Type 0} (rows : List (Option Own)) (events : List Event) (i : ℕ) (d : Event) (o : Option Own) (w : Walked) (first new : Table) (e : PoolError) → i < length events → o ≡ row_at rows (get_or events i d).stmt →
    Names {A = A} (with_row o (get_or events i d).safe (walked rows (take i events) w)).named first new (Err e) → Names {A = B} (walked rows events w).named first new (Err e)
stopped-at {A = A} {B = B} rows events i d o w first new e below is names =
    subst (λ (es : List Event). Names {A = B} (walked rows es w).named first new (Err e)) (take-append-drop (i + 1) events)
    (refused-among rows (take (i + 1) events) (drop (i + 1) events) first new w e
    (subst (λ (v : Walked). Names {A = A} v.named first new (Err e)) (walked-next rows events i d o w below is) names))

-- before a run
abbrev pub at_start : Program → Walked
at_start p = record { env = start_terms p; symbols = []; named = [] }

pub reached-start : (table : Table) (walk : Walk) (p : Program) → AreSlots table.terms walk.slots → terms_of table.terms walk.slots ≡ start_terms p → walk.values ≡ [] → walk.safes ≡ [] → Reached table table walk (at_start p)
reached-start table walk p slots env values safes = record {
  slots = slots;
  env = env;
  values = subst (λ (ns : List ℕ). AllStand table.terms ns []) (sym values) tt;
  safes = subst (λ (ns : List ℕ). AllStand table.terms ns []) (sym safes) tt;
  grows = refl;
  limit = refl;
}

-- nothing was named yet, and there was no memory
pub unnamed : {A : Type 0} (more : List Term) (table : Table) → Names {A = A} more table table (Err Memory)
unnamed more table = record { grows = tt; kept = grows-none table.terms; only = add_terms-grows more table.terms; limit = refl; wide = λ e. absurd (cc) }

-- behind a run
pub walked-run : (p : Program) (turns : ℕ) (x : List ℤ) (told : List Event) (rows : List (Option Own)) (w : Walked) → told ≡ events (run_of p turns x) → rows ≡ map (λ s. own s) (statements_all p.body) →
    walked rows told w ≡ along (run_of p turns x) w
walked-run p turns x told rows w is same =
    ap (λ (es : List Event). walked rows es w) is ∙ ap (λ (os : List (Option Own)). walked os (events (run_of p turns x)) w) same
    ∙ walk-run (statements_all p.body) (run_of p turns x) (fit.fits-program p turns x) w

pub reached-run : (p : Program) (turns : ℕ) (x : List ℤ) (told : List Event) (rows : List (Option Own)) (first now : Table) (walk : Walk) → told ≡ events (run_of p turns x) → rows ≡ map (λ s. own s) (statements_all p.body) →
    Reached first now walk (walked rows told (at_start p)) → Reached first now walk (along (run_of p turns x) (at_start p))
reached-run p turns x told rows first now walk is same r = subst (λ (w : Walked). Reached first now walk w) (walked-run p turns x told rows (at_start p) is same) r

pub names-run : {A B : Type 0} (p : Program) (turns : ℕ) (x : List ℤ) (told : List Event) (rows : List (Option Own)) (first now : Table) (e : PoolError) → told ≡ events (run_of p turns x) → rows ≡ map (λ s. own s) (statements_all p.body) →
    Names {A = A} (walked rows told (at_start p)).named first now (Err e) → Names {A = B} (run_named (run_of p turns x) (start_terms p)) first now (Err e)
names-run {A = A} p turns x told rows first now e is same names =
    refused _ first now e (subst (λ (w : Walked). Names {A = A} w.named first now (Err e)) (walked-run p turns x told rows (at_start p) is same) names)

-- one slot more
pub slots-more : (terms : List Term) (slots : List Slot) (slot : Slot) → AreSlots terms slots → IsSlot terms slot → AreSlots terms (slots ++ slot ∷ [])
slots-more terms [] slot s h = (h, tt)
slots-more terms (x ∷ slots) slot s h = (s.0, slots-more terms slots slot s.1 h)

pub terms-more : (terms : List Term) (slots : List Slot) (slot : Slot) → terms_of terms (slots ++ slot ∷ []) ≡ terms_of terms slots ++ slot_term terms slot ∷ []
terms-more terms slots slot = map-append (λ s. slot_term terms s) slots (slot ∷ [])

params-more : (j k n : ℕ) → n ≡ j + k → params_from j (suc k) ≡ params_from j k ++ Param n ∷ []
params-more j zero n is = let e : j ≡ n = omega (arith, is) in ap (λ (m : ℕ). Param m ∷ []) e
params-more j (suc k) n is = ap (λ (ts : List Term). Param j ∷ ts) (params-more (suc j) k n (omega (arith, is)))

pub params-next : (k : ℕ) → params_from 0 (k + 1) ≡ params_from 0 k ++ Param k ∷ []
params-next k = let e : k + 1 ≡ suc k = omega arith in ap (λ (n : ℕ). params_from 0 n) e ∙ params-more 0 k k (omega arith)
