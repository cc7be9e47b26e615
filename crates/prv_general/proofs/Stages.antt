-- The nodes of a slice, made in three steps: those of the run, of what it puts out, and of its conditions.
use Rattle.std.proofs.Common.{◌≡◌, ℕ, ◌<◌, Bool, List, ◌++◌, length, map, ℤ, Result, All, sym, ap, ◌∙◌, subst}
use Rattle.std.specs.Prelude.{filter}
use Rattle.prv_model.specs.Boards.{IsInput}
use Rattle.prv_model.specs.Statements.{exec_all}
use Rattle.prv_model.specs.Outcomes.{start, outcome}
use Rattle.prv_model.specs.declared.program.Program.{Program}
use Rattle.prv_model.specs.declared.term.Term.{Term}
use Rattle.prv_pool.specs.Tables.{Table}
use Rattle.prv_pool.specs.declared.error.PoolError.{PoolError}
use Rattle.prv_run.specs.Runs.{run_of, events}
use Rattle.prv_run.specs.declared.event.Event.{Event}
use Rattle.prv_run.specs.declared.event.Traced.{Traced}
use Rattle.prv_select.specs.Choices.{choose, nothing}
use Rattle.prv_select.proofs.Flags.{one-flag-each}
use Rattle.prv_sym.specs.Calls.{Names, AllStand}
use Rattle.prv_sym.specs.Named.{run_symbols}
use Rattle.prv_sym.specs.Symbols.{start_terms}
use Rattle.prv_sym.proofs.Naming.{Grows, names-as}
use Rattle.prv_general.specs.Answers.{IsTraced}
use Rattle.prv_general.specs.Slices.{literals, literals_named, out_terms, end_terms, says_something}
use Rattle.prv_general.specs.Conditions.{conditions, condition_names, event_outs, flagged, if_kept, along, symbols_at, end_by}
use Rattle.prv_general.proofs.Standing.{all-on, all-in, all-long, symbols-are}
use Rattle.prv_general.proofs.Whole.{nodes-long, end-is, literals-are, names-are, outs-are}

-- the evaluations of a program's run at an input, with the choice in it and with the nodes of its symbols
pub record Told (p : Program) (turns : ℕ) (x : List ℤ) (terms : List Term) (told : List Event) (kept : List Bool) (vs ss : List ℕ) : Type 0 where
  pub input : IsInput p.params x
  pub events : told ≡ events (run_of p turns x)
  pub flags : kept ≡ (choose (run_of p turns x) nothing).kept
  pub values : AllStand terms vs (map (λ s. s.term) (run_symbols (run_of p turns x) (start_terms p)))
  pub safes : AllStand terms ss (map (λ s. s.safe) (run_symbols (run_of p turns x) (start_terms p)))

-- the same, by what the calls say of the lists that they answer
pub told-of : (p : Program) (turns : ℕ) (x : List ℤ) (terms : List Term) (traced : Traced) (told : List Event) (kept : List Bool) (vs ss values safes : List ℕ) → IsTraced p turns x traced →
    kept ≡ (choose (run_of p turns x) nothing).kept → told ≡ traced.events → vs ≡ values → ss ≡ safes →
    AllStand terms values (map (λ s. s.term) (run_symbols (run_of p turns x) (start_terms p))) → AllStand terms safes (map (λ s. s.safe) (run_symbols (run_of p turns x) (start_terms p))) →
    Told p turns x terms told kept vs ss
told-of p turns x terms traced told kept vs ss values safes here flags same v s stand safe = record {
  input = here.input;
  events = same ∙ here.events;
  flags = flags;
  values = subst (λ (ns : List ℕ). AllStand terms ns (map (λ s. s.term) (run_symbols (run_of p turns x) (start_terms p)))) (sym v) stand;
  safes = subst (λ (ns : List ℕ). AllStand terms ns (map (λ s. s.safe) (run_symbols (run_of p turns x) (start_terms p)))) (sym s) safe;
}

module _ (p : Program) (turns : ℕ) (x : List ℤ) (terms : List Term) (told : List Event) (kept : List Bool) (values safes : List ℕ) (t : Told p turns x terms told kept values safes) where
  pub values-fit : length values ≡ length told
  values-fit = nodes-long (run_of p turns x) (start_terms p) terms (λ s. s.term) values told t.events t.values

  pub safes-fit : length safes ≡ length told
  safes-fit = nodes-long (run_of p turns x) (start_terms p) terms (λ s. s.safe) safes told t.events t.safes

  pub flags-fit : length kept ≡ length told
  flags-fit = ap (λ (bs : List Bool). length bs) t.flags ∙ one-flag-each (run_of p turns x) nothing ∙ sym (ap (λ (es : List Event). length es) t.events)

  -- in a table that has grown
  module _ (far : List Term) (grows : Grows terms far) where
    pub values-in : All (λ n. n < length far) values
    values-in = all-in far values _ (all-on terms far grows values _ t.values)

    pub safes-in : All (λ n. n < length far) safes
    safes-in = all-in far safes _ (all-on terms far grows safes _ t.safes)

    symbols-far : symbols_at far values safes ≡ run_symbols (run_of p turns x) (start_terms p)
    symbols-far = symbols-are far values safes _ (all-on terms far grows values _ t.values) (all-on terms far grows safes _ t.safes)

    pub literals-stand : (new : List Term) (nodes : List ℕ) → AllStand new nodes (filter says_something (along (if_kept conditions) told (flagged kept (symbols_at far values safes)))) →
        AllStand new nodes (filter says_something (literals (run_of p turns x) (start_terms p) nothing))
    literals-stand new nodes s = subst (λ (ts : List Term). AllStand new nodes (filter says_something ts)) (literals-are p turns x told kept (symbols_at far values safes) t.events t.flags symbols-far) s

    pub literals-names : {A : Type 0} (old new : Table) (r : Result A PoolError) → Names (along (if_kept condition_names) told (flagged kept (symbols_at far values safes))) old new r →
        Names (literals_named (run_of p turns x) (start_terms p) nothing) old new r
    literals-names old new r n = names-as _ _ old new r (names-are p turns x told kept (symbols_at far values safes) t.events t.flags symbols-far) n

  -- what the evaluations put out, and the 0 at the end of `main`
  module _ (outs : List ℕ) (stand : AllStand terms outs (along event_outs told (map (λ s. s.term) (run_symbols (run_of p turns x) (start_terms p))))) (words : ℕ) (count : words ≡ length (outcome p turns x).outs) where
    had : AllStand terms outs (out_terms (run_of p turns x) (start_terms p))
    had = subst (λ (ts : List Term). AllStand terms outs ts) (outs-are p turns x told t.events) stand

    ends : end_by (length outs) words ≡ end_terms (exec_all p.body (start p turns x)).ending
    ends = end-is p turns x (length outs) words t.input (all-long terms outs _ had) count

    pub end-names : {A : Type 0} (old new : Table) (r : Result A PoolError) → Names (end_by (length outs) words) old new r → Names (end_terms (exec_all p.body (start p turns x)).ending) old new r
    end-names old new r n = names-as _ _ old new r ends n

    pub outs-stand : (far new : List Term) (nodes : List ℕ) → ((ts : List Term) → AllStand terms outs ts → AllStand far nodes (ts ++ end_by (length outs) words)) → Grows far new →
        AllStand new nodes (out_terms (run_of p turns x) (start_terms p) ++ end_terms (exec_all p.body (start p turns x)).ending)
    outs-stand far new nodes next grows =
        all-on far new grows nodes _ (subst (λ (es : List Term). AllStand far nodes (out_terms (run_of p turns x) (start_terms p) ++ es)) ends (next _ had))
