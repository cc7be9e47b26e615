-- What is made for a whole run is its slice.
use Rattle.std.proofs.Common.{◌≡◌, ℕ, ◌+◌, nat_lt, Bool, true, false, List, [], ◌∷◌, ◌++◌, length, map, Option, Some, None, ℤ, pos, Result, Ok, Err, refl, sym, ap, ◌∙◌, arith, length-append, if◌then◌else◌}
use Rattle.std.proofs.lemmas.List.{length-map}
use Rattle.prv_model.specs.Boards.{IsInput}
use Rattle.prv_model.specs.Statements.{exec_all}
use Rattle.prv_model.specs.Outcomes.{start, outcome}
use Rattle.prv_model.specs.Terms.{term_value}
use Rattle.prv_model.specs.declared.outcome.Ending.{Ending}
use Rattle.prv_model.specs.declared.outcome.Outcome.{Outcome}
use Rattle.prv_model.specs.declared.program.Program.{Program}
use Rattle.prv_model.specs.declared.term.Term.{Term}
use Rattle.prv_model.specs.declared.term.Term.TheVariants.{Num}
use Rattle.prv_pool.specs.Tables.{Table}
use Rattle.prv_run.specs.Runs.{Run, run_of, events}
use Rattle.prv_run.specs.declared.event.Event.{Event}
use Rattle.prv_select.specs.Choices.{choose, nothing}
use Rattle.prv_sym.specs.Calls.{Names, AllStand}
use Rattle.prv_sym.specs.Named.{run_symbols}
use Rattle.prv_sym.proofs.Naming.{names-then, names-stop}
use Rattle.prv_sym.specs.Symbols.{Symbol, start_terms}
use Rattle.prv_pool.specs.declared.error.PoolError.{PoolError}
use Rattle.prv_pool.specs.declared.error.PoolError.TheVariants as pool
use Rattle.prv_general.specs.declared.error.GeneralError.{GeneralError}
use Rattle.prv_general.specs.declared.error.GeneralError.TheVariants as general
use Rattle.prv_general.specs.Answers.{passed_on}
use Rattle.prv_general.specs.Slices.{literals, literals_named, out_terms, end_terms}
use Rattle.prv_general.specs.Conditions.{conditions, condition_names, event_outs, flagged, if_kept, along, end_by}
use Rattle.prv_general.proofs.SliceLaws.{fixes-outcome, holds-member}
use Rattle.prv_general.proofs.Alongs.{literals-run, named-run, outs-run, symbols-length}
use Rattle.prv_general.proofs.Standing.{all-long}

by-end : (n : ℕ) (e : Option Ending) → end_by n (n + length (end_terms e)) ≡ end_terms e
by-end n None = let more : nat_lt n (n + 1) ≡ true = grind arith in ap (λ (b : Bool). if b then Num (pos 0) ∷ [] else []) more
by-end n (Some how) = let none : nat_lt n (n + 0) ≡ false = grind arith in ap (λ (b : Bool). if b then Num (pos 0) ∷ [] else []) none

-- the words of an outcome are those of the evaluations, and the 0 at the end of `main`
words-are : (p : Program) (turns : ℕ) (x : List ℤ) → IsInput p.params x →
    length (outcome p turns x).outs ≡ length (out_terms (run_of p turns x) (start_terms p)) + length (end_terms (exec_all p.body (start p turns x)).ending)
words-are p turns x h =
    let terms = out_terms (run_of p turns x) (start_terms p) in
    let end = end_terms (exec_all p.body (start p turns x)).ending in
    ap (λ (o : Outcome). length o.outs) (fixes-outcome p turns x x h h (holds-member p turns x h))
    ∙ length-map (terms ++ end) (λ t. term_value t x) ∙ length-append terms end

pub end-is : (p : Program) (turns : ℕ) (x : List ℤ) (n m : ℕ) → IsInput p.params x → n ≡ length (out_terms (run_of p turns x) (start_terms p)) → m ≡ length (outcome p turns x).outs →
    end_by n m ≡ end_terms (exec_all p.body (start p turns x)).ending
end-is p turns x n m h had all =
    (λ i. end_by (had i) ((all ∙ words-are p turns x h) i)) ∙ by-end (length (out_terms (run_of p turns x) (start_terms p))) (exec_all p.body (start p turns x)).ending

-- along the evaluations of a run as it was told
module _ (p : Program) (turns : ℕ) (x : List ℤ) (told : List Event) (kept : List Bool) (symbols : List Symbol) (is : told ≡ events (run_of p turns x)) (flags : kept ≡ (choose (run_of p turns x) nothing).kept)
    (are : symbols ≡ run_symbols (run_of p turns x) (start_terms p)) where
  pub literals-are : along (if_kept conditions) told (flagged kept symbols) ≡ literals (run_of p turns x) (start_terms p) nothing
  literals-are = (λ i. along (if_kept conditions) (is i) (flagged (flags i) (are i))) ∙ literals-run (run_of p turns x) (start_terms p) nothing

  pub names-are : along (if_kept condition_names) told (flagged kept symbols) ≡ literals_named (run_of p turns x) (start_terms p) nothing
  names-are = (λ i. along (if_kept condition_names) (is i) (flagged (flags i) (are i))) ∙ named-run (run_of p turns x) (start_terms p) nothing

pub outs-are : (p : Program) (turns : ℕ) (x : List ℤ) (told : List Event) → told ≡ events (run_of p turns x) →
    along event_outs told (map (λ s. s.term) (run_symbols (run_of p turns x) (start_terms p))) ≡ out_terms (run_of p turns x) (start_terms p)
outs-are p turns x told is = ap (λ (es : List Event). along event_outs es (map (λ s. s.term) (run_symbols (run_of p turns x) (start_terms p)))) is ∙ outs-run (run_of p turns x) (start_terms p)

-- a refusal that was passed on
pub passed-wide : {A : Type 0} (e : PoolError) (g : GeneralError) (r : Result A GeneralError) → r ≡ Err g → g ≡ passed_on e → r ≡ Err general.Wide → e ≡ pool.Wide
passed-wide pool.Wide g r a b h = refl
passed-wide pool.Memory g r a b h = cc (a, b, h)

-- each evaluation that was told has its nodes
pub nodes-long : (run : Run) (env : List Term) (terms : List Term) (part : Symbol → Term) (ns : List ℕ) (told : List Event) → told ≡ events run → AllStand terms ns (map part (run_symbols run env)) → length ns ≡ length told
nodes-long run env terms part ns told is stand =
    all-long terms ns (map part (run_symbols run env)) stand ∙ length-map (run_symbols run env) part ∙ symbols-length run env ∙ sym (ap (λ (es : List Event). length es) is)

-- three calls, of which the first two were answered, and the second of three, where it was refused
pub three-calls : {A B C : Type 0} (a b d : List Term) (old mid far new : Table) (x : A) (y : B) (r : Result C PoolError) → Names a old mid (Ok x) → Names b mid far (Ok y) → Names d far new r → Names (a ++ (b ++ d)) old new r
three-calls a b d old mid far new x y r one two three = names-then a (b ++ d) old mid new x r one (names-then b d mid far new y r two three)

pub two-calls : {A B C : Type 0} (a b d : List Term) (old mid new : Table) (x : A) (e : PoolError) → Names a old mid (Ok x) → Names {A = B} b mid new (Err e) → Names {A = C} (a ++ (b ++ d)) old new (Err e)
two-calls {C = C} a b d old mid new x e one two = names-then a (b ++ d) old mid new x (Err e) one (names-stop b d mid new e two)
