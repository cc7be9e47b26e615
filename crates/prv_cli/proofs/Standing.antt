-- Nodes of a table that stand for terms, and the slice that they stand for.
use Rattle.std.proofs.Common.{◌≡◌, ℕ, ◌<◌, ◌≤◌, List, [], ◌∷◌, length, map, All, ℤ, Result, Ok, Err, refl, sym, ap, ◌∙◌, subst, arith}
use Rattle.std.specs.Prelude.{IfOk, IfErr}
use Rattle.std.specs.List.{AllByRecursion}
use Rattle.std.proofs.lemmas.List.Elements.{All-from_recursion}
use Rattle.prv_model.specs.declared.term.Term.{Term}
use Rattle.prv_model.specs.declared.outcome.Ending.{Ending}
use Rattle.prv_model.specs.declared.program.Program.{Program}
use Rattle.prv_line.specs.declared.limits.TheConstants.{TURNS}
use Rattle.prv_pool.specs.Tables.{Table, IsTable, term_at, add_terms}
use Rattle.prv_pool.proofs.NodeLemmas.{get-within, term_at-some}
use Rattle.prv_sym.specs.Calls.{AllStand}
use Rattle.prv_general.specs.Slices.{Slice, slice as slice_of, slice_named}
use Rattle.prv_general.specs.Answers.{IsSlice}
use Rattle.prv_general.specs.declared.slice.Slice as made
use Rattle.prv_cli.specs.Steps.{Told, Shown, nothing}
use Rattle.prv_cli.specs.Slices.{node_count, literal_count, slice_shown, ShowsNone, show_slice}
use Rattle.prv_cli.specs.declared.refusal.Refusal.{Refusal}
use Rattle.prv_cli.specs.declared.refusal.Refusal.TheVariants.{Memory}

within : (terms : List Term) (nodes : List ℕ) (these : List Term) → AllStand terms nodes these → AllByRecursion (λ n. n < length terms) nodes
within terms [] [] h = tt
within terms [] (t ∷ these) h = absurd h
within terms (n ∷ nodes) [] h = absurd h
within terms (n ∷ nodes) (t ∷ these) h = (get-within terms n t h.0, within terms nodes these h.1)

-- they are of the table
pub all-within : (terms : List Term) (nodes : List ℕ) (these : List Term) → AllStand terms nodes these → All (λ n. n < length terms) nodes
all-within terms nodes these h = All-from_recursion (λ n. n < length terms) nodes (within terms nodes these h)

-- the terms at their numbers are these
pub all-stand : (terms : List Term) (nodes : List ℕ) (these : List Term) → AllStand terms nodes these → map (term_at terms) nodes ≡ these
all-stand terms [] [] h = refl
all-stand terms [] (t ∷ these) h = absurd h
all-stand terms (n ∷ nodes) [] h = absurd h
all-stand terms (n ∷ nodes) (t ∷ these) h =
    ap (λ (s : Term). s ∷ map (term_at terms) nodes) (term_at-some terms n t h.0) ∙ ap (λ (ss : List Term). t ∷ ss) (all-stand terms nodes these h.1)

-- the terms at a slice's nodes
abbrev pub terms_of : List Term → made.Slice → Slice
terms_of terms s = record { literals = map (term_at terms) s.literals; outs = map (term_at terms) s.outs; how = s.how; marks = s.marks }

pub slice-stands : (terms : List Term) (s : made.Slice) (t : Slice) → IsSlice terms s t → terms_of terms s ≡ t
slice-stands terms s t is =
    ap (λ (x : List Term). record { literals = x; outs = map (term_at terms) s.outs; how = s.how; marks = s.marks }) (all-stand terms s.literals t.literals is.literals)
    ∙ ap (λ (x : List Term). record { literals = t.literals; outs = x; how = s.how; marks = s.marks }) (all-stand terms s.outs t.outs is.outs)
    ∙ ap (λ (x : Ending). record { literals = t.literals; outs = t.outs; how = x; marks = s.marks }) is.how
    ∙ ap (λ (x : List ℕ). record { literals = t.literals; outs = t.outs; how = t.how; marks = x }) is.marks

-- the table is large enough
pub nodes-within : (program : Program) (input : List ℤ) (before after : Table) → before ≡ record { terms = []; max_nodes = 20000 } →
    after.terms ≡ add_terms before.terms (slice_named program TURNS.default input) → after.max_nodes ≡ before.max_nodes → IsTable after → node_count program input ≤ 20000
nodes-within program input before after empty grows limit table =
    let grown : after.terms ≡ add_terms [] (slice_named program TURNS.default input) = grows ∙ ap (λ (t : Table). add_terms t.terms (slice_named program TURNS.default input)) empty in
    let most : after.max_nodes ≡ 20000 = limit ∙ ap (λ (t : Table). t.max_nodes) empty in
    omega (arith, ap length grown, table.within)

-- what is answered of a slice that is within both bounds
pub shows-within : (told : Told) (program : Program) (input : List ℤ) (s : Slice) (answer : Result Shown Refusal) →
    node_count program input ≤ 20000 → literal_count program input ≤ 1024 → s ≡ slice_of program TURNS.default input →
    IfOk answer (λ shown. shown ≡ slice_shown program s) → IfErr answer (λ why. why ≡ Memory) → show_slice program input told nothing answer
shows-within told program input s (Ok shown) nodes literals is ok err = (refl, record { nodes = nodes; literals = literals; shown_is = ok ∙ ap (slice_shown program) is })
shows-within told program input s (Err why) nodes literals is ok err = (refl, subst (λ (e : Refusal). ShowsNone program input e) (sym err) tt)
