use Rattle.std.proofs.Common.{◌≡◌, ℕ, ◌<◌, [], true, false, length, List, pos, sym, subst, ◌∙◌, get_or, inl, inr, arith}
use Rattle.std.specs.Prelude.{slice_index_or}
use Rattle.std.specs.List.{list_any, list_all}
use Rattle.std.proofs.lemmas.Bool.{cases_lt}
use Rattle.std.proofs.lemmas.List.{get_or_default}
use Rattle.prv_cnf.specs.declared.literal.Lit.{Lit}
use Rattle.prv_check.specs.declared.index.Entry.{Entry}
use Rattle.prv_check.specs.Lines.{known}
use Rattle.prv_cnf.specs.Places.{place_of}
use Rattle.prv_check.specs.Inner.Indexing.{is_entry}
use Rattle.prv_check.specs.Freshness.{contains_clause}
use Rattle.prv_check.proofs.Signing.{contained_signature}
use Rattle.prv_check.proofs.Subsuming.{empty_contained, entry_contained, nothing_contained, flagged_contained, flagged_entries}
use Rattle.prv_check.proofs.containment.contains_indexed.Goals as goal

pub returns-then-has_empty : goal.returns-then-has_empty
returns-then-has_empty c =
    sym
    (empty_contained c.args.lits.now (known c.args.cnf.now c.args.earlier.now) c.args.index.now c.requires.index
    (sym c.has_empty.ensures ∙ c.if-has_empty.true))

pub some_covered-requires-clause-bits : goal.some_covered-requires-clause-bits
some_covered-requires-clause-bits c d flagged =
    let contained : contains_clause c.args.lits.now d ≡ true = sym (flagged_contained c.args.lits.now c.args.seen.now c.requires.seen d) ∙ flagged in
    rw c.signature-bits.ensures (contained_signature c.args.lits.now d contained)

pub returns-then-some_covered : goal.returns-then-some_covered
returns-then-some_covered c =
    let cs : List (List Lit) = known c.args.cnf.now c.args.earlier.now in
    let lits : List Lit = c.args.lits.now in
    let lit : Lit = get_or lits c.loop-lit.lit-index (record { 0 = pos 0 }) in
    let found : list_any (λ e. contains_clause lits (slice_index_or cs e.number [])) c.listed.result.now ≡ true =
    sym (flagged_entries lits c.args.seen.now c.requires.seen cs c.listed.result.now) ∙ sym c.some_covered.ensures ∙ c.if-some_covered.true in
    let P : List Entry → Type 0 = λ es. list_all (is_entry cs) es ≡ true in
    let entries : P c.listed.result.now = subst P (sym c.listed.ensures) (c.requires.index.entries (place_of lit)) in
    sym (entry_contained (contains_clause lits) cs c.listed.result.now entries found)

pub loop-lit-preserved : goal.loop-lit-preserved
loop-lit-preserved c j d below =
    let cs : List (List Lit) = known c.args.cnf.now c.args.earlier.now in
    let lits : List Lit = c.args.lits.now in
    let i : ℕ = c.loop-lit.lit-index in
    elim (cases_lt j i) [
      | inl before ↦ c.loop-lit.invariant j d before
      | inr after ↦
          let here : j ≡ i = omega arith in
          let inside : i < length lits = c.loop-lit-test.true in
          let P : List Entry → Type 0 = λ es. list_any (λ e. contains_clause lits (slice_index_or cs e.number [])) es ≡ false in
          let none : P c.listed.result.now =
          sym (flagged_entries lits c.args.seen.now c.requires.seen cs c.listed.result.now) ∙ sym c.some_covered.ensures ∙ c.if-some_covered.false in
          let Q : Lit → Type 0 = λ l. P (slice_index_or c.args.index.now.lists (place_of l) []) in
          let same : get_or lits i (record { 0 = pos 0 }) ≡ get_or lits i d = get_or_default lits i (record { 0 = pos 0 }) d inside in
          let R : ℕ → Type 0 = λ n. Q (get_or lits n d) in
          subst R (sym here) (subst Q same (subst P c.listed.ensures none))
    ]

pub returns : goal.returns
returns c =
    sym
    (nothing_contained c.args.lits.now (known c.args.cnf.now c.args.earlier.now) c.args.index.now c.requires.index
    c.requires.occur (sym c.has_empty.ensures ∙ c.if-has_empty.false)
    (λ j d inside. c.loop-lit.invariant j d (omega arith)))
