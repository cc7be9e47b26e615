use Rattle.std.proofs.Common.{◌≡◌, List, map, sym, ap, ◌∙◌}
use Rattle.std.proofs.lemmas.Result.{err_from_is_err_and}
use Rattle.prv_model.specs.Terms.{term_value, holds}
use Rattle.prv_model.specs.declared.outcome.Outcome.{Outcome}
use Rattle.prv_model.specs.declared.term.Term.{Term}
use Rattle.prv_run.specs.Runs.{run_of}
use Rattle.prv_select.specs.Choices.{choose, nothing}
use Rattle.prv_sym.proofs.Naming.{answered, refused}
use Rattle.prv_general.specs.Answers.{IsTraced}
use Rattle.prv_general.proofs.SliceLaws.{fixes-outcome, holds-member}
use Rattle.prv_sym.proofs.Along.{unnamed}
use Rattle.prv_general.proofs.Standing.{all-terms}
use Rattle.prv_general.proofs.slice.slice_at.Goals as goal

pub make_nodes-requires : goal.make_nodes-requires
make_nodes-requires c =
    let p = c.args.program.now in
    let x = c.args.input.now in
    let told = c.in_ok-traced.ensures.events in
    let here : IsTraced p c.args.turns x c.in_ok-traced.traced = record { input = record { long = c.requires; words = c.as_slice.ensures.words }; events = told; outcome = c.in_ok-traced.ensures.outcome } in
    let flags : c.as_slice-2.result.now ≡ (choose (run_of p c.args.turns x) nothing).kept = c.as_slice-2.ensures ∙ c.in_ok-chosen.ensures.events x c.args.turns told c.in_ok-deps.ensures in
    (x, c.args.turns, here, flags)

pub returns-in_err-deps-clause-names : goal.returns-in_err-deps-clause-names
returns-in_err-deps-clause-names c =
    let passed = err_from_is_err_and c.from_residual.result c.from_residual.ensures.1 in
    rw (passed.1, passed.2) (unnamed _ _)

pub returns-in_err-traced-clause-names : goal.returns-in_err-traced-clause-names
returns-in_err-traced-clause-names c =
    let passed = err_from_is_err_and c.from_residual-in_err-traced.result c.from_residual-in_err-traced.ensures.1 in
    rw (passed.1, passed.2) (unnamed _ _)

pub returns-in_err-chosen-clause-names : goal.returns-in_err-chosen-clause-names
returns-in_err-chosen-clause-names c =
    let passed = err_from_is_err_and c.from_residual-in_err-chosen.result c.from_residual-in_err-chosen.ensures.1 in
    rw (passed.1, passed.2) (unnamed _ _)

pub returns-in_err-nodes-clause-names : goal.returns-in_err-nodes-clause-names
returns-in_err-nodes-clause-names c =
    let p = c.args.program.now in
    let x = c.args.input.now in
    let told = c.in_ok-traced.ensures.events in
    let here : IsTraced p c.args.turns x c.in_ok-traced.traced = record { input = record { long = c.requires; words = c.as_slice.ensures.words }; events = told; outcome = c.in_ok-traced.ensures.outcome } in
    let flags : c.as_slice-2.result.now ≡ (choose (run_of p c.args.turns x) nothing).kept = c.as_slice-2.ensures ∙ c.in_ok-chosen.ensures.events x c.args.turns told c.in_ok-deps.ensures in
    let passed = err_from_is_err_and c.from_residual-in_err-nodes.result c.from_residual-in_err-nodes.ensures.1 in
    rw (passed.1, passed.2) (refused _ _ _ _ (c.in_err-nodes.ensures.names x c.args.turns here flags))

pub returns : goal.returns
returns c =
    let p = c.args.program.now in
    let x = c.args.input.now in
    let told = c.in_ok-traced.ensures.events in
    let here : IsTraced p c.args.turns x c.in_ok-traced.traced = record { input = record { long = c.requires; words = c.as_slice.ensures.words }; events = told; outcome = c.in_ok-traced.ensures.outcome } in
    let flags : c.as_slice-2.result.now ≡ (choose (run_of p c.args.turns x) nothing).kept = c.as_slice-2.ensures ∙ c.in_ok-chosen.ensures.events x c.args.turns told c.in_ok-deps.ensures in
    let how = ap (λ (o : Outcome). o.how) c.in_ok-traced.ensures.outcome in
    let stand = c.in_ok-nodes.ensures.literals x c.args.turns here flags in
    let out = c.in_ok-nodes.ensures.outs x c.args.turns here flags in
    let literals = all-terms _ _ _ stand in
    let outs = all-terms _ _ _ out in
    record {
      slice = record { literals = stand; outs = out; how = how; marks = c.in_ok-chosen.ensures.marks x c.args.turns told c.in_ok-deps.ensures };
      fixes = λ y is h.
          fixes-outcome p c.args.turns x y here.input is (ap (λ (ts : List Term). holds ts y) (sym literals) ∙ h)
          ∙ (λ i. record { outs = map (λ t. term_value t y) (sym outs i); how = sym how i });
      outcome = c.in_ok-traced.ensures.outcome;
      member = ap (λ (ts : List Term). holds ts x) literals ∙ holds-member p c.args.turns x here.input;
      names = answered _ _ _ _ _ (c.in_ok-nodes.ensures.names x c.args.turns here flags);
    }
