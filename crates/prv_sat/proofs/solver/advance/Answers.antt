use Rattle.std.proofs.Common.{◌≡◌, ◌≤◌, ◌<◌, length, ◌∙◌, arith}
use Rattle.prv_check.specs.Lines.{known}
use Rattle.prv_check.specs.Spending.{log_numbers}
use Rattle.prv_propagate.specs.Soundness.{IsConflict}
use Rattle.prv_sat.specs.States.{IsState}
use Rattle.prv_sat.proofs.Searching.{open_from}
use Rattle.prv_sat.proofs.solver.advance.Goals as goal

pub learn-requires-clause-justified : goal.learn-requires-clause-justified
learn-requires-clause-justified c =
    let f = c.args.cnf.now in
    let old = c.args.solver.now.state.lines.items in
    let new = c.search.new.state in
    let s : IsState f old new.trail new.watches × IsConflict (known f old) new.trail.steps c.in-Conflict.conflict = rw c.in-Conflict.is at c.in_ok-values.ensures.searched in
    let lines : c.as_slice.result.now ≡ old = c.as_slice.ensures.value ∙ c.in_ok-values.ensures.lines in
    rw lines s.0.sound.justified

pub learn-requires-clause-decisions : goal.learn-requires-clause-decisions
learn-requires-clause-decisions c =
    let f = c.args.cnf.now in
    let old = c.args.solver.now.state.lines.items in
    let new = c.search.new.state in
    let s : IsState f old new.trail new.watches × IsConflict (known f old) new.trail.steps c.in-Conflict.conflict = rw c.in-Conflict.is at c.in_ok-values.ensures.searched in
    let lines : c.as_slice.result.now ≡ old = c.as_slice.ensures.value ∙ c.in_ok-values.ensures.lines in
    rw lines (open_from (known f old) new.trail new.watches s.0.sound)

pub returns-in_ok-found-in-Refuted : goal.returns-in_ok-found-in-Refuted
returns-in_ok-found-in-Refuted c =
    let old = c.args.solver.now.state.lines.items in
    let lines : c.search.new.state.lines.items ≡ old = c.in_ok-values.ensures.lines in
    record {
      working = λ budget less.
          let fewer : length c.search.new.state.lines.items < budget = rw lines less in
          let within : log_numbers c.search.new.state.lines.items ≤ c.args.numbers = rw lines (omega (arith, c.requires.working.counted, c.requires.working.budget)) in
          c.in_ok-found-in-Refuted.ensures budget c.args.numbers fewer within;
    }
