use Rattle.std.proofs.Common.{◌≡◌, ◌+◌, ◌≤◌, length, ℕ, drop}
use Rattle.prv_model.specs.Numbers.{statements, statements_all}
use Rattle.prv_model.specs.Statements.{exec, exec_all, loop}
use Rattle.prv_run.specs.Frames.{frame_of}
use Rattle.prv_run.specs.Runs.{runs, runs_all, loop_run, events}
use Rattle.prv_run.specs.Telling.{tell, Knows, Agrees}
use Rattle.prv_run.proofs.execute.+execute.Given as goal

-- what is left does, from here, what all of it does from the start, and is told behind what was told
abbrev pub invariant-execute_all-loop-stmt : goal.invariant-execute_all-loop-stmt
invariant-execute_all-loop-stmt l = record {
  same : exec_all (drop l.stmt-index l.all) (frame_of l.frame) ≡ exec_all l.all (frame_of l.initial.frame);
  told : tell l.recorder (events (runs_all (drop l.stmt-index l.all) l.next (frame_of l.frame))) ≡ tell l.initial.recorder (events (runs_all l.all l.number (frame_of l.initial.frame)));
  known : Knows l.recorder l.next (statements_all (drop l.stmt-index l.all));
  spent : l.frame.turns ≤ l.initial.frame.turns;
  variables : length l.frame.state ≡ length l.initial.frame.state;
}

-- the loop with the turns that are left, or more, does from here what it does from the start, and is told behind what was told
abbrev pub invariant-repeat-loop-found : goal.invariant-repeat-loop-found
invariant-repeat-loop-found l = record {
  same : (more : ℕ) × (l.frame.turns ≤ more)
      × (loop l.test (λ f. exec l.body f) more (frame_of l.frame) ≡ loop l.test (λ f. exec l.body f) l.initial.frame.turns (frame_of l.initial.frame))
      × (tell l.recorder (events (loop_run l.number l.test (λ f. exec l.body f) (runs l.body (l.number + 1)) more (frame_of l.frame)))
      ≡ tell l.initial.recorder (events (loop_run l.number l.test (λ f. exec l.body f) (runs l.body (l.number + 1)) l.initial.frame.turns (frame_of l.initial.frame))));
  known : Knows l.recorder l.first (statements l.body);
  agrees : Agrees l.recorder l.first (l.number + 1);
  spent : l.frame.turns ≤ l.initial.frame.turns;
  variables : length l.frame.state ≡ length l.initial.frame.state;
}

abbrev pub decreases-repeat-loop-found : goal.decreases-repeat-loop-found
decreases-repeat-loop-found l = l.frame.turns
