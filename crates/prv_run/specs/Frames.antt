-- How the frame of the code stands for a frame.
use Rattle.std.specs.Prelude.{Option}
use Rattle.prv_model.specs.Statements as model
use Rattle.prv_model.specs.declared.outcome.Ending.{Ending}
use Rattle.prv_run.specs.declared.execute.Frame.{Frame}

abbrev pub frame_of : Frame → model.Frame
frame_of f = record { state = f.state; outs = f.outs; turns = f.turns }

abbrev pub step_of : Frame → Option Ending → model.Step
step_of f ending = record { frame = frame_of f; ending = ending }
