-- Which commands wait for other threads.
use Rattle.std.specs.Prelude.{◌<◌, ⊤}
use Rattle.prv_line.specs.Commands.{Command, Run, Point, Slice, Explore, Live, Resume, Check, Gen}

-- live does, and explore and resume do where there are workers
abbrev pub Waits : Command → Type 0
Waits (Run file input) = ⊥
Waits (Point before after input) = ⊥
Waits (Slice file input) = ⊥
Waits (Explore before after settings) = 0 < settings.workers
Waits (Live before after settings) = ⊤
Waits (Resume journal lines settlements workers) = 0 < workers
Waits (Check journal) = ⊥
Waits (Gen number size) = ⊥
