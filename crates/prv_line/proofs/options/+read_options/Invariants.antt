use Rattle.std.proofs.Common.{length}
use Rattle.prv_line.proofs.options.+read_options.Given as goal

-- proposed from what the function passes where it calls itself
abbrev pub decreases-read_options : goal.decreases-read_options
decreases-read_options l = length l.words.now
