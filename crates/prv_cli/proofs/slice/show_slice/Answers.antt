use Rattle.prv_line.specs.declared.limits.TheConstants.{TURNS}
use Rattle.prv_general.specs.Slices.{slice as slice_of}
use Rattle.prv_cli.proofs.Standing.{all-within, terms_of, slice-stands, nodes-within, shows-within}
use Rattle.prv_cli.proofs.slice.show_slice.Goals as goal

pub show-requires-clause-literals : goal.show-requires-clause-literals
show-requires-clause-literals c = all-within c.generalise-made.new.pool.terms c.in-Ok.slice.literals _ c.in-Ok.ensures.slice.literals

pub show-requires-clause-outs : goal.show-requires-clause-outs
show-requires-clause-outs c = all-within c.generalise-made.new.pool.terms c.in-Ok.slice.outs _ c.in-Ok.ensures.slice.outs

pub returns-in-Ok-clause-shown : goal.returns-in-Ok-clause-shown
returns-in-Ok-clause-shown c = λ told.
    let program = c.args.program.now in
    let input = c.args.input.now in
    let pool = c.generalise-made.new.pool in
    let nodes = nodes-within program input c.new-pool.result pool c.new-pool.ensures c.in-Ok.ensures.grows c.in-Ok.ensures.limit c.len-nodes.ensures.table in
    shows-within told program input (terms_of pool.terms c.in-Ok.slice) c.show.result nodes c.in-Ok.ensures.few (slice-stands pool.terms c.in-Ok.slice (slice_of program TURNS.default input) c.in-Ok.ensures.slice) c.show.ensures.shown c.show.ensures.memory
