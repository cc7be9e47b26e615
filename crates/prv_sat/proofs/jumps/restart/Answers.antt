use Rattle.prv_sat.proofs.Searching.{restarted}
use Rattle.prv_sat.proofs.jumps.restart.Goals as goal

pub returns-clause-ready : goal.returns-clause-ready
returns-clause-ready c =
    rw (c.least-state.ensures, c.in_ok-end.ensures.trail, c.in_ok-end.ensures.watches, c.in_ok-end.ensures.lines, c.in_ok-end.ensures.done)
    (restarted c.args.cnf.now c.args.state.now.lines.items c.args.state.now.trail c.args.state.now.watches c.args.state.now.done 0 c.in_ok-end.end c.requires c.in_ok-end.ensures.cut)
