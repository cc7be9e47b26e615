use Rattle.std.proofs.lemmas.Result.{err_from_is_err_and}
use Rattle.prv_text.specs.Boards.{board_report}
use Rattle.prv_cli.specs.Pairings.{pair_of_files}
use Rattle.prv_cli.specs.Explores.{show_exploration}
use Rattle.prv_cli.proofs.Following.{follows-refused, follows-both, follows-nothing}
use Rattle.prv_cli.proofs.explore.explore_files.Goals as goal

pub returns-in_err-pair-clause-done : goal.returns-in_err-pair-clause-done
returns-in_err-pair-clause-done g c =
    let passed = err_from_is_err_and c.from_residual.result c.from_residual.ensures.1 in
    rw (passed.1, passed.2) (follows-refused g.F.Files.reads (g.F.Files.known c.args.files.now) c.args.files.now _ (pair_of_files c.args.turns c.args.before.now c.args.after.now) (show_exploration board_report c.args.plan) c.in_err-pair.field-0.0 c.in_err-pair.ensures.done)

pub returns-clause-done : goal.returns-clause-done
returns-clause-done g c =
    let reads = g.F.Files.reads in
    let told = g.F.Files.known c.args.files.now in
    let pair = c.in_ok-pair.pair in
    follows-both reads told c.args.files.now _ _ (pair_of_files c.args.turns c.args.before.now c.args.after.now) (show_exploration board_report c.args.plan) pair c.show_explored.result c.in_ok-pair.ensures.done
    (follows-nothing reads told _ (show_exploration board_report c.args.plan pair) c.show_explored.result (c.show_explored.ensures.shown told))
