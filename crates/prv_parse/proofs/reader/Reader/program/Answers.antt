use Rattle.std.proofs.Common.{◌++◌, length}
use Rattle.prv_parse.specs.Reader.{expect, params, block, statements, program, is_int, is_main, is_open_paren, is_close_paren, is_open_brace}
use Rattle.prv_parse.specs.Cursors.{left}
use Rattle.prv_parse.specs.Statements.{skeleton_in}
use Rattle.prv_parse.proofs.ProgramSteps.{program-parts, skeleton-parts, program-done}
use Rattle.prv_parse.proofs.reader.Reader.program.Goals as goal

pub returns-in-None-clause-reads : goal.returns-in-None-clause-reads
returns-in-None-clause-reads c =
    let r0 = left c.args.self.now.cursor in
    let r1 = left c.expect.new.self.cursor in
    let r2 = left c.expect-2.new.self.cursor in
    let r3 = left c.expect-3.new.self.cursor in
    let r4 = left c.params.new.self.cursor in
    let r5 = left c.expect-4.new.self.cursor in
    let r6 = left c.expect-5.new.self.cursor in
    let i = skeleton_in (λ s. s) (expect is_int r0) in
    let m = skeleton_in (λ s. s) (expect is_main r1) in
    let o = skeleton_in (λ s. s) (expect is_open_paren r2) in
    let n = skeleton_in (λ r. r.skeleton) (params (length r3) r3) in
    let x = skeleton_in (λ s. s) (expect is_close_paren r4) in
    let b = skeleton_in (λ s. s) (expect is_open_brace r5) in
    let a = skeleton_in (λ r. r.skeleton) (block 100 (statements 100).here (statements 100).deeper r6) in
    program-done (program r0) (left c.block.new.self.cursor) _ _ _ (i ++ m ++ o ++ n ++ x ++ b ++ a)
    (program-parts r0 r1 r2 r3 r4 r5 r6 (left c.block.new.self.cursor) i m o x b n a _ _ c.in_ok-expect.ensures.reads.0 c.in_ok-expect-2.ensures.reads.0 c.in_ok-expect-3.ensures.reads.0
    c.in_ok-params.ensures.reads.0 c.in_ok-expect-4.ensures.reads.0 c.in_ok-expect-5.ensures.reads.0 c.in_ok-body.ensures.reads.0 c.in-None.ensures.next)
    (skeleton-parts c.args.self.now.skeleton.items c.expect.new.self.skeleton.items c.expect-2.new.self.skeleton.items c.expect-3.new.self.skeleton.items c.params.new.self.skeleton.items
    c.expect-4.new.self.skeleton.items c.expect-5.new.self.skeleton.items c.block.new.self.skeleton.items i m o n x b a c.in_ok-expect.ensures.reads.1 c.in_ok-expect-2.ensures.reads.1
    c.in_ok-expect-3.ensures.reads.1 c.in_ok-params.ensures.reads.1 c.in_ok-expect-4.ensures.reads.1 c.in_ok-expect-5.ensures.reads.1 c.in_ok-body.ensures.reads.1)
