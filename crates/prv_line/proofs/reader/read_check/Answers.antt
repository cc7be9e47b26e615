use Rattle.std.proofs.Common.{codes}
use Rattle.prv_line.specs.Views.{texts}
use Rattle.prv_line.proofs.CommandLemmas.{check, nothing, word_too_many, some_left}
use Rattle.prv_line.proofs.Slots.{refused_at_name, refused_past_name}
use Rattle.prv_line.proofs.reader.read_check.Goals as goal

pub returns-in_default : goal.returns-in_default
returns-in_default c = refused_at_name nothing (codes "check") check (texts c.args.words.now) c.in_default.ensures

pub returns-then-not-is_empty : goal.returns-then-not-is_empty
returns-then-not-is_empty c =
    let rest = texts c.in-Some.words.now in
    refused_past_name nothing (codes "check") check (texts c.args.words.now) rest c.in-Some.journal.now c.in-Some.ensures.1 c.in-Some.ensures.0 0 (word_too_many rest (some_left c.in-Some.words.now c.if-not-is_empty.ensures))
