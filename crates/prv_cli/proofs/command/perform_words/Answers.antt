use Rattle.std.proofs.Common.{Err, inl, refl}
use Rattle.prv_line.specs.Views.{command_of, texts}
use Rattle.prv_cli.specs.Commands.{does, command}
use Rattle.prv_cli.specs.declared.refusal.Refusal.TheVariants.{Memory}
use Rattle.prv_cli.specs.Commands.{says}
use Rattle.prv_cli.proofs.Following.{performs-nothing, performs-behind}
use Rattle.prv_cli.proofs.command.perform_words.Goals as goal

pub returns-in-Ok-clause-performed : goal.returns-in-Ok-clause-performed
returns-in-Ok-clause-performed g c =
    performs-behind g.F.Files.reads (g.F.Files.known c.args.files.now) _ _ _ _ (command (texts c.args.words.now)) does (command_of c.in-Ok.command) c.perform.result (refl, c.in-Ok.ensures.reads) c.perform.ensures.performed

pub returns-in-Err-Usage-clause-performed : goal.returns-in-Err-Usage-clause-performed
returns-in-Err-Usage-clause-performed g c =
    performs-nothing g.F.Files.reads (g.F.Files.known c.args.files.now) _ _ (says (texts c.args.words.now)) _ (inl (refl, c.in-Err-Usage.ensures.refuses _ (cc (c.in-Err-Usage.field-0-is, c.in-Err-Usage.word-is))))

pub returns-in-Err-Memory-clause-performed : goal.returns-in-Err-Memory-clause-performed
returns-in-Err-Memory-clause-performed g c =
    performs-nothing g.F.Files.reads (g.F.Files.known c.args.files.now) _ _ (says (texts c.args.words.now)) (Err Memory) (inl (refl, tt))
