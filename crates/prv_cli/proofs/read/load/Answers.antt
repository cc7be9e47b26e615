use Rattle.std.proofs.Common.{Ok, Err, ap, subst, refl}
use Rattle.prv_model.specs.declared.limits.TheConstants.{MAX_FILE}
use Rattle.prv_lex.specs.declared.error.LexError.TheVariants.{Refused}
use Rattle.prv_lex.specs.declared.error.LexWhy.TheVariants.{Long}
use Rattle.prv_version.specs.declared.error.VersionError.TheVariants.{Lex}
use Rattle.prv_cli.specs.Steps.{nothing}
use Rattle.prv_cli.specs.Readings.{read_file, version_of}
use Rattle.prv_cli.specs.declared.refusal.Refusal.TheVariants as refusal
use Rattle.prv_cli.proofs.Following.{follows-refused, follows-both, follows-nothing, follows-read}
use Rattle.prv_cli.proofs.read.load.Goals as goal

pub returns-in-Ok-clause-loaded : goal.returns-in-Ok-clause-loaded
returns-in-Ok-clause-loaded g c =
    let told = g.F.Files.known c.args.files.now in
    let name = c.args.name.now in
    let bytes = c.read.new.into.items in
    follows-both g.F.Files.reads told c.args.files.now _ _ (read_file c.args.who name) (version_of c.args.who) bytes c.version_of.result
    (follows-read g.F.Files.reads told _ _ c.args.who name (Ok bytes) c.read.ensures.once (c.in-Ok.ensures.bytes, c.in-Ok.ensures.within))
    (follows-nothing g.F.Files.reads told _ (version_of c.args.who bytes) c.version_of.result (subst (λ b. version_of c.args.who b told nothing c.version_of.result) c.as_slice.ensures.value (c.version_of.ensures.given told)))

pub returns-in-Err-TooLong-clause-loaded : goal.returns-in-Err-TooLong-clause-loaded
returns-in-Err-TooLong-clause-loaded g c =
    let told = g.F.Files.known c.args.files.now in
    let name = c.args.name.now in
    let why = refusal.File c.args.who (Lex (Refused MAX_FILE Long)) in
    follows-refused g.F.Files.reads told c.args.files.now _ (read_file c.args.who name) (version_of c.args.who) why
    (follows-read g.F.Files.reads told _ _ c.args.who name (Err why) c.read.ensures.once (refl, refl, c.in-Err-TooLong.ensures.too_long (ap (λ e. Err e) c.in-Err-TooLong.field-0-is)))

pub returns-in-Err-Failed-clause-loaded : goal.returns-in-Err-Failed-clause-loaded
returns-in-Err-Failed-clause-loaded g c =
    let told = g.F.Files.known c.args.files.now in
    let name = c.args.name.now in
    follows-refused g.F.Files.reads told c.args.files.now _ (read_file c.args.who name) (version_of c.args.who) refusal.Read
    (follows-read g.F.Files.reads told _ _ c.args.who name (Err refusal.Read) c.read.ensures.once tt)

pub returns-clause-loaded : goal.returns-clause-loaded
returns-clause-loaded g c =
    let told = g.F.Files.known c.args.files.now in
    let name = c.args.name.now in
    follows-refused g.F.Files.reads told c.args.files.now _ (read_file c.args.who name) (version_of c.args.who) refusal.Memory
    (follows-read g.F.Files.reads told _ _ c.args.who name (Err refusal.Memory) c.read.ensures.once tt)
