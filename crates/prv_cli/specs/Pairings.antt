-- The pair of two versions.
use Rattle.std.specs.Prelude.{◌≡◌, ℕ, List}
use Rattle.prv_model.specs.declared.program.Pair.{Pair}
use Rattle.prv_names.specs.declared.version.Version.{Version}
use Rattle.prv_marks.specs.Pairs.{MakePair, IsRefused}
use Rattle.prv_cli.specs.Steps.{Step, answers, ◌>>=◌}
use Rattle.prv_cli.specs.Readings.{version, version_of}
use Rattle.prv_cli.specs.declared.refusal.Who.TheVariants.{Old, New}
use Rattle.prv_cli.specs.declared.refusal.Refusal.{Refusal}
use Rattle.prv_cli.specs.declared.refusal.Refusal.TheVariants as refusal

-- two versions make this pair, with so many turns
pub record Makes (turns : ℕ) (before after : Version) (pair : Pair) : Type 0 where
  pub made : MakePair before after
  pub before_is : pair.before ≡ before.program
  pub after_is : pair.after ≡ after.program
  pub turns_are : pair.turns ≡ turns

-- why they make none
abbrev pub MakesNone : Version → Version → Refusal → Type 0
MakesNone before after (refusal.Pair why) = IsRefused before after why
MakesNone before after _ = ⊥

-- the pair of two versions
abbrev pub pair_of : ℕ → Version → Version → Step Pair
pair_of turns before after = answers (Makes turns before after) (MakesNone before after)

-- the pair that two files give
abbrev pub pair_of_files : ℕ → List ℕ → List ℕ → Step Pair
pair_of_files turns before after = do
  old ← version Old before
  new ← version New after
  pair_of turns old new

-- the pair that two texts give
abbrev pub pair_of_texts : ℕ → List ℕ → List ℕ → Step Pair
pair_of_texts turns before after = do
  old ← version_of Old before
  new ← version_of New after
  pair_of turns old new
