-- The settings that commands are made of.
use Rattle.std.proofs.Common.{◌≡◌, ℕ, List, [], ◌∷◌, Bool, true, false, Option, None, refl, sym, ◌∙◌, ap, subst, rules, codes}
use Rattle.std.specs.Prelude.{IsTrue}
use Rattle.prv_line.specs.Texts.{IsName}
use Rattle.prv_line.specs.Steps.{Tells}
use Rattle.prv_line.specs.Commands.{Settings, defaults, Command, Resume}
use Rattle.prv_line.specs.Options.{Choice, Options, AreChoices, settled, with_value, without, is_allowed, resume_options}
use Rattle.prv_line.specs.Readings.{Named, Reads}
use Rattle.prv_line.specs.declared.error.LineError.{LineError}
use Rattle.prv_line.specs.declared.option.Allowed.{Allowed}
use Rattle.prv_line.specs.declared.option.OptionName.{OptionName}
use Rattle.prv_line.specs.declared.option.OptionName.TheVariants.{Turns, Lines, Settlements, Workers, Journal}
use Rattle.prv_line.proofs.TextLemmas.{apart}
use Rattle.prv_line.proofs.OptionSteps.{options_begin}
use Rattle.prv_line.proofs.Slots.{named, IsNamedCommand}

-- the turns and the journal are as before
record Keeps (from made : Settings) : Type 0 where
  turns : made.turns ≡ from.turns
  journal : made.journal ≡ from.journal

false-true : (b : Bool) → b ≡ false → IsTrue b → ⊥
false-true true e h = cc
false-true false e h = search rules

put-keeps : (n : OptionName) (v : List ℕ) (more : List Choice) (allowed : Allowed) (from : Settings) → ((a : Allowed) (f : Settings) → a.turns ≡ false → a.journal ≡ false → AreChoices a more → Keeps f (settled f more))
    → allowed.turns ≡ false → allowed.journal ≡ false → IsTrue (is_allowed allowed n) → AreChoices (without n allowed) more → Keeps from (settled (with_value n v from) more)
put-keeps Turns v more allowed from rest t j may are = absurd (false-true allowed.turns t may)
put-keeps Lines v more allowed from rest t j may are = let k = rest (without Lines allowed) (with_value Lines v from) t j are in record { turns = k.turns; journal = k.journal }
put-keeps Settlements v more allowed from rest t j may are = let k = rest (without Settlements allowed) (with_value Settlements v from) t j are in record { turns = k.turns; journal = k.journal }
put-keeps Workers v more allowed from rest t j may are = let k = rest (without Workers allowed) (with_value Workers v from) t j are in record { turns = k.turns; journal = k.journal }
put-keeps Journal v more allowed from rest t j may are = absurd (false-true allowed.journal j may)

keeps : (allowed : Allowed) (from : Settings) (choices : List Choice) → allowed.turns ≡ false → allowed.journal ≡ false → AreChoices allowed choices → Keeps from (settled from choices)
keeps allowed from [] t j are = record { turns = refl; journal = refl }
keeps allowed from (c ∷ more) t j are = put-keeps c.name c.value more allowed from (λ a f. keeps a f more) t j are.0 are.2

-- the settings of resume
abbrev pub resume_settings : Settings → List (List ℕ) → Type 0
resume_settings made = Options resume_options defaults made

abbrev pub changed : Settings → Settings
changed made = record defaults { lines = made.lines; settlements = made.settlements; workers = made.workers }

abbrev settings_with : ℕ → ℕ → ℕ → ℕ → Option (List ℕ) → Settings
settings_with t l s w j = record { turns = t; lines = l; settlements = s; workers = w; journal = j }

fields : (t u l s w : ℕ) (j k : Option (List ℕ)) → t ≡ u → j ≡ k
    → settings_with t l s w j ≡ settings_with u l s w k
fields t u l s w j k e f = cc

same-fields : (made : Settings) → made.turns ≡ 32 → made.journal ≡ None → made ≡ changed made
same-fields made t j = fields made.turns 32 made.lines made.settlements made.workers made.journal None t j

pub made_is : (made : Settings) (ws : List (List ℕ)) → resume_settings made ws → made ≡ changed made
made_is made ws o =
    let k = keeps resume_options defaults o.choices refl refl o.are_choices in
    let e = o.settings_are in
    same-fields made (ap (λ (s : Settings). s.turns) e ∙ k.turns) (ap (λ (s : Settings). s.journal) e ∙ k.journal)

is-resume : (c : Command) (ws : List (List ℕ)) → Reads c (codes "resume" ∷ ws) → (p : List ℕ × Settings) × named resume_settings p ws
is-resume (Resume j l s w) ws r = ((j, record defaults { lines = l; settlements = s; workers = w }), r.1)
is-resume _ ws r = absurd (apart r.0 refl)

pub resume_ok : (name : List ℕ) (made : Settings) (ws : List (List ℕ)) → IsName name → (rest : List (List ℕ)) → ws ≡ name ∷ rest → resume_settings made rest
    → Reads (Resume name made.lines made.settlements made.workers) (codes "resume" ∷ ws)
resume_ok name made ws p rest e o =
    let F : Settings → Type 0 = λ s. resume_settings s rest in
    let G : List (List ℕ) → Type 0 = λ x. Named name (resume_settings (changed made)) x in
    (refl, subst G (sym e) (p, (refl, subst F (made_is made rest o) o)))

from-named : (p : List ℕ × Settings) (ws : List (List ℕ)) → named resume_settings p ws → (c : Command) × Reads c (codes "resume" ∷ ws)
from-named p [] h = absurd h.1
from-named p (w ∷ ws) h = (Resume p.0 p.1.lines p.1.settlements p.1.workers, resume_ok p.0 p.1 (w ∷ ws) h.0 ws (ap (λ x. x ∷ ws) h.1.0) h.1.1)

pub resume : IsNamedCommand resume_settings (codes "resume")
resume = record { begins = options_begin resume_options defaults; reads = from-named; is = is-resume }

-- equal options and settings tell the same
pub told_by : (a b : Allowed) (s t : Settings) (ws : List (List ℕ)) (n : ℕ) (e : LineError) → a ≡ b → s ≡ t → Tells (Options a s) ws n e → Tells (Options b t) ws n e
told_by a b s t ws n e f g told =
    let F : Allowed → Type 0 = λ x. Tells (Options x t) ws n e in
    let G : Settings → Type 0 = λ x. Tells (Options a x) ws n e in
    subst F f (subst G g told)

pub made_by : (a b : Allowed) (s t made : Settings) (ws : List (List ℕ)) → a ≡ b → s ≡ t → Options a s made ws → Options b t made ws
made_by a b s t made ws f g o =
    let F : Allowed → Type 0 = λ x. Options x t made ws in
    let G : Settings → Type 0 = λ x. Options a x made ws in
    subst F f (subst G g o)
