-- The commands by their words.
use Rattle.std.proofs.Common.{◌≡◌, ℕ, suc, List, [], ◌∷◌, ℤ, refl, sym, subst, arith, rules, codes, Bor, length, false}
use Rattle.std.specs.Prelude.{◌==◌}
use Rattle.std.specs.Str.Parse.{digits_value}
use Rattle.prv_line.specs.Texts.{IsNumber}
use Rattle.prv_line.specs.Commands.{Settings, defaults, Command, Run, Point, Slice, Explore, Live, Resume, Check, Gen}
use Rattle.prv_line.specs.Options.{Options, all_options}
use Rattle.prv_line.specs.Readings.{Number, Inputs, End, Reads}
use Rattle.prv_line.specs.Views.{texts}
use Rattle.prv_line.specs.Usages.{Begins, IsRefused, IsUsage}
use Rattle.prv_line.proofs.TextLemmas.{apart}
use Rattle.prv_line.proofs.Refusals.{BeginsWith, refused_first, refused_none, refused_word, refused_rest}
use Rattle.prv_line.proofs.OptionSteps.{options_begin}
use Rattle.prv_line.proofs.InputLemmas.{inputs_begin}
use Rattle.prv_line.proofs.Slots.{after, named, begins_named, refused_after, IsNamedCommand}

is-run : (c : Command) (ws : List (List ℕ)) → Reads c (codes "run" ∷ ws) → (p : List ℕ × List ℤ) × named Inputs p ws
is-run (Run f i) ws r = ((f, i), r.1)
is-run _ ws r = absurd (apart r.0 refl)

pub run : IsNamedCommand Inputs (codes "run")
run = record { begins = inputs_begin; reads = λ p ws h. (Run p.0 p.1, (refl, h)); is = is-run }

is-slice : (c : Command) (ws : List (List ℕ)) → Reads c (codes "slice" ∷ ws) → (p : List ℕ × List ℤ) × named Inputs p ws
is-slice (Slice f i) ws r = ((f, i), r.1)
is-slice _ ws r = absurd (apart r.0 refl)

pub slice : IsNamedCommand Inputs (codes "slice")
slice = record { begins = inputs_begin; reads = λ p ws h. (Slice p.0 p.1, (refl, h)); is = is-slice }

is-point : (c : Command) (ws : List (List ℕ)) → Reads c (codes "point" ∷ ws) → (p : List ℕ × (List ℕ × List ℤ)) × named (named Inputs) p ws
is-point (Point b a i) ws r = ((b, (a, i)), r.1)
is-point _ ws r = absurd (apart r.0 refl)

pub point : IsNamedCommand (named Inputs) (codes "point")
point = record { begins = begins_named Inputs inputs_begin; reads = λ p ws h. (Point p.0 p.1.0 p.1.1, (refl, h)); is = is-point }

-- the settings of explore and live, and that no words begin some
abbrev pub all_settings : Settings → List (List ℕ) → Type 0
all_settings made = Options all_options defaults made

pub all_settings_begin : Begins all_settings []
all_settings_begin = options_begin all_options defaults

is-explore : (c : Command) (ws : List (List ℕ)) → Reads c (codes "explore" ∷ ws) → (p : List ℕ × (List ℕ × Settings)) × named (named all_settings) p ws
is-explore (Explore b a s) ws r = ((b, (a, s)), r.1)
is-explore _ ws r = absurd (apart r.0 refl)

pub explore : IsNamedCommand (named all_settings) (codes "explore")
explore = record { begins = begins_named all_settings all_settings_begin; reads = λ p ws h. (Explore p.0 p.1.0 p.1.1, (refl, h)); is = is-explore }

is-live : (c : Command) (ws : List (List ℕ)) → Reads c (codes "live" ∷ ws) → (p : List ℕ × (List ℕ × Settings)) × named (named all_settings) p ws
is-live (Live b a s) ws r = ((b, (a, s)), r.1)
is-live _ ws r = absurd (apart r.0 refl)

pub live : IsNamedCommand (named all_settings) (codes "live")
live = record { begins = begins_named all_settings all_settings_begin; reads = λ p ws h. (Live p.0 p.1.0 p.1.1, (refl, h)); is = is-live }

-- nothing behind the name
abbrev pub nothing : Unit {0} → List (List ℕ) → Type 0
nothing u ws = End ws

nothing_begins : Begins nothing []
nothing_begins = ([], tt, refl)

pub word_too_many : (ws : List (List ℕ)) → (ws ≡ [] → ⊥) → IsRefused nothing ws 0
word_too_many [] some = absurd (some refl)
word_too_many (w ∷ ws) some = refused_first nothing w ws nothing_begins (λ u rest e. let end : w ∷ rest ≡ [] = e in cc)

pub some_left : (words : List (Bor (List ℕ))) → false ≡ (length words == 0) → texts words ≡ [] → ⊥
some_left [] e f = cc
some_left (w ∷ ws) e f = cc

is-check : (c : Command) (ws : List (List ℕ)) → Reads c (codes "check" ∷ ws) → (p : List ℕ × Unit {0}) × named nothing p ws
is-check (Check j) ws r = ((j, tt), r.1)
is-check _ ws r = absurd (apart r.0 refl)

pub check : IsNamedCommand nothing (codes "check")
check = record { begins = nothing_begins; reads = λ p ws h. (Check p.0, (refl, h)); is = is-check }

-- the two numbers of gen
abbrev pub sized : ℕ → List (List ℕ) → Type 0
sized size = Number 1 50 size End

pub sized_slot : BeginsWith (IsNumber 1 50) nothing sized
sized_slot = record {
  into = λ word u ws p l. (digits_value 10 word, (p, refl, l));
  passes = λ n word ws m. m.0;
  out = λ n word ws m. (tt, m.2);
  none = λ n m. m;
  word = codes "1";
  word_passes = record { digits = search rules; short = omega arith; low = search rules; high = search rules };
  begins = nothing_begins;
}

record GenIs (ws : List (List ℕ)) : Type 0 where
  number : ℕ
  size : ℕ
  holds : Number 0 4294967295 number (sized size) ws

is-gen : (c : Command) (ws : List (List ℕ)) → Reads c (codes "gen" ∷ ws) → GenIs ws
is-gen (Gen n s) ws r = record { number = n; size = s; holds = r.1 }
is-gen _ ws r = absurd (apart r.0 refl)

pub gen_slot : BeginsWith (IsNumber 0 4294967295) sized (after (codes "gen"))
gen_slot = record {
  into = λ word size ws p l. (Gen (digits_value 10 word) size, (refl, (p, refl, l)));
  passes = λ c word ws r. (is-gen c (word ∷ ws) r).holds.0;
  out = λ c word ws r. let g = is-gen c (word ∷ ws) r in (g.size, g.holds.2);
  none = λ c r. (is-gen c [] r).holds;
  word = codes "1";
  word_passes = record { digits = search rules; short = omega arith; low = search rules; high = search rules };
  begins = (codes "1" ∷ [], 1, (record { digits = search rules; short = omega arith; low = search rules; high = search rules }, refl, refl));
}

-- no number from least to most stands first
abbrev NoNumber : ℕ → ℕ → List (List ℕ) → Type 0
NoNumber least most ws = (word : List ℕ) (rest : List (List ℕ)) → ws ≡ word ∷ rest → IsNumber least most word → ⊥

pub gen_number : (ws : List (List ℕ)) → NoNumber 0 4294967295 ws → IsUsage (codes "gen" ∷ ws) 1
gen_number ws missing = refused_after (codes "gen") ws 0 (refused_word (IsNumber 0 4294967295) sized (after (codes "gen")) gen_slot ws missing)

gen_past : (ws rest : List (List ℕ)) (word : List ℕ) → ws ≡ word ∷ rest → IsNumber 0 4294967295 word → (k : ℕ) → IsRefused sized rest k → IsUsage (codes "gen" ∷ ws) (suc (suc k))
gen_past ws rest word e p k h =
    let F : List (List ℕ) → Type 0 = λ x. IsUsage (codes "gen" ∷ x) (suc (suc k)) in
    subst F (sym e) (refused_after (codes "gen") (word ∷ rest) (suc k) (refused_rest (IsNumber 0 4294967295) sized (after (codes "gen")) gen_slot word rest k p h))

pub gen_size : (ws rest : List (List ℕ)) (word : List ℕ) → ws ≡ word ∷ rest → IsNumber 0 4294967295 word → NoNumber 1 50 rest → IsUsage (codes "gen" ∷ ws) 2
gen_size ws rest word e p missing = gen_past ws rest word e p 0 (refused_word (IsNumber 1 50) nothing sized sized_slot rest missing)

pub gen_end : (ws rest more : List (List ℕ)) (word size : List ℕ) → ws ≡ word ∷ rest → IsNumber 0 4294967295 word → rest ≡ size ∷ more → IsNumber 1 50 size
    → (more ≡ [] → ⊥) → IsUsage (codes "gen" ∷ ws) 3
gen_end ws rest more word size e p f q some =
    let F : List (List ℕ) → Type 0 = λ x. IsRefused sized x 1 in
    gen_past ws rest word e p 1 (subst F (sym f) (refused_rest (IsNumber 1 50) nothing sized sized_slot size more 0 q (word_too_many more some)))

-- no command
reads_begin : Begins Reads []
reads_begin = (codes "check" ∷ codes "J" ∷ [], Check (codes "J"), (refl, (search rules, (refl, refl))))

pub no_words_at_all : IsUsage [] 0
no_words_at_all = refused_none Reads reads_begin none
  where
    none : (c : Command) → Reads c [] → ⊥
    none (Run f i) r = r
    none (Point b a i) r = r
    none (Slice f i) r = r
    none (Explore b a s) r = r
    none (Live b a s) r = r
    none (Resume j l s w) r = r
    none (Check j) r = r
    none (Gen n s) r = r

pub nothing_given : (words : List (Bor (List ℕ))) → length words ≡ 0 → IsUsage (texts words) 0
nothing_given [] e = no_words_at_all
nothing_given (w ∷ ws) e = absurd (omega arith)

-- the word of no command
pub record IsNoCommand (word : List ℕ) : Type 0 where
  pub no_run : word ≡ codes "run" → ⊥
  pub no_point : word ≡ codes "point" → ⊥
  pub no_slice : word ≡ codes "slice" → ⊥
  pub no_explore : word ≡ codes "explore" → ⊥
  pub no_live : word ≡ codes "live" → ⊥
  pub no_resume : word ≡ codes "resume" → ⊥
  pub no_check : word ≡ codes "check" → ⊥
  pub no_gen : word ≡ codes "gen" → ⊥

no-command : (word : List ℕ) → IsNoCommand word → (c : Command) (rest : List (List ℕ)) → Reads c (word ∷ rest) → ⊥
no-command word n (Run f i) rest r = n.no_run r.0
no-command word n (Point b a i) rest r = n.no_point r.0
no-command word n (Slice f i) rest r = n.no_slice r.0
no-command word n (Explore b a s) rest r = n.no_explore r.0
no-command word n (Live b a s) rest r = n.no_live r.0
no-command word n (Resume j l s w) rest r = n.no_resume r.0
no-command word n (Check j) rest r = n.no_check r.0
no-command word n (Gen m s) rest r = n.no_gen r.0

pub unknown_command : (word : List ℕ) (rest : List (List ℕ)) → IsNoCommand word → IsUsage (word ∷ rest) 0
unknown_command word rest n = refused_first Reads word rest reads_begin (λ c more r. no-command word n c more r)
