-- From a file to its version.
use Rattle.std.proofs.Common.{◌≡◌, ◌⊎◌, inl, inr, Some, ℕ, ◌+◌, ◌≤◌, ◌<◌, ◌^◌, List, [], ◌∷◌, length, refl, sym, subst, arith}
use Rattle.prv_lex.specs.declared.token.Token.{Token}
use Rattle.prv_lex.specs.declared.error.LexWhy.{LexWhy}
use Rattle.prv_lex.specs.declared.error.LexError.{LexError}
use Rattle.prv_lex.specs.declared.error.LexError.TheVariants as lex
use Rattle.prv_lex.specs.Readings.{HasTokens, IsRefused, PlacesRise}
use Rattle.prv_parse.specs.declared.program.Tree.{Tree}
use Rattle.prv_parse.specs.Refusals.{IsSyntaxAt, IsDeepAt}
use Rattle.prv_parse.specs.declared.error.ParseError.{ParseError}
use Rattle.prv_parse.specs.declared.error.ParseError.TheVariants as parse
use Rattle.prv_names.specs.Versions.{refusal}
use Rattle.prv_names.specs.declared.error.NameError.{NameError}
use Rattle.prv_names.specs.declared.error.NameError.TheVariants as name
use Rattle.prv_version.specs.Versions.{HasNoTokens, HasNoTree, HasNoVersion}

-- places that rise are no more than the numbers between
rise-count : (low high : ℕ) (tokens : List Token) → low ≤ high → PlacesRise low high tokens → low + length tokens ≤ high
rise-count low high [] h r = omega arith
rise-count low high (first ∷ others) h r = let more = rise-count (first.place + 1) high others (omega arith) r.2 in omega arith

-- so the tokens of a file are few
pub few-tokens : (file : List ℕ) (tokens : List Token) → HasTokens file tokens → PlacesRise 0 (length file) tokens → length tokens < 2 ^ 28
few-tokens file tokens has rise = let count = rise-count 0 (length file) tokens (omega arith) rise in let short = has.short in omega arith

-- the first thing that is no token
pub no-tokens : (file : List ℕ) (why : LexError) → ((place : ℕ) (kind : LexWhy) → why ≡ lex.Refused place kind → IsRefused file place kind) → HasNoTokens file why
no-tokens file (lex.Refused place kind) refused = refused place kind refl
no-tokens file lex.Memory refused = tt

-- the first token that fits no program
pub no-tree : (tokens : List Token) (end : ℕ) (why : ParseError) → ((place : ℕ) → why ≡ parse.Syntax place → IsSyntaxAt tokens end place)
    → ((place : ℕ) → why ≡ parse.Deep place → IsDeepAt tokens place) → HasNoTree tokens end why
no-tree tokens end (parse.Syntax place) syntax deep = syntax place refl
no-tree tokens end (parse.Deep place) syntax deep = deep place refl
no-tree tokens end parse.Memory syntax deep = tt

-- what is wrong with the names of a tree
pub no-version : (tree : Tree) (why : NameError) → (why ≡ name.Memory) ⊎ (refusal tree.params tree.body ≡ Some why) → HasNoVersion tree why
no-version tree why (inl is) = subst (λ w. HasNoVersion tree w) (sym is) tt
no-version tree (name.Unknown place) (inr wrong) = wrong
no-version tree (name.Twice place) (inr wrong) = wrong
no-version tree (name.NotInScope place) (inr wrong) = wrong
no-version tree (name.TooMany what count) (inr wrong) = wrong
no-version tree name.Memory (inr wrong) = tt
