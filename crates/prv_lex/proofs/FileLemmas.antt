-- A file has one list of tokens or one refusal, and never both.
use Rattle.std.proofs.Common.{◌≡◌, ℕ, ◌≤◌, List, length, sym, ◌∙◌, refl, arith, ◌⊎◌, inl, inr, ⊎_elim}
use Rattle.std.proofs.lemmas.Bool.{cases_lt}
use Rattle.prv_lex.specs.Readings.{HasTokens, IsRefused}
use Rattle.prv_lex.specs.declared.error.LexWhy.{LexWhy}
use Rattle.prv_lex.specs.declared.error.LexWhy.TheVariants.{Long}
use Rattle.prv_lex.specs.declared.token.Token as t
use Rattle.prv_lex.proofs.Scanning.{Reads, Refuses}
use Rattle.prv_lex.proofs.ReadingLemmas.{reads-unique, reads-not_refused, refuses-unique, settled}
use Rattle.prv_lex.proofs.MadeLemmas.{reads-made, refuses-stops}
use Rattle.prv_lex.proofs.FormLemmas.{made-reads, stops-refuses}

pub tokens-read : (file : List ℕ) (tokens : List t.Token) → length file ≤ 65536 → Reads 0 file tokens → HasTokens file tokens
tokens-read file tokens short r = record { short = short; made = reads-made 0 file tokens r }

pub refused-read : (file : List ℕ) (place : ℕ) (why : LexWhy) → length file ≤ 65536 → Refuses 0 file place why → IsRefused file place why
refused-read file place why short r = inr (short, refuses-stops 0 file place why r)

pub tokens-one : (file : List ℕ) (a b : List t.Token) → HasTokens file a → HasTokens file b → a ≡ b
tokens-one file a b has also = reads-unique 0 file a b (made-reads 0 file a has.made) (made-reads 0 file b also.made)

pub tokens-not_refused : (file : List ℕ) (a : List t.Token) (place : ℕ) (why : LexWhy) → HasTokens file a → IsRefused file place why → ⊥
tokens-not_refused file a place why has (inl long) = let short = has.short in absurd (omega (arith, long.0, short))
tokens-not_refused file a place why has (inr r) = reads-not_refused 0 file a place why (made-reads 0 file a has.made) (stops-refuses 0 file place why r.1)

pub refusal-one : (file : List ℕ) (place at : ℕ) (why how : LexWhy) → IsRefused file place why → IsRefused file at how → (place ≡ at) × (why ≡ how)
refusal-one file place at why how (inl long) (inl also) = (long.1 ∙ sym also.1, long.2 ∙ sym also.2)
refusal-one file place at why how (inl long) (inr r) = absurd (omega (arith, long.0, r.0))
refusal-one file place at why how (inr r) (inl long) = absurd (omega (arith, long.0, r.0))
refusal-one file place at why how (inr r) (inr s) = refuses-unique 0 file place at why how (stops-refuses 0 file place why r.1) (stops-refuses 0 file at how s.1)

settled-short : (file : List ℕ) → length file ≤ 65536 → ((tokens : List t.Token) × Reads 0 file tokens) ⊎ ((at : ℕ) × (why : LexWhy) × Refuses 0 file at why) → ((tokens : List t.Token) × HasTokens file tokens) ⊎ ((place : ℕ) × (why : LexWhy) × IsRefused file place why)
settled-short file short (inl r) = inl (r.0, tokens-read file r.0 short r.1)
settled-short file short (inr r) = inr (r.0, r.1, refused-read file r.0 r.1 short r.2)

pub settled-file : (file : List ℕ) → ((tokens : List t.Token) × HasTokens file tokens) ⊎ ((place : ℕ) × (why : LexWhy) × IsRefused file place why)
settled-file file = ⊎_elim (λ long. inr (65536, Long, inl (long, refl, refl))) (λ short. settled-short file short (settled 0 file)) (cases_lt 65536 (length file))
