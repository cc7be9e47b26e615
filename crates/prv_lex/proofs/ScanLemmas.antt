-- What a scan has read so far, and how it goes on.
use Rattle.std.proofs.Common.{◌≡◌, ℕ, ◌+◌, ◌-◌, ◌<◌, ◌≤◌, List, [], ◌∷◌, ◌++◌, length, drop, slice_index, true, refl, ap, sym, ◌∙◌, subst, Result, Ok, Err, arith, ◌⊎◌, inl, inr, append_assoc, append-nil, length-drop}
use Rattle.std.proofs.lemmas.List.{drop-drop, drop_all}
use Rattle.std.specs.Result.{IsErrAnd}
use Rattle.prv_lex.specs.Bytes.{is_blank}
use Rattle.prv_lex.specs.Fronts.{front_of, len_of, IsAdded, StopsWith}
use Rattle.prv_lex.specs.Readings.{HasTokens, IsRefused}
use Rattle.prv_lex.specs.declared.error.LexError.{LexError}
use Rattle.prv_lex.specs.declared.error.LexError.TheVariants as error
use Rattle.prv_lex.proofs.Scanning.{Reads, ended, gap, token, Refuses, stuck, past_gap, past_token}
use Rattle.prv_lex.specs.declared.error.LexWhy.{LexWhy}
use Rattle.prv_lex.specs.declared.front.Front.{Front}
use Rattle.prv_lex.specs.declared.front.Front.TheVariants.{Gap, Token, Refused}
use Rattle.prv_lex.specs.declared.token.Tok.{Tok}
use Rattle.prv_lex.specs.declared.token.Token as t
use Rattle.prv_lex.proofs.FrontLemmas.{Moves, front-moves}
use Rattle.prv_lex.proofs.FileLemmas.{refused-read, tokens-not_refused, refusal-one}

-- the tokens that were found are those of the file up to a place: what the rest has comes behind them, and where the rest is refused the file is
pub record Scanned (file : List ℕ) (found : List t.Token) (place : ℕ) : Type 0 where
  pub in_file : place ≤ length file
  pub reads : (tokens : List t.Token) → Reads place (drop place file) tokens → Reads 0 file (found ++ tokens)
  pub refuses : (at : ℕ) (why : LexWhy) → Refuses place (drop place file) at why → Refuses 0 file at why

pub scanned-start : (file : List ℕ) → Scanned file [] 0
scanned-start file = record { in_file = omega arith; reads = λ tokens r. r; refuses = λ at why r. r }

-- what stands at a place moves on within the file
pub moves-at : (file : List ℕ) (place : ℕ) (f : Front) → place < length file → front_of (drop place file) ≡ f → Moves (length file - place) f
moves-at file place f inside is =
    let front : Moves (length (drop place file)) (front_of (drop place file)) = front-moves (drop place file) (omega (arith, length-drop place file)) in
    let here : Moves (length (drop place file)) f = subst (Moves (length (drop place file))) is front in
    subst (λ n. Moves n f) (length-drop place file) here

-- a blank is a gap of one byte
pub blank-front : (text : List ℕ) → is_blank (slice_index text 0) ≡ true → front_of text ≡ Gap 1
blank-front text is = rw is refl

pub scanned-gap : (file : List ℕ) (found : List t.Token) (place len : ℕ) → Scanned file found place → place < length file → front_of (drop place file) ≡ Gap len → Scanned file found (place + len)
scanned-gap file found place len so_far inside is =
    let moves : (0 < len) × (len ≤ length file - place) = moves-at file place (Gap len) inside is in
    let onward = drop-drop len place file in
    record {
      in_file = omega arith;
      reads = λ tokens r. so_far.reads tokens (gap len is (subst (λ text. Reads (place + len) text tokens) (sym onward) r));
      refuses = λ at why r. so_far.refuses at why (past_gap len is (subst (λ text. Refuses (place + len) text at why) (sym onward) r));
    }

pub scanned-token : (file : List ℕ) (found : List t.Token) (place len : ℕ) (tok : Tok) → Scanned file found place → place < length file → front_of (drop place file) ≡ Token tok len → Scanned file (found ++ record { tok = tok; place = place } ∷ []) (place + len)
scanned-token file found place len tok so_far inside is =
    let moves : (0 < len) × (len ≤ length file - place) = moves-at file place (Token tok len) inside is in
    let onward = drop-drop len place file in
    record {
      in_file = omega arith;
      reads = λ tokens r. subst (Reads 0 file) (sym (append_assoc found (record { tok = tok; place = place } ∷ []) tokens)) (so_far.reads (record { tok = tok; place = place } ∷ tokens) (token len tok is (subst (λ text. Reads (place + len) text tokens) (sym onward) r)));
      refuses = λ at why r. so_far.refuses at why (past_token len tok is (subst (λ text. Refuses (place + len) text at why) (sym onward) r));
    }

-- at the end of the file all tokens are found
pub scanned-end : (file : List ℕ) (found : List t.Token) (place : ℕ) → Scanned file found place → length file ≤ place → Reads 0 file found
scanned-end file found place so_far past =
    subst (Reads 0 file) (append-nil found) (so_far.reads [] (subst (λ text. Reads place text []) (sym (drop_all place file past)) ended))

refuses-here : (text : List ℕ) (place : ℕ) (why : LexWhy) → 0 < length text → front_of text ≡ Refused why → Refuses place text place why
refuses-here [] place why some is = absurd (omega arith)
refuses-here (b ∷ rest) place why some is = stuck is

pub scanned-refused : (file : List ℕ) (found : List t.Token) (place : ℕ) (why : LexWhy) → Scanned file found place → place < length file → front_of (drop place file) ≡ Refused why → Refuses 0 file place why
scanned-refused file found place why so_far inside is =
    so_far.refuses place why (refuses-here (drop place file) place why (omega (arith, length-drop place file)) is)

-- what stands at a place is read once it is added
pub scanned-added : (file : List ℕ) (found after : List t.Token) (place next : ℕ) (f : Front) → Scanned file found place → place < length file → f ≡ front_of (drop place file) → IsAdded f place found after next → Scanned file after next
scanned-added file found after place next (Gap len) so_far inside is added =
    subst (λ list. Scanned file list next) (sym added.0) (subst (Scanned file found) (sym added.1) (scanned-gap file found place len so_far inside (sym is)))
scanned-added file found after place next (Token tok len) so_far inside is added =
    subst (λ list. Scanned file list next) (sym added.0) (subst (Scanned file (found ++ record { tok = tok; place = place } ∷ [])) (sym added.1) (scanned-token file found place len tok so_far inside (sym is)))
scanned-added file found after place next (Refused why) so_far inside is added = absurd added

-- it goes on behind the place
pub added-moves : (file : List ℕ) (found after : List t.Token) (place next : ℕ) (f : Front) → place < length file → f ≡ front_of (drop place file) → IsAdded f place found after next → place < next
added-moves file found after place next (Gap len) inside is added =
    let moves : (0 < len) × (len ≤ length file - place) = moves-at file place (Gap len) inside (sym is) in omega (arith, added.1, moves.0)
added-moves file found after place next (Token tok len) inside is added =
    let moves : (0 < len) × (len ≤ length file - place) = moves-at file place (Token tok len) inside (sym is) in omega (arith, added.1, moves.0)
added-moves file found after place next (Refused why) inside is added = absurd added

-- and it lies in the file
pub len-fits : (file : List ℕ) (place : ℕ) (f : Front) → place < length file → f ≡ front_of (drop place file) → len_of f ≤ length file
len-fits file place (Gap len) inside is = let moves : (0 < len) × (len ≤ length file - place) = moves-at file place (Gap len) inside (sym is) in omega (arith, moves.1)
len-fits file place (Token tok len) inside is = let moves : (0 < len) × (len ≤ length file - place) = moves-at file place (Token tok len) inside (sym is) in omega (arith, moves.1)
len-fits file place (Refused why) inside is = omega arith

-- a scan stops for want of memory, or because the file is refused
abbrev pub Stopped : List ℕ → LexError → Type 0
Stopped file e = (e ≡ error.Memory) ⊎ ((place : ℕ) × (why : LexWhy) × (e ≡ error.Refused place why) × IsRefused file place why)

pub scan-stops : (file : List ℕ) (found : List t.Token) (place : ℕ) (f : Front) (e : LexError) → length file ≤ 65536 → Scanned file found place → place < length file → f ≡ front_of (drop place file) → StopsWith f place e → Stopped file e
scan-stops file found place (Gap len) e short so_far inside is stops = absurd stops
scan-stops file found place (Token tok len) e short so_far inside is stops = inl stops
scan-stops file found place (Refused why) e short so_far inside is stops = inr (place, why, stops, refused-read file place why short (scanned-refused file found place why so_far inside (sym is)))

pub is-err : {X : Type 0} (r : Result X LexError) (e : LexError) → IsErrAnd r (λ x. x ≡ e) → r ≡ Err e
is-err (Ok x) e h = absurd h
is-err (Err x) e h = ap Err h

pub stopped-refused : {X : Type 0} (file : List ℕ) (r : Result X LexError) (e : LexError) (place : ℕ) (why : LexWhy) → Stopped file e → r ≡ Err e → r ≡ Err (error.Refused place why) → IsRefused file place why
stopped-refused file r e place why (inl memory) is answered = absurd (cc)
stopped-refused file r e place why (inr (at, how, refused, holds)) is answered =
    let same : error.Refused at how ≡ error.Refused place why = cc in
    let same_place : at ≡ place = cc in
    let same_why : how ≡ why = cc in
    subst (IsRefused file place) same_why (subst (λ p. IsRefused file p how) same_place holds)

pub stopped-tokens : (file : List ℕ) (e : LexError) (tokens : List t.Token) → Stopped file e → HasTokens file tokens → e ≡ error.Memory
stopped-tokens file e tokens (inl memory) has = memory
stopped-tokens file e tokens (inr (at, how, refused, holds)) has = absurd (tokens-not_refused file tokens at how has holds)

pub stopped-refuses : (file : List ℕ) (e : LexError) (place : ℕ) (why : LexWhy) → Stopped file e → IsRefused file place why → (e ≡ error.Refused place why) ⊎ (e ≡ error.Memory)
stopped-refuses file e place why (inl memory) holds = inr memory
stopped-refuses file e place why (inr (at, how, refused, is)) holds = let one = refusal-one file at place how why is holds in inl (refused ∙ (rw (one.0, one.1) refl))
