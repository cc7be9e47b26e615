-- A text has one list of tokens or one refusal, and never both.
use Rattle.std.proofs.Common.{◌≡◌, ℕ, zero, suc, ◌+◌, ◌<◌, ◌≤◌, List, [], ◌∷◌, length, drop, subst, refl, arith, length-drop, ◌⊎◌, inl, inr}
use Rattle.prv_lex.specs.Readings.{PlacesRise}
use Rattle.prv_lex.specs.Fronts.{front_of}
use Rattle.prv_lex.proofs.Scanning.{Reads, ended, gap, token, Refuses, stuck, past_gap, past_token}
use Rattle.prv_lex.specs.declared.error.LexWhy.{LexWhy}
use Rattle.prv_lex.specs.declared.front.Front.{Front}
use Rattle.prv_lex.specs.declared.front.Front.TheVariants.{Gap, Token, Refused}
use Rattle.prv_lex.specs.declared.token.Tok.{Tok}
use Rattle.prv_lex.specs.declared.token.Token as t
use Rattle.prv_lex.proofs.FrontLemmas.{Moves, front-moves}

pub reads-unique : (place : ℕ) (text : List ℕ) (a b : List t.Token) → Reads place text a → Reads place text b → a ≡ b
reads-unique place text a b ended ended = refl
reads-unique place text a b ended (gap n f s) = absurd (cc)
reads-unique place text a b ended (token n k f s) = absurd (cc)
reads-unique place text a b (gap m e r) ended = absurd (cc)
reads-unique place text a b (gap m e r) (gap n f s) =
    let same : n ≡ m = cc in
    reads-unique (place + m) (drop m text) a b r (subst (λ len. Reads (place + len) (drop len text) b) same s)
reads-unique place text a b (gap m e r) (token n k f s) = absurd (cc)
reads-unique place text a b (token m j e r) ended = absurd (cc)
reads-unique place text a b (token m j e r) (gap n f s) = absurd (cc)
reads-unique place text (x ∷ a) (y ∷ b) (token m j e r) (token n k f s) =
    let same : n ≡ m = cc in
    let alike : j ≡ k = cc in
    let rest = reads-unique (place + m) (drop m text) a b r (subst (λ len. Reads (place + len) (drop len text) b) same s) in
    cc

pub reads-not_refused : (place : ℕ) (text : List ℕ) (a : List t.Token) (at : ℕ) (why : LexWhy) → Reads place text a → Refuses place text at why → ⊥
reads-not_refused place text a at why ended (past_gap n f s) = absurd (cc)
reads-not_refused place text a at why ended (past_token n k f s) = absurd (cc)
reads-not_refused place text a at why (gap m e r) (stuck f) = absurd (cc)
reads-not_refused place text a at why (gap m e r) (past_gap n f s) =
    let same : n ≡ m = cc in
    reads-not_refused (place + m) (drop m text) a at why r (subst (λ len. Refuses (place + len) (drop len text) at why) same s)
reads-not_refused place text a at why (gap m e r) (past_token n k f s) = absurd (cc)
reads-not_refused place text a at why (token m j e r) (stuck f) = absurd (cc)
reads-not_refused place text a at why (token m j e r) (past_gap n f s) = absurd (cc)
reads-not_refused place text (x ∷ a) at why (token m j e r) (past_token n k f s) =
    let same : n ≡ m = cc in
    reads-not_refused (place + m) (drop m text) a at why r (subst (λ len. Refuses (place + len) (drop len text) at why) same s)

pub refuses-unique : (place : ℕ) (text : List ℕ) (at by : ℕ) (why how : LexWhy) → Refuses place text at why → Refuses place text by how → (at ≡ by) × (why ≡ how)
refuses-unique place text at by why how (stuck e) (stuck f) = (refl, cc)
refuses-unique place text at by why how (stuck e) (past_gap n f s) = absurd (cc)
refuses-unique place text at by why how (stuck e) (past_token n k f s) = absurd (cc)
refuses-unique place text at by why how (past_gap m e r) (stuck f) = absurd (cc)
refuses-unique place text at by why how (past_gap m e r) (past_gap n f s) =
    let same : n ≡ m = cc in
    refuses-unique (place + m) (drop m text) at by why how r (subst (λ len. Refuses (place + len) (drop len text) by how) same s)
refuses-unique place text at by why how (past_gap m e r) (past_token n k f s) = absurd (cc)
refuses-unique place text at by why how (past_token m j e r) (stuck f) = absurd (cc)
refuses-unique place text at by why how (past_token m j e r) (past_gap n f s) = absurd (cc)
refuses-unique place text at by why how (past_token m j e r) (past_token n k f s) =
    let same : n ≡ m = cc in
    refuses-unique (place + m) (drop m text) at by why how r (subst (λ len. Refuses (place + len) (drop len text) by how) same s)

-- a text from a place on has tokens, or it is refused
Settled : ℕ → List ℕ → Type 0
Settled place text = ((tokens : List t.Token) × Reads place text tokens) ⊎ ((at : ℕ) × (why : LexWhy) × Refuses place text at why)

settled-gap : (place : ℕ) (text : List ℕ) (len : ℕ) → front_of text ≡ Gap len → Settled (place + len) (drop len text) → Settled place text
unfolding Settled
settled-gap place text len is (inl r) = inl (r.0, gap len is r.1)
settled-gap place text len is (inr r) = inr (r.0, r.1, past_gap len is r.2)

settled-token : (place : ℕ) (text : List ℕ) (len : ℕ) (tok : Tok) → front_of text ≡ Token tok len → Settled (place + len) (drop len text) → Settled place text
unfolding Settled
settled-token place text len tok is (inl r) = inl (record { tok = tok; place = place } ∷ r.0, token len tok is r.1)
settled-token place text len tok is (inr r) = inr (r.0, r.1, past_token len tok is r.2)

settled-here : (place b : ℕ) (rest : List ℕ) (why : LexWhy) → front_of (b ∷ rest) ≡ Refused why → Settled place (b ∷ rest)
unfolding Settled
settled-here place b rest why is = inr (place, why, stuck is)

settled-end : (place : ℕ) → Settled place []
unfolding Settled
settled-end place = inl ([], ended)

settled-front : (place b : ℕ) (rest : List ℕ) (f : Front) → front_of (b ∷ rest) ≡ f → Moves (length (b ∷ rest)) f → ((at len : ℕ) → 0 < len → len ≤ length (b ∷ rest) → Settled at (drop len (b ∷ rest))) → Settled place (b ∷ rest)
settled-front place b rest (Gap len) is moves later = settled-gap place (b ∷ rest) len is (later (place + len) len moves.0 moves.1)
settled-front place b rest (Token tok len) is moves later = settled-token place (b ∷ rest) len tok is (later (place + len) len moves.0 moves.1)
settled-front place b rest (Refused why) is moves later = settled-here place b rest why is

settled-within : (fuel place : ℕ) (text : List ℕ) → length text ≤ fuel → Settled place text
settled-within fuel place [] short = settled-end place
settled-within zero place (b ∷ rest) short = absurd (omega arith)
settled-within (suc fuel) place (b ∷ rest) short =
    settled-front place b rest (front_of (b ∷ rest)) refl (front-moves (b ∷ rest) (omega arith))
    (λ at len some inside. settled-within fuel at (drop len (b ∷ rest)) (omega (arith, length-drop len (b ∷ rest))))

pub settled : (place : ℕ) (text : List ℕ) → ((tokens : List t.Token) × Reads place text tokens) ⊎ ((at : ℕ) × (why : LexWhy) × Refuses place text at why)
unfolding Settled
settled place text = settled-within (length text) place text (omega arith)

-- the places of the tokens rise
pub reads-rise : (low high place : ℕ) (text : List ℕ) (tokens : List t.Token) → low ≤ place → place + length text ≤ high → Reads place text tokens → PlacesRise low high tokens
reads-rise low high place text tokens above below ended = tt
reads-rise low high place [] tokens above below (gap len is r) = absurd (cc)
reads-rise low high place (b ∷ rest) tokens above below (gap len is r) =
    let moves : Moves (length (b ∷ rest)) (Gap len) = subst (Moves (length (b ∷ rest))) is (front-moves (b ∷ rest) (omega arith)) in
    reads-rise low high (place + len) (drop len (b ∷ rest)) tokens (omega arith) (omega (arith, moves.1, length-drop len (b ∷ rest))) r
reads-rise low high place [] tokens above below (token len tok is r) = absurd (cc)
reads-rise low high place (b ∷ rest) (x ∷ tokens) above below (token len tok is r) =
    let moves : Moves (length (b ∷ rest)) (Token tok len) = subst (Moves (length (b ∷ rest))) is (front-moves (b ∷ rest) (omega arith)) in
    (above, omega arith, reads-rise (place + 1) high (place + len) (drop len (b ∷ rest)) tokens (omega (arith, moves.0)) (omega (arith, moves.1, length-drop len (b ∷ rest))) r)
