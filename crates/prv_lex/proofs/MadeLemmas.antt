-- What is read is what the text is made of.
use Rattle.std.proofs.Common.{◌≡◌, ℕ, ◌+◌, ◌≤◌, List, [], ◌∷◌, ◌++◌, length, take, drop, sym, subst, arith, append_assoc, append-nil, length-append, take-append-drop}
use Rattle.std.proofs.lemmas.List.{length-take-le}
use Rattle.prv_lex.specs.Fronts.{front_of}
use Rattle.prv_lex.proofs.Scanning.{Reads, ended, gap, token, Refuses, stuck, past_gap, past_token}
use Rattle.prv_lex.specs.Spacings.{IsSpacing, none, more, BeginsNoComment}
use Rattle.prv_lex.specs.Readings.{IsToken, IsMadeOf, last, next, IsWrong, StopsAt, stop, past}
use Rattle.prv_lex.specs.declared.error.LexWhy.{LexWhy}
use Rattle.prv_lex.specs.declared.front.Front.TheVariants.{Gap, Token}
use Rattle.prv_lex.specs.declared.token.Tok.{Tok}
use Rattle.prv_lex.specs.declared.token.Token as t
use Rattle.prv_lex.proofs.FrontLemmas.{Moves, front-moves}
use Rattle.prv_lex.proofs.SpellingLemmas.{IsTokenAt, token-at}
use Rattle.prv_lex.proofs.SpacingLemmas.{gap-spacing}
use Rattle.prv_lex.proofs.WrongLemmas.{wrong-at}

-- one more blank or comment in front
made-gap : (place at : ℕ) (first text : List ℕ) (tokens : List t.Token) → at ≡ place + length first → IsSpacing first text → IsMadeOf at text tokens → IsMadeOf place (first ++ text) tokens
made-gap place at first text tokens there spacing (last spaces spacings) =
    last (first ++ spaces) (more first spaces (subst (IsSpacing first) (sym (append-nil spaces)) spacing) spacings)
made-gap place at first text (x ∷ tokens) there spacing (next tok spaces bytes rest spacings is made) =
    let wide = length-append first spaces in
    let begin : place + length (first ++ spaces) ≡ at + length spaces = omega (arith, wide) in
    let made_there : IsMadeOf (place + length (first ++ spaces) + length bytes) rest tokens = subst (λ n. IsMadeOf (n + length bytes) rest tokens) (sym begin) made in
    let whole = next tok (first ++ spaces) bytes rest (more first spaces spacing spacings) is made_there in
    subst (λ n. IsMadeOf place (first ++ (spaces ++ (bytes ++ rest))) (record { tok = tok; place = n } ∷ tokens)) begin (subst (λ l. IsMadeOf place l (record { tok = tok; place = place + length (first ++ spaces) } ∷ tokens)) (append_assoc first spaces (bytes ++ rest)) whole)

-- one more token in front
made-token : (place len : ℕ) (text : List ℕ) (tok : Tok) (tokens : List t.Token) → len ≤ length text → IsTokenAt text tok len → IsMadeOf (place + len) (drop len text) tokens → IsMadeOf place text (record { tok = tok; place = place } ∷ tokens)
made-token place len text tok tokens inside at made =
    let pieces = take-append-drop len text in
    let long = length-take-le len text inside in
    let start : place + 0 ≡ place = omega arith in
    let made_there : IsMadeOf (place + 0 + length (take len text)) (drop len text) tokens = subst (λ n. IsMadeOf n (drop len text) tokens) (omega (arith, long)) made in
    let whole = next {place = place} tok [] (take len text) (drop len text) none (record { plain = subst BeginsNoComment (sym pieces) at.plain; spelled = at.spelled; longest = at.longest }) made_there in
    subst (λ n. IsMadeOf place text (record { tok = tok; place = n } ∷ tokens)) start (subst (λ l. IsMadeOf place l (record { tok = tok; place = place + 0 } ∷ tokens)) pieces whole)

-- what stands at the front lies in the text
inside-gap : (text : List ℕ) (len : ℕ) → front_of text ≡ Gap len → len ≤ length text
inside-gap [] len is = absurd (cc)
inside-gap (b ∷ rest) len is = let moves : Moves (length (b ∷ rest)) (Gap len) = subst (Moves (length (b ∷ rest))) is (front-moves (b ∷ rest) (omega arith)) in moves.1

inside-token : (text : List ℕ) (tok : Tok) (len : ℕ) → front_of text ≡ Token tok len → len ≤ length text
inside-token [] tok len is = absurd (cc)
inside-token (b ∷ rest) tok len is = let moves : Moves (length (b ∷ rest)) (Token tok len) = subst (Moves (length (b ∷ rest))) is (front-moves (b ∷ rest) (omega arith)) in moves.1

pub reads-made : (place : ℕ) (text : List ℕ) (tokens : List t.Token) → Reads place text tokens → IsMadeOf place text tokens
reads-made place text tokens ended = last [] none
reads-made place text tokens (gap len is r) =
    let long = length-take-le len text (inside-gap text len is) in
    subst (λ l. IsMadeOf place l tokens) (take-append-drop len text)
    (made-gap place (place + len) (take len text) (drop len text) tokens (omega (arith, long)) (gap-spacing text len is) (reads-made (place + len) (drop len text) tokens r))
reads-made place text (x ∷ tokens) (token len tok is r) =
    made-token place len text tok tokens (inside-token text tok len is) (token-at text tok len is) (reads-made (place + len) (drop len text) tokens r)

-- one more blank or comment in front of what stops
stops-gap : (place at : ℕ) (first text : List ℕ) (stopped : ℕ) (why : LexWhy) → at ≡ place + length first → IsSpacing first text → StopsAt at text stopped why → StopsAt place (first ++ text) stopped why
stops-gap place at first text stopped why there spacing (stop spaces rest spacings wrong) =
    let wide = length-append first spaces in
    let begin : place + length (first ++ spaces) ≡ at + length spaces = omega (arith, wide) in
    let whole = stop {place = place} (first ++ spaces) rest (more first spaces spacing spacings) wrong in
    subst (λ n. StopsAt place (first ++ (spaces ++ rest)) n why) begin (subst (λ l. StopsAt place l (place + length (first ++ spaces)) why) (append_assoc first spaces rest) whole)
stops-gap place at first text stopped why there spacing (past tok spaces bytes rest spacings is stops) =
    let wide = length-append first spaces in
    let begin : at + length spaces + length bytes ≡ place + length (first ++ spaces) + length bytes = omega (arith, wide) in
    let whole = past {place = place} tok (first ++ spaces) bytes rest (more first spaces spacing spacings) is (subst (λ n. StopsAt n rest stopped why) begin stops) in
    subst (λ l. StopsAt place l stopped why) (append_assoc first spaces (bytes ++ rest)) whole

-- one more token in front of what stops
stops-token : (place len : ℕ) (text : List ℕ) (tok : Tok) (stopped : ℕ) (why : LexWhy) → len ≤ length text → IsTokenAt text tok len → StopsAt (place + len) (drop len text) stopped why → StopsAt place text stopped why
stops-token place len text tok stopped why inside at stops =
    let pieces = take-append-drop len text in
    let long = length-take-le len text inside in
    let there : place + len ≡ place + 0 + length (take len text) = omega (arith, long) in
    let is : IsToken tok (take len text) (drop len text) = record { plain = subst BeginsNoComment (sym pieces) at.plain; spelled = at.spelled; longest = at.longest } in
    subst (λ l. StopsAt place l stopped why) pieces (past {place = place} tok [] (take len text) (drop len text) none is (subst (λ n. StopsAt n (drop len text) stopped why) there stops))

stops-here : (place : ℕ) (text : List ℕ) (why : LexWhy) → IsWrong why text → StopsAt place text place why
stops-here place text why wrong = let start : place + 0 ≡ place = omega arith in subst (λ n. StopsAt place text n why) start (stop {place = place} [] text none wrong)

-- where a reading is refused, the text stops
pub refuses-stops : (place : ℕ) (text : List ℕ) (at : ℕ) (why : LexWhy) → Refuses place text at why → StopsAt place text at why
refuses-stops place (b ∷ rest) at why (stuck e) = stops-here place (b ∷ rest) why (wrong-at (b ∷ rest) why (omega arith) e)
refuses-stops place text at why (past_gap len is r) =
    let long = length-take-le len text (inside-gap text len is) in
    subst (λ l. StopsAt place l at why) (take-append-drop len text)
    (stops-gap place (place + len) (take len text) (drop len text) at why (omega (arith, long)) (gap-spacing text len is) (refuses-stops (place + len) (drop len text) at why r))
refuses-stops place text at why (past_token len tok is r) =
    stops-token place len text tok at why (inside-token text tok len is) (token-at text tok len is) (refuses-stops (place + len) (drop len text) at why r)
