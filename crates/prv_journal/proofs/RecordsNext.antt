-- How the bytes of a journal are read on, record by record.
use Rattle.std.proofs.Common.{◌≡◌, ◌≢◌, ℕ, suc, ◌+◌, ◌-◌, ◌<◌, ◌≤◌, Bool, true, false, if◌then◌else◌, List, [], ◌∷◌, ◌++◌, length, take, drop, get_or, refl, sym, ◌∙◌, ap, subst, arith, append_assoc, length-append, length-drop}
use Rattle.std.proofs.lemmas.Bool.Decides.{nat_tests}
use Rattle.std.proofs.lemmas.List.{take_at, take-append-drop, length-take-le}
use Rattle.std.proofs.Math.Seq.{drop-cons, take-length}
use Rattle.prv_journal.specs.Records.{Damaged, records, records_from, is_whole, payload, payload_length, after_payload}
use Rattle.prv_journal.specs.Ends.{after_all, Opens, EndsAt}
use Rattle.prv_journal.proofs.RecordsRead.{opens-one, opens-more, all-damaged, records-long}

-- all from a place on
pub to-end : (bytes : List ℕ) (k : ℕ) → take (length bytes - k) (drop k bytes) ≡ drop k bytes
to-end bytes k = ap (λ (n : ℕ). take n (drop k bytes)) (sym (length-drop k bytes)) ∙ take-length (drop k bytes)

whole-four : (bytes : List ℕ) → is_whole bytes ≡ true → 4 ≤ length bytes
whole-four bytes is = grind (arith, nat_tests)

whole-short : (bytes : List ℕ) → is_whole bytes ≡ true → payload_length bytes ≤ 17000000
whole-short bytes is = grind (arith, nat_tests)

whole-long : (bytes : List ℕ) → is_whole bytes ≡ true → 4 + payload_length bytes < length bytes
whole-long bytes is = grind (arith, nat_tests)

-- the length stands in the first four bytes
head-number : (bytes : List ℕ) → 4 ≤ length bytes → payload_length (take 4 bytes) ≡ payload_length bytes
head-number [] four = absurd (omega arith)
head-number (a ∷ []) four = absurd (omega arith)
head-number (a ∷ b ∷ []) four = absurd (omega arith)
head-number (a ∷ b ∷ c ∷ []) four = absurd (omega arith)
head-number (a ∷ b ∷ c ∷ d ∷ rest) four = refl

-- a whole record: its length in four bytes, its payload, and more
pub record Whole (bytes body : List ℕ) : Type 0 where
  pub head : List ℕ
  pub tail : List ℕ
  pub split : bytes ≡ head ++ body ++ tail
  pub four : length head ≡ 4
  pub number : payload_length head ≡ length body
  pub short : length body ≤ 17000000
  pub some : 0 < length tail

pub whole-split : (bytes body : List ℕ) → is_whole bytes ≡ true → body ≡ payload bytes → Whole bytes body
whole-split bytes body is body_is =
    let n : ℕ = payload_length bytes in
    let back : List ℕ = drop 4 bytes in
    let four : 4 ≤ length bytes = whole-four bytes is in
    let long : 4 + n < length bytes = whole-long bytes is in
    let back_long : length back ≡ length bytes - 4 = length-drop 4 bytes in
    let body_long : length body ≡ n = ap length body_is ∙ length-take-le n back (omega (arith, back_long, long)) in
    record {
      head = take 4 bytes;
      tail = drop n back;
      split = sym (append_assoc (take 4 bytes) body (drop n back)
          ∙ ap (λ (l : List ℕ). take 4 bytes ++ (l ++ drop n back)) body_is
          ∙ ap (λ (l : List ℕ). take 4 bytes ++ l) (take-append-drop n back)
          ∙ take-append-drop 4 bytes);
      four = length-take-le 4 bytes four;
      number = head-number bytes four ∙ sym body_long;
      short = omega (arith, body_long, whole-short bytes is);
      some = omega (arith, length-drop n back, back_long, long);
    }

-- a file is what stands before a byte, the byte, and what stands behind it
gate-at : (bytes : List ℕ) (end : ℕ) → end < length bytes → bytes ≡ take end bytes ++ (get_or bytes end 0 ∷ drop (end + 1) bytes)
gate-at bytes end within =
    let next : suc end ≡ end + 1 = omega arith in
    sym (take-append-drop end bytes)
    ∙ ap (λ (l : List ℕ). take end bytes ++ l) (drop-cons bytes end 0 within ∙ ap (λ (k : ℕ). get_or bytes end 0 ∷ drop k bytes) next)

-- an open gate with a whole record
record-at : (bytes : List ℕ) (end : ℕ) (body : List ℕ) → end < length bytes → get_or bytes end 0 ≡ 1 → (w : Whole (drop (end + 1) bytes) body)
    → bytes ≡ take end bytes ++ (1 ∷ (w.head ++ body)) ++ w.tail
record-at bytes end body within open_gate w =
    gate-at bytes end within
    ∙ ap (λ (g : ℕ). take end bytes ++ (g ∷ drop (end + 1) bytes)) open_gate
    ∙ ap (λ (l : List ℕ). take end bytes ++ (1 ∷ l)) w.split
    ∙ sym (append_assoc (take end bytes) (1 ∷ (w.head ++ body)) w.tail)

block-long : (bytes : List ℕ) (end : ℕ) (body : List ℕ) → end < length bytes → (w : Whole (drop (end + 1) bytes) body) → length (take end bytes ++ (1 ∷ (w.head ++ body))) ≡ end + (5 + length body)
block-long bytes end body within w =
    omega (arith, length-append (take end bytes) (1 ∷ (w.head ++ body)), length-append w.head body, w.four, length-take-le end bytes (omega arith))

-- behind it stands one more gate
pub read-within : (bytes : List ℕ) (end : ℕ) (body : List ℕ) → end < length bytes → get_or bytes end 0 ≡ 1 → Whole (drop (end + 1) bytes) body → end + (5 + length body) < length bytes
read-within bytes end body within open_gate w =
    omega (arith, ap length (record-at bytes end body within open_gate w), length-append (take end bytes ++ (1 ∷ (w.head ++ body))) w.tail, block-long bytes end body within w, w.some)

-- and up to it all gates are open
pub read-opens : (bytes : List ℕ) (end : ℕ) (payloads : List (List ℕ)) (body : List ℕ) → end < length bytes → get_or bytes end 0 ≡ 1 → Opens (take end bytes) payloads → Whole (drop (end + 1) bytes) body
    → Opens (take (end + (5 + length body)) bytes) (payloads ++ body ∷ [])
read-opens bytes end payloads body within open_gate opens w =
    let block : List ℕ = 1 ∷ (w.head ++ body) in
    let cut : take (end + (5 + length body)) bytes ≡ take end bytes ++ block =
    ap (take (end + (5 + length body))) (record-at bytes end body within open_gate w)
    ∙ take_at (take end bytes ++ block) w.tail (end + (5 + length body)) (block-long bytes end body within w) in
    subst (λ (l : List ℕ). Opens l (payloads ++ body ∷ [])) (sym cut)
    (opens-more (take end bytes) block payloads (body ∷ []) opens (opens-one w.head body w.four w.number w.short))

-- an open gate with no whole record
pub read-damaged : (bytes : List ℕ) (end : ℕ) (payloads : List (List ℕ)) → 1 < length bytes → end < length bytes → get_or bytes end 0 ≡ 1 → Opens (take end bytes) payloads → is_whole (drop (end + 1) bytes) ≡ false
    → records bytes ≡ Damaged end (length (drop (end + 1) bytes))
read-damaged bytes end payloads long within open_gate opens cut =
    let front : List ℕ = take end bytes in
    let behind : List ℕ = drop (end + 1) bytes in
    let here : 0 + length front ≡ end = omega (arith, length-take-le end bytes (omega arith)) in
    records-long bytes long
    ∙ ap (records_from 0 0) (gate-at bytes end within ∙ ap (λ (g : ℕ). front ++ (g ∷ behind)) open_gate)
    ∙ opens 0 (1 ∷ behind) (omega arith)
    ∙ ap (λ (b : Bool). after_all payloads (if b then after_payload (payload behind) (records_from (4 + payload_length behind) (0 + length front + 1) behind) else Damaged (0 + length front) (length behind))) cut
    ∙ all-damaged payloads (0 + length front) (length behind)
    ∙ ap (λ (o : ℕ). Damaged o (length behind)) here

-- a closed gate
pub read-ends : (bytes : List ℕ) (end : ℕ) (payloads : List (List ℕ)) → end < length bytes → get_or bytes end 0 ≢ 1 → Opens (take end bytes) payloads → EndsAt bytes end payloads
read-ends bytes end payloads within closed opens = record {
  front = take end bytes;
  gate = get_or bytes end 0;
  rest = drop (end + 1) bytes;
  split = gate-at bytes end within;
  closed = closed;
  end_is = sym (length-take-le end bytes (omega arith));
  opens = opens;
}
