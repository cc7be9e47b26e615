-- What is read from the bytes of a journal.
use Rattle.std.proofs.Common.{◌≡◌, ◌≢◌, ℕ, zero, suc, ◌+◌, ◌<◌, ◌≤◌, ◌==◌, nat_le, Bool, true, false, if◌then◌else◌, List, [], ◌∷◌, ◌++◌, length, take, drop, refl, sym, ◌∙◌, ap, arith, append_assoc, length-append}
use Rattle.std.proofs.lemmas.Bool.Decides.{nat_tests}
use Rattle.std.proofs.lemmas.List.{take_at, drop_at, drop-drop}
use Rattle.prv_journal.specs.Records.{Records, Payloads, Damaged, records, records_from, is_whole, payload, payload_length, after_payload}
use Rattle.prv_journal.specs.Ends.{after_all, Opens, EndsAt}

-- bytes that are skipped
pub from-skip : (skip offset : ℕ) (bytes : List ℕ) → records_from skip offset bytes ≡ records_from 0 (offset + skip) (drop skip bytes)
from-skip zero offset bytes = ap (λ (o : ℕ). records_from 0 o bytes) (omega arith)
from-skip (suc skip) offset [] = refl
from-skip (suc skip) offset (byte ∷ bytes) =
    from-skip skip (offset + 1) bytes ∙ ap (λ (o : ℕ). records_from 0 o (drop skip bytes)) (omega arith)

pub from-closed : (offset gate : ℕ) (bytes : List ℕ) → gate ≢ 1 → records_from 0 offset (gate ∷ bytes) ≡ Payloads []
from-closed offset gate bytes closed =
    let test : (gate == 1) ≡ false = grind (arith, nat_tests) in
    ap (λ (b : Bool). if b then (if is_whole bytes then after_payload (payload bytes) (records_from (4 + payload_length bytes) (offset + 1) bytes) else Damaged offset (length bytes)) else Payloads []) test

whole : (n : ℕ) (bytes : List ℕ) → payload_length bytes ≡ n → n ≤ 17000000 → 4 + n < length bytes → is_whole bytes ≡ true
whole n bytes is short long = grind (arith, nat_tests)

-- one open gate with a whole record
pub opens-one : (head payload : List ℕ) → length head ≡ 4 → payload_length head ≡ length payload → length payload ≤ 17000000 → Opens (1 ∷ (head ++ payload)) (payload ∷ [])
opens-one [] body four is short = absurd (omega arith)
opens-one (a ∷ []) body four is short = absurd (omega arith)
opens-one (a ∷ b ∷ []) body four is short = absurd (omega arith)
opens-one (a ∷ b ∷ c ∷ []) body four is short = absurd (omega arith)
opens-one (a ∷ b ∷ c ∷ d ∷ e ∷ head) body four is short = absurd (omega arith)
opens-one (a ∷ b ∷ c ∷ d ∷ []) body four is short = λ offset tail some.
    let n : ℕ = length body in
    let bytes : List ℕ = a ∷ b ∷ c ∷ d ∷ (body ++ tail) in
    let n_is : payload_length bytes ≡ n = is in
    let long : length bytes ≡ 4 + (n + length tail) = omega (arith, length-append body tail) in
    let is_one : is_whole bytes ≡ true = whole n bytes n_is short (omega (arith, long, some)) in
    let body_is : payload bytes ≡ body = ap (λ (k : ℕ). take k (body ++ tail)) n_is ∙ take_at body tail n refl in
    let rest_is : drop (4 + n) bytes ≡ tail = sym (drop-drop n 4 bytes) ∙ drop_at body tail n refl in
    ap (λ (t : Bool). if t then after_payload (payload bytes) (records_from (4 + payload_length bytes) (offset + 1) bytes) else Damaged offset (length bytes)) is_one
    ∙ ap (λ (p : List ℕ). after_payload p (records_from (4 + payload_length bytes) (offset + 1) bytes)) body_is
    ∙ ap (λ (k : ℕ). after_payload body (records_from (4 + k) (offset + 1) bytes)) n_is
    ∙ ap (after_payload body) (from-skip (4 + n) (offset + 1) bytes ∙ ap (λ (l : List ℕ). records_from 0 (offset + 1 + (4 + n)) l) rest_is ∙ ap (λ (o : ℕ). records_from 0 o tail) (omega arith))

pub opens-none : Opens [] []
opens-none = λ offset tail some. ap (λ (o : ℕ). records_from 0 o tail) (omega arith)

all-append : (first others : List (List ℕ)) (found : Records) → after_all first (after_all others found) ≡ after_all (first ++ others) found
all-append [] others found = refl
all-append (p ∷ first) others found = ap (after_payload p) (all-append first others found)

-- and more of them
pub opens-more : (front more : List ℕ) (payloads others : List (List ℕ)) → Opens front payloads → Opens more others → Opens (front ++ more) (payloads ++ others)
opens-more front more payloads others opens then_opens = λ offset tail some.
    let behind : 0 < length (more ++ tail) = omega (arith, length-append more tail, some) in
    ap (records_from 0 offset) (append_assoc front more tail)
    ∙ opens offset (more ++ tail) behind
    ∙ ap (after_all payloads) (then_opens (offset + length front) tail some)
    ∙ all-append payloads others (records_from 0 (offset + length front + length more) tail)
    ∙ ap (λ (o : ℕ). after_all (payloads ++ others) (records_from 0 o tail)) (omega (arith, length-append front more))

pub all-payloads : (payloads : List (List ℕ)) → after_all payloads (Payloads []) ≡ Payloads payloads
all-payloads [] = refl
all-payloads (p ∷ payloads) = ap (after_payload p) (all-payloads payloads)

pub all-damaged : (payloads : List (List ℕ)) (offset found : ℕ) → after_all payloads (Damaged offset found) ≡ Damaged offset found
all-damaged [] offset found = refl
all-damaged (p ∷ payloads) offset found = ap (after_payload p) (all-damaged payloads offset found)

-- in a file of two bytes or more the first byte is a gate
pub records-long : (file : List ℕ) → 1 < length file → records file ≡ records_from 0 0 file
records-long file long =
    let test : nat_le (length file) 1 ≡ false = grind (arith, nat_tests) in
    ap (λ (b : Bool). if b then Payloads [] else records_from 0 0 file) test

-- a file that ends at a closed gate has these records
pub records-end : (file : List ℕ) (end : ℕ) (payloads : List (List ℕ)) → EndsAt file end payloads → records file ≡ Payloads payloads
records-end file end payloads ends =
    let read : records_from 0 0 file ≡ Payloads payloads =
    ap (records_from 0 0) ends.split
    ∙ ends.opens 0 (ends.gate ∷ ends.rest) (omega arith)
    ∙ ap (after_all payloads) (from-closed (0 + length ends.front) ends.gate ends.rest ends.closed)
    ∙ all-payloads payloads in
    let at : records (ends.front ++ (ends.gate ∷ ends.rest)) ≡ records_from 0 0 (ends.front ++ (ends.gate ∷ ends.rest)) = short ends.front ends.gate ends.rest ends.closed in
    ap records ends.split ∙ at ∙ ap (records_from 0 0) (sym ends.split) ∙ read
  where
    short : (front : List ℕ) (gate : ℕ) (rest : List ℕ) → gate ≢ 1 → records (front ++ (gate ∷ rest)) ≡ records_from 0 0 (front ++ (gate ∷ rest))
    short [] gate [] closed = sym (from-closed 0 gate [] closed)
    short [] gate (byte ∷ rest) closed = records-long (gate ∷ byte ∷ rest) (omega arith)
    short (x ∷ front) gate rest closed = records-long (x ∷ (front ++ (gate ∷ rest))) (omega (arith, length-append front (gate ∷ rest)))
