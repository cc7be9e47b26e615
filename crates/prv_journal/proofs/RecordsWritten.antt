-- What is left of the bytes of a journal by the writes of an append.
use Rattle.std.proofs.Common.{◌≡◌, ◌≢◌, ◌⊎◌, inl, inr, ⊎_elim, ℕ, ◌+◌, ◌≤◌, List, [], ◌∷◌, ◌++◌, length, take, drop, refl, sym, ◌∙◌, ap, arith, append_assoc, length-append}
use Rattle.std.proofs.lemmas.Bool.{cases_eq}
use Rattle.std.proofs.lemmas.List.{take_at, drop_at}
use Rattle.std.proofs.lemmas.Nat.{from_le_bytes-to_le_bytes_4}
use Rattle.std.specs.Int.{w32, to_le_bytes}
use Rattle.prv_disk.specs.Bytes.{overwritten, Torn}
use Rattle.prv_journal.specs.Records.{Payloads, payload_length}
use Rattle.prv_journal.specs.Ends.{Opens, EndsAt}
use Rattle.prv_journal.specs.Journals.{Has, HasOrWith}
use Rattle.prv_journal.proofs.RecordsRead.{opens-one, opens-more, records-end}

-- the front of a file and its closed gate stay
gate-split : (file : List ℕ) (end : ℕ) (payloads : List (List ℕ)) (part rest image : List ℕ) (ends : EndsAt file end payloads) → image ≡ take (end + 1) file ++ part ++ rest → image ≡ ends.front ++ (ends.gate ∷ (part ++ rest))
gate-split file end payloads part rest image ends is =
    let gate : List ℕ = ends.front ++ (ends.gate ∷ []) in
    let cut : take (end + 1) file ≡ gate =
    ap (take (end + 1)) (ends.split ∙ sym (append_assoc ends.front (ends.gate ∷ []) ends.rest))
    ∙ take_at gate ends.rest (end + 1) (omega (arith, length-append ends.front (ends.gate ∷ []), ends.end_is)) in
    is ∙ ap (λ (l : List ℕ). l ++ part ++ rest) cut ∙ append_assoc gate part rest ∙ append_assoc ends.front (ends.gate ∷ []) (part ++ rest)

-- what stands behind the closed gate doesn't count
pub behind-gate : (file : List ℕ) (end : ℕ) (payloads : List (List ℕ)) (part rest image : List ℕ) → EndsAt file end payloads → image ≡ take (end + 1) file ++ part ++ rest → EndsAt image end payloads
behind-gate file end payloads part rest image ends is = record {
  front = ends.front;
  gate = ends.gate;
  rest = part ++ rest;
  split = gate-split file end payloads part rest image ends is;
  closed = ends.closed;
  end_is = ends.end_is;
  opens = ends.opens;
}

-- a record stands behind the gate at `end`, and a closed gate behind the record
pub record Staged (file : List ℕ) (end : ℕ) (payloads : List (List ℕ)) (payload : List ℕ) : Type 0 where
  pub front : List ℕ
  pub gate : ℕ
  pub head : List ℕ
  pub rest : List ℕ
  pub split : file ≡ front ++ (gate ∷ (head ++ payload ++ (0 ∷ rest)))
  pub four : length head ≡ 4
  pub number : payload_length head ≡ length payload
  pub closed : gate ≢ 1
  pub end_is : end ≡ length front
  pub opens : Opens front payloads

pub staged : (file : List ℕ) (end : ℕ) (payloads : List (List ℕ)) (head payload rest image : List ℕ) → EndsAt file end payloads → length head ≡ 4 → payload_length head ≡ length payload
    → image ≡ take (end + 1) file ++ (head ++ payload ++ 0 ∷ []) ++ rest → Staged image end payloads payload
staged file end payloads head payload rest image ends four number is = record {
  front = ends.front;
  gate = ends.gate;
  head = head;
  rest = rest;
  split = gate-split file end payloads (head ++ payload ++ 0 ∷ []) rest image ends is ∙ ap (λ (l : List ℕ). ends.front ++ (ends.gate ∷ l)) (append_assoc (head ++ payload) (0 ∷ []) rest);
  four = four;
  number = number;
  closed = ends.closed;
  end_is = ends.end_is;
  opens = ends.opens;
}

-- with the gate open the record counts
pub opened : (file : List ℕ) (end : ℕ) (payloads : List (List ℕ)) (payload : List ℕ) (image : List ℕ) (s : Staged file end payloads payload) → length payload ≤ 17000000
    → image ≡ s.front ++ (1 ∷ (s.head ++ payload ++ (0 ∷ s.rest))) → EndsAt image (end + 5 + length payload) (payloads ++ payload ∷ [])
opened file end payloads payload image s short is =
    let block : List ℕ = 1 ∷ (s.head ++ payload) in
    record {
      front = s.front ++ block;
      gate = 0;
      rest = s.rest;
      split = is ∙ sym (append_assoc s.front block (0 ∷ s.rest));
      closed = omega arith;
      end_is = omega (arith, s.end_is, s.four, length-append s.front block, length-append s.head payload);
      opens = opens-more s.front block payloads (payload ∷ []) s.opens (opens-one s.head payload s.four s.number short);
    }

-- the gate is any byte
with-gate : (file : List ℕ) (end : ℕ) (payloads : List (List ℕ)) (payload : List ℕ) (x : ℕ) (image : List ℕ) (s : Staged file end payloads payload) → length payload ≤ 17000000
    → image ≡ s.front ++ (x ∷ (s.head ++ payload ++ (0 ∷ s.rest))) → (x ≡ 1) ⊎ (x ≢ 1)
    → EndsAt image end payloads ⊎ EndsAt image (end + 5 + length payload) (payloads ++ payload ∷ [])
with-gate file end payloads payload x image s short is (inr closed) = inl (record {
  front = s.front;
  gate = x;
  rest = s.head ++ payload ++ (0 ∷ s.rest);
  split = is;
  closed = closed;
  end_is = s.end_is;
  opens = s.opens;
})
with-gate file end payloads payload x image s short is (inl open_gate) = inr (opened file end payloads payload image s short (is ∙ ap (λ (g : ℕ). s.front ++ (g ∷ (s.head ++ payload ++ (0 ∷ s.rest)))) open_gate))

front-cut : (file : List ℕ) (end : ℕ) (payloads : List (List ℕ)) (payload : List ℕ) (s : Staged file end payloads payload) → take end file ≡ s.front
front-cut file end payloads payload s = ap (take end) s.split ∙ take_at s.front (s.gate ∷ (s.head ++ payload ++ (0 ∷ s.rest))) end (sym s.end_is)

back-cut : (file : List ℕ) (end : ℕ) (payloads : List (List ℕ)) (payload : List ℕ) (s : Staged file end payloads payload) → drop (end + 1) file ≡ s.head ++ payload ++ (0 ∷ s.rest)
back-cut file end payloads payload s =
    let gate : List ℕ = s.front ++ (s.gate ∷ []) in
    let back : List ℕ = s.head ++ payload ++ (0 ∷ s.rest) in
    ap (drop (end + 1)) (s.split ∙ sym (append_assoc s.front (s.gate ∷ []) back))
    ∙ drop_at gate back (end + 1) (omega (arith, length-append s.front (s.gate ∷ []), s.end_is))

-- one byte over the gate, or nothing: then the file would be shorter
pub torn-gate : (file : List ℕ) (end : ℕ) (payloads : List (List ℕ)) (payload image : List ℕ) (s : Staged file end payloads payload) → length payload ≤ 17000000 → Torn end 1 file image
    → EndsAt image end payloads ⊎ EndsAt image (end + 5 + length payload) (payloads ++ payload ∷ [])
torn-gate file end payloads payload image s short torn = by-part torn.part torn.within torn.others
  where
    back : List ℕ
    back = s.head ++ payload ++ (0 ∷ s.rest)

    by-part : (part : List ℕ) → length part ≤ 1 → image ≡ take end file ++ part ++ drop (end + 1) file → EndsAt image end payloads ⊎ EndsAt image (end + 5 + length payload) (payloads ++ payload ∷ [])
    by-part [] le is =
        let short_image : length image ≡ length s.front + length back =
        ap length (is ∙ ap (λ (l : List ℕ). l ++ [] ++ drop (end + 1) file) (front-cut file end payloads payload s) ∙ ap (λ (l : List ℕ). s.front ++ [] ++ l) (back-cut file end payloads payload s) ∙ append_assoc s.front [] back)
        ∙ length-append s.front back in
        let long_file : length file ≡ length s.front + (length back + 1) = omega (arith, ap length s.split, length-append s.front (s.gate ∷ back)) in
        absurd (omega (arith, torn.no_shorter, short_image, long_file))
    by-part (x ∷ []) le is =
        with-gate file end payloads payload x image s short
        (is ∙ ap (λ (l : List ℕ). l ++ (x ∷ []) ++ drop (end + 1) file) (front-cut file end payloads payload s) ∙ ap (λ (l : List ℕ). s.front ++ (x ∷ []) ++ l) (back-cut file end payloads payload s) ∙ append_assoc s.front (x ∷ []) back)
        (cases_eq x 1)
    by-part (x ∷ y ∷ part) le is = absurd (omega arith)

-- the gate is opened
pub open-gate : (file : List ℕ) (end : ℕ) (payloads : List (List ℕ)) (payload image : List ℕ) (s : Staged file end payloads payload) → length payload ≤ 17000000 → image ≡ overwritten file end (1 ∷ [])
    → EndsAt image (end + 5 + length payload) (payloads ++ payload ∷ [])
open-gate file end payloads payload image s short is =
    let back : List ℕ = s.head ++ payload ++ (0 ∷ s.rest) in
    opened file end payloads payload image s short
    (is ∙ ap (λ (l : List ℕ). l ++ (1 ∷ []) ++ drop (end + 1) file) (front-cut file end payloads payload s) ∙ ap (λ (l : List ℕ). s.front ++ (1 ∷ []) ++ l) (back-cut file end payloads payload s) ∙ append_assoc s.front (1 ∷ []) back)

-- there is room for a record behind the gate
pub ends-room : (file : List ℕ) (end : ℕ) (payloads : List (List ℕ)) → EndsAt file end payloads → end + 1 ≤ length file
ends-room file end payloads ends = omega (arith, ap length ends.split, length-append ends.front (ends.gate ∷ ends.rest), ends.end_is)

-- what is staged is a record and a closed gate
pub staged-file : (file : List ℕ) (end : ℕ) (payloads : List (List ℕ)) (payload piece new : List ℕ) → EndsAt file end payloads → length payload ≤ 17000000
    → piece ≡ to_le_bytes w32 (length payload) ++ payload ++ 0 ∷ [] → new ≡ overwritten file (end + 1) piece → Staged new end payloads payload
staged-file file end payloads payload piece new ends short piece_is is =
    staged file end payloads (to_le_bytes w32 (length payload)) payload (drop (end + 1 + length piece) file) new ends
    refl (from_le_bytes-to_le_bytes_4 (length payload) (omega arith))
    (is ∙ ap (λ (l : List ℕ). take (end + 1) file ++ l ++ drop (end + 1 + length piece) file) piece_is)

-- it still ends at its gate
pub staged-ends : (file : List ℕ) (end : ℕ) (payloads : List (List ℕ)) (payload : List ℕ) → Staged file end payloads payload → EndsAt file end payloads
staged-ends file end payloads payload s = record {
  front = s.front;
  gate = s.gate;
  rest = s.head ++ payload ++ (0 ∷ s.rest);
  split = s.split;
  closed = s.closed;
  end_is = s.end_is;
  opens = s.opens;
}

-- what a crash leaves of each of the two writes
pub stage-left : (file : List ℕ) (end count : ℕ) (payloads : List (List ℕ)) (image : List ℕ) → EndsAt file end payloads → Torn (end + 1) count file image → Has (Payloads payloads) image
stage-left file end count payloads image ends torn =
    records-end image end payloads (behind-gate file end payloads torn.part (drop (end + 1 + count) file) image ends torn.others)

pub gate-left : (file : List ℕ) (end : ℕ) (payloads : List (List ℕ)) (payload image : List ℕ) → Staged file end payloads payload → length payload ≤ 17000000 → Torn end 1 file image → HasOrWith payloads payload image
gate-left file end payloads payload image s short torn =
    ⊎_elim (λ before. inl (records-end image end payloads before)) (λ after. inr (records-end image (end + 5 + length payload) (payloads ++ payload ∷ []) after))
    (torn-gate file end payloads payload image s short torn)
