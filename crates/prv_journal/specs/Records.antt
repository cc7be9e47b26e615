-- What a journal's bytes stand for. The file is gate, record, gate, record, .., gate.
use Rattle.std.specs.Prelude.{ℕ, zero, suc, ◌+◌, ◌==◌, nat_lt, nat_le, ◌&&◌, Bool, if◌then◌else◌, List, [], ◌∷◌, ◌++◌, length, take, drop}
use Rattle.std.specs.Int.{w32, from_le_bytes}
use Rattle.prv_journal.specs.declared.reading.TheConstants.{MAX_PAYLOAD}

-- the payloads of all records behind open gates, or the first open gate with no whole record: its offset, and how many bytes stand behind it
pub data Records : Type 0 where
  Payloads : (payloads : List (List ℕ)) → Records
  Damaged : (offset found : ℕ) → Records

-- the length of the payload, in the first four bytes of a record, the lowest first
abbrev pub payload_length : List ℕ → ℕ
payload_length bytes = from_le_bytes w32 bytes

-- four bytes of length, a payload of no more than the limit, and one more gate stand here
abbrev pub is_whole : List ℕ → Bool
is_whole bytes = nat_le 4 (length bytes) && nat_le (payload_length bytes) MAX_PAYLOAD && nat_lt (4 + payload_length bytes) (length bytes)

abbrev pub payload : List ℕ → List ℕ
payload bytes = take (payload_length bytes) (drop 4 bytes)

-- with this payload before the others
abbrev pub after_payload : List ℕ → Records → Records
after_payload first (Payloads others) = Payloads (first ∷ others)
after_payload first (Damaged offset found) = Damaged offset found

-- what stands at `offset`: so many bytes to skip, and then a gate
abbrev pub records_from : ℕ → ℕ → List ℕ → Records
records_from skip offset [] = Payloads []
records_from (suc skip) offset (byte ∷ bytes) = records_from skip (offset + 1) bytes
records_from zero offset (gate ∷ bytes) =
    if gate == 1
    then (if is_whole bytes
    then after_payload (payload bytes) (records_from (4 + payload_length bytes) (offset + 1) bytes)
    else Damaged offset (length bytes))
    else Payloads []

-- the records of a file; one of no or one byte has none
abbrev pub records : List ℕ → Records
records file = if nat_le (length file) 1 then Payloads [] else records_from 0 0 file

-- the same records, and this payload behind them
abbrev pub followed_by : List ℕ → Records → Records
followed_by last (Payloads payloads) = Payloads (payloads ++ last ∷ [])
followed_by last (Damaged offset found) = Damaged offset found
