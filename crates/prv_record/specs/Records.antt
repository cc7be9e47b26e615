-- The payload that is a record.
use Rattle.std.specs.Prelude.{◌≡◌, ℕ, List}
use Rattle.std.specs.List.{AllByRecursion}
use Rattle.prv_codec.specs.declared.form.Form.{Form}
use Rattle.prv_codec.specs.Spelling.{IsNumber}
use Rattle.prv_record.specs.Fields.{HasFields}
use Rattle.prv_record.specs.Spelling.{IsSpelled, fields_of, payload}
use Rattle.prv_record.specs.declared.raw.Raw.{Raw}

-- the bytes are the payload of a record in the form: it has the fields of its shape, and each of them a spelling
pub record IsPayload (form : Form) (raw : Raw) (bytes : List ℕ) : Type 0 where
  pub entry : IsNumber raw.entry
  pub fields : HasFields raw
  pub each : AllByRecursion IsSpelled (fields_of raw)
  pub is : bytes ≡ payload form raw

-- the bytes are a payload of the form
abbrev pub IsPayloadOf : Form → List ℕ → Type 0
IsPayloadOf form bytes = (raw : Raw) × IsPayload form raw bytes
