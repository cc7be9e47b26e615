-- A settlement beside its record.
use Rattle.std.specs.Prelude.{refl}
use Rattle.std.specs.Coded.{Coded, code_by, coded×}
use Rattle.prv_part.specs.Settlements.{Finding}
use Rattle.prv_part.specs.Codes.{finding_code}
use Rattle.prv_record.specs.declared.raw.Raw.{Raw}
use Rattle.prv_record.specs.contracts.raw.Raw as raw_row

-- what was found of a region, and the record that is to support it
pub record Supported : Type 0 where
  pub finding : Finding
  pub raw : Raw

-- it is stored as the pair of its fields
abbrev pub supported_code : Coded Supported
supported_code =
    code_by (Finding × Raw) (coded× finding_code (raw_row.the_row).coded) (λ s. (s.finding, s.raw)) (λ p. record { finding = p.0; raw = p.1 }) (λ _. refl)
