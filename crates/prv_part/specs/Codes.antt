-- How a finding is stored.
use Rattle.std.specs.Prelude.{refl, ℕ, List, ℤ, Option}
use Rattle.std.specs.Coded.{Coded, code_by, coded×, coded_ℕ, coded_ℤ, coded_list, coded_option}
use Rattle.prv_model.specs.contracts.program.Pair as pair_row
use Rattle.prv_model.specs.declared.program.Pair.{Pair}
use Rattle.prv_model.specs.declared.term.Term.{Term}
use Rattle.prv_pool.specs.Tables.{term_code}
use Rattle.prv_part.specs.Settlements.{Finding}
use Rattle.prv_part.specs.contracts.part.Part as part_row
use Rattle.prv_part.specs.contracts.shape.Shape as shape_row
use Rattle.prv_part.specs.declared.part.Part.{Part}
use Rattle.prv_part.specs.declared.shape.Shape.{Shape}

-- a finding is stored as the tuple of its fields
abbrev pub finding_code : Coded Finding
finding_code =
    code_by
    (Pair × (ℕ × (List Term × (Option (List ℤ) × (Shape × (List Part × ℕ))))))
    (coded× (pair_row.the_row).coded (coded× coded_ℕ (coded× (coded_list term_code) (coded× (coded_option (coded_list coded_ℤ)) (coded× (shape_row.the_row).coded (coded× (coded_list (part_row.the_row).coded) coded_ℕ))))))
    (λ f. (f.pair, (f.entry, (f.region, (f.member, (f.shape, (f.parts, f.numbers)))))))
    (λ p. record { pair = p.0; entry = p.1.0; region = p.1.1.0; member = p.1.1.1.0; shape = p.1.1.1.1.0; parts = p.1.1.1.1.1.0; numbers = p.1.1.1.1.1.1 })
    (λ _. refl)
