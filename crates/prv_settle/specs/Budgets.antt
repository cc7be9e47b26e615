-- Which budget a settlement names.
use Rattle.std.specs.Prelude.{◌≡◌, ℕ, ⊤}
use Rattle.std.specs.List.{AllByRecursion}
use Rattle.prv_model.specs.declared.entry.Kind.{Kind}
use Rattle.prv_model.specs.declared.entry.Kind.TheVariants.{Undecided}
use Rattle.prv_model.specs.declared.entry.Reason.TheVariants.{Lines}
use Rattle.prv_part.specs.Settlements.{Finding}

-- a kind that was left for want of lines names this budget
abbrev pub IsLeftAt : ℕ → Kind → Type 0
IsLeftAt lines (Undecided (Lines budget)) = budget ≡ lines
IsLeftAt lines _ = ⊤

-- each part of a settlement that was left for want of lines names this budget
abbrev pub HasBudget : ℕ → Finding → Type 0
HasBudget lines s = AllByRecursion (λ p. IsLeftAt lines p.kind) s.parts
