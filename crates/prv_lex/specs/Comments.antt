-- Where a comment ends.
use Rattle.std.specs.Prelude.{ℕ, ◌+◌, List, [], ◌∷◌, Option, Some, None, codes, nat_eq, if◌then◌else◌}
use Rattle.std.specs.List.{starts_with}
use Rattle.std.specs.Option.{option_map}

-- how many bytes a text has up to and with its first `*/`, if it has one
abbrev pub closing : List ℕ → Option ℕ
closing [] = None
closing (b ∷ rest) = if starts_with nat_eq (b ∷ rest) (codes "*/") then Some 2 else option_map (λ n. n + 1) (closing rest)
