-- What a run of digits is worth, and when it is a number.
use Rattle.std.specs.Prelude.{ℕ, Bool, ◌&&◌, ◌||◌, ◌==◌, nat_le, not, List, length, slice_index, Option, Some, None, ℤ, pos, if◌then◌else◌}
use Rattle.std.specs.Str.Parse.{digits_value}

-- the value of a run of digits, in decimal
abbrev pub value : List ℕ → ℕ
value digits = digits_value 10 digits

-- no 0 stands in front of another digit
abbrev pub has_no_leading_zero : List ℕ → Bool
has_no_leading_zero digits = (length digits == 1) || not (slice_index digits 0 == 48)

-- the number that a run of digits is, if it is one: at most 2147483647, and with no 0 in front
abbrev pub number_of : List ℕ → Option ℤ
number_of digits = if has_no_leading_zero digits && nat_le (value digits) 2147483647 then Some (pos (value digits)) else None
