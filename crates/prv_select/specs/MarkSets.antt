-- A set of marks as four words, with a bit for each mark. A mark is a number of one byte.
use Rattle.std.specs.Prelude.{ℕ, ◌/◌, ◌%◌, ◌^◌, Bool, [], ◌∷◌, slice_index, slice_set, bit_or}
use Rattle.prv_dep.specs.Tables.{has_bit}
use Rattle.prv_select.specs.declared.mark_set.MarkSet.{MarkSet}

abbrev pub no_marks : MarkSet
no_marks = record { words = 0 ∷ 0 ∷ 0 ∷ 0 ∷ [] }

-- the set of one mark
abbrev pub one_mark : ℕ → MarkSet
one_mark m = record { words = slice_set (0 ∷ 0 ∷ 0 ∷ 0 ∷ []) (m / 64) (2 ^ (m % 64)) }

-- the word of either set at a place
abbrev pub both_words : MarkSet → MarkSet → ℕ → ℕ
both_words a b i = bit_or (slice_index a.words i) (slice_index b.words i)

-- the marks of either set
abbrev pub both_marks : MarkSet → MarkSet → MarkSet
both_marks a b = record { words = both_words a b 0 ∷ both_words a b 1 ∷ both_words a b 2 ∷ both_words a b 3 ∷ [] }

-- a set has a mark
abbrev pub has_mark : MarkSet → ℕ → Bool
has_mark s m = has_bit (slice_index s.words (m / 64)) (m % 64)
