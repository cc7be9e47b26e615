-- The pair of texts that a number and a size give, for trials.
use Rattle.std.specs.Prelude.{ℕ, zero, suc, ◌+◌, ◌*◌, ◌/◌, ◌%◌, ◌^◌, List, [], ◌∷◌, ◌++◌, codes, decimal}

-- the state behind a draw; the numbers are those of a well-known linear congruential generator
abbrev pub next_state : ℕ → ℕ
next_state state = (state * 1664525 + 1013904223) % 2 ^ 32

-- what the draw gives of it: a number below 100, of its upper half
abbrev pub drawn : ℕ → ℕ
drawn state = state / 2 ^ 16 % 100

-- a text as a line
abbrev pub line : List ℕ → List ℕ
line text = text ++ 10 ∷ []

-- the test that adds k, of the parameter a against a number
abbrev pub test_line : ℕ → ℕ → List ℕ
test_line bound k = line (codes "if (a < " ++ (decimal bound ++ (codes ") r = r + " ++ (decimal k ++ codes ";"))))

-- n tests from the k-th on, where the draws before it left this state
abbrev pub test_lines : ℕ → ℕ → ℕ → List ℕ
test_lines state k zero = []
test_lines state k (suc n) = let next = next_state state in test_line (drawn next) k ++ test_lines next (suc k) n

-- a program of `size` tests, by the draws from a number on, with a last statement
abbrev pub program : ℕ → ℕ → List ℕ → List ℕ
program number size last =
    line (codes "int main(int a, int b) {") ++ (line (codes "int r = 0;") ++ (test_lines number 1 size ++ (line last ++ line (codes "}"))))

-- the old version returns the sum
abbrev pub before_text : ℕ → ℕ → List ℕ
before_text number size = program number size (codes "@1 return r;")

-- the new version returns one more where both parameters are equal
abbrev pub after_text : ℕ → ℕ → List ℕ
after_text number size = program number size (codes "@1 if (a == b) return r + 1; else return r;")
