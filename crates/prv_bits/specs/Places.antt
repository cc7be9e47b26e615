-- Lists by their places, the highest first: parts, and lists moved by places. They serve bits and the wires that carry bits alike.
use Rattle.std.specs.Prelude.{ℕ, ◌-◌, List, ◌++◌, length, take, drop, replicate}

-- the lowest n places, and those above them
abbrev pub low : {A : Type 0} → ℕ → List A → List A
low n xs = drop (length xs - n) xs

abbrev pub high : {A : Type 0} → ℕ → List A → List A
high n xs = take (length xs - n) xs

-- n places, with copies of the filling before the list
abbrev pub padded : {A : Type 0} → A → ℕ → List A → List A
padded filling n xs = replicate (n - length xs) filling ++ xs

-- k places up, with copies of the filling behind
abbrev pub raised : {A : Type 0} → A → ℕ → List A → List A
raised filling k xs = drop k (xs ++ replicate k filling)

-- k places down, with copies of the filling before
abbrev pub lowered : {A : Type 0} → A → ℕ → List A → List A
lowered filling k xs = take (length xs) (replicate k filling ++ xs)
