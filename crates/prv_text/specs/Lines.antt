-- Lines and lists. Each line ends with LF.
use Rattle.std.specs.Prelude.{ℕ, List, [], ◌∷◌, ◌++◌, flat_map}

-- a text as a line
abbrev pub line : List ℕ → List ℕ
line text = text ++ 10 ∷ []

-- the texts of some items, with a separator between each two
abbrev pub listed : {A : Type 0} → (A → List ℕ) → List ℕ → List A → List ℕ
listed text sep [] = []
listed text sep (first ∷ rest) = text first ++ flat_map (λ next. sep ++ text next) rest
