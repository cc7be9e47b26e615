-- Rules made of other rules, in the terms of parser combinators.
use Rattle.std.specs.Prelude.{List, ◌∷◌, Option, Some, None}
use Rattle.prv_rule.specs.Rules.{Rule, Empty, Sequence, Alternative, Repetition, Construct, Fail}

infixr 20 ◌or◌
-- the first where the next token begins it, else the second
abbrev pub ◌or◌ : {K : Type 0} {V : K → Type 0} {A : Type 0} → Rule V A → Rule V A → Rule V A
◌or◌ a b = Alternative a b

-- two in a row, of which the second has the value
abbrev pub preceded : {K : Type 0} {V : K → Type 0} {A : Type 0} → Rule V (Unit {0}) → Rule V A → Rule V A
preceded a b = Sequence (λ u v. v) a b

-- two in a row, of which the first has the value
abbrev pub terminated : {K : Type 0} {V : K → Type 0} {A : Type 0} → Rule V A → Rule V (Unit {0}) → Rule V A
terminated a b = Sequence (λ v u. v) a b

-- the same texts with another value
abbrev pub mapped : {K : Type 0} {V : K → Type 0} {A B : Type 0} → (A → B) → Rule V A → Rule V B
mapped f a = Sequence (λ (u : Unit {0}) v. f v) (Empty tt) a

-- one or none
abbrev pub optional : {K : Type 0} {V : K → Type 0} {A : Type 0} → Rule V A → Rule V (Option A)
optional a = mapped (λ v. Some v) a or Empty None

-- one, and more of them behind a separator
abbrev pub separated : {K : Type 0} {V : K → Type 0} {A : Type 0} → Rule V A → Rule V (Unit {0}) → Rule V (List A)
separated a comma = Sequence (λ x xs. x ∷ xs) a (Repetition (preceded comma a))

-- what stands inside the construct that a rule opens
abbrev pub nested : {K : Type 0} {V : K → Type 0} (k : K) → Rule V (Unit {0}) → Rule V (V k)
nested k a = Construct k (λ u v. v) a Fail

-- the same, with the value of what opens it
abbrev pub opening : {K : Type 0} {V : K → Type 0} {A C : Type 0} (k : K) → (A → V k → C) → Rule V A → Rule V C
opening k f a = Construct k f a Fail
