-- Rows on which the definitions were worked out by hand: numbers and words at the edges of their spellings, and where reading stops.
use Rattle.std.proofs.Common.{◌≡◌, ℕ, List, [], ◌∷◌, Ok, Err, ℤ, pos, negsuc, refl}
use Rattle.prv_codec.specs.declared.form.Form.TheVariants.{One, Two}
use Rattle.prv_codec.specs.Forms.{groups, number, long, word, code}
use Rattle.prv_codec.specs.Reading.{Read, groups_at, shortest_at, number_at}

-- 300, 127, 128 and the greatest number
three-hundred : number Two 300 ≡ 172 ∷ 2 ∷ []
unfolding groups
three-hundred = refl

one-group : number Two 127 ≡ 127 ∷ []
unfolding groups
one-group = refl

two-groups : number Two 128 ≡ 128 ∷ 1 ∷ []
unfolding groups
two-groups = refl

greatest : number Two 4294967295 ≡ 255 ∷ 255 ∷ 255 ∷ 255 ∷ 15 ∷ []
unfolding groups
greatest = refl

greatest-long : long Two 18446744073709551615 ≡ 255 ∷ 255 ∷ 255 ∷ 255 ∷ 255 ∷ 255 ∷ 255 ∷ 255 ∷ 255 ∷ 1 ∷ []
unfolding groups
greatest-long = refl

-- the least word, and -1, in both forms
least-word : word Two (negsuc 2147483647) ≡ 255 ∷ 255 ∷ 255 ∷ 255 ∷ 15 ∷ []
unfolding groups code
least-word = refl

minus-one : word Two (negsuc 0) ≡ 1 ∷ []
unfolding groups code
minus-one = refl

least-fixed : word One (negsuc 2147483647) ≡ 0 ∷ 0 ∷ 0 ∷ 128 ∷ []
unfolding code
least-fixed = refl

fixed : number One 300 ≡ 44 ∷ 1 ∷ 0 ∷ 0 ∷ []
fixed = refl

abbrev stopped : ℕ → Read ℕ
stopped left = Err left

-- a needless last group, a fifth byte above 15, and bytes that are only too short
needless : number_at Two (128 ∷ 0 ∷ []) ≡ stopped 1
unfolding shortest_at groups_at
needless = refl

too-great : number_at Two (255 ∷ 255 ∷ 255 ∷ 255 ∷ 16 ∷ 7 ∷ []) ≡ stopped 2
unfolding shortest_at groups_at
too-great = refl

short : number_at Two (128 ∷ 128 ∷ []) ≡ stopped 0
unfolding shortest_at groups_at
short = refl
