-- The texts of terms by their numbers.
use Rattle.std.proofs.Common.{◌≡◌, ℕ, zero, suc, ◌-◌, List, [], ◌∷◌, ◌++◌, length, take, map, flat_map, All, Option, Some, None, refl, ap, ◌∙◌, codes}
use Rattle.std.specs.Prelude.{slice_get, unwrap_or}
use Rattle.std.specs.Option.{option_map}
use Rattle.std.specs.List.{AllByRecursion}
use Rattle.std.proofs.lemmas.List.{length-map, take-map}
use Rattle.std.proofs.lemmas.List.Folds.{flat_map-map}
use Rattle.std.proofs.lemmas.Option.{slice_get-map}
use Rattle.std.proofs.lemmas.List.Elements.{All-from_recursion, recursion_from_All}
use Rattle.prv_model.specs.declared.outcome.Ending.{Ending}
use Rattle.prv_model.specs.declared.outcome.Ending.TheVariants.{Returned, Fault, Assert, Long}
use Rattle.prv_text.specs.Lines.{line}
use Rattle.prv_text.specs.Outcomes.{put_before, last_text, ending_text, end_lines}

put_before-mapped : {A B : Type 0} (f : A → B) (how : Ending) (xs : List A) → put_before how (map f xs) ≡ map f (put_before how xs)
put_before-mapped {A} {B} f Returned xs = ap (λ (n : ℕ). take (n - 1) (map f xs)) (length-map xs f) ∙ take-map f (length xs - 1) xs
put_before-mapped f Fault xs = refl
put_before-mapped f Assert xs = refl
put_before-mapped f Long xs = refl

text-mapped : {A B : Type 0} (text : B → List ℕ) (f : A → B) (o : Option A) → unwrap_or (option_map text (option_map f o)) [] ≡ unwrap_or (option_map (λ x. text (f x)) o) []
text-mapped text f None = refl
text-mapped text f (Some x) = refl

last_text-mapped : {A B : Type 0} (text : B → List ℕ) (f : A → B) (xs : List A) → last_text text (map f xs) ≡ last_text (λ x. text (f x)) xs
last_text-mapped {A} {B} text f xs =
    ap (λ (n : ℕ). unwrap_or (option_map text (slice_get (map f xs) (n - 1))) []) (length-map xs f)
    ∙ ap (λ (o : Option B). unwrap_or (option_map text o) []) (slice_get-map f xs (length xs - 1))
    ∙ text-mapped text f (slice_get xs (length xs - 1))

pub end_lines-mapped : {A B : Type 0} (text : B → List ℕ) (f : A → B) (how : Ending) (xs : List A) → end_lines text how (map f xs) ≡ end_lines (λ x. text (f x)) how xs
end_lines-mapped {A} {B} text f how xs =
    let out_line = λ (out : B). line (codes "out " ++ text out) in
    let outs = ap (λ (ys : List B). flat_map out_line ys) (put_before-mapped f how xs) ∙ flat_map-map out_line f (put_before how xs) in
    ap (λ (ls : List ℕ). ls ++ line (ending_text how (last_text text (map f xs)))) outs
    ∙ ap (λ (last : List ℕ). flat_map (λ x. line (codes "out " ++ text (f x))) (put_before how xs) ++ line (ending_text how last)) (last_text-mapped text f xs)

-- what holds of each holds of each that was put out
all-take : {A : Type 0} (P : A → Type 0) (n : ℕ) (xs : List A) → AllByRecursion P xs → AllByRecursion P (take n xs)
all-take P zero xs h = tt
all-take P (suc n) [] h = tt
all-take P (suc n) (x ∷ xs) h = (h.0, all-take P n xs h.1)

pub all-put_before : {A : Type 0} (P : A → Type 0) (how : Ending) (xs : List A) → All P xs → All P (put_before how xs)
all-put_before P Returned xs h = All-from_recursion P (take (length xs - 1) xs) (all-take P (length xs - 1) xs (recursion_from_All P xs h))
all-put_before P Fault xs h = h
all-put_before P Assert xs h = h
all-put_before P Long xs h = h
