-- Each token that a text is made of stands at its place.
use Rattle.std.proofs.Common.{◌≡◌, ℕ, ◌+◌, List, ◌∷◌, ◌++◌, length, drop, refl, ap, sym, ◌∙◌}
use Rattle.std.specs.List.{AllByRecursion}
use Rattle.std.proofs.lemmas.List.{drop-drop, drop_at}
use Rattle.prv_lex.specs.Readings.{IsMadeOf, last, next, StandsIn}
use Rattle.prv_lex.specs.declared.token.Token as t

pub made-stand : (place : ℕ) (file text : List ℕ) (tokens : List t.Token) → drop place file ≡ text → IsMadeOf place text tokens → AllByRecursion (λ token. StandsIn file token) tokens
made-stand place file text tokens there (last spaces spacings) = tt
made-stand place file text (x ∷ tokens) there (next tok spaces bytes rest spacings is made) =
    let here : drop (place + length spaces) file ≡ bytes ++ rest = sym (drop-drop (length spaces) place file) ∙ ap (drop (length spaces)) there ∙ drop_at spaces (bytes ++ rest) (length spaces) refl in
    let behind : drop (place + length spaces + length bytes) file ≡ rest = sym (drop-drop (length bytes) (place + length spaces) file) ∙ ap (drop (length bytes)) here ∙ drop_at bytes rest (length bytes) refl in
    ((bytes, rest, here, is), made-stand (place + length spaces + length bytes) file rest tokens behind made)
