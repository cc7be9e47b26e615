-- What is known while the numbers of an input are read.
use Rattle.std.proofs.Common.{◌≡◌, ℕ, ◌≤◌, List, take, map, ℤ, Bor}
use Rattle.std.specs.List.{AllByRecursion}
use Rattle.std.specs.Str.Parse.{signed_digits_value}
use Rattle.prv_line.specs.Texts.{IsSigned}
use Rattle.prv_line.specs.Views.{texts}

-- the first k words are numbers, and the input has them
pub record ReadSoFar (words : List (Bor (List ℕ))) (k : ℕ) (input : List ℤ) : Type 0 where
  pub few : k ≤ 8
  pub each : AllByRecursion IsSigned (texts (take k words))
  pub input_is : input ≡ map (signed_digits_value 10) (texts (take k words))
