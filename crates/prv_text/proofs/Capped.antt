-- Lists that grow piece by piece, and such that are cut at a length.
use Rattle.std.proofs.Common.{◌≡◌, ℕ, zero, suc, List, [], ◌∷◌, ◌++◌, take, refl, ap, ◌∙◌, append_assoc}

-- to cut on the way changes nothing
pub take_again : {A : Type 0} (n : ℕ) (xs ys : List A) → take n (take n xs ++ ys) ≡ take n (xs ++ ys)
take_again zero xs ys = refl
take_again (suc n) [] ys = refl
take_again {A} (suc n) (x ∷ xs) ys = ap (λ (zs : List A). x ∷ zs) (take_again n xs ys)

-- one more piece
pub take_more_of : {A : Type 0} (n : ℕ) (old old' new front piece : List A) → old' ≡ take n (old ++ front) → new ≡ take n (old' ++ piece) → new ≡ take n (old ++ (front ++ piece))
take_more_of {A} n old old' new front piece before after =
    after ∙ ap (λ (zs : List A). take n (zs ++ piece)) before ∙ take_again n (old ++ front) piece ∙ ap (take n) (append_assoc old front piece)

-- to cut at one more first changes nothing
pub take_one_more : {A : Type 0} (n : ℕ) (xs : List A) → take n (take (suc n) xs) ≡ take n xs
take_one_more zero xs = refl
take_one_more (suc n) [] = refl
take_one_more {A} (suc n) (x ∷ xs) = ap (λ (zs : List A). x ∷ zs) (take_one_more n xs)

-- one more piece of a list that grows
pub one_more_piece : {A : Type 0} (old mid new front piece : List A) → mid ≡ old ++ front → new ≡ mid ++ piece → new ≡ old ++ (front ++ piece)
one_more_piece {A} old mid new front piece before after = after ∙ ap (λ (zs : List A). zs ++ piece) before ∙ append_assoc old front piece
