-- A whole file: what it is read as, where a stop is, and that it stays there.
use Rattle.std.proofs.Common.{◌≡◌, suc, ◌≤◌, Bool, true, List, [], ◌∷◌, ◌++◌, length, refl, sym, ap, ap₂, subst, ◌∙◌, arith, append-nil, ◌⊎◌, inl, inr}
use Rattle.std.proofs.lemmas.List.{append_cancel_right}
use Rattle.prv_lex.specs.declared.token.Token.{Token}
use Rattle.prv_rule.specs.Texts.{Laid, tokens_of}
use Rattle.prv_rule.specs.Limits.{is_within}
use Rattle.prv_rule.specs.Rules.{Rule, Attributes, nullable, first, head_is, derives_with, Table, derives, IsWhole, Why, Syntax, Depth, Operators, Out, Done, Stop, bind, read_with, readers, at_end, whole}
use Rattle.prv_rule.proofs.Firm.{named-firm}
use Rattle.prv_rule.proofs.Shown.{shown, bind-shown}
use Rattle.prv_rule.proofs.Complete.{complete, named-complete}
use Rattle.prv_rule.proofs.Means.{goes, IsRead, IsRefused, Means, Cause}
use Rattle.prv_rule.proofs.Joins.{IsExample}
use Rattle.prv_rule.proofs.Examples.{heads, is_flat, is_good, opens_closed, example, IsFit, named-example}
use Rattle.prv_rule.proofs.Sound.{sound, named-sound}
use Rattle.prv_rule.proofs.Carry.{why, left, read-again, Loose, Goal, goal-at, goal-bind, carry, named-carry}

-- tokens are a text within the limits
pub record IsDone {A : Type 0} (G : List Laid → Attributes A → Type 0) (ts : List Token) (g : Attributes A) (rest : List Token) : Type 0 where
  pub rest_is : rest ≡ []
  pub text : List Laid
  pub tokens_are : tokens_of text ≡ ts
  pub within : is_within text ≡ true
  pub whole : G text g

-- what stands before a stop begins one
pub record IsStopped {A : Type 0} (G : List Laid → Attributes A → Type 0) (ts : List Token) (w : Why) (rest : List Token) : Type 0 where
  pub front : List Laid
  pub back : List Laid
  pub found : Attributes A
  pub tokens_are : ts ≡ tokens_of front ++ rest
  pub within : is_within front ≡ true
  pub cause : (w ≡ Syntax) ⊎ Cause w front rest back
  pub whole : G (front ++ back) found

abbrev pub IsSound : {A : Type 0} → (List Laid → Attributes A → Type 0) → List Token → Out A → Type 0
IsSound G ts (Done g rest) = IsDone G ts g rest
IsSound G ts (Stop w rest) = IsStopped G ts w rest

module _ {K : Type 0} {V : K → Type 0} (table : Table V) (later : K → Token → Bool) (starts : K → Token) (fit : IsFit table later starts) {A : Type 0} (r : Rule V A) (good : is_good later starts r ≡ true) (flat : is_flat true r ≡ true) (closed : opens_closed r ≡ true) where
  -- the text of a whole file is read, up to its first token past a limit
  pub whole-complete : (text : List Laid) (g : Attributes A) → IsWhole table r text g → whole table r (tokens_of text) ≡ shown text [] (Done g [])
  whole-complete text g x =
      ap (λ ts. bind (read_with (readers table 100) r 0 ts) (λ u rest. at_end u rest)) (sym (append-nil (tokens_of text)))
      ∙ ap (λ o. bind o (λ u rest. at_end u rest)) (complete (derives table x.height) (readers table 100) 0 refl (λ k. named-complete table fit.filled x.height 100 1 refl k) r 0 text [] g x.derived)
      ∙ bind-shown text [] (Done g []) (λ u rest. at_end u rest)

  meaning : (ts : List Token) → Means (derives_with (derives table 101) r 0) (goes later r) (first r) (nullable r) 0 ts (read_with (readers table 100) r 0 ts)
  meaning ts = sound later starts (derives table 101) (readers table 100) 0 refl (named-firm table fit.filled 101) (λ k n. named-example table later starts fit 100 k 1 n) (λ k n ts. named-sound table later starts fit 100 1 refl k n ts) r good 0 ts

  sound-end : (ts : List Token) (u : Attributes A) (rest : List Token) → IsRead (derives_with (derives table 101) r 0) (goes later r) (first r) 0 ts u rest → IsSound (IsWhole table r) ts (at_end u rest)
  sound-end ts u [] a = record { rest_is = refl; text = a.text; tokens_are = sym (a.tokens_are ∙ append-nil (tokens_of a.text)); within = a.within; whole = record { height = 101; derived = a.derived [] (inl refl) } }
  sound-end ts u (t ∷ rest) a =
      record {
        front = a.text;
        back = [];
        found = u;
        tokens_are = a.tokens_are;
        within = a.within;
        cause = inl refl;
        whole = record { height = 101; derived = subst (λ x. derives_with (derives table 101) r 0 0 x [] u) (sym (append-nil a.text)) (a.derived [] (inl refl)) };
      }

  -- what is read, or stopped at, is what it says
  pub whole-sound : (ts : List Token) → IsSound (IsWhole table r) ts (whole table r ts)
  whole-sound ts = go (read_with (readers table 100) r 0 ts) (meaning ts)
    where
      once : (w : Why) (rest : List Token) → IsRefused (first r) (nullable r) ts w rest → IsExample (derives_with (derives table 101) r 0) (goes later r) (heads starts r) 0 → IsStopped (IsWhole table r) ts w rest
      once w rest a e = record { front = []; back = e.text; found = e.found; tokens_are = sym a.rest_is; within = refl; cause = inl a.why_is; whole = record { height = 101; derived = e.derived [] refl } }

      go : (o : Out A) → Means (derives_with (derives table 101) r 0) (goes later r) (first r) (nullable r) 0 ts o → IsSound (IsWhole table r) ts (bind o (λ u rest. at_end u rest))
      go (Done u rest) a = sound-end ts u rest a
      go (Stop w rest) (inl a) = once w rest a (example later starts (derives table 101) 0 (named-firm table fit.filled 101) true (λ _ k n. named-example table later starts fit 100 k 1 n) r good flat 0)
      go (Stop w rest) (inr a) = record { front = a.front; back = a.back; found = a.found; tokens_are = a.tokens_are; within = a.within; cause = inr a.cause; whole = record { height = 101; derived = a.derived [] refl } }

  -- a stop is the same whatever stands behind its token; for depth, another token there is read or is no place of a stop for syntax
  pub whole-carry : (front : List Token) (t : Token) (s : List Token) (w : Why) → whole table r (front ++ t ∷ s) ≡ Stop w (t ∷ s) → (t' : Token) (s' : List Token) → (c : (t' ≡ t) ⊎ (w ≡ Depth)) → Goal t t' s s' w c c (whole table r (front ++ t' ∷ s'))
  whole-carry front t s w e t' s' c = go (read_with (readers table 100) r 0 (front ++ t ∷ s)) refl (meaning (front ++ t ∷ s)) e
    where
      span-end : (u : Attributes A) (rest : List Token) → length (left (at_end u rest)) ≤ length rest
      span-end u [] = omega arith
      span-end u (t ∷ rest) = omega arith

      ended : (u : Attributes A) (rest : List Token) → read_with (readers table 100) r 0 (front ++ t ∷ s) ≡ Done u rest → IsRead (derives_with (derives table 101) r 0) (goes later r) (first r) 0 (front ++ t ∷ s) u rest → at_end u rest ≡ Stop w (t ∷ s)
          → Goal t t' s s' w c c (bind (read_with (readers table 100) r 0 (front ++ t' ∷ s')) (λ u rest. at_end u rest))
      ended u [] i a k = absurd (cc)
      ended u (y ∷ rest) i a k =
          let r_is : y ∷ rest ≡ t ∷ s = ap left k in
          let w_is : Syntax ≡ w = ap why k in
          let same : t' ≡ t = by c w_is in
          let one : read_with (readers table 100) r 0 (tokens_of a.text ++ t' ∷ s') ≡ Done u (t' ∷ s') =
          read-again (derives_with (derives table 101) r 0) (read_with (readers table 100) r) (goes later r) (first r) 0 (front ++ t ∷ s) u (y ∷ rest)
          (complete (derives table 101) (readers table 100) 0 refl (λ k. named-complete table fit.filled 101 100 1 refl k) r) a (t' ∷ s') (inr (λ p. ap p same ∙ sym (ap (head_is p) r_is))) in
          let fronts : front ≡ tokens_of a.text = append_cancel_right front (tokens_of a.text) (t ∷ s) (a.tokens_are ∙ ap (λ r. tokens_of a.text ++ r) r_is) in
          subst (λ o. Goal t t' s s' w c c (bind o (λ u rest. at_end u rest))) (sym (ap (λ f. read_with (readers table 100) r 0 (f ++ t' ∷ s')) fronts ∙ one)) (goal-at t t' s s' w c A Syntax c w_is)
        where
          by : (t' ≡ t) ⊎ (w ≡ Depth) → Syntax ≡ w → t' ≡ t
          by (inl i) j = i
          by (inr i) j = let k : Syntax ≡ Depth = j ∙ i in absurd (cc)

      go : (o : Out A) → read_with (readers table 100) r 0 (front ++ t ∷ s) ≡ o → Means (derives_with (derives table 101) r 0) (goes later r) (first r) (nullable r) 0 (front ++ t ∷ s) o → bind o (λ u rest. at_end u rest) ≡ Stop w (t ∷ s)
          → Goal t t' s s' w c c (bind (read_with (readers table 100) r 0 (front ++ t' ∷ s')) (λ u rest. at_end u rest))
      go (Done u rest) i a k = ended u rest i a k
      go (Stop v rest) i a k =
          goal-bind t t' s s' w c c (read_with (readers table 100) r 0 (front ++ t' ∷ s')) (λ u rest. at_end u rest) span-end
          (carry t t' s s' w c later starts (derives table 101) (readers table 100) 0 refl (named-firm table fit.filled 101) (λ k n. named-example table later starts fit 100 k 1 n) (λ k n ts. named-sound table later starts fit 100 1 refl k n ts)
          (λ k. named-complete table fit.filled 101 100 1 refl k) (λ k. named-carry t t' s s' w c table later starts fit 100 1 refl k) r good closed 0 front (i ∙ ap₂ (λ v r. Stop v r) (ap why k) (ap left k)))

  pub whole-same : (front : List Token) (t : Token) (s : List Token) (w : Why) → whole table r (front ++ t ∷ s) ≡ Stop w (t ∷ s) → (s' : List Token) → whole table r (front ++ t ∷ s') ≡ Stop w (t ∷ s')
  whole-same front t s w e s' = whole-carry front t s w e t s' (inl refl)

  pub whole-loose : (front : List Token) (t : Token) (s : List Token) → whole table r (front ++ t ∷ s) ≡ Stop Depth (t ∷ s) → (t' : Token) (s' : List Token) → whole table r (front ++ t' ∷ s') ≡ Stop Syntax (t' ∷ s') → ⊥
  whole-loose front t s e t' s' k = by (whole table r (front ++ t' ∷ s')) (whole-carry front t s Depth e t' s' (inr refl)) k
    where
      by : (o : Out A) → Loose t t' s s' Depth (inr refl) o → o ≡ Stop Syntax (t' ∷ s') → ⊥
      by (Done u r) l k = absurd (cc)
      by (Stop Syntax r) l k = let n : length r ≡ suc (length s') = ap length (ap left k) in absurd (omega arith)
      by (Stop Depth r) l k = let z : Depth ≡ Syntax = ap why k in absurd (cc)
      by (Stop Operators r) l k = let z : Operators ≡ Syntax = ap why k in absurd (cc)
