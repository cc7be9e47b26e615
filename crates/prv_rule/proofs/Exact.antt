-- Where a reader stops is the first refusal: over any reader that is complete and sound, and whose stops stay.
use Rattle.std.proofs.Common.{◌≡◌, ℕ, ◌+◌, Bool, true, false, not, ◌&&◌, ◌||◌, List, [], ◌∷◌, ◌++◌, length, refl, sym, ap, ap₂, subst, ◌∙◌, arith, append-nil, append_assoc, length-append, true≢false, ◌⊎◌, inl, inr}
use Rattle.std.proofs.lemmas.Bool.{and_from, and_right, or_right}
use Rattle.std.proofs.lemmas.List.{length-map}
use Rattle.prv_lex.specs.declared.token.Token.{Token}
use Rattle.prv_rule.specs.Texts.{Laid, tokens_of}
use Rattle.prv_rule.specs.Limits.{is_deep, is_many, is_over, is_within}
use Rattle.prv_rule.specs.Rules.{Attributes, Why, Syntax, Depth, Operators, Out, Done, Stop}
use Rattle.prv_rule.specs.Refusals.{Begins, GoesOn, IsDeep, NoneDeepBefore, place_of, Stops, IsSyntaxAt, IsDeepAt}
use Rattle.prv_rule.proofs.Shown.{shown, shown_at, shown-within}
use Rattle.prv_rule.proofs.Means.{Cause, syntax, depth, operators}
use Rattle.prv_rule.proofs.Carry.{why, left}
use Rattle.prv_rule.proofs.Cuts.{InFront, in_front, at_one, Cut, cut, each-within, goes-inside, begins-next}
use Rattle.prv_rule.proofs.Laws.{Order, less, same, more, order}
use Rattle.prv_rule.proofs.Tools.{tokens-append}
use Rattle.prv_rule.proofs.Whole.{IsStopped, IsSound}

-- the first token past a limit, at which a reader stops
pub record IsFirst (text : List Laid) (w : Why) (rest : List Token) : Type 0 where
  pub front : List Laid
  pub at : Laid
  pub behind : List Laid
  pub text_is : text ≡ front ++ at ∷ behind
  pub rest_is : rest ≡ tokens_of (at ∷ behind)
  pub within : is_within front ≡ true
  pub over : is_over at ≡ true
  pub limit : w ≡ Syntax → ⊥
  pub deep : is_deep at ≡ true → w ≡ Depth

first-at : {A : Type 0} (t : Laid) (text : List Laid) (o : Out A) (w : Why) (rest : List Token) (b c : Bool) → is_deep t ≡ b → is_many t ≡ c → shown_at b c (tokens_of (t ∷ text) ++ []) o ≡ Stop w rest
    → (o ≡ Stop w rest → IsFirst text w rest) → IsFirst (t ∷ text) w rest
first-at t text o w rest true c d m e h = record { front = []; at = t; behind = text; text_is = refl; rest_is = sym (ap left e) ∙ append-nil (tokens_of (t ∷ text)); within = refl; over = ap (λ b. b || is_many t) d; limit = λ k. let z : Depth ≡ Syntax = ap why e ∙ k in absurd (cc); deep = λ _. sym (ap why e) }
first-at t text o w rest false true d m e h =
    record { front = []; at = t; behind = text; text_is = refl; rest_is = sym (ap left e) ∙ append-nil (tokens_of (t ∷ text)); within = refl; over = ap₂ (λ b c. b || c) d m; limit = λ k. let z : Operators ≡ Syntax = ap why e ∙ k in absurd (cc); deep = λ k. absurd (true≢false (sym k ∙ d)) }
first-at t text o w rest false false d m e h =
    let f : IsFirst text w rest = h e in
    record { front = t ∷ f.front; at = f.at; behind = f.behind; text_is = ap (λ l. t ∷ l) f.text_is; rest_is = f.rest_is; within = and_from (not (is_over t)) (is_within f.front) (ap₂ (λ b c. not (b || c)) d m) f.within; over = f.over; limit = f.limit; deep = f.deep }

-- a stop on a text is at its first token past a limit
pub first-stop : {A : Type 0} (text : List Laid) (g : Attributes A) (w : Why) (rest : List Token) → shown text [] (Done g []) ≡ Stop w rest → IsFirst text w rest
first-stop [] g w rest e = absurd (cc)
first-stop (t ∷ text) g w rest e = first-at t text (shown text [] (Done g [])) w rest (is_deep t) (is_many t) refl refl e (first-stop text g w rest)

-- and there is one where a token is past a limit
first-there : {A : Type 0} (text : List Laid) (g : Attributes A) (o : Out A) → shown text [] (Done g []) ≡ o → is_within text ≡ false → (w : Why) × (rest : List Token) × (o ≡ Stop w rest)
first-there [] g o e f = absurd (true≢false f)
first-there (t ∷ text) g o e f = by (first-there text g o) (is_deep t) (is_many t) refl refl e
  where
    by : (shown text [] (Done g []) ≡ o → is_within text ≡ false → (w : Why) × (rest : List Token) × (o ≡ Stop w rest)) → (b c : Bool) → is_deep t ≡ b → is_many t ≡ c
        → shown_at b c (tokens_of (t ∷ text) ++ []) (shown text [] (Done g [])) ≡ o → (w : Why) × (rest : List Token) × (o ≡ Stop w rest)
    by ih true c d m e = (Depth, tokens_of (t ∷ text) ++ [], sym e)
    by ih false true d m e = (Operators, tokens_of (t ∷ text) ++ [], sym e)
    by ih false false d m e = ih e (sym (ap₂ (λ b c. not (b || c) && is_within text) d m) ∙ f)

module _ {A : Type 0} (read : List Token → Out A) (G : List Laid → Attributes A → Type 0)
    (complete : (text : List Laid) (g : Attributes A) → G text g → read (tokens_of text) ≡ shown text [] (Done g []))
    (carry : (front : List Token) (t : Token) (s : List Token) (w : Why) → read (front ++ t ∷ s) ≡ Stop w (t ∷ s) → (s' : List Token) → read (front ++ t ∷ s') ≡ Stop w (t ∷ s'))
    (loose : (front : List Token) (t : Token) (s : List Token) → read (front ++ t ∷ s) ≡ Stop Depth (t ∷ s) → (t' : Token) (s' : List Token) → read (front ++ t' ∷ s') ≡ Stop Syntax (t' ∷ s') → ⊥)
    (sound : (ts : List Token) → IsSound G ts (read ts)) where
  -- a stop on the tokens of a text
  on-text : (text : List Laid) → ((g : Attributes A) × G text g) → (w : Why) (rest : List Token) → read (tokens_of text) ≡ Stop w rest → IsFirst text w rest
  on-text text x w rest e = first-stop text x.0 w rest (sym (complete text x.0 x.1) ∙ e)

  -- behind a stop for syntax no text goes on with its token
  none-begins : (front : List Token) (t : Token) (s : List Token) → read (front ++ t ∷ s) ≡ Stop Syntax (t ∷ s) → Begins (λ text. (g : Attributes A) × G text g) (front ++ t ∷ []) → ⊥
  none-begins front t s e b =
      let tokens : tokens_of (b.text ++ b.rest) ≡ front ++ t ∷ tokens_of b.rest = sym (append-nil (tokens_of (b.text ++ b.rest))) ∙ tokens-append b.text b.rest [] ∙ ap₂ (λ x y. x ++ y) b.tokens_are (append-nil (tokens_of b.rest)) ∙ append_assoc front (t ∷ []) (tokens_of b.rest) in
      (on-text (b.text ++ b.rest) b.reads Syntax (t ∷ tokens_of b.rest) (ap read tokens ∙ carry front t s Syntax e (tokens_of b.rest))).limit refl

  goes-tokens : (front : List Token) (text rest : List Laid) (x : Laid) → tokens_of text ≡ front → tokens_of (text ++ x ∷ rest) ≡ front ++ x.token ∷ tokens_of rest
  goes-tokens front text rest x e = sym (append-nil (tokens_of (text ++ x ∷ rest))) ∙ tokens-append text (x ∷ rest) [] ∙ ap₂ (λ a b. a ++ b) e (append-nil (tokens_of (x ∷ rest)))

  same-place : (text rest front behind : List Laid) (x at : Laid) → text ++ x ∷ rest ≡ front ++ at ∷ behind → length (tokens_of (x ∷ rest)) ≡ length (tokens_of (at ∷ behind)) → x ≡ at
  same-place text rest front behind x at e l =
      let whole : length (text ++ x ∷ rest) ≡ length (front ++ at ∷ behind) = ap length e in
      let place : length text ≡ length front = omega (arith, length-append text (x ∷ rest), length-append front (at ∷ behind), length-map (x ∷ rest) (λ t. t.token), length-map (at ∷ behind) (λ t. t.token)) in
      let ends : x ∷ rest ≡ at ∷ behind = (at_one text (x ∷ rest) front (at ∷ behind) e place).1 in cc

  -- behind a stop for a limit no text goes on with its token within the limits
  always : (front : List Token) (t : Token) (s : List Token) (w : Why) → read (front ++ t ∷ s) ≡ Stop w (t ∷ s) → (x : Laid) → GoesOn (λ text. (g : Attributes A) × G text g) front x → x.token ≡ t → is_over x ≡ true
  always front t s w e x b i =
      let tokens : tokens_of (b.text ++ x ∷ b.rest) ≡ front ++ t ∷ tokens_of b.rest = goes-tokens front b.text b.rest x b.tokens_are ∙ ap (λ t. front ++ t ∷ tokens_of b.rest) i in
      let f : IsFirst (b.text ++ x ∷ b.rest) w (t ∷ tokens_of b.rest) = on-text (b.text ++ x ∷ b.rest) b.reads w (t ∷ tokens_of b.rest) (ap read tokens ∙ carry front t s w e (tokens_of b.rest)) in
      subst (λ y. is_over y ≡ true) (sym (same-place b.text b.rest f.front f.behind x f.at f.text_is (ap (λ t. length (t ∷ tokens_of b.rest)) i ∙ ap length f.rest_is))) f.over

  -- what was read before a stop has no token past a limit
  none-deep : (ts : List Token) (w : Why) (rest : List Token) (b : IsStopped G ts w rest) → NoneDeepBefore (λ text. (g : Attributes A) × G text g) ts (length (tokens_of b.front))
  none-deep ts w rest b front' rest' next e l deep =
      let m : InFront next front' rest' (tokens_of b.front) rest = in_front next front' rest' (tokens_of b.front) rest (sym e ∙ b.tokens_are) l in
      let c : Cut b.front front' next m.between = cut b.front front' next m.between m.longer in
      let goes : GoesOn (λ text. (g : Attributes A) × G text g) front' c.at = goes-inside (λ text. (g : Attributes A) × G text g) b.front b.back front' next m.between (b.found, b.whole) c in
      true≢false (sym (deep.always c.at goes c.at_is) ∙ each-within c.before c.at c.behind (ap is_within (sym c.text_is) ∙ b.within))

  -- nor is there one at a stop for syntax
  not-deep : (front : List Token) (t : Token) (s : List Token) → read (front ++ t ∷ s) ≡ Stop Syntax (t ∷ s) → IsDeep (λ text. (g : Attributes A) × G text g) front t → ⊥
  not-deep front t s e deep = by deep.same_or_deep
    where
      syntax-only : (w : Why) (r : List Token) → read (front ++ t ∷ s) ≡ Stop w r → (w ≡ Syntax → ⊥) → ⊥
      syntax-only w r k n = n (ap why (sym k ∙ e))

      on : (b : GoesOn (λ text. (g : Attributes A) × G text g) front deep.other) → is_deep deep.other ≡ true → ⊥
      on b d = stop (first-there (b.text ++ deep.other ∷ b.rest) b.reads.0 (read (tokens_of (b.text ++ deep.other ∷ b.rest))) (sym (complete (b.text ++ deep.other ∷ b.rest) b.reads.0 b.reads.1)) (over-none b.text))
        where
          over-none : (x : List Laid) → is_within (x ++ deep.other ∷ b.rest) ≡ false
          over-none [] = ap (λ k. not k && is_within b.rest) deep.over
          over-none (y ∷ x) = and_right (not (is_over y)) (is_within (x ++ deep.other ∷ b.rest)) (over-none x)

          tokens : tokens_of (b.text ++ deep.other ∷ b.rest) ≡ front ++ deep.other.token ∷ tokens_of b.rest
          tokens = goes-tokens front b.text b.rest deep.other b.tokens_are

          at-it : (w : Why) (r : List Token) → read (tokens_of (b.text ++ deep.other ∷ b.rest)) ≡ Stop w r → (f : IsFirst (b.text ++ deep.other ∷ b.rest) w r) → Order (length f.front) (length b.text) → ⊥
          at-it w r k f (same i) =
              let ends : f.at ∷ f.behind ≡ deep.other ∷ b.rest = (at_one f.front (f.at ∷ f.behind) b.text (deep.other ∷ b.rest) (sym f.text_is) i).1 in
              let at_is : f.at ≡ deep.other = cc in
              let w_is : w ≡ Depth = f.deep (ap is_deep at_is ∙ d) in
              let it : read (front ++ deep.other.token ∷ tokens_of b.rest) ≡ Stop Depth (deep.other.token ∷ tokens_of b.rest) = ap read (sym tokens) ∙ k ∙ ap₂ (λ w r. Stop w r) w_is (f.rest_is ∙ ap tokens_of ends) in
              loose front deep.other.token (tokens_of b.rest) it t s e
          at-it w r k f (less l) =
              let m : InFront f.at f.front f.behind b.text (deep.other ∷ b.rest) = in_front f.at f.front f.behind b.text (deep.other ∷ b.rest) (sym f.text_is) l in
              let fronts : front ≡ tokens_of f.front ++ f.at.token ∷ tokens_of m.between = sym b.tokens_are ∙ ap tokens_of m.longer ∙ goes-tokens (tokens_of f.front) f.front m.between f.at refl in
              let here : front ++ t ∷ s ≡ tokens_of f.front ++ f.at.token ∷ (tokens_of m.between ++ t ∷ s) = ap (λ x. x ++ t ∷ s) fronts ∙ append_assoc (tokens_of f.front) (f.at.token ∷ tokens_of m.between) (t ∷ s) in
              let there : tokens_of (b.text ++ deep.other ∷ b.rest) ≡ tokens_of f.front ++ f.at.token ∷ tokens_of f.behind = ap tokens_of f.text_is ∙ goes-tokens (tokens_of f.front) f.front f.behind f.at refl in
              let it : read (tokens_of f.front ++ f.at.token ∷ tokens_of f.behind) ≡ Stop w (f.at.token ∷ tokens_of f.behind) = ap read (sym there) ∙ k ∙ ap (λ r. Stop w r) f.rest_is in
              syntax-only w (f.at.token ∷ (tokens_of m.between ++ t ∷ s)) (ap read here ∙ carry (tokens_of f.front) f.at.token (tokens_of f.behind) w it (tokens_of m.between ++ t ∷ s)) f.limit
          at-it w r k f (more l) =
              let m : InFront deep.other b.text b.rest f.front (f.at ∷ f.behind) = in_front deep.other b.text b.rest f.front (f.at ∷ f.behind) f.text_is l in
              true≢false (sym deep.over ∙ each-within b.text deep.other m.between (ap is_within (sym m.longer) ∙ f.within))

          stop : (w : Why) × (rest : List Token) × (read (tokens_of (b.text ++ deep.other ∷ b.rest)) ≡ Stop w rest) → ⊥
          stop x = let f : IsFirst (b.text ++ deep.other ∷ b.rest) x.0 x.1 = on-text (b.text ++ deep.other ∷ b.rest) b.reads x.0 x.1 x.2 in at-it x.0 x.1 x.2 f (order (length f.front) (length b.text))

      by : (deep.other.token ≡ t) ⊎ (is_deep deep.other ≡ true) → ⊥
      by (inl i) = none-begins front t s e (subst (λ t. Begins (λ text. (g : Attributes A) × G text g) (front ++ t ∷ [])) i (begins-next (λ text. (g : Attributes A) × G text g) front deep.other deep.goes_on))
      by (inr d) = on deep.goes_on d

  stops-at : (ts rest : List Token) (b : IsStopped G ts Syntax rest) → read ts ≡ Stop Syntax rest → Stops (λ text. (g : Attributes A) × G text g) (tokens_of b.front) rest
  stops-at ts [] b e = (
    record { text = b.front; rest = b.back; reads = (b.found, b.whole); tokens_are = refl },
    λ text x i. (on-text text x Syntax [] (ap read (i ∙ sym (append-nil (tokens_of b.front)) ∙ sym b.tokens_are) ∙ e)).limit refl,
  )
  stops-at ts (t ∷ s) b e = (
    record { text = b.front; rest = b.back; reads = (b.found, b.whole); tokens_are = refl },
    λ x. none-begins (tokens_of b.front) t s (ap read (sym b.tokens_are) ∙ e) x,
  )

  -- a stop for syntax is the first refusal, for syntax
  pub syntax-at : (ts rest : List Token) (end : ℕ) → read ts ≡ Stop Syntax rest → IsSyntaxAt (λ text. (g : Attributes A) × G text g) ts end (place_of rest end)
  syntax-at ts rest end e =
      let b : IsStopped G ts Syntax rest = subst (IsSound G ts) e (sound ts) in
      record { front = tokens_of b.front; rest = rest; tokens_are = b.tokens_are; stops = stops-at ts rest b e; none_deep = none b; place_is = refl }
    where
      none : (b : IsStopped G ts Syntax rest) → NoneDeepBefore (λ text. (g : Attributes A) × G text g) ts (length (tokens_of b.front) + 1)
      none b front' rest' next i l deep = by (order (length front') (length (tokens_of b.front)))
        where
          by : Order (length front') (length (tokens_of b.front)) → ⊥
          by (less k) = none-deep ts Syntax rest b front' rest' next i k deep
          by (same k) =
              let it : (front' ≡ tokens_of b.front) × (next ∷ rest' ≡ rest) = at_one front' (next ∷ rest') (tokens_of b.front) rest (sym i ∙ b.tokens_are) k in
              not-deep front' next rest' (ap read (sym i) ∙ e ∙ ap (λ r. Stop Syntax r) (sym it.1)) deep
          by (more k) = absurd (omega arith)

  hard : (w : Why) (rest : List Token) (front back : List Laid) → (w ≡ Syntax → ⊥) → (w ≡ Syntax) ⊎ Cause w front rest back → Cause w front rest back
  hard w rest front back n (inl e) = absurd (n e)
  hard w rest front back n (inr c) = c

  -- a stop for a limit is the first refusal, for a limit
  pub deep-at : (ts : List Token) (w : Why) (t : Token) (s : List Token) → (w ≡ Syntax → ⊥) → read ts ≡ Stop w (t ∷ s) → IsDeepAt (λ text. (g : Attributes A) × G text g) ts t.place
  deep-at ts w t s n e =
      let b : IsStopped G ts w (t ∷ s) = subst (IsSound G ts) e (sound ts) in
      record {
        front = tokens_of b.front;
        next = t;
        rest = s;
        tokens_are = b.tokens_are;
        place_is = refl;
        none_deep = none-deep ts w (t ∷ s) b;
        deep = is w (t ∷ s) b.front b.back (hard w (t ∷ s) b.front b.back n b.cause) n (b.found, b.whole) t s refl (always (tokens_of b.front) t s w (ap read (sym b.tokens_are) ∙ e));
      }
    where
      is : (w : Why) (rest : List Token) (front back : List Laid) → Cause w front rest back → (w ≡ Syntax → ⊥) → (g : Attributes A) × G (front ++ back) g → (t : Token) (s : List Token) → rest ≡ t ∷ s
          → ((x : Laid) → GoesOn (λ text. (g : Attributes A) × G text g) (tokens_of front) x → x.token ≡ t → is_over x ≡ true) → IsDeep (λ text. (g : Attributes A) × G text g) (tokens_of front) t
      is w rest front back (syntax y f r b) n x t s i a = absurd (n refl)
      is w rest front back (depth y f u r o b d) n x t s i a =
          record { other = o; goes_on = record { text = y ∷ f; rest = b; reads = x; tokens_are = refl }; over = ap (λ k. k || is_many o) d; same_or_deep = inr d; always = a }
      is w rest front back (operators f r o b m) n x t s i a =
          let i : o.token ≡ t = cc in
          record { other = o; goes_on = record { text = f; rest = b; reads = x; tokens_are = refl }; over = or_right (is_deep o) (is_many o) m; same_or_deep = inl i; always = a }

  -- neither is at the end
  pub deep-some : (ts : List Token) (w : Why) → (w ≡ Syntax → ⊥) → read ts ≡ Stop w [] → ⊥
  deep-some ts w n e = let b : IsStopped G ts w [] = subst (IsSound G ts) e (sound ts) in none w [] b.front b.back (hard w [] b.front b.back n b.cause) n refl
    where
      none : (w : Why) (rest : List Token) (front back : List Laid) → Cause w front rest back → (w ≡ Syntax → ⊥) → rest ≡ [] → ⊥
      none w rest front back (syntax y f r b) n i = n refl
      none w rest front back (depth y f u r o b d) n i = absurd (cc)
      none w rest front back (operators f r o b m) n i = absurd (cc)

  -- a text within the limits is read as what it gives
  pub text-done : (ts : List Token) (text : List Laid) (g : Attributes A) → G text g → tokens_of text ≡ ts → is_within text ≡ true → read ts ≡ Done g []
  text-done ts text g x e w = ap read (sym e) ∙ complete text g x ∙ shown-within text [] (Done g []) w
