-- Where readings are refused, from where their rest is refused behind a first word.
use Rattle.std.proofs.Common.{◌≡◌, ℕ, suc, ◌+◌, List, [], ◌∷◌, ◌++◌, take, refl, subst, arith, add-one}
use Rattle.prv_line.specs.Usages.{Begins, IsRefused}

-- nothing begins with the first word
pub refused_first : {V : Type 0} (M : V → List (List ℕ) → Type 0) (w : List ℕ) (ws : List (List ℕ)) → Begins M []
    → ((v : V) (rest : List (List ℕ)) → M v (w ∷ rest) → ⊥) → IsRefused M (w ∷ ws) 0
refused_first M w ws b h = record {
  within = omega arith;
  begins = b;
  refused = λ below begun. h begun.1 begun.0 begun.2;
  short = λ e v m. absurd (omega arith);
}

-- no words are too few
pub refused_none : {V : Type 0} (M : V → List (List ℕ) → Type 0) → Begins M [] → ((v : V) → M v [] → ⊥) → IsRefused M [] 0
refused_none M b h = record {
  within = omega arith;
  begins = b;
  refused = λ below begun. absurd (omega arith);
  short = λ e v m. h v m;
}

next-take : (k : ℕ) (w : List ℕ) (ws : List (List ℕ)) → take (suc k + 1) (w ∷ ws) ≡ w ∷ take (k + 1) ws
next-take k w ws = rw (add-one, add-one) refl

-- what M reads behind the first word is what L reads
pub refused_behind : {U V : Type 0} (L : U → List (List ℕ) → Type 0) (M : V → List (List ℕ) → Type 0) (w : List ℕ)
    → ((u : U) (rest : List (List ℕ)) → L u rest → (v : V) × M v (w ∷ rest))
    → ((v : V) (rest : List (List ℕ)) → M v (w ∷ rest) → (u : U) × L u rest)
    → (ws : List (List ℕ)) (k : ℕ) → IsRefused L ws k → IsRefused M (w ∷ ws) (suc k)
refused_behind {U} {V} L M w into out ws k h = record {
  within = let i = h.within in omega arith;
  begins = let v = into h.begins.1 (take k ws ++ h.begins.0) h.begins.2 in (h.begins.0, v.0, v.1);
  refused = λ below begun.
      let F : List (List ℕ) → Type 0 = λ front. Begins M front in
      let m : Begins M (w ∷ take (k + 1) ws) = subst F (next-take k w ws) begun in
      let u = out m.1 (take (k + 1) ws ++ m.0) m.2 in
      h.refused (omega arith) (m.0, u.0, u.1);
  short = λ e v m. let u = out v ws m in h.short (omega arith) u.0 u.1;
}

-- M reads one word that satisfies P, and then what L reads
pub record BeginsWith {U V : Type 0} (P : List ℕ → Type 0) (L : U → List (List ℕ) → Type 0) (M : V → List (List ℕ) → Type 0) : Type 0 where
  pub into : (word : List ℕ) (u : U) (ws : List (List ℕ)) → P word → L u ws → (v : V) × M v (word ∷ ws)
  pub passes : (v : V) (word : List ℕ) (ws : List (List ℕ)) → M v (word ∷ ws) → P word
  pub out : (v : V) (word : List ℕ) (ws : List (List ℕ)) → M v (word ∷ ws) → (u : U) × L u ws
  pub none : (v : V) → M v [] → ⊥
  pub word : List ℕ
  pub word_passes : P word
  pub begins : Begins L []

pub begins-with : {U V : Type 0} (P : List ℕ → Type 0) (L : U → List (List ℕ) → Type 0) (M : V → List (List ℕ) → Type 0) → BeginsWith P L M → Begins M []
begins-with P L M b =
    let v = b.into b.word b.begins.1 b.begins.0 b.word_passes b.begins.2 in
    (b.word ∷ b.begins.0, v.0, v.1)

-- no first word passes
pub refused_word : {U V : Type 0} (P : List ℕ → Type 0) (L : U → List (List ℕ) → Type 0) (M : V → List (List ℕ) → Type 0) → BeginsWith P L M
    → (ws : List (List ℕ)) → ((word : List ℕ) (rest : List (List ℕ)) → ws ≡ word ∷ rest → P word → ⊥) → IsRefused M ws 0
refused_word P L M b [] h = refused_none M (begins-with P L M b) b.none
refused_word P L M b (w ∷ ws) h = refused_first M w ws (begins-with P L M b) (λ v rest m. h w ws refl (b.passes v w rest m))

-- the first word passes, and the rest is refused
pub refused_rest : {U V : Type 0} (P : List ℕ → Type 0) (L : U → List (List ℕ) → Type 0) (M : V → List (List ℕ) → Type 0) → BeginsWith P L M
    → (w : List ℕ) (ws : List (List ℕ)) (k : ℕ) → P w → IsRefused L ws k → IsRefused M (w ∷ ws) (suc k)
refused_rest P L M b w ws k p h = refused_behind L M w (λ u rest l. b.into w u rest p l) (λ v rest m. b.out v w rest m) ws k h
