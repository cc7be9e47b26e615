-- The numbers of both forms are read as they are spelled.
use Rattle.std.proofs.Common.{◌≡◌, ℕ, zero, suc, ◌+◌, ◌-◌, ◌*◌, ◌/◌, ◌%◌, ◌^◌, ◌≤◌, ◌<◌, Bool, true, false, cond, ltb, List, [], ◌∷◌, ◌++◌, length, get_or, take, drop, Ok, Err, ◌⊎◌, inl, inr, refl, sym, ap, subst, ◌∙◌, arith}
use Rattle.std.specs.Int.{Width, w32, w64, byte_len, from_le_bytes, to_le_bytes}
use Rattle.std.specs.Prelude.{replicate}
use Rattle.std.proofs.lemmas.Bool.{cases_lt, cases_eq, lt-ltb, le-ltb, ltb-true, ltb-false, eq-eqb, ne_eqb}
use Rattle.std.proofs.lemmas.List.{append-nil, length-append, take_at, drop_at, take-append-drop, length-take, length-replicate}
use Rattle.std.proofs.lemmas.Nat.{le_bytes_4, le_bytes_8, from_le_bytes-to_le_bytes_4, from_le_bytes-to_le_bytes_8}
use Rattle.prv_codec.specs.declared.form.Form.{Form}
use Rattle.prv_codec.specs.declared.form.Form.TheVariants.{One, Two}
use Rattle.prv_codec.specs.Forms.{groups, bound, number, long}
use Rattle.prv_codec.specs.Spelling.{IsNumber}
use Rattle.prv_codec.specs.Reading.{fixed_at, with_low, groups_at, shortest_at, number_at, long_at}
use Rattle.prv_codec.proofs.Languages.{IsBytes, Stops, Takes, Reads, Spells, ok_is, bind_ok, bind_err}

-- ---- fixed width

pub byte-at : (bytes : List ℕ) → IsBytes bytes → (i : ℕ) → get_or bytes i 0 < 256
byte-at [] h i = omega arith
byte-at (b ∷ bytes) h zero = h.0
byte-at (b ∷ bytes) h (suc i) = byte-at bytes h.1 i

IsBytes-take : (n : ℕ) (bytes : List ℕ) → IsBytes bytes → IsBytes (take n bytes)
IsBytes-take zero bytes h = tt
IsBytes-take (suc n) [] h = tt
IsBytes-take (suc n) (b ∷ bytes) h = (h.0, IsBytes-take n bytes h.1)

IsBytes-padded : (bytes : List ℕ) (n : ℕ) → IsBytes bytes → IsBytes (bytes ++ replicate n 0)
IsBytes-padded [] zero h = tt
IsBytes-padded [] (suc n) h = (omega arith, IsBytes-padded [] n h)
IsBytes-padded (b ∷ bytes) n h = (h.0, IsBytes-padded bytes n h.1)

pub record IsWide (w : Width) (limit : ℕ) : Type 0 where
  pub len : (n : ℕ) → length (to_le_bytes w n) ≡ byte_len w
  pub back : (bytes : List ℕ) → length bytes ≡ byte_len w → IsBytes bytes → to_le_bytes w (from_le_bytes w bytes) ≡ bytes
  pub again : (n : ℕ) → n < limit → from_le_bytes w (to_le_bytes w n) ≡ n
  pub below : (bytes : List ℕ) → IsBytes bytes → from_le_bytes w bytes < limit

pub wide32 : IsWide w32 (2 ^ 32)
wide32 = record {
  len = λ n. refl;
  back = λ bytes len fits. le_bytes_4 bytes _ len (byte-at bytes fits) refl;
  again = λ n lt. from_le_bytes-to_le_bytes_4 n lt;
  below = λ bytes fits. let at = byte-at bytes fits in omega (arith, at 0, at 1, at 2, at 3);
}

pub wide64 : IsWide w64 (2 ^ 64)
wide64 = record {
  len = λ n. refl;
  back = λ bytes len fits. le_bytes_8 bytes _ len (byte-at bytes fits) refl;
  again = λ n lt. from_le_bytes-to_le_bytes_8 n lt;
  below = λ bytes fits. let at = byte-at bytes fits in omega (arith, at 0, at 1, at 2, at 3, at 4, at 5, at 6, at 7);
}

chosen : {A : Type 0} (b : Bool) (x y z : A) → cond b x y ≡ z → ((b ≡ true) × (x ≡ z)) ⊎ ((b ≡ false) × (y ≡ z))
chosen true x y z e = inl (refl, e)
chosen false x y z e = inr (refl, e)

pub guard_ok : {A : Type 0} (b : Bool) (d : ℕ) (x y : A) → cond b (Err d) (Ok x) ≡ Ok y → (b ≡ false) × (x ≡ y)
guard_ok true d x y e = absurd cc
guard_ok false d x y e = (refl, cc)

pub guard_err : {A : Type 0} (b : Bool) (d left : ℕ) (x : A) → cond b (Err d) (Ok x) ≡ Err left → (b ≡ true) × (d ≡ left)
guard_err true d left x e = (refl, cc)
guard_err false d left x e = absurd cc

module _ (w : Width) (limit : ℕ) (wide : IsWide w limit) where
  abbrev Fixed : ℕ → List ℕ → Type 0
  Fixed = Spells (λ n. n < limit) (to_le_bytes w)

  fixed-again : (n : ℕ) (t rest : List ℕ) → Fixed n t → fixed_at w (t ++ rest) ≡ Ok (n, rest)
  fixed-again n t rest h =
      let len = wide.len n in
      let long : ltb (length (to_le_bytes w n ++ rest)) (byte_len w) ≡ false = le-ltb _ _ (omega (arith, length-append (to_le_bytes w n) rest)) in
      ap (λ (u : List ℕ). fixed_at w (u ++ rest)) h.is ∙ rw (long, take_at (to_le_bytes w n) rest (byte_len w) len, drop_at (to_le_bytes w n) rest (byte_len w) len, wide.again n h.fits) refl

  fixed-found : (bytes : List ℕ) → IsBytes bytes → (n : ℕ) (rest : List ℕ) → fixed_at w bytes ≡ Ok (n, rest) → Takes Fixed bytes n rest
  fixed-found bytes fits n rest e =
      let g = guard_ok (ltb (length bytes) (byte_len w)) 0 (from_le_bytes w (take (byte_len w) bytes), drop (byte_len w) bytes) (n, rest) e in
      let long : byte_len w ≤ length bytes = ltb-false _ _ g.0 in
      let n-is : from_le_bytes w (take (byte_len w) bytes) ≡ n = ap (λ (p : ℕ × List ℕ). p.0) g.1 in
      let rest-is : drop (byte_len w) bytes ≡ rest = ap (λ (p : ℕ × List ℕ). p.1) g.1 in
      let within = IsBytes-take (byte_len w) bytes fits in
      record {
        front = take (byte_len w) bytes;
        spells = record {
          fits = rw (← n-is) (wide.below (take (byte_len w) bytes) within);
          is = rw (← n-is) (sym (wide.back (take (byte_len w) bytes) (omega (arith, length-take (byte_len w) bytes)) within));
        };
        parts = rw (← rest-is) (sym (take-append-drop (byte_len w) bytes));
      }

  fixed-stops : (bytes : List ℕ) → IsBytes bytes → (left : ℕ) → fixed_at w bytes ≡ Err left → Stops Fixed (fixed_at w) bytes left
  fixed-stops bytes fits left e =
      let g = guard_err (ltb (length bytes) (byte_len w)) 0 left (from_le_bytes w (take (byte_len w) bytes), drop (byte_len w) bytes) e in
      let short : length bytes < byte_len w = ltb-true _ _ g.0 in
      let more : List ℕ = replicate (byte_len w - length bytes) 0 in
      let within = IsBytes-padded bytes (byte_len w - length bytes) fits in
      let len : length (bytes ++ more) ≡ byte_len w = omega (arith, length-append bytes more, length-replicate {A = ℕ} (byte_len w - length bytes) 0) in
      record {
        front = bytes;
        back = [];
        parts = sym (append-nil bytes);
        count = sym g.1;
        value = from_le_bytes w (bytes ++ more);
        more = more;
        begins = record { fits = wide.below (bytes ++ more) within; is = sym (wide.back (bytes ++ more) len within) };
        stuck = λ b t ext none. absurd cc;
      }

  pub fixed-reads : Reads Fixed (fixed_at w)
  fixed-reads = record { again = fixed-again; found = fixed-found; stops = fixed-stops }

-- ---- groups of seven bits

at-zero : (top more b : ℕ) (rest : List ℕ) → b ≡ 0 → groups_at top more (b ∷ rest) ≡ Err (suc (length rest))
unfolding groups_at
at-zero top zero b rest e = rw (eq-eqb b 0 e) refl
at-zero top (suc more) b rest e = rw (eq-eqb b 0 e) refl

at-last : (top b : ℕ) (rest : List ℕ) → (b ≡ 0 → ⊥) → b < top → groups_at top 0 (b ∷ rest) ≡ Ok (b, rest)
unfolding groups_at
at-last top b rest some below = rw (ne_eqb b 0 some, lt-ltb b top below) refl

at-past : (top b : ℕ) (rest : List ℕ) → (b ≡ 0 → ⊥) → top ≤ b → groups_at top 0 (b ∷ rest) ≡ Err (suc (length rest))
unfolding groups_at
at-past top b rest some past = rw (ne_eqb b 0 some, le-ltb b top past) refl

at-low : (top more b : ℕ) (rest : List ℕ) → (b ≡ 0 → ⊥) → b < 128 → groups_at top (suc more) (b ∷ rest) ≡ Ok (b, rest)
unfolding groups_at
at-low top more b rest some low = rw (ne_eqb b 0 some, lt-ltb b 128 low) refl

at-high : (top more b : ℕ) (rest : List ℕ) → 128 ≤ b → groups_at top (suc more) (b ∷ rest) ≡ with_low b (groups_at top more rest)
unfolding groups_at
at-high top more b rest high = rw (ne_eqb b 0 (λ e. omega arith), le-ltb b 128 high) refl

pub groups-low : (more n : ℕ) → n < 128 → groups (suc more) n ≡ n ∷ []
unfolding groups
groups-low more n low = rw (lt-ltb n 128 low) refl

pub groups-high : (more n : ℕ) → 128 ≤ n → groups (suc more) n ≡ (128 + n % 128) ∷ groups more (n / 128)
unfolding groups
groups-high more n high = rw (le-ltb n 128 high) refl

module _ (top : ℕ) (some : 1 < top) (few : top ≤ 128) where
  abbrev IsSome : ℕ → ℕ → Type 0
  IsSome more n = (0 < n) × (n < bound top more)

  abbrev Some : ℕ → ℕ → List ℕ → Type 0
  Some more = Spells (IsSome more) (groups more)

  one-below : (more : ℕ) → 1 < bound top more
  one-below zero = some
  one-below (suc more) = let h = one-below more in omega (arith, h)

  groups-again : (more n : ℕ) (rest : List ℕ) → IsSome more n → groups_at top more (groups more n ++ rest) ≡ Ok (n, rest)
  unfolding groups
  groups-again zero n rest h = at-last top n rest (λ e. omega (arith, h.0)) h.1
  groups-again (suc more) n rest h =
      elim (cases_lt n 128) [
        | inl low ↦ ap (λ (u : List ℕ). groups_at top (suc more) (u ++ rest)) (groups-low more n low) ∙ at-low top more n rest (λ e. omega (arith, h.0)) low
        | inr high ↦
            let ih = groups-again more (n / 128) rest (omega arith, omega (arith, h.1)) in
            let whole : 128 + n % 128 - 128 + 128 * (n / 128) ≡ n = omega arith in
            ap (λ (u : List ℕ). groups_at top (suc more) (u ++ rest)) (groups-high more n high)
            ∙ at-high top more (128 + n % 128) (groups more (n / 128) ++ rest) (omega arith)
            ∙ ap (with_low (128 + n % 128)) ih
            ∙ ap (λ (m : ℕ). Ok (m, rest)) whole
      ]

  -- a byte with its high bit set and the number behind it
  high-is : (more b m : ℕ) → 128 ≤ b → b < 256 → IsSome more m → Some (suc more) (b - 128 + 128 * m) (b ∷ groups more m)
  high-is more b m high byte h =
      let n = b - 128 + 128 * m in
      let low : b ≡ 128 + n % 128 = omega arith in
      let rest : m ≡ n / 128 = omega arith in
      let is : groups (suc more) n ≡ (128 + n % 128) ∷ groups more (n / 128) = groups-high more n (omega (arith, h.0)) in
      record { fits = (omega (arith, h.0), omega (arith, h.1)); is = sym (is ∙ (λ i. sym low i ∷ groups more (sym rest i))) }

  one-byte : (more n : ℕ) → (n ≡ 0 → ⊥) → n < 128 → n < bound top more → Some more n (n ∷ [])
  unfolding groups
  one-byte zero n some-n low below = record { fits = (omega arith, below); is = refl }
  one-byte (suc more) n some-n low below = record { fits = (omega arith, below); is = sym (groups-low more n low) }

  groups-found : (more : ℕ) (bytes : List ℕ) → IsBytes bytes → (n : ℕ) (rest : List ℕ) → groups_at top more bytes ≡ Ok (n, rest) → Takes (Some more) bytes n rest
  unfolding groups_at
  groups-found zero [] fits n rest e = absurd cc
  groups-found (suc more) [] fits n rest e = absurd cc
  groups-found zero (b ∷ bytes) fits n rest e =
      elim (cases_eq b 0) [
        | inl is ↦ let no-such = sym (at-zero top 0 b bytes is) ∙ e in absurd cc
        | inr isn't ↦ elim (cases_lt b top) [
          | inl below ↦
              let same = ok_is (b, bytes) (n, rest) (sym (at-last top b bytes isn't below) ∙ e) in
              subst (λ (p : ℕ × List ℕ). Takes (Some 0) (b ∷ bytes) p.0 p.1) same (record { front = b ∷ []; spells = one-byte 0 b isn't (omega arith) below; parts = refl })
          | inr past ↦ let no-such = sym (at-past top b bytes isn't past) ∙ e in absurd cc
        ]
      ]
  groups-found (suc more) (b ∷ bytes) fits n rest e =
      elim (cases_eq b 0) [
        | inl is ↦ let no-such = sym (at-zero top (suc more) b bytes is) ∙ e in absurd cc
        | inr isn't ↦ elim (cases_lt b 128) [
          | inl low ↦
              let same = ok_is (b, bytes) (n, rest) (sym (at-low top more b bytes isn't low) ∙ e) in
              let one = one-below more in
              subst (λ (p : ℕ × List ℕ). Takes (Some (suc more)) (b ∷ bytes) p.0 p.1) same (record { front = b ∷ []; spells = one-byte (suc more) b isn't low (omega (arith, one)); parts = refl })
          | inr high ↦
              let s = bind_ok (groups_at top more bytes) (λ x. Ok (b - 128 + 128 * x.0, x.1)) (n, rest) (sym (at-high top more b bytes high) ∙ e) in
              let t = groups-found more bytes fits.1 s.0.0 s.0.1 s.1 in
              let same = ok_is (b - 128 + 128 * s.0.0, s.0.1) (n, rest) s.2 in
              let h = high-is more b s.0.0 high fits.0 t.spells.fits in
              subst (λ (p : ℕ × List ℕ). Takes (Some (suc more)) (b ∷ bytes) p.0 p.1) same (record {
                front = b ∷ t.front;
                spells = record { fits = h.fits; is = ap (λ (u : List ℕ). b ∷ u) t.spells.is ∙ h.is };
                parts = ap (λ (u : List ℕ). b ∷ u) t.parts;
              })
        ]
      ]

  -- the number 1 may stand where nothing was read
  at-once : (more : ℕ) (bytes : List ℕ) → ((b : ℕ) (t ext : List ℕ) → bytes ≡ b ∷ t → groups_at top more (b ∷ ext) ≡ Err (suc (length ext))) → Stops (Some more) (groups_at top more) bytes (length bytes)
  at-once more bytes stuck = record {
    front = [];
    back = bytes;
    parts = refl;
    count = refl;
    value = 1;
    more = groups more 1;
    begins = record { fits = (omega arith, one-below more); is = refl };
    stuck = stuck;
  }

  first-is : (b c : ℕ) (bytes t : List ℕ) → (b ∷ bytes) ≡ (c ∷ t) → b ≡ c
  first-is b c bytes t e = cc

  groups-stops : (more : ℕ) (bytes : List ℕ) → IsBytes bytes → (left : ℕ) → groups_at top more bytes ≡ Err left → Stops (Some more) (groups_at top more) bytes left
  unfolding groups_at
  groups-stops zero [] fits left e = let same : 0 ≡ left = cc in subst (Stops (Some 0) (groups_at top 0) []) same (at-once 0 [] (λ b t ext none. absurd cc))
  groups-stops (suc more) [] fits left e = let same : 0 ≡ left = cc in subst (Stops (Some (suc more)) (groups_at top (suc more)) []) same (at-once (suc more) [] (λ b t ext none. absurd cc))
  groups-stops zero (b ∷ bytes) fits left e =
      elim (cases_eq b 0) [
        | inl is ↦
            let err = sym (at-zero top 0 b bytes is) ∙ e in
            let same : suc (length bytes) ≡ left = cc in
            subst (Stops (Some 0) (groups_at top 0) (b ∷ bytes)) same (at-once 0 (b ∷ bytes) (λ c t ext e'. at-zero top 0 c ext (sym (first-is b c bytes t e') ∙ is)))
        | inr isn't ↦ elim (cases_lt b top) [
          | inl below ↦ let no-such = sym (at-last top b bytes isn't below) ∙ e in absurd cc
          | inr past ↦
              let err = sym (at-past top b bytes isn't past) ∙ e in
              let same : suc (length bytes) ≡ left = cc in
              subst (Stops (Some 0) (groups_at top 0) (b ∷ bytes)) same (at-once 0 (b ∷ bytes) (λ c t ext e'.
              let is = first-is b c bytes t e' in at-past top c ext (λ z. isn't (is ∙ z)) (omega arith)))
        ]
      ]
  groups-stops (suc more) (b ∷ bytes) fits left e =
      elim (cases_eq b 0) [
        | inl is ↦
            let err = sym (at-zero top (suc more) b bytes is) ∙ e in
            let same : suc (length bytes) ≡ left = cc in
            subst (Stops (Some (suc more)) (groups_at top (suc more)) (b ∷ bytes)) same (at-once (suc more) (b ∷ bytes) (λ c t ext e'. at-zero top (suc more) c ext (sym (first-is b c bytes t e') ∙ is)))
        | inr isn't ↦ elim (cases_lt b 128) [
          | inl low ↦ let no-such = sym (at-low top more b bytes isn't low) ∙ e in absurd cc
          | inr high ↦
              elim (bind_err (groups_at top more bytes) (λ x. Ok (b - 128 + 128 * x.0, x.1)) left (sym (at-high top more b bytes high) ∙ e)) [
                | inl err ↦
                    let s = groups-stops more bytes fits.1 left err in
                    let h = high-is more b s.value high fits.0 s.begins.fits in
                    record {
                      front = b ∷ s.front;
                      back = s.back;
                      parts = ap (λ (u : List ℕ). b ∷ u) s.parts;
                      count = s.count;
                      value = b - 128 + 128 * s.value;
                      more = s.more;
                      begins = record { fits = h.fits; is = ap (λ (u : List ℕ). b ∷ u) s.begins.is ∙ h.is };
                      stuck = λ c t ext e'. at-high top more b (s.front ++ c ∷ ext) high ∙ ap (with_low b) (s.stuck c t ext e');
                    }
                | inr x ↦ let no-such = x.2 in absurd cc
              ]
        ]
      ]

  pub groups-reads : (more : ℕ) → Reads (Some more) (groups_at top more)
  groups-reads more = record { again = λ n t rest h. ap (λ (u : List ℕ). groups_at top more (u ++ rest)) h.is ∙ groups-again more n rest h.fits; found = groups-found more; stops = groups-stops more }

  -- ---- 0, which has a group that is 0, and all others

  abbrev Any : ℕ → ℕ → List ℕ → Type 0
  Any more = Spells (λ n. n < bound top more) (groups more)

  any : (more n : ℕ) (t : List ℕ) → Some more n t → Any more n t
  any more n t h = record { fits = h.fits.1; is = h.is }

  groups-zero : (more : ℕ) → groups more 0 ≡ 0 ∷ []
  unfolding groups
  groups-zero zero = refl
  groups-zero (suc more) = groups-low more 0 (omega arith)

  zero-is : (more : ℕ) → Any more 0 (0 ∷ [])
  zero-is more = let one = one-below more in record { fits = omega (arith, one); is = sym (groups-zero more) }

  shortest-zero : (more b : ℕ) (rest : List ℕ) → b ≡ 0 → shortest_at top more (b ∷ rest) ≡ Ok (0, rest)
  unfolding shortest_at
  shortest-zero more b rest e = rw (eq-eqb b 0 e) refl

  shortest-some : (more b : ℕ) (rest : List ℕ) → (b ≡ 0 → ⊥) → shortest_at top more (b ∷ rest) ≡ groups_at top more (b ∷ rest)
  unfolding shortest_at
  shortest-some more b rest some-b = rw (ne_eqb b 0 some-b) refl

  shortest-ok : (more : ℕ) (bytes : List ℕ) (x : ℕ × List ℕ) → groups_at top more bytes ≡ Ok x → shortest_at top more bytes ≡ Ok x
  unfolding groups_at
  shortest-ok zero [] x e = absurd cc
  shortest-ok (suc more) [] x e = absurd cc
  shortest-ok more (b ∷ bytes) x e =
      elim (cases_eq b 0) [
        | inl is ↦ let no-such = sym (at-zero top more b bytes is) ∙ e in absurd cc
        | inr isn't ↦ shortest-some more b bytes isn't ∙ e
      ]

  shortest-again : (more n : ℕ) (t rest : List ℕ) → Any more n t → shortest_at top more (t ++ rest) ≡ Ok (n, rest)
  shortest-again more n t rest h =
      elim (cases_eq n 0) [
        | inl is ↦
            let t-is : t ≡ 0 ∷ [] = h.is ∙ ap (groups more) is ∙ groups-zero more in
            ap (λ (u : List ℕ). shortest_at top more (u ++ rest)) t-is ∙ shortest-zero more 0 rest refl ∙ ap (λ (m : ℕ). Ok (m, rest)) (sym is)
        | inr isn't ↦
            let fits : IsSome more n = (omega arith, h.fits) in
            shortest-ok more (t ++ rest) (n, rest) (ap (λ (u : List ℕ). groups_at top more (u ++ rest)) h.is ∙ groups-again more n rest fits)
      ]

  shortest-found : (more : ℕ) (bytes : List ℕ) → IsBytes bytes → (n : ℕ) (rest : List ℕ) → shortest_at top more bytes ≡ Ok (n, rest) → Takes (Any more) bytes n rest
  unfolding shortest_at
  shortest-found more [] fits n rest e = absurd cc
  shortest-found more (b ∷ bytes) fits n rest e =
      elim (cases_eq b 0) [
        | inl is ↦
            let same = ok_is (0, bytes) (n, rest) (sym (shortest-zero more b bytes is) ∙ e) in
            subst (λ (p : ℕ × List ℕ). Takes (Any more) (b ∷ bytes) p.0 p.1) same (record { front = 0 ∷ []; spells = zero-is more; parts = ap (λ (c : ℕ). c ∷ bytes) is })
        | inr isn't ↦
            let t = groups-found more (b ∷ bytes) fits n rest (sym (shortest-some more b bytes isn't) ∙ e) in
            record { front = t.front; spells = any more n t.front t.spells; parts = t.parts }
      ]

  -- what doesn't begin with 0 stops likewise
  still-stuck : (more b : ℕ) (bytes front back : List ℕ) (c : ℕ) (t ext : List ℕ) → (b ≡ 0 → ⊥) → b ∷ bytes ≡ front ++ back → back ≡ c ∷ t → shortest_at top more (front ++ c ∷ ext) ≡ groups_at top more (front ++ c ∷ ext)
  still-stuck more b bytes [] back c t ext some-b parts e = let head : b ≡ c = cc in shortest-some more c ext (λ z. some-b (head ∙ z))
  still-stuck more b bytes (d ∷ front) back c t ext some-b parts e = let head : b ≡ d = cc in shortest-some more d (front ++ c ∷ ext) (λ z. some-b (head ∙ z))

  shortest-stops : (more : ℕ) (bytes : List ℕ) → IsBytes bytes → (left : ℕ) → shortest_at top more bytes ≡ Err left → Stops (Any more) (shortest_at top more) bytes left
  unfolding shortest_at
  shortest-stops more [] fits left e =
      let same : 0 ≡ left = cc in
      subst (Stops (Any more) (shortest_at top more) []) same
      (record { front = []; back = []; parts = refl; count = refl; value = 0; more = 0 ∷ []; begins = zero-is more; stuck = λ b t ext none. absurd cc })
  shortest-stops more (b ∷ bytes) fits left e =
      elim (cases_eq b 0) [
        | inl is ↦ let no-such = sym (shortest-zero more b bytes is) ∙ e in absurd cc
        | inr isn't ↦
            let s = groups-stops more (b ∷ bytes) fits left (sym (shortest-some more b bytes isn't) ∙ e) in
            record {
              front = s.front;
              back = s.back;
              parts = s.parts;
              count = s.count;
              value = s.value;
              more = s.more;
              begins = any more s.value (s.front ++ s.more) s.begins;
              stuck = λ c t ext e'. still-stuck more b bytes s.front s.back c t ext isn't s.parts e' ∙ s.stuck c t ext e';
            }
      ]

  pub shortest-reads : (more : ℕ) → Reads (Any more) (shortest_at top more)
  shortest-reads more = record { again = shortest-again more; found = shortest-found more; stops = shortest-stops more }

-- ---- in each form

pub number-reads : (form : Form) → Reads (Spells IsNumber (number form)) (number_at form)
number-reads One = fixed-reads w32 (2 ^ 32) wide32
number-reads Two = shortest-reads 16 (omega arith) (omega arith) 4

pub long-reads : (form : Form) → Reads (Spells (λ n. n < 2 ^ 64) (long form)) (long_at form)
long-reads One = fixed-reads w64 (2 ^ 64) wide64
long-reads Two = shortest-reads 2 (omega arith) (omega arith) 9
