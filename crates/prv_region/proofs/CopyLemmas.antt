-- A copy of one term: nodes wait, each for its operands, and the greatest waits longest.
use Rattle.std.proofs.Common.{◌≡◌, ◌≢◌, ◌⊎◌, inl, inr, ℕ, zero, suc, ◌+◌, ◌*◌, ◌<◌, ◌≤◌, List, [], ◌∷◌, ◌++◌, length, set, get_or, map, All, take, drop, replicate, Option, Some, None, Result, Ok, Err, slice_get, refl, sym, ap, ◌∙◌, subst, arith}
use Rattle.std.specs.Prelude.{IsErrAnd, OnErr}
use Rattle.std.proofs.Math.Seq.{take-append_seam}
use Rattle.std.proofs.lemmas.Bool.{cases_eq}
use Rattle.std.proofs.lemmas.List.{length-set, length-replicate, map-append, take_more, take-append-drop, get_or-set_same, get_or-set_other}
use Rattle.std.proofs.lemmas.Option.{unwrap_or-slice_get}
use Rattle.prv_model.specs.declared.term.Term.{Term}
use Rattle.prv_pool.specs.Tables.{Table, Makes, Grown, add_term, add_terms, term_at}
use Rattle.prv_region.specs.Numbers.{number_at, Stands}
use Rattle.prv_region.specs.Copies.{Copies}
use Rattle.prv_pool.specs.declared.error.PoolError.{PoolError}
use Rattle.prv_pool.specs.declared.error.PoolError.TheVariants.{Wide, Memory}
use Rattle.prv_pool.proofs.NodeLemmas.{get-append, get-within, term_at-some}
use Rattle.prv_pool.proofs.TableLemmas.{has-at, add-there}
use Rattle.prv_pool.proofs.PoolLemmas.{memory-not-wide}
use Rattle.prv_pool.proofs.AddLemmas.{grown-not, grown-twice, grown-longer, add-grows}

-- the terms of waiting nodes are added, that of the last first
abbrev pub waited : List Term → List ℕ → List Term → List Term
waited from [] made = made
waited from (n ∷ waiting) made = add_term (term_at from n) (waited from waiting made)

-- each waiting node is below the one before it, and has no number yet
abbrev pub AreWaiting : List (Option ℕ) → ℕ → List ℕ → Type 0
AreWaiting numbers limit [] = Unit {0}
AreWaiting numbers limit (n ∷ waiting) = (n < limit) × (number_at numbers n ≡ None) × AreWaiting numbers n waiting

-- the first waiting node is the root; where none waits, the newest node is the root's
abbrev pub EndsAt : List Term → List Term → ℕ → ℕ → List ℕ → Type 0
EndsAt from into root made [] = slice_get into made ≡ Some (term_at from root)
EndsAt from into root made (n ∷ waiting) = n ≡ root

-- the last waiting node
abbrev pub last_of : ℕ → List ℕ → ℕ
last_of n [] = n
last_of n (m ∷ waiting) = last_of m waiting

-- how many nodes have no number yet
abbrev pub blanks : List (Option ℕ) → ℕ
blanks [] = 0
blanks (Some m ∷ numbers) = blanks numbers
blanks (None ∷ numbers) = blanks numbers + 1

pub record IsCopying (from before into : List Term) (numbers : List (Option ℕ)) (root made : ℕ) (waiting : List ℕ) : Type 0 where
  pub sized : length numbers ≡ length from
  pub stands : Stands from into numbers
  pub waits : AreWaiting numbers (length from) waiting
  pub ends : EndsAt from into root made waiting
  pub kept : Grown before into
  pub goal : waited from waiting into ≡ add_term (term_at from root) before

-- ---- one node more at the end

waited-end : (from : List Term) (waiting : List ℕ) (n : ℕ) (made : List Term) → waited from (waiting ++ n ∷ []) made ≡ waited from waiting (add_term (term_at from n) made)
waited-end from [] n made = refl
waited-end from (k ∷ waiting) n made = ap (add_term (term_at from k)) (waited-end from waiting n made)

waited-grows : (from : List Term) (waiting : List ℕ) (made : List Term) → Grown made (waited from waiting made)
waited-grows from [] made = grown-not made
waited-grows from (n ∷ waiting) made = grown-twice made _ _ (waited-grows from waiting made) (add-grows (term_at from n) (waited from waiting made))

last-waits : (numbers : List (Option ℕ)) (limit : ℕ) (waiting : List ℕ) (n : ℕ) → AreWaiting numbers limit (waiting ++ n ∷ []) → (n < limit) × (number_at numbers n ≡ None)
last-waits numbers limit [] n w = (w.0, w.1)
last-waits numbers limit (k ∷ waiting) n w = let h = last-waits numbers k waiting n w.2 in (omega (arith, h.0, w.0), h.1)

waits-more : (numbers : List (Option ℕ)) (limit : ℕ) (waiting : List ℕ) (n m : ℕ) → AreWaiting numbers limit (waiting ++ n ∷ []) → m < n → number_at numbers m ≡ None → AreWaiting numbers limit ((waiting ++ n ∷ []) ++ m ∷ [])
waits-more numbers limit [] n m w less e = (w.0, w.1, (less, e, tt))
waits-more numbers limit (k ∷ waiting) n m w less e = (w.0, w.1, waits-more numbers k waiting n m w.2 less e)

pub number-set_other : (numbers : List (Option ℕ)) (n k : ℕ) (o : Option ℕ) → k ≢ n → number_at (set numbers n o) k ≡ number_at numbers k
number-set_other numbers n k o h = unwrap_or-slice_get (set numbers n o) k None ∙ get_or-set_other numbers n k o None h ∙ sym (unwrap_or-slice_get numbers k None)

pub number-set_same : (numbers : List (Option ℕ)) (n : ℕ) (o : Option ℕ) → n < length numbers → number_at (set numbers n o) n ≡ o
number-set_same numbers n o h = unwrap_or-slice_get (set numbers n o) n None ∙ get_or-set_same numbers n o None h

waits-less : (numbers : List (Option ℕ)) (limit : ℕ) (waiting : List ℕ) (n : ℕ) (o : Option ℕ) → AreWaiting numbers limit (waiting ++ n ∷ []) → AreWaiting (set numbers n o) limit waiting
waits-less numbers limit [] n o w = tt
waits-less numbers limit (k ∷ waiting) n o w =
    let below = (last-waits numbers k waiting n w.2).0 in
    let other : k ≢ n = omega arith in
    (w.0, number-set_other numbers n k o other ∙ w.1, waits-less numbers k waiting n o w.2)

ends-more : (from into : List Term) (root made made' : ℕ) (waiting : List ℕ) (n m : ℕ) → EndsAt from into root made (waiting ++ n ∷ []) → EndsAt from into root made' ((waiting ++ n ∷ []) ++ m ∷ [])
ends-more from into root made made' [] n m e = e
ends-more from into root made made' (k ∷ waiting) n m e = e

ends-less : (from into into' : List Term) (root made made' : ℕ) (waiting : List ℕ) (n : ℕ) → EndsAt from into root made (waiting ++ n ∷ []) → slice_get into' made' ≡ Some (term_at from n) → EndsAt from into' root made' waiting
ends-less from into into' root made made' [] n e here = here ∙ ap (λ (k : ℕ). Some (term_at from k)) e
ends-less from into into' root made made' (k ∷ waiting) n e here = e

-- ---- the two steps

-- what stands in a list stands in one that goes on from it
pub grown-get : (ts us : List Term) (m : ℕ) (t : Term) → Grown ts us → slice_get ts m ≡ Some t → slice_get us m ≡ Some t
grown-get ts us m t g e = ap (λ (xs : List Term). slice_get xs m) g.is ∙ get-append ts g.more m (get-within ts m t e) ∙ e

stands-more : (from into into' : List Term) (numbers : List (Option ℕ)) (n m : ℕ) → n < length numbers → Grown into into' → Stands from into numbers → slice_get into' m ≡ Some (term_at from n) → Stands from into' (set numbers n (Some m))
stands-more from into into' numbers n m h g s here = record { at = λ k j e. at k j e (cases_eq k n) }
  where
    at : (k j : ℕ) → number_at (set numbers n (Some m)) k ≡ Some j → (k ≡ n) ⊎ (k ≢ n) → slice_get into' j ≡ Some (term_at from k)
    at k j e (inl same) =
        let is : Some m ≡ Some j = sym (number-set_same numbers n (Some m) h) ∙ ap (number_at (set numbers n (Some m))) (sym same) ∙ e in
        let j-is : m ≡ j = cc in
        ap (slice_get into') (sym j-is) ∙ here ∙ ap (λ (i : ℕ). Some (term_at from i)) (sym same)
    at k j e (inr other) = grown-get into into' j _ g (s.at k j (sym (number-set_other numbers n k (Some m) other) ∙ e))

-- an operand is to come first
pub copying-more : (from before into : List Term) (numbers : List (Option ℕ)) (root made : ℕ) (waiting : List ℕ) (n a : ℕ) → IsCopying from before into numbers root made (waiting ++ n ∷ []) → a < n → number_at numbers a ≡ None
    → add_term (term_at from n) (add_term (term_at from a) into) ≡ add_term (term_at from n) into → IsCopying from before into numbers root made ((waiting ++ n ∷ []) ++ a ∷ [])
copying-more from before into numbers root made waiting n a c less e first = record {
  sized = c.sized;
  stands = c.stands;
  waits = waits-more numbers (length from) waiting n a c.waits less e;
  ends = ends-more from into root made made waiting n a c.ends;
  kept = c.kept;
  goal = waited-end from (waiting ++ n ∷ []) a into ∙ waited-end from waiting n (add_term (term_at from a) into) ∙ ap (waited from waiting) first ∙ sym (waited-end from waiting n into) ∙ c.goal;
}

-- the last node is made
pub copying-less : (from before into into' : List Term) (numbers : List (Option ℕ)) (root made m : ℕ) (waiting : List ℕ) (n : ℕ) → IsCopying from before into numbers root made (waiting ++ n ∷ [])
    → slice_get into' m ≡ Some (term_at from n) → into' ≡ add_term (term_at from n) into → IsCopying from before into' (set numbers n (Some m)) root m waiting
copying-less from before into into' numbers root made m waiting n c here grows =
    let within = (last-waits numbers (length from) waiting n c.waits).0 in
    let g : Grown into into' = subst (Grown into) (sym grows) (add-grows (term_at from n) into) in
    record {
      sized = length-set numbers n (Some m) ∙ c.sized;
      stands = stands-more from into into' numbers n m (omega (arith, c.sized)) g c.stands here;
      waits = waits-less numbers (length from) waiting n (Some m) c.waits;
      ends = ends-less from into into' root made m waiting n c.ends here;
      kept = grown-twice before into into' c.kept g;
      goal = ap (waited from waiting) grows ∙ sym (waited-end from waiting n into) ∙ c.goal;
    }

-- the first node
pub copying-first : (from into : List Term) (numbers : List (Option ℕ)) (root made : ℕ) → length numbers ≡ length from → Stands from into numbers → root < length from → number_at numbers root ≡ None
    → IsCopying from into into numbers root made (root ∷ [])
copying-first from into numbers root made sized stands within new = record {
  sized = sized;
  stands = stands;
  waits = (within, new, tt);
  ends = refl;
  kept = grown-not into;
  goal = refl;
}

-- the room that is left for a node that is to be made
pub copying-room : (from before into : List Term) (numbers : List (Option ℕ)) (root made : ℕ) (waiting : List ℕ) (n max : ℕ) → IsCopying from before into numbers root made (waiting ++ n ∷ [])
    → max < length (add_term (term_at from n) into) → max < length (add_term (term_at from root) before)
copying-room from before into numbers root made waiting n max c full =
    let more = waited-grows from waiting (add_term (term_at from n) into) in
    let whole : waited from waiting (add_term (term_at from n) into) ≡ add_term (term_at from root) before = sym (waited-end from waiting n into) ∙ c.goal in
    omega (arith, grown-longer _ _ more, ap length whole)

-- ---- the copy ends

-- the measure: the nodes without number, and then the last waiting node
abbrev pub left : List (Option ℕ) → ℕ → List ℕ → ℕ
left numbers size waiting = blanks numbers * (size + 1) + last_of 0 waiting

last-end : (d : ℕ) (waiting : List ℕ) (n : ℕ) → last_of d (waiting ++ n ∷ []) ≡ n
last-end d [] n = refl
last-end d (k ∷ waiting) n = last-end k waiting n

last-below : (numbers : List (Option ℕ)) (limit d : ℕ) (waiting : List ℕ) → AreWaiting numbers limit waiting → d ≤ limit → last_of d waiting ≤ limit
last-below numbers limit d [] w h = h
last-below numbers limit d (n ∷ waiting) w h = let below = last-below numbers n n waiting w.2 (omega arith) in omega (arith, w.0)

blanks-set : (numbers : List (Option ℕ)) (n m : ℕ) → n < length numbers → number_at numbers n ≡ None → blanks (set numbers n (Some m)) + 1 ≡ blanks numbers
blanks-set [] n m h e = absurd (omega arith)
blanks-set (Some k ∷ numbers) zero m h e = cc e
blanks-set (None ∷ numbers) zero m h e = refl
blanks-set (Some k ∷ numbers) (suc n) m h e = blanks-set numbers n m (omega arith) e
blanks-set (None ∷ numbers) (suc n) m h e = ap (λ (i : ℕ). i + 1) (blanks-set numbers n m (omega arith) e)

pub left-more : (numbers : List (Option ℕ)) (size : ℕ) (waiting : List ℕ) (n a : ℕ) → a < n → left numbers size ((waiting ++ n ∷ []) ++ a ∷ []) < left numbers size (waiting ++ n ∷ [])
left-more numbers size waiting n a less = omega (arith, last-end 0 (waiting ++ n ∷ []) a, last-end 0 waiting n)

less-product : (b b' s l n : ℕ) → b' + 1 ≡ b → l ≤ s → b' * (s + 1) + l < b * (s + 1) + n
less-product b b' s l n e h = subst (λ (i : ℕ). b' * (s + 1) + l < i * (s + 1) + n) e (omega arith)

pub left-less : (from before into : List Term) (numbers : List (Option ℕ)) (root made m : ℕ) (waiting : List ℕ) (n : ℕ) → IsCopying from before into numbers root made (waiting ++ n ∷ [])
    → left (set numbers n (Some m)) (length from) waiting < left numbers (length from) (waiting ++ n ∷ [])
left-less from before into numbers root made m waiting n c =
    let w = last-waits numbers (length from) waiting n c.waits in
    let fewer = blanks-set numbers n m (omega (arith, c.sized, w.0)) w.1 in
    let low = last-below (set numbers n (Some m)) (length from) 0 waiting (waits-less numbers (length from) waiting n (Some m) c.waits) (omega arith) in
    less-product (blanks numbers) (blanks (set numbers n (Some m))) (length from) (last_of 0 waiting) (last_of 0 (waiting ++ n ∷ [])) fewer low

-- no node waits any more
pub copies-done : (from : List Term) (old new : Table) (numbers : List (Option ℕ)) (root made : ℕ) (waiting : List ℕ) → length waiting ≡ 0 → IsCopying from old.terms new.terms numbers root made waiting → new.max_nodes ≡ old.max_nodes
    → Copies (term_at from root) old new (Ok made)
copies-done from old new numbers root made [] e c limit = record { stands = c.ends; grows = c.goal; kept = c.kept; limit = limit; wide = λ d. cc }
copies-done from old new numbers root made (n ∷ waiting) e c limit = absurd (omega (arith, e))

-- want of memory
pub copies-no-memory : (t : Term) (old new : Table) (r : Result ℕ PoolError) → Grown old.terms new.terms → new.max_nodes ≡ old.max_nodes → IsErrAnd r (λ e. e ≡ Memory) → Copies t old new r
copies-no-memory t old new (Ok n) kept limit h = absurd h
copies-no-memory t old new (Err w) kept limit h = record { stands = tt; grows = tt; kept = kept; limit = limit; wide = λ e. absurd (memory-not-wide (Err w) h e) }

-- ---- what the loop passes on

module _ (from before : List Term) (numbers : List (Option ℕ)) (root made : ℕ) (whole rest : List ℕ) (n : ℕ) (popped : whole ≡ rest ++ n ∷ []) where
  at-last : (into : List Term) → IsCopying from before into numbers root made whole → IsCopying from before into numbers root made (rest ++ n ∷ [])
  at-last into c = subst (λ (ws : List ℕ). IsCopying from before into numbers root made ws) popped c

  pub last-below-all : (into : List Term) → IsCopying from before into numbers root made whole → n < length from
  last-below-all into c = (last-waits numbers (length from) rest n (at-last into c).waits).0

  pub ready-smaller : (into : List Term) (m : ℕ) → IsCopying from before into numbers root made whole → left (set numbers n (Some m)) (length from) rest < left numbers (length from) whole
  ready-smaller into m c = subst (λ (ws : List ℕ). left (set numbers n (Some m)) (length from) rest < left numbers (length from) ws) (sym popped) (left-less from before into numbers root made m rest n (at-last into c))

  pub ready-copying : (into new : List Term) (m : ℕ) (t : Term) → IsCopying from before into numbers root made whole → t ≡ term_at from n → slice_get new m ≡ Some t → new ≡ add_term t into
      → IsCopying from before new (set numbers n (Some m)) root m rest
  ready-copying into new m t c is here grows =
      copying-less from before into new numbers root made m rest n (at-last into c) (here ∙ ap (λ (u : Term). Some u) is) (grows ∙ ap (λ (u : Term). add_term u into) is)

  pub lacks-smaller : (more most : List ℕ) (a : ℕ) → more ≡ rest ++ n ∷ [] → most ≡ more ++ a ∷ [] → a < n → left numbers (length from) most < left numbers (length from) whole
  lacks-smaller more most a em el less =
      let is : most ≡ (rest ++ n ∷ []) ++ a ∷ [] = el ∙ ap (λ (ws : List ℕ). ws ++ a ∷ []) em in
      let h = left-more numbers (length from) rest n a less in
      subst (λ (ws : List ℕ). left numbers (length from) ws < left numbers (length from) whole) (sym is)
      (subst (λ (ws : List ℕ). left numbers (length from) ((rest ++ n ∷ []) ++ a ∷ []) < left numbers (length from) ws) (sym popped) h)

  pub lacks-copying : (into : List Term) (more most : List ℕ) (a : ℕ) → IsCopying from before into numbers root made whole → more ≡ rest ++ n ∷ [] → most ≡ more ++ a ∷ [] → a < n → number_at numbers a ≡ None
      → add_term (term_at from n) (add_term (term_at from a) into) ≡ add_term (term_at from n) into → IsCopying from before into numbers root made most
  lacks-copying into more most a c em el less e first =
      let is : most ≡ (rest ++ n ∷ []) ++ a ∷ [] = el ∙ ap (λ (ws : List ℕ). ws ++ a ∷ []) em in
      subst (λ (ws : List ℕ). IsCopying from before into numbers root made ws) (sym is) (copying-more from before into numbers root made rest n a (at-last into c) less e first)

-- a node that was refused
pub copies-refused : (from : List Term) (old middle new : Table) (numbers : List (Option ℕ)) (root made : ℕ) (whole rest : List ℕ) (n : ℕ) (t : Term) (s r : Result ℕ PoolError) (e : PoolError) → whole ≡ rest ++ n ∷ []
    → IsCopying from old.terms middle.terms numbers root made whole → middle.max_nodes ≡ old.max_nodes → t ≡ term_at from n → Makes t middle new s → s ≡ Err e → IsErrAnd r (λ d. d ≡ e) → Copies (term_at from root) old new r
copies-refused from old middle new numbers root made whole rest n t s (Ok k) e popped c limit is makes failed given = absurd given
copies-refused from old middle new numbers root made whole rest n t s (Err w) e popped c limit is makes failed given =
    let same : new ≡ middle = subst (λ (x : Result ℕ PoolError). OnErr x (new ≡ middle)) failed makes.refused in
    record {
      stands = tt;
      grows = tt;
      kept = subst (λ (u : Table). Grown old.terms u.terms) (sym same) c.kept;
      limit = ap (λ (u : Table). u.max_nodes) same ∙ limit;
      wide = λ d.
          let wide : e ≡ Wide = sym given ∙ ap (λ (x : Result ℕ PoolError). err_or x Wide) d in
          let full = makes.wide.0 (failed ∙ ap (λ (x : PoolError). Err x) wide) in
          let full' : old.max_nodes < length (add_term (term_at from n) middle.terms) = omega (arith, full, limit, ap (λ (u : Term). length (add_term u middle.terms)) is) in
          copying-room from old.terms middle.terms numbers root made rest n old.max_nodes (at-last from old.terms numbers root made whole rest n popped middle.terms c) full';
    }
  where
    err_or : Result ℕ PoolError → PoolError → PoolError
    err_or (Ok k) d = d
    err_or (Err x) d = x

-- ---- a term that has its number

pub copies-there : (from : List Term) (old : Table) (numbers listed : List (Option ℕ)) (root n : ℕ) → Stands from old.terms numbers → listed ≡ numbers → Some n ≡ number_at listed root → Copies (term_at from root) old old (Ok n)
copies-there from old numbers listed root n s el e =
    let here = s.at root n (sym (e ∙ ap (λ (ns : List (Option ℕ)). number_at ns root) el)) in
    record {
      stands = here;
      grows = sym (add-there (term_at from root) old.terms (has-at old.terms n (term_at from root) here));
      kept = grown-not old.terms;
      limit = refl;
      wide = λ d. cc;
    }

-- ---- the terms of a region in turn

adds-grow : (us more : List Term) → Grown us (add_terms us more)
adds-grow us [] = grown-not us
adds-grow us (t ∷ more) = grown-twice us _ _ (add-grows t us) (adds-grow (add_term t us) more)

adds-end : (us more : List Term) (t : Term) → add_terms us (more ++ t ∷ []) ≡ add_term t (add_terms us more)
adds-end us [] t = refl
adds-end us (u ∷ more) t = adds-end (add_term u us) more t

adds-append : (us more rest : List Term) → add_terms us (more ++ rest) ≡ add_terms (add_terms us more) rest
adds-append us [] rest = refl
adds-append us (u ∷ more) rest = adds-append (add_term u us) more rest

-- numbers whose terms stand in a list
abbrev pub AreCopied : List Term → List ℕ → List Term → Type 0
AreCopied us copies ts = map (slice_get us) copies ≡ map Some ts

copied-grown : (us vs : List Term) (copies : List ℕ) (ts : List Term) → Grown us vs → AreCopied us copies ts → AreCopied vs copies ts
copied-grown us vs [] [] g e = refl
copied-grown us vs [] (t ∷ ts) g e = cc e
copied-grown us vs (m ∷ copies) [] g e = cc e
copied-grown us vs (m ∷ copies) (t ∷ ts) g e =
    let here : slice_get us m ≡ Some t = cc in
    let rest : map (slice_get us) copies ≡ map Some ts = cc in
    let here' = grown-get us vs m t g here in
    let rest' = copied-grown us vs copies ts g rest in
    λ i. here' i ∷ rest' i

copied-end : (us : List Term) (copies : List ℕ) (ts : List Term) (m : ℕ) (t : Term) → AreCopied us copies ts → slice_get us m ≡ Some t → AreCopied us (copies ++ m ∷ []) (ts ++ t ∷ [])
copied-end us copies ts m t e here = map-append (slice_get us) copies (m ∷ []) ∙ (λ i. e i ++ here i ∷ []) ∙ sym (map-append (λ (u : Term). Some u) ts (t ∷ []))

pub copied-terms : (us : List Term) (copies : List ℕ) (ts : List Term) → AreCopied us copies ts → (map (term_at us) copies ≡ ts) × All (λ n. n < length us) copies
copied-terms us [] [] e = (refl, λ k d h. absurd (omega (arith, h)))
copied-terms us [] (t ∷ ts) e = cc e
copied-terms us (m ∷ copies) [] e = cc e
copied-terms us (m ∷ copies) (t ∷ ts) e =
    let here : slice_get us m ≡ Some t = cc in
    let rest : map (slice_get us) copies ≡ map Some ts = cc in
    let more = copied-terms us copies ts rest in
    let at = term_at-some us m t here in
    ((λ i. at i ∷ more.0 i), all (get-within us m t here) more.1)
  where
    all : m < length us → All (λ n. n < length us) copies → All (λ n. n < length us) (m ∷ copies)
    all low rest zero d h = low
    all low rest (suc k) d h = rest k d (omega (arith, h))

pub record AreCopying (from before into : List Term) (numbers : List (Option ℕ)) (copies roots : List ℕ) : Type 0 where
  pub sized : length numbers ≡ length from
  pub stands : Stands from into numbers
  pub copied : AreCopied into copies (map (term_at from) roots)
  pub grows : into ≡ add_terms before (map (term_at from) roots)

pub copying-none : (from into : List Term) (numbers : List (Option ℕ)) → numbers ≡ replicate (length from) None → AreCopying from into into numbers [] []
copying-none from into numbers e = record {
  sized = ap length e ∙ length-replicate (length from) None;
  stands = record { at = λ k m h. absurd (blank (length from) k m (sym (ap (λ (ns : List (Option ℕ)). number_at ns k) e) ∙ h)) };
  copied = refl;
  grows = refl;
}
  where
    blank : (n k m : ℕ) → number_at (replicate n None) k ≡ Some m → ⊥
    blank zero k m h = cc
    blank (suc n) zero m h = cc
    blank (suc n) (suc k) m h = blank n k m h

pub copying-one : (from before : List Term) (old new : Table) (numbers numbers' : List (Option ℕ)) (copies copies' roots : List ℕ) (i root copy : ℕ) → AreCopying from before old.terms numbers copies (take i roots) → i < length roots → root ≡ get_or roots i root
    → Copies (term_at from root) old new (Ok copy) → length numbers' ≡ length from → Stands from new.terms numbers' → copies' ≡ copies ++ copy ∷ [] → AreCopying from before new.terms numbers' copies' (take (i + 1) roots)
copying-one from before old new numbers numbers' copies copies' roots i root copy c h is made sized stands pushed =
    let ts = map (term_at from) (take i roots) in
    let more : map (term_at from) (take (i + 1) roots) ≡ ts ++ term_at from root ∷ [] =
    ap (map (term_at from)) (take_more roots i root h) ∙ map-append (term_at from) (take i roots) _ ∙ ap (λ (r : ℕ). ts ++ term_at from r ∷ []) (sym is) in
    record {
      sized = sized;
      stands = stands;
      copied = ap (map (slice_get new.terms)) pushed ∙ copied-end new.terms copies ts copy (term_at from root) (copied-grown old.terms new.terms copies ts made.kept c.copied) made.stands ∙ ap (map (λ (u : Term). Some u)) (sym more);
      grows = made.grows ∙ ap (add_term (term_at from root)) c.grows ∙ sym (adds-end before ts (term_at from root)) ∙ ap (add_terms before) (sym more);
    }

pub copying-kept : (from before into : List Term) (numbers : List (Option ℕ)) (copies roots : List ℕ) → AreCopying from before into numbers copies roots → Grown before into
copying-kept from before into numbers copies roots c = subst (Grown before) (sym c.grows) (adds-grow before (map (term_at from) roots))

-- one term of a region that finds no room
pub copying-full : (from before into : List Term) (numbers : List (Option ℕ)) (copies roots : List ℕ) (i root max : ℕ) → AreCopying from before into numbers copies (take i roots) → i < length roots → root ≡ get_or roots i root
    → max < length (add_term (term_at from root) into) → max < length (add_terms before (map (term_at from) roots))
copying-full from before into numbers copies roots i root max c h is full =
    let ts = map (term_at from) (take i roots) in
    let t = term_at from root in
    let more : map (term_at from) (take (i + 1) roots) ≡ ts ++ t ∷ [] =
    ap (map (term_at from)) (take_more roots i root h) ∙ map-append (term_at from) (take i roots) _ ∙ ap (λ (r : ℕ). ts ++ term_at from r ∷ []) (sym is) in
    let split : map (term_at from) roots ≡ (ts ++ t ∷ []) ++ map (term_at from) (drop (i + 1) roots) =
    ap (map (term_at from)) (sym (take-append-drop (i + 1) roots)) ∙ map-append (term_at from) (take (i + 1) roots) _ ∙ ap (λ (us : List Term). us ++ map (term_at from) (drop (i + 1) roots)) more in
    let front : add_terms before (ts ++ t ∷ []) ≡ add_term t into = adds-end before ts t ∙ ap (add_term t) (sym c.grows) in
    let g = adds-grow (add_terms before (ts ++ t ∷ [])) (map (term_at from) (drop (i + 1) roots)) in
    let whole : add_terms before (map (term_at from) roots) ≡ add_terms (add_terms before (ts ++ t ∷ [])) (map (term_at from) (drop (i + 1) roots)) = ap (add_terms before) split ∙ adds-append before (ts ++ t ∷ []) _ in
    omega (arith, grown-longer _ _ g, ap length front, ap length whole)

-- a table that is cut to what it was
pub kept-back : (old late new : Table) (count : ℕ) → count ≡ length old.terms → Grown old.terms late.terms → late.max_nodes ≡ old.max_nodes → new ≡ record late { terms = take count late.terms } → new ≡ old
kept-back old late new count e g limit cut =
    let terms : take count late.terms ≡ old.terms = (λ i. take (e i) (g.is i)) ∙ take-append_seam old.terms g.more in
    cut ∙ (λ i. record { terms = terms i; max_nodes = limit i })

-- a copy of a region's terms that is refused: its cause is that of the term that is refused
pub region-refused : (from before : List Term) (old new : Table) (numbers : List (Option ℕ)) (copies roots : List ℕ) (i root max : ℕ) (s r : Result ℕ PoolError) (e : PoolError) → AreCopying from before old.terms numbers copies (take i roots)
    → i < length roots → root ≡ get_or roots i root → old.max_nodes ≡ max → Copies (term_at from root) old new s → s ≡ Err e → e ≡ Wide → max < length (add_terms before (map (term_at from) roots))
region-refused from before old new numbers copies roots i root max s r e c h is limit made failed wide =
    let full = made.wide (failed ∙ ap (λ (x : PoolError). Err x) wide) in
    copying-full from before old.terms numbers copies roots i root max c h is (omega (arith, full, limit))

-- the error that is passed on
pub passed : {X : Type 0} (r : Result X PoolError) (e w : PoolError) → IsErrAnd r (λ d. d ≡ e) → r ≡ Err w → e ≡ w
passed (Ok x) e w h is = absurd h
passed (Err d) e w h is = let same : d ≡ w = cc in cc
