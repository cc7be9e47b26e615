-- What a reader goes over: where the rule has a token some token, else maybe none; operators up to the limit; and, outside of holes, exactly the tokens of the skeleton.
use Rattle.std.proofs.Common.{◌≡◌, ℕ, zero, suc, ◌<◌, ◌≤◌, nat_le, Bool, true, false, ◌&&◌, ◌||◌, List, [], ◌∷◌, ◌++◌, length, Option, Some, None, refl, sym, ap, ap₂, ◌∙◌, arith, true≢false, append_assoc, ◌⊎◌, inl, inr, leb-false}
use Rattle.std.proofs.lemmas.Bool.{and_parts, or_cases}
use Rattle.std.proofs.lemmas.List.{map-append}
use Rattle.prv_lex.specs.declared.token.Token.{Token}
use Rattle.prv_rule.specs.declared.skeleton.Skel.{Skel}
use Rattle.prv_rule.specs.Operators.{is_operator}
use Rattle.prv_rule.specs.Texts.{more_by}
use Rattle.prv_rule.specs.Skeletons.{kept, plain}
use Rattle.prv_rule.specs.Rules.{Rule, Empty, Terminal, Sequence, Alternative, Repetition, Full, Hole, Construct, Fail, attributes, joined, full, hole_in, first, head_is, Table, Out, Done, Stop, Reader, bind, terminal, valued, spent, sequence, alternative, repetition, no_more, read_with, readers}

-- each text of a rule has a token that stands in no construct which the rule opens
abbrev pub has_token : {K : Type 0} {V : K → Type 0} {A : Type 0} → Rule V A → Bool
has_token (Empty v) = false
has_token (Terminal f e) = true
has_token (Sequence f a b) = has_token a || has_token b
has_token (Alternative a b) = has_token a && has_token b
has_token (Repetition a) = false
has_token (Full a) = has_token a
has_token (Hole s f a) = has_token a
has_token (Construct k f a b) = has_token a
has_token Fail = true

-- a rule leaves no hole, if those nonterminals leave none
abbrev pub is_plain : {K : Type 0} {V : K → Type 0} → (K → Bool) → {A : Type 0} → Rule V A → Bool
is_plain named (Empty v) = true
is_plain named (Terminal f e) = true
is_plain named (Sequence f a b) = is_plain named a && is_plain named b
is_plain named (Alternative a b) = is_plain named a && is_plain named b
is_plain named (Repetition a) = is_plain named a
is_plain named (Full a) = is_plain named a
is_plain named (Hole s f a) = false
is_plain named (Construct k f a b) = is_plain named a && (is_plain named b && named k)
is_plain named Fail = true

-- a skeleton is the tokens between
pub record IsPlain (ts : List Token) (skeleton : List Skel) (rest : List Token) : Type 0 where
  pub front : List Token
  pub tokens_are : ts ≡ front ++ rest
  pub skeleton_is : skeleton ≡ plain front

-- what was gone over
pub record IsSpan (some kept : Bool) (n : ℕ) (ts : List Token) (before : ℕ) (skeleton : List Skel) (rest : List Token) : Type 0 where
  pub shorter : length rest ≤ length ts
  pub more : n ≤ before
  pub few : n ≤ 256 → before ≤ 256
  pub strict : some ≡ true → length rest < length ts
  pub tokens : kept ≡ true → IsPlain ts skeleton rest

-- of an outcome
abbrev pub Spans : {A : Type 0} → Bool → Bool → ℕ → List Token → Out A → Type 0
Spans some kept n ts (Done u rest) = IsSpan some kept n ts u.before u.skeleton rest
Spans some kept n ts (Stop w rest) = Unit {0}

nothing : {A : Type 0} (v : A) (kept : Bool) (n : ℕ) (ts : List Token) → Spans false kept n ts (Done (attributes v n []) ts)
nothing v kept n ts = record { shorter = omega arith; more = omega arith; few = λ l. l; strict = λ e. absurd (true≢false (sym e)); tokens = λ e. record { front = []; tokens_are = refl; skeleton_is = refl } }

weaken : {A : Type 0} (some some' kept kept' : Bool) (n : ℕ) (ts : List Token) (o : Out A) → (some' ≡ true → some ≡ true) → (kept' ≡ true → kept ≡ true) → Spans some kept n ts o → Spans some' kept' n ts o
weaken some some' kept kept' n ts (Done u rest) e f x = record { shorter = x.shorter; more = x.more; few = x.few; strict = λ i. x.strict (e i); tokens = λ i. x.tokens (f i) }
weaken some some' kept kept' n ts (Stop w rest) e f x = tt

-- one token
below : (b : Bool) (n : ℕ) → (b && nat_le 256 n) ≡ false → n ≤ 256 → more_by b n ≤ 256
below false n e l = l
below true n e l = let k : n < 256 = leb-false 256 n e in omega arith

more-by : (b : Bool) (n : ℕ) → n ≤ more_by b n
more-by true n = omega arith
more-by false n = omega arith

spent-spans : {A : Type 0} (v : A) (n : ℕ) (t : Token) (ts : List Token) (s : Bool) → (is_operator t.tok && nat_le 256 n) ≡ s → Spans true true n (t ∷ ts) (spent s v n t ts)
spent-spans v n t ts true e = tt
spent-spans v n t ts false e = record {
  shorter = omega arith;
  more = more-by (is_operator t.tok) n;
  few = below (is_operator t.tok) n e;
  strict = λ i. omega arith;
  tokens = λ i. record { front = t ∷ []; tokens_are = refl; skeleton_is = refl };
}

terminal-spans : {A : Type 0} (f : Token → Option A) (n : ℕ) (ts : List Token) → Spans true true n ts (terminal f n ts)
terminal-spans f n [] = tt
terminal-spans {A = A} f n (t ∷ ts) = by (f t)
  where
    by : (o : Option A) → Spans true true n (t ∷ ts) (valued o n t ts)
    by None = tt
    by (Some v) = spent-spans v n t ts (is_operator t.tok && nat_le 256 n) refl

-- two in a row
plain-append : (ts r rest : List Token) (s s' : List Skel) → IsPlain ts s r → IsPlain r s' rest → IsPlain ts (s ++ s') rest
plain-append ts r rest s s' a b = record {
  front = a.front ++ b.front;
  tokens_are = a.tokens_are ∙ ap (λ l. a.front ++ l) b.tokens_are ∙ sym (append_assoc a.front b.front rest);
  skeleton_is = ap₂ (λ x y. x ++ y) a.skeleton_is b.skeleton_is ∙ sym (map-append (λ t. kept t) a.front b.front);
}

sequence-spans : {A B C : Type 0} (f : A → B → C) (a b ka kb : Bool) (n : ℕ) (ts : List Token) (o : Out A) (q : Reader B) → Spans a ka n ts o → ((m : ℕ) (r : List Token) → Spans b kb m r (q m r))
    → Spans (a || b) (ka && kb) n ts (bind o (λ u r. bind (q u.before r) (λ w s. Done (joined f u w) s)))
sequence-spans f a b ka kb n ts (Stop w r) q x h = tt
sequence-spans {B = B} f a b ka kb n ts (Done u r) q x h = by (q u.before r) (h u.before r)
  where
    either : (s : List Token) → length r ≤ length ts → length s ≤ length r → (a ≡ true → length r < length ts) → (b ≡ true → length s < length r) → (a ≡ true) ⊎ (b ≡ true) → length s < length ts
    either s l m g k (inl e) = let i : length r < length ts = g e in omega arith
    either s l m g k (inr e) = let i : length s < length r = k e in omega arith

    by : (o : Out B) → Spans b kb u.before r o → Spans (a || b) (ka && kb) n ts (bind o (λ w s. Done (joined f u w) s))
    by (Stop w s) y = tt
    by (Done w s) y = record {
      shorter = let l : length r ≤ length ts = x.shorter in let m : length s ≤ length r = y.shorter in omega arith;
      more = let l : n ≤ u.before = x.more in let m : u.before ≤ w.before = y.more in omega arith;
      few = λ l. y.few (x.few l);
      strict = λ e. either s x.shorter y.shorter x.strict y.strict (or_cases a b e);
      tokens = λ e. let p = and_parts ka kb e in plain-append ts r s u.skeleton w.skeleton (x.tokens p.0) (y.tokens p.1);
    }

-- any number of them
repetition-spans : {A : Type 0} (t : Token → Bool) (p : Reader A) (a ka : Bool) → ((n : ℕ) (ts : List Token) → Spans a ka n ts (p n ts)) → (fuel n : ℕ) (ts : List Token) → Spans false ka n ts (repetition t p fuel n ts)
repetition-spans {A = A} t p a ka h zero n ts = nothing {A = List A} [] ka n ts
repetition-spans {A = A} t p a ka h (suc fuel) n ts = by (repetition-spans t p a ka h fuel) (head_is t ts)
  where
    by : ((m : ℕ) (r : List Token) → Spans false ka m r (repetition t p fuel m r)) → (x : Bool) → Spans false ka n ts (alternative x (sequence (λ v vs. v ∷ vs) p (repetition t p fuel)) no_more n ts)
    by ih true = weaken (a || false) false (ka && ka) ka n ts (sequence (λ v vs. v ∷ vs) p (repetition t p fuel) n ts) (λ e. absurd (true≢false (sym e))) (λ e. ap₂ (λ x y. x && y) e e) (sequence-spans (λ v vs. v ∷ vs) a false ka ka n ts (p n ts) (repetition t p fuel) (h n ts) ih)
    by ih false = nothing {A = List A} [] ka n ts

-- with other attributes
full-spans : {A : Type 0} (some kept : Bool) (n : ℕ) (ts : List Token) (o : Out A) → Spans some kept 0 ts o → Spans some kept n ts (bind o (λ u r. Done (full n u) r))
full-spans some kept n ts (Done u r) x = record { shorter = x.shorter; more = omega arith; few = λ l. l; strict = x.strict; tokens = x.tokens }
full-spans some kept n ts (Stop w r) x = tt

hole-spans : {A B : Type 0} (s : A → Skel) (f : A → B) (some kept : Bool) (n : ℕ) (ts : List Token) (o : Out A) → Spans some kept n ts o → Spans some false n ts (bind o (λ u r. Done (hole_in s f u) r))
hole-spans s f some kept n ts (Done u r) x = record { shorter = x.shorter; more = x.more; few = x.few; strict = x.strict; tokens = λ e. absurd (true≢false (sym e)) }
hole-spans s f some kept n ts (Stop w r) x = tt

module _ {K : Type 0} {V : K → Type 0} (named : K → Bool) (inner : (k : K) → Reader (V k)) (h : (k : K) (n : ℕ) (ts : List Token) → Spans false (named k) n ts (inner k n ts)) where
  pub reads-span : {A : Type 0} (r : Rule V A) (n : ℕ) (ts : List Token) → Spans (has_token r) (is_plain named r) n ts (read_with inner r n ts)
  reads-span (Empty v) n ts = nothing v true n ts
  reads-span (Terminal f e) n ts = terminal-spans f n ts
  reads-span (Sequence f a b) n ts = sequence-spans f (has_token a) (has_token b) (is_plain named a) (is_plain named b) n ts (read_with inner a n ts) (read_with inner b) (reads-span a n ts) (reads-span b)
  reads-span (Alternative a b) n ts = by (head_is (first a) ts) (reads-span a n ts) (reads-span b n ts)
    where
      by : (x : Bool) → Spans (has_token a) (is_plain named a) n ts (read_with inner a n ts) → Spans (has_token b) (is_plain named b) n ts (read_with inner b n ts)
          → Spans (has_token a && has_token b) (is_plain named a && is_plain named b) n ts (alternative x (read_with inner a) (read_with inner b) n ts)
      by true x y = weaken (has_token a) (has_token a && has_token b) (is_plain named a) (is_plain named a && is_plain named b) n ts (read_with inner a n ts) (λ e. (and_parts (has_token a) (has_token b) e).0) (λ e. (and_parts (is_plain named a) (is_plain named b) e).0) x
      by false x y = weaken (has_token b) (has_token a && has_token b) (is_plain named b) (is_plain named a && is_plain named b) n ts (read_with inner b n ts) (λ e. (and_parts (has_token a) (has_token b) e).1) (λ e. (and_parts (is_plain named a) (is_plain named b) e).1) y
  reads-span (Repetition a) n ts = repetition-spans (first a) (read_with inner a) (has_token a) (is_plain named a) (reads-span a) (length ts) n ts
  reads-span (Full a) n ts = full-spans (has_token a) (is_plain named a) n ts (read_with inner a 0 ts) (reads-span a 0 ts)
  reads-span (Hole s f a) n ts = hole-spans s f (has_token a) (is_plain named a) n ts (read_with inner a n ts) (reads-span a n ts)
  reads-span (Construct k f a b) n ts =
      weaken (has_token a || false) (has_token a) (is_plain named a && (is_plain named b && named k)) (is_plain named a && (is_plain named b && named k)) n ts (read_with inner (Construct k f a b) n ts)
      (λ e. ap (λ x. x || false) e) (λ e. e)
      (sequence-spans f (has_token a) false (is_plain named a) (is_plain named b && named k) n ts (read_with inner a n ts) (λ n ts. alternative (head_is (first b) ts) (read_with inner b) (inner k) n ts) (reads-span a n ts) (λ m r. by m r (head_is (first b) r) (reads-span b m r)))
    where
      by : (m : ℕ) (r : List Token) (x : Bool) → Spans (has_token b) (is_plain named b) m r (read_with inner b m r) → Spans false (is_plain named b && named k) m r (alternative x (read_with inner b) (inner k) m r)
      by m r true x = weaken (has_token b) false (is_plain named b) (is_plain named b && named k) m r (read_with inner b m r) (λ e. absurd (true≢false (sym e))) (λ e. (and_parts (is_plain named b) (named k) e).0) x
      by m r false x = weaken false false (named k) (is_plain named b && named k) m r (inner k m r) (λ e. e) (λ e. (and_parts (is_plain named b) (named k) e).1) (h k m r)
  reads-span Fail n ts = tt

-- what stands inside constructs
pub readers-span : {K : Type 0} {V : K → Type 0} (table : Table V) (named : K → Bool) → ((k : K) → named k ≡ true → is_plain named (table k) ≡ true) → (room : ℕ) (k : K) (n : ℕ) (ts : List Token) → Spans false (named k) n ts (readers table room k n ts)
readers-span table named h zero k n [] = tt
readers-span table named h zero k n (t ∷ ts) = tt
readers-span table named h (suc room) k n ts = weaken (has_token (table k)) false (is_plain named (table k)) (named k) n ts (read_with (readers table room) (table k) n ts) (λ e. absurd (true≢false (sym e))) (h k) (reads-span named (readers table room) (readers-span table named h room) (table k) n ts)
