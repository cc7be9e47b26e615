-- The test whether a settlement applies decides it.
use Rattle.std.proofs.Common.{◌≡◌, ◌↔◌, ℕ, ◌≤◌, Bool, true, false, ◌&&◌, cond, IsTrue, List, Option, Some, option_map, refl, sym, ap, ◌∙◌, subst, arith, nat_le, eq-eqb}
use Rattle.std.specs.Coded.{Coded, coded_list, coded_option}
use Rattle.std.proofs.lemmas.Bool.Decides.{nat_tests}
use base.Stored.{Gv, gnil, gnum, gcons}
use Rattle.prv_model.specs.contracts.program.Pair as pair_row
use Rattle.prv_pool.specs.Tables.{term_code}
use Rattle.prv_part.specs.declared.part.Caps.{Caps}
use Rattle.prv_part.specs.Settlements.{Finding}
use Rattle.prv_board.specs.Slots.{part_at, is_open}
use Rattle.prv_board.specs.Applying.{same_code, are_one, is_of_pair, has_region, fits, applies, absorbed}
use Rattle.prv_board.specs.Replays.{Replay, with_one_more, slots, totals, Fits, HasRegion, Belongs, Applies, Refuses}
use Rattle.prv_board.specs.declared.error.ApplyError.TheVariants.{Stranger, Full}
use Rattle.prv_board.specs.declared.error.StrangerWhy.{StrangerWhy}
use Rattle.prv_board.specs.declared.error.StrangerWhy.TheVariants as stranger
use Rattle.prv_board.specs.declared.totals.Totals.{Totals}

and-left : (p q : Bool) → (p && q) ≡ true → p ≡ true
and-left true q e = refl
and-left false q e = e

and-right : (p q : Bool) → (p && q) ≡ true → q ≡ true
and-right true q e = e
and-right false q e = cc e

and-both : (p q : Bool) → p ≡ true → q ≡ true → (p && q) ≡ true
and-both p q e f = rw (e, f) refl

-- ---- one code, one value

same-self : (a : Gv) → same_code a a ≡ true
same-self gnil = refl
same-self (gnum n) = eq-eqb n n refl
same-self (gcons a b) = and-both (same_code a a) (same_code b b) (same-self a) (same-self b)

same-is : (a b : Gv) → same_code a b ≡ true → a ≡ b
same-is gnil gnil e = refl
same-is (gnum m) (gnum n) e = ap gnum (grind (arith, nat_tests, e))
same-is (gcons a b) (gcons x y) e =
    let first = same-is a x (and-left (same_code a x) (same_code b y) e) in
    let second = same-is b y (and-right (same_code a x) (same_code b y) e) in
    λ i. gcons (first i) (second i)
same-is gnil (gnum n) e = cc e
same-is gnil (gcons x y) e = cc e
same-is (gnum m) gnil e = cc e
same-is (gnum m) (gcons x y) e = cc e
same-is (gcons a b) gnil e = cc e
same-is (gcons a b) (gnum n) e = cc e

one-is : {A : Type 0} (c : Coded A) (x y : A) → are_one c x y ≡ true → x ≡ y
unfolding are_one
one-is c x y e = c.inj x y (same-is (c.code x) (c.code y) e)

is-one : {A : Type 0} (c : Coded A) (x y : A) → x ≡ y → are_one c x y ≡ true
unfolding are_one
is-one {A} c x y e =
    let P : A → Type 0 = λ z. same_code (c.code x) (c.code z) ≡ true in
    subst P e (same-self (c.code x))

-- ---- the tests

fits-is : (caps : Caps) (t : Totals) → fits caps t ≡ true → Fits caps t
fits-is caps t e =
    let behind = and-right (nat_le t.entries caps.entries) (nat_le t.numbers caps.numbers && nat_le t.literals caps.literals) e in
    record {
      entries = le-is t.entries caps.entries (and-left (nat_le t.entries caps.entries) (nat_le t.numbers caps.numbers && nat_le t.literals caps.literals) e);
      numbers = le-is t.numbers caps.numbers (and-left (nat_le t.numbers caps.numbers) (nat_le t.literals caps.literals) behind);
      literals = le-is t.literals caps.literals (and-right (nat_le t.numbers caps.numbers) (nat_le t.literals caps.literals) behind);
    }
  where
    le-is : (m n : ℕ) → nat_le m n ≡ true → m ≤ n
    le-is m n e = grind (arith, nat_tests, e)

is-fits : (caps : Caps) (t : Totals) → Fits caps t → fits caps t ≡ true
is-fits caps t f =
    and-both (nat_le t.entries caps.entries) (nat_le t.numbers caps.numbers && nat_le t.literals caps.literals) (is-le t.entries caps.entries f.entries)
    (and-both (nat_le t.numbers caps.numbers) (nat_le t.literals caps.literals) (is-le t.numbers caps.numbers f.numbers) (is-le t.literals caps.literals f.literals))
  where
    is-le : (m n : ℕ) → m ≤ n → nat_le m n ≡ true
    is-le m n e = grind (arith, nat_tests)

pub applies-is : (b : Replay) (s : Finding) → applies b s ≡ true → Applies b s
unfolding applies
applies-is b s e =
    let of_pair = is_of_pair b.pair s in
    let opens = is_open (slots b) s in
    let region = has_region (slots b) s in
    let fit = fits b.caps (totals (with_one_more b s)) in
    let behind = and-right of_pair (opens && (region && fit)) e in
    let last = and-right opens (region && fit) behind in
    record {
      belongs = record {
        same_pair = one-is (pair_row.the_row).coded s.pair b.pair (and-left of_pair (opens && (region && fit)) e);
        open_entry = and-left opens (region && fit) behind;
        same_region = one-is (coded_option (coded_list term_code)) (option_map (λ p. p.region) (part_at (slots b) s.entry)) (Some s.region) (and-left region fit last);
      };
      fits = fits-is b.caps (totals (with_one_more b s)) (and-right region fit last);
    }

pub is-applies : (b : Replay) (s : Finding) → Applies b s → applies b s ≡ true
unfolding applies
is-applies b s a =
    let of_pair = is_of_pair b.pair s in
    let opens = is_open (slots b) s in
    let region = has_region (slots b) s in
    let fit = fits b.caps (totals (with_one_more b s)) in
    and-both of_pair (opens && (region && fit)) (is-one (pair_row.the_row).coded s.pair b.pair a.belongs.same_pair)
    (and-both opens (region && fit) a.belongs.open_entry
    (and-both region fit (is-one (coded_option (coded_list term_code)) (option_map (λ p. p.region) (part_at (slots b) s.entry)) (Some s.region) a.belongs.same_region)
    (is-fits b.caps (totals (with_one_more b s)) a.fits)))

-- ---- a board that takes a settlement only where it applies

pub absorbed-applied : (b : Replay) (s : Finding) → Applies b s → absorbed b s ≡ with_one_more b s
absorbed-applied b s a = ap (λ (z : Bool). cond z (with_one_more b s) b) (is-applies b s a)

pub absorbed-refused : (b : Replay) (s : Finding) → (Applies b s → ⊥) → absorbed b s ≡ b
absorbed-refused b s never = by (applies b s) refl
  where
    by : (z : Bool) → applies b s ≡ z → absorbed b s ≡ b
    by true e = absurd (never (applies-is b s e))
    by false e = ap (λ (z : Bool). cond z (with_one_more b s) b) e

-- a settlement that is refused, but for want of memory, doesn't apply
pub stranger-never : (b : Replay) (s : Finding) (why : StrangerWhy) → Refuses b s (Stranger why) → Applies b s → ⊥
stranger-never b s stranger.Pair refused a = refused a.belongs.same_pair
stranger-never b s (stranger.NotLive entry) refused a = let closed = refused.2 in let opens = a.belongs.open_entry in cc (closed, opens)
stranger-never b s (stranger.Region entry) refused a = refused.3 a.belongs.same_region
stranger-never b s (stranger.NotOut entry) refused a = refused
stranger-never b s (stranger.Entry found given) refused a = refused

pub full-never : (b : Replay) (s : Finding) (reached : Totals) → Refuses b s (Full reached) → Applies b s → ⊥
full-never b s reached refused a = refused.2 (subst (λ (t : Totals). Fits b.caps t) (sym refused.1) a.fits)

-- the test decides
pub applying-decided : (b : Replay) (s : Finding) → IsTrue (applies b s) ↔ Applies b s
applying-decided b s = (applies-is b s, is-applies b s)
