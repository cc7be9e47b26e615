-- Watch lists: under each literal, the clauses that are looked at when it becomes false.
use Rattle.std.specs.Prelude.{◌≡◌, ℕ, ◌<◌, nat_eq, nat_lt, Bool, true, ◌&&◌, List, [], ◌∷◌, ◌++◌, length, slice_index_or, slice_set, pos}
use Rattle.std.specs.List.{list_all, list_any, swap_remove}
use Rattle.prv_cnf.specs.declared.literal.Lit.{Lit}
use Rattle.prv_cnf.specs.Literals.{has_literal}
use Rattle.prv_propagate.specs.declared.watches.Pair.{Pair}
use Rattle.prv_propagate.specs.declared.watches.Watch.{Watch}
use Rattle.prv_cnf.specs.Places.{place_of}
use Rattle.prv_propagate.specs.Reasons.{clause_of}
use Rattle.prv_propagate.specs.Guards.{pair_of, is_pair}

-- the pair of each clause, and at the place of each literal the watches under it
pub record Watching : Type 0 where
  pub pairs : List Pair
  pub lists : List (List Watch)

-- the watches under a literal
abbrev pub watches_of : Watching → Lit → List Watch
watches_of w l = slice_index_or w.lists (place_of l) []

-- the clause of this number is among the watches
abbrev pub is_listed : ℕ → List Watch → Bool
is_listed k watches = list_any (λ e. nat_eq k e.clause) watches

-- a watch of one of the clauses, with a literal of it
abbrev pub is_entry : List (List Lit) → Watch → Bool
is_entry cs e = nat_lt e.clause (length cs) && has_literal (clause_of cs e.clause) e.blocker

-- each clause has a pair, and stands in the watches under both its literals
pub record IsWatched (cs : List (List Lit)) (w : Watching) : Type 0 where
  pub each : length w.pairs ≡ length cs
  pub pairs : (k : ℕ) → k < length cs → is_pair (clause_of cs k) (pair_of w.pairs k) ≡ true
  pub firsts : (k : ℕ) → k < length cs → is_listed k (watches_of w (pair_of w.pairs k).first) ≡ true
  pub seconds : (k : ℕ) → k < length cs → is_listed k (watches_of w (pair_of w.pairs k).second) ≡ true
  pub entries : (p : ℕ) → list_all (is_entry cs) (slice_index_or w.lists p []) ≡ true

-- a watch list without the watch at a place, which the last one takes
abbrev pub without : List Watch → ℕ → List Watch
without watches at = swap_remove watches at (record { clause = 0; blocker = record { 0 = pos 0 } })

-- the watch at a place
abbrev pub watch_at : List Watch → ℕ → Watch
watch_at watches at = slice_index_or watches at (record { clause = 0; blocker = record { 0 = pos 0 } })

-- the same with another list under the literal
abbrev pub with_list : Watching → Lit → List Watch → Watching
with_list w l watches = record w { lists = slice_set w.lists (place_of l) watches }

-- without a watch under the literal
abbrev pub removed : Watching → Lit → ℕ → Watching
removed w l at = with_list w l (without (watches_of w l) at)

-- with another blocker of a watch under the literal
abbrev pub blocked : Watching → Lit → ℕ → Lit → Watching
blocked w l at b = with_list w l (slice_set (watches_of w l) at (record { clause = (watch_at (watches_of w l) at).clause; blocker = b }))

-- with a watch more under the literal
abbrev pub added : Watching → Lit → ℕ → Lit → Watching
added w l k b = with_list w l (watches_of w l ++ record { clause = k; blocker = b } ∷ [])

-- with the pair of one clause more
abbrev pub attached : Watching → ℕ → Pair → Watching
attached w k p = added (added (record w { pairs = w.pairs ++ p ∷ [] }) p.first k p.second) p.second k p.first

-- with a pair in place of another, whose watch under the literal moves under the first of the pair
abbrev pub rewatched : Watching → Lit → ℕ → ℕ → Pair → Watching
rewatched w l at k p = record (added (removed w l at) p.first k p.second) { pairs = slice_set w.pairs k p }
