-- Clauses listed by literal.
use Rattle.std.specs.Prelude.{◌≡◌, ℕ, ◌<◌, length, nat_eq, nat_lt, Bool, true, false, ◌&&◌, List, [], ◌∷◌, ◌++◌, ◌⊎◌, slice_index_or, slice_set}
use Rattle.std.specs.List.{list_any, list_all}
use Rattle.prv_cnf.specs.declared.literal.Lit.{Lit}
use Rattle.prv_cnf.specs.Literals.{has_literal}
use Rattle.prv_check.specs.declared.index.Entry.{Entry}
use Rattle.prv_check.specs.Lines.{is_empty}
use Rattle.prv_cnf.specs.Places.{place_of}
use Rattle.prv_check.specs.Inner.Tables.{are_flagged}
use Rattle.prv_check.specs.Inner.Signatures.{signature}

-- the table of the literals that clauses are looked up for, whether an empty clause was added, and at
-- the place of each literal the clauses that are listed under it
pub record Listing : Type 0 where
  pub occurs : List Bool
  pub has_empty : Bool
  pub lists : List (List Entry)

-- the listing's lists with an entry more under a literal
abbrev pub listed_under : Lit → Entry → Listing → List (List Entry)
listed_under w e old = slice_set old.lists (place_of w) (slice_index_or old.lists (place_of w) [] ++ e ∷ [])

-- how a clause was added with its number: not at all, where one of its literals doesn't occur; as an
-- empty clause; or under one of its literals
abbrev pub IsListed : List Lit → ℕ → Listing → Listing → Type 0
IsListed c n old new =
    ((are_flagged old.occurs c ≡ false) × (new ≡ old))
    ⊎ (((c ≡ []) × (new ≡ record old { has_empty = true }))
    ⊎ ((w : Lit) × (has_literal c w ≡ true) × (place_of w < length old.lists) × (new ≡ record old { lists = listed_under w (record { signature = signature c; number = n }) old })))

-- an entry is of one of the clauses
abbrev pub is_entry : List (List Lit) → Entry → Bool
is_entry cs e = nat_lt e.number (length cs) && nat_eq e.signature (signature (slice_index_or cs e.number []))

-- a clause with this number is found where all its literals occur
abbrev pub IsFound : Listing → List Lit → ℕ → Type 0
IsFound i c k =
    (are_flagged i.occurs c ≡ false)
    ⊎ (((is_empty c ≡ true) × (i.has_empty ≡ true))
    ⊎ ((w : Lit) × (has_literal c w ≡ true) × (list_any (λ e. nat_eq k e.number) (slice_index_or i.lists (place_of w) []) ≡ true)))

-- the listing is one of these clauses, by their places
pub record IsIndex (cs : List (List Lit)) (i : Listing) : Type 0 where
  pub places : length i.lists ≡ length i.occurs
  pub empties : i.has_empty ≡ true → list_any is_empty cs ≡ true
  pub entries : (p : ℕ) → list_all (is_entry cs) (slice_index_or i.lists p []) ≡ true
  pub complete : (k : ℕ) → k < length cs → IsFound i (slice_index_or cs k []) k
