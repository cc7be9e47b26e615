-- One step of the reader's recursions over statements.
use Rattle.std.proofs.Common.{◌≡◌, ℕ, zero, suc, ◌-◌, ◌<◌, List, [], ◌∷◌, ◌++◌, refl, sym, ap, subst, arith, ◌∙◌, Bool, true, false, Result, Ok, append_assoc, append-nil}
use Rattle.prv_lex.specs.declared.token.Token.{Token}
use Rattle.prv_parse.specs.Reader.{Out, Done, Bad, Deep, Many, bind, Statement, statements, statement_of, block, items, items_at, is_close_brace, items_with, ReadItems, ReadStmt, item_then, in_mark, marked_item, marked_at, item_at, stmt_with, is_int}
use Rattle.prv_parse.specs.Cursors.{StopsBy}
use Rattle.prv_parse.specs.Statements.{ReadsItems, ReadsStmt, skeleton_in, body_of, body_at}
use Rattle.prv_parse.proofs.Steps.{stops-first}
use Rattle.prv_rule.specs.declared.skeleton.Skel.{Skel}
use Rattle.prv_parse.specs.declared.tree.Mark.{Mark}
use Rattle.prv_parse.specs.declared.tree.StmtTree.{StmtTree}
use Rattle.prv_parse.specs.declared.stop.Stop.{Stop}

pub statement-step : (room : ℕ) (ts : List Token) → 0 < room
    → (statements room).here ts ≡ statement_of room (statements (room - 1)).here (block (room - 1) (statements (room - 1)).here (statements (room - 1)).deeper) ts
statement-step zero ts h = absurd (omega arith)
statement-step (suc room) ts h = let e : suc room - 1 ≡ room = omega arith in rw e

pub deeper-step : (room : ℕ) (ts : List Token) → 0 < room → (statements room).deeper ts ≡ (statements (room - 1)).here ts
deeper-step zero ts h = absurd (omega arith)
deeper-step (suc room) ts h = let e : suc room - 1 ≡ room = omega arith in rw e

pub items-nil : (room : ℕ) (here deeper : Statement) (fuel : ℕ) → 0 < fuel → items room here deeper fuel [] ≡ Bad []
items-nil room here deeper zero h = absurd (omega arith)
items-nil room here deeper (suc fuel) h = refl

pub items-step : (room : ℕ) (here deeper : Statement) (fuel : ℕ) (t : Token) (rest : List Token) → 0 < fuel
    → items room here deeper fuel (t ∷ rest) ≡ items_at (is_close_brace t.tok) room here deeper (items room here deeper (fuel - 1)) t rest
items-step room here deeper zero t rest h = absurd (omega arith)
items-step room here deeper (suc fuel) t rest h = let e : suc fuel - 1 ≡ fuel = omega arith in rw e

-- what a call reads, where its reader comes to the same
pub stmt-as : (out out' : Out ReadStmt) (rest : List Token) (old new : List Skel) (r : Result StmtTree Stop) → out ≡ out' → ReadsStmt out' rest old new r → ReadsStmt out rest old new r
stmt-as out out' rest old new r e h = subst (λ o. ReadsStmt o rest old new r) (sym e) h

-- a list of items that was read whole
pub items-done : (out : Out ReadItems) (rest : List Token) (old new : List Skel) (all : List StmtTree) (s : List Skel)
    → out ≡ Done (items_with all s) rest → new ≡ old ++ s → ReadsItems out rest old new (Ok all)
items-done out rest old new all s h n =
    let e = ap (skeleton_in (λ r. r.skeleton)) h in
    (h ∙ ap (λ k. Done (items_with all k) rest) (sym e), n ∙ ap (λ k. old ++ k) (sym e))

-- items behind none
pub items-behind_none : (out : Out ReadItems) → out ≡ bind out (λ others rest. Done (items_with ([] ++ others.trees) ([] ++ others.skeleton)) rest)
items-behind_none (Done r rest) = refl
items-behind_none (Bad rest) = refl
items-behind_none (Deep rest) = refl
items-behind_none (Many rest) = refl

-- one item more in front of the others
pub items-behind_more : (out : Out ReadItems) (all : List StmtTree) (s : StmtTree) (skeleton front : List Skel)
    → bind (bind out (λ others u. Done (items_with (s ∷ others.trees) (front ++ others.skeleton)) u)) (λ others rest. Done (items_with (all ++ others.trees) (skeleton ++ others.skeleton)) rest)
    ≡ bind out (λ others rest. Done (items_with ((all ++ s ∷ []) ++ others.trees) ((skeleton ++ front) ++ others.skeleton)) rest)
items-behind_more (Done r rest) all s skeleton front = rw (append_assoc all (s ∷ []) r.trees, append_assoc skeleton front r.skeleton)
items-behind_more (Bad rest) all s skeleton front = refl
items-behind_more (Deep rest) all s skeleton front = refl
items-behind_more (Many rest) all s skeleton front = refl

-- a marked item is what its mark stands before, in the mark
pub marked_item-body : (room : ℕ) (deeper : Statement) (m : Mark) (ts : List Token) → marked_item room deeper m ts ≡ in_mark m (body_of room deeper ts)
marked_item-body room deeper m [] = refl
marked_item-body room deeper m (t ∷ rest) = at (is_int t.tok)
  where
    at : (b : Bool) → marked_at b room deeper m t rest ≡ in_mark m (body_at b room deeper t rest)
    at true = refl
    at false = refl

-- the items behind some that were read, with their skeleton
abbrev pub behind : List StmtTree → List Skel → Out ReadItems → Out ReadItems
behind all skeleton out = bind out (λ others rest. Done (items_with (all ++ others.trees) (skeleton ++ others.skeleton)) rest)

module _ (room : ℕ) (here deeper : Statement) where
  -- before the first item
  pub items-first : (count : ℕ) (ts : List Token) (all : List StmtTree) → all ≡ [] → items room here deeper count ts ≡ behind all [] (items room here deeper (count - 0) ts)
  items-first count ts all none =
      let same : count - 0 ≡ count = omega arith in
      items-behind_none (items room here deeper count ts)
      ∙ ap (λ a. behind a [] (items room here deeper count ts)) (sym none)
      ∙ ap (λ k. behind all [] (items room here deeper k ts)) (sym same)

  -- an item in front of what is left
  pub items-item : (fuel : ℕ) (ts rest : List Token) (t : Token) → 0 < fuel → ts ≡ t ∷ rest → is_close_brace t.tok ≡ false
      → items room here deeper fuel ts ≡ item_then (item_at t.tok room here deeper t rest) (items room here deeper (fuel - 1))
  items-item fuel ts rest t more front going =
      ap (λ l. items room here deeper fuel l) front ∙ items-step room here deeper fuel t rest more
      ∙ ap (λ b. items_at b room here deeper (items room here deeper (fuel - 1)) t rest) going

  -- one item more
  pub items-next : (out : Out ReadItems) (fuel : ℕ) (ts rest after : List Token) (t : Token) (all : List StmtTree) (s : StmtTree) (skeleton front : List Skel)
      → out ≡ behind all skeleton (items room here deeper fuel ts) → 0 < fuel → ts ≡ t ∷ rest → is_close_brace t.tok ≡ false
      → item_at t.tok room here deeper t rest ≡ Done (stmt_with s front) after
      → out ≡ behind (all ++ s ∷ []) (skeleton ++ front) (items room here deeper (fuel - 1) after)
  items-next out fuel ts rest after t all s skeleton front so_far more next going item =
      so_far ∙ ap (behind all skeleton) (items-item fuel ts rest t more next going ∙ ap (λ o. item_then o (items room here deeper (fuel - 1))) item)
      ∙ items-behind_more (items room here deeper (fuel - 1) after) all s skeleton front

  -- a stop in an item
  pub items-stop : (out : Out ReadItems) (fuel : ℕ) (ts rest after : List Token) (t : Token) (all : List StmtTree) (skeleton : List Skel) (why : Stop)
      → out ≡ behind all skeleton (items room here deeper fuel ts) → 0 < fuel → ts ≡ t ∷ rest → is_close_brace t.tok ≡ false
      → StopsBy (item_at t.tok room here deeper t rest) after why → StopsBy out after why
  items-stop out fuel ts rest after t all skeleton why so_far more next going item =
      subst (λ o. StopsBy o after why) (sym (so_far ∙ ap (behind all skeleton) (items-item fuel ts rest t more next going)))
      (stops-first (item_then (item_at t.tok room here deeper t rest) (items room here deeper (fuel - 1))) after _ why
      (stops-first (item_at t.tok room here deeper t rest) after _ why item))

  -- the brace behind the last item
  pub items-last : (out : Out ReadItems) (fuel : ℕ) (ts rest : List Token) (t : Token) (all : List StmtTree) (skeleton : List Skel)
      → out ≡ behind all skeleton (items room here deeper fuel ts) → 0 < fuel → ts ≡ t ∷ rest → is_close_brace t.tok ≡ true
      → out ≡ Done (items_with all skeleton) ts
  items-last out fuel ts rest t all skeleton so_far more next closed =
      so_far ∙ ap (behind all skeleton) (ap (λ l. items room here deeper fuel l) next ∙ items-step room here deeper fuel t rest more
      ∙ ap (λ b. items_at b room here deeper (items room here deeper (fuel - 1)) t rest) closed)
      ∙ ap (λ l. Done (items_with l (skeleton ++ [])) (t ∷ rest)) (append-nil all) ∙ ap (λ k. Done (items_with all k) (t ∷ rest)) (append-nil skeleton)
      ∙ ap (λ l. Done (items_with all skeleton) l) (sym next)

  -- the end of the tokens
  pub items-end : (out : Out ReadItems) (fuel : ℕ) (ts : List Token) (all : List StmtTree) (skeleton : List Skel)
      → out ≡ behind all skeleton (items room here deeper fuel ts) → 0 < fuel → ts ≡ [] → out ≡ Bad ts
  items-end out fuel ts all skeleton so_far more none =
      so_far ∙ ap (λ l. behind all skeleton (items room here deeper fuel l)) none ∙ ap (behind all skeleton) (items-nil room here deeper fuel more) ∙ ap Bad (sym none)
