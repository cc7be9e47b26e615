-- The reader of declarations by hand is the table's.
use Rattle.std.proofs.Common.{◌≡◌, ℕ, suc, List, [], ◌∷◌, ◌++◌, refl, sym, ◌∙◌}
use Rattle.prv_lex.specs.declared.token.Token.{Token}
use Rattle.prv_lex.specs.declared.token.Tok.{Tok}
use Rattle.prv_lex.specs.declared.token.Tok.TheVariants as tok
use Rattle.prv_lex.specs.declared.token.Key.TheVariants as key
use Rattle.prv_lex.specs.declared.token.Sym.TheVariants as sy
use Rattle.prv_rule.specs.Skeletons.{kept}
use Rattle.prv_rule.specs.Rules.{Attributes, attributes, joined, readers}
use Rattle.prv_rule.proofs.Follow.{On, follow}
use Rattle.prv_parse.specs.Reader as hand
use Rattle.prv_parse.specs.Reader.{is_semicolon, ReadStmt, stmt_with}
use Rattle.prv_parse.specs.declared.tree.Ident.{Ident}
use Rattle.prv_parse.specs.declared.tree.StmtTree.{StmtTree}
use Rattle.prv_parse.specs.declared.tree.StmtTree.TheVariants as stmt
use Rattle.prv_parse.specs.Grammar.{table, initial, declaration}
use Rattle.prv_parse.proofs.Shapes.{unit, shape, hand-bind, hand-same, hand-two}
use Rattle.prv_parse.proofs.Parts.{assigned-step, name-step}

module _ (room : ℕ) where
  -- what follows a declared name
  declared-at : {B Y : Type 0} (G : Attributes B → Y) (u : Attributes Ident) (k : Tok) (place : ℕ) (rest : List Token) (K : On StmtTree B)
      → shape G (follow (readers table room) initial u.before (record { tok = k; place = place } ∷ rest) (λ e s. K (joined (λ x e. stmt.Declare x e) u e) s))
      ≡ hand.bind (hand.declared_at (is_semicolon k) (suc room) u.value (record { tok = k; place = place }) rest) (λ s r. shape G (K (attributes s.tree u.before (u.skeleton ++ s.skeleton)) r))
  declared-at G u (tok.Sym sy.Semicolon) place rest K = refl
  declared-at G u k place rest K =
      assigned-step room G u.before (record { tok = k; place = place } ∷ rest) (λ e s. K (joined (λ x e. stmt.Declare x e) u e) s) _ (λ e r. refl)
      ∙ sym (hand-bind (hand.assigned (suc room) (record { tok = k; place = place } ∷ rest)) (λ e s. hand.Done (stmt_with (stmt.Declare u.value e.tree) e.skeleton) s) (λ s r. shape G (K (attributes s.tree u.before (u.skeleton ++ s.skeleton)) r)))

  declared-same : {B Y : Type 0} (G : Attributes B → Y) (u : Attributes Ident) (ts : List Token) (K : On StmtTree B)
      → shape G (follow (readers table room) initial u.before ts (λ e s. K (joined (λ x e. stmt.Declare x e) u e) s)) ≡ hand.bind (hand.declared (suc room) u.value ts) (λ s r. shape G (K (attributes s.tree u.before (u.skeleton ++ s.skeleton)) r))
  declared-same G u [] K = refl
  declared-same G u (t ∷ rest) K = declared-at G u t.tok t.place rest K

  -- a declaration, by its `int`
  pub declaration-step : {B Y : Type 0} (G : Attributes B → Y) (n place : ℕ) (rest : List Token) (K : On StmtTree B) (k : ReadStmt → List Token → hand.Out Y) → ((s : ReadStmt) (r : List Token) → shape G (K (attributes s.tree n s.skeleton) r) ≡ k s r)
      → shape G (follow (readers table room) declaration n (record { tok = tok.Key key.Int; place = place } ∷ rest) K) ≡ hand.bind (hand.declaration (suc room) (record { tok = tok.Key key.Int; place = place }) rest) k
  declaration-step G n place rest K k h =
      let t : Token = record { tok = tok.Key key.Int; place = place } in
      let made : On StmtTree _ = λ w s. K (joined (λ (u : Unit {0}) (v : StmtTree). v) (attributes unit n (kept t ∷ [])) w) s in
      name-step G n rest _ _ (λ x r. declared-same G (attributes x.name n x.skeleton) r made ∙ hand-same (hand.declared (suc room) x.name r) _ _ (λ s u. h (stmt_with s.tree (kept t ∷ x.skeleton ++ s.skeleton)) u))
      ∙ sym (hand-two (hand.name rest) (λ x r. hand.declared (suc room) x.name r) (λ x s. stmt_with s.tree (kept t ∷ x.skeleton ++ s.skeleton)) k)
