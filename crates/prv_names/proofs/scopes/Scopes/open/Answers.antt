use Rattle.std.proofs.Common.{List, ℕ, sym, subst, length, ◌++◌, ◌∷◌, [], ◌≡◌}
use Rattle.prv_names.specs.ScopeStacks.{IsNested}
use Rattle.prv_names.proofs.NestingLemmas.{nested-push}
use Rattle.prv_names.proofs.scopes.Scopes.open.Goals as goal

pub returns-clause-nested : goal.returns-clause-nested
returns-clause-nested c =
    let seen = c.args.self.now.visible in
    let items : c.push.new.self.items ≡ c.args.self.now.starts.items ++ length seen ∷ [] = cc (c.in_ok-push.ensures.items, c.len.ensures) in
    subst (λ (l : List ℕ). IsNested 0 l (length seen)) (sym items) (nested-push 0 c.args.self.now.starts.items (length seen) c.requires)
