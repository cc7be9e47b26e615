use Rattle.std.proofs.Common.{◌≡◌, sym, ap, ◌∙◌, List, ℕ, false, map, arith, ◌++◌, ◌∷◌, [], length, Vec, Global}
use Rattle.std.proofs.lemmas.List.{length-append}
use Rattle.std.specs.List.{list_any}
use Rattle.std.specs.Str.{bytes_eq}
use Rattle.prv_names.specs.Scopes.{has}
use Rattle.prv_names.proofs.KeyLemmas.{list_any-map, insert_key-new}
use Rattle.prv_names.proofs.names.Names.add.Goals as goal

pub invariant_of-self-in-Ok : goal.invariant_of-self-in-Ok
invariant_of-self-in-Ok c =
    let inside = c.self.inside in
    let key = c.in_ok-key.key in
    let same : key.items ≡ c.args.name.now = c.in_ok-key.ensures.items ∙ c.as_bytes.ensures in
    let absent : has c.args.name.now inside.list.items ≡ false = rw c.self.view_is (sym c.has.ensures ∙ c.if-has.false) in
    let new : list_any (λ k. bytes_eq key.items k.items) inside.index.keys ≡ false =
    sym (list_any-map (bytes_eq key.items) (λ k. k.items) inside.index.keys)
    ∙ ap (has key.items) c.self.invariant.0
    ∙ ap (λ (x : List ℕ). has x inside.list.items) same ∙ absent in
    let keys = ap (map (λ k. k.items)) c.in-Ok.ensures.keys ∙ insert_key-new (λ (a b : Vec ℕ Global). bytes_eq a.items b.items) (λ k. k.items) inside.index.keys key new in
    let copied : c.push.new.self.items ≡ inside.list.items ++ c.args.name.now ∷ [] = cc (c.in_ok-push.ensures.items, c.in_ok-copy.ensures) in
    (keys ∙ cc (c.self.invariant.0, same, copied), omega (arith, length-append inside.list.items (c.args.name.now ∷ []), ap length copied, c.self.invariant.1, c.len.ensures, c.if-len-ge4294967295.false))
