use Rattle.std.proofs.Common.{◌≡◌, ◌<◌, ◌^◌, length, sym, subst, ap, Err}
use Rattle.std.proofs.lemmas.Result.{err_from_is_err_and}
use Rattle.prv_parse.specs.Refusals.{HasTree, IsSyntaxAt, IsDeepAt}
use Rattle.prv_version.specs.Versions.{HasTreeOf}
use Rattle.prv_version.proofs.Reading.{few-tokens, no-tokens, no-tree, no-version}
use Rattle.prv_version.proofs.read.read_version.Goals as goal

pub parse-requires : goal.parse-requires
parse-requires c = subst (λ l. length l < 2 ^ 28) (sym c.as_slice.ensures.value)
    (few-tokens c.args.file.now c.in_ok-tokens.tokens.items c.in_ok-tokens.ensures.found (c.places_rise.ensures c.args.file.now c.in_ok-tokens.tokens.items c.in_ok-tokens.ensures.found))

pub returns-in_err-tokens : goal.returns-in_err-tokens
returns-in_err-tokens c =
    let passed = err_from_is_err_and c.from_residual.result c.from_residual.ensures.1 in
    rw (passed.1, passed.2) (no-tokens c.args.file.now c.in_err-tokens.field-0.0 (λ place why is. c.in_err-tokens.ensures.refused place why (ap Err is)))

pub returns-in_err-tree : goal.returns-in_err-tree
returns-in_err-tree c =
    let file = c.args.file.now in
    let tokens = c.in_ok-tokens.tokens.items in
    let passed = err_from_is_err_and c.from_residual-in_err-tree.result c.from_residual-in_err-tree.ensures.1 in
    rw (passed.1, passed.2) (
      tokens,
      c.in_ok-tokens.ensures.found,
      no-tree tokens (length file) c.in_err-tree.field-0.0
          (λ place is. subst (λ l. IsSyntaxAt l (length file) place) c.as_slice.ensures.value (c.in_err-tree.ensures.syntax place (ap Err is)))
          (λ place is. subst (λ l. IsDeepAt l place) c.as_slice.ensures.value (c.in_err-tree.ensures.deep place (ap Err is))),
    )

pub returns-in_err-version : goal.returns-in_err-version
returns-in_err-version c =
    let tree = c.in_ok-tree.tree in
    let has : HasTreeOf c.args.file.now c.in_ok-tokens.tokens.items tree =
    record { has_tokens = c.in_ok-tokens.ensures.found; has_tree = subst (λ l. HasTree l tree.params tree.body tree.skeleton) c.as_slice.ensures.value c.in_ok-tree.ensures.found } in
    let passed = err_from_is_err_and c.from_residual-in_err-version.result c.from_residual-in_err-version.ensures.1 in
    rw (passed.1, passed.2) (c.in_ok-tokens.tokens.items, tree, has, no-version tree c.in_err-version.field-0.0 c.in_err-version.ensures.refused)

pub returns : goal.returns
returns c =
    let tree = c.in_ok-tree.tree in
    record {
      tokens = c.in_ok-tokens.tokens.items;
      tree = tree;
      has = record { has_tokens = c.in_ok-tokens.ensures.found; has_tree = subst (λ l. HasTree l tree.params tree.body tree.skeleton) c.as_slice.ensures.value c.in_ok-tree.ensures.found };
      is = c.in_ok-version.ensures.version;
    }
