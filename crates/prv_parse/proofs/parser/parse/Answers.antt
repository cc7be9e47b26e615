use Rattle.std.proofs.Common.{◌≡◌, ◌++◌, drop, sym, ap, ◌∙◌, subst, ◌⊎◌}
use Rattle.prv_parse.specs.Reader.{program}
use Rattle.prv_rule.specs.Refusals.{place_of}
use Rattle.prv_parse.specs.Refusals.{HasTree}
use Rattle.prv_parse.specs.Cursors.{left}
use Rattle.prv_parse.specs.Statements.{skeleton_in}
use Rattle.prv_parse.specs.MainFunctions.{program_with, refusal_of}
use Rattle.prv_parse.specs.declared.error.ParseError.TheVariants.{Syntax, Deep, Memory}
use Rattle.prv_parse.proofs.Sizes.{tree-small}
use Rattle.prv_parse.proofs.Parsed.{read-tree, read-one, read-no-syntax, read-no-deep, stopped-syntax, stopped-deep, stopped-tree, told-syntax, told-deep}
use Rattle.prv_parse.proofs.parser.parse.Goals as goal

pub invariant_of-result : goal.invariant_of-result
invariant_of-result c =
    let s = skeleton_in (λ r. r.skeleton) (program c.args.tokens.now) in
    record {
      kept = tree-small c.args.tokens.now c.in-Ok.main.params c.in-Ok.main.body s
          (read-tree c.args.tokens.now (left c.program.new.self.cursor) (program_with c.in-Ok.main s) c.in-Ok.ensures.reads.0) c.requires;
    }

pub returns-in-Ok-clause-found : goal.returns-in-Ok-clause-found
returns-in-Ok-clause-found c =
    let s = skeleton_in (λ r. r.skeleton) (program c.args.tokens.now) in
    subst (λ k. HasTree c.args.tokens.now c.in-Ok.main.params c.in-Ok.main.body k)
    (sym (c.from_vec.ensures ∙ c.in-Ok.ensures.reads.1 ∙ ap (λ l. l ++ s) c.new.ensures.items))
    (read-tree c.args.tokens.now (left c.program.new.self.cursor) (program_with c.in-Ok.main s) c.in-Ok.ensures.reads.0)

pub returns-in-Ok-clause-finds : goal.returns-in-Ok-clause-finds
returns-in-Ok-clause-finds c params body skeleton has =
    let s = skeleton_in (λ r. r.skeleton) (program c.args.tokens.now) in
    let one = read-one c.args.tokens.now (left c.program.new.self.cursor) (program_with c.in-Ok.main s) params body skeleton c.in-Ok.ensures.reads.0 has in
    (one.0, one.1, c.from_vec.ensures ∙ c.in-Ok.ensures.reads.1 ∙ ap (λ l. l ++ s) c.new.ensures.items ∙ one.2)

pub returns-in-Ok-clause-refuses_syntax : goal.returns-in-Ok-clause-refuses_syntax
returns-in-Ok-clause-refuses_syntax c place is =
    read-no-syntax c.args.tokens.now (left c.program.new.self.cursor) (program_with c.in-Ok.main (skeleton_in (λ r. r.skeleton) (program c.args.tokens.now))) c.args.end place c.in-Ok.ensures.reads.0 is

pub returns-in-Ok-clause-refuses_deep : goal.returns-in-Ok-clause-refuses_deep
returns-in-Ok-clause-refuses_deep c place is =
    read-no-deep c.args.tokens.now (left c.program.new.self.cursor) (program_with c.in-Ok.main (skeleton_in (λ r. r.skeleton) (program c.args.tokens.now))) place c.in-Ok.ensures.reads.0 is

pub returns-in-Err-clause-syntax : goal.returns-in-Err-clause-syntax
returns-in-Err-clause-syntax c place is =
    let same : c.refusal.result ≡ Syntax place = cc in
    let told = c.refusal.ensures ∙ ap (λ p. refusal_of c.in-Err.stop p) (c.place_at.ensures ∙ ap (λ l. place_of (drop c.program.new.self.cursor.at l) c.args.end) (sym c.in-Err.ensures.tokens)) in
    stopped-syntax c.args.tokens.now (left c.program.new.self.cursor) c.args.end place c.in-Err.stop c.in-Err.ensures.reads (sym told ∙ same)

pub returns-in-Err-clause-deep : goal.returns-in-Err-clause-deep
returns-in-Err-clause-deep c place is =
    let same : c.refusal.result ≡ Deep place = cc in
    let told = c.refusal.ensures ∙ ap (λ p. refusal_of c.in-Err.stop p) (c.place_at.ensures ∙ ap (λ l. place_of (drop c.program.new.self.cursor.at l) c.args.end) (sym c.in-Err.ensures.tokens)) in
    stopped-deep c.args.tokens.now (left c.program.new.self.cursor) c.args.end place c.in-Err.stop c.in-Err.ensures.reads (sym told ∙ same)

pub returns-in-Err-clause-finds : goal.returns-in-Err-clause-finds
returns-in-Err-clause-finds c params body skeleton has =
    let told = c.refusal.ensures ∙ ap (λ p. refusal_of c.in-Err.stop p) (c.place_at.ensures ∙ ap (λ l. place_of (drop c.program.new.self.cursor.at l) c.args.end) (sym c.in-Err.ensures.tokens)) in
    told ∙ stopped-tree c.args.tokens.now (left c.program.new.self.cursor) c.args.end params body skeleton c.in-Err.stop c.in-Err.ensures.reads has

pub returns-in-Err-clause-refuses_syntax : goal.returns-in-Err-clause-refuses_syntax
returns-in-Err-clause-refuses_syntax c place is =
    let told = c.refusal.ensures ∙ ap (λ p. refusal_of c.in-Err.stop p) (c.place_at.ensures ∙ ap (λ l. place_of (drop c.program.new.self.cursor.at l) c.args.end) (sym c.in-Err.ensures.tokens)) in
    subst (λ r. (r ≡ Syntax place) ⊎ (r ≡ Memory)) (sym told) (told-syntax c.args.tokens.now (left c.program.new.self.cursor) c.args.end place c.in-Err.stop c.in-Err.ensures.reads is)

pub returns-in-Err-clause-refuses_deep : goal.returns-in-Err-clause-refuses_deep
returns-in-Err-clause-refuses_deep c place is =
    let told = c.refusal.ensures ∙ ap (λ p. refusal_of c.in-Err.stop p) (c.place_at.ensures ∙ ap (λ l. place_of (drop c.program.new.self.cursor.at l) c.args.end) (sym c.in-Err.ensures.tokens)) in
    subst (λ r. (r ≡ Deep place) ⊎ (r ≡ Memory)) (sym told) (told-deep c.args.tokens.now (left c.program.new.self.cursor) c.args.end place c.in-Err.stop c.in-Err.ensures.reads is)
