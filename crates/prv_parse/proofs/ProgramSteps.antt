-- A program that was read whole.
use Rattle.std.proofs.Common.{◌≡◌, List, [], ◌++◌, length, ap, ◌∙◌, sym, Ok, append_assoc}
use Rattle.prv_lex.specs.declared.token.Token.{Token}
use Rattle.prv_parse.specs.Reader.{Done, params_with, items_with, expect, params, block, statements, program, is_int, is_main, is_open_paren, is_close_paren, is_open_brace}
use Rattle.prv_parse.specs.Reader.{Out, ReadProgram}
use Rattle.prv_parse.specs.Statements.{skeleton_in}
use Rattle.prv_parse.specs.MainFunctions.{program_with, ReadsProgram}
use Rattle.prv_parse.specs.declared.main_function.MainFunction.{MainFunction}
use Rattle.prv_rule.specs.declared.skeleton.Skel.{Skel}
use Rattle.prv_parse.specs.declared.tree.Ident.{Ident}
use Rattle.prv_parse.specs.declared.tree.StmtTree.{StmtTree}

-- its parts, one behind another
pub program-parts : (r0 r1 r2 r3 r4 r5 r6 r7 : List Token) (i m o c b n a : List Skel) (names : List Ident) (all : List StmtTree)
    → expect is_int r0 ≡ Done i r1 → expect is_main r1 ≡ Done m r2 → expect is_open_paren r2 ≡ Done o r3 → params (length r3) r3 ≡ Done (params_with names n) r4
    → expect is_close_paren r4 ≡ Done c r5 → expect is_open_brace r5 ≡ Done b r6
    → block 100 (statements 100).here (statements 100).deeper r6 ≡ Done (items_with all a) r7 → r7 ≡ []
    → program r0 ≡ Done (record { params = names; body = all; skeleton = i ++ m ++ o ++ n ++ c ++ b ++ a }) r7
program-parts r0 r1 r2 r3 r4 r5 r6 r7 i m o c b n a names all e1 e2 e3 e4 e5 e6 e7 e8 = rw (e1, e2, e3, e4, e5, e6, e7, e8)

-- their skeletons, one behind another
pub skeleton-parts : (old k1 k2 k3 k4 k5 k6 new i m o n c b a : List Skel) → k1 ≡ old ++ i → k2 ≡ k1 ++ m → k3 ≡ k2 ++ o → k4 ≡ k3 ++ n → k5 ≡ k4 ++ c → k6 ≡ k5 ++ b → new ≡ k6 ++ a
    → new ≡ old ++ (i ++ m ++ o ++ n ++ c ++ b ++ a)
skeleton-parts old k1 k2 k3 k4 k5 k6 new i m o n c b a e1 e2 e3 e4 e5 e6 e7 = rw (e7, e6, e5, e4, e3, e2, e1) (simp append_assoc)

-- a program with its skeleton
pub program-done : (out : Out ReadProgram) (rest : List Token) (old new : List Skel) (m : MainFunction) (s : List Skel)
    → out ≡ Done (program_with m s) rest → new ≡ old ++ s → ReadsProgram out rest old new (Ok m)
program-done out rest old new m s h n =
    let e = ap (skeleton_in (λ r. r.skeleton)) h in
    (h ∙ ap (λ k. Done (program_with m k) rest) (sym e), n ∙ ap (λ k. old ++ k) (sym e))
