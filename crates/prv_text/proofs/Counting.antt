-- Entries counted by kind, one after the other.
use Rattle.std.proofs.Common.{◌≡◌, ℕ, ◌+◌, ◌<◌, ◌≤◌, ◌^◌, Bool, true, false, List, [], ◌∷◌, length, map, drop, get_or, sym, ap, ◌∙◌, arith}
use Rattle.std.proofs.lemmas.List.{drop_more, length-map}
use Rattle.prv_model.specs.Boards.{one_if}
use Rattle.prv_model.specs.declared.entry.Kind.{Kind}
use Rattle.prv_model.specs.declared.entry.Entry.{Entry}
use Rattle.prv_part.specs.declared.part.Part.{Part}
use Rattle.prv_board.specs.Counting.{IsSum, IsRest, AreSmall}
use Rattle.prv_board.specs.Replays.{count_kind, counts_of, counts_of_kind, is_same, is_different, is_empty, is_beyond, is_unexplored, is_undecided}
use Rattle.prv_board.specs.declared.counts.Counts.{Counts}
use Rattle.prv_board.proofs.BoardLaws.{count-few, counts-same}
use Rattle.prv_text.specs.Reports.{part_of}

-- the counts of entries
abbrev pub counted : List Entry → Counts
counted entries = counts_of (map part_of entries)

-- no entry
abbrev pub none : Counts
none = record { same = 0; different = 0; empty = 0; beyond = 0; unexplored = 0; undecided = 0 }

-- what was counted, and the entries from a place on, are all of them
pub record AreCounted (made : Counts) (entries : List Entry) (i : ℕ) : Type 0 where
  pub rest : IsRest made (counted (drop i entries)) none (counted entries)

field-next : (test : Kind → Bool) (es : List Entry) (i : ℕ) (e : Entry) → i < length es → e ≡ get_or es i e → count_kind test (map part_of (drop i es)) ≡ one_if (test e.kind) + count_kind test (map part_of (drop (i + 1) es))
field-next test es i e inside is =
    ap (λ (xs : List Entry). count_kind test (map part_of xs)) (drop_more es i e inside) ∙ ap (λ (x : Entry). one_if (test x.kind) + count_kind test (map part_of (drop (i + 1) es))) (sym is)

field-small : (test : Kind → Bool) (es : List Entry) (i : ℕ) (e : Entry) (made : ℕ) → i < length es → e ≡ get_or es i e → length es < 2 ^ 32 → made + count_kind test (map part_of (drop i es)) ≡ 0 + count_kind test (map part_of es) → made + one_if (test e.kind) < 2 ^ 32
field-small test es i e made inside is few split =
    omega (arith, split, field-next test es i e inside is, count-few test (map part_of es), length-map es part_of)

-- one more fits
pub small-next : (made : Counts) (es : List Entry) (i : ℕ) (e : Entry) → i < length es → e ≡ get_or es i e → length es < 2 ^ 32 → AreCounted made es i → AreSmall made (counts_of_kind e.kind)
small-next made es i e inside is few c = record {
  same = field-small is_same es i e made.same inside is few c.rest.same;
  different = field-small is_different es i e made.different inside is few c.rest.different;
  empty = field-small is_empty es i e made.empty inside is few c.rest.empty;
  beyond = field-small is_beyond es i e made.beyond inside is few c.rest.beyond;
  unexplored = field-small is_unexplored es i e made.unexplored inside is few c.rest.unexplored;
  undecided = field-small is_undecided es i e made.undecided inside is few c.rest.undecided;
}

field-more : (test : Kind → Bool) (es : List Entry) (i : ℕ) (e : Entry) (made new : ℕ) → i < length es → e ≡ get_or es i e → made + count_kind test (map part_of (drop i es)) ≡ 0 + count_kind test (map part_of es) → new ≡ made + one_if (test e.kind) →
    new + count_kind test (map part_of (drop (i + 1) es)) ≡ 0 + count_kind test (map part_of es)
field-more test es i e made new inside is split sum = omega (arith, split, sum, field-next test es i e inside is)

-- one more is counted
pub counted-next : (made one new : Counts) (es : List Entry) (i : ℕ) (e : Entry) → i < length es → e ≡ get_or es i e → AreCounted made es i → one ≡ counts_of_kind e.kind → IsSum made one new → AreCounted new es (i + 1)
counted-next made one new es i e inside is c kind sum = record {
  rest = record {
    same = field-more is_same es i e made.same new.same inside is c.rest.same (sum.same ∙ ap (λ (k : Counts). made.same + k.same) kind);
    different = field-more is_different es i e made.different new.different inside is c.rest.different (sum.different ∙ ap (λ (k : Counts). made.different + k.different) kind);
    empty = field-more is_empty es i e made.empty new.empty inside is c.rest.empty (sum.empty ∙ ap (λ (k : Counts). made.empty + k.empty) kind);
    beyond = field-more is_beyond es i e made.beyond new.beyond inside is c.rest.beyond (sum.beyond ∙ ap (λ (k : Counts). made.beyond + k.beyond) kind);
    unexplored = field-more is_unexplored es i e made.unexplored new.unexplored inside is c.rest.unexplored (sum.unexplored ∙ ap (λ (k : Counts). made.unexplored + k.unexplored) kind);
    undecided = field-more is_undecided es i e made.undecided new.undecided inside is c.rest.undecided (sum.undecided ∙ ap (λ (k : Counts). made.undecided + k.undecided) kind);
  };
}

field-end : (made rest all : ℕ) → made + rest ≡ 0 + all → rest ≡ 0 → made ≡ all
field-end made rest all split none_left = omega arith

-- all are counted
pub counted-all : (made : Counts) (es : List Entry) (i : ℕ) → drop i es ≡ [] → AreCounted made es i → made ≡ counted es
counted-all made es i past c =
    counts-same made (counted es)
    (field-end made.same _ _ c.rest.same (ap (λ (xs : List Entry). count_kind is_same (map part_of xs)) past))
    (field-end made.different _ _ c.rest.different (ap (λ (xs : List Entry). count_kind is_different (map part_of xs)) past))
    (field-end made.empty _ _ c.rest.empty (ap (λ (xs : List Entry). count_kind is_empty (map part_of xs)) past))
    (field-end made.beyond _ _ c.rest.beyond (ap (λ (xs : List Entry). count_kind is_beyond (map part_of xs)) past))
    (field-end made.unexplored _ _ c.rest.unexplored (ap (λ (xs : List Entry). count_kind is_unexplored (map part_of xs)) past))
    (field-end made.undecided _ _ c.rest.undecided (ap (λ (xs : List Entry). count_kind is_undecided (map part_of xs)) past))

pub counted-none : (es : List Entry) → AreCounted none es 0
counted-none es = record { rest = record { same = omega arith; different = omega arith; empty = omega arith; beyond = omega arith; unexplored = omega arith; undecided = omega arith } }
