-- What a payload has room for has counts of 32 bits.
use Rattle.std.proofs.Common.{◌≡◌, ℕ, suc, ◌+◌, ◌≤◌, ◌<◌, ◌^◌, List, [], ◌∷◌, ◌++◌, length, Option, Some, None, refl, sym, ap, ◌∙◌, append_assoc, arith}
use Rattle.std.proofs.lemmas.List.{length-append}
use Rattle.prv_check.specs.LogLines.{LogLine}
use Rattle.prv_codec.specs.declared.form.Form.{Form}
use Rattle.prv_codec.specs.declared.form.Form.TheVariants.{One, Two}
use Rattle.prv_codec.specs.Forms.{number}
use Rattle.prv_codec.specs.Spelling as spell
use Rattle.prv_codec.proofs.Sizes.{sized_line, sized_log}
use Rattle.prv_record.specs.declared.limits.TheConstants.{MAX_PAYLOAD}
use Rattle.prv_record.specs.Pairs.{opening_of, pair_kind, space_text, pair_payload, IsUnused, IsSpace, IsOpening, IsFirst}
use Rattle.prv_record.specs.Fields.{HasFields}
use Rattle.prv_record.specs.Parts.{next_bytes, proof_bytes, IsSizedNext, IsSizedProof}
use Rattle.prv_record.specs.Spelling.{payload}
use Rattle.prv_record.specs.declared.raw.Raw.{Raw}
use Rattle.prv_record.specs.declared.raw.Proof.{Proof}
use Rattle.prv_record.specs.declared.raw.Proof.TheVariants as p
use Rattle.prv_record.proofs.Parting.{parts_small, proof_small}

-- ---- logs

pub log_room : (form : Form) (log : List LogLine) → length (spell.log form log) ≤ MAX_PAYLOAD → spell.AreSized log
log_room form log h = sized_log form log (omega arith)

pub next_room : (form : Form) (s : LogLine) → length (spell.line form s) ≤ MAX_PAYLOAD → spell.IsSized s
next_room form s h = sized_line form s (omega arith)

-- a log, and a line that may stand behind it
module _ (form : Form) (log : List LogLine) (next : Option LogLine) (h : length (spell.log form log ++ next_bytes form next) ≤ MAX_PAYLOAD) where
  pub spent_room : spell.AreSized log
  spent_room = log_room form log (omega (arith, length-append (spell.log form log) (next_bytes form next)))

  pub behind_room : length (next_bytes form next) ≤ MAX_PAYLOAD
  behind_room = omega (arith, length-append (spell.log form log) (next_bytes form next))

pub next_sized : (form : Form) (next : Option LogLine) → length (next_bytes form next) ≤ MAX_PAYLOAD → IsSizedNext next
next_sized form None h = tt
next_sized form (Some s) h = next_room form s h

pub proof_sized : (form : Form) (proof : Proof) → length (proof_bytes form proof) ≤ MAX_PAYLOAD → IsSizedProof proof
proof_sized form p.None h = tt
proof_sized form (p.Log log) h = log_room form log h
proof_sized form (p.Spent log next) h = (spent_room form log next h, next_sized form next (behind_room form log next h))

pub record_sized : (form : Form) (raw : Raw) → HasFields raw → length (payload form raw) ≤ MAX_PAYLOAD → IsSizedProof raw.proof
record_sized form raw has h = proof_sized form raw.proof (proof_small form raw MAX_PAYLOAD (parts_small form raw has MAX_PAYLOAD h))

-- ---- texts

pub text_room : (form : Form) (t : List ℕ) → length (spell.text form t) ≤ MAX_PAYLOAD → length t < 2 ^ 32
text_room form t h = omega (arith, length-append (number form (length t)) t)

module _ (form : Form) (turns : ℕ) (space before after : List ℕ) (unused : IsUnused form space) (h : length (pair_payload (opening_of form turns space before after)) ≤ MAX_PAYLOAD) where
  abbrev texts : List ℕ
  texts = spell.text form before ++ spell.text form after

  pub space_room : length (space_text form space) ≤ MAX_PAYLOAD
  space_room = omega (arith, length-append (number form turns) (space_text form space ++ texts), length-append (space_text form space) texts)

  texts_room : length texts ≤ MAX_PAYLOAD
  texts_room = omega (arith, length-append (number form turns) (space_text form space ++ texts), length-append (space_text form space) texts)

  pub before_room : length before < 2 ^ 32
  before_room = text_room form before (omega (arith, texts_room, length-append (spell.text form before) (spell.text form after)))

  pub after_room : length after < 2 ^ 32
  after_room = text_room form after (omega (arith, texts_room, length-append (spell.text form before) (spell.text form after)))

is_space : (form : Form) (space : List ℕ) → IsUnused form space → length (space_text form space) ≤ MAX_PAYLOAD → IsSpace form space
is_space One space unused h = unused
is_space Two space unused h = text_room Two space h

module _ (form : Form) (turns : ℕ) (space before after : List ℕ) (unused : IsUnused form space) (range : turns < 2 ^ 32) (h : length (pair_payload (opening_of form turns space before after)) ≤ MAX_PAYLOAD) where
  pub first_fits : IsOpening (opening_of form turns space before after)
  first_fits = record {
    turns = range;
    space = is_space form space unused (space_room form turns space before after unused h);
    before = before_room form turns space before after unused h;
    after = after_room form turns space before after unused h;
  }

  -- the parts that were written one behind the other
  pub first_made : (bytes : List ℕ) → bytes ≡ ((((pair_kind form ∷ []) ++ number form turns) ++ space_text form space) ++ spell.text form before) ++ spell.text form after → IsFirst (opening_of form turns space before after) bytes
  first_made bytes e = record { fits = first_fits; is = e ∙ ap (λ (u : List ℕ). pair_kind form ∷ u) rows }
    where
      rows : ((number form turns ++ space_text form space) ++ spell.text form before) ++ spell.text form after ≡ number form turns ++ (space_text form space ++ (spell.text form before ++ spell.text form after))
      rows = append_assoc (number form turns ++ space_text form space) (spell.text form before) (spell.text form after) ∙ append_assoc (number form turns) (space_text form space) (spell.text form before ++ spell.text form after)
