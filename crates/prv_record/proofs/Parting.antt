-- What is written part by part is the fields of the shape.
use Rattle.std.proofs.Common.{◌≡◌, ℕ, suc, ◌+◌, ◌≤◌, List, [], ◌∷◌, ◌++◌, length, Option, Some, None, ℤ, refl, sym, ap, ◌∙◌, append_assoc, arith}
use Rattle.std.specs.Prelude.{⊤, IsSome, IfSome, unwrap_or}
use Rattle.std.specs.List.{flat_map, AllByRecursion}
use Rattle.std.proofs.lemmas.List.{append-nil, length-append}
use Rattle.prv_model.specs.declared.entry.Reason.TheVariants.{Lines, Numbers, Clauses, Wide, Literals}
use Rattle.prv_codec.specs.declared.form.Form.{Form}
use Rattle.prv_codec.specs.Forms.{number}
use Rattle.prv_codec.specs.Spelling as spell
use Rattle.prv_part.specs.declared.shape.Shape.{Shape}
use Rattle.prv_part.specs.declared.shape.Shape.TheVariants as s
use Rattle.prv_record.specs.Fields.{Field, shape_fields, HasFields}
use Rattle.prv_record.specs.Parts.{choice, front_codes, back_codes, member_bytes, other_bytes, proof_bytes, part_bytes, IsToldMember, IsToldOther, IsToldProof, IsTold}
use Rattle.prv_record.specs.Records.{IsPayload}
use Rattle.prv_record.specs.Spelling.{spelling, IsSpelled, kind, shape_code, fields_of, payload}
use Rattle.prv_record.specs.declared.raw.Raw.{Raw}
use Rattle.prv_record.specs.declared.raw.RawOther.{RawOther}
use Rattle.prv_record.specs.declared.raw.RawOther.TheVariants as o
use Rattle.prv_record.specs.declared.raw.Proof.{Proof}
use Rattle.prv_record.specs.declared.raw.Proof.TheVariants as p

abbrev fields : Shape → Option (List ℤ) → RawOther → Proof → List Field
fields shape member other proof = unwrap_or (shape_fields shape member other proof) []

module _ (form : Form) where
  abbrev parts : Shape → Option (List ℤ) → RawOther → Proof → List ℕ
  parts shape member other proof = front_codes shape (choice other proof) ++ (member_bytes form member ++ (back_codes shape (choice other proof) ++ (other_bytes form other ++ proof_bytes form proof)))

  pub parts-are : (shape : Shape) (member : Option (List ℤ)) (other : RawOther) (proof : Proof) → IsSome (shape_fields shape member other proof) → flat_map (spelling form) (fields shape member other proof) ≡ parts shape member other proof
  parts-are s.Empty None o.None (p.Log log) h = append-nil (spell.log form log)
  parts-are s.Stuck None (o.Reason (Lines budget)) (p.Spent log None) h = refl
  parts-are s.Stuck None (o.Reason (Numbers lines)) (p.Spent log (Some next)) h = ap (λ (u : List ℕ). 2 ∷ (spell.log form log ++ u)) (append-nil (spell.line form next))
  parts-are s.Stuck None (o.Reason (Clauses count)) p.None h = refl
  parts-are s.Stuck (Some x) (o.Reason Wide) p.None h = refl
  parts-are s.Stuck (Some x) (o.Reason Literals) p.None h = refl
  parts-are s.Whole (Some x) o.None p.None h = refl
  parts-are s.Whole (Some x) o.None (p.Log log) h = ap (λ (u : List ℕ). spell.input form x ++ 1 ∷ u) (append-nil (spell.log form log))
  parts-are s.Split (Some x) (o.Member other) p.None h = refl
  parts-are s.Split (Some x) (o.Reason (Lines budget)) (p.Spent log None) h = refl
  parts-are s.Split (Some x) (o.Reason (Numbers lines)) (p.Spent log (Some next)) h = ap (λ (u : List ℕ). spell.input form x ++ 2 ∷ (spell.log form log ++ u)) (append-nil (spell.line form next))
  parts-are s.Split (Some x) (o.Reason (Clauses count)) p.None h = refl
  parts-are s.Beyond (Some x) o.None p.None h = refl
  parts-are shape member other proof h = absurd cc

-- ---- which of them have a spelling

pub told : (shape : Shape) (member : Option (List ℤ)) (other : RawOther) (proof : Proof) → IsToldMember member → IsToldOther other → IsToldProof proof → IsSome (shape_fields shape member other proof) → AllByRecursion IsSpelled (fields shape member other proof)
told s.Empty None o.None (p.Log log) m r q h = (q, tt)
told s.Stuck None (o.Reason (Lines budget)) (p.Spent log None) m r q h = (tt, (r, (q.0, tt)))
told s.Stuck None (o.Reason (Numbers lines)) (p.Spent log (Some next)) m r q h = (tt, (q.0, (q.1, tt)))
told s.Stuck None (o.Reason (Clauses count)) p.None m r q h = (tt, (r, tt))
told s.Stuck (Some x) (o.Reason Wide) p.None m r q h = (tt, (m, tt))
told s.Stuck (Some x) (o.Reason Literals) p.None m r q h = (tt, (m, tt))
told s.Whole (Some x) o.None p.None m r q h = (m, (tt, tt))
told s.Whole (Some x) o.None (p.Log log) m r q h = (m, (tt, (q, tt)))
told s.Split (Some x) (o.Member other) p.None m r q h = (m, (tt, (r, tt)))
told s.Split (Some x) (o.Reason (Lines budget)) (p.Spent log None) m r q h = (m, (tt, (r, (q.0, tt))))
told s.Split (Some x) (o.Reason (Numbers lines)) (p.Spent log (Some next)) m r q h = (m, (tt, (q.0, (q.1, tt))))
told s.Split (Some x) (o.Reason (Clauses count)) p.None m r q h = (m, (tt, (r, tt)))
told s.Beyond (Some x) o.None p.None m r q h = (m, tt)
told shape member other proof m r q h = absurd cc

-- and the other way round
pub parted : (shape : Shape) (member : Option (List ℤ)) (other : RawOther) (proof : Proof) → IsSome (shape_fields shape member other proof) → AllByRecursion IsSpelled (fields shape member other proof) → IsToldMember member × IsToldOther other
parted s.Empty None o.None (p.Log log) h e = (tt, tt)
parted s.Stuck None (o.Reason (Lines budget)) (p.Spent log None) h e = (tt, e.1.0)
parted s.Stuck None (o.Reason (Numbers lines)) (p.Spent log (Some next)) h e = (tt, tt)
parted s.Stuck None (o.Reason (Clauses count)) p.None h e = (tt, e.1.0)
parted s.Stuck (Some x) (o.Reason Wide) p.None h e = (e.1.0, tt)
parted s.Stuck (Some x) (o.Reason Literals) p.None h e = (e.1.0, tt)
parted s.Whole (Some x) o.None p.None h e = (e.0, tt)
parted s.Whole (Some x) o.None (p.Log log) h e = (e.0, tt)
parted s.Split (Some x) (o.Member other) p.None h e = (e.0, e.1.1.0)
parted s.Split (Some x) (o.Reason (Lines budget)) (p.Spent log None) h e = (e.0, e.1.1.0)
parted s.Split (Some x) (o.Reason (Numbers lines)) (p.Spent log (Some next)) h e = (e.0, tt)
parted s.Split (Some x) (o.Reason (Clauses count)) p.None h e = (e.0, e.1.1.0)
parted s.Beyond (Some x) o.None p.None h e = (e.0, tt)
parted shape member other proof h e = absurd cc

-- ---- a whole record

module _ (form : Form) (raw : Raw) (has : HasFields raw) where
  payload-is : payload form raw ≡ kind form ∷ (number form raw.entry ++ shape_code raw.shape ∷ part_bytes form raw)
  payload-is = ap (λ (u : List ℕ). kind form ∷ (number form raw.entry ++ shape_code raw.shape ∷ u)) (parts-are form raw.shape raw.member raw.other raw.proof has.table)

  pub parts_small : (m : ℕ) → length (payload form raw) ≤ m → length (part_bytes form raw) ≤ m
  parts_small m h =
      let e = ap length payload-is in
      omega (arith, e, length-append (number form raw.entry) (shape_code raw.shape ∷ part_bytes form raw))

  pub payload_made : (bytes : List ℕ) → spell.IsNumber raw.entry → IsTold raw → bytes ≡ (kind form ∷ (number form raw.entry ++ shape_code raw.shape ∷ [])) ++ part_bytes form raw → IsPayload form raw bytes
  payload_made bytes entry said e = record {
    entry = entry;
    fields = has;
    each = told raw.shape raw.member raw.other raw.proof said.member said.other said.proof has.table;
    is = e ∙ ap (λ (u : List ℕ). kind form ∷ u) (append_assoc (number form raw.entry) (shape_code raw.shape ∷ []) (part_bytes form raw)) ∙ sym payload-is;
  }

-- the proof stands behind the other parts
pub proof_small : (form : Form) (raw : Raw) (m : ℕ) → length (part_bytes form raw) ≤ m → length (proof_bytes form raw.proof) ≤ m
proof_small form raw m h =
    let code = choice raw.other raw.proof in
    let front = front_codes raw.shape code in
    let member = member_bytes form raw.member in
    let back = back_codes raw.shape code in
    let other = other_bytes form raw.other in
    let proof = proof_bytes form raw.proof in
    omega (arith, length-append front (member ++ (back ++ (other ++ proof))), length-append member (back ++ (other ++ proof)), length-append back (other ++ proof), length-append other proof)
