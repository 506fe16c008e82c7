-- What an object says whose keys were read one after another.
use Rattle.std.proofs.Common.{◌≡◌, ℕ, Bool, true, List, [], ◌∷◌, Ok, refl}
use Rattle.std.specs.Prelude.{codes}
use Rattle.serde_json.specs.Data.{Data, boolean, object, no_members}
use Rattle.serde_json.proofs.OnLiterals.{serde_json_on_literals}
use Rattle.json_values.specs.Json.{list_at}
use Rattle.net_base.specs.Steps.{or_fault}
use Rattle.net_base.proofs.StepLemmas.{bind_ok}
use Rattle.evidence_text.specs.declared.fault.EvidenceFault.TheVariants.{Shape}
use Rattle.evidence_text.specs.declared.parts.Field.TheVariants as field
use Rattle.evidence_text.specs.declared.raw.RawCase.{RawCase}
use Rattle.evidence_text.specs.declared.raw.RawEvidence.{RawEvidence}
use Rattle.evidence_text.specs.Shape.{begins_as_case, case_of, each, greatest, is_case, is_evidence, list_of, node_of, number_of, origins_of, places_of, prefix_of, shape_of, step_of, version_of, ways_of}
use Rattle.evidence_text.specs.Tokens.{array_of}
use Rattle.evidence_text.proofs.TokenLaws.{put_all}

-- the members of a case, and of a text
abbrev pub case_members : Bool → Data → Data → Data → Data → Data → Data → List (List ℕ × Data)
case_members external nodes origins prefixes starts statement steps =
    (codes "external", boolean external) ∷ (codes "nodes", nodes) ∷ (codes "origins", origins) ∷ (codes "prefixes", prefixes)
    ∷ (codes "starts", starts) ∷ (codes "statement", statement) ∷ (codes "steps", steps) ∷ []

abbrev pub text_members : Data → Data → List (List ℕ × Data)
text_members cases version = (codes "cases", cases) ∷ (codes "version", version) ∷ []

module _ (c : RawCase) (nodes origins prefixes starts statement steps : Data) where
  abbrev case_data : Data
  case_data = object (put_all (case_members c.external nodes origins prefixes starts statement steps) no_members)

  has_keys : is_case case_data ≡ true
  unfolding begins_as_case is_case serde_json_on_literals
  has_keys = refl

  module _
      (n : array_of field.Nodes (each node_of) nodes ≡ Ok c.nodes) (o : array_of field.Origins origins_of origins ≡ Ok c.origins)
      (p : array_of field.Prefixes (each prefix_of) prefixes ≡ Ok c.prefixes) (s : array_of field.Starts (each (number_of field.Starts 0 greatest)) starts ≡ Ok c.starts)
      (k : number_of field.Statement 1 greatest statement ≡ Ok c.statement) (t : array_of field.Steps (each step_of) steps ≡ Ok c.steps) where
    places : places_of case_data ≡ Ok (record { nodes = c.nodes; origins = c.origins; prefixes = c.prefixes })
    unfolding places_of list_of serde_json_on_literals
    places =
        let a = bind_ok (or_fault (Shape field.Nodes) (list_at nodes)) (each node_of) c.nodes n in
        let b = bind_ok (or_fault (Shape field.Origins) (list_at origins)) origins_of c.origins o in
        let d = bind_ok (or_fault (Shape field.Prefixes) (list_at prefixes)) (each prefix_of) c.prefixes p in
        rw (a.1, a.2, b.1, b.2, d.1, d.2) refl

    ways : ways_of case_data ≡ Ok (record { starts = c.starts; statement = c.statement; steps = c.steps })
    unfolding ways_of list_of serde_json_on_literals
    ways =
        let a = bind_ok (or_fault (Shape field.Starts) (list_at starts)) (each (number_of field.Starts 0 greatest)) c.starts s in
        let b = bind_ok (or_fault (Shape field.Steps) (list_at steps)) (each step_of) c.steps t in
        rw (a.1, a.2, k, b.1, b.2) refl

    pub case_says : case_of case_data ≡ Ok c
    unfolding case_of
    case_says = rw (has_keys, places, ways) refl

pub text_says : (e : RawEvidence) (cases version : Data) → array_of field.Cases (each case_of) cases ≡ Ok e.cases → number_of field.Version 0 greatest version ≡ Ok e.version
    → shape_of (object (put_all (text_members cases version) no_members)) ≡ Ok e
unfolding shape_of version_of is_evidence list_of serde_json_on_literals
text_says e cases version c v =
    let a = bind_ok (or_fault (Shape field.Cases) (list_at cases)) (each case_of) e.cases c in
    rw (a.1, a.2, v) refl
