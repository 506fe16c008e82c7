-- What the answer of a reader says of a JSON text, where the reader judges first the shape and then the rules.
use Rattle.std.proofs.Common.{◌≡◌, ℕ, List, Option, Some, Result, Ok, Err, refl, sym, ap, ◌∙◌}
use Rattle.std.specs.Str.{IsUtf8}
use Rattle.list_law.proofs.Options.{none_from}
use Rattle.serde_json.specs.Data.{Data}
use Rattle.serde_json.specs.Read.{read}
use Rattle.json_values.specs.Json.{json_of}
use Rattle.json_values.proofs.JsonTexts.{json_of-read, json_of-refused, json_of-value}
use Rattle.net_base.specs.Steps.{◌>>=◌, or_fault}
use Rattle.net_base.proofs.StepLemmas.{bind_ok, err_same, or_fault_ok}
use Rattle.net_base.proofs.StepOutcomes.{bind_case, or_fault_err}
use Rattle.json_values.specs.TextRules.{Says, Keeps, KeepsBelow}
use Rattle.json_values.proofs.FirstRule.{past, Outcome, kept_ok, broken_err}
use Rattle.json_values.proofs.OnlyFaults.{Only, IsOf, only_err}

module _ {T A F : Type 0} (not_json : F) (shape_of : Data → Result T F) (judged : T → Result A F) where
  -- what the bytes spell
  abbrev pub spelled_by : List ℕ → Result A F
  spelled_by bytes = or_fault not_json (json_of bytes) >>= (λ d. shape_of d >>= judged)

  -- a text that has the shape is judged as what it says
  spelled_by-says : (bytes : List ℕ) (said : T) → Says shape_of bytes said → spelled_by bytes ≡ judged said
  spelled_by-says bytes said s = rw (json_of-read bytes s.0 s.1 s.2, s.3) refl

  -- what a text that is read says
  pub says_read : (bytes : List ℕ) (x : A) → spelled_by bytes ≡ Ok x → (said : T) × Says shape_of bytes said × (judged said ≡ Ok x)
  says_read bytes x h =
      let p = bind_ok (or_fault not_json (json_of bytes)) (λ d. shape_of d >>= judged) x h in
      let q = bind_ok (shape_of p.0) judged x p.2 in
      let v = json_of-value bytes p.0 (or_fault_ok not_json (json_of bytes) p.0 p.1) in
      (q.0, (p.0, v.0, v.1, q.1), q.2)

-- What the answers of a reader say, in the words of its rules. Faults of the shape name a part.
pub record Answers {P T A F : Type 0} (not_json : F) (shape : P → F) (number_of : F → ℕ) (shape_of : Data → Result T F) (rules : T → List {1} (Type 0)) (spelled : List ℕ → Result A F) : Type 0 where
  pub read_only : (bytes : List ℕ) (x : A) → spelled bytes ≡ Ok x → (said : T) × Says shape_of bytes said × KeepsBelow (rules said) (past (rules said))
  pub read_all : (bytes : List ℕ) (said : T) → Says shape_of bytes said → KeepsBelow (rules said) (past (rules said)) → (x : A) × (spelled bytes ≡ Ok x)
  pub not_json_only : (bytes : List ℕ) → spelled bytes ≡ Err not_json → (d : Data) → IsUtf8 bytes → read bytes ≡ Some d → ⊥
  pub not_json_all : (bytes : List ℕ) → ((d : Data) → IsUtf8 bytes → read bytes ≡ Some d → ⊥) → spelled bytes ≡ Err not_json
  pub shape_only : (bytes : List ℕ) (part : P) → spelled bytes ≡ Err (shape part) → (d : Data) × IsUtf8 bytes × (read bytes ≡ Some d) × (shape_of d ≡ Err (shape part))
  pub shape_all : (bytes : List ℕ) (part : P) (d : Data) → IsUtf8 bytes → read bytes ≡ Some d → shape_of d ≡ Err (shape part) → spelled bytes ≡ Err (shape part)
  -- the rule of the fault's number is the first that is broken
  pub broken_only : (bytes : List ℕ) (said : T) (e : F) → Says shape_of bytes said → spelled bytes ≡ Err e → KeepsBelow (rules said) (number_of e) × (Keeps (rules said) (number_of e) → ⊥)
  pub broken_all : (bytes : List ℕ) (said : T) (k : ℕ) → Says shape_of bytes said → KeepsBelow (rules said) k → (Keeps (rules said) k → ⊥)
      → (e : F) × (spelled bytes ≡ Err e) × (number_of e ≡ k)

-- they do so where rules aren't told by faults of the shape, nor by the fault of no JSON
module _ {P T A F : Type 0} (not_json : F) (shape : P → F) (number_of : F → ℕ) (shape_of : Data → Result T F) (rules : T → List {1} (Type 0)) (judged : T → Result A F)
    (outcome : (said : T) (y : Result A F) → judged said ≡ y → Outcome (rules said) number_of y)
    (of_shape : (d : Data) → Only (IsOf shape) (shape_of d)) (apart : (part : P) → not_json ≡ shape part → ⊥)
    (early : (said : T) → Keeps (rules said) (number_of not_json)) (shape_early : (said : T) (part : P) → Keeps (rules said) (number_of (shape part))) where
  abbrev spelled : List ℕ → Result A F
  spelled = spelled_by not_json shape_of judged

  not_json-only : (bytes : List ℕ) → spelled bytes ≡ Err not_json → (d : Data) → IsUtf8 bytes → read bytes ≡ Some d → ⊥
  not_json-only bytes h d text is =
      bind_case ⊥ (shape_of d) judged (Err not_json) (sym (ap (λ (o : Option Data). or_fault not_json o >>= (λ v. shape_of v >>= judged)) (json_of-read bytes d text is)) ∙ h)
      (λ e p same. let named = only_err (IsOf shape) (shape_of d) e (of_shape d) p in apart named.0 (err_same not_json e same ∙ named.1))
      (λ said p g. (outcome said (Err not_json) g).1 (early said))

  shape-only : (bytes : List ℕ) (part : P) → spelled bytes ≡ Err (shape part) → (d : Data) × IsUtf8 bytes × (read bytes ≡ Some d) × (shape_of d ≡ Err (shape part))
  shape-only bytes part h =
      let e = shape part in
      bind_case ((d : Data) × IsUtf8 bytes × (read bytes ≡ Some d) × (shape_of d ≡ Err e)) (or_fault not_json (json_of bytes)) (λ d. shape_of d >>= judged) (Err e) h
      (λ f p same. absurd (apart part ((or_fault_err not_json f (json_of bytes) p).0 ∙ sym (err_same e f same))))
      (λ d p g. let v = json_of-value bytes d (or_fault_ok not_json (json_of bytes) d p) in
      bind_case ((d : Data) × IsUtf8 bytes × (read bytes ≡ Some d) × (shape_of d ≡ Err e)) (shape_of d) judged (Err e) g
      (λ f p same. (d, v.0, v.1, p ∙ ap (λ x. Err x) (sym (err_same e f same))))
      (λ said p g. absurd ((outcome said (Err e) g).1 (shape_early said part))))

  pub answers : Answers not_json shape number_of shape_of rules spelled
  answers = record {
    read_only = λ bytes x h. let r = says_read not_json shape_of judged bytes x h in (r.0, r.1, outcome r.0 (Ok x) r.2);
    read_all = λ bytes said s keeps.
        let r = kept_ok (rules said) number_of (judged said) (outcome said (judged said) refl) keeps in
        (r.0, spelled_by-says not_json shape_of judged bytes said s ∙ r.1);
    not_json_only = not_json-only;
    not_json_all = λ bytes never. rw (json_of-refused bytes (λ text. none_from (read bytes) (λ d is. never d text is))) refl;
    shape_only = shape-only;
    shape_all = λ bytes part d text is shaped. rw (json_of-read bytes d text is, shaped) refl;
    broken_only = λ bytes said e s h. outcome said (Err e) (sym (spelled_by-says not_json shape_of judged bytes said s) ∙ h);
    broken_all = λ bytes said k s keeps breaks.
        let r = broken_err (rules said) number_of (judged said) (outcome said (judged said) refl) k keeps breaks in
        (r.0, spelled_by-says not_json shape_of judged bytes said s ∙ r.1, r.2);
  }
