-- What a step that ended says of the name that was looked up, or of the part that was read.
use Rattle.std.proofs.Common.{◌≡◌, ◌∙◌, ℕ, List, None, Result, Ok, Err, true, sym, true≢false}
use Rattle.std.specs.List.{position}
use Rattle.std.specs.Result.{result_ok}
use Rattle.std.specs.Str.{bytes_eq}
use Rattle.list_law.proofs.Positions.{list_any-at_position, list_any-no_position}
use Rattle.net_base.specs.Steps.{or_fault}
use Rattle.net_base.proofs.StepLemmas.{or_fault_ok}
use Rattle.net_base.proofs.StepOutcomes.{or_fault_err}
use Rattle.json_values.specs.TextRules.{is_known}

pub name_ok : {F : Type 0} (e : F) (names : List (List ℕ)) (name : List ℕ) (l : ℕ) → or_fault e (position (bytes_eq name) names) ≡ Ok l → is_known names name ≡ true
name_ok e names name l h = list_any-at_position (bytes_eq name) names l (or_fault_ok e (position (bytes_eq name) names) l h)

pub name_err : {F : Type 0} (e f : F) (names : List (List ℕ)) (name : List ℕ) → or_fault e (position (bytes_eq name) names) ≡ Err f → (is_known names name ≡ true → ⊥) × (e ≡ f)
name_err e f names name h =
    let q = or_fault_err e f (position (bytes_eq name) names) h in
    ((λ known. true≢false (sym known ∙ list_any-no_position (bytes_eq name) names q.1)), q.0)

no_ok : {A E : Type 0} (r : Result A E) → result_ok r ≡ None → (x : A) → r ≡ Ok x → ⊥
no_ok (Ok y) none x is = cc
no_ok (Err d) none x is = cc

pub read_err : {A E F : Type 0} (e f : F) (r : Result A E) → or_fault e (result_ok r) ≡ Err f → ((x : A) → r ≡ Ok x → ⊥) × (e ≡ f)
read_err e f r h = let q = or_fault_err e f (result_ok r) h in (no_ok r q.1, q.0)
