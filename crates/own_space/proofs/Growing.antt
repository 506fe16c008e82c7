-- Lists of parts as they grow.
use Rattle.std.proofs.Common.{◌≡◌, ℕ, ◌+◌, Bool, List, [], ◌∷◌, ◌++◌, Option, append_assoc, sym, ap, ◌∙◌}
use Rattle.std.specs.List.{list_all}
use Rattle.net_base.specs.Prefixes.{PlainPattern}
use Rattle.policy_base.specs.declared.policy.Origin.{Origin}
use Rattle.policy_base.specs.Policies.{PlainStatement}
use Rattle.lint_cover.specs.Covered.{covered}
use Rattle.own_space.specs.declared.open_case.OpenCase.{OpenCase}
use Rattle.own_space.specs.declared.open_part.OpenPart.{OpenPart}
use Rattle.own_space.specs.Covers.{covered_from}
use Rattle.own_space.specs.Open.{number_of, parts_from, pattern_parts, statement_parts}

-- one pattern more: what is to come after `mid` is what was to come after `now`
pub pattern_more : (outer : List Origin) (qs rs ts : List PlainPattern) (m : Option ℕ) (t : PlainPattern) (all now mid : List OpenPart)
    → all ≡ now ++ statement_parts outer qs m (t ∷ ts) → mid ≡ now ++ pattern_parts outer qs m t → qs ++ t ∷ [] ≡ rs
    → all ≡ mid ++ statement_parts outer rs m ts
pattern_more outer qs rs ts m t all now mid before step is =
    before ∙ sym (append_assoc now (pattern_parts outer qs m t) (statement_parts outer (qs ++ t ∷ []) m ts))
    ∙ ap (λ (xs : List OpenPart). xs ++ statement_parts outer (qs ++ t ∷ []) m ts) (sym step) ∙ ap (λ (ps : List PlainPattern). mid ++ statement_parts outer ps m ts) is

-- one statement more
pub statement_more : (outer : List Origin) (cases : List OpenCase) (qs : List PlainPattern) (k : ℕ) (s : PlainStatement) (ss : List PlainStatement) (m : Option ℕ) (all now mid : List OpenPart)
    → all ≡ now ++ parts_from outer cases qs k (s ∷ ss) → m ≡ number_of cases k → mid ≡ now ++ statement_parts outer qs m s.patterns
    → all ≡ mid ++ parts_from outer cases (qs ++ s.patterns) (k + 1) ss
statement_more outer cases qs k s ss m all now mid before is step =
    let one = statement_parts outer qs (number_of cases k) s.patterns in
    let rest = parts_from outer cases (qs ++ s.patterns) (k + 1) ss in
    let here : mid ≡ now ++ one = step ∙ ap (λ (o : Option ℕ). now ++ statement_parts outer qs o s.patterns) is in
    before ∙ sym (append_assoc now one rest) ∙ ap (λ (xs : List OpenPart). xs ++ rest) (sym here)

-- one mark more
pub mark_more : (qs : List PlainPattern) (s : PlainStatement) (ss : List PlainStatement) (all now mid : List Bool) (mark : Bool)
    → all ≡ now ++ covered_from qs (s ∷ ss) → mark ≡ list_all (covered qs) s.patterns → mid ≡ now ++ mark ∷ []
    → all ≡ mid ++ covered_from (qs ++ s.patterns) ss
mark_more qs s ss all now mid mark before is step =
    let one = list_all (covered qs) s.patterns in
    let rest = covered_from (qs ++ s.patterns) ss in
    let here : mid ≡ now ++ one ∷ [] = step ∙ ap (λ (b : Bool). now ++ b ∷ []) is in
    before ∙ sym (append_assoc now (one ∷ []) rest) ∙ ap (λ (xs : List Bool). xs ++ rest) (sym here)
