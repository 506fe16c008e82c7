-- Renewed cases, one by one.
use Rattle.std.proofs.Common.{◌≡◌, ◌≢◌, ℕ, zero, suc, ◌<◌, ◌≤◌, ◌^◌, inl, inr, List, [], ◌∷◌, ◌++◌, map, length, Some, refl, sym, ap, ◌∙◌, subst, arith, IsTrue}
use Rattle.std.specs.Prelude.{slice_get, unwrap_or}
use Rattle.std.proofs.lemmas.Bool.{cases_eq, eq-eqb, ne_eqb}
use Rattle.std.proofs.lemmas.Option.{same_Some}
use Rattle.net_base.specs.declared.numbers.Tag.{Tag}
use Rattle.net_base.specs.Numbers.{is_tag, no_tag}
use Rattle.net_base.proofs.NumberRanges.{tag-range}
use Rattle.policy_base.specs.declared.case.Case.{Case}
use Rattle.std.specs.List.{AllByRecursion}
use Rattle.std.proofs.lemmas.List.{length-map}
use Rattle.graph_base.specs.declared.graph.Node.{Node}
use Rattle.graph_base.specs.Graphs.{PlainGraph}
use Rattle.evidence_base.specs.Evidence.{IsCaseEvidence}
use Rattle.evidence_base.specs.Made.{PlainCaseEvidence, case_at}
use Rattle.net_base.specs.declared.limits.TheConstants.{LOCATIONS}
use Rattle.free_tags.specs.Free.{AreNewTags, IsFree, IsNewTag}
use Rattle.evidence_renewal.specs.declared.fault.RenewalFault.{RenewalFault}
use Rattle.evidence_renewal.specs.declared.fault.RenewalFault.TheVariants.{NoMemory, PrefsRunOut}
use Rattle.evidence_renewal.specs.Renewed.{AreRenewedCases, IsFaultOf, IsRenewedCase, IsTooGreat, raised}

-- the tag of a node
pub new_at : (taken ts us : List Tag) → AreNewTags taken ts us → (n : ℕ) → IsNewTag taken (unwrap_or (slice_get ts n) no_tag) (unwrap_or (slice_get us n) no_tag)
new_at taken [] [] are n = refl
new_at taken [] (u ∷ us) are n = absurd are
new_at taken (t ∷ ts) [] are n = absurd are
new_at taken (t ∷ ts) (u ∷ us) are zero = are.0
new_at taken (t ∷ ts) (u ∷ us) are (suc n) = new_at taken ts us are.1 n

-- what is new where there was a tag
pub new_value : (taken : List Tag) (t u : Tag) → IsNewTag taken t u → 1 ≤ t.value → (u.asn ≡ t.asn) × IsFree taken t.asn t.value u.value
new_value taken t u is some =
    let other : t.value ≡ 0 → ⊥ = λ e. omega (arith, e, some) in
    rw (ne_eqb t.value 0 other) at is

-- and where there was none
pub new_none : (taken : List Tag) (u : Tag) → IsNewTag taken no_tag u → u ≡ no_tag
new_none taken u is = is

-- where a tag is new, there was one
pub was_tag : (taken : List Tag) (t u : Tag) → IsNewTag taken t u → IsTrue (is_tag u) → 1 ≤ t.value
was_tag taken t u is fits = elim (cases_eq t.value 0) [
  | inl none ↦
      let same : u ≡ no_tag = rw (eq-eqb t.value 0 none) at is in
      absurd (omega (arith, ap (λ (x : Tag). x.value) same, (tag-range u fits).2))
  | inr some ↦ omega (arith, some)
]

module _ (taken : List Tag) (by : ℕ) where
  pub renewed_at : (cs ds : List PlainCaseEvidence) → AreRenewedCases taken by cs ds → (k : ℕ) (d : PlainCaseEvidence) → slice_get ds k ≡ Some d
      → (c : PlainCaseEvidence) × (slice_get cs k ≡ Some c) × IsRenewedCase taken by c d
  renewed_at [] [] are k d at = absurd cc
  renewed_at [] (e ∷ ds) are k d at = absurd are
  renewed_at (c ∷ cs) [] are k d at = absurd are
  renewed_at (c ∷ cs) (e ∷ ds) are zero d at = (c, refl, subst (λ (x : PlainCaseEvidence). IsRenewedCase taken by c x) (same_Some e d at) are.0)
  renewed_at (c ∷ cs) (e ∷ ds) are (suc k) d at = renewed_at cs ds are.1 k d at

  pub renewed_class : (cs ds : List PlainCaseEvidence) → AreRenewedCases taken by cs ds → (class : ℕ) (d : PlainCaseEvidence) → case_at ds class ≡ Some d
      → (c : PlainCaseEvidence) × (case_at cs class ≡ Some c) × IsRenewedCase taken by c d
  renewed_class cs ds are zero d at = absurd cc
  renewed_class cs ds are (suc k) d at = renewed_at cs ds are k d at

  pub renewed_forth : (cs ds : List PlainCaseEvidence) → AreRenewedCases taken by cs ds → (k : ℕ) (c : PlainCaseEvidence) → slice_get cs k ≡ Some c
      → (d : PlainCaseEvidence) × (slice_get ds k ≡ Some d) × IsRenewedCase taken by c d
  renewed_forth [] ds are k c at = absurd cc
  renewed_forth (e ∷ cs) [] are k c at = absurd are
  renewed_forth (e ∷ cs) (d ∷ ds) are zero c at = (d, refl, subst (λ (x : PlainCaseEvidence). IsRenewedCase taken by x d) (same_Some e c at) are.0)
  renewed_forth (e ∷ cs) (d ∷ ds) are (suc k) c at = renewed_forth cs ds are.1 k c at

  pub same_cases : (cs ds : List PlainCaseEvidence) → AreRenewedCases taken by cs ds → map (λ (d : PlainCaseEvidence). d.case) ds ≡ map (λ (c : PlainCaseEvidence). c.case) cs
  same_cases [] [] are = refl
  same_cases [] (d ∷ ds) are = absurd are
  same_cases (c ∷ cs) [] are = absurd are
  same_cases (c ∷ cs) (d ∷ ds) are =
      ap (λ (x : Case). x ∷ map (λ (d : PlainCaseEvidence). d.case) ds) are.0.case ∙ ap (λ (xs : List Case). c.case ∷ xs) (same_cases cs ds are.1)

  pub renewed-push : (cs ds : List PlainCaseEvidence) (c d : PlainCaseEvidence) → AreRenewedCases taken by cs ds → IsRenewedCase taken by c d → AreRenewedCases taken by (cs ++ c ∷ []) (ds ++ d ∷ [])
  renewed-push [] [] c d are is = (is, tt)
  renewed-push [] (e ∷ ds) c d are is = absurd are
  renewed-push (e ∷ cs) [] c d are is = absurd are
  renewed-push (e ∷ cs) (f ∷ ds) c d are is = (are.0, renewed-push cs ds c d are.1 is)

-- ---- why numbers aren't raised

-- of some numbers
pub number_fault : (by : ℕ) (numbers : List ℕ) (i n : ℕ) → slice_get numbers i ≡ Some n → (e : RenewalFault) → e ≡ PrefsRunOut by → 2 ^ 32 ≤ raised by n → IsTooGreat by numbers e
number_fault by numbers i n at e is past = subst (IsTooGreat by numbers) (sym is) (refl, n, (i, at), past)

-- and of cases
pub case_fault : (by : ℕ) (cs : List PlainCaseEvidence) (i : ℕ) (c : PlainCaseEvidence) → slice_get cs i ≡ Some c → (e : RenewalFault) → IsTooGreat by c.numbers e → IsFaultOf by cs e
case_fault by cs i c at NoMemory is = tt
case_fault by cs i c at (PrefsRunOut top) is = (is.0, record { case = c; is = (i, at); number = is.1; among = is.2; past = is.3 })

-- ---- a case with its new parts

module _ (by : ℕ) (c : PlainCaseEvidence) (case : Case) (graph : PlainGraph) (numbers : List ℕ) (tags : List Tag)
    (same_case : case ≡ c.case) (same_graph : graph ≡ c.graph) (raises : numbers ≡ map (raised by) c.numbers) where
  pub renewed_kept : IsCaseEvidence c → length tags ≡ length c.tags → IsCaseEvidence (record { case = case; graph = graph; numbers = numbers; tags = tags })
  renewed_kept kept long =
      let nodes = ap (λ (g : PlainGraph). g.nodes) same_graph in
      record {
        sized = ap length raises ∙ length-map c.numbers (raised by) ∙ kept.sized ∙ ap length (sym nodes);
        tagged = long ∙ kept.tagged ∙ ap length (sym nodes);
        stated = omega (arith, kept.stated, ap (λ (x : Case). x.statement) same_case);
        places = subst (AllByRecursion (λ (n : Node). n.loc < LOCATIONS)) (sym nodes) kept.places;
        ranks = subst (AllByRecursion (λ (n : Node). n.rank ≢ Some 0)) (sym nodes) kept.ranks;
      }

  pub renewed_parts : (taken : List Tag) → AllByRecursion (λ n. raised by n < 2 ^ 32) c.numbers → AreNewTags taken c.tags tags
      → IsRenewedCase taken by c (record { case = case; graph = graph; numbers = numbers; tags = tags })
  renewed_parts taken fit new = record { case = same_case; graph = same_graph; numbers = raises; fit = fit; tags = new }
