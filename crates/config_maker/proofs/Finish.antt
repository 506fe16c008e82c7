-- The configuration that is made, by what its parts were made of.
use Rattle.std.proofs.Common.{◌≡◌, ◌≢◌, ◌<◌, ◌≤◌, ◌^◌, List, [], length, map, All, sym, ap, ◌∙◌, subst, arith}
use Rattle.std.specs.Prelude.{◌↔◌}
use Rattle.std.specs.List.{AllByRecursion}
use Rattle.std.specs.List.Sorted.{IsStrictlySortedBy}
use Rattle.std.proofs.lemmas.List.{length-map}
use Rattle.net_base.specs.Prefixes.{PlainPattern}
use Rattle.net_base.specs.Network.{PlainNet, IsNet}
use Rattle.policy_base.specs.declared.case.Case.{Case}
use Rattle.policy_base.specs.Policies.{PlainPolicy}
use Rattle.config_base.specs.declared.config.RouterConfig.{RouterConfig}
use Rattle.config_base.specs.Configs.{IsConfig}
use Rattle.evidence_base.specs.Made.{PlainCaseEvidence, patterns_of, IsConfigOf, AreTags}
use Rattle.list_law.specs.Members.{IsIn}
use Rattle.list_law.proofs.Each.{AllByRecursion-map}
use Rattle.list_law.proofs.Changed.{map-map}
use Rattle.config_maker.specs.declared.hop.Hop.{Hop}
use Rattle.config_maker.specs.declared.hop.Announced.{Announced}
use Rattle.config_maker.specs.Conditions.{AreClasses, AreGraphs, AreSingle}
use Rattle.config_maker.specs.Hops.{HasPref, hop_order, announced_order, hops_from, announced_from}
use Rattle.config_maker.specs.Writing.{routers_of}
use Rattle.config_maker.proofs.Whole.{config_kept, config_of_cases}

abbrev cases_of : List PlainCaseEvidence → List Case
cases_of es = map (λ (c : PlainCaseEvidence). c.case) es

-- there are few cases
pub few_cases : (policy : PlainPolicy) (es : List PlainCaseEvidence) → AreClasses policy (cases_of es) → length es < 2 ^ 32
few_cases policy es fit = subst (λ n. n < 2 ^ 32) (length-map es (λ (c : PlainCaseEvidence). c.case)) fit.count

module _ (net : PlainNet) (rules : IsNet net) (policy : PlainPolicy) (evidence : List PlainCaseEvidence) (fit : AreClasses policy (cases_of evidence))
    (graphs : AreGraphs evidence)
    (single : AreSingle net evidence) (tags : AreTags net evidence)
    (raw hops : List Hop) (gathered : raw ≡ hops_from 1 evidence) (fits : All HasPref raw) (same_h : (h : Hop) → IsIn hops h ↔ IsIn raw h)
    (hops_up : IsStrictlySortedBy hop_order hops) (bare all : List Announced) (heard : bare ≡ announced_from 1 evidence)
    (same_a : (a : Announced) → IsIn all a ↔ IsIn bare a) (all_up : IsStrictlySortedBy announced_order all) (classes : List (List PlainPattern)) (routers : List RouterConfig)
    (of_cases : classes ≡ map (λ (c : PlainCaseEvidence). patterns_of policy c.case) evidence) (of_hops : routers ≡ routers_of net hops all) where
  hops_are : (h : Hop) → IsIn hops h ↔ IsIn (hops_from 1 evidence) h
  hops_are = subst (λ hs. (h : Hop) → IsIn hops h ↔ IsIn hs h) gathered same_h

  all_are : (a : Announced) → IsIn all a ↔ IsIn (announced_from 1 evidence) a
  all_are = subst (λ as'. (a : Announced) → IsIn all a ↔ IsIn as' a) heard same_a

  short : length evidence ≤ length evidence
  short = omega arith

  pub made_kept : IsConfig (record { classes = classes; routers = routers })
  made_kept =
      let each = of_cases ∙ sym (map-map (patterns_of policy) (λ (c : PlainCaseEvidence). c.case) evidence) in
      let long : length classes ≡ length evidence = ap length of_cases ∙ length-map evidence (λ (c : PlainCaseEvidence). patterns_of policy c.case) in
      let patterns : AllByRecursion (λ (qs : List PlainPattern). qs ≢ []) classes =
      subst (AllByRecursion (λ (qs : List PlainPattern). qs ≢ [])) (sym each) (AllByRecursion-map (patterns_of policy) (λ (qs : List PlainPattern). qs ≢ []) (cases_of evidence) fit.patterns) in
      subst (λ rs. IsConfig (record { classes = classes; routers = rs })) (sym of_hops)
      (config_kept net rules evidence graphs single tags hops hops_are hops_up all all_are all_up (length evidence) short (subst (All HasPref) gathered fits)
      classes long (few_cases policy evidence fit) patterns)

  pub made_of_cases : IsConfigOf net policy evidence (record { classes = classes; routers = routers })
  made_of_cases =
      subst (λ rs. IsConfigOf net policy evidence (record { classes = classes; routers = rs })) (sym of_hops)
      (config_of_cases net rules evidence graphs single tags hops hops_are hops_up all all_are all_up policy classes of_cases)
