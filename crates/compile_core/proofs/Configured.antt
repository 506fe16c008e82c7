-- The configuration that is made of the evidence of a policy.
use Rattle.std.proofs.Common.{List, map, sym, ap, subst, ◌∙◌}
use Rattle.std.specs.Prelude.{slice_get}
use Rattle.net_base.specs.Network.{PlainNet, IsNet}
use Rattle.policy_base.specs.CaseNumbers.{OriginsAreRouters}
use Rattle.policy_base.specs.Policies.{IsPolicy, PlainPolicy}
use Rattle.config_base.specs.Configs.{PlainConfig}
use Rattle.evidence_base.specs.Made.{PlainCaseEvidence, AreTags, IsConfigOf}
use Rattle.config_maker.specs.Conditions.{AreClasses, AreSingle}
use Rattle.config_maker.proofs.CaseClasses.{case_lists}
use Rattle.evidence_law.specs.Passes.{Passes}
use Rattle.compile_core.specs.Compiling.{IsEvidenceOfMade, IsMade}
use Rattle.compile_core.proofs.Known.{known_at, single}

module _ (net : PlainNet) (policy : PlainPolicy) (cs : List PlainCaseEvidence) (is : IsEvidenceOfMade net policy cs) where
  abbrev one : IsMade net policy is.0 cs
  one = is.1

  abbrev passing : Passes net policy is.0 cs
  passing = is.2

  pub classes : IsPolicy policy → AreClasses policy (map (λ (e : PlainCaseEvidence). e.case) cs)
  classes kept = subst (AreClasses policy) (sym passing.made.cases) (case_lists net policy kept)

  pub singles : IsNet net → OriginsAreRouters net policy.origins → AreSingle net cs
  singles rules routers k e at =
      single net policy e (known_at net rules policy routers one.accepted one.all one.each k e (ap (λ (es : List PlainCaseEvidence). slice_get es k) (sym one.evidence) ∙ at))

  pub differ : AreTags net cs
  differ = passing.made.tags

  -- whichever configuration is made of it
  pub made : (config : PlainConfig) → IsConfigOf net policy cs config → IsMade net policy config cs
  made config lines = record { accepted = one.accepted; all = one.all; each = one.each; evidence = one.evidence; lines = lines }

  pub passes : (config : PlainConfig) → IsConfigOf net policy cs config → Passes net policy config cs
  passes config lines = record {
    limits = passing.limits;
    made = record { cases = passing.made.cases; graphs = passing.made.graphs; tags = passing.made.tags; lines = lines };
    rules = passing.rules;
  }
