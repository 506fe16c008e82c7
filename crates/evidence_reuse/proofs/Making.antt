-- A configuration can be made of reused cases.
use Rattle.std.proofs.Common.{◌≡◌, List, map, sym, ◌∙◌, subst}
use Rattle.net_base.specs.Network.{IsNet, PlainNet}
use Rattle.policy_base.specs.CaseNumbers.{OriginsAreRouters}
use Rattle.policy_base.specs.Policies.{IsPolicy, PlainPolicy}
use Rattle.config_base.specs.Configs.{PlainConfig}
use Rattle.stage_classes.specs.declared.cell.Cell.{Cell}
use Rattle.config_maker.specs.Conditions.{AreClasses, AreSingle, IsSingle}
use Rattle.config_maker.proofs.CaseClasses.{case_lists}
use Rattle.evidence_base.specs.Made.{PlainCaseEvidence}
use Rattle.free_tags.specs.Taken.{greatest, prefs_in}
use Rattle.compile_core.specs.Compiling.{IsEvidenceOfMade}
use Rattle.compile_core.proofs.Configured as compiled_configs
use Rattle.evidence_renewal.specs.declared.fault.RenewalFault.{RenewalFault}
use Rattle.evidence_renewal.specs.declared.fault.RenewalFault.TheVariants as renewal
use Rattle.evidence_renewal.specs.Renewed.{AreRenewed, IsFaultOf}
use Rattle.evidence_renewal.proofs.Cases.{same_cases}
use Rattle.evidence_reuse.specs.declared.fault.ReuseFault.{ReuseFault}
use Rattle.evidence_reuse.specs.declared.fault.ReuseFault.TheVariants.{NoMemory, OtherEvidence, PrefsRunOut}
use Rattle.evidence_reuse.specs.Reused.{AreReused, IsFault, IsReusedEvidence, IsStop, classes_of, of_renewal, pairs_with}
use Rattle.evidence_reuse.proofs.Cases.{alike_at, same_classes, same_list}

module _ (net : PlainNet) (policy : PlainPolicy) (old : PlainConfig) (olds ds : List PlainCaseEvidence) (is : IsReusedEvidence net policy old olds ds) where
  same : map (λ (d : PlainCaseEvidence). d.case) ds ≡ map (λ (c : PlainCaseEvidence). c.case) is.compiled
  same = same_list _ _ is.compiled _ _ is.renewed ds is.are_renewed is.reused

  pub classes : IsPolicy policy → AreClasses policy (map (λ (e : PlainCaseEvidence). e.case) ds)
  classes kept = subst (AreClasses policy) (sym (same ∙ is.made.2.made.cases)) (case_lists net policy kept)

  pub singles : IsNet net → OriginsAreRouters net policy.origins → AreSingle net ds
  singles rules routers k d at =
      let o = alike_at _ _ is.compiled _ _ is.renewed ds is.are_renewed is.reused k d at in
      subst (IsSingle net) (sym o.2.graph) (compiled_configs.singles net policy is.compiled is.made rules routers k o.0 o.1)

-- ---- of what is compiled

module _ (net : PlainNet) (policy : PlainPolicy) (old : PlainConfig) (olds compiled : List PlainCaseEvidence) where
  module _ (made : IsEvidenceOfMade net policy compiled) (renewed : List PlainCaseEvidence) (are : AreRenewed old compiled renewed) where
    -- with the pairs of classes of the configuration that is made of what is renewed
    abbrev pub reused_by : (between : List Cell) (cases cs fs ds : List PlainCaseEvidence) → between ≡ pairs_with old policy renewed → cases ≡ olds → cs ≡ compiled → fs ≡ renewed
        → AreReused between cases cs fs ds → IsReusedEvidence net policy old olds ds
    reused_by between cases cs fs ds between_is cases_are cs_are fs_are reused =
        let A : List Cell → Type 0 = λ xs. AreReused xs cases cs fs ds in
        let B : List PlainCaseEvidence → Type 0 = λ xs. AreReused (pairs_with old policy renewed) xs cs fs ds in
        let C : List PlainCaseEvidence → Type 0 = λ xs. AreReused (pairs_with old policy renewed) olds xs fs ds in
        let D : List PlainCaseEvidence → Type 0 = λ xs. AreReused (pairs_with old policy renewed) olds compiled xs ds in
        record {
          compiled = compiled;
          made = made;
          renewed = renewed;
          are_renewed = are;
          reused = subst D fs_are (subst C cs_are (subst B cases_are (subst A between_is reused)));
        }

  -- the classes are those of what is renewed
  pub classes_alike : (ds : List PlainCaseEvidence) (is : IsReusedEvidence net policy old olds ds) → classes_of policy is.renewed ≡ classes_of policy ds
  classes_alike ds is =
      let cases = same net policy old olds ds is in
      same_classes policy is.compiled is.renewed (same_cases _ _ is.compiled is.renewed is.are_renewed) ∙ sym (same_classes policy is.compiled ds cases)

  -- ---- faults

  pub renewal_fault : (f : RenewalFault) → IsFaultOf (greatest (prefs_in old)) compiled f → IsFault net policy old olds compiled (of_renewal f)
  renewal_fault renewal.NoMemory h = tt
  renewal_fault (renewal.PrefsRunOut top) h = h

  pub stop_fault : (ds : List PlainCaseEvidence) → IsReusedEvidence net policy old olds ds → (e : ReuseFault) → IsStop net policy old ds e → IsFault net policy old olds compiled e
  stop_fault ds is NoMemory h = tt
  stop_fault ds is OtherEvidence h = record { cases = ds; evidence = is; never = h }
  stop_fault ds is (PrefsRunOut top) h = absurd h
