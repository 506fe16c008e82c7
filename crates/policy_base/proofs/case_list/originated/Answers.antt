use Rattle.std.proofs.Common.{◌≡◌, sym, ap, ◌∙◌, map}
use Rattle.policy_base.specs.Policies.{policy_of}
use Rattle.policy_base.specs.Governing.{governing}
use Rattle.policy_base.specs.Cases.{with_governed}
use Rattle.policy_base.specs.CaseIndex.{kind_of}
use Rattle.policy_base.proofs.CaseLemmas.{originated_cases-next}
use Rattle.policy_base.proofs.case_list.originated.Goals as goal
use Rattle.policy_base.proofs.case_list.originated.Goals.{in-Some+in_ok-add_prefix, in_default}

pub loop-origin-preserved : goal.loop-origin-preserved
loop-origin-preserved c =
    let policy = policy_of c.args.policy.now in
    let origin = c.origin-item.result in
    let found : c.governing.result ≡ governing policy origin.prefix = c.governing.ensures policy c.in_ok-governors.ensures in
    let next = originated_cases-next policy c.origins-origin-items.result.now c.loop-origin.origin-index origin c.governing.result c.loop-origin.cases.items c.match-governing.cases.items
    c.loop-origin-test.true c.origin-item.is found in
    elim c.match-governing.branch [
      | in-Some+in_ok-add_prefix w ↦ record {
        kinds = ap (λ s. s.keys) w.kinds-is ∙ w.in_ok-add_prefix.ensures.kinds ∙ ap (λ v. map kind_of v.items) (sym w.cases-is);
        rest = c.loop-origin.invariant.rest
            ∙ next (ap (λ g. with_governed g origin c.loop-origin.cases.items) w.in-Some.is ∙ sym w.in_ok-add_prefix.ensures.joined ∙ ap (λ v. v.items) (sym w.cases-is));
      }
      | in_default w ↦ record {
        kinds = ap (λ s. s.keys) w.kinds-is ∙ c.loop-origin.invariant.kinds ∙ ap (λ v. map kind_of v.items) (sym w.cases-is);
        rest = c.loop-origin.invariant.rest ∙ next (ap (λ g. with_governed g origin c.loop-origin.cases.items) w.in_default.is ∙ ap (λ v. v.items) (sym w.cases-is));
      }
    ]
