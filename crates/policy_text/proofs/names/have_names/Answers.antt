use Rattle.std.proofs.Common.{subst, sym, take, take_all}
use Rattle.std.specs.Prelude.{IsTrue}
use Rattle.std.specs.List.{AllByRecursion}
use Rattle.net_base.specs.NameRule.{is_name}
use Rattle.net_base.specs.declared.net.Site.{Site}
use Rattle.list_law.proofs.Each.{AllByRecursion-push}
use Rattle.policy_text.proofs.Adding.{one_more}
use Rattle.policy_text.proofs.names.have_names.Goals as goal

pub loop-site-preserved : goal.loop-site-preserved
loop-site-preserved c =
    let sites = c.args.sites.now in
    let i = c.loop-site.site-index in
    let site = c.site-item.result in
    let named : Site → Type 0 = λ s. IsTrue (is_name s.name) in
    subst (AllByRecursion named) (sym (one_more sites i site c.loop-site-test.true c.site-item.is))
    (AllByRecursion-push named (take i sites) site c.loop-site.invariant c.as_bytes.ensures.name)

pub returns : goal.returns
returns c = subst (AllByRecursion (λ (s : Site). IsTrue (is_name s.name))) (take_all c.loop-site.site-index c.args.sites.now c.loop-site-test.false) c.loop-site.invariant
