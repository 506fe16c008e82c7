use Rattle.std.proofs.Common.{take}
use Rattle.std.specs.Prelude.{IsTrue}
use Rattle.std.specs.List.{AllByRecursion}
use Rattle.net_base.specs.NameRule.{is_name}
use Rattle.net_base.specs.declared.net.Site.{Site}
use Rattle.policy_text.proofs.names.have_names.Given as goal

abbrev pub invariant-loop-site : goal.invariant-loop-site
invariant-loop-site l = AllByRecursion (λ (s : Site). IsTrue (is_name s.name)) (take l.site-index l.sites)
