-- A configuration can be made of cases.
use Rattle.std.proofs.Common.{List, map, refl}
use Rattle.policy_base.specs.Policies.{PlainPolicy}
use Rattle.net_base.specs.Network.{PlainNet, IsNet}
use Rattle.config_base.specs.Configs.{PlainConfig}
use Rattle.evidence_base.specs.Made.{PlainCaseEvidence, patterns_of, IsConfigOf, AreTags}
use Rattle.config_maker.specs.Conditions.{AreGraphs, AreSingle}
use Rattle.config_maker.specs.Hops.{hops_from, announced_from}
use Rattle.config_maker.specs.Writing.{routers_of}
use Rattle.list_law.proofs.Ordered.{ordered}
use Rattle.config_maker.proofs.Settling.{announced_exact, announced_total, hop_exact, hop_total}
use Rattle.config_maker.proofs.Whole.{config_of_cases}

pub configuration : (net : PlainNet) (policy : PlainPolicy) (cs : List PlainCaseEvidence) → IsNet net → AreGraphs cs → AreSingle net cs
    → AreTags net cs → (config : PlainConfig) × IsConfigOf net policy cs config
configuration net policy cs rules graphs single tags =
    let hops = ordered hop_total hop_exact (hops_from 1 cs) in
    let all = ordered announced_total announced_exact (announced_from 1 cs) in
    let classes = map (λ (c : PlainCaseEvidence). patterns_of policy c.case) cs in (
      record { classes = classes; routers = routers_of net hops.0 all.0 },
      config_of_cases net rules cs graphs single tags hops.0 hops.1.same hops.1.order all.0 all.1.same all.1.order policy classes refl,
    )
