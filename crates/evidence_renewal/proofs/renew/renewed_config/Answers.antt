use Rattle.std.proofs.Common.{List, map, sym, subst}
use Rattle.std.proofs.lemmas.Result.{IfOk-weaker}
use Rattle.policy_base.specs.Policies.{policy_of}
use Rattle.evidence_base.specs.Made.{PlainCaseEvidence, AreTags, IsConfigOf}
use Rattle.config_maker.specs.Conditions.{AreClasses, AreSingle}
use Rattle.evidence_renewal.proofs.Making.{classes, differ, singles}
use Rattle.evidence_renewal.proofs.renew.renewed_config.Goals as goal

pub config_of-requires-clause-classes : goal.config_of-requires-clause-classes
config_of-requires-clause-classes c =
    subst (λ (es : List PlainCaseEvidence). AreClasses (policy_of c.args.policy.now) (map (λ (e : PlainCaseEvidence). e.case) es)) (sym c.as_slice.ensures)
    (classes c.args.net.now (policy_of c.args.policy.now) c.requires.renewed.0 c.args.evidence.now.cases c.requires.renewed.1 c.known_policy.ensures)

pub config_of-requires-clause-single : goal.config_of-requires-clause-single
config_of-requires-clause-single c =
    subst (AreSingle c.args.net.now) (sym c.as_slice.ensures)
    (singles c.args.net.now (policy_of c.args.policy.now) c.requires.renewed.0 c.args.evidence.now.cases c.requires.renewed.1 c.known_net.ensures c.requires.routers)

pub config_of-requires-clause-differ : goal.config_of-requires-clause-differ
config_of-requires-clause-differ c =
    subst (AreTags c.args.net.now) (sym c.as_slice.ensures) (differ c.args.net.now (policy_of c.args.policy.now) c.requires.renewed.0 c.args.evidence.now.cases c.requires.renewed.1)

pub returns : goal.returns
returns c =
    IfOk-weaker c.config_of.result _ _ (λ config is. subst (λ (es : List PlainCaseEvidence). IsConfigOf c.args.net.now (policy_of c.args.policy.now) es config) c.as_slice.ensures is)
    c.config_of.ensures
