use Rattle.std.proofs.Common.{List, ℕ, Result, Ok, Err, subst, sym}
use Rattle.std.specs.Prelude.{IfOk}
use Rattle.net_base.specs.Network.{PlainNet}
use Rattle.policy_base.specs.Policies.{PlainPolicy, policy_of}
use Rattle.config_base.specs.Configs.{PlainConfig}
use Rattle.config_text.specs.Spelled.{Spells}
use Rattle.evidence_base.specs.Made.{PlainCaseEvidence}
use Rattle.evidence_verdicts.specs.declared.verdict.Verdict.{Verdict}
use Rattle.evidence_verdicts.specs.Verdicts.{IsVerdict}
use Rattle.evidence_check.proofs.verdict.check.Goals as goal

-- the verdict on a text is that on the configuration that it spells
of_spelled : {F : Type 0} (net : PlainNet) (policy : PlainPolicy) (config : PlainConfig) (bytes : List ℕ) (cs : List PlainCaseEvidence) (r : Result Verdict F)
    → Spells bytes config → IfOk r (λ v. (d : PlainConfig) → Spells bytes d → IsVerdict net policy d cs v) → IfOk r (IsVerdict net policy config cs)
of_spelled net policy config bytes cs (Ok v) there judged = judged config there
of_spelled net policy config bytes cs (Err e) there judged = tt

pub returns : goal.returns
returns c =
    let net = c.args.net.now in
    let policy = policy_of c.args.policy.now in
    let config = c.args.config.now in
    let there : Spells c.deref.result.now config = subst (λ (bytes : List ℕ). Spells bytes config) (sym c.deref.ensures.value) c.in_ok-text.ensures.spells in
    of_spelled net policy config c.deref.result.now c.args.evidence.now.cases c.check_text.result there
    (subst (λ (cs : List PlainCaseEvidence). IfOk c.check_text.result
    (λ (v : Verdict). (d : PlainConfig) → Spells c.deref.result.now d → IsVerdict net policy d cs v)) c.as_slice.ensures
    c.check_text.ensures.verdict)
