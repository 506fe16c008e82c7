-- What holds of a situation holds of what it was made of, and the other way round.
use Rattle.std.proofs.Common.{◌≡◌, subst, sym}
use Rattle.net_base.specs.Network.{PlainNet}
use Rattle.policy_base.specs.Policies.{PlainPolicy, policy_of}
use Rattle.config_base.specs.Configs.{PlainConfig}
use Rattle.outcome_base.specs.Outcomes.{Outcome}
use Rattle.scenarios.specs.declared.scenario.Scenario.{Scenario}
use Rattle.scenarios.specs.declared.situation.Situation.{Situation}

pub of_situation : (P : PlainNet → PlainPolicy → PlainConfig → Scenario → Outcome → Type 0) (s : Situation) (net : PlainNet) (policy : PlainPolicy) (config : PlainConfig) (scenario : Scenario) (outcome : Outcome)
    → s.net.now ≡ net → policy_of s.policy.now ≡ policy → s.config.now ≡ config → s.scenario.now ≡ scenario → s.outcome.now.routes ≡ outcome
    → P s.net.now (policy_of s.policy.now) s.config.now s.scenario.now s.outcome.now.routes → P net policy config scenario outcome
of_situation P s net policy config scenario outcome n q k f o x =
    subst (λ (a : Outcome). P net policy config scenario a) o
    (subst (λ (a : Scenario). P net policy config a s.outcome.now.routes) f
    (subst (λ (a : PlainConfig). P net policy a s.scenario.now s.outcome.now.routes) k
    (subst (λ (a : PlainPolicy). P net a s.config.now s.scenario.now s.outcome.now.routes) q
    (subst (λ (a : PlainNet). P a (policy_of s.policy.now) s.config.now s.scenario.now s.outcome.now.routes) n x))))

pub from_situation : (P : PlainNet → PlainPolicy → PlainConfig → Scenario → Outcome → Type 0) (s : Situation) (net : PlainNet) (policy : PlainPolicy) (config : PlainConfig) (scenario : Scenario) (outcome : Outcome)
    → s.net.now ≡ net → policy_of s.policy.now ≡ policy → s.config.now ≡ config → s.scenario.now ≡ scenario → s.outcome.now.routes ≡ outcome
    → P net policy config scenario outcome → P s.net.now (policy_of s.policy.now) s.config.now s.scenario.now s.outcome.now.routes
from_situation P s net policy config scenario outcome n q k f o x =
    subst (λ (a : Outcome). P s.net.now (policy_of s.policy.now) s.config.now s.scenario.now a) (sym o)
    (subst (λ (a : Scenario). P s.net.now (policy_of s.policy.now) s.config.now a outcome) (sym f)
    (subst (λ (a : PlainConfig). P s.net.now (policy_of s.policy.now) a scenario outcome) (sym k)
    (subst (λ (a : PlainPolicy). P s.net.now a config scenario outcome) (sym q)
    (subst (λ (a : PlainNet). P a policy config scenario outcome) (sym n) x))))

pub in_situation : (P : PlainNet → PlainPolicy → PlainConfig → Type 0) (s : Situation) (net : PlainNet) (policy : PlainPolicy) (config : PlainConfig)
    → s.net.now ≡ net → policy_of s.policy.now ≡ policy → s.config.now ≡ config → P net policy config → P s.net.now (policy_of s.policy.now) s.config.now
in_situation P s net policy config n q k x =
    subst (λ (a : PlainConfig). P s.net.now (policy_of s.policy.now) a) (sym k)
    (subst (λ (a : PlainPolicy). P s.net.now a config) (sym q) (subst (λ (a : PlainNet). P a policy config) (sym n) x))
