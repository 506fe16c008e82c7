-- The laws of outcomes where peers announce what they like.
use Rattle.std.specs.Prelude.{◌≡◌, ℕ, ◌||◌, not, IsTrue, List, Some}
use Rattle.list_law.specs.Members.{IsIn}
use Rattle.net_base.specs.Network.{PlainNet, IsNet, is_peer, is_router, linked}
use Rattle.net_base.specs.Prefixes.{PlainPrefix, IsPrefix}
use Rattle.policy_base.specs.Policies.{PlainPolicy, IsPolicyOf}
use Rattle.policy_base.specs.Governing.{is_origin}
use Rattle.config_base.specs.declared.config.Session.{Session}
use Rattle.config_base.specs.declared.config.Import.{Import}
use Rattle.config_base.specs.declared.config.Export.{Export}
use Rattle.config_base.specs.Configs.{PlainConfig}
use Rattle.config_base.specs.Lines.{class_of, block_at}
use Rattle.evidence_base.specs.Made.{PlainCaseEvidence}
use Rattle.outcome_base.specs.Outcomes.{Failures, is_silent}
use Rattle.outcome_base.specs.Announcements.{Announcements, is_unusable, silenced}
use Rattle.outcome_base.specs.Withstanding.{WithstandsPeers}
use Rattle.evidence_law.specs.Passes.{IsMadeOf, Passes}

-- Where the evidence passes the configuration is right whatever the peers announce.
abbrev pub PassingEvidenceWithstandsPeers : Type 0
PassingEvidenceWithstandsPeers =
    (net : PlainNet) (policy : PlainPolicy) (config : PlainConfig) (cs : List PlainCaseEvidence) → IsNet net → IsPolicyOf net policy
    → Passes net policy config cs → WithstandsPeers net policy config

-- The sessions that count as silent: those that are, and those over which a peer announces nothing, or a number of a router.
abbrev pub SilencedSessions : Type 0
SilencedSessions = (net : PlainNet) (f : Failures) (says : Announcements) → IsNet net → (r peer : ℕ) → IsTrue (is_peer net peer) → IsTrue (linked net peer r)
    → is_silent (silenced net says f) r peer ≡ (is_silent f r peer || is_unusable net (says peer r))

-- In a peer's block no import line has the class of a prefix of which the peer is no origin.
abbrev pub OriginsAloneAreTaken : Type 0
OriginsAloneAreTaken = (net : PlainNet) (policy : PlainPolicy) (config : PlainConfig) (cs : List PlainCaseEvidence) → IsNet net → IsPolicyOf net policy → IsMadeOf net policy config cs
    → (p : PlainPrefix) (class : ℕ) → IsPrefix p → class_of config p ≡ Some class → (peer r : ℕ) → IsTrue (is_peer net peer) → IsTrue (is_router net r) → IsTrue (not (is_origin net policy p peer))
    → (b : Session) (rule : Import) → block_at net config r peer ≡ Some b → IsIn b.imports rule → rule.class ≡ class → ⊥

-- In a peer's block no export line has the class of a prefix of which the peer is an origin.
abbrev pub OriginsAreToldNothing : Type 0
OriginsAreToldNothing = (net : PlainNet) (policy : PlainPolicy) (config : PlainConfig) (cs : List PlainCaseEvidence) → IsNet net → IsPolicyOf net policy → IsMadeOf net policy config cs
    → (p : PlainPrefix) (class : ℕ) → IsPrefix p → class_of config p ≡ Some class → (peer r : ℕ) → IsTrue (is_router net r) → IsTrue (is_origin net policy p peer)
    → (b : Session) (e : Export) → block_at net config r peer ≡ Some b → IsIn b.exports e → e.class ≡ class → ⊥
