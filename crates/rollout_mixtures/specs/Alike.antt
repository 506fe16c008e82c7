-- Mixtures of two configurations that do the same with a prefix. Their policies may differ in who originates it.
use Rattle.std.specs.Prelude.{◌≡◌, ℕ, Bool, false, ◌⊎◌, IsTrue, List, ◌∷◌, option_map}
use Rattle.net_base.specs.Network.{PlainNet, IsNet, is_peer, is_router}
use Rattle.net_base.specs.Prefixes.{PlainPrefix, IsPrefix}
use Rattle.policy_base.specs.Policies.{IsPolicyOf}
use Rattle.policy_base.specs.Governing.{is_origin}
use Rattle.config_base.specs.declared.route.Route.{Route}
use Rattle.config_base.specs.Configs.{PlainConfig, IsConfig}
use Rattle.evidence_base.specs.Made.{PlainCaseEvidence}
use Rattle.outcome_base.specs.Outcomes.{Failures, Outcome, offered, route_at}
use Rattle.outcome_base.specs.Right.{IsRightOutcome}
use Rattle.evidence_law.specs.Passes.{Passes}
use Rattle.settled_law.specs.Settled.{IsFullyStable}
use Rattle.event_base.specs.Steps.{IsQuiet}
use Rattle.event_base.specs.World.{World}
use Rattle.event_law.specs.Scenarios.{IsScenarioOf}
use Rattle.rollout_base.specs.Mixtures.{Change, Mixture, Part, after, begins}
use Rattle.rollout_base.specs.Stages.{IsOfRollout, IsRollout, SayAlike}
use Rattle.rollout_mixtures.specs.Laws.{ComesToAnEnd}

-- A router runs one of two policies, and does with the prefix what the first of two configurations does.
pub record RunsEither (net : PlainNet) (p : PlainPrefix) (old new part : Part) : Type 0 where
  pub policy : (part.policy ≡ old.policy) ⊎ (part.policy ≡ new.policy)
  pub says : SayAlike net p part.config old.config

-- Each part of a rollout is such, where the old and the new one do the same.
abbrev pub RolloutsRunEither : Type 0
RolloutsRunEither =
    (net : PlainNet) (p : PlainPrefix) (old new : Part) (one two : PlainConfig) → IsRollout net p old new one two → SayAlike net p old.config new.config
    → (part : Part) → IsOfRollout old new one two part → RunsEither net p old new part

-- Messages come to an end, whatever was run and loaded before, and whichever policy each router runs now, where the evidence of both passes. The peers that are
-- origins by either policy announce.
abbrev pub AlikesComeToRest : Type 0
AlikesComeToRest =
    (net : PlainNet) (says : ℕ → Bool) (p : PlainPrefix) (old new : Part) (cs ds : List PlainCaseEvidence) (m : Mixture) (es : List Change) → IsNet net
    → IsPolicyOf net old.policy → Passes net old.policy old.config cs → IsConfig old.config → IsPolicyOf net new.policy → Passes net new.policy new.config ds → IsPrefix p
    → SayAlike net p old.config new.config
    → ((a : ℕ) → IsTrue (says a) → IsTrue (is_peer net a))
    → ((a : ℕ) → is_router net a ≡ false → IsTrue (is_origin net old.policy p a) → IsTrue (says a))
    → ((a : ℕ) → is_router net a ≡ false → IsTrue (is_origin net new.policy p a) → IsTrue (says a))
    → ((r : ℕ) → RunsEither net p old new ((after net says p es (begins net says p m)).runs r))
    → ComesToAnEnd net says p (after net says p es (begins net says p m)).runs (after net says p es (begins net says p m)).world

-- An outcome of x is settled and right where f has failed, and peers have heard what they are offered in it.
pub record IsHeard (net : PlainNet) (p : PlainPrefix) (x : Part) (f : Failures) (w : World Route) (outcome : Outcome) : Type 0 where
  pub settled : IsFullyStable net x.policy x.config f p outcome
  pub right : IsRightOutcome net x.policy x.config f p outcome
  pub heard : (r peer : ℕ) → IsTrue (is_router net r) → IsTrue (is_peer net peer)
      → option_map (λ (m : Route). peer ∷ m.path) (w.heard r peer) ≡ offered net x.policy x.config f p outcome r peer

-- Each router holds what it holds where all run what it runs:
pub record HoldTheirs (net : PlainNet) (p : PlainPrefix) (old new : Part) (m : Mixture) (f : Failures) (w : World Route) : Type 0 where
  -- in the outcome of the old part, where it runs the old policy,
  pub before : Outcome
  pub is_before : IsHeard net p old f w before
  pub by_old : (r : ℕ) → IsTrue (is_router net r) → (m r).policy ≡ old.policy → w.route r ≡ route_at before r
  -- and in that of the new part, where it runs the new one.
  pub now : Outcome
  pub is_now : IsHeard net p new f w now
  pub by_new : (r : ℕ) → IsTrue (is_router net r) → (m r).policy ≡ new.policy → w.route r ≡ route_at now r
  -- These two are the same, but for the own routes of who is an origin by one policy alone.
  pub same : (r : ℕ) → IsTrue (is_router net r) → is_origin net old.policy p r ≡ is_origin net new.policy p r → route_at before r ≡ route_at now r

-- It is so where no message waits, under the same premises.
abbrev pub RestingAlikesHoldTheirs : Type 0
RestingAlikesHoldTheirs =
    (net : PlainNet) (says : ℕ → Bool) (p : PlainPrefix) (old new : Part) (cs ds : List PlainCaseEvidence) (m : Mixture) (es : List Change) (f : Failures) → IsNet net
    → IsPolicyOf net old.policy → Passes net old.policy old.config cs → IsConfig old.config → IsPolicyOf net new.policy → Passes net new.policy new.config ds → IsPrefix p
    → SayAlike net p old.config new.config
    → ((a : ℕ) → IsTrue (says a) → IsTrue (is_peer net a))
    → ((a : ℕ) → is_router net a ≡ false → IsTrue (is_origin net old.policy p a) → IsTrue (says a))
    → ((a : ℕ) → is_router net a ≡ false → IsTrue (is_origin net new.policy p a) → IsTrue (says a))
    → ((r : ℕ) → RunsEither net p old new ((after net says p es (begins net says p m)).runs r))
    → IsScenarioOf net (after net says p es (begins net says p m)).world f → IsQuiet (after net says p es (begins net says p m)).world
    → HoldTheirs net p old new (after net says p es (begins net says p m)).runs f (after net says p es (begins net says p m)).world
