-- Mixtures of the lines of two configurations come to rest.
use Rattle.std.specs.Prelude.{◌≡◌, ℕ, ◌≤◌, Bool, false, IsTrue, List, Option}
use Rattle.net_base.specs.Network.{PlainNet, IsNet, is_peer, is_router}
use Rattle.net_base.specs.Prefixes.{PlainPrefix, IsPrefix}
use Rattle.policy_base.specs.Policies.{IsPolicyOf}
use Rattle.policy_base.specs.Governing.{is_origin}
use Rattle.config_base.specs.declared.route.Route.{Route}
use Rattle.config_base.specs.Configs.{PlainConfig}
use Rattle.evidence_base.specs.Made.{PlainCaseEvidence}
use Rattle.evidence_law.specs.Passes.{Passes}
use Rattle.event_base.specs.Steps.{IsQuiet, run}
use Rattle.event_base.specs.World.{World}
use Rattle.rest_law.specs.Rest.{rounds_enough}
use Rattle.rest_law.specs.Rounds.{AreRounds, IsFair, deliveries, stretch}
use Rattle.rollout_base.specs.Lines.{AreApart}
use Rattle.rollout_base.specs.Mixtures.{Change, Mixture, Part, after, begins, mixed}
use Rattle.rollout_base.specs.Stages.{IsOfRollout, IsRollout}
use Rattle.rollout_mixtures.specs.Between.{IsAbove, IsBetween}

-- Each part of a rollout is between the old and the new one, where their tags are apart.
abbrev pub RolloutsAreBetween : Type 0
RolloutsAreBetween =
    (net : PlainNet) (p : PlainPrefix) (old new : Part) (one two : PlainConfig) → IsRollout net p old new one two → AreApart net p old new
    → (r : ℕ) (part : Part) → IsOfRollout old new one two part → IsBetween net p old new r part

-- From this world on, where the routers run these parts and nobody loads any more, messages come to an end:
pub record ComesToAnEnd (net : PlainNet) (says : ℕ → Bool) (p : PlainPrefix) (m : Mixture) (w : World Route) : Type 0 where
  -- each router comes to hold this,
  pub outcome : ℕ → Option Route
  -- after so many rounds, whatever is delivered in which order, and no message waits then;
  pub rounds : (ds : List (ℕ × ℕ)) → AreRounds (mixed net says p m) (rounds_enough net) w ds
      → IsQuiet (run (mixed net says p m) (deliveries ds) w) × ((r : ℕ) → (run (mixed net says p m) (deliveries ds) w).route r ≡ outcome r)
  -- some deliveries lead there,
  pub reached : (ds : List (ℕ × ℕ)) × IsQuiet (run (mixed net says p m) (deliveries ds) w)
  -- and each endless schedule that forgets no direction of a link for ever does, and stays.
  pub fair : (schedule : ℕ → ℕ × ℕ) → IsFair (mixed net says p m) schedule → (n : ℕ) × ((k : ℕ) → n ≤ k
      → IsQuiet (run (mixed net says p m) (deliveries (stretch schedule 0 k)) w) × ((r : ℕ) → (run (mixed net says p m) (deliveries (stretch schedule 0 k)) w).route r ≡ outcome r))

-- So it is whatever was run and loaded before, and whatever of old and new the routers run now, where the evidence of both passes and new preferences are above
-- the old ones. The peers that are origins by either policy announce.
abbrev pub MixturesComeToRest : Type 0
MixturesComeToRest =
    (net : PlainNet) (says : ℕ → Bool) (p : PlainPrefix) (old new : Part) (cs ds : List PlainCaseEvidence) (m : Mixture) (es : List Change) → IsNet net
    → IsPolicyOf net old.policy → Passes net old.policy old.config cs → IsPolicyOf net new.policy → Passes net new.policy new.config ds → IsPrefix p → IsAbove net p old new
    → ((a : ℕ) → IsTrue (says a) → IsTrue (is_peer net a))
    → ((a : ℕ) → is_router net a ≡ false → IsTrue (is_origin net old.policy p a) → IsTrue (says a))
    → ((a : ℕ) → is_router net a ≡ false → IsTrue (is_origin net new.policy p a) → IsTrue (says a))
    → ((r : ℕ) → IsBetween net p old new r ((after net says p es (begins net says p m)).runs r))
    → ComesToAnEnd net says p (after net says p es (begins net says p m)).runs (after net says p es (begins net says p m)).world
