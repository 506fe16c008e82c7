-- Where routers come to rest that read the routes of one part as it does.
use Rattle.std.specs.Prelude.{ℕ, ◌≤◌, Bool, List}
use Rattle.net_base.specs.Network.{PlainNet, IsNet}
use Rattle.net_base.specs.Prefixes.{PlainPrefix, IsPrefix}
use Rattle.policy_base.specs.Policies.{IsPolicyOf}
use Rattle.policy_base.specs.Governing.{is_origin}
use Rattle.config_base.specs.declared.route.Route.{Route}
use Rattle.evidence_base.specs.Made.{PlainCaseEvidence}
use Rattle.outcome_base.specs.Outcomes.{Failures}
use Rattle.evidence_law.specs.Passes.{Passes}
use Rattle.event_base.specs.Steps.{IsQuiet, run}
use Rattle.event_base.specs.World.{World}
use Rattle.event_law.specs.Kept.{IsKept}
use Rattle.event_law.specs.Scenarios.{IsScenarioOf, routes_of}
use Rattle.rest_law.specs.Rest.{IsAtRest, rounds_enough}
use Rattle.rest_law.specs.Rounds.{AreRounds, IsFair, deliveries, stretch}
use Rattle.rollout_base.specs.Lines.{ReadsAs}
use Rattle.rollout_base.specs.Mixtures.{Change, Mixture, Part, Running, after, begins, mixed}
use Rattle.rollout_law.specs.Laws.{HasTagsOf}
use Rattle.settled_law.specs.Settled.{IsFullyStable}

-- each router runs a part that reads the routes of x as x does
abbrev pub AllRead : PlainNet → PlainPrefix → Part → Mixture → Type 0
AllRead net p x m = (r : ℕ) → ReadsAs net p x r (m r)

-- how a network stands after events and loads, where the peers announce that are origins by the policy of x
abbrev pub stands_after : PlainNet → PlainPrefix → Part → Mixture → List Change → Running
stands_after net p x m cs = after net (is_origin net x.policy p) p cs (begins net (is_origin net x.policy p) p m)

-- Where all read as x and no message waits, each route has a tag that x gives, whatever was run before.
abbrev pub RestingReadersHoldItsTags : Type 0
RestingReadersHoldItsTags =
    (net : PlainNet) (says : ℕ → Bool) (p : PlainPrefix) (x : Part) (m : Mixture) (w : World Route) → IsNet net → AllRead net p x m
    → IsKept (mixed net says p m) w → IsQuiet w → HasTagsOf net p x w

-- The routes are then a settled outcome of x under what has failed,
abbrev pub RestingReadersAreSettled : Type 0
RestingReadersAreSettled =
    (net : PlainNet) (p : PlainPrefix) (x : Part) (m : Mixture) (es : List Change) (f : Failures) → IsNet net → AllRead net p x (stands_after net p x m es).runs
    → IsScenarioOf net (stands_after net p x m es).world f → IsQuiet (stands_after net p x m es).world
    → IsFullyStable net x.policy x.config f p (routes_of net (stands_after net p x m es).world)

-- and where its evidence passes the network is at rest as that of x is: there is no other outcome, and peers have heard what they are offered in it.
abbrev pub RestingReadersAreAtRest : Type 0
RestingReadersAreAtRest =
    (net : PlainNet) (p : PlainPrefix) (x : Part) (cs : List PlainCaseEvidence) (m : Mixture) (es : List Change) (f : Failures) → IsNet net → IsPolicyOf net x.policy
    → Passes net x.policy x.config cs → IsPrefix p → AllRead net p x (stands_after net p x m es).runs → IsScenarioOf net (stands_after net p x m es).world f
    → IsQuiet (stands_after net p x m es).world → IsAtRest net x.policy x.config p f (stands_after net p x m es).world

-- From this world on, where the routers run these parts and nobody loads any more, the network comes to rest as that of x does, where f is what has failed:
pub record RestsAs (net : PlainNet) (p : PlainPrefix) (x : Part) (m : Mixture) (f : Failures) (w : World Route) : Type 0 where
  -- after so many rounds, and after all further deliveries, it is at rest;
  pub rounds : (ds : List (ℕ × ℕ)) → AreRounds (mixed net (is_origin net x.policy p) p m) (rounds_enough net) w ds
      → IsAtRest net x.policy x.config p f (run (mixed net (is_origin net x.policy p) p m) (deliveries ds) w)
  -- some deliveries lead to rest;
  pub reached : (ds : List (ℕ × ℕ)) × IsAtRest net x.policy x.config p f (run (mixed net (is_origin net x.policy p) p m) (deliveries ds) w)
  -- and each endless schedule that forgets no direction of a link for ever leads there, and stays.
  pub fair : (schedule : ℕ → ℕ × ℕ) → IsFair (mixed net (is_origin net x.policy p) p m) schedule
      → (n : ℕ) × ((k : ℕ) → n ≤ k → IsAtRest net x.policy x.config p f (run (mixed net (is_origin net x.policy p) p m) (deliveries (stretch schedule 0 k)) w))

-- So it is from the moment on when all read as x, whatever was run and loaded before.
abbrev pub ReadersComeToRest : Type 0
ReadersComeToRest =
    (net : PlainNet) (p : PlainPrefix) (x : Part) (cs : List PlainCaseEvidence) (m : Mixture) (es : List Change) (f : Failures) → IsNet net → IsPolicyOf net x.policy
    → Passes net x.policy x.config cs → IsPrefix p → AllRead net p x (stands_after net p x m es).runs → IsScenarioOf net (stands_after net p x m es).world f
    → RestsAs net p x (stands_after net p x m es).runs f (stands_after net p x m es).world
