-- The two layers of a network between old and new: what it holds is what each side's own network would, where some routers are dead.
use Rattle.std.specs.Prelude.{◌≡◌, ℕ, Bool, false, not, ◌&&◌, ◌||◌, IsTrue, List, Option, is_some}
use Rattle.std.specs.Option.{option_or}
use Rattle.net_base.specs.Network.{PlainNet, IsNet, is_peer, is_router, linked}
use Rattle.net_base.specs.Prefixes.{PlainPrefix, IsPrefix}
use Rattle.policy_base.specs.Policies.{IsPolicyOf}
use Rattle.policy_base.specs.Governing.{is_origin}
use Rattle.config_base.specs.declared.route.Route.{Route}
use Rattle.evidence_base.specs.Made.{PlainCaseEvidence}
use Rattle.outcome_base.specs.Outcomes.{Failures, Outcome, is_dead, is_dead_link, is_silent, route_at}
use Rattle.outcome_base.specs.Right.{IsRightOutcome}
use Rattle.evidence_law.specs.Passes.{Passes}
use Rattle.settled_law.specs.Settled.{IsFullyStable}
use Rattle.event_base.specs.Steps.{IsQuiet}
use Rattle.event_law.specs.Scenarios.{IsScenarioOf}
use Rattle.rollout_base.specs.Mixtures.{Change, Mixture, Part, after, begins}
use Rattle.rollout_mixtures.specs.Between.{IsAbove, IsBetween}

-- The failures are those of f, and besides some routers are dead, and some hear no peers.
pub record FailBesides (net : PlainNet) (f : Failures) (dead deaf : ℕ → Bool) (all : Failures) : Type 0 where
  pub routers : (l : ℕ) → is_dead all l ≡ (is_dead f l || dead l)
  pub links : (a b : ℕ) → IsTrue (linked net a b) → is_dead_link all a b ≡ is_dead_link f a b
  pub sessions : (r q : ℕ) → IsTrue (linked net q r) → is_silent all r q ≡ (is_silent f r q || deaf r)

module _ (net : PlainNet) (p : PlainPrefix) (old new : Part) (m : Mixture) (between : (r : ℕ) → IsBetween net p old new r (m r)) where
  -- who has the new starts, and who hasn't
  abbrev pub has_flipped : ℕ → Bool
  has_flipped r = (between r).flipped

  abbrev pub has_not_flipped : ℕ → Bool
  has_not_flipped r = not (has_flipped r)

  -- an origin by either policy
  abbrev pub originates : ℕ → Bool
  originates r = is_origin net old.policy p r || is_origin net new.policy p r

  -- who is dead for the new side: who lacks its lines, and who is an origin and hasn't flipped
  abbrev pub dead_for_new : ℕ → Bool
  dead_for_new r = is_router net r && (not (between r).has_new || (has_not_flipped r && originates r))

  -- Who is dead for the old side, where these are the routes of the new one: who lacks its lines, who is an origin and has flipped, and who holds a new route.
  abbrev pub dead_for_old : Outcome → ℕ → Bool
  dead_for_old later r = is_router net r && (not (between r).has_old || ((has_flipped r && originates r) || is_some (route_at later r)))

  -- The routes are of two layers:
  pub record AreLayers (f : Failures) (routes : ℕ → Option Route) : Type 0 where
    -- the settled outcome of the new side where besides who is dead for it no router hears peers that hasn't flipped,
    pub later : Outcome
    pub new_failures : Failures
    pub new_fails : FailBesides net f dead_for_new has_not_flipped new_failures
    pub new_settled : IsFullyStable net new.policy new.config new_failures p later
    pub new_right : IsRightOutcome net new.policy new.config new_failures p later
    -- and, of the other routers, the settled outcome of the old side where none hears peers that has flipped.
    pub earlier : Outcome
    pub old_failures : Failures
    pub old_fails : FailBesides net f (dead_for_old later) has_flipped old_failures
    pub old_settled : IsFullyStable net old.policy old.config old_failures p earlier
    pub old_right : IsRightOutcome net old.policy old.config old_failures p earlier
    pub held : (r : ℕ) → IsTrue (is_router net r) → routes r ≡ option_or (route_at later r) (route_at earlier r)

-- Where no message waits, whatever was run and loaded before, and whatever of old and new the routers run now, the routes are of two layers; each is right for its
-- own policy. It takes that the evidence of both passes, and that new preferences are above the old ones.
abbrev pub RestingMixturesAreLayered : Type 0
RestingMixturesAreLayered =
    (net : PlainNet) (says : ℕ → Bool) (p : PlainPrefix) (old new : Part) (cs ds : List PlainCaseEvidence) (m : Mixture) (es : List Change) (f : Failures) → IsNet net
    → IsPolicyOf net old.policy → Passes net old.policy old.config cs → IsPolicyOf net new.policy → Passes net new.policy new.config ds → IsPrefix p → IsAbove net p old new
    → ((a : ℕ) → IsTrue (says a) → IsTrue (is_peer net a))
    → ((a : ℕ) → is_router net a ≡ false → IsTrue (is_origin net old.policy p a) → IsTrue (says a))
    → ((a : ℕ) → is_router net a ≡ false → IsTrue (is_origin net new.policy p a) → IsTrue (says a))
    → (between : (r : ℕ) → IsBetween net p old new r ((after net says p es (begins net says p m)).runs r))
    → IsScenarioOf net (after net says p es (begins net says p m)).world f → IsQuiet (after net says p es (begins net says p m)).world
    → AreLayers net p old new (after net says p es (begins net says p m)).runs between f (after net says p es (begins net says p m)).world.route
