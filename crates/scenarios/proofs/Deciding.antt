-- What is known of choices decides whether a router's choice is one of a stable outcome.
use Rattle.std.proofs.Common.{◌≡◌, ℕ, Bool, true, false, not, Option, Some, None, refl, sym, ap, ◌∙◌, subst, IsTrue}
use Rattle.std.specs.Prelude.{◌↔◌, option_map}
use Rattle.std.specs.List.{list_any}
use Rattle.std.specs.Option.{option_map_or}
use Rattle.net_base.specs.Sets.{holds}
use Rattle.policy_base.specs.Policies.{policy_of}
use Rattle.config_base.specs.declared.route.Route.{Route}
use Rattle.outcome_base.specs.Outcomes.{Chooses}
use Rattle.scenarios.specs.Scenarios.{failures_of}
use Rattle.scenarios.specs.Situations.{AreChoices, given_in, held_in}
use Rattle.scenarios.specs.Tests.{far_end, is_higher, is_route}
use Rattle.scenarios.specs.declared.choice.Choices.{Choices}
use Rattle.scenarios.specs.declared.situation.Situation.{Situation}
use Rattle.scenarios.proofs.Choosing.{chooses_none, chooses_some}

module _ (s : Situation) (c : Choices) (are : AreChoices s c) (r : ℕ) where
  abbrev Choice : Type 0
  Choice = Chooses s.net.now (policy_of s.policy.now) s.config.now (failures_of s.scenario.now) s.scenario.now.prefix s.outcome.now.routes r

  abbrev over : Option Route → Bool
  over o = list_any (λ link. option_map_or (λ z. is_higher (given_in s z r) (option_map (λ (h : Route). h.pref) o)) (far_end r link) false) s.net.now.links

  abbrev by : Option Route → Bool
  by o = list_any (λ link. option_map_or (λ z. option_map_or (is_route (given_in s z r)) o false) (far_end r link) false) s.net.now.links

  -- a router that holds nothing
  pub decided_without : (b : Bool) → held_in s r ≡ None → b ≡ holds c.outdone r → IsTrue (not b) ↔ Choice
  decided_without b held is =
      chooses_none s.net.now (policy_of s.policy.now) s.config.now (failures_of s.scenario.now) s.scenario.now.prefix s.outcome.now.routes r b held (is ∙ are.outdone r ∙ ap over held)

  -- a router that is given what it holds
  pub decided_with : (b : Bool) (h : Route) → held_in s r ≡ Some h → holds c.given r ≡ true → b ≡ holds c.outdone r → IsTrue (not b) ↔ Choice
  decided_with b h held on is =
      chooses_some s.net.now (policy_of s.policy.now) s.config.now (failures_of s.scenario.now) s.scenario.now.prefix s.outcome.now.routes r true b h held
      (sym on ∙ are.given r ∙ ap by held) (is ∙ are.outdone r ∙ ap over held)

  -- a router that nobody gives what it holds
  pub undecided : (b : Bool) (h : Route) → held_in s r ≡ Some h → holds c.given r ≡ false → b ≡ false → IsTrue b ↔ Choice
  undecided b h held off is =
      subst (λ (x : Bool). IsTrue x ↔ Choice) (sym is)
      (chooses_some s.net.now (policy_of s.policy.now) s.config.now (failures_of s.scenario.now) s.scenario.now.prefix s.outcome.now.routes r false (over (Some h)) h held
      (sym off ∙ are.given r ∙ ap by held) refl)
