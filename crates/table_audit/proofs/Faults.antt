-- How a router fails.
use Rattle.std.proofs.Common.{◌≡◌, ℕ, ◌<◌, ◌≤◌, Bool, true, false, Option, Some, None, refl, sym, ap, ◌∙◌, arith}
use Rattle.std.specs.Prelude.{not}
use Rattle.std.specs.List.{list_any}
use Rattle.std.specs.Option.{option_map_or}
use Rattle.std.proofs.lemmas.Bool.{and_parts, not-true, true≢false}
use Rattle.net_base.specs.Sets.{holds}
use Rattle.policy_base.specs.Policies.{policy_of}
use Rattle.policy_base.specs.Governing.{is_origin}
use Rattle.config_base.specs.declared.route.Route.{Route}
use Rattle.outcome_base.specs.Outcomes.{is_dead, Chooses}
use Rattle.scenarios.specs.Scenarios.{failures_of}
use Rattle.scenarios.specs.Situations.{AreChoices, IsSettledIn, given_in, held_in}
use Rattle.scenarios.specs.Tests.{far_end, is_route}
use Rattle.scenarios.specs.declared.choice.Choices.{Choices}
use Rattle.scenarios.specs.declared.situation.Situation.{Situation}
use Rattle.scenarios.proofs.Choosing.{giver, has_giver}
use Rattle.table_audit.specs.declared.verdict.AuditVerdict.TheVariants.{NotGiven, Better, Missing}
use Rattle.table_audit.specs.Situated.{IsFaultIn, IsTopGiverIn, is_choosing_in}

module _ (s : Situation) (r : ℕ) where
  abbrev dead : Bool
  dead = is_dead (failures_of s.scenario.now) r

  abbrev origin : Bool
  origin = is_origin s.net.now (policy_of s.policy.now) s.scenario.now.prefix r

  abbrev Gives : ℕ → Option Route
  Gives z = given_in s z r

  abbrev TopIs : ℕ × ℕ → Type 0
  TopIs t = (g : Route) × IsTopGiverIn s r t.0 g × (g.pref ≡ t.1)

  -- some neighbour gives what may be held
  abbrev gives_held : Option Route → Bool
  gives_held o = list_any (λ link. option_map_or (λ z. option_map_or (is_route (given_in s z r)) o false) (far_end r link) false) s.net.now.links

  -- some neighbour gives a route
  abbrev has_gift : Route → Bool
  has_gift h = list_any (λ link. option_map_or (λ z. is_route (given_in s z r) h) (far_end r link) false) s.net.now.links

  by_choice : is_choosing_in s r ≡ true
      → Chooses s.net.now (policy_of s.policy.now) s.config.now (failures_of s.scenario.now) s.scenario.now.prefix s.outcome.now.routes r → IsSettledIn s r
  by_choice choosing x =
      let parts = and_parts (not origin) (not dead) choosing in
      record {
        dead = λ d. absurd (true≢false (sym d ∙ not-true _ parts.1));
        own = λ own. absurd (true≢false (sym (and_parts origin (not dead) own).0 ∙ not-true _ parts.0));
        chooses = λ c. x;
      }

  -- ---- a router that isn't settled

  -- ---- its choice

  module _ (choosing : is_choosing_in s r ≡ true) where
    pub nothing : held_in s r ≡ None → ((z : ℕ) → Gives z ≡ None) → IsFaultIn s r None
    nothing none all = by_choice choosing (record {
      given_by = λ h held. let clash : None ≡ Some h = sym none ∙ held in absurd (cc);
      best = λ z g gift. let clash : None ≡ Some g = sym (all z) ∙ gift in absurd (cc);
    })

    pub missing : held_in s r ≡ None → (t : ℕ × ℕ) → TopIs t → IsFaultIn s r (Some (Missing r t.0))
    missing none t top = (refl, (choosing, none, top.0, top.1))

    module _ (h : Route) (held : held_in s r ≡ Some h) where
      gift_is : (c : Choices) → AreChoices s c → (b : Bool) → b ≡ holds c.given r → b ≡ has_gift h
      gift_is c are b is = is ∙ are.given r ∙ ap gives_held held

      given_of : (c : Choices) → AreChoices s c → (b : Bool) → b ≡ holds c.given r → b ≡ true → (z : ℕ) × (Gives z ≡ Some h)
      given_of c are b is on =
          giver s.net.now (policy_of s.policy.now) s.config.now (failures_of s.scenario.now) s.scenario.now.prefix s.outcome.now.routes r h (sym (gift_is c are b is) ∙ on)

      pub not_given : (c : Choices) → AreChoices s c → (b : Bool) → b ≡ holds c.given r → b ≡ false → IsFaultIn s r (Some (NotGiven r))
      not_given c are b is off = (
        refl,
        (
          choosing,
          h,
          held,
          λ z gift. true≢false (
              sym (has_giver s.net.now (policy_of s.policy.now) s.config.now (failures_of s.scenario.now) s.scenario.now.prefix s.outcome.now.routes r h z gift)
              ∙ sym (gift_is c are b is) ∙ off),
        ),
      )

      module _ (c : Choices) (are : AreChoices s c) (b : Bool) (is : b ≡ holds c.given r) (on : b ≡ true) where
        pub given_by_none : ((z : ℕ) → Gives z ≡ None) → ⊥
        given_by_none all =
            let by = given_of c are b is on in
            let clash : None ≡ Some h = sym (all by.0) ∙ by.1 in
            absurd (cc)

        pub bettered : (t : ℕ × ℕ) → TopIs t → h.pref < t.1 → IsFaultIn s r (Some (Better r t.0 t.1))
        bettered t top low =
            let by = given_of c are b is on in
            (refl, (choosing, h, top.0, by.0, held, by.1, top.1, top.2, low))

        pub settled : (t : ℕ × ℕ) → TopIs t → t.1 ≤ h.pref → IsFaultIn s r None
        settled t top high =
            let by = given_of c are b is on in
            by_choice choosing (record {
              given_by = λ k has. (by.0, by.1 ∙ sym held ∙ has);
              best = λ z g gift. (h, held, omega (arith, top.1.highest z g gift, top.2, high));
            })
