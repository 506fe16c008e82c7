-- What no step is of is free.
use Rattle.std.proofs.Common.{◌≡◌, ℕ, Bool, true, List, length, map, filter, Option, sym, ap, ◌∙◌, inl, inr, subst}
use Rattle.std.specs.Prelude.{◌&&◌, ◌↔◌, ◌++◌, is_some, not}
use Rattle.std.specs.List.{flat_map, list_any}
use Rattle.std.proofs.lemmas.Bool.{and_parts, lt-ltb, not-true, not_from_false}
use Rattle.list_law.specs.Members.{IsIn}
use Rattle.list_law.proofs.Members.{IsIn-append_cases, IsIn-filter_parts, IsIn-map_parts}
use Rattle.list_law.proofs.Tests.{list_any-same}
use Rattle.net_base.specs.declared.loc.LocSet.{LocSet}
use Rattle.net_base.specs.Locations.{numbers_below}
use Rattle.net_base.specs.Network.{PlainNet, IsNet, is_router, joins, linked}
use Rattle.net_base.specs.Prefixes.{PlainPrefix, IsPrefix}
use Rattle.net_base.specs.Sets.{holds}
use Rattle.net_base.proofs.NumbersBelow.{below_from_In}
use Rattle.policy_base.specs.Policies.{PlainPolicy, IsPolicyOf}
use Rattle.config_base.specs.Configs.{PlainConfig}
use Rattle.evidence_base.specs.Made.{PlainCaseEvidence}
use Rattle.evidence_law.specs.Passes.{Passes}
use Rattle.outcome_base.specs.Outcomes.{Failures, Outcome, is_dead, is_dead_link, is_live}
use Rattle.settled_law.specs.Settled.{IsFullyStable}
use Rattle.scenarios.specs.Surviving.{live_by}
use Rattle.scenarios.specs.declared.survivors.Survivors.{Survivors}
use Rattle.outcome_claims.specs.Offers.{offered_by}
use Rattle.impact_law.specs.Cuts.{live_cuts}
use Rattle.impact_law.specs.declared.impact.Cut.{Cut}
use Rattle.impact_law.specs.declared.impact.Cut.TheVariants.{Link, Router}
use Rattle.drain_report.specs.DrainFree.{IsFree}
use Rattle.drain_report.proofs.Cutting.{joins_turns}
use Rattle.drain_report.proofs.Freeing.{free_is_unused}
use Rattle.drain_report.specs.Free.{leads_to, spared_by}
use Rattle.drain_report.specs.Steps.{held_steps, offer_step}
use Rattle.drain_report.proofs.Sparing.{IsKnown, no_step, no_use, steps as steps_for}
use Rattle.drain_report.proofs.Walking.{over}

-- the steps of a situation, by what it is of
abbrev pub steps_by : PlainNet → Failures → Outcome → Option PlainCaseEvidence → List (ℕ × ℕ)
steps_by net f outcome case = flat_map held_steps outcome ++ map offer_step (filter (λ (link : ℕ × ℕ). is_some (offered_by net f outcome case link.0 link.1)) net.links)

-- what lives is of the network
cut_known : (net : PlainNet) (f : Failures) (cut : Cut) → IsIn (live_cuts net f) cut → IsKnown net cut
cut_known net f cut at =
    let live : ℕ × ℕ → Bool = λ (link : ℕ × ℕ). is_live net f link.0 link.1 in
    let up : ℕ → Bool = λ (r : ℕ). not (is_dead f r) in
    elim (IsIn-append_cases (map (λ (link : ℕ × ℕ). Link link.0 link.1) (filter live net.links)) (map Router (filter up (numbers_below (length net.routers)))) cut at) [
      | inl link ↦
          let x = IsIn-map_parts (λ (link : ℕ × ℕ). Link link.0 link.1) (filter live net.links) cut link in
          let on = (IsIn-filter_parts live net.links x.0 x.1).1 in
          let a = x.0.0 in
          let b = x.0.1 in
          let joined = (and_parts (linked net a b) (not (is_dead_link f a b)) (and_parts (linked net a b && not (is_dead_link f a b)) (not (is_dead f a))
          (and_parts (linked net a b && not (is_dead_link f a b) && not (is_dead f a)) (not (is_dead f b)) on).0).0).0 in
          subst (IsKnown net) x.2 joined
      | inr router ↦
          let x = IsIn-map_parts Router (filter up (numbers_below (length net.routers))) cut router in
          let low = below_from_In x.0 (length net.routers) (IsIn-filter_parts up (numbers_below (length net.routers)) x.0 x.1).0 in
          subst (IsKnown net) x.2 (lt-ltb x.0 (length net.routers) low)
    ]

module _ (net : PlainNet) (steps : List (ℕ × ℕ)) (left : Survivors) (ends : LocSet)
    (of_links : (a b : ℕ) → linked net a b ≡ true → live_by net left a b ≡ not (list_any (joins a b) steps))
    (of_routers : (l : ℕ) → holds ends l ≡ (is_router net l && list_any (leads_to l) steps)) where
  -- the tables tell whether a step goes over it
  told : (cut : Cut) → IsKnown net cut → spared_by net left ends cut ≡ not (list_any (over cut) steps)
  told (Link a b) known = of_links a b known ∙ ap not (list_any-same (joins a b) (over (Link a b)) (joins_turns a b) steps)
  told (Router x) known = ap not (of_routers x ∙ ap (λ t. t && list_any (leads_to x) steps) known)

  pub spared_free : (policy : PlainPolicy) (config : PlainConfig) (cs : List PlainCaseEvidence) (f : Failures) (p : PlainPrefix) (rules : IsNet net) (outcome : Outcome)
      (size : length outcome ≡ length net.routers) (settled : IsFullyStable net policy config f p outcome) → steps ≡ steps_for net policy config f p rules outcome size settled
      → IsPolicyOf net policy → Passes net policy config cs → IsPrefix p → (cut : Cut) → IsIn (live_cuts net f) cut
      → (spared_by net left ends cut ≡ true) ↔ IsFree net policy config f p outcome cut
  spared_free policy config cs f p rules outcome size settled are fits passes prefix cut at =
      let known = cut_known net f cut at in
      let law = free_is_unused net policy config cs rules fits passes p f cut outcome prefix size settled in
      let of = λ (xs : List (ℕ × ℕ)). list_any (over cut) xs in (
        λ spared. law.1 (no_use net policy config f p rules outcome size settled cut known (ap of (sym are) ∙ not-true _ (sym (told cut known) ∙ spared))),
        λ free. told cut known ∙ not_from_false _ (ap of are ∙ no_step net policy config f p rules outcome size settled cut (law.0 free)),
      )
