-- What peers are offered under announcements is what they are offered in the plain sense.
use Rattle.std.proofs.Common.{◌≡◌, ℕ, Bool, true, false, List, [], ◌∷◌, ◌++◌, Option, Some, None, refl, sym, ap, ◌∙◌, inl, inr}
use Rattle.std.specs.Prelude.{◌&&◌, ◌==◌, option_map, if◌then◌else◌}
use Rattle.std.specs.List.{list_any}
use Rattle.std.proofs.lemmas.Bool.{and_parts, cases_Bool}
use Rattle.std.proofs.lemmas.List.{append-nil}
use Rattle.list_law.proofs.Options.{cases_Option, none_or_some}
use Rattle.net_base.specs.declared.numbers.Tag.{Tag}
use Rattle.net_base.specs.Network.{PlainNet, IsNet, asn_of, is_peer, is_router}
use Rattle.net_base.specs.Prefixes.{PlainPrefix, IsPrefix}
use Rattle.net_base.proofs.Links.{linked_known}
use Rattle.net_base.proofs.RoutersAndPeers.{router_no_peer}
use Rattle.policy_base.specs.Policies.{PlainPolicy, IsPolicyOf}
use Rattle.policy_base.specs.Governing.{originated_at}
use Rattle.config_base.specs.Configs.{PlainConfig}
use Rattle.config_base.specs.Lines.{class_of, export_of, as_path}
use Rattle.evidence_base.specs.Made.{PlainCaseEvidence}
use Rattle.outcome_base.specs.Outcomes.{Failures, is_live, offered, route_at, sent}
use Rattle.outcome_base.specs.Withstanding.{OffersAreTaken}
use Rattle.evidence_law.specs.Passes.{IsMadeOf}
use Rattle.evidence_law.proofs.Heard.{sent-unrouted, sent-refused, sent-permitted}
use Rattle.evidence_law.proofs.Loops.{loop_by_number}
use Rattle.routing_law.specs.Network.{stands_on}
use Rattle.outcome_base.specs.Announcements.{Announcements, FullRoute, FullOutcome, Sent, full_at, inside, silenced, sent_under, offered_under, IsStableUnder}
use Rattle.outcome_law.proofs.Announced.{originated_paths_are_own}
use Rattle.outcome_law.proofs.Inside.{route_at-inside, route_in, sent-router, sent-router-none, sent-router-refused}
use Rattle.outcome_law.proofs.Peers.{nothing_exported, peers_are_origins}

module _ (net : PlainNet) (policy : PlainPolicy) (config : PlainConfig) (cs : List PlainCaseEvidence) (rules : IsNet net) (kept : IsPolicyOf net policy) (made : IsMadeOf net policy config cs)
    (p : PlainPrefix) (f : Failures) (says : Announcements) (full : FullOutcome) (prefix : IsPrefix p) (stable : IsStableUnder net policy config f says p full)
    (r peer : ℕ) (live : is_live net f r peer ≡ true) (router : is_router net r ≡ true) (at_peer : is_peer net peer ≡ true) where
  abbrev Mute : Failures
  Mute = silenced net says f

  abbrev shown : Option Sent → Option (List ℕ)
  shown o = option_map (λ (m : Sent). peer ∷ m.path) o

  abbrev Same : Type 0
  Same = offered net policy config Mute p (inside full) r peer ≡ shown (offered_under net config f says p full r peer)

  off : is_peer net r ≡ false
  off = router_no_peer net r router

  plain_unsent : sent net policy config Mute p (inside full) r peer ≡ None → offered net policy config Mute p (inside full) r peer ≡ None
  plain_unsent s = rw (s, live, router, at_peer) refl

  plain_sent : (path : List ℕ) (t : Tag) → sent net policy config Mute p (inside full) r peer ≡ Some (path, t)
      → offered net policy config Mute p (inside full) r peer ≡ (if stands_on peer path then None else Some (peer ∷ path))
  plain_sent path t s = rw (s, live, router, at_peer) refl

  under_unsent : sent_under net config f says p full r peer ≡ None → offered_under net config f says p full r peer ≡ None
  under_unsent s = rw (s, live, router, at_peer) refl

  under_sent : (m : Sent) → sent_under net config f says p full r peer ≡ Some m
      → offered_under net config f says p full r peer ≡ (if list_any (λ n. n == asn_of net peer) (as_path net m.path ++ m.behind) then None else Some m)
  under_sent m s = rw (s, live, router, at_peer) refl

  both_none : sent net policy config Mute p (inside full) r peer ≡ None → sent_under net config f says p full r peer ≡ None → Same
  both_none a b = plain_unsent a ∙ sym (ap shown (under_unsent b))

  unclassed : class_of config p ≡ None → sent net policy config Mute p (inside full) r peer ≡ None
  unclassed none = rw (none, off) refl

  unclassed_under : class_of config p ≡ None → sent_under net config f says p full r peer ≡ None
  unclassed_under none = rw (none, off) refl

  either : (m : Sent) (a b : Bool) → b ≡ a → (if a then None else Some (peer ∷ m.path)) ≡ shown (if b then None else Some m)
  either m true true same = refl
  either m false false same = refl
  either m true false same = absurd (cc)
  either m false true same = absurd (cc)

  -- of an originated prefix nothing stands behind, and the loop rule is that of locations
  loop_same : (t : FullRoute) → full_at full r ≡ Some t → t.behind ≡ [] → list_any (λ n. n == asn_of net peer) (as_path net t.route.path ++ t.behind) ≡ stands_on peer t.route.path
  loop_same t at none =
      let known = (linked_known net r peer rules (and_parts _ _ (and_parts _ _ (and_parts _ _ live).0).0).0).1 in
      ap (λ (b : List ℕ). list_any (λ n. n == asn_of net peer) (as_path net t.route.path ++ b)) none
      ∙ ap (list_any (λ n. n == asn_of net peer)) (append-nil (as_path net t.route.path))
      ∙ loop_by_number net peer t.route.path rules known

  live_same : Same
  live_same = elim (cases_Option (full_at full r)) [
    | inl none ↦ elim (cases_Option (class_of config p)) [
      | inl free ↦ both_none (unclassed free) (unclassed_under free)
      | inr c ↦
          both_none (sent-unrouted net policy config Mute p (inside full) c.0 rules c.1 r peer off (route_at-inside full r ∙ ap (option_map route_in) none))
          (sent-router-none net policy config f says p full r peer off none)
    ]
    | inr t ↦ elim (cases_Option (class_of config p)) [
      | inl free ↦ both_none (unclassed free) (unclassed_under free)
      | inr c ↦
          let at : route_at (inside full) r ≡ Some t.0.route = route_at-inside full r ∙ ap (option_map route_in) t.1 in
          elim (cases_Option (export_of net config c.0 r peer t.0.route.tag)) [
            | inl e ↦
                both_none (sent-refused net policy config Mute p (inside full) c.0 rules c.1 r peer t.0.route off at e)
                (sent-router-refused net policy config f says p full c.0 c.1 r peer t.0 off t.1 e)
            | inr e ↦ elim (cases_Option (originated_at policy.origins p)) [
              | inl outside ↦ absurd (none_or_some (export_of net config c.0 r peer t.0.route.tag) e.0
                  (nothing_exported net policy config cs rules kept made p prefix c.0 c.1 peer r t.0.route.tag router (peers_are_origins net policy p peer outside ∙ at_peer)) e.1)
              | inr o ↦
                  let m : Sent = record { path = t.0.route.path; behind = t.0.behind; tag = e.0 } in
                  let none = originated_paths_are_own net policy config cs rules kept made p o.0 f says full prefix o.1 stable r t.0 router t.1 in
                  plain_sent t.0.route.path e.0 (sent-permitted net policy config Mute p (inside full) c.0 rules c.1 r peer t.0.route e.0 off at e.1)
                  ∙ either m (stands_on peer t.0.route.path) (list_any (λ n. n == asn_of net peer) (as_path net t.0.route.path ++ t.0.behind)) (loop_same t.0 t.1 none)
                  ∙ sym (ap shown (under_sent m (sent-router net policy config f says p full c.0 c.1 r peer t.0 e.0 off t.1 e.1)))
            ]
          ]
    ]
  ]

pub offers_are_taken : (net : PlainNet) (policy : PlainPolicy) (config : PlainConfig) (cs : List PlainCaseEvidence) → IsNet net
    → IsPolicyOf net policy → IsMadeOf net policy config cs → OffersAreTaken net policy config
offers_are_taken net policy config cs rules kept made p f says full prefix stable r peer = elim (cases_Bool (is_live net f r peer && is_router net r && is_peer net peer)) [
  | inr none ↦ rw none refl
  | inl t ↦
      let last = and_parts (is_live net f r peer && is_router net r) (is_peer net peer) t in
      let first = and_parts (is_live net f r peer) (is_router net r) last.0 in
      live_same net policy config cs rules kept made p f says full prefix stable r peer first.0 first.1 last.1
]
