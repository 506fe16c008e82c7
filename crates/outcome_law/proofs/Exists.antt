-- Whatever fails and the peers announce, there is an outcome that is stable under it: a plain one, with what is announced behind its paths.
use Rattle.std.proofs.Common.{◌≡◌, ℕ, zero, suc, ◌≤◌, true, false, List, [], ◌∷◌, length, map, Option, Some, None, refl, sym, ap, ◌∙◌, inl, inr, arith}
use Rattle.std.specs.Prelude.{◌&&◌, not, slice_get, option_map, if◌then◌else◌}
use Rattle.std.specs.List.{list_any}
use Rattle.std.specs.Option.{option_and_then}
use Rattle.std.proofs.lemmas.Bool.{and_parts, cases_Bool, or_parts, true≢false}
use Rattle.std.proofs.lemmas.List.{length-map}
use Rattle.std.proofs.lemmas.Option.{slice_get-map}
use Rattle.list_law.proofs.Options.{cases_Option, option_map_parts}
use Rattle.net_base.specs.declared.numbers.Tag.{Tag}
use Rattle.net_base.specs.Network.{PlainNet, IsNet, is_peer, is_router, linked}
use Rattle.net_base.specs.Prefixes.{PlainPrefix}
use Rattle.net_base.proofs.Links.{linked_known}
use Rattle.net_base.proofs.RoutersAndPeers.{router_no_peer, router_or_peer}
use Rattle.policy_base.specs.Policies.{PlainPolicy, IsPolicyOf}
use Rattle.policy_base.specs.Governing.{is_origin}
use Rattle.config_base.specs.declared.route.Route.{Route}
use Rattle.config_base.specs.Configs.{PlainConfig}
use Rattle.config_base.specs.Lines.{class_of, block_at, line_by}
use Rattle.outcome_base.specs.Outcomes.{Failures, Outcome, is_dead, is_live, is_silent, route_at, given, IsStable}
use Rattle.outcome_base.specs.Withstanding.{HasOutcomesUnder}
use Rattle.evidence_base.specs.Made.{PlainCaseEvidence}
use Rattle.evidence_law.specs.Passes.{Passes}
use Rattle.evidence_law.proofs.ExistenceLaw.{stable_outcomes_exist}
use Rattle.evidence_law.proofs.Hops as plain
use Rattle.outcome_base.specs.Announcements.{Announced, Announcements, FullRoute, FullOutcome, Sent, full_at, inside, is_ours, sent_under, given_under, is_unusable, silenced, IsStableUnder}
use Rattle.outcome_law.proofs.Inside.{given_same, given-parts, route_in, router-sends, taken-parts}
use Rattle.outcome_law.proofs.Peers.{no_line}
use Rattle.outcome_law.proofs.Silenced.{silenced_is}

-- what stands behind a path: what the peer at its end announced to the router before it
abbrev behind_of : Option Announced → List ℕ
behind_of None = []
behind_of (Some a) = a.behind

abbrev tail_of : PlainNet → Announcements → List ℕ → List ℕ
tail_of net says [] = []
tail_of net says (l ∷ []) = []
tail_of net says (r ∷ q ∷ []) = if is_peer net q then behind_of (says q r) else []
tail_of net says (l ∷ k ∷ j ∷ ls) = tail_of net says (k ∷ j ∷ ls)

abbrev lifted : PlainNet → Announcements → Route → FullRoute
lifted net says h = record { route = h; behind = tail_of net says h.path }

abbrev raised : PlainNet → Announcements → Outcome → FullOutcome
raised net says outcome = map (option_map (lifted net says)) outcome

-- a router in front changes nothing
tail_same : (net : PlainNet) (says : Announcements) (r u : ℕ) (rest : List ℕ) → is_peer net u ≡ false → tail_of net says (r ∷ u ∷ rest) ≡ tail_of net says (u ∷ rest)
tail_same net says r u [] off = rw off refl
tail_same net says r u (k ∷ ks) off = refl

tail_peer : (net : PlainNet) (says : Announcements) (r q : ℕ) → is_peer net q ≡ true → tail_of net says (r ∷ q ∷ []) ≡ behind_of (says q r)
tail_peer net says r q peer = rw peer refl

cut_raised : (net : PlainNet) (says : Announcements) (outcome : Outcome) → inside (raised net says outcome) ≡ outcome
cut_raised net says [] = refl
cut_raised net says (None ∷ os) = ap (λ (xs : Outcome). None ∷ xs) (cut_raised net says os)
cut_raised net says (Some h ∷ os) = ap (λ (xs : Outcome). Some h ∷ xs) (cut_raised net says os)

raised_joined : (g : Route → FullRoute) (o : Option (Option Route))
    → option_and_then (λ (x : Option FullRoute). x) (option_map (option_map g) o) ≡ option_map g (option_and_then (λ (x : Option Route). x) o)
raised_joined g None = refl
raised_joined g (Some x) = refl

full_at-raised : (net : PlainNet) (says : Announcements) (outcome : Outcome) (r : ℕ) → full_at (raised net says outcome) r ≡ option_map (lifted net says) (route_at outcome r)
full_at-raised net says outcome r = ap (option_and_then (λ (x : Option FullRoute). x)) (slice_get-map (option_map (lifted net says)) outcome r) ∙ raised_joined (lifted net says) (slice_get outcome r)

usable : (net : PlainNet) (o : Option Announced) → is_unusable net o ≡ false → list_any (is_ours net) (behind_of o) ≡ false
usable net None h = absurd (true≢false h)
usable net (Some b) h = h

module _ (net : PlainNet) (policy : PlainPolicy) (config : PlainConfig) (f : Failures) (says : Announcements) (p : PlainPrefix) (outcome : Outcome) (rules : IsNet net) where
  abbrev Mute : Failures
  Mute = silenced net says f

  link_of : (u v : ℕ) → is_live net f u v ≡ true → linked net u v ≡ true
  link_of u v live = (and_parts _ _ (and_parts _ _ (and_parts _ _ live).0).0).0

  router_here : (u v : ℕ) → is_live net f u v ≡ true → is_peer net u ≡ false → is_router net u ≡ true
  router_here u v live off = router_or_peer net u (linked_known net u v rules (link_of u v live)).0 off

  module _ (stable : IsStable net policy config Mute p outcome) where
    begins : (r : ℕ) (h : Route) → is_router net r ≡ true → route_at outcome r ≡ Some h → (rest : List ℕ) × (h.path ≡ r ∷ rest)
    begins = plain.begins net policy config Mute p outcome rules stable

    clean_each : (n r : ℕ) (h : Route) → is_router net r ≡ true → route_at outcome r ≡ Some h → suc (length h.path) ≤ n → list_any (is_ours net) (tail_of net says h.path) ≡ false
    clean_each zero r h router at short = absurd (omega (arith, short))
    clean_each (suc n) r h router at short = elim (cases_Bool (is_origin net policy p r)) [
      | inl origin ↦ ap (λ (path : List ℕ). list_any (is_ours net) (tail_of net says path)) (plain.own_path net policy config Mute p outcome rules stable r h router origin at)
      | inr other ↦
          let by = plain.chosen net policy config Mute p outcome rules stable r h router other at in
          let x = by.1 in
          elim x.comes [
            | inl peer ↦
                let mute = sym (silenced_is net rules says by.0 r peer.0 (link_of by.0 r x.live) f) ∙ peer.2 in
                let heard = (or_parts (is_silent f r by.0) (is_unusable net (says by.0 r)) mute).1 in
                ap (λ (path : List ℕ). list_any (is_ours net) (tail_of net says path)) (x.begins ∙ ap (λ (path : List ℕ). r ∷ path) peer.3)
                ∙ ap (list_any (is_ours net)) (tail_peer net says r by.0 peer.0) ∙ usable net (says by.0 r) heard
            | inr from ↦
                let g = from.1.0 in
                let start = begins by.0 g from.0 from.1.1 in
                let whole : h.path ≡ r ∷ g.path = x.begins ∙ ap (λ (path : List ℕ). r ∷ path) (sym from.1.2) in
                let longer : length h.path ≡ suc (length g.path) = ap length whole in
                let tail : tail_of net says h.path ≡ tail_of net says g.path =
                ap (tail_of net says) (whole ∙ ap (λ (path : List ℕ). r ∷ path) start.1) ∙ tail_same net says r by.0 start.0 (router_no_peer net by.0 from.0) ∙ ap (tail_of net says) (sym start.1) in
                ap (list_any (is_ours net)) tail ∙ clean_each n by.0 g from.0 from.1.1 (omega (arith, longer, short))
          ]
    ]

    -- ---- with what was said behind

    abbrev Up : FullOutcome
    Up = raised net says outcome

    held_up : (r : ℕ) (t : FullRoute) → full_at Up r ≡ Some t → (h : Route) × (route_at outcome r ≡ Some h) × (lifted net says h ≡ t)
    held_up r t at = option_map_parts (lifted net says) (route_at outcome r) t (sym (full_at-raised net says outcome r) ∙ at)

    clean : (u : ℕ) (t : FullRoute) → is_router net u ≡ true → full_at Up u ≡ Some t → list_any (is_ours net) t.behind ≡ false
    clean u t router at =
        let h = held_up u t at in
        ap (λ (x : FullRoute). list_any (is_ours net) x.behind) (sym h.2) ∙ clean_each (suc (length h.0.path)) u h.0 router h.1 (omega arith)

    -- what is given has behind it what was said at its end
    said_behind : (u v : ℕ) (t : FullRoute) → given_under net config f says p Up u v ≡ Some t → t.behind ≡ tail_of net says t.route.path
    said_behind u v t at =
        let parts = given-parts net policy config f says p Up u v t at in
        let made = taken-parts net config parts.1 v u parts.3 t parts.5 in
        elim (cases_Bool (is_peer net u)) [
          | inl peer ↦
              let m = peer_says peer parts.3 parts.4 in
              made.2 ∙ m.1 ∙ sym (ap (tail_of net says) (made.1 ∙ ap (λ (path : List ℕ). v ∷ path) m.0) ∙ tail_peer net says v u peer)
          | inr off ↦
              let out = router-sends net policy config f says p Up u v parts.3 off parts.4 in
              let h = held_up u out.0 out.1 in
              let start = begins u h.0 (router_here u v parts.0 off) h.1 in
              let path : parts.3.path ≡ u ∷ start.0 = out.2 ∙ ap (λ (x : FullRoute). x.route.path) (sym h.2) ∙ start.1 in
              let behind : parts.3.behind ≡ tail_of net says (u ∷ start.0) = out.3 ∙ ap (λ (x : FullRoute). x.behind) (sym h.2) ∙ ap (tail_of net says) start.1 in
              made.2 ∙ behind ∙ sym (ap (tail_of net says) (made.1 ∙ ap (λ (q : List ℕ). v ∷ q) path) ∙ tail_same net says v u start.0 off)
        ]
      where
        peer_says : is_peer net u ≡ true → (m : Sent) → sent_under net config f says p Up u v ≡ Some m → (m.path ≡ u ∷ []) × (m.behind ≡ behind_of (says u v))
        peer_says peer m sends = elim (cases_Bool (is_silent f v u)) [
          | inl s ↦ let clash : None ≡ Some m = sym (rw (peer, s) refl) ∙ sends in absurd (cc)
          | inr s ↦ elim (cases_Option (says u v)) [
            | inl none ↦ let clash : None ≡ Some m = sym (rw (peer, s, none) refl) ∙ sends in absurd (cc)
            | inr b ↦
                let same : Some (record { path = u ∷ []; behind = b.0.behind; tag = b.0.tag }) ≡ Some m = sym (rw (peer, s, b.1) refl) ∙ sends in
                let one : record { path = u ∷ []; behind = b.0.behind; tag = b.0.tag } ≡ m = cc in
                (ap (λ (x : Sent). x.path) (sym one), ap (λ (x : Sent). x.behind) (sym one) ∙ sym (ap behind_of b.1))
          ]
        ]

    module _ (unlined : (class : ℕ) → class_of config p ≡ Some class → (u v : ℕ) → is_peer net u ≡ true → is_router net v ≡ true → is_origin net policy p u ≡ false
        → (tag : Tag) → option_and_then (line_by net class u tag) (block_at net config v u) ≡ None) where
      same_up : (u v : ℕ) → is_router net v ≡ true → option_map route_in (given_under net config f says p Up u v) ≡ given net policy config Mute p outcome u v
      same_up u v router = given_same net policy config f says p Up rules clean unlined u v router ∙ ap (λ (o : Outcome). given net policy config Mute p o u v) (cut_raised net says outcome)

      whole : (t : FullRoute) (h : Route) → t.route ≡ h → t.behind ≡ tail_of net says t.route.path → t ≡ lifted net says h
      whole t h route behind = λ i. record { route = route i; behind = (behind ∙ ap (λ (x : Route). tail_of net says x.path) route) i }

      pub stable_up : IsStableUnder net policy config f says p Up
      stable_up = record {
        dead = λ r down. full_at-raised net says outcome r ∙ ap (option_map (lifted net says)) (stable.dead r down);
        own = λ r who. full_at-raised net says outcome r ∙ ap (option_map (lifted net says)) (stable.own r who);
        chooses = λ r who.
            let router = (and_parts (is_router net r) (not (is_origin net policy p r)) (and_parts (is_router net r && not (is_origin net policy p r)) (not (is_dead f r)) who).0).0 in
            record {
              given_by = λ t at.
                  let h = held_up r t at in
                  let by = (stable.chooses r who).given_by h.0 h.1 in
                  let g = option_map_parts route_in (given_under net config f says p Up by.0 r) h.0 (same_up by.0 r router ∙ by.1) in
                  (by.0, g.1 ∙ ap Some (whole g.0 h.0 g.2 (said_behind by.0 r g.0 g.1) ∙ h.2));
              best = λ z g by.
                  let b = (stable.chooses r who).best z g.route (sym (same_up z r router) ∙ ap (option_map route_in) by) in
                  (lifted net says b.0, full_at-raised net says outcome r ∙ ap (option_map (lifted net says)) b.1, b.2);
            };
      }

pub stable_under_exist : (net : PlainNet) (policy : PlainPolicy) (config : PlainConfig) (cs : List PlainCaseEvidence) → IsNet net
    → IsPolicyOf net policy → Passes net policy config cs → HasOutcomesUnder net policy config
stable_under_exist net policy config cs rules kept passes p f says prefix =
    let found = stable_outcomes_exist net policy config cs rules kept passes p (silenced net says f) prefix in (
      raised net says found.0,
      length-map found.0 (option_map (lifted net says)) ∙ found.1,
      stable_up net policy config f says p found.0 rules found.2
          (λ class of_class u v peer router other tag. no_line net policy config cs rules kept passes.made p prefix class of_class u v peer router other tag),
    )
