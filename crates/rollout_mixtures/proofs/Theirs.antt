-- Where no message waits, routers that do the same hold what they hold where all run what they run: nobody hears what differs.
use Rattle.std.proofs.Common.{◌≡◌, ℕ, Bool, true, false, not, ◌||◌, ◌⊎◌, List, [], ◌∷◌, Option, Some, None, refl, sym, ap, ◌∙◌, inl, inr}
use Rattle.std.specs.Prelude.{option_map, if◌then◌else◌}
use Rattle.std.proofs.lemmas.Bool.{both_ways, cases_Bool, cond-false, cond-true, not-true, not_from_false, not_from_true, or_from, or_left, or_parts, or_right}
use Rattle.list_law.proofs.Options.{none_from, none_or_some}
use Rattle.net_base.specs.declared.numbers.Tag.{Tag}
use Rattle.net_base.specs.Locations.{neighbours}
use Rattle.net_base.specs.Network.{IsNet, is_router}
use Rattle.net_base.specs.Numbers.{no_tag}
use Rattle.net_base.specs.Prefixes.{IsPrefix}
use Rattle.policy_base.specs.Policies.{PlainPolicy, IsPolicyOf}
use Rattle.policy_base.specs.Governing.{is_origin}
use Rattle.config_base.specs.declared.route.Route.{Route}
use Rattle.config_base.specs.Configs.{PlainConfig}
use Rattle.config_base.specs.Lines.{own_route}
use Rattle.evidence_base.specs.Made.{PlainCaseEvidence}
use Rattle.outcome_base.specs.Outcomes.{Failures, Outcome, route_at}
use Rattle.evidence_law.specs.Passes.{Passes}
use Rattle.evidence_law.proofs.Existence.{held}
use Rattle.evidence_law.proofs.RightLaw.{passing_evidence_is_right}
use Rattle.event_base.specs.Speaking.{chosen_by, exported_by, extended, first_of, message, speakers_of, taken_by}
use Rattle.event_base.specs.Steps.{IsQuiet}
use Rattle.event_base.specs.World.{Speakers, World, choice, exported, live, offers, running}
use Rattle.event_law.specs.Kept.{IsKept, last_of}
use Rattle.event_law.specs.Scenarios.{IsScenarioOf, routes_of}
use Rattle.event_law.proofs.Waiting.{routes_size, same_routes}
use Rattle.rest_law.specs.Rest.{IsAtRest}
use Rattle.rollout_base.specs.Lines.{sends, takes}
use Rattle.rollout_base.specs.Mixtures.{Part, announced_if, mixed}
use Rattle.rollout_base.specs.Stages.{SayAlike}
use Rattle.rollout_law.proofs.Speaking.{chosen_other, chosen_own, chosen_parts, exported_none, exported_some, taken_none, taken_parts, taken_some}
use Rattle.rollout_rest.proofs.Settled.{own_rest}
use Rattle.rollout_mixtures.specs.Alike.{IsHeard}
use Rattle.rollout_mixtures.proofs.Alone.{IsAlone}
use Rattle.rollout_mixtures.proofs.Idle.{IsIdle, IsUnread}
use Rattle.rollout_mixtures.proofs.Setting.{Setting}

-- All do with the prefix what x does, and originate it as x does or are idle.
pub record DoAs (s : Setting) (x : Part) : Type 0 where
  pub says : (r : ℕ) → SayAlike s.net s.p (s.m r).config x.config
  pub starts : (r : ℕ) → (is_origin s.net (s.m r).policy s.p r ≡ is_origin s.net x.policy s.p r) ⊎ IsIdle s.net s.p x r
  pub read : IsUnread s.net s.p x
  pub alone : IsAlone s.net s.p x
  pub speaks : (a : ℕ) → is_router s.net a ≡ false → is_origin s.net x.policy s.p a ≡ true → s.says a ≡ true

both_none : {A : Type 0} (b : Bool) (o : Option A) → o ≡ None → (if b then None else o) ≡ None
both_none true o none = refl
both_none false o none = none

module _ (s : Setting) (x : Part) (k : DoAs s x) where
  abbrev S : Speakers Route
  S = mixed s.net s.says s.p s.m

  abbrev X : Speakers Route
  X = speakers_of s.net x.policy x.config s.p

  -- ---- the lines are the same

  sent_same : (a b : ℕ) (o : Option Route) → exported_by s.net (s.m a).config s.p a b o ≡ exported_by s.net x.config s.p a b o
  sent_same a b None = exported_none s.net (s.m a).config s.p a b ∙ sym (exported_none s.net x.config s.p a b)
  sent_same a b (Some h) = exported_some s.net (s.m a).config s.p a b h ∙ ap (option_map (message h)) ((k.says a).sent a b h.tag) ∙ sym (exported_some s.net x.config s.p a b h)

  taken_same : (r u : ℕ) (o : Option Route) → taken_by s.net (s.m r).config s.p r u o ≡ taken_by s.net x.config s.p r u o
  taken_same r u None = taken_none s.net (s.m r).config s.p r u ∙ sym (taken_none s.net x.config s.p r u)
  taken_same r u (Some h) = taken_some s.net (s.m r).config s.p r u h ∙ ap (option_map (extended r h)) ((k.says r).taken r u h.path h.tag) ∙ sym (taken_some s.net x.config s.p r u h)

  -- who is idle sends nothing
  module _ (r b : ℕ) (policy : PlainPolicy) (config : PlainConfig) (alike : SayAlike s.net s.p config x.config) (idle : IsIdle s.net s.p x r) (offer : ℕ → Option Route) where
    own_unsent : is_origin s.net policy s.p r ≡ true → exported_by s.net x.config s.p r b (chosen_by s.net policy config s.p r offer) ≡ None
    own_unsent origin =
        ap (exported_by s.net x.config s.p r b) (chosen_own s.net policy config s.p r offer origin) ∙ exported_some s.net x.config s.p r b (own_route s.net config s.p r)
        ∙ ap (option_map (message (own_route s.net config s.p r))) (ap (sends s.net x.config s.p r b) (alike.own r ∙ idle.own) ∙ k.read.sent r b)

    nothing_chosen : is_origin s.net policy s.p r ≡ false → chosen_by s.net policy config s.p r offer ≡ None
    nothing_chosen other = none_from (chosen_by s.net policy config s.p r offer) (λ h e.
        let c = chosen_parts s.net policy config s.p r offer h other e in
        none_or_some (takes s.net config s.p r c.0 c.1.path c.1.tag) c.2 (alike.taken r c.0 c.1.path c.1.tag ∙ idle.taken c.0 c.1.path c.1.tag) c.4)

    choice_unsent : exported_by s.net x.config s.p r b (chosen_by s.net policy config s.p r offer) ≡ None
    choice_unsent = elim (cases_Bool (is_origin s.net policy s.p r)) [
      | inl origin ↦ own_unsent origin
      | inr other ↦ ap (exported_by s.net x.config s.p r b) (nothing_chosen other) ∙ exported_none s.net x.config s.p r b
    ]

    idle_unsent : (runs : Bool) → exported_by s.net x.config s.p r b (if runs then chosen_by s.net policy config s.p r offer else None) ≡ None
    idle_unsent true = choice_unsent
    idle_unsent false = exported_none s.net x.config s.p r b

  -- ---- the world of the part's own network: what other peers announce isn't heard, and each holds its choice

  abbrev mute : ℕ → Bool
  mute a = not (is_router s.net a || is_origin s.net x.policy s.p a)

  abbrev told : World Route
  told = record {
    down = s.w.down;
    cut = s.w.cut;
    silent = s.w.silent;
    queue = s.w.queue;
    heard = λ a b. if mute a then None else s.w.heard a b;
    queued = λ a b. if mute a then None else s.w.queued a b;
    route = s.w.route;
  }

  abbrev pub own_world : World Route
  own_world = record { down = s.w.down; cut = s.w.cut; silent = s.w.silent; queue = s.w.queue; heard = told.heard; queued = told.queued; route = λ r. choice X told r }

  router_heard : (a : ℕ) → is_router s.net a ≡ true → mute a ≡ false
  router_heard a router = not_from_true (is_router s.net a || is_origin s.net x.policy s.p a) (or_left (is_router s.net a) (is_origin s.net x.policy s.p a) router)

  origin_heard : (a : ℕ) → is_origin s.net x.policy s.p a ≡ true → mute a ≡ false
  origin_heard a origin = not_from_true (is_router s.net a || is_origin s.net x.policy s.p a) (or_right (is_router s.net a) (is_origin s.net x.policy s.p a) origin)

  module _ (kept : IsKept S s.w) (quiet : IsQuiet s.w) where
    heard_queued : (a b : ℕ) → live S s.w a b ≡ true → s.w.heard a b ≡ s.w.queued a b
    heard_queued a b up = ap (λ (q : List (Option Route)). last_of S q (s.w.heard a b)) (sym (quiet a b)) ∙ kept.last a b up

    -- what another peer announces is taken by no line
    announced_untaken : (r u : ℕ) → is_router s.net u ≡ false → is_origin s.net x.policy s.p u ≡ false → taken_by s.net x.config s.p r u (announced_if s.says u) ≡ None
    announced_untaken r u off other = elim (cases_Bool (s.says u)) [
      | inr still ↦ ap (taken_by s.net x.config s.p r u) (cond-false (s.says u) _ None still) ∙ taken_none s.net x.config s.p r u
      | inl speaks ↦ none_from (taken_by s.net x.config s.p r u (announced_if s.says u)) (λ h e.
          let own : Route = record { path = u ∷ []; tag = no_tag; pref = 0 } in
          let t = taken_parts s.net x.config s.p r u (Some own) h (sym (ap (taken_by s.net x.config s.p r u) (cond-true (s.says u) (Some own) None speaks)) ∙ e) in
          let same : own ≡ t.0 = (let here = t.2 in cc) in
          let line : takes s.net x.config s.p r u (u ∷ []) no_tag ≡ Some t.1 = ap (λ (g : Route). takes s.net x.config s.p r u g.path g.tag) same ∙ t.3 in
          both_ways (is_origin s.net x.policy s.p u) other (k.alone.peer r u t.1 off (s.peers u speaks) line).1)
    ]

    mute_untaken : (r u : ℕ) → live S s.w u r ≡ true → mute u ≡ true → taken_by s.net x.config s.p r u (s.w.heard u r) ≡ None
    mute_untaken r u up silent =
        let off = or_parts (is_router s.net u) (is_origin s.net x.policy s.p u) (not-true (is_router s.net u || is_origin s.net x.policy s.p u) silent) in
        ap (taken_by s.net x.config s.p r u)
        (heard_queued u r up ∙ kept.told u r up refl ∙ cond-false (is_router s.net u) (S.export u r (s.w.route u)) (if s.w.silent r u then None else announced_if s.says u) off.0)
        ∙ elim (cases_Bool (s.w.silent r u)) [
          | inl quiets ↦ ap (taken_by s.net x.config s.p r u) (cond-true (s.w.silent r u) None (announced_if s.says u) quiets) ∙ taken_none s.net x.config s.p r u
          | inr loud ↦ ap (taken_by s.net x.config s.p r u) (cond-false (s.w.silent r u) None (announced_if s.says u) loud) ∙ announced_untaken r u off.0 off.1
        ]

    -- so each takes the same
    heard_same : (r u : ℕ) → taken_by s.net x.config s.p r u (offers S s.w r u) ≡ taken_by s.net x.config s.p r u (offers X told r u)
    heard_same r u = elim (cases_Bool (live S s.w u r)) [
      | inr gone ↦ ap (taken_by s.net x.config s.p r u) (cond-false (live S s.w u r) (s.w.heard u r) None gone ∙ sym (cond-false (live S s.w u r) (told.heard u r) None gone))
      | inl up ↦
          ap (taken_by s.net x.config s.p r u) (cond-true (live S s.w u r) (s.w.heard u r) None up)
          ∙ elim (cases_Bool (mute u)) [
            | inr hears ↦ ap (taken_by s.net x.config s.p r u) (sym (cond-false (mute u) None (s.w.heard u r) hears))
            | inl silent ↦ mute_untaken r u up silent ∙ sym (ap (taken_by s.net x.config s.p r u) (cond-true (mute u) None (s.w.heard u r) silent) ∙ taken_none s.net x.config s.p r u)
          ]
          ∙ ap (taken_by s.net x.config s.p r u) (sym (cond-true (live S s.w u r) (told.heard u r) None up))
    ]

    gives_same : (r u : ℕ) → taken_by s.net (s.m r).config s.p r u (offers S s.w r u) ≡ taken_by s.net x.config s.p r u (offers X told r u)
    gives_same r u = taken_same r u (offers S s.w r u) ∙ heard_same r u

    -- who originates as x does chooses the same
    chosen_same : (r : ℕ) → is_origin s.net (s.m r).policy s.p r ≡ is_origin s.net x.policy s.p r → S.choose r (offers S s.w r) ≡ X.choose r (offers X told r)
    chosen_same r starts = elim (cases_Bool (is_origin s.net x.policy s.p r)) [
      | inl origin ↦
          chosen_own s.net (s.m r).policy (s.m r).config s.p r (offers S s.w r) (starts ∙ origin)
          ∙ ap (λ (t : Tag). Some (record { path = r ∷ []; tag = t; pref = 0 })) ((k.says r).own r)
          ∙ sym (chosen_own s.net x.policy x.config s.p r (offers X told r) origin)
      | inr other ↦
          chosen_other s.net (s.m r).policy (s.m r).config s.p r (offers S s.w r) (starts ∙ other)
          ∙ ap (λ (gives : ℕ → Option Route). option_map (λ (y : ℕ × Route). y.1) (first_of s.net gives (neighbours s.net r))) (λ i u. gives_same r u i)
          ∙ sym (chosen_other s.net x.policy x.config s.p r (offers X told r) other)
    ]

    pub route_same : (r : ℕ) → is_origin s.net (s.m r).policy s.p r ≡ is_origin s.net x.policy s.p r → s.w.route r ≡ own_world.route r
    route_same r starts = kept.chosen r refl ∙ ap (λ (o : Option Route). if running S s.w r then o else None) (chosen_same r starts)

    -- and all send the same
    export_same : (a b : ℕ) → S.export a b (s.w.route a) ≡ X.export a b (own_world.route a)
    export_same a b = sent_same a b (s.w.route a) ∙ elim (k.starts a) [
      | inl starts ↦ ap (exported_by s.net x.config s.p a b) (route_same a starts)
      | inr idle ↦
          ap (exported_by s.net x.config s.p a b) (kept.chosen a refl)
          ∙ idle_unsent a b (s.m a).policy (s.m a).config (k.says a) idle (offers S s.w a) (running S s.w a)
          ∙ sym (idle_unsent a b x.policy x.config itself idle (offers X told a) (running S s.w a))
    ]
      where
        itself : SayAlike s.net s.p x.config x.config
        itself = record { own = λ r. refl; sent = λ r z tag. refl; taken = λ r u path tag. refl }

    queued_is : (a b : ℕ) → mute a ≡ false → live S s.w a b ≡ true → own_world.queued a b ≡ exported S s.w a b
    queued_is a b hears up = cond-false (mute a) None (s.w.queued a b) hears ∙ kept.told a b up refl

    told_here : (a b : ℕ) → live S s.w a b ≡ true → own_world.queued a b ≡ exported X own_world a b
    told_here a b up = elim (cases_Bool (is_router s.net a)) [
      | inl router ↦
          queued_is a b (router_heard a router) up ∙ cond-true (is_router s.net a) (S.export a b (s.w.route a)) (if s.w.silent b a then None else announced_if s.says a) router
          ∙ export_same a b ∙ sym (cond-true (is_router s.net a) (X.export a b (own_world.route a)) (if s.w.silent b a then None else X.announced a) router)
      | inr off ↦
          elim (cases_Bool (is_origin s.net x.policy s.p a)) [
            | inl origin ↦
                queued_is a b (origin_heard a origin) up ∙ cond-false (is_router s.net a) (S.export a b (s.w.route a)) (if s.w.silent b a then None else announced_if s.says a) off
                ∙ ap (λ (o : Option Route). if s.w.silent b a then None else o) (cond-true (s.says a) _ None (k.speaks a off origin) ∙ sym (cond-true (is_origin s.net x.policy s.p a) _ None origin))
            | inr other ↦
                cond-true (mute a) None (s.w.queued a b) (not_from_false (is_router s.net a || is_origin s.net x.policy s.p a) (or_from (is_router s.net a) (is_origin s.net x.policy s.p a) off other))
                ∙ sym (both_none (s.w.silent b a) (X.announced a) (cond-false (is_origin s.net x.policy s.p a) _ None other))
          ]
          ∙ sym (cond-false (is_router s.net a) (X.export a b (own_world.route a)) (if s.w.silent b a then None else X.announced a) off)
    ]

    own_kept : IsKept X own_world
    own_kept = record {
      both = kept.both;
      last = λ a b up. (
          ap (λ (q : List (Option Route)). last_of X q (own_world.heard a b)) (quiet a b)
          ∙ ap (λ (o : Option Route). if mute a then None else o) (heard_queued a b up));
      told = λ a b up due. told_here a b up;
      chosen = λ r all. refl;
      idle = λ r stops. cond-false (running S s.w r) (X.choose r (offers X told r)) None stops;
      empty = λ a b gone. (
          let e = kept.empty a b gone in
          (e.0, both_none (mute a) (s.w.heard a b) e.1, both_none (mute a) (s.w.queued a b) e.2));
    }

    -- ---- where its evidence passes

    module _ (rules : IsNet s.net) (prefix : IsPrefix s.p) (cs : List PlainCaseEvidence) (lawful : IsPolicyOf s.net x.policy) (passes : Passes s.net x.policy x.config cs)
        (f : Failures) (scenario : IsScenarioOf s.net s.w f) where
      own_scenario : IsScenarioOf s.net own_world f
      own_scenario = record { dead = scenario.dead; links = scenario.links; silent = scenario.silent }

      rest : IsAtRest s.net x.policy x.config s.p f own_world
      rest = own_rest s.net s.p x rules own_world f own_scenario own_kept quiet cs lawful passes prefix

      pub is_heard : IsHeard s.net s.p x f s.w (routes_of s.net own_world)
      is_heard = record {
        settled = rest.settled;
        right = passing_evidence_is_right s.net x.policy x.config cs rules lawful passes s.p f (routes_of s.net own_world) prefix (routes_size s.net own_world) rest.settled.stable;
        heard = λ r peer router there.
            ap (option_map (λ (g : Route). peer ∷ g.path)) (sym (cond-false (mute r) None (s.w.heard r peer) (router_heard r router))) ∙ rest.heard r peer router there;
      }

    pub held_there : (r : ℕ) → is_router s.net r ≡ true → is_origin s.net (s.m r).policy s.p r ≡ is_origin s.net x.policy s.p r → s.w.route r ≡ route_at (routes_of s.net own_world) r
    held_there r router starts =
        route_same r starts ∙ sym (ap (λ (o : Outcome). route_at o r) (sym (same_routes s.net own_world)) ∙ held s.net own_world.route r router)
