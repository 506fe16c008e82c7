-- The speakers of a mixture are speakers. What one of them chooses somebody gave; what it sends and takes follows from its lines.
use Rattle.std.proofs.Common.{◌≡◌, ℕ, Bool, true, false, Option, Some, None, refl, sym, ap, ◌∙◌}
use Rattle.std.specs.Prelude.{option_map, if◌then◌else◌}
use Rattle.std.specs.Option.{option_and_then}
use Rattle.std.proofs.lemmas.Bool.{cond-true, cond-false, true≢false}
use Rattle.list_law.proofs.Options.{option_map_parts}
use Rattle.net_base.specs.declared.numbers.Tag.{Tag}
use Rattle.net_base.specs.Network.{PlainNet, IsNet, is_peer}
use Rattle.net_base.specs.Numbers.{no_tag}
use Rattle.net_base.specs.Prefixes.{PlainPrefix}
use Rattle.net_base.specs.Locations.{neighbours}
use Rattle.policy_base.specs.Policies.{PlainPolicy}
use Rattle.policy_base.specs.Governing.{is_origin}
use Rattle.config_base.specs.declared.route.Route.{Route}
use Rattle.config_base.specs.Configs.{PlainConfig}
use Rattle.config_base.specs.Lines.{block_at, class_of, export_of, import_of, own_route}
use Rattle.event_base.specs.Speaking.{chosen_by, exported_by, extended, first_of, message, taken_by}
use Rattle.event_law.specs.Kept.{AreSpeakers}
use Rattle.event_law.proofs.Quiet as quiet_law
use Rattle.event_law.proofs.Running.{first_is_given}
use Rattle.rollout_base.specs.Lines.{sends, takes}
use Rattle.rollout_base.specs.Mixtures.{Mixture, mixed}

pub are_speakers : (net : PlainNet) (says : ℕ → Bool) (p : PlainPrefix) (m : Mixture) → IsNet net → AreSpeakers (mixed net says p m)
are_speakers net says p m rules = (let each = quiet_law.are_speakers net (m 0).policy (m 0).config p rules in record { near = each.near; apart = each.apart })

-- ---- what is sent and taken, by the lines

pub exported_none : (net : PlainNet) (config : PlainConfig) (p : PlainPrefix) (a b : ℕ) → exported_by net config p a b None ≡ None
exported_none net config p a b = by (class_of config p)
  where
    by : (c : Option ℕ) → option_and_then (λ class. option_and_then (λ (h : Route). option_map (message h) (export_of net config class a b h.tag)) None) c ≡ None
    by None = refl
    by (Some class) = refl

pub exported_some : (net : PlainNet) (config : PlainConfig) (p : PlainPrefix) (a b : ℕ) (h : Route) → exported_by net config p a b (Some h) ≡ option_map (message h) (sends net config p a b h.tag)
exported_some net config p a b h = by (class_of config p)
  where
    by : (c : Option ℕ) → option_and_then (λ class. option_and_then (λ (g : Route). option_map (message g) (export_of net config class a b g.tag)) (Some h)) c
        ≡ option_map (message h) (option_and_then (λ class. export_of net config class a b h.tag) c)
    by None = refl
    by (Some class) = refl

pub taken_none : (net : PlainNet) (config : PlainConfig) (p : PlainPrefix) (r u : ℕ) → taken_by net config p r u None ≡ None
taken_none net config p r u = by (class_of config p)
  where
    by : (c : Option ℕ) → option_and_then (λ class. option_and_then (λ (m : Route). option_map (extended r m) (import_of net config class r u m.path m.tag)) None) c ≡ None
    by None = refl
    by (Some class) = refl

pub taken_some : (net : PlainNet) (config : PlainConfig) (p : PlainPrefix) (r u : ℕ) (m : Route) → taken_by net config p r u (Some m) ≡ option_map (extended r m) (takes net config p r u m.path m.tag)
taken_some net config p r u m = by (class_of config p)
  where
    by : (c : Option ℕ) → option_and_then (λ class. option_and_then (λ (g : Route). option_map (extended r g) (import_of net config class r u g.path g.tag)) (Some m)) c
        ≡ option_map (extended r m) (option_and_then (λ class. import_of net config class r u m.path m.tag) c)
    by None = refl
    by (Some class) = refl

-- what a route was sent from, and what one was made of
pub sent_parts : (net : PlainNet) (config : PlainConfig) (p : PlainPrefix) (a b : ℕ) (o : Option Route) (y : Route) → exported_by net config p a b o ≡ Some y
    → (h : Route) × (t : Tag) × (o ≡ Some h) × (sends net config p a b h.tag ≡ Some t) × (message h t ≡ y)
sent_parts net config p a b None y e = absurd (let clash : None ≡ Some y = sym (exported_none net config p a b) ∙ e in cc)
sent_parts net config p a b (Some h) y e =
    let t = option_map_parts (message h) (sends net config p a b h.tag) y (sym (exported_some net config p a b h) ∙ e) in
    (h, t.0, refl, t.1, t.2)

pub taken_parts : (net : PlainNet) (config : PlainConfig) (p : PlainPrefix) (r u : ℕ) (o : Option Route) (y : Route) → taken_by net config p r u o ≡ Some y
    → (m : Route) × (q : Tag × ℕ) × (o ≡ Some m) × (takes net config p r u m.path m.tag ≡ Some q) × (extended r m q ≡ y)
taken_parts net config p r u None y e = absurd (let clash : None ≡ Some y = sym (taken_none net config p r u) ∙ e in cc)
taken_parts net config p r u (Some m) y e =
    let q = option_map_parts (extended r m) (takes net config p r u m.path m.tag) y (sym (taken_some net config p r u m) ∙ e) in
    (m, q.0, refl, q.1, q.2)

-- ---- towards a router the tag stays

kept_through : {A B : Type 0} (f : A → Option B) (P : B → Type 0) (o : Option A) (y : B) → ((x : A) → f x ≡ Some y → P y) → option_and_then f o ≡ Some y → P y
kept_through f P None y each h = absurd (cc)
kept_through f P (Some x) y each h = each x h

sent_tag : (permitted peer : Bool) (tag kept : Tag) → peer ≡ false → (if permitted then Some (if peer then no_tag else tag) else None) ≡ Some kept → kept ≡ tag
sent_tag true true tag kept router h = absurd (true≢false router)
sent_tag true false tag kept router h = cc
sent_tag false peer tag kept router h = absurd (cc)

pub sent_to_router : (net : PlainNet) (config : PlainConfig) (p : PlainPrefix) (a b : ℕ) (tag t : Tag) → is_peer net b ≡ false → sends net config p a b tag ≡ Some t → t ≡ tag
sent_to_router net config p a b tag t off h =
    kept_through (λ class. export_of net config class a b tag) (λ k. k ≡ tag) (class_of config p) t
    (λ class e. kept_through _ (λ k. k ≡ tag) (block_at net config a b) t (λ block f. sent_tag _ (is_peer net b) tag t off f) e) h

-- ---- what is chosen was given

-- a router that is an origin chooses its own route
pub chosen_own : (net : PlainNet) (policy : PlainPolicy) (config : PlainConfig) (p : PlainPrefix) (r : ℕ) (offer : ℕ → Option Route) → is_origin net policy p r ≡ true
    → chosen_by net policy config p r offer ≡ Some (own_route net config p r)
chosen_own net policy config p r offer origin = cond-true (is_origin net policy p r) _ _ origin

-- another one chooses what it makes of what some neighbour says
pub chosen_other : (net : PlainNet) (policy : PlainPolicy) (config : PlainConfig) (p : PlainPrefix) (r : ℕ) (offer : ℕ → Option Route) → is_origin net policy p r ≡ false
    → chosen_by net policy config p r offer ≡ option_map (λ (x : ℕ × Route). x.1) (first_of net (λ u. taken_by net config p r u (offer u)) (neighbours net r))
chosen_other net policy config p r offer other = cond-false (is_origin net policy p r) _ _ other

pub chosen_parts : (net : PlainNet) (policy : PlainPolicy) (config : PlainConfig) (p : PlainPrefix) (r : ℕ) (offer : ℕ → Option Route) (y : Route) → is_origin net policy p r ≡ false
    → chosen_by net policy config p r offer ≡ Some y
    → (u : ℕ) × (m : Route) × (q : Tag × ℕ) × (offer u ≡ Some m) × (takes net config p r u m.path m.tag ≡ Some q) × (extended r m q ≡ y)
chosen_parts net policy config p r offer y other e =
    let gives : ℕ → Option Route = λ u. taken_by net config p r u (offer u) in
    let x = option_map_parts (λ (x : ℕ × Route). x.1) (first_of net gives (neighbours net r)) y (sym (chosen_other net policy config p r offer other) ∙ e) in
    let m = taken_parts net config p r x.0.0 (offer x.0.0) y (first_is_given net gives (neighbours net r) x.0 x.1 ∙ ap Some x.2) in
    (x.0.0, m.0, m.1, m.2, m.3, m.4)
