-- Exporting, announcing and choosing keep what may be held.
use Rattle.std.proofs.Common.{◌≡◌, ℕ, Bool, true, false, List, [], ◌∷◌, Option, Some, None, refl, sym, ap, ◌∙◌, subst, inl, inr}
use Rattle.std.specs.Prelude.{not, option_map, if◌then◌else◌}
use Rattle.std.specs.Option.{option_and_then}
use Rattle.std.proofs.lemmas.Bool.{and_from, cases_Bool, cond-true, cond-false, not_from_false, true≢false}
use Rattle.list_law.proofs.Options.{cases_Option, option_and_then_parts, option_map_parts}
use Rattle.net_base.specs.declared.loc.LocSet.{LocSet}
use Rattle.net_base.specs.declared.numbers.Tag.{Tag}
use Rattle.net_base.specs.Locations.{neighbours}
use Rattle.net_base.specs.Network.{PlainNet, IsNet, is_peer, is_router}
use Rattle.net_base.specs.Numbers.{no_tag}
use Rattle.net_base.specs.Prefixes.{PlainPrefix}
use Rattle.net_base.specs.Sets.{holds}
use Rattle.policy_base.specs.Policies.{PlainPolicy, IsPolicyOf}
use Rattle.policy_base.specs.Governing.{is_origin, is_origin_by, originated_at}
use Rattle.config_base.specs.declared.route.Route.{Route}
use Rattle.config_base.specs.Configs.{PlainConfig}
use Rattle.config_base.specs.Lines.{class_of, export_of, import_of, is_looped, own_route}
use Rattle.outcome_base.specs.Announcements.{taken_under}
use Rattle.evidence_law.proofs.ClassFound.{originated_by}
use Rattle.outcome_law.proofs.Inside.{refuses_same, taken-some}
use Rattle.outcome_law.proofs.Peers.{peers_are_origins}
use Rattle.event_base.specs.declared.event.Event.{Event}
use Rattle.event_base.specs.Speaking.{announced_by, chosen_by, exported_by, extended, first_of, message, speakers_of, taken_by}
use Rattle.event_base.specs.Steps.{opening}
use Rattle.event_base.specs.World.{Speakers}
use Rattle.event_law.specs.Kinds.{AreKinds, Held, IsKind}
use Rattle.event_law.proofs.KindsKept.{opening-kinds, run-kinds}
use Rattle.event_law.proofs.Running.{first_is_given}
use Rattle.event_law.proofs.Waiting.{said}
use Rattle.event_law.specs.Laws.{world_after}
use Rattle.motion_law.proofs.Taken.{line_at}
use Rattle.motion_law.specs.Events.{EventsStayWithin, held_alone, sent_alone}
use Rattle.motion_law.specs.Ever.{MayHold, MayHold as may, MaySend}

-- what isn't a router and is an origin is a peer
a_peer : (net : PlainNet) (policy : PlainPolicy) (p : PlainPrefix) (l : ℕ) → IsPolicyOf net policy → is_router net l ≡ false → is_origin net policy p l ≡ true → is_peer net l ≡ true
a_peer net policy p l kept off origin = elim (cases_Option (originated_at policy.origins p)) [
  | inl none ↦ sym (peers_are_origins net policy p l none) ∙ origin
  | inr at ↦
      let item = originated_by policy.origins p at.0 at.1 in
      let holds_it : holds item.0.at l ≡ true = ap (λ (x : LocSet). holds x l) item.3 ∙ sym (ap (λ (o : Option LocSet). is_origin_by net o l) at.1) ∙ origin in
      absurd (true≢false (sym (kept.routers item.0 l item.1 holds_it) ∙ off))
]

module _ (net : PlainNet) (policy : PlainPolicy) (config : PlainConfig) (p : PlainPrefix) (rules : IsNet net) (kept : IsPolicyOf net policy) where
  abbrev S : Speakers Route
  S = speakers_of net policy config p

  abbrev At : ℕ → Route → Type 0
  At r h = MayHold net policy config p r (held_alone h)

  -- a message of a router, or of a peer
  record On (a b : ℕ) (m : Route) : Type 0 where
    router : is_router net a ≡ true → MaySend net policy config p a b (sent_alone m)
    peer : is_router net a ≡ false → (is_peer net a ≡ true) × (m.path ≡ a ∷ []) × (m.tag ≡ no_tag)

  exports : (a b : ℕ) (m : Option Route) → is_router net a ≡ true → Held (At a) m → Held (On a b) (exported_by net config p a b m)
  exports a b o router held y e =
      let class = option_and_then_parts (λ (k : ℕ). option_and_then (λ (h : Route). option_map (message h) (export_of net config k a b h.tag)) o) (class_of config p) y e in
      let h = option_and_then_parts (λ (h : Route). option_map (message h) (export_of net config class.0 a b h.tag)) o y class.2 in
      let t = option_map_parts (message h.0) (export_of net config class.0 a b h.0.tag) y h.2 in
      record {
        router = λ on. record {
          class = class.0;
          of_class = class.1;
          of = held_alone h.0;
          held = held h.0 h.1;
          permits = t.1 ∙ ap (λ (x : Route). Some x.tag) t.2;
          path = ap (λ (x : Route). x.path) (sym t.2);
          behind = refl;
        };
        peer = λ off. absurd (true≢false (sym router ∙ off));
      }

  announces : (a b : ℕ) → is_router net a ≡ false → Held (On a b) (announced_by net policy p a)
  announces a b off y e = elim (cases_Bool (is_origin net policy p a)) [
    | inl origin ↦ (
        let is : Some (record { path = a ∷ []; tag = no_tag; pref = 0 }) ≡ Some y =
        sym (cond-true (is_origin net policy p a) (Some (record { path = a ∷ []; tag = no_tag; pref = 0 })) None origin) ∙ e in
        let same : record { path = a ∷ []; tag = no_tag; pref = 0 } ≡ y = cc in
        record {
          router = λ on. absurd (true≢false (sym on ∙ off));
          peer = λ f. (a_peer net policy p a kept off origin, ap (λ (z : Route). z.path) (sym same), ap (λ (z : Route). z.tag) (sym same));
        })
    | inr other ↦ (
        let none : None ≡ Some y = sym (cond-false (is_origin net policy p a) (Some (record { path = a ∷ []; tag = no_tag; pref = 0 })) None other) ∙ e in
        absurd (cc))
  ]

  -- an import is what is taken where nothing stands behind
  under : (class r u : ℕ) (m : Route) (q : Tag × ℕ) → is_router net r ≡ true → import_of net config class r u m.path m.tag ≡ Some q
      → taken_under net config class r u (sent_alone m) ≡ Some (held_alone (extended r m q))
  under class r u m q router e =
      let parts = unless (is_looped net r u m.path) (line_at net config class r u m.tag) q e in
      taken-some net config class r u (sent_alone m) q (refuses_same net r u m.path [] router refl ∙ parts.0) parts.1
    where
      unless : (b : Bool) (o : Option (Tag × ℕ)) (q : Tag × ℕ) → (if b then None else o) ≡ Some q → (b ≡ false) × (o ≡ Some q)
      unless true o q h = absurd (cc)
      unless false o q h = (refl, h)

  takes : (r u : ℕ) (o : Option Route) → is_router net r ≡ true → is_origin net policy p r ≡ false → Held (On u r) o → Held (At r) (taken_by net config p r u o)
  takes r u o router other on y e =
      let class = option_and_then_parts (λ (k : ℕ). option_and_then (λ (m : Route). option_map (extended r m) (import_of net config k r u m.path m.tag)) o) (class_of config p) y e in
      let m = option_and_then_parts (λ (m : Route). option_map (extended r m) (import_of net config class.0 r u m.path m.tag)) o y class.2 in
      let q = option_map_parts (extended r m.0) (import_of net config class.0 r u m.0.path m.0.tag) y m.2 in
      let who = and_from (is_router net r) (not (is_origin net policy p r)) router (not_from_false _ other) in
      let taken : taken_under net config class.0 r u (sent_alone m.0) ≡ Some (held_alone y) = under class.0 r u m.0 q.0 router q.1 ∙ ap (λ (x : Route). Some (held_alone x)) q.2 in
      let said = on m.0 m.1 in
      elim (cases_Bool (is_router net u)) [
        | inl from ↦
            let s = said.router from in
            let same : s.class ≡ class.0 = cc in
            let out = subst (λ (i : ℕ). export_of net config i u r s.of.route.tag ≡ Some m.0.tag) same s.permits in
            let way = subst (λ (b : List ℕ). taken_under net config class.0 r u (record { path = m.0.path; behind = b; tag = m.0.tag }) ≡ Some (held_alone y)) s.behind taken in
            may.of_router u class.0 s.of m.0.tag who from s.held class.1 out
            (subst (λ (a : List ℕ). taken_under net config class.0 r u (record { path = a; behind = s.of.behind; tag = m.0.tag }) ≡ Some (held_alone y)) s.path way)
        | inr off ↦
            let x = said.peer off in
            may.of_peer u class.0 (record { behind = []; tag = m.0.tag }) who x.0 class.1
            (subst (λ (a : List ℕ). taken_under net config class.0 r u (record { path = a; behind = []; tag = m.0.tag }) ≡ Some (held_alone y)) x.1 taken)
      ]

  chooses : (r : ℕ) (offer : ℕ → Option Route) → is_router net r ≡ true → ((u : ℕ) → Held (On u r) (offer u)) → Held (At r) (chosen_by net policy config p r offer)
  chooses r offer router held y e = elim (cases_Bool (is_origin net policy p r)) [
    | inl origin ↦ (
        let is : Some (own_route net config p r) ≡ Some y = sym (cond-true (is_origin net policy p r) (Some (own_route net config p r))
        (option_map (λ (x : ℕ × Route). x.1) (first_of net gives (neighbours net r))) origin) ∙ e in
        let same : own_route net config p r ≡ y = cc in
        subst (At r) same (may.own (and_from (is_router net r) (is_origin net policy p r) router origin)))
    | inr other ↦ (
        let is : option_map (λ (x : ℕ × Route). x.1) (first_of net gives (neighbours net r)) ≡ Some y =
        sym (cond-false (is_origin net policy p r) (Some (own_route net config p r)) (option_map (λ (x : ℕ × Route). x.1) (first_of net gives (neighbours net r))) other) ∙ e in
        let x = option_map_parts (λ (x : ℕ × Route). x.1) (first_of net gives (neighbours net r)) y is in
        takes r x.0.0 (offer x.0.0) router other (held x.0.0) y (first_is_given net gives (neighbours net r) x.0 x.1 ∙ ap Some x.2))
  ]
    where
      gives : ℕ → Option Route
      gives u = taken_by net config p r u (offer u)

  kind : IsKind S At On
  kind = record { exports = exports; announces = announces; chooses = chooses }

  pub events_within : (es : List Event) → AreKinds At (λ a b m. is_router net a ≡ true → MaySend net policy config p a b (sent_alone m)) (world_after net policy config p es)
  events_within es =
      said At At On (λ a b m. is_router net a ≡ true → MaySend net policy config p a b (sent_alone m)) (λ r h k. k) (λ a b m k. k.router) (world_after net policy config p es)
      (run-kinds S At On kind es (opening S) (opening-kinds S At On kind))

pub events_stay_within : EventsStayWithin
events_stay_within net policy config p es rules kept = events_within net policy config p rules kept es
