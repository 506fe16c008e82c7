-- What a neighbour gives by the lines of a class is what the laws of routing say that it gives.
use Rattle.std.proofs.Common.{◌≡◌, ℕ, Bool, true, false, List, [], ◌∷◌, Option, Some, None, refl, sym, ap, ◌∙◌, inl, inr}
use Rattle.std.specs.Prelude.{not, if◌then◌else◌, option_map}
use Rattle.std.specs.Option.{option_and_then}
use Rattle.std.proofs.lemmas.Bool.{and_parts, cases_Bool, true≢false}
use Rattle.list_law.proofs.Options.{cases_Option}
use Rattle.net_base.specs.declared.numbers.Tag.{Tag}
use Rattle.net_base.specs.Network.{PlainNet, IsNet, is_location, is_peer, is_router}
use Rattle.net_base.specs.Numbers.{no_tag}
use Rattle.net_base.specs.Prefixes.{PlainPrefix}
use Rattle.net_base.proofs.RoutersAndPeers.{router_known, router_no_peer, peer_no_router, router_or_peer}
use Rattle.policy_base.specs.Policies.{PlainPolicy}
use Rattle.policy_base.specs.Governing.{is_origin}
use Rattle.config_base.specs.declared.route.Route.{Route}
use Rattle.config_base.specs.Configs.{PlainConfig}
use Rattle.config_base.specs.Lines.{class_of, block_at, import_of, export_of}
use Rattle.outcome_base.specs.Outcomes.{Failures, Outcome, is_dead, is_silent, is_live, route_at, sent, given}
use Rattle.evidence_law.proofs.Setting.{network_of, alive_of, lines_of, lines_at, line_of, gift_of}
use Rattle.evidence_law.proofs.Loops.{import_from_router, import_from_peer}
use Rattle.routing_law.specs.Network as law
use Rattle.routing_law.specs.Lines as line
use Rattle.net_base.proofs.Links.{linked_known}

-- ---- what a line takes

kept_through : {A B : Type 0} (f : A → Option B) (P : B → Type 0) (o : Option A) (y : B) → ((x : A) → f x ≡ Some y → P y) → option_and_then f o ≡ Some y → P y
kept_through f P None y each h = absurd (cc)
kept_through f P (Some x) y each h = each x h

sent_tag : (permitted peer : Bool) (tag kept : Tag) → peer ≡ false → (if permitted then Some (if peer then no_tag else tag) else None) ≡ Some kept → kept ≡ tag
sent_tag true true tag kept router h = absurd (true≢false router)
sent_tag true false tag kept router h = cc
sent_tag false peer tag kept router h = absurd (cc)

-- towards a router the tag stays
pub export_to_router : (net : PlainNet) (config : PlainConfig) (class from to : ℕ) (tag kept : Tag) → is_peer net to ≡ false → export_of net config class from to tag ≡ Some kept → kept ≡ tag
export_to_router net config class from to tag kept router h =
    kept_through _ (λ k. k ≡ tag) (block_at net config from to) kept (λ b e. sent_tag _ (is_peer net to) tag kept router e) h

-- ---- what is given

-- without a class nobody gives anything
pub no_gift : (net : PlainNet) (policy : PlainPolicy) (config : PlainConfig) (f : Failures) (p : PlainPrefix) (outcome : Outcome) → class_of config p ≡ None
    → (z r : ℕ) → given net policy config f p outcome z r ≡ None
no_gift net policy config f p outcome free z r = elim (cases_Bool (is_live net f z r)) [
  | inl t ↦ rw (t, free) refl
  | inr t ↦ rw t refl
]

module _ (net : PlainNet) (policy : PlainPolicy) (config : PlainConfig) (f : Failures) (p : PlainPrefix) (outcome : Outcome) (class : ℕ)
    (rules : IsNet net) (of_class : class_of config p ≡ Some class) where
  abbrev pub heard : ℕ → ℕ → Option line.LineRoute
  heard v u = line.line_heard (network_of net (is_origin net policy p)) (alive_of net f) (lines_of net config p class) (lines_at outcome) v u

  abbrev pub Same : ℕ → ℕ → Type 0
  Same u v = option_map line_of (given net policy config f p outcome u v) ≡ heard v u

  -- ---- what is sent, and what is given of it

  pub sent-unrouted : (u v : ℕ) → is_peer net u ≡ false → route_at outcome u ≡ None → sent net policy config f p outcome u v ≡ None
  sent-unrouted u v off r = rw (of_class, r, off) refl

  pub sent-refused : (u v : ℕ) (h : Route) → is_peer net u ≡ false → route_at outcome u ≡ Some h → export_of net config class u v h.tag ≡ None → sent net policy config f p outcome u v ≡ None
  sent-refused u v h off r e = rw (of_class, r, e, off) refl

  pub sent-permitted : (u v : ℕ) (h : Route) (t : Tag) → is_peer net u ≡ false → route_at outcome u ≡ Some h
      → export_of net config class u v h.tag ≡ Some t → sent net policy config f p outcome u v ≡ Some (h.path, t)
  sent-permitted u v h t off r e = rw (of_class, r, e, off) refl

  pub given-unsent : (u v : ℕ) → is_live net f u v ≡ true → sent net policy config f p outcome u v ≡ None → given net policy config f p outcome u v ≡ None
  given-unsent u v live s = rw (s, of_class, live) refl

  pub given-refused : (u v : ℕ) (path : List ℕ) (t : Tag) → is_live net f u v ≡ true → sent net policy config f p outcome u v ≡ Some (path, t)
      → import_of net config class v u path t ≡ None → given net policy config f p outcome u v ≡ None
  given-refused u v path t live s i = rw (s, of_class, i, live) refl

  pub given-taken : (u v : ℕ) (path : List ℕ) (t : Tag) (q : Tag × ℕ) → is_live net f u v ≡ true → sent net policy config f p outcome u v ≡ Some (path, t)
      → import_of net config class v u path t ≡ Some q → given net policy config f p outcome u v ≡ Some (record { path = v ∷ path; tag = q.0; pref = q.1 })
  given-taken u v path t q live s i = rw (s, of_class, i, live) refl

  -- ---- what is heard

  module _ (u v : ℕ) (live : is_live net f u v ≡ true) (off : is_peer net u ≡ false) (router : is_router net u ≡ true) where
    heard-unrouted : route_at outcome u ≡ None → heard v u ≡ None
    heard-unrouted r = rw (r, live, off, router) refl

    heard-refused : (h : Route) → route_at outcome u ≡ Some h → export_of net config class u v h.tag ≡ None → heard v u ≡ None
    heard-refused h r e = elim (cases_Bool (law.stands_on v h.path)) [
      | inl t ↦ rw (r, e, t, live, off, router) refl
      | inr t ↦ rw (r, e, t, live, off, router) refl
    ]

    heard-extended : (h : Route) (t : Tag) → route_at outcome u ≡ Some h → export_of net config class u v h.tag ≡ Some t
        → heard v u ≡ (if law.stands_on v h.path then None else option_map (line.taken_by v h.path) (option_map gift_of (import_of net config class v u [] h.tag)))
    heard-extended h t r e = elim (cases_Bool (law.stands_on v h.path)) [
      | inl s ↦ rw (r, e, s, live, off, router) refl
      | inr s ↦ rw (r, e, s, live, off, router) refl
    ]

  heard-announced : (u v : ℕ) → is_live net f u v ≡ true → is_peer net u ≡ true → is_silent f v u ≡ false → is_origin net policy p u ≡ true
      → heard v u ≡ option_map (line.taken_by v (u ∷ [])) (option_map gift_of (import_of net config class v u [] no_tag))
  heard-announced u v live peer silent origin =
      let lives : not (is_dead f u) ≡ true = (and_parts _ _ (and_parts _ _ live).0).1 in
      elim (cases_Option (import_of net config class v u [] no_tag)) [
        | inl e ↦ rw (e, live, silent, origin, lives, peer_no_router net u peer, peer) refl
        | inr e ↦ rw (e.1, live, silent, origin, lives, peer_no_router net u peer, peer) refl
      ]

  -- ---- the two are the same

  extended_same : (u v : ℕ) (h : Route) → is_live net f u v ≡ true → is_peer net u ≡ false → is_router net u ≡ true → is_location net v ≡ true
      → route_at outcome u ≡ Some h → export_of net config class u v h.tag ≡ Some h.tag → Same u v
  extended_same u v h live off router known route sends =
      let takes = import_from_router net config class v u h.path h.tag rules known off in
      let out = sent-permitted u v h h.tag off route sends in
      let there = heard-extended u v live off router h h.tag route sends in
      elim (cases_Bool (law.stands_on v h.path)) [
        | inl t ↦ rw (given-refused u v h.path h.tag live out (takes ∙ rw t refl), there, t) refl
        | inr t ↦ elim (cases_Option (import_of net config class v u [] h.tag)) [
          | inl e ↦ rw (given-refused u v h.path h.tag live out (takes ∙ rw (e, t) refl), there, e, t) refl
          | inr e ↦ rw (given-taken u v h.path h.tag e.0 live out (takes ∙ rw (e.1, t) refl), there, e.1, t) refl
        ]
      ]

  from_router : (u v : ℕ) → is_live net f u v ≡ true → is_peer net u ≡ false → is_router net u ≡ true → is_router net v ≡ true → Same u v
  from_router u v live off router to = elim (cases_Option (route_at outcome u)) [
    | inl r ↦ rw (given-unsent u v live (sent-unrouted u v off r), heard-unrouted u v live off router r) refl
    | inr r ↦ elim (cases_Option (export_of net config class u v r.0.tag)) [
      | inl e ↦ rw (given-unsent u v live (sent-refused u v r.0 off r.1 e), heard-refused u v live off router r.0 r.1 e) refl
      | inr e ↦
          let same = export_to_router net config class u v r.0.tag e.0 (router_no_peer net v to) e.1 in
          extended_same u v r.0 live off router (router_known net v to) r.1 (e.1 ∙ ap Some same)
    ]
  ]

  announced_same : (u v : ℕ) → is_live net f u v ≡ true → is_peer net u ≡ true → is_silent f v u ≡ false → is_origin net policy p u ≡ true → Same u v
  announced_same u v live peer silent origin =
      let out : sent net policy config f p outcome u v ≡ Some (u ∷ [], no_tag) = rw (peer, silent, origin) refl in
      let takes = import_from_peer net config class v u no_tag rules peer in
      let there = heard-announced u v live peer silent origin in
      elim (cases_Option (import_of net config class v u [] no_tag)) [
        | inl e ↦ rw (given-refused u v (u ∷ []) no_tag live out (takes ∙ e), there, e) refl
        | inr e ↦ rw (given-taken u v (u ∷ []) no_tag e.0 live out (takes ∙ e.1), there, e.1) refl
      ]

  from_peer : (u v : ℕ) → is_live net f u v ≡ true → is_peer net u ≡ true → Same u v
  from_peer u v live peer = elim (cases_Bool (is_silent f v u)) [
    | inl s ↦
        let out : sent net policy config f p outcome u v ≡ None = elim (cases_Bool (is_origin net policy p u)) [
          | inl o ↦ rw (peer, s, o) refl
          | inr o ↦ rw (peer, s, o) refl
        ] in
        rw (given-unsent u v live out) (sym (rw (live, peer, s) refl))
    | inr s ↦ elim (cases_Bool (is_origin net policy p u)) [
      | inl o ↦ announced_same u v live peer s o
      | inr o ↦
          let out : sent net policy config f p outcome u v ≡ None = rw (peer, s, o) refl in
          rw (given-unsent u v live out) (sym (rw (live, s, o, peer_no_router net u peer, peer) refl))
    ]
  ]

  -- what the lines make of a neighbour's route is what the laws of routing say
  pub given-heard : (u v : ℕ) → is_router net v ≡ true → Same u v
  given-heard u v to = elim (cases_Bool (is_live net f u v)) [
    | inr off ↦ rw (off) refl
    | inl live ↦ elim (cases_Bool (is_peer net u)) [
      | inl peer ↦ from_peer u v live peer
      | inr none ↦
          let known = (linked_known net u v rules (and_parts _ _ (and_parts _ _ (and_parts _ _ live).0).0).0).0 in
          from_router u v live none (router_or_peer net u known none) to
    ]
  ]
