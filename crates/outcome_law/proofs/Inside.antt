-- An outcome under announcements is, as far as its paths lead within the network, a stable one in which more sessions are silent.
use Rattle.std.proofs.Common.{◌≡◌, ℕ, zero, suc, ◌≤◌, Bool, true, false, List, [], ◌∷◌, ◌++◌, length, Option, Some, None, refl, sym, ap, ◌∙◌, inl, inr, arith, subst}
use Rattle.std.specs.Prelude.{◌&&◌, ◌||◌, ◌==◌, not, slice_get, option_map, if◌then◌else◌}
use Rattle.std.specs.List.{find, list_any}
use Rattle.std.specs.Option.{option_and_then}
use Rattle.std.proofs.lemmas.Bool.{and_from, and_parts, cases_Bool, eq-eqb, eqb-true, false_from_ne_true, ltb-true, not_from_false, or_parts, or_right, true≢false}
use Rattle.std.proofs.lemmas.List.Folds.{list_any-append}
use Rattle.std.proofs.lemmas.Option.{slice_get-map}
use Rattle.list_law.proofs.Items.{from_front}
use Rattle.list_law.proofs.Members.{list_any-from_IsIn}
use Rattle.list_law.proofs.Options.{cases_Option, none_or_some, option_map_parts}
use Rattle.list_law.proofs.Tests.{list_any_parts}
use Rattle.list_law.proofs.Truth.{or_failed}
use Rattle.net_base.specs.declared.net.Site.{Site}
use Rattle.net_base.specs.declared.numbers.Tag.{Tag}
use Rattle.net_base.specs.Network.{PlainNet, IsNet, asn_of, is_peer, is_router, linked}
use Rattle.net_base.specs.Numbers.{no_tag}
use Rattle.net_base.specs.Prefixes.{PlainPrefix}
use Rattle.net_base.proofs.Links.{linked_known}
use Rattle.net_base.proofs.RoutersAndPeers.{router_known, router_or_peer}
use Rattle.net_base.proofs.Sites.{asn_is, site_at}
use Rattle.policy_base.specs.Policies.{PlainPolicy}
use Rattle.policy_base.specs.Governing.{is_origin}
use Rattle.config_base.specs.declared.route.Route.{Route}
use Rattle.config_base.specs.declared.config.Import.{Import}
use Rattle.config_base.specs.declared.config.Session.{Session}
use Rattle.config_base.specs.Configs.{PlainConfig}
use Rattle.config_base.specs.Lines.{class_of, block_at, export_of, import_of, is_looped, line_by, as_path, own_route}
use Rattle.outcome_base.specs.Outcomes.{Failures, is_dead, is_live, is_silent, route_at, sent, given, IsStable}
use Rattle.evidence_law.proofs.Spelled.{imports_tag}
use Rattle.evidence_law.proofs.Heard.{no_gift, given-unsent, given-refused, given-taken, sent-unrouted, sent-refused, sent-permitted}
use Rattle.outcome_base.specs.Announcements.{Announced, Announcements, FullRoute, FullOutcome, Sent, full_at, inside, is_ours, refuses, sent_under, taken_under}
use Rattle.outcome_base.specs.Announcements.{given_under, is_unusable, silenced, IsStableUnder}
use Rattle.outcome_law.proofs.Silenced.{silenced_is}

abbrev pub route_in : FullRoute → Route
route_in t = t.route

-- ---- the loop rule

-- a router's number is ours
router_is_ours : (net : PlainNet) (v : ℕ) → is_router net v ≡ true → is_ours net (asn_of net v) ≡ true
router_is_ours net v router =
    let s = site_at net v (router_known net v router) in
    let at = from_front net.routers net.peers v s.0 s.1 (ltb-true v (length net.routers) router) in
    list_any-from_IsIn (λ (r : Site). r.asn == asn_of net v) net.routers s.0 (v, at) (eq-eqb s.0.asn (asn_of net v) (sym (asn_is net v s.0 s.1)))

-- where no router's number stands, this one's doesn't
not_its_own : (net : PlainNet) (v : ℕ) (behind : List ℕ) → is_router net v ≡ true → list_any (is_ours net) behind ≡ false → list_any (λ n. n == asn_of net v) behind ≡ false
not_its_own net v behind router clean = false_from_ne_true (list_any (λ n. n == asn_of net v) behind) (λ h.
    let x = list_any_parts (λ n. n == asn_of net v) behind h in
    let ours : is_ours net x.1 ≡ true = ap (is_ours net) (eqb-true x.1 (asn_of net v) x.3) ∙ router_is_ours net v router in
    true≢false (sym (list_any-from_IsIn (is_ours net) behind x.1 (x.0, x.2) ours) ∙ clean))

-- numbers of no router change nothing
pub refuses_same : (net : PlainNet) (v u : ℕ) (path behind : List ℕ) → is_router net v ≡ true → list_any (is_ours net) behind ≡ false
    → refuses net v u (as_path net path ++ behind) ≡ is_looped net v u path
refuses_same net v u path behind router clean = by (is_peer net u)
  where
    by : (b : Bool) → (if b then list_any (is_ours net) (as_path net path ++ behind) else list_any (λ n. n == asn_of net v) (as_path net path ++ behind))
        ≡ (if b then list_any (λ n. list_any (λ (r : Site). r.asn == n) net.routers) (as_path net path) else list_any (λ n. n == asn_of net v) (as_path net path))
    by true = list_any-append (is_ours net) (as_path net path) behind ∙ or_failed (list_any (is_ours net) (as_path net path)) (list_any (is_ours net) behind) clean
    by false = list_any-append (λ n. n == asn_of net v) (as_path net path) behind ∙ or_failed (list_any (λ n. n == asn_of net v) (as_path net path)) _ (not_its_own net v behind router clean)

-- from a peer one number of a router is enough
refuses_ours : (net : PlainNet) (v u : ℕ) (path behind : List ℕ) → is_peer net u ≡ true → list_any (is_ours net) behind ≡ true → refuses net v u (as_path net path ++ behind) ≡ true
refuses_ours net v u path behind peer ours =
    rw peer (list_any-append (is_ours net) (as_path net path) behind
    ∙ or_right (list_any (is_ours net) (as_path net path)) (list_any (is_ours net) behind) ours)

-- ---- what is taken

-- of what a peer sends, import lines ignore the tag
module _ (net : PlainNet) (class u : ℕ) (peer : is_peer net u ≡ true) (s t : Tag) (b : Session) where
  same_test : (rule : Import) → imports_tag net u class s rule ≡ imports_tag net u class t rule
  same_test rule = rw peer refl

  same_found : find (imports_tag net u class s) b.imports ≡ find (imports_tag net u class t) b.imports
  same_found = ap (λ (f : Import → Bool). find f b.imports) (λ i rule. same_test rule i)

  pub any_tag : line_by net class u s b ≡ line_by net class u t b
  any_tag = elim (cases_Option (find (imports_tag net u class t) b.imports)) [
    | inl e ↦
        let one : find (imports_tag net u class s) b.imports ≡ None = same_found ∙ e in
        let x : line_by net class u s b ≡ None = rw one refl in
        let y : line_by net class u t b ≡ None = rw e refl in
        x ∙ sym y
    | inr e ↦
        let one : find (imports_tag net u class s) b.imports ≡ Some e.0 = same_found ∙ e.1 in
        let x : line_by net class u s b ≡ Some (e.0.set, e.0.pref) = rw one refl in
        let y : line_by net class u t b ≡ Some (e.0.set, e.0.pref) = rw e.1 refl in
        x ∙ sym y
  ]

module _ (net : PlainNet) (config : PlainConfig) (class v u : ℕ) (m : Sent) where
  abbrev line : Option (Tag × ℕ)
  line = option_and_then (line_by net class u m.tag) (block_at net config v u)

  pub taken-refused : refuses net v u (as_path net m.path ++ m.behind) ≡ true → taken_under net config class v u m ≡ None
  taken-refused h = rw h refl

  pub taken-none : line ≡ None → taken_under net config class v u m ≡ None
  taken-none l = elim (cases_Bool (refuses net v u (as_path net m.path ++ m.behind))) [
    | inl t ↦ taken-refused t
    | inr t ↦ rw (t, l) refl
  ]

  pub taken-some : (q : Tag × ℕ) → refuses net v u (as_path net m.path ++ m.behind) ≡ false → line ≡ Some q
      → taken_under net config class v u m ≡ Some (record { route = record { path = v ∷ m.path; tag = q.0; pref = q.1 }; behind = m.behind })
  taken-some q h l = rw (h, l) refl

  -- what is taken has its holder in front, and the same numbers behind
  pub taken-parts : (t : FullRoute) → taken_under net config class v u m ≡ Some t → (refuses net v u (as_path net m.path ++ m.behind) ≡ false) × (t.route.path ≡ v ∷ m.path) × (t.behind ≡ m.behind)
  taken-parts t h = elim (cases_Bool (refuses net v u (as_path net m.path ++ m.behind))) [
    | inl r ↦ absurd (none_or_some (taken_under net config class v u m) t (taken-refused r) h)
    | inr r ↦ elim (cases_Option line) [
      | inl l ↦ absurd (none_or_some (taken_under net config class v u m) t (taken-none l) h)
      | inr l ↦
          let same : Some (record { route = record { path = v ∷ m.path; tag = l.0.0; pref = l.0.1 }; behind = m.behind }) ≡ Some t = sym (taken-some l.0 r l.1) ∙ h in
          let one : record { route = record { path = v ∷ m.path; tag = l.0.0; pref = l.0.1 }; behind = m.behind } ≡ t = cc in
          (r, ap (λ (x : FullRoute). x.route.path) (sym one), ap (λ (x : FullRoute). x.behind) (sym one))
    ]
  ]

-- ---- an outcome and what is inside

cut_joined : (o : Option (Option FullRoute)) → option_and_then (λ (x : Option Route). x) (option_map (option_map route_in) o) ≡ option_map route_in (option_and_then (λ (x : Option FullRoute). x) o)
cut_joined None = refl
cut_joined (Some x) = refl

pub route_at-inside : (full : FullOutcome) (r : ℕ) → route_at (inside full) r ≡ option_map route_in (full_at full r)
route_at-inside full r = ap (option_and_then (λ (x : Option Route). x)) (slice_get-map (option_map route_in) full r) ∙ cut_joined (slice_get full r)

module _ (net : PlainNet) (policy : PlainPolicy) (config : PlainConfig) (f : Failures) (says : Announcements) (p : PlainPrefix) (full : FullOutcome) where
  abbrev pub Mute : Failures
  Mute = silenced net says f

  abbrev pub Same : ℕ → ℕ → Type 0
  Same u v = option_map route_in (given_under net config f says p full u v) ≡ given net policy config Mute p (inside full) u v

  pub none_given : class_of config p ≡ None → (u v : ℕ) → given_under net config f says p full u v ≡ None
  none_given free u v = elim (cases_Bool (is_live net f u v)) [
    | inl t ↦ rw (t, free) refl
    | inr t ↦ rw t refl
  ]

  -- ---- what is sent

  pub sent-router-none : (u v : ℕ) → is_peer net u ≡ false → full_at full u ≡ None → sent_under net config f says p full u v ≡ None
  sent-router-none u v off r = elim (cases_Option (class_of config p)) [
    | inl c ↦ rw (c, off) refl
    | inr c ↦ rw (r, c.1, off) refl
  ]

  module _ (class : ℕ) (of_class : class_of config p ≡ Some class) where
    pub sent-router-refused : (u v : ℕ) (t : FullRoute) → is_peer net u ≡ false → full_at full u ≡ Some t
        → export_of net config class u v t.route.tag ≡ None → sent_under net config f says p full u v ≡ None
    sent-router-refused u v t off r e = rw (of_class, r, e, off) refl

    pub sent-router : (u v : ℕ) (t : FullRoute) (tag : Tag) → is_peer net u ≡ false → full_at full u ≡ Some t → export_of net config class u v t.route.tag ≡ Some tag
        → sent_under net config f says p full u v ≡ Some (record { path = t.route.path; behind = t.behind; tag = tag })
    sent-router u v t tag off r e = rw (of_class, r, e, off) refl

    -- ---- what is given

    under-unsent : (u v : ℕ) → is_live net f u v ≡ true → sent_under net config f says p full u v ≡ None → given_under net config f says p full u v ≡ None
    under-unsent u v live s = rw (s, of_class, live) refl

    under-sent : (u v : ℕ) (m : Sent) → is_live net f u v ≡ true → sent_under net config f says p full u v ≡ Some m → given_under net config f says p full u v ≡ taken_under net config class v u m
    under-sent u v m live s = rw (s, of_class, live) refl

    -- ---- the two are the same

    module _ (rules : IsNet net) (u v : ℕ) (live : is_live net f u v ≡ true) (router : is_router net v ≡ true) where
      same_unsent : sent_under net config f says p full u v ≡ None → sent net policy config Mute p (inside full) u v ≡ None → Same u v
      same_unsent a b = ap (option_map route_in) (under-unsent u v live a) ∙ sym (given-unsent net policy config Mute p (inside full) class rules of_class u v live b)

      abbrev line_at : Tag → Option (Tag × ℕ)
      line_at tag = option_and_then (line_by net class u tag) (block_at net config v u)

      same_sent : (path behind : List ℕ) (said tag : Tag) → line_at said ≡ line_at tag → sent_under net config f says p full u v ≡ Some (record { path = path; behind = behind; tag = said })
          → sent net policy config Mute p (inside full) u v ≡ Some (path, tag) → list_any (is_ours net) behind ≡ false → Same u v
      same_sent path behind said tag alike a b clean =
          let m : Sent = record { path = path; behind = behind; tag = said } in
          let loop = refuses_same net v u path behind router clean in
          let out = ap (option_map route_in) (under-sent u v m live a) in
          elim (cases_Bool (is_looped net v u path)) [
            | inl t ↦
                let none : import_of net config class v u path tag ≡ None = rw t refl in
                out ∙ ap (option_map route_in) (taken-refused net config class v u m (loop ∙ t))
                ∙ sym (given-refused net policy config Mute p (inside full) class rules of_class u v path tag live b none)
            | inr t ↦ elim (cases_Option (line_at tag)) [
              | inl l ↦
                  let none : import_of net config class v u path tag ≡ None = rw (t, l) refl in
                  out ∙ ap (option_map route_in) (taken-none net config class v u m (alike ∙ l))
                  ∙ sym (given-refused net policy config Mute p (inside full) class rules of_class u v path tag live b none)
              | inr l ↦
                  let some : import_of net config class v u path tag ≡ Some l.0 = rw (t, l.1) refl in
                  out ∙ ap (option_map route_in) (taken-some net config class v u m l.0 (loop ∙ t) (alike ∙ l.1))
                  ∙ sym (given-taken net policy config Mute p (inside full) class rules of_class u v path tag l.0 live b some)
            ]
          ]

      -- of no use: nobody takes it
      same_unused : (m : Sent) → sent_under net config f says p full u v ≡ Some m → taken_under net config class v u m ≡ None → sent net policy config Mute p (inside full) u v ≡ None → Same u v
      same_unused m a none b = ap (option_map route_in) (under-sent u v m live a ∙ none) ∙ sym (given-unsent net policy config Mute p (inside full) class rules of_class u v live b)

      from_router : is_peer net u ≡ false → ((t : FullRoute) → full_at full u ≡ Some t → list_any (is_ours net) t.behind ≡ false) → Same u v
      from_router off clean = elim (cases_Option (full_at full u)) [
        | inl r ↦ same_unsent (sent-router-none u v off r) (sent-unrouted net policy config Mute p (inside full) class rules of_class u v off (route_at-inside full u ∙ ap (option_map route_in) r))
        | inr r ↦
            let at : route_at (inside full) u ≡ Some r.0.route = route_at-inside full u ∙ ap (option_map route_in) r.1 in
            elim (cases_Option (export_of net config class u v r.0.route.tag)) [
              | inl e ↦ same_unsent (sent-router-refused u v r.0 off r.1 e) (sent-refused net policy config Mute p (inside full) class rules of_class u v r.0.route off at e)
              | inr e ↦
                  same_sent r.0.route.path r.0.behind e.0 e.0 refl (sent-router u v r.0 e.0 off r.1 e.1)
                  (sent-permitted net policy config Mute p (inside full) class rules of_class u v r.0.route e.0 off at e.1) (clean r.0 r.1)
            ]
      ]

      module _ (peer : is_peer net u ≡ true) (unlined : is_origin net policy p u ≡ false → (tag : Tag) → option_and_then (line_by net class u tag) (block_at net config v u) ≡ None) where
        link : linked net u v ≡ true
        link = (and_parts _ _ (and_parts _ _ (and_parts _ _ live).0).0).0

        -- import lines ignore the tag that a peer attaches
        tag_ignored : (said : Tag) → line_at said ≡ line_at no_tag
        tag_ignored said = elim (cases_Option (block_at net config v u)) [
          | inl none ↦ rw none refl
          | inr b ↦ rw b.1 (any_tag net class u peer said no_tag b.0)
        ]

        mute_is : is_silent Mute v u ≡ (is_silent f v u || is_unusable net (says u v))
        mute_is = silenced_is net rules says u v peer link f

        unsent_mute : is_silent Mute v u ≡ true → sent net policy config Mute p (inside full) u v ≡ None
        unsent_mute s = elim (cases_Bool (is_origin net policy p u)) [
          | inl o ↦ rw (peer, s, o) refl
          | inr o ↦ rw (peer, s, o) refl
        ]

        unsent_other : is_origin net policy p u ≡ false → sent net policy config Mute p (inside full) u v ≡ None
        unsent_other o = rw (peer, o) refl

        sent_origin : is_silent Mute v u ≡ false → is_origin net policy p u ≡ true → sent net policy config Mute p (inside full) u v ≡ Some (u ∷ [], no_tag)
        sent_origin s o = rw (peer, s, o) refl

        abbrev said : Announced → Sent
        said a = record { path = u ∷ []; behind = a.behind; tag = a.tag }

        told_silent : is_silent f v u ≡ true → sent_under net config f says p full u v ≡ None
        told_silent s = rw (peer, s) refl

        told_says : (o : Option Announced) → is_silent f v u ≡ false → says u v ≡ o → sent_under net config f says p full u v ≡ option_map said o
        told_says o s is = rw (peer, s, is) refl

        from_peer : Same u v
        from_peer = elim (cases_Bool (is_silent f v u)) [
          | inl s ↦ same_unsent (told_silent s) (unsent_mute (mute_is ∙ ap (λ b. b || is_unusable net (says u v)) s))
          | inr s ↦ elim (cases_Option (says u v)) [
            | inl none ↦ same_unsent (told_says None s none) (unsent_mute (mute_is ∙ ap (λ (o : Option Announced). is_silent f v u || is_unusable net o) none ∙ or_right (is_silent f v u) true refl))
            | inr some ↦ elim (cases_Bool (list_any (is_ours net) some.0.behind)) [
              | inl ours ↦
                  let mute = mute_is ∙ ap (λ (o : Option Announced). is_silent f v u || is_unusable net o) some.1 ∙ or_right (is_silent f v u) (list_any (is_ours net) some.0.behind) ours in
                  same_unused (said some.0) (told_says (Some some.0) s some.1)
                  (taken-refused net config class v u (said some.0) (refuses_ours net v u (u ∷ []) some.0.behind peer ours)) (unsent_mute mute)
              | inr clean ↦ elim (cases_Bool (is_origin net policy p u)) [
                | inl o ↦
                    let heard = mute_is ∙ ap (λ (o : Option Announced). is_silent f v u || is_unusable net o) some.1 ∙ or_failed (is_silent f v u) (list_any (is_ours net) some.0.behind) clean ∙ s in
                    same_sent (u ∷ []) some.0.behind some.0.tag no_tag (tag_ignored some.0.tag) (told_says (Some some.0) s some.1) (sent_origin heard o) clean
                | inr o ↦ same_unused (said some.0) (told_says (Some some.0) s some.1) (taken-none net config class v u (said some.0) (unlined o some.0.tag)) (unsent_other o)
              ]
            ]
          ]
        ]

  module _ (rules : IsNet net) (clean : (u : ℕ) (t : FullRoute) → is_router net u ≡ true → full_at full u ≡ Some t → list_any (is_ours net) t.behind ≡ false)
      (unlined : (class : ℕ) → class_of config p ≡ Some class → (u v : ℕ) → is_peer net u ≡ true → is_router net v ≡ true → is_origin net policy p u ≡ false
      → (tag : Tag) → option_and_then (line_by net class u tag) (block_at net config v u) ≡ None) where
    pub given_same : (u v : ℕ) → is_router net v ≡ true → Same u v
    given_same u v router = elim (cases_Option (class_of config p)) [
      | inl free ↦ ap (option_map route_in) (none_given free u v) ∙ sym (no_gift net policy config Mute p (inside full) free u v)
      | inr c ↦ elim (cases_Bool (is_live net f u v)) [
        | inr off ↦ rw off refl
        | inl live ↦ elim (cases_Bool (is_peer net u)) [
          | inl peer ↦ from_peer c.0 c.1 rules u v live router peer (unlined c.0 c.1 u v peer router)
          | inr off ↦
              let link = (and_parts _ _ (and_parts _ _ (and_parts _ _ live).0).0).0 in
              let at_router = router_or_peer net u (linked_known net u v rules link).0 off in
              from_router c.0 c.1 rules u v live router off (λ t at. clean u t at_router at)
        ]
      ]
    ]

  -- ---- what stands behind

  -- what is given, by its parts
  pub given-parts : (u v : ℕ) (t : FullRoute) → given_under net config f says p full u v ≡ Some t
      → (is_live net f u v ≡ true) × (class : ℕ) × (class_of config p ≡ Some class) × (m : Sent) × (sent_under net config f says p full u v ≡ Some m) × (taken_under net config class v u m ≡ Some t)
  given-parts u v t h = elim (cases_Bool (is_live net f u v)) [
    | inr off ↦ let clash : None ≡ Some t = sym (rw off refl) ∙ h in absurd (cc)
    | inl live ↦ elim (cases_Option (class_of config p)) [
      | inl free ↦ absurd (none_or_some (given_under net config f says p full u v) t (none_given free u v) h)
      | inr c ↦ elim (cases_Option (sent_under net config f says p full u v)) [
        | inl none ↦ absurd (none_or_some (given_under net config f says p full u v) t (under-unsent c.0 c.1 u v live none) h)
        | inr m ↦ (live, c.0, c.1, m.0, m.1, sym (under-sent c.0 c.1 u v m.0 live m.1) ∙ h)
      ]
    ]
  ]

  -- a router sends what it holds
  pub router-sends : (u v : ℕ) (m : Sent) → is_peer net u ≡ false → sent_under net config f says p full u v ≡ Some m
      → (t : FullRoute) × (full_at full u ≡ Some t) × (m.path ≡ t.route.path) × (m.behind ≡ t.behind)
  router-sends u v m off h = elim (cases_Option (full_at full u)) [
    | inl none ↦ absurd (none_or_some (sent_under net config f says p full u v) m (sent-router-none u v off none) h)
    | inr t ↦ elim (cases_Option (class_of config p)) [
      | inl free ↦ let clash : None ≡ Some m = sym (rw (free, off) refl) ∙ h in absurd (cc)
      | inr c ↦ elim (cases_Option (export_of net config c.0 u v t.0.route.tag)) [
        | inl none ↦ absurd (none_or_some (sent_under net config f says p full u v) m (sent-router-refused c.0 c.1 u v t.0 off t.1 none) h)
        | inr tag ↦
            let same : Some (record { path = t.0.route.path; behind = t.0.behind; tag = tag.0 }) ≡ Some m = sym (sent-router c.0 c.1 u v t.0 tag.0 off t.1 tag.1) ∙ h in
            let one : record { path = t.0.route.path; behind = t.0.behind; tag = tag.0 } ≡ m = cc in
            (t.0, t.1, ap (λ (x : Sent). x.path) (sym one), ap (λ (x : Sent). x.behind) (sym one))
      ]
    ]
  ]

  module _ (rules : IsNet net) (stable : IsStableUnder net policy config f says p full) where
    -- What holds of the numbers that routers take from peers, and of none, holds behind each route: they are passed on as they are.
    module _ (P : List ℕ → Type 0) (none : P [])
        (taken : (u v class : ℕ) (m : Sent) (t : FullRoute) → is_peer net u ≡ true → is_router net v ≡ true → is_origin net policy p v ≡ false
        → class_of config p ≡ Some class → sent_under net config f says p full u v ≡ Some m → taken_under net config class v u m ≡ Some t
        → P m.behind)
      where
        behind_each : (n r : ℕ) (t : FullRoute) → is_router net r ≡ true → full_at full r ≡ Some t → suc (length t.route.path) ≤ n → P t.behind
        behind_each zero r t router at short = absurd (omega (arith, short))
        behind_each (suc n) r t router at short = elim (cases_Bool (is_dead f r)) [
          | inl dead ↦ absurd (none_or_some (full_at full r) t (stable.dead r dead) at)
          | inr alive ↦ elim (cases_Bool (is_origin net policy p r)) [
            | inl own ↦
                let who = and_from (is_router net r && is_origin net policy p r) (not (is_dead f r)) (and_from (is_router net r) (is_origin net policy p r) router own) (not_from_false _ alive) in
                let same : Some (record { route = own_route net config p r; behind = [] }) ≡ Some t = sym (stable.own r who) ∙ at in
                let one : record { route = own_route net config p r; behind = [] } ≡ t = cc in
                subst (λ (x : FullRoute). P x.behind) one none
            | inr other ↦
                let who =
                and_from (is_router net r && not (is_origin net policy p r)) (not (is_dead f r))
                (and_from (is_router net r) (not (is_origin net policy p r)) router (not_from_false _ other)) (not_from_false _ alive) in
                let by = (stable.chooses r who).given_by t at in
                let parts = given-parts by.0 r t by.1 in
                let made = taken-parts net config parts.1 r by.0 parts.3 t parts.5 in
                elim (cases_Bool (is_peer net by.0)) [
                  | inl peer ↦ subst P (sym made.2) (taken by.0 r parts.1 parts.3 t peer router other parts.2 parts.4 parts.5)
                  | inr off ↦
                      let from = router-sends by.0 r parts.3 off parts.4 in
                      let link = (and_parts _ _ (and_parts _ _ (and_parts _ _ parts.0).0).0).0 in
                      let at_router = router_or_peer net by.0 (linked_known net by.0 r rules link).0 off in
                      let longer : length t.route.path ≡ suc (length from.0.route.path) = ap length (made.1 ∙ ap (λ (path : List ℕ). r ∷ path) from.2) in
                      subst P (sym (made.2 ∙ from.3)) (behind_each n by.0 from.0 at_router from.1 (omega (arith, longer, short)))
                ]
          ]
        ]

        pub behind : (r : ℕ) (t : FullRoute) → is_router net r ≡ true → full_at full r ≡ Some t → P t.behind
        behind r t router at = behind_each (suc (length t.route.path)) r t router at (omega arith)

    -- no number of a router stands behind a route
    pub clean_behind : (r : ℕ) (t : FullRoute) → is_router net r ≡ true → full_at full r ≡ Some t → list_any (is_ours net) t.behind ≡ false
    clean_behind = behind (λ b. list_any (is_ours net) b ≡ false) refl (λ u v class m t peer router other of_class sends takes.
        let loop = (taken-parts net config class v u m t takes).0 in
        let whole : list_any (is_ours net) (as_path net m.path ++ m.behind) ≡ false = (rw peer refl) ∙ loop in
        (or_parts (list_any (is_ours net) (as_path net m.path)) (list_any (is_ours net) m.behind) (sym (list_any-append (is_ours net) (as_path net m.path) m.behind) ∙ whole)).1)

    -- ---- the law

    module _ (unlined : (class : ℕ) → class_of config p ≡ Some class → (u v : ℕ) → is_peer net u ≡ true → is_router net v ≡ true → is_origin net policy p u ≡ false
        → (tag : Tag) → option_and_then (line_by net class u tag) (block_at net config v u) ≡ None) where
      same : (u v : ℕ) → is_router net v ≡ true → Same u v
      same = given_same rules clean_behind unlined

      pub stable_inside : IsStable net policy config Mute p (inside full)
      stable_inside = record {
        dead = λ r down. route_at-inside full r ∙ ap (option_map route_in) (stable.dead r down);
        own = λ r who. route_at-inside full r ∙ ap (option_map route_in) (stable.own r who);
        chooses = λ r who.
            let router = (and_parts (is_router net r) (not (is_origin net policy p r)) (and_parts (is_router net r && not (is_origin net policy p r)) (not (is_dead f r)) who).0).0 in
            record {
              given_by = λ h at.
                  let t = option_map_parts route_in (full_at full r) h (sym (route_at-inside full r) ∙ at) in
                  let by = (stable.chooses r who).given_by t.0 t.1 in
                  (by.0, sym (same by.0 r router) ∙ ap (option_map route_in) by.1 ∙ ap Some t.2);
              best = λ z g by.
                  let t = option_map_parts route_in (given_under net config f says p full z r) g (same z r router ∙ by) in
                  let b = (stable.chooses r who).best z t.0 t.1 in
                  (b.0.route, route_at-inside full r ∙ ap (option_map route_in) b.1, subst (λ (x : Route). x.pref ≤ b.0.route.pref) t.2 b.2);
            };
      }
