-- The routes of one configuration are a layer: those that run in the graph of the prefix's case, or own routes alone where it has none.
use Rattle.std.proofs.Common.{◌≡◌, ℕ, suc, true, false, ◌⊎◌, List, [], ◌∷◌, Some, None, refl, sym, ap, ◌∙◌, subst, inl, inr}
use Rattle.std.specs.Prelude.{◌||◌, option_map}
use Rattle.std.specs.Option.{option_and_then}
use Rattle.std.proofs.lemmas.Bool.{and_from, or_from, true≢false, cases_Bool}
use Rattle.list_law.proofs.Options.{none_or_some}
use Rattle.net_base.specs.declared.numbers.Tag.{Tag}
use Rattle.net_base.specs.Network.{PlainNet, IsNet, is_peer, is_router}
use Rattle.net_base.specs.Numbers.{no_tag}
use Rattle.net_base.specs.Prefixes.{PlainPrefix, IsPrefix}
use Rattle.net_base.proofs.RoutersAndPeers.{router_no_peer}
use Rattle.policy_base.specs.Policies.{PlainPolicy, IsPolicyOf}
use Rattle.policy_base.specs.Governing.{is_origin}
use Rattle.config_base.specs.declared.route.Route.{Route}
use Rattle.config_base.specs.Configs.{PlainConfig}
use Rattle.config_base.specs.Lines.{class_of, export_of, import_of, own_route, own_tag}
use Rattle.evidence_base.specs.Made.{PlainCaseEvidence, number_at}
use Rattle.outcome_base.specs.Outcomes.{no_failures}
use Rattle.evidence_law.specs.Passes.{Passes}
use Rattle.evidence_law.proofs.Loops.{import_from_peer}
use Rattle.evidence_law.proofs.Setting.{gift_of, graph_of, lines_of, pairs_of}
use Rattle.routing_law.specs.Graph as graph
use Rattle.settled_law.proofs.SettledLaw.{CaseFound, case_or_bare}
use Rattle.event_base.specs.Speaking.{message}
use Rattle.rollout_base.specs.Lines.{GivesTag, sends, takes}
use Rattle.rollout_base.specs.Mixtures.{Part}
use Rattle.rollout_base.specs.Moments.{Holds, MayHear}
use Rattle.rollout_law.proofs.Speaking.{sent_to_router}
use Rattle.rollout_law.proofs.Layers.{IsLayer, with_pref}
use Rattle.event_law.proofs.Moments.{claimed_allowed, run_ends}
use Rattle.event_law.proofs.Offers.{known, lines_here}
use Rattle.event_law.proofs.Running.{RunsAt, RunsTo, from_peer, from_router, sent_on, sent_own}
use Rattle.event_law.proofs.Waiting.{has_run, way_said}

-- a layer whose routes the policy lets routers hold and peers hear
pub record FoundLayer (net : PlainNet) (p : PlainPrefix) (x : Part) : Type 1 where
  pub At : ℕ → Route → Type 0
  pub On : ℕ → ℕ → Route → Type 0
  pub layer : IsLayer net p x At On
  pub holds : (r : ℕ) (h : Route) → At r h → Holds net x.policy p r h.path
  pub hears : (a b : ℕ) (m : Route) → is_router net a ≡ true → is_peer net b ≡ true → On a b m → MayHear net x.policy p (b ∷ m.path)

-- ---- without a class

module _ (net : PlainNet) (x : Part) (p : PlainPrefix) (free : class_of x.config p ≡ None) where
  abbrev IsOwn : ℕ → Route → Type 0
  IsOwn r h = (is_origin net x.policy p r ≡ true) × (h.path ≡ r ∷ []) × (h.tag ≡ own_tag net x.config p r)

  unsent : (a b : ℕ) (tag t : Tag) → sends net x.config p a b tag ≡ Some t → ⊥
  unsent a b tag t e = none_or_some (sends net x.config p a b tag) t (ap (option_and_then (λ k. export_of net x.config k a b tag)) free) e

  untaken : (r u : ℕ) (path : List ℕ) (tag : Tag) (q : Tag × ℕ) → takes net x.config p r u path tag ≡ Some q → ⊥
  untaken r u path tag q e = none_or_some (takes net x.config p r u path tag) q (ap (option_and_then (λ k. import_of net x.config k r u path tag)) free) e

  pub bare : FoundLayer net p x
  bare = record {
    At = IsOwn;
    On = λ a b m. ⊥;
    layer = record {
      sent = λ a b h t router at e. unsent a b h.tag t e;
      taken = λ r u m t n pref to from on e. absurd on;
      heard = λ r u t n pref to peer off e. absurd (untaken r u (u ∷ []) no_tag (t, n) e);
      own = λ r origin. (origin, refl, refl);
      held_tag = λ r h at. inl (at.0, sym at.2);
      sent_tag = λ a b m on to. absurd on;
    };
    holds = λ r h at. inl (at.0, at.1);
    hears = λ a b m router peer on. absurd on;
  }

module _ (net : PlainNet) (x : Part) (cs : List PlainCaseEvidence) (rules : IsNet net) (kept : IsPolicyOf net x.policy)
    (passes : Passes net x.policy x.config cs) (p : PlainPrefix) where
  abbrev policy : PlainPolicy
  policy = x.policy

  abbrev config : PlainConfig
  config = x.config

  module _ (c : CaseFound net x.policy x.config cs rules kept passes no_failures p) where
    abbrev Graph : graph.Graph
    Graph = graph_of c.d.graph (number_at c.d)

    abbrev class : ℕ
    class = suc c.k

    -- an own route, or one that runs
    pub record IsAt (r : ℕ) (h : Route) : Type 0 where
      pub tag : GivesTag net p x r h.tag
      pub by : ((is_origin net policy p r ≡ true) × (h.path ≡ r ∷ []) × (h.tag ≡ own_tag net config p r)) ⊎ ((n : ℕ) × RunsAt Graph (pairs_of c.d) r (with_pref h.path h.tag n))

    pub record IsOn (a b : ℕ) (m : Route) : Type 0 where
      pub tag : is_router net b ≡ true → GivesTag net p x a m.tag
      pub runs : RunsTo net Graph (pairs_of c.d) a b m

    sends_by : (a b : ℕ) (tag t : Tag) → sends net config p a b tag ≡ Some t → export_of net config class a b tag ≡ Some t
    sends_by a b tag t e = sym (ap (option_and_then (λ k. export_of net config k a b tag)) c.of_class) ∙ e

    takes_by : (r u : ℕ) (path : List ℕ) (tag : Tag) (q : Tag × ℕ) → takes net config p r u path tag ≡ Some q → import_of net config class r u path tag ≡ Some q
    takes_by r u path tag q e = sym (ap (option_and_then (λ k. import_of net config k r u path tag)) c.of_class) ∙ e

    sent : (a b : ℕ) (h : Route) (t : Tag) → is_router net a ≡ true → IsAt a h → sends net config p a b h.tag ≡ Some t → IsOn a b (message h t)
    sent a b h t router at e = record {
      tag = λ to. subst (GivesTag net p x a) (sym (sent_to_router net config p a b h.tag t (router_no_peer net b to) e)) at.tag;
      runs = elim at.by [
        | inl own ↦ (
            let mine : export_of net config class a b (own_tag net config p a) ≡ Some t = sends_by a b (own_tag net config p a) t (ap (sends net config p a b) (sym own.2) ∙ e) in
            let plain = sent_own net policy config p class rules c.of_class Graph (pairs_of c.d) (lines_here net policy config cs rules kept passes p no_failures c)
            (known net policy config cs rules kept passes p no_failures c) a b (own_route net config p a) t router own.0 refl mine in
            subst (λ (ls : List ℕ). RunsTo net Graph (pairs_of c.d) a b (with_pref ls t 0)) (sym own.1) plain)
        | inr run ↦
            sent_on net policy config p class rules c.of_class Graph (pairs_of c.d) (lines_here net policy config cs rules kept passes p no_failures c)
            (known net policy config cs rules kept passes p no_failures c) a b (with_pref h.path h.tag run.0) t run.1.rest run.1.node router (sends_by a b h.tag t e)
            run.1.begins run.1.free run.1.runs run.1.tag_is
      ];
    }

    taken : (r u : ℕ) (m : Route) (t : Tag) (n pref : ℕ) → is_router net r ≡ true → is_router net u ≡ true → IsOn u r m → takes net config p r u m.path m.tag ≡ Some (t, n)
        → IsAt r (with_pref (r ∷ m.path) t pref)
    taken r u m t n pref to from on e = record {
      tag = inr (u, m.path, m.tag, n, e);
      by = inr (
        n,
        from_router net policy config p class rules c.of_class Graph (pairs_of c.d) (lines_here net policy config cs rules kept passes p no_failures c)
            (known net policy config cs rules kept passes p no_failures c) r u m (t, n) to from on.runs (takes_by r u m.path m.tag (t, n) e),
      );
    }

    -- a peer from which a line takes the prefix is an origin
    is_origin_here : (r u : ℕ) (q : Tag × ℕ) → is_router net r ≡ true → is_peer net u ≡ true → is_router net u ≡ false → import_of net config class r u (u ∷ []) no_tag ≡ Some q → is_origin net policy p u ≡ true
    is_origin_here r u q to peer off e =
        let written = lines_here net policy config cs rules kept passes p no_failures c in
        let given : (lines_of net config p class).from_peer r u ≡ Some (gift_of q) = ap (option_map gift_of) (sym (import_from_peer net config class r u no_tag rules peer) ∙ e) in
        let step = written.lines.peers_only u r (gift_of q) off to given in
        let either = written.formed.next_from step.0 r step.1 step.2.step in
        let here : (is_origin net policy p u || is_router net u) ≡ true = sym (ap (λ (l : ℕ). is_origin net policy p l || is_router net l) step.2.place) ∙ either in
        elim (cases_Bool (is_origin net policy p u)) [
          | inl origin ↦ origin
          | inr other ↦ absurd (true≢false (sym here ∙ or_from (is_origin net policy p u) (is_router net u) other off))
        ]

    heard : (r u : ℕ) (t : Tag) (n pref : ℕ) → is_router net r ≡ true → is_peer net u ≡ true → is_router net u ≡ false → takes net config p r u (u ∷ []) no_tag ≡ Some (t, n)
        → IsAt r (with_pref (r ∷ u ∷ []) t pref)
    heard r u t n pref to peer off e =
        let line = takes_by r u (u ∷ []) no_tag (t, n) e in
        record {
          tag = inr (u, u ∷ [], no_tag, n, e);
          by = inr (
            n,
            from_peer net policy config p class rules c.of_class Graph (pairs_of c.d) (lines_here net policy config cs rules kept passes p no_failures c)
                (known net policy config cs rules kept passes p no_failures c) r u (with_pref (u ∷ []) no_tag 0) (t, n) to off (is_origin_here r u (t, n) to peer off line) refl refl line,
          );
        }

    case_layer : IsLayer net p x IsAt IsOn
    case_layer = record {
      sent = sent;
      taken = taken;
      heard = heard;
      own = λ r origin. record { tag = inl (origin, refl); by = inl (origin, refl, refl) };
      held_tag = λ r h at. at.tag;
      sent_tag = λ a b m on to. on.tag to;
    }

    case_holds : (r : ℕ) (h : Route) → IsAt r h → Holds net policy p r h.path
    case_holds r h at = elim at.by [
      | inl own ↦ inl (own.0, own.1)
      | inr run ↦ (
          let x = has_run net policy config cs rules kept passes p no_failures c r h.path run.1.rest run.1.node run.1.begins run.1.free run.1.runs in
          inr (record {
            statement = c.s;
            governs = c.governs;
            ends = run_ends net policy config cs rules kept passes no_failures p c r run.1.node h.path x;
            claimed = λ is. claimed_allowed net policy config cs rules kept passes no_failures p c r run.1.node h.path is x;
          }))
    ]

    case_hears : (a b : ℕ) (m : Route) → is_router net a ≡ true → is_peer net b ≡ true → IsOn a b m → MayHear net policy p (b ∷ m.path)
    case_hears a b m router peer on = record {
      statement = c.s;
      governs = c.governs;
      allowed = (way_said net policy config cs rules kept passes p no_failures c a b m (record { router = λ t. on.runs; peer = λ f. absurd (true≢false (sym router ∙ f)) })).allowed
          (and_from (is_router net a) (is_peer net b) router peer);
    }

    found : FoundLayer net p x
    found = record { At = IsAt; On = IsOn; layer = case_layer; holds = case_holds; hears = case_hears }

  pub found_layer : IsPrefix p → FoundLayer net p x
  found_layer prefix = elim (case_or_bare net policy config cs rules kept passes no_failures p prefix) [
    | inl c ↦ found c
    | inr free ↦ bare net x p free
  ]
