-- Every route that can be held or sent runs in the graph of the prefix's case, and so it's allowed.
use Rattle.std.proofs.Common.{◌≡◌, ℕ, suc, true, false, not, List, [], ◌∷◌, ◌++◌, Option, Some, None, refl, sym, ◌∙◌, subst, inl, inr}
use Rattle.std.specs.List.{list_any}
use Rattle.std.proofs.lemmas.Bool.{and_parts, cases_Bool, not-true, not_from_false, true≢false}
use Rattle.net_base.specs.declared.numbers.Tag.{Tag}
use Rattle.net_base.specs.Network.{PlainNet, IsNet, is_location, is_peer, is_router}
use Rattle.net_base.specs.Numbers.{no_tag}
use Rattle.net_base.specs.Prefixes.{PlainPrefix, IsPrefix}
use Rattle.net_base.proofs.RoutersAndPeers.{peer_no_router}
use Rattle.policy_base.specs.Policies.{PlainPolicy, PlainStatement, IsPolicyOf}
use Rattle.policy_base.specs.Governing.{is_origin, statement_of}
use Rattle.policy_base.specs.Permitted.{is_permitted, is_allowed, IsClaimedRouter}
use Rattle.config_base.specs.declared.route.Route.{Route}
use Rattle.config_base.specs.Configs.{PlainConfig}
use Rattle.config_base.specs.Lines.{as_path, class_of, export_of, import_of, own_route}
use Rattle.evidence_base.specs.Made.{PlainCaseEvidence, number_at}
use Rattle.outcome_base.specs.Announcements.{Announced, FullRoute, Sent, is_ours, refuses}
use Rattle.outcome_base.specs.Outcomes.{no_failures}
use Rattle.evidence_law.specs.Passes.{Passes}
use Rattle.evidence_law.proofs.MadeCases.{has_no_class}
use Rattle.evidence_law.proofs.Setting.{graph_of, lines_of, network_of, pairs_of}
use Rattle.list_law.proofs.Options.{none_or_some}
use Rattle.std.proofs.lemmas.Option.{same_Some}
use Rattle.routing_law.specs.Graph as graph
use Rattle.routing_law.specs.Lines as line
use Rattle.routing_law.specs.Spells as spelled
use Rattle.event_base.specs.Speaking.{extended, message}
use Rattle.outcome_law.proofs.Peers.{no_line}
use Rattle.settled_law.proofs.SettledLaw.{CaseFound, case_or_bare}
use Rattle.event_law.specs.Waiting.{HasRun}
use Rattle.event_law.proofs.Moments.{claimed_allowed, run_ends}
use Rattle.event_law.proofs.Offers.{known, lines_here}
use Rattle.event_law.proofs.Running.{RunsAt, RunsTo, from_peer, from_router, sent_on, sent_own}
use Rattle.event_law.proofs.Waiting.{has_run, sent_allowed}
use Rattle.motion_law.specs.Ever.{EveryRouteIsAllowed, IsAllowedEver, IsBareEver, IsRightEver, MayHold, MaySend}
use Rattle.motion_law.specs.Ever.{MayHold as may}
use Rattle.motion_law.proofs.Taken.{imported, line_at, tag_ignored, taken_line, unlooped, unlooped_behind}

module _ (net : PlainNet) (policy : PlainPolicy) (config : PlainConfig) (p : PlainPrefix) (class : ℕ) (rules : IsNet net) (of_class : class_of config p ≡ Some class)
    (g : graph.Graph) (tag : ℕ → line.Tag) (written : spelled.Written (network_of net (is_origin net policy p)) g tag (lines_of net config p class))
    (known : (l : ℕ) → is_origin net policy p l ≡ true → is_location net l ≡ true)
    (unlined : (u v : ℕ) → is_peer net u ≡ true → is_router net v ≡ true → is_origin net policy p u ≡ false → (t : Tag) → line_at net config class v u t ≡ None) where
  -- ---- what can be held

  pub record IsFine (r : ℕ) (t : FullRoute) : Type 0 where
    pub router : is_router net r ≡ true
    pub own : is_origin net policy p r ≡ true → t.route ≡ own_route net config p r
    pub other : is_origin net policy p r ≡ false → RunsAt g tag r t.route
    pub clean : list_any (is_ours net) t.behind ≡ false

  same_class : (k : ℕ) → class_of config p ≡ Some k → k ≡ class
  same_class k e = same_Some k class (sym e ∙ of_class)

  -- what a router that isn't an origin takes
  taken_fine : (r : ℕ) (t : FullRoute) (h : Route) (behind : List ℕ) → is_router net r ≡ true → is_origin net policy p r ≡ false → t ≡ record { route = h; behind = behind }
      → RunsAt g tag r h → list_any (is_ours net) behind ≡ false → IsFine r t
  taken_fine r t h behind router off is runs clean = record {
    router = router;
    own = λ o. absurd (true≢false (sym o ∙ off));
    other = λ o. subst (λ (x : FullRoute). RunsAt g tag r x.route) (sym is) runs;
    clean = subst (λ (x : FullRoute). list_any (is_ours net) x.behind ≡ false) (sym is) clean;
  }

  -- what a fine route's lines send
  pub sent_fine : (a b : ℕ) (x : FullRoute) (t : Tag) → IsFine a x → export_of net config class a b x.route.tag ≡ Some t → RunsTo net g tag a b (message x.route t)
  sent_fine a b x t fine e = elim (cases_Bool (is_origin net policy p a)) [
    | inl origin ↦ sent_own net policy config p class rules of_class g tag written known a b x.route t fine.router origin (fine.own origin) e
    | inr other ↦ (let y = fine.other other in sent_on net policy config p class rules of_class g tag written known a b x.route t y.rest y.node fine.router e y.begins y.free y.runs y.tag_is)
  ]

  peer_fine : (r peer : ℕ) (a : Announced) (t : FullRoute) (q : Tag × ℕ) → is_router net r ≡ true → is_origin net policy p r ≡ false → is_peer net peer ≡ true
      → refuses net r peer (as_path net (peer ∷ []) ++ a.behind) ≡ false → line_at net config class r peer a.tag ≡ Some q
      → t ≡ record { route = record { path = r ∷ peer ∷ []; tag = q.0; pref = q.1 }; behind = a.behind } → IsFine r t
  peer_fine r peer a t q router off at_peer clear l is = elim (cases_Bool (is_origin net policy p peer)) [
    | inr other ↦ absurd (none_or_some (line_at net config class r peer a.tag) q (unlined peer r at_peer router other a.tag) l)
    | inl origin ↦
        let m : Route = record { path = peer ∷ []; tag = no_tag; pref = 0 } in
        let e : import_of net config class r peer (peer ∷ []) no_tag ≡ Some q =
        imported net config class r peer (peer ∷ []) no_tag q (unlooped net r peer (peer ∷ []) a.behind clear) (tag_ignored net config class r peer no_tag a.tag at_peer ∙ l) in
        taken_fine r t (extended r m q) a.behind router off is (from_peer net policy config p class rules of_class g tag written known r peer m q router (peer_no_router net peer at_peer) origin refl refl e)
        (unlooped_behind net r peer (peer ∷ []) a.behind at_peer clear)
  ]

  router_fine : (r u : ℕ) (x t : FullRoute) (s : Tag) (q : Tag × ℕ) → is_router net r ≡ true → is_origin net policy p r ≡ false → is_router net u ≡ true → IsFine u x
      → export_of net config class u r x.route.tag ≡ Some s → refuses net r u (as_path net x.route.path ++ x.behind) ≡ false → line_at net config class r u s ≡ Some q
      → t ≡ record { route = record { path = r ∷ x.route.path; tag = q.0; pref = q.1 }; behind = x.behind } → IsFine r t
  router_fine r u x t s q router off at_router fine out clear l is =
      let e : import_of net config class r u x.route.path s ≡ Some q = imported net config class r u x.route.path s q (unlooped net r u x.route.path x.behind clear) l in
      taken_fine r t (extended r (message x.route s) q) x.behind router off is (from_router net policy config p class rules of_class g tag written known r u (message x.route s) q router at_router (sent_fine u r x s fine out) e) fine.clean

  pub all_fine : (r : ℕ) (t : FullRoute) → MayHold net policy config p r t → IsFine r t
  all_fine r t (may.own who) =
      let both = and_parts (is_router net r) (is_origin net policy p r) who in
      record { router = both.0; own = λ o. refl; other = λ o. absurd (true≢false (sym both.1 ∙ o)); clean = refl }
  all_fine r t (may.of_peer peer k a who at_peer here takes) =
      let both = and_parts (is_router net r) (not (is_origin net policy p r)) who in
      let x = taken_line net config k r peer (record { path = peer ∷ []; behind = a.behind; tag = a.tag }) t takes in
      peer_fine r peer a t x.0 both.0 (not-true _ both.1) at_peer x.1 (subst (λ (i : ℕ). line_at net config i r peer a.tag ≡ Some x.0) (same_class k here) x.2) x.3
  all_fine r t (may.of_router u k y s who at_router held here out takes) =
      let both = and_parts (is_router net r) (not (is_origin net policy p r)) who in
      let x = taken_line net config k r u (record { path = y.route.path; behind = y.behind; tag = s }) t takes in
      router_fine r u y t s x.0 both.0 (not-true _ both.1) at_router (all_fine u y held) (subst (λ (i : ℕ). export_of net config i u r y.route.tag ≡ Some s) (same_class k here) out)
      x.1 (subst (λ (i : ℕ). line_at net config i r u s ≡ Some x.0) (same_class k here) x.2) x.3

-- ---- without a class only origins hold anything

module _ (net : PlainNet) (policy : PlainPolicy) (config : PlainConfig) (p : PlainPrefix) (free : class_of config p ≡ None) where
  held_bare : (r : ℕ) (t : FullRoute) → MayHold net policy config p r t → (is_origin net policy p r ≡ true) × (t.route ≡ own_route net config p r)
  held_bare r t (may.own who) = ((and_parts (is_router net r) (is_origin net policy p r) who).1, refl)
  held_bare r t (may.of_peer peer k a who at_peer here takes) = absurd (none_or_some (class_of config p) k free here)
  held_bare r t (may.of_router u k y s who at_router held here out takes) = absurd (none_or_some (class_of config p) k free here)

  pub bare_ever : IsBareEver net policy config p
  bare_ever = record {
    routes = λ r t h. held_bare r t h;
    sent = λ r to m h. none_or_some (class_of config p) h.class free h.of_class;
  }

  clean_bare : (r : ℕ) (t : FullRoute) → MayHold net policy config p r t → not (list_any (is_ours net) t.behind) ≡ true
  clean_bare r t (may.own who) = refl
  clean_bare r t (may.of_peer peer k a who at_peer here takes) = absurd (none_or_some (class_of config p) k free here)
  clean_bare r t (may.of_router u k y s who at_router held here out takes) = absurd (none_or_some (class_of config p) k free here)

  pub empty_ever : (s : PlainStatement) → IsAllowedEver net policy config p s
  empty_ever s = record {
    own = λ r t own h. (held_bare r t h).1;
    claimed = λ r t claimed h. absurd (true≢false (sym (held_bare r t h).0 ∙ not-true _ claimed.no_origin));
    transit = λ r t other h. absurd (true≢false (sym (held_bare r t h).0 ∙ not-true _ other));
    clean = λ r t h. clean_bare r t h;
    sent = λ r peer m who h. absurd (none_or_some (class_of config p) h.class free h.of_class);
  }

-- ---- in a case

module _ (net : PlainNet) (policy : PlainPolicy) (config : PlainConfig) (cs : List PlainCaseEvidence) (rules : IsNet net)
    (kept : IsPolicyOf net policy) (passes : Passes net policy config cs) (p : PlainPrefix) (prefix : IsPrefix p)
    (c : CaseFound net policy config cs rules kept passes no_failures p) where
  abbrev pub Graph : graph.Graph
  Graph = graph_of c.d.graph (number_at c.d)

  pub unlined : (u v : ℕ) → is_peer net u ≡ true → is_router net v ≡ true → is_origin net policy p u ≡ false → (t : Tag) → line_at net config (suc c.k) v u t ≡ None
  unlined u v peer router other t = no_line net policy config cs rules kept passes.made p prefix (suc c.k) c.of_class u v peer router other t

  abbrev pub Fine : ℕ → FullRoute → Type 0
  Fine = IsFine net policy config p (suc c.k) rules c.of_class Graph (pairs_of c.d) (lines_here net policy config cs rules kept passes p no_failures c) (known net policy config cs rules kept passes p no_failures c) unlined

  pub fine : (r : ℕ) (t : FullRoute) → MayHold net policy config p r t → Fine r t
  fine = all_fine net policy config p (suc c.k) rules c.of_class Graph (pairs_of c.d) (lines_here net policy config cs rules kept passes p no_failures c) (known net policy config cs rules kept passes p no_failures c) unlined

  way_allowed : (r peer : ℕ) (m : Route) → is_router net r ≡ true → is_peer net peer ≡ true → RunsTo net Graph (pairs_of c.d) r peer m → is_allowed net policy p c.s (peer ∷ m.path) ≡ true
  way_allowed = sent_allowed net policy config cs rules kept passes p no_failures c

  run_at : (r : ℕ) (h : Route) (x : RunsAt Graph (pairs_of c.d) r h) → HasRun c.d r h.path x.node
  run_at r h x = has_run net policy config cs rules kept passes p no_failures c r h.path x.rest x.node x.begins x.free x.runs

  held_allowed : (r : ℕ) (h : Route) → IsClaimedRouter net policy p c.s r → RunsAt Graph (pairs_of c.d) r h → is_allowed net policy p c.s h.path ≡ true
  held_allowed r h claimed x = claimed_allowed net policy config cs rules kept passes no_failures p c r x.node h.path claimed (run_at r h x)

  held_ends : (r : ℕ) (h : Route) → RunsAt Graph (pairs_of c.d) r h → (above : List ℕ) × (is_permitted net policy p c.s (above ++ h.path) ≡ true)
  held_ends r h x = run_ends net policy config cs rules kept passes no_failures p c r x.node h.path (run_at r h x)

  offered_allowed : (r peer : ℕ) (m : Sent) → is_router net r ≡ true → is_peer net peer ≡ true → MaySend net policy config p r peer m → is_allowed net policy p c.s (peer ∷ m.path) ≡ true
  offered_allowed r peer m router at_peer h =
      let same : h.class ≡ suc c.k = same_Some h.class (suc c.k) (sym h.of_class ∙ c.of_class) in
      let out = subst (λ (i : ℕ). export_of net config i r peer h.of.route.tag ≡ Some m.tag) same h.permits in
      let way = sent_fine net policy config p (suc c.k) rules c.of_class Graph (pairs_of c.d) (lines_here net policy config cs rules kept passes p no_failures c)
      (known net policy config cs rules kept passes p no_failures c) unlined r peer h.of m.tag (fine r h.of h.held) out in
      subst (λ (q : List ℕ). is_allowed net policy p c.s (peer ∷ q) ≡ true) (sym h.path) (way_allowed r peer (message h.of.route m.tag) router at_peer way)

  pub case_ever : IsAllowedEver net policy config p c.s
  case_ever = record {
    own = λ r t own h. (fine r t h).own own;
    claimed = λ r t claimed h. held_allowed r t.route claimed ((fine r t h).other (not-true _ claimed.no_origin));
    transit = λ r t other h. held_ends r t.route ((fine r t h).other (not-true _ other));
    clean = λ r t h. not_from_false _ (fine r t h).clean;
    sent = λ r peer m who h. (let both = and_parts (is_router net r) (is_peer net peer) who in offered_allowed r peer m both.0 both.1 h);
  }

module _ (net : PlainNet) (policy : PlainPolicy) (config : PlainConfig) (cs : List PlainCaseEvidence) (rules : IsNet net)
    (kept : IsPolicyOf net policy) (passes : Passes net policy config cs) (p : PlainPrefix) (prefix : IsPrefix p) where
  pub governed_ever : (s : PlainStatement) → statement_of policy p ≡ Some s → IsAllowedEver net policy config p s
  governed_ever s governs = elim (case_or_bare net policy config cs rules kept passes no_failures p prefix) [
    | inr free ↦ empty_ever net policy config p free s
    | inl c ↦
        let found : Some c.s ≡ Some s = sym c.governs ∙ governs in
        let same : c.s ≡ s = cc in
        subst (λ (z : PlainStatement). IsAllowedEver net policy config p z) same (case_ever net policy config cs rules kept passes p prefix c)
  ]

  pub right_ever : IsRightEver net policy config p
  right_ever = go (statement_of policy p) refl
    where
      go : (o : Option PlainStatement) → statement_of policy p ≡ o → IsRightEver net policy config p
      go None is = rw is (bare_ever net policy config p (has_no_class net policy config cs rules kept passes.made p prefix is))
      go (Some s) is = rw is (governed_ever s is)

pub every_route_is_allowed : EveryRouteIsAllowed
every_route_is_allowed net policy config cs rules kept passes p prefix = right_ever net policy config cs rules kept passes p prefix
