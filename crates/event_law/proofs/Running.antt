-- Held and waiting routes run in the graph of the prefix's case.
use Rattle.std.proofs.Common.{◌≡◌, ℕ, Bool, true, false, not, ◌||◌, List, [], ◌∷◌, Option, Some, None, refl, sym, ap, ◌∙◌, subst, inl, inr}
use Rattle.std.specs.Prelude.{fold, is_some, option_map, if◌then◌else◌, ◌==◌}
use Rattle.std.specs.Option.{option_and_then}
use Rattle.std.proofs.lemmas.Bool.{and_from, cases_Bool, cond-true, cond-false, eqb-true, false_from_ne_true, le-leb, ltb-false, not_from_false, or_from, true≢false}
use Rattle.net_base.specs.declared.numbers.Tag.{Tag}
use Rattle.net_base.specs.Network.{PlainNet, IsNet, is_location, is_peer, is_router}
use Rattle.net_base.specs.Numbers.{no_tag}
use Rattle.net_base.specs.Prefixes.{PlainPrefix}
use Rattle.policy_base.specs.Policies.{PlainPolicy}
use Rattle.policy_base.specs.Governing.{is_origin}
use Rattle.net_base.specs.Locations.{neighbours}
use Rattle.config_base.specs.declared.route.Route.{Route}
use Rattle.config_base.specs.Configs.{PlainConfig}
use Rattle.config_base.specs.Lines.{class_of, export_of, import_of, own_route}
use Rattle.evidence_law.proofs.Setting.{network_of, lines_of, pair_of, gift_of}
use Rattle.evidence_law.proofs.Heard.{export_to_router}
use Rattle.net_base.proofs.RoutersAndPeers.{router_known, router_no_peer}
use Rattle.evidence_law.proofs.Loops.{import_from_router, import_from_peer}
use Rattle.routing_law.specs.Graph as graph
use Rattle.routing_law.specs.Lines as line
use Rattle.routing_law.specs.Network as law
use Rattle.routing_law.specs.Spells as spelled
use Rattle.list_law.proofs.Options.{option_and_then_parts, option_map_parts}
use Rattle.routing_law.proofs.Steps.{exports_are_steps, imports_are_steps, own_routes_are_starts, announcements_are_steps}
use Rattle.event_law.specs.Kinds.{Held, IsKind}
use Rattle.event_base.specs.Speaking.{announced_by, chosen_by, exported_by, extended, first_of, is_before, message, picked, speakers_of, taken_by, with_gift}

-- the first of what some give is given by one of them
fold_holds : {A B : Type 0} (P : B → Type 0) (f : B → A → B) (b : B) (xs : List A) → P b → ((b : B) (x : A) → P b → P (f b x)) → P (fold f b xs)
fold_holds P f b [] start more = start
fold_holds P f b (x ∷ xs) start more = fold_holds P f (f b x) xs (more b x start) more

abbrev pub IsGiven : (ℕ → Option Route) → Option (ℕ × Route) → Type 0
IsGiven gives o = (x : ℕ × Route) → o ≡ Some x → gives x.0 ≡ Some x.1

picked-given : (net : PlainNet) (gives : ℕ → Option Route) (best : Option (ℕ × Route)) (u : ℕ) (o : Option Route) → gives u ≡ o → IsGiven gives best → IsGiven gives (picked net best u o)
picked-given net gives best u None e before = before
picked-given net gives None u (Some g) e before = λ x h. (let same : (u, g) ≡ x = cc in subst (λ (y : ℕ × Route). gives y.0 ≡ Some y.1) same e)
picked-given net gives (Some y) u (Some g) e before = λ x h. elim (cases_Bool (is_before net (u, g) y)) [
  | inl t ↦ (
      let is : Some (u, g) ≡ Some x = sym (cond-true (is_before net (u, g) y) (Some (u, g)) (Some y) t) ∙ h in
      let same : (u, g) ≡ x = cc in
      subst (λ (y : ℕ × Route). gives y.0 ≡ Some y.1) same e)
  | inr f ↦ before x (sym (cond-false (is_before net (u, g) y) (Some (u, g)) (Some y) f) ∙ h)
]

pub first_is_given : (net : PlainNet) (gives : ℕ → Option Route) (us : List ℕ) → IsGiven gives (first_of net gives us)
first_is_given net gives us = fold_holds (IsGiven gives) (with_gift net gives) None us (λ x e. absurd (cc)) (λ best u before. picked-given net gives best u (gives u) refl before)

-- ---- what a route and a message are

-- the path of r's route has no loop and runs to a node whose tag and number the route has
pub record RunsAt (g : graph.Graph) (tag : ℕ → line.Tag) (r : ℕ) (h : Route) : Type 0 where
  pub rest : List ℕ
  pub begins : h.path ≡ r ∷ rest
  pub free : law.loop_free h.path ≡ true
  pub node : ℕ
  pub runs : graph.run g h.path ≡ Some node
  pub tag_is : pair_of h.tag ≡ tag node
  pub pref_is : h.pref ≡ g.number node

-- a message of the router a to b: its path has no loop and runs to a node that steps to b, whose tag it has, or none where b is a peer
pub record RunsTo (net : PlainNet) (g : graph.Graph) (tag : ℕ → line.Tag) (a b : ℕ) (m : Route) : Type 0 where
  pub rest : List ℕ
  pub begins : m.path ≡ a ∷ rest
  pub free : law.loop_free m.path ≡ true
  pub node : ℕ
  pub runs : graph.run g m.path ≡ Some node
  pub next : ℕ
  pub step : g.next node b ≡ Some next
  pub to_router : is_router net b ≡ true → pair_of m.tag ≡ tag node

module _ (net : PlainNet) (policy : PlainPolicy) (config : PlainConfig) (p : PlainPrefix) (class : ℕ) (rules : IsNet net) (of_class : class_of config p ≡ Some class)
    (g : graph.Graph) (tag : ℕ → line.Tag) (written : spelled.Written (network_of net (is_origin net policy p)) g tag (lines_of net config p class))
    (known : (l : ℕ) → is_origin net policy p l ≡ true → is_location net l ≡ true) where
  abbrev Net : law.Network
  Net = network_of net (is_origin net policy p)

  abbrev lines : line.Lines
  lines = lines_of net config p class

  pub record IsHeldAt (r : ℕ) (h : Route) : Type 0 where
    pub own : is_origin net policy p r ≡ true → h ≡ own_route net config p r
    pub other : is_origin net policy p r ≡ false → RunsAt g tag r h

  pub record IsOnTheWay (a b : ℕ) (m : Route) : Type 0 where
    pub router : is_router net a ≡ true → RunsTo net g tag a b m
    pub peer : is_router net a ≡ false → (is_origin net policy p a ≡ true) × (m.path ≡ a ∷ []) × (m.tag ≡ no_tag)

  -- ---- exports

  taken_export : (a b : ℕ) (o : Option Route) (y : Route) → exported_by net config p a b o ≡ Some y
      → (h : Route) × (t : Tag) × (o ≡ Some h) × (export_of net config class a b h.tag ≡ Some t) × (message h t ≡ y)
  taken_export a b o y e =
      let whole : option_and_then (λ (h : Route). option_map (message h) (export_of net config class a b h.tag)) o ≡ Some y =
      sym (ap (option_and_then (λ (k : ℕ). option_and_then (λ (h : Route). option_map (message h) (export_of net config k a b h.tag)) o)) of_class) ∙ e in
      let h = option_and_then_parts (λ (h : Route). option_map (message h) (export_of net config class a b h.tag)) o y whole in
      let t = option_map_parts (message h.0) (export_of net config class a b h.0.tag) y h.2 in
      (h.0, t.0, h.1, t.1, t.2)

  is_exported : (a b : ℕ) (h : Route) (t : Tag) → export_of net config class a b h.tag ≡ Some t → lines.exported a b (pair_of h.tag) ≡ true
  is_exported a b h t e = ap is_some e

  pub sent_on : (a b : ℕ) (h : Route) (t : Tag) (rest : List ℕ) (n : ℕ) → is_router net a ≡ true → export_of net config class a b h.tag ≡ Some t
      → h.path ≡ a ∷ rest → law.loop_free h.path ≡ true → graph.run g h.path ≡ Some n
      → pair_of h.tag ≡ tag n → RunsTo net g tag a b (message h t)
  sent_on a b h t rest n router e begins free runs tagged =
      let runs' : graph.run g (a ∷ rest) ≡ Some n = ap (graph.run g) (sym begins) ∙ runs in
      let step = exports_are_steps Net g tag lines written a b n rest router runs' (ap (lines.exported a b) (sym tagged) ∙ is_exported a b h t e) in
      record {
        rest = rest;
        begins = begins;
        free = free;
        node = n;
        runs = runs;
        next = step.0;
        step = step.1;
        to_router = λ to. ap pair_of (export_to_router net config class a b h.tag t (router_no_peer net b to) e) ∙ tagged;
      }

  pub sent_own : (a b : ℕ) (h : Route) (t : Tag) → is_router net a ≡ true → is_origin net policy p a ≡ true → h ≡ own_route net config p a
      → export_of net config class a b h.tag ≡ Some t → RunsTo net g tag a b (message h t)
  sent_own a b h t router origin own e =
      let mine : pair_of h.tag ≡ lines.own a = ap (λ (x : Route). pair_of x.tag) own in
      let s = own_routes_are_starts Net g tag lines written a b router origin (ap (lines.exported a b) (sym mine) ∙ is_exported a b h t e) in
      let path : h.path ≡ a ∷ [] = ap (λ (x : Route). x.path) own in
      sent_on a b h t [] s.0 router e path (ap law.loop_free path) (ap (graph.run g) path ∙ s.1) (mine ∙ s.2)

  exports : (a b : ℕ) (m : Option Route) → is_router net a ≡ true → Held (IsHeldAt a) m → Held (IsOnTheWay a b) (exported_by net config p a b m)
  exports a b m router held y e =
      let x = taken_export a b m y e in
      let h = held x.0 x.2 in
      let sent : RunsTo net g tag a b (message x.0 x.1) = elim (cases_Bool (is_origin net policy p a)) [
        | inl origin ↦ sent_own a b x.0 x.1 router origin (h.own origin) x.3
        | inr other ↦ (let r = h.other other in sent_on a b x.0 x.1 r.rest r.node router x.3 r.begins r.free r.runs r.tag_is)
      ] in
      record { router = λ t. subst (RunsTo net g tag a b) x.4 sent; peer = λ f. absurd (true≢false (sym router ∙ f)) }

  announces : (a b : ℕ) → is_router net a ≡ false → Held (IsOnTheWay a b) (announced_by net policy p a)
  announces a b off y e = elim (cases_Bool (is_origin net policy p a)) [
    | inl origin ↦ (
        let is : Some (record { path = a ∷ []; tag = no_tag; pref = 0 }) ≡ Some y =
        sym (cond-true (is_origin net policy p a) (Some (record { path = a ∷ []; tag = no_tag; pref = 0 })) None origin) ∙ e in
        let same : record { path = a ∷ []; tag = no_tag; pref = 0 } ≡ y = cc in
        record { router = λ t. absurd (true≢false (sym t ∙ off)); peer = λ f. (origin, ap (λ (z : Route). z.path) (sym same), ap (λ (z : Route). z.tag) (sym same)) })
    | inr other ↦ (
        let none : None ≡ Some y = sym (cond-false (is_origin net policy p a) (Some (record { path = a ∷ []; tag = no_tag; pref = 0 })) None other) ∙ e in
        absurd (cc))
  ]

  -- ---- choices

  taken_import : (r u : ℕ) (o : Option Route) (y : Route) → taken_by net config p r u o ≡ Some y
      → (m : Route) × (q : Tag × ℕ) × (o ≡ Some m) × (import_of net config class r u m.path m.tag ≡ Some q) × (extended r m q ≡ y)
  taken_import r u o y e =
      let whole : option_and_then (λ (m : Route). option_map (extended r m) (import_of net config class r u m.path m.tag)) o ≡ Some y =
      sym (ap (option_and_then (λ (k : ℕ). option_and_then (λ (m : Route). option_map (extended r m) (import_of net config k r u m.path m.tag)) o)) of_class) ∙ e in
      let m = option_and_then_parts (λ (m : Route). option_map (extended r m) (import_of net config class r u m.path m.tag)) o y whole in
      let q = option_map_parts (extended r m.0) (import_of net config class r u m.0.path m.0.tag) y m.2 in
      (m.0, q.0, m.1, q.1, q.2)

  unless : (b : Bool) (o : Option (Tag × ℕ)) (q : Tag × ℕ) → (if b then None else o) ≡ Some q → (b ≡ false) × (o ≡ Some q)
  unless true o q h = absurd (cc)
  unless false o q h = (refl, h)

  pub from_router : (r u : ℕ) (m : Route) (q : Tag × ℕ) → is_router net r ≡ true → is_router net u ≡ true → RunsTo net g tag u r m
      → import_of net config class r u m.path m.tag ≡ Some q → RunsAt g tag r (extended r m q)
  from_router r u m q to from way e =
      let parts = unless (law.stands_on r m.path) (import_of net config class r u [] m.tag) q
      (sym (import_from_router net config class r u m.path m.tag rules (router_known net r to) (router_no_peer net u from)) ∙ e) in
      let imported : lines.imported r u (pair_of m.tag) ≡ Some (gift_of q) = ap (option_map gift_of) parts.1 in
      let runs' : graph.run g (u ∷ way.rest) ≡ Some way.node = ap (graph.run g) (sym way.begins) ∙ way.runs in
      let next = imports_are_steps Net g tag lines written u r way.node way.rest (gift_of q) from to runs' (ap (lines.imported r u) (sym (way.to_router to)) ∙ imported) in
      let path : r ∷ m.path ≡ r ∷ u ∷ way.rest = ap (λ (ls : List ℕ). r ∷ ls) way.begins in
      record {
        rest = m.path;
        begins = refl;
        free = and_from (not (law.stands_on r m.path)) (law.loop_free m.path) (not_from_false _ parts.0) way.free;
        node = next.0;
        runs = ap (graph.run g) path ∙ ap (option_and_then (λ n. g.next n r)) runs' ∙ next.1;
        tag_is = ap (λ (z : line.Tag × ℕ). z.0) next.2;
        pref_is = ap (λ (z : line.Tag × ℕ). z.1) next.2;
      }

  pub from_peer : (r u : ℕ) (m : Route) (q : Tag × ℕ) → is_router net r ≡ true → is_router net u ≡ false → is_origin net policy p u ≡ true
      → m.path ≡ u ∷ [] → m.tag ≡ no_tag → import_of net config class r u m.path m.tag ≡ Some q
      → RunsAt g tag r (extended r m q)
  from_peer r u m q to off origin path bare e =
      let peer : is_peer net u ≡ true = and_from _ _ (le-leb _ _ (ltb-false _ _ off)) (known u origin) in
      let plain : import_of net config class r u [] m.tag ≡ Some q =
      sym (ap (λ (ls : List ℕ). import_of net config class r u ls m.tag) path ∙ import_from_peer net config class r u m.tag rules peer) ∙ e in
      let given : lines.from_peer r u ≡ Some (gift_of q) = ap (option_map gift_of) (ap (import_of net config class r u []) (sym bare) ∙ plain) in
      let next = announcements_are_steps Net g tag lines written u r (gift_of q) off to origin given in
      let apart : (u == r) ≡ false = false_from_ne_true _ (λ same. true≢false (sym to ∙ ap (is_router net) (sym (eqb-true u r same)) ∙ off)) in
      let here : r ∷ m.path ≡ r ∷ u ∷ [] = ap (λ (ls : List ℕ). r ∷ ls) path in
      record {
        rest = m.path;
        begins = refl;
        free = ap law.loop_free here ∙ and_from (not ((u == r) || false)) true (not_from_false _ (or_from (u == r) false apart refl)) refl;
        node = next.1;
        runs = ap (graph.run g) here ∙ ap (option_and_then (λ n. g.next n r)) next.2 ∙ next.3;
        tag_is = ap (λ (z : line.Tag × ℕ). z.0) next.4;
        pref_is = ap (λ (z : line.Tag × ℕ). z.1) next.4;
      }

  chooses : (r : ℕ) (offer : ℕ → Option Route) → is_router net r ≡ true → ((u : ℕ) → Held (IsOnTheWay u r) (offer u)) → Held (IsHeldAt r) (chosen_by net policy config p r offer)
  chooses r offer router held y e = elim (cases_Bool (is_origin net policy p r)) [
    | inl origin ↦ (
        let is : Some (own_route net config p r) ≡ Some y = sym (cond-true (is_origin net policy p r) (Some (own_route net config p r))
        (option_map (λ (x : ℕ × Route). x.1) (first_of net gives (neighbours net r))) origin) ∙ e in
        let same : own_route net config p r ≡ y = cc in
        record { own = λ t. sym same; other = λ f. absurd (true≢false (sym origin ∙ f)) })
    | inr other ↦ (
        let is : option_map (λ (x : ℕ × Route). x.1) (first_of net gives (neighbours net r)) ≡ Some y =
        sym (cond-false (is_origin net policy p r) (Some (own_route net config p r)) (option_map (λ (x : ℕ × Route). x.1) (first_of net gives (neighbours net r))) other) ∙ e in
        let x = option_map_parts (λ (x : ℕ × Route). x.1) (first_of net gives (neighbours net r)) y is in
        let by = taken_import r x.0.0 (offer x.0.0) y (first_is_given net gives (neighbours net r) x.0 x.1 ∙ ap Some x.2) in
        let way = held x.0.0 by.0 by.2 in
        let good : RunsAt g tag r (extended r by.0 by.1) = elim (cases_Bool (is_router net x.0.0)) [
          | inl from ↦ from_router r x.0.0 by.0 by.1 router from (way.router from) by.3
          | inr off ↦ (let w = way.peer off in from_peer r x.0.0 by.0 by.1 router off w.0 w.1 w.2 by.3)
        ] in
        record { own = λ t. absurd (true≢false (sym t ∙ other)); other = λ f. subst (RunsAt g tag r) by.4 good })
  ]
    where
      gives : ℕ → Option Route
      gives u = taken_by net config p r u (offer u)

  -- exporting, announcing and choosing keep them
  pub kinds : IsKind (speakers_of net policy config p) IsHeldAt IsOnTheWay
  kinds = record { exports = exports; announces = announces; chooses = chooses }
