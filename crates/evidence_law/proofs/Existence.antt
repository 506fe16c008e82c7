-- Where the evidence passes there is a stable outcome for every prefix, whatever fails.
use Rattle.std.proofs.Common.{◌≡◌, ℕ, zero, suc, ◌+◌, ◌<◌, true, false, List, [], ◌∷◌, length, add-zero, Option, Some, None, refl, arith, sym, ap, ◌∙◌, inl, inr}
use Rattle.std.specs.Prelude.{◌&&◌, not, option_map, slice_get}
use Rattle.std.specs.Option.{option_and_then}
use Rattle.std.proofs.lemmas.Bool.{and_parts, and_from, cases_Bool, not_from_true, ltb-true, ltb-false}
use Rattle.std.proofs.lemmas.Option.{slice_get_past}
use Rattle.list_law.proofs.Options.{option_map_parts}
use Rattle.net_base.specs.Network.{PlainNet, IsNet, is_router}
use Rattle.net_base.specs.Prefixes.{PlainPrefix}
use Rattle.policy_base.specs.Policies.{PlainPolicy}
use Rattle.policy_base.specs.Governing.{is_origin}
use Rattle.config_base.specs.declared.route.Route.{Route}
use Rattle.config_base.specs.Configs.{PlainConfig}
use Rattle.config_base.specs.Lines.{class_of, own_route}
use Rattle.outcome_base.specs.Outcomes.{Failures, Outcome, is_dead, route_at, given, IsStable, Chooses}
use Rattle.evidence_law.proofs.Setting.{network_of, alive_of, lines_of, lines_at, line_of, tag_of}
use Rattle.evidence_law.proofs.Heard.{given-heard}
use Rattle.routing_law.specs.Network as law
use Rattle.routing_law.specs.Lines as line

-- ---- a list with an item for each number

row : {A : Type 0} → (ℕ → A) → ℕ → ℕ → List A
row g k zero = []
row g k (suc n) = g k ∷ row g (suc k) n

length-row : {A : Type 0} (g : ℕ → A) (k n : ℕ) → length (row g k n) ≡ n
unfolding row
length-row g k zero = refl
length-row g k (suc n) = ap suc (length-row g (suc k) n)

row-at : {A : Type 0} (g : ℕ → A) (k n i : ℕ) → i < n → slice_get (row g k n) i ≡ Some (g (k + i))
unfolding row
row-at g k zero i less = absurd (omega (arith, less))
row-at g k (suc n) zero less = ap (λ m. Some (g m)) (sym (add-zero k))
row-at g k (suc n) (suc i) less =
    let same : suc k + i ≡ k + suc i = omega arith in
    row-at g (suc k) n i (omega (arith, less)) ∙ ap (λ m. Some (g m)) same

-- the outcome in which each router holds what it is said to
pub outcome_of : PlainNet → (ℕ → Option Route) → Outcome
outcome_of net g = row g 0 (length net.routers)

pub outcome-size : (net : PlainNet) (g : ℕ → Option Route) → length (outcome_of net g) ≡ length net.routers
unfolding outcome_of
outcome-size net g = length-row g 0 (length net.routers)

pub held : (net : PlainNet) (g : ℕ → Option Route) (v : ℕ) → is_router net v ≡ true → route_at (outcome_of net g) v ≡ g v
unfolding outcome_of
held net g v router =
    let same : 0 + v ≡ v = omega arith in
    ap (option_and_then (λ (o : Option Route). o)) (row-at g 0 (length net.routers) v (ltb-true _ _ router)) ∙ ap g same

pub unheld : (net : PlainNet) (g : ℕ → Option Route) (v : ℕ) → is_router net v ≡ false → route_at (outcome_of net g) v ≡ None
unfolding outcome_of
unheld net g v off =
    ap (option_and_then (λ (o : Option Route). o)) (slice_get_past (row g 0 (length net.routers)) v (omega (arith, ltb-false _ _ off, length-row g 0 (length net.routers))))

-- and none, where a router is said to hold none
pub held_none : (net : PlainNet) (g : ℕ → Option Route) (v : ℕ) → (is_router net v ≡ true → g v ≡ None) → route_at (outcome_of net g) v ≡ None
held_none net g v none = elim (cases_Bool (is_router net v)) [
  | inl router ↦ held net g v router ∙ none router
  | inr other ↦ unheld net g v other
]

-- ---- routes of the laws

abbrev pub route_of : line.LineRoute → Route
route_of x = record { path = x.path; tag = tag_of x.tag; pref = x.pref }

route-line : (o : Option line.LineRoute) → option_map line_of (option_map route_of o) ≡ o
route-line None = refl
route-line (Some x) = refl

line-route : (h : Route) → route_of (line_of h) ≡ h
line-route h = refl

module _ (net : PlainNet) (policy : PlainPolicy) (config : PlainConfig) (f : Failures) (p : PlainPrefix) (class : ℕ) (rules : IsNet net)
    (of_class : class_of config p ≡ Some class) (r : line.LineRoutes) where
  abbrev Net : law.Network
  Net = network_of net (is_origin net policy p)

  abbrev lines : line.Lines
  lines = lines_of net config p class

  abbrev outcome : Outcome
  outcome = outcome_of net (λ v. option_map route_of (r v))

  -- a router holds what it is said to
  lines-held : (v : ℕ) → is_router net v ≡ true → lines_at outcome v ≡ r v
  lines-held v router = ap (option_map line_of) (held net (λ u. option_map route_of (r u)) v router) ∙ route-line (r v)

  -- so it hears the same
  heard-same : (v u : ℕ) → line.line_heard Net (alive_of net f) lines (lines_at outcome) v u ≡ line.line_heard Net (alive_of net f) lines r v u
  heard-same v u = elim (cases_Bool ((alive_of net f).carries u v)) [
    | inr off ↦ rw off refl
    | inl on ↦ elim (cases_Bool (is_router net u)) [
      | inl router ↦ rw (on, router, lines-held u router) refl
      | inr peer ↦ rw (on, peer) refl
    ]
  ]

  pub given-line : (u v : ℕ) → is_router net v ≡ true → option_map line_of (given net policy config f p outcome u v) ≡ line.line_heard Net (alive_of net f) lines r v u
  given-line u v router = given-heard net policy config f p outcome class rules of_class u v router ∙ heard-same v u

  module _ (stable : line.LinesStable Net (alive_of net f) lines r) where
    pub choosing : (v : ℕ) → (is_router net v && not (is_origin net policy p v) && not (is_dead f v)) ≡ true → (is_router net v ≡ true) × (law.chooses Net (alive_of net f) v ≡ true)
    choosing v h =
        let last = and_parts (is_router net v && not (is_origin net policy p v)) (not (is_dead f v)) h in
        let first = and_parts (is_router net v) (not (is_origin net policy p v)) last.0 in
        (first.0, and_from (is_router net v) _ first.0 (and_from (not (is_dead f v)) (not (is_origin net policy p v)) last.1 first.1))

    dead_none : (v : ℕ) → is_dead f v ≡ true → route_at outcome v ≡ None
    dead_none v dead = held_none net (λ u. option_map route_of (r u)) v (λ router. ap (option_map route_of) (stable.dead v router (not_from_true _ dead)))

    own_held : (v : ℕ) → (is_router net v && is_origin net policy p v && not (is_dead f v)) ≡ true → route_at outcome v ≡ Some (own_route net config p v)
    own_held v h =
        let last = and_parts (is_router net v && is_origin net policy p v) (not (is_dead f v)) h in
        let first = and_parts (is_router net v) (is_origin net policy p v) last.0 in
        held net (λ u. option_map route_of (r u)) v first.0 ∙ ap (option_map route_of) (stable.own v first.0 first.1 last.1)

    chosen : (v : ℕ) → (is_router net v && not (is_origin net policy p v) && not (is_dead f v)) ≡ true → Chooses net policy config f p outcome v
    chosen v who = record {
      given_by = λ h at.
          let mine = choosing v who in
          let x = option_map_parts route_of (r v) h (sym (held net (λ u. option_map route_of (r u)) v mine.0) ∙ at) in
          let by = stable.given v x.0 mine.1 x.1 in
          let g = option_map_parts line_of (given net policy config f p outcome by.0 v) x.0 (given-line by.0 v mine.0 ∙ by.1) in
          let same : g.0 ≡ h = sym (line-route g.0) ∙ ap route_of g.2 ∙ x.2 in
          (by.0, g.1 ∙ ap Some same);
      best = λ z g at.
          let mine = choosing v who in
          let heard : line.line_heard Net (alive_of net f) lines r v z ≡ Some (line_of g) = sym (given-line z v mine.0) ∙ ap (option_map line_of) at in
          let b = stable.best v z (line_of g) mine.1 heard in
          (route_of b.0, held net (λ u. option_map route_of (r u)) v mine.0 ∙ ap (option_map route_of) b.1, b.2);
    }

    -- an outcome of the lines is one of the configuration
    pub lines_stable : IsStable net policy config f p outcome
    lines_stable = record { dead = dead_none; own = own_held; chooses = chosen }
