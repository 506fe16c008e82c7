-- A mixture in a world, and one of its two sides: what is taken of routes with its tags is what its own network takes where some routers are
-- dead besides, and some hear no peers.
use Rattle.std.proofs.Common.{◌≡◌, ℕ, Bool, true, false, not, ◌||◌, List, [], ◌∷◌, Option, Some, None, sym, ap, ◌∙◌, subst, inl, inr}
use Rattle.std.specs.Prelude.{option_map, if◌then◌else◌}
use Rattle.std.proofs.lemmas.Bool.{and_from, and_parts, cases_Bool, cond-false, cond-true, eqb-true, not-true, not_from_false, or_cases, or_from, or_parts}
use Rattle.list_law.proofs.Options.{none_or_some}
use Rattle.net_base.specs.Network.{PlainNet, is_peer, is_router, linked}
use Rattle.net_base.specs.Numbers.{no_tag}
use Rattle.net_base.specs.Prefixes.{PlainPrefix}
use Rattle.policy_base.specs.Governing.{is_origin}
use Rattle.config_base.specs.declared.route.Route.{Route}
use Rattle.config_base.specs.Lines.{own_route}
use Rattle.event_base.specs.Speaking.{exported_by, extended, speakers_of, taken_by}
use Rattle.event_base.specs.World.{Speakers, World, at, live}
use Rattle.event_law.specs.Kinds.{Held}
use Rattle.event_law.proofs.First.{NoLater}
use Rattle.rest_law.specs.Orders.{IsOrder, Takes, rests, said}
use Rattle.rest_law.proofs.Ending.{HasOrder}
use Rattle.rollout_base.specs.Lines.{GivesTag, takes}
use Rattle.rollout_base.specs.Mixtures.{Mixture, Part, announced_if, mixed}
use Rattle.rollout_law.proofs.Speaking.{taken_none, taken_parts, taken_some}
use Rattle.rollout_rest.proofs.Mixed.{taken_in}
use Rattle.rollout_mixtures.specs.Between.{HasLines, HasStarts, LacksLines}
use Rattle.rollout_mixtures.proofs.Alone.{IsAlone}
use Rattle.rollout_mixtures.proofs.Resters.{at_rest_up, chooser_parts, own_at_rest, own_rests, rester_origin}
use Rattle.rollout_mixtures.proofs.Sides.{Given, both_same, given_of, given_tag, taken_down}

pub record Setting : Type 0 where
  pub net : PlainNet
  pub says : ℕ → Bool
  pub p : PlainPrefix
  pub m : Mixture
  pub w : World Route
  pub peers : (a : ℕ) → says a ≡ true → is_peer net a ≡ true

abbrev pub cut_off : (ℕ → Bool) → (ℕ → Bool) → World Route → World Route
cut_off off deaf w = record {
  down = λ r. w.down r || off r;
  cut = w.cut;
  silent = λ r q. w.silent r q || deaf r;
  queue = w.queue;
  heard = w.heard;
  queued = w.queued;
  route = w.route;
}

-- Of one side: who has its lines, who doesn't hear peers by them, and who takes no part.
pub record SideOf (s : Setting) (x : Part) (has deaf off : ℕ → Bool) : Type 0 where
  pub lines : (r : ℕ) → has r ≡ true → HasLines s.net s.p x r (s.m r)
  pub lacks : (r : ℕ) → has r ≡ false → LacksLines s.net s.p x r (s.m r)
  pub hears : (r : ℕ) → deaf r ≡ false → HasStarts s.net s.p x r (s.m r)
  pub speaks : (a : ℕ) → is_router s.net a ≡ false → is_origin s.net x.policy s.p a ≡ true → s.says a ≡ true
  pub alone : IsAlone s.net s.p x
  pub peer_on : (r : ℕ) → is_router s.net r ≡ false → off r ≡ false
  pub on_has : (r : ℕ) → is_router s.net r ≡ true → off r ≡ false → has r ≡ true

module _ (s : Setting) where
  abbrev pub S : Speakers Route
  S = mixed s.net s.says s.p s.m

  abbrev pub tS : Takes Route
  tS = taken_in s.net s.p s.m

  module _ (x : Part) (has deaf off : ℕ → Bool) (side : SideOf s x has deaf off) where
    abbrev pub X : Speakers Route
    X = speakers_of s.net x.policy x.config s.p

    abbrev pub tX : Takes Route
    tX r u o = taken_by s.net x.config s.p r u o

    abbrev pub wx : World Route
    wx = cut_off off deaf s.w

    abbrev pub Of : ℕ → Route → Type 0
    Of u y = GivesTag s.net s.p x u y.tag

    -- ---- what lives

    pub live_down : (a b : ℕ) → live X wx a b ≡ true → (live S s.w a b ≡ true) × (off a ≡ false) × (off b ≡ false)
    live_down a b h =
        let l = and_parts (linked s.net a b) _ h in
        let c = and_parts (not (s.w.cut a b)) _ l.1 in
        let d = and_parts (not (s.w.down a || off a)) (not (s.w.down b || off b)) c.1 in
        let one = or_parts (s.w.down a) (off a) (not-true (s.w.down a || off a) d.0) in
        let two = or_parts (s.w.down b) (off b) (not-true (s.w.down b || off b) d.1) in (
          and_from (linked s.net a b) _ l.0 (and_from (not (s.w.cut a b)) _ c.0 (and_from (not (s.w.down a)) (not (s.w.down b)) (not_from_false (s.w.down a) one.0) (not_from_false (s.w.down b) two.0))),
          one.1,
          two.1,
        )

    pub live_up : (a b : ℕ) → live S s.w a b ≡ true → off a ≡ false → off b ≡ false → live X wx a b ≡ true
    live_up a b h on_a on_b =
        let l = and_parts (linked s.net a b) _ h in
        let c = and_parts (not (s.w.cut a b)) _ l.1 in
        let d = and_parts (not (s.w.down a)) (not (s.w.down b)) c.1 in
        and_from (linked s.net a b) _ l.0 (and_from (not (s.w.cut a b)) _ c.0 (and_from (not (s.w.down a || off a)) (not (s.w.down b || off b))
        (not_from_false (s.w.down a || off a) (or_from (s.w.down a) (off a) (not-true (s.w.down a) d.0) on_a))
        (not_from_false (s.w.down b || off b) (or_from (s.w.down b) (off b) (not-true (s.w.down b) d.1) on_b))))

    pub up_of : (a b : ℕ) → live S s.w a b ≡ true → s.w.down a ≡ false
    up_of a b h =
        let l = and_parts (linked s.net a b) _ h in
        let c = and_parts (not (s.w.cut a b)) _ l.1 in
        not-true (s.w.down a) (and_parts (not (s.w.down a)) (not (s.w.down b)) c.1).0

    pub down_parts : (r : ℕ) → wx.down r ≡ false → (s.w.down r ≡ false) × (off r ≡ false)
    down_parts r h = or_parts (s.w.down r) (off r) h

    -- ---- what routers say

    said_by : (y : Speakers Route) (w : World Route) (u v : ℕ) (o : Option Route) → y.is_router u ≡ true → said y w u v o ≡ y.export u v o
    said_by y w u v o router = cond-true (y.is_router u) (y.export u v o) (if w.silent v u then None else y.announced u) router

    said_of : (y : Speakers Route) (w : World Route) (u v : ℕ) (o : Option Route) → y.is_router u ≡ false → said y w u v o ≡ (if w.silent v u then None else y.announced u)
    said_of y w u v o off_net = cond-false (y.is_router u) (y.export u v o) (if w.silent v u then None else y.announced u) off_net

    -- a route with a tag of the side is taken over its lines alone
    pub router_comes : (u v : ℕ) (y h : Route) → is_router s.net u ≡ true → is_router s.net v ≡ true → off u ≡ false → Of u y → live S s.w u v ≡ true
        → (has v ≡ true → is_origin s.net x.policy s.p v ≡ false → off v ≡ false) → tS v u (said S s.w u v (Some y)) ≡ Some h
        → (live X wx u v ≡ true) × (tX v u (said X wx u v (Some y)) ≡ Some h) × Given s.net s.p x v h
    router_comes u v y h from to on gives up part t =
        let plain = sym (ap (tS v u) (said_by S s.w u v (Some y) from)) ∙ t in
        let d = taken_down s.net s.p x s.m has side.lines side.lacks u v y h from to gives plain in
        let k = taken_parts s.net x.config s.p v u (exported_by s.net x.config s.p u v (Some y)) h d.2 in
        let alone = side.alone.router v u k.0.path k.0.tag k.1 from k.3 in (
          live_up u v up on (part d.1 alone),
          ap (tX v u) (said_by X wx u v (Some y) from) ∙ d.2,
          given_of s.net s.p x v u (exported_by s.net x.config s.p u v (Some y)) h d.2,
        )

    pub given_by_lines : (u v : ℕ) (y h : Route) → is_router s.net u ≡ true → is_router s.net v ≡ true → Of u y → tS v u (said S s.w u v (Some y)) ≡ Some h → Given s.net s.p x v h
    given_by_lines u v y h from to gives t =
        let plain = sym (ap (tS v u) (said_by S s.w u v (Some y) from)) ∙ t in
        given_of s.net s.p x v u (exported_by s.net x.config s.p u v (Some y)) h (taken_down s.net s.p x s.m has side.lines side.lacks u v y h from to gives plain).2

    -- and over them it is taken
    pub router_goes : (u v : ℕ) (y h : Route) → is_router s.net u ≡ true → is_router s.net v ≡ true → off u ≡ false → off v ≡ false → Of u y
        → tX v u (said X wx u v (Some y)) ≡ Some h → tS v u (said S s.w u v (Some y)) ≡ Some h
    router_goes u v y h from to on_u on_v gives t =
        ap (tS v u) (said_by S s.w u v (Some y) from)
        ∙ both_same s.net s.p x s.m has side.lines side.lacks u v y from to (side.on_has u from on_u) (side.on_has v to on_v) gives
        ∙ sym (ap (tX v u) (said_by X wx u v (Some y) from)) ∙ t

    -- ---- what peers say

    abbrev announcement : ℕ → Route
    announcement a = record { path = a ∷ []; tag = no_tag; pref = 0 }

    -- what a peer announces is taken by the line of who hears peers by this side
    heard_as : (v u : ℕ) → deaf v ≡ false → is_router s.net u ≡ false → tS v u (Some (announcement u)) ≡ tX v u (Some (announcement u))
    heard_as v u hears off_net =
        taken_some s.net (s.m v).config s.p v u (announcement u) ∙ ap (option_map (extended v (announcement u))) ((side.hears v hears).heard u (u ∷ []) no_tag off_net)
        ∙ sym (taken_some s.net x.config s.p v u (announcement u))

    -- a peer that says something isn't silent, and says this
    peer_says : (y : Speakers Route) (w : World Route) (t : Takes Route) (u v : ℕ) (o : Option Route) (h : Route) → y.is_router u ≡ false → t v u None ≡ None → t v u (said y w u v o) ≡ Some h
        → (w.silent v u ≡ false) × (t v u (y.announced u) ≡ Some h)
    peer_says y w t u v o h off_net none e =
        let plain : t v u (if w.silent v u then None else y.announced u) ≡ Some h = sym (ap (t v u) (said_of y w u v o off_net)) ∙ e in
        elim (cases_Bool (w.silent v u)) [
          | inl mute ↦ absurd (none_or_some _ h (ap (t v u) (cond-true (w.silent v u) None (y.announced u) mute) ∙ none) plain)
          | inr speaks ↦ (speaks, sym (ap (t v u) (cond-false (w.silent v u) None (y.announced u) speaks)) ∙ plain)
        ]

    announces : (t : Takes Route) (b : Bool) (u v : ℕ) (h : Route) → t v u None ≡ None → t v u (if b then Some (announcement u) else None) ≡ Some h → (b ≡ true) × (t v u (Some (announcement u)) ≡ Some h)
    announces t b u v h none e = elim (cases_Bool b) [
      | inl on ↦ (on, sym (ap (t v u) (cond-true b (Some (announcement u)) None on)) ∙ e)
      | inr off_net ↦ absurd (none_or_some _ h (ap (t v u) (cond-false b (Some (announcement u)) None off_net) ∙ none) e)
    ]

    pub peer_comes : (u v : ℕ) (o other : Option Route) (h : Route) → is_router s.net u ≡ false → deaf v ≡ false → off v ≡ false → live S s.w u v ≡ true
        → tS v u (said S s.w u v o) ≡ Some h → (live X wx u v ≡ true) × (tX v u (said X wx u v other) ≡ Some h) × Given s.net s.p x v h × (is_origin s.net x.policy s.p v ≡ false)
    peer_comes u v o other h off_net hears on up t =
        let a = peer_says S s.w tS u v o h off_net (taken_none s.net (s.m v).config s.p v u) t in
        let b = announces tS (s.says u) u v h (taken_none s.net (s.m v).config s.p v u) a.1 in
        let mine : tX v u (Some (announcement u)) ≡ Some h = sym (heard_as v u hears off_net) ∙ b.1 in
        let k = taken_parts s.net x.config s.p v u (Some (announcement u)) h mine in
        let same : announcement u ≡ k.0 = (let here = k.2 in cc) in
        let line : takes s.net x.config s.p v u (u ∷ []) no_tag ≡ Some k.1 = ap (λ (g : Route). takes s.net x.config s.p v u g.path g.tag) same ∙ k.3 in
        let alone = side.alone.peer v u k.1 off_net (s.peers u b.0) line in
        let quiet : wx.silent v u ≡ false = or_from (s.w.silent v u) (deaf v) a.0 hears in
        let says : said X wx u v other ≡ Some (announcement u) =
        said_of X wx u v other off_net ∙ cond-false (wx.silent v u) None (X.announced u) quiet ∙ cond-true (is_origin s.net x.policy s.p u) (Some (announcement u)) None alone.1 in
        (live_up u v up (side.peer_on u off_net) on, ap (tX v u) says ∙ mine, given_of s.net s.p x v u (Some (announcement u)) h mine, alone.0)

    pub peer_gives : (u v : ℕ) (o : Option Route) (h : Route) → is_router s.net u ≡ false → deaf v ≡ false → tS v u (said S s.w u v o) ≡ Some h → Given s.net s.p x v h
    peer_gives u v o h off_net hears t =
        let a = peer_says S s.w tS u v o h off_net (taken_none s.net (s.m v).config s.p v u) t in
        let b = announces tS (s.says u) u v h (taken_none s.net (s.m v).config s.p v u) a.1 in
        given_of s.net s.p x v u (Some (announcement u)) h (sym (heard_as v u hears off_net) ∙ b.1)

    pub peer_goes : (u v : ℕ) (o other : Option Route) (h : Route) → is_router s.net u ≡ false → tX v u (said X wx u v o) ≡ Some h → tS v u (said S s.w u v other) ≡ Some h
    peer_goes u v o other h off_net t =
        let a = peer_says X wx tX u v o h off_net (taken_none s.net x.config s.p v u) t in
        let b = announces tX (is_origin s.net x.policy s.p u) u v h (taken_none s.net x.config s.p v u) a.1 in
        let q = or_parts (s.w.silent v u) (deaf v) a.0 in
        let says : said S s.w u v other ≡ Some (announcement u) =
        said_of S s.w u v other off_net ∙ cond-false (s.w.silent v u) None (announced_if s.says u) q.0 ∙ cond-true (s.says u) (Some (announcement u)) None (side.speaks u off_net b.0) in
        ap (tS v u) says ∙ heard_as v u q.1 off_net ∙ b.1

    -- ---- the order of its own network

    module _ (out : ℕ → Option Route) (has_order : HasOrder s.net x.policy x.config s.p wx out) where
      pub out_up : (r : ℕ) (y : Route) → out r ≡ Some y → (is_router s.net r ≡ true) × (s.w.down r ≡ false) × (off r ≡ false)
      out_up r y e =
          let up : (is_router s.net r ≡ true) × (wx.down r ≡ false) = elim (cases_Bool (rests X wx r)) [
            | inl t ↦ at_rest_up s.net x.policy x.config s.p wx r y (sym (has_order.rested r t) ∙ e)
            | inr f ↦ (let c = chooser_parts s.net x.policy x.config s.p wx r f in (c.0, c.1))
          ] in
          let d = down_parts r up.1 in
          (up.0, d.0, d.1)

      pub out_own : (r : ℕ) → is_router s.net r ≡ true → s.w.down r ≡ false → off r ≡ false → is_origin s.net x.policy s.p r ≡ true → out r ≡ Some (own_route s.net x.config s.p r)
      out_own r router up on origin =
          has_order.rested r (own_rests s.net x.policy x.config s.p wx r origin)
          ∙ own_at_rest s.net x.policy x.config s.p wx r router (or_from (s.w.down r) (off r) up on) origin

      rested_tags : (r : ℕ) → rests X wx r ≡ true → Held (Of r) (out r)
      rested_tags r t y e =
          let rest = sym (has_order.rested r t) ∙ e in
          let up = at_rest_up s.net x.policy x.config s.p wx r y rest in
          let origin = rester_is r t up.0 up.1 in
          let same : Some (own_route s.net x.config s.p r) ≡ Some y = sym (own_at_rest s.net x.policy x.config s.p wx r up.0 up.1 origin) ∙ rest in
          let is : own_route s.net x.config s.p r ≡ y = cc in
          inl (origin, ap (λ (g : Route). g.tag) is)
        where
          rester_is : (r : ℕ) → rests X wx r ≡ true → is_router s.net r ≡ true → wx.down r ≡ false → is_origin s.net x.policy s.p r ≡ true
          rester_is r t router up = rester_origin s.net x.policy x.config s.p wx r t router up

      tags_along : (vs : List ℕ) (T : ℕ → Bool) → ((z : ℕ) → T z ≡ true → Held (Of z) (out z)) → IsOrder X wx tX (NoLater s.net) out T vs → (z : ℕ) → Held (Of z) (out z)
      tags_along [] T tags order z = tags z (order z)
      tags_along (v ∷ vs) T tags order z =
          let here : Held (Of v) (out v) = elim order.1 [
            | inl f ↦ λ y e. (
                let both : Some f.route ≡ Some y = sym f.holds ∙ e in
                let same : f.route ≡ y = cc in
                subst (Of v) same (given_tag s.net s.p x v f.route (given_of s.net s.p x v f.giver (said X wx f.giver v (out f.giver)) f.route f.takes_it)))
            | inr n ↦ λ y e. absurd (none_or_some (out v) y n.holds e)
          ] in
          tags_along vs (λ y. T y || at v y) (λ y t. elim (or_cases (T y) (at v y) t) [
            | inl before ↦ tags y before
            | inr same ↦ subst (λ (k : ℕ). Held (Of k) (out k)) (sym (eqb-true y v same)) here
          ]) order.2 z

      pub out_tags : (r : ℕ) → Held (Of r) (out r)
      out_tags r = tags_along has_order.routers (rests X wx) rested_tags has_order.order r
