-- A router that has always taken the route of the lowest identifier never holds on to another one: of those that gave it a route when it
-- chose last, and have been silent since, none came before.
use Rattle.std.proofs.Common.{◌≡◌, ℕ, zero, suc, Bool, true, false, ◌⊎◌, List, [], ◌∷◌, ◌++◌, length, Option, Some, None, refl, sym, ap, ◌∙◌, subst, inl, inr, arith}
use Rattle.std.specs.Prelude.{◌&&◌, not, if◌then◌else◌}
use Rattle.std.specs.List.{find, list_any}
use Rattle.std.specs.Option.{option_and_then}
use Rattle.std.proofs.lemmas.Bool.{and_cases, and_from, and_parts, cases_Bool, cond-true, cond-false, eq-eqb, eqb-true, false_from_ne_true, not-true, or_parts, true≢false}
use Rattle.std.proofs.lemmas.Option.{same_Some}
use Rattle.list_law.proofs.Members.{list_any-from_IsIn}
use Rattle.list_law.proofs.Options.{none_from, none_or_some}
use Rattle.list_law.proofs.Tests.{find_parts}
use Rattle.net_base.specs.Locations.{neighbours}
use Rattle.net_base.specs.Network.{PlainNet, IsNet, id_of, is_router, linked}
use Rattle.net_base.specs.Prefixes.{PlainPrefix}
use Rattle.net_base.proofs.Neighbours.{linked_neighbour}
use Rattle.policy_base.specs.Policies.{PlainPolicy}
use Rattle.policy_base.specs.Governing.{is_origin}
use Rattle.config_base.specs.Configs.{PlainConfig}
use Rattle.config_base.specs.Lines.{class_of}
use Rattle.event_base.specs.World.{at, is, joins, touches}
use Rattle.outcome_base.specs.Announcements.{FullRoute, Sent, taken_under}
use Rattle.motion_law.specs.Motion.{Motion, Move, Move as move, after_moves, at_the_start, choice_of, cleared, cut_is, down_is, gift, giver_of, has_to_say, heard_by, holds_on, is_top}
use Rattle.motion_law.specs.Motion.{live_in, moved, next_heard, nothing_there, picked, queues, route_is, same_sent, says_is}
use Rattle.motion_law.specs.Rounds.{IsCalm, Schedule, stepped, world_at}
use Rattle.motion_law.proofs.Kept.{IsKept, after-kept, start-kept}
use Rattle.motion_law.proofs.Within.{AreKinds, after-kinds, moved-kinds, start-kinds}
use Rattle.motion_rest.proofs.Choices.{IsFirst, NotAfter, picked_none, picked_some, top_parts}
use Rattle.motion_rest.proofs.Still.{chooses_picked, marks_at}
use Rattle.motion_rest.specs.Rest.{world_before}
use Rattle.named_rest.specs.Named.{AreNamed, IsNamed, IsNamedSchedule, IsNoLaterUnder, NamedChoicesTakeLowest, TakesLowest, is_lowest, lowest, lowest_gift}
use Rattle.named_rest.proofs.Lowest.{gift_first, gift_giver, lowest_is, lowest_parts, same_id}

module _ (net : PlainNet) (policy : PlainPolicy) (config : PlainConfig) (p : PlainPrefix) (rules : IsNet net) where
  -- r holds nothing that comes later than what a neighbour gives from whom it has had no news
  abbrev pub HoldsFirst : Motion → ℕ → Type 0
  HoldsFirst w r = (x : FullRoute) → w.route r ≡ Some x → is_origin net policy p r ≡ false
      → (u : ℕ) (y : FullRoute) → linked net r u ≡ true → w.news u r ≡ false → gift net policy config p w r u ≡ Some y → IsNoLaterUnder net x y

  abbrev pub AllHoldFirst : Motion → Type 0
  AllHoldFirst w = (r : ℕ) → HoldsFirst w r

  -- ---- what is picked by name

  abbrev IsNamedAt : Motion → ℕ → ℕ → Type 0
  IsNamedAt w r u = (z : ℕ) → lowest net policy config p w r ≡ Some z → u ≡ z

  module _ (w : Motion) (r u : ℕ) (kinds : AreKinds net policy config p rules w) (first : HoldsFirst w r) (other : is_origin net policy p r ≡ false) (named : IsNamedAt w r u) where
    abbrev G : ℕ → Option FullRoute
    G z = gift net policy config p w r z

    abbrev holds : Bool
    holds = holds_on net policy config p w r

    abbrev fresh : ℕ → Bool
    fresh z = is_top net policy config p w r z && w.news z r

    abbrev given_now : Option FullRoute
    given_now = option_and_then (gift net policy config p w r) (giver_of net policy config p w r u)

    by_lowest : (z : ℕ) → lowest net policy config p w r ≡ Some z → is_lowest net policy config p w r z ≡ true → picked net policy config p w r u ≡ lowest_gift net policy config p w r
    by_lowest z e low = elim (cases_Bool holds) [
      | inr f ↦
          cond-false holds (w.route r) given_now f
          ∙ ap (option_and_then (gift net policy config p w r)) (cond-true (is_top net policy config p w r u) (Some u) (find (is_top net policy config p w r) (neighbours net r)) (subst (λ v. is_top net policy config p w r v ≡ true) (sym same) top))
          ∙ ap G same ∙ sym there
      | inl t ↦ cond-true holds (w.route r) given_now t ∙ held t ∙ sym there
    ]
      where
        same : u ≡ z
        same = named z e

        top : is_top net policy config p w r z ≡ true
        top = (lowest_parts net policy config p rules w r z low).0

        there : lowest_gift net policy config p w r ≡ G z
        there = ap (option_and_then (gift net policy config p w r)) e

        parts : (linked net r z ≡ true) × (y : FullRoute) × (G z ≡ Some y) × IsFirst net policy config p rules w r y
        parts = top_parts net policy config p rules w r z top

        silent : holds ≡ true → (z : ℕ) → is_top net policy config p w r z ≡ true → w.news z r ≡ false
        silent t z top =
            let none = not-true (list_any fresh (neighbours net r)) (and_parts _ (not (list_any fresh (neighbours net r))) t).1 in
            let at = linked_neighbour net r z rules (top_parts net policy config p rules w r z top).0 in
            false_from_ne_true (w.news z r) (λ h. true≢false (sym (list_any-from_IsIn fresh (neighbours net r) z at (and_from (is_top net policy config p w r z) (w.news z r) top h)) ∙ none))

        held : holds ≡ true → w.route r ≡ G z
        held t = by (w.route r) refl
          where
            by : (o : Option FullRoute) → w.route r ≡ o → w.route r ≡ G z
            by None e = absurd (none_or_some (G z) parts.1 (picked_none net policy config p rules w r u (cond-true holds (w.route r) given_now t ∙ e) z parts.0) parts.2)
            by (Some x) e =
                let v = picked_some net policy config p rules w r u x (cond-true holds (w.route r) given_now t ∙ e) in
                let a = top_parts net policy config p rules w r v.0 v.1 in
                let same_x : a.1 ≡ x = same_Some a.1 x (sym a.2 ∙ v.2) in
                let n = first x e other z parts.1 parts.0 (silent t z top) parts.2 in
                let xy : NotAfter x parts.1 = subst (λ (q : FullRoute). NotAfter q parts.1) same_x (a.3 z parts.1 parts.0 parts.2) in
                let yx = parts.3 v.0 x a.0 v.2 in
                let h1 = xy.higher in
                let h2 = yx.higher in
                let q : parts.1.route.pref ≡ x.route.pref = omega (arith, h1, h2) in
                let l1 = xy.fewer q in
                let l2 = yx.fewer (sym q) in
                let l : length (x.route.path ++ x.behind) ≡ length (parts.1.route.path ++ parts.1.behind) = omega (arith, l1, l2) in
                let low_x = n.lower q l in
                let by_x = ap (id_of net) (gift_giver net policy config p rules w r kinds v.0 x v.2) in
                let by_y = ap (id_of net) (gift_giver net policy config p rules w r kinds z parts.1 parts.2) in
                let least = (lowest_parts net policy config p rules w r z low).1 v.0 v.1 in
                let one : v.0 ≡ z = same_id net rules r v.0 z a.0 parts.0 (omega (arith, low_x, by_x, by_y, least)) in
                e ∙ sym v.2 ∙ ap G one

    pub picks_lowest : picked net policy config p w r u ≡ lowest_gift net policy config p w r
    picks_lowest = by (lowest net policy config p w r) refl
      where
        found : (z : ℕ) → lowest net policy config p w r ≡ Some z → is_lowest net policy config p w r z ≡ true
        found z e = (find_parts (is_lowest net policy config p w r) (neighbours net r) z e).2

        by : (o : Option ℕ) → lowest net policy config p w r ≡ o → picked net policy config p w r u ≡ lowest_gift net policy config p w r
        by (Some z) e = by_lowest z e (found z e)
        by None e = none ∙ sym (ap (option_and_then (gift net policy config p w r)) e)
          where
            none : picked net policy config p w r u ≡ None
            none = none_from (picked net policy config p w r u) (λ y g.
                let top = picked_some net policy config p rules w r u y g in
                let l = lowest_is net policy config p rules w r top.0 top.1 in
                none_or_some (lowest net policy config p w r) l.0 e l.1)

  -- ---- what every named move keeps

  -- where no more is held and given without news
  less : (w v : Motion) → ((r : ℕ) (x : FullRoute) → v.route r ≡ Some x → w.route r ≡ Some x)
      → ((u r : ℕ) (y : FullRoute) → v.news u r ≡ false → gift net policy config p v r u ≡ Some y → (w.news u r ≡ false) × (gift net policy config p w r u ≡ Some y)) → AllHoldFirst w → AllHoldFirst v
  less w v routes gifts first r x has other u y on quiet g = (let a = gifts u r y quiet g in first r x (routes r x has) other u y on a.0 a.1)

  abbrev made : ℕ → ℕ → Option Sent → Option FullRoute
  made r u o = option_and_then (λ class. option_and_then (taken_under net config class r u) o) (class_of config p)

  made_none : (r u : ℕ) → made r u None ≡ None
  made_none r u = by (class_of config p)
    where
      by : (k : Option ℕ) → option_and_then (λ class. option_and_then (taken_under net config class r u) None) k ≡ None
      by None = refl
      by (Some class) = refl

  -- where these directions are forgotten
  forgets : (h : ℕ → ℕ → Bool) (w : Motion) (u r : ℕ) (y : FullRoute) → made r u (if h u r then None else w.heard u r) ≡ Some y → gift net policy config p w r u ≡ Some y
  forgets h w u r y g = elim (cases_Bool (h u r)) [
    | inl t ↦ absurd (none_or_some (made r u None) y (made_none r u) (sym (ap (made r u) (cond-true (h u r) None (w.heard u r) t)) ∙ g))
    | inr f ↦ sym (ap (made r u) (cond-false (h u r) None (w.heard u r) f)) ∙ g
  ]

  clears : (q h : ℕ → ℕ → Bool) (w : Motion) → AllHoldFirst w → AllHoldFirst (cleared q h w)
  clears q h w = less w (cleared q h w) (λ r x e. e) (λ u r y quiet g. (quiet, forgets h w u r y g))

  hears : (a b : ℕ) (ms : List (Option Sent)) (w : Motion) → AllHoldFirst w → AllHoldFirst (next_heard a b ms w)
  hears a b [] w first = first
  hears a b (m ∷ rest) w first = less w (next_heard a b (m ∷ rest) w) (λ r x e. e) (λ u r y quiet g.
      let both = or_parts (is a b u r) (w.news u r) quiet in
      (both.1, sym (ap (made r u) (cond-false (is a b u r) m (w.heard u r) both.0)) ∙ g)) first

  drops : (r : ℕ) (v : Bool) (w : Motion) → AllHoldFirst w → AllHoldFirst (down_is r v w)
  drops r v w = less w (down_is r v w) (λ z x e. held z x e) (λ u z y quiet g. (quiet, g))
    where
      held : (z : ℕ) (x : FullRoute) → (if at r z then None else w.route z) ≡ Some x → w.route z ≡ Some x
      held z x e = elim (cases_Bool (at r z)) [
        | inl t ↦ absurd (none_or_some None x refl (sym (cond-true (at r z) None (w.route z) t) ∙ e))
        | inr f ↦ sym (cond-false (at r z) None (w.route z) f) ∙ e
      ]

  -- a router that chooses by name
  chooses : (r u : ℕ) (w : Motion) → AreKinds net policy config p rules w → IsNamedAt w r u → AllHoldFirst w → AllHoldFirst (route_is r (choice_of net policy config p w r u) w)
  chooses r u w kinds named first z x has other v y on quiet g = elim (cases_Bool (at r z)) [
    | inr f ↦
        first z x (sym (cond-false (at r z) (choice_of net policy config p w r u) (w.route z) f) ∙ has) other v y on (quiet_before f (and_cases (w.news v z) (not (at r z)) quiet)) g
    | inl t ↦
        let same : z ≡ r = eqb-true z r t in
        let chosen : choice_of net policy config p w r u ≡ Some x = sym (cond-true (at r z) (choice_of net policy config p w r u) (w.route z) t) ∙ has in
        let o : is_origin net policy p r ≡ false = ap (is_origin net policy p) (sym same) ∙ other in
        let up = on_choice chosen in
        let pick : lowest_gift net policy config p w r ≡ Some x =
        sym (picks_lowest w r u kinds (first r) o named) ∙ sym (chooses_picked net policy config p w r u up.0 up.1 o) ∙ chosen in
        gift_first net policy config p rules w r kinds x pick v y (ap (λ i. linked net i v) (sym same) ∙ on) (ap (λ i. gift net policy config p w i v) (sym same) ∙ g)
  ]
    where
      quiet_before : at r z ≡ false → (w.news v z ≡ false) ⊎ (not (at r z) ≡ false) → w.news v z ≡ false
      quiet_before f (inl n) = n
      quiet_before f (inr n) = absurd (true≢false (sym (ap not f) ∙ n))

      on_choice : choice_of net policy config p w r u ≡ Some x → (is_router net r ≡ true) × (w.down r ≡ false)
      on_choice e = elim (cases_Bool (is_router net r && not (w.down r))) [
        | inl t ↦ (let b = and_parts (is_router net r) (not (w.down r)) t in (b.0, not-true (w.down r) b.1))
        | inr f ↦ absurd (none_or_some (choice_of net policy config p w r u) x (cond-false (is_router net r && not (w.down r)) _ None f) e)
      ]

  pub moved-first : (m : Move) (w : Motion) → AreKinds net policy config p rules w → IsNamed net policy config p (Some m) w → AllHoldFirst w → AllHoldFirst (moved net policy config p m w)
  moved-first (move.hear a b) w kinds named first = elim (cases_Bool (live_in net policy config p w a b)) [
    | inl t ↦ subst AllHoldFirst (sym (cond-true (live_in net policy config p w a b) (next_heard a b (w.queue a b) w) (cleared (is a b) (is a b) w) t)) (hears a b (w.queue a b) w first)
    | inr f ↦ subst AllHoldFirst (sym (cond-false (live_in net policy config p w a b) (next_heard a b (w.queue a b) w) (cleared (is a b) (is a b) w) f)) (clears (is a b) (is a b) w first)
  ]
  moved-first (move.choose r u) w kinds named first = chooses r u w kinds named first
  moved-first (move.send a b) w kinds named first =
      let m = has_to_say net policy config p w a b in
      let test = live_in net policy config p w a b && not (same_sent m (w.queued a b)) in
      elim (cases_Bool (live_in net policy config p w a b && not (same_sent (has_to_say net policy config p w a b) (w.queued a b)))) [
        | inl t ↦ subst AllHoldFirst (sym (cond-true test (queues a b m w) w t)) (less w (queues a b m w) (λ r x e. e) (λ u r y quiet g. (quiet, g)) first)
        | inr f ↦ subst AllHoldFirst (sym (cond-false test (queues a b m w) w f)) first
      ]
  moved-first (move.say peer r o) w kinds named first = less w (says_is peer r o w) (λ r x e. e) (λ u r y quiet g. (quiet, g)) first
  moved-first (move.link_down a b) w kinds named first =
      clears (joins a b) (nothing_there net policy config p) (cut_is a b true w) (less w (cut_is a b true w) (λ r x e. e) (λ u r y quiet g. (quiet, g)) first)
  moved-first (move.link_up a b) w kinds named first =
      let v = cut_is a b false w in
      clears (λ x y. joins a b x y && live_in net policy config p v x y) (λ x y. joins a b x y && live_in net policy config p v x y) v (less w v (λ r x e. e) (λ u r y quiet g. (quiet, g)) first)
  moved-first (move.router_down r) w kinds named first = clears (touches r) (heard_by net policy config p r) (down_is r true w) (drops r true w first)
  moved-first (move.router_up r) w kinds named first =
      let v = down_is r false w in
      clears (λ x y. touches r x y && live_in net policy config p v x y) (λ x y. touches r x y && live_in net policy config p v x y) v (drops r false w first)

  pub after-first : (ms : List Move) (w : Motion) → AreKinds net policy config p rules w → AreNamed net policy config p ms w → AllHoldFirst w → AllHoldFirst (after_moves net policy config p ms w)
  after-first [] w kinds named first = first
  after-first (m ∷ ms) w kinds named first = after-first ms (moved net policy config p m w) (moved-kinds net policy config p rules m w kinds) named.1 (moved-first m w kinds named.0 first)

  pub start-first : AllHoldFirst (at_the_start net policy config p)
  start-first r x has = absurd (none_or_some None x refl has)

  -- ---- over time

  module _ (s : Schedule) (w : Motion) (kinds : AreKinds net policy config p rules w) (named : IsNamedSchedule net policy config p s w) (first : AllHoldFirst w) where
    abbrev X : ℕ → Motion
    X t = world_at net policy config p s w t

    both_at : (t : ℕ) → AreKinds net policy config p rules (X t) × AllHoldFirst (X t)
    both_at zero = (kinds, first)
    both_at (suc t) = by (s t) (named t) (both_at t)
      where
        by : (o : Option Move) → IsNamed net policy config p o (X t) → AreKinds net policy config p rules (X t) × AllHoldFirst (X t)
            → AreKinds net policy config p rules (stepped net policy config p o (X t)) × AllHoldFirst (stepped net policy config p o (X t))
        by None n b = b
        by (Some m) n b = (moved-kinds net policy config p rules m (X t) b.0, moved-first m (X t) b.0 n b.1)

    pub takes_lowest : IsCalm s → IsKept net policy config p w → TakesLowest net policy config p s w 0
    takes_lowest calm keeps t r u late e who =
        let a = and_parts (is_router net r && not (is_origin net policy p r)) (not (w.down r)) who in
        let b = and_parts (is_router net r) (not (is_origin net policy p r)) a.0 in
        let k = both_at t in
        let up : (X t).down r ≡ false = ap (λ (h : ℕ → Bool). h r) (marks_at net policy config p s calm w keeps t).down ∙ not-true (w.down r) a.1 in
        let o = not-true (is_origin net policy p r) b.1 in
        let n : IsNamedAt (X t) r u = subst (λ (m : Option Move). IsNamed net policy config p m (X t)) e (named t) in
        ap (λ (m : Option Move). (stepped net policy config p m (X t)).route r) e
        ∙ chose r u (X t) ∙ chooses_picked net policy config p (X t) r u b.0 up o ∙ picks_lowest (X t) r u k.0 (k.1 r) o n
      where
        chose : (r u : ℕ) (v : Motion) → (route_is r (choice_of net policy config p v r u) v).route r ≡ choice_of net policy config p v r u
        chose r u v = cond-true (at r r) (choice_of net policy config p v r u) (v.route r) (eq-eqb r r refl)

pub named_choices_take_lowest : NamedChoicesTakeLowest
named_choices_take_lowest net policy config p before s rules named calm by_name =
    let w = world_before net policy config p before in
    let start = at_the_start net policy config p in
    takes_lowest net policy config p rules s w (after-kinds net policy config p rules before start (start-kinds net policy config p rules)) by_name
    (after-first net policy config p rules before start (start-kinds net policy config p rules) named (start-first net policy config p rules))
    calm (after-kept net policy config p before start (start-kept net policy config p))
