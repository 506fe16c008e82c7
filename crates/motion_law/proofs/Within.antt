-- After whatever moves everything that is held, heard and waits is of what may be held.
use Rattle.std.proofs.Common.{◌≡◌, ℕ, zero, suc, Bool, true, false, List, [], ◌∷◌, ◌++◌, Option, Some, None, refl, sym, ap, ◌∙◌, subst, inl, inr}
use Rattle.std.specs.Prelude.{◌&&◌, not, option_map, slice_get, if◌then◌else◌}
use Rattle.std.specs.Option.{option_and_then}
use Rattle.std.proofs.lemmas.Bool.{and_from, and_parts, cases_Bool, cond-true, cond-false, eqb-true, le-leb, ltb-false, not_from_false, true≢false}
use Rattle.std.proofs.lemmas.Option.{same_Some}
use Rattle.list_law.proofs.Options.{none_or_some, option_and_then_parts, option_map_parts}
use Rattle.net_base.specs.Network.{PlainNet, IsNet, is_peer, is_router, linked}
use Rattle.net_base.specs.Prefixes.{PlainPrefix}
use Rattle.net_base.proofs.Links.{linked_known}
use Rattle.policy_base.specs.Policies.{PlainPolicy}
use Rattle.policy_base.specs.Governing.{is_origin}
use Rattle.config_base.specs.Configs.{PlainConfig}
use Rattle.config_base.specs.Lines.{class_of, export_of, own_route}
use Rattle.event_base.specs.World.{at, is, joins, touches}
use Rattle.outcome_base.specs.Announcements.{Announced, FullRoute, Sent, taken_under}
use Rattle.motion_law.specs.Ever.{IsAllowedEver, MayHold, MayHold as may, MaySend}
use Rattle.motion_law.specs.Motion.{Motion, Move, Move as move, after_moves, announced, at_the_start, begun, choice_of, cleared, cut_is, down_is, gift, giver_of, has_to_say, heard_by, holds_on}
use Rattle.motion_law.specs.Motion.{live_in, moved, next_heard, nothing_there, picked, queues, route_is, same_sent, says_is, told, with_tag}
use Rattle.motion_law.specs.Within.{EveryMotionIsAllowed, IsWithin, MotionsStayWithin}
use Rattle.motion_law.proofs.Ever.{governed_ever}

abbrev pub If : {R : Type 0} → (R → Type 0) → Option R → Type 0
If {R} P m = (y : R) → m ≡ Some y → P y

abbrev pub Each : {R : Type 0} → (R → Type 0) → List (Option R) → Type 0
Each P [] = Unit {0}
Each P (m ∷ ms) = If P m × Each P ms

if_none : {R : Type 0} (P : R → Type 0) → If P None
if_none P y e = absurd (cc)

each_more : {R : Type 0} (P : R → Type 0) (ms : List (Option R)) (m : Option R) → Each P ms → If P m → Each P (ms ++ m ∷ [])
each_more P [] m k h = (h, tt)
each_more P (x ∷ ms) m k h = (k.0, each_more P ms m k.1 h)

each_at : {R : Type 0} (P : R → Type 0) (ms : List (Option R)) (i : ℕ) (y : R) → Each P ms → slice_get ms i ≡ Some (Some y) → P y
each_at P [] i y all e = absurd (cc)
each_at P (m ∷ ms) zero y all e = (let same : m ≡ Some y = cc in all.0 y same)
each_at P (m ∷ ms) (suc i) y all e = each_at P ms i y all.1 e

module _ (net : PlainNet) (policy : PlainPolicy) (config : PlainConfig) (p : PlainPrefix) (rules : IsNet net) where
  abbrev pub Held : ℕ → FullRoute → Type 0
  Held r t = MayHold net policy config p r t

  -- a message of a router, or of a peer
  pub record On (a b : ℕ) (m : Sent) : Type 0 where
    pub router : is_router net a ≡ true → MaySend net policy config p a b m
    pub peer : is_router net a ≡ false → (is_peer net a ≡ true) × (x : Announced) × (m ≡ announced net policy config p a x)

  pub record AreKinds (w : Motion) : Type 0 where
    pub queue : (a b : ℕ) → Each (On a b) (w.queue a b)
    pub heard : (a b : ℕ) → If (On a b) (w.heard a b)
    pub route : (r : ℕ) → If (Held r) (w.route r)

  -- ---- what changes nothing, or takes away

  cleared-kinds : (q h : ℕ → ℕ → Bool) (w : Motion) → AreKinds w → AreKinds (cleared q h w)
  cleared-kinds q h w k = record { queue = queue; heard = heard; route = k.route }
    where
      queue : (a b : ℕ) → Each (On a b) (if q a b then [] else w.queue a b)
      queue a b = elim (cases_Bool (q a b)) [
        | inl t ↦ subst (Each (On a b)) (sym (cond-true (q a b) [] (w.queue a b) t)) tt
        | inr f ↦ subst (Each (On a b)) (sym (cond-false (q a b) [] (w.queue a b) f)) (k.queue a b)
      ]

      heard : (a b : ℕ) → If (On a b) (if h a b then None else w.heard a b)
      heard a b = elim (cases_Bool (h a b)) [
        | inl t ↦ subst (If (On a b)) (sym (cond-true (h a b) None (w.heard a b) t)) (if_none (On a b))
        | inr f ↦ subst (If (On a b)) (sym (cond-false (h a b) None (w.heard a b) f)) (k.heard a b)
      ]

  down_is-kinds : (r : ℕ) (v : Bool) (w : Motion) → AreKinds w → AreKinds (down_is r v w)
  down_is-kinds r v w k = record { queue = k.queue; heard = k.heard; route = route }
    where
      route : (x : ℕ) → If (Held x) (if at r x then None else w.route x)
      route x = elim (cases_Bool (at r x)) [
        | inl t ↦ subst (If (Held x)) (sym (cond-true (at r x) None (w.route x) t)) (if_none (Held x))
        | inr f ↦ subst (If (Held x)) (sym (cond-false (at r x) None (w.route x) f)) (k.route x)
      ]

  cut_is-kinds : (a b : ℕ) (v : Bool) (w : Motion) → AreKinds w → AreKinds (cut_is a b v w)
  cut_is-kinds a b v w k = record { queue = k.queue; heard = k.heard; route = k.route }

  says_is-kinds : (a b : ℕ) (o : Option Announced) (w : Motion) → AreKinds w → AreKinds (says_is a b o w)
  says_is-kinds a b o w k = record { queue = k.queue; heard = k.heard; route = k.route }

  -- ---- what moves on

  next_heard-kinds : (a b : ℕ) (ms : List (Option Sent)) (w : Motion) → w.queue a b ≡ ms → AreKinds w → AreKinds (next_heard a b ms w)
  next_heard-kinds a b [] w e k = k
  next_heard-kinds a b (m ∷ rest) w e k = record { queue = queue; heard = heard; route = k.route }
    where
      here : Each (On a b) (m ∷ rest)
      here = subst (Each (On a b)) e (k.queue a b)

      turned : (P : ℕ → ℕ → Type 0) (x y : ℕ) → is a b x y ≡ true → P a b → P x y
      turned P x y t h = (let both = and_parts _ _ t in subst (λ z. P z y) (sym (eqb-true x a both.0)) (subst (P a) (sym (eqb-true y b both.1)) h))

      queue : (x y : ℕ) → Each (On x y) (if is a b x y then rest else w.queue x y)
      queue x y = elim (cases_Bool (is a b x y)) [
        | inl t ↦ subst (Each (On x y)) (sym (cond-true (is a b x y) rest (w.queue x y) t)) (turned (λ u v. Each (On u v) rest) x y t here.1)
        | inr f ↦ subst (Each (On x y)) (sym (cond-false (is a b x y) rest (w.queue x y) f)) (k.queue x y)
      ]

      heard : (x y : ℕ) → If (On x y) (if is a b x y then m else w.heard x y)
      heard x y = elim (cases_Bool (is a b x y)) [
        | inl t ↦ subst (If (On x y)) (sym (cond-true (is a b x y) m (w.heard x y) t)) (turned (λ u v. If (On u v) m) x y t here.0)
        | inr f ↦ subst (If (On x y)) (sym (cond-false (is a b x y) m (w.heard x y) f)) (k.heard x y)
      ]

  queues-kinds : (a b : ℕ) (m : Option Sent) (w : Motion) → If (On a b) m → AreKinds w → AreKinds (queues a b m w)
  queues-kinds a b m w h k = record { queue = queue; heard = k.heard; route = k.route }
    where
      turned : (P : ℕ → ℕ → Type 0) (x y : ℕ) → is a b x y ≡ true → P a b → P x y
      turned P x y t h = (let both = and_parts _ _ t in subst (λ z. P z y) (sym (eqb-true x a both.0)) (subst (P a) (sym (eqb-true y b both.1)) h))

      queue : (x y : ℕ) → Each (On x y) (if is a b x y then w.queue x y ++ m ∷ [] else w.queue x y)
      queue x y = elim (cases_Bool (is a b x y)) [
        | inl t ↦ subst (Each (On x y)) (sym (cond-true (is a b x y) (w.queue x y ++ m ∷ []) (w.queue x y) t)) (each_more (On x y) (w.queue x y) m (k.queue x y) (turned (λ u v. If (On u v) m) x y t h))
        | inr f ↦ subst (Each (On x y)) (sym (cond-false (is a b x y) (w.queue x y ++ m ∷ []) (w.queue x y) f)) (k.queue x y)
      ]

  route_is-kinds : (r : ℕ) (o : Option FullRoute) (w : Motion) → If (Held r) o → AreKinds w → AreKinds (route_is r o w)
  route_is-kinds r o w h k = record { queue = k.queue; heard = k.heard; route = route }
    where
      route : (x : ℕ) → If (Held x) (if at r x then o else w.route x)
      route x = elim (cases_Bool (at r x)) [
        | inl t ↦ subst (If (Held x)) (sym (cond-true (at r x) o (w.route x) t)) (subst (λ z. If (Held z) o) (sym (eqb-true x r t)) h)
        | inr f ↦ subst (If (Held x)) (sym (cond-false (at r x) o (w.route x) f)) (k.route x)
      ]

  -- ---- what is said

  told-kind : (a b : ℕ) (o : Option FullRoute) → If (Held a) o → (m : Sent) → told net policy config p a b o ≡ Some m → MaySend net policy config p a b m
  told-kind a b o held m e =
      let class = option_and_then_parts (λ k. option_and_then (λ (t : FullRoute). option_map (with_tag net policy config p t) (export_of net config k a b t.route.tag)) o) (class_of config p) m e in
      let t = option_and_then_parts (λ (t : FullRoute). option_map (with_tag net policy config p t) (export_of net config class.0 a b t.route.tag)) o m class.2 in
      let g = option_map_parts (with_tag net policy config p t.0) (export_of net config class.0 a b t.0.route.tag) m t.2 in
      record {
        class = class.0;
        of_class = class.1;
        of = t.0;
        held = held t.0 t.1;
        permits = g.1 ∙ ap (λ (x : Sent). Some x.tag) g.2;
        path = ap (λ (x : Sent). x.path) (sym g.2);
        behind = ap (λ (x : Sent). x.behind) (sym g.2);
      }

  say-kind : (w : Motion) (a b : ℕ) → AreKinds w → live_in net policy config p w a b ≡ true → If (On a b) (has_to_say net policy config p w a b)
  say-kind w a b k live m e = elim (cases_Bool (is_router net a)) [
    | inl t ↦
        let said = sym (cond-true (is_router net a) (told net policy config p a b (w.route a)) (option_map (announced net policy config p a) (w.says a b)) t) ∙ e in
        record { router = λ z. told-kind a b (w.route a) (k.route a) m said; peer = λ f. absurd (true≢false (sym t ∙ f)) }
    | inr f ↦
        let said = sym (cond-false (is_router net a) (told net policy config p a b (w.route a)) (option_map (announced net policy config p a) (w.says a b)) f) ∙ e in
        let x = option_map_parts (announced net policy config p a) (w.says a b) m said in
        let link : linked net a b ≡ true = (and_parts (linked net a b) _ live).0 in
        record {
          router = λ t. absurd (true≢false (sym t ∙ f));
          peer = λ z. (and_from _ _ (le-leb _ _ (ltb-false _ _ f)) (linked_known net a b rules link).0, x.0, sym x.2);
        }
  ]

  -- ---- what is chosen

  gift-kind : (w : Motion) (r u : ℕ) → AreKinds w → is_router net r ≡ true → is_origin net policy p r ≡ false → If (Held r) (gift net policy config p w r u)
  gift-kind w r u k router other t e =
      let class = option_and_then_parts (λ k. option_and_then (taken_under net config k r u) (w.heard u r)) (class_of config p) t e in
      let m = option_and_then_parts (taken_under net config class.0 r u) (w.heard u r) t class.2 in
      let on = k.heard u r m.0 m.1 in
      let who = and_from (is_router net r) _ router (not_from_false _ other) in
      elim (cases_Bool (is_router net u)) [
        | inl from ↦
            let s = on.router from in
            let same : s.class ≡ class.0 = same_Some s.class class.0 (sym s.of_class ∙ class.1) in
            let out = subst (λ (i : ℕ). export_of net config i u r s.of.route.tag ≡ Some m.0.tag) same s.permits in
            let takes : taken_under net config class.0 r u (record { path = s.of.route.path; behind = s.of.behind; tag = m.0.tag }) ≡ Some t =
            subst (λ (q : List ℕ). taken_under net config class.0 r u (record { path = q; behind = s.of.behind; tag = m.0.tag }) ≡ Some t) s.path
            (subst (λ (q : List ℕ). taken_under net config class.0 r u (record { path = m.0.path; behind = q; tag = m.0.tag }) ≡ Some t) s.behind m.2) in
            may.of_router u class.0 s.of m.0.tag who from s.held class.1 out takes
        | inr off ↦
            let x = on.peer off in
            may.of_peer u class.0 x.1 who x.0 class.1 (subst (λ (z : Sent). taken_under net config class.0 r u z ≡ Some t) x.2 m.2)
      ]

  picked-kind : (w : Motion) (r u : ℕ) → AreKinds w → is_router net r ≡ true → is_origin net policy p r ≡ false → If (Held r) (picked net policy config p w r u)
  picked-kind w r u k router other t e = elim (cases_Bool (holds_on net policy config p w r)) [
    | inl h ↦ k.route r t (sym (cond-true (holds_on net policy config p w r) (w.route r) (option_and_then (gift net policy config p w r) (giver_of net policy config p w r u)) h) ∙ e)
    | inr h ↦
        let by = option_and_then_parts (gift net policy config p w r) (giver_of net policy config p w r u) t
        (sym (cond-false (holds_on net policy config p w r) (w.route r) (option_and_then (gift net policy config p w r) (giver_of net policy config p w r u)) h) ∙ e) in
        gift-kind w r by.0 k router other t by.2
  ]

  choice-kind : (w : Motion) (r u : ℕ) → AreKinds w → If (Held r) (choice_of net policy config p w r u)
  choice-kind w r u k t e = elim (cases_Bool (is_router net r && not (w.down r))) [
    | inr off ↦ absurd (none_or_some _ t (cond-false (is_router net r && not (w.down r)) _ None off) e)
    | inl on ↦
        let router = (and_parts (is_router net r) (not (w.down r)) on).0 in
        let now = sym (cond-true (is_router net r && not (w.down r)) _ None on) ∙ e in
        elim (cases_Bool (is_origin net policy p r)) [
          | inl origin ↦
              let mine : Some (record { route = own_route net config p r; behind = [] }) ≡ Some t = sym (cond-true (is_origin net policy p r) _ (picked net policy config p w r u) origin) ∙ now in
              let same : record { route = own_route net config p r; behind = [] } ≡ t = cc in
              subst (Held r) same (may.own (and_from (is_router net r) (is_origin net policy p r) router origin))
          | inr other ↦ picked-kind w r u k router other t (sym (cond-false (is_origin net policy p r) _ (picked net policy config p w r u) other) ∙ now)
        ]
  ]

  -- ---- every move

  begun-kinds : (q : ℕ → ℕ → Bool) (w : Motion) → AreKinds w → AreKinds (begun net policy config p q w)
  begun-kinds q w k = cleared-kinds (λ a b. q a b && live_in net policy config p w a b) (λ a b. q a b && live_in net policy config p w a b) w k

  pub moved-kinds : (m : Move) (w : Motion) → AreKinds w → AreKinds (moved net policy config p m w)
  moved-kinds (move.hear a b) w k = elim (cases_Bool (live_in net policy config p w a b)) [
    | inl t ↦ subst AreKinds (sym (cond-true (live_in net policy config p w a b) (next_heard a b (w.queue a b) w) (cleared (is a b) (is a b) w) t)) (next_heard-kinds a b (w.queue a b) w refl k)
    | inr f ↦ subst AreKinds (sym (cond-false (live_in net policy config p w a b) (next_heard a b (w.queue a b) w) (cleared (is a b) (is a b) w) f)) (cleared-kinds (is a b) (is a b) w k)
  ]
  moved-kinds (move.choose r u) w k = route_is-kinds r (choice_of net policy config p w r u) w (choice-kind w r u k) k
  moved-kinds (move.send a b) w k =
      let m = has_to_say net policy config p w a b in
      let test = live_in net policy config p w a b && not (same_sent m (w.queued a b)) in
      elim (cases_Bool (live_in net policy config p w a b && not (same_sent (has_to_say net policy config p w a b) (w.queued a b)))) [
        | inl t ↦ subst AreKinds (sym (cond-true test (queues a b m w) w t)) (queues-kinds a b m w (say-kind w a b k (and_parts (live_in net policy config p w a b) _ t).0) k)
        | inr f ↦ subst AreKinds (sym (cond-false test (queues a b m w) w f)) k
      ]
  moved-kinds (move.say peer r o) w k = says_is-kinds peer r o w k
  moved-kinds (move.link_down a b) w k = cleared-kinds (joins a b) (nothing_there net policy config p) (cut_is a b true w) (cut_is-kinds a b true w k)
  moved-kinds (move.link_up a b) w k = begun-kinds (joins a b) (cut_is a b false w) (cut_is-kinds a b false w k)
  moved-kinds (move.router_down r) w k = cleared-kinds (touches r) (heard_by net policy config p r) (down_is r true w) (down_is-kinds r true w k)
  moved-kinds (move.router_up r) w k = begun-kinds (touches r) (down_is r false w) (down_is-kinds r false w k)

  pub after-kinds : (ms : List Move) (w : Motion) → AreKinds w → AreKinds (after_moves net policy config p ms w)
  after-kinds [] w k = k
  after-kinds (m ∷ ms) w k = after-kinds ms (moved net policy config p m w) (moved-kinds m w k)

  pub start-kinds : AreKinds (at_the_start net policy config p)
  start-kinds = record { queue = λ a b. tt; heard = λ a b. if_none (On a b); route = λ r. if_none (Held r) }

  pub within : (ms : List Move) → IsWithin net policy config p (after_moves net policy config p ms (at_the_start net policy config p))
  within ms =
      let k = after-kinds ms (at_the_start net policy config p) start-kinds in
      record {
        route = λ r t e. k.route r t e;
        heard = λ r b m router e. (k.heard r b m e).router router;
        waiting = λ r b i m router e. (each_at (On r b) ((after_moves net policy config p ms (at_the_start net policy config p)).queue r b) i m (k.queue r b) e).router router;
      }

pub motions_stay_within : MotionsStayWithin
motions_stay_within net policy config p ms rules = within net policy config p rules ms

pub every_motion_is_allowed : EveryMotionIsAllowed
every_motion_is_allowed net policy config cs rules kept passes p s ms prefix governs =
    let w = within net policy config p rules ms in
    let ever : IsAllowedEver net policy config p s = governed_ever net policy config cs rules kept passes p prefix s governs in
    record {
      claimed = λ r t claimed e. ever.claimed r t claimed (w.route r t e);
      transit = λ r t other e. ever.transit r t other (w.route r t e);
      heard = λ r peer m who e. ever.sent r peer m who (w.heard r peer m (and_parts (is_router net r) (is_peer net peer) who).0 e);
      waiting = λ r peer i m who e. ever.sent r peer m who (w.waiting r peer i m (and_parts (is_router net r) (is_peer net peer) who).0 e);
    }
