-- The scenario of a world in motion, and a schedule that goes over all moves of hearing, choosing and sending for ever.
use Rattle.std.proofs.Common.{◌≡◌, ℕ, ◌≤◌, ◌+◌, zero, suc, Bool, true, false, List, [], ◌∷◌, ◌++◌, length, map, Option, Some, None, refl, sym, ap, ◌∙◌, subst, inl, inr, arith}
use Rattle.std.specs.Prelude.{◌&&◌, ◌||◌, not, ◌==◌, filter, flat_map, slice_get, unwrap_or, if◌then◌else◌}
use Rattle.std.specs.List.{list_any}
use Rattle.std.proofs.Math.Bool.{and_comm, or_comm}
use Rattle.std.proofs.lemmas.Bool.{cases_Bool, cond-true, cond-false, eq-eqb, eqb-true, ltb-true}
use Rattle.list_law.specs.Members.{IsIn}
use Rattle.list_law.proofs.Members.{IsIn-append_left, IsIn-append_right, IsIn-filter, IsIn-filter_parts, IsIn-flat_map, IsIn-later, IsIn-map}
use Rattle.list_law.proofs.Members.{list_any-from_IsIn, list_any_member}
use Rattle.list_law.proofs.Truth.{same_tests}
use Rattle.net_base.specs.Locations.{numbers_below}
use Rattle.net_base.specs.Network.{PlainNet, IsNet, is_location, linked}
use Rattle.net_base.specs.Prefixes.{PlainPrefix}
use Rattle.net_base.proofs.Links.{linked_known}
use Rattle.net_base.proofs.NumbersBelow.{In-numbers_below}
use Rattle.net_base.proofs.RoutersAndPeers.{router_known}
use Rattle.policy_base.specs.Policies.{PlainPolicy}
use Rattle.config_base.specs.declared.route.Route.{Route}
use Rattle.config_base.specs.Configs.{PlainConfig}
use Rattle.event_base.specs.World.{World, at, is, joins}
use Rattle.event_law.proofs.Scenario.{is_scenario}
use Rattle.outcome_base.specs.Announcements.{Sent}
use Rattle.outcome_base.specs.Outcomes.{Failures}
use Rattle.motion_law.specs.Motion.{Motion, Move, Move as move, after_moves, at_the_start, cleared, has_to_say, live_in, moved, next_heard, queues, same_sent}
use Rattle.motion_law.specs.Rounds.{IsCalm, Schedule, is_calm, stepped, world_at}
use Rattle.motion_rest.specs.Rest.{IsFair, IsScenarioIn, world_before}
use Rattle.named_rest.specs.Named.{IsNamed, IsNamedSchedule, lowest}
use Rattle.named_rest.specs.Scenarios.{EveryWorldHasAScenario, FairSchedulesExist}

-- ---- scenarios

joins_both : (a b x y : ℕ) → joins a b x y ≡ joins a b y x
joins_both a b x y = ap (λ z. z || is b a x y) (and_comm (x == a) (y == b)) ∙ ap (λ z. is b a y x || z) (and_comm (x == b) (y == a)) ∙ or_comm (is b a y x) (is a b y x)

-- marks that lists can say: those that are down are listed, and a link is cut both ways
record AreMarks (w : Motion) : Type 0 where
  downs : List ℕ
  listed : (l : ℕ) → w.down l ≡ true → IsIn downs l
  both : (a b : ℕ) → w.cut a b ≡ w.cut b a

same_marks : (w v : Motion) → v.down ≡ w.down → v.cut ≡ w.cut → AreMarks w → AreMarks v
same_marks w v d c k = record {
  downs = k.downs;
  listed = λ l e. k.listed l (ap (λ (h : ℕ → Bool). h l) (sym d) ∙ e);
  both = λ a b. ap (λ (h : ℕ → ℕ → Bool). h a b) c ∙ k.both a b ∙ ap (λ (h : ℕ → ℕ → Bool). h b a) (sym c);
}

module _ (net : PlainNet) (policy : PlainPolicy) (config : PlainConfig) (p : PlainPrefix) where
  heard-marks : (a b : ℕ) (ms : List (Option Sent)) (w : Motion) → AreMarks w → AreMarks (next_heard a b ms w)
  heard-marks a b [] w k = k
  heard-marks a b (m ∷ rest) w k = same_marks w (next_heard a b (m ∷ rest) w) refl refl k

  cut_both : (x y : ℕ) (v : Bool) (w : Motion) → AreMarks w → (a b : ℕ) → (if joins x y a b then v else w.cut a b) ≡ (if joins x y b a then v else w.cut b a)
  cut_both x y v w k a b = ap (λ (z : Bool). if z then v else w.cut a b) (joins_both x y a b) ∙ ap (λ (c : Bool). if joins x y b a then v else c) (k.both a b)

  moved-marks : (m : Move) (w : Motion) → AreMarks w → AreMarks (moved net policy config p m w)
  moved-marks (move.hear a b) w k = elim (cases_Bool (live_in net policy config p w a b)) [
    | inl t ↦ subst AreMarks (sym (cond-true (live_in net policy config p w a b) (next_heard a b (w.queue a b) w) (cleared (is a b) (is a b) w) t)) (heard-marks a b (w.queue a b) w k)
    | inr f ↦ subst AreMarks (sym (cond-false (live_in net policy config p w a b) (next_heard a b (w.queue a b) w) (cleared (is a b) (is a b) w) f)) (same_marks w (cleared (is a b) (is a b) w) refl refl k)
  ]
  moved-marks (move.choose r u) w k = record { downs = k.downs; listed = k.listed; both = k.both }
  moved-marks (move.send a b) w k =
      let m = has_to_say net policy config p w a b in
      let test = live_in net policy config p w a b && not (same_sent m (w.queued a b)) in
      elim (cases_Bool (live_in net policy config p w a b && not (same_sent (has_to_say net policy config p w a b) (w.queued a b)))) [
        | inl t ↦ subst AreMarks (sym (cond-true test (queues a b m w) w t)) (same_marks w (queues a b m w) refl refl k)
        | inr f ↦ subst AreMarks (sym (cond-false test (queues a b m w) w f)) k
      ]
  moved-marks (move.say peer r o) w k = record { downs = k.downs; listed = k.listed; both = k.both }
  moved-marks (move.link_down a b) w k = record { downs = k.downs; listed = k.listed; both = cut_both a b true w k }
  moved-marks (move.link_up a b) w k = record { downs = k.downs; listed = k.listed; both = cut_both a b false w k }
  moved-marks (move.router_down r) w k = record { downs = r ∷ k.downs; listed = listed; both = k.both }
    where
      listed : (l : ℕ) → (if at r l then true else w.down l) ≡ true → IsIn (r ∷ k.downs) l
      listed l e = elim (cases_Bool (at r l)) [
        | inl t ↦ subst (IsIn (r ∷ k.downs)) (sym (eqb-true l r t)) (zero, refl)
        | inr f ↦ IsIn-later r l k.downs (k.listed l (sym (cond-false (at r l) true (w.down l) f) ∙ e))
      ]
  moved-marks (move.router_up r) w k = record { downs = k.downs; listed = listed; both = k.both }
    where
      listed : (l : ℕ) → (if at r l then false else w.down l) ≡ true → IsIn k.downs l
      listed l e = elim (cases_Bool (at r l)) [
        | inl t ↦ (let clash : false ≡ true = sym (cond-true (at r l) false (w.down l) t) ∙ e in absurd (cc))
        | inr f ↦ k.listed l (sym (cond-false (at r l) false (w.down l) f) ∙ e)
      ]

  after-marks : (ms : List Move) (w : Motion) → AreMarks w → AreMarks (after_moves net policy config p ms w)
  after-marks [] w k = k
  after-marks (m ∷ ms) w k = after-marks ms (moved net policy config p m w) (moved-marks m w k)

  start-marks : AreMarks (at_the_start net policy config p)
  start-marks = record { downs = []; listed = λ l e. absurd (cc); both = λ a b. refl }

-- a world with these links cut, and nothing else
abbrev with_cuts : Motion → World Route
with_cuts w = record { down = λ r. false; cut = w.cut; silent = λ r q. false; queue = λ a b. []; heard = λ a b. None; queued = λ a b. None; route = λ r. None }

scenario_in : (net : PlainNet) (w : Motion) → AreMarks w → (f : Failures) × IsScenarioIn net w f
scenario_in net w k = (
  record { dead = filter w.down k.downs; dead_links = filter (λ (l : ℕ × ℕ). w.cut l.0 l.1) net.links; silent = [] },
  record { dead = dead; links = λ a b on. (is_scenario net (with_cuts w) k.both (λ r e. absurd (cc))).links a b on; silent = λ r q. refl },
)
  where
    dead : (l : ℕ) → list_any (λ d. d == l) (filter w.down k.downs) ≡ w.down l
    dead l = same_tests (list_any (λ d. d == l) (filter w.down k.downs)) (w.down l)
        (λ h. (
        let m = list_any_member (λ d. d == l) (filter w.down k.downs) h in
        ap w.down (sym (eqb-true m.0 l m.2)) ∙ (IsIn-filter_parts w.down k.downs m.0 m.1).1))
        (λ h. list_any-from_IsIn (λ d. d == l) (filter w.down k.downs) l (IsIn-filter w.down k.downs l (k.listed l h) h) (eq-eqb l l refl))

pub every_world_has_a_scenario : EveryWorldHasAScenario
every_world_has_a_scenario net policy config p before =
    let start = at_the_start net policy config p in
    scenario_in net (world_before net policy config p before) (after-marks net policy config p before start (start-marks net policy config p))

-- ---- schedules

module _ (net : PlainNet) (policy : PlainPolicy) (config : PlainConfig) (p : PlainPrefix) (rules : IsNet net) (w : Motion) where
  abbrev all : List ℕ
  all = numbers_below (length net.routers + length net.peers)

  abbrev over : ℕ → ℕ → List Move
  over a b = move.send a b ∷ move.hear a b ∷ []

  abbrev from : ℕ → List Move
  from a = flat_map (over a) all

  abbrev own_choice : ℕ → Move
  own_choice r = move.choose r r

  -- one after another
  abbrev turns : List Move
  turns = flat_map from all ++ map own_choice all

  -- and then all again
  abbrev next : List Move → List Move
  next [] = turns
  next (m ∷ ms) = ms

  abbrev left_at : ℕ → List Move
  left_at zero = turns
  left_at (suc t) = next (left_at t)

  -- a choice names the lowest
  abbrev by_name : List Move → Motion → Option Move
  by_name [] v = None
  by_name (move.choose r u ∷ ms) v = Some (move.choose r (unwrap_or (lowest net policy config p v r) r))
  by_name (move.hear a b ∷ ms) v = Some (move.hear a b)
  by_name (move.send a b ∷ ms) v = Some (move.send a b)
  by_name (move.say peer r o ∷ ms) v = None
  by_name (move.link_down a b ∷ ms) v = None
  by_name (move.link_up a b ∷ ms) v = None
  by_name (move.router_down r ∷ ms) v = None
  by_name (move.router_up r ∷ ms) v = None

  abbrev X : ℕ → Motion
  X zero = w
  X (suc t) = stepped net policy config p (by_name (left_at t) (X t)) (X t)

  abbrev s : Schedule
  s t = by_name (left_at t) (X t)

  same_world : (t : ℕ) → world_at net policy config p s w t ≡ X t
  same_world zero = refl
  same_world (suc t) = ap (stepped net policy config p (s t)) (same_world t)

  calm_name : (ms : List Move) (v : Motion) → is_calm (by_name ms v) ≡ true
  calm_name [] v = refl
  calm_name (move.choose r u ∷ ms) v = refl
  calm_name (move.hear a b ∷ ms) v = refl
  calm_name (move.send a b ∷ ms) v = refl
  calm_name (move.say peer r o ∷ ms) v = refl
  calm_name (move.link_down a b ∷ ms) v = refl
  calm_name (move.link_up a b ∷ ms) v = refl
  calm_name (move.router_down r ∷ ms) v = refl
  calm_name (move.router_up r ∷ ms) v = refl

  is_named : (ms : List Move) (v : Motion) → IsNamed net policy config p (by_name ms v) v
  is_named [] v = tt
  is_named (move.choose r u ∷ ms) v = λ z e. ap (λ (o : Option ℕ). unwrap_or o r) e
  is_named (move.hear a b ∷ ms) v = tt
  is_named (move.send a b ∷ ms) v = tt
  is_named (move.say peer r o ∷ ms) v = tt
  is_named (move.link_down a b ∷ ms) v = tt
  is_named (move.link_up a b ∷ ms) v = tt
  is_named (move.router_down r ∷ ms) v = tt
  is_named (move.router_up r ∷ ms) v = tt

  -- ---- each turn comes again

  runs_out : (ms : List Move) (t : ℕ) → left_at t ≡ ms → left_at (t + length ms) ≡ []
  runs_out [] t e = (let at : t + 0 ≡ t = omega arith in ap left_at at ∙ e)
  runs_out (m ∷ ms) t e = (let at : t + suc (length ms) ≡ suc t + length ms = omega arith in ap left_at at ∙ runs_out ms (suc t) (ap next e))

  reaches : (ms : List Move) (i t : ℕ) (m : Move) → left_at t ≡ ms → slice_get ms i ≡ Some m → (rest : List Move) × (left_at (t + i) ≡ m ∷ rest)
  reaches [] i t m e g = absurd (cc)
  reaches (x ∷ ms) zero t m e g = (let same : x ≡ m = cc in let at : t + zero ≡ t = omega arith in (ms, ap left_at at ∙ e ∙ ap (λ z. z ∷ ms) same))
  reaches (x ∷ ms) (suc i) t m e g =
      let r = reaches ms i (suc t) m (ap next e) g in
      let at : t + suc i ≡ suc t + i = omega arith in
      (r.0, ap left_at at ∙ r.1)

  comes : (m : Move) → IsIn turns m → (t : ℕ) → (i : ℕ) × (rest : List Move) × (t ≤ i) × (left_at i ≡ m ∷ rest)
  comes m at t =
      let out = runs_out (left_at t) t refl in
      let r = reaches turns at.0 (suc (t + length (left_at t))) m (ap next out) at.1 in
      (suc (t + length (left_at t)) + at.0, r.0, omega arith, r.1)

  at_all : (l : ℕ) → is_location net l ≡ true → IsIn all l
  at_all l k = In-numbers_below l (length net.routers + length net.peers) (ltb-true l (length net.routers + length net.peers) k)

  of_way : (a b : ℕ) (m : Move) → linked net a b ≡ true → IsIn (over a b) m → IsIn turns m
  of_way a b m on at =
      let k = linked_known net a b rules on in
      IsIn-append_left (flat_map from all) (map own_choice all) m (IsIn-flat_map from all a m (at_all a k.0) (IsIn-flat_map (over a) all b m (at_all b k.1) at))

  fair : IsFair net s
  fair = record {
    sends = λ a b t on. (let c = comes (move.send a b) (of_way a b (move.send a b) on (0, refl)) t in (c.0, c.2, ap (λ (ms : List Move). by_name ms (X c.0)) c.3));
    hears = λ a b t on. (let c = comes (move.hear a b) (of_way a b (move.hear a b) on (1, refl)) t in (c.0, c.2, ap (λ (ms : List Move). by_name ms (X c.0)) c.3));
    chooses = λ r t router.
        let c = comes (move.choose r r) (IsIn-append_right (flat_map from all) (map own_choice all) (move.choose r r) (IsIn-map own_choice all r (at_all r (router_known net r router)))) t in
        (c.0, unwrap_or (lowest net policy config p (X c.0) r) r, c.2, ap (λ (ms : List Move). by_name ms (X c.0)) c.3);
  }

  pub schedule : (s : Schedule) × IsCalm s × IsFair net s × IsNamedSchedule net policy config p s w
  schedule = (s, (λ t. calm_name (left_at t) (X t)), fair, λ t. subst (IsNamed net policy config p (s t)) (sym (same_world t)) (is_named (left_at t) (X t)))

pub fair_schedules_exist : FairSchedulesExist
fair_schedules_exist net policy config p w rules = schedule net policy config p rules w
