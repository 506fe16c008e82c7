-- What every move keeps: the last message of a live direction is what was last queued, and nothing waits on one that is dead.
use Rattle.std.proofs.Common.{◌≡◌, ℕ, Bool, true, false, List, [], ◌∷◌, ◌++◌, Option, None, refl, sym, ap, ◌∙◌, subst, inl, inr}
use Rattle.std.specs.Prelude.{◌&&◌, ◌||◌, not, ◌==◌, if◌then◌else◌}
use Rattle.std.proofs.lemmas.Bool.{and_from, and_left, and_parts, and_right, both_ways, cases_Bool, cond-true, cond-false, eqb-true, not-true, or_parts}
use Rattle.net_base.specs.Network.{PlainNet, linked}
use Rattle.net_base.specs.Prefixes.{PlainPrefix}
use Rattle.policy_base.specs.Policies.{PlainPolicy}
use Rattle.config_base.specs.Configs.{PlainConfig}
use Rattle.event_base.specs.World.{at, is, joins, touches}
use Rattle.outcome_base.specs.Announcements.{Sent}
use Rattle.motion_law.specs.Motion.{Motion, Move, Move as move, after_moves, at_the_start, begun, choice_of, cleared, cut_is, down_is, has_to_say, heard_by}
use Rattle.motion_law.specs.Motion.{live_in, moved, next_heard, nothing_there, queues, route_is, same_sent, says_is}

abbrev pub last_of : List (Option Sent) → Option Sent → Option Sent
last_of [] m = m
last_of (x ∷ xs) m = last_of xs x

pub last_pushed : (ms : List (Option Sent)) (h m : Option Sent) → last_of (ms ++ m ∷ []) h ≡ m
last_pushed [] h m = refl
last_pushed (x ∷ ms) h m = last_pushed ms x m

module _ (net : PlainNet) (policy : PlainPolicy) (config : PlainConfig) (p : PlainPrefix) where
  abbrev pub live : Motion → ℕ → ℕ → Bool
  live w a b = live_in net policy config p w a b

  -- of one direction
  pub record KeptAt (w : Motion) (a b : ℕ) : Type 0 where
    pub last : live w a b ≡ true → last_of (w.queue a b) (w.heard a b) ≡ w.queued a b
    pub gone : live w a b ≡ false → (w.queue a b ≡ []) × (w.queued a b ≡ None)

  abbrev pub IsKept : Motion → Type 0
  IsKept w = (a b : ℕ) → KeptAt w a b

  -- a direction on which all is as it was
  record Same (w v : Motion) (a b : ℕ) : Type 0 where
    lives : live v a b ≡ live w a b
    queue : v.queue a b ≡ w.queue a b
    heard : v.heard a b ≡ w.heard a b
    queued : v.queued a b ≡ w.queued a b

  same-kept : (w v : Motion) (a b : ℕ) → Same w v a b → KeptAt w a b → KeptAt v a b
  same-kept w v a b s k = record {
    last = λ on. ap (λ (ms : List (Option Sent)). last_of ms (v.heard a b)) s.queue ∙ ap (last_of (w.queue a b)) s.heard ∙ k.last (sym s.lives ∙ on) ∙ sym s.queued;
    gone = λ off. (let g = k.gone (sym s.lives ∙ off) in (s.queue ∙ g.0, s.queued ∙ g.1));
  }

  -- where nothing waits and nothing was queued, on a dead direction
  empty-kept : (v : Motion) (a b : ℕ) → live v a b ≡ false → v.queue a b ≡ [] → v.queued a b ≡ None → KeptAt v a b
  empty-kept v a b off e q = record { last = λ on. absurd (both_ways (live v a b) off on); gone = λ o. (e, q) }

  -- or where it begins anew
  new-kept : (v : Motion) (a b : ℕ) → v.queue a b ≡ [] → v.heard a b ≡ None → v.queued a b ≡ None → KeptAt v a b
  new-kept v a b e h q = record {
    last = λ on. ap (λ (ms : List (Option Sent)). last_of ms (v.heard a b)) e ∙ h ∙ sym q;
    gone = λ o. (e, q);
  }

  -- ---- clearing

  cleared_in : (q h : ℕ → ℕ → Bool) (w : Motion) (a b : ℕ) → q a b ≡ true → ((cleared q h w).queue a b ≡ []) × ((cleared q h w).queued a b ≡ None)
  cleared_in q h w a b t = (cond-true (q a b) [] (w.queue a b) t, cond-true (q a b) None (w.queued a b) t)

  cleared_out : (q h : ℕ → ℕ → Bool) (w : Motion) (a b : ℕ) → q a b ≡ false → h a b ≡ false → Same w (cleared q h w) a b
  cleared_out q h w a b f g = record {
    lives = refl;
    queue = cond-false (q a b) [] (w.queue a b) f;
    heard = cond-false (h a b) None (w.heard a b) g;
    queued = cond-false (q a b) None (w.queued a b) f;
  }

  -- ---- the moves

  hear-kept : (a b : ℕ) (ms : List (Option Sent)) (w : Motion) → w.queue a b ≡ ms → IsKept w → IsKept (next_heard a b ms w)
  hear-kept a b [] w e k x y = k x y
  hear-kept a b (m ∷ rest) w e k x y = elim (cases_Bool (is a b x y)) [
    | inr f ↦ same-kept w (next_heard a b (m ∷ rest) w) x y (record {
      lives = refl;
      queue = cond-false (is a b x y) rest (w.queue x y) f;
      heard = cond-false (is a b x y) m (w.heard x y) f;
      queued = refl;
    }) (k x y)
    | inl t ↦
        let both = and_parts (x == a) (y == b) t in
        let here : w.queue x y ≡ m ∷ rest = ap (λ z. w.queue z y) (eqb-true x a both.0) ∙ ap (w.queue a) (eqb-true y b both.1) ∙ e in
        record {
          last = λ on. ap (λ (ms : List (Option Sent)). last_of ms (if is a b x y then m else w.heard x y)) (cond-true (is a b x y) rest (w.queue x y) t)
              ∙ ap (last_of rest) (cond-true (is a b x y) m (w.heard x y) t)
              ∙ ap (λ (ms : List (Option Sent)). last_of ms (w.heard x y)) (sym here)
              ∙ (k x y).last on;
          gone = λ off. (let g = (k x y).gone off in let clash : m ∷ rest ≡ [] = sym here ∙ g.0 in absurd (cc));
        }
  ]

  queues-kept : (a b : ℕ) (m : Option Sent) (w : Motion) → live w a b ≡ true → IsKept w → IsKept (queues a b m w)
  queues-kept a b m w on k x y = elim (cases_Bool (is a b x y)) [
    | inr f ↦ same-kept w (queues a b m w) x y (record {
      lives = refl;
      queue = cond-false (is a b x y) (w.queue x y ++ m ∷ []) (w.queue x y) f;
      heard = refl;
      queued = cond-false (is a b x y) m (w.queued x y) f;
    }) (k x y)
    | inl t ↦
        let both = and_parts (x == a) (y == b) t in
        let alive : live w x y ≡ true = ap (λ z. live w z y) (eqb-true x a both.0) ∙ ap (live w a) (eqb-true y b both.1) ∙ on in
        record {
          last = λ o. ap (λ (ms : List (Option Sent)). last_of ms (w.heard x y)) (cond-true (is a b x y) (w.queue x y ++ m ∷ []) (w.queue x y) t)
              ∙ last_pushed (w.queue x y) (w.heard x y) m
              ∙ sym (cond-true (is a b x y) m (w.queued x y) t);
          gone = λ off. absurd (both_ways (live w x y) off alive);
        }
  ]

  -- marks under which these directions are dead, and which leave the others as they are
  down-kept : (q h : ℕ → ℕ → Bool) (w v : Motion) → ((a b : ℕ) → q a b ≡ true → live v a b ≡ false) → ((a b : ℕ) → q a b ≡ false → (h a b ≡ false) × Same w v a b) → IsKept w → IsKept (cleared q h v)
  down-kept q h w v dead others k a b = elim (cases_Bool (q a b)) [
    | inl t ↦ (let c = cleared_in q h v a b t in empty-kept (cleared q h v) a b (dead a b t) c.0 c.1)
    | inr f ↦
        let o = others a b f in
        same-kept v (cleared q h v) a b (cleared_out q h v a b f o.0) (same-kept w v a b o.1 (k a b))
  ]

  -- and those by which no direction dies, and which leave the others as they are
  up-kept : (q : ℕ → ℕ → Bool) (w v : Motion) → ((a b : ℕ) → live v a b ≡ false → live w a b ≡ false) → ((a b : ℕ) → (v.queue a b ≡ w.queue a b) × (v.queued a b ≡ w.queued a b))
      → ((a b : ℕ) → q a b ≡ false → Same w v a b) → IsKept w → IsKept (begun net policy config p q v)
  up-kept q w v less alike others k a b = elim (cases_Bool (both a b)) [
    | inl t ↦ (let c = cleared_in both both v a b t in new-kept (cleared both both v) a b c.0 (cond-true (both a b) None (v.heard a b) t) c.1)
    | inr f ↦ elim (cases_Bool (q a b)) [
      | inr out ↦ same-kept v (cleared both both v) a b (cleared_out both both v a b f f) (same-kept w v a b (others a b out) (k a b))
      | inl t ↦
          let off : live v a b ≡ false = sym (ap (λ (z : Bool). z && live v a b) t) ∙ f in
          let g = (k a b).gone (less a b off) in
          let c = cleared_out both both v a b f f in
          empty-kept (cleared both both v) a b off (c.queue ∙ (alike a b).0 ∙ g.0) (c.queued ∙ (alike a b).1 ∙ g.1)
    ]
  ]
    where
      both : ℕ → ℕ → Bool
      both x y = q x y && live v x y

  -- a cut link's directions are dead
  cut_dead : (w : Motion) (a b x y : ℕ) → joins a b x y ≡ true → live (cut_is a b true w) x y ≡ false
  cut_dead w a b x y t =
      let c : (if joins a b x y then true else w.cut x y) ≡ true = cond-true (joins a b x y) true (w.cut x y) t in
      and_right (linked net x y) _ (and_left _ _ (ap not c))

  cut_else : (w : Motion) (a b x y : ℕ) (v : Bool) → joins a b x y ≡ false → live (cut_is a b v w) x y ≡ live w x y
  cut_else w a b x y v f = ap (λ (c : Bool). linked net x y && (not c && (not (w.down x) && not (w.down y)))) (cond-false (joins a b x y) v (w.cut x y) f)

  down_dead : (w : Motion) (r x y : ℕ) → touches r x y ≡ true → live (down_is r true w) x y ≡ false
  down_dead w r x y t = elim (cases_Bool (x == r)) [
    | inl e ↦
        let c : (if at r x then true else w.down x) ≡ true = cond-true (x == r) true (w.down x) e in
        and_right (linked net x y) _ (and_right (not (w.cut x y)) _ (and_left _ _ (ap not c)))
    | inr f ↦
        let e : (y == r) ≡ true = sym (ap (λ (z : Bool). z || (y == r)) f) ∙ t in
        let c : (if at r y then true else w.down y) ≡ true = cond-true (y == r) true (w.down y) e in
        and_right (linked net x y) _ (and_right (not (w.cut x y)) _ (and_right _ _ (ap not c)))
  ]

  down_else : (w : Motion) (r x y : ℕ) (v : Bool) → touches r x y ≡ false → live (down_is r v w) x y ≡ live w x y
  down_else w r x y v f =
      let both = or_parts (x == r) (y == r) f in
      ap (λ (c : Bool). linked net x y && (not (w.cut x y) && (not c && not (if at r y then v else w.down y)))) (cond-false (x == r) v (w.down x) both.0)
      ∙ ap (λ (c : Bool). linked net x y && (not (w.cut x y) && (not (w.down x) && not c))) (cond-false (y == r) v (w.down y) both.1)

  -- by a mark that goes no direction dies
  freer : (l c d e : Bool) (c' d' e' : Bool) → (c' ≡ true → c ≡ true) → (d' ≡ true → d ≡ true) → (e' ≡ true → e ≡ true)
      → (l && (not c' && (not d' && not e'))) ≡ false → (l && (not c && (not d && not e))) ≡ false
  freer l c d e c' d' e' f g h off = elim (cases_Bool (l && (not c && (not d && not e)))) [
    | inr done ↦ done
    | inl t ↦
        let p1 = and_parts l _ t in
        let p2 = and_parts (not c) _ p1.1 in
        let p3 = and_parts (not d) (not e) p2.1 in
        let on : (l && (not c' && (not d' && not e'))) ≡ true = and_from l _ p1.0 (and_from (not c') _ (none c c' f p2.0) (and_from (not d') (not e') (none d d' g p3.0) (none e e' h p3.1))) in
        absurd (both_ways _ off on)
  ]
    where
      none : (x y : Bool) → (y ≡ true → x ≡ true) → not x ≡ true → not y ≡ true
      none x true k n = absurd (both_ways x (not-true x n) (k refl))
      none x false k n = refl

  within : (b u : Bool) → (if b then false else u) ≡ true → u ≡ true
  within true u e = absurd (cc)
  within false u e = e

  uncut_less : (w : Motion) (a b x y : ℕ) → live (cut_is a b false w) x y ≡ false → live w x y ≡ false
  uncut_less w a b x y = freer (linked net x y) (w.cut x y) (w.down x) (w.down y) (if joins a b x y then false else w.cut x y) (w.down x) (w.down y) (within (joins a b x y) (w.cut x y)) (λ e. e) (λ e. e)

  undown_less : (w : Motion) (r x y : ℕ) → live (down_is r false w) x y ≡ false → live w x y ≡ false
  undown_less w r x y = freer (linked net x y) (w.cut x y) (w.down x) (w.down y) (w.cut x y) (if at r x then false else w.down x) (if at r y then false else w.down y) (λ e. e)
      (within (at r x) (w.down x)) (within (at r y) (w.down y))

  -- ---- every move

  quiet-kept : (w v : Motion) → ((a b : ℕ) → Same w v a b) → IsKept w → IsKept v
  quiet-kept w v s k a b = same-kept w v a b (s a b) (k a b)

  cut_same : (w : Motion) (a b : ℕ) (v : Bool) (x y : ℕ) → joins a b x y ≡ false → Same w (cut_is a b v w) x y
  cut_same w a b v x y f = record { lives = cut_else w a b x y v f; queue = refl; heard = refl; queued = refl }

  down_same : (w : Motion) (r : ℕ) (v : Bool) (x y : ℕ) → touches r x y ≡ false → Same w (down_is r v w) x y
  down_same w r v x y f = record { lives = down_else w r x y v f; queue = refl; heard = refl; queued = refl }

  pub moved-kept : (m : Move) (w : Motion) → IsKept w → IsKept (moved net policy config p m w)
  moved-kept (move.hear a b) w k = elim (cases_Bool (live w a b)) [
    | inl t ↦ subst IsKept (sym (cond-true (live w a b) (next_heard a b (w.queue a b) w) (cleared (is a b) (is a b) w) t)) (hear-kept a b (w.queue a b) w refl k)
    | inr f ↦
        subst IsKept (sym (cond-false (live w a b) (next_heard a b (w.queue a b) w) (cleared (is a b) (is a b) w) f))
        (down-kept (is a b) (is a b) w w (λ x y t. dead x y t f) (λ x y g. (g, record { lives = refl; queue = refl; heard = refl; queued = refl })) k)
  ]
    where
      dead : (x y : ℕ) → is a b x y ≡ true → live w a b ≡ false → live w x y ≡ false
      dead x y t f = (let both = and_parts (x == a) (y == b) t in ap (λ z. live w z y) (eqb-true x a both.0) ∙ ap (live w a) (eqb-true y b both.1) ∙ f)
  moved-kept (move.choose r u) w k = quiet-kept w (route_is r (choice_of net policy config p w r u) w) (λ a b. record { lives = refl; queue = refl; heard = refl; queued = refl }) k
  moved-kept (move.send a b) w k =
      let m = has_to_say net policy config p w a b in
      let test = live w a b && not (same_sent m (w.queued a b)) in
      elim (cases_Bool (live w a b && not (same_sent (has_to_say net policy config p w a b) (w.queued a b)))) [
        | inl t ↦ subst IsKept (sym (cond-true test (queues a b m w) w t)) (queues-kept a b m w (and_parts (live w a b) _ t).0 k)
        | inr f ↦ subst IsKept (sym (cond-false test (queues a b m w) w f)) k
      ]
  moved-kept (move.say peer r o) w k = quiet-kept w (says_is peer r o w) (λ a b. record { lives = refl; queue = refl; heard = refl; queued = refl }) k
  moved-kept (move.link_down a b) w k = down-kept (joins a b) (nothing_there net policy config p) w (cut_is a b true w) (cut_dead w a b) (λ x y f. (refl, cut_same w a b true x y f)) k
  moved-kept (move.link_up a b) w k = up-kept (joins a b) w (cut_is a b false w) (uncut_less w a b) (λ x y. (refl, refl)) (cut_same w a b false) k
  moved-kept (move.router_down r) w k = down-kept (touches r) (heard_by net policy config p r) w (down_is r true w) (down_dead w r) (λ x y f. ((or_parts (x == r) (y == r) f).1, down_same w r true x y f)) k
  moved-kept (move.router_up r) w k = up-kept (touches r) w (down_is r false w) (undown_less w r) (λ x y. (refl, refl)) (down_same w r false) k

  pub after-kept : (ms : List Move) (w : Motion) → IsKept w → IsKept (after_moves net policy config p ms w)
  after-kept [] w k = k
  after-kept (m ∷ ms) w k = after-kept ms (moved net policy config p m w) (moved-kept m w k)

  pub start-kept : IsKept (at_the_start net policy config p)
  start-kept a b = new-kept (at_the_start net policy config p) a b refl refl refl
