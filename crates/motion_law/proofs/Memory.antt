-- The memory of a round: once all has been sent, and all that waited was heard, only what was said since is heard and waits.
use Rattle.std.proofs.Common.{◌≡◌, ℕ, ◌≤◌, ◌<◌, ◌+◌, ◌-◌, ◌⊎◌, zero, suc, Bool, true, false, cond, List, [], ◌∷◌, ◌++◌, length, Option, Some, None, refl, sym, ap, ◌∙◌, subst, inl, inr, arith}
use Rattle.std.specs.Prelude.{◌&&◌, not, ◌==◌}
use Rattle.std.specs.Str.{bytes_eq}
use Rattle.std.proofs.lemmas.Slice.Eq.{bytes_eq-Decides}
use Rattle.std.proofs.lemmas.Bool.{and_from, and_parts, eq-eqb, both_ways, cases_Bool, cases_lt, cond-true, cond-false, eqb-true, false≢true, true≢false}
use Rattle.config_base.specs.Configs.{PlainConfig}
use Rattle.config_base.specs.Lines.{same_tag}
use Rattle.config_base.proofs.SameTags.{same_tag-is}
use Rattle.net_base.specs.Network.{PlainNet, linked}
use Rattle.net_base.specs.Prefixes.{PlainPrefix}
use Rattle.policy_base.specs.Policies.{PlainPolicy}
use Rattle.event_base.specs.World.{is}
use Rattle.outcome_base.specs.Announcements.{Sent}
use Rattle.motion_law.specs.Motion.{Motion, Move, Move as move, after_moves, at_the_start, cleared, has_to_say, live_in, moved, next_heard, queues, same_sent}
use Rattle.motion_law.specs.Rounds.{Each, IsCalm, IsRound, RoundRemembers, RoundsRemember, Schedule, hears, is_calm, is_hear, stepped, world_at}
use Rattle.motion_law.proofs.Kept.{IsKept, after-kept, last_of, moved-kept, start-kept}

-- what is the same is equal
pub one_sent : (a b : Option Sent) → same_sent a b ≡ true → a ≡ b
one_sent None None h = refl
one_sent None (Some y) h = absurd (false≢true h)
one_sent (Some x) None h = absurd (false≢true h)
one_sent (Some x) (Some y) h =
    let one = and_parts (bytes_eq x.path y.path) (bytes_eq x.behind y.behind && same_tag x.tag y.tag) h in
    let two = and_parts (bytes_eq x.behind y.behind) (same_tag x.tag y.tag) one.1 in
    let path : x.path ≡ y.path = (bytes_eq-Decides x.path y.path).0 one.0 in
    let behind : x.behind ≡ y.behind = (bytes_eq-Decides x.behind y.behind).0 two.0 in
    let tag : x.tag ≡ y.tag = same_tag-is x.tag y.tag two.1 in
    ap (λ z. Some (record { path = z; behind = x.behind; tag = x.tag })) path ∙ ap (λ z. Some (record { path = y.path; behind = z; tag = x.tag })) behind
    ∙ ap (λ z. Some (record { path = y.path; behind = y.behind; tag = z })) tag

-- what holds at a time and from each time to the next
pub since : (P : ℕ → Type 0) (a : ℕ) → P a → ((t : ℕ) → a ≤ t → P t → P (suc t)) → (t : ℕ) → a ≤ t → P t
since P a base step zero l = (let e : a ≡ zero = omega (arith, l) in subst P e base)
since P a base step (suc t) l = by (cases_lt t a) (since P a base step t)
  where
    by : (t < a) ⊎ (a ≤ t) → (a ≤ t → P t) → P (suc t)
    by (inl k) before = (let e : a ≡ suc t = omega (arith, k, l) in subst P e base)
    by (inr k) before = step t k (before k)

-- one less where one more has come
abbrev pub left : Bool → ℕ → ℕ
left true zero = zero
left true (suc k) = k
left false k = k

module _ (Q : Option Sent → Type 0) where
  abbrev pub All : List (Option Sent) → Type 0
  All [] = Unit {0}
  All (m ∷ ms) = Q m × All ms

  -- but for the first k of them
  abbrev Behind : ℕ → List (Option Sent) → Type 0
  Behind zero ms = All ms
  Behind (suc k) [] = Unit {0}
  Behind (suc k) (m ∷ ms) = Behind k ms

  behind_none : (k : ℕ) → Behind k []
  behind_none zero = tt
  behind_none (suc k) = tt

  behind_one : (k : ℕ) (m : Option Sent) → Q m → Behind k (m ∷ [])
  behind_one zero m h = (h, tt)
  behind_one (suc k) m h = behind_none k

  behind_push : (k : ℕ) (ms : List (Option Sent)) (m : Option Sent) → Behind k ms → Q m → Behind k (ms ++ m ∷ [])
  behind_push zero [] m b h = (h, tt)
  behind_push zero (x ∷ ms) m b h = (b.0, behind_push zero ms m b.1 h)
  behind_push (suc k) [] m b h = behind_none k
  behind_push (suc k) (x ∷ ms) m b h = behind_push k ms m b h

  behind_next : (k : ℕ) (h m : Option Sent) (ms : List (Option Sent)) → Behind k (h ∷ m ∷ ms) → Behind (left true k) (m ∷ ms)
  behind_next zero h m ms b = b.1
  behind_next (suc k) h m ms b = b

  behind_last : (ms : List (Option Sent)) (h : Option Sent) → Q (last_of ms h) → Behind (length ms) (h ∷ ms)
  behind_last [] h e = (e, tt)
  behind_last (m ∷ ms) h e = behind_last ms m e

module _ (net : PlainNet) (policy : PlainPolicy) (config : PlainConfig) (p : PlainPrefix) where
  abbrev pub live : Motion → ℕ → ℕ → Bool
  live w a b = live_in net policy config p w a b

  abbrev go : Move → Motion → Motion
  go m w = moved net policy config p m w

  abbrev says : Motion → ℕ → ℕ → Option Sent
  says w a b = has_to_say net policy config p w a b

  abbrev step : Option Move → Motion → Motion
  step o w = stepped net policy config p o w

  -- ---- calm moves leave what lives

  heard_live : (x y : ℕ) (ms : List (Option Sent)) (w : Motion) (a b : ℕ) → live (next_heard x y ms w) a b ≡ live w a b
  heard_live x y [] w a b = refl
  heard_live x y (m ∷ rest) w a b = refl

  pub live_stepped : (o : Option Move) (w : Motion) (a b : ℕ) → is_calm o ≡ true → live (step o w) a b ≡ live w a b
  live_stepped None w a b c = refl
  live_stepped (Some (move.hear x y)) w a b c = elim (cases_Bool (live w x y)) [
    | inl t ↦ ap (λ (u : Motion). live u a b) (cond-true (live w x y) (next_heard x y (w.queue x y) w) (cleared (is x y) (is x y) w) t) ∙ heard_live x y (w.queue x y) w a b
    | inr f ↦ ap (λ (u : Motion). live u a b) (cond-false (live w x y) (next_heard x y (w.queue x y) w) (cleared (is x y) (is x y) w) f)
  ]
  live_stepped (Some (move.choose r u)) w a b c = refl
  live_stepped (Some (move.send x y)) w a b c = elim (cases_Bool (live w x y && not (same_sent (says w x y) (w.queued x y)))) [
    | inl t ↦ ap (λ (u : Motion). live u a b) (cond-true (live w x y && not (same_sent (says w x y) (w.queued x y))) (queues x y (says w x y) w) w t)
    | inr f ↦ ap (λ (u : Motion). live u a b) (cond-false (live w x y && not (same_sent (says w x y) (w.queued x y))) (queues x y (says w x y) w) w f)
  ]
  live_stepped (Some (move.say peer r o)) w a b c = absurd (false≢true c)
  live_stepped (Some (move.link_down x y)) w a b c = absurd (false≢true c)
  live_stepped (Some (move.link_up x y)) w a b c = absurd (false≢true c)
  live_stepped (Some (move.router_down r)) w a b c = absurd (false≢true c)
  live_stepped (Some (move.router_up r)) w a b c = absurd (false≢true c)

  -- ---- one direction

  pub here : (a b x y : ℕ) {A : Type 0} (f : ℕ → ℕ → A) → is x y a b ≡ true → f a b ≡ f x y
  here a b x y f t = (let both = and_parts (a == x) (b == y) t in ap (λ z. f z b) (eqb-true a x both.0) ∙ ap (f x) (eqb-true b y both.1))

  -- a live direction isn't forgotten
  pub alive_else : (a b x y : ℕ) (w : Motion) → live w a b ≡ true → live w x y ≡ false → is x y a b ≡ false
  alive_else a b x y w on off = elim (cases_Bool (is x y a b)) [
    | inl t ↦ absurd (both_ways (live w x y) off (sym (here a b x y (live w) t) ∙ on))
    | inr f ↦ f
  ]

  heard_queued : (a b x y : ℕ) (ms : List (Option Sent)) (w : Motion) → (next_heard x y ms w).queued a b ≡ w.queued a b
  heard_queued a b x y [] w = refl
  heard_queued a b x y (m ∷ rest) w = refl

  module _ (a b : ℕ) (Q : Option Sent → Type 0) where
    abbrev Fresh : ℕ → Motion → Type 0
    Fresh k w = Behind Q k (w.heard a b ∷ w.queue a b)

    -- what was last queued
    queued_pushed : (x y : ℕ) (w : Motion) → Q (says w a b) → Q (w.queued a b) → Q ((queues x y (says w x y) w).queued a b)
    queued_pushed x y w s h = elim (cases_Bool (is x y a b)) [
      | inl t ↦ subst Q (sym (cond-true (is x y a b) (says w x y) (w.queued a b) t ∙ sym (here a b x y (says w) t))) s
      | inr f ↦ subst Q (sym (cond-false (is x y a b) (says w x y) (w.queued a b) f)) h
    ]

    queued_stepped : (o : Option Move) (w : Motion) → is_calm o ≡ true → live w a b ≡ true → Q (says w a b) → Q (w.queued a b) → Q ((step o w).queued a b)
    queued_stepped None w c on s h = h
    queued_stepped (Some (move.hear x y)) w c on s h = elim (cases_Bool (live w x y)) [
      | inl t ↦ subst Q (sym (ap (λ (u : Motion). u.queued a b) (cond-true (live w x y) (next_heard x y (w.queue x y) w) (cleared (is x y) (is x y) w) t) ∙ heard_queued a b x y (w.queue x y) w)) h
      | inr f ↦
          subst Q (sym (ap (λ (u : Motion). u.queued a b) (cond-false (live w x y) (next_heard x y (w.queue x y) w) (cleared (is x y) (is x y) w) f)
          ∙ cond-false (is x y a b) None (w.queued a b) (alive_else a b x y w on f))) h
    ]
    queued_stepped (Some (move.choose r u)) w c on s h = h
    queued_stepped (Some (move.send x y)) w c on s h = elim (cases_Bool (live w x y && not (same_sent (says w x y) (w.queued x y)))) [
      | inl t ↦ subst (λ (u : Motion). Q (u.queued a b)) (sym (cond-true (live w x y && not (same_sent (says w x y) (w.queued x y))) (queues x y (says w x y) w) w t)) (queued_pushed x y w s h)
      | inr f ↦ subst (λ (u : Motion). Q (u.queued a b)) (sym (cond-false (live w x y && not (same_sent (says w x y) (w.queued x y))) (queues x y (says w x y) w) w f)) h
    ]
    queued_stepped (Some (move.say peer r o)) w c on s h = absurd (false≢true c)
    queued_stepped (Some (move.link_down x y)) w c on s h = absurd (false≢true c)
    queued_stepped (Some (move.link_up x y)) w c on s h = absurd (false≢true c)
    queued_stepped (Some (move.router_down r)) w c on s h = absurd (false≢true c)
    queued_stepped (Some (move.router_up r)) w c on s h = absurd (false≢true c)

    -- once a has sent, what was last queued is so
    queued_sent : (w : Motion) → live w a b ≡ true → Q (says w a b) → Q ((go (move.send a b) w).queued a b)
    queued_sent w on s = elim (cases_Bool (live w a b && not (same_sent (says w a b) (w.queued a b)))) [
      | inl g ↦
          subst Q (sym (ap (λ (u : Motion). u.queued a b) (cond-true (live w a b && not (same_sent (says w a b) (w.queued a b))) (queues a b (says w a b) w) w g)
          ∙ cond-true (is a b a b) (says w a b) (w.queued a b) itself)) s
      | inr g ↦
          let off : not (same_sent (says w a b) (w.queued a b)) ≡ false = sym (ap (λ (z : Bool). z && not (same_sent (says w a b) (w.queued a b))) on) ∙ g in
          let same : says w a b ≡ w.queued a b = one_sent (says w a b) (w.queued a b) (unnot (same_sent (says w a b) (w.queued a b)) off) in
          subst Q (sym (ap (λ (u : Motion). u.queued a b) (cond-false (live w a b && not (same_sent (says w a b) (w.queued a b))) (queues a b (says w a b) w) w g) ∙ sym same)) s
    ]
      where
        unnot : (z : Bool) → not z ≡ false → z ≡ true
        unnot true h = refl
        unnot false h = absurd (true≢false h)

        itself : is a b a b ≡ true
        itself = and_from (a == a) (b == b) (eq-eqb a a refl) (eq-eqb b b refl)

    -- ---- how many are old

    fresh_pushed : (k x y : ℕ) (w : Motion) → Q (says w a b) → Fresh k w → Fresh k (queues x y (says w x y) w)
    fresh_pushed k x y w s f = elim (cases_Bool (is x y a b)) [
      | inl t ↦
          subst (λ (ms : List (Option Sent)). Behind Q k (w.heard a b ∷ ms)) (sym (cond-true (is x y a b) (w.queue a b ++ says w x y ∷ []) (w.queue a b) t))
          (behind_push Q k (w.heard a b ∷ w.queue a b) (says w x y) f (subst Q (here a b x y (says w) t) s))
      | inr g ↦ subst (λ (ms : List (Option Sent)). Behind Q k (w.heard a b ∷ ms)) (sym (cond-false (is x y a b) (w.queue a b ++ says w x y ∷ []) (w.queue a b) g)) f
    ]

    fresh_heard : (k x y : ℕ) (ms : List (Option Sent)) (w : Motion) → w.queue x y ≡ ms → last_of (w.queue a b) (w.heard a b) ≡ w.queued a b → Q (w.queued a b) → Fresh k w
        → Fresh (left (is x y a b) k) (next_heard x y ms w)
    fresh_heard k x y [] w e last h f = elim (cases_Bool (is x y a b)) [
      | inr g ↦ subst (λ (c : Bool). Fresh (left c k) w) (sym g) f
      | inl t ↦
          let none : w.queue a b ≡ [] = here a b x y w.queue t ∙ e in
          let good : Q (w.heard a b) = subst Q (sym last ∙ ap (λ (ms : List (Option Sent)). last_of ms (w.heard a b)) none) h in
          subst (λ (ms : List (Option Sent)). Behind Q (left (is x y a b) k) (w.heard a b ∷ ms)) (sym none) (behind_one Q (left (is x y a b) k) (w.heard a b) good)
    ]
    fresh_heard k x y (m ∷ rest) w e last h f = elim (cases_Bool (is x y a b)) [
      | inl t ↦
          let now : w.queue a b ≡ m ∷ rest = here a b x y w.queue t ∙ e in
          rw t (behind_next Q k (w.heard a b) m rest (subst (λ (ms : List (Option Sent)). Behind Q k (w.heard a b ∷ ms)) now f))
      | inr g ↦ rw g f
    ]

    fresh_stepped : (k : ℕ) (o : Option Move) (w : Motion) → is_calm o ≡ true → live w a b ≡ true → last_of (w.queue a b) (w.heard a b) ≡ w.queued a b → Q (says w a b) → Q (w.queued a b)
        → Fresh k w → Fresh (left (is_hear a b o) k) (step o w)
    fresh_stepped k None w c on last s h f = f
    fresh_stepped k (Some (move.hear x y)) w c on last s h f = elim (cases_Bool (live w x y)) [
      | inl t ↦ subst (Fresh (left (is x y a b) k)) (sym (cond-true (live w x y) (next_heard x y (w.queue x y) w) (cleared (is x y) (is x y) w) t)) (fresh_heard k x y (w.queue x y) w refl last h f)
      | inr g ↦
          let off = alive_else a b x y w on g in
          let same : Fresh k (cleared (is x y) (is x y) w) = rw off f in
          subst (Fresh (left (is x y a b) k)) (sym (cond-false (live w x y) (next_heard x y (w.queue x y) w) (cleared (is x y) (is x y) w) g))
          (subst (λ (z : Bool). Fresh (left z k) (cleared (is x y) (is x y) w)) (sym off) same)
    ]
    fresh_stepped k (Some (move.choose r u)) w c on last s h f = f
    fresh_stepped k (Some (move.send x y)) w c on last s h f = elim (cases_Bool (live w x y && not (same_sent (says w x y) (w.queued x y)))) [
      | inl t ↦ subst (Fresh k) (sym (cond-true (live w x y && not (same_sent (says w x y) (w.queued x y))) (queues x y (says w x y) w) w t)) (fresh_pushed k x y w s f)
      | inr g ↦ subst (Fresh k) (sym (cond-false (live w x y && not (same_sent (says w x y) (w.queued x y))) (queues x y (says w x y) w) w g)) f
    ]
    fresh_stepped k (Some (move.say peer r o)) w c on last s h f = absurd (false≢true c)
    fresh_stepped k (Some (move.link_down x y)) w c on last s h f = absurd (false≢true c)
    fresh_stepped k (Some (move.link_up x y)) w c on last s h f = absurd (false≢true c)
    fresh_stepped k (Some (move.router_down r)) w c on last s h f = absurd (false≢true c)
    fresh_stepped k (Some (move.router_up r)) w c on last s h f = absurd (false≢true c)

  -- ---- a dead direction

  heard_else : (x y : ℕ) (ms : List (Option Sent)) (w : Motion) (a b : ℕ) → is x y a b ≡ false → (next_heard x y ms w).heard a b ≡ w.heard a b
  heard_else x y [] w a b f = refl
  heard_else x y (m ∷ rest) w a b f = cond-false (is x y a b) m (w.heard a b) f

  dead_heard : (x y : ℕ) (w : Motion) (a b : ℕ) → live w a b ≡ false → is x y a b ≡ true → (go (move.hear x y) w).heard a b ≡ None
  dead_heard x y w a b off t =
      let both = and_parts (a == x) (b == y) t in
      let off' : live w x y ≡ false = sym (ap (λ z. live w z b) (eqb-true a x both.0) ∙ ap (live w x) (eqb-true b y both.1)) ∙ off in
      ap (λ (u : Motion). u.heard a b) (cond-false (live w x y) (next_heard x y (w.queue x y) w) (cleared (is x y) (is x y) w) off') ∙ cond-true (is x y a b) None (w.heard a b) t

  dead_now : (o : Option Move) (w : Motion) (a b : ℕ) → live w a b ≡ false → is_hear a b o ≡ true → (step o w).heard a b ≡ None
  dead_now (Some (move.hear x y)) w a b off t = dead_heard x y w a b off t
  dead_now None w a b off t = absurd (false≢true t)
  dead_now (Some (move.choose r u)) w a b off t = absurd (false≢true t)
  dead_now (Some (move.send x y)) w a b off t = absurd (false≢true t)
  dead_now (Some (move.say peer r o)) w a b off t = absurd (false≢true t)
  dead_now (Some (move.link_down x y)) w a b off t = absurd (false≢true t)
  dead_now (Some (move.link_up x y)) w a b off t = absurd (false≢true t)
  dead_now (Some (move.router_down r)) w a b off t = absurd (false≢true t)
  dead_now (Some (move.router_up r)) w a b off t = absurd (false≢true t)

  dead_kept : (o : Option Move) (w : Motion) (a b : ℕ) → is_calm o ≡ true → live w a b ≡ false → w.heard a b ≡ None → (step o w).heard a b ≡ None
  dead_kept None w a b c off h = h
  dead_kept (Some (move.hear x y)) w a b c off h = elim (cases_Bool (is x y a b)) [
    | inl t ↦ dead_heard x y w a b off t
    | inr f ↦ elim (cases_Bool (live w x y)) [
      | inl t ↦
          ap (λ (u : Motion). u.heard a b) (cond-true (live w x y) (next_heard x y (w.queue x y) w) (cleared (is x y) (is x y) w) t) ∙ heard_else x y (w.queue x y) w a b f ∙ h
      | inr g ↦
          ap (λ (u : Motion). u.heard a b) (cond-false (live w x y) (next_heard x y (w.queue x y) w) (cleared (is x y) (is x y) w) g) ∙ cond-false (is x y a b) None (w.heard a b) f ∙ h
    ]
  ]
  dead_kept (Some (move.choose r u)) w a b c off h = h
  dead_kept (Some (move.send x y)) w a b c off h = elim (cases_Bool (live w x y && not (same_sent (says w x y) (w.queued x y)))) [
    | inl t ↦ ap (λ (u : Motion). u.heard a b) (cond-true (live w x y && not (same_sent (says w x y) (w.queued x y))) (queues x y (says w x y) w) w t) ∙ h
    | inr g ↦ ap (λ (u : Motion). u.heard a b) (cond-false (live w x y && not (same_sent (says w x y) (w.queued x y))) (queues x y (says w x y) w) w g) ∙ h
  ]
  dead_kept (Some (move.say peer r o)) w a b c off h = absurd (false≢true c)
  dead_kept (Some (move.link_down x y)) w a b c off h = absurd (false≢true c)
  dead_kept (Some (move.link_up x y)) w a b c off h = absurd (false≢true c)
  dead_kept (Some (move.router_down r)) w a b c off h = absurd (false≢true c)
  dead_kept (Some (move.router_up r)) w a b c off h = absurd (false≢true c)

  -- ---- over time

  module _ (s : Schedule) (calm : IsCalm s) (w : Motion) (kept : IsKept net policy config p w) where
    abbrev pub W : ℕ → Motion
    W t = world_at net policy config p s w t

    pub kept_at : (t : ℕ) → IsKept net policy config p (W t)
    kept_at zero = kept
    kept_at (suc t) = by (s t) (kept_at t)
      where
        by : (o : Option Move) → IsKept net policy config p (W t) → IsKept net policy config p (step o (W t))
        by None k = k
        by (Some m) k = moved-kept net policy config p m (W t) k

    pub live_at : (t a b : ℕ) → live (W t) a b ≡ live w a b
    live_at zero a b = refl
    live_at (suc t) a b = live_stepped (s t) (W t) a b (calm t) ∙ live_at t a b

    -- so many are old, so long after a time
    abbrev pub old : ℕ → ℕ → ℕ → ℕ → ℕ → ℕ
    old a b from k zero = k
    old a b from k (suc d) = left (is_hear a b (s (from + d))) (old a b from k d)

    -- with each hearing one less
    old_less : (a b from k d : ℕ) → (old a b from k d ≡ 0) ⊎ (old a b from k d + hears s a b (from + d) ≡ k + hears s a b from)
    old_less a b from k zero = (let e : from + 0 ≡ from = omega arith in inr (ap (λ i. k + hears s a b i) e))
    old_less a b from k (suc d) = by (is_hear a b (s (from + d))) refl (old a b from k d) refl (old_less a b from k d)
      where
        next : hears s a b (from + suc d) ≡ cond (is_hear a b (s (from + d))) (suc (hears s a b (from + d))) (hears s a b (from + d))
        next = (let e : from + suc d ≡ suc (from + d) = omega arith in ap (hears s a b) e)

        by : (c : Bool) → is_hear a b (s (from + d)) ≡ c → (i : ℕ) → old a b from k d ≡ i → (old a b from k d ≡ 0) ⊎ (old a b from k d + hears s a b (from + d) ≡ k + hears s a b from)
            → (old a b from k (suc d) ≡ 0) ⊎ (old a b from k (suc d) + hears s a b (from + suc d) ≡ k + hears s a b from)
        by false e i f (inl z) = inl (ap (λ c. left c (old a b from k d)) e ∙ z)
        by false e i f (inr z) =
            let n = next ∙ ap (λ c. cond c (suc (hears s a b (from + d))) (hears s a b (from + d))) e in
            let o : old a b from k (suc d) ≡ old a b from k d = ap (λ c. left c (old a b from k d)) e in
            inr (omega (arith, n, o, z))
        by true e zero f z = inl (ap (λ c. left c (old a b from k d)) e ∙ ap (left true) f)
        by true e (suc i) f (inl z) = absurd (omega (arith, f, z))
        by true e (suc i) f (inr z) =
            let n = next ∙ ap (λ c. cond c (suc (hears s a b (from + d))) (hears s a b (from + d))) e in
            let o : old a b from k (suc d) ≡ i = ap (λ c. left c (old a b from k d)) e ∙ ap (left true) f in
            inr (omega (arith, n, o, z, f))

    pub old_none : (a b from k t : ℕ) → from ≤ t → k + hears s a b from ≤ hears s a b t → old a b from k (t - from) ≡ 0
    old_none a b from k t l m = by (old_less a b from k (t - from))
      where
        e : from + (t - from) ≡ t
        e = omega (arith, l)

        by : (old a b from k (t - from) ≡ 0) ⊎ (old a b from k (t - from) + hears s a b (from + (t - from)) ≡ k + hears s a b from) → old a b from k (t - from) ≡ 0
        by (inl z) = z
        by (inr z) = (let same = ap (hears s a b) e in omega (arith, z, same, m))

    pub hears_grow : (a b from t : ℕ) → from ≤ t → hears s a b from ≤ hears s a b t
    hears_grow a b from = since (λ t. hears s a b from ≤ hears s a b t) from (omega arith) (λ t l h. by t (is_hear a b (s t)) h)
      where
        by : (t : ℕ) (c : Bool) → hears s a b from ≤ hears s a b t → hears s a b from ≤ cond c (suc (hears s a b t)) (hears s a b t)
        by t true h = omega (arith, h)
        by t false h = h

    -- where it hears more often by a time it hears in between
    heard_between : (a b from t : ℕ) → hears s a b from < hears s a b t → (i : ℕ) × (from ≤ i) × (i < t) × (is_hear a b (s i) ≡ true)
    heard_between a b from zero l = absurd (omega (arith, l))
    heard_between a b from (suc t) l = by (is_hear a b (s t)) refl (cases_lt t from) (heard_between a b from t)
      where
        by : (c : Bool) → is_hear a b (s t) ≡ c → (t < from) ⊎ (from ≤ t) → (hears s a b from < hears s a b t → (i : ℕ) × (from ≤ i) × (i < t) × (is_hear a b (s i) ≡ true))
            → (i : ℕ) × (from ≤ i) × (i < suc t) × (is_hear a b (s i) ≡ true)
        by c e (inl k) again = (let g = hears_grow a b (suc t) from (omega (arith, k)) in absurd (omega (arith, l, g)))
        by true e (inr k) again = (t, k, omega arith, e)
        by false e (inr k) again =
            let n : hears s a b (suc t) ≡ hears s a b t = ap (λ c. cond c (suc (hears s a b t)) (hears s a b t)) e in
            let a' = again (omega (arith, l, n)) in
            (a'.0, a'.1, (let m = a'.2 in omega (arith, m)), a'.3)

    module _ (start end : ℕ) (round : IsRound net policy config p s w start end) where
      -- what was last queued since all was sent, and all that is heard and waits since all was heard
      module _ (a b : ℕ) (on : live w a b ≡ true) (Q : Option Sent → Type 0) (ok : (t : ℕ) → start ≤ t → Q (says (W t) a b)) where
        link : linked net a b ≡ true
        link = (and_parts (linked net a b) _ on).0

        on_at : (t : ℕ) → live (W t) a b ≡ true
        on_at t = live_at t a b ∙ on

        pub queued_since : (t : ℕ) → round.all_sent ≤ t → Q ((W t).queued a b)
        queued_since t l =
            let x = round.sends a b link in
            let first : Q ((W (suc x.0)).queued a b) = subst (λ (o : Option Move). Q ((step o (W x.0)).queued a b)) (sym x.3) (queued_sent a b Q (W x.0) (on_at x.0) (ok x.0 x.1)) in
            since (λ i. Q ((W i).queued a b)) (suc x.0) first (λ i k h. queued_stepped a b Q (s i) (W i) (calm i) (on_at i) (ok i (let m = x.1 in omega (arith, m, k))) h) t
            (let m = x.2 in omega (arith, m, l))

        abbrev from : ℕ
        from = round.all_sent

        abbrev waiting : ℕ
        waiting = length ((W from).queue a b)

        fresh_after : (d : ℕ) → Fresh a b Q (old a b from waiting d) (W (from + d))
        fresh_after zero =
            let e : from ≡ from + 0 = omega arith in
            subst (λ i. Fresh a b Q waiting (W i)) e
            (behind_last Q ((W from).queue a b) ((W from).heard a b) (subst Q (sym ((kept_at from a b).last (on_at from))) (queued_since from (omega arith))))
        fresh_after (suc d) =
            let i = from + d in
            let e : suc i ≡ from + suc d = omega arith in
            let o = round.order in
            subst (λ j. Fresh a b Q (old a b from waiting (suc d)) (W j)) e
            (fresh_stepped a b Q (old a b from waiting d) (s i) (W i) (calm i) (on_at i) ((kept_at i a b).last (on_at i)) (ok i (omega (arith, o.0))) (queued_since i (omega arith)) (fresh_after d))

        pub fresh_since : (t : ℕ) → round.all_heard ≤ t → All Q ((W t).heard a b ∷ (W t).queue a b)
        fresh_since t l =
            let o = round.order in
            let le : from ≤ t = omega (arith, o.1, l) in
            let e : from + (t - from) ≡ t = omega (arith, le) in
            let many = round.hears_all a b link in
            let more = hears_grow a b round.all_heard t l in
            let none = old_none a b from waiting t le (omega (arith, many, more)) in
            subst (λ k. Fresh a b Q k (W t)) none (subst (λ i. Fresh a b Q (old a b from waiting (t - from)) (W i)) e (fresh_after (t - from)))

      pub dead_since : (a b : ℕ) → linked net a b ≡ true → live w a b ≡ false → (t : ℕ) → round.all_heard ≤ t → (W t).heard a b ≡ None
      dead_since a b link off t l =
          let x = heard_between a b round.all_sent round.all_heard (round.hears_once a b link) in
          since (λ i. (W i).heard a b ≡ None) (suc x.0) (dead_now (s x.0) (W x.0) a b (live_at x.0 a b ∙ off) x.3)
          (λ i k h. dead_kept (s i) (W i) a b (calm i) (live_at i a b ∙ off) h) t (let m = x.2 in omega (arith, m, l))

    pub remembers : (start end : ℕ) → IsRound net policy config p s w start end → RoundRemembers net policy config p s w start end
    remembers start end round = record {
      live = λ a b q on ok t l. each q ((W t).heard a b ∷ (W t).queue a b) (fresh_since start end round a b on (λ m. q m ≡ true) ok t (let o = round.order in omega (arith, o.2, l)));
      dead = λ a b link off t l. dead_since start end round a b link off t (let o = round.order in omega (arith, o.2, l));
    }
      where
        each : (q : Option Sent → Bool) (ms : List (Option Sent)) → All (λ m. q m ≡ true) ms → Each q ms
        each q [] h = tt
        each q (m ∷ ms) h = (h.0, each q ms h.1)

pub rounds_remember : RoundsRemember
rounds_remember net policy config p before s start end calm round =
    remembers net policy config p s calm (after_moves net policy config p before (at_the_start net policy config p))
    (after-kept net policy config p before (at_the_start net policy config p) (start-kept net policy config p)) start end round
