-- Where a direction has always the same to say it falls silent, and what fails and what peers say is the same at all times.
use Rattle.std.proofs.Common.{◌≡◌, ℕ, ◌<◌, ◌≤◌, ◌+◌, ◌-◌, zero, suc, Bool, true, false, ◌⊎◌, List, [], ◌∷◌, ◌++◌, length, Option, Some, None, refl, sym, ap, ◌∙◌, subst, inl, inr, arith}
use Rattle.std.specs.Prelude.{◌&&◌, not, if◌then◌else◌}
use Rattle.std.specs.Str.{bytes_eq}
use Rattle.std.proofs.lemmas.Bool.{and_from, and_left, and_parts, and_right, cases_Bool, cond-true, cond-false, eq-eqb, eqb-true, false≢true, or_from, true≢false}
use Rattle.std.proofs.lemmas.Slice.Eq.{bytes_eq-Decides}
use Rattle.net_base.specs.Network.{PlainNet, is_router, linked}
use Rattle.net_base.specs.Prefixes.{PlainPrefix}
use Rattle.policy_base.specs.Policies.{PlainPolicy}
use Rattle.policy_base.specs.Governing.{is_origin}
use Rattle.config_base.specs.Configs.{PlainConfig}
use Rattle.config_base.specs.Lines.{own_route}
use Rattle.config_base.proofs.SameTags.{is-same_tag}
use Rattle.event_base.specs.World.{at, is}
use Rattle.outcome_base.specs.Announcements.{Sent}
use Rattle.motion_law.specs.Motion.{Motion, Move, Move as move, choice_of, cleared, has_to_say, live_in, next_heard, picked, queues, same_sent}
use Rattle.motion_law.specs.Rounds.{IsCalm, IsRound, Schedule, is_calm, is_hear, stepped, world_at}
use Rattle.motion_law.proofs.Kept.{IsKept}
use Rattle.motion_law.proofs.Memory.{alive_else, fresh_since, hears_grow, here, left, live_at, old, old_none, queued_since, since}

sent_same : (a : Option Sent) → same_sent a a ≡ true
sent_same None = refl
sent_same (Some x) =
    and_from (bytes_eq x.path x.path) _ ((bytes_eq-Decides x.path x.path).1 refl)
    (and_from (bytes_eq x.behind x.behind) _ ((bytes_eq-Decides x.behind x.behind).1 refl) (is-same_tag x.tag x.tag refl))

-- ---- what calm moves leave

pub record SameMarks (v w : Motion) : Type 0 where
  pub down : v.down ≡ w.down
  pub cut : v.cut ≡ w.cut
  pub says : v.says ≡ w.says

same_again : (v w x : Motion) → SameMarks v w → SameMarks w x → SameMarks v x
same_again v w x a b = record { down = a.down ∙ b.down; cut = a.cut ∙ b.cut; says = a.says ∙ b.says }

module _ (net : PlainNet) (policy : PlainPolicy) (config : PlainConfig) (p : PlainPrefix) where
  abbrev step : Option Move → Motion → Motion
  step o w = stepped net policy config p o w

  abbrev says : Motion → ℕ → ℕ → Option Sent
  says w a b = has_to_say net policy config p w a b

  abbrev alive : Motion → ℕ → ℕ → Bool
  alive w a b = live_in net policy config p w a b

  marks_heard : (x y : ℕ) (ms : List (Option Sent)) (w : Motion) → SameMarks (next_heard x y ms w) w
  marks_heard x y [] w = record { down = refl; cut = refl; says = refl }
  marks_heard x y (m ∷ rest) w = record { down = refl; cut = refl; says = refl }

  marks_stepped : (o : Option Move) (w : Motion) → is_calm o ≡ true → SameMarks (step o w) w
  marks_stepped None w c = record { down = refl; cut = refl; says = refl }
  marks_stepped (Some (move.hear x y)) w c = elim (cases_Bool (alive w x y)) [
    | inl t ↦ subst (λ (v : Motion). SameMarks v w) (sym (cond-true (alive w x y) (next_heard x y (w.queue x y) w) (cleared (is x y) (is x y) w) t)) (marks_heard x y (w.queue x y) w)
    | inr f ↦ subst (λ (v : Motion). SameMarks v w) (sym (cond-false (alive w x y) (next_heard x y (w.queue x y) w) (cleared (is x y) (is x y) w) f)) (record { down = refl; cut = refl; says = refl })
  ]
  marks_stepped (Some (move.choose r u)) w c = record { down = refl; cut = refl; says = refl }
  marks_stepped (Some (move.send x y)) w c = elim (cases_Bool (alive w x y && not (same_sent (says w x y) (w.queued x y)))) [
    | inl t ↦ subst (λ (v : Motion). SameMarks v w) (sym (cond-true (alive w x y && not (same_sent (says w x y) (w.queued x y))) (queues x y (says w x y) w) w t)) (record { down = refl; cut = refl; says = refl })
    | inr f ↦ subst (λ (v : Motion). SameMarks v w) (sym (cond-false (alive w x y && not (same_sent (says w x y) (w.queued x y))) (queues x y (says w x y) w) w f)) (record { down = refl; cut = refl; says = refl })
  ]
  marks_stepped (Some (move.say peer r o)) w c = absurd (false≢true c)
  marks_stepped (Some (move.link_down x y)) w c = absurd (false≢true c)
  marks_stepped (Some (move.link_up x y)) w c = absurd (false≢true c)
  marks_stepped (Some (move.router_down r)) w c = absurd (false≢true c)
  marks_stepped (Some (move.router_up r)) w c = absurd (false≢true c)

  -- ---- who changes a route

  route_heard : (x y : ℕ) (ms : List (Option Sent)) (w : Motion) (r : ℕ) → (next_heard x y ms w).route r ≡ w.route r
  route_heard x y [] w r = refl
  route_heard x y (m ∷ rest) w r = refl

  abbrev pub Chose : Option Move → Motion → ℕ → Type 0
  Chose o w r = (u : ℕ) × (o ≡ Some (move.choose r u)) × ((step o w).route r ≡ choice_of net policy config p w r u)

  pub route_stepped : (o : Option Move) (w : Motion) (r : ℕ) → is_calm o ≡ true → ((step o w).route r ≡ w.route r) ⊎ Chose o w r
  route_stepped None w r c = inl refl
  route_stepped (Some (move.hear x y)) w r c = elim (cases_Bool (alive w x y)) [
    | inl t ↦ inl (ap (λ (v : Motion). v.route r) (cond-true (alive w x y) (next_heard x y (w.queue x y) w) (cleared (is x y) (is x y) w) t) ∙ route_heard x y (w.queue x y) w r)
    | inr f ↦ inl (ap (λ (v : Motion). v.route r) (cond-false (alive w x y) (next_heard x y (w.queue x y) w) (cleared (is x y) (is x y) w) f))
  ]
  route_stepped (Some (move.choose z u)) w r c = elim (cases_Bool (at z r)) [
    | inl t ↦ (
        let same : r ≡ z = eqb-true r z t in
        inr (u, ap (λ i. Some (move.choose i u)) (sym same), cond-true (at z r) (choice_of net policy config p w z u) (w.route r) t ∙ ap (λ i. choice_of net policy config p w i u) (sym same)))
    | inr f ↦ inl (cond-false (at z r) (choice_of net policy config p w z u) (w.route r) f)
  ]
  route_stepped (Some (move.send x y)) w r c = elim (cases_Bool (alive w x y && not (same_sent (says w x y) (w.queued x y)))) [
    | inl t ↦ inl (ap (λ (v : Motion). v.route r) (cond-true (alive w x y && not (same_sent (says w x y) (w.queued x y))) (queues x y (says w x y) w) w t))
    | inr f ↦ inl (ap (λ (v : Motion). v.route r) (cond-false (alive w x y && not (same_sent (says w x y) (w.queued x y))) (queues x y (says w x y) w) w f))
  ]
  route_stepped (Some (move.say peer z o)) w r c = absurd (false≢true c)
  route_stepped (Some (move.link_down x y)) w r c = absurd (false≢true c)
  route_stepped (Some (move.link_up x y)) w r c = absurd (false≢true c)
  route_stepped (Some (move.router_down z)) w r c = absurd (false≢true c)
  route_stepped (Some (move.router_up z)) w r c = absurd (false≢true c)

  chose : (r u : ℕ) (w : Motion) → (step (Some (move.choose r u)) w).route r ≡ choice_of net policy config p w r u
  chose r u w = cond-true (at r r) (choice_of net policy config p w r u) (w.route r) (eq-eqb r r refl)

  -- what is chosen by a router that is up
  pub chooses_own : (w : Motion) (r u : ℕ) → is_router net r ≡ true → w.down r ≡ false → is_origin net policy p r ≡ true
      → choice_of net policy config p w r u ≡ Some (record { route = own_route net config p r; behind = [] })
  chooses_own w r u router up origin =
      cond-true (is_router net r && not (w.down r)) _ None (and_from (is_router net r) _ router (ap not up))
      ∙ cond-true (is_origin net policy p r) (Some (record { route = own_route net config p r; behind = [] })) (picked net policy config p w r u) origin

  pub chooses_picked : (w : Motion) (r u : ℕ) → is_router net r ≡ true → w.down r ≡ false → is_origin net policy p r ≡ false → choice_of net policy config p w r u ≡ picked net policy config p w r u
  chooses_picked w r u router up other =
      cond-true (is_router net r && not (w.down r)) _ None (and_from (is_router net r) _ router (ap not up))
      ∙ cond-false (is_origin net policy p r) (Some (record { route = own_route net config p r; behind = [] })) (picked net policy config p w r u) other

  -- ---- over time

  module _ (s : Schedule) (calm : IsCalm s) (w : Motion) (kept : IsKept net policy config p w) where
    abbrev pub X : ℕ → Motion
    X t = world_at net policy config p s w t

    pub marks_at : (t : ℕ) → SameMarks (X t) w
    marks_at zero = record { down = refl; cut = refl; says = refl }
    marks_at (suc t) = same_again (X (suc t)) (X t) w (marks_stepped (s t) (X t) (calm t)) (marks_at t)

    -- since all routers have chosen in a round each holds what it chose at some time since all was heard
    module _ (start end : ℕ) (round : IsRound net policy config p s w start end) where
      pub record Made (t r : ℕ) : Type 0 where
        pub time : ℕ
        pub by : ℕ
        pub late : round.all_heard ≤ time
        pub past : time < t
        pub is : (X t).route r ≡ choice_of net policy config p (X time) r by

      pub made : (r : ℕ) → is_router net r ≡ true → (t : ℕ) → end ≤ t → Made t r
      made r router t l =
          let x = round.chooses r router in
          let first : Made (suc x.0) r = record {
            time = x.0;
            by = x.1;
            late = x.2;
            past = omega arith;
            is = ap (λ (o : Option Move). (step o (X x.0)).route r) x.4 ∙ chose r x.1 (X x.0);
          } in
          since (λ i. Made i r) (suc x.0) first (λ i k m. by i m (route_stepped (s i) (X i) r (calm i)) (let f = x.2 in omega (arith, f, k))) t (let e = x.3 in omega (arith, e, l))
        where
          by : (i : ℕ) → Made i r → ((X (suc i)).route r ≡ (X i).route r) ⊎ Chose (s i) (X i) r → round.all_heard ≤ i → Made (suc i) r
          by i m (inl same) k = record { time = m.time; by = m.by; late = m.late; past = (let e = m.past in omega (arith, e)); is = same ∙ m.is }
          by i m (inr c) k = record { time = i; by = c.0; late = k; past = omega arith; is = c.2 }

      -- ---- a direction on which the same is said from the start on

      module _ (a b : ℕ) (on : alive w a b ≡ true) (x : Option Sent) (same : (t : ℕ) → start ≤ t → says (X t) a b ≡ x) where
        on_at : (t : ℕ) → alive (X t) a b ≡ true
        on_at t = live_at net policy config p s calm w kept t a b ∙ on

        last_is : (t : ℕ) → round.all_sent ≤ t → (X t).queued a b ≡ x
        last_is t l = queued_since net policy config p s calm w kept start end round a b on (λ m. m ≡ x) same t l

        -- what is heard
        pub heard_is : (t : ℕ) → round.all_heard ≤ t → (X t).heard a b ≡ x
        heard_is t l = (fresh_since net policy config p s calm w kept start end round a b on (λ m. m ≡ x) same t l).0

        fewer_heard : (k x y : ℕ) (ms : List (Option Sent)) (v : Motion) → v.queue x y ≡ ms → length (v.queue a b) ≤ k → length ((next_heard x y ms v).queue a b) ≤ left (is x y a b) k
        fewer_heard k x y [] v e l = elim (cases_Bool (is x y a b)) [
          | inl t ↦ (let none : length (v.queue a b) ≡ 0 = ap length (here net policy config p a b x y v.queue t ∙ e) in omega (arith, none))
          | inr f ↦ subst (λ c. length (v.queue a b) ≤ left c k) (sym f) l
        ]
        fewer_heard k x y (m ∷ rest) v e l = elim (cases_Bool (is x y a b)) [
          | inl t ↦ (
              let now : length (v.queue a b) ≡ suc (length rest) = ap length (here net policy config p a b x y v.queue t ∙ e) in
              let is_rest : length (if is x y a b then rest else v.queue a b) ≡ length rest = ap length (cond-true (is x y a b) rest (v.queue a b) t) in
              subst (λ c. length (if is x y a b then rest else v.queue a b) ≤ left c k) (sym t) (less k (omega (arith, now, l)) is_rest))
          | inr f ↦ (
              let is_same : length (if is x y a b then rest else v.queue a b) ≡ length (v.queue a b) = ap length (cond-false (is x y a b) rest (v.queue a b) f) in
              subst (λ c. length (if is x y a b then rest else v.queue a b) ≤ left c k) (sym f) (omega (arith, is_same, l)))
        ]
          where
            less : (k : ℕ) → suc (length rest) ≤ k → length (if is x y a b then rest else v.queue a b) ≡ length rest → length (if is x y a b then rest else v.queue a b) ≤ left true k
            less zero l e = absurd (omega (arith, l))
            less (suc k) l e = omega (arith, l, e)

        fewer : (k : ℕ) (o : Option Move) (v : Motion) → is_calm o ≡ true → alive v a b ≡ true → says v a b ≡ v.queued a b → length (v.queue a b) ≤ k → length ((step o v).queue a b) ≤ left (is_hear a b o) k
        fewer k None v c on q l = l
        fewer k (Some (move.hear x y)) v c on q l = elim (cases_Bool (alive v x y)) [
          | inl t ↦
              subst (λ (u : Motion). length (u.queue a b) ≤ left (is x y a b) k) (sym (cond-true (alive v x y) (next_heard x y (v.queue x y) v) (cleared (is x y) (is x y) v) t))
              (fewer_heard k x y (v.queue x y) v refl l)
          | inr g ↦ (
              let off = alive_else net policy config p a b x y v on g in
              let still : length ((cleared (is x y) (is x y) v).queue a b) ≤ k = subst (λ (q : List (Option Sent)). length q ≤ k) (sym (cond-false (is x y a b) [] (v.queue a b) off)) l in
              subst (λ (u : Motion). length (u.queue a b) ≤ left (is x y a b) k) (sym (cond-false (alive v x y) (next_heard x y (v.queue x y) v) (cleared (is x y) (is x y) v) g))
              (subst (λ c. length ((cleared (is x y) (is x y) v).queue a b) ≤ left c k) (sym off) still))
        ]
        fewer k (Some (move.choose r u)) v c on q l = l
        fewer k (Some (move.send x y)) v c on q l = elim (cases_Bool (alive v x y && not (same_sent (says v x y) (v.queued x y)))) [
          | inr g ↦ subst (λ (u : Motion). length (u.queue a b) ≤ k) (sym (cond-false (alive v x y && not (same_sent (says v x y) (v.queued x y))) (queues x y (says v x y) v) v g)) l
          | inl t ↦ elim (cases_Bool (is x y a b)) [
            | inl i ↦ (
                let differs = (and_parts (alive v x y) _ t).1 in
                let e : says v x y ≡ v.queued x y = sym (here net policy config p a b x y (says v) i) ∙ q ∙ here net policy config p a b x y v.queued i in
                let alike : same_sent (says v x y) (v.queued x y) ≡ true = ap (same_sent (says v x y)) (sym e) ∙ sent_same (says v x y) in
                absurd (true≢false (sym differs ∙ ap not alike)))
            | inr f ↦
                subst (λ (u : Motion). length (u.queue a b) ≤ k) (sym (cond-true (alive v x y && not (same_sent (says v x y) (v.queued x y))) (queues x y (says v x y) v) v t))
                (subst (λ (ms : List (Option Sent)). length ms ≤ k) (sym (cond-false (is x y a b) (v.queue a b ++ says v x y ∷ []) (v.queue a b) f)) l)
          ]
        ]
        fewer k (Some (move.say peer z o)) v c on q l = absurd (false≢true c)
        fewer k (Some (move.link_down x y)) v c on q l = absurd (false≢true c)
        fewer k (Some (move.link_up x y)) v c on q l = absurd (false≢true c)
        fewer k (Some (move.router_down z)) v c on q l = absurd (false≢true c)
        fewer k (Some (move.router_up z)) v c on q l = absurd (false≢true c)

        abbrev from : ℕ
        from = round.all_sent

        abbrev waiting : ℕ
        waiting = length ((X from).queue a b)

        few_after : (d : ℕ) → length ((X (from + d)).queue a b) ≤ old net policy config p s calm w kept a b from waiting d
        few_after zero = (let e : from ≡ from + 0 = omega arith in subst (λ i. length ((X i).queue a b) ≤ waiting) e (omega arith))
        few_after (suc d) =
            let i = from + d in
            let e : suc i ≡ from + suc d = omega arith in
            let o = round.order in
            subst (λ j. length ((X j).queue a b) ≤ old net policy config p s calm w kept a b from waiting (suc d)) e
            (fewer (old net policy config p s calm w kept a b from waiting d) (s i) (X i) (calm i) (on_at i) (same i (omega (arith, o.0)) ∙ sym (last_is i (omega arith))) (few_after d))

        -- and nothing waits
        pub nothing_waits : (t : ℕ) → round.all_heard ≤ t → (X t).queue a b ≡ []
        nothing_waits t l =
            let o = round.order in
            let le : from ≤ t = omega (arith, o.1, l) in
            let e : from + (t - from) ≡ t = omega (arith, le) in
            let many = round.hears_all a b (and_parts (linked net a b) _ on).0 in
            let more = hears_grow net policy config p s calm w kept a b round.all_heard t l in
            let none = old_none net policy config p s calm w kept a b from waiting t le (omega (arith, many, more)) in
            let few = few_after (t - from) in
            let small : length ((X t).queue a b) ≤ 0 = subst (λ k. length ((X t).queue a b) ≤ k) none (subst (λ i. length ((X i).queue a b) ≤ old net policy config p s calm w kept a b from waiting (t - from)) e few) in
            empty ((X t).queue a b) small
          where
            empty : (ms : List (Option Sent)) → length ms ≤ 0 → ms ≡ []
            empty [] l = refl
            empty (m ∷ ms) l = absurd (omega (arith, l))

        -- ---- so once b has chosen there is no news from a

        quiet_heard : (x y : ℕ) (ms : List (Option Sent)) (v : Motion) → v.queue x y ≡ ms → v.queue a b ≡ [] → v.news a b ≡ false → (next_heard x y ms v).news a b ≡ false
        quiet_heard x y [] v e none n = n
        quiet_heard x y (m ∷ rest) v e none n = elim (cases_Bool (is x y a b)) [
          | inl t ↦ (let clash : m ∷ rest ≡ [] = sym (here net policy config p a b x y v.queue t ∙ e) ∙ none in absurd (cc))
          | inr f ↦ or_from (is x y a b) (v.news a b) f n
        ]

        quiet_stepped : (o : Option Move) (v : Motion) → is_calm o ≡ true → v.queue a b ≡ [] → v.news a b ≡ false → (step o v).news a b ≡ false
        quiet_stepped None v c none n = n
        quiet_stepped (Some (move.hear x y)) v c none n = elim (cases_Bool (alive v x y)) [
          | inl t ↦
              subst (λ (u : Motion). u.news a b ≡ false) (sym (cond-true (alive v x y) (next_heard x y (v.queue x y) v) (cleared (is x y) (is x y) v) t)) (quiet_heard x y (v.queue x y) v refl none n)
          | inr g ↦ subst (λ (u : Motion). u.news a b ≡ false) (sym (cond-false (alive v x y) (next_heard x y (v.queue x y) v) (cleared (is x y) (is x y) v) g)) n
        ]
        quiet_stepped (Some (move.choose r u)) v c none n = and_left (v.news a b) _ n
        quiet_stepped (Some (move.send x y)) v c none n = elim (cases_Bool (alive v x y && not (same_sent (says v x y) (v.queued x y)))) [
          | inl t ↦ subst (λ (u : Motion). u.news a b ≡ false) (sym (cond-true (alive v x y && not (same_sent (says v x y) (v.queued x y))) (queues x y (says v x y) v) v t)) n
          | inr g ↦ subst (λ (u : Motion). u.news a b ≡ false) (sym (cond-false (alive v x y && not (same_sent (says v x y) (v.queued x y))) (queues x y (says v x y) v) v g)) n
        ]
        quiet_stepped (Some (move.say peer z o)) v c none n = absurd (false≢true c)
        quiet_stepped (Some (move.link_down x y)) v c none n = absurd (false≢true c)
        quiet_stepped (Some (move.link_up x y)) v c none n = absurd (false≢true c)
        quiet_stepped (Some (move.router_down z)) v c none n = absurd (false≢true c)
        quiet_stepped (Some (move.router_up z)) v c none n = absurd (false≢true c)

        pub no_news : is_router net b ≡ true → (t : ℕ) → end ≤ t → (X t).news a b ≡ false
        no_news router t l =
            let c = round.chooses b router in
            let late = c.2 in
            let first : (X (suc c.0)).news a b ≡ false =
            ap (λ (o : Option Move). (step o (X c.0)).news a b) c.4 ∙ and_right ((X c.0).news a b) (not (at b b)) (ap not (eq-eqb b b refl)) in
            since (λ i. (X i).news a b ≡ false) (suc c.0) first (λ i k h. quiet_stepped (s i) (X i) (calm i) (nothing_waits i (omega (arith, late, k))) h) t (let e = c.3 in omega (arith, e, l))
