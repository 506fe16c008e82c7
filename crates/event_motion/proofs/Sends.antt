-- To send over some directions, one after another, is to tell them all at once.
use Rattle.std.proofs.Common.{◌≡◌, ℕ, Bool, true, false, List, [], ◌∷◌, ◌++◌, map, Option, Some, None, refl, sym, ap, ◌∙◌, subst, inl, inr}
use Rattle.std.specs.Prelude.{◌&&◌, ◌||◌, not, ◌==◌, option_map, if◌then◌else◌}
use Rattle.std.specs.Str.{bytes_eq}
use Rattle.std.specs.List.{list_any}
use Rattle.std.proofs.lemmas.Bool.{and_from, and_right, and_parts, cases_Bool, cond-true, cond-false, eqb-true}
use Rattle.std.proofs.lemmas.Slice.Eq.{bytes_eq-Decides}
use Rattle.net_base.specs.Network.{PlainNet}
use Rattle.net_base.specs.Prefixes.{PlainPrefix}
use Rattle.policy_base.specs.Policies.{PlainPolicy}
use Rattle.config_base.specs.declared.route.Route.{Route}
use Rattle.config_base.specs.Configs.{PlainConfig}
use Rattle.config_base.proofs.SameTags.{is-same_tag}
use Rattle.event_base.specs.World.{World, exported, is, owes, tell}
use Rattle.outcome_base.specs.Announcements.{Announcements, FullRoute, Sent}
use Rattle.motion_law.specs.Events.{sent_alone}
use Rattle.motion_law.specs.Motion.{Motion, Move as move, has_to_say, live_in, moved, queues, same_sent}
use Rattle.named_rest.specs.Named.{AreNamed}
use Rattle.event_motion.specs.Playing.{Corresponds, after, sends}
use Rattle.event_motion.proofs.Says.{ArePlain, S, exported_plain, owes_same, says_same}

sent_same : (a : Option Sent) → same_sent a a ≡ true
sent_same None = refl
sent_same (Some x) =
    and_from (bytes_eq x.path x.path) _ ((bytes_eq-Decides x.path x.path).1 refl)
    (and_from (bytes_eq x.behind x.behind) _ ((bytes_eq-Decides x.behind x.behind).1 refl) (is-same_tag x.tag x.tag refl))

-- a function of choices is a choice
pub apart : {A B : Type 0} (f : A → B) (b : Bool) (x y : A) → (if b then f x else f y) ≡ f (if b then x else y)
apart f true x y = refl
apart f false x y = refl

-- of two directions that are the same
pub here : {A : Type 0} (f : ℕ → ℕ → A) (a b x y : ℕ) → is a b x y ≡ true → f x y ≡ f a b
here f a b x y t = (let both = and_parts (x == a) (y == b) t in ap (λ z. f z y) (eqb-true x a both.0) ∙ ap (f a) (eqb-true y b both.1))

abbrev pub among : List (ℕ × ℕ) → ℕ → ℕ → Bool
among ds a b = list_any (λ (d : ℕ × ℕ). is d.0 d.1 a b) ds

module _ (net : PlainNet) (policy : PlainPolicy) (config : PlainConfig) (p : PlainPrefix) where
  abbrev says : Motion → ℕ → ℕ → Option Sent
  says w a b = has_to_say net policy config p w a b

  abbrev due : Motion → ℕ → ℕ → Bool
  due w a b = live_in net policy config p w a b && not (same_sent (says w a b) (w.queued a b))

  -- what is left of a world after these have sent
  record HaveSent (q : ℕ → ℕ → Bool) (w v : Motion) : Type 0 where
    down : v.down ≡ w.down
    cut : v.cut ≡ w.cut
    says_is : v.says ≡ w.says
    heard : v.heard ≡ w.heard
    route : v.route ≡ w.route
    queue : (a b : ℕ) → v.queue a b ≡ (if q a b && due w a b then w.queue a b ++ says w a b ∷ [] else w.queue a b)
    queued : (a b : ℕ) → v.queued a b ≡ (if q a b && due w a b then says w a b else w.queued a b)

  more : (x y : ℕ) (q : ℕ → ℕ → Bool) (w v : Motion) → due w x y ≡ true → HaveSent q (queues x y (says w x y) w) v → HaveSent (λ a b. is x y a b || q a b) w v
  more x y q w v owing h = record { down = h.down; cut = h.cut; says_is = h.says_is; heard = h.heard; route = h.route; queue = queue; queued = queued }
    where
      u : Motion
      u = queues x y (says w x y) w

      -- this one owes nothing then
      paid : (a b : ℕ) → is x y a b ≡ true → due u a b ≡ false
      paid a b t =
          let now : (if is x y a b then says w x y else w.queued a b) ≡ says w a b = cond-true (is x y a b) (says w x y) (w.queued a b) t ∙ sym (here (says w) x y a b t) in
          and_right (live_in net policy config p w a b) _ (ap (λ (z : Option Sent). not (same_sent (says w a b) z)) now ∙ ap not (sent_same (says w a b)))

      owing_there : (a b : ℕ) → is x y a b ≡ true → due w a b ≡ true
      owing_there a b t = here (due w) x y a b t ∙ owing

      else_same : (a b : ℕ) → is x y a b ≡ false → due u a b ≡ due w a b
      else_same a b f = ap (λ (z : Option Sent). live_in net policy config p w a b && not (same_sent (says w a b) z)) (cond-false (is x y a b) (says w x y) (w.queued a b) f)

      queue : (a b : ℕ) → v.queue a b ≡ (if (is x y a b || q a b) && due w a b then w.queue a b ++ says w a b ∷ [] else w.queue a b)
      queue a b = h.queue a b ∙ elim (cases_Bool (is x y a b)) [
        | inl t ↦
            cond-false (q a b && due u a b) (u.queue a b ++ says w a b ∷ []) (u.queue a b) (and_right (q a b) (due u a b) (paid a b t))
            ∙ cond-true (is x y a b) (w.queue a b ++ says w x y ∷ []) (w.queue a b) t
            ∙ ap (λ (m : Option Sent). w.queue a b ++ m ∷ []) (sym (here (says w) x y a b t))
            ∙ sym (cond-true ((is x y a b || q a b) && due w a b) (w.queue a b ++ says w a b ∷ []) (w.queue a b)
            (and_from (is x y a b || q a b) (due w a b) (ap (λ z. z || q a b) t) (owing_there a b t)))
        | inr f ↦ (
            let now : (if is x y a b then w.queue a b ++ says w x y ∷ [] else w.queue a b) ≡ w.queue a b = cond-false (is x y a b) (w.queue a b ++ says w x y ∷ []) (w.queue a b) f in
            ap (λ z. if q a b && z then u.queue a b ++ says w a b ∷ [] else u.queue a b) (else_same a b f)
            ∙ ap (λ (z : List (Option Sent)). if q a b && due w a b then z ++ says w a b ∷ [] else z) now
            ∙ ap (λ z. if (z || q a b) && due w a b then w.queue a b ++ says w a b ∷ [] else w.queue a b) (sym f))
      ]

      queued : (a b : ℕ) → v.queued a b ≡ (if (is x y a b || q a b) && due w a b then says w a b else w.queued a b)
      queued a b = h.queued a b ∙ elim (cases_Bool (is x y a b)) [
        | inl t ↦
            cond-false (q a b && due u a b) (says w a b) (u.queued a b) (and_right (q a b) (due u a b) (paid a b t))
            ∙ cond-true (is x y a b) (says w x y) (w.queued a b) t
            ∙ sym (here (says w) x y a b t)
            ∙ sym (cond-true ((is x y a b || q a b) && due w a b) (says w a b) (w.queued a b)
            (and_from (is x y a b || q a b) (due w a b) (ap (λ z. z || q a b) t) (owing_there a b t)))
        | inr f ↦ (
            let now : (if is x y a b then says w x y else w.queued a b) ≡ w.queued a b = cond-false (is x y a b) (says w x y) (w.queued a b) f in
            ap (λ z. if q a b && z then says w a b else u.queued a b) (else_same a b f)
            ∙ ap (λ (z : Option Sent). if q a b && due w a b then says w a b else z) now
            ∙ ap (λ z. if (z || q a b) && due w a b then says w a b else w.queued a b) (sym f))
      ]

  idle : (x y : ℕ) (q : ℕ → ℕ → Bool) (w v : Motion) → due w x y ≡ false → HaveSent q w v → HaveSent (λ a b. is x y a b || q a b) w v
  idle x y q w v none h = record {
    down = h.down;
    cut = h.cut;
    says_is = h.says_is;
    heard = h.heard;
    route = h.route;
    queue = λ a b. h.queue a b ∙ ap (λ z. if z then w.queue a b ++ says w a b ∷ [] else w.queue a b) (same a b);
    queued = λ a b. h.queued a b ∙ ap (λ z. if z then says w a b else w.queued a b) (same a b);
  }
    where
      same : (a b : ℕ) → (q a b && due w a b) ≡ ((is x y a b || q a b) && due w a b)
      same a b = elim (cases_Bool (is x y a b)) [
        | inr f ↦ ap (λ z. (z || q a b) && due w a b) (sym f)
        | inl t ↦ (
            let off : due w a b ≡ false = here (due w) x y a b t ∙ none in
            and_right (q a b) (due w a b) off ∙ sym (and_right (is x y a b || q a b) (due w a b) off))
      ]

  have_sent : (ds : List (ℕ × ℕ)) (w : Motion) → HaveSent (among ds) w (after net policy config p (sends net policy config p ds) w)
  have_sent [] w = record { down = refl; cut = refl; says_is = refl; heard = refl; route = refl; queue = λ a b. refl; queued = λ a b. refl }
  have_sent (d ∷ ds) w = elim (cases_Bool (due w d.0 d.1)) [
    | inl t ↦ (
        let u = queues d.0 d.1 (says w d.0 d.1) w in
        more d.0 d.1 (among ds) w _ t
        (subst (λ (z : Motion). HaveSent (among ds) u (after net policy config p (sends net policy config p ds) z)) (sym (cond-true (due w d.0 d.1) u w t)) (have_sent ds u)))
    | inr f ↦
        idle d.0 d.1 (among ds) w _ f
        (subst (λ (z : Motion). HaveSent (among ds) w (after net policy config p (sends net policy config p ds) z)) (sym (cond-false (due w d.0 d.1) (queues d.0 d.1 (says w d.0 d.1) w) w f)) (have_sent ds w))
  ]

  -- in the world of events all that owe something are told at once
  pub sends_tell : (ds : List (ℕ × ℕ)) (q : ℕ → ℕ → Bool) (e : World Route) (w : Motion) → Corresponds net policy config p e w → ArePlain e
      → ((a b : ℕ) → owes (S net policy config p) e a b ≡ true → q a b ≡ among ds a b)
      → Corresponds net policy config p (tell (S net policy config p) q e) (after net policy config p (sends net policy config p ds) w)
  sends_tell ds q e w c plain cover =
      let h = have_sent ds w in
      record {
        down = λ r. ap (λ (f : ℕ → Bool). f r) h.down ∙ c.down r;
        cut = λ a b. ap (λ (f : ℕ → ℕ → Bool). f a b) h.cut ∙ c.cut a b;
        says = λ a b. ap (λ (f : Announcements). f a b) h.says_is ∙ c.says a b;
        queue = λ a b.
            h.queue a b ∙ ap (λ z. if z then w.queue a b ++ says w a b ∷ [] else w.queue a b) (test a b)
            ∙ ap (λ (z : List (Option Sent)). if q a b && owes (S net policy config p) e a b then z ++ says w a b ∷ [] else z) (c.queue a b)
            ∙ ap (λ (z : Option Sent). if q a b && owes (S net policy config p) e a b then map (option_map sent_alone) (e.queue a b) ++ z ∷ [] else map (option_map sent_alone) (e.queue a b)) (says_same net policy config p e w c a b)
            ∙ ap (λ (z : List (Option Sent)). if q a b && owes (S net policy config p) e a b then z else map (option_map sent_alone) (e.queue a b)) (pushed (e.queue a b) (exported (S net policy config p) e a b))
            ∙ apart (map (option_map sent_alone)) (q a b && owes (S net policy config p) e a b) (e.queue a b ++ exported (S net policy config p) e a b ∷ []) (e.queue a b);
        heard = λ a b. ap (λ (f : ℕ → ℕ → Option Sent). f a b) h.heard ∙ c.heard a b;
        queued = λ a b.
            h.queued a b ∙ ap (λ z. if z then says w a b else w.queued a b) (test a b)
            ∙ ap (λ (z : Option Sent). if q a b && owes (S net policy config p) e a b then z else w.queued a b) (says_same net policy config p e w c a b)
            ∙ ap (λ (z : Option Sent). if q a b && owes (S net policy config p) e a b then option_map sent_alone (exported (S net policy config p) e a b) else z) (c.queued a b)
            ∙ apart (option_map sent_alone) (q a b && owes (S net policy config p) e a b) (exported (S net policy config p) e a b) (e.queued a b);
        route = λ r. ap (λ (f : ℕ → Option FullRoute). f r) h.route ∙ c.route r;
      }
    where
      pushed : (ms : List (Option Route)) (m : Option Route) → map (option_map sent_alone) ms ++ option_map sent_alone m ∷ [] ≡ map (option_map sent_alone) (ms ++ m ∷ [])
      pushed [] m = refl
      pushed (x ∷ ms) m = ap (λ (z : List (Option Sent)). option_map sent_alone x ∷ z) (pushed ms m)

      test : (a b : ℕ) → (among ds a b && due w a b) ≡ (q a b && owes (S net policy config p) e a b)
      test a b = ap (λ z. among ds a b && z) (owes_same net policy config p e w c plain a b) ∙ elim (cases_Bool (owes (S net policy config p) e a b)) [
        | inl t ↦ ap (λ z. z && owes (S net policy config p) e a b) (sym (cover a b t))
        | inr f ↦ and_right (among ds a b) _ f ∙ sym (and_right (q a b) _ f)
      ]

  pub tell-plain : (q : ℕ → ℕ → Bool) (e : World Route) → ArePlain e → ArePlain (tell (S net policy config p) q e)
  tell-plain q e plain a b m h = elim (cases_Bool (q a b && owes (S net policy config p) e a b)) [
    | inl t ↦ exported_plain net policy config p e a b m (sym (cond-true (q a b && owes (S net policy config p) e a b) (exported (S net policy config p) e a b) (e.queued a b) t) ∙ h)
    | inr f ↦ plain a b m (sym (cond-false (q a b && owes (S net policy config p) e a b) (exported (S net policy config p) e a b) (e.queued a b) f) ∙ h)
  ]

  pub sends-named : (ds : List (ℕ × ℕ)) (w : Motion) → AreNamed net policy config p (sends net policy config p ds) w
  sends-named [] w = tt
  sends-named (d ∷ ds) w = (tt, sends-named ds (moved net policy config p (move.send d.0 d.1) w))
