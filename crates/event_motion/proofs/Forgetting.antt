-- Directions that are dead, and what is left once their ends hear it.
use Rattle.std.proofs.Common.{◌≡◌, ℕ, Bool, true, false, List, [], ◌∷◌, None, refl, sym, ap, ◌∙◌, subst, inl, inr}
use Rattle.std.specs.Prelude.{◌&&◌, ◌||◌, not, ◌==◌, if◌then◌else◌}
use Rattle.std.proofs.lemmas.Bool.{and_from, and_left, and_right, cond-false, eq-eqb, eqb-true, or_cases, or_left, or_right}
use Rattle.list_law.proofs.Truth.{or_failed}
use Rattle.net_base.specs.Network.{PlainNet, linked}
use Rattle.net_base.specs.Prefixes.{PlainPrefix}
use Rattle.policy_base.specs.Policies.{PlainPolicy}
use Rattle.config_base.specs.Configs.{PlainConfig}
use Rattle.event_base.specs.World.{is, joins, touches}
use Rattle.motion_law.specs.Motion.{Motion, Move as move, cleared, live_in, moved, next_heard}
use Rattle.named_rest.specs.Named.{AreNamed}
use Rattle.event_motion.specs.Playing.{after, hears}
use Rattle.event_motion.proofs.Sends.{among}

-- what a direction that is left out, or left out before, comes to
either_out : {A : Type 0} (i j : Bool) (n x : A) → (if j then n else (if i then n else x)) ≡ (if i || j then n else x)
either_out true true n x = refl
either_out true false n x = refl
either_out false true n x = refl
either_out false false n x = refl

-- the two ways of a link
pub both_ways_of : (a b x y : ℕ) → joins a b x y ≡ among ((a, b) ∷ (b, a) ∷ []) x y
both_ways_of a b x y = ap (λ z. is a b x y || z) (sym (or_failed (is b a x y) false refl))

pub cut_dead : (l c d : Bool) → c ≡ true → (l && (not c && d)) ≡ false
cut_dead true true d e = refl
cut_dead true false d e = absurd (cc)
cut_dead false c d e = refl

-- a direction from or to one that is down is dead
pub down_dead : (r x y : ℕ) (linked cut : Bool) (down : ℕ → Bool) → down r ≡ true → touches r x y ≡ true → (linked && (not cut && (not (down x) && not (down y)))) ≡ false
down_dead r x y linked cut down h t = and_right linked _ (and_right (not cut) _ (elim (or_cases (x == r) (y == r) t) [
  | inl e ↦ and_left _ _ (ap not (ap down (eqb-true x r e) ∙ h))
  | inr e ↦ and_right (not (down x)) _ (ap not (ap down (eqb-true y r e) ∙ h))
]))

-- what is left after the second has heard on these directions that the session is gone
pub record HaveForgot (q : ℕ → ℕ → Bool) (w v : Motion) : Type 0 where
  pub down : v.down ≡ w.down
  pub cut : v.cut ≡ w.cut
  pub says : v.says ≡ w.says
  pub route : v.route ≡ w.route
  pub queue : (a b : ℕ) → v.queue a b ≡ (if q a b then [] else w.queue a b)
  pub heard : (a b : ℕ) → v.heard a b ≡ (if q a b then None else w.heard a b)
  pub queued : (a b : ℕ) → v.queued a b ≡ (if q a b then None else w.queued a b)

module _ (net : PlainNet) (policy : PlainPolicy) (config : PlainConfig) (p : PlainPrefix) where
  pub have_forgot : (ds : List (ℕ × ℕ)) (w : Motion) → ((a b : ℕ) → among ds a b ≡ true → live_in net policy config p w a b ≡ false) → HaveForgot (among ds) w (after net policy config p (hears net policy config p ds) w)
  have_forgot [] w dead = record { down = refl; cut = refl; says = refl; route = refl; queue = λ a b. refl; heard = λ a b. refl; queued = λ a b. refl }
  have_forgot (d ∷ ds) w dead =
      let u = cleared (is d.0 d.1) (is d.0 d.1) w in
      let first : is d.0 d.1 d.0 d.1 ≡ true = and_from (d.0 == d.0) (d.1 == d.1) (eq-eqb d.0 d.0 refl) (eq-eqb d.1 d.1 refl) in
      let off = dead d.0 d.1 (or_left (is d.0 d.1 d.0 d.1) (among ds d.0 d.1) first) in
      subst (λ (z : Motion). HaveForgot (λ a b. is d.0 d.1 a b || among ds a b) w (after net policy config p (hears net policy config p ds) z)) (sym (cond-false (live_in net policy config p w d.0 d.1) (next_heard d.0 d.1 (w.queue d.0 d.1) w) u off))
      (by u _ (have_forgot ds u (λ a b t. dead a b (or_right (is d.0 d.1 a b) (among ds a b) t))))
    where
      by : (u v : Motion) → HaveForgot (among ds) (cleared (is d.0 d.1) (is d.0 d.1) w) v → HaveForgot (λ a b. is d.0 d.1 a b || among ds a b) w v
      by u v h = record {
        down = h.down;
        cut = h.cut;
        says = h.says;
        route = h.route;
        queue = λ a b. h.queue a b ∙ either_out (is d.0 d.1 a b) (among ds a b) [] (w.queue a b);
        heard = λ a b. h.heard a b ∙ either_out (is d.0 d.1 a b) (among ds a b) None (w.heard a b);
        queued = λ a b. h.queued a b ∙ either_out (is d.0 d.1 a b) (among ds a b) None (w.queued a b);
      }

  pub hears-named : (ds : List (ℕ × ℕ)) (w : Motion) → AreNamed net policy config p (hears net policy config p ds) w
  hears-named [] w = tt
  hears-named (d ∷ ds) w = (tt, hears-named ds (moved net policy config p (move.hear d.0 d.1) w))
