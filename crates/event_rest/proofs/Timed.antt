-- Lists of moves as stretches of a schedule, and rounds that are such.
use Rattle.std.proofs.Common.{◌≡◌, ℕ, zero, suc, ◌≤◌, ◌<◌, ◌+◌, true, List, [], ◌∷◌, ◌++◌, length, Some, refl, ap, ◌∙◌, inl, inr, arith}
use Rattle.std.specs.Prelude.{slice_get, if◌then◌else◌}
use Rattle.std.proofs.lemmas.Bool.{cases_Bool, cond-false, cond-true}
use Rattle.list_law.specs.Members.{IsIn}
use Rattle.list_law.proofs.Members.{IsIn-cons_cases, IsIn-nil}
use Rattle.net_base.specs.Network.{PlainNet, is_router, linked}
use Rattle.net_base.specs.Prefixes.{PlainPrefix}
use Rattle.policy_base.specs.Policies.{PlainPolicy}
use Rattle.config_base.specs.Configs.{PlainConfig}
use Rattle.motion_law.specs.Motion.{Motion, Move, Move as move, after_moves}
use Rattle.motion_law.specs.Rounds.{IsRound, Schedule, hears, is_calm, is_hear, stepped, world_at}

-- ---- lists of moves

abbrev pub AreCalm : List Move → Type 0
AreCalm [] = Unit {0}
AreCalm (m ∷ ms) = (is_calm (Some m) ≡ true) × AreCalm ms

pub calm_both : (ms ns : List Move) → AreCalm ms → AreCalm ns → AreCalm (ms ++ ns)
calm_both [] ns a b = b
calm_both (m ∷ ms) ns a b = (a.0, calm_both ms ns a.1 b)

-- how often b hears from a
abbrev pub heard_in : ℕ → ℕ → List Move → ℕ
heard_in a b [] = 0
heard_in a b (m ∷ ms) = if is_hear a b (Some m) then suc (heard_in a b ms) else heard_in a b ms

pub heard_both : (a b : ℕ) (ms ns : List Move) → heard_in a b (ms ++ ns) ≡ heard_in a b ms + heard_in a b ns
heard_both a b [] ns = omega arith
heard_both a b (m ∷ ms) ns = elim (cases_Bool (is_hear a b (Some m))) [
  | inl t ↦ rw t (let h = heard_both a b ms ns in omega (arith, h))
  | inr f ↦ rw f (heard_both a b ms ns)
]

pub heard_one : (a b : ℕ) (ms : List Move) (m : Move) → is_hear a b (Some m) ≡ true → IsIn ms m → 1 ≤ heard_in a b ms
heard_one a b [] m is at = absurd (IsIn-nil m at)
heard_one a b (x ∷ ms) m is at = elim (IsIn-cons_cases x ms m at) [
  | inl here ↦ rw (ap (λ z. is_hear a b (Some z)) here ∙ is) (omega arith)
  | inr there ↦ (
      let h = heard_one a b ms m is there in
      elim (cases_Bool (is_hear a b (Some x))) [
        | inl t ↦ rw t (omega arith)
        | inr f ↦ rw f h
      ])
]

-- ---- stretches

-- from this time on these happen, one after another
abbrev pub Follows : Schedule → ℕ → List Move → Type 0
Follows s t [] = Unit {0}
Follows s t (m ∷ ms) = (s t ≡ Some m) × Follows s (suc t) ms

-- the time after them
abbrev pub time_after : ℕ → List Move → ℕ
time_after t [] = t
time_after t (m ∷ ms) = time_after (suc t) ms

pub no_sooner : (t : ℕ) (ms : List Move) → t ≤ time_after t ms
no_sooner t [] = omega arith
no_sooner t (m ∷ ms) = (let l : suc t ≤ time_after t (m ∷ ms) = no_sooner (suc t) ms in omega (arith, l))

pub time_parts : (t : ℕ) (ms ns : List Move) → time_after t (ms ++ ns) ≡ time_after (time_after t ms) ns
time_parts t [] ns = refl
time_parts t (m ∷ ms) ns = time_parts (suc t) ms ns

pub follows_parts : (s : Schedule) (t : ℕ) (ms ns : List Move) → Follows s t (ms ++ ns) → Follows s t ms × Follows s (time_after t ms) ns
follows_parts s t [] ns f = (tt, f)
follows_parts s t (m ∷ ms) ns f = (let r = follows_parts s (suc t) ms ns f.1 in ((f.0, r.0), r.1))

-- a list is a schedule that ends
pub follows_itself : (ms : List Move) (s : Schedule) (t : ℕ) → ((i : ℕ) → s (i + t) ≡ slice_get ms i) → Follows s t ms
follows_itself [] s t is = tt
follows_itself (m ∷ ms) s t is =
    let here : t ≡ 0 + t = omega arith in
    (ap s here ∙ is 0, follows_itself ms s (suc t) (λ i. (let at : i + suc t ≡ suc i + t = omega arith in ap s at ∙ is (suc i))))

pub calm_itself : (ms : List Move) → AreCalm ms → (t : ℕ) → is_calm (slice_get ms t) ≡ true
calm_itself [] a t = refl
calm_itself (m ∷ ms) a zero = a.0
calm_itself (m ∷ ms) a (suc t) = calm_itself ms a.1 t

comes : (s : Schedule) (t : ℕ) (ms : List Move) (m : Move) → Follows s t ms → IsIn ms m → (i : ℕ) × (t ≤ i) × (i < time_after t ms) × (s i ≡ Some m)
comes s t [] m f at = absurd (IsIn-nil m at)
comes s t (x ∷ ms) m f at = elim (IsIn-cons_cases x ms m at) [
  | inl here ↦ (let l : suc t ≤ time_after t (x ∷ ms) = no_sooner (suc t) ms in (t, omega arith, omega (arith, l), f.0 ∙ ap (λ (z : Move). Some z) here))
  | inr there ↦ (let r = comes s (suc t) ms m f.1 there in let l = r.1 in (r.0, omega (arith, l), r.2, r.3))
]

hears_more : (s : Schedule) (a b t : ℕ) (ms : List Move) → Follows s t ms → hears s a b (time_after t ms) ≡ hears s a b t + heard_in a b ms
hears_more s a b t [] f = omega arith
hears_more s a b t (m ∷ ms) f =
    let r : hears s a b (time_after t (m ∷ ms)) ≡ hears s a b (suc t) + heard_in a b ms = hears_more s a b (suc t) ms f.1 in
    let now : hears s a b (suc t) ≡ (if is_hear a b (Some m) then suc (hears s a b t) else hears s a b t) = ap (λ z. if is_hear a b z then suc (hears s a b t) else hears s a b t) f.0 in
    elim (cases_Bool (is_hear a b (Some m))) [
      | inl y ↦ (
          let one : hears s a b (suc t) ≡ suc (hears s a b t) = now ∙ cond-true (is_hear a b (Some m)) (suc (hears s a b t)) (hears s a b t) y in
          let more : heard_in a b (m ∷ ms) ≡ suc (heard_in a b ms) = cond-true (is_hear a b (Some m)) (suc (heard_in a b ms)) (heard_in a b ms) y in
          omega (arith, r, one, more))
      | inr n ↦ (
          let none : hears s a b (suc t) ≡ hears s a b t = now ∙ cond-false (is_hear a b (Some m)) (suc (hears s a b t)) (hears s a b t) n in
          let more : heard_in a b (m ∷ ms) ≡ heard_in a b ms = cond-false (is_hear a b (Some m)) (suc (heard_in a b ms)) (heard_in a b ms) n in
          omega (arith, r, none, more))
    ]

module _ (net : PlainNet) (policy : PlainPolicy) (config : PlainConfig) (p : PlainPrefix) where
  abbrev So : List Move → Motion → Motion
  So = after_moves net policy config p

  pub world_so : (s : Schedule) (w : Motion) (t : ℕ) (ms : List Move) → Follows s t ms → world_at net policy config p s w (time_after t ms) ≡ So ms (world_at net policy config p s w t)
  world_so s w t [] f = refl
  world_so s w t (m ∷ ms) f = world_so s w (suc t) ms f.1 ∙ ap (λ o. So ms (stepped net policy config p o (world_at net policy config p s w t))) f.0

  -- these send over each direction, those hear over each at least once and as often as messages wait, and the last ones choose at each router
  pub record IsTurn (w : Motion) (sends quiets heards chooses : List Move) : Type 0 where
    pub sent : (a b : ℕ) → linked net a b ≡ true → IsIn sends (move.send a b)
    pub heard : (a b : ℕ) → linked net a b ≡ true → length ((So sends w).queue a b) ≤ heard_in a b quiets + heard_in a b heards
    pub once : (a b : ℕ) → linked net a b ≡ true → 1 ≤ heard_in a b quiets + heard_in a b heards
    pub chosen : (r : ℕ) → is_router net r ≡ true → (u : ℕ) × IsIn chooses (move.choose r u)

  -- so they are a round
  pub is_round : (s : Schedule) (v w : Motion) (t : ℕ) (ms ns os ps : List Move) → world_at net policy config p s v t ≡ w → Follows s t (ms ++ (ns ++ (os ++ ps))) → IsTurn w ms ns os ps
      → IsRound net policy config p s v t (time_after (time_after (time_after (time_after t ms) ns) os) ps)
  is_round s v w t ms ns os ps starts follows turn =
      let one = follows_parts s t ms (ns ++ (os ++ ps)) follows in
      let two = follows_parts s (time_after t ms) ns (os ++ ps) one.1 in
      let three = follows_parts s (time_after (time_after t ms) ns) os ps two.1 in
      let sent = time_after t ms in
      let half = time_after sent ns in
      let heard = time_after half os in
      let here = world_so s v t ms one.0 ∙ ap (So ms) starts in
      let first = no_sooner sent ns in
      let second = no_sooner half os in
      let heard_more : (a b : ℕ) → hears s a b heard ≡ hears s a b sent + (heard_in a b ns + heard_in a b os) =
      λ a b. (let x = hears_more s a b sent ns two.0 in let y = hears_more s a b half os three.0 in omega (arith, x, y)) in
      record {
        all_sent = sent;
        all_heard = heard;
        order = (no_sooner t ms, omega (arith, first, second), no_sooner heard ps);
        sends = λ a b on. comes s t ms (move.send a b) one.0 (turn.sent a b on);
        hears_all = λ a b on.
            let many = heard_more a b in
            let enough = turn.heard a b on in
            let waits = ap (λ (z : Motion). length (z.queue a b)) here in
            omega (arith, many, enough, waits);
        hears_once = λ a b on. (let many = heard_more a b in let enough = turn.once a b on in omega (arith, many, enough));
        chooses = λ r router.
            let x = turn.chosen r router in
            let c = comes s heard ps (move.choose r x.0) three.1 x.1 in
            (c.0, x.0, c.1, c.2, c.3);
      }
