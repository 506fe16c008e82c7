-- Where nobody has anything new to say, the world is at rest after one round.
use Rattle.std.proofs.Common.{◌≡◌, ℕ, ◌≤◌, zero, suc, Bool, true, false, List, [], ◌∷◌, length, Option, Some, None, refl, sym, ap, ◌∙◌, subst, inl, inr, arith}
use Rattle.std.specs.Prelude.{◌&&◌, not, slice_get}
use Rattle.std.specs.Option.{option_and_then}
use Rattle.std.proofs.lemmas.Bool.{and_parts, and_right, cases_Bool, cond-false, ltb-false, not-true}
use Rattle.std.proofs.lemmas.List.{length-map}
use Rattle.std.proofs.lemmas.Option.{same_Some}
use Rattle.list_law.proofs.Options.{cases_Option, none_or_some}
use Rattle.net_base.specs.Locations.{numbers_below}
use Rattle.net_base.specs.Network.{PlainNet, IsNet, is_router, linked}
use Rattle.net_base.specs.Prefixes.{PlainPrefix}
use Rattle.net_base.proofs.Links.{linked_flips}
use Rattle.net_base.proofs.NumbersBelow.{length-numbers_below}
use Rattle.policy_base.specs.Policies.{PlainPolicy}
use Rattle.policy_base.specs.Governing.{is_origin}
use Rattle.config_base.specs.Configs.{PlainConfig}
use Rattle.config_base.specs.Lines.{class_of, own_route}
use Rattle.outcome_base.specs.Announcements.{ChoosesUnder, FullOutcome, FullRoute, IsStableUnder, full_at, given_under, taken_under}
use Rattle.outcome_base.specs.Outcomes.{Failures, is_dead, is_live}
use Rattle.outcome_law.proofs.Inside.{given-parts}
use Rattle.motion_law.specs.Motion.{Motion, gift, has_to_say, live_in, picked}
use Rattle.motion_law.specs.Rounds.{IsCalm, IsRound, Schedule, world_at}
use Rattle.motion_law.proofs.Kept.{IsKept}
use Rattle.motion_law.proofs.Memory.{dead_since, kept_at}
use Rattle.motion_rest.proofs.Choices.{NotAfter, picked_none, picked_some, top_parts}
use Rattle.motion_rest.proofs.Match.{full_held, gift_given, live_same, says_sent}
use Rattle.motion_rest.proofs.Still.{Made, chooses_own, chooses_picked, heard_is, made, marks_at, nothing_waits}
use Rattle.motion_rest.specs.Rest.{IsAtRestIn, IsScenarioIn, full_of}

past : {A : Type 0} (xs : List A) (i : ℕ) → length xs ≤ i → slice_get xs i ≡ None
past [] i l = refl
past (x ∷ xs) zero l = absurd (omega (arith, l))
past (x ∷ xs) (suc i) l = past xs i (omega (arith, l))

-- what isn't a router has no entry
full_off : (net : PlainNet) (w : Motion) (u : ℕ) → is_router net u ≡ false → full_at (full_of net w) u ≡ None
full_off net w u off =
    let n = ltb-false u (length net.routers) off in
    let size = length-map (numbers_below (length net.routers)) w.route ∙ length-numbers_below (length net.routers) in
    ap (option_and_then (λ (o : Option FullRoute). o)) (past (full_of net w) u (omega (arith, size, n)))

module _ (net : PlainNet) (policy : PlainPolicy) (config : PlainConfig) (p : PlainPrefix) (rules : IsNet net) (f : Failures) (w : Motion) (scenario : IsScenarioIn net w f)
    (s : Schedule) (calm : IsCalm s) (keeps : IsKept net policy config p w) (start end : ℕ) (round : IsRound net policy config p s w start end)
    (same : (a b t : ℕ) → is_live net f a b ≡ true → start ≤ t
    → has_to_say net policy config p (world_at net policy config p s w t) a b ≡ has_to_say net policy config p (world_at net policy config p s w start) a b)
    (t : ℕ) (late : end ≤ t) where
  abbrev X : ℕ → Motion
  X t = world_at net policy config p s w t

  abbrev full : FullOutcome
  full = full_of net (X t)

  by_then : round.all_heard ≤ t
  by_then = (let o = round.order in omega (arith, o.2, late))

  started : start ≤ t
  started = (let o = round.order in omega (arith, o.0, o.1, o.2, late))

  alive : (now a b : ℕ) → live_in net policy config p (X now) a b ≡ is_live net f a b
  alive now a b = sym (live_same net policy config p f w scenario (X now) (marks_at net policy config p s calm w keeps now) a b)

  alive_first : (a b : ℕ) → live_in net policy config p w a b ≡ is_live net f a b
  alive_first a b = alive 0 a b

  abbrev Heard : ℕ → ℕ → ℕ → Type 0
  Heard now a b = (X now).heard a b ≡ has_to_say net policy config p (X t) a b

  heard_now : (now a b : ℕ) → round.all_heard ≤ now → is_live net f a b ≡ true → Heard now a b
  heard_now now a b l on =
      heard_is net policy config p s calm w keeps start end round a b (alive_first a b ∙ on) (has_to_say net policy config p (X start) a b) (λ i k. same a b i on k) now l ∙ sym (same a b t on started)

  quiet : (a b : ℕ) → linked net a b ≡ true → (X t).queue a b ≡ []
  quiet a b link = elim (cases_Bool (is_live net f a b)) [
    | inl on ↦ nothing_waits net policy config p s calm w keeps start end round a b (alive_first a b ∙ on) (has_to_say net policy config p (X start) a b) (λ i k. same a b i on k) t by_then
    | inr off ↦ ((kept_at net policy config p s calm w keeps t a b).gone (alive t a b ∙ off)).0
  ]

  gone : (now a b : ℕ) → round.all_heard ≤ now → linked net a b ≡ true → is_live net f a b ≡ false → (X now).heard a b ≡ None
  gone now a b l link off = dead_since net policy config p s calm w keeps start end round a b link (alive_first a b ∙ off) now l

  -- what was made of what was heard by some time in the round is what is given now
  unheard : (now u r : ℕ) → (X now).heard u r ≡ None → (k : Option ℕ) → option_and_then (λ class. option_and_then (taken_under net config class r u) ((X now).heard u r)) k ≡ None
  unheard now u r none None = refl
  unheard now u r none (Some class) = ap (option_and_then (taken_under net config class r u)) none

  dead_given : (u r : ℕ) → is_live net f u r ≡ false → given_under net config f w.says p full u r ≡ None
  dead_given u r off = rw off refl

  gift_now : (now r u : ℕ) → round.all_heard ≤ now → linked net r u ≡ true → gift net policy config p (X now) r u ≡ given_under net config f w.says p full u r
  gift_now now r u l on = elim (cases_Bool (is_live net f u r)) [
    | inl live ↦ gift_given net policy config p f w scenario (X t) (marks_at net policy config p s calm w keeps t) (X now) r u rules live (heard_now now u r l live)
    | inr off ↦ unheard now u r (gone now u r l (linked_flips net u r ∙ on) off) (class_of config p) ∙ sym (dead_given u r off)
  ]

  given_linked : (u r : ℕ) (g : FullRoute) → given_under net config f w.says p full u r ≡ Some g → linked net r u ≡ true
  given_linked u r g e =
      let live = (given-parts net policy config f w.says p full u r g e).0 in
      linked_flips net r u ∙ (and_parts _ _ (and_parts _ _ (and_parts _ _ live).0).0).0

  down_at : (now r : ℕ) → (X now).down r ≡ is_dead f r
  down_at now r = ap (λ (h : ℕ → Bool). h r) (marks_at net policy config p s calm w keeps now).down ∙ sym (scenario.dead r)

  pub made_now : (r : ℕ) → is_router net r ≡ true → Made net policy config p s calm w keeps start end round t r
  made_now r router = made net policy config p s calm w keeps start end round r router t late

  pub dead : (r : ℕ) → is_dead f r ≡ true → full_at full r ≡ None
  dead r d = elim (cases_Bool (is_router net r)) [
    | inr off ↦ full_off net (X t) r off
    | inl router ↦ (
        let m = made_now r router in
        full_held net (X t) r router ∙ m.is ∙ cond-false (is_router net r && not ((X m.time).down r)) _ None (and_right (is_router net r) _ (ap not (down_at m.time r ∙ d))))
  ]

  pub own : (r : ℕ) → (is_router net r && is_origin net policy p r && not (is_dead f r)) ≡ true → full_at full r ≡ Some (record { route = own_route net config p r; behind = [] })
  own r who =
      let a = and_parts (is_router net r && is_origin net policy p r) (not (is_dead f r)) who in
      let b = and_parts (is_router net r) (is_origin net policy p r) a.0 in
      let m = made_now r b.0 in
      full_held net (X t) r b.0 ∙ m.is ∙ chooses_own net policy config p (X m.time) r m.by b.0 (down_at m.time r ∙ not-true _ a.1) b.1

  -- the choice of a router that is up and no origin
  module _ (r : ℕ) (router : is_router net r ≡ true) (other : is_origin net policy p r ≡ false) (up : is_dead f r ≡ false) where
    abbrev pub m : Made net policy config p s calm w keeps start end round t r
    m = made_now r router

    pub picks : (X t).route r ≡ picked net policy config p (X m.time) r m.by
    picks = m.is ∙ chooses_picked net policy config p (X m.time) r m.by router (down_at m.time r ∙ up) other

    -- what it holds is given, and nothing that is given comes before it
    first : (x : FullRoute) → (X t).route r ≡ Some x → ((u : ℕ) × (given_under net config f w.says p full u r ≡ Some x)) × ((z : ℕ) (g : FullRoute) → given_under net config f w.says p full z r ≡ Some g → NotAfter x g)
    first x e =
        let top = picked_some net policy config p rules (X m.time) r m.by x (sym picks ∙ e) in
        let parts = top_parts net policy config p rules (X m.time) r top.0 top.1 in
        let same : parts.1 ≡ x = same_Some parts.1 x (sym parts.2 ∙ top.2) in (
          (top.0, sym (gift_now m.time r top.0 m.late parts.0) ∙ top.2),
          λ z g e. (let on = given_linked z r g e in subst (λ (y : FullRoute). NotAfter y g) same (parts.3 z g on (gift_now m.time r z m.late on ∙ e))),
        )

    some : (z : ℕ) (g : FullRoute) → given_under net config f w.says p full z r ≡ Some g → (x : FullRoute) × ((X t).route r ≡ Some x)
    some z g e = elim (cases_Option ((X t).route r)) [
      | inr x ↦ x
      | inl none ↦ (
          let on = given_linked z r g e in
          absurd (none_or_some (gift net policy config p (X m.time) r z) g (picked_none net policy config p rules (X m.time) r m.by (sym picks ∙ none) z on) (gift_now m.time r z m.late on ∙ e)))
    ]

    chooses : ChoosesUnder net config f w.says p full r
    chooses = record {
      given_by = λ x at. (first x (sym (full_held net (X t) r router) ∙ at)).0;
      best = λ z g e.
          let x = some z g e in
          let n = (first x.0 x.1).1 z g e in
          (x.0, full_held net (X t) r router ∙ x.1, n.higher);
    }

  stable : IsStableUnder net policy config f w.says p full
  stable = record {
    dead = dead;
    own = own;
    chooses = λ r who.
        let a = and_parts (is_router net r && not (is_origin net policy p r)) (not (is_dead f r)) who in
        let b = and_parts (is_router net r) (not (is_origin net policy p r)) a.0 in
        chooses r b.0 (not-true _ b.1) (not-true _ a.1);
  }

  pub at_rest : IsAtRestIn net policy config p f w.says (X t)
  at_rest = record {
    quiet = quiet;
    stable = stable;
    fewest = λ r u x y who at e same_pref.
        let b = and_parts (is_router net r) (not (is_origin net policy p r)) who in
        let n = (first r b.0 (not-true _ b.1) (up_of r b.0 x at) x at).1 u y e in
        n.fewer same_pref;
    heard = λ a b on.
        let link = (and_parts _ _ (and_parts _ _ (and_parts _ _ on).0).0).0 in
        heard_now t a b by_then on ∙ says_sent net policy config p f w scenario (X t) (marks_at net policy config p s calm w keeps t) a b rules link;
    gone = λ a b link off. gone t a b by_then link off;
  }
    where
      up_of : (r : ℕ) → is_router net r ≡ true → (x : FullRoute) → (X t).route r ≡ Some x → is_dead f r ≡ false
      up_of r router x at = elim (cases_Bool (is_dead f r)) [
        | inr up ↦ up
        | inl d ↦ absurd (none_or_some (full_at full r) x (dead r d) (full_held net (X t) r router ∙ at))
      ]
